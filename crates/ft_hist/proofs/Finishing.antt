-- What a task has finished, counted by its items, is what its plain run has done.
use Rattle.std.proofs.Common.{cond, ◌≡◌, ℕ, zero, suc, ◌+◌, ◌<◌, ◌≤◌, Bool, true, false, not, ◌&&◌, ◌==◌, List, [], ◌∷◌, ◌++◌, length, reverse, Option, Some, refl, sym, ap, ◌∙◌, subst, arith, eqb-true, nat_le, append_assoc}
use Rattle.std.specs.Prelude.{get_or, IfSome, ◌-◌}
use Rattle.std.specs.List.{filter, list_any, AllByRecursion as Each}
use Rattle.ft_base.specs.declared.number.CallNo.{CallNo}
use Rattle.ft_base.specs.declared.context.Ctx.{Ctx}
use Rattle.ft_base.specs.declared.item.Item.{Item}
use Rattle.ft_base.specs.declared.item.Item.TheVariants.{Enter, Body, Ret}
use Rattle.ft_base.specs.declared.task.TaskAct.{TaskAct}
use Rattle.ft_base.specs.declared.task.TaskAct.TheVariants.{Call, Ret as RetAct, Raise, Lower, After}
use Rattle.ft_base.specs.Same.{same_call}
use Rattle.ft_base.specs.Job.{Job, no_task, waits_before}
use Rattle.ft_base.proofs.Small.{false_true, and_both, and-false, Each-weaker}
use Rattle.ft_hist.specs.Past.{is_of, done, begun, Callback, callbacks}
use Rattle.ft_hist.specs.Plain.{plain, PlainTask, Frame, Phase, InBack, Running, on_top, in_phase, ahead, below_top}
use Rattle.ft_hist.specs.Rules.{IsLegal, HasEnded, HasWaited, acts_passed}
use Rattle.ft_hist.specs.Finished.{is_in_callback, is_scripted, finished, calls_and_returns, longest_with, acts_done, AreWaitsMet}
use Rattle.ft_hist.proofs.Laws.{same_call-refl, nothing-ahead}
use Rattle.ft_hist.proofs.RunLaws.{calls_on, sound}
use Rattle.ft_hist.proofs.Steps.{Step, step_enter, step_act, step_body, step_leave, step_ret, IsQuiet, acts_ahead, run-holds}
use Rattle.ft_hist.proofs.FrameCounts.{not_same}
use Rattle.ft_hist.proofs.Numbers.{some-run}
use Rattle.ft_hist.proofs.OpenBacks.{opened, standing, stands, open_on, user_in}

-- ## acts

-- an act that gives items
abbrev gives : TaskAct → Bool
gives (Call f) = true
gives RetAct = true
gives _ = false

-- A task has gone through these many acts of its script, and finished n calls and returns. If its stack is quiet, all that it began;
-- else the last act isn't finished.
abbrev Did : Bool → ℕ → List TaskAct → List TaskAct → ℕ → Type 0
Did true n all acts gone = (xs : List TaskAct) × (all ≡ xs ++ acts) × (length xs ≡ gone) × (calls_and_returns xs ≡ n)
Did false n all acts gone = (xs : List TaskAct) × (a : TaskAct) × (gives a ≡ true) × (all ≡ xs ++ a ∷ acts) × (suc (length xs) ≡ gone) × (calls_and_returns xs ≡ n)

length-snoc : (xs : List TaskAct) (a : TaskAct) → length (xs ++ a ∷ []) ≡ suc (length xs)
length-snoc [] a = refl
length-snoc (x ∷ xs) a = ap suc (length-snoc xs a)

counts-snoc : (xs : List TaskAct) (a : TaskAct) → calls_and_returns (xs ++ a ∷ []) ≡ cond (gives a) (suc (calls_and_returns xs)) (calls_and_returns xs)
counts-snoc [] (Call f) = refl
counts-snoc [] RetAct = refl
counts-snoc [] (Raise c) = refl
counts-snoc [] Lower = refl
counts-snoc [] (After m) = refl
counts-snoc (x ∷ xs) a = by x (gives a) (counts-snoc xs a)
  where
    by : (y : TaskAct) (b : Bool) → calls_and_returns (xs ++ a ∷ []) ≡ cond b (suc (calls_and_returns xs)) (calls_and_returns xs)
        → calls_and_returns (y ∷ (xs ++ a ∷ [])) ≡ cond b (suc (calls_and_returns (y ∷ xs))) (calls_and_returns (y ∷ xs))
    by (Call f) true e = ap suc e
    by (Call f) false e = ap suc e
    by RetAct true e = ap suc e
    by RetAct false e = ap suc e
    by (Raise c) false e = e
    by Lower false e = e
    by (After m) false e = e
    by _ true e = e

-- the act under way is finished
did-finish : (n : ℕ) (all acts : List TaskAct) (gone : ℕ) → Did false n all acts gone → Did true (suc n) all acts gone
did-finish n all acts gone d =
    (d.0 ++ d.1 ∷ [], d.3 ∙ sym (append_assoc d.0 (d.1 ∷ []) acts), length-snoc d.0 d.1 ∙ d.4, counts-snoc d.0 d.1 ∙ rw d.2 (ap suc d.5))

-- an act without items is passed
did-pass : (n : ℕ) (all : List TaskAct) (a : TaskAct) (acts : List TaskAct) (gone : ℕ) → gives a ≡ false → Did true n all (a ∷ acts) gone → Did true n all acts (suc gone)
did-pass n all a acts gone none d =
    (d.0 ++ a ∷ [], d.1 ∙ sym (append_assoc d.0 (a ∷ []) acts), length-snoc d.0 a ∙ ap suc d.2, counts-snoc d.0 a ∙ rw none d.3)

-- another begins
did-begin : (n : ℕ) (all : List TaskAct) (a : TaskAct) (acts : List TaskAct) (gone : ℕ) → gives a ≡ true → Did true n all (a ∷ acts) gone → Did false n all acts (suc gone)
did-begin n all a acts gone it d = (d.0, a, it, d.1, ap suc d.2, d.3)

did-ahead : (n : ℕ) (all : List TaskAct) (d : ℕ) (acts : List TaskAct) (cs : List Ctx) (gone : ℕ) → Did true n all acts gone → Did true n all (ahead d acts cs gone).acts (ahead d acts cs gone).gone
did-ahead n all d [] cs gone h = h
did-ahead n all d (Call f ∷ rest) cs gone h = h
did-ahead n all d (RetAct ∷ rest) cs gone h = h
did-ahead n all d (Raise c ∷ rest) cs gone h = did-ahead n all d rest (c ∷ cs) (suc gone) (did-pass n all (Raise c) rest gone refl h)
did-ahead n all d (Lower ∷ rest) cs gone h = did-ahead n all d rest (below_top cs) (suc gone) (did-pass n all Lower rest gone refl h)
did-ahead n all d (After m ∷ rest) cs gone h = by (nat_le m d) (did-ahead n all d rest cs (suc gone) (did-pass n all (After m) rest gone refl h))
  where
    by : (b : Bool) → Did true n all (ahead d rest cs (suc gone)).acts (ahead d rest cs (suc gone)).gone
        → Did true n all (cond b (ahead d rest cs (suc gone)) (record { acts = After m ∷ rest; contexts = cs; gone = gone })).acts (cond b (ahead d rest cs (suc gone)) (record { acts = After m ∷ rest; contexts = cs; gone = gone })).gone
    by true x = x
    by false x = h

-- the longest beginning with as many calls and returns as these acts have goes on behind them
longest-of : (xs ys : List TaskAct) → longest_with (xs ++ ys) (calls_and_returns xs) ≡ length xs + longest_with ys 0
longest-of [] ys = omega arith
longest-of (Call f ∷ xs) ys = let e = longest-of xs ys in omega (arith, e)
longest-of (_ ∷ xs) ys = let e = longest-of xs ys in omega (arith, e)

-- ## the stack

abbrev runs : Phase → Bool
runs Running = true
runs _ = false

-- the next act may begin over this stack: it is empty, or its top call is a scripted one in its body
abbrev is_quiet : List Frame → Bool
is_quiet [] = true
is_quiet (f ∷ below) = f.scripted && runs f.phase

quiet-is : (fs : List Frame) → IsQuiet fs → is_quiet fs ≡ true
quiet-is [] q = refl
quiet-is (f ∷ below) q = rw (q.0, q.1) refl

-- below a scripted call the stack is quiet, and below another it is not
abbrev Settled : List Frame → Type 0
Settled [] = Unit {0}
Settled (f ∷ below) = (is_quiet below ≡ f.scripted) × Settled below

-- over a quiet stack no callback is open
quiet-none : (fs : List Frame) → Settled fs → is_quiet fs ≡ true → open_on (standing fs) ≡ []
quiet-none [] s q = refl
quiet-none (f ∷ below) s q = let both = and_both f.scripted (runs f.phase) q in by f.phase both.1 (quiet-none below s.1 (s.0 ∙ both.0))
  where
    by : (ph : Phase) → runs ph ≡ true → open_on (standing below) ≡ [] → open_on (stands f.call f.ctx (user_in ph) ∷ standing below) ≡ []
    by Running e m = m
    by _ e m = false_true e

-- whether a list holds anything
abbrev is_some_in : {X : Type 0} → List X → Bool
is_some_in [] = false
is_some_in (x ∷ xs) = true

any-is : {X : Type 0} (p : X → Bool) (xs ys : List X) → filter p xs ≡ ys → list_any p xs ≡ is_some_in ys
any-is p [] ys e = ap is_some_in e
any-is p (x ∷ xs) ys e = by (p x) refl e (any-is p xs ys)
  where
    by : (b : Bool) → p x ≡ b → cond b (x ∷ filter p xs) (filter p xs) ≡ ys → (filter p xs ≡ ys → list_any p xs ≡ is_some_in ys) → list_any p (x ∷ xs) ≡ is_some_in ys
    by true q z more = rw q (ap is_some_in z)
    by false q z more = rw q (more z)

-- what is kept along the plain run: the acts done, the order of the stack, and which of its calls are the script's
abbrev Doing : List TaskAct → ℕ → (CallNo → Bool) → PlainTask → Type 0
Doing all n scr s = Did (is_quiet s.stack) n all s.acts s.gone × Settled s.stack × Each (λ f. f.scripted ≡ scr f.call) s.stack

and-true : (b : Bool) → (b && true) ≡ b
and-true true = refl
and-true false = refl

-- an act of the script is over, if it is a scripted call that was in it
did-over : (n : ℕ) (all acts : List TaskAct) (gone : ℕ) (b : Bool) → Did (b && false) n all acts gone → Did b (cond b (suc n) n) all acts gone
did-over n all acts gone true x = did-finish n all acts gone x
did-over n all acts gone false x = x

-- which calls are scripted stays so when another is entered
old-script : (scr : CallNo → Bool) (call : CallNo) (b : Bool) (fs : List Frame) → Each (λ c. c.n < call.n) (calls_on fs) → Each (λ f. f.scripted ≡ scr f.call) fs → Each (λ f. f.scripted ≡ cond (same_call call f.call) b (scr f.call)) fs
old-script scr call b [] lower x = tt
old-script scr call b (f ∷ fs) lower x = (rw (not_same call f.call lower.0) x.0, old-script scr call b fs lower.1 x.1)

-- ## along the plain run

module _ (job : Job) (t : ℕ) where
  abbrev script : List TaskAct
  script = (get_or job.tasks t no_task).acts

  abbrev Does : List Item → PlainTask → Type 0
  Does past s = Doing script (finished t past) (λ c. is_scripted c past) s

  -- whether a call is entered in a callback of its task is told by the stack
  inside-is : (past : List Item) (call : CallNo) (fs : List Frame) (bs : List Callback) → (call.task.0 == t) ≡ true → filter (λ (b : Callback). b.call.task.0 == t) (callbacks past) ≡ open_on (standing fs) → open_on (standing fs) ≡ bs
      → is_in_callback call.task.0 past ≡ is_some_in bs
  inside-is past call fs bs own opens is = ap (λ v. is_in_callback v past) (eqb-true call.task.0 t own) ∙ any-is (λ (b : Callback). b.call.task.0 == t) (callbacks past) bs (opens ∙ is)

  -- one more item of the task
  own-item : (past : List Item) (p s : PlainTask) (item : Item) → plain job t past ≡ Some p → is_of t item ≡ true → Step job (done past) p s item → Does past p → Does (item ∷ past) s
  own-item past p s item here own (step_enter {call = call} {f = f} {rest = rest} it quiet acts is) h =
      let d = done past in
      let n = finished t past in
      let a = acts_ahead d p in
      let lower : Each (λ c. c.n < call.n) (calls_on p.stack) = rw it.number (sound job t past p here).number in
      let now = quiet-is p.stack quiet in
      let outside : is_in_callback call.task.0 past ≡ false = inside-is past call p.stack [] own (opened job t past p here).opens (quiet-none p.stack h.1 now) in
      let did = did-ahead n script d p.acts p.contexts p.gone (subst (λ (b : Bool). Did b n script p.acts p.gone) now h.0) in (
        did-begin n script (Call f) rest a.gone refl (subst (λ xs. Did true n script xs a.gone) acts did),
        (now, h.1),
        (rw (same_call-refl call, outside) refl, old-script (λ c. is_scripted c past) call (not (is_in_callback call.task.0 past)) p.stack lower h.2),
      )
  own-item past p s item here own (step_act q g below {u = u} {fresh = fresh} {call = call} {x = x} {f = f} it) h =
      let top : Frame = in_phase g (InBack u (Some (record { ctx = x; func = f.0 })) fresh) in
      let numbers = (sound job t past _ here).number in
      let lower : Each (λ c. c.n < call.n) (calls_on (top ∷ below)) = subst (λ m. Each (λ c. c.n < m) (calls_on (top ∷ below))) (sym it.number) numbers in
      let inside : is_in_callback call.task.0 past ≡ true = inside-is past call (top ∷ below) (open_on (standing (top ∷ below))) own (opened job t past _ here).opens refl in
      let old = old-script (λ c. is_scripted c past) call (not (is_in_callback call.task.0 past)) (top ∷ below) lower h.2 in
      (rw (and-false g.scripted) at h.0, (and-false g.scripted, (h.1.0, h.1.1)), (rw (same_call-refl call, inside) refl, (old.0, old.1)))
  own-item past p s item here own (step_body q f below) h =
      let n = finished t past in
      let scripted : ((f.call.task.0 == t) && is_scripted f.call past) ≡ f.scripted = rw own (sym h.2.0) in
      subst (λ (b : Bool). Doing script (cond b (suc n) n) (λ c. is_scripted c past) (on_top q (in_phase f Running) below)) (sym scripted)
      (subst (λ (b : Bool). Did b (cond f.scripted (suc n) n) script q.acts q.gone) (sym (and-true f.scripted)) (did-over n script q.acts q.gone f.scripted h.0), h.1, h.2)
  own-item past p s item here own (step_ret q f below) h =
      let n = finished t past in
      let scripted : ((f.call.task.0 == t) && is_scripted f.call past) ≡ f.scripted = rw own (sym h.2.0) in
      subst (λ (b : Bool). Doing script (cond b (suc n) n) (λ c. is_scripted c past) (record q { stack = below })) (sym scripted)
      (subst (λ (b : Bool). Did b (cond f.scripted (suc n) n) script q.acts q.gone) (sym h.1.0) (did-over n script q.acts q.gone f.scripted h.0), h.1.1, h.2.1)
  own-item past p s item here own (step_leave q f below {rest = rest} acts) h =
      let d = done past in
      let n = finished t past in
      let a = acts_ahead d q in
      (did-begin n script RetAct rest a.gone refl (subst (λ xs. Did true n script xs a.gone) acts (did-ahead n script d q.acts q.contexts q.gone h.0)), h.1, h.2)
  own-item past p s item here own _ h = h

  -- an item of another
  finished-other : (item : Item) (past : List Item) → is_of t item ≡ false → finished t (item ∷ past) ≡ finished t past
  finished-other (Body call g ran) past other = rw other refl
  finished-other (Ret call to) past other = rw other refl
  finished-other _ past other = refl

  script-other : (item : Item) (past : List Item) → is_of t item ≡ false → (c : CallNo) → c.task.0 ≡ t → is_scripted c (item ∷ past) ≡ is_scripted c past
  script-other (Enter call x f caller) past other c own = let no : (call.task.0 == c.task.0) ≡ false = rw own other in rw no refl
  script-other _ past other c own = refl

  scripts-other : (item : Item) (past : List Item) → is_of t item ≡ false → (fs : List Frame) → Each (λ c. c.task.0 ≡ t) (calls_on fs) → Each (λ f. f.scripted ≡ is_scripted f.call past) fs
      → Each (λ f. f.scripted ≡ is_scripted f.call (item ∷ past)) fs
  scripts-other item past other [] own h = tt
  scripts-other item past other (f ∷ fs) own h = (h.0 ∙ sym (script-other item past other f.call own.0), scripts-other item past other fs own.1 h.1)

  pub does : (past : List Item) (s : PlainTask) → plain job t past ≡ Some s → Does past s
  does = run-holds job t (λ past s. Does past s) (([], refl, refl, refl), tt, tt)
      (λ item past p s own here k h. own-item past p s item here own k h)
      (λ item past s other here h. (rw (finished-other item past other) h.0, h.1, scripts-other item past other s.stack (sound job t past s here).task h.2))

  -- ## how many acts that is

  abbrev alone : ℕ → List TaskAct → PlainTask
  alone gone acts = record { next = 0; acts = acts; gone = gone; contexts = []; stack = [] }

  silent : (gone : ℕ) (acts : List TaskAct) → acts_passed (alone gone acts) ≡ gone + longest_with acts 0
  silent gone [] = omega arith
  silent gone (Call f ∷ rest) = omega arith
  silent gone (RetAct ∷ rest) = omega arith
  silent gone (_ ∷ rest) = let e = silent (suc gone) rest in omega (arith, e)

  passed-quiet : (k : ℕ) (acts : List TaskAct) (gone : ℕ) → Did true k script acts gone → acts_passed (alone gone acts) ≡ longest_with script k
  passed-quiet k acts gone d =
      silent gone acts ∙ ap (λ m. m + longest_with acts 0) (sym d.2) ∙ sym (longest-of d.0 acts) ∙ ap (λ m. longest_with (d.0 ++ acts) m) d.3 ∙ ap (λ xs. longest_with xs k) (sym d.1)

  passed-busy : (k : ℕ) (acts : List TaskAct) (gone : ℕ) → Did false k script acts gone → gone - 1 ≡ longest_with script k
  passed-busy k acts gone d =
      let len = d.4 in
      let first : gone - 1 ≡ length d.0 + longest_with (d.1 ∷ acts) 0 = rw (none d.1 d.2) (omega (arith, len)) in
      first ∙ sym (longest-of d.0 (d.1 ∷ acts)) ∙ ap (λ m. longest_with (d.0 ++ d.1 ∷ acts) m) d.5 ∙ ap (λ xs. longest_with xs k) (sym d.3)
    where
      none : (a : TaskAct) → gives a ≡ true → longest_with (a ∷ acts) 0 ≡ 0
      none (Call f) e = refl
      none RetAct e = refl
      none _ e = false_true e

  passed-at : (k : ℕ) (s : PlainTask) (stack : List Frame) → s.stack ≡ stack → Did (is_quiet stack) k script s.acts s.gone → acts_passed s ≡ longest_with script k
  passed-at k s [] e d = let same : acts_passed s ≡ acts_passed (alone s.gone s.acts) = rw e refl in same ∙ passed-quiet k s.acts s.gone d
  passed-at k s (f ∷ below) e d = by f.scripted f.phase refl refl d
    where
      by : (b : Bool) (ph : Phase) → f.scripted ≡ b → f.phase ≡ ph → Did (b && runs ph) k script s.acts s.gone → acts_passed s ≡ longest_with script k
      by true Running eb ep x = let same : acts_passed s ≡ acts_passed (alone s.gone s.acts) = rw (e, ep, eb) refl in same ∙ passed-quiet k s.acts s.gone x
      by false Running eb ep x = let same : acts_passed s ≡ s.gone - 1 = rw (e, ep, eb) refl in same ∙ passed-busy k s.acts s.gone x
      by b _ eb ep x = let same : acts_passed s ≡ s.gone - 1 = rw (e, ep) refl in same ∙ passed-busy k s.acts s.gone (subst (λ c. Did c k script s.acts s.gone) (and-false b) x)

  pub passed-is : (past : List Item) (s : PlainTask) → plain job t past ≡ Some s → acts_passed s ≡ acts_done job t past
  passed-is past s here = passed-at (finished t past) s s.stack refl (does past s here).0

  -- at its end a task has finished all calls and returns of its script
  pub finished-all : (past : List Item) (s : PlainTask) → plain job t past ≡ Some s → HasEnded (done past) s → finished t past ≡ calls_and_returns script
  finished-all past s here ended =
      let w = did-ahead (finished t past) script (done past) s.acts s.contexts s.gone (subst (λ (st : List Frame). Did (is_quiet st) (finished t past) script s.acts s.gone) ended.1 (does past s here).0) in
      let all : script ≡ w.0 = w.1 ∙ ap (λ xs. w.0 ++ xs) (nothing-ahead (done past) s.acts s.contexts s.gone ended.0) ∙ append-nil w.0 in
      sym w.3 ∙ ap (λ xs. calls_and_returns xs) (sym all)
    where
      append-nil : (xs : List TaskAct) → xs ++ [] ≡ xs
      append-nil [] = refl
      append-nil (x ∷ xs) = ap (λ ys. x ∷ ys) (append-nil xs)

-- ## the waits of control

module _ (job : Job) (items : List Item) (legal : IsLegal job items) where
  abbrev past : List Item
  past = reverse items

  wait-is : (w : ℕ × ℕ) → (s : PlainTask) × (plain job w.0 past ≡ Some s) × (acts_passed s ≡ acts_done job w.0 past)
  unfolding IsLegal
  wait-is w = let r = some-run job w.0 past legal in (r.0, r.1, passed-is job w.0 past r.0 r.1)

  pub waits-met : HasWaited job past → AreWaitsMet job past
  waits-met h =
      Each-weaker (λ (w : ℕ × ℕ). IfSome (plain job w.0 past) (λ s. w.1 ≤ acts_passed s)) (λ (w : ℕ × ℕ). w.1 ≤ acts_done job w.0 past) (waits_before (begun past) job.ctls)
      (λ w x. let r = wait-is w in subst (λ k. w.1 ≤ k) r.2 (subst (λ (o : Option PlainTask). IfSome o (λ s. w.1 ≤ acts_passed s)) r.1 x)) h

  pub waits-back : AreWaitsMet job past → HasWaited job past
  waits-back h =
      Each-weaker (λ (w : ℕ × ℕ). w.1 ≤ acts_done job w.0 past) (λ (w : ℕ × ℕ). IfSome (plain job w.0 past) (λ s. w.1 ≤ acts_passed s)) (waits_before (begun past) job.ctls)
      (λ w x. let r = wait-is w in subst (λ (o : Option PlainTask). IfSome o (λ s. w.1 ≤ acts_passed s)) (sym r.1) (subst (λ k. w.1 ≤ k) (sym r.2) x)) h

-- ## one more item takes no act back

longest-more : (acts : List TaskAct) (n m : ℕ) → n ≤ m → longest_with acts n ≤ longest_with acts m
longest-more [] n m le = omega arith
longest-more (Call f ∷ acts) zero m le = omega arith
longest-more (Call f ∷ acts) (suc n) zero le = absurd (omega (arith, le))
longest-more (Call f ∷ acts) (suc n) (suc m) le = let more = longest-more acts n m (omega (arith, le)) in omega (arith, more)
longest-more (RetAct ∷ acts) zero m le = omega arith
longest-more (RetAct ∷ acts) (suc n) zero le = absurd (omega (arith, le))
longest-more (RetAct ∷ acts) (suc n) (suc m) le = let more = longest-more acts n m (omega (arith, le)) in omega (arith, more)
longest-more (Raise c ∷ acts) n m le = let more = longest-more acts n m le in omega (arith, more)
longest-more (Lower ∷ acts) n m le = let more = longest-more acts n m le in omega (arith, more)
longest-more (After k ∷ acts) n m le = let more = longest-more acts n m le in omega (arith, more)

one-more : (b : Bool) (n : ℕ) → n ≤ cond b (suc n) n
one-more true n = omega arith
one-more false n = omega arith

finished-more : (t : ℕ) (item : Item) (past : List Item) → finished t past ≤ finished t (item ∷ past)
finished-more t (Body c g ran) past = one-more ((c.task.0 == t) && is_scripted c past) (finished t past)
finished-more t (Ret c to) past = one-more ((c.task.0 == t) && is_scripted c past) (finished t past)
finished-more t _ past = omega arith

pub acts_done-more : (job : Job) (t : ℕ) (item : Item) (past : List Item) → acts_done job t past ≤ acts_done job t (item ∷ past)
acts_done-more job t item past = longest-more (get_or job.tasks t no_task).acts (finished t past) (finished t (item ∷ past)) (finished-more t item past)
