-- The calls that are kept of a task are those of its plain stack: which of them an item is of, and that it says nothing of the others.
use Rattle.std.proofs.Common.{cond, ◌≡◌, ℕ, suc, ◌<◌, ◌≤◌, Bool, true, false, ◌&&◌, ◌==◌, List, [], ◌∷◌, length, map, Option, Some, None, refl, sym, ap, ◌∙◌, subst, arith, eqb-true}
use Rattle.std.specs.Prelude.{IsSome, slice_get}
use Rattle.std.proofs.lemmas.List.{length-map}
use Rattle.std.specs.List.{filter, AllByRecursion as Each}
use Rattle.ft_base.specs.declared.number.CallNo.{CallNo}
use Rattle.ft_base.specs.declared.item.Item.{Item}
use Rattle.ft_base.specs.declared.item.Item.TheVariants.{Begin, Return, Enter, Ret}
use Rattle.ft_base.specs.Items.{call_of, is_task}
use Rattle.ft_base.specs.Job.{Job}
use Rattle.ft_base.proofs.Small.{false_true, Each-weaker}
use Rattle.ft_hist.specs.Past.{calls, is_of, is_open}
use Rattle.ft_hist.specs.Plain.{Frame, PlainTask, plain}
use Rattle.ft_hist.specs.Telling.{open_calls}
use Rattle.ft_hist.proofs.FrameCounts.{not_same, opens}
use Rattle.ft_hist.proofs.Laws.{plain-other}
use Rattle.ft_hist.proofs.Numbers.{moved}
use Rattle.ft_hist.proofs.RunLaws.{Keeps, Moves, calls_on, some_inj, sound}
use Rattle.ft_hist.proofs.Since.{touches}
use Rattle.ft_hist.proofs.Since.{holding as holding_on}
use Rattle.ft_hist.specs.Known.{holds}
use Rattle.history_check.specs.declared.open_call.OpenCall.{OpenCall}
use Rattle.history_check.specs.TaskCalls.{AreCallsOf, AreStacked, IsOpenCall, calls_of, holding, is_inside}
use Rattle.history_check.specs.JudgePast.{is_enter}
use Rattle.history_check.proofs.OpenCalls.{AreUntouched, calls-stay, stacked-stays, touch-other, touch-task}

pub calls-same : (fs : List Frame) → calls_of fs ≡ calls_on fs
calls-same [] = refl
calls-same (f ∷ fs) = ap (λ (cs : List CallNo). f.call ∷ cs) (calls-same fs)

-- what holds of each value holds of what it was made from
pub each-map : {A B : Type 0} (f : A → B) (P : B → Type 0) (xs : List A) → Each P (map f xs) → Each (λ x. P (f x)) xs
each-map f P [] h = tt
each-map f P (x ∷ xs) h = (h.0, each-map f P xs h.1)

-- a part of a list is no longer than it
pub few-left : {A : Type 0} (p : A → Bool) (xs : List A) → length (filter p xs) ≤ length xs
few-left p [] = omega arith
few-left p (x ∷ xs) = by (p x) (few-left p xs)
  where
    by : (b : Bool) → length (filter p xs) ≤ length xs → length (cond b (x ∷ filter p xs) (filter p xs)) ≤ suc (length xs)
    by true le = omega (arith, le)
    by false le = omega (arith, le)

abbrev pub call_in : OpenCall → CallNo
call_in c = c.call

pub uncons-head : {A : Type 0} (x y : A) (xs ys : List A) → x ∷ xs ≡ y ∷ ys → (x ≡ y) × (xs ≡ ys)
uncons-head x y xs ys e = (ap (λ l. head_or l x) e, ap tail_of e)
  where
    head_or : {A : Type 0} → List A → A → A
    head_or [] d = d
    head_or (z ∷ zs) d = z

    tail_of : {A : Type 0} → List A → List A
    tail_of [] = []
    tail_of (z ∷ zs) = zs

-- ## one item more of a task

pub run-of : (job : Job) (t : ℕ) (past : List Item) → IsSome (plain job t past) → (s : PlainTask) × (plain job t past ≡ Some s)
run-of job t past some = by (plain job t past) refl some
  where
    by : (o : Option PlainTask) → plain job t past ≡ o → IsSome o → (s : PlainTask) × (plain job t past ≡ Some s)
    by None e h = false_true h
    by (Some s) e h = (s, e)

-- an item that doesn't enter a call is of the call on the top
pub of-top : (p s : PlainTask) (item : Item) (call : CallNo) → Moves p s item → call_of item ≡ Some call → is_enter item ≡ false → (below : List CallNo) × (calls_on p.stack ≡ call ∷ below)
of-top p s (Begin k) call m is out = absurd cc
of-top p s (Return k a) call m is out = absurd cc
of-top p s (Enter c x f caller) call m is out = absurd cc
of-top p s (Ret c to) call m is out = (calls_on s.stack, m.calls ∙ ap (λ (d : CallNo). d ∷ calls_on s.stack) (some_inj c call is))
of-top p s _ call m is out = (m.top.0, m.top.1 ∙ ap (λ (d : CallNo). d ∷ m.top.0) (some_inj _ call is))

-- an item in a call leaves each call of the stack
pub keeps-of : (p s : PlainTask) (item : Item) (call : CallNo) → Moves p s item → call_of item ≡ Some call → is_inside item ≡ true → Keeps p s call
keeps-of p s (Begin k) call m is inside = absurd cc
keeps-of p s (Return k a) call m is inside = absurd cc
keeps-of p s (Enter c x f caller) call m is inside = false_true inside
keeps-of p s (Ret c to) call m is inside = false_true inside
keeps-of p s _ call m is inside = subst (λ (d : CallNo). Keeps p s d) (some_inj _ call is) m

-- an item is of the task of its call
pub of-own : (t : ℕ) (item : Item) (call : CallNo) → call_of item ≡ Some call → is_of t item ≡ (call.task.0 == t)
of-own t item call is = ap (is_task t) is

-- frames are counted by the numbers of the calls
pub holding-calls : (job : Job) (past : List Item) (cs : List OpenCall) → holding job past cs ≡ holding_on job past (map call_in cs)
holding-calls job past [] = refl
holding-calls job past (c ∷ cs) = one (holds job past c.call) (holding-calls job past cs)
  where
    one : (b : Bool) → holding job past cs ≡ holding_on job past (map call_in cs)
        → length (cond b (c ∷ filter (λ (x : OpenCall). holds job past x.call) cs) (filter (λ (x : OpenCall). holds job past x.call) cs))
        ≡ length (cond b (c.call ∷ filter (λ x. holds job past x) (map call_in cs)) (filter (λ x. holds job past x) (map call_in cs)))
    one true rest = ap suc rest
    one false rest = rest

-- ## the calls of a task

module _ (job : Job) (past : List Item) (t : ℕ) (cs : List OpenCall) (k : AreCallsOf job past t cs) where
  abbrev run : PlainTask
  run = k.stack.0

  pub on-stack : map call_in cs ≡ calls_on run.stack
  on-stack = k.stack.2 ∙ calls-same run.stack

  pub each-call : (P : CallNo → Type 0) → Each P (calls_on run.stack) → Each (λ (c : OpenCall). P c.call) cs
  each-call P h = each-map call_in P cs (subst (λ (xs : List CallNo). Each P xs) (sym on-stack) h)

  pub own-tasks : Each (λ (c : OpenCall). c.call.task.0 ≡ t) cs
  own-tasks = each-call (λ c. c.task.0 ≡ t) (sound job t past run k.stack.1).task

  -- an item of another task leaves them
  pub after-other : (item : Item) → is_of t item ≡ false → AreCallsOf job (item ∷ past) t cs
  after-other item other =
      let free = Each-weaker (λ (c : OpenCall). c.call.task.0 ≡ t) (λ (c : OpenCall). touches c.call item ≡ false) cs (λ c e. touch-task t c.call item other e) own-tasks in
      record {
        stack = (run, plain-other job past item t other ∙ k.stack.1, k.stack.2);
        calls = calls-stay job past item cs free k.calls;
        stacked = stacked-stays job past item cs free k.stacked;
      }

  -- there are no more than items
  pub few-calls : length cs ≤ length past
  few-calls =
      let on = ap length on-stack in
      let all = ap length (opens job t past run k.stack.1).open' in
      let few = few-open past in
      let same = length-map cs call_in in
      omega (arith, on, all, few, same)
    where
      few-made : (items : List Item) → length (calls items) ≤ length items
      few-made [] = omega arith
      few-made (Enter c x f caller ∷ items) = let h = few-made items in omega (arith, h)
      few-made (_ ∷ items) = let h = few-made items in omega (arith, h)

      few-open : (items : List Item) → length (open_calls t items) ≤ length items
      few-open items = let a = few-made items in let b = few-left (λ c. (c.task.0 == t) && is_open c items) (calls items) in omega (arith, a, b)

  module _ (item : Item) (call : CallNo) (is : call_of item ≡ Some call) (mine : is_of t item ≡ true) (some : IsSome (plain job t (item ∷ past))) where
    pub next-run : (s : PlainTask) × (plain job t (item ∷ past) ≡ Some s)
    next-run = run-of job t (item ∷ past) some

    -- how the run has moved on
    pub moved-on : Moves run next-run.0 item
    moved-on =
        let m = moved job t item past next-run.0 mine next-run.1 in
        subst (λ (p : PlainTask). Moves p next-run.0 item) (some_inj m.0 run (sym m.1 ∙ k.stack.1)) m.2

    pub own-call : call.task.0 ≡ t
    own-call = eqb-true call.task.0 t (sym (of-own t item call is) ∙ mine)

    -- an item that doesn't enter a call is of the one on the top
    pub top-call : is_enter item ≡ false → (below : List CallNo) × (calls_on run.stack ≡ call ∷ below)
    top-call out = of-top run next-run.0 item call moved-on is out

-- ## the call of an item is the first

-- the item is of this call, and says nothing of those below
pub record OnTop (job : Job) (past : List Item) (t : ℕ) (item : Item) (call : CallNo) (top : OpenCall) (rest : List OpenCall) (k : AreCallsOf job past t (top ∷ rest)) : Type 0 where
  pub call' : top.call ≡ call
  pub stack : calls_on k.stack.0.stack ≡ call ∷ map call_in rest
  pub below : AreUntouched job past item rest

module _ (job : Job) (past : List Item) (t : ℕ) (item : Item) (call : CallNo) (is : call_of item ≡ Some call) (mine : is_of t item ≡ true) (some : IsSome (plain job t (item ∷ past))) (out : is_enter item ≡ false) where
  pub on-top : (top : OpenCall) (rest : List OpenCall) (k : AreCallsOf job past t (top ∷ rest)) → OnTop job past t item call top rest k
  on-top top rest k =
      let w = top-call job past t (top ∷ rest) k item call is mine some out in
      let both = uncons-head top.call call (map call_in rest) w.0 (on-stack job past t (top ∷ rest) k ∙ w.1) in
      let at : calls_on k.stack.0.stack ≡ call ∷ map call_in rest = w.1 ∙ ap (λ (ds : List CallNo). call ∷ ds) (sym both.1) in
      let falls = rw at at (opens job t past k.stack.0 k.stack.1).falls in
      let others : Each (λ (c : OpenCall). c.call.n < call.n) rest = each-map call_in (λ (d : CallNo). d.n < call.n) rest falls.0 in
      record {
        call' = both.0;
        stack = at;
        below = Each-weaker (λ (c : OpenCall). c.call.n < call.n) (λ (c : OpenCall). touches c.call item ≡ false) rest (λ c lt. touch-other c.call call item is (not_same call c.call lt)) others;
      }

  pub none-on-top : AreCallsOf job past t [] → ⊥
  none-on-top k =
      let w = top-call job past t [] k item call is mine some out in
      let e : [] ≡ call ∷ w.0 = on-stack job past t [] k ∙ w.1 in
      absurd cc

-- ## how many hold a frame

-- the first of them, as it is counted
pub counted : (job : Job) (past : List Item) (t : ℕ) (cs : List OpenCall) → AreCallsOf job past t cs → (top : OpenCall) → slice_get cs 0 ≡ Some top → (b : Bool) → (IsOpenCall job past top → b ≡ holds job past top.call)
    → holding job past cs ≡ cond b (suc top.held) top.held
unfolding AreStacked
counted job past t [] k top first b is = absurd cc
counted job past t (c ∷ cs) k top first b is =
    let same : c ≡ top = some_inj c top first in
    let here : b ≡ holds job past c.call = is (subst (λ (x : OpenCall). IsOpenCall job past x) same k.calls.0) ∙ ap (λ (x : OpenCall). holds job past x.call) (sym same) in
    one b here ∙ ap (λ n. cond b (suc n) n) (sym k.stacked.0 ∙ ap (λ (x : OpenCall). x.held) same)
  where
    one : (d : Bool) → d ≡ holds job past c.call → holding job past (c ∷ cs) ≡ cond d (suc (holding job past cs)) (holding job past cs)
    one true e = rw (sym e) refl
    one false e = rw (sym e) refl

pub counted-none : (job : Job) (past : List Item) (cs : List OpenCall) → slice_get cs 0 ≡ None → holding job past cs ≡ 0
counted-none job past [] none = refl
counted-none job past (c ∷ cs) none = absurd cc
