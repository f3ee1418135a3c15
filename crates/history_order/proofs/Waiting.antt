-- What comes after what it waits for: the acts of a task below `after n`, and the commands.
use Rattle.std.proofs.Common.{cond, ◌≡◌, ℕ, zero, suc, ◌<◌, ◌≤◌, Bool, true, false, ◌==◌, List, [], ◌∷◌, ◌++◌, drop, reverse, get_or, Option, Some, None, IsSome, slice_get, refl, sym, ap, ◌∙◌, subst, arith, nat_le, leb-true, inl, inr}
use Rattle.std.proofs.lemmas.Bool.{cases_lt}
use Rattle.std.specs.List.{filter, list_any}
use Rattle.ft_base.specs.declared.number.CallNo.{CallNo}
use Rattle.ft_base.specs.declared.number.FuncNo.{FuncNo}
use Rattle.ft_base.specs.declared.context.Ctx.{Ctx}
use Rattle.ft_base.specs.declared.item.Item.{Item}
use Rattle.ft_base.specs.declared.item.Item.TheVariants.{Begin, Enter, Leave}
use Rattle.ft_base.specs.declared.task.TaskAct.{TaskAct}
use Rattle.ft_base.specs.declared.task.TaskAct.TheVariants.{Call, Ret as RetAct, Raise, Lower, After}
use Rattle.ft_base.specs.Job.{Job, no_task}
use Rattle.ft_base.proofs.Small.{false_true, ==-refl, or-false_both}
use Rattle.ft_hist.specs.Finished.{AreWaitsMet, acts_done, is_in_callback, is_scripted}
use Rattle.ft_hist.specs.Past.{is_of, done, Callback, callbacks}
use Rattle.ft_hist.specs.Plain.{plain, PlainTask, Frame, ahead, below_top}
use Rattle.ft_hist.specs.Rules.{IsLegal, acts_passed}
use Rattle.ft_hist.proofs.Finishing.{does, passed-is, waits-met}
use Rattle.ft_hist.proofs.OpenBacks.{opened}
use Rattle.ft_hist.proofs.Splitting.{legal-front, splits}
use Rattle.ft_hist.proofs.Steps.{Step, step_begin, step_return, step_enter, step_act, step_leave, step_act_leave, IsQuiet, acts_ahead, own-step, run-holds}
use Rattle.ft_hist.proofs.WindowLaws.{done-more}
use Rattle.history_order.specs.Waits.{AreAftersMet}

-- ## a task has gone through so many acts of its script, and each `after n` among them is met

abbrev Through : List TaskAct → ℕ → List TaskAct → ℕ → Type 0
Through script gone acts returned = (acts ≡ drop gone script) × ((i n : ℕ) → i < gone → slice_get script i ≡ Some (After n) → n ≤ returned)

drop-none : (xs : List TaskAct) → drop 0 xs ≡ xs
drop-none [] = refl
drop-none (x ∷ xs) = refl

-- the next act of a script
next-act : (script : List TaskAct) (gone : ℕ) (a : TaskAct) (rest : List TaskAct) → a ∷ rest ≡ drop gone script → (slice_get script gone ≡ Some a) × (rest ≡ drop (suc gone) script)
next-act [] zero a rest e = absurd cc
next-act [] (suc gone) a rest e = absurd cc
next-act (x ∷ script) zero a rest e = let first : x ≡ a = cc in let behind : rest ≡ script = cc in (ap (λ (z : TaskAct). Some z) first, behind ∙ sym (drop-none script))
next-act (x ∷ script) (suc gone) a rest e = next-act script gone a rest e

some-act : (a b : TaskAct) → Some a ≡ Some b → a ≡ b
some-act a b e = cc

-- one more act, that is no `after` which isn't met
through-one : (script : List TaskAct) (gone : ℕ) (a : TaskAct) (rest : List TaskAct) (d : ℕ) → ((n : ℕ) → a ≡ After n → n ≤ d) → Through script gone (a ∷ rest) d → Through script (suc gone) rest d
through-one script gone a rest d met h =
    let now = next-act script gone a rest h.0 in (
      now.1,
      λ i n lt e. elim (cases_lt i gone) [
        | inl less ↦ h.1 i n less e
        | inr more ↦ (let same : i ≡ gone = omega (arith, lt, more) in met n (some-act a (After n) (sym now.0 ∙ subst (λ (j : ℕ). slice_get script j ≡ Some (After n)) same e)))
      ],
    )

-- as far as the acts without items are met
through-ahead : (script : List TaskAct) (d : ℕ) (acts : List TaskAct) (cs : List Ctx) (gone : ℕ) → Through script gone acts d → Through script (ahead d acts cs gone).gone (ahead d acts cs gone).acts d
through-ahead script d [] cs gone h = h
through-ahead script d (Call f ∷ rest) cs gone h = h
through-ahead script d (RetAct ∷ rest) cs gone h = h
through-ahead script d (Raise c ∷ rest) cs gone h = through-ahead script d rest (c ∷ cs) (suc gone) (through-one script gone (Raise c) rest d (λ n e. absurd cc) h)
through-ahead script d (Lower ∷ rest) cs gone h = through-ahead script d rest (below_top cs) (suc gone) (through-one script gone Lower rest d (λ n e. absurd cc) h)
through-ahead script d (After m ∷ rest) cs gone h = by (nat_le m d) refl (λ t. through-ahead script d rest cs (suc gone) t)
  where
    after-is : (n : ℕ) → After m ≡ After n → m ≡ n
    after-is n e = cc

    by : (b : Bool) → nat_le m d ≡ b → (Through script (suc gone) rest d → Through script (ahead d rest cs (suc gone)).gone (ahead d rest cs (suc gone)).acts d)
        → Through script (cond b (ahead d rest cs (suc gone)) (record { acts = After m ∷ rest; contexts = cs; gone = gone })).gone (cond b (ahead d rest cs (suc gone)) (record { acts = After m ∷ rest; contexts = cs; gone = gone })).acts d
    by true q more = more (through-one script gone (After m) rest d (λ n e. (let le = leb-true m d q in let same = after-is n e in omega (arith, le, same))) h)
    by false q more = h

-- an act that gives items
abbrev gives : TaskAct → Bool
gives (Call f) = true
gives RetAct = true
gives _ = false

-- a task without calls, with these acts to come
abbrev alone : ℕ → List TaskAct → PlainTask
alone gone acts = record { next = 0; acts = acts; gone = gone; contexts = []; stack = [] }

same-head : (a b : TaskAct) (xs ys : List TaskAct) → a ∷ xs ≡ b ∷ ys → a ≡ b
same-head a b xs ys e = cc

module _ (d : ℕ) (a : TaskAct) (rest : List TaskAct) (it : gives a ≡ true) where
  -- where an act that gives items is next, all before it are passed
  silent : (xs : List TaskAct) (es : List Ctx) (g : ℕ) → (ahead d xs es g).acts ≡ a ∷ rest → acts_passed (alone g xs) ≡ (ahead d xs es g).gone
  silent [] es g q = absurd cc
  silent (Call f ∷ xs) es g q = refl
  silent (RetAct ∷ xs) es g q = refl
  silent (Raise c ∷ xs) es g q = silent xs (c ∷ es) (suc g) q
  silent (Lower ∷ xs) es g q = silent xs (below_top es) (suc g) q
  silent (After m ∷ xs) es g q = by (nat_le m d) q (silent xs es (suc g))
    where
      by : (b : Bool) → (cond b (ahead d xs es (suc g)) (record { acts = After m ∷ xs; contexts = es; gone = g })).acts ≡ a ∷ rest
          → ((ahead d xs es (suc g)).acts ≡ a ∷ rest → acts_passed (alone (suc g) xs) ≡ (ahead d xs es (suc g)).gone)
          → acts_passed (alone g (After m ∷ xs)) ≡ (cond b (ahead d xs es (suc g)) (record { acts = After m ∷ xs; contexts = es; gone = g })).gone
      by true r more = more r
      by false r more = false_true (ap (λ (z : TaskAct). gives z) (same-head (After m) a xs rest r) ∙ it)

  passed : (p : PlainTask) (stack : List Frame) → p.stack ≡ stack → IsQuiet stack → (acts_ahead d p).acts ≡ a ∷ rest → acts_passed p ≡ (acts_ahead d p).gone
  passed p [] e quiet next = let same : acts_passed p ≡ acts_passed (alone p.gone p.acts) = rw e refl in same ∙ silent p.acts p.contexts p.gone next
  passed p (f ∷ below) e quiet next =
      let same : acts_passed p ≡ acts_passed (alone p.gone p.acts) = rw (e, quiet.1, quiet.0) refl in same ∙ silent p.acts p.contexts p.gone next

none-passes : {X : Type 0} (p : X → Bool) (xs : List X) → list_any p xs ≡ false → filter p xs ≡ []
none-passes p [] e = refl
none-passes p (x ∷ xs) e = let w = or-false_both (p x) (list_any p xs) e in rw w.0 (none-passes p xs w.1)

no-item : {X : Type 0} (x : X) (xs : List X) → [] ≡ x ∷ xs → ⊥
no-item x xs e = absurd cc

-- ## along a plain run

module _ (job : Job) (t : ℕ) where
  abbrev script : List TaskAct
  script = (get_or job.tasks t no_task).acts

  abbrev Goes : List Item → PlainTask → Type 0
  Goes past s = Through script s.gone s.acts (done past)

  own-item : (past : List Item) (p s : PlainTask) (item : Item) → is_of t item ≡ true → Step job (done past) p s item → Goes past p → Goes (item ∷ past) s
  own-item past p s item own step_begin h = false_true own
  own-item past p s item own step_return h = false_true own
  own-item past p s item own (step_enter {f = f} {rest = rest} it quiet acts is) h =
      let d = done past in
      through-one script (acts_ahead d p).gone (Call f) rest d (λ n e. absurd cc) (subst (λ (xs : List TaskAct). Through script (acts_ahead d p).gone xs d) acts (through-ahead script d p.acts p.contexts p.gone h))
  own-item past p s item own (step_leave q f below {rest = rest} acts) h =
      let d = done past in
      through-one script (acts_ahead d q).gone RetAct rest d (λ n e. absurd cc) (subst (λ (xs : List TaskAct). Through script (acts_ahead d q).gone xs d) acts (through-ahead script d q.acts q.contexts q.gone h))
  own-item past p s item own _ h = h

  other-item : (item : Item) (past : List Item) (s : PlainTask) → Goes past s → Goes (item ∷ past) s
  other-item item past s h = (h.0, λ i n lt e. (let le = h.1 i n lt e in let more = done-more item past in omega (arith, le, more)))

  goes : (past : List Item) (s : PlainTask) → plain job t past ≡ Some s → Goes past s
  goes = run-holds job t (λ past s. Goes past s) (sym (drop-none script), λ i n lt e. absurd (omega (arith, lt)))
      (λ item past p s own here k h. own-item past p s item own k h)
      (λ item past s other here h. other-item item past s h)

  -- the act after those that are done is this one, and each `after n` among these is met
  abbrev IsNext : List Item → TaskAct → Type 0
  IsNext past a = (slice_get script (acts_done job t past) ≡ Some a) × AreAftersMet job t past

  quiet-next : (past : List Item) (p : PlainTask) (a : TaskAct) (rest : List TaskAct) → plain job t past ≡ Some p → IsQuiet p.stack → gives a ≡ true → (acts_ahead (done past) p).acts ≡ a ∷ rest → IsNext past a
  quiet-next past p a rest here quiet it next =
      let d = done past in
      let h = subst (λ (xs : List TaskAct). Through script (acts_ahead d p).gone xs d) next (through-ahead script d p.acts p.contexts p.gone (goes past p here)) in
      let is : (acts_ahead d p).gone ≡ acts_done job t past = sym (passed d a rest it p p.stack refl quiet next) ∙ passed-is job t past p here in (
        subst (λ (n : ℕ). slice_get script n ≡ Some a) is (next-act script (acts_ahead d p).gone a rest h.0).0,
        λ i n lt e. h.1 i n (omega (arith, lt, is)) e,
      )

  -- so at an Enter outside of callbacks, and at the Leave of a call of the script
  abbrev Tells : List Item → Item → Type 0
  Tells past (Enter call x f caller) = is_in_callback t past ≡ false → IsNext past (Call f)
  Tells past (Leave call) = is_scripted call past ≡ true → IsNext past RetAct
  Tells past _ = Unit {0}

  tells : (past : List Item) (p s : PlainTask) (item : Item) → plain job t past ≡ Some p → Step job (done past) p s item → Tells past item
  tells past p s item here (step_enter {f = f} {rest = rest} it quiet acts is) = λ out. quiet-next past p (Call f) rest here quiet refl acts
  tells past p s item here (step_act q g below it) = λ out.
      absurd (no-item _ _ (sym (none-passes (λ (b : Callback). b.call.task.0 == t) (callbacks past) out) ∙ (opened job t past _ here).opens))
  tells past p s item here (step_leave q f below {rest = rest} acts) = λ scripted. quiet-next past _ RetAct rest here (refl, refl) refl acts
  tells past p s item here (step_act_leave q f below) = λ scripted. false_true ((does job t past _ here).2.0 ∙ scripted)
  tells past p s item here _ = tt

  pub told-at : (past : List Item) (item : Item) → is_of t item ≡ true → IsSome (plain job t (item ∷ past)) → Tells past item
  told-at past item own some = by (plain job t (item ∷ past)) refl some
    where
      by : (o : Option PlainTask) → plain job t (item ∷ past) ≡ o → IsSome o → Tells past item
      by None e h = false_true h
      by (Some s) e h = let w = own-step job t item past s own e in tells past w.0 s item w.1 w.2

-- ## by items

module _ (job : Job) (items first rest : List Item) (call : CallNo) (legal : IsLegal job items) where
  pub at-enter : (ctx : Ctx) (f : FuncNo) (caller : Option CallNo) → items ≡ first ++ Enter call ctx f caller ∷ rest → is_in_callback call.task.0 (reverse first) ≡ false
      → IsNext job call.task.0 (reverse first) (Call f)
  at-enter ctx f caller e out =
      told-at job call.task.0 (reverse first) (Enter call ctx f caller) (==-refl call.task.0) ((splits job items first (Enter call ctx f caller) rest legal e).run call.task.0) out

  pub at-leave : items ≡ first ++ Leave call ∷ rest → is_scripted call (reverse first) ≡ true → IsNext job call.task.0 (reverse first) RetAct
  at-leave e scripted = told-at job call.task.0 (reverse first) (Leave call) (==-refl call.task.0) ((splits job items first (Leave call) rest legal e).run call.task.0) scripted

pub at-begin : (job : Job) (items first rest : List Item) (k : ℕ) → IsLegal job items → items ≡ first ++ Begin k ∷ rest → AreWaitsMet job (reverse first)
at-begin job items first rest k legal e =
    waits-met job first (legal-front job first (Begin k ∷ rest) (subst (λ (xs : List Item). IsLegal job xs) e legal)) (splits job items first (Begin k) rest legal e).commands.1
