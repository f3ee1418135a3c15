-- The laws of whole histories: every command has returned, and nothing is left open.
use Rattle.std.proofs.Common.{cond, ◌≡◌, ℕ, suc, ◌<◌, Bool, true, false, ◌==◌, List, [], ◌∷◌, ◌++◌, length, reverse, Option, Some, refl, sym, ap, ◌∙◌, subst, arith, inl, inr}
use Rattle.std.specs.Prelude.{IfSome, get_or}
use Rattle.std.specs.List.{list_any}
use Rattle.std.proofs.lemmas.Bool.{cases_lt}
use Rattle.ft_base.specs.declared.number.CallNo.{CallNo}
use Rattle.ft_base.specs.declared.number.FuncNo.{FuncNo}
use Rattle.ft_base.specs.declared.context.Ctx.{Ctx}
use Rattle.ft_base.specs.declared.item.Item.{Item}
use Rattle.ft_base.specs.declared.item.Item.TheVariants.{Enter}
use Rattle.ft_base.specs.Same.{same_call}
use Rattle.ft_base.specs.Job.{Job, commands, no_task}
use Rattle.ft_base.proofs.Small.{false_true, and_both, or-true, or-true_either, ==-refl}
use Rattle.ft_hist.specs.Past.{done, Callback, callbacks}
use Rattle.ft_hist.specs.Plain.{plain, PlainTask}
use Rattle.ft_hist.specs.Rules.{IsLegal, IsLegalPast, IsWhole, HasEnded}
use Rattle.ft_hist.specs.Telling.{is_begin_by, is_end_by, is_ret_of, is_return_of}
use Rattle.ft_hist.specs.Finished.{finished, calls_and_returns}
use Rattle.ft_hist.proofs.Splitting.{split-reverse, legal-older}
use Rattle.ft_hist.proofs.Numbers.{some-run}
use Rattle.ft_hist.proofs.RunLaws.{some_inj, same_call-eq, calls_on}
use Rattle.ft_hist.proofs.Nesting.{stands-through, entering}
use Rattle.ft_hist.proofs.Carries.{of_task}
use Rattle.ft_hist.proofs.OpenBacks.{opened}
use Rattle.ft_hist.proofs.OpenCallbacks.{stranger}
use Rattle.ft_hist.proofs.ByItems.{any-reverse, opened-since, opened-now, is_open_by}
use Rattle.ft_hist.proofs.Orders.{has-return}
use Rattle.ft_hist.proofs.Finishing.{finished-all}

module _ (job : Job) (items : List Item) (whole : IsWhole job items) where
  legal-past : IsLegalPast job (reverse items)
  unfolding IsLegal
  legal-past = whole.legal

  -- each command has its Return
  pub all-return : (k : ℕ) → k < length (commands job) → list_any (is_return_of (suc k)) items ≡ true
  all-return k lt = sym (any-reverse (is_return_of (suc k)) items) ∙ has-return job (reverse items) k legal-past (let all = whole.returned in omega (arith, lt, all))

  -- each task has finished all calls and returns of its script
  pub all-finished : (t : ℕ) → t < length job.tasks → finished t (reverse items) ≡ calls_and_returns (get_or job.tasks t no_task).acts
  all-finished t within =
      let r = some-run job t (reverse items) legal-past in
      finished-all job t (reverse items) r.0 r.1 (subst (λ (o : Option PlainTask). IfSome o (HasEnded (done (reverse items)))) r.1 (whole.tasks t within))

  -- no task has a call on its stack
  pub empty-stack : (t : ℕ) → (s : PlainTask) × (plain job t (reverse items) ≡ Some s) × (s.stack ≡ [])
  empty-stack t =
      let r = some-run job t (reverse items) legal-past in
      elim (cases_lt t (length job.tasks)) [
        | inl within ↦ (r.0, r.1, (subst (λ (o : Option PlainTask). IfSome o (HasEnded (done (reverse items)))) r.1 (whole.tasks t within)).1)
        | inr beyond ↦ (
            let s = stranger job t (let b = beyond in omega (arith, b)) (reverse items) r.0 r.1 in
            (r.0, r.1, ap (λ (p : PlainTask). p.stack) s.0)
            )
      ]

  -- so each call has returned
  pub all-returned : (a b : List Item) (call : CallNo) (ctx : Ctx) (f : FuncNo) (caller : Option CallNo) → items ≡ a ++ Enter call ctx f caller ∷ b → list_any (is_ret_of call) b ≡ true
  unfolding IsLegalPast
  all-returned a b call ctx f caller e = by (list_any (is_ret_of call) b) refl
    where
      nothing : {A : Type 0} (xs : List CallNo) (c : CallNo) (ys : List CallNo) → xs ++ c ∷ ys ≡ [] → A
      nothing [] c ys q = absurd cc
      nothing (x ∷ xs) c ys q = absurd cc

      by : (x : Bool) → list_any (is_ret_of call) b ≡ x → list_any (is_ret_of call) b ≡ true
      by true q = q
      by false q =
          let past_is : reverse items ≡ reverse b ++ Enter call ctx f caller ∷ reverse a = ap (λ (xs : List Item). reverse xs) e ∙ split-reverse a (Enter call ctx f caller) b in
          let legal = subst (λ past. IsLegalPast job past) past_is legal-past in
          let en = entering job call ctx f caller (reverse a) (legal-older job (reverse b) (Enter call ctx f caller ∷ reverse a) legal) in
          let over = stands-through job call (calls_on en.run.stack) (reverse b) (Enter call ctx f caller ∷ reverse a) legal (any-reverse (is_ret_of call) b ∙ q) en.stands in
          let empty = empty-stack call.task.0 in
          let same : over.run ≡ empty.0 = some_inj over.run empty.0 (sym over.is ∙ subst (λ past. plain job call.task.0 past ≡ Some empty.0) past_is empty.1) in
          let none : over.upper ++ call ∷ calls_on en.run.stack ≡ [] = sym over.stack ∙ ap (λ (p : PlainTask). calls_on p.stack) same ∙ ap calls_on empty.2 in
          nothing over.upper call (calls_on en.run.stack) none

  own-callbacks : (call : CallNo) (u : ℕ) (bs : List Callback) → list_any (is_open_by call u) bs ≡ true → list_any (is_open_by call u) (of_task call.task.0 bs) ≡ true
  own-callbacks call u [] h = h
  own-callbacks call u (b ∷ bs) h = elim (or-true_either (is_open_by call u b) (list_any (is_open_by call u) bs) h) [
    | inl x ↦ (
        let is : b.call ≡ call = same_call-eq b.call call (and_both (same_call b.call call) (b.user == u) x).0 in
        let task : (b.call.task.0 == call.task.0) ≡ true = subst (λ (c : CallNo). (c.task.0 == call.task.0) ≡ true) (sym is) (==-refl call.task.0) in
        rw task (rw x refl)
        )
    | inr x ↦ later (b.call.task.0 == call.task.0) (own-callbacks call u bs x)
  ]
    where
      later : (e : Bool) → list_any (is_open_by call u) (of_task call.task.0 bs) ≡ true → list_any (is_open_by call u) (cond e (b ∷ of_task call.task.0 bs) (of_task call.task.0 bs)) ≡ true
      later true q = rw q (or-true (is_open_by call u b))
      later false q = q

  -- and each callback has ended
  pub all-ended : (a b : List Item) (x : Item) (call : CallNo) (u : ℕ) → items ≡ a ++ x ∷ b → is_begin_by call u x ≡ true → list_any (is_end_by call u) b ≡ true
  all-ended a b x call u e begins = by (list_any (is_end_by call u) b) refl
    where
      by : (y : Bool) → list_any (is_end_by call u) b ≡ y → list_any (is_end_by call u) b ≡ true
      by true q = q
      by false q =
          let past_is : reverse items ≡ reverse b ++ x ∷ reverse a = ap (λ (xs : List Item). reverse xs) e ∙ split-reverse a x b in
          let still : list_any (is_open_by call u) (callbacks (reverse items)) ≡ true =
          subst (λ past. list_any (is_open_by call u) (callbacks past) ≡ true) (sym past_is) (opened-since call u (reverse b) (x ∷ reverse a) (any-reverse (is_end_by call u) b ∙ q) (opened-now call u x (reverse a) begins)) in
          let empty = empty-stack call.task.0 in
          let none = rw empty.2 at (opened job call.task.0 (reverse items) empty.0 empty.1).opens in
          let there = own-callbacks call u (callbacks (reverse items)) still in
          false_true (rw none at there)
