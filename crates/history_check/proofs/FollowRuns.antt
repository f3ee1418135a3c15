-- What one more item does to the tasks' plain runs: none goes back, and a task that the job doesn't have has no item.
use Rattle.std.proofs.Common.{cond, ◌≡◌, ℕ, ◌≤◌, Bool, true, false, List, ◌∷◌, Option, Some, None, refl, arith}
use Rattle.std.specs.Prelude.{IfSome, IsSome, length}
use Rattle.std.specs.List.{AllByRecursion as Each}
use Rattle.ft_base.specs.declared.item.Item.{Item}
use Rattle.ft_base.specs.Job.{Job}
use Rattle.ft_base.proofs.Small.{Each-weaker, false_true}
use Rattle.ft_hist.specs.Past.{is_of}
use Rattle.ft_hist.specs.Plain.{PlainTask, at_start, plain}
use Rattle.ft_hist.specs.Rules.{acts_passed}
use Rattle.ft_hist.proofs.Finishing.{passed-is, acts_done-more}
use Rattle.ft_hist.proofs.OpenCallbacks.{no-item}
use Rattle.history_check.specs.JudgePast.{IsMet}
use Rattle.history_check.proofs.OpenStacks.{run-of}

always : {A : Type 0} (b : Bool) (x : A) → cond b x x ≡ x
always true x = refl
always false x = refl

-- a run that was lost stays so
lost : (job : Job) (t : ℕ) (item : Item) (past : List Item) → plain job t past ≡ None → plain job t (item ∷ past) ≡ None
unfolding plain
lost job t item past e = rw e (always (is_of t item) None)

module _ (job : Job) (past : List Item) (item : Item) (goes : (t : ℕ) → IsSome (plain job t (item ∷ past))) where
  -- a wait that was met stays so
  still-met : (w : ℕ × ℕ) → IsMet job past w → IsMet job (item ∷ past) w
  still-met w met = by (plain job w.0 past) refl met
    where
      by : (o : Option PlainTask) → plain job w.0 past ≡ o → IfSome o (λ s. w.1 ≤ acts_passed s) → IsMet job (item ∷ past) w
      by None here le = rw (lost job w.0 item past here) tt
      by (Some p) here le =
          let n = run-of job w.0 (item ∷ past) (goes w.0) in
          let a = passed-is job w.0 past p here in
          let b = passed-is job w.0 (item ∷ past) n.0 n.1 in
          let more = acts_done-more job w.0 item past in
          let after : w.1 ≤ acts_passed n.0 = omega (arith, a, b, more, le) in
          rw n.1 after

  pub all-met : (ws : List (ℕ × ℕ)) → Each (IsMet job past) ws → Each (IsMet job (item ∷ past)) ws
  all-met ws h = Each-weaker (IsMet job past) (IsMet job (item ∷ past)) ws still-met h

-- ## tasks

-- an item is of no task that the job doesn't have
pub of-job : (job : Job) (past : List Item) (item : Item) (t : ℕ) → length job.tasks ≤ t → plain job t past ≡ Some (at_start job t) → IsSome (plain job t (item ∷ past)) → is_of t item ≡ false
of-job job past item t over here some = by (is_of t item) refl (plain job t (item ∷ past)) refl some
  where
    by : (b : Bool) → is_of t item ≡ b → (o : Option PlainTask) → plain job t (item ∷ past) ≡ o → IsSome o → is_of t item ≡ false
    by false e o run h = e
    by true e None run h = false_true h
    by true e (Some s) run h = absurd (no-item job t over item past s e run)
