-- What a plan leads to: after the Begin, after the batch and after the wait, the word machine goes on as the plan says.
use Rattle.std.proofs.Common.{◌≡◌, ℕ, suc, true, List, Option, Some, None, refl}
use Rattle.std.specs.Prelude.{is_some}
use Rattle.ft_base.specs.Job.{Job}
use Rattle.ft_desk.specs.declared.plan.TrampChange.TheVariants.{Keep as KeepTramp}
use Rattle.ft_desk.specs.Plans.{PlainPlan, given_by, taken_by}
use Rattle.word_machine.specs.Commands.{Effect, Adds, Removes, Edits, state_of, subject}
use Rattle.word_machine.specs.Control.{after_batch_in, begin_in, release_or, released_in, take_or}
use Rattle.control_core.specs.Followed.{patches, plan_followed}
use Rattle.control_core.specs.Positions.{begun_by, begun_to, quiet_by, released_by, released_to}

-- a user takes the trampoline that it has got
take-is : (job : Job) (plan : PlainPlan) (slot : Option ℕ) (reg : ℕ) → plan.pair ≡ true
    → take_or job (is_some slot) ≡ begun_to job plan (taken_by slot reg KeepTramp)
take-is job plan None reg e = rw e refl
take-is job plan (Some s) reg e = refl

-- and gives back the one that it had
release-is : (slot : Option ℕ) → release_or (is_some slot) ≡ released_to (given_by slot KeepTramp)
release-is None = refl
release-is (Some s) = refl

module _ (job : Job) (d : ℕ) (copies : ℕ → ℕ) (order : List ℕ) where
  -- after the Begin
  pub begin-is : (e : Effect) → begin_in job d e ≡ begun_by job (plan_followed job d copies order e)
  begin-is Adds =
      take-is job (plan_followed job d copies order Adds) (state_of job (suc d) (subject job d)).slot
      (state_of job (suc d) (subject job d)).reg refl
  begin-is Removes = elim (state_of job d (subject job d)).slot as (λ slot. begin_in job d Removes
      ≡ begun_to job (plan_followed job d copies order Removes) (given_by slot KeepTramp)) [ None ↦ refl | Some s ↦ refl ]
  begin-is _ = refl

  -- after a batch
  pub after_batch-is : (e : Effect) → patches e ≡ true → after_batch_in e ≡ quiet_by (plan_followed job d copies order e)
  after_batch-is Adds is = refl
  after_batch-is Removes is = refl
  after_batch-is Edits is = refl
  after_batch-is _ is = absurd cc

  -- after the wait for quiet points
  pub released-is : (e : Effect) → released_in job d e ≡ released_by (plan_followed job d copies order e)
  released-is Adds = elim (state_of job (suc d) (subject job d)).slot as (λ slot. released_in job d Adds
      ≡ released_to (taken_by slot (state_of job (suc d) (subject job d)).reg KeepTramp)) [ None ↦ refl | Some s ↦ refl ]
  released-is Removes = release-is (state_of job d (subject job d)).slot
  released-is _ = refl
