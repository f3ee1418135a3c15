-- The batch: its moves are the word machine's, and so is what follows each of them.
use Rattle.std.proofs.Common.{◌≡◌, ◌≢◌, ℕ, zero, suc, List, [], ◌∷◌, drop, get_or, true, refl, sym, ap, ◌∙◌}
use Rattle.ft_base.specs.Job.{Job}
use Rattle.site_bytes.specs.declared.insn.SiteChange.{SiteChange}
use Rattle.patch_core.specs.Moves.{Move, Put, Sync, Done, batch, batch_next}
use Rattle.ft_desk.specs.Plans.{PlainPlan}
use Rattle.word_machine.specs.Commands.{Effect, effect, moves}
use Rattle.word_machine.specs.Control.{after_batch, after_batch_in, batch_first, before_moves}
use Rattle.control_core.specs.Followed.{patches, plan_followed}
use Rattle.control_core.specs.Positions.{moves_left, moving_by, moving_to, plan_at, quiet_by}
use Rattle.control_core.proofs.PositionsEffects.{sites-are, sites-patch}
use Rattle.control_core.proofs.PositionsPlans.{after_batch-is}

-- the first of the moves that are left is the next one
next-left : (job : Job) (d : ℕ) (plan : PlainPlan) → after_batch job d ≡ quiet_by plan → (ms : List Move) (made : ℕ)
    → before_moves job d (drop made ms) ≡ moving_to plan (drop (suc made) ms) (get_or ms made Done)
next-left job d plan quiet [] zero = quiet
next-left job d plan quiet [] (suc made) = quiet
next-left job d plan quiet (Put w x ∷ ms) zero = refl
next-left job d plan quiet (Sync ∷ ms) zero = refl
next-left job d plan quiet (Done ∷ ms) zero = quiet
next-left job d plan quiet (m ∷ ms) (suc made) = next-left job d plan quiet ms made

module _ (job : Job) (d : ℕ) (copies : ℕ → ℕ) (order : List ℕ) where
  quiet-is : (e : Effect) → effect job d ≡ e → patches e ≡ true → after_batch job d ≡ quiet_by (plan_followed job d copies order e)
  quiet-is e is may = ap after_batch_in is ∙ after_batch-is job d copies order e may

  -- a batch that may change sites begins
  pub batch-goes : (e : Effect) → effect job d ≡ e → patches e ≡ true
      → batch_first job d ≡ moving_by (plan_followed job d copies order e) 0
  unfolding moves
  batch-goes e is may =
      ap (λ (sites : List SiteChange). before_moves job d (batch sites)) (sym (sites-are job d copies order e may))
      ∙ next-left job d (plan_followed job d copies order e) (quiet-is e is may) (batch (plan_followed job d copies order e).sites) 0

  -- and goes on, if the plan has had a move
  pub batch-goes_on : (plan : PlainPlan) → plan ≡ plan_at job d copies order → (i : ℕ) → batch_next plan.sites i ≢ Done
      → (made : ℕ) → before_moves job d (moves_left plan made) ≡ moving_by plan made
  batch-goes_on plan is i some made =
      let may : patches (effect job d) ≡ true =
      sites-patch job d copies order (effect job d) i (λ none. some (ap (λ (p : PlainPlan). batch_next p.sites i) is ∙ none)) in
      next-left job d plan (quiet-is (effect job d) refl may ∙ ap quiet_by (sym is)) (batch plan.sites) made
