-- A desk that is the job's answers as the job's does, and is then the job's next desk.
use Rattle.std.proofs.Common.{cond, ◌≡◌, ℕ, suc, Bool, true, false, Some, refl, sym, ap, ap₂, ◌∙◌}
use Rattle.std.specs.Prelude.{slice_get}
use Rattle.ft_base.specs.Job.{Job, Command, commands}
use Rattle.ft_base.specs.Desk.{Desk, desk, after, answer_on, changed, is_accepted}
use Rattle.ft_base.proofs.DeskLaws.{desk-suc}
use Rattle.ft_desk.specs.Declarations.{IsOf, job_of}
use Rattle.ft_desk.specs.DeskView.{DeskView, answer, after_command, carried_out, turned_down}
use Rattle.ft_desk.proofs.JobLaws.{answer-is, next-is}

module _ (job : Job) (s : DeskView) (d : ℕ) (c : Command) (is : IsOf job s.declared) (same : s.state ≡ desk job d) where
  -- the answer is that of the job's desk
  pub answers : answer s c ≡ answer_on job (desk job d) c
  answers = answer-is job s.declared is s.state c ∙ ap (λ (D : Desk). answer_on job D c) same

  -- what is seen after a command that the job's desk accepts, and after one that it refuses
  pub if_accepted : is_accepted (answer_on job (desk job d) c) ≡ true → after_command s c ≡ carried_out s c
  if_accepted e = ap (λ b. cond b (carried_out s c) (turned_down s)) (ap is_accepted answers ∙ e)

  pub if_refused : is_accepted (answer_on job (desk job d) c) ≡ false → after_command s c ≡ turned_down s
  if_refused e = ap (λ b. cond b (carried_out s c) (turned_down s)) (ap is_accepted answers ∙ e)

  module _ (given : slice_get (commands job) d ≡ Some c) where
    -- the job's next desk
    next_by : (b : Bool) → is_accepted (answer_on job (desk job d) c) ≡ b
        → desk job (suc d) ≡ cond b (changed job (desk job d) (suc d) c) (desk job d)
    next_by b e =
        desk-suc job d
        ∙ ap (after job (desk job d) (suc d)) given
        ∙ ap (λ x. cond x (changed job (desk job d) (suc d) c) (desk job d)) e

    module _ (count : s.commands ≡ d) where
      -- the desk that an accepted command makes
      pub next-same : is_accepted (answer_on job (desk job d) c) ≡ true
          → changed (job_of s.declared) s.state (suc s.commands) c ≡ desk job (suc d)
      next-same e =
          next-is job s.declared is s.state (suc s.commands) c
          ∙ ap₂ (λ (D : Desk) k. changed job D (suc k) c) same count
          ∙ sym (next_by true e)

      -- the desk after the command, accepted or not
      pub state-same : (after_command s c).state ≡ desk job (suc d)
      state-same = by (is_accepted (answer_on job (desk job d) c)) refl
        where
          by : (b : Bool) → is_accepted (answer_on job (desk job d) c) ≡ b → (after_command s c).state ≡ desk job (suc d)
          by true e = ap (λ (t : DeskView). t.state) (if_accepted e) ∙ next-same e
          by false e = ap (λ (t : DeskView). t.state) (if_refused e) ∙ same ∙ sym (next_by false e)
