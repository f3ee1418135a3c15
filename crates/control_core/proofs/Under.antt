-- In a command of the job: the plan, the desk, the list and the copies are the word machine's.
use Rattle.std.proofs.Common.{◌≡◌, ℕ, zero, suc, List, [], ◌∷◌, length, drop, Some, None, refl, ap, ◌∙◌, subst}
use Rattle.std.specs.Prelude.{All, slice_get}
use Rattle.std.proofs.lemmas.Option.{get_or_from_slice_get, slice_get_within}
use Rattle.ft_base.specs.Job.{Job, Command, Ctl, Run, Until}
use Rattle.ft_base.specs.Desk.{desk}
use Rattle.ft_base.specs.WellFormed.{IsNamed, IsNamedIn}
use Rattle.word_map.specs.declared.shape.Shape.{Shape}
use Rattle.word_map.specs.Words.{at_put}
use Rattle.word_map.specs.Shapes.{shape_of}
use Rattle.ft_desk.specs.Declarations.{IsOf}
use Rattle.ft_desk.specs.DeskView.{DeskView}
use Rattle.word_machine.specs.Commands.{command, effect, subject}
use Rattle.word_machine.specs.Control.{answer_in, copy_after, line_op}
use Rattle.word_machine.specs.Values.{copies_in}
use Rattle.control_core.specs.Followed.{order_followed}
use Rattle.control_core.specs.Positions.{plan_at}
use Rattle.control_core.specs.Lines.{IsNamedLine}
use Rattle.control_core.specs.Seated.{Seated, IsFor, IsUnder}
use Rattle.control_core.specs.ControlInvariant.{IsSafe}
use Rattle.control_core.specs.Steps.{line_next}
use Rattle.control_core.proofs.Copies.{copies-named}
use Rattle.ft_desk.proofs.NextDesk.{state-same}
use Rattle.control_core.proofs.Desks.{answer-same}
use Rattle.control_core.proofs.Plans.{order-same, plan-same}

-- ## lines and commands

-- the lines from the present one on
pub drop-at : (xs : List Ctl) (i : ℕ) (l : Ctl) → slice_get xs i ≡ Some l → drop i xs ≡ l ∷ drop (suc i) xs
drop-at [] i l e = absurd cc
drop-at (x ∷ xs) zero l e = ap (λ y. y ∷ xs) cc
drop-at (x ∷ xs) (suc i) l e = drop-at xs i l e

pub drop-past : (xs : List Ctl) (i : ℕ) → slice_get xs i ≡ None → drop i xs ≡ []
drop-past [] zero e = refl
drop-past [] (suc i) e = refl
drop-past (x ∷ xs) zero e = absurd cc
drop-past (x ∷ xs) (suc i) e = drop-past xs i e

-- the operation at a line
pub line-next : (done : ℕ) (xs : List Ctl) (i : ℕ) → line_next done (slice_get xs i) ≡ line_op done (drop i xs)
line-next done [] zero = refl
line-next done [] (suc i) = refl
line-next done (Run x ∷ xs) zero = refl
line-next done (Until t n ∷ xs) zero = refl
line-next done (x ∷ xs) (suc i) = line-next done xs i

-- the user of a command is one of the job's
named-by : (job : Job) (users : ℕ) → users ≡ length job.users → (x : Command) → IsNamedIn users x → IsNamed job x
named-by job users e x h = subst (λ n. IsNamedIn n x) e h

at-line : (users : ℕ) (xs : List Ctl) (i : ℕ) (y : Ctl) → All (IsNamedLine users) xs → slice_get xs i ≡ Some y → IsNamedLine users y
at-line users xs i y all e = subst (IsNamedLine users) (get_or_from_slice_get xs i y y e) (all i y (slice_get_within xs i y e))

-- ## in a command

-- what holds of control in a job at each phase
pub record Base (job : Job) (c : Seated) : Type 0 where
  pub shape : c.shape ≡ shape_of job
  pub declared : IsOf job c.before.declared
  pub before : c.before.state ≡ desk job c.commands_done
  pub numbered : c.before.commands ≡ c.commands_done
  pub named : All (IsNamedLine c.shape.users) c.lines
  pub copied : length c.before.copies ≡ c.shape.users

pub base-of : (job : Job) (c : Seated) → IsSafe c → IsFor job c → Base job c
base-of job c safe is = record {
  shape = is.shape;
  declared = is.declared;
  before = is.before;
  numbered = is.numbered;
  named = safe.named;
  copied = safe.copied;
}

module _ (job : Job) (c : Seated) (is : Base job c) (u : IsUnder job c) where
  pub plan-is : c.desk.plan ≡ plan_at job c.commands_done (copies_in c.before.copies) c.before.order
  plan-is =
      ap (λ (t : DeskView). t.plan) u.4
      ∙ plan-same job c.before c.commands_done u.0 is.declared is.before u.1 is.numbered

  pub state-is : c.desk.state ≡ desk job (suc c.commands_done)
  state-is =
      ap (λ (t : DeskView). t.state) u.4
      ∙ state-same job c.before c.commands_done u.0 is.declared is.before u.1 is.numbered

  pub order-is : c.desk.order ≡ order_followed (subject job c.commands_done) c.before.order (effect job c.commands_done)
  order-is =
      ap (λ (t : DeskView). t.order) u.4
      ∙ order-same job c.before c.commands_done u.0 is.declared is.before u.1

  pub copies-is : copies_in c.desk.copies ≡ at_put (copies_in c.before.copies) (subject job c.commands_done)
      (copy_after (effect job c.commands_done) (copies_in c.before.copies (subject job c.commands_done)))
  copies-is =
      let users : c.shape.users ≡ length job.users = ap (λ (s : Shape). s.users) is.shape in
      ap (λ (t : DeskView). copies_in t.copies) u.4
      ∙ copies-named job c.before c.commands_done u.0
      (named-by job c.shape.users users u.0 (at-line c.shape.users c.lines c.line (Run u.0) is.named u.2))
      is.declared is.before u.1 (is.copied ∙ users)

  pub answer-is : c.answer ≡ answer_in job c.commands_done (command job c.commands_done)
  answer-is = u.3 ∙ answer-same job c.before c.commands_done u.0 is.declared is.before u.1
