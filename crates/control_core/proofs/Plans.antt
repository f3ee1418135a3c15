-- The plan of a command has what the word machine stores for it, and the list of users is then the machine's.
use Rattle.std.proofs.Common.{◌≡◌, ℕ, suc, Bool, true, false, List, length, Some, refl, ◌∙◌}
use Rattle.ft_base.specs.Job.{Job, Command, Register, Unregister, Filter, Notrace, Pid, NoPid, Enable, Disable, MaxDepth, funcs}
use Rattle.ft_base.specs.Order.{order_after}
use Rattle.ft_base.specs.Desk.{Desk, desk, user_at, answer_on, is_accepted}
use Rattle.ft_desk.specs.Declarations.{IsOf}
use Rattle.ft_desk.specs.Plans.{edit_plan, plan_by}
use Rattle.ft_desk.specs.DeskView.{DeskView, after_command}
use Rattle.word_machine.specs.Commands.{Nothing, edits_or, command, effect, effect_by, subject, subject_of}
use Rattle.word_machine.specs.Values.{copies_in}
use Rattle.control_core.specs.Followed.{order_followed, plan_followed}
use Rattle.ft_desk.proofs.NextDesk.{if_accepted, if_refused, next-same}

-- ## the command of the job

module _ (job : Job) (d : ℕ) (c : Command) (given : command job d ≡ Some c) where
  -- its user, and its effect if it is accepted and if it is refused
  pub subject-is : subject job d ≡ subject_of c
  subject-is = rw given refl

  pub effect_if_accepted : is_accepted (answer_on job (desk job d) c) ≡ true → effect job d ≡ effect_by (desk job d) c
  effect_if_accepted e = rw (given, e) refl

  pub effect_if_refused : is_accepted (answer_on job (desk job d) c) ≡ false → effect job d ≡ Nothing
  effect_if_refused e = rw (given, e) refl

-- ## an accepted command

module _ (job : Job) (d : ℕ) (copies : ℕ → ℕ) (order : List ℕ) where
  -- an edit of a user, registered or not
  edits : (u : ℕ) → subject job d ≡ u → (b : Bool)
      → edit_plan (desk job d) (desk job (suc d)) (funcs job) u (copies u) b ≡ plan_followed job d copies order (edits_or b)
  edits u e true = rw e refl
  edits u e false = refl

  -- the plan of each command is that of its effect
  plan-accepted : (c : Command) → subject job d ≡ subject_of c
      → plan_by (desk job d) (desk job (suc d)) (funcs job) (length job.tasks) copies order c
      ≡ plan_followed job d copies order (effect_by (desk job d) c)
  plan-accepted (Register u) e = rw e refl
  plan-accepted (Unregister u) e = rw e refl
  plan-accepted (Filter u x) e = edits u e (user_at (desk job d) u).registered
  plan-accepted (Notrace u x) e = edits u e (user_at (desk job d) u).registered
  plan-accepted (Pid pids) e = refl
  plan-accepted (NoPid nopids) e = refl
  plan-accepted (Enable u) e = rw e refl
  plan-accepted (Disable u) e = rw e refl
  plan-accepted (MaxDepth depth) e = refl

-- the list of users after each command is that after its effect
module _ (order : List ℕ) where
  order-edited : (u : ℕ) (b : Bool) → order ≡ order_followed u order (edits_or b)
  order-edited u true = refl
  order-edited u false = refl

  order-accepted : (D : Desk) (c : Command) → order_after order c ≡ order_followed (subject_of c) order (effect_by D c)
  order-accepted D (Filter u x) = order-edited u (user_at D u).registered
  order-accepted D (Notrace u x) = order-edited u (user_at D u).registered
  order-accepted D _ = refl

-- ## what the desk has after the command

module _ (job : Job) (s : DeskView) (d : ℕ) (c : Command) (is : IsOf job s.declared) (same : s.state ≡ desk job d)
    (given : command job d ≡ Some c) where
  pub plan-same : s.commands ≡ d → (after_command s c).plan ≡ plan_followed job d (copies_in s.copies) s.order (effect job d)
  plan-same count = by (is_accepted (answer_on job (desk job d) c)) refl
    where
      by : (b : Bool) → is_accepted (answer_on job (desk job d) c) ≡ b
          → (after_command s c).plan ≡ plan_followed job d (copies_in s.copies) s.order (effect job d)
      by true e =
          let next = next-same job s d c is same given count e in
          rw (if_accepted job s d c is same e, effect_if_accepted job d c given e)
          ((λ i. plan_by (same i) (next i) (is.funcs i) (is.tasks i) (copies_in s.copies) s.order c)
          ∙ plan-accepted job d (copies_in s.copies) s.order c (subject-is job d c given))
      by false e = rw (if_refused job s d c is same e, effect_if_refused job d c given e) refl

  pub order-same : (after_command s c).order ≡ order_followed (subject job d) s.order (effect job d)
  order-same = by (is_accepted (answer_on job (desk job d) c)) refl
    where
      by : (b : Bool) → is_accepted (answer_on job (desk job d) c) ≡ b
          → (after_command s c).order ≡ order_followed (subject job d) s.order (effect job d)
      by true e =
          rw (if_accepted job s d c is same e, effect_if_accepted job d c given e, subject-is job d c given)
          (order-accepted s.order (desk job d) c)
      by false e = rw (if_refused job s d c is same e, effect_if_refused job d c given e) refl
