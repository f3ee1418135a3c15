-- A desk that is the job's answers as the machine does.
use Rattle.std.proofs.Common.{◌≡◌, ℕ, Some, sym, ap, ◌∙◌}
use Rattle.ft_base.specs.Job.{Job, Command}
use Rattle.ft_base.specs.Desk.{desk}
use Rattle.ft_desk.specs.Declarations.{IsOf}
use Rattle.ft_desk.specs.DeskView.{DeskView, answer}
use Rattle.ft_desk.proofs.NextDesk.{answers}
use Rattle.word_machine.specs.Commands.{command}
use Rattle.word_machine.specs.Control.{answer_in}

pub answer-same : (job : Job) (s : DeskView) (d : ℕ) (c : Command) → IsOf job s.declared → s.state ≡ desk job d → command job d ≡ Some c
    → answer s c ≡ answer_in job d (command job d)
answer-same job s d c is same given = answers job s d c is same ∙ sym (ap (answer_in job d) given)
