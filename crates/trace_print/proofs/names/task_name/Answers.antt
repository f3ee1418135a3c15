use Rattle.std.proofs.Common.{◌≡◌, ℕ, Option, refl, sym, ap, ◌∙◌}
use Rattle.std.specs.Prelude.{unwrap_or, option_map}
use Rattle.ft_base.specs.declared.number.CpuNo.{CpuNo}
use Rattle.ft_base.specs.Job.{Task}
use Rattle.trace_views.specs.declared.named.TaskName.{TaskName}
use Rattle.trace_print.specs.TaskNames.{name_at}
use Rattle.trace_print.proofs.TaskLookups.{number-or}
use Rattle.trace_print.proofs.names.task_name.Goals as goal

abbrev named : ℕ → ℕ → TaskName
named pid cpu = record { pid = pid; cpu = cpu }

both : (pid cpu : ℕ) (name : TaskName) → pid ≡ name.pid → cpu ≡ name.cpu → named pid cpu ≡ name
both pid cpu name e f = ap (λ p. named p cpu) e ∙ ap (λ x. named name.pid x) f

pub returns-in-Some : goal.returns-in-Some
returns-in-Some c =
    both _ _ (name_at c.args.job.now c.args.task.0)
    (c.unwrap_or.ensures ∙ ap (λ (o : Option ℕ). unwrap_or o 0) c.pid.ensures ∙ number-or (λ (t : Task). t.pid) c.args.job.now.tasks c.args.task.0 refl)
    (ap (λ (o : Option CpuNo). unwrap_or (option_map (λ (x : CpuNo). x.0) o) 0) (sym c.in-Some.is)
    ∙ ap (λ (o : Option ℕ). unwrap_or o 0) c.cpu.ensures ∙ number-or (λ (t : Task). t.cpu) c.args.job.now.tasks c.args.task.0 refl)

pub returns-in-None : goal.returns-in-None
returns-in-None c =
    both _ _ (name_at c.args.job.now c.args.task.0)
    (c.unwrap_or.ensures ∙ ap (λ (o : Option ℕ). unwrap_or o 0) c.pid.ensures ∙ number-or (λ (t : Task). t.pid) c.args.job.now.tasks c.args.task.0 refl)
    (ap (λ (o : Option CpuNo). unwrap_or (option_map (λ (x : CpuNo). x.0) o) 0) (sym c.in-None.is)
    ∙ ap (λ (o : Option ℕ). unwrap_or o 0) c.cpu.ensures ∙ number-or (λ (t : Task). t.cpu) c.args.job.now.tasks c.args.task.0 refl)
