use Rattle.std.proofs.Common.{◌==◌, map, sym, ◌∙◌}
use Rattle.script_waits.specs.Tasks.{LinedTask, lined_task}
use Rattle.ft_script.proofs.LookUps.{position_map}
use Rattle.ft_script.proofs.reader.find.task_number.Goals as goal

pub returns-clause-place : goal.returns-clause-place
returns-clause-place c =
    c.task_place.ensures.place
    ∙ sym (position_map (λ (plan : LinedTask). plan.pid == c.args.pid) lined_task c.args.tasks.now)
    ∙ sym (position_map (λ p. p == c.args.pid) (λ (plan : LinedTask). plan.pid) (map lined_task c.args.tasks.now))
