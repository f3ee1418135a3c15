-- The present task's act can begin, as an act is left.
use Rattle.std.proofs.Common.{◌≡◌, length, sym, arith}
use Rattle.task_core.specs.TaskOps.{present}
use Rattle.task_core.specs.TaskSteps.{begun}
use Rattle.cpu_core.proofs.TaskChanges.{length-changed}
use Rattle.cpu_core.proofs.parts.Parts.go_on_after_poll.Goals as goal

pub begin_act-requires : goal.begin_act-requires
begin_act-requires c = (c.requires (sym c.if-is_any_left.ensures)).act

pub switch-requires : goal.switch-requires
switch-requires c =
    let can = c.requires (sym c.if-is_any_left.ensures) in
    let begins : length c.begin_act.new.self ≡ length c.args.self.now.tasks = length-changed _ _ _ _ (λ t. begun t (present t)) c.begin_act.ensures in
    omega (arith, can.present')
