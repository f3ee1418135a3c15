use Rattle.std.proofs.Common.{length, map, refl}
use Rattle.ft_base.specs.Job.{Job, funcs}
use Rattle.word_map.specs.Shapes.{shape_of}
use Rattle.ft_desk.specs.Declarations.{Declared, bare}
use Rattle.ft_desk.specs.DeskView.{opened}
use Rattle.ft_machine.specs.Starts.{AreListsOf}
use Rattle.ft_machine.proofs.Opening.{declared-lists}
use Rattle.ft_machine.specs.MachineStates.{limits_for}
use Rattle.ft_machine.proofs.Declared.{declares}
use Rattle.ft_machine.proofs.start.most_items.Goals as goal
use Rattle.ft_machine.proofs.start.most_items.Goals.{After-task_limits}

-- what the job's desk declares
abbrev declared_for : Job → Declared
declared_for job = record { specs = map bare job.users; funcs = funcs job; tasks = length job.tasks; tramps = job.tramps }

lists : (c : After-task_limits) → AreListsOf c.args.job.now c.ctls.result.now c.cpus.result.now c.specs.result.now c.task_limits.result
lists c =
    let job = c.args.job.now in
    rw c.task_limits.ensures
    (declared-lists job (opened (declared_for job)) c.ctls.result.now c.cpus.result.now c.specs.result.now (limits_for job) (shape_of job)
    (declares job (opened (declared_for job)) c.ctls.result.now c.cpus.result.now c.specs.result.now (limits_for job)
    c.shape-shape.ensures.limited refl (record { specs = refl; funcs = refl; tasks = refl; tramps = refl }) c.ctls.ensures c.cpus.ensures.quanta c.cpus.ensures.tasks
    c.cpus.ensures.quick c.specs.ensures refl refl))

pub most_items-requires : goal.most_items-requires
most_items-requires c = (c.args.job.now, lists (goal.at.most_items-requires c).After-task_limits)

pub returns-clause-least : goal.returns-clause-least
returns-clause-least c = c.most_items.ensures.least c.args.job.now (lists (goal.at.returns-clause-least c).After-task_limits)

pub returns-clause-most : goal.returns-clause-most
returns-clause-most c = c.most_items.ensures.most c.args.job.now (lists (goal.at.returns-clause-most c).After-task_limits)
