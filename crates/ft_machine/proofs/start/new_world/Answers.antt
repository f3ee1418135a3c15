use Rattle.std.proofs.Common.{◌≡◌, ◌∙◌, [], refl}
use Rattle.std.proofs.lemmas.Result.{IfOk-weaker}
use Rattle.word_map.specs.Shapes.{shape_of}
use Rattle.word_machine.specs.Machine.{start}
use Rattle.ft_machine.specs.Starts.{AreFirst}
use Rattle.ft_machine.specs.Worlds.{Declares, IsFor, Parts, world_of}
use Rattle.ft_machine.specs.MachineStates.{limits_for}
use Rattle.ft_machine.proofs.Declared.{declares}
use Rattle.ft_machine.proofs.start.new_world.Goals as goal
use Rattle.ft_machine.proofs.start.new_world.Goals.{After-task_limits}

map-is : (c : After-task_limits) → c.new-map.result ≡ shape_of c.args.job.now
map-is c = c.new-map.ensures ∙ c.shape.ensures.counts

declared : (c : After-task_limits)
    → Declares c.args.job.now c.in_ok-desk.desk c.in_ok-desk.ctls.now c.cpus.result.now c.specs.result.now c.task_limits.result c.new-map.result
declared c =
    rw (map-is c, c.task_limits.ensures)
    (declares c.args.job.now c.in_ok-desk.desk c.in_ok-desk.ctls.now c.cpus.result.now c.specs.result.now (limits_for c.args.job.now)
    c.shape.ensures.limited c.in_ok-desk.ensures.opened c.in_ok-desk.ensures.declared c.in_ok-desk.ensures.lines c.cpus.ensures.quanta c.cpus.ensures.tasks
    c.cpus.ensures.quick c.specs.ensures refl refl)

pub new-requires-clause-job : goal.new-requires-clause-job
new-requires-clause-job c = (c.args.job.now, declared (goal.at.new-requires-clause-job c).After-task_limits)

pub returns-clause-of : goal.returns-clause-of
returns-clause-of c =
    let d = declared (goal.at.returns-clause-of c).After-task_limits in
    IfOk-weaker c.new.result _ (λ w. IsFor c.args.job.now [] w) (λ w h. (h c.args.job.now d).0) c.new.ensures.opening

pub returns-clause-opening : goal.returns-clause-opening
returns-clause-opening c =
    let d = declared (goal.at.returns-clause-opening c).After-task_limits in
    IfOk-weaker c.new.result _ (λ w. world_of c.args.job.now [] w ≡ start c.args.job.now) (λ w h. (h c.args.job.now d).1) c.new.ensures.opening

pub returns-clause-cpus : goal.returns-clause-cpus
returns-clause-cpus c =
    let d = declared (goal.at.returns-clause-cpus c).After-task_limits in
    IfOk-weaker c.new.result _ (λ (w : Parts). AreFirst c.args.rooms c.args.job.now w.cpus) (λ w h. h c.args.job.now d) c.new.ensures.cpus
