-- A task whose act has begun may have changed.
use Rattle.std.proofs.Common.{◌<◌, length, ap, arith}
use Rattle.std.proofs.lemmas.List.{length-set}
use Rattle.task_core.specs.TaskNeeds.{CanBegin, HasAct}
use Rattle.task_core.specs.TaskOps.{present}
use Rattle.cpu_core.proofs.TaskChanges.{some-within, told-changed}
use Rattle.cpu_core.proofs.tasks.Tasks.begin_act.Goals as goal

pub invariant_of-self : goal.invariant_of-self
invariant_of-self c =
    let ts = c.self.inside.tasks.items in
    let lt : c.args.i < length ts =
    omega (arith, some-within c.args.self.now c.args.i (λ t. HasAct t × CanBegin t (present t)) c.requires, ap length c.self.view_is) in
    record {
      few = rw (length-set ts c.args.i c.begin_act.new.self) c.self.invariant.few;
      told = told-changed c.self.inside.told ts c.args.i c.begin_act.new.self c.self.inside.changed c.with-self-inside.result lt c.with-self-inside.ensures.old c.with-self-inside.ensures.one
          c.with-self-inside.ensures.least c.self.invariant.told;
    }
