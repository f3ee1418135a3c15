-- Each part is that of the machine before its first step.
use Rattle.ft_machine.specs.Worlds.{Parts}
use Rattle.ft_machine.proofs.Opening.{declared-plans, few-lines, opens, opens-running}
use Rattle.ft_machine.proofs.world.World.new.Goals as goal

pub new-requires-2 : goal.new-requires-2
new-requires-2 c = record {
  desk = c.requires.job.1.desk';
  declared = c.requires.declared;
  lines = c.requires.lines;
  few = few-lines c.requires.job.0 c.args.desk c.args.ctls.now c.args.plans.now c.args.specs.now c.args.limits c.args.map c.requires.job.1;
}

pub new_cpus-requires : goal.new_cpus-requires
new_cpus-requires c = (
  c.requires.job.0,
  declared-plans c.requires.job.0 c.args.desk c.args.ctls.now c.args.plans.now c.args.specs.now c.args.limits c.args.map c.requires.job.1,
)

module _ (c : goal.In_ok-cpus) where
  abbrev made : Parts
  made = record {
    shape = c.args.map;
    words = c.in_ok-table.table;
    control = c.in_ok-control.control;
    cpus = c.in_ok-cpus.cpus.items;
  }

pub returns-clause-opening : goal.returns-clause-opening
returns-clause-opening c =
    opens (made c) c.all_tasks.result c.args.desk c.args.ctls.now c.args.plans.now c.args.specs.now c.args.limits c.args.rooms c.all_tasks.ensures
    (c.in_ok-table.ensures {u = tt}) c.in_ok-control.ensures.shape c.in_ok-control.ensures.desk c.in_ok-control.ensures.lines
    c.in_ok-control.ensures.opening (c.in_ok-cpus.ensures {u = tt})

pub returns-clause-control : goal.returns-clause-control
returns-clause-control c = (c.in_ok-control.ensures.opening, c.in_ok-control.ensures.all)

pub returns-clause-cpus : goal.returns-clause-cpus
returns-clause-cpus c = λ job h.
    c.in_ok-cpus.ensures {u = tt} job (declared-plans job c.args.desk c.args.ctls.now c.args.plans.now c.args.specs.now c.args.limits c.args.map h)

pub invariant_of-result : goal.invariant_of-result
invariant_of-result c = record {
  running = opens-running (made c) c.all_tasks.result c.args.desk c.args.ctls.now c.args.plans.now c.args.specs.now c.args.limits c.args.rooms c.all_tasks.ensures
      (c.in_ok-table.ensures {u = tt}) c.in_ok-control.ensures.shape c.in_ok-control.ensures.desk c.in_ok-control.ensures.lines
      c.in_ok-control.ensures.opening (c.in_ok-cpus.ensures {u = tt}) c.requires.job.0 c.requires.job.1;
}
