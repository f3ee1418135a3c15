use Rattle.std.proofs.Common.{◌≡◌, List, refl, sym, ap, ◌∙◌, subst}
use Rattle.ft_base.specs.declared.limits.Limits.{Limits}
use Rattle.ft_base.specs.Versions.{limits_of}
use Rattle.user_specs.specs.declared.plan.TaskPlan.{TaskPlan}
use Rattle.cpu_core.specs.declared.parts.Parts.{Parts}
use Rattle.cpu_core.specs.declared.parts.Phase.TheVariants.{Going}
use Rattle.task_core.specs.declared.task.Task.{Task}
use Rattle.cpu_core.specs.Turns.{AreStarted, first_left}
use Rattle.cpu_core.proofs.CpuStart.{start-is, start-next}
use Rattle.cpu_core.proofs.cpu.Cpu.new.Goals as goal

module _ (c : goal.In_ok-new-2) where
  abbrev made : Parts
  made = record {
    setup = c.in_ok-new.field-0;
    cpu = c.args.cpu;
    ack = 0;
    quantum = c.args.plan.now.quantum;
    tasks = c.tasks.inside.tasks.items;
    present = c.first.result;
    count = 0;
    phase = Going;
    marked = c.in_ok-new-2.field-0;
  }

  -- the levels are those of the version
  of-version : c.of-levels.result.levels ≡ (limits_of c.args.version).levels
  of-version = ap (λ (l : Limits). l.levels) c.of-levels.ensures

  started : AreStarted c.args.frames c.of-levels.result.levels c.args.plan.now.tasks.items c.tasks.inside.tasks.items
  started = subst (λ (ts : List Task). AreStarted c.args.frames c.of-levels.result.levels c.args.plan.now.tasks.items ts) (sym c.tasks.view_is)
      (subst (λ (ps : List TaskPlan). AreStarted c.args.frames c.of-levels.result.levels ps c.in_ok-tasks.tasks) c.as_slice.ensures.value (c.in_ok-tasks.ensures {u = tt}))

  present : c.first.result ≡ first_left c.tasks.inside.tasks.items
  present = c.first.ensures ∙ ap first_left (sym c.tasks.view_is)

pub returns-clause-of : goal.returns-clause-of
returns-clause-of c = λ job limited is quick.
    start-is c.args.plan.now c.args.cpu c.args.specs.now c.args.frames c.args.version c.of-levels.result.levels c.args.map c.args.room (made c) (c.in_ok-new.ensures {u = tt}) (of-version c) refl refl refl
    (started c) (present c) refl refl (c.in_ok-new-2.ensures {u = tt}) job limited is c.requires.cpu quick

pub invariant_of-result-2 : goal.invariant_of-result-2
invariant_of-result-2 c =
    start-next c.args.plan.now c.args.cpu c.args.specs.now c.args.frames c.args.version c.of-levels.result.levels c.args.map c.args.room (made c) (c.in_ok-new.ensures {u = tt}) (of-version c) refl refl refl
    (started c) (present c) refl refl (c.in_ok-new-2.ensures {u = tt})
