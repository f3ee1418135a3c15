use Rattle.std.proofs.Common.{arith, ◌-◌, vec_len}
use Rattle.std.specs.Prelude.{reverse}
use Rattle.std.specs.Vec.{with_item}
use Rattle.trace_views.specs.TaskStacks.{with_top}
use Rattle.trace_views.proofs.StackSteps.{reverse-top, empty-top, changed}
use Rattle.trace_views.proofs.stacks.Stacks.set_top.Goals as goal
use Rattle.trace_views.proofs.stacks.Stacks.set_top.Goals.{in-Some, in_default}

pub returns : goal.returns
returns g c = elim c.match-last_mut.branch [
  | in-Some w ↦ rw w.self-inside-is (changed (λ v. reverse v.items) c.self.inside.tasks.items c.args.self.now c.self.view_is c.args.task.0 c.index_mut.result.now
      (with_item c.index_mut.result.now (vec_len c.index_mut.result.now - 1) c.args.x) (λ stack. with_top c.args.x stack) c.requires c.index_mut.ensures.value
      (reverse-top c.index_mut.result.now.items c.args.x (vec_len c.index_mut.result.now - 1) (omega (arith, c.index_mut.result.now.ok.0))))
  | in_default w ↦ rw w.self-inside-is (changed (λ v. reverse v.items) c.self.inside.tasks.items c.args.self.now c.self.view_is c.args.task.0 c.index_mut.result.now
      c.index_mut.result.now (λ stack. with_top c.args.x stack) c.requires c.index_mut.ensures.value
      (empty-top c.index_mut.result.now.items c.args.x (λ lt. omega (arith, lt, w.in_default.ensures.item.3))))
]
