use Rattle.std.proofs.Common.{drop, arith}
use Rattle.std.specs.Prelude.{reverse}
use Rattle.trace_views.proofs.StackSteps.{reverse-pop, changed}
use Rattle.trace_views.proofs.stacks.Stacks.pop.Goals as goal

pub returns : goal.returns
returns g c =
    changed (λ v. reverse v.items) c.self.inside.tasks.items c.args.self.now c.self.view_is c.args.task.0 c.index_mut.result.now c.pop.new.self (λ stack. drop 1 stack) c.requires c.index_mut.ensures.value
    (reverse-pop c.index_mut.result.now.items c.pop.new.self.items c.pop.result c.pop.ensures.items
    (λ none. let empty = rw none at c.pop.ensures.cases in omega (arith, empty.1, c.pop.new.self.ok.0)))
