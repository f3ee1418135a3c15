use Rattle.std.proofs.Common.{◌∷◌, ◌∙◌, sym}
use Rattle.std.specs.Prelude.{reverse}
use Rattle.std.specs.Result.{is_ok}
use Rattle.trace_views.proofs.Results.{on_ok_if}
use Rattle.trace_views.proofs.StackSteps.{reverse-pushed, changed}
use Rattle.trace_views.proofs.stacks.Stacks.push.Goals as goal

pub returns : goal.returns
returns g c =
    on_ok_if c.map_err.result
    (λ done. changed (λ v. reverse v.items) c.self.inside.tasks.items c.args.self.now c.self.view_is c.args.task.0 c.index_mut.result.now c.push.new.self (λ stack. c.args.x ∷ stack) c.requires c.index_mut.ensures.value
    (reverse-pushed c.index_mut.result.now.items c.push.new.self.items c.args.x (is_ok c.push.result) (sym c.map_err.ensures.variant ∙ done) c.push.ensures.items))
