-- One more task has told.
use Rattle.std.proofs.Common.{◌≡◌, ◌+◌, suc, ap, ◌∙◌, arith}
use Rattle.cpu_core.specs.CpuSteps.{poll_on, ticked}
use Rattle.cpu_core.proofs.TaskChanges.{begins-after, stored-told, told-after}
use Rattle.cpu_core.proofs.parts.Parts.quiet_stored.Goals as goal

pub tell-requires-2-clause-told : goal.tell-requires-2-clause-told
tell-requires-2-clause-told c = told-after c.args.request c.args.i c.args.self.now.tasks c.tell.new.self c.requires.fits.first c.tell.ensures.tasks

pub tell-requires-2-clause-act : goal.tell-requires-2-clause-act
tell-requires-2-clause-act c =
    begins-after c.args.request c.args.i c.args.self.now.tasks c.tell.new.self c.args.self.now.present c.requires.fits.act c.tell.ensures.tasks

pub returns : goal.returns
returns c =
    let d = c.args.self.now in
    let one : d.count + 1 ≡ suc d.count = omega arith in
    c.tell-2.ensures
    ∙ ap (λ n. poll_on (record d { tasks = c.tell.new.self; count = n }) c.args.request) one
    ∙ ap (λ e. poll_on e c.args.request) (stored-told (ticked d) c.args.request c.args.i c.tell.new.self c.tell.ensures.tasks)
