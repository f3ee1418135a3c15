-- If none is to tell, the tasks are as they were.
use Rattle.std.proofs.Common.{◌≡◌, true, sym, ap, ◌∙◌, subst}
use Rattle.cpu_core.specs.CpuNeeds.{CanBeginAct}
use Rattle.cpu_core.specs.CpuSteps.{after_poll, telling}
use Rattle.cpu_core.specs.Turns.{any_left}
use Rattle.cpu_core.proofs.parts.Parts.tell.Goals as goal

pub go_on_after_poll-requires : goal.go_on_after_poll-requires
go_on_after_poll-requires c = subst (λ ts. any_left ts ≡ true → CanBeginAct ts c.args.self.now.present) (sym c.note_told.ensures) c.requires.act

pub returns-in-None : goal.returns-in-None
returns-in-None c =
    c.go_on_after_poll.ensures
    ∙ ap (λ ts. after_poll (record c.args.self.now { tasks = ts })) c.note_told.ensures
    ∙ ap (λ o. telling c.args.self.now c.args.request o) (sym c.in-None.is ∙ c.first_untold.ensures)
