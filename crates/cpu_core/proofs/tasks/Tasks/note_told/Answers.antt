-- Each task has told.
use Rattle.std.proofs.Common.{◌≡◌, None, subst, sym}
use Rattle.cpu_core.specs.Turns.{first_untold}
use Rattle.cpu_core.proofs.TaskChanges.{told-all}
use Rattle.cpu_core.proofs.tasks.Tasks.note_told.Goals as goal

pub invariant_of-self : goal.invariant_of-self
invariant_of-self c =
    let ts = c.self.inside.tasks.items in
    record {
      few = c.self.invariant.few;
      told = told-all c.args.request c.len.result ts (subst (λ us. first_untold c.args.request us ≡ None) (sym c.self.view_is) c.requires);
    }
