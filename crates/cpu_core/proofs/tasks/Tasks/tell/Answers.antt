-- One more task has told.
use Rattle.std.proofs.Common.{◌≡◌, length, refl, sym, ap, ◌∙◌}
use Rattle.std.proofs.lemmas.List.{length-set}
use Rattle.grace_core.specs.Views.{told_word}
use Rattle.task_core.specs.declared.task.Task.{Task}
use Rattle.cpu_core.specs.Turns.{told_task}
use Rattle.cpu_core.proofs.TaskChanges.{told-stored}
use Rattle.cpu_core.proofs.tasks.Tasks.tell.Goals as goal

pub invariant_of-self : goal.invariant_of-self
invariant_of-self c =
    let ts = c.self.inside.tasks.items in
    let x = c.index_mut-task.result.now in
    let stored : c.told.new.self ≡ told_task c.args.request x =
    c.told.ensures ∙ ap (λ w. let t : Task = record x { word = w } in t) (c.told_word-word.ensures ∙ ap (λ v. told_word c.args.request v) c.view.ensures) in
    record {
      few = rw (length-set ts c.args.i c.told.new.self) c.self.invariant.few;
      told = rw c.known_if-self-inside.ensures (told-stored c.self.inside.told c.args.request _ c.self.inside.changed ts c.args.i c.len.result x c.told.new.self
          refl (c.len.ensures.count ∙ ap length (sym c.self.view_is)) stored c.self.invariant.told);
    }
