-- An entry callback of the user takes its exit, if that is next, and is then what is next itself.
use Rattle.std.proofs.Common.{◌==◌, length, refl, sym, ◌∙◌, subst}
use Rattle.ft_base.specs.declared.item.Item.{Item}
use Rattle.trace_views.specs.Leaves.{IsInTasks}
use Rattle.trace_views.proofs.LeafLaws.{leaves-back, not_false}
use Rattle.trace_views.proofs.leaves.Leaves.note.Goals as goal

pub returns-in-Ok : goal.returns-in-Ok
returns-in-Ok c = λ rest kept.
    leaves-back c.args.user.0 (length c.args.self.now.next.items) c.args.place rest c.args.self.now _ kept c.args.item.now c.in-Back.call c.in-Back.whose c.in-Back.is
    (not_false (c.in-Back.whose.0 == c.args.user.0) (sym c.ne.ensures ∙ c.if-ne.false))
    (subst (λ (x : Item). IsInTasks (length c.args.self.now.next.items) x) c.in-Back.is c.requires)
    c.exit_of-exit.result c.exit_of-exit.ensures refl c.in-Ok.ensures.items
