use Rattle.std.proofs.Common.{sym, ap, ◌∙◌}
use Rattle.ft_io.proofs.PieceLaws.{puts-none, puts-then, puts-equal}
use Rattle.told_items.specs.ItemText.{places}
use Rattle.told_items.proofs.fields.put_lost.Goals as goal

pub returns-then-owes_to : goal.returns-then-owes_to
returns-then-owes_to g c = rw (sym c.owes_to.ensures ∙ c.if-owes_to.true)
    (puts-then c.put.ensures (puts-then (puts-equal (ap (places c.args.call) c.as_slice.ensures.value) c.put_places.ensures) (puts-none _ _)))

pub returns-else-owes_to : goal.returns-else-owes_to
returns-else-owes_to g c = rw (sym c.owes_to.ensures ∙ c.if-owes_to.false) (puts-none _ _)
