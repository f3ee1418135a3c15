use Rattle.std.proofs.Common.{sym, ◌∙◌}
use Rattle.ft_io.proofs.PieceLaws.{puts-none, puts-then, puts-equal}
use Rattle.told_items.proofs.fields.put_place.Goals as goal

pub returns-then-not-is_owed_to-clause-puts : goal.returns-then-not-is_owed_to-clause-puts
returns-then-not-is_owed_to-clause-puts g c = rw (sym c.is_owed_to.ensures ∙ c.if-not-is_owed_to.true) (puts-none _ _)

pub returns-clause-puts : goal.returns-clause-puts
returns-clause-puts g c = rw (sym c.is_owed_to.ensures ∙ c.if-not-is_owed_to.false) (puts-then (puts-equal (c.as_bytes.ensures.value ∙ c.comma.ensures) c.put.ensures) c.put_number.ensures)
