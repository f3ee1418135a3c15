use Rattle.std.proofs.Common.{true, length, ap, ap₂, List, sym, ◌∙◌}
use Rattle.std.specs.Prelude.{◌==◌}
use Rattle.ft_io.proofs.PieceLaws.{puts-none, puts-then, puts-equal}
use Rattle.told_items.specs.declared.told.Opened.{Opened}
use Rattle.told_items.specs.declared.told.Owed.{Owed}
use Rattle.told_items.specs.ItemText.{calls_after}
use Rattle.told_items.proofs.Places.{none-open, some-open}
use Rattle.told_items.proofs.fields.put_open.Goals as goal

pub returns-then-is_empty : goal.returns-then-is_empty
returns-then-is_empty g c = puts-equal (none-open (g.N.Named.job c.args.names.now) _ c.args.told.now.exits.items (ap (λ (cs : List Opened). length cs == 0) (sym c.as_slice-calls.ensures.value) ∙ sym c.is_empty.ensures ∙ c.if-is_empty.true)) (puts-none _ _)

pub returns : goal.returns
returns g c =
    let job = g.N.Named.job c.args.names.now in
    puts-equal (some-open job _ c.args.told.now.exits.items (ap (λ (cs : List Opened). length cs == 0) (sym c.as_slice-calls.ensures.value) ∙ sym c.is_empty.ensures ∙ c.if-is_empty.false)) (puts-then c.put.ensures
    (puts-then (puts-equal (ap₂ (λ (calls : List Opened) (exits : List Owed). calls_after job exits true calls) c.as_slice-calls.ensures.value c.as_slice.ensures.value) c.put_open_calls.ensures) c.put-2.ensures))
