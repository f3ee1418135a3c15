use Rattle.std.proofs.Common.{List, ℕ, ◌++◌, ap, Some, sym, ◌∙◌}
use Rattle.std.specs.Prelude.{Option}
use Rattle.ft_io.proofs.PieceLaws.{puts-then, puts-equal}
use Rattle.told_items.specs.declared.told.Opened.{Opened}
use Rattle.told_items.specs.Fields.{fields_text}
use Rattle.told_items.specs.ItemText.{call_fields, opened_fields}
use Rattle.told_items.proofs.FieldTexts.{fields-then}
use Rattle.told_items.proofs.fields.put_told_call.Goals as goal

pub returns-in-Some : goal.returns-in-Some
returns-in-Some g c =
    let job = g.N.Named.job c.args.names.now in
    puts-equal (ap (λ (t : List ℕ). c.args.front.now ++ t) (fields-then (call_fields job c.args.call) (opened_fields job (Some c.in-Some.opened))
    ∙ ap (λ (o : Option Opened). fields_text (call_fields job c.args.call ++ opened_fields job o)) (sym c.in-Some.is ∙ c.opened.ensures)))
    (puts-then c.put.ensures (puts-then c.put_called.ensures c.put_opened.ensures))

pub returns-in_default : goal.returns-in_default
returns-in_default g c =
    let job = g.N.Named.job c.args.names.now in
    puts-equal (ap (λ (o : Option Opened). c.args.front.now ++ fields_text (call_fields job c.args.call ++ opened_fields job o)) (sym c.in_default.is ∙ c.opened.ensures))
    (puts-then c.put.ensures c.put_called.ensures)
