use Rattle.std.proofs.Common.{◌<◌, length, refl, sym, ap, ◌∙◌}
use Rattle.std.specs.Prelude.{option_map}
use Rattle.std.proofs.lemmas.Bool.{ltb-false}
use Rattle.std.proofs.lemmas.Option.{slice_get_past, slice_get_read}
use Rattle.control_core.proofs.Picked.{below-at, picked-none, picked-some}
use Rattle.control_core.proofs.order.present.Goals as goal

pub bounds-lines-number : goal.bounds-lines-number
bounds-lines-number c =
    let found = (c.in_ok-number.ensures {u = tt}).lookup in
    let here = slice_get_read c.args.order.now (length c.args.order.now) c.args.place c.in_ok-number.field-0.now refl found.3.0 found.1 in
    below-at (length c.args.lines.now) c.args.order.now c.args.place c.in_ok-number.field-0.now c.requires.within here

pub returns-in_err-number-clause-line : goal.returns-in_err-number-clause-line
returns-in_err-number-clause-line c =
    let found = (c.in_err-number.ensures {u = tt}).lookup in
    ap (option_map (λ l. l.now)) c.from_residual.ensures
    ∙ sym (picked-none c.args.lines.now c.args.order.now c.args.place c.requires.within
    (slice_get_past c.args.order.now c.args.place (ltb-false c.args.place (length c.args.order.now) (sym found.0))))

pub returns-clause-line : goal.returns-clause-line
returns-clause-line c =
    let found = (c.in_ok-number.ensures {u = tt}).lookup in
    let number = c.in_ok-number.field-0.now in
    let here = slice_get_read c.args.order.now (length c.args.order.now) c.args.place number refl found.3.0 found.1 in
    let lt : number < length c.args.lines.now = below-at (length c.args.lines.now) c.args.order.now c.args.place number c.requires.within here in
    sym (picked-some c.args.lines.now c.args.order.now c.args.place number c.requires.within here
    ∙ slice_get_read c.args.lines.now (length c.args.lines.now) number c.index-lines-number.result refl lt c.index-lines-number.is)
