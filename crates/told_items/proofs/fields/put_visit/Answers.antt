use Rattle.ft_io.proofs.PieceLaws.{puts-then, puts-equal}
use Rattle.told_items.specs.ItemText.{call_with, user_fields}
use Rattle.told_items.proofs.FieldTexts.{after}
use Rattle.told_items.proofs.fields.put_visit.Goals as goal

pub returns : goal.returns
returns g c =
    let job = g.N.Named.job c.args.names.now in
    puts-equal (after c.args.front.now (call_with job c.args.told.now.calls.items c.args.call) (user_fields job c.args.user.0))
    (puts-then c.put_told_call.ensures c.put_user.ensures)
