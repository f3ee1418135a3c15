use Rattle.std.proofs.Common.{ap}
use Rattle.std.specs.Fmt.{decimal}
use Rattle.ft_io.proofs.PieceLaws.{puts-then, puts-equal}
use Rattle.told_items.specs.ItemText.{told_line}
use Rattle.told_items.proofs.Tellings.{item-is}
use Rattle.told_items.proofs.told.Told.tell.Goals as goal

pub returns-clause-puts : goal.returns-clause-puts
unfolding told_line
returns-clause-puts g c = λ past told.
    puts-then c.put.ensures (puts-then (puts-equal (ap decimal told.place') c.put_number.ensures)
    (puts-then (puts-equal (item-is (g.N.Named.job c.args.names.now) c.args.item.now told.calls told.exits) c.put_fields.ensures) c.put-2.ensures))

pub returns-clause-told : goal.returns-clause-told
returns-clause-told g c = c.follow.ensures
