use Rattle.std.proofs.Common.{◌∙◌, ap}
use Rattle.std.specs.Fmt.{decimal}
use Rattle.ft_io.proofs.PieceLaws.{puts-then, puts-equal}
use Rattle.told_items.specs.ItemText.{told_last}
use Rattle.told_items.proofs.Tellings.{open-is}
use Rattle.told_items.proofs.told.Told.tell_end.Goals as goal

pub returns : goal.returns
unfolding told_last
returns g c = λ past told.
    puts-then c.put.ensures (puts-then (puts-equal (c.as_bytes.ensures.value ∙ c.end_name.ensures) c.put-2.ensures) (puts-then c.put-3.ensures
    (puts-then (puts-equal (ap decimal told.place') c.put_number.ensures)
    (puts-then (puts-equal (open-is (g.N.Named.job c.args.names.now) told.calls told.exits) c.put_open.ensures) c.put-4.ensures))))
