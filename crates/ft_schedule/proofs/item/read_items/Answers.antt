use Rattle.std.proofs.Common.{ap, ◌∙◌}
use Rattle.ft_schedule.specs.Items.{item_of}
use Rattle.ft_schedule.proofs.item.read_items.Goals as goal

pub returns : goal.returns
returns c = c.all_read.ensures item_of (λ word r h. h.says.met ∙ ap item_of h.shows)
