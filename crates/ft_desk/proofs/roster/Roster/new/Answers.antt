use Rattle.ft_desk.proofs.NewLaws.{new-kept}
use Rattle.ft_desk.proofs.roster.Roster.new.Goals as goal

pub invariant_of-result : goal.invariant_of-result
invariant_of-result c =
    new-kept c.args.funcs _ c.args.specs.now c.requires c.in_ok-users.ensures c.in_ok-counts.ensures.size c.in_ok-counts.ensures.each
    c.in_ok-totals.ensures.size (λ f small. c.in_ok-totals.ensures.zero f) c.in_ok-holders.ensures.size c.in_ok-holders.ensures.each c.in_ok-room.ensures
