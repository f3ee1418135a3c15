use Rattle.std.proofs.Common.{refl}
use Rattle.ft_desk.proofs.user.User.new.Goals as goal

pub returns : goal.returns
returns c = rw c.in_ok-pair.ensures.pair refl
