use Rattle.std.proofs.Common.{refl}
use Rattle.ft_desk.proofs.user.User.retire.Goals as goal

pub returns : goal.returns
returns c = refl
