use Rattle.std.proofs.Common.{◌≡◌, map, take}
use Rattle.ft_desk.specs.Users.{declared_as}
use Rattle.ft_desk.proofs.roster.new_users.Given as goal

abbrev pub invariant-loop-spec : goal.invariant-loop-spec
invariant-loop-spec l = l.users.items ≡ map (declared_as l.funcs) (take l.spec-index l.specs)
