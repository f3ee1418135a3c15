use Rattle.std.proofs.Common.{◌≡◌, map, drop}
use Rattle.ft_desk.specs.Plans.{user_after, user_before}
use Rattle.std.proofs.Common.{None}
use Rattle.ft_desk.proofs.desk.neighbours.Given as goal

-- nobody before this place is the user
abbrev pub invariant-loop-at : goal.invariant-loop-at
invariant-loop-at l = record {
  before : user_before l.before l.user.0 (map (λ v. v.0) (drop l.at l.order)) ≡ user_before None l.user.0 (map (λ v. v.0) l.order);
  after : user_after l.user.0 (map (λ v. v.0) (drop l.at l.order)) ≡ user_after l.user.0 (map (λ v. v.0) l.order);
}
