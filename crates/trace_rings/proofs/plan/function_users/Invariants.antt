-- The first users are gone through, and there is room for the others.
use Rattle.std.proofs.Common.{◌≡◌, ◌≤◌, length, map, take, vec_capacity, vec_len}
use Rattle.user_specs.specs.Plain.{spec_of}
use Rattle.ft_base.specs.Kinds.{is_function}
use Rattle.trace_rings.proofs.plan.function_users.Given as goal

abbrev pub invariant-loop-spec : goal.invariant-loop-spec
invariant-loop-spec l = record {
  users : l.users.items ≡ map (λ s. is_function s.kind) (map spec_of (take l.spec-index l.specs));
  count : vec_len l.users ≡ l.spec-index;
  room : length l.specs ≤ vec_capacity l.users;
}
