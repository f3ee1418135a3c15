-- What a reader's maps find.
use Rattle.std.specs.Prelude.{ℕ, List, Option, nat_eq, bytes_eq}
use Rattle.std.specs.Borrow.{Bor}
use Rattle.std.specs.HashMap.{HashMap, get, get_by}
use Rattle.trace_views.specs.Words.{Word}
use Rattle.log_reader.specs.declared.numbers.Numbers.{Numbers}
use Rattle.log_reader.specs.Lookups.{Lookups}

-- what a map has under a name
abbrev pub found_by_name : {B S : Type 0} → HashMap (Bor (List ℕ)) B S → Word → Option B
found_by_name m w = get_by (λ k. bytes_eq w k.now) m

-- and under a pid
abbrev pub found_by_pid : {B S : Type 0} → HashMap ℕ B S → ℕ → Option B
found_by_pid m pid = get nat_eq m pid

-- what all of them find
abbrev pub lookups : Numbers → Lookups
lookups n = record {
  function = found_by_name n.functions;
  user = found_by_name n.users;
  task = found_by_pid n.tasks;
}
