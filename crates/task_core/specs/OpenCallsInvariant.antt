-- The fields of a task's open calls, and what contracts see of them.
use Rattle.std.specs.Prelude.{◌≤◌, reverse, vec_capacity}
use Rattle.task_core.specs.declared.open_call.OpenCalls.TheInside.{Inside}
use Rattle.task_core.specs.Opens.{Opens}

-- the latest call comes last among the fields
abbrev pub opens_of : Inside → Opens
opens_of d = record { calls = reverse d.calls.items; limit = d.limit }

-- there is room for all calls
pub record OpenCallsInvariant (d : Inside) : Type 0 where
  pub room : d.limit ≤ vec_capacity d.calls
