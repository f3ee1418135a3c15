-- Which calls of a source or a sink in memory fail.
use Rattle.std.specs.Prelude.{ℕ, ◌+◌, ◌-◌, ◌^◌, ◌==◌, min, nat_lt, Bool, ◌&&◌, List}
use Rattle.std.specs.List.{list_any}
use Rattle.ft_io.specs.Causes.{count_after}

-- the numbers, from 1, of the calls that are to fail, how many calls were counted, and how many failed
pub record Calls : Type 0 where
  pub fails : List ℕ
  pub counted : ℕ
  pub faults : ℕ

-- before the first call
abbrev pub no_calls : List ℕ → Calls
no_calls fails = record { fails = fails; counted = 0; faults = 0 }

-- the number of the last call that is counted
abbrev pub last_call : ℕ
last_call = 2 ^ 32 - 1

-- the next call is counted, and its number is one of those that are to fail
abbrev pub fails_next : Calls → Bool
fails_next calls = nat_lt calls.counted last_call && list_any (λ number. number == calls.counted + 1) calls.fails

-- one more call was made, which failed or not
abbrev pub called : Bool → Calls → Calls
called failed calls = record {
  fails = calls.fails;
  counted = min (calls.counted + 1) last_call;
  faults = count_after failed calls.faults;
}
