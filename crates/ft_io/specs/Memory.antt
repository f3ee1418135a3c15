-- A source and a sink in memory.
use Rattle.std.specs.Prelude.{ℕ, ◌-◌, ◌==◌, min, nat_lt, Bool, ◌&&◌, ◌||◌, if◌then◌else◌, List, ◌++◌, length, take, drop, Result, Ok, Err}
use Rattle.ft_io.specs.declared.source.Failed.{Failed}
use Rattle.ft_io.specs.Calls.{Calls, fails_next, called}

-- a source: the bytes that are still to come, the most that one call gives, and the calls so far
pub record Giving : Type 0 where
  pub remaining : List ℕ
  pub give : ℕ
  pub calls : Calls

-- how many bytes the next read gives to a buffer of that length
abbrev pub given : Giving → ℕ → ℕ
given source room = if fails_next source.calls then 0 else min (min source.give room) (length source.remaining)

-- what the next read answers at a buffer of that length
abbrev pub read_answer : Giving → ℕ → Result ℕ Failed
read_answer source room = if fails_next source.calls then Err (record {}) else Ok (given source room)

-- a buffer after the next read: the bytes are at its front, and the rest is as it was
abbrev pub filled : Giving → List ℕ → List ℕ
filled source buffer = take (given source (length buffer)) source.remaining ++ drop (given source (length buffer)) buffer

-- the source after the next read of a buffer of that length
abbrev pub after_read : Giving → ℕ → Giving
after_read source room = record {
  remaining = drop (given source room) source.remaining;
  give = source.give;
  calls = called (fails_next source.calls) source.calls;
}

-- a sink: the bytes that it holds, the most that one call takes, the room for all bytes, and the calls so far
pub record Holding : Type 0 where
  pub held : List ℕ
  pub portion : ℕ
  pub room : ℕ
  pub calls : Calls

-- how many bytes there is room for
abbrev pub free : Holding → ℕ
free sink = sink.room - length sink.held

-- the next write of that piece fails: its call is to fail, or there is no room for any of its bytes
abbrev pub refuses : Holding → List ℕ → Bool
refuses sink piece = fails_next sink.calls || (free sink == 0 && nat_lt 0 (length piece))

-- how many bytes the next write takes from that piece
abbrev pub taken : Holding → List ℕ → ℕ
taken sink piece = if refuses sink piece then 0 else min (min sink.portion (length piece)) (free sink)

-- what the next write of that piece answers
abbrev pub write_answer : Holding → List ℕ → Result ℕ Failed
write_answer sink piece = if refuses sink piece then Err (record {}) else Ok (taken sink piece)

-- the sink after the next write of that piece
abbrev pub after_write : Holding → List ℕ → Holding
after_write sink piece = record {
  held = sink.held ++ take (taken sink piece) piece;
  portion = sink.portion;
  room = sink.room;
  calls = called (refuses sink piece) sink.calls;
}
