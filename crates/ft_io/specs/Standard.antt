-- A source over a reader, and a sink over a writer.
use Rattle.std.specs.Prelude.{ℕ, ◌==◌, nat_lt, Bool, true, ◌&&◌, List, length, Option, Result, Ok, Err, MatchResult, take}
use Rattle.std.specs.Io.KnownBytes.{Appends}
use Rattle.ft_io.specs.declared.standard.StdSource.{StdSource}
use Rattle.ft_io.specs.declared.standard.StdSink.{StdSink}
use Rattle.ft_io.specs.Causes.{AppendsFront}

-- the reader that a source reads from
abbrev pub input_of : {I : Type 0} → StdSource I → I
input_of source = source.input

-- how many reads of the reader failed
abbrev pub read_faults : {I : Type 0} → StdSource I → ℕ
read_faults source = source.faults

-- the writer that a sink writes to
abbrev pub output_of : {O : Type 0} → StdSink O → O
output_of sink = sink.output

-- how many writes failed or took nothing
abbrev pub write_faults : {O : Type 0} → StdSink O → ℕ
write_faults sink = sink.faults

-- a write failed, or took nothing of a piece
abbrev pub is_fault : {E : Type 0} → Result ℕ E → List ℕ → Bool
is_fault (Ok n) piece = n == 0 && nat_lt 0 (length piece)
is_fault (Err e) piece = true

-- the writer got the bytes that were taken, and at a failure a beginning of the piece
abbrev pub PassesOn : {E : Type 0} → Option (List ℕ) → Option (List ℕ) → Result ℕ E → List ℕ → Type 0
PassesOn old new result piece = MatchResult result (λ n. Appends old new (take n piece)) (λ _. AppendsFront old new piece)
