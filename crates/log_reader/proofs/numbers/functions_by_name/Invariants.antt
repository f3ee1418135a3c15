use Rattle.std.proofs.Common.{ℕ, List, bytes_eq}
use Rattle.std.specs.HashMap.{get_by}
use Rattle.trace_views.specs.Words.{function_word}
use Rattle.ft_base.specs.declared.number.FuncNo.{FuncNo}
use Rattle.log_reader.specs.Lookups.{IsFound}
use Rattle.log_reader.proofs.numbers.functions_by_name.Given as goal

-- those below the number are found
abbrev pub invariant-loop-n : goal.invariant-loop-n
invariant-loop-n g l = (w : List ℕ) → IsFound (λ (f : FuncNo). f.0) l.n (function_word (g.N.Named.job l.names)) w (get_by (λ k. bytes_eq w k.now) l.found)
