-- The ring of a CPU as the view rings keeps it.
use Rattle.std.specs.Prelude.{ℕ, suc, List, [], ◌∷◌, ◌++◌, length, map}
use Rattle.ft_base.specs.Job.{Job}
use Rattle.circular_buffer.specs.Buffer.{keep_last}
use Rattle.ring_rules.specs.Fold.{Ring}
use Rattle.trace_views.specs.declared.function.FunctionLine.{FunctionLine}
use Rattle.trace_views.specs.OpenCalls.{function_line_text}
use Rattle.trace_views.specs.RingsText.{cpu_line}
use Rattle.trace_views.specs.Words.{lines_text}

-- a ring whose entries are kept as lines, and how many it holds at most
pub record LineBox : Type 0 where
  pub lines : List FunctionLine
  pub written : ℕ
  pub most : ℕ

-- an empty one that holds so many
abbrev pub empty_lines : ℕ → LineBox
empty_lines most = record { lines = []; written = 0; most = most }

-- after one more entry was written
abbrev pub with_line : FunctionLine → LineBox → LineBox
with_line line b = record { lines = keep_last b.most (b.lines ++ line ∷ []); written = suc b.written; most = b.most }

-- the ring of the places of its entries
abbrev pub ring_of : LineBox → Ring
ring_of b = record { written = b.written; held = map (λ line. line.place) b.lines }

-- the lines of the ring of a CPU: its head, and the entries that it holds
abbrev pub kept_text : Job → ℕ → LineBox → List ℕ
kept_text job cpu b = cpu_line cpu (length b.lines) b.written ++ lines_text (function_line_text job) b.lines
