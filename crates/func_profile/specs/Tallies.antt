-- What the program keeps of the items so far, against what they tell.
use Rattle.std.specs.Prelude.{ℕ, ◌≡◌, ◌+◌, Bool, ◌&&◌, ◌==◌, List, [], map, Option, slice_index_or}
use Rattle.std.specs.Option.{option_map}
use Rattle.std.specs.List.{range_with_len}
use Rattle.std.specs.HashMap.{get}
use Rattle.ft_base.specs.declared.number.CallNo.{CallNo}
use Rattle.ft_base.specs.declared.number.FuncNo.{FuncNo}
use Rattle.ft_base.specs.declared.item.Item.{Item}
use Rattle.ft_hist.specs.Past.{entered}
use Rattle.func_profile.specs.declared.profile.ProfileRow.{ProfileRow}
use Rattle.func_profile.specs.declared.table.Table.{Table}
use Rattle.func_profile.specs.declared.tally.Tally.{Tally}
use Rattle.func_profile.specs.Rows.{row_of}

-- two keys are the same
abbrev pub same_key : ℕ × ℕ → ℕ × ℕ → Bool
same_key a b = (a.0 == b.0) && (a.1 == b.1)

-- the function that is kept for a call
abbrev pub function_at : Tally → CallNo → Option FuncNo
function_at t call = get same_key t.functions (call.task.0, call.n)

-- the row of a function among rows; a function that isn't among them has no hit
abbrev pub row_at : List ProfileRow → ℕ → ProfileRow
row_at rows f = slice_index_or rows f (row_of 0 [] f)

-- a row with one more hit
abbrev pub with_hit : ProfileRow → ProfileRow
with_hit row = record row { hits = row.hits + 1 }

-- a row with more time
abbrev pub with_time : ℕ → ProfileRow → ProfileRow
with_time more row = record row { time = row.time + more }

-- a table has the row of each of the first functions
abbrev pub IsTable : ℕ → ℕ → List Item → Table → Type 0
IsTable u funcs past table = table.rows.items ≡ map (row_of u past) (range_with_len 0 funcs)

-- the functions of the calls that were entered, and the row of each function
pub record IsTally (u funcs : ℕ) (past : List Item) (t : Tally) : Type 0 where
  pub functions : (call : CallNo) → option_map (λ f. f.0) (function_at t call) ≡ option_map (λ e. e.func) (entered call past)
  pub table : IsTable u funcs past t.table
