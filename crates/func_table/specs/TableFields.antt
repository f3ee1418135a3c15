-- What a table keeps, and the functions that contracts see.
use Rattle.std.specs.Prelude.{map, Option, option_map, string_bytes}
use Rattle.std.specs.declared.string.String.{String}
use Rattle.std.specs.declared.alloc.Global.{Global}
use Rattle.ft_base.specs.Job.{Func}
use Rattle.func_table.specs.Rows.{Table}
use Rattle.func_table.specs.declared.table.FuncTable.TheInside.{Inside}

-- the function of an entry: a name, and the name of a module or none
abbrev pub func_of : String Global × Option (String Global) → Func
func_of e = record { name = string_bytes e.0; owner = option_map string_bytes e.1 }

-- the table that contracts see
abbrev pub table_of : Inside → Table
table_of t = record { functions = map func_of t.functions.entries; limit = t.limit }
