-- The fields of a CPU's marks, and what contracts see of them.
use Rattle.std.specs.Prelude.{◌≤◌, vec_len, vec_capacity}
use Rattle.cpu_core.specs.declared.marked.Marked.TheInside.{Inside}
use Rattle.cpu_core.specs.Marks.{Marks}

-- what contracts see
abbrev pub marks_of : Inside → Marks
marks_of d = record { items = d.items.items; room = d.room; left = d.left }

-- there is room for as many items as are said, and no more items than can be marked
pub record MarksInvariant (d : Inside) : Type 0 where
  pub few : vec_len d.items ≤ d.left
  pub room : d.room ≤ vec_capacity d.items
