-- The text of the rings of a history, form rings: what the ring of each CPU holds, and how often each trigger fired (ftrace.rst, The File
-- System: per_cpu/cpu<cpu>/trace).
use Rattle.std.specs.Prelude.{ℕ, Bool, List, [], ◌++◌, length, codes}
use Rattle.std.specs.Fmt.{decimal}
use Rattle.ft_base.specs.declared.item.Item.{Item}
use Rattle.ft_base.specs.declared.item.Item.TheVariants.{Back}
use Rattle.ft_base.specs.Job.{Job}
use Rattle.ring_rules.specs.Fold.{Ring, Rings}
use Rattle.trace_views.specs.FunctionText.{function_line}
use Rattle.trace_views.specs.Places.{part_at}
use Rattle.trace_views.specs.Words.{last_line, lines_text, numbered_texts}

-- the line of an entry callback, as in the form function, but whatever its user's kind
abbrev pub entry_part : Job → List Item → Item → List Item → List ℕ
entry_part job past (Back call u) rest = function_line job past call u.0
entry_part job past _ rest = []

-- the line of the entry callback at a place, nothing if there is none
abbrev pub entry_text : Job → List Item → ℕ → List ℕ
entry_text job items p = part_at (entry_part job) p items

-- the line that says of how many entries that were written into a CPU's ring it holds how many
unfoldable pub cpu_line : ℕ → ℕ → ℕ → List ℕ
cpu_line cpu held written =
    codes "# cpu " ++ (decimal cpu ++ (codes " entries " ++ (decimal held ++ (codes "/" ++ (decimal written ++ codes "\n")))))

-- that line, and those of the entries that the ring holds
abbrev pub cpu_text : Job → List Item → ℕ → Ring → List ℕ
cpu_text job items cpu ring = cpu_line cpu (length ring.held) ring.written ++ lines_text (entry_text job items) ring.held

-- the line that says how often a trigger fired
unfoldable pub trigger_line : ℕ → ℕ → List ℕ
trigger_line trigger fired = codes "# trigger " ++ (decimal trigger ++ (codes " fired " ++ (decimal fired ++ codes "\n")))

-- the same by the places at which it fired
abbrev pub trigger_text : ℕ → List ℕ → List ℕ
trigger_text trigger places = trigger_line trigger (length places)

-- all lines but the last: those of the CPUs, then those of the triggers
abbrev pub rings_body : Job → List Item → Rings → List ℕ
rings_body job items rings = numbered_texts (cpu_text job items) 0 rings.cpus ++ numbered_texts trigger_text 0 rings.fired

-- the text
unfoldable pub rings_text : Job → List Item → Rings → Bool → List ℕ
rings_text job items rings ended = rings_body job items rings ++ last_line ended
