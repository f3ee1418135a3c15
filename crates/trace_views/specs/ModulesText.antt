-- The text of a history, form modules: the lines that load and unload modules.
use Rattle.std.specs.Prelude.{ℕ, Bool, List, [], ◌∷◌, ◌++◌, get_or, codes, if◌then◌else◌}
use Rattle.std.specs.Fmt.{decimal}
use Rattle.ft_base.specs.declared.item.Item.{Item}
use Rattle.ft_base.specs.Job.{Job, ModuleRow}
use Rattle.func_table.specs.Modules.{modules_in}
use Rattle.trace_views.specs.declared.modules.ModuleLine.{ModuleLine}
use Rattle.trace_views.specs.Words.{Word, last_line, lines_text}
use Rattle.trace_views.specs.LogText.{answer_words, joined}

-- the name of a module, empty for a number that the job doesn't have
abbrev pub module_word : Job → ℕ → Word
module_word job m = get_or (modules_in job.functions) m []

-- the word for what a line does to its module
abbrev pub load_word : Bool → Word
load_word load = if load then codes "load" else codes "unload"

-- the words of a load or an unload: its module, its answer, and the numbers of the first and the last command that carry it out
abbrev pub row_words : Job → ModuleRow → List Word
row_words job row =
    load_word row.load ∷ module_word job row.owner ∷ (answer_words job row.answer ++ decimal row.first ∷ decimal row.last ∷ [])

-- its line
unfoldable pub module_line : Job → ModuleRow → List ℕ
module_line job row = joined (row_words job row) ++ codes "\n"

-- the row of a line as the program holds it
abbrev pub row_of_line : ModuleLine → ModuleRow
row_of_line line = record { load = line.load; owner = line.module; answer = line.answer; first = line.first; last = line.last }

-- the text of a line
abbrev pub module_line_text : Job → ModuleLine → List ℕ
module_line_text job line = module_line job (row_of_line line)

-- the text: it says nothing of the history but whether it has ended
unfoldable pub modules_text : Job → List Item → Bool → List ℕ
modules_text job items ended = lines_text (module_line job) job.lines.modules ++ last_line ended
