-- The text of a history, form enabled: the functions whose call sites are patched after the commands that have returned
-- (ftrace.rst, The File System: enabled_functions).
use Rattle.std.specs.Prelude.{ℕ, zero, suc, Bool, ◌==◌, nat_lt, List, [], ◌++◌, reverse, codes, if◌then◌else◌}
use Rattle.std.specs.Fmt.{decimal}
use Rattle.ft_base.specs.declared.item.Item.{Item}
use Rattle.ft_base.specs.declared.item.Ran.{Ran}
use Rattle.ft_base.specs.Job.{Job, funcs}
use Rattle.ft_base.specs.Desk.{Desk, desk, target}
use Rattle.site_counts.specs.declared.rows.Row.{Row}
use Rattle.ft_desk.specs.Sites.{row_at}
use Rattle.ft_hist.specs.Past.{done}
use Rattle.trace_views.specs.declared.enabled.EnabledLine.{EnabledLine}
use Rattle.trace_views.specs.Words.{function_word, last_line}
use Rattle.trace_views.specs.LogText.{ran_words, joined}

-- a flag in its column of two
abbrev pub flag_column : List ℕ → ℕ → List ℕ
flag_column letter count = if nat_lt 0 count then codes " " ++ letter else codes "  "

-- the line of a function that some users trace: how many, whether one gets the registers, whether one replaces the function, and what
-- a call of it runs
unfoldable pub enabled_line : Job → ℕ → Row → Ran → List ℕ
enabled_line job f row ran =
    function_word job f ++ (codes " (" ++ (decimal row.count ++ (codes ")" ++ (flag_column (codes "R") row.regs ++ (flag_column (codes "I") row.ipmodify
    ++ (codes " " ++ (joined (ran_words job ran) ++ codes "\n")))))))

-- the text of a line
abbrev pub enabled_line_text : Job → EnabledLine → List ℕ
enabled_line_text job line = enabled_line job line.function.0 line.row line.ran

-- what a function prints
abbrev pub enabled_part : Job → ℕ → Row → Ran → List ℕ
enabled_part job f row ran = if row.count == 0 then [] else enabled_line job f row ran

-- the lines of `n` functions from a number on
abbrev pub enabled_lines : Job → Desk → ℕ → ℕ → List ℕ
enabled_lines job d f zero = []
enabled_lines job d f (suc n) = enabled_part job f (row_at job d f) (target d f) ++ enabled_lines job d (suc f) n

-- the text
unfoldable pub enabled_text : Job → List Item → Bool → List ℕ
enabled_text job items ended = enabled_lines job (desk job (done (reverse items))) 0 (funcs job) ++ last_line ended
