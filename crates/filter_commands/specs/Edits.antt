-- What a filter text means over a list of functions: which of them it selects, and which edit it is.
use Rattle.std.specs.Prelude.{zero, suc, ◌&&◌, Bool, true, false, not, List, [], ◌∷◌, map, length, slice_set, Option, Some, None, if◌then◌else◌}
use Rattle.glob_filter.specs.Items.{Item, items_of}
use Rattle.glob_filter.specs.Matching.{is_fit}
use Rattle.ft_base.specs.Marks.{Marks, empty}
use Rattle.ft_base.specs.Job.{Func, Edit}
use Rattle.filter_commands.specs.Forms.{Text, TextForm, line, named, in_module, unmarked, form_of, glob_or_all}

-- whether there is a module and its name matches
abbrev pub is_in : List Item → Option Text → Bool
is_in items None = false
is_in items (Some owner) = is_fit items owner

-- whether a function's module passes
abbrev pub passes : Bool → List Item → Option Text → Bool
passes negated items owner = if negated then not (is_in items owner) else is_in items owner

-- the functions that a text of this form selects; lines count from 1, and a text that asks for line 0 is refused
abbrev pub selected : List Func → TextForm → Marks
selected functions (line zero) = empty (length functions)
selected functions (line (suc f)) = slice_set (empty (length functions)) f true
selected functions (named glob) = map (λ f. is_fit (items_of glob) f.name) functions
selected functions (in_module glob negated owner) = map (λ f. is_fit (items_of (glob_or_all glob)) f.name && passes negated (items_of owner) f.owner) functions

-- a text of no form selects nothing
abbrev pub selected_by : List Func → Option TextForm → Marks
selected_by functions None = empty (length functions)
selected_by functions (Some form) = selected functions form

-- the edit of a text over these functions: a clear if it is empty, else what it selects, added or, after a `!`, taken out
abbrev pub edit_of : List Func → Bool → Text → Edit
edit_of functions append [] = record { append = append; remove = false; clear = true; set = empty (length functions) }
edit_of functions append (b ∷ text) = record {
  append = append;
  remove = (unmarked (b ∷ text)).0;
  clear = false;
  set = selected_by functions (form_of (unmarked (b ∷ text)).1);
}
