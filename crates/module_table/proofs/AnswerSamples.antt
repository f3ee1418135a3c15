-- Samples of lines where modules come and go: the answer of each, what it leaves, and the commands that carry it out.
use Rattle.std.proofs.Common.{◌≡◌, ℕ, true, false, List, [], ◌∷◌, Option, Some, None, refl}
use Rattle.std.specs.Prelude.{codes}
use Rattle.ft_base.specs.declared.item.Answer.TheVariants.{Accepted, Already, NotThere, NoMatch, Busy}
use Rattle.ft_base.specs.Desk.{plain_spec}
use Rattle.ft_base.specs.Job.{Func, Spec, Edit, Register, Filter, Notrace, MaxDepth}
use Rattle.ft_base.specs.Marks.{Marks}
use Rattle.ft_desk.specs.Declarations.{Declared}
use Rattle.module_table.specs.Lines.{Line, Plain, Load, Unload, Between, answer_to, after_line, after_lines, at_first, commands_for, own_after, loaded_after}

-- four functions: the first in no module, the next two in module 0, and the last in module 1
abbrev func : Option (List ℕ) → Func
func owner = record { name = codes "f"; owner = owner }

abbrev functions : List Func
functions = func None ∷ func (Some (codes "ext3")) ∷ func (Some (codes "ext3")) ∷ func (Some (codes "snd")) ∷ []

-- two users that replace functions
abbrev replacing_user : Spec
replacing_user = record plain_spec { regs = true; ipmodify = Some (record { 0 = 0 }) }

abbrev declared : Declared
declared = record { specs = replacing_user ∷ replacing_user ∷ []; funcs = 4; tasks = 0; tramps = 2 }

-- a set becomes these functions
abbrev edit : Marks → Edit
edit set = record { append = false; remove = false; clear = false; set = set }

-- a set is cleared
abbrev cleared : Edit
cleared = record { append = false; remove = false; clear = true; set = false ∷ false ∷ false ∷ false ∷ [] }

-- module 0 is absent at first, so all users keep its functions out
abbrev opened : Between
opened = at_first declared functions (0 ∷ [])

-- ## the opening

opening-masks : opened.commands ≡ 2
opening-masks = refl

opening-loaded : opened.loaded ≡ false ∷ true ∷ []
opening-loaded = refl

opening-own : opened.own ≡ (false ∷ false ∷ false ∷ false ∷ []) ∷ (false ∷ false ∷ false ∷ false ∷ []) ∷ []
opening-own = refl

-- without an absent module there is none
all-loaded : (at_first declared functions []).commands ≡ 0
all-loaded = refl

-- ## answers of loads and unloads

load-loaded : answer_to opened (Load 1) ≡ Already
load-loaded = refl

unload-absent : answer_to opened (Unload 0) ≡ NotThere
unload-absent = refl

load-absent : answer_to opened (Load 0) ≡ Accepted
load-absent = refl

unload-loaded : answer_to opened (Unload 1) ≡ Accepted
unload-loaded = refl

-- user 0 replaces functions 1 and 2 and user 1 functions 0 and 2, once they are there
abbrev bound : Between
bound = after_lines opened (Plain (Filter 0 (edit (false ∷ true ∷ true ∷ false ∷ []))) ∷ Plain (Filter 1 (edit (true ∷ false ∷ true ∷ false ∷ []))) ∷ Plain (Register 0) ∷ Plain (Register 1) ∷ [])

-- function 2 alone is replaced by both, of whom user 0 is the lowest
load-busy : answer_to bound (Load 0) ≡ Busy (record { 0 = 2 }) (record { 0 = 0 })
load-busy = refl

-- it isn't before user 1 is registered, or if that user keeps the function out
abbrev one_bound : Between
one_bound = after_lines opened (Plain (Filter 0 (edit (false ∷ true ∷ true ∷ false ∷ []))) ∷ Plain (Filter 1 (edit (true ∷ false ∷ true ∷ false ∷ []))) ∷ Plain (Register 0) ∷ [])

load-of-one : answer_to one_bound (Load 0) ≡ Accepted
load-of-one = refl

load-kept-out : answer_to (after_line bound (Plain (Notrace 1 (edit (false ∷ false ∷ true ∷ false ∷ []))))) (Load 0) ≡ Accepted
load-kept-out = refl

-- with both modules away: two users that replace function 3 stand in the way of its module alone
abbrev both_away : Between
both_away = after_lines opened (Unload 1 ∷ Plain (Filter 0 (edit (false ∷ false ∷ false ∷ true ∷ []))) ∷ Plain (Filter 1 (edit (false ∷ false ∷ false ∷ true ∷ []))) ∷ Plain (Register 0) ∷ Plain (Register 1) ∷ [])

load-other : answer_to both_away (Load 0) ≡ Accepted
load-other = refl

load-last : answer_to both_away (Load 1) ≡ Busy (record { 0 = 3 }) (record { 0 = 0 })
load-last = refl

-- ## what they leave

loaded-by-load : loaded_after opened (Load 0) ≡ true ∷ true ∷ []
loaded-by-load = refl

loaded-by-unload : loaded_after opened (Unload 1) ≡ false ∷ false ∷ []
loaded-by-unload = refl

loaded-when-busy : loaded_after bound (Load 0) ≡ false ∷ true ∷ []
loaded-when-busy = refl

-- ## commands

-- a load that is accepted clears the users' sets, and sets the graph depth to what it is
load-commands : commands_for (after_line opened (Plain (MaxDepth 3))) (Load 0) ≡ Notrace 0 cleared ∷ Notrace 1 cleared ∷ MaxDepth 3 ∷ []
load-commands = refl

-- an unload hides the functions of all modules that are away then
unload-commands : commands_for opened (Unload 1)
    ≡ Notrace 0 (edit (false ∷ true ∷ true ∷ true ∷ [])) ∷ Notrace 1 (edit (false ∷ true ∷ true ∷ true ∷ [])) ∷ MaxDepth 0 ∷ []
unload-commands = refl

-- one that is refused sets the graph depth alone
refused-commands : commands_for (after_line opened (Plain (MaxDepth 3))) (Load 1) ≡ MaxDepth 3 ∷ []
refused-commands = refl

-- an edit of a notrace set brings the user's own set and the hidden functions to the desk
edit-commands : commands_for opened (Plain (Notrace 1 (edit (true ∷ false ∷ false ∷ false ∷ []))))
    ≡ Notrace 1 (edit (true ∷ true ∷ true ∷ false ∷ [])) ∷ []
edit-commands = refl

own-after-edit : own_after opened (Plain (Notrace 1 (edit (true ∷ false ∷ false ∷ false ∷ []))))
    ≡ (false ∷ false ∷ false ∷ false ∷ []) ∷ (true ∷ false ∷ false ∷ false ∷ []) ∷ []
own-after-edit = refl

-- one that clears it hides them still
clear-commands : commands_for opened (Plain (Notrace 0 cleared)) ≡ Notrace 0 (edit (false ∷ true ∷ true ∷ false ∷ [])) ∷ []
clear-commands = refl

-- one that selects nothing stays as it is, and is refused
abbrev selects_nothing : Line
selects_nothing = Plain (Notrace 0 (edit (false ∷ false ∷ false ∷ false ∷ [])))

empty-commands : commands_for opened selects_nothing ≡ Notrace 0 (edit (false ∷ false ∷ false ∷ false ∷ [])) ∷ []
empty-commands = refl

empty-answer : answer_to opened selects_nothing ≡ NoMatch
empty-answer = refl

-- and leaves the own sets as they are
own-when-refused : own_after (after_line opened (Plain (Notrace 0 (edit (true ∷ false ∷ false ∷ false ∷ []))))) selects_nothing
    ≡ (true ∷ false ∷ false ∷ false ∷ []) ∷ (false ∷ false ∷ false ∷ false ∷ []) ∷ []
own-when-refused = refl

-- each command counts, and the opening's
commands-counted : (after_lines opened (Plain (MaxDepth 3) ∷ Load 0 ∷ Load 0 ∷ [])).commands ≡ 7
commands-counted = refl
