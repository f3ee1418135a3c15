-- Lines of control where modules come and go: the answer of each, and the commands that carry it out. A module that isn't loaded
-- is hidden: its functions stand in every user's notrace set on the desk, beside those that the user keeps out itself.
use Rattle.std.specs.Prelude.{ℕ, suc, ◌+◌, ◌==◌, Bool, true, false, not, ◌&&◌, ◌||◌, List, [], ◌∷◌, ◌++◌, length, map, get_or, set, replicate, Option, Some, None, is_some, if◌then◌else◌}
use Rattle.std.specs.List.{list_any, range_with_len}
use Rattle.ft_base.specs.declared.item.Answer.{Answer}
use Rattle.ft_base.specs.declared.item.Answer.TheVariants.{Accepted, Already, NotThere}
use Rattle.ft_base.specs.Marks.{Marks, union, is_empty, empty}
use Rattle.ft_base.specs.Job.{Job, Func, Edit, Command, Notrace, MaxDepth}
use Rattle.ft_base.specs.Desk.{Desk, user_at, spec_at, matches_by, lowest, busy_or, edited, answer_on, is_accepted, after, opening}
use Rattle.ft_desk.specs.Declarations.{Declared, job_of}
use Rattle.func_table.specs.Modules.{modules_in, number_among}

-- a line of control: a command, or a module that is loaded or unloaded
pub data Line : Type 0 where
  Plain : (command : Command) → Line
  Load : (owner : ℕ) → Line
  Unload : (owner : ℕ) → Line

-- What is known between two lines: what is declared; the module of each function, if it lies in one; the functions that were hidden
-- at first, if a module was absent; whether each module is loaded; each user's own notrace set; the desk; and how many commands
-- brought it there
pub record Between : Type 0 where
  pub declared : Declared
  pub owners : List (Option ℕ)
  pub first : Option Marks
  pub loaded : List Bool
  pub own : List Marks
  pub desk : Desk
  pub commands : ℕ

-- ## what is hidden

-- the module is there and isn't loaded
abbrev pub is_hidden : List Bool → Option ℕ → Bool
is_hidden loaded None = false
is_hidden loaded (Some m) = not (get_or loaded m true)

-- the functions of the modules that aren't loaded
abbrev pub hidden : List (Option ℕ) → List Bool → Marks
hidden owners loaded = map (is_hidden loaded) owners

-- the edit that leaves exactly this set: it replaces what there is, or clears it if the set is empty
abbrev pub replacing : Marks → Edit
replacing set = record { append = false; remove = false; clear = is_empty set; set = set }

-- the mask of a user: on the desk its notrace set is its own and the hidden functions
abbrev pub mask : ℕ → Marks → Marks → Command
mask u own hidden = Notrace u (replacing (union own hidden))

-- the masks of users with these own sets, the lowest user first
abbrev pub masks_from : ℕ → List Marks → Marks → List Command
masks_from u [] hidden = []
masks_from u (own ∷ rest) hidden = mask u own hidden ∷ masks_from (suc u) rest hidden

-- ## commands

-- the edit selects something, or clears the set
abbrev pub selects : Edit → Bool
selects e = e.clear || not (is_empty e.set)

-- a user's own notrace set
abbrev pub own_of : Between → ℕ → Marks
own_of b u = get_or b.own u []

-- the functions that are hidden
abbrev pub hidden_now : Between → Marks
hidden_now b = hidden b.owners b.loaded

-- the command that carries out a command: an edit of a notrace set changes the user's own set, and is carried out by the mask
abbrev pub command_for : Between → Command → Command
command_for b (Notrace u e) =
    if selects e then mask u (edited b.declared.funcs (own_of b u) e) (hidden_now b) else Notrace u e
command_for b c = c

-- ## what stands in the way of a load

-- the user is registered, replaces functions, and matches this one if these functions are hidden
abbrev pub replaces : Between → Marks → ℕ → ℕ → Bool
replaces b hidden f u =
    (user_at b.desk u).registered && is_some (spec_at (job_of b.declared) u).ipmodify
    && matches_by (user_at b.desk u).filter (union (own_of b u) hidden) f

-- another one of the first n numbers passes
abbrev pub has_other : (ℕ → Bool) → ℕ → ℕ → Bool
has_other p n u = is_some (lowest (λ v. not (v == u) && p v) 0 n)

-- of the first n numbers the lowest that passes and isn't alone in it
abbrev pub lowest_of_two : (ℕ → Bool) → ℕ → Option ℕ
lowest_of_two p n = lowest (λ u. p u && has_other p n u) 0 n

-- the lowest of two users or more that replace the function
abbrev pub holder_of : Between → Marks → ℕ → Option ℕ
holder_of b hidden f = lowest_of_two (replaces b hidden f) (length b.declared.specs)

-- the same at a function, if there is one
abbrev pub holder_at : Between → Marks → Option ℕ → Option ℕ
holder_at b hidden None = None
holder_at b hidden (Some f) = holder_of b hidden f

-- the answer if these functions are hidden: the lowest function that two users replace, and the lowest of those users
-- (ftrace-uses.rst, The ftrace FLAGS: FTRACE_OPS_FL_IPMODIFY)
abbrev pub clash : Between → Marks → Answer
clash b hidden =
    let f = lowest (λ f. is_some (holder_of b hidden f)) 0 b.declared.funcs in
    busy_or f (holder_at b hidden f) Accepted

-- ## lines

-- the answer of a line
abbrev pub answer_to : Between → Line → Answer
answer_to b (Plain c) = answer_on (job_of b.declared) b.desk (command_for b c)
answer_to b (Load m) = if get_or b.loaded m true then Already else clash b (hidden b.owners (set b.loaded m true))
answer_to b (Unload m) = if get_or b.loaded m true then Accepted else NotThere

-- which modules are loaded after a line
abbrev pub loaded_after : Between → Line → List Bool
loaded_after b (Plain c) = b.loaded
loaded_after b (Load m) = if is_accepted (answer_to b (Load m)) then set b.loaded m true else b.loaded
loaded_after b (Unload m) = if is_accepted (answer_to b (Unload m)) then set b.loaded m false else b.loaded

-- the users' own sets after a command with this answer
abbrev pub own_by : Between → Bool → Command → List Marks
own_by b true (Notrace u e) = set b.own u (edited b.declared.funcs (own_of b u) e)
own_by b _ _ = b.own

-- and after a line
abbrev pub own_after : Between → Line → List Marks
own_after b (Plain c) = own_by b (is_accepted (answer_to b (Plain c))) c
own_after b _ = b.own

-- the masks of all users for these modules, if they have changed
abbrev pub masks_for : Between → Bool → List Bool → List Command
masks_for b true loaded = masks_from 0 b.own (hidden b.owners loaded)
masks_for b false loaded = []

-- the commands that carry out a line. A load or unload ends by setting the graph depth to what it is, so that each has a last command
abbrev pub commands_for : Between → Line → List Command
commands_for b (Plain c) = command_for b c ∷ []
commands_for b line = masks_for b (is_accepted (answer_to b line)) (loaded_after b line) ++ MaxDepth b.desk.depth ∷ []

-- the desk after these commands, of which the first is the one after the k-th
abbrev pub desk_after : Job → Desk → ℕ → List Command → Desk
desk_after job desk k [] = desk
desk_after job desk k (c ∷ rest) = desk_after job (after job desk (suc k) (Some c)) (suc k) rest

-- what is known after a line
abbrev pub after_line : Between → Line → Between
after_line b line = record b {
  loaded = loaded_after b line;
  own = own_after b line;
  desk = desk_after (job_of b.declared) b.desk b.commands (commands_for b line);
  commands = b.commands + length (commands_for b line);
}

-- and after some lines
abbrev pub after_lines : Between → List Line → Between
after_lines b [] = b
after_lines b (line ∷ rest) = after_lines (after_line b line) rest

-- ## the opening

-- the module of each function, if it lies in one
abbrev pub owners_of : List Func → List (Option ℕ)
owners_of functions = map (λ f. number_among (modules_in functions) f.owner) functions

-- at first each of n modules is loaded that isn't absent
abbrev pub loaded_at_first : ℕ → List ℕ → List Bool
loaded_at_first n absent = map (λ m. not (list_any (λ a. a == m) absent)) (range_with_len 0 n)

-- the functions that are hidden at first, if a module is absent
abbrev pub first_hidden : List (Option ℕ) → List Bool → List ℕ → Option Marks
first_hidden owners loaded [] = None
first_hidden owners loaded (m ∷ ms) = Some (hidden owners loaded)

-- the opening: with an absent module the masks of all users, who have no own sets yet
abbrev pub opening_of : Declared → Option Marks → List Command
opening_of d None = []
opening_of d (Some hidden) = masks_from 0 (replicate (length d.specs) (empty d.funcs)) hidden

-- what is known with these modules loaded and these functions hidden, after the opening
abbrev pub opened_with : Declared → List (Option ℕ) → Option Marks → List Bool → Between
opened_with d owners first loaded = record {
  declared = d;
  owners = owners;
  first = first;
  loaded = loaded;
  own = replicate (length d.specs) (empty d.funcs);
  desk = desk_after (job_of d) (opening (job_of d)) 0 (opening_of d first);
  commands = length (opening_of d first);
}

-- what is known before the first line, if these modules are absent
abbrev pub at_first : Declared → List Func → List ℕ → Between
at_first d functions absent =
    let owners = owners_of functions in
    let loaded = loaded_at_first (length (modules_in functions)) absent in
    opened_with d owners (first_hidden owners loaded absent) loaded
