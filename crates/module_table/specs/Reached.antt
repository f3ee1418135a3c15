-- What holds between lines: the desk of users whose notrace sets have the hidden functions.
use Rattle.std.specs.Prelude.{◌≡◌, ℕ, ◌+◌, ◌<◌, ◌&&◌, ◌++◌, Bool, not, true, false, List, [], ◌∷◌, length, get_or, None, IfSome, is_some}
use Rattle.ft_base.specs.Marks.{Marks, holds, is_empty, union}
use Rattle.ft_base.specs.Job.{Job, Command, MaxDepth}
use Rattle.ft_base.specs.Desk.{Desk, user_at, spec_at, is_matching, is_sited, matches_by}
use Rattle.ft_base.specs.WellFormed.{IsNamedIn, IsSetIn}
use Rattle.ft_desk.specs.Declarations.{Declared, job_of}
use Rattle.module_table.specs.Lines.{Line, Plain, Load, Unload, Between, own_of, hidden, hidden_now, is_hidden, masks_from, replaces, desk_after}

-- the users and functions of a line are declared, and its module is one of so many
abbrev pub IsLineIn : Declared → ℕ → Line → Type 0
IsLineIn d modules (Plain c) = IsNamedIn (length d.specs) c × IsSetIn d.funcs c
IsLineIn d modules (Load m) = m < modules
IsLineIn d modules (Unload m) = m < modules

-- a registered user that replaces functions matches this one
abbrev pub is_replaced : Job → Desk → ℕ → ℕ → Bool
is_replaced job desk u f = (user_at desk u).registered && is_some (spec_at job u).ipmodify && is_matching (user_at desk u) f

-- a user that is registered and replaces functions
abbrev pub binds : Between → ℕ → Type 0
binds b u = ((user_at b.desk u).registered && is_some (spec_at (job_of b.declared) u).ipmodify) ≡ true

-- Each function has its module and each user its own set. On the desk each user keeps out its own set and the hidden functions; no
-- registered user replaces all functions, and no two replace one function
pub record IsReached (b : Between) : Type 0 where
  pub owners : length b.owners ≡ b.declared.funcs
  pub own : length b.own ≡ length b.declared.specs
  pub sets : (u : ℕ) → u < length b.declared.specs → length (own_of b u) ≡ b.declared.funcs
  pub first : IfSome b.first (λ h. length h ≡ b.declared.funcs)
  pub users : length b.desk.users ≡ length b.declared.specs
  pub sizes : (u : ℕ) → u < length b.declared.specs → length (user_at b.desk u).filter ≡ b.declared.funcs
  pub masked : (u : ℕ) → u < length b.declared.specs → (user_at b.desk u).notrace ≡ union (own_of b u) (hidden_now b)
  pub filters : (u : ℕ) → binds b u → is_empty (user_at b.desk u).filter ≡ false
  pub alone : (f u v : ℕ) → f < b.declared.funcs → is_replaced (job_of b.declared) b.desk u f ≡ true
      → is_replaced (job_of b.declared) b.desk v f ≡ true → u ≡ v

-- the function lies in no module, or its module is loaded
abbrev pub is_open : Between → ℕ → Bool
is_open b f = not (is_hidden b.loaded (get_or b.owners f None))

-- these modules would be loaded, and nothing else would have changed: some functions, which are hidden before and after, keep the
-- users that replace functions apart
pub record IsSafe (b : Between) (loaded : List Bool) : Type 0 where
  pub low : Marks
  pub size : length low ≡ b.declared.funcs
  pub before : (f : ℕ) → holds low f ≡ true → holds (hidden_now b) f ≡ true
  pub now : (f : ℕ) → holds low f ≡ true → holds (hidden b.owners loaded) f ≡ true
  pub apart : (f u v : ℕ) → f < b.declared.funcs → replaces b low f u ≡ true → replaces b low f v ≡ true → u ≡ v

-- the commands of a load or unload that is accepted, after which these modules are loaded
abbrev pub moving : Between → List Bool → List Command
moving b loaded = masks_from 0 b.own (hidden b.owners loaded) ++ MaxDepth b.desk.depth ∷ []

-- what is known then
abbrev pub moved : Between → List Bool → Between
moved b loaded = record b {
  loaded = loaded;
  desk = desk_after (job_of b.declared) b.desk b.commands (moving b loaded);
  commands = b.commands + length (moving b loaded);
}

-- what is known after one that is refused
abbrev pub kept_back : Between → Between
kept_back b = record b {
  desk = desk_after (job_of b.declared) b.desk b.commands (MaxDepth b.desk.depth ∷ []);
  commands = b.commands + 1;
}

-- a user is sited at a function exactly if it is registered, matches it by its filter and its own notrace set, and it is open
abbrev pub HidesFunctions : Between → Type 0
HidesFunctions b = (u f : ℕ) → u < length b.declared.specs → f < b.declared.funcs
    → is_sited b.desk u f ≡ ((user_at b.desk u).registered && matches_by (user_at b.desk u).filter (own_of b u) f && is_open b f)
