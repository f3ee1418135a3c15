-- What the modules of a script that aren't loaded hide, on the desk of its job.
use Rattle.std.specs.Prelude.{◌≡◌, ℕ, ◌<◌, ◌&&◌, Bool, true, length, take, Option, Some, None}
use Rattle.ft_base.specs.Job.{Job}
use Rattle.ft_base.specs.Desk.{Desk, desk, user_at, matches_by, is_sited, is_on}
use Rattle.func_table.specs.Modules.{module_of}
use Rattle.module_table.specs.Lines.{Between, own_of}
use Rattle.module_coverage.specs.Loaded.{is_loaded}
use Rattle.ft_script.specs.Above.{Above}
use Rattle.ft_script.specs.Expansion.{opened, expanded_all}

-- what is known after the first n lines of control
abbrev pub known_after : Above → ℕ → Between
known_after above n = (expanded_all (opened above) (take n above.ctls)).known

-- the module is loaded after k commands, if there is one
abbrev pub is_loaded_or_none : Job → ℕ → Option ℕ → Bool
is_loaded_or_none job k None = true
is_loaded_or_none job k (Some m) = is_loaded job.lines m k

-- the function is there after k commands: it lies in no module, or its module is loaded
abbrev pub is_there : Job → ℕ → ℕ → Bool
is_there job k f = is_loaded_or_none job k (module_of job.functions f)

-- the user is registered, and matches the function by its filter and by the functions that it keeps out itself
abbrev pub matches_by_own : Desk → Between → ℕ → ℕ → Bool
matches_by_own d known u f = (user_at d u).registered && matches_by (user_at d u).filter (own_of known u) f

-- On the desk after the commands of the first n lines of control, whole lines, a function's site is patched for a user exactly if the user matches
-- it by its own sets and the function is there; and a call of it calls the user back exactly if the user is enabled besides
pub record HidesModules (above : Above) (job : Job) (n : ℕ) : Type 0 where
  pub sited : (u f : ℕ) → u < length above.users → f < length above.functions
      → is_sited (desk job (known_after above n).commands) u f
      ≡ (matches_by_own (desk job (known_after above n).commands) (known_after above n) u f && is_there job (known_after above n).commands f)
  pub on : (u f : ℕ) → u < length above.users → f < length above.functions
      → is_on (desk job (known_after above n).commands) u f
      ≡ (matches_by_own (desk job (known_after above n).commands) (known_after above n) u f && is_there job (known_after above n).commands f
      && (user_at (desk job (known_after above n).commands) u).enabled)
