-- What control stores for a command, as the word machine says it: by the command's effect, and by the desks before it and after it.
use Rattle.std.specs.Prelude.{ℕ, suc, Bool, true, false, List, [], length, Option, Some, None}
use Rattle.ft_base.specs.Job.{Job, funcs}
use Rattle.ft_base.specs.Desk.{desk}
use Rattle.site_bytes.specs.declared.insn.SiteChange.{SiteChange}
use Rattle.word_map.specs.Contents.{mask_of, sel_of}
use Rattle.ft_desk.specs.declared.plan.TrampChange.{TrampChange}
use Rattle.ft_desk.specs.declared.plan.TrampChange.TheVariants.{Keep as KeepTramp}
use Rattle.ft_desk.specs.declared.plan.ListChange.{ListChange}
use Rattle.ft_desk.specs.declared.plan.ListChange.TheVariants.{Keep as KeepList, Push}
use Rattle.ft_desk.specs.Plans.{PlainPlan, user_no, taken, given_back, first_of, unlinked, sites_between}
use Rattle.word_machine.specs.Commands.{Effect, Adds, Removes, Edits, Enables, Lists, Levels, Nothing, subject, state_of}
use Rattle.word_machine.specs.Control.{copy_after, relinked}

-- ## by the effect alone

-- the command is about one user
abbrev pub is_of_user : Effect → Bool
is_of_user Lists = false
is_of_user Levels = false
is_of_user Nothing = false
is_of_user _ = true

-- the user's sets are written
abbrev pub writes_sets : Effect → Bool
writes_sets Adds = true
writes_sets Edits = true
writes_sets _ = false

-- call sites may change
abbrev pub patches : Effect → Bool
patches Adds = true
patches Removes = true
patches Edits = true
patches _ = false

-- the command waits for quiet points
abbrev pub waits_for_quiet : Effect → Bool
waits_for_quiet Adds = false
waits_for_quiet Enables = false
waits_for_quiet Nothing = false
waits_for_quiet _ = true

-- ## what is stored

-- something, or nothing
abbrev pub stored_if : {A : Type 0} → Bool → A → Option A
stored_if true x = Some x
stored_if false x = None

-- the trampoline's word
abbrev pub tramp_followed : Job → ℕ → Effect → TrampChange
tramp_followed job d Adds = taken (state_of job (suc d) (subject job d))
tramp_followed job d Removes = given_back (state_of job d (subject job d))
tramp_followed job d _ = KeepTramp

-- the list of registered users, which was this before
abbrev pub list_followed : ℕ → List ℕ → Effect → ListChange
list_followed u order Adds = Push (first_of order)
list_followed u order Removes = unlinked u order
list_followed u order _ = KeepList

-- the traced tasks
abbrev pub pids_followed : Job → ℕ → Effect → Option ℕ
pids_followed job d Lists = Some (mask_of (desk job (suc d)) (length job.tasks))
pids_followed job d _ = None

-- the graph depth
abbrev pub depth_followed : Job → ℕ → Effect → Option ℕ
depth_followed job d Levels = Some (desk job (suc d)).depth
depth_followed job d _ = None

-- the call sites
abbrev pub sites_followed : Job → ℕ → Bool → List SiteChange
sites_followed job d true = sites_between (desk job d) (desk job (suc d)) (funcs job)
sites_followed job d false = []

-- The plan of the command after the first d, by its effect, where users have these copies of their sets in use and these users are
-- registered, the latest first
abbrev pub plan_followed : Job → ℕ → (ℕ → ℕ) → List ℕ → Effect → PlainPlan
plan_followed job d copies order e = record {
  user = stored_if (is_of_user e) (user_no (subject job d));
  pair = writes_sets e;
  sel = stored_if (is_of_user e) (sel_of (state_of job (suc d) (subject job d)) (copy_after e (copies (subject job d))));
  tramp = tramp_followed job d e;
  list = list_followed (subject job d) order e;
  pids = pids_followed job d e;
  depth = depth_followed job d e;
  sites = sites_followed job d (patches e);
  quiet = waits_for_quiet e;
}

-- the registered users after the command
abbrev pub order_followed : ℕ → List ℕ → Effect → List ℕ
order_followed u order Adds = relinked Adds u order
order_followed u order Removes = relinked Removes u order
order_followed u order _ = order
