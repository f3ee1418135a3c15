-- What the view profile has made of the items of a job so far.
use Rattle.std.specs.Prelude.{ℕ, ◌≡◌, List, length, slice_get, Some, if◌then◌else◌}
use Rattle.ft_base.specs.declared.item.Item.{Item}
use Rattle.ft_base.specs.declared.item.Item.TheVariants.{Refuse, Miss}
use Rattle.ft_base.specs.declared.item.Reason.TheVariants.{Recursion}
use Rattle.ft_base.specs.Desk.{spec_at}
use Rattle.ft_base.specs.Job.{Job, Spec, funcs}
use Rattle.ft_hist.specs.Counts.{backs_of, missed_by}
use Rattle.func_profile.specs.Tallies.{IsTable}
use Rattle.trace_views.specs.declared.profile.ProfileView.{ProfileView}
use Rattle.trace_views.specs.declared.profile.UserTally.{UserTally}
use Rattle.trace_views.specs.OpenCalls.{IsFollowed}
use Rattle.trace_views.specs.Words.{is_profile}

-- how many functions have a row for a user: all if it is a profile user
abbrev pub rows_for : Job → Spec → ℕ
rows_for job spec = if is_profile spec.kind then funcs job else 0

-- what is kept of a user
pub record IsUserTally (job : Job) (past : List Item) (u : ℕ) (tally : UserTally) : Type 0 where
  pub table : IsTable u (rows_for job (spec_at job u)) past tally.table
  pub hits : tally.hits ≡ backs_of u past
  pub missed : tally.missed ≡ missed_by u past

-- what is kept of all users
pub record AreUserTallies (job : Job) (past : List Item) (tallies : List UserTally) : Type 0 where
  pub count : length tallies ≡ length job.users
  pub each : (u : ℕ) (tally : UserTally) → slice_get tallies u ≡ Some tally → IsUserTally job past u tally

-- The view has taken these items of a job, the latest first.
--   calls    the open calls
--   place'   the place of the next item
--   users    for each user its rows, and how often it was called back and missed
pub record HasProfile (job : Job) (past : List Item) (view : ProfileView) : Type 0 where
  pub calls : IsFollowed job past view.open
  pub place' : view.place ≡ length past
  pub users : AreUserTallies job past view.users.items

-- the item is a miss of the user, and neither a callback nor an exit
abbrev pub IsMissOf : ℕ → Item → Type 0
IsMissOf u (Refuse call v Recursion) = u ≡ v.0
IsMissOf u (Miss call v) = u ≡ v.0
IsMissOf u _ = ⊥
