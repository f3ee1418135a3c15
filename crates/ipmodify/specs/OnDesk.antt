-- The holders that stand for the users of a desk, and the answer that a conflict gives.
use Rattle.std.specs.Prelude.{◌≡◌, ℕ, ◌<◌, Bool, ◌&&◌, List, length, Option, Some, None, is_some, slice_get}
use Rattle.ft_base.specs.declared.item.Answer.{Answer}
use Rattle.ft_base.specs.declared.item.Answer.TheVariants.{Accepted, Busy}
use Rattle.ft_base.specs.Marks.{Marks, holds}
use Rattle.ft_base.specs.Job.{Job, funcs}
use Rattle.ft_base.specs.Desk.{Desk, user_at, spec_at, matches_by, is_matching}
use Rattle.ipmodify.specs.declared.conflicts.Holder.{Holder}
use Rattle.ipmodify.specs.declared.conflicts.Conflict.{Conflict}

-- the functions of the job that a user with these two sets matches
pub record IsMatched (job : Job) (filter notrace on : Marks) : Type 0 where
  pub size : length on ≡ funcs job
  pub members : (f : ℕ) → f < funcs job → holds on f ≡ matches_by filter notrace f

-- the user is registered, replaces functions and matches this one
abbrev pub is_held : Job → Desk → ℕ → ℕ → Bool
is_held job desk v f = (user_at desk v).registered && is_some (spec_at job v).ipmodify && is_matching (user_at desk v) f

-- the holder stands for this user
pub record IsHolder (job : Job) (desk : Desk) (v : ℕ) (h : Holder) : Type 0 where
  pub user : h.user.0 ≡ v
  pub members : (f : ℕ) → f < funcs job → holds h.on f ≡ is_held job desk v f

-- one holder stands for each user, in the order of the users
pub record AreHolders (job : Job) (desk : Desk) (holders : List Holder) : Type 0 where
  pub count : length holders ≡ length job.users
  pub each : (v : ℕ) (h : Holder) → slice_get holders v ≡ Some h → IsHolder job desk v h

-- a claim with this conflict is refused, and one with none is accepted
abbrev pub answer_of : Option Conflict → Answer
answer_of None = Accepted
answer_of (Some c) = Busy c.func c.holder
