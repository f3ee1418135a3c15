-- The shadow stack of a task, read off its items one by one: which of its calls have a frame there now. `held` in Past says by the
-- visits in a past how many other calls have one, and `plain_forms::held_is_the_shadow_stack` that both are one
-- (ftrace.rst, function graph tracer; fprobe.rst, The missed counter).
use Rattle.std.specs.Prelude.{ℕ, Bool, not, ◌||◌, ◌&&◌, nat_lt, List, [], ◌∷◌, length, if◌then◌else◌}
use Rattle.std.specs.List.{list_any, filter}
use Rattle.ft_base.specs.declared.number.CallNo.{CallNo}
use Rattle.ft_base.specs.declared.item.Item.{Item}
use Rattle.ft_base.specs.declared.item.Item.TheVariants.{Back, Body, Ret}
use Rattle.ft_base.specs.Same.{same_call}
use Rattle.ft_base.specs.Job.{Job}
use Rattle.ft_base.specs.Desk.{spec_at}
use Rattle.ft_base.specs.Kinds.{has_depth, has_exit, cancels}
use Rattle.ft_hist.specs.Past.{is_of}

-- a call that has a frame, and whether it keeps it past its Body
pub record Framed : Type 0 where
  pub call : CallNo
  pub kept : Bool

-- the frames of all other calls
abbrev pub without : CallNo → List Framed → List Framed
without call frames = filter (λ f. not (same_call f.call call)) frames

-- the call has a frame that it keeps past its Body
abbrev pub is_kept : CallNo → List Framed → Bool
is_kept call frames = list_any (λ f. same_call f.call call && f.kept) frames

-- a callback of the user gets a frame: always for a graph or profile user, and for an fprobe with an exit if the other calls leave room
abbrev pub gets : Job → CallNo → ℕ → List Framed → Bool
gets job call u frames = has_depth (spec_at job u).kind || (has_exit (spec_at job u).kind && nat_lt (length (without call frames)) job.frames)

-- then the call has one, and keeps it if it would have, or if the user doesn't cancel its exit
abbrev pub with_user : Job → CallNo → ℕ → List Framed → List Framed
with_user job call u frames =
    if gets job call u frames then record { call = call; kept = is_kept call frames || not (cancels (spec_at job u).kind) } ∷ without call frames else frames

-- what an item of the task does to its shadow stack: a Back may set up a frame, a Body takes it away if nobody keeps it, a Ret takes it away
abbrev pub after : Job → Item → List Framed → List Framed
after job (Back call u) frames = with_user job call u.0 frames
after job (Body call g ran) frames = if is_kept call frames then frames else without call frames
after job (Ret call to) frames = without call frames
after job _ frames = frames

-- the calls of a task that have a frame now, the latest first
unfoldable pub shadow_stack : Job → ℕ → List Item → List Framed
shadow_stack job t [] = []
shadow_stack job t (item ∷ past) = if is_of t item then after job item (shadow_stack job t past) else shadow_stack job t past
