-- A call in its dispatch: what surrounds it, what its users get, and what is known of it by the words on its past.
use Rattle.std.specs.Prelude.{ℕ, ◌≡◌, ◌<◌, Bool, true, false, not, ◌||◌, ◌&&◌, nat_le, nat_lt, List, [], ◌∷◌, ◌++◌, length, count_by, Some, if◌then◌else◌}
use Rattle.std.specs.List.{list_any, AllByRecursion as Each}
use Rattle.ft_base.specs.declared.number.CallNo.{CallNo}
use Rattle.ft_base.specs.declared.number.FuncNo.{FuncNo}
use Rattle.ft_base.specs.declared.number.TaskNo.{TaskNo}
use Rattle.ft_base.specs.declared.context.Ctx.{Ctx}
use Rattle.ft_base.specs.declared.item.Item.{Item}
use Rattle.ft_base.specs.Same.{same_ctx}
use Rattle.ft_base.specs.Job.{Job}
use Rattle.ft_base.specs.Versions.{levels}
use Rattle.ft_base.specs.Desk.{spec_at}
use Rattle.ft_base.specs.Kinds.{has_depth, has_exit, cancels}
use Rattle.ft_hist.specs.Past.{Entered, entered, is_open, is_dispatched, exits, visits}
use Rattle.ft_hist.specs.Rules.{replacement, backs_with_replacement}
use Rattle.ft_hist.specs.Frames.{FrameUser, FrameOf}
use Rattle.ft_hist.specs.Known.{Watches, Sinks}

-- the call of a task by its number
abbrev pub call_of : TaskNo → ℕ → CallNo
call_of t n = record { task = t; n = n }

-- what surrounds a call: its task, the context of each guard level that is held, and how many frames the task's other calls hold
pub record Around : Type 0 where
  pub task : TaskNo
  pub guards : List Ctx
  pub level : ℕ

-- ## guards

-- how many levels of a context's guard are held
abbrev pub held_levels : List Ctx → Ctx → ℕ
held_levels guards x = count_by (λ y. same_ctx y x) guards

-- all levels of it are held
abbrev pub is_full : Job → List Ctx → Ctx → Bool
is_full job guards x = nat_le (levels job) (held_levels guards x)

-- ## frames

-- the user wants a frame, and there is room for one
abbrev pub takes_frame : Job → Around → ℕ → Bool
takes_frame job a u = has_depth (spec_at job u).kind || (has_exit (spec_at job u).kind && nat_lt a.level job.frames)

-- the user wants an exit, and there is no room for a frame
abbrev pub misses_frame : Job → Around → ℕ → Bool
misses_frame job a u = has_exit (spec_at job u).kind && not (nat_lt a.level job.frames)

-- the users of a call's frame after one more Back
abbrev pub joined : Job → Around → ℕ → ℕ → ℕ → List FrameUser → List FrameUser
joined job a u reg place users =
    if takes_frame job a u && not (cancels (spec_at job u).kind) then users ++ record { user = u; reg = reg; entry = place } ∷ [] else users

-- ## a dispatch

-- what a call's dispatch has come to: what is to run, whether the call has a frame, and its users in the order of their Backs
pub record Walk : Type 0 where
  pub runs : FuncNo
  pub framed : Bool
  pub users : List FrameUser

-- A call between its Enter and its Body, whose walk has come this far, with these users still to be looked at. Nothing here speaks of one
-- desk, so commands may come meanwhile.
--   known, opened       the history has its Enter, which tells `e`, and not its Ret
--   undone, unexited    it has no Body and no exit yet
--   sinks               the users visited so far came in the order of the rule
--   watch               whoever was not visited is still to be looked at, or was off at some command of the window
--   runs                what is to run is the replacement of the user that was called back, else the function
--   framed              it has a frame if one of its callbacks got one
--   frame               the users of its frame are those whose exits it owes
--   places              their callbacks stand in the history
--   room                its frame is within those that the task has
pub record CallSo (job : Job) (a : Around) (call : CallNo) (e : Entered) (w : Walk) (todo : ℕ → Bool) (past : List Item) : Type 0 where
  pub known : entered call past ≡ Some e
  pub opened : is_open call past ≡ true
  pub undone : is_dispatched call past ≡ false
  pub unexited : exits call past ≡ []
  pub sinks : Sinks (visits job call past)
  pub watch : Watches job call e.func past todo
  pub runs : w.runs.0 ≡ replacement job e.func (backs_with_replacement job (visits job call past))
  pub framed : list_any (λ m. m.framed && true) (visits job call past) ≡ w.framed
  pub frame : FrameOf job (visits job call past) w.users
  pub places : Each (λ x. x.entry < length past) w.users
  pub room : w.framed ≡ true → a.level < job.frames
