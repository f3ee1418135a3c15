-- What a history tells at a place. Each definition takes the items before that place, the latest first: its past.
use Rattle.std.specs.Prelude.{ℕ, suc, ◌≡◌, ◌<◌, Bool, true, false, not, ◌||◌, ◌&&◌, ◌==◌, nat_lt, List, [], ◌∷◌, length, count_by, Option, Some, None, if◌then◌else◌}
use Rattle.std.specs.List.{list_any, filter}
use Rattle.ft_base.specs.declared.number.CallNo.{CallNo}
use Rattle.ft_base.specs.declared.context.Ctx.{Ctx}
use Rattle.ft_base.specs.declared.context.Ctx.TheVariants.{Normal}
use Rattle.ft_base.specs.declared.item.Item.{Item}
use Rattle.ft_base.specs.declared.item.Item.TheVariants.{Begin, Return, Enter, Back, BackEnd, Refuse, Body, Leave, Exit, ExitEnd, Ret}
use Rattle.ft_base.specs.Same.{same_call, same_ctx}
use Rattle.ft_base.specs.Items.{call_of, is_task}
use Rattle.ft_base.specs.Job.{Job}
use Rattle.ft_base.specs.Desk.{UserState, spec_at, desk, is_on, user_at}
use Rattle.ft_base.specs.Kinds.{has_depth, has_exit, cancels}

-- an item of the task: one of its calls
abbrev pub is_of : ℕ → Item → Bool
is_of t item = is_task t (call_of item)

-- how many commands have returned
abbrev pub done : List Item → ℕ
done [] = 0
done (Return k a ∷ past) = suc (done past)
done (_ ∷ past) = done past

-- how many commands have begun
abbrev pub begun : List Item → ℕ
begun [] = 0
begun (Begin k ∷ past) = suc (begun past)
begun (_ ∷ past) = begun past

-- a call as its Enter tells it, with the number of commands that had returned there
pub record Entered : Type 0 where
  pub ctx : Ctx
  pub func : ℕ
  pub caller : Option CallNo
  pub from : ℕ

-- the Enter of a call
abbrev pub entered : CallNo → List Item → Option Entered
entered call [] = None
entered call (Enter c ctx f caller ∷ past) =
    if same_call c call then Some (record { ctx = ctx; func = f.0; caller = caller; from = done past }) else entered call past
entered call (_ ∷ past) = entered call past

-- a callback that is open: an entry callback, or an exit callback
pub record Callback : Type 0 where
  pub call : CallNo
  pub user : ℕ
  pub ctx : Option Ctx

-- the context of a call, if it has an Enter
abbrev pub ctx_of : CallNo → List Item → Option Ctx
ctx_of call past = ctx_in (entered call past)
  where
    ctx_in : Option Entered → Option Ctx
    ctx_in None = None
    ctx_in (Some e) = Some e.ctx

-- the same without the latest callback of that call and user
abbrev pub ended : CallNo → ℕ → List Callback → List Callback
ended call u [] = []
ended call u (b ∷ open') = if same_call b.call call && (b.user == u) then open' else b ∷ ended call u open'

-- the callbacks that are open
abbrev pub callbacks : List Item → List Callback
callbacks [] = []
callbacks (Back c u ∷ past) = record { call = c; user = u.0; ctx = ctx_of c past } ∷ callbacks past
callbacks (BackEnd c u ∷ past) = ended c u.0 (callbacks past)
callbacks (Exit c u p ∷ past) = record { call = c; user = u.0; ctx = ctx_of c past } ∷ callbacks past
callbacks (ExitEnd c u ∷ past) = ended c u.0 (callbacks past)
callbacks (_ ∷ past) = callbacks past

-- the context is this one
abbrev pub is_ctx : Option Ctx → Ctx → Bool
is_ctx None x = false
is_ctx (Some y) x = same_ctx y x

-- a callback is of this task and context
abbrev pub is_at : ℕ → Ctx → Callback → Bool
is_at t x b = (b.call.task.0 == t) && is_ctx b.ctx x

-- how many callbacks of this task and context are open
abbrev pub open_callbacks : ℕ → Ctx → List Item → ℕ
open_callbacks t x past = count_by (is_at t x) (callbacks past)

-- whether a callback of this user is open
abbrev pub is_called : ℕ → List Item → Bool
is_called u past = list_any (λ b. b.user == u) (callbacks past)

-- what is used if a call has no Enter, which a plain run rules out
abbrev pub unentered : Entered
unentered = record { ctx = Normal; func = 0; caller = None; from = 0 }

-- what the Enter of a call tells
abbrev pub entry_of : CallNo → List Item → Entered
entry_of call past = or_unentered (entered call past)
  where
    or_unentered : Option Entered → Entered
    or_unentered None = unentered
    or_unentered (Some e) = e

-- whether a call is open
abbrev pub is_open : CallNo → List Item → Bool
is_open call [] = false
is_open call (Enter c ctx f caller ∷ past) = same_call c call || is_open call past
is_open call (Ret c to ∷ past) = not (same_call c call) && is_open call past
is_open call (_ ∷ past) = is_open call past

-- whether a call's dispatch is over
abbrev pub is_dispatched : CallNo → List Item → Bool
is_dispatched call [] = false
is_dispatched call (Body c g ran ∷ past) = same_call c call || is_dispatched call past
is_dispatched call (_ ∷ past) = is_dispatched call past

-- the calls that were entered, the latest first
abbrev pub calls : List Item → List CallNo
calls [] = []
calls (Enter c ctx f caller ∷ past) = c ∷ calls past
calls (_ ∷ past) = calls past

-- an entry callback or a refusal: of which registration, at which place, and whether it is a callback that gets a frame
pub record Visit : Type 0 where
  pub call : CallNo
  pub user : ℕ
  pub reg : ℕ
  pub since : ℕ
  pub place : ℕ
  pub back : Bool
  pub framed : Bool

-- among these visits, one of the call that got a frame and passes
abbrev pub has_frame_user : CallNo → (Visit → Bool) → List Visit → Bool
has_frame_user call passes ms = list_any (λ m. same_call m.call call && m.framed && passes m) ms

-- whether a call holds a frame, after these visits
abbrev pub holds_frame : Job → CallNo → List Item → List Visit → Bool
holds_frame job call past ms =
    is_open call past
    && (if is_dispatched call past then has_frame_user call (λ m. not (cancels (spec_at job m.user).kind)) ms else has_frame_user call (λ m. true) ms)

-- how many other calls of the task hold a frame, after these visits
abbrev pub held_after : Job → CallNo → List Item → List Visit → ℕ
held_after job call past ms =
    length (filter (λ c. (c.task.0 == call.task.0) && not (same_call c call) && holds_frame job c past ms) (calls past))

-- whether a Back of the user gets a frame on the shadow stack: always for a graph or profile user, which is refused where there is none,
-- and for an fprobe with an exit if the other calls leave room for one (ftrace.rst, function graph tracer; fprobe.rst, The missed counter)
abbrev pub gets_frame : Job → CallNo → ℕ → List Item → List Visit → Bool
gets_frame job call u past ms =
    has_depth (spec_at job u).kind || (has_exit (spec_at job u).kind && nat_lt (held_after job call past ms) job.frames)

-- the number of commands after which a user's registration is read: those that have returned if it is on then, else those that have begun
abbrev pub registration_at : Job → CallNo → ℕ → List Item → ℕ
registration_at job call u past = if is_on (desk job (done past)) u (entry_of call past).func then done past else begun past

-- a user as a Back or a Refuse of it in a call finds it
abbrev pub user_now : Job → CallNo → ℕ → List Item → UserState
user_now job call u past = user_at (desk job (registration_at job call u past)) u

-- the number of the command that registered it
abbrev pub since_now : Job → CallNo → ℕ → List Item → ℕ
since_now job call u past = (user_now job call u past).since

-- what a Back or a Refuse of a user in a call is, on the past before it
abbrev pub visit : Job → CallNo → ℕ → List Item → List Visit → Bool → Visit
visit job call u past ms back =
    let s = user_now job call u past in
    record { call = call; user = u; reg = s.reg; since = s.since; place = length past; back = back; framed = back && gets_frame job call u past ms }

-- the entry callbacks and refusals, the latest first
unfoldable pub all_visits : Job → List Item → List Visit
all_visits job [] = []
all_visits job (Back c u ∷ past) = visit job c u.0 past (all_visits job past) true ∷ all_visits job past
all_visits job (Refuse c u reason ∷ past) = visit job c u.0 past (all_visits job past) false ∷ all_visits job past
all_visits job (_ ∷ past) = all_visits job past

-- how many other calls of the task hold a frame now
abbrev pub held : Job → CallNo → List Item → ℕ
held job call past = held_after job call past (all_visits job past)

-- a frame is left for the call
abbrev pub IsFrameLeft : Job → List Item → CallNo → Type 0
IsFrameLeft job past call = held job call past < job.frames

-- all frames are held by other calls
abbrev pub AreFramesHeld : Job → List Item → CallNo → Type 0
AreFramesHeld job past call = held job call past ≡ job.frames

-- those of one call
abbrev pub visits : Job → CallNo → List Item → List Visit
visits job call past = filter (λ m. same_call m.call call) (all_visits job past)

-- the Miss that comes after an item: after the Back of an fprobe with an exit, if all frames are held
abbrev pub miss_after : Job → Item → List Item → Option Callback
miss_after job (Back c u) past =
    if has_exit (spec_at job u.0).kind && (held job c past == job.frames) then Some (record { call = c; user = u.0; ctx = None }) else None
miss_after job _ past = None

-- the Miss that has to be the task's next item: that which comes after its latest
abbrev pub miss_due : Job → ℕ → List Item → Option Callback
miss_due job t [] = None
miss_due job t (item ∷ past) = if is_of t item then miss_after job item past else miss_due job t past

-- the places of the Backs whose exits the call has had, the latest first
abbrev pub exits : CallNo → List Item → List ℕ
exits call [] = []
exits call (Exit c u entry ∷ past) = if same_call c call then entry ∷ exits call past else exits call past
exits call (_ ∷ past) = exits call past

-- how many commands had returned at the call's Leave
abbrev pub done_at_leave : CallNo → List Item → ℕ
done_at_leave call [] = 0
done_at_leave call (Leave c ∷ past) = if same_call c call then done past else done_at_leave call past
done_at_leave call (_ ∷ past) = done_at_leave call past
