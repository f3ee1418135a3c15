-- A task's next operation, by what contracts see of it.
use Rattle.std.specs.Prelude.{ℕ, List, Option, Some, None, slice_get, unwrap_or}
use Rattle.std.specs.Option.{option_and_then}
use Rattle.ft_base.specs.declared.number.CallNo.{CallNo}
use Rattle.ft_base.specs.declared.item.Item.{Item}
use Rattle.ft_base.specs.declared.item.Item.TheVariants.{Enter, Back, BackEnd, Refuse, Miss, Body, Leave, Exit, ExitEnd, Ret}
use Rattle.ft_base.specs.declared.task.TaskAct.{TaskAct}
use Rattle.ft_base.specs.declared.task.TaskAct.TheVariants.{Call, Ret as RetAct, After}
use Rattle.ft_base.specs.Same.{context}
use Rattle.ops_list.specs.Walks.{walk_op}
use Rattle.hash_pages.specs.Reads.{read_next}
use Rattle.return_stack.specs.declared.shadow.FrameUser.{FrameUser}
use Rattle.return_stack.specs.Calls.{StackedCall, caller_of, top_users}
use Rattle.word_map.specs.Words.{Clock, Depth, Head, Next, Pids, Sel, Tail, Tramp}
use Rattle.word_map.specs.Ops.{WordOp, Load as LoadOp, Store, Mark as MarkOp}
use Rattle.task_core.specs.declared.moment.Moment.{Moment}
use Rattle.task_core.specs.declared.moment.Moment.TheVariants.{Polling, First, Load, Mark}
use Rattle.task_core.specs.declared.moment.ToLoad.{ToLoad}
use Rattle.task_core.specs.declared.moment.ToLoad.TheVariants.{Fetch, GotHead, GotBreak, InTramp, OwnSel, Walking, Reading, AtPids, AtDepth, AtExit}
use Rattle.task_core.specs.declared.moment.ToMark.{ToMark}
use Rattle.task_core.specs.declared.moment.ToMark.TheVariants.{Refusing, Calling, Missing, Acting, Ending, Closing, Leaving, Exiting, EndingExit, Returning}
use Rattle.task_core.specs.declared.open_call.OpenCall.{OpenCall}
use Rattle.task_core.specs.declared.task.Task.{Task}
use Rattle.task_core.specs.Opens.{latest, top_of}

-- the latest open call
abbrev pub top : Task → OpenCall
top t = top_of t.opens.calls

-- the task's next call
abbrev pub next_call : Task → CallNo
next_call t = record { task = t.number; n = t.next }

-- the present act
abbrev pub present : Task → Option TaskAct
present t = slice_get t.acts.all t.acts.gone

-- a user that there is not
abbrev pub no_user : FrameUser
no_user = record { user = record { 0 = 0 }; reg = 0; entry = 0 }

-- the user at a place of the latest call's frame, if there is one
abbrev pub owed_at : List StackedCall → ℕ → Option FrameUser
owed_at calls i = option_and_then (λ users. slice_get users i) (top_users calls)

-- the user at a place of the frame of a task's latest call, if there is one
abbrev pub owed : Task → ℕ → Option FrameUser
owed t i = owed_at t.stacks.calls i

-- the user at a place where there is one
abbrev pub frame_user : Task → ℕ → FrameUser
frame_user t i = unwrap_or (owed t i) no_user

-- the first operation of an act
abbrev pub first_op : Task → Option TaskAct → Option WordOp
first_op t (Some (Call f)) = Some (MarkOp (Enter (next_call t) (context t.guards.raised) f (latest t.opens.calls)))
first_op t (Some RetAct) = Some (MarkOp (Leave (top t).call))
first_op t (Some (After n)) = Some (LoadOp Clock)
first_op t _ = None

-- a load
abbrev pub load_op : Task → ToLoad → Option WordOp
load_op t Fetch = Some (LoadOp (Head (top t).func.0))
load_op t (GotHead byte) = Some (LoadOp (Tail (top t).func.0))
load_op t GotBreak = Some (LoadOp (Next (top t).func.0))
load_op t (InTramp s) = Some (LoadOp (Tramp s))
load_op t (OwnSel u reg) = Some (LoadOp (Sel u.0))
load_op t Walking = walk_op (top t).walk.phase
load_op t (Reading r) = read_next r
load_op t (AtPids u reg) = Some (LoadOp Pids)
load_op t (AtDepth u reg) = Some (LoadOp Depth)
load_op t (AtExit i) = Some (LoadOp (Sel (frame_user t i).user.0))

-- the item of a mark
abbrev pub item_of : Task → ToMark → Item
item_of t (Refusing u reg reason) = Refuse (top t).call u reason
item_of t (Calling u reg) = Back (top t).call u
item_of t (Missing u) = Miss (top t).call u
item_of t (Acting u f x) = Enter (next_call t) x f (latest t.opens.calls)
item_of t (Ending u) = BackEnd (top t).call u
item_of t Closing = Body (top t).call (top t).runs (top t).ran
item_of t Leaving = Leave (top t).call
item_of t (Exiting i) = Exit (top t).call (frame_user t i).user (frame_user t i).entry
item_of t (EndingExit i) = ExitEnd (top t).call (frame_user t i).user
item_of t Returning = Ret (top t).call (caller_of t.stacks.calls)

-- at a moment
abbrev pub op_at : Task → Moment → Option WordOp
op_at t Polling = None
op_at t First = first_op t (present t)
op_at t (Load load) = load_op t load
op_at t (Mark mark) = Some (MarkOp (item_of t mark))

-- a task's next operation, if it is not before a poll
abbrev pub op_of : Task → Option WordOp
op_of t = op_at t t.moment

-- the item of an operation, if it is a mark
abbrev pub item_in : Option WordOp → Option Item
item_in (Some (MarkOp item)) = Some item
item_in (Some (LoadOp w)) = None
item_in (Some (Store w x)) = None
item_in None = None
