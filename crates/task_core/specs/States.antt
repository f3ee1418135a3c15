-- The task of the word machine that a task of code stands for.
use Rattle.std.specs.Prelude.{Bool, true, false, List, [], ◌∷◌, drop, length, map, Option, Some, None, is_some}
use Rattle.ft_hist.specs.Frames.{FrameUser}
use Rattle.return_stack.specs.declared.shadow.FrameUser.{FrameUser as OwedUser}
use Rattle.return_stack.specs.Calls.{StackedCall, top_users}
use Rattle.word_machine.specs.Task.{OpenCall, TaskState, Moment, next_exit}
use Rattle.word_machine.specs.Task as machine
use Rattle.task_core.specs.declared.moment.Moment.{Moment as CodeMoment}
use Rattle.task_core.specs.declared.moment.Moment.TheVariants.{Polling, First, Load, Mark}
use Rattle.task_core.specs.declared.moment.ToLoad.{ToLoad}
use Rattle.task_core.specs.declared.moment.ToLoad.TheVariants.{Fetch, GotHead, GotBreak, InTramp, OwnSel, Walking, Reading, AtPids, AtDepth, AtExit}
use Rattle.task_core.specs.declared.moment.ToMark.{ToMark}
use Rattle.task_core.specs.declared.moment.ToMark.TheVariants.{Refusing, Calling, Missing, Acting, Ending, Closing, Leaving, Exiting, EndingExit, Returning}
use Rattle.task_core.specs.declared.open_call.OpenCall.{OpenCall as CodeCall}
use Rattle.task_core.specs.declared.task.Task.{Task}
use Rattle.task_core.specs.Moments.{reading_at, walking_at}
use Rattle.task_core.specs.TaskInvariant.{act_raised}
use Rattle.task_core.specs.TaskOps.{top}

-- ## open calls

-- a user of a frame
abbrev pub plain_user : OwedUser → FrameUser
plain_user m = record { user = m.user.0; reg = m.reg; entry = m.entry }

-- the users of a call that holds a frame or doesn't
abbrev pub users_in : Option (List OwedUser) → List FrameUser
users_in None = []
users_in (Some users) = map plain_user users

-- a call, by what the task knows of it and by its stacks
abbrev pub joined : CodeCall → StackedCall → OpenCall
joined o s = record {
  call = o.call;
  ctx = o.ctx;
  func = o.func.0;
  scripted = o.scripted;
  ran = o.ran;
  runs = o.runs;
  framed = is_some s.users;
  users = users_in s.users;
  user = o.user.0;
}

-- all open calls
abbrev pub stack_in : List CodeCall → List StackedCall → List OpenCall
stack_in [] ss = []
stack_in (o ∷ os) [] = []
stack_in (o ∷ os) (s ∷ ss) = joined o s ∷ stack_in os ss

-- all open calls of a task
abbrev pub stack_of : Task → List OpenCall
stack_of t = stack_in t.opens.calls t.stacks.calls

-- ## where the task stands

-- before a load, with these users of the top call's frame
abbrev pub load_moment : CodeCall → List FrameUser → ToLoad → Moment
load_moment o users Fetch = machine.Fetch
load_moment o users (GotHead byte) = machine.GotHead byte
load_moment o users GotBreak = machine.GotBreak
load_moment o users (InTramp s) = machine.InTramp s
load_moment o users (OwnSel u reg) = machine.OwnSel u.0 reg
load_moment o users Walking = walking_at o.walk.phase
load_moment o users (Reading r) = reading_at r.user (λ reg. machine.Closing) r.phase
load_moment o users (AtPids u reg) = machine.AtPids u.0 reg
load_moment o users (AtDepth u reg) = machine.AtDepth u.0 reg
load_moment o users (AtExit i) = next_exit (drop i users)

-- before the exit callback of the first of these users, and in it
abbrev pub exiting : List FrameUser → Moment
exiting [] = machine.Returning
exiting (m ∷ rest) = machine.Exiting m rest

-- in the exit callback of the first of these users
abbrev pub ending_exit : List FrameUser → Moment
ending_exit [] = machine.Returning
ending_exit (m ∷ rest) = machine.EndingExit m rest

-- before a mark
abbrev pub mark_moment : List FrameUser → ToMark → Moment
mark_moment users (Refusing u reg reason) = machine.Refusing u.0 reg reason
mark_moment users (Calling u reg) = machine.Calling u.0 reg
mark_moment users (Missing u) = machine.Missing u.0
mark_moment users (Acting u f x) = machine.Acting u.0 (record { ctx = x; func = f.0 })
mark_moment users (Ending u) = machine.Ending u.0
mark_moment users Closing = machine.Closing
mark_moment users Leaving = machine.Leaving
mark_moment users (Exiting i) = exiting (drop i users)
mark_moment users (EndingExit i) = ending_exit (drop i users)
mark_moment users Returning = machine.Returning

-- at a moment
abbrev pub moment_at : CodeCall → List FrameUser → CodeMoment → Moment
moment_at o users Polling = machine.Polling
moment_at o users First = machine.First
moment_at o users (Load load) = load_moment o users load
moment_at o users (Mark mark) = mark_moment users mark

-- the moment that a task is at
abbrev pub moment_of : Task → Moment
moment_of t = moment_at (top t) (users_in (top_users t.stacks.calls)) t.moment

-- ## the task

-- the task; the contexts that the calls of acts have raised are not those of its script
abbrev pub state_of : Task → TaskState
state_of t = record {
  next = t.next;
  acts = drop t.acts.gone t.acts.all;
  gone = t.acts.gone;
  contexts = drop (length (act_raised (stack_of t))) t.guards.raised;
  stack = stack_of t;
  word = t.word;
  moment = moment_of t;
}

-- before a poll
abbrev pub is_polling : CodeMoment → Bool
is_polling Polling = true
is_polling _ = false
