-- The rule of a task's open calls: each is in its dispatch, its body or its return, and what the history tells of it.
use Rattle.std.specs.Prelude.{ℕ, ◌≡◌, ◌<◌, ◌≤◌, Bool, true, false, List, [], ◌∷◌, Some, if◌then◌else◌}
use Rattle.ft_base.specs.declared.item.Item.{Item}
use Rattle.ft_base.specs.Job.{Job, funcs}
use Rattle.ft_hist.specs.Past.{Visit, ctx_of, visits, is_open, is_dispatched, exits, done_at_leave}
use Rattle.ft_hist.specs.Frames.{FrameUser, FrameOf}
use Rattle.ft_hist.specs.Known.{holds, ExitsSo}
use Rattle.word_machine.specs.Task.{OpenCall, Moment, Polling, First, Ending, Leaving, AtExit, Exiting, EndingExit, Returning, user_of}
use Rattle.word_machine.specs.Verdicts.{Here, Dispatches, SeenLive}

-- A call in its body.
--   dispatched   it has its Body
--   exits        it has had no exit
--   frame        its frame has the users whose exits it owes. Otherwise an exit would be lost, or made up
pub record BodyRuns (job : Job) (past : List Item) (c : OpenCall) : Type 0 where
  pub dispatched : is_dispatched c.call past ≡ true
  pub exits : exits c.call past ≡ []
  pub frame : FrameOf job (visits job c.call past) c.users

-- A call between its Leave and its Ret, with these exits to come.
--   dispatched   it has its Body
--   ms, so       each exit that the call owes has come, is still to come, or lacks because its registration was not live since the Leave
--   leave        its Leave came before now, so the commands since then count
pub record Leaves (job : Job) (past : List Item) (d : ℕ) (c : OpenCall) (rest : List FrameUser) : Type 0 where
  pub dispatched : is_dispatched c.call past ≡ true
  pub ms : List Visit
  pub so : ExitsSo job c.call ms past rest
  pub leave : done_at_leave c.call past ≤ d

-- Every open call of task t.
--   task      it is a call of the task
--   inside    its function is one of the job's
--   opened    the history has its Enter, and not its Ret
--   context   its context is that of its Enter. Otherwise the guards of the stack would not be those of the history
--   holds     it holds a frame if the history says so. Otherwise the depth limit would be missed
pub record Opened (job : Job) (past : List Item) (t : ℕ) (c : OpenCall) : Type 0 where
  pub task : c.call.task.0 ≡ t
  pub inside : c.func < funcs job
  pub opened : is_open c.call past ≡ true
  pub context : ctx_of c.call past ≡ Some c.ctx
  pub holds : holds job past c.call ≡ c.framed

-- an open call, by the moment at which it is
abbrev pub CallAt : Job → Here → List Item → ℕ → ℕ → OpenCall → List OpenCall → Moment → Type 0
CallAt job h past ack q c below Polling = BodyRuns job past c × (c.scripted ≡ true)
CallAt job h past ack q c below First = BodyRuns job past c × (c.scripted ≡ true)
CallAt job h past ack q c below Leaving = BodyRuns job past c × (c.scripted ≡ false)
CallAt job h past ack q c below (AtExit m rest) = Leaves job past h.d c (m ∷ rest)
CallAt job h past ack q c below (Exiting m rest) = Leaves job past h.d c (m ∷ rest) × SeenLive job h q m.user m.reg
CallAt job h past ack q c below (EndingExit m rest) = Leaves job past h.d c rest × SeenLive job h q m.user m.reg
CallAt job h past ack q c below Returning = Leaves job past h.d c []
CallAt job h past ack q c below m = Dispatches job h past ack q c below m

-- where the call below a call is: in its body, or in the callback whose act made the call above
abbrev pub under_by : Bool → ℕ → Moment
under_by scripted u = if scripted then First else Ending u

-- the same of two calls
abbrev pub under_call : OpenCall → List OpenCall → Moment
under_call c below = under_by c.scripted (user_of below)

-- all open calls of a task, the latest first
abbrev pub Calls : Job → Here → List Item → ℕ → ℕ → ℕ → Moment → List OpenCall → Type 0
Calls job h past ack q t m [] = Unit {0}
Calls job h past ack q t m (c ∷ below) = Opened job past t c × CallAt job h past ack q c below m × Calls job h past ack q t (under_call c below) below
