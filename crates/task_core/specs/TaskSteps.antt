-- A task after its next operation gave a value, by what contracts see of it.
use Rattle.std.specs.Prelude.{ℕ, suc, Bool, true, false, ◌&&◌, ◌==◌, nat_le, ◌∷◌, drop, Option, Some, None, if◌then◌else◌}
use Rattle.std.specs.Int.{bit_at}
use Rattle.ft_base.specs.declared.context.Ctx.{Ctx}
use Rattle.ft_base.specs.declared.item.Ran.TheVariants.{Nop, Own}
use Rattle.ft_base.specs.declared.item.Reason.TheVariants.{Pid as ByPid, Recursion, Depth as ByDepth}
use Rattle.ft_base.specs.declared.number.CallNo.{CallNo}
use Rattle.ft_base.specs.declared.number.FuncNo.{FuncNo}
use Rattle.ft_base.specs.declared.number.UserNo.{UserNo}
use Rattle.ft_base.specs.declared.task.TaskAct.{TaskAct}
use Rattle.ft_base.specs.declared.task.TaskAct.TheVariants.{Call, Ret as RetAct, Raise, Lower, After}
use Rattle.ft_base.specs.declared.user.Kind.{Kind}
use Rattle.ft_base.specs.Job.{Spec}
use Rattle.ft_base.specs.Kinds.{has_depth, has_exit, is_fprobe}
use Rattle.ft_base.specs.Same.{same_ctx, context}
use Rattle.ft_hist.specs.Frames.{runs_after}
use Rattle.ft_hist.specs.Plain.{owed_by}
use Rattle.ops_list.specs.declared.walker.WalkPhase.TheVariants.{Starting}
use Rattle.ops_list.specs.Walks.{walk_after, walk_at}
use Rattle.hash_pages.specs.declared.reader.ReadPhase.TheVariants.{AtSel}
use Rattle.hash_pages.specs.declared.reader.Verdict.{Verdict}
use Rattle.hash_pages.specs.declared.reader.Verdict.TheVariants.{Open, On}
use Rattle.hash_pages.specs.Reads.{Read, read_by, verdict_of}
use Rattle.recursion_guard.specs.Guards.{GuardState, is_full as is_guard_full, entered as guard_entered, left as guard_left}
use Rattle.return_stack.specs.declared.shadow.FrameUser.{FrameUser}
use Rattle.return_stack.specs.Calls.{CallStack, frames_in, is_full, with_call, with_hook, with_user, without_empty}
use Rattle.fprobe.specs.Entry.{calls_after}
use Rattle.word_map.specs.declared.shape.Shape.{Shape}
use Rattle.word_map.specs.Contents.{high, low, returned_at, stands, tramp_user}
use Rattle.word_map.specs.Instructions.{decode}
use Rattle.word_machine.specs.Task.{fetched_ran, is_too_deep}
use Rattle.task_core.specs.declared.moment.Moment.{Moment}
use Rattle.task_core.specs.declared.moment.Moment.TheVariants.{Polling, First, Load, Mark}
use Rattle.task_core.specs.declared.moment.ToLoad.{ToLoad}
use Rattle.task_core.specs.declared.moment.ToLoad.TheVariants.{Fetch, GotHead, GotBreak, InTramp, OwnSel, Walking, Reading, AtPids, AtDepth, AtExit}
use Rattle.task_core.specs.declared.moment.ToMark.{ToMark}
use Rattle.task_core.specs.declared.moment.ToMark.TheVariants.{Refusing, Calling, Missing, Acting, Ending, Closing, Leaving, Exiting, EndingExit, Returning}
use Rattle.task_core.specs.declared.open_call.OpenCall.{OpenCall}
use Rattle.task_core.specs.declared.task.Task.{Task}
use Rattle.task_core.specs.Framed.{probe_of}
use Rattle.task_core.specs.Leads.{act_to, after_user_to, fetched_to, head_to}
use Rattle.task_core.specs.Opens.{Opens}
use Rattle.task_core.specs.Setups.{PlainSetup, asks, declared_in}
use Rattle.task_core.specs.TaskOps.{frame_user, next_call, owed, present, top}

-- at another moment
abbrev pub at : Task → Moment → Task
at t m = record t { moment = m }

-- the latest call is changed
abbrev pub with_latest : Opens → OpenCall → Opens
with_latest o call = record o { calls = call ∷ drop 1 o.calls }

-- the present act is done
abbrev pub finished : Task → Task
finished t = record t { acts = record t.acts { gone = suc t.acts.gone }; moment = Polling }

-- ## contexts

-- an interrupt comes, or goes
abbrev pub with_raised : GuardState → Ctx → GuardState
with_raised g x = record g { raised = x ∷ g.raised }

-- the latest interrupt goes
abbrev pub without_raised : GuardState → GuardState
without_raised g = record g { raised = drop 1 g.raised }

-- the poll of the present act is over: an interrupt comes or goes without an operation of its own, any other act begins
abbrev pub begun : Task → Option TaskAct → Task
begun t (Some (Raise x)) = finished (record t { guards = with_raised t.guards x })
begun t (Some Lower) = finished (record t { guards = without_raised t.guards })
begun t _ = at t First

-- ## a call is entered and fetched

-- a call that was just entered
abbrev pub new_call : CallNo → Ctx → FuncNo → Bool → Shape → OpenCall
new_call call x f scripted shape = record {
  call = call;
  ctx = x;
  func = f;
  scripted = scripted;
  ran = Nop;
  runs = f;
  walk = record { shape = shape; phase = Starting };
  user = record { 0 = 0 };
}

-- the next call of the task is entered
abbrev pub entered : Task → Shape → FuncNo → Ctx → Bool → Task
entered t shape f x scripted = record t {
  next = suc t.next;
  stacks = record t.stacks { calls = with_call t.stacks.calls (next_call t) };
  opens = record t.opens { calls = new_call (next_call t) x f scripted shape ∷ t.opens.calls };
  moment = Load Fetch;
}

-- the number of the call site's instruction is known
abbrev pub fetched : Task → ℕ → Task
fetched t i = record t { opens = with_latest t.opens (record (top t) { ran = fetched_ran i }); moment = fetched_to i }

-- ## the tests of a user that is on

-- a level of the guard is taken if one is free
abbrev pub guard_tested : Task → Spec → UserNo → ℕ → Task
guard_tested t spec u reg =
    if is_guard_full t.guards
    then at t (Mark (Refusing u reg Recursion))
    else record t { guards = guard_entered t.guards; moment = (if has_depth spec.kind then Load (AtDepth u reg) else Mark (Calling u reg)) }

-- the pid rule comes first
abbrev pub tested : Task → Spec → UserNo → ℕ → Task
tested t spec u reg = if spec.pid then at t (Load (AtPids u reg)) else guard_tested t spec u reg

-- the traced tasks are loaded
abbrev pub pid_tested : Task → Spec → UserNo → ℕ → ℕ → Task
pid_tested t spec u reg v = if bit_at v t.number.0 == 1 then guard_tested t spec u reg else at t (Mark (Refusing u reg ByPid))

-- the graph depth is loaded
abbrev pub depth_tested : Task → ℕ → UserNo → ℕ → ℕ → Task
depth_tested t frames u reg v =
    if is_too_deep frames v (frames_in (drop 1 t.stacks.calls))
    then record t { guards = guard_left t.guards; moment = Mark (Refusing u reg ByDepth) }
    else at t (Mark (Calling u reg))

-- the word of a trampoline is loaded: a user that is asked has its state loaded, and of any other the tests begin
abbrev pub in_trampoline : Task → PlainSetup → ℕ → Task
in_trampoline t s v =
    let u : UserNo = record { 0 = tramp_user v } in
    let t' = record t { opens = with_latest t.opens (record (top t) { ran = Own u }) } in
    if asks s u.0 then at t' (Load (OwnSel u (high v))) else tested t' (declared_in s u.0) u (high v)

-- the state of a trampoline's user is loaded
abbrev pub own_stated : Task → Spec → UserNo → ℕ → ℕ → Task
own_stated t spec u reg v = if stands v reg then tested t spec u reg else at t (Mark Closing)

-- ## the walk of the list

-- after a user
abbrev pub passed : Task → Task
passed t = at t (after_user_to (top t).ran)

-- the user at which the walk has arrived is read, or the walk is over
abbrev pub arrived_at : Shape → FuncNo → Option UserNo → Moment
arrived_at shape f None = Mark Closing
arrived_at shape f (Some u) = Load (Reading (record { shape = shape; user = u.0; func = f.0; phase = AtSel }))

-- the walk has loaded a name
abbrev pub walked : Task → Shape → ℕ → Task
walked t shape v =
    let phase = walk_after (top t).walk.phase v in
    record t {
      opens = with_latest t.opens (record (top t) { walk = record (top t).walk { phase = phase } });
      moment = arrived_at shape (top t).func (walk_at phase);
    }

-- the read of a user goes on, or has found something
abbrev pub judged : Task → PlainSetup → Read → Verdict → Option UserNo → Task
judged t s r Open at' = at t (Load (Reading r))
judged t s r (On reg) (Some u) = tested t (declared_in s u.0) u reg
judged t s r _ _ = passed t

-- the user where a walk is, if it is at one, is asked
abbrev pub asks_at : PlainSetup → Option UserNo → Bool
asks_at s None = true
asks_at s (Some u) = asks s u.0

-- the read of a user has loaded a word
abbrev pub read : Task → PlainSetup → Read → ℕ → Task
read t s r v =
    let at' = walk_at (top t).walk.phase in
    let r' = read_by (asks_at s at') r v in
    judged t s r' (verdict_of r'.phase) at'

-- ## a callback

-- the stacks after a callback of a user of this kind: whether the call gets a frame, and whether the frame owes the user its exit
abbrev pub stacks_after : Kind → CallStack → FrameUser → CallStack
stacks_after kind s user = record s {
  calls = (if has_depth kind then with_user (with_hook s.calls) user
      else (if is_fprobe kind then calls_after (probe_of kind (is_full s)) s.calls user else s.calls));
}

-- the exit of a user of this kind finds no frame
abbrev pub lacks_frame : Kind → CallStack → Bool
lacks_frame kind s = has_exit kind && is_full s

-- the callback has begun, at this place of the history
abbrev pub called_back : Task → Spec → UserNo → ℕ → ℕ → Task
called_back t spec u reg place = record t {
  opens = with_latest t.opens (record (top t) { runs = runs_after (top t).runs spec.ipmodify });
  stacks = stacks_after spec.kind t.stacks (record { user = u; reg = reg; entry = place });
  moment = (if lacks_frame spec.kind t.stacks then Mark (Missing u) else act_to u (owed_by (top t).ctx spec.act));
}

-- the Miss is told
abbrev pub missed : Task → Spec → UserNo → Task
missed t spec u = at t (act_to u (owed_by (top t).ctx spec.act))

-- the user's act has made its call
abbrev pub acted : Task → Shape → UserNo → FuncNo → Ctx → Task
acted t shape u f x = entered (record t {
  guards = (if same_ctx x (top t).ctx then t.guards else with_raised t.guards x);
  opens = with_latest t.opens (record (top t) { user = u });
}) shape f x false

-- the callback has ended
abbrev pub callback_ended : Task → Task
callback_ended t = passed (record t { guards = guard_left t.guards })

-- ## the body and the return

-- the body runs
abbrev pub body_begun : Task → Task
body_begun t =
    let u = record t { stacks = record t.stacks { calls = without_empty t.stacks.calls } } in
    if (top t).scripted then finished u else at u (Mark Leaving)

-- before the exit at this place of the frame, or before the Ret
abbrev pub exit_to : ℕ → Option FrameUser → Moment
exit_to i None = Mark Returning
exit_to i (Some user) = Load (AtExit i)

-- before the exit at this place of the frame, if there is one, or before the Ret
abbrev pub exit_from : Task → ℕ → Task
exit_from t i = at t (exit_to i (owed t i))

-- the state of the user whose exit is next is loaded
abbrev pub exit_stated : Task → ℕ → ℕ → Task
exit_stated t i v = if stands v (frame_user t i).reg then at t (Mark (Exiting i)) else exit_from t (suc i)

-- the call has returned; the callback whose act made it ends
abbrev pub returned : Task → Task
returned t =
    let u = record t { stacks = record t.stacks { calls = drop 1 t.stacks.calls }; opens = record t.opens { calls = drop 1 t.opens.calls } } in
    if (top t).scripted then finished u
    else record u {
      guards = (if same_ctx (top t).ctx (top u).ctx then t.guards else without_raised t.guards);
      moment = Mark (Ending (top u).user);
    }

-- ## all of it

-- the first operation of an act
abbrev pub after_first : Task → PlainSetup → Option TaskAct → ℕ → Task
after_first t s (Some (Call f)) v = entered t s.shape f (context t.guards.raised) true
after_first t s (Some RetAct) v = exit_from t 0
after_first t s (Some (After n)) v = if nat_le n (returned_at v) then finished t else at t Polling
after_first t s _ v = t

-- a load
abbrev pub after_load : Task → PlainSetup → ToLoad → ℕ → Task
after_load t s Fetch v = at t (head_to v)
after_load t s (GotHead byte) v = fetched t (decode (top t).func.0 byte v)
after_load t s GotBreak v = fetched t v
after_load t s (InTramp slot) v = in_trampoline t s v
after_load t s (OwnSel u reg) v = own_stated t (declared_in s u.0) u reg v
after_load t s Walking v = walked t s.shape v
after_load t s (Reading r) v = read t s r v
after_load t s (AtPids u reg) v = pid_tested t (declared_in s u.0) u reg v
after_load t s (AtDepth u reg) v = depth_tested t s.frames u reg v
after_load t s (AtExit i) v = exit_stated t i v

-- a mark at this place of the history
abbrev pub after_mark : Task → PlainSetup → ToMark → ℕ → Task
after_mark t s (Refusing u reg reason) place = passed t
after_mark t s (Calling u reg) place = called_back t (declared_in s u.0) u reg place
after_mark t s (Missing u) place = missed t (declared_in s u.0) u
after_mark t s (Acting u f x) place = acted t s.shape u f x
after_mark t s (Ending u) place = callback_ended t
after_mark t s Closing place = body_begun t
after_mark t s Leaving place = exit_from t 0
after_mark t s (Exiting i) place = at t (Mark (EndingExit i))
after_mark t s (EndingExit i) place = exit_from t (suc i)
after_mark t s Returning place = returned t

-- the operation at a moment
abbrev pub after_at : Task → PlainSetup → Moment → ℕ → Task
after_at t s Polling v = t
after_at t s First v = after_first t s (present t) v
after_at t s (Load load) v = after_load t s load v
after_at t s (Mark mark) v = after_mark t s mark (low v)

-- a task after its next operation gave this value
abbrev pub task_after : Task → PlainSetup → ℕ → Task
task_after t s v = after_at t s t.moment v
