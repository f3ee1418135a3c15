-- A task's next operation is the machine's.
use Rattle.std.proofs.Common.{◌≡◌, ℕ, false, List, [], ◌∷◌, drop, slice_get, Some, refl, sym, ap}
use Rattle.ft_base.specs.declared.item.Item.TheVariants.{Enter, Ret}
use Rattle.ft_base.specs.declared.number.TaskNo.{TaskNo}
use Rattle.ft_base.specs.declared.task.TaskAct.{TaskAct}
use Rattle.ft_base.specs.declared.task.TaskAct.TheVariants.{Call, Ret as RetAct, Raise, Lower, After}
use Rattle.ft_base.specs.Job.{Job}
use Rattle.ft_base.specs.WellFormed.{IsScript}
use Rattle.ft_base.proofs.Small.{false_true}
use Rattle.ft_hist.specs.Frames.{FrameUser}
use Rattle.ft_hist.specs.Dispatch.{call_of}
use Rattle.hash_pages.specs.declared.reader.ReadPhase.{ReadPhase}
use Rattle.hash_pages.specs.declared.reader.ReadPhase.TheVariants.{AtSel, AtFilter, AtNotrace, Ended as ReadEnded}
use Rattle.hash_pages.specs.Reads.{Read, read_op}
use Rattle.ops_list.specs.declared.walker.WalkPhase.{WalkPhase}
use Rattle.ops_list.specs.declared.walker.WalkPhase.TheVariants.{Starting, At, Ended as WalkEnded}
use Rattle.ops_list.specs.Walks.{walk_op}
use Rattle.return_stack.specs.Calls.{StackedCall}
use Rattle.word_map.specs.Ops.{Mark as MarkOp}
use Rattle.word_map.specs.Shapes.{shape_of}
use Rattle.word_machine.specs.Task.{OpenCall, TaskState, next_exit, task_op}
use Rattle.word_machine.specs.Task as machine
use Rattle.word_machine.specs.Tasks.{open_by}
use Rattle.task_core.specs.declared.moment.Moment.{Moment}
use Rattle.task_core.specs.declared.moment.Moment.TheVariants.{Polling, First, Load, Mark}
use Rattle.task_core.specs.declared.moment.ToLoad.{ToLoad}
use Rattle.task_core.specs.declared.moment.ToLoad.TheVariants.{Fetch, GotHead, GotBreak, InTramp, OwnSel, Walking, Reading, AtPids, AtDepth, AtExit}
use Rattle.task_core.specs.declared.moment.ToMark.{ToMark}
use Rattle.task_core.specs.declared.moment.ToMark.TheVariants.{Refusing, Calling, Missing, Acting, Ending, Closing, Leaving, Exiting, EndingExit, Returning}
use Rattle.task_core.specs.declared.open_call.OpenCall.{OpenCall as CodeCall}
use Rattle.task_core.specs.declared.task.Task.{Task}
use Rattle.task_core.specs.Opens.{no_call}
use Rattle.task_core.specs.Moments.{reading_at, walking_at}
use Rattle.task_core.specs.States.{ending_exit, exiting, is_polling, joined, load_moment, mark_moment, moment_of, stack_in, state_of, users_in}
use Rattle.task_core.specs.TaskOps.{first_op, item_of, load_op, op_of}
use Rattle.task_core.specs.StackInvariant.{IsReading, IsTaskOf, IsWalking}
use Rattle.task_core.proofs.RowLists.{get-first, owed-split, standing}
use Rattle.task_core.proofs.RowStacks.{caller-top, latest-top}
use Rattle.task_core.proofs.ActContexts.{quiet-raised}
use Rattle.task_core.proofs.RowMoments.{load-loud, mark-loud, no-call}

-- the machine's task with these calls
abbrev over : TaskState → OpenCall → List OpenCall → TaskState
over x c below = record x { stack = c ∷ below }

-- ## loads of walks and reads

module _ (n : ℕ) (x : TaskState) (c : OpenCall) (below : List OpenCall) where
  walk-op : (phase : WalkPhase) → IsWalking phase → walk_op phase ≡ task_op n (over x c below) (walking_at phase)
  walk-op Starting k = refl
  walk-op (At u) k = refl
  walk-op WalkEnded k = absurd k

  read-op : (r : Read) (phase : ReadPhase) → r.func ≡ c.func → IsReading phase
      → read_op r phase ≡ task_op n (over x c below) (reading_at r.user (λ reg. machine.Closing) phase)
  read-op r AtSel e k = refl
  read-op r (AtFilter copy reg) e k = rw e refl
  read-op r (AtNotrace copy reg) e k = rw e refl
  read-op r (ReadEnded verdict) e k = absurd k

-- ## a task in a call

module _ (job : Job) (t : Task) (o : CodeCall) (os : List CodeCall) (s : StackedCall) (ss : List StackedCall) where
  -- the task at a moment
  abbrev at : Moment → Task
  at m = standing t (o ∷ os) (s ∷ ss) m

  -- the users of the top call's frame
  abbrev users : List FrameUser
  users = users_in s.users

  load-op : (load : ToLoad) → IsTaskOf job (at (Load load))
      → load_op (at (Load load)) load ≡ task_op t.number.0 (state_of (at (Load load))) (load_moment o users load)
  load-op Fetch k = refl
  load-op (GotHead byte) k = refl
  load-op GotBreak k = refl
  load-op (InTramp slot) k = refl
  load-op (OwnSel u reg) k = refl
  load-op Walking k = walk-op t.number.0 (state_of (at (Load Walking))) (joined o s) (stack_in os ss) o.walk.phase k.moment.0
  load-op (Reading r) k =
      read-op t.number.0 (state_of (at (Load (Reading r)))) (joined o s) (stack_in os ss) r r.phase k.moment.func k.moment.open'
  load-op (AtPids u reg) k = refl
  load-op (AtDepth u reg) k = refl
  load-op (AtExit i) k =
      ap (λ (d : List FrameUser). task_op t.number.0 (state_of (at (Load (AtExit i)))) (next_exit d)) (sym (owed-split s.users i k.moment))

  mark-op : (mark : ToMark) → IsTaskOf job (at (Mark mark))
      → Some (MarkOp (item_of (at (Mark mark)) mark)) ≡ task_op t.number.0 (state_of (at (Mark mark))) (mark_moment users mark)
  mark-op (Refusing u reg reason) k = refl
  mark-op (Calling u reg) k = refl
  mark-op (Missing u) k = refl
  mark-op (Acting u f x) k = ap (λ (number : TaskNo). Some (MarkOp (Enter (call_of number t.next) x f (Some o.call)))) (sym k.tied.0.task)
  mark-op (Ending u) k = refl
  mark-op Closing k = refl
  mark-op Leaving k = refl
  mark-op (Exiting i) k =
      ap (λ (d : List FrameUser). task_op t.number.0 (state_of (at (Mark (Exiting i)))) (exiting d)) (sym (owed-split s.users i k.moment))
  mark-op (EndingExit i) k =
      ap (λ (d : List FrameUser). task_op t.number.0 (state_of (at (Mark (EndingExit i)))) (ending_exit d)) (sym (owed-split s.users i k.moment))
  mark-op Returning k =
      ap (λ to. Some (MarkOp (Ret o.call to))) (caller-top (shape_of job) t.number _ os ss k.tied.1)

-- ## the first operation of an act

module _ (job : Job) (t : Task) where
  -- of these acts to come
  first-row : (os : List CodeCall) (ss : List StackedCall) (acts : List TaskAct) → IsTaskOf job (standing t os ss First)
      → IsScript job (open_by false (stack_in os ss)) acts
      → first_op (standing t os ss First) (slice_get acts 0)
      ≡ machine.first_op t.number.0 (state_of (standing t os ss First)) acts (stack_in os ss)
  first-row os ss [] k script = refl
  first-row os ss (Call f ∷ rest) k script =
      let none = quiet-raised job (state_of (standing t os ss First)) k.steady refl in
      let latest-is = latest-top (shape_of job) t.number machine.First os ss k.tied in
      rw (none, latest-is) refl
  first-row [] [] (RetAct ∷ rest) k script = absurd script
  first-row [] (s ∷ ss) (RetAct ∷ rest) k script = absurd k.tied
  first-row (o ∷ os) [] (RetAct ∷ rest) k script = absurd k.tied
  first-row (o ∷ os) (s ∷ ss) (RetAct ∷ rest) k script = refl
  first-row os ss (Raise x ∷ rest) k script = refl
  first-row os ss (Lower ∷ rest) k script = refl
  first-row os ss (After n ∷ rest) k script = refl

  -- ## at any moment

  op-row : (os : List CodeCall) (ss : List StackedCall) (m : Moment) → IsTaskOf job (standing t os ss m) → is_polling m ≡ false
      → op_of (standing t os ss m)
      ≡ task_op t.number.0 (state_of (standing t os ss m)) (moment_of (standing t os ss m))
  op-row os ss Polling k e = false_true (sym e)
  op-row os ss First k e = rw (get-first t.acts.all t.acts.gone) (first-row os ss (drop t.acts.gone t.acts.all) k k.steady.script)
  op-row [] [] (Load load) k e = no-call job t (Load load) k (load-loud no_call [] load)
  op-row [] [] (Mark mark) k e = no-call job t (Mark mark) k (mark-loud [] mark)
  op-row [] (s ∷ ss) m k e = absurd k.tied
  op-row (o ∷ os) [] m k e = absurd k.tied
  op-row (o ∷ os) (s ∷ ss) (Load load) k e = load-op job t o os s ss load k
  op-row (o ∷ os) (s ∷ ss) (Mark mark) k e = mark-op job t o os s ss mark k

  pub operation-is : IsTaskOf job t → is_polling t.moment ≡ false → op_of t ≡ task_op t.number.0 (state_of t) (state_of t).moment
  operation-is k e = op-row t.opens.calls t.stacks.calls t.moment k e
