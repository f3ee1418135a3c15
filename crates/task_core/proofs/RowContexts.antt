-- Requests can be answered before a task's next step exactly if they can before the machine's.
use Rattle.std.proofs.Common.{◌≡◌, ℕ, false, not, List, [], ◌∷◌, drop, length, slice_get, refl, sym, ap}
use Rattle.ft_base.specs.declared.context.Ctx.{Ctx}
use Rattle.ft_base.specs.declared.task.TaskAct.{TaskAct}
use Rattle.ft_base.specs.declared.task.TaskAct.TheVariants.{Call, Ret as RetAct, Raise, Lower, After}
use Rattle.ft_base.specs.Job.{Job}
use Rattle.ft_base.specs.Same.{context}
use Rattle.ft_base.specs.WellFormed.{IsScript}
use Rattle.ft_hist.specs.Frames.{FrameUser}
use Rattle.hash_pages.specs.declared.reader.ReadPhase.{ReadPhase}
use Rattle.hash_pages.specs.declared.reader.ReadPhase.TheVariants.{AtSel, AtFilter, AtNotrace, Ended as ReadEnded}
use Rattle.ops_list.specs.declared.walker.WalkPhase.{WalkPhase}
use Rattle.ops_list.specs.declared.walker.WalkPhase.TheVariants.{Starting, At, Ended as WalkEnded}
use Rattle.return_stack.specs.Calls.{StackedCall}
use Rattle.word_machine.specs.Task.{OpenCall, TaskState, masks_interrupts, next_exit}
use Rattle.word_machine.specs.Task as machine
use Rattle.word_machine.specs.Tasks.{open_by}
use Rattle.task_core.specs.declared.moment.Moment.{Moment}
use Rattle.task_core.specs.declared.moment.Moment.TheVariants.{Polling, First, Load, Mark}
use Rattle.task_core.specs.declared.moment.ToLoad.{ToLoad}
use Rattle.task_core.specs.declared.moment.ToLoad.TheVariants.{Walking, Reading, AtExit}
use Rattle.task_core.specs.declared.moment.ToMark.{ToMark}
use Rattle.task_core.specs.declared.moment.ToMark.TheVariants.{Exiting, EndingExit}
use Rattle.task_core.specs.declared.open_call.OpenCall.{OpenCall as CodeCall}
use Rattle.task_core.specs.declared.task.Task.{Task}
use Rattle.task_core.specs.Contexts.{act_context, is_open_to_requests}
use Rattle.task_core.specs.Moments.{reading_at, walking_at}
use Rattle.task_core.specs.Opens.{no_call}
use Rattle.task_core.specs.States.{ending_exit, exiting, load_moment, mark_moment, moment_of, stack_in, state_of, users_in}
use Rattle.task_core.specs.StackInvariant.{IsReading, IsTaskOf, IsWalking}
use Rattle.task_core.proofs.RowLists.{get-first, owed-split, standing}
use Rattle.task_core.proofs.RowMoments.{load-loud, mark-loud, no-call}
use Rattle.task_core.proofs.ActContexts.{quiet-raised}

-- ## a task in a call

-- a load of a walk, or of a read, is in the context of its call
walk-open : (x : TaskState) (c : OpenCall) (below : List OpenCall) (phase : WalkPhase) → IsWalking phase
    → not (masks_interrupts c.ctx) ≡ machine.is_open_to_requests (record x { stack = c ∷ below }) (walking_at phase)
walk-open x c below Starting k = refl
walk-open x c below (At u) k = refl
walk-open x c below WalkEnded k = absurd k

read-open : (x : TaskState) (c : OpenCall) (below : List OpenCall) (u : ℕ) (phase : ReadPhase) → IsReading phase
    → not (masks_interrupts c.ctx) ≡ machine.is_open_to_requests (record x { stack = c ∷ below }) (reading_at u (λ reg. machine.Closing) phase)
read-open x c below u AtSel k = refl
read-open x c below u (AtFilter copy reg) k = refl
read-open x c below u (AtNotrace copy reg) k = refl
read-open x c below u (ReadEnded verdict) k = absurd k

module _ (job : Job) (t : Task) (o : CodeCall) (os : List CodeCall) (s : StackedCall) (ss : List StackedCall) where
  -- the task at a moment
  abbrev at : Moment → Task
  at m = standing t (o ∷ os) (s ∷ ss) m

  -- the users of the top call's frame
  abbrev users : List FrameUser
  users = users_in s.users

  load-open : (load : ToLoad) → IsTaskOf job (at (Load load))
      → is_open_to_requests (at (Load load)) ≡ machine.is_open_to_requests (state_of (at (Load load))) (load_moment o users load)
  load-open Walking k = walk-open (state_of (at (Load Walking))) _ (stack_in os ss) o.walk.phase k.moment.0
  load-open (Reading r) k = read-open (state_of (at (Load (Reading r)))) _ (stack_in os ss) r.user r.phase k.moment.open'
  load-open (AtExit i) k =
      ap (λ (d : List FrameUser). machine.is_open_to_requests (state_of (at (Load (AtExit i)))) (next_exit d)) (sym (owed-split s.users i k.moment))
  load-open _ k = refl

  mark-open : (mark : ToMark) → IsTaskOf job (at (Mark mark))
      → is_open_to_requests (at (Mark mark)) ≡ machine.is_open_to_requests (state_of (at (Mark mark))) (mark_moment users mark)
  mark-open (Exiting i) k =
      ap (λ (d : List FrameUser). machine.is_open_to_requests (state_of (at (Mark (Exiting i)))) (exiting d)) (sym (owed-split s.users i k.moment))
  mark-open (EndingExit i) k =
      ap (λ (d : List FrameUser). machine.is_open_to_requests (state_of (at (Mark (EndingExit i)))) (ending_exit d)) (sym (owed-split s.users i k.moment))
  mark-open _ k = refl

-- ## the first operation of an act

module _ (job : Job) (t : Task) where
  -- between acts the present context is that of the script
  present-context : (os : List CodeCall) (ss : List StackedCall) → IsTaskOf job (standing t os ss First)
      → context t.guards.raised ≡ context (state_of (standing t os ss First)).contexts
  present-context os ss k =
      sym (ap (λ (raised : List Ctx). context (drop (length raised) t.guards.raised)) (quiet-raised job (state_of (standing t os ss First)) k.steady refl))

  -- of these acts to come
  first-context : (os : List CodeCall) (ss : List StackedCall) (acts : List TaskAct) → IsTaskOf job (standing t os ss First)
      → IsScript job (open_by false (stack_in os ss)) acts
      → act_context (standing t os ss First) (slice_get acts 0) ≡ machine.act_context (state_of (standing t os ss First)) acts (stack_in os ss)
  first-context [] [] (RetAct ∷ rest) k script = absurd script
  first-context [] (s ∷ ss) (RetAct ∷ rest) k script = absurd k.tied
  first-context (o ∷ os) [] (RetAct ∷ rest) k script = absurd k.tied
  first-context (o ∷ os) (s ∷ ss) (RetAct ∷ rest) k script = refl
  first-context os ss [] k script = present-context os ss k
  first-context os ss (Call f ∷ rest) k script = present-context os ss k
  first-context os ss (Raise x ∷ rest) k script = present-context os ss k
  first-context os ss (Lower ∷ rest) k script = present-context os ss k
  first-context os ss (After n ∷ rest) k script = present-context os ss k

  -- ## at any moment

  open-row : (os : List CodeCall) (ss : List StackedCall) (m : Moment) → IsTaskOf job (standing t os ss m)
      → is_open_to_requests (standing t os ss m) ≡ machine.is_open_to_requests (state_of (standing t os ss m)) (moment_of (standing t os ss m))
  open-row os ss Polling k = refl
  open-row os ss First k =
      ap (λ c. not (masks_interrupts c)) (rw (get-first t.acts.all t.acts.gone) (first-context os ss (drop t.acts.gone t.acts.all) k k.steady.script))
  open-row [] [] (Load load) k = no-call job t (Load load) k (load-loud no_call [] load)
  open-row [] [] (Mark mark) k = no-call job t (Mark mark) k (mark-loud [] mark)
  open-row [] (s ∷ ss) m k = absurd k.tied
  open-row (o ∷ os) [] m k = absurd k.tied
  open-row (o ∷ os) (s ∷ ss) (Load load) k = load-open job t o os s ss load k
  open-row (o ∷ os) (s ∷ ss) (Mark mark) k = mark-open job t o os s ss mark k

  pub open-is : IsTaskOf job t → is_open_to_requests t ≡ machine.is_open_to_requests (state_of t) (state_of t).moment
  open-is k = open-row t.opens.calls t.stacks.calls t.moment k
