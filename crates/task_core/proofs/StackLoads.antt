-- Each load of the top call keeps the invariant of a task and its stacks, where something is to come.
use Rattle.std.proofs.Common.{◌≡◌, ℕ, zero, suc, Bool, not, ◌||◌, List, ◌∷◌, drop, Some, None, refl, sym, subst}
use Rattle.std.specs.Prelude.{◌==◌, Option}
use Rattle.ft_base.specs.declared.item.Ran.{Ran}
use Rattle.ft_base.specs.declared.item.Ran.TheVariants.{List as ByList, Own}
use Rattle.ft_base.specs.declared.number.UserNo.{UserNo}
use Rattle.ft_base.specs.Job.{Job}
use Rattle.ft_hist.specs.Frames.{FrameUser}
use Rattle.site_bytes.specs.Bytes.{breakpoint}
use Rattle.hash_pages.specs.declared.reader.ReadPhase.{ReadPhase}
use Rattle.hash_pages.specs.declared.reader.ReadPhase.TheVariants.{AtSel, AtFilter, AtNotrace, Ended as ReadEnded}
use Rattle.hash_pages.specs.declared.reader.Verdict.TheVariants.{Open, Off, Apart, On}
use Rattle.hash_pages.specs.Reads.{Read, read_after, verdict_of}
use Rattle.ops_list.specs.declared.walker.WalkPhase.{WalkPhase}
use Rattle.ops_list.specs.declared.walker.WalkPhase.TheVariants.{Starting, At, Ended as WalkEnded}
use Rattle.word_map.specs.Contents.{named}
use Rattle.ops_list.specs.Walks.{walk_after, walk_at, walk_to}
use Rattle.return_stack.specs.Calls.{StackedCall}
use Rattle.word_map.specs.declared.shape.Shape.{Shape}
use Rattle.word_map.specs.Contents.{high, is_marked, sel_empty, sel_on, stands, tramp_user}
use Rattle.word_map.specs.Instructions.{decode}
use Rattle.word_map.specs.Shapes.{shape_of}
use Rattle.word_machine.specs.Task.{Closing as MachineClosing}
use Rattle.word_machine.proofs.Small.{if_case}
use Rattle.task_core.specs.declared.moment.Moment.{Moment}
use Rattle.task_core.specs.declared.moment.Moment.TheVariants.{Load, Mark}
use Rattle.task_core.specs.declared.moment.ToLoad.{ToLoad}
use Rattle.task_core.specs.declared.moment.ToLoad.TheVariants.{Fetch, GotHead, GotBreak, InTramp, OwnSel, Walking, Reading, AtPids, AtDepth, AtExit}
use Rattle.task_core.specs.declared.moment.ToMark.TheVariants.{Closing, Exiting}
use Rattle.task_core.specs.declared.open_call.OpenCall.{OpenCall as CodeCall}
use Rattle.task_core.specs.declared.task.Task.{Task}
use Rattle.task_core.specs.Moments.{reading_at, walking_at}
use Rattle.task_core.specs.Setups.{PlainSetup, asks, declared_in, setup_in}
use Rattle.task_core.specs.States.{load_moment, moment_at, users_in}
use Rattle.task_core.specs.TaskOps.{frame_user}
use Rattle.task_core.specs.TaskSteps.{after_load, arrived_at, asks_at, fetched, judged, passed, walked}
use Rattle.task_core.specs.StackInvariant.{HasLoad, HasMoment, IsReadOf, IsReading, StackedCallInvariant, IsWalking, WalksAt, at_user}
use Rattle.task_core.proofs.StackParts.{StackInvariantBelow, TaskStackInvariant, depth-stack, exit-stack, goes, passed-stack, pid-stack, tested-stack, walks-exiting, with_calls}

-- ## walks and reads

-- the walk goes to whom the loaded word names
walk-goes : (phase : WalkPhase) (v : ℕ) → IsWalking phase → walk_after phase v ≡ walk_to (named v)
walk-goes Starting v w = refl
walk-goes (At u) v w = refl
walk-goes WalkEnded v w = absurd w

-- a read has a load to come, or it has a verdict
abbrev HasFound : ReadPhase → Type 0
HasFound (ReadEnded Open) = ⊥
HasFound _ = Unit {0}

read-finds : (asked : Bool) (r : Read) (phase : ReadPhase) (v : ℕ) → IsReading phase → HasFound (read_after asked r phase v)
read-finds asked r AtSel v k = if_case HasFound (not asked || sel_on v) _ _ (λ e. if_case HasFound (sel_empty v) _ _ (λ d. tt) (λ d. tt)) (λ e. tt)
read-finds asked r (AtFilter copy reg) v k = if_case HasFound (is_marked v r.func) _ _ (λ e. tt) (λ e. tt)
read-finds asked r (AtNotrace copy reg) v k = if_case HasFound (is_marked v r.func) _ _ (λ e. tt) (λ e. tt)
read-finds asked r (ReadEnded verdict) v k = absurd k

-- only of the list are users read
reading-list : (ran : Ran) (u : ℕ) (read : ReadPhase) (walk : WalkPhase) → IsReading read
    → WalksAt ran (reading_at u (λ reg. MachineClosing) read) walk → ran ≡ ByList
reading-list ran u AtSel walk k w = w.1
reading-list ran u (AtFilter copy reg) walk k w = w.1
reading-list ran u (AtNotrace copy reg) walk k w = w.1
reading-list ran u (ReadEnded verdict) walk k w = absurd k

-- ## the rows

-- k is what is known of the top call at any moment: at the Body nothing is asked of its walk
module _ (job : Job) (t : Task) (o : CodeCall) (os : List CodeCall) (s : StackedCall) (ss : List StackedCall)
    (k : StackedCallInvariant (shape_of job) t.number MachineClosing o s) (below : StackInvariantBelow (shape_of job) t.number o os s ss) where
  abbrev shape : Shape
  shape = shape_of job

  abbrev setup : PlainSetup
  setup = setup_in job

  abbrev P : Task → Type 0
  P u = TaskStackInvariant shape u

  -- the task at a moment
  abbrev here : Moment → Task
  here m = with_calls t (o ∷ os) (s ∷ ss) m

  -- the users of the top call's frame
  abbrev users : List FrameUser
  users = users_in s.users

  -- its walk stands at a user, if the call goes through the list
  abbrev IsAtUser : ℕ → Type 0
  IsAtUser u = o.ran ≡ ByList → o.walk.phase ≡ at_user u

  -- the task goes on at another moment
  moves : (m : Moment) → WalksAt o.ran (moment_at o users m) o.walk.phase → HasMoment shape o users m → P (here m)
  moves m walk has = goes shape t o os s ss k below t.guards m walk has

  -- ### a fetch

  -- more is known of what was fetched
  abbrev with_ran : Ran → CodeCall
  with_ran ran = record o { ran = ran }

  ran-moves : (ran : Ran) (m : Moment) → WalksAt ran (moment_at (with_ran ran) users m) o.walk.phase → HasMoment shape (with_ran ran) users m
      → P (with_calls t (with_ran ran ∷ os) (s ∷ ss) m)
  ran-moves ran m walk has =
      goes shape t (with_ran ran) os s ss (record { call = k.call; task = k.task; shape' = k.shape'; walk = tt }) below t.guards m walk has

  fetched-stack : (from : Moment) (i : ℕ) → o.walk.phase ≡ Starting → P (fetched (here from) i)
  fetched-stack from zero w = ran-moves _ (Mark Closing) tt tt
  fetched-stack from (suc zero) w =
      ran-moves ByList (Load Walking) (subst (λ p. WalksAt ByList (walking_at p) p) (sym w) (refl, refl)) (subst IsWalking (sym w) tt, refl)
  fetched-stack from (suc (suc slot)) w = ran-moves ByList (Load (InTramp slot)) tt tt

  -- ### a walk of the list

  -- the call's walk is in this phase
  abbrev with_phase : WalkPhase → CodeCall
  with_phase phase = record o { walk = record o.walk { phase = phase } }

  -- the walk has arrived at a user or at the end
  abbrev arrived : WalkPhase → Task
  arrived phase = with_calls t (with_phase phase ∷ os) (s ∷ ss) (arrived_at shape o.func (walk_at phase))

  phase-moves : (phase : WalkPhase) (m : Moment) → WalksAt o.ran (moment_at (with_phase phase) users m) phase
      → HasMoment shape (with_phase phase) users m → P (with_calls t (with_phase phase ∷ os) (s ∷ ss) m)
  phase-moves phase m walk has =
      goes shape t (with_phase phase) os s ss (record { call = k.call; task = k.task; shape' = k.shape'; walk = tt }) below t.guards m walk has

  arrived-stack : (u : Option UserNo) → o.ran ≡ ByList → P (arrived (walk_to u))
  arrived-stack None l = phase-moves WalkEnded (Mark Closing) tt tt
  arrived-stack (Some u) l =
      phase-moves (At u)
      (Load (Reading (record { shape = shape; user = u.0; func = o.func.0; phase = AtSel })))
      (refl, l) (record { shape' = refl; func = refl; user = refl; open' = tt })

  walked-stack : (from : Moment) (v : ℕ) → IsWalking o.walk.phase → o.ran ≡ ByList → P (walked (here from) shape v)
  walked-stack from v w l = subst (λ phase. P (arrived phase)) (sym (walk-goes o.walk.phase v w)) (arrived-stack (named v) l)

  -- ### a read of a user

  module _ (r : Read) (h : IsReadOf shape o r) (l : o.ran ≡ ByList) where
    -- the read in a phase
    abbrev reading : ReadPhase → Read
    reading phase = record r { phase = phase }

    goes-on : (phase : ReadPhase) → IsReading phase → WalksAt o.ran (reading_at r.user (λ reg. MachineClosing) phase) o.walk.phase
        → P (here (Load (Reading (reading phase))))
    goes-on phase to-come w =
        moves (Load (Reading (reading phase))) w (record { shape' = h.shape'; func = h.func; user = h.user; open' = to-come })

    passes : (from : Moment) → P (passed (here from))
    passes from = passed-stack shape t o os s ss k below t.guards from r.user (λ e. h.user)

    read-stack : (from : Moment) (phase : ReadPhase) → HasFound phase
        → P (judged (here from) setup (reading phase) (verdict_of phase) (walk_at o.walk.phase))
    read-stack from AtSel f = goes-on AtSel tt (h.user, l)
    read-stack from (AtFilter copy reg) f = goes-on (AtFilter copy reg) tt (h.user, l)
    read-stack from (AtNotrace copy reg) f = goes-on (AtNotrace copy reg) tt (h.user, l)
    read-stack from (ReadEnded Open) f = absurd f
    read-stack from (ReadEnded Off) f = passes from
    read-stack from (ReadEnded Apart) f = passes from
    read-stack from (ReadEnded (On reg)) f =
        subst (λ phase. P (judged (here from) setup (reading (ReadEnded (On reg))) (On reg) (walk_at phase))) (sym h.user)
        (tested-stack shape t o os s ss k below from (declared_in setup r.user) (record { 0 = r.user }) reg (λ e. h.user))

  pub load-stack : (load : ToLoad) (v : ℕ) → WalksAt o.ran (load_moment o users load) o.walk.phase → HasLoad shape o users load
      → P (after_load (here (Load load)) setup load v)
  load-stack Fetch v w h = if_case (λ m. P (here m)) (v == breakpoint) _ _ (λ e. moves (Load GotBreak) w tt) (λ e. moves (Load (GotHead v)) w tt)
  load-stack (GotHead byte) v w h = fetched-stack (Load (GotHead byte)) (decode o.func.0 byte v) w
  load-stack GotBreak v w h = fetched-stack (Load GotBreak) v w
  load-stack (InTramp slot) v w h =
      let u : UserNo = record { 0 = tramp_user v } in
      if_case P (asks setup u.0) _ _
      (λ e. ran-moves (Own u) (Load (OwnSel u (high v))) (λ e. absurd cc) tt)
      (λ e. tested-stack shape t (with_ran (Own u)) os s ss (record { call = k.call; task = k.task; shape' = k.shape'; walk = tt }) below
      (Load (InTramp slot)) (declared_in setup u.0) u (high v) (λ e. absurd cc))
  load-stack (OwnSel u reg) v w h =
      if_case P (stands v reg) _ _
      (λ e. tested-stack shape t o os s ss k below (Load (OwnSel u reg)) (declared_in setup u.0) u reg w)
      (λ e. moves (Mark Closing) tt tt)
  load-stack (AtPids u reg) v w h = pid-stack shape t o os s ss k below (Load (AtPids u reg)) (declared_in setup u.0) u reg v w
  load-stack (AtDepth u reg) v w h = depth-stack shape t o os s ss k below (Load (AtDepth u reg)) setup.frames u reg v w
  load-stack (AtExit i) v w h =
      if_case P (stands v (frame_user (here (Load (AtExit i))) i).reg) _ _
      (λ e. moves (Mark (Exiting i)) (walks-exiting o.ran o.walk.phase (drop i users)) h)
      (λ e. exit-stack shape t o os s ss k below (Load (AtExit i)) (suc i))
  load-stack Walking v w h = walked-stack (Load Walking) v h.0 h.1
  load-stack (Reading r) v w h =
      let asked : Bool = asks_at setup (walk_at o.walk.phase) in
      read-stack r h (reading-list o.ran r.user r.phase o.walk.phase h.open' w) (Load (Reading r)) (read_after asked r r.phase v)
      (read-finds asked r r.phase v h.open')
