-- What a load makes of a task is what the machine makes of it.
use Rattle.std.proofs.Common.{cond, ◌≡◌, ℕ, zero, suc, ◌%◌, ◌<◌, ◌≤◌, Bool, true, false, ◌||◌, ◌==◌, not, List, ◌∷◌, length, Some, refl, sym, ap, subst, arith}
use Rattle.std.specs.Int.{bit_at}
use Rattle.ft_base.specs.declared.item.Ran.{Ran}
use Rattle.ft_base.specs.declared.item.Ran.TheVariants.{List as ByList, Own}
use Rattle.ft_base.specs.declared.item.Reason.TheVariants.{Pid as ByPid, Depth as ByDepth}
use Rattle.ft_base.specs.declared.number.TaskNo.{TaskNo}
use Rattle.ft_base.specs.declared.number.UserNo.{UserNo}
use Rattle.ft_base.specs.Desk.{spec_at}
use Rattle.ft_base.specs.Job.{Job}
use Rattle.ft_hist.specs.Dispatch.{is_full}
use Rattle.recursion_guard.specs.Guards.{left}
use Rattle.recursion_guard.specs.Guards as guards
use Rattle.hash_pages.specs.declared.reader.ReadPhase.{ReadPhase}
use Rattle.hash_pages.specs.declared.reader.ReadPhase.TheVariants.{AtSel, AtFilter, AtNotrace, Ended as ReadEnded}
use Rattle.hash_pages.specs.declared.reader.Verdict.TheVariants.{Open, Off, Apart, On}
use Rattle.hash_pages.specs.Reads.{Read, verdict_of}
use Rattle.ops_list.specs.declared.walker.WalkPhase.{WalkPhase}
use Rattle.ops_list.specs.declared.walker.WalkPhase.TheVariants.{Starting, At, Ended as WalkEnded}
use Rattle.return_stack.specs.Calls.{StackedCall, frames_in}
use Rattle.site_bytes.specs.Bytes.{breakpoint}
use Rattle.word_map.specs.declared.shape.Shape.{Shape}
use Rattle.word_map.specs.Contents.{high, is_marked, sel_copy, sel_empty, sel_on, stands, tramp_user}
use Rattle.word_map.specs.Instructions.{decode}
use Rattle.word_map.specs.Shapes.{shape_of}
use Rattle.word_machine.specs.Limits.{IsLimited}
use Rattle.word_machine.specs.Task.{OpenCall, allowed_in, at_moment, begin_call, depth_in, fetched_ran, guard_test, guards_under, head_in, is_asked, is_too_deep, level_of, own_in, owned_in, passes_in, task_got, tests_in, with_top}
use Rattle.word_machine.specs.Task as machine
use Rattle.task_core.specs.declared.moment.Moment.TheVariants.{Load, Mark}
use Rattle.task_core.specs.declared.moment.ToLoad.{ToLoad}
use Rattle.task_core.specs.declared.moment.ToLoad.TheVariants.{Fetch, GotHead, GotBreak, InTramp, OwnSel, Walking, Reading, AtPids, AtDepth, AtExit}
use Rattle.task_core.specs.declared.moment.ToMark.TheVariants.{Refusing, Calling, Closing}
use Rattle.task_core.specs.declared.open_call.OpenCall.{OpenCall as CodeCall}
use Rattle.task_core.specs.declared.task.Task.{Task}
use Rattle.task_core.specs.Leads.{head_to}
use Rattle.task_core.specs.Moments.{reading_at, walking_at}
use Rattle.task_core.specs.Setups.{setup_in}
use Rattle.task_core.specs.States.{joined, load_moment, stack_in, state_of, users_in}
use Rattle.task_core.specs.TaskInvariant.{holds_guard, is_dispatching}
use Rattle.task_core.specs.TaskSteps.{after_load, depth_tested, guard_tested, judged, own_stated, pid_tested, tested, walked}
use Rattle.task_core.specs.TaskSteps as code
use Rattle.task_core.specs.StackInvariant.{IsReading, IsTaskOf, IsWalking, WalksAt, at_user}
use Rattle.task_core.proofs.RowExits.{live-row}
use Rattle.task_core.proofs.RowGuards.{begin-row, guard-is, guard-row}
use Rattle.task_core.proofs.RowLists.{standing}
use Rattle.task_core.proofs.RowStacks.{frames-are}

-- ## where a read stands

-- before a load of a read the call walks the list
read-list : (ran : Ran) (u : ℕ) (walk : WalkPhase) (phase : ReadPhase) → IsReading phase
    → WalksAt ran (reading_at u (λ reg. machine.Closing) phase) walk → ran ≡ ByList
read-list ran u walk AtSel k w = w.1
read-list ran u walk (AtFilter copy reg) k w = w.1
read-list ran u walk (AtNotrace copy reg) k w = w.1
read-list ran u walk (ReadEnded verdict) k w = absurd k

-- it is in its dispatch, and holds no guard
read-dispatch : (u : ℕ) (phase : ReadPhase) → is_dispatching (reading_at u (λ reg. machine.Closing) phase) ≡ true
read-dispatch u AtSel = refl
read-dispatch u (AtFilter copy reg) = refl
read-dispatch u (AtNotrace copy reg) = refl
read-dispatch u (ReadEnded (On reg)) = refl
read-dispatch u (ReadEnded Open) = refl
read-dispatch u (ReadEnded Off) = refl
read-dispatch u (ReadEnded Apart) = refl

read-free : (u : ℕ) (phase : ReadPhase) → holds_guard (reading_at u (λ reg. machine.Closing) phase) ≡ false
read-free u AtSel = refl
read-free u (AtFilter copy reg) = refl
read-free u (AtNotrace copy reg) = refl
read-free u (ReadEnded (On reg)) = refl
read-free u (ReadEnded Open) = refl
read-free u (ReadEnded Off) = refl
read-free u (ReadEnded Apart) = refl

-- ## the fetch

module _ (t : Task) (o : CodeCall) (os : List CodeCall) (s : StackedCall) (ss : List StackedCall) where
  -- the task before a load
  abbrev now : ToLoad → Task
  now load = standing t (o ∷ os) (s ∷ ss) (Load load)

  fetched-row : (load : ToLoad) (i : ℕ) → o.walk.phase ≡ Starting
      → state_of (code.fetched (now load) i)
      ≡ with_top (state_of (now load)) (record (joined o s) { ran = fetched_ran i }) (stack_in os ss) (machine.fetched i)
  fetched-row load zero e = refl
  fetched-row load (suc zero) e =
      ap (λ (phase : WalkPhase). with_top (state_of (now load)) (record (joined o s) { ran = ByList }) (stack_in os ss) (walking_at phase)) e
  fetched-row load (suc (suc slot)) e = refl

  head-row : (v : ℕ) → state_of (code.at (now Fetch) (head_to v)) ≡ at_moment (state_of (now Fetch)) (head_in (v == breakpoint) v)
  head-row v = by (v == breakpoint)
    where
      by : (b : Bool) → state_of (code.at (now Fetch) (cond b (Load GotBreak) (Load (GotHead v)))) ≡ at_moment (state_of (now Fetch)) (head_in b v)
      by true = refl
      by false = refl

-- ## the walk of the list

-- a call whose walk stands here
abbrev walking : CodeCall → Ran → WalkPhase → CodeCall
walking o ran phase = record o { ran = ran; walk = record o.walk { phase = phase } }

module _ (job : Job) (t : Task) (o : CodeCall) (os : List CodeCall) (s : StackedCall) (ss : List StackedCall) where
  -- the task before a load, whose top call's walk stands here
  abbrev at : ToLoad → Ran → WalkPhase → Task
  at load ran phase = standing t (walking o ran phase ∷ os) (s ∷ ss) (Load load)

  walk-row : (shape : Shape) (phase : WalkPhase) (v : ℕ) → IsWalking phase
      → state_of (walked (at Walking o.ran phase) shape v)
      ≡ task_got job t.number.0 (state_of (at Walking o.ran phase)) (walking_at phase) v
  walk-row shape Starting zero k = refl
  walk-row shape Starting (suc u) k = refl
  walk-row shape (At w) zero k = refl
  walk-row shape (At w) (suc u) k = refl
  walk-row shape WalkEnded v k = absurd k

  -- ## the read of a user

  -- a read of a user for the call
  abbrev reading : Shape → ℕ → ℕ → ReadPhase → Read
  reading shape u func phase = record { shape = shape; user = u; func = func; phase = phase }

  module _ (full : guards.is_full t.guards ≡ is_full job (guards_under o.scripted (stack_in os ss)) o.ctx) (shape : Shape) (u v : ℕ) where
    read-row : (phase : ReadPhase) → IsReading phase → (let y = at (Reading (reading shape u o.func.0 phase)) ByList (at_user u) in
        state_of (code.read y (setup_in job) (reading shape u o.func.0 phase) v)
        ≡ task_got job t.number.0 (state_of y) (reading_at u (λ reg. machine.Closing) phase) v)
    read-row AtSel k = by (not (is_asked job u) || sel_on v) (sel_empty v)
      where
        y : Task
        y = at (Reading (reading shape u o.func.0 AtSel)) ByList (at_user u)

        by : (on empty : Bool) → (let phase = cond on (cond empty (AtNotrace (sel_copy v) (high v)) (AtFilter (sel_copy v) (high v))) (ReadEnded Off) in
            state_of (judged y (setup_in job) (reading shape u o.func.0 phase) (verdict_of phase) (Some (record { 0 = u })))
            ≡ at_moment (state_of y) (tests_in on empty u v))
        by false empty = refl
        by true true = refl
        by true false = refl
    read-row (AtFilter copy reg) k = by (is_marked v o.func.0)
      where
        y : Task
        y = at (Reading (reading shape u o.func.0 (AtFilter copy reg))) ByList (at_user u)

        by : (b : Bool) → (let phase = cond b (AtNotrace copy reg) (ReadEnded Apart) in
            state_of (judged y (setup_in job) (reading shape u o.func.0 phase) (verdict_of phase) (Some (record { 0 = u })))
            ≡ at_moment (state_of y) (passes_in b u (machine.TestNotrace u copy reg)))
        by true = refl
        by false = refl
    read-row (AtNotrace copy reg) k =
        by (is_marked v o.func.0) (begin-row job t (walking o ByList (at_user u)) os s ss (Load (Reading r)) full (record { 0 = u }) reg)
      where
        r : Read
        r = reading shape u o.func.0 (AtNotrace copy reg)

        y : Task
        y = at (Reading r) ByList (at_user u)

        c : OpenCall
        c = joined (walking o ByList (at_user u)) s

        by : (b : Bool) → state_of (tested y (spec_at job u) (record { 0 = u }) reg) ≡ at_moment (state_of y) (begin_call job c (stack_in os ss) u reg)
            → (let phase = cond b (ReadEnded Apart) (ReadEnded (On reg)) in
            state_of (judged y (setup_in job) (reading shape u o.func.0 phase) (verdict_of phase) (Some (record { 0 = u })))
            ≡ at_moment (state_of y) (passes_in (not b) u (begin_call job c (stack_in os ss) u reg)))
        by true e = refl
        by false e = e
    read-row (ReadEnded verdict) k = absurd k

  -- ## the tests of a user that is on

  module _ (y : ToLoad) (k : IsTaskOf job (standing t (o ∷ os) (s ∷ ss) (Load y))) where
    -- the task before the load
    abbrev here : Task
    here = standing t (o ∷ os) (s ∷ ss) (Load y)

    pids-row : (u : UserNo) (reg v : ℕ) → IsLimited job → guards.is_full t.guards ≡ is_full job (guards_under o.scripted (stack_in os ss)) o.ctx
        → state_of (pid_tested here (spec_at job u.0) u reg v)
        ≡ at_moment (state_of here) (allowed_in (is_marked v o.call.task.0) u.0 reg (guard_test job (joined o s) (stack_in os ss) u.0 reg))
    pids-row u reg v limited full =
        by (bit_at v t.number.0 == 1) (is_marked v o.call.task.0) (ap (λ n. bit_at v n == 1) (sym here-is)) (guard-row job t o os s ss (Load y) full u reg)
      where
        here-is : o.call.task.0 % 64 ≡ t.number.0
        here-is =
            let n : o.call.task.0 ≡ t.number.0 = ap (λ (n : TaskNo). n.0) k.tied.0.task in
            let few : length job.tasks ≤ 64 = limited.counts.few_tasks in
            let inside : t.number.0 < length job.tasks = k.number in
            omega (arith, n, few, inside)

        by : (b b' : Bool) → b ≡ b'
            → state_of (guard_tested here (spec_at job u.0) u reg) ≡ at_moment (state_of here) (guard_test job (joined o s) (stack_in os ss) u.0 reg)
            → state_of (cond b (guard_tested here (spec_at job u.0) u reg) (code.at here (Mark (Refusing u reg ByPid))))
            ≡ at_moment (state_of here) (allowed_in b' u.0 reg (guard_test job (joined o s) (stack_in os ss) u.0 reg))
        by true true e more = more
        by false false e more = refl
        by true false e more = absurd cc
        by false true e more = absurd cc

    depth-row : (u : UserNo) (reg v : ℕ)
        → state_of (depth_tested here job.frames u reg v)
        ≡ at_moment (state_of here) (depth_in (is_too_deep job.frames v (level_of (stack_in os ss))) u.0 reg)
    depth-row u reg v =
        by (is_too_deep job.frames v (frames_in ss)) (is_too_deep job.frames v (level_of (stack_in os ss)))
        (ap (λ level. is_too_deep job.frames v level) (frames-are (shape_of job) t.number _ os ss k.tied.1))
      where
        by : (b b' : Bool) → b ≡ b'
            → state_of (cond b (record here { guards = left t.guards; moment = Mark (Refusing u reg ByDepth) }) (code.at here (Mark (Calling u reg))))
            ≡ at_moment (state_of here) (depth_in b' u.0 reg)
        by true true e = refl
        by false false e = refl
        by true false e = absurd cc
        by false true e = absurd cc

    own-row : (u : UserNo) (reg v : ℕ) → guards.is_full t.guards ≡ is_full job (guards_under o.scripted (stack_in os ss)) o.ctx
        → state_of (own_stated here (spec_at job u.0) u reg v)
        ≡ at_moment (state_of here) (own_in (stands v reg) (begin_call job (joined o s) (stack_in os ss) u.0 reg))
    own-row u reg v full = by (stands v reg) (begin-row job t o os s ss (Load y) full u reg)
      where
        by : (b : Bool)
            → state_of (tested here (spec_at job u.0) u reg) ≡ at_moment (state_of here) (begin_call job (joined o s) (stack_in os ss) u.0 reg)
            → state_of (cond b (tested here (spec_at job u.0) u reg) (code.at here (Mark Closing)))
            ≡ at_moment (state_of here) (own_in b (begin_call job (joined o s) (stack_in os ss) u.0 reg))
        by true e = e
        by false e = refl

  -- the word of a trampoline, whose user is asked or isn't
  tramp-row : (slot : ℕ) (k : IsTaskOf job (standing t (o ∷ os) (s ∷ ss) (Load (InTramp slot)))) (v : ℕ)
      → guards.is_full t.guards ≡ is_full job (guards_under o.scripted (stack_in os ss)) o.ctx
      → state_of (code.in_trampoline (here (InTramp slot) k) (setup_in job) v)
      ≡ task_got job t.number.0 (state_of (here (InTramp slot) k)) (machine.InTramp slot) v
  tramp-row slot k v full = by (is_asked job u.0) (begin-row job t o' os s ss (Load (InTramp slot)) full u (high v))
    where
      u : UserNo
      u = record { 0 = tramp_user v }

      o' : CodeCall
      o' = record o { ran = Own u }

      y : Task
      y = standing t (o' ∷ os) (s ∷ ss) (Load (InTramp slot))

      by : (b : Bool) → state_of (tested y (spec_at job u.0) u (high v)) ≡ at_moment (state_of y) (begin_call job (joined o' s) (stack_in os ss) u.0 (high v))
          → state_of (cond b (code.at y (Load (OwnSel u (high v)))) (tested y (spec_at job u.0) u (high v)))
          ≡ at_moment (state_of y) (owned_in b u.0 (high v) (begin_call job (joined o' s) (stack_in os ss) u.0 (high v)))
      by true e = refl
      by false e = e

  -- ## any load

  pub load-row : (load : ToLoad) (v : ℕ) → IsLimited job → IsTaskOf job (standing t (o ∷ os) (s ∷ ss) (Load load))
      → state_of (after_load (standing t (o ∷ os) (s ∷ ss) (Load load)) (setup_in job) load v)
      ≡ task_got job t.number.0 (state_of (standing t (o ∷ os) (s ∷ ss) (Load load))) (load_moment o (users_in s.users) load) v
  load-row Fetch v limited k = head-row t o os s ss v
  load-row (GotHead byte) v limited k = fetched-row t o os s ss (GotHead byte) (decode o.func.0 byte v) k.tied.0.walk
  load-row GotBreak v limited k = fetched-row t o os s ss GotBreak v k.tied.0.walk
  load-row (InTramp slot) v limited k = tramp-row slot k v (guard-is job t o os s ss (Load (InTramp slot)) k refl refl)
  load-row (OwnSel u reg) v limited k = own-row (OwnSel u reg) k u reg v (guard-is job t o os s ss (Load (OwnSel u reg)) k refl refl)
  load-row Walking v limited k = walk-row (shape_of job) o.walk.phase v k.moment.0
  load-row (Reading r) v limited k =
      subst (λ (p : ℕ × Ran × WalkPhase). let y = standing t (walking o p.1 p.2 ∷ os) (s ∷ ss) (Load (Reading (record r { func = p.0 }))) in
      state_of (code.read y (setup_in job) (record r { func = p.0 }) v)
      ≡ task_got job t.number.0 (state_of y) (reading_at r.user (λ reg. machine.Closing) r.phase) v)
      (λ i. (sym k.moment.func i, sym (read-list o.ran r.user o.walk.phase r.phase k.moment.open' k.tied.0.walk) i, sym k.moment.user i))
      (read-row (guard-is job t o os s ss (Load (Reading r)) k (read-dispatch r.user r.phase) (read-free r.user r.phase)) r.shape r.user v r.phase k.moment.open')
  load-row (AtPids u reg) v limited k = pids-row (AtPids u reg) k u reg v limited (guard-is job t o os s ss (Load (AtPids u reg)) k refl refl)
  load-row (AtDepth u reg) v limited k = depth-row (AtDepth u reg) k u reg v
  load-row (AtExit i) v limited k = live-row job t o os s ss i v k.moment
