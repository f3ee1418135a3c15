-- The moment that a load of a dispatch leads to names what is there, and its user has passed the tests before it.
use Rattle.std.proofs.Common.{cond, ◌≡◌, ℕ, zero, suc, ◌+◌, ◌-◌, ◌/◌, ◌<◌, ◌≤◌, Bool, true, false, not, ◌||◌, ◌==◌, List, length, nat_le, refl, sym, ◌∙◌, subst, arith}
use Rattle.std.proofs.lemmas.Bool.Decides.{nat_tests}
use Rattle.ft_base.specs.declared.item.Ran.{Ran}
use Rattle.ft_base.specs.declared.item.Ran.TheVariants.{Nop, List as ByList, Own}
use Rattle.ft_base.specs.declared.item.Reason.TheVariants.{Pid as ByPid, Recursion, Depth as ByDepth}
use Rattle.ft_base.specs.declared.task.TaskAct.{TaskAct}
use Rattle.ft_base.specs.Desk.{spec_at}
use Rattle.ft_base.specs.Job.{Job}
use Rattle.ft_base.specs.Kinds.{has_depth}
use Rattle.ft_base.proofs.Small.{==-refl, false_true, or-false_both}
use Rattle.ft_hist.specs.Dispatch.{is_full}
use Rattle.word_map.specs.Contents.{is_marked, sel_copy, sel_empty, sel_on, stands, tramp_user, tramp_word, high}
use Rattle.word_map.specs.Instructions.{decode, head_of, tail_of}
use Rattle.word_machine.specs.Laws.{CallTakes}
use Rattle.word_machine.specs.Task.{OpenCall, TaskState, Moment, Fetch, GotHead, GotBreak, InTramp, OwnSel, AtFirst, TestSel, TestFilter, TestNotrace, AtPids, AtDepth, Refusing, AtLink, Closing, after_user, allowed_in, begin_call, depth_in, fetched, guard_in, guard_test, guards_under, head_in, is_asked, is_too_deep, level_of, own_in, owned_in, passes_in, pid_in, tests_in, walks_to, with_top, call_got, fetched_ran}
use Rattle.task_core.specs.TaskInvariant.{HasFound, NamesThere, holds_guard, is_dispatching}
use Rattle.task_core.proofs.InvariantParts.{Asks, Keeps, in-dispatch, moment-goes, task-goes}

-- ## what bytes and words name

-- the bytes of an instruction that there is decode to one that there is
pub decoded-there : (f n i byte v : ℕ) → i < 2 + n → byte ≡ head_of i → v ≡ tail_of f i → decode f byte v < 2 + n
decoded-there f n i byte v lt e e' =
    let z : decode f (head_of i) (tail_of f i) < 2 + n = own i lt in
    subst (λ (y : ℕ × ℕ). decode f y.0 y.1 < 2 + n) (λ k. (sym e k, sym e' k)) z
  where
    either : (b : Bool) (k : ℕ) → 1 < 2 + n → k < 2 + n → cond b 1 k < 2 + n
    either true k one more = one
    either false k one more = more

    own : (i : ℕ) → i < 2 + n → decode f (head_of i) (tail_of f i) < 2 + n
    own zero lt = omega arith
    own (suc zero) lt = rw (==-refl (tail_of f 1)) lt
    own (suc (suc s)) lt = either (tail_of f (suc (suc s)) == tail_of f 1) (2 + (tail_of f (suc (suc s)) - tail_of f 2) / 256) (omega (arith, lt)) (omega (arith, lt))

-- a trampoline's word names no greater user than it was made for
pub tramp-there : (v reg u n : ℕ) → u < n → v ≡ tramp_word reg u → tramp_user v < n
tramp-there v reg u n lt e = omega (arith, e)

-- ## moments of a dispatch

module _ (job : Job) (c : OpenCall) (below : List OpenCall) where
  -- a moment of the dispatch, and what it asks of the call
  abbrev pub Follows : Moment → Type 0
  Follows m = (is_dispatching m ≡ true) × Asks job c below m

  -- a moment at which no level is held for the call
  pub follows : (m : Moment) → is_dispatching m ≡ true → holds_guard m ≡ false → NamesThere job m → HasFound job c below m → Follows m
  follows m d g names found = (d, record { names = names; acted = λ e. false_true (sym (in-dispatch m d).2 ∙ e); free = λ e. false_true (sym g ∙ e); found = found })

  head-follows : (b : Bool) (byte : ℕ) → Follows (head_in b byte)
  head-follows true byte = follows GotBreak refl refl tt tt
  head-follows false byte = follows (GotHead byte) refl refl tt tt

  fetched-follows : (i : ℕ) → i < 2 + job.tramps → Follows (fetched i)
  fetched-follows zero lt = follows Closing refl refl tt tt
  fetched-follows (suc zero) lt = follows AtFirst refl refl tt tt
  fetched-follows (suc (suc s)) lt = follows (InTramp s) refl refl (omega (arith, lt)) tt

  own-follows : (b : Bool) (m : Moment) → Follows m → Follows (own_in b m)
  own-follows true m h = h
  own-follows false m h = follows Closing refl refl tt tt

  owned-follows : (asked : Bool) (u reg : ℕ) (m : Moment) → u < length job.users → Follows m → Follows (owned_in asked u reg m)
  owned-follows true u reg m lt h = follows (OwnSel u reg) refl refl lt tt
  owned-follows false u reg m lt h = h

  walks-follow : (v : ℕ) → v ≤ length job.users → Follows (walks_to v)
  walks-follow zero le = follows Closing refl refl tt tt
  walks-follow (suc u) le = follows (TestSel u) refl refl (omega (arith, le)) tt

  tests-follow : (on empty : Bool) (u v : ℕ) → u < length job.users → Follows (tests_in on empty u v)
  tests-follow false empty u v lt = follows (AtLink u) refl refl lt tt
  tests-follow true true u v lt = follows (TestNotrace u (sel_copy v) (high v)) refl refl (lt, omega arith) tt
  tests-follow true false u v lt = follows (TestFilter u (sel_copy v) (high v)) refl refl (lt, omega arith) tt

  passes-follow : (b : Bool) (u : ℕ) (m : Moment) → u < length job.users → Follows m → Follows (passes_in b u m)
  passes-follow true u m lt h = h
  passes-follow false u m lt h = follows (AtLink u) refl refl lt tt

  -- a user that finds a level of the guard free holds it
  guard-follows : (u reg : ℕ) → u < length job.users → Follows (guard_test job c below u reg)
  guard-follows u reg lt = by (is_full job (guards_under c.scripted below) c.ctx) (has_depth (spec_at job u).kind) refl refl
    where
      by : (full deep : Bool) → is_full job (guards_under c.scripted below) c.ctx ≡ full → has_depth (spec_at job u).kind ≡ deep
          → Follows (guard_in full deep u reg)
      by true deep e d = follows (Refusing u reg Recursion) refl refl lt tt
      by false true e d = (refl, record { names = lt; acted = λ h. false_true h; free = λ h. e; found = tt })
      by false false e d = (refl, record { names = lt; acted = λ h. false_true h; free = λ h. e; found = λ h. false_true (sym d ∙ h) })

  begin-follows : (u reg : ℕ) → u < length job.users → Follows (begin_call job c below u reg)
  begin-follows u reg lt = by (spec_at job u).pid
    where
      by : (b : Bool) → Follows (pid_in b u reg (guard_test job c below u reg))
      by true = follows (AtPids u reg) refl refl lt tt
      by false = guard-follows u reg lt

  allowed-follows : (b : Bool) (u reg : ℕ) (m : Moment) → u < length job.users → Follows m → Follows (allowed_in b u reg m)
  allowed-follows true u reg m lt h = h
  allowed-follows false u reg m lt h = follows (Refusing u reg ByPid) refl refl lt tt

  -- a graph or profile user that is not too deep has a frame
  depth-follows : (u reg depth : ℕ) → u < length job.users → is_full job (guards_under c.scripted below) c.ctx ≡ false
      → Follows (depth_in (is_too_deep job.frames depth (level_of below)) u reg)
  depth-follows u reg depth lt free = by (is_too_deep job.frames depth (level_of below)) refl
    where
      by : (b : Bool) → is_too_deep job.frames depth (level_of below) ≡ b → Follows (depth_in b u reg)
      by true e = follows (Refusing u reg ByDepth) refl refl lt tt
      by false e =
          let few : nat_le job.frames (level_of below) ≡ false = (or-false_both _ _ e).0 in
          (refl, record { names = lt; acted = λ h. false_true h; free = λ h. free; found = λ h. grind (arith, nat_tests, few) })

  pub after-follows : (r : Ran) (u : ℕ) → u < length job.users → Follows (after_user r u)
  after-follows Nop u lt = follows Closing refl refl tt tt
  after-follows ByList u lt = follows (AtLink u) refl refl lt tt
  after-follows (Own w) u lt = follows Closing refl refl tt tt

  -- ## the task after a load

  module _ (P : ℕ → List TaskAct → Type 0) (x : TaskState) where
    -- the top call is at another moment of its dispatch
    pub dispatch-goes : (m m' : Moment) → is_dispatching m ≡ true → Follows m' → Keeps job P (with_top x c below m) → Keeps job P (with_top x c below m')
    dispatch-goes m m' d f k =
        let a = in-dispatch m d in
        let b = in-dispatch m' f.0 in
        moment-goes job c below P x m m' a.0 b.0 (rw (a.1, b.1) refl) (λ e. d) f.1 k

    -- it is known what was fetched
    ran-goes : (m m' : Moment) (r : Ran) → is_dispatching m ≡ true → Follows m' → Keeps job P (with_top x c below m)
        → Keeps job P (with_top x (record c { ran = r }) below m')
    ran-goes m m' r d f k =
        let a = in-dispatch m d in
        let b = in-dispatch m' f.0 in
        task-goes job c below P x m m' r c.runs c.framed c.users a.0 b.0 (rw (a.1, b.1) refl) (λ e. d)
        (record { bare = k.0.framed.bare; few = k.0.framed.few }) k.0.calls.0.users f.1 k

    -- a load of a fetch
    pub fetch-row : (v : ℕ) → Keeps job P (with_top x c below Fetch) → Keeps job P (call_got job (with_top x c below Fetch) c below Fetch v)
    fetch-row v k = dispatch-goes Fetch (head_in _ v) refl (head-follows _ v) k

    pub head-row : (byte v : ℕ) → CallTakes job c (GotHead byte) v → Keeps job P (with_top x c below (GotHead byte))
        → Keeps job P (call_got job (with_top x c below (GotHead byte)) c below (GotHead byte) v)
    head-row byte v takes k =
        let i : ℕ = decode c.func byte v in
        ran-goes (GotHead byte) (fetched i) (fetched_ran i) refl
        (fetched-follows i (decoded-there c.func job.tramps takes.0 byte v takes.1 takes.2 takes.3)) k

    pub break-row : (v : ℕ) → v < 2 + job.tramps → Keeps job P (with_top x c below GotBreak)
        → Keeps job P (call_got job (with_top x c below GotBreak) c below GotBreak v)
    break-row v lt k = ran-goes GotBreak (fetched v) (fetched_ran v) refl (fetched-follows v lt) k

    -- a load of a trampoline
    pub tramp-row : (s v : ℕ) → CallTakes job c (InTramp s) v → Keeps job P (with_top x c below (InTramp s))
        → Keeps job P (call_got job (with_top x c below (InTramp s)) c below (InTramp s) v)
    tramp-row s v takes k =
        let u : ℕ = tramp_user v in
        let there = tramp-there v takes.1 takes.0 (length job.users) takes.2 takes.3 in
        ran-goes (InTramp s) (owned_in (is_asked job u) u (high v) (begin_call job c below u (high v))) (Own (record { 0 = u })) refl
        (owned-follows (is_asked job u) u (high v) (begin_call job c below u (high v)) there (begin-follows u (high v) there)) k

    pub own-row : (u reg v : ℕ) → Keeps job P (with_top x c below (OwnSel u reg))
        → Keeps job P (call_got job (with_top x c below (OwnSel u reg)) c below (OwnSel u reg) v)
    own-row u reg v k =
        dispatch-goes (OwnSel u reg) (own_in (stands v reg) (begin_call job c below u reg)) refl
        (own-follows (stands v reg) (begin_call job c below u reg) (begin-follows u reg k.0.calls.0.names)) k

    -- a load of the list
    pub list-row : (v : ℕ) → v ≤ length job.users → Keeps job P (with_top x c below AtFirst)
        → Keeps job P (call_got job (with_top x c below AtFirst) c below AtFirst v)
    list-row v le k = dispatch-goes AtFirst (walks_to v) refl (walks-follow v le) k

    pub link-row : (u v : ℕ) → v ≤ length job.users → Keeps job P (with_top x c below (AtLink u))
        → Keeps job P (call_got job (with_top x c below (AtLink u)) c below (AtLink u) v)
    link-row u v le k = dispatch-goes (AtLink u) (walks_to v) refl (walks-follow v le) k

    -- a load of a user's sets
    pub sel-row : (u v : ℕ) → Keeps job P (with_top x c below (TestSel u))
        → Keeps job P (call_got job (with_top x c below (TestSel u)) c below (TestSel u) v)
    sel-row u v k =
        let on : Bool = not (is_asked job u) || sel_on v in
        dispatch-goes (TestSel u) (tests_in on (sel_empty v) u v) refl (tests-follow on (sel_empty v) u v k.0.calls.0.names) k

    pub filter-row : (u copy reg v : ℕ) → Keeps job P (with_top x c below (TestFilter u copy reg))
        → Keeps job P (call_got job (with_top x c below (TestFilter u copy reg)) c below (TestFilter u copy reg) v)
    filter-row u copy reg v k =
        let names : (u < length job.users) × (copy < 2) = k.0.calls.0.names in
        dispatch-goes (TestFilter u copy reg) (passes_in (is_marked v c.func) u (TestNotrace u copy reg)) refl
        (passes-follow (is_marked v c.func) u (TestNotrace u copy reg) names.0 (follows (TestNotrace u copy reg) refl refl names tt)) k

    pub notrace-row : (u copy reg v : ℕ) → Keeps job P (with_top x c below (TestNotrace u copy reg))
        → Keeps job P (call_got job (with_top x c below (TestNotrace u copy reg)) c below (TestNotrace u copy reg) v)
    notrace-row u copy reg v k =
        let names : (u < length job.users) × (copy < 2) = k.0.calls.0.names in
        dispatch-goes (TestNotrace u copy reg) (passes_in (not (is_marked v c.func)) u (begin_call job c below u reg)) refl
        (passes-follow (not (is_marked v c.func)) u (begin_call job c below u reg) names.0 (begin-follows u reg names.0)) k

    -- a load of a user's tests
    pub pids-row : (u reg v : ℕ) → Keeps job P (with_top x c below (AtPids u reg))
        → Keeps job P (call_got job (with_top x c below (AtPids u reg)) c below (AtPids u reg) v)
    pids-row u reg v k =
        dispatch-goes (AtPids u reg) (allowed_in (is_marked v c.call.task.0) u reg (guard_test job c below u reg)) refl
        (allowed-follows (is_marked v c.call.task.0) u reg (guard_test job c below u reg) k.0.calls.0.names (guard-follows u reg k.0.calls.0.names)) k

    pub depth-row : (u reg v : ℕ) → Keeps job P (with_top x c below (AtDepth u reg))
        → Keeps job P (call_got job (with_top x c below (AtDepth u reg)) c below (AtDepth u reg) v)
    depth-row u reg v k =
        dispatch-goes (AtDepth u reg) (depth_in (is_too_deep job.frames v (level_of below)) u reg) refl
        (depth-follows u reg v k.0.calls.0.names (k.0.calls.0.free refl)) k
