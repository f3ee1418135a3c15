-- The next operation of each actor is on a word that the job has.
use Rattle.std.proofs.Common.{cond, ◌≡◌, ℕ, zero, suc, ◌+◌, ◌/◌, ◌<◌, true, false, ◌||◌, List, [], ◌∷◌, ◌++◌, length, Some, inl, inr, refl, sym, ap, ◌∙◌, subst, arith}
use Rattle.std.specs.Prelude.{Option, None, is_some, ◌==◌, Contains, slice_index_or}
use Rattle.std.specs.List.{AllByRecursion as Each}
use Rattle.ft_base.specs.declared.number.CallNo.{CallNo}
use Rattle.ft_base.specs.declared.item.Item.{Item}
use Rattle.ft_base.specs.declared.item.Item.TheVariants.{Back, Refuse}
use Rattle.ft_base.specs.declared.item.Ran.TheVariants.{List as ByList}
use Rattle.ft_base.specs.declared.task.TaskAct.{TaskAct}
use Rattle.ft_base.specs.declared.task.TaskAct.TheVariants.{Call, Ret as RetAct, Raise, Lower, After}
use Rattle.ft_base.specs.Job.{Job, Ctl, Run, Until, funcs, waits_before}
use Rattle.ft_base.specs.Same.{same_call}
use Rattle.ft_base.specs.WellFormed.{IsWellFormed}
use Rattle.ft_base.specs.Desk.{UserState, desk, user_at, is_on, is_sited, is_matching}
use Rattle.ft_base.specs.Order.{has}
use Rattle.ft_base.proofs.Small.{false_true, and_both, or-true, ==-refl}
use Rattle.ft_hist.specs.Past.{Visit, visit, all_visits, visits, done, begun, entry_of}
use Rattle.ft_hist.specs.Rules.{AtReturnedOrBegun, IsLegalPast}
use Rattle.word_map.specs.Words.{Word, Want, First as ListHead, Link}
use Rattle.word_map.specs.Contents.{low}
use Rattle.word_machine.specs.Commands.{Effect, Adds, Removes, Edits, Enables, Disables, Lists, Levels, Nothing, effect, subject, state_of, set_words}
use Rattle.word_map.specs.Ops.{Load}
use Rattle.word_machine.specs.Control.{Position, Line, Take, Copy, Select, Push, Relink, Patch, Await, Cpus, Tasks, Release, slot_of, namer_from, relink_op, line_op, next_in, control_next}
use Rattle.word_machine.specs.Task.{OpenCall, TaskState, Moment, Polling, First, Fetch, GotHead, GotBreak, InTramp, OwnSel, AtFirst, TestSel, TestFilter, TestNotrace, AtPids, AtDepth, Refusing, Calling, Missing, Acting, Ending, AtLink, Closing, Leaving, AtExit, Exiting, EndingExit, Returning, first_op, call_op, stack_op, task_op}
use Rattle.word_machine.specs.Cpu.{Cpu, Phase, Going, Looked, Answering, StoringAck, StoringQuiet, Over, any_has_more, looks, present_op, going_op, phase_op, cpu_next}
use Rattle.word_machine.specs.Machine.{World}
use Rattle.word_machine.specs.Progress.{comes_to, is_adds, is_removes, writes_copy, relinks, selects}
use Rattle.word_machine.specs.Sites.{PositionAt}
use Rattle.word_machine.specs.UserList.{UserList, list_desk}
use Rattle.word_machine.specs.Verdicts.{Here, InOwn, BeforeVisit, AfterVisit, Walks}
use Rattle.word_machine.specs.Calls.{CallAt, Calls, Opened}
use Rattle.word_machine.specs.Rule.{MachineRule, here, CpuRule, PollAt, IsWordJob}
use Rattle.word_map.specs.Shapes.{shape_of}
use Rattle.word_map.specs.Places.{IsThere}
use Rattle.word_machine.specs.Laws.{IsOnWord, WaitsAt}
use Rattle.word_machine_laws.proofs.Batches.{Sweep, Nexts, store_at, store_case}
use Rattle.word_machine_laws.proofs.DeskChanges.{SubjectBy, between}
use Rattle.word_machine_laws.proofs.DeskNumbers.{registered-inside}
use Rattle.word_machine_laws.proofs.DeskSlots.{slot-small}
use Rattle.word_machine.proofs.Small.{if_case}
use Rattle.word_machine_laws.proofs.ControlLine.{wait_task}

-- ## what desks tell

word-inside : (job : Job) (f : ℕ) → f < funcs job → f / 64 < set_words job
word-inside job f lt = omega arith

module _ (job : Job) (ok : IsWellFormed job) where
  pub sited-inside : (k u f : ℕ) → is_sited (desk job k) u f ≡ true → u < length job.users
  sited-inside k u f s = registered-inside job k u (and_both (user_at (desk job k) u).registered (is_matching (user_at (desk job k) u) f) s).0

  on-inside : (k u f : ℕ) → is_on (desk job k) u f ≡ true → u < length job.users
  on-inside k u f s = sited-inside k u f (and_both (is_sited (desk job k) u f) (user_at (desk job k) u).enabled s).0

  -- the user that a command changes is one of the job's
  subject-inside : (d : ℕ) (z : Effect) → effect job d ≡ z → selects z ≡ true → subject job d < length job.users
  subject-inside d z e busy =
      by_effect z (subst (λ x. SubjectBy job (desk job d) (suc d) x (state_of job d (subject job d)) (state_of job (suc d) (subject job d))) e
      (between job ok d).subject) busy
    where
      by_effect : (z : Effect) → SubjectBy job (desk job d) (suc d) z (state_of job d (subject job d)) (state_of job (suc d) (subject job d))
          → selects z ≡ true → subject job d < length job.users
      by_effect Adds c b = registered-inside job (suc d) (subject job d) (ap (λ (s : UserState). s.registered) c.1)
      by_effect Removes c b = registered-inside job d (subject job d) c.0
      by_effect Edits c b = registered-inside job d (subject job d) c.0
      by_effect Enables c b = registered-inside job d (subject job d) c.0
      by_effect Disables c b = registered-inside job d (subject job d) c.0
      by_effect Lists c b = false_true b
      by_effect Levels c b = false_true b
      by_effect Nothing c b = false_true b

  -- ## who was visited

  pub either-inside : (past : List Item) (u f : ℕ) → AtReturnedOrBegun past (λ k. is_on (desk job k) u f ≡ true) → u < length job.users
  either-inside past u f (inl a) = on-inside (done past) u f a
  either-inside past u f (inr b) = on-inside (begun past) u f b

  one-inside : (call c : CallNo) (m : Visit) (ms : List Visit) → m.user < length job.users → Each (λ (x : Visit). x.user < length job.users) ms
      → Each (λ (x : Visit). x.user < length job.users) (cond (same_call c call) (m ∷ ms) ms)
  one-inside call c m ms inside h = if_case (Each (λ (x : Visit). x.user < length job.users)) (same_call c call) (m ∷ ms) ms (λ e. (inside, h)) (λ e. h)

  pub visited-inside : (call : CallNo) (past : List Item) → IsLegalPast job past → Each (λ (m : Visit). m.user < length job.users) (visits job call past)
  unfolding IsLegalPast all_visits
  visited-inside call [] l = tt
  visited-inside call (Back c u ∷ past) l =
      one-inside call c (visit job c u.0 past (all_visits job past) true) (visits job call past)
      (either-inside past u.0 (entry_of c past).func l.0.callbacks.on) (visited-inside call past l.1)
  visited-inside call (Refuse c u reason ∷ past) l =
      one-inside call c (visit job c u.0 past (all_visits job past) false) (visits job call past)
      (either-inside past u.0 (entry_of c past).func l.0.callbacks.on) (visited-inside call past l.1)
  visited-inside call (_ ∷ past) l = visited-inside call past l.1

each-contains : {A : Type 0} (P : A → Type 0) (xs : List A) (x : A) → Each P xs → Contains xs x → P x
each-contains P [] x h c = absurd (let l = c.1 in omega (arith, l))
each-contains P (y ∷ ys) x h c = by c.0 c.1 c.2 (λ k. each-contains P ys x h.1 k)
  where
    by : (k : ℕ) → k < length (y ∷ ys) → slice_index_or (y ∷ ys) k x ≡ x → (Contains ys x → P x) → P x
    by zero lt e deeper = subst P e h.0
    by (suc k) lt e deeper = deeper (k, omega (arith, lt), e)

-- ## a CPU

module _ (job : Job) (ok : IsWordJob job) (h : Here) (past : List Item) (ack first : ℕ) (legal : IsLegalPast job past)
    (list : UserList job h.d h.p h.order first h.link) where
  walks-inside : (q u : ℕ) → Walks job h q u → u < length job.users
  walks-inside q u (inl a) = registered-inside job (list_desk h.p h.d) u (sym (list.order'.members u) ∙ a)
  walks-inside q u (inr g) =
      (let s = subject-inside job ok.job' h.d (effect job h.d) refl (ap selects g.0.1) in let e = g.0.2 in omega (arith, s, e))

  before-inside : (q u : ℕ) (c : OpenCall) (ms : List Visit) → c.ran ≡ ByList → BeforeVisit job h q c.ran u ms → u < length job.users
  before-inside q u c ms is b = walks-inside q u (subst (λ r. BeforeVisit job h q r u ms) is b).0

  after-inside : (q u : ℕ) (c : OpenCall) (ms : List Visit) → c.ran ≡ ByList → AfterVisit job h q c.ran u ms → u < length job.users
  after-inside q u c ms is b = walks-inside q u (subst (λ r. AfterVisit job h q r u ms) is b).0

  own-inside : (q slot u reg : ℕ) (c : OpenCall) → InOwn job h past q c slot u reg → (slot < job.tramps) × (u < length job.users)
  own-inside q slot u reg c x = let own = x.0.3.1.0 in (slot-small job ok.job' x.0.0 u slot own, registered-inside job x.0.0 u own.0)

  pub call-there : (q t : ℕ) (x : TaskState) (c : OpenCall) (below : List OpenCall) (m : Moment) → Opened job past t c → CallAt job h past ack q c below m
      → IsOnWord job (call_op x c below m)
  call-there q t x c below Polling o k = tt
  call-there q t x c below First o k = tt
  call-there q t x c below Fetch o k = o.inside
  call-there q t x c below (GotHead byte) o k = o.inside
  call-there q t x c below GotBreak o k = o.inside
  call-there q t x c below (InTramp s) o k = (own-inside q s k.at.1.0 k.at.1.1 c k.at.1.2).0
  call-there q t x c below (OwnSel u reg) o k = (own-inside q k.at.3.0 u reg c k.at.3.1).1
  call-there q t x c below AtFirst o k = tt
  call-there q t x c below (TestSel u) o k = before-inside q u c (visits job c.call past) k.at.2 k.at.1
  call-there q t x c below (TestFilter u copy reg) o k =
      (before-inside q u c (visits job c.call past) k.at.2 k.at.1, k.at.4, omega arith, word-inside job c.func o.inside)
  call-there q t x c below (TestNotrace u copy reg) o k =
      (before-inside q u c (visits job c.call past) k.at.2 k.at.1, k.at.4, omega arith, word-inside job c.func o.inside)
  call-there q t x c below (AtPids u reg) o k = tt
  call-there q t x c below (AtDepth u reg) o k = tt
  call-there q t x c below (Refusing u reg reason) o k = tt
  call-there q t x c below (Calling u reg) o k = tt
  call-there q t x c below (Missing u) o k = tt
  call-there q t x c below (Acting u w) o k = tt
  call-there q t x c below (Ending u) o k = tt
  call-there q t x c below (AtLink u) o k = after-inside q u c (visits job c.call past) k.at.2 k.at.1
  call-there q t x c below Closing o k = tt
  call-there q t x c below Leaving o k = tt
  call-there q t x c below (AtExit m rest) o k =
      let owed = k.so.owed.0 in
      let inside : owed.0.user < length job.users =
      each-contains (λ (y : Visit). y.user < length job.users) k.ms owed.0 (subst (Each (λ (y : Visit). y.user < length job.users)) k.so.those
      (visited-inside job ok.job' c.call past legal)) owed.1 in
      let e = owed.2 in
      omega (arith, inside, e)
  call-there q t x c below (Exiting m rest) o k = tt
  call-there q t x c below (EndingExit m rest) o k = tt
  call-there q t x c below Returning o k = tt

  first-there : (t : ℕ) (x : TaskState) (acts : List TaskAct) (stack : List OpenCall) → IsOnWord job (first_op t x acts stack)
  first-there t x (Call f ∷ rest) stack = tt
  first-there t x (RetAct ∷ rest) (c ∷ below) = tt
  first-there t x (RetAct ∷ rest) [] = tt
  first-there t x (After n ∷ rest) stack = tt
  first-there t x (Raise c ∷ rest) stack = tt
  first-there t x (Lower ∷ rest) stack = tt
  first-there t x [] stack = tt

  stack-there : (q t : ℕ) (x : TaskState) (stack : List OpenCall) (m : Moment) → Calls job h past ack q t m stack → IsOnWord job (stack_op x stack m)
  stack-there q t x [] m k = tt
  stack-there q t x (c ∷ below) m k = call-there q t x c below m k.0 k.1

  task-there : (q t : ℕ) (x : TaskState) (m : Moment) → Calls job h past ack q t m x.stack → IsOnWord job (task_op t x m)
  task-there q t x First k = first-there t x x.acts x.stack
  task-there q t x m k = stack-there q t x x.stack m k

  present-there : (me : Cpu) (q : ℕ) (m : Moment) → Calls job h past ack q me.present m (me.tasks me.present).stack → IsOnWord job (present_op me m)
  present-there me q Polling k = tt
  present-there me q m k = task-there q me.present (me.tasks me.present) m k

  going-there : (quiet : ℕ → ℕ) (c : ℕ) (me : Cpu) → CpuRule job h past ack quiet c me → IsOnWord job (going_op job me)
  going-there quiet c me k =
      if_case (IsOnWord job) (any_has_more job me) (present_op me (me.tasks me.present).moment) (Some (Load Want))
      (λ e. present-there me (low (quiet me.present)) (me.tasks me.present).moment (k.tasks me.present (k.present e).0).calls) (λ e. tt)

  pub phase-there : (quiet : ℕ → ℕ) (c : ℕ) (me : Cpu) (p : Phase) → c < length job.quanta → CpuRule job h past ack quiet c me → PollAt job h.request c me p
      → IsOnWord job (phase_op job me p)
  phase-there quiet c me Going inside k at' =
      if_case (IsOnWord job) (looks job me) (Some (Load Want)) (going_op job me) (λ e. tt) (λ e. going-there quiet c me k)
  phase-there quiet c me Looked inside k at' = going-there quiet c me k
  phase-there quiet c me (Answering r) inside k at' = (let e = k.number in omega (arith, e, inside))
  phase-there quiet c me (StoringAck r) inside k at' = (let e = k.number in omega (arith, e, inside))
  phase-there quiet c me (StoringQuiet r t) inside k at' = at'.4.0
  phase-there quiet c me Over inside k at' = tt

pub cpu-there : (job : Job) → IsWordJob job → (s : World) (c : ℕ) → c < length job.quanta → MachineRule job s → IsOnWord job (cpu_next job (s.cpus c))
unfolding cpu_next
cpu-there job ok s c inside k =
    let kc = k.cpus c inside in
    phase-there job ok (here s k.base) s.past (s.words.ack c) s.words.first k.legal k.list s.words.quiet c (s.cpus c) (s.cpus c).phase inside kc kc.polls

-- ## control

module _ (job : Job) (ok : IsWordJob job) (s : World) (k : MachineRule job s) where
  abbrev d : ℕ
  d = s.control.commands_done

  namer-there : (w : Word) (u : ℕ) (order : List ℕ) → IsThere (shape_of job) w → ((v : ℕ) → has v order ≡ true → v < length job.users) → IsThere (shape_of job) (namer_from w u order)
  namer-there w u [] t all = t
  namer-there w u (v ∷ vs) t all =
      if_case (IsThere (shape_of job)) (v == u) w (namer_from (Link v) u vs) (λ e. t)
      (λ e. namer-there (Link v) u vs (all v (ap (λ b. b || has v vs) (==-refl v))) (λ x h. all x (ap (λ b. (v == x) || b) h ∙ or-true (v == x))))

  line-there : (remaining : List Ctl) → s.control.remaining ≡ remaining → IsOnWord job (line_op d remaining)
  line-there [] e = tt
  line-there (Until t n ∷ rest) e =
      wait_task job ok (d + 0) k.lines.waits (waits_before 0 rest) t n (k.lines.before 0 ∙ ap (λ l. k.lines.waits ++ waits_before 0 l) e)
  line-there (Run c ∷ rest) e = tt

  relink-there : (z : Effect) → effect job d ≡ z → relinks z ≡ true → IsOnWord job (Some (relink_op z (subject job d) s.control.order))
  relink-there Removes e r =
      namer-there ListHead (subject job d) s.control.order tt
      (λ v h. registered-inside job (list_desk s.control.position d) v (sym (k.list.order'.members v) ∙ h))
  relink-there Adds e r = tt
  relink-there _ e r = false_true r

  slot-there : (n u : ℕ) (o : Option ℕ) → (state_of job n u).slot ≡ o → is_some o ≡ true → (state_of job n u).registered ≡ true → slot_of o < job.tramps
  slot-there n u None e i r = false_true i
  slot-there n u (Some t) e i r = slot-small job ok.job' n u t (r, e)

  added : is_adds (effect job d) ≡ true → (state_of job (suc d) (subject job d)).registered ≡ true
  added a = by_effect (effect job d) (between job ok.job' d).subject a
    where
      by_effect : (z : Effect) → SubjectBy job (desk job d) (suc d) z (state_of job d (subject job d)) (state_of job (suc d) (subject job d))
          → is_adds z ≡ true → (state_of job (suc d) (subject job d)).registered ≡ true
      by_effect Adds c a = ap (λ (x : UserState). x.registered) c.1
      by_effect _ c a = false_true a

  removed : is_removes (effect job d) ≡ true → (state_of job d (subject job d)).registered ≡ true
  removed a = by_effect (effect job d) (between job ok.job' d).subject a
    where
      by_effect : (z : Effect) → SubjectBy job (desk job d) (suc d) z (state_of job d (subject job d)) (state_of job (suc d) (subject job d))
          → is_removes z ≡ true → (state_of job d (subject job d)).registered ≡ true
      by_effect Removes c a = c.0
      by_effect _ c a = false_true a

  copy-selects : (z : Effect) → writes_copy z ≡ true → selects z ≡ true
  copy-selects Adds e = refl
  copy-selects Edits e = refl
  copy-selects _ e = false_true e

  adds-selects : (z : Effect) → is_adds z ≡ true → selects z ≡ true
  adds-selects Adds e = refl
  adds-selects _ e = false_true e

  store-there : (z : Sweep) (i : ℕ) → i < funcs job → IsOnWord job (Some (store_at job d z i))
  store-there Nexts i lt = lt
  store-there _ i lt = lt

  position-there : (p : Position) → PositionAt job d p → comes_to (effect job d) p ≡ true → WaitsAt job p → IsOnWord job (next_in job s.control p)
  position-there Line a f n = line-there s.control.remaining refl
  position-there Take a f n = slot-there (suc d) (subject job d) (state_of job (suc d) (subject job d)).slot refl a (added f)
  position-there (Copy half w) a f n =
      (subject-inside job ok.job' d (effect job d) refl (copy-selects (effect job d) f), omega arith, a.0, a.1)
  position-there Select a f n = subject-inside job ok.job' d (effect job d) refl f
  position-there Push a f n = subject-inside job ok.job' d (effect job d) refl (adds-selects (effect job d) f)
  position-there Relink a f n = relink-there (effect job d) refl f
  position-there (Patch w x rest) a f n = store_case job d (λ o. IsOnWord job (Some o)) w x rest a store-there
  position-there (Await (Cpus rest) c) a f n = n
  position-there (Await Tasks t) a f n = n
  position-there Release a f n = slot-there d (subject job d) (state_of job d (subject job d)).slot refl a (removed f)
  position-there _ a f n = tt

pub control-there : (job : Job) → IsWordJob job → (s : World) → MachineRule job s → WaitsAt job s.control.position → IsOnWord job (control_next job s.control)
unfolding control_next
control-there job ok s k n = position-there job ok s k s.control.position k.sites.position k.sites.fit n
