-- What a row of control does to what is known of each task and of each CPU.
use Rattle.std.proofs.Common.{◌≡◌, ◌⊎◌, ℕ, ◌<◌, ◌≤◌, Bool, true, false, ◌&&◌, ◌==◌, List, [], ◌∷◌, length, inl, inr, refl, sym, subst, arith}
use Rattle.std.specs.Prelude.{nat_le, nat_lt}
use Rattle.std.specs.List.{AllByRecursion as Each}
use Rattle.ft_base.specs.declared.item.Item.{Item}
use Rattle.ft_base.specs.declared.item.Ran.{Ran}
use Rattle.ft_base.specs.declared.item.Ran.TheVariants.{Nop, List as ByList, Own}
use Rattle.ft_base.specs.declared.item.Reason.{Reason}
use Rattle.ft_base.specs.declared.item.Reason.TheVariants.{Pid as ByPid, Recursion, Depth as ByDepth}
use Rattle.ft_base.specs.Job.{Job, funcs}
use Rattle.ft_base.specs.Desk.{UserState, desk, is_allowed, is_matching}
use Rattle.ft_base.specs.Tasks.{has_acts}
use Rattle.ft_base.proofs.Small.{and_both, Each-weaker}
use Rattle.ft_hist.specs.Past.{begun, visits, Visit, entry_of}
use Rattle.ft_hist.specs.Frames.{FrameUser}
use Rattle.ft_hist.specs.Known.{Watches}
use Rattle.word_map.specs.Contents.{low, greatest_half, all_ones}
use Rattle.word_machine.specs.Commands.{effect, state_of}
use Rattle.word_machine.specs.Task.{OpenCall, TaskState, Moment, Polling, First, Fetch, GotHead, GotBreak, InTramp, OwnSel, AtFirst, TestSel, TestFilter, TestNotrace, AtPids, AtDepth, Refusing, Calling, Missing, Acting, Ending, AtLink, Closing, Leaving, AtExit, Exiting, EndingExit, Returning, is_quiet, level_of, user_of}
use Rattle.word_machine.specs.Cpu.{Cpu, Phase, Going, Looked, Answering, StoringAck, StoringQuiet, Over, any_has_more}
use Rattle.word_machine.specs.Progress.{selected, pids_stored, depth_stored, quiet_reached}
use Rattle.word_machine.specs.Sites.{reached}
use Rattle.word_machine.specs.UserList.{since_of, list_desk}
use Rattle.word_machine.specs.HashCopies.{ReaderAt, Reader, InFilter, InNotrace}
use Rattle.word_machine.specs.Trampolines.{HasSlot}
use Rattle.word_machine.specs.Verdicts.{Here, Seen, SeenVisit, Found, SeenLive, may_come, may_come_before, may_come_after, Walks, BeforeVisit, AfterVisit, InOwn, PidSeen, LevelSeen, DeepSeen, ReasonAt, DispatchAt, Dispatches}
use Rattle.word_machine.specs.Calls.{Leaves, CallAt, Calls, under_by, under_call}
use Rattle.word_machine.specs.Tasks.{TaskRule, StandsIn}
use Rattle.word_machine.specs.Rule.{CpuRule, PollAt}
use Rattle.word_machine_laws.proofs.Sites.{Fetches}
use Rattle.word_machine_laws.proofs.TasksOf.{task_goes_on}
use Rattle.word_machine_laws.proofs.PollWords.{told-more, told-later}
use Rattle.word_machine_laws.proofs.CommandDesks.{StaysEnabled}

-- what a row does to what a task has loaded; q is the low half of the task's quiet word, ack what its CPU has acknowledged
pub record ControlEffect (job : Job) (h h' : Here) (ack q : ℕ) : Type 1 where
  pub later : h.d ≤ h'.d
  pub fetch : Fetches job ack h.d h.p h.base h'.d h'.p h'.base
  pub user : (u : ℕ) (R : UserState → Type 0) → StaysEnabled R → Seen job h q (selected h.p) (λ k. R (state_of job k u))
      → Seen job h' q (selected h'.p) (λ k. R (state_of job k u))
  pub reads : (u copy : ℕ) (R : UserState → (ℕ → ℕ → ℕ) → Type 0) → ((b : ℕ → ℕ → ℕ) → StaysEnabled (λ s. R s b))
      → ReaderAt job h.d h.p h.request q h.copies h.bits u copy R → ReaderAt job h'.d h'.p h'.request q h'.copies h'.bits u copy R
  pub walks : (u : ℕ) → Walks job h q u → Walks job h' q u
  pub walked : (u : ℕ) → Walks job h q u → since_of job (list_desk h'.p h'.d) u ≡ since_of job (list_desk h.p h.d) u
  pub since : (v : ℕ) → (since_of job (list_desk h'.p h'.d) v ≡ since_of job (list_desk h.p h.d) v) ⊎ ((state_of job h.d v).registered ≡ false)
  pub pids : (t : ℕ) (b : Bool) → Seen job h q (pids_stored h.p) (λ k. is_allowed (desk job k) t ≡ b)
      → Seen job h' q (pids_stored h'.p) (λ k. is_allowed (desk job k) t ≡ b)
  pub depth : (Q : ℕ → Type 0) → Seen job h q (depth_stored h.p) (λ k. Q (desk job k).depth) → Seen job h' q (depth_stored h'.p) (λ k. Q (desk job k).depth)

sited_registered : (s : UserState) (f : ℕ) → (s.registered && is_matching s f) ≡ true → s.registered ≡ true
sited_registered s f e = (and_both s.registered (is_matching s f) e).0

-- the facts of a user that occur
on_stays : (f : ℕ) → StaysEnabled (λ s. ((s.registered && is_matching s f) && s.enabled) ≡ true)
on_stays f s r = let e = (and_both (s.registered && is_matching s f) s.enabled r).0 in (sited_registered s f e, (rw e refl))

live_stays : (reg : ℕ) → StaysEnabled (λ s. (s.registered && s.enabled && (s.reg == reg)) ≡ true)
live_stays reg s r =
    let e = and_both (s.registered && s.enabled) (s.reg == reg) r in let o = (and_both s.registered s.enabled e.0).0 in (o, (rw (o, e.1) refl))

reading_stays : (job : Job) (s : UserState) (b : ℕ → ℕ → ℕ) (reg : ℕ) → Reader job s b reg → Reader job (record s { enabled = true }) b reg
reading_stays job s b reg r = record { registered = r.registered; enabled = refl; number = r.number; copied = r.copied }

module _ (job : Job) (past : List Item) (h h' : Here) (ack q : ℕ) (g : ControlEffect job h h' ack q) (begins : h.d ≤ begun past) where
  visit_goes : (m : Visit) (f : ℕ) → SeenVisit job h q m f → SeenVisit job h' q m f
  visit_goes m f x = g.user m.user (λ s. (((s.registered && is_matching s f) && s.enabled) ≡ true) × (s.since ≡ m.since))
      (λ s r. (let e = on_stays f s r.0 in (e.0, (e.1, r.1)))) x

  found_goes : (u reg f : ℕ) → Found job h q u reg f → Found job h' q u reg f
  found_goes u reg f x = g.user u (λ s. (((s.registered && is_matching s f) && s.enabled) ≡ true) × (s.reg ≡ reg))
      (λ s r. (let e = on_stays f s r.0 in (e.0, (e.1, r.1)))) x

  live_goes : (u reg : ℕ) → SeenLive job h q u reg → SeenLive job h' q u reg
  live_goes u reg x = g.user u (λ s. (s.registered && s.enabled && (s.reg == reg)) ≡ true) (live_stays reg) x

  own_goes : (c : OpenCall) (slot u reg : ℕ) → InOwn job h past q c slot u reg → InOwn job h' past q c slot u reg
  own_goes c slot u reg x = (
    x.0,
    g.user u (λ s. ((s.registered && is_matching s c.func) ≡ true) × (HasSlot s slot × (s.reg ≡ reg))) (λ s r. (sited_registered s c.func r.0, r)) x.1,
  )

  pid_goes : (u t : ℕ) → PidSeen job h q u t → PidSeen job h' q u t
  pid_goes u t x e = g.pids t true (x e)

  level_goes : (u level : ℕ) → LevelSeen job h q u level → LevelSeen job h' q u level
  level_goes u level x e = ((x e).0, g.depth (λ n. (n ≡ 0) ⊎ (level < n)) (x e).1)

  deep_goes : (level : ℕ) → DeepSeen job h q level → DeepSeen job h' q level
  deep_goes level (inl x) = inl x
  deep_goes level (inr x) = inr (g.depth (λ n. (0 < n) × (n ≤ level)) x)

  reason_goes : (c : OpenCall) (below : List OpenCall) (u : ℕ) (reason : Reason) → ReasonAt job h q c below u reason → ReasonAt job h' q c below u reason
  reason_goes c below u ByPid x = (x.0, g.pids c.call.task.0 false x.1)
  reason_goes c below u Recursion x = (pid_goes u c.call.task.0 x.0, x.1)
  reason_goes c below u ByDepth x = (pid_goes u c.call.task.0 x.0, x.1, x.2, deep_goes (level_of below) x.3)

  before_goes : (ran : Ran) (u : ℕ) (ms : List Visit) → BeforeVisit job h q ran u ms → BeforeVisit job h' q ran u ms
  before_goes ByList u ms x = (g.walks u x.0, subst (λ s. Each (λ m. s < m.since) ms) (sym (g.walked u x.0)) x.1)
  before_goes (Own w) u ms x = x
  before_goes Nop u ms x = x

  after_goes : (ran : Ran) (u : ℕ) (ms : List Visit) → AfterVisit job h q ran u ms → AfterVisit job h' q ran u ms
  after_goes ByList u ms x = (g.walks u x.0, subst (λ s. Each (λ m. s ≤ m.since) ms) (sym (g.walked u x.0)) x.1)
  after_goes (Own w) u ms x = x
  after_goes Nop u ms x = x

  at_goes : (c : OpenCall) (below : List OpenCall) (ms : List Visit) (m : Moment) → c.func < funcs job → DispatchAt job h past ack q c below ms m
      → DispatchAt job h' past ack q c below ms m
  at_goes c below ms Fetch inside x = x
  at_goes c below ms (GotHead byte) inside x = (x.0, g.fetch c.func (GotHead byte) inside x.1)
  at_goes c below ms GotBreak inside x = (x.0, g.fetch c.func GotBreak inside x.1)
  at_goes c below ms (InTramp slot) inside x = (x.0, (x.1.0, x.1.1, own_goes c slot x.1.0 x.1.1 x.1.2))
  at_goes c below ms (OwnSel v reg) inside x = (x.0, x.1, x.2, (x.3.0, own_goes c x.3.0 v reg x.3.1))
  at_goes c below ms AtFirst inside x = x
  at_goes c below ms (TestSel v) inside x = (x.0, before_goes c.ran v ms x.1, x.2)
  at_goes c below ms (TestFilter v copy reg) inside x = (
    x.0,
    before_goes c.ran v ms x.1,
    x.2,
    g.reads v copy (InFilter job reg) (λ b s r. (r.0.registered, (reading_stays job s b reg r.0, r.1))) x.3,
    x.4,
  )
  at_goes c below ms (TestNotrace v copy reg) inside x = (
    x.0,
    before_goes c.ran v ms x.1,
    x.2,
    g.reads v copy (InNotrace job reg c.func) (λ b s r. (r.0.registered, (reading_stays job s b reg r.0, r.1))) x.3,
    x.4,
  )
  at_goes c below ms (AtPids v reg) inside x = (x.0, before_goes c.ran v ms x.1, found_goes v reg c.func x.2, x.3)
  at_goes c below ms (AtDepth v reg) inside x = (x.0, before_goes c.ran v ms x.1, found_goes v reg c.func x.2, pid_goes v c.call.task.0 x.3, x.4, x.5)
  at_goes c below ms (Refusing v reg reason) inside x = (x.0, before_goes c.ran v ms x.1, found_goes v reg c.func x.2, reason_goes c below v reason x.3)
  at_goes c below ms (Calling v reg) inside x = (
    x.0,
    before_goes c.ran v ms x.1,
    found_goes v reg c.func x.2,
    pid_goes v c.call.task.0 x.3,
    x.4,
    level_goes v (level_of below) x.5,
  )
  at_goes c below ms (Missing v) inside x = (x.0, after_goes c.ran v ms x.1, x.2)
  at_goes c below ms (Acting v o) inside x = (x.0, after_goes c.ran v ms x.1, x.2)
  at_goes c below ms (Ending v) inside x = (x.0, after_goes c.ran v ms x.1)
  at_goes c below ms (AtLink v) inside x = (x.0, after_goes c.ran v ms x.1, x.2)
  at_goes c below ms Closing inside x = x
  at_goes c below ms _ inside x = x

  -- who is still to come, by the numbers of the list's new desk
  abbrev before : ℕ → ℕ
  before = since_of job (list_desk h.p h.d)

  abbrev after : ℕ → ℕ
  after = since_of job (list_desk h'.p h'.d)

  may_come_before_goes : (ran : Ran) (u v : ℕ) (ms : List Visit) → BeforeVisit job h q ran u ms → after v ≡ before v → may_come_before before ran u v ≡ true
      → may_come_before after ran u v ≡ true
  may_come_before_goes ByList u v ms x e t = subst (λ (z : ℕ × ℕ). nat_le z.0 z.1 ≡ true) (λ i. (sym e i, sym (g.walked u x.0) i)) t
  may_come_before_goes (Own w) u v ms x e t = t
  may_come_before_goes Nop u v ms x e t = t

  may_come_after_goes : (ran : Ran) (u v : ℕ) (ms : List Visit) → AfterVisit job h q ran u ms → after v ≡ before v → may_come_after before ran u v ≡ true
      → may_come_after after ran u v ≡ true
  may_come_after_goes ByList u v ms x e t = subst (λ (z : ℕ × ℕ). nat_lt z.0 z.1 ≡ true) (λ i. (sym e i, sym (g.walked u x.0) i)) t
  may_come_after_goes (Own w) u v ms x e t = t
  may_come_after_goes Nop u v ms x e t = t

  may_come_goes : (c : OpenCall) (below : List OpenCall) (ms : List Visit) (m : Moment) (v : ℕ) → DispatchAt job h past ack q c below ms m
      → after v ≡ before v → may_come before c.ran m v ≡ true → may_come after c.ran m v ≡ true
  may_come_goes c below ms (TestSel u) v x e t = may_come_before_goes c.ran u v ms x.1 e t
  may_come_goes c below ms (TestFilter u copy reg) v x e t = may_come_before_goes c.ran u v ms x.1 e t
  may_come_goes c below ms (TestNotrace u copy reg) v x e t = may_come_before_goes c.ran u v ms x.1 e t
  may_come_goes c below ms (AtPids u reg) v x e t = may_come_before_goes c.ran u v ms x.1 e t
  may_come_goes c below ms (AtDepth u reg) v x e t = may_come_before_goes c.ran u v ms x.1 e t
  may_come_goes c below ms (Refusing u reg reason) v x e t = may_come_before_goes c.ran u v ms x.1 e t
  may_come_goes c below ms (Calling u reg) v x e t = may_come_before_goes c.ran u v ms x.1 e t
  may_come_goes c below ms (Missing u) v x e t = may_come_after_goes c.ran u v ms x.1 e t
  may_come_goes c below ms (Acting u o) v x e t = may_come_after_goes c.ran u v ms x.1 e t
  may_come_goes c below ms (Ending u) v x e t = may_come_after_goes c.ran u v ms x.1 e t
  may_come_goes c below ms (AtLink u) v x e t = may_come_after_goes c.ran u v ms x.1 e t
  may_come_goes c below ms Closing v x e t = t
  may_come_goes c below ms _ v x e t = t

  watch_goes : (c : OpenCall) (below : List OpenCall) (m : Moment) (f : ℕ) → (entry_of c.call past).from ≤ h.d
      → DispatchAt job h past ack q c below (visits job c.call past) m
      → Watches job c.call f past (may_come before c.ran m) → Watches job c.call f past (may_come after c.ran m)
  watch_goes c below m f early x w v un = elim (w v un) [
    | inr off ↦ inr off
    | inl t ↦ elim (g.since v) [
      | inl e ↦ inl (may_come_goes c below (visits job c.call past) m v x e t)
      | inr off ↦ inr (h.d, early, begins, (rw off refl))
    ]
  ]

  dispatch_goes : (c : OpenCall) (below : List OpenCall) (m : Moment) → c.func < funcs job → Dispatches job h past ack q c below m
      → Dispatches job h' past ack q c below m
  dispatch_goes c below m inside x = record {
    from = x.from;
    caller = x.caller;
    early = (let a = x.early in let b = g.later in omega (arith, a, b));
    so = record {
      known = x.so.known;
      opened = x.so.opened;
      undone = x.so.undone;
      unexited = x.so.unexited;
      sinks = x.so.sinks;
      watch = watch_goes c below m c.func (rw x.so.known x.early) x.at x.so.watch;
      runs = x.so.runs;
      framed = x.so.framed;
      frame = x.so.frame;
      places = x.so.places;
      room = x.so.room;
    };
    on = Each-weaker (λ y. SeenVisit job h q y c.func) (λ y. SeenVisit job h' q y c.func) (visits job c.call past) (λ y s. visit_goes y c.func s) x.on;
    at = at_goes c below (visits job c.call past) m inside x.at;
  }

  leaves_goes : (c : OpenCall) (rest : List FrameUser) → Leaves job past h.d c rest → Leaves job past h'.d c rest
  leaves_goes c rest x = record { dispatched = x.dispatched; ms = x.ms; so = x.so; leave = (let a = x.leave in let b = g.later in omega (arith, a, b)) }

  call_goes : (c : OpenCall) (below : List OpenCall) (m : Moment) → c.func < funcs job → CallAt job h past ack q c below m → CallAt job h' past ack q c below m
  call_goes c below Polling inside x = x
  call_goes c below First inside x = x
  call_goes c below Leaving inside x = x
  call_goes c below (AtExit m rest) inside x = leaves_goes c (m ∷ rest) x
  call_goes c below (Exiting m rest) inside x = (leaves_goes c (m ∷ rest) x.0, live_goes m.user m.reg x.1)
  call_goes c below (EndingExit m rest) inside x = (leaves_goes c rest x.0, live_goes m.user m.reg x.1)
  call_goes c below Returning inside x = leaves_goes c [] x
  call_goes c below m inside x = dispatch_goes c below m inside x

  pub calls_goes : (t : ℕ) (m : Moment) (stack : List OpenCall) → Calls job h past ack q t m stack → Calls job h' past ack q t m stack
  calls_goes t m [] x = tt
  calls_goes t m (c ∷ below) x = (x.0, call_goes c below m x.0.inside x.1, calls_goes t (under_call c below) below x.2)

-- between acts no call has loaded anything
module _ (job : Job) (past : List Item) (h h' : Here) (ack q q' t : ℕ) where
  pub calls_quiet : (stack : List OpenCall) → Calls job h past ack q t First stack → Calls job h' past ack q' t First stack
  calls_quiet [] x = tt
  calls_quiet (c ∷ below) x = (
    x.0,
    x.1,
    subst (λ b. Calls job h' past ack q' t (under_by b (user_of below)) below) (sym x.1.1)
        (calls_quiet below (subst (λ b. Calls job h past ack q t (under_by b (user_of below)) below) x.1.1 x.2)),
  )

  pub calls_polling : (stack : List OpenCall) → Calls job h past ack q t Polling stack → Calls job h' past ack q' t Polling stack
  calls_polling [] x = tt
  calls_polling (c ∷ below) x = (
    x.0,
    x.1,
    subst (λ b. Calls job h' past ack q' t (under_by b (user_of below)) below) (sym x.1.1)
        (calls_quiet below (subst (λ b. Calls job h past ack q t (under_by b (user_of below)) below) x.1.1 x.2)),
  )

-- a task
pub task_goes : (job : Job) (past : List Item) (h h' : Here) (ack word t : ℕ) (x : TaskState) → h.d ≤ begun past → h.request ≤ h'.request
    → (quiet_reached (effect job h.d) h.p h.request t ≤ low word → quiet_reached (effect job h'.d) h'.p h'.request t ≤ low word)
    → (has_acts x.acts ≡ true → quiet_reached (effect job h.d) h.p h.request t ≤ low word → low word ≤ h.request → ControlEffect job h h' ack (low word))
    → TaskRule job h past ack word t x → TaskRule job h' past ack word t x
task_goes job past h h' ack word t x begins le reach goes k = record {
  word' = k.word';
  gone = k.gone;
  total = k.total;
  quiet = told-later h.request h'.request (has_acts x.acts) greatest_half (low word) le k.quiet;
  first = k.first;
  reached = reach k.reached;
  stands = k.stands;
  grounded = k.grounded;
  run = k.run;
  opens = k.opens;
  miss = k.miss;
  few = k.few;
  script = k.script;
  calls = by_moment x.moment k.stands k.calls;
}
  where
    by_moment : (m : Moment) → StandsIn (is_quiet m) x.acts x.stack → Calls job h past ack (low word) t m x.stack → Calls job h' past ack (low word) t m x.stack
    by_moment Polling s c = calls_polling job past h h' ack (low word) (low word) t x.stack c
    by_moment First s c = calls_quiet job past h h' ack (low word) (low word) t x.stack c
    by_moment m s c = calls_goes job past h h' ack (low word) (goes s.0 k.reached (told-more h.request _ greatest_half _ s.0 k.quiet)) begins t m x.stack c

-- a poll goes on over a request that is stored meanwhile
poll_more : (job : Job) (request request' c : ℕ) (me : Cpu) (ph : Phase) → request ≤ request' → PollAt job request c me ph → PollAt job request' c me ph
poll_more job request request' c me Going le x = ((let a = x.0 in omega (arith, a, le)), x.1)
poll_more job request request' c me Looked le x = ((let a = x.0 in omega (arith, a, le)), x.1)
poll_more job request request' c me (Answering r) le x = ((let a = x.0 in omega (arith, a, le)), x.1, x.2, x.3)
poll_more job request request' c me (StoringAck r) le x = ((let a = x.0 in omega (arith, a, le)), x.1, x.2, x.3)
poll_more job request request' c me (StoringQuiet r t) le x = ((let a = x.0 in omega (arith, a, le)), x.1, x.2, x.3, x.4)
poll_more job request request' c me Over le x = x

-- a CPU
pub cpu_goes : (job : Job) (past : List Item) (h h' : Here) (ack : ℕ) (quiet : ℕ → ℕ) (c : ℕ) (me : Cpu) → h.d ≤ begun past → h.request ≤ h'.request
    → (reached h.base h.p c ≤ ack → reached h'.base h'.p c ≤ ack)
    → ((t : ℕ) → t < length job.tasks → quiet_reached (effect job h.d) h.p h.request t ≤ low (quiet t) → quiet_reached (effect job h'.d) h'.p h'.request t
    ≤ low (quiet t))
    → ((t : ℕ) → t < length job.tasks → reached h.base h.p c ≤ ack → ack ≤ h.request → quiet_reached (effect job h.d) h.p h.request t ≤ low (quiet t)
    → low (quiet t) ≤ h.request → ControlEffect job h h' ack (low (quiet t)))
    → CpuRule job h past ack quiet c me → CpuRule job h' past ack quiet c me
cpu_goes job past h h' ack quiet c me begins le reach quiets goes k = record {
  number = k.number;
  stored = k.stored;
  acked = told-later h.request h'.request (any_has_more job me) all_ones ack le k.acked;
  reach = reach k.reach;
  polls = poll_more job h.request h'.request c me me.phase le k.polls;
  present = k.present;
  alone = k.alone;
  tasks = λ t on. task_goes job past h h' ack (quiet t) t (me.tasks t) begins le (quiets t on.0)
      (λ more r small. goes t on.0 k.reach (told-more h.request _ all_ones _ (task_goes_on job c t me k.number on more) k.acked) r small) (k.tasks t on);
}
