-- A task and a CPU over items that are not of the task.
use Rattle.std.proofs.Common.{◌≡◌, ℕ, ◌≤◌, false, List, [], ◌∷◌, length, sym, ◌∙◌, subst, arith}
use Rattle.std.specs.List.{AllByRecursion as Each}
use Rattle.ft_base.specs.declared.number.CallNo.{CallNo}
use Rattle.ft_base.specs.declared.item.Item.{Item}
use Rattle.ft_base.specs.Job.{Job}
use Rattle.ft_hist.specs.Past.{is_of, begun, visits, Visit}
use Rattle.ft_hist.specs.Rules.{InWindow}
use Rattle.ft_hist.specs.Frames.{FrameUser}
use Rattle.ft_hist.proofs.Since.{Untouched, holds-untouched, entry-untouched}
use Rattle.ft_hist.proofs.Exits.{exits-untouched}
use Rattle.ft_hist.proofs.CallSo.{so-untouched}
use Rattle.word_machine.specs.Task.{OpenCall, TaskState, Moment, Polling, First, Fetch, GotHead, GotBreak, InTramp, OwnSel, AtFirst, TestSel, TestFilter, TestNotrace, AtPids, AtDepth, Refusing, Calling, Missing, Acting, Ending, AtLink, Closing, Leaving, AtExit, Exiting, EndingExit, Returning, is_quiet}
use Rattle.word_machine.specs.Verdicts.{Here, DispatchAt, Dispatches}
use Rattle.word_machine.specs.Calls.{BodyRuns, Leaves, Opened, CallAt, Calls, under_call}
use Rattle.word_machine.specs.Tasks.{TaskRule, acts_by, gone_by}
use Rattle.word_machine.specs.Rule.{CpuRule}
use Rattle.word_machine.specs.Cpu.{Cpu}
use Rattle.ft_hist.proofs.Carries.{Carries, carries_item}

module _ (job : Job) (h : Here) (past past' : List Item) (le : begun past ≤ begun past') (long : length past ≤ length past') where
  pub window_carried : (call : CallNo) (P : ℕ → Type 0) → Untouched job call past past' → InWindow call past P → InWindow call past' P
  window_carried call P u w = (w.0, rw (entry-untouched job call past past' u) w.1, (let b = w.2 in omega (arith, b, le)), w.3)

  pub at_carried : (ack q : ℕ) (c : OpenCall) (below : List OpenCall) (ms : List Visit) (m : Moment) → Untouched job c.call past past'
      → DispatchAt job h past ack q c below ms m → DispatchAt job h past' ack q c below ms m
  at_carried ack q c below ms Fetch u x = x
  at_carried ack q c below ms (GotHead byte) u x = x
  at_carried ack q c below ms GotBreak u x = x
  at_carried ack q c below ms (InTramp slot) u x = (x.0, (x.1.0, x.1.1, (window_carried c.call _ u x.1.2.0, x.1.2.1)))
  at_carried ack q c below ms (OwnSel v reg) u x = (x.0, window_carried c.call _ u x.1, x.2, (x.3.0, (window_carried c.call _ u x.3.1.0, x.3.1.1)))
  at_carried ack q c below ms AtFirst u x = (x.0, window_carried c.call _ u x.1, x.2)
  at_carried ack q c below ms (TestSel v) u x = (window_carried c.call _ u x.0, x.1, x.2)
  at_carried ack q c below ms (TestFilter v copy reg) u x = (window_carried c.call _ u x.0, x.1, x.2, x.3, x.4)
  at_carried ack q c below ms (TestNotrace v copy reg) u x = (window_carried c.call _ u x.0, x.1, x.2, x.3, x.4)
  at_carried ack q c below ms (AtPids v reg) u x = (window_carried c.call _ u x.0, x.1, x.2, x.3)
  at_carried ack q c below ms (AtDepth v reg) u x = (window_carried c.call _ u x.0, x.1, x.2, x.3, x.4, x.5)
  at_carried ack q c below ms (Refusing v reg reason) u x = (window_carried c.call _ u x.0, x.1, x.2, x.3)
  at_carried ack q c below ms (Calling v reg) u x = (window_carried c.call _ u x.0, x.1, x.2, x.3, x.4, x.5)
  at_carried ack q c below ms (Missing v) u x = (window_carried c.call _ u x.0, x.1, x.2)
  at_carried ack q c below ms (Acting v o) u x = (window_carried c.call _ u x.0, x.1, x.2)
  at_carried ack q c below ms (Ending v) u x = (window_carried c.call _ u x.0, x.1)
  at_carried ack q c below ms (AtLink v) u x = (window_carried c.call _ u x.0, x.1, x.2)
  at_carried ack q c below ms Closing u x = (window_carried c.call _ u x.0, x.1)
  at_carried ack q c below ms _ u x = x

  pub dispatch_carried : (ack q : ℕ) (c : OpenCall) (below : List OpenCall) (m : Moment) → Untouched job c.call past past'
      → Dispatches job h past ack q c below m → Dispatches job h past' ack q c below m
  dispatch_carried ack q c below m u x = record {
    from = x.from;
    caller = x.caller;
    early = x.early;
    so = so-untouched job _ c.call _ _ _ past past' u le long x.so;
    on = rw u.visits x.on;
    at = subst (λ (ms : List Visit). DispatchAt job h past' ack q c below ms m) (sym u.visits) (at_carried ack q c below (visits job c.call past) m u x.at);
  }

  pub body_carried : (c : OpenCall) → Untouched job c.call past past' → BodyRuns job past c → BodyRuns job past' c
  body_carried c u x = record { dispatched = u.dispatched ∙ x.dispatched; exits = u.exits ∙ x.exits; frame = rw u.visits x.frame }

  pub leaves_carried : (d : ℕ) (c : OpenCall) (rest : List FrameUser) → Untouched job c.call past past' → Leaves job past d c rest → Leaves job past' d c rest
  leaves_carried d c rest u x = record {
    dispatched = u.dispatched ∙ x.dispatched;
    ms = x.ms;
    so = exits-untouched job c.call x.ms rest past past' u le x.so;
    leave = rw u.left x.leave;
  }

  pub call_carried : (ack q : ℕ) (c : OpenCall) (below : List OpenCall) (m : Moment) → Untouched job c.call past past'
      → CallAt job h past ack q c below m → CallAt job h past' ack q c below m
  call_carried ack q c below Polling u x = (body_carried c u x.0, x.1)
  call_carried ack q c below First u x = (body_carried c u x.0, x.1)
  call_carried ack q c below Leaving u x = (body_carried c u x.0, x.1)
  call_carried ack q c below (AtExit m rest) u x = leaves_carried h.d c (m ∷ rest) u x
  call_carried ack q c below (Exiting m rest) u x = (leaves_carried h.d c (m ∷ rest) u x.0, x.1)
  call_carried ack q c below (EndingExit m rest) u x = (leaves_carried h.d c rest u x.0, x.1)
  call_carried ack q c below Returning u x = leaves_carried h.d c [] u x
  call_carried ack q c below m u x = dispatch_carried ack q c below m u x

  pub opened_carried : (t : ℕ) (c : OpenCall) → Untouched job c.call past past' → Opened job past t c → Opened job past' t c
  opened_carried t c u x = record {
    task = x.task;
    inside = x.inside;
    opened = u.open' ∙ x.opened;
    context = rw u.entered x.context;
    holds = holds-untouched job c.call past past' u ∙ x.holds;
  }

  -- no call of a stack is touched
  abbrev pub AllUntouched : List OpenCall → Type 0
  AllUntouched stack = Each (λ c. Untouched job c.call past past') stack

  pub calls_carried : (ack q t : ℕ) (m : Moment) (stack : List OpenCall) → AllUntouched stack → Calls job h past ack q t m stack
      → Calls job h past' ack q t m stack
  calls_carried ack q t m [] u x = tt
  calls_carried ack q t m (c ∷ below) u x = (
    opened_carried t c u.0 x.0,
    call_carried ack q c below m u.0 x.1,
    calls_carried ack q t (under_call c below) below u.1 x.2,
  )

  pub all_untouched : (ack q t : ℕ) (m : Moment) (stack : List OpenCall) → ((c : CallNo) → c.task.0 ≡ t → Untouched job c past past')
      → Calls job h past ack q t m stack → AllUntouched stack
  all_untouched ack q t m [] u x = tt
  all_untouched ack q t m (c ∷ below) u x = (u c.call x.0.task, all_untouched ack q t (under_call c below) below u x.2)

-- a task over items that leave its calls alone
pub task_carried : (job : Job) (h : Here) (past past' : List Item) (ack word t : ℕ) (x : TaskState) → Carries job t past past'
    → TaskRule job h past ack word t x → TaskRule job h past' ack word t x
task_carried job h past past' ack word t x c k = record {
  word' = k.word';
  gone = k.gone;
  total = k.total;
  quiet = k.quiet;
  first = k.first;
  reached = k.reached;
  stands = k.stands;
  grounded = k.grounded;
  run = record {
    fresh = k.run.fresh;
    at = k.run.at;
    is = c.run ∙ k.run.is;
    next = k.run.next;
    stack = k.run.stack;
    ahead = c.ahead k.run.at.acts (acts_by (is_quiet x.moment) x.acts) k.run.at.contexts x.contexts k.run.at.gone
        (gone_by (is_quiet x.moment) x.gone) k.run.ahead;
    counted = k.run.counted;
  };
  opens = c.opens ∙ k.opens;
  miss = c.miss ∙ k.miss;
  few = k.few;
  script = k.script;
  calls = calls_carried job h past past' c.begun c.longer ack _ t x.moment x.stack
      (all_untouched job h past past' c.begun c.longer ack _ t x.moment x.stack c.calls k.calls) k.calls;
}

-- a CPU over an item of no task
pub cpu_carried : (job : Job) (h : Here) (past : List Item) (item : Item) → ((t : ℕ) → is_of t item ≡ false) → (ack : ℕ) (quiet : ℕ → ℕ) (c : ℕ) (me : Cpu)
    → CpuRule job h past ack quiet c me → CpuRule job h (item ∷ past) ack quiet c me
cpu_carried job h past item none ack quiet c me k = record {
  number = k.number;
  stored = k.stored;
  acked = k.acked;
  reach = k.reach;
  polls = k.polls;
  present = k.present;
  alone = k.alone;
  tasks = λ t on. task_carried job h past (item ∷ past) ack (quiet t) t (me.tasks t) (carries_item job t item past (none t)) (k.tasks t on);
}
