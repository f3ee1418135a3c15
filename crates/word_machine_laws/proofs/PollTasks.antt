-- What a task knows while its CPU's word or its own word changes.
use Rattle.std.proofs.Common.{◌≡◌, ℕ, Bool, true, false, List, [], ◌∷◌, refl, sym}
use Rattle.ft_base.specs.declared.item.Item.{Item}
use Rattle.ft_base.specs.Job.{Job}
use Rattle.ft_base.proofs.Small.{false_true}
use Rattle.word_map.specs.Contents.{low}
use Rattle.word_machine.specs.Task.{OpenCall, TaskState, Moment, Polling, First, GotHead, GotBreak, Leaving, AtExit, Exiting, EndingExit, Returning, is_quiet, is_fetching, user_of}
use Rattle.word_machine.specs.Verdicts.{Here, DispatchAt}
use Rattle.word_machine.specs.Calls.{Calls, CallAt, under_call, under_by}
use Rattle.word_machine.specs.Tasks.{TaskRule}
use Rattle.word_machine_laws.proofs.ControlEffects.{calls_quiet, calls_polling}

-- ## which task runs

-- ## what a task knows while the CPU's word or its own changes

module _ (job : Job) (h : Here) where
  -- outside a fetch the CPU's word does not matter
  dispatch_ack : (past : List Item) (ack ack' q : ℕ) (c : OpenCall) (below : List OpenCall) (ms : List _) (m : Moment) → is_fetching m ≡ false
      → DispatchAt job h past ack q c below ms m → DispatchAt job h past ack' q c below ms m
  dispatch_ack past ack ack' q c below ms (GotHead byte) e x = false_true (sym e)
  dispatch_ack past ack ack' q c below ms GotBreak e x = false_true (sym e)
  dispatch_ack past ack ack' q c below ms _ e x = x

  call_ack : (past : List Item) (ack ack' q : ℕ) (c : OpenCall) (below : List OpenCall) (m : Moment) → is_fetching m ≡ false
      → CallAt job h past ack q c below m → CallAt job h past ack' q c below m
  call_ack past ack ack' q c below Polling e x = x
  call_ack past ack ack' q c below First e x = x
  call_ack past ack ack' q c below Leaving e x = x
  call_ack past ack ack' q c below (AtExit m rest) e x = x
  call_ack past ack ack' q c below (Exiting m rest) e x = x
  call_ack past ack ack' q c below (EndingExit m rest) e x = x
  call_ack past ack ack' q c below Returning e x = x
  call_ack past ack ack' q c below m e x = record {
    from = x.from;
    caller = x.caller;
    early = x.early;
    so = x.so;
    on = x.on;
    at = dispatch_ack past ack ack' q c below _ m e x.at;
  }

  under-fetching : (c : OpenCall) (below : List OpenCall) → is_fetching (under_call c below) ≡ false
  under-fetching c below = by c.scripted
    where
      by : (b : Bool) → is_fetching (under_by b (user_of below)) ≡ false
      by true = refl
      by false = refl

  calls_ack : (past : List Item) (ack ack' q t : ℕ) (m : Moment) (stack : List OpenCall) → is_fetching m ≡ false → Calls job h past ack q t m stack
      → Calls job h past ack' q t m stack
  calls_ack past ack ack' q t m [] e x = tt
  calls_ack past ack ack' q t m (c ∷ below) e x = (
    x.0,
    call_ack past ack ack' q c below m e x.1,
    calls_ack past ack ack' q t (under_call c below) below (under-fetching c below) x.2,
  )

  pub task_ack : (past : List Item) (ack ack' word t : ℕ) (x : TaskState) → is_fetching x.moment ≡ false → TaskRule job h past ack word t x
      → TaskRule job h past ack' word t x
  task_ack past ack ack' word t x e k = record {
    word' = k.word';
    gone = k.gone;
    total = k.total;
    quiet = k.quiet;
    first = k.first;
    reached = k.reached;
    stands = k.stands;
    grounded = k.grounded;
    run = k.run;
    opens = k.opens;
    miss = k.miss;
    few = k.few;
    script = k.script;
    calls = calls_ack past ack ack' (low word) t x.moment x.stack e k.calls;
  }

  -- a quiet task has loaded nothing
  pub quiet_calls : (past : List Item) (ack q q' t : ℕ) (m : Moment) (stack : List OpenCall) → is_quiet m ≡ true → Calls job h past ack q t m stack
      → Calls job h past ack q' t m stack
  quiet_calls past ack q q' t Polling stack e x = calls_polling job past h h ack q q' t stack x
  quiet_calls past ack q q' t First stack e x = calls_quiet job past h h ack q q' t stack x
  quiet_calls past ack q q' t _ stack e x = false_true e
