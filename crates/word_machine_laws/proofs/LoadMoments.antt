-- A load in a dispatch or in a return, whatever was loaded: what goes on, and that each choice of a next moment stays within.
use Rattle.std.proofs.Common.{◌≡◌, ℕ, Bool, true, false, List, ◌∷◌, None, refl, sym, ap, ◌∙◌, subst, suc, [], zero}
use Rattle.ft_base.specs.declared.number.CallNo.{CallNo}
use Rattle.ft_base.specs.declared.context.Ctx.{Ctx}
use Rattle.ft_base.specs.declared.item.Ran.{Ran}
use Rattle.ft_base.specs.declared.item.Item.{Item}
use Rattle.ft_base.specs.declared.task.TaskAct.{TaskAct}
use Rattle.ft_base.specs.Job.{Job}
use Rattle.ft_base.specs.WellFormed.{IsScript}
use Rattle.ft_base.proofs.Small.{false_true}
use Rattle.ft_hist.specs.Past.{Entered, Callback, done, visits, entry_of}
use Rattle.ft_hist.specs.Plain.{Phase, Dispatch, Leaving as InReturn, ahead}
use Rattle.ft_hist.specs.Known.{Watches}
use Rattle.ft_hist.specs.Dispatch.{Walk, Around, is_full, CallSo}
use Rattle.ft_hist.proofs.CallSo.{entry-is}
use Rattle.word_map.specs.Contents.{low}
use Rattle.word_machine.specs.Task.{OpenCall, Moment, Polling, First, Missing, Acting, Ending, Leaving, AtExit, Exiting, EndingExit, Returning, around, is_quiet, allowed_in, begin_call, depth_in, fetched, guard_in, head_in, own_in, owned_in, passes_in, tests_in, walks_to, pid_in, exit_in, guard_test}
use Rattle.word_machine.specs.UserList.{since_of, list_desk}
use Rattle.word_machine.specs.Verdicts.{Here, DispatchAt, Dispatches, walk_of, may_come}
use Rattle.word_machine.specs.Calls.{CallAt, under_call}
use Rattle.word_machine.specs.Tasks.{TaskRule, StandsIn, plain_phase, plain_stack, frame_of, callback_at, miss_at, is_returning, acts_by, gone_by, open_by}
use Rattle.ft_hist.specs.Frames.{FrameUser}
use Rattle.ft_base.specs.Kinds.{has_depth}
use Rattle.ft_base.specs.Desk.{spec_at}
use Rattle.ft_base.specs.Tasks.{has_acts}
use Rattle.word_machine_laws.proofs.MarkDispatch.{task}
use Rattle.word_machine_laws.proofs.PollWords.{first-loud}

-- two moments of a call that the history does not tell apart
pub record Alike (m m' : Moment) : Type 0 where
  pub phase : (job : Job) (fresh : Bool) (c : OpenCall) → plain_phase job fresh c m ≡ plain_phase job fresh c m'
  pub quiet : is_quiet m ≡ false
  pub quiet' : is_quiet m' ≡ false
  pub opens : (c : OpenCall) (rest : List Callback) → callback_at c m rest ≡ callback_at c m' rest
  pub miss : (stack stack' : List OpenCall) → miss_at m stack ≡ miss_at m' stack'
  pub returns : is_returning m ≡ is_returning m'

-- in a dispatch, outside of a callback
abbrev pub is_walking : Moment → Bool
is_walking Polling = false
is_walking First = false
is_walking (Missing u) = false
is_walking (Acting u o) = false
is_walking (Ending u) = false
is_walking Leaving = false
is_walking (AtExit m rest) = false
is_walking (Exiting m rest) = false
is_walking (EndingExit m rest) = false
is_walking Returning = false
is_walking _ = true

-- in a return, outside of a callback
abbrev pub is_leaving : Moment → Bool
is_leaving (AtExit m rest) = true
is_leaving (Exiting m rest) = true
is_leaving Returning = true
is_leaving _ = false

record Inside (m : Moment) : Type 0 where
  pub phase : (job : Job) (fresh : Bool) (c : OpenCall) → plain_phase job fresh c m ≡ Dispatch
  pub quiet : is_quiet m ≡ false
  pub opens : (c : OpenCall) (rest : List Callback) → callback_at c m rest ≡ rest
  pub miss : (stack : List OpenCall) → miss_at m stack ≡ None
  pub returns : is_returning m ≡ false

inside : (m : Moment) → is_walking m ≡ true → Inside m
inside Polling e = false_true e
inside First e = false_true e
inside (Missing u) e = false_true e
inside (Acting u o) e = false_true e
inside (Ending u) e = false_true e
inside Leaving e = false_true e
inside (AtExit m rest) e = false_true e
inside (Exiting m rest) e = false_true e
inside (EndingExit m rest) e = false_true e
inside Returning e = false_true e
inside _ e = record { phase = λ job fresh c. refl; quiet = refl; opens = λ c rest. refl; miss = λ stack. refl; returns = refl }

pub alike : (m m' : Moment) → is_walking m ≡ true → is_walking m' ≡ true → Alike m m'
alike m m' e e' =
    let a = inside m e in let b = inside m' e' in
    record {
      phase = λ job fresh c. a.phase job fresh c ∙ sym (b.phase job fresh c);
      quiet = a.quiet;
      quiet' = b.quiet;
      opens = λ c rest. a.opens c rest ∙ sym (b.opens c rest);
      miss = λ stack stack'. a.miss stack ∙ sym (b.miss stack');
      returns = a.returns ∙ sym b.returns;
    }

record Back (m : Moment) : Type 0 where
  pub phase : (job : Job) (fresh : Bool) (c : OpenCall) → plain_phase job fresh c m ≡ InReturn
  pub quiet : is_quiet m ≡ false
  pub opens : (c : OpenCall) (rest : List Callback) → callback_at c m rest ≡ rest
  pub miss : (stack : List OpenCall) → miss_at m stack ≡ None
  pub returns : is_returning m ≡ true

back : (m : Moment) → is_leaving m ≡ true → Back m
back (AtExit m rest) e = record { phase = λ job fresh c. refl; quiet = refl; opens = λ c rest. refl; miss = λ stack. refl; returns = refl }
back (Exiting m rest) e = record { phase = λ job fresh c. refl; quiet = refl; opens = λ c rest. refl; miss = λ stack. refl; returns = refl }
back Returning e = record { phase = λ job fresh c. refl; quiet = refl; opens = λ c rest. refl; miss = λ stack. refl; returns = refl }
back _ e = false_true e

pub alike-back : (m m' : Moment) → is_leaving m ≡ true → is_leaving m' ≡ true → Alike m m'
alike-back m m' e e' =
    let a = back m e in let b = back m' e' in
    record {
      phase = λ job fresh c. a.phase job fresh c ∙ sym (b.phase job fresh c);
      quiet = a.quiet;
      quiet' = b.quiet;
      opens = λ c rest. a.opens c rest ∙ sym (b.opens c rest);
      miss = λ stack stack'. a.miss stack ∙ sym (b.miss stack');
      returns = a.returns ∙ sym b.returns;
    }

-- a dispatch is a call's fact at each moment of it
pub call_at : (job : Job) (h : Here) (past : List Item) (ack q : ℕ) (c : OpenCall) (below : List OpenCall) (m : Moment) → is_walking m ≡ true
    → Dispatches job h past ack q c below m → CallAt job h past ack q c below m
call_at job h past ack q c below Polling e x = false_true e
call_at job h past ack q c below First e x = false_true e
call_at job h past ack q c below Leaving e x = false_true e
call_at job h past ack q c below (AtExit m rest) e x = false_true e
call_at job h past ack q c below (Exiting m rest) e x = false_true e
call_at job h past ack q c below (EndingExit m rest) e x = false_true e
call_at job h past ack q c below Returning e x = false_true e
call_at job h past ack q c below _ e x = x

abbrev pub running : OpenCall → Ran → OpenCall
running c r = record c { ran = r }

module _ (job : Job) (h : Here) (past : List Item) (ack word t : ℕ) (next : ℕ) (acts : List TaskAct) (gone : ℕ) (contexts : List Ctx) (c : OpenCall)
    (below : List OpenCall) (own : ℕ) where
  -- the task is at another moment that the history does not tell apart
  pub task_goes : (m m' : Moment) (r : Ran) → Alike m m' → CallAt job h past ack (low word) (running c r) below m'
      → TaskRule job h past ack word t (task next gone acts contexts (c ∷ below) own m)
      → TaskRule job h past ack word t (task next gone acts contexts (running c r ∷ below) own m')
  task_goes m m' r a at' k = record {
    word' = k.word';
    gone = k.gone;
    total = k.total;
    quiet = k.quiet;
    first = first-loud m' acts a.quiet';
    reached = k.reached;
    stands = subst (λ b. StandsIn b acts (running c r ∷ below)) (sym a.quiet') (has, refl);
    grounded = k.grounded;
    run = record {
      fresh = k.run.fresh;
      at = k.run.at;
      is = k.run.is;
      next = k.run.next;
      stack = k.run.stack ∙ ap (λ (ph : Phase). frame_of c ph ∷ plain_stack job false (under_call c below) below) (phases k.run.fresh);
      ahead = subst (λ b. ahead (done past) k.run.at.acts k.run.at.contexts k.run.at.gone
          ≡ ahead (done past) (acts_by b acts) contexts (gone_by b gone)) quiets k.run.ahead;
      counted = λ q. k.run.counted a.quiet;
    };
    opens = k.opens ∙ a.opens c _;
    miss = k.miss ∙ a.miss (c ∷ below) (running c r ∷ below);
    few = k.few;
    script = subst (λ (b : Bool × Bool). IsScript job (open_by b.0 (running c r ∷ below)) (acts_by b.1 acts)) (λ i. (a.returns i, quiets i)) k.script;
    calls = (
      record { task = k.calls.0.task; inside = k.calls.0.inside; opened = k.calls.0.opened; context = k.calls.0.context; holds = k.calls.0.holds },
      at',
      k.calls.2,
    );
  }
    where
      quiets : is_quiet m ≡ is_quiet m'
      quiets = a.quiet ∙ sym a.quiet'

      has : has_acts acts ≡ true
      has = (subst (λ b. StandsIn b acts (c ∷ below)) a.quiet k.stands).0

      phases : (fresh : Bool) → plain_phase job fresh c m ≡ plain_phase job fresh c m'
      phases fresh = a.phase job fresh c

-- who is to come changes, and nothing else of what the history tells
pub so-watch : (job : Job) (a : Around) (call : CallNo) (e : Entered) (w : Walk) (todo todo' : ℕ → Bool) (past : List Item)
    → Watches job call e.func past todo' → CallSo job a call e w todo past → CallSo job a call e w todo' past
so-watch job a call e w todo todo' past watch s = record {
  known = s.known;
  opened = s.opened;
  undone = s.undone;
  unexited = s.unexited;
  sinks = s.sinks;
  watch = watch;
  runs = s.runs;
  framed = s.framed;
  frame = s.frame;
  places = s.places;
  room = s.room;
}

module _ (job : Job) (h : Here) (past : List Item) (ack q : ℕ) (c : OpenCall) (below : List OpenCall) where
  -- who is to come at a moment
  abbrev pub WatchAt : Ran → Moment → Type 0
  WatchAt r m = Watches job c.call c.func past (may_come (since_of job (list_desk h.p h.d)) r m)

  pub dispatch_goes : (m m' : Moment) (r : Ran) → Dispatches job h past ack q c below m → WatchAt r m'
      → DispatchAt job h past ack q (running c r) below (visits job c.call past) m' → Dispatches job h past ack q (running c r) below m'
  dispatch_goes m m' r x watch at' = record {
    from = x.from;
    caller = x.caller;
    early = x.early;
    so = so-watch job (around c below) c.call _ (walk_of c) _ _ past watch x.so;
    on = x.on;
    at = at';
  }

  -- a fact at a command of the call's window
  pub entry-from : (m : Moment) (x : Dispatches job h past ack q c below m) → (entry_of c.call past).from ≡ x.from
  entry-from m x = ap (λ (e : Entered). e.from) (entry-is job (around c below) c.call _ past x.so.known)

-- ## the moments that a load leads to are in the dispatch

pub guard-walks : (b e : Bool) (u reg : ℕ) → is_walking (guard_in b e u reg) ≡ true
guard-walks true e u reg = refl
guard-walks false true u reg = refl
guard-walks false false u reg = refl

pub begin-walks : (job : Job) (c : OpenCall) (below : List OpenCall) (u reg : ℕ) → is_walking (begin_call job c below u reg) ≡ true
begin-walks job c below u reg = by (spec_at job u).pid
  where
    by : (b : Bool) → is_walking (pid_in b u reg (guard_test job c below u reg)) ≡ true
    by true = refl
    by false = guard-walks (is_full job (around c below).guards c.ctx) (has_depth (spec_at job u).kind) u reg

pub head-walks : (b : Bool) (byte : ℕ) → is_walking (head_in b byte) ≡ true
head-walks true byte = refl
head-walks false byte = refl

pub fetched-walks : (i : ℕ) → is_walking (fetched i) ≡ true
fetched-walks zero = refl
fetched-walks (suc zero) = refl
fetched-walks (suc (suc s)) = refl

pub owned-walks : (b : Bool) (u reg : ℕ) (m : Moment) → is_walking m ≡ true → is_walking (owned_in b u reg m) ≡ true
owned-walks true u reg m e = refl
owned-walks false u reg m e = e

pub own-walks : (b : Bool) (m : Moment) → is_walking m ≡ true → is_walking (own_in b m) ≡ true
own-walks true m e = e
own-walks false m e = refl

pub name-walks : (v : ℕ) → is_walking (walks_to v) ≡ true
name-walks zero = refl
name-walks (suc u) = refl

pub tests-walk : (b e : Bool) (u v : ℕ) → is_walking (tests_in b e u v) ≡ true
tests-walk false e u v = refl
tests-walk true true u v = refl
tests-walk true false u v = refl

pub passes-walk : (b : Bool) (u : ℕ) (m : Moment) → is_walking m ≡ true → is_walking (passes_in b u m) ≡ true
passes-walk true u m e = e
passes-walk false u m e = refl

pub allowed-walks : (b : Bool) (u reg : ℕ) (m : Moment) → is_walking m ≡ true → is_walking (allowed_in b u reg m) ≡ true
allowed-walks true u reg m e = e
allowed-walks false u reg m e = refl

pub depth-walks : (b : Bool) (u reg : ℕ) → is_walking (depth_in b u reg) ≡ true
depth-walks true u reg = refl
depth-walks false u reg = refl

pub exit-leaves : (b : Bool) (m : FrameUser) (rest : List FrameUser) → is_leaving (exit_in b m rest) ≡ true
exit-leaves true m rest = refl
exit-leaves false m [] = refl
exit-leaves false m (m' ∷ rest) = refl
