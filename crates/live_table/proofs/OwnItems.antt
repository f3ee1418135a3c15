-- Whose items an actor marks, whatever values it takes: a CPU those of its own tasks, and control none of any task.
use Rattle.std.proofs.Common.{cond, ◌≡◌, ℕ, suc, Bool, true, false, List, [], ◌∷◌, ◌++◌, Option, Some, None, nat_lt, nat_le, refl, sym, ◌∙◌, subst, filter}
use Rattle.std.specs.Prelude.{not, ◌||◌, ◌==◌, get_or, length}
use Rattle.std.proofs.lemmas.Option.{same_Some}
use Rattle.std.specs.List.{list_any, AllByRecursion as Each}
use Rattle.ft_base.specs.declared.item.Item.{Item}
use Rattle.ft_base.specs.declared.number.CallNo.{CallNo}
use Rattle.ft_base.specs.declared.item.Stamped.{Stamped}
use Rattle.ft_base.specs.declared.item.Item.TheVariants.{Begin, Return}
use Rattle.ft_base.specs.Items.{call_of}
use Rattle.ft_base.specs.declared.task.TaskAct.{TaskAct}
use Rattle.ft_base.specs.declared.task.TaskAct.TheVariants.{Call, Ret as RetAct, Raise, Lower, After}
use Rattle.ft_base.specs.Job.{Job, Ctl, Run, Until}
use Rattle.ft_base.specs.Tasks.{has_acts, tasks_of}
use Rattle.ft_base.proofs.Small.{Each-filter}
use Rattle.ft_hist.specs.Frames.{is_nil}
use Rattle.ft_hist.specs.Dispatch.{call_of as call_at}
use Rattle.word_map.specs.Contents.{returned_at}
use Rattle.word_map.specs.Ops.{WordOp, Load, Store, Mark}
use Rattle.word_map.specs.Words.{Want, at_put}
use Rattle.word_machine.specs.Task.{OpenCall, TaskState, Moment, Polling, First, GotHead, GotBreak, InTramp, Refusing, Calling, Missing, Acting, Ending, Closing, Leaving, Exiting, EndingExit, Returning, begun_act, call_got, call_op, finished, first_got, first_op, is_fetching, stack_got, stack_op, task_got, task_op, task_start, user_of}
use Rattle.word_machine.specs.Commands.{effect, command}
use Rattle.word_machine.specs.Control.{Control, Position, Line, Relink, Close, answer_in, control_got, control_next, control_start, line_op, next_in}
use Rattle.word_machine.specs.Cpu.{Cpu, Phase, Going, Looked, Answering, StoringAck, StoringQuiet, Over, ack_value, any_has_more, cpu_got, cpu_next, cpu_start, first_of, going_got, going_op, has_more, is_unmet, looked, looks, moved, next_task, phase_got, phase_op, poll_on, polled, polling, present_got, present_op, quiet_in, quiet_next, switched, ticked, with_word}
use Rattle.word_machine.specs.Limits.{IsLimited}
use Rattle.word_machine.specs.Rule.{IsOn}
use Rattle.word_machine.proofs.Small.{if_case, put_case, each-append}
use Rattle.word_machine_laws.proofs.Limited.{limited as word-job}
use Rattle.word_machine_laws.proofs.Start.{on-tasks}
use Rattle.word_machine_laws.proofs.TasksOf.{first-there}
use Rattle.word_machine_laws.proofs.Marked.{relink-marks}
use Rattle.control_core.specs.Steps.{marks_in as control_marks_in}
use Rattle.cpu_core.specs.CpuSteps.{marks_in}
use Rattle.ft_machine.specs.Fed.{control_items, control_marks, cpu_items, cpu_marks}

-- each of these calls is of task t
abbrev AreOf : ℕ → List OpenCall → Type 0
AreOf t stack = Each (λ (o : OpenCall). o.call.task.0 ≡ t) stack

-- an item is of a call of task t
abbrev pub OfTask : ℕ → Item → Type 0
OfTask t item = (call : CallNo) × (call_of item ≡ Some call) × (call.task.0 ≡ t)

-- an item is of a call of a task of CPU c
abbrev pub OfCpu : Job → ℕ → Item → Type 0
OfCpu job c item = (t : ℕ) × IsOn job c t × OfTask t item

-- What the steps of CPU c keep, whatever values they take.
--   number'    its number
--   calls      a task has calls of its own open
--   present'   the task that runs is the CPU's, if any of its tasks has an act left
record IsOwn (job : Job) (c : ℕ) (me : Cpu) : Type 0 where
  number' : me.number ≡ c
  calls : (t : ℕ) → AreOf t (me.tasks t).stack
  present' : any_has_more job me ≡ true → IsOn job c me.present

-- ## a task

-- what it marks is of a call of its own
told : {item : Item} (t : ℕ) (item' : Item) → ◌≡◌ {A = Option WordOp} (Some (Mark item)) (Some (Mark item')) → OfTask t item → OfTask t item'
told {item} t item' e of = let same : item ≡ item' = cc in subst (OfTask t) same of

first-marks : (t : ℕ) (x : TaskState) (acts : List TaskAct) (stack : List OpenCall) (item : Item) → AreOf t stack
    → first_op t x acts stack ≡ Some (Mark item) → OfTask t item
first-marks t x (Call f ∷ rest) stack item k e = told t item e (call_at (record { 0 = t }) x.next, refl, refl)
first-marks t x (RetAct ∷ rest) (o ∷ below) item k e = told t item e (o.call, refl, k.0)
first-marks t x _ stack item k e = absurd cc

call-marks : (t : ℕ) (x : TaskState) (o : OpenCall) (below : List OpenCall) (m : Moment) (item : Item) → o.call.task.0 ≡ t
    → call_op x o below m ≡ Some (Mark item) → OfTask t item
call-marks t x o below (Refusing u reg reason) item k e = told t item e (o.call, refl, k)
call-marks t x o below (Calling u reg) item k e = told t item e (o.call, refl, k)
call-marks t x o below (Missing u) item k e = told t item e (o.call, refl, k)
call-marks t x o below (Acting u a) item k e = told t item e (call_at o.call.task x.next, refl, k)
call-marks t x o below (Ending u) item k e = told t item e (o.call, refl, k)
call-marks t x o below Closing item k e = told t item e (o.call, refl, k)
call-marks t x o below Leaving item k e = told t item e (o.call, refl, k)
call-marks t x o below (Exiting m rest) item k e = told t item e (o.call, refl, k)
call-marks t x o below (EndingExit m rest) item k e = told t item e (o.call, refl, k)
call-marks t x o below Returning item k e = told t item e (o.call, refl, k)
call-marks t x o below _ item k e = absurd cc

stack-marks : (t : ℕ) (x : TaskState) (stack : List OpenCall) (m : Moment) (item : Item) → AreOf t stack
    → stack_op x stack m ≡ Some (Mark item) → OfTask t item
stack-marks t x [] m item k e = absurd cc
stack-marks t x (o ∷ below) m item k e = call-marks t x o below m item k.0 e

task-marks : (t : ℕ) (x : TaskState) (m : Moment) (item : Item) → AreOf t x.stack → task_op t x m ≡ Some (Mark item) → OfTask t item
task-marks t x First item k e = first-marks t x x.acts x.stack item k e
task-marks t x m item k e = stack-marks t x x.stack m item k e

-- its open calls stay its own
first-keeps : (t : ℕ) (x : TaskState) (acts : List TaskAct) (stack : List OpenCall) (v : ℕ) → AreOf t x.stack → AreOf t stack
    → AreOf t (first_got t x acts stack v).stack
first-keeps t x (Call f ∷ rest) stack v k s = (refl, s)
first-keeps t x (After n ∷ rest) stack v k s =
    if_case (λ (y : TaskState). AreOf t y.stack) (nat_le n (returned_at v)) (finished x stack) (record x { moment = Polling }) (λ e. s) (λ e. k)
first-keeps t x (RetAct ∷ rest) (o ∷ below) v k s = k
first-keeps t x _ stack v k s = k

call-keeps : (job : Job) (t : ℕ) (x : TaskState) (o : OpenCall) (below : List OpenCall) (m : Moment) (v : ℕ) → AreOf t x.stack → AreOf t (o ∷ below)
    → AreOf t (call_got job x o below m v).stack
call-keeps job t x o below (GotHead byte) v k s = s
call-keeps job t x o below GotBreak v k s = s
call-keeps job t x o below (InTramp slot) v k s = s
call-keeps job t x o below (Calling u reg) v k s = s
call-keeps job t x o below (Acting u a) v k s = (s.0, s)
call-keeps job t x o below Closing v k s =
    let o' : OpenCall = record o { framed = not (is_nil o.users) } in
    if_case (λ (y : TaskState). AreOf t y.stack) o.scripted (finished x (o' ∷ below)) (record x { stack = o' ∷ below; moment = Leaving })
    (λ e. s) (λ e. s)
call-keeps job t x o below Returning v k s =
    if_case (λ (y : TaskState). AreOf t y.stack) o.scripted (finished x below) (record x { stack = below; moment = Ending (user_of below) })
    (λ e. s.1) (λ e. s.1)
call-keeps job t x o below _ v k s = k

task-keeps : (job : Job) (t : ℕ) (x : TaskState) (m : Moment) (v : ℕ) → AreOf t x.stack → AreOf t (task_got job t x m v).stack
task-keeps job t x First v k = first-keeps t x x.acts x.stack v k k
task-keeps job t x m v k = by x.stack k
  where
    by : (stack : List OpenCall) → AreOf t stack → AreOf t (stack_got job x stack m v).stack
    by [] s = k
    by (o ∷ below) s = call-keeps job t x o below m v k s

-- ## a CPU

first-of-all : (P : ℕ → Type 0) (p : ℕ → Bool) (otherwise : ℕ) (ts : List ℕ) → P otherwise → Each P ts → P (first_of p otherwise ts)
first-of-all P p otherwise [] o all = o
first-of-all P p otherwise (t ∷ ts) o all =
    if_case P (p t) t (first_of p otherwise ts) (λ e. all.0) (λ e. first-of-all P p otherwise ts o all.1)

module _ (job : Job) (limited : IsLimited job) (c : ℕ) where
  -- the next task is the CPU's
  next-on : (me : Cpu) → me.number ≡ c → IsOn job c me.present → IsOn job c (next_task job me)
  next-on me number on =
      let all : Each (IsOn job c) (tasks_of job me.number) =
      subst (λ (n : ℕ). Each (IsOn job c) (tasks_of job n)) (sym number) (on-tasks job (word-job job limited) c) in
      first-of-all (IsOn job c) (λ t. has_more me.tasks t) me.present _ on
      (each-append (IsOn job c) (filter (λ v. nat_lt me.present v) (tasks_of job me.number))
      (filter (λ v. nat_le v me.present) (tasks_of job me.number))
      (Each-filter (IsOn job c) (λ v. nat_lt me.present v) (tasks_of job me.number) all)
      (Each-filter (IsOn job c) (λ v. nat_le v me.present) (tasks_of job me.number) all))

  -- it switches, or not
  switched-own : (me : Cpu) (unmet : Bool) → IsOwn job c me → IsOn job c me.present → IsOwn job c (switched job unmet me)
  switched-own me unmet k on =
      if_case (IsOwn job c) (not (has_more me.tasks me.present) || unmet || nat_le (get_or job.quanta me.number 1) me.count)
      (record me { present = next_task job me; count = 0 }) me
      (λ e. record { number' = k.number'; calls = k.calls; present' = λ any. next-on me k.number' on }) (λ e. k)

  -- a task of it is changed
  put-calls : (me : Cpu) (t : ℕ) (x : TaskState) → IsOwn job c me → AreOf t x.stack → (u : ℕ) → AreOf u (at_put me.tasks t x u).stack
  put-calls me t x k s u = put_case me.tasks t x (λ i (y : TaskState). AreOf i y.stack) u (λ e. s) (λ ne. k.calls u)

  -- the present task went on
  moved-own : (me : Cpu) (unmet : Bool) (x : TaskState) → IsOwn job c me → IsOn job c me.present → AreOf me.present x.stack
      → IsOwn job c (moved job me unmet x)
  moved-own me unmet x k on s =
      let then : Cpu = record me { tasks = at_put me.tasks me.present x } in
      let own : IsOwn job c then = record { number' = k.number'; calls = put-calls me me.present x k s; present' = λ any. on } in
      if_case (IsOwn job c) (is_fetching x.moment) then (switched job unmet then) (λ e. own) (λ e. switched-own then unmet own on)

  begun-stack : (t : ℕ) (x : TaskState) (acts : List TaskAct) → AreOf t x.stack → AreOf t (begun_act x acts).stack
  begun-stack t x (Raise r ∷ rest) k = k
  begun-stack t x (Lower ∷ rest) k = k
  begun-stack t x _ k = k

  -- a poll
  polled-own : (me : Cpu) → IsOwn job c me → IsOwn job c (polled job me)
  polled-own me k =
      let x = begun_act (me.tasks me.present) (me.tasks me.present).acts in
      let then : Cpu = record me { tasks = at_put me.tasks me.present x; phase = Going } in
      let calls' = put-calls me me.present x k (begun-stack me.present (me.tasks me.present) (me.tasks me.present).acts (k.calls me.present)) in
      if_case (IsOwn job c) (any_has_more job me) (switched job false then) (record me { phase = Over })
      (λ any. switched-own then false (record { number' = k.number'; calls = calls'; present' = λ more. k.present' any }) (k.present' any))
      (λ none. record { number' = k.number'; calls = k.calls; present' = k.present' })

  poll_on-own : (me : Cpu) (r : ℕ) → IsOwn job c me → IsOwn job c (poll_on job me r)
  poll_on-own me r k = by (quiet_next me.tasks r (tasks_of job me.number))
    where
      by : (o : Option ℕ) → IsOwn job c (quiet_in job me r o)
      by None = polled-own me k
      by (Some t) = record { number' = k.number'; calls = k.calls; present' = k.present' }

  polling-own : (me : Cpu) (r : ℕ) → IsOwn job c me → IsOwn job c (polling job me r)
  polling-own me r k =
      if_case (IsOwn job c) (me.ack == ack_value job me r) (poll_on job me r) (record me { phase = StoringAck r }) (λ e. poll_on-own me r k)
      (λ e. record { number' = k.number'; calls = k.calls; present' = k.present' })

  -- the store of a quiet word leaves the acts as they are
  any-stored : (me : Cpu) (t : ℕ) (x : TaskState) → has_acts x.acts ≡ has_acts (me.tasks t).acts → (ts : List ℕ)
      → list_any (λ u. has_more (at_put me.tasks t x) u) ts ≡ list_any (λ u. has_more me.tasks u) ts
  any-stored me t x same [] = refl
  any-stored me t x same (u ∷ us) = λ i.
      put_case me.tasks t x (λ j (y : TaskState). has_acts y.acts ≡ has_acts (me.tasks j).acts) u (λ e. same) (λ ne. refl) i
      || any-stored me t x same us i

  stored-own : (me : Cpu) (r t : ℕ) → IsOwn job c me → IsOwn job c (record me { tasks = at_put me.tasks t (with_word r (me.tasks t)) })
  stored-own me r t k = record {
    number' = k.number';
    calls = put-calls me t (with_word r (me.tasks t)) k (k.calls t);
    present' = λ any. k.present' (sym (any-stored me t (with_word r (me.tasks t)) refl (tasks_of job me.number)) ∙ any);
  }

  present-own : (me : Cpu) (m : Moment) (v : ℕ) → IsOwn job c me → IsOn job c me.present → IsOwn job c (present_got job me m v)
  present-own me Polling v k on = polling-own me v k
  present-own me m v k on =
      let x = me.tasks me.present in
      moved-own me (is_unmet m x.acts v) (task_got job me.present x m v) k on (task-keeps job me.present x m v (k.calls me.present))

  going-own : (me : Cpu) (v : ℕ) → IsOwn job c me → IsOwn job c (going_got job me v)
  going-own me v k =
      if_case (IsOwn job c) (any_has_more job me) (present_got job me (me.tasks me.present).moment v) (polling job me v)
      (λ any. present-own me (me.tasks me.present).moment v k (k.present' any)) (λ none. polling-own me v k)

  phase-own : (me : Cpu) (p : Phase) (v : ℕ) → IsOwn job c me → IsOwn job c (phase_got job me p v)
  phase-own me Going v k =
      if_case (IsOwn job c) (looks job me) (looked me v) (going_got job (ticked me) v)
      (λ looking. record { number' = k.number'; calls = k.calls; present' = k.present' }) (λ goes. going-own (ticked me) v (record { number' = k.number'; calls = k.calls; present' = k.present' }))
  phase-own me Looked v k = going-own (record (ticked me) { phase = Going }) v (record { number' = k.number'; calls = k.calls; present' = k.present' })
  phase-own me (Answering r) v k = record { number' = k.number'; calls = k.calls; present' = k.present' }
  phase-own me (StoringAck r) v k =
      poll_on-own (record (ticked me) { ack = ack_value job me r }) r (record { number' = k.number'; calls = k.calls; present' = k.present' })
  phase-own me (StoringQuiet r t) v k =
      let s = stored-own me r t k in
      poll_on-own (record (ticked me) { tasks = at_put me.tasks t (with_word r (me.tasks t)) }) r (record { number' = s.number'; calls = s.calls; present' = s.present' })
  phase-own me Over v k = k

  got-own : (me : Cpu) (v : ℕ) → IsOwn job c me → IsOwn job c (cpu_got job me v)
  unfolding cpu_got
  got-own me v k = phase-own me me.phase v k

  starts-own : IsOwn job c (cpu_start job c)
  starts-own = record {
    number' = refl;
    calls = λ t. tt;
    present' = λ any. (first-there (λ t. has_more (task_start job) t) (IsOn job c) (length job.tasks) (tasks_of job c)
        (on-tasks job (word-job job limited) c) any).0;
  }

-- what it marks is of a call of its own tasks
present-marks : (me : Cpu) (m : Moment) (item : Item) → ((t : ℕ) → AreOf t (me.tasks t).stack) → present_op me m ≡ Some (Mark item)
    → OfTask me.present item
present-marks me Polling item calls e = absurd cc
present-marks me m item calls e = task-marks me.present (me.tasks me.present) m item (calls me.present) e

mark-own : (job : Job) (c : ℕ) (me : Cpu) (item : Item) → IsOwn job c me → cpu_next job me ≡ Some (Mark item) → OfCpu job c item
unfolding cpu_next
mark-own job c me item k e = by me.phase e
  where
    going : (b : Bool) → any_has_more job me ≡ b → cond b (present_op me (me.tasks me.present).moment) (Some (Load Want)) ≡ Some (Mark item)
        → OfCpu job c item
    going true any is = (me.present, k.present' any, present-marks me (me.tasks me.present).moment item k.calls is)
    going false none is = absurd cc

    looking : (b : Bool) → cond b (Some (Load Want)) (going_op job me) ≡ Some (Mark item) → OfCpu job c item
    looking true is = absurd cc
    looking false is = going (any_has_more job me) refl is

    by : (p : Phase) → phase_op job me p ≡ Some (Mark item) → OfCpu job c item
    by Going is = looking (looks job me) is
    by Looked is = going (any_has_more job me) refl is
    by (Answering r) is = absurd cc
    by (StoringAck r) is = absurd cc
    by (StoringQuiet r t) is = absurd cc
    by Over is = absurd cc

-- ## all that a CPU marks

each-joined : (P : Stamped → Type 0) (xs ys : List Stamped) → Each P xs → Each P ys → Each P (xs ++ ys)
each-joined P [] ys a b = b
each-joined P (x ∷ xs) ys a b = (a.0, each-joined P xs ys a.1 b)

marks-own : (job : Job) (c : ℕ) (me : Cpu) (v : ℕ) → IsOwn job c me → Each (λ (x : Stamped). OfCpu job c x.item) (marks_in (cpu_next job me) v)
marks-own job c me v k = by (cpu_next job me) refl
  where
    by : (o : Option WordOp) → cpu_next job me ≡ o → Each (λ (x : Stamped). OfCpu job c x.item) (marks_in o v)
    by None e = tt
    by (Some (Load w)) e = tt
    by (Some (Store w x)) e = tt
    by (Some (Mark item)) e = (mark-own job c me item k e, tt)

-- its items are of its tasks
pub cpu-own : (job : Job) → IsLimited job → (c : ℕ) (vs : List ℕ) → Each (λ (x : Stamped). OfCpu job c x.item) (cpu_items job c vs)
cpu-own job limited c vs = from (cpu_start job c) vs (starts-own job limited c)
  where
    from : (me : Cpu) (ws : List ℕ) → IsOwn job c me → Each (λ (x : Stamped). OfCpu job c x.item) (cpu_marks job me ws)
    from me [] k = tt
    from me (w ∷ ws) k =
        each-joined (λ (x : Stamped). OfCpu job c x.item) (marks_in (cpu_next job me) w) (cpu_marks job (cpu_got job me w) ws)
        (marks-own job c me w k) (from (cpu_got job me w) ws (got-own job limited c me w k))

-- ## control

control-mark : (job : Job) (s : Control) (p : Position) (item : Item) → next_in job s p ≡ Some (Mark item) → call_of item ≡ None
control-mark job s Line item is = by s.remaining is
  where
    by : (lines : List Ctl) → line_op s.commands_done lines ≡ Some (Mark item) → call_of item ≡ None
    by [] e = absurd cc
    by (Until t n ∷ rest) e = absurd cc
    by (Run x ∷ rest) e = let same : Begin (suc s.commands_done) ≡ item = cc in subst (λ i. call_of i ≡ None) same refl
control-mark job s Relink item is = absurd (relink-marks (effect job s.commands_done) _ _ item (same_Some _ _ is))
control-mark job s Close item is =
    let same : Return (suc s.commands_done) (answer_in job s.commands_done (command job s.commands_done)) ≡ item = cc in
    subst (λ i. call_of i ≡ None) same refl
control-mark job s _ item is = absurd cc

control-marked : (job : Job) (s : Control) (v : ℕ) → Each (λ (x : Stamped). call_of x.item ≡ None) (control_marks_in (control_next job s) v)
unfolding control_next
control-marked job s v = by (next_in job s s.position) refl
  where
    by : (o : Option WordOp) → next_in job s s.position ≡ o → Each (λ (x : Stamped). call_of x.item ≡ None) (control_marks_in o v)
    by None e = tt
    by (Some (Load w)) e = tt
    by (Some (Store w x)) e = tt
    by (Some (Mark item)) e = (control-mark job s s.position item e, tt)

-- its items are of no call
pub control-own : (job : Job) (vs : List ℕ) → Each (λ (x : Stamped). call_of x.item ≡ None) (control_items job vs)
control-own job vs = from (control_start job) vs
  where
    from : (s : Control) (ws : List ℕ) → Each (λ (x : Stamped). call_of x.item ≡ None) (control_marks job s ws)
    from s [] = tt
    from s (w ∷ ws) =
        each-joined (λ (x : Stamped). call_of x.item ≡ None) (control_marks_in (control_next job s) w) (control_marks job (control_got job s w) ws)
        (control-marked job s w) (from (control_got job s w) ws)
