-- What a step of a CPU makes of each of its tasks, and that finished acts are never taken back.
use Rattle.std.proofs.Common.{cond, ◌≤◌, Bool, true, false, nat_le, List, [], ◌∷◌, arith, not, ◌≡◌, ◌||◌, get_or, refl, sym, subst, Option, Some, None, ◌==◌, ℕ}
use Rattle.ft_base.specs.declared.task.TaskAct.{TaskAct}
use Rattle.ft_base.specs.declared.task.TaskAct.TheVariants.{Call, Ret as RetAct, Raise, Lower, After}
use Rattle.word_machine.specs.Task.{OpenCall, TaskState, Polling, first_got, finished, Leaving, closed, user_of, Ending, returned, Moment, Closing, Returning, call_got, stack_got, First, task_got, begun_act, is_fetching, task_op}
use Rattle.ft_hist.specs.Frames.{is_nil}
use Rattle.ft_base.specs.Job.{Job}
use Rattle.ft_base.specs.Tasks.{tasks_of}
use Rattle.word_map.specs.Words.{at_put}
use Rattle.word_machine.proofs.Small.{put_case}
use Rattle.word_machine.specs.Cpu.{next_task, Cpu, has_more, switched, moved, Going, Over, any_has_more, polled, quiet_in, quiet_next, poll_on, StoringAck, ack_value, polling, present_got, present_op, is_unmet}
use Rattle.word_machine_laws.proofs.TaskSteps.{is_polling}
use Rattle.ft_base.proofs.Small.{false_true}

pub first-gone : (t : ℕ) (x : TaskState) (acts : List TaskAct) (stack : List OpenCall) (v : ℕ) → x.gone ≤ (first_got t x acts stack v).gone
first-gone t x (Call f ∷ rest) stack v = omega arith
first-gone t x (RetAct ∷ rest) (c ∷ below) v = omega arith
first-gone t x (RetAct ∷ rest) [] v = omega arith
first-gone t x (After n ∷ rest) stack v = by (nat_le n _)
  where
    by : (b : Bool) → x.gone ≤ (cond b (finished x stack) (record x { moment = Polling })).gone
    by true = omega arith
    by false = omega arith
first-gone t x (Raise c ∷ rest) stack v = omega arith
first-gone t x (Lower ∷ rest) stack v = omega arith
first-gone t x [] stack v = omega arith

pub closed-gone : (x : TaskState) (c : OpenCall) (below : List OpenCall) → x.gone ≤ (closed x c below).gone
closed-gone x c below = by c.scripted
  where
    by : (b : Bool) → x.gone ≤ (cond b (finished x (record c { framed = not (is_nil c.users) } ∷ below))
        (record x { stack = record c { framed = not (is_nil c.users) } ∷ below; moment = Leaving })).gone
    by true = omega arith
    by false = omega arith

pub returned-gone : (x : TaskState) (c : OpenCall) (below : List OpenCall) → x.gone ≤ (returned x c below).gone
returned-gone x c below = by c.scripted
  where
    by : (b : Bool) → x.gone ≤ (cond b (finished x below) (record x { stack = below; moment = Ending (user_of below) })).gone
    by true = omega arith
    by false = omega arith

pub call-gone : (job : Job) (x : TaskState) (c : OpenCall) (below : List OpenCall) (m : Moment) (v : ℕ) → x.gone ≤ (call_got job x c below m v).gone
call-gone job x c below Closing v = closed-gone x c below
call-gone job x c below Returning v = returned-gone x c below
call-gone job x c below _ v = omega arith

pub stack-gone : (job : Job) (x : TaskState) (stack : List OpenCall) (m : Moment) (v : ℕ) → x.gone ≤ (stack_got job x stack m v).gone
stack-gone job x [] m v = omega arith
stack-gone job x (c ∷ below) m v = call-gone job x c below m v

pub task-gone : (job : Job) (t : ℕ) (x : TaskState) (m : Moment) (v : ℕ) → x.gone ≤ (task_got job t x m v).gone
task-gone job t x First v = first-gone t x x.acts x.stack v
task-gone job t x m v = stack-gone job x x.stack m v

pub begun-gone : (x : TaskState) (acts : List TaskAct) → x.gone ≤ (begun_act x acts).gone
begun-gone x (Raise c ∷ rest) = omega arith
begun-gone x (Lower ∷ rest) = omega arith
begun-gone x _ = omega arith

-- ## what holds between a CPU's tasks before and after a step

abbrev pub Through : (TaskState → TaskState → Type 0) → (ℕ → TaskState) → (ℕ → TaskState) → Type 0
Through R tasks tasks' = (t : ℕ) → R (tasks t) (tasks' t)

pub switched-tasks : (job : Job) (unmet : Bool) (me : Cpu) → (switched job unmet me).tasks ≡ me.tasks
switched-tasks job unmet me = by (not (has_more me.tasks me.present) || unmet || nat_le (get_or job.quanta me.number 1) me.count)
  where
    by : (b : Bool) → (cond b (record me { present = next_task job me; count = 0 }) me).tasks ≡ me.tasks
    by true = refl
    by false = refl

pub moved-tasks : (job : Job) (me : Cpu) (unmet : Bool) (x : TaskState) → (moved job me unmet x).tasks ≡ at_put me.tasks me.present x
moved-tasks job me unmet x = by (is_fetching x.moment)
  where
    by : (b : Bool) → (cond b (record me { tasks = at_put me.tasks me.present x })
        (switched job unmet (record me { tasks = at_put me.tasks me.present x }))).tasks ≡ at_put me.tasks me.present x
    by true = refl
    by false = switched-tasks job unmet (record me { tasks = at_put me.tasks me.present x })

module _ (R : TaskState → TaskState → Type 0) (same : (x : TaskState) → R x x) where
  pub through-put : (tasks : ℕ → TaskState) (i : ℕ) (x : TaskState) → R (tasks i) x → Through R tasks (at_put tasks i x)
  through-put tasks i x r t = put_case tasks i x (λ j y. R (tasks j) y) t (λ e. r) (λ ne. same (tasks t))

  pub through-moved : (job : Job) (me : Cpu) (unmet : Bool) (x : TaskState) → R (me.tasks me.present) x → Through R me.tasks (moved job me unmet x).tasks
  through-moved job me unmet x r = subst (λ (ts : ℕ → TaskState). Through R me.tasks ts) (sym (moved-tasks job me unmet x))
      (through-put me.tasks me.present x r)

  -- what the present task's act makes of it at the end of a poll
  abbrev pub Begins : Job → Cpu → Type 0
  Begins job me = any_has_more job me ≡ true → R (me.tasks me.present) (begun_act (me.tasks me.present) (me.tasks me.present).acts)

  pub through-polled : (job : Job) (me : Cpu) → Begins job me → Through R me.tasks (polled job me).tasks
  through-polled job me r = by (any_has_more job me) refl
    where
      by : (b : Bool) → any_has_more job me ≡ b
          → Through R me.tasks (cond b
          (switched job false (record me { tasks = at_put me.tasks me.present (begun_act (me.tasks me.present) (me.tasks me.present).acts); phase = Going }))
          (record me { phase = Over })).tasks
      by true e = subst (λ (ts : ℕ → TaskState). Through R me.tasks ts)
          (sym (switched-tasks job false (record me {
            tasks = at_put me.tasks me.present (begun_act (me.tasks me.present) (me.tasks me.present).acts);
            phase = Going;
          })))
          (through-put me.tasks me.present (begun_act (me.tasks me.present) (me.tasks me.present).acts) (r e))
      by false e = λ t. same (me.tasks t)

  pub through-on : (job : Job) (me : Cpu) (r : ℕ) → Begins job me → Through R me.tasks (poll_on job me r).tasks
  through-on job me r begins = by (quiet_next me.tasks r (tasks_of job me.number))
    where
      by : (o : Option ℕ) → Through R me.tasks (quiet_in job me r o).tasks
      by None = through-polled job me begins
      by (Some t) = λ v. same (me.tasks v)

  pub through-polling : (job : Job) (me : Cpu) (r : ℕ) → Begins job me → Through R me.tasks (polling job me r).tasks
  through-polling job me r begins = by (me.ack == ack_value job me r)
    where
      by : (b : Bool) → Through R me.tasks (cond b (poll_on job me r) (record me { phase = StoringAck r })).tasks
      by true = through-on job me r begins
      by false = λ t. same (me.tasks t)

-- ## the finished acts of a CPU's tasks

abbrev pub no_less : TaskState → TaskState → Type 0
no_less x y = x.gone ≤ y.gone

abbrev pub Grows : (ℕ → TaskState) → (ℕ → TaskState) → Type 0
Grows tasks tasks' = (t : ℕ) → (tasks t).gone ≤ (tasks' t).gone

pub grows-put : (tasks : ℕ → TaskState) (i : ℕ) (x : TaskState) → (tasks i).gone ≤ x.gone → Grows tasks (at_put tasks i x)
grows-put tasks i x le = through-put (λ x y. no_less x y) (λ x. omega arith) tasks i x le

pub grows-moved : (job : Job) (me : Cpu) (unmet : Bool) (x : TaskState) → (me.tasks me.present).gone ≤ x.gone → Grows me.tasks (moved job me unmet x).tasks
grows-moved job me unmet x le = through-moved (λ x y. no_less x y) (λ x. omega arith) job me unmet x le

pub grows-on : (job : Job) (me : Cpu) (r : ℕ) → Grows me.tasks (poll_on job me r).tasks
grows-on job me r = through-on (λ x y. no_less x y) (λ x. omega arith) job me r (λ e. begun-gone (me.tasks me.present) (me.tasks me.present).acts)

pub grows-polling : (job : Job) (me : Cpu) (r : ℕ) → Grows me.tasks (polling job me r).tasks
grows-polling job me r = through-polling (λ x y. no_less x y) (λ x. omega arith) job me r (λ e. begun-gone (me.tasks me.present) (me.tasks me.present).acts)

-- ## the present task outside of a poll

pub polling-of : (m : Moment) → is_polling m ≡ true → m ≡ Polling
polling-of Polling e = refl
polling-of _ e = false_true e

pub present-is : (me : Cpu) (m : Moment) → is_polling m ≡ false → present_op me m ≡ task_op me.present (me.tasks me.present) m
present-is me Polling e = false_true (sym e)
present-is me _ e = refl

pub present-got : (job : Job) (me : Cpu) (m : Moment) (v : ℕ) → is_polling m ≡ false
    → present_got job me m v ≡ moved job me (is_unmet m (me.tasks me.present).acts v) (task_got job me.present (me.tasks me.present) m v)
present-got job me Polling v e = false_true (sym e)
present-got job me _ v e = refl
