-- A step of the present task is the machine's.
use Rattle.std.proofs.Common.{cond, ◌≡◌, ℕ, suc, ◌+◌, ◌<◌, ◌≤◌, ◌++◌, Bool, true, false, length, Some, None, refl, sym, ap, subst, ◌∙◌, arith}
use Rattle.std.specs.Prelude.{Option, IsSome}
use Rattle.std.proofs.lemmas.List.{length-append}
use Rattle.std.proofs.lemmas.Option.{slice_get_within}
use Rattle.ft_base.specs.declared.item.Item.{Item}
use Rattle.ft_base.specs.Job.{Job}
use Rattle.ft_base.proofs.Modifiers.{named-at}
use Rattle.ft_base.proofs.Small.{false_true}
use Rattle.word_map.specs.Words.{at_put}
use Rattle.word_machine.specs.Cpu.{Cpu, any_has_more, going_got, going_op, moved, present_got, switched as machine_switched, ticked as machine_ticked}
use Rattle.word_machine.specs.Cpu.{is_unmet as is_machine_unmet}
use Rattle.word_machine.specs.Laws.{GoingTakes, PresentTakes}
use Rattle.word_machine.specs.Limits.{IsLimited}
use Rattle.word_machine.specs.Task.{task_got}
use Rattle.word_machine_laws.proofs.Finished.{present-got}
use Rattle.word_machine.proofs.Small.{if_case}
use Rattle.cpu_core.specs.declared.parts.Parts.{Parts}
use Rattle.cpu_core.specs.declared.parts.Phase.TheVariants as code
use Rattle.task_core.specs.declared.moment.Moment.{Moment as CodeMoment}
use Rattle.task_core.specs.declared.moment.Moment.TheVariants.{Polling}
use Rattle.task_core.specs.declared.task.Task.{Task}
use Rattle.cpu_core.specs.CpuNeeds.{GoFits}
use Rattle.cpu_core.specs.CpuOps.{is_running, present_task}
use Rattle.cpu_core.specs.CpuSteps.{marks_in, stamped, switched, ticked, went}
use Rattle.cpu_core.specs.Cpus.{IsFor, IsOwn, all_marked, cpu_of}
use Rattle.task_core.specs.TaskNeeds.{TaskFits}
use Rattle.task_core.specs.Leads.{is_fetching}
use Rattle.cpu_core.specs.Marks.{HasRoom, Marks}
use Rattle.task_core.specs.Setups.{setup_in}
use Rattle.task_core.specs.Starts.{is_unmet}
use Rattle.task_core.specs.States.{is_polling, moment_of, state_of}
use Rattle.task_core.specs.TaskOps.{item_in, op_of}
use Rattle.task_core.specs.TaskSteps.{task_after}
use Rattle.task_core.specs.StackInvariant.{IsTaskOf}
use Rattle.cpu_core.proofs.Changed.{changed-own, own-at, present-changed, with_task}
use Rattle.cpu_core.proofs.CpuNext.{going-is as going-op-is, more-is, polls-is, task-for}
use Rattle.cpu_core.proofs.OperationNeeds.{task-fits}
use Rattle.cpu_core.proofs.GoSteps.{going-count, running, running-any, running-left}
use Rattle.cpu_core.proofs.GoStepsMoments.{fetching-is, unmet-is}
use Rattle.cpu_core.proofs.GoStepsTask.{fetches-once, next-within}
use Rattle.cpu_core.proofs.Lookups.{get-set, state-at}
use Rattle.task_core.proofs.Rows.{step-is}
use Rattle.task_core.proofs.Stays.{stays-of}
use Rattle.cpu_core.proofs.Switched.{moved-is, own-for, switched-for}
use Rattle.task_core.proofs.TaskNumbers.{got-same}

-- ## what is marked has room

marks-within : (v n m : ℕ) (o : Option Item) → n ≤ m → (IsSome o → n < m) → n + length (stamped v o) ≤ m
marks-within v n m None le lt = omega arith
marks-within v n m (Some item) le lt = let l : n < m = lt refl in omega arith

-- within a fetch no poll is next
fetching-runs : (m : CodeMoment) → is_fetching m ≡ true → is_polling m ≡ false
fetching-runs Polling e = false_true e
fetching-runs _ e = refl

module _ (job : Job) (c : Parts) (k : IsFor job c) (going : c.phase ≡ code.Going) (t : Task) (e : present_task c ≡ Some t)
    (other : is_polling t.moment ≡ false) where
  task : IsTaskOf job t
  task = task-for job c k c.present t e

  -- the machine's CPU knows the present task, which has an act left
  present-is : (cpu_of job c).present ≡ t.number.0
  present-is = rw e refl

  state : (cpu_of job c).tasks (cpu_of job c).present ≡ state_of t
  state = rw (e, state-at job c.cpu.0 c.tasks k.own.numbers' c.present t e) refl

  more : any_has_more job (cpu_of job c) ≡ true
  more = more-is job c k ∙ running-any job c k going (rw (e, other) refl)

  next-op : going_op job (cpu_of job c) ≡ op_of t
  next-op = sym (going-op-is job c k) ∙ rw (e, other) refl

  module _ (v : ℕ) (limited : IsLimited job) (takes : GoingTakes job (cpu_of job c) (any_has_more job (cpu_of job c)) v) where
    takes-task : PresentTakes job (state_of t) (state_of t).moment v
    takes-task = subst (λ x. PresentTakes job x x.moment v) state (subst (λ b. GoingTakes job (cpu_of job c) b v) more takes)

    -- the task after the step
    abbrev after : Task
    after = task_after t c.setup v

    after-is : after ≡ task_after t (setup_in job) v
    after-is = ap (λ s. task_after t s v) k.own.setup

    after-state : state_of after ≡ task_got job t.number.0 (state_of t) (moment_of t) v
    after-state = ap state_of after-is ∙ step-is job t v limited task other

    after-of : IsTaskOf job after
    after-of = subst (IsTaskOf job) (sym after-is) (stays-of job t v limited task other takes-task)

    -- what is marked
    abbrev marks : Marks
    marks = record c.marked { items = c.marked.items ++ marks_in (op_of t) v }

    -- the CPU with that task, before it switches
    abbrev stepped-one : Parts
    stepped-one = with_task (ticked c) c.present after marks

    got : going_got job (machine_ticked (cpu_of job c)) v ≡ moved job (machine_ticked (cpu_of job c)) (is_unmet t v) (state_of after)
    got =
        at-moment
        ∙ present-got job me (moment_of t) v (polls-is t ∙ other)
        ∙ ap (λ x. moved job me (is_machine_unmet (moment_of t) x.acts v) (task_got job me.present x (moment_of t) v)) state
        ∙ ap (λ n. moved job me (is_machine_unmet (moment_of t) (state_of t).acts v) (task_got job n (state_of t) (moment_of t) v)) present-is
        ∙ ap (λ b. moved job me b (task_got job t.number.0 (state_of t) (moment_of t) v)) (sym (unmet-is t v))
        ∙ ap (moved job me (is_unmet t v)) (sym after-state)
      where
        me : Cpu
        me = machine_ticked (cpu_of job c)

        at-moment : going_got job me v ≡ present_got job me (moment_of t) v
        at-moment = rw (more, state) refl

    same-number : after.number ≡ t.number
    same-number = (got-same t c.setup v).number

    there : present_task stepped-one ≡ Some after
    there = get-set c.tasks c.present t after e

    -- after one more step it is one of the job's
    own : IsOwn job (ticked c)
    own = own-at job c k.own c.present (suc c.count) c.ack c.phase

    went-or : went (ticked c) v ≡ cond (is_fetching after.moment) stepped-one (switched stepped-one (is_unmet t v))
    went-or = rw e refl

    next-fits : t.next ≤ suc (all_marked c.marked)
    next-fits = named-at (λ u. u.next ≤ suc (all_marked c.marked)) c.tasks c.present t e k.own.calls

    marked : length marks.items ≡ length c.marked.items + length (marks_in (op_of t) v)
    marked = length-append c.marked.items (marks_in (op_of t) v)

    one-own : (IsSome (item_in (op_of t)) → HasRoom c.marked) → IsOwn job stepped-one
    one-own room =
        let fits = marks-within v (length c.marked.items) c.marked.left (item_in (op_of t)) k.own.items (λ some. (room some).left) in
        changed-own job (ticked c) own c.present t after e same-number marks after-of (omega (arith, next-within t c.setup v, next-fits, marked))
        (omega (arith, marked)) k.own.left (omega (arith, marked, fits))

    -- within a fetch the CPU doesn't switch
    one-for : (IsSome (item_in (op_of t)) → HasRoom c.marked) → is_fetching after.moment ≡ true → IsFor job stepped-one
    one-for room fetching =
        own-for job stepped-one (one-own room) going
        (λ any. rw there (running-left job after after-of (fetching-runs after.moment fetching)))
        (let within = going-count job c k going in
        let le : c.count ≤ c.quantum + 0 = rw (e, fetches-once t c.setup v fetching) at within in rw (there, fetching) (omega arith))

    went-is : cpu_of job (went (ticked c) v) ≡ going_got job (machine_ticked (cpu_of job c)) v
    went-is =
        ap (cpu_of job) went-or
        ∙ by (is_fetching after.moment)
        ∙ ap (λ b. cond b to (machine_switched job (is_unmet t v) to)) (sym (fetching-is after))
        ∙ sym got
      where
        to : Cpu
        to = record (machine_ticked (cpu_of job c)) { tasks = at_put (cpu_of job c).tasks (cpu_of job c).present (state_of after) }

        by : (b : Bool) → cpu_of job (cond b stepped-one (switched stepped-one (is_unmet t v))) ≡ cond b to (machine_switched job (is_unmet t v) to)
        by true = present-changed job (ticked c) own t after e same-number marks
        by false = moved-is job (ticked c) own t after e same-number marks (is_unmet t v)

    went-for : (IsSome (item_in (op_of t)) → HasRoom c.marked) → IsFor job (went (ticked c) v)
    went-for room =
        rw went-or
        (if_case (IsFor job) (is_fetching after.moment) stepped-one (switched stepped-one (is_unmet t v)) (one-for room)
        (λ b. switched-for job stepped-one (is_unmet t v) after there (one-own room) going))

    went-fits : (IsSome (item_in (op_of t)) → HasRoom c.marked) → GoFits c v
    went-fits room = record {
      present' = slice_get_within c.tasks c.present t e;
      task = rw e
          (subst (λ s. TaskFits s t v) (sym k.own.setup)
          (task-fits job limited v t task other takes-task (omega (arith, next-fits, k.own.items, k.own.left))));
      room = rw e room;
    }

-- ## whichever task is present

module _ (job : Job) (c : Parts) (k : IsFor job c) (going : c.phase ≡ code.Going) (runs : is_running c ≡ true) where
  module _ (v : ℕ) (limited : IsLimited job) (takes : GoingTakes job (cpu_of job c) (any_has_more job (cpu_of job c)) v) where
    pub going-is : cpu_of job (went (ticked c) v) ≡ going_got job (machine_ticked (cpu_of job c)) v
    going-is = let there = running (present_task c) runs in went-is job c k going there.task there.is there.other v limited takes

    module _ (room : IsSome (item_in (going_op job (cpu_of job c))) → HasRoom c.marked) where
      pub going-for : IsFor job (went (ticked c) v)
      going-for =
          let there = running (present_task c) runs in
          went-for job c k going there.task there.is there.other v limited takes
          (subst (λ op. IsSome (item_in op) → HasRoom c.marked) (next-op job c k going there.task there.is there.other) room)

      pub going-fits : GoFits c v
      going-fits =
          let there = running (present_task c) runs in
          went-fits job c k going there.task there.is there.other v limited takes
          (subst (λ op. IsSome (item_in op) → HasRoom c.marked) (next-op job c k going there.task there.is there.other) room)
