-- A poll is over: the act of the present task begins, or, if every task has ended, the CPU is at its end.
use Rattle.std.proofs.Common.{cond, ◌≡◌, suc, ◌≤◌, Bool, true, false, length, slice_get, Option, Some, None, IsSomeAnd, refl, sym, ap, ◌∙◌, subst, arith}
use Rattle.std.proofs.lemmas.Option.{slice_get_within}
use Rattle.ft_base.specs.declared.task.TaskAct.{TaskAct}
use Rattle.ft_base.specs.declared.task.TaskAct.TheVariants.{Raise, Lower}
use Rattle.ft_base.specs.Job.{Job}
use Rattle.ft_base.proofs.Modifiers.{named-at}
use Rattle.ft_base.proofs.Small.{false_true}
use Rattle.word_map.specs.Words.{at_put}
use Rattle.word_machine.specs.Task.{TaskState, begun_act}
use Rattle.word_machine.specs.Cpu.{Cpu, polled, switched as machine_switched}
use Rattle.word_machine.specs.Cpu as machine
use Rattle.word_machine.proofs.Small.{if_case}
use Rattle.cpu_core.specs.declared.parts.Parts.{Parts}
use Rattle.cpu_core.specs.declared.parts.Phase.TheVariants.{Going, Over}
use Rattle.task_core.specs.declared.moment.Moment.TheVariants.{Polling}
use Rattle.task_core.specs.declared.task.Task.{Task}
use Rattle.cpu_core.specs.CpuNeeds.{CanBeginAct}
use Rattle.cpu_core.specs.CpuOps.{present_task}
use Rattle.cpu_core.specs.CpuSteps.{act_begun, after_poll, switched}
use Rattle.cpu_core.specs.Cpus.{IsFor, IsOwn, all_marked, cpu_of, number_or, tasks_by}
use Rattle.task_core.specs.TaskNeeds.{CanBegin, HasAct}
use Rattle.task_core.specs.Starts.{is_left}
use Rattle.task_core.specs.States.{state_of}
use Rattle.task_core.specs.TaskOps.{present}
use Rattle.task_core.specs.TaskSteps.{begun}
use Rattle.task_core.specs.StackInvariant.{IsTaskOf}
use Rattle.cpu_core.specs.Turns.{any_left}
use Rattle.cpu_core.proofs.Begun.{begun-is, begun-of, can-begin_act}
use Rattle.cpu_core.proofs.Changed.{changed-own, more-left, own-at, with_task}
use Rattle.cpu_core.proofs.Lookups.{get-set, state-at}
use Rattle.cpu_core.proofs.Switched.{moved-is, switched-for, switched-marked}
use Rattle.task_core.proofs.TaskNumbers.{begun-same}

-- ## what is marked

-- an act that begins marks nothing
act-marked : (c : Parts) (o : Option Task) → (act_begun c o).marked ≡ c.marked
act-marked c None = refl
act-marked c (Some t) = refl

-- nor does the end of a poll
pub after-marked : (c : Parts) → (after_poll c).marked ≡ c.marked
after-marked c =
    if_case (λ (d : Parts). d.marked ≡ c.marked) (any_left c.tasks) (switched going false) (record c { phase = Over })
    (λ e. switched-marked going false ∙ act-marked (record c { phase = Going }) (present_task c)) (λ e. refl)
  where
    going : Parts
    going = act_begun (record c { phase = Going }) (present_task c)

-- an act that begins numbers no call
begun-next : (t : Task) (act : Option TaskAct) → (begun t act).next ≡ t.next
begun-next t (Some (Raise x)) = refl
begun-next t (Some Lower) = refl
begun-next t _ = refl

-- ## a CPU in a poll

-- A CPU of a job in a poll, between its steps.
--   own              it is one of the job's
--   present, before  its present task has an act, and that has not begun, as long as one has
pub record IsPolling (job : Job) (c : Parts) : Type 0 where
  pub own : IsOwn job c
  pub present' : any_left c.tasks ≡ true → IsSomeAnd (present_task c) (λ t. is_left t ≡ true)
  pub before : any_left c.tasks ≡ true → IsSomeAnd (present_task c) (λ t. t.moment ≡ Polling)

-- the task whose act begins
pub record IsNext (job : Job) (c : Parts) : Type 0 where
  pub task : Task
  pub there : slice_get c.tasks c.present ≡ Some task
  pub of' : IsTaskOf job task
  pub left : is_left task ≡ true
  pub before : task.moment ≡ Polling

module _ (job : Job) (c : Parts) (k : IsPolling job c) where
  pub next-act : any_left c.tasks ≡ true → IsNext job c
  next-act any = by (present_task c) refl (k.present' any) (k.before any)
    where
      by : (o : Option Task) → slice_get c.tasks c.present ≡ o → IsSomeAnd o (λ t. is_left t ≡ true) → IsSomeAnd o (λ t. t.moment ≡ Polling) → IsNext job c
      by None e left before = absurd left
      by (Some t) e left before = record {
        task = t;
        there = e;
        of' = named-at (IsTaskOf job) c.tasks c.present t e k.own.tasks;
        left = left;
        before = before;
      }

  -- the machine's task
  pub next-state : (n : IsNext job c) → state_of n.task ≡ (cpu_of job c).tasks (cpu_of job c).present
  next-state n =
      sym (state-at job c.cpu.0 c.tasks k.own.numbers' c.present n.task n.there)
      ∙ ap (tasks_by job c.tasks) (sym (ap (number_or (length job.tasks)) n.there))

  -- its act can begin
  pub can-begin : any_left c.tasks ≡ true → CanBeginAct c.tasks c.present
  can-begin any = let n = next-act any in record {
    present' = slice_get_within c.tasks c.present n.task n.there;
    act = subst (λ o. IsSomeAnd o (λ t. HasAct t × CanBegin t (present t))) (sym n.there) (can-begin_act job n.task n.of' n.before n.left);
  }

  -- ## the act begins

  -- the machine's CPU, whose present task's act begins
  abbrev acted : Cpu
  acted = record (cpu_of job c) {
    tasks = at_put (cpu_of job c).tasks (cpu_of job c).present
        (begun_act ((cpu_of job c).tasks (cpu_of job c).present) ((cpu_of job c).tasks (cpu_of job c).present).acts);
    phase = machine.Going;
  }

  module _ (n : IsNext job c) where
    -- the task then
    abbrev first : Task
    first = begun n.task (present n.task)

    going : IsOwn job (record c { phase = Going })
    going = own-at job c k.own c.present c.count c.ack Going

    -- the CPU with that task, which perhaps switches
    abbrev acting : Parts
    acting = with_task (record c { phase = Going }) c.present first c.marked

    acted-is : cpu_of job (switched acting false) ≡ machine_switched job false acted
    acted-is =
        moved-is job (record c { phase = Going }) going n.task first n.there (begun-same n.task).number c.marked false
        ∙ ap (λ x. machine_switched job false (record acted { tasks = at_put (cpu_of job c).tasks (cpu_of job c).present x }))
        (begun-is job n.task n.of' n.before n.left ∙ ap (λ (x : TaskState). begun_act x x.acts) (next-state n))

    next-fits : first.next ≤ suc (all_marked c.marked)
    next-fits =
        subst (λ m. m ≤ suc (all_marked c.marked)) (sym (begun-next n.task (present n.task)))
        (named-at (λ x. x.next ≤ suc (all_marked c.marked)) c.tasks c.present n.task n.there k.own.calls)

    acted-for : IsFor job (switched acting false)
    acted-for =
        switched-for job acting false first (get-set c.tasks c.present n.task first n.there)
        (changed-own job (record c { phase = Going }) going c.present n.task first n.there (begun-same n.task).number c.marked
        (begun-of job n.task n.of' n.before n.left) next-fits (omega arith) k.own.left k.own.items)
        refl

  -- ## the poll is over

  is-by : (b : Bool) → any_left c.tasks ≡ b
      → cpu_of job (cond b (switched (act_begun (record c { phase = Going }) (present_task c)) false) (record c { phase = Over }))
      ≡ cond b (machine_switched job false acted) (record (cpu_of job c) { phase = machine.Over })
  is-by true any =
      let n = next-act any in
      ap (λ o. cpu_of job (switched (act_begun (record c { phase = Going }) o) false)) n.there ∙ acted-is n
  is-by false none = refl

  pub after-is : cpu_of job (after_poll c) ≡ polled job (cpu_of job c)
  after-is =
      is-by (any_left c.tasks) refl
      ∙ ap (λ b. cond b (machine_switched job false acted) (record (cpu_of job c) { phase = machine.Over })) (sym (more-left job c k.own))

  for-by : (b : Bool) → any_left c.tasks ≡ b
      → IsFor job (cond b (switched (act_begun (record c { phase = Going }) (present_task c)) false) (record c { phase = Over }))
  for-by true any =
      let n = next-act any in
      subst (λ o. IsFor job (switched (act_begun (record c { phase = Going }) o) false)) (sym n.there) (acted-for n)
  for-by false none = record {
    own = own-at job c k.own c.present c.count c.ack Over;
    present = λ any. false_true (sym none ∙ any);
    phase' = none;
  }

  pub after-for : IsFor job (after_poll c)
  after-for = for-by (any_left c.tasks) refl
