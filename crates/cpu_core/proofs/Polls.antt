-- The polls of a CPU of code are the machine's, step by step.
use Rattle.std.proofs.Common.{cond, ◌≡◌, ℕ, suc, ◌+◌, ◌≤◌, Bool, true, false, not, ◌==◌, find, slice_get, Option, Some, None, IsSomeAnd, option_map, refl, sym, ap, ◌∙◌, subst, arith}
use Rattle.ft_base.specs.Job.{Job}
use Rattle.ft_base.proofs.Small.{false_true}
use Rattle.ft_base.proofs.Modifiers.{named-at}
use Rattle.grace_core.specs.Views.{acknowledged, told_word}
use Rattle.word_map.specs.Words.{at_put}
use Rattle.word_machine.specs.Task.{TaskState}
use Rattle.word_machine.specs.Task as machine_task
use Rattle.word_machine.specs.Cpu.{Cpu, Phase, any_has_more, cpu_got, phase_got, present_got, quiet_in, with_word, ticked as machine_ticked}
use Rattle.word_machine.specs.Cpu as machine
use Rattle.word_machine.proofs.Small.{if_case}
use Rattle.cpu_core.specs.declared.parts.Parts.{Parts}
use Rattle.cpu_core.specs.declared.parts.Phase.TheVariants.{Going, StoringAck, StoringQuiet}
use Rattle.task_core.specs.declared.moment.Moment.{Moment}
use Rattle.task_core.specs.declared.moment.Moment.TheVariants.{Polling}
use Rattle.task_core.specs.declared.task.Task.{Task}
use Rattle.cpu_core.specs.CpuOps.{is_running, present_task, runs}
use Rattle.cpu_core.specs.CpuSteps.{acked, poll_on, polling, telling, ticked, told_by, with_told}
use Rattle.cpu_core.specs.Cpus.{IsFor, IsIn, IsStoring, all_marked, cpu_of, fetch_step, number_or, phase_in, tasks_by}
use Rattle.task_core.specs.Leads.{is_fetching}
use Rattle.task_core.specs.Starts.{is_left, view_of}
use Rattle.task_core.specs.States.{is_polling, state_of}
use Rattle.task_core.specs.StackInvariant.{IsTaskOf}
use Rattle.cpu_core.specs.Turns.{any_left, first_untold, is_untold, told_task}
use Rattle.cpu_core.proofs.Begun.{before, told-of}
use Rattle.cpu_core.proofs.Changed.{changed-is, changed-own, more-left, own-at, with_task}
use Rattle.cpu_core.proofs.GoSteps.{going-count, waiting}
use Rattle.cpu_core.proofs.Lookups.{state-at, untold-is, view-is}
use Rattle.cpu_core.proofs.Places.{first-case}
use Rattle.cpu_core.proofs.PollEnd.{IsPolling, after-for, after-is, after-marked, next-act, next-state}
use Rattle.cpu_core.proofs.TaskChanges.{at-told, left-told}
use Rattle.cpu_core.proofs.Untold.{told-before, told-next, untold-there}

-- ## what is marked

on-marked : (c : Parts) (r : ℕ) (o : Option ℕ) → (telling c r o).marked ≡ c.marked
on-marked c r None = after-marked c
on-marked c r (Some i) = refl

-- a poll marks nothing
pub asked-marked : (c : Parts) (r : ℕ) → (polling c r).marked ≡ c.marked
asked-marked c r =
    if_case (λ (d : Parts). d.marked ≡ c.marked) (c.ack == acknowledged (any_left c.tasks) r) (poll_on c r) (record c { phase = StoringAck r })
    (λ e. on-marked c r (first_untold r c.tasks)) (λ e. refl)

pub acked-marked : (c : Parts) (r : ℕ) → (poll_on (acked c r) r).marked ≡ c.marked
acked-marked c r = on-marked (acked c r) r (first_untold r c.tasks)

pub told-marked : (c : Parts) (r i : ℕ) → (poll_on (with_told c r i) r).marked ≡ c.marked
told-marked c r i = on-marked (with_told c r i) r (first_untold r (with_told c r i).tasks) ∙ by (slice_get c.tasks i)
  where
    by : (o : Option Task) → (told_by c r i o).marked ≡ c.marked
    by None = refl
    by (Some t) = refl

-- ## a poll goes on

-- at another step it is in the poll as before
polling-at : (job : Job) (c : Parts) → IsPolling job c → (count ack : ℕ)
    → (let d : Parts = record c { count = count; ack = ack } in IsPolling job d)
polling-at job c k count ack = record { own = own-at job c k.own c.present count ack c.phase; present' = k.present'; before = k.before }

module _ (job : Job) (r : ℕ) (c : Parts) (k : IsPolling job c) where
  -- the next word that is to change, or the end of the poll
  next-is : cpu_of job (poll_on c r) ≡ quiet_in job (cpu_of job c) r (option_map (λ (t : Task). t.number.0) (find (is_untold r) c.tasks))
  next-is =
      first-case (is_untold r) c.tasks (λ o f. cpu_of job (telling c r o) ≡ quiet_in job (cpu_of job c) r (option_map (λ (t : Task). t.number.0) f))
      (λ none. after-is job c k)
      (λ i t at is. ap (λ o. let me : Cpu = record (cpu_of job c) { phase = machine.StoringQuiet r (number_or 0 o) } in me) at)

  on-is : cpu_of job (poll_on c r) ≡ machine.poll_on job (cpu_of job c) r
  on-is = next-is ∙ ap (quiet_in job (cpu_of job c) r) (sym (untold-is job c.cpu.0 c.tasks k.own.numbers' r))

  -- the next store counts as the steps before it
  on-for : ((i : ℕ) → first_untold r c.tasks ≡ Some i → c.count ≤ c.quantum + (2 + i)) → IsFor job (poll_on c r)
  on-for count = by (first_untold r c.tasks) refl
    where
      by : (o : Option ℕ) → first_untold r c.tasks ≡ o → IsFor job (telling c r o)
      by None e = after-for job c k
      by (Some i) e = record {
        own = own-at job c k.own c.present c.count c.ack (StoringQuiet r i);
        present = k.present';
        phase' = (record { before = k.before; count = count i e }, e);
      }

-- the machine's CPU at a phase
pub machine-at : (job : Job) (c : Parts) (v : ℕ) (x : Phase) → phase_in c.tasks c.phase ≡ x
    → cpu_got job (cpu_of job c) v ≡ phase_got job (cpu_of job c) x v
unfolding cpu_got
machine-at job c v x e = ap (λ p. phase_got job (cpu_of job c) p v) e

-- ## the request is loaded

-- a task that isn't running makes no step of a fetch
no-fetch : (o : Option Task) → runs o ≡ false → fetch_step o ≡ 0
no-fetch None e = refl
no-fetch (Some t) e = by t.moment e
  where
    by : (m : Moment) → not (is_polling m) ≡ false → ◌≡◌ {A = ℕ} (cond (is_fetching m) 1 0) 0
    by Polling e = refl
    by _ e = false_true (sym e)

module _ (job : Job) (c : Parts) (v : ℕ) (k : IsFor job c) (e : c.phase ≡ Going) (still : is_running c ≡ false) where
  pub asks : IsPolling job c
  asks = record { own = k.own; present' = k.present; before = waiting job c k e still }

  -- one more step is counted
  asking : IsPolling job (ticked c)
  asking = polling-at job c asks (suc c.count) c.ack

  in-quantum : c.count ≤ c.quantum
  in-quantum = omega (arith, going-count job c k e, no-fetch (present_task c) still)

  -- the machine's task is before a poll
  pub asks-moment : any_left c.tasks ≡ true → ((cpu_of job c).tasks (cpu_of job c).present).moment ≡ machine_task.Polling
  asks-moment any =
      let n = next-act job c asks any in
      ap (λ (x : TaskState). x.moment) (sym (next-state job c asks n)) ∙ before job n.task n.of' n.before

  -- so the machine's CPU loads the request
  machine-asks : machine.going_got job (machine_ticked (cpu_of job c)) v ≡ machine.polling job (machine_ticked (cpu_of job c)) v
  machine-asks = by (any_has_more job (cpu_of job c)) refl
    where
      me : Cpu
      me = machine_ticked (cpu_of job c)

      by : (b : Bool) → any_has_more job (cpu_of job c) ≡ b
          → cond b (machine.present_got job me (me.tasks me.present).moment v) (machine.polling job me v) ≡ machine.polling job me v
      by true more = rw (asks-moment (sym (more-left job c k.own) ∙ more)) refl
      by false none = refl

  -- then its own word is stored, or the poll goes on
  pub asked-is : cpu_of job (polling (ticked c) v) ≡ machine.going_got job (machine_ticked (cpu_of job c)) v
  asked-is =
      by (c.ack == acknowledged (any_left c.tasks) v)
      ∙ ap (λ b. cond (c.ack == acknowledged b v) (machine.poll_on job me v) (record me { phase = machine.StoringAck v })) (sym (more-left job c k.own))
      ∙ sym machine-asks
    where
      me : Cpu
      me = machine_ticked (cpu_of job c)

      by : (b : Bool) → cpu_of job (cond b (poll_on (ticked c) v) (record (ticked c) { phase = StoringAck v }))
          ≡ cond b (machine.poll_on job me v) (record me { phase = machine.StoringAck v })
      by true = on-is job v (ticked c) asking
      by false = refl

  pub asked-for : IsFor job (polling (ticked c) v)
  asked-for =
      if_case (IsFor job) (c.ack == acknowledged (any_left c.tasks) v) (poll_on (ticked c) v) (record (ticked c) { phase = StoringAck v })
      (λ b. on-for job v (ticked c) asking (λ i first. omega (arith, in-quantum)))
      (λ b. record {
        own = own-at job c k.own c.present (suc c.count) c.ack (StoringAck v);
        present = k.present;
        phase' = record { before = asks.before; count = omega (arith, in-quantum) };
      })

-- ## a word is stored

module _ (job : Job) (c : Parts) (k : IsFor job c) where
  -- it was in a poll, and is so after one more step
  pub stores : (more : ℕ) → IsStoring c more → IsPolling job c
  stores more s = record { own = k.own; present' = k.present; before = s.before }

  -- its own
  module _ (r : ℕ) (e : c.phase ≡ StoringAck r) where
    pub at-ack : IsStoring c 1
    at-ack = subst (λ p. IsIn c p) e k.phase'

    acking : IsPolling job (acked (ticked c) r)
    acking = polling-at job c (stores 1 at-ack) (suc c.count) (acknowledged (any_left c.tasks) r)

    pub acked-is : (v : ℕ) → cpu_of job (poll_on (acked (ticked c) r) r) ≡ cpu_got job (cpu_of job c) v
    acked-is v =
        on-is job r (acked (ticked c) r) acking
        ∙ ap (λ b. machine.poll_on job (record (machine_ticked (cpu_of job c)) { ack = acknowledged b r }) r) (sym (more-left job c k.own))
        ∙ sym (machine-at job c v (machine.StoringAck r) (ap (phase_in c.tasks) e))

    pub acked-for : IsFor job (poll_on (acked (ticked c) r) r)
    acked-for = on-for job r (acked (ticked c) r) acking (λ i first. omega (arith, at-ack.count))

  -- that of a task
  module _ (r i : ℕ) (e : c.phase ≡ StoringQuiet r i) where
    pub at-quiet : IsStoring c (2 + i) × (first_untold r c.tasks ≡ Some i)
    at-quiet = subst (λ p. IsIn c p) e k.phase'

    pub teller : (t : Task) × (slice_get c.tasks i ≡ Some t)
    teller = untold-there r c.tasks i at-quiet.1

    abbrev t : Task
    t = teller.0

    task : IsTaskOf job t
    task = named-at (IsTaskOf job) c.tasks i t teller.1 k.own.tasks

    -- the CPU after the store
    abbrev told : Parts
    told = with_task (ticked c) i (told_task r t) c.marked

    told-same : with_told (ticked c) r i ≡ told
    told-same = ap (told_by (ticked c) r i) teller.1

    polls : IsPolling job (ticked c)
    polls = polling-at job c (stores (2 + i) at-quiet.0) (suc c.count) c.ack

    -- what is so of the present task whatever its word, is still so
    stays : (P : Task → Type 0) → ((x : Task) (w : ℕ) → P x → (let y : Task = record x { word = w } in P y))
        → (any_left c.tasks ≡ true → IsSomeAnd (present_task c) P) → any_left told.tasks ≡ true → IsSomeAnd (present_task told) P
    stays P keeps h any =
        at-told P keeps c.tasks i c.present t (told_word r (view_of t)) teller.1
        (h (sym (left-told c.tasks i t (told_word r (view_of t)) teller.1) ∙ any))

    told-polls : IsPolling job told
    told-polls = record {
      own = changed-own job (ticked c) polls.own i t (told_task r t) teller.1 refl c.marked (told-of job t (told_word r (view_of t)) task)
          (named-at (λ x. x.next ≤ suc (all_marked c.marked)) c.tasks i t teller.1 k.own.calls) (omega arith) k.own.left k.own.items;
      present' = stays (λ x. is_left x ≡ true) (λ x w h. h) k.present;
      before = stays (λ x. x.moment ≡ Polling) (λ x w h. h) at-quiet.0.before;
    }

    -- the machine's task has the same word
    word-is : state_of (told_task r t) ≡ with_word r (tasks_by job c.tasks t.number.0)
    word-is =
        ap (λ v. let x : TaskState = record (state_of t) { word = told_word r v } in x) (sym (view-is t))
        ∙ ap (with_word r) (sym (state-at job c.cpu.0 c.tasks k.own.numbers' i t teller.1))

    pub told-is : (v : ℕ) → cpu_of job (poll_on (with_told (ticked c) r i) r) ≡ cpu_got job (cpu_of job c) v
    told-is v =
        ap (λ d. cpu_of job (poll_on d r)) told-same
        ∙ on-is job r told told-polls
        ∙ ap (λ me. machine.poll_on job me r) (changed-is job (ticked c) polls.own i t (told_task r t) teller.1 refl c.marked
        ∙ ap (λ x. let me : Cpu = record (machine_ticked (cpu_of job c)) { tasks = at_put (tasks_by job c.tasks) t.number.0 x } in me) word-is)
        ∙ sym (machine-at job c v (machine.StoringQuiet r t.number.0) (ap (phase_in c.tasks) e ∙ ap (λ o. machine.StoringQuiet r (number_or 0 o)) teller.1))

    pub told-for : IsFor job (poll_on (with_told (ticked c) r i) r)
    told-for =
        subst (λ d. IsFor job (poll_on d r)) (sym told-same)
        (on-for job r told told-polls (λ j next.
        omega (arith, told-before r told.tasks (suc i) j (told-next r c.tasks i t at-quiet.1) next, at-quiet.0.count)))
