-- A CPU switches to its next task as the machine's CPU does.
use Rattle.std.proofs.Common.{cond, ◌≡◌, ℕ, ◌+◌, ◌<◌, ◌≤◌, Bool, true, false, not, ◌||◌, nat_le, leb-false, length, get_or, Some, None, refl, sym, ap, subst, ◌∙◌, arith}
use Rattle.std.proofs.Math.Bool.{or_assoc}
use Rattle.std.proofs.lemmas.Bool.{not-false}
use Rattle.std.specs.Prelude.{Option, IsSome, IsSomeAnd, slice_get}
use Rattle.ft_base.specs.Job.{Job}
use Rattle.ft_base.specs.Tasks.{tasks_of}
use Rattle.ft_base.proofs.Small.{false_true, or-false_both}
use Rattle.word_map.specs.Words.{at_put}
use Rattle.word_machine.specs.Cpu.{Cpu, has_more, next_task, switched as machine_switched}
use Rattle.word_machine.proofs.Small.{if_case}
use Rattle.cpu_core.specs.declared.parts.Parts.{Parts}
use Rattle.cpu_core.specs.declared.parts.Phase.TheVariants.{Going}
use Rattle.task_core.specs.declared.task.Task.{Task}
use Rattle.cpu_core.specs.CpuOps.{present_task}
use Rattle.cpu_core.specs.CpuSteps.{switched, switched_from}
use Rattle.cpu_core.specs.Cpus.{IsFor, IsIn, IsOwn, cpu_of, fetch_step, number_or, numbers}
use Rattle.cpu_core.specs.Marks.{Marks}
use Rattle.task_core.specs.Starts.{is_left}
use Rattle.task_core.specs.States.{state_of}
use Rattle.cpu_core.specs.Turns.{any_left, next_left}
use Rattle.cpu_core.proofs.Changed.{changed-numbers, own-at, present-changed, with_task}
use Rattle.cpu_core.proofs.Lookups.{get-set, more-at, next-is, next-left, next-there}

-- ## which task runs

-- the next task runs, from its first step on
abbrev turned : Parts → Parts
turned c = record c { present = next_left c.tasks c.present; count = 0 }

-- the present task makes room for the next one
abbrev makes_room : Parts → Bool → Task → Bool
makes_room c unmet t = not (is_left t) || (unmet || nat_le c.quantum c.count)

turned-or : (c : Parts) (unmet : Bool) (t : Task) → present_task c ≡ Some t → switched c unmet ≡ cond (makes_room c unmet t) (turned c) c
turned-or c unmet t e = rw e refl

module _ (c : Parts) (unmet : Bool) (t : Task) (e : slice_get c.tasks c.present ≡ Some t) where
  switched-case : (P : Parts → Type 0) → P (turned c) → (makes_room c unmet t ≡ false → P c) → P (switched c unmet)
  switched-case P next same = rw (turned-or c unmet t e) (if_case P (makes_room c unmet t) (turned c) c (λ b. next) same)

  -- the steps since the last switch are within the quantum
  pub switched-count : (switched c unmet).count ≤ (switched c unmet).quantum
  switched-count = switched-case (λ d. d.count ≤ d.quantum) (omega arith) within
    where
      within : makes_room c unmet t ≡ false → c.count ≤ c.quantum
      within stays =
          let lt : c.count < c.quantum = leb-false c.quantum c.count (or-false_both unmet _ (or-false_both (not (is_left t)) _ stays).1).1 in omega arith

  -- the present task has an act, if any has
  pub switched-present : any_left (switched c unmet).tasks ≡ true → IsSomeAnd (present_task (switched c unmet)) (λ u. is_left u ≡ true)
  switched-present =
      switched-case (λ d. any_left d.tasks ≡ true → IsSomeAnd (present_task d) (λ u. is_left u ≡ true)) (next-left c.tasks c.present)
      (λ stays any. rw e (not-false (is_left t) (or-false_both _ _ stays).0))

-- what it has marked stays
pub switched-marked : (c : Parts) (unmet : Bool) → (switched c unmet).marked ≡ c.marked
switched-marked c unmet = by (present_task c)
  where
    by : (o : Option Task) → (switched_from c unmet o).marked ≡ c.marked
    by None = refl
    by (Some t) = if_case (λ (d : Parts). d.marked ≡ c.marked) _ _ _ (λ e. refl) (λ e. refl)

-- a number or another one is that number, if there is one
number-there : (n m : ℕ) (o : Option Task) → IsSome o → number_or n o ≡ number_or m o
number-there n m None k = false_true k
number-there n m (Some t) k = refl

-- ## a CPU of a job

-- at its tasks, it goes on if its present task has an act as long as any has, and its quantum is not used up
pub own-for : (job : Job) (c : Parts) → IsOwn job c → c.phase ≡ Going → (any_left c.tasks ≡ true → IsSomeAnd (present_task c) (λ t. is_left t ≡ true))
    → c.count ≤ c.quantum + fetch_step (present_task c) → IsFor job c
own-for job c k going has within = record { own = k; present = has; phase' = subst (λ p. IsIn c p) (sym going) within }

-- after a step that leaves no fetch and no poll halfway, before it is known whether it switches
pub switched-for : (job : Job) (c : Parts) (unmet : Bool) (t : Task) → slice_get c.tasks c.present ≡ Some t → IsOwn job c → c.phase ≡ Going
    → IsFor job (switched c unmet)
switched-for job c unmet t e k going =
    own-for job (switched c unmet)
    (switched-case c unmet t e (IsOwn job) (own-at job c k (next_left c.tasks c.present) 0 c.ack c.phase) (λ stays. k))
    (switched-case c unmet t e (λ d. d.phase ≡ Going) going (λ stays. going))
    (switched-present c unmet t e)
    (let within = switched-count c unmet t e in omega arith)

-- ## the machine's CPU

module _ (job : Job) (c : Parts) (t : Task) (e : slice_get c.tasks c.present ≡ Some t) (ns : numbers c.tasks ≡ tasks_of job c.cpu.0) where
  -- it knows the same of which task runs
  has-is : has_more (cpu_of job c).tasks (cpu_of job c).present ≡ is_left t
  has-is = rw e (more-at job c.cpu.0 c.tasks ns c.present t e)

  next-same : number_or (length job.tasks) (slice_get c.tasks (next_left c.tasks c.present)) ≡ next_task job (cpu_of job c)
  next-same =
      number-there (length job.tasks) 0 _ (next-there c.tasks c.present t e)
      ∙ sym (rw e (next-is job c.cpu.0 c.tasks ns c.present t e))

  -- the machine's CPU whose next task is this one
  abbrev turned_to : ℕ → Cpu
  turned_to n = record (cpu_of job c) { present = n; count = 0 }

  turned-by : (b : Bool) → cpu_of job (cond b (turned c) c) ≡ cond b (turned_to (next_task job (cpu_of job c))) (cpu_of job c)
  turned-by true = ap turned_to next-same
  turned-by false = refl

pub switch-is : (job : Job) (c : Parts) (unmet : Bool) (t : Task) → slice_get c.tasks c.present ≡ Some t
    → numbers c.tasks ≡ tasks_of job c.cpu.0 → c.quantum ≡ get_or job.quanta c.cpu.0 1
    → cpu_of job (switched c unmet) ≡ machine_switched job unmet (cpu_of job c)
switch-is job c unmet t e ns q =
    ap (cpu_of job) (turned-or c unmet t e)
    ∙ turned-by job c t e ns (makes_room c unmet t)
    ∙ sym (rw (has-is job c t e ns, sym q, or_assoc (not (is_left t)) unmet (nat_le c.quantum c.count)) refl)

-- the same after a step of the present task
pub moved-is : (job : Job) (c : Parts) (k : IsOwn job c) (t u : Task) → slice_get c.tasks c.present ≡ Some t → u.number ≡ t.number → (m : Marks) (unmet : Bool)
    → cpu_of job (switched (with_task c c.present u m) unmet)
    ≡ machine_switched job unmet (record (cpu_of job c) { tasks = at_put (cpu_of job c).tasks (cpu_of job c).present (state_of u) })
moved-is job c k t u there same m unmet =
    switch-is job (with_task c c.present u m) unmet u (get-set c.tasks c.present t u there)
    (changed-numbers job c k c.present t u there same m) k.quantum
    ∙ ap (machine_switched job unmet) (present-changed job c k t u there same m)
