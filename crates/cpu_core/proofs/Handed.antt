-- A step but for what it marks: what is marked is added to a list that stays otherwise, or handed on.
use Rattle.std.proofs.Common.{cond, ◌≡◌, ℕ, suc, ◌≤◌, ◌++◌, Bool, true, false, [], length, Option, Some, None, refl, sym, ap, ◌∙◌, subst, arith}
use Rattle.std.specs.Prelude.{slice_get, IsSome, IsSomeAnd}
use Rattle.std.proofs.lemmas.List.{append-nil}
use Rattle.ft_base.specs.declared.item.Item.{Item}
use Rattle.ft_base.specs.declared.limits.TheConstants.{ITEMS}
use Rattle.ft_base.specs.Job.{Job}
use Rattle.word_map.specs.Words.{Want}
use Rattle.word_map.specs.Ops.{Load}
use Rattle.ft_base.proofs.Small.{Each-weaker, false_true}
use Rattle.cpu_core.specs.declared.parts.Parts.{Parts}
use Rattle.cpu_core.specs.declared.parts.Phase.{Phase}
use Rattle.cpu_core.specs.declared.parts.Phase.TheVariants.{Going, Looked, Answering, StoringAck, StoringQuiet, Over}
use Rattle.task_core.specs.declared.task.Task.{Task}
use Rattle.cpu_core.specs.CpuNeeds.{CpuFits, FitsIn, GoingFits}
use Rattle.cpu_core.specs.CpuOps.{cpu_op, going_op, is_looking, is_running, op_by, phase_op, present_task, told_op}
use Rattle.cpu_core.specs.CpuSteps.{acked, answered, gone_on, looked, marks_in, poll_on, polling, stamped, stepped, stepped_in, switched, ticked, unmarked, went, went_by, with_step, with_told}
use Rattle.cpu_core.specs.Cpus.{IsFor, IsIn, all_marked}
use Rattle.cpu_core.specs.Marks.{HasRoom, Marks, handed_on, passed}
use Rattle.task_core.specs.Leads.{is_fetching}
use Rattle.task_core.specs.Starts.{is_unmet}
use Rattle.task_core.specs.TaskOps.{item_in, op_of}
use Rattle.task_core.specs.TaskSteps.{task_after}
use Rattle.cpu_core.proofs.Polls.{acked-marked, asked-marked, told-marked}
use Rattle.cpu_core.proofs.Switched.{switched-marked}

-- ## what is marked

-- a task's operation
went-marked : (c : Parts) (v : ℕ) (o : Option Task) → (went_by c v o).marked ≡ record c.marked { items = c.marked.items ++ marks_in (op_by o) v }
went-marked c v None = λ i. record c.marked { items = sym (append-nil c.marked.items) i }
went-marked c v (Some t) = by (is_fetching (task_after t c.setup v).moment)
  where
    one : Parts
    one = with_step c (task_after t c.setup v) (marks_in (op_of t) v)

    by : (b : Bool) → (cond b one (switched one (is_unmet t v))).marked ≡ one.marked
    by true = refl
    by false = switched-marked one (is_unmet t v)

-- ## any step

-- a poll marks nothing
pub told-none : (r : ℕ) (o : Option Task) → item_in (told_op r o) ≡ None
told-none r None = refl
told-none r (Some t) = refl

-- a CPU that has marked nothing is as it was but for the rest
pub unmarked-same : (before c : Parts) → c.marked ≡ before.marked → c ≡ unmarked before c
unmarked-same before c e = λ i. record c { marked = e i }

module _ (c : Parts) (v : ℕ) where
  abbrev Marked : Parts → Option Item → Type 0
  Marked d o = d.marked ≡ record c.marked { items = c.marked.items ++ stamped v o }

  nothing : (d : Parts) (o : Option Item) → o ≡ None → d.marked ≡ c.marked → Marked d o
  nothing d o none same = same ∙ λ i. record c.marked { items = (sym (append-nil c.marked.items) ∙ ap (λ p. c.marked.items ++ stamped v p) (sym none)) i }

  -- a step that is none of a look
  going-marked : (p : Phase) → Marked (gone_on (record (ticked c) { phase = p }) v) (item_in (going_op c))
  going-marked p = by (is_running c)
    where
      c' : Parts
      c' = record (ticked c) { phase = p }

      by : (b : Bool) → Marked (cond b (went c' v) (polling c' v)) (item_in (cond b (op_by (present_task c)) (Some (Load Want))))
      by true = went-marked c' v (present_task c)
      by false = nothing (polling c' v) None refl (asked-marked c' v)

  phase-marked : (p : Phase) → Marked (stepped_in c p v) (item_in (phase_op c p))
  phase-marked Going = by (is_looking c)
    where
      by : (b : Bool) → Marked (cond b (looked c v) (gone_on (ticked c) v)) (item_in (cond b (Some (Load Want)) (going_op c)))
      by true = nothing (looked c v) None refl refl
      by false = going-marked c.phase
  phase-marked Looked = going-marked Going
  phase-marked (Answering r) = nothing (answered c r) None refl refl
  phase-marked (StoringAck r) = nothing (poll_on (acked (ticked c) r) r) None refl (acked-marked (ticked c) r)
  phase-marked (StoringQuiet r i) =
      nothing (poll_on (with_told (ticked c) r i) r) (item_in (told_op r (slice_get c.tasks i))) (told-none r (slice_get c.tasks i)) (told-marked (ticked c) r i)
  phase-marked Over = nothing c None refl refl

  -- what is marked comes to the list, which is as it was otherwise
  pub stepped-marked : (stepped c v).marked ≡ record c.marked { items = c.marked.items ++ marks_in (cpu_op c) v }
  stepped-marked = phase-marked c.phase

  -- so a step is that but for what it marks, and then the mark
  pub stepped-from : (o : Option Item) → o ≡ item_in (cpu_op c)
      → stepped c v ≡ record (unmarked c (stepped c v)) { marked = record c.marked { items = c.marked.items ++ stamped v o } }
  stepped-from o e =
      λ i. record (stepped c v) { marked = (stepped-marked ∙ ap (λ p. record c.marked { items = c.marked.items ++ stamped v p }) (sym e)) i }

-- ## room

-- whoever marks an item has room for it
pub has-room : (c : Parts) (v : ℕ) → CpuFits c v → IsSome (item_in (cpu_op c)) → HasRoom c.marked
has-room c v fits = in-phase c.phase fits.phase'
  where
    at-task : (o : Option Task) → IsSomeAnd o (λ t. IsSome (item_in (op_of t)) → HasRoom c.marked) → IsSome (item_in (op_by o)) → HasRoom c.marked
    at-task None room some = absurd room
    at-task (Some t) room some = room some

    going : GoingFits c v → IsSome (item_in (going_op c)) → HasRoom c.marked
    going fits = by (is_running c) refl
      where
        by : (b : Bool) → is_running c ≡ b → IsSome (item_in (cond b (op_by (present_task c)) (Some (Load Want)))) → HasRoom c.marked
        by true r some = at-task (present_task c) (fits.0 r).room some
        by false r some = false_true some

    in-phase : (p : Phase) → FitsIn c p v → IsSome (item_in (phase_op c p)) → HasRoom c.marked
    in-phase Going fits some = by (is_looking c) refl some
      where
        by : (b : Bool) → is_looking c ≡ b → IsSome (item_in (cond b (Some (Load Want)) (going_op c))) → HasRoom c.marked
        by true l some = false_true some
        by false l some = going (fits.1 l) some
    in-phase Looked fits some = going fits some
    in-phase (Answering r) fits some = false_true some
    in-phase (StoringAck r) fits some = false_true some
    in-phase (StoringQuiet r i) fits some = false_true (subst (λ (o : Option Item). IsSome o) (told-none r (slice_get c.tasks i)) some)
    in-phase Over fits some = false_true some

-- ## other marks

-- where the CPU stands is nothing of what it has marked
in-kept : (c : Parts) (m : Marks) (p : Phase) → IsIn c p → IsIn (record c { marked = m }) p
in-kept c m Going k = k
in-kept c m Looked k = k
in-kept c m (Answering r) k = k
in-kept c m (StoringAck r) k = record { before = k.before; count = k.count }
in-kept c m (StoringQuiet r i) k = (record { before = k.0.before; count = k.0.count }, k.1)
in-kept c m Over k = k

-- it stays a CPU of the job if it counts no fewer marks, and no more than there may be
pub marked-for : (job : Job) (c : Parts) (m : Marks) → IsFor job c → all_marked c.marked ≤ all_marked m → m.left ≤ ITEMS → length m.items ≤ m.left
    → IsFor job (record c { marked = m })
marked-for job c m k more left items = record {
  own = record {
    setup = k.own.setup;
    cpu = k.own.cpu;
    quantum = k.own.quantum;
    quick = k.own.quick;
    numbers' = k.own.numbers';
    tasks = k.own.tasks;
    calls = Each-weaker (λ t. t.next ≤ suc (all_marked c.marked)) (λ t. t.next ≤ suc (all_marked m)) c.tasks (λ t le. omega (arith, le, more)) k.own.calls;
    left = left;
    items = items;
  };
  present = k.present;
  phase' = in-kept c m c.phase k.phase';
}

-- an item that is handed on counts as one that is kept
module _ (job : Job) (c : Parts) (m : Marks) (v : ℕ) (none : m.items ≡ []) where
  pub handed-for : (o : Option Item) → c.marked ≡ record m { items = m.items ++ stamped v o } → IsFor job c → IsFor job (record c { marked = handed_on o m })
  handed-for None e k =
      let left : c.marked.left ≡ m.left = ap (λ (n : Marks). n.left) e in
      let items : length c.marked.items ≡ 0 = ap (λ (n : Marks). length n.items) e ∙ rw none refl in
      let empty : length m.items ≡ 0 = ap length none in
      marked-for job c m k (omega (arith, left, items, empty)) (omega (arith, left, k.own.left)) (omega (arith, empty))
  handed-for (Some item) e k =
      let left : c.marked.left ≡ m.left = ap (λ (n : Marks). n.left) e in
      let items : length c.marked.items ≡ 1 = ap (λ (n : Marks). length n.items) e ∙ rw none refl in
      let empty : length m.items ≡ 0 = ap length none in
      marked-for job c (passed m) k (omega (arith, left, items, empty, k.own.left, k.own.items)) (omega (arith, left, k.own.left)) (omega (arith, empty))
