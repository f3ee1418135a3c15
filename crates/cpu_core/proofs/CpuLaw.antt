-- A step of a CPU of code is a row of the word machine's CPU.
use Rattle.std.proofs.Common.{cond, ◌≡◌, ℕ, ◌+◌, ◌<◌, ◌++◌, Bool, true, false, Option, Some, IsSome, refl, sym, ap, ◌∙◌, subst}
use Rattle.std.proofs.lemmas.Bool.{false≢true}
use Rattle.std.proofs.lemmas.Option.{slice_get_within}
use Rattle.ft_base.specs.Job.{Job}
use Rattle.word_map.specs.Contents.{greatest_half}
use Rattle.word_map.specs.Ops.{WordOp, Load}
use Rattle.word_map.specs.Words.{Want}
use Rattle.word_machine.specs.Cpu.{any_has_more, cpu_got, cpu_next, going_got, going_op, looks, ticked as machine_ticked}
use Rattle.word_machine.specs.Cpu as machine
use Rattle.word_machine.specs.Laws.{CpuTakes, GoingTakes, LookTakes, PhaseTakes, PresentTakes}
use Rattle.word_machine.specs.Limits.{IsLimited}
use Rattle.cpu_core.specs.declared.parts.Parts.{Parts}
use Rattle.cpu_core.specs.declared.parts.Phase.{Phase}
use Rattle.cpu_core.specs.declared.parts.Phase.TheVariants.{Going, Looked, Answering, StoringAck, StoringQuiet, Over}
use Rattle.cpu_core.specs.CpuNeeds.{CpuFits, FitsIn, GoFits, GoingFits}
use Rattle.cpu_core.specs.CpuOps.{is_looking, is_running, phase_op}
use Rattle.cpu_core.specs.CpuSteps.{acked, answered, gone_on, looked, marks_in, poll_on, polling, stepped, stepped_in, ticked, went, with_told}
use Rattle.cpu_core.specs.Cpus.{IsFor, IsGoing, IsIn, cpu_of, phase_in}
use Rattle.cpu_core.specs.Marks.{HasRoom, Marks}
use Rattle.task_core.specs.TaskOps.{item_in}
use Rattle.cpu_core.proofs.Changed.{own-at}
use Rattle.cpu_core.proofs.CpuNext.{cpu-op-is, looking-is, more-is}
use Rattle.cpu_core.proofs.GoSteps.{count-fits}
use Rattle.cpu_core.proofs.GoStepsWent.{going-fits, going-for, going-is}
use Rattle.cpu_core.proofs.Handed.{stepped-marked}
use Rattle.cpu_core.proofs.LookSteps.{answered-for, answered-is, look-request, looked-for, looked-is}
use Rattle.cpu_core.proofs.PollEnd.{can-begin}
use Rattle.cpu_core.proofs.Polls.{acked-for, acked-is, asked-for, asked-is, asks, asks-moment, at-ack, at-quiet, machine-at, stores, teller, told-for, told-is}

-- ## a step that is none of a look

-- the CPU at its tasks, its look over
abbrev at-tasks : Parts → Parts
at-tasks c = record c { phase = Going }

-- The next step is one of the present task, or the first of a poll.
--   going       the CPU is within its quantum
--   op, got     the operation is the machine's, and so is what a value makes of it
--   takes       so is what it asks of the value
record IsStep (job : Job) (c : Parts) (v : ℕ) : Type 0 where
  pub going : IsGoing c
  pub op : cpu_next job (cpu_of job c) ≡ going_op job (cpu_of job c)
  pub got : cpu_got job (cpu_of job c) v ≡ going_got job (machine_ticked (cpu_of job (at-tasks c))) v
  pub takes : CpuTakes job (cpu_of job c) v → GoingTakes job (cpu_of job c) (any_has_more job (cpu_of job c)) v

module _ (job : Job) (c : Parts) (v : ℕ) (k : IsFor job c) where
  -- no look is due
  unlooked : c.phase ≡ Going → is_looking c ≡ false → IsStep job c v
  unfolding cpu_next
  unlooked e none = record {
    going = subst (λ p. IsIn c p) e k.phase';
    op = ap (λ p. machine.phase_op job me (phase_in c.tasks p)) e ∙ ap (λ b. cond b (Some (Load Want)) (going_op job me)) not-due;
    got = machine-at job c v machine.Going (ap (phase_in c.tasks) e)
        ∙ ap (λ b. cond b (machine.looked me v) (going_got job (machine_ticked me) v)) not-due
        ∙ ap (λ p. going_got job (record (machine_ticked me) { phase = phase_in c.tasks p }) v) e;
    takes = λ takes. subst (λ b. LookTakes job me b v) not-due (subst (λ p. PhaseTakes job me (phase_in c.tasks p) v) e takes);
  }
    where
      me : machine.Cpu
      me = cpu_of job c

      not-due : looks job me ≡ false
      not-due = sym (looking-is job c k) ∙ none

  -- a look is over
  once-looked : c.phase ≡ Looked → IsStep job c v
  unfolding cpu_next
  once-looked e = record {
    going = subst (λ p. IsIn c p) e k.phase';
    op = ap (λ p. machine.phase_op job (cpu_of job c) (phase_in c.tasks p)) e;
    got = machine-at job c v machine.Looked (ap (phase_in c.tasks) e);
    takes = λ takes. subst (λ p. PhaseTakes job (cpu_of job c) (phase_in c.tasks p) v) e takes;
  }

  module _ (s : IsStep job c v) where
    here-for : IsFor job (at-tasks c)
    here-for = record { own = own-at job c k.own c.present c.count c.ack Going; present = k.present; phase' = s.going }

    module _ (limited : IsLimited job) (takes : CpuTakes job (cpu_of job c) v) where
      step-is : cpu_of job (gone_on (ticked (at-tasks c)) v) ≡ cpu_got job (cpu_of job c) v
      step-is = by (is_running c) refl ∙ sym s.got
        where
          by : (b : Bool) → is_running c ≡ b
              → cpu_of job (cond b (went (ticked (at-tasks c)) v) (polling (ticked (at-tasks c)) v))
              ≡ going_got job (machine_ticked (cpu_of job (at-tasks c))) v
          by true r = going-is job (at-tasks c) here-for refl r v limited (s.takes takes)
          by false r = asked-is job (at-tasks c) v here-for refl r

      -- the request that a poll loads fits
      request : is_running c ≡ false → v < greatest_half
      request r = by (any_has_more job (cpu_of job c)) refl (s.takes takes)
        where
          by : (b : Bool) → any_has_more job (cpu_of job c) ≡ b → GoingTakes job (cpu_of job c) b v → v < greatest_half
          by true any small =
              subst (λ m. PresentTakes job ((cpu_of job c).tasks (cpu_of job c).present) m v)
              (asks-moment job (at-tasks c) v here-for refl r (sym (more-is job c k) ∙ any)) small
          by false none small = small

      module _ (room : IsSome (item_in (cpu_next job (cpu_of job c))) → HasRoom c.marked) where
        room-too : IsSome (item_in (going_op job (cpu_of job c))) → HasRoom c.marked
        room-too = subst (λ op. IsSome (item_in op) → HasRoom c.marked) s.op room

        step-for : IsFor job (gone_on (ticked (at-tasks c)) v)
        step-for = by (is_running c) refl
          where
            by : (b : Bool) → is_running c ≡ b → IsFor job (cond b (went (ticked (at-tasks c)) v) (polling (ticked (at-tasks c)) v))
            by true r = going-for job (at-tasks c) here-for refl r v limited (s.takes takes) room-too
            by false r = asked-for job (at-tasks c) v here-for refl r

        step-fits : GoingFits c v
        step-fits = (
          λ r. (let g : GoFits (at-tasks c) v = going-fits job (at-tasks c) here-for refl r v limited (s.takes takes) room-too in
              record { present' = g.present'; task = g.task; room = g.room }),
          λ r. record { fits = request r; act = can-begin job (at-tasks c) (asks job (at-tasks c) v here-for refl r) },
        )

-- ## any step

module _ (job : Job) (c : Parts) (v : ℕ) (k : IsFor job c) (next : IsSome (cpu_next job (cpu_of job c))) where
  -- a CPU at its end has no next operation
  not-over : c.phase ≡ Over → ⊥
  not-over e = false≢true (subst (λ (op : Option WordOp). IsSome op) (sym (cpu-op-is job c k) ∙ ap (phase_op c) e) next)

  -- a step is the load or the store of a look, one of the present task, the first of a poll, or a later one of it
  cases : (P : Parts → Type 0) → (c.phase ≡ Going → is_looking c ≡ true → P (looked c v)) → (IsStep job c v → P (gone_on (ticked (at-tasks c)) v))
      → ((r : ℕ) → c.phase ≡ Answering r → P (answered c r)) → ((r : ℕ) → c.phase ≡ StoringAck r → P (poll_on (acked (ticked c) r) r))
      → ((r i : ℕ) → c.phase ≡ StoringQuiet r i → P (poll_on (with_told (ticked c) r i) r)) → P (stepped c v)
  cases P looks' goes answers acks tells = by c.phase refl
    where
      look : c.phase ≡ Going → (b : Bool) → is_looking c ≡ b → P (cond b (looked c v) (gone_on (ticked c) v))
      look e true l = looks' e l
      look e false l = subst (λ p. P (gone_on (record (ticked c) { phase = p }) v)) (sym e) (goes (unlooked job c v k e l))

      by : (p : Phase) → c.phase ≡ p → P (stepped_in c p v)
      by Going e = look e (is_looking c) refl
      by Looked e = goes (once-looked job c v k e)
      by (Answering r) e = answers r e
      by (StoringAck r) e = acks r e
      by (StoringQuiet r i) e = tells r i e
      by Over e = absurd (not-over e)

  module _ (limited : IsLimited job) (takes : CpuTakes job (cpu_of job c) v) where
    pub cpu-is : cpu_of job (stepped c v) ≡ cpu_got job (cpu_of job c) v
    cpu-is = cases (λ d. cpu_of job d ≡ cpu_got job (cpu_of job c) v) (λ e l. looked-is job c v k e l) (λ s. step-is job c v k s limited takes)
        (λ r e. answered-is job c v k r e) (λ r e. acked-is job c k r e v) (λ r i e. told-is job c k r i e v)

    module _ (room : IsSome (item_in (cpu_next job (cpu_of job c))) → HasRoom c.marked) where
      pub cpu-for : IsFor job (stepped c v)
      cpu-for = cases (IsFor job) (λ e l. looked-for job c v k e l) (λ s. step-for job c v k s limited takes room)
          (λ r e. answered-for job c v k r e) (λ r e. acked-for job c k r e) (λ r i e. told-for job c k r i e)

      fits-in : (p : Phase) → c.phase ≡ p → FitsIn c p v
      fits-in Going e =
          (λ l. look-request job c v k e l takes, λ none. step-fits job c v k (unlooked job c v k e none) limited takes room)
      fits-in Looked e = step-fits job c v k (once-looked job c v k e) limited takes room
      fits-in (Answering r) e = tt
      fits-in (StoringAck r) e = can-begin job c (stores job c k 1 (at-ack job c k r e))
      fits-in (StoringQuiet r i) e =
          let t = teller job c k r i e in
          let at = at-quiet job c k r i e in
          record { within = slice_get_within c.tasks i t.0 t.1; first = at.1; act = can-begin job c (stores job c k (2 + i) at.0) }
      fits-in Over e = tt

      pub cpu-fits : CpuFits c v
      cpu-fits = record { count = count-fits job c limited k next; phase' = fits-in c.phase refl }

-- what is marked
pub cpu-items : (job : Job) (c : Parts) (v : ℕ) → IsFor job c → (stepped c v).marked.items ≡ c.marked.items ++ marks_in (cpu_next job (cpu_of job c)) v
cpu-items job c v k = ap (λ (m : Marks). m.items) (stepped-marked c v) ∙ ap (λ op. c.marked.items ++ marks_in op v) (cpu-op-is job c k)
