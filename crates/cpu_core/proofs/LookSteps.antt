-- The looks of a CPU of code are the machine's, step by step.
use Rattle.std.proofs.Common.{cond, ◌≡◌, ℕ, ◌<◌, Bool, true, false, ◌==◌, refl, sym, ◌∙◌, ap, subst}
use Rattle.ft_base.specs.Job.{Job}
use Rattle.word_map.specs.Contents.{greatest_half}
use Rattle.word_machine.specs.Cpu.{cpu_got, going_got, looks}
use Rattle.word_machine.specs.Cpu as machine
use Rattle.word_machine.specs.Laws.{CpuTakes, LookTakes, PhaseTakes}
use Rattle.cpu_core.specs.declared.parts.Parts.{Parts}
use Rattle.cpu_core.specs.declared.parts.Phase.TheVariants.{Going, Looked, Answering}
use Rattle.cpu_core.specs.CpuOps.{is_looking}
use Rattle.cpu_core.specs.CpuSteps.{answered, looked}
use Rattle.cpu_core.specs.Cpus.{IsFor, IsGoing, IsIn, cpu_of, phase_in}
use Rattle.cpu_core.proofs.Changed.{own-at}
use Rattle.cpu_core.proofs.CpuNext.{looking-is}
use Rattle.cpu_core.proofs.Polls.{machine-at}

module _ (job : Job) (c : Parts) (v : ℕ) (k : IsFor job c) where
  -- ## the load

  module _ (e : c.phase ≡ Going) (look : is_looking c ≡ true) where
    looks-too : looks job (cpu_of job c) ≡ true
    looks-too = sym (looking-is job c k) ∙ look

    pub looked-is : cpu_of job (looked c v) ≡ cpu_got job (cpu_of job c) v
    looked-is =
        by (c.ack == v)
        ∙ ap (λ b. cond b (machine.looked (cpu_of job c) v) (going_got job (machine.ticked (cpu_of job c)) v)) (sym looks-too)
        ∙ sym (machine-at job c v machine.Going (ap (phase_in c.tasks) e))
      where
        by : (b : Bool) → cpu_of job (record c { phase = cond b Looked (Answering v) })
            ≡ record (cpu_of job c) { phase = cond b machine.Looked (machine.Answering v) }
        by true = refl
        by false = refl

    pub looked-for : IsFor job (looked c v)
    looked-for = by (c.ack == v)
      where
        within : IsGoing c
        within = subst (λ p. IsIn c p) e k.phase'

        by : (b : Bool) → IsFor job (record c { phase = cond b Looked (Answering v) })
        by true = record { own = own-at job c k.own c.present c.count c.ack Looked; present = k.present; phase' = within }
        by false = record { own = own-at job c k.own c.present c.count c.ack (Answering v); present = k.present; phase' = within }

    -- the request that it loads fits
    pub look-request : CpuTakes job (cpu_of job c) v → v < greatest_half
    look-request takes =
        subst (λ b. LookTakes job (cpu_of job c) b v) looks-too (subst (λ p. PhaseTakes job (cpu_of job c) (phase_in c.tasks p) v) e takes)

  -- ## the store

  module _ (r : ℕ) (e : c.phase ≡ Answering r) where
    pub answered-is : cpu_of job (answered c r) ≡ cpu_got job (cpu_of job c) v
    answered-is = sym (machine-at job c v (machine.Answering r) (ap (phase_in c.tasks) e))

    pub answered-for : IsFor job (answered c r)
    answered-for = record {
      own = own-at job c k.own c.present c.count r Going;
      present = k.present;
      phase' = subst (λ p. IsIn c p) e k.phase';
    }
