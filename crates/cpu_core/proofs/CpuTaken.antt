-- A step of a CPU that takes a value: for some job the value fits, and then it is the step of each job of which it is the CPU.
use Rattle.std.proofs.Common.{◌≡◌, ℕ, ◌++◌, Option, IsSome, sym, ap, ◌∙◌, subst}
use Rattle.ft_base.specs.Job.{Job}
use Rattle.word_map.specs.Ops.{WordOp}
use Rattle.word_machine.specs.Cpu.{cpu_got, cpu_next}
use Rattle.word_machine.specs.Laws.{CpuTakes}
use Rattle.word_machine.specs.Limits.{IsLimited}
use Rattle.cpu_core.specs.declared.parts.Parts.{Parts}
use Rattle.cpu_core.specs.CpuNeeds.{CpuFits}
use Rattle.cpu_core.specs.CpuSteps.{marks_in, stepped}
use Rattle.cpu_core.specs.Cpus.{IsFor, cpu_of}
use Rattle.cpu_core.specs.Marks.{HasRoom, Marks}
use Rattle.cpu_core.specs.Taken.{IsTaken}
use Rattle.task_core.specs.TaskOps.{item_in}
use Rattle.cpu_core.proofs.CpuLaw.{cpu-fits, cpu-for, cpu-is, cpu-items}
use Rattle.cpu_core.proofs.CpuNext.{cpu-op-is}
use Rattle.cpu_core.proofs.Handed.{stepped-marked}

module _ (c : Parts) (v : ℕ) (taken : IsTaken c v) where
  pub taken-fits : CpuFits c v
  taken-fits = cpu-fits taken.job c v taken.is_for taken.next taken.limited taken.takes taken.room

  module _ (job : Job) (limited : IsLimited job) (k : IsFor job c) (takes : CpuTakes job (cpu_of job c) v) where
    -- it has one next operation, whichever the job
    same : cpu_next taken.job (cpu_of taken.job c) ≡ cpu_next job (cpu_of job c)
    same = sym (cpu-op-is taken.job c taken.is_for) ∙ cpu-op-is job c k

    next : IsSome (cpu_next job (cpu_of job c))
    next = subst (λ (op : Option WordOp). IsSome op) same taken.next

    room : IsSome (item_in (cpu_next job (cpu_of job c))) → HasRoom c.marked
    room = subst (λ op. IsSome (item_in op) → HasRoom c.marked) same taken.room

    pub taken-for : IsFor job (stepped c v)
    taken-for = cpu-for job c v k next limited takes room

    pub taken-is : cpu_of job (stepped c v) ≡ cpu_got job (cpu_of job c) v
    taken-is = cpu-is job c v k next limited takes

    pub taken-items : (stepped c v).marked.items ≡ c.marked.items ++ marks_in (cpu_next job (cpu_of job c)) v
    taken-items = cpu-items job c v k

-- ## room

pub room-kept : (c : Parts) (v : ℕ) → (stepped c v).marked.room ≡ c.marked.room
room-kept c v = ap (λ (m : Marks). m.room) (stepped-marked c v)

pub left-kept : (c : Parts) (v : ℕ) → (stepped c v).marked.left ≡ c.marked.left
left-kept c v = ap (λ (m : Marks). m.left) (stepped-marked c v)
