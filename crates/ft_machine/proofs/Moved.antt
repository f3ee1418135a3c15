-- What is said of a machine after a step, and of an equal one.
use Rattle.std.proofs.Common.{cond, ◌≡◌, ◌≤◌, false, List, length, Option, sym, ap, ◌∙◌, subst, arith}
use Rattle.std.specs.Prelude.{nat_lt}
use Rattle.std.proofs.lemmas.Bool.Decides.{nat_tests}
use Rattle.ft_base.specs.declared.item.Item.{Item}
use Rattle.ft_base.specs.declared.number.CpuNo.{CpuNo}
use Rattle.ft_base.specs.declared.turn.Actor.{Actor}
use Rattle.ft_base.specs.declared.turn.Actor.TheVariants as actor
use Rattle.ft_base.specs.Job.{Job}
use Rattle.word_machine.specs.Cpu.{cpu_next}
use Rattle.word_machine.specs.Laws.{Runs}
use Rattle.word_machine.specs.Limits.{IsLimited}
use Rattle.word_machine.specs.Machine.{World, cpu_moved, step}
use Rattle.ft_machine.specs.Worlds.{IsFor, IsRunning, Parts, marked_on, world_of}

-- what is said of a machine after a step
pub record HasMoved (job : Job) (past : List Item) (w : Parts) (s : World) : Type 0 where
  pub is_for : IsFor job past w
  pub is : world_of job past w ≡ s
  pub runs : Runs job (world_of job past w)

-- the machine goes on
pub running-on : (job : Job) → IsLimited job → (past : List Item) (w : Parts) (s : World) → HasMoved job past w s → IsRunning w
running-on job limited past w s m = record { job = job; past = past; limited = limited; is_for = m.is_for; runs = m.runs }

-- the same of an equal machine before the step
pub moved-from : (v w : Parts) → w ≡ v → (gone : Parts) (o : Option Item) (a : Actor)
    → ((job : Job) (past : List Item) → IsLimited job → IsFor job past w → Runs job (world_of job past w)
    → HasMoved job (marked_on o past) gone (step job a (world_of job past w)))
    → (job : Job) (past : List Item) → IsLimited job → IsFor job past v → Runs job (world_of job past v)
    → IsFor job (marked_on o past) gone × (world_of job (marked_on o past) gone ≡ step job a (world_of job past v))
moved-from v w e gone o a go job past limited k r =
    let m = go job past limited (subst (λ p. IsFor job past p) (sym e) k) (subst (λ p. Runs job (world_of job past p)) (sym e) r) in
    (m.is_for, m.is ∙ ap (λ p. step job a (world_of job past p)) e)

-- a CPU that there is not does nothing
pub no-cpu : (job : Job) (past : List Item) (w : Parts) → IsFor job past w → (n : CpuNo) → length w.cpus ≤ n.0 → world_of job past w ≡ step job (actor.Cpu n) (world_of job past w)
unfolding step
no-cpu job past w k n above =
    let many = k.cpus' in
    let no : nat_lt n.0 (length job.quanta) ≡ false = grind (arith, nat_tests) in
    sym (ap (λ b. cond b (cpu_moved job (world_of job past w) n.0 (cpu_next job ((world_of job past w).cpus n.0))) (world_of job past w)) no)
