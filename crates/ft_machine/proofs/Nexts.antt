-- The operation that an actor's next step makes, as code has it.
use Rattle.std.proofs.Common.{cond, ◌≡◌, ◌<◌, ◌≤◌, false, List, option_map, length, slice_get, Option, Some, None, sym, ap, ◌∙◌, subst, arith}
use Rattle.std.specs.Prelude.{nat_lt}
use Rattle.std.proofs.lemmas.Bool.{lt-ltb}
use Rattle.std.proofs.lemmas.Bool.Decides.{nat_tests}
use Rattle.std.proofs.lemmas.Option.{slice_get_within}
use Rattle.ft_base.specs.declared.item.Item.{Item}
use Rattle.ft_base.specs.declared.number.CpuNo.{CpuNo}
use Rattle.ft_base.specs.declared.turn.Actor.TheVariants as actor
use Rattle.ft_base.specs.Job.{Job}
use Rattle.word_map.specs.declared.op.Op.{Op}
use Rattle.word_map.specs.declared.shape.Shape.{Shape}
use Rattle.word_map.specs.Ops.{placed}
use Rattle.word_map.specs.Shapes.{shape_of}
use Rattle.word_machine.specs.Control.{control_next}
use Rattle.word_machine.specs.Cpu.{cpu_next, cpu_start}
use Rattle.control_core.specs.Seated.{IsFor as IsControlFor, control_of}
use Rattle.cpu_core.specs.declared.parts.Parts.{Parts as CpuParts}
use Rattle.cpu_core.specs.Cpus.{cpu_of}
use Rattle.ft_machine.specs.Nexts.{next_op}
use Rattle.ft_machine.specs.Worlds.{IsFor, Parts, cpu_or, world_of}

module _ (job : Job) (past : List Item) (w : Parts) (k : IsFor job past w) where
  -- code's answer for control
  pub control-next : (o : Option Op)
      → ((job' : Job) → IsControlFor job' w.control → o ≡ option_map (placed w.control.shape) (control_next job' (control_of w.control)))
      → o ≡ option_map (placed (shape_of job)) (next_op job actor.Control (world_of job past w))
  control-next o answer =
      answer job k.control'
      ∙ ap (λ (shape : Shape). option_map (placed shape) (control_next job (control_of w.control))) k.control'.shape

  -- code's answer for a CPU
  pub cpu-next : (n : CpuNo) (x : CpuParts) → slice_get w.cpus n.0 ≡ Some x → (o : Option Op)
      → o ≡ option_map (placed (shape_of job)) (cpu_next job (cpu_of job x))
      → o ≡ option_map (placed (shape_of job)) (next_op job (actor.Cpu n) (world_of job past w))
  cpu-next n x at o answer =
      let inside = subst (λ m. n.0 < m) k.cpus' (slice_get_within w.cpus n.0 x at) in
      answer
      ∙ sym (ap (λ b. option_map (placed (shape_of job)) (cond b (cpu_next job ((world_of job past w).cpus n.0)) None)) (lt-ltb n.0 (length job.quanta) inside)
      ∙ ap (λ own. option_map (placed (shape_of job)) (cpu_next job (cpu_or job (cpu_start job n.0) own))) at)

  -- a CPU that there is not has none
  pub no-cpu-next : (n : CpuNo) → length w.cpus ≤ n.0 → None ≡ option_map (placed (shape_of job)) (next_op job (actor.Cpu n) (world_of job past w))
  no-cpu-next n above =
      let many = k.cpus' in
      let no : nat_lt n.0 (length job.quanta) ≡ false = grind (arith, nat_tests) in
      sym (ap (λ b. option_map (placed (shape_of job)) (cond b (cpu_next job ((world_of job past w).cpus n.0)) None)) no)
