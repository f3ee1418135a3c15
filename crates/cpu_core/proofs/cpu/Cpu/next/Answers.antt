use Rattle.std.proofs.Common.{◌∙◌, ap, subst, sym}
use Rattle.std.specs.Prelude.{option_map}
use Rattle.word_map.specs.Ops.{placed}
use Rattle.word_map.specs.Shapes.{shape_of}
use Rattle.word_machine.specs.Cpu.{cpu_next}
use Rattle.cpu_core.specs.CpuOps.{cpu_op}
use Rattle.cpu_core.specs.Cpus.{IsFor, cpu_of}
use Rattle.task_core.specs.Setups.{PlainSetup}
use Rattle.cpu_core.proofs.CpuNext.{cpu-op-is}
use Rattle.cpu_core.proofs.cpu.Cpu.next.Goals as goal

pub returns : goal.returns
returns c = λ job limited is.
    let own : IsFor job c.self.inside.parts = subst (IsFor job) (sym c.self.view_is) is in
    c.op.ensures
    ∙ ap (λ (s : PlainSetup). option_map (placed s.shape) (cpu_op c.self.inside.parts)) own.own.setup
    ∙ ap (λ op. option_map (placed (shape_of job)) op) (cpu-op-is job c.self.inside.parts own ∙ ap (λ d. cpu_next job (cpu_of job d)) c.self.view_is)
