use Rattle.std.proofs.Common.{ap}
use Rattle.control_core.specs.declared.phase.Phase.TheVariants as phase
use Rattle.control_core.specs.ControlInvariant.{asked, busy}
use Rattle.control_core.proofs.ControlFields.{patch-go, phase-seen}
use Rattle.control_core.proofs.control.Control.linked.Goals as goal

pub invariant_of-self-else-is_some : goal.invariant_of-self-else-is_some
invariant_of-self-else-is_some c =
    let at' = phase-seen c.self.inside c.args.self.now (phase.Linking c.args.linker) c.self.view_is c.requires.phase in
    patch-go c.self.inside c.batch_phase-self-inside.result _ c.self.invariant (ap busy at') (ap asked at')
    c.last.ensures c.batch_phase-self-inside.ensures
