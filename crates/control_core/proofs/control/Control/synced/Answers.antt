use Rattle.control_core.proofs.ControlFields.{batch-go, busy-seen, made-seen}
use Rattle.control_core.proofs.control.Control.synced.Goals as goal

pub invariant_of-self : goal.invariant_of-self
invariant_of-self c =
    batch-go c.self.inside c.synced.new.self c.batch_phase-self-inside.result _ c.self.invariant
    (busy-seen c.self.inside c.args.self.now c.self.view_is c.requires.begun)
    (made-seen c.self.inside c.args.self.now c.self.view_is c.requires.left)
    c.synced.ensures c.last.ensures c.batch_phase-self-inside.ensures
