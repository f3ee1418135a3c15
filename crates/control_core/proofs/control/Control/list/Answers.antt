use Rattle.control_core.proofs.ControlFields.{asked-seen, busy-seen, list-go}
use Rattle.control_core.proofs.control.Control.list.Goals as goal

pub invariant_of-self : goal.invariant_of-self
invariant_of-self c =
    list-go c.self.inside c.list_phase-self-inside.result _ c.self.invariant
    (busy-seen c.self.inside c.args.self.now c.self.view_is c.requires.begun)
    (asked-seen c.self.inside c.args.self.now c.self.view_is c.requires.none)
    c.last.ensures c.list_phase-self-inside.ensures
