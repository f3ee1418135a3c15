use Rattle.std.proofs.Common.{◌≡◌, true, List, sym, ap, ◌∙◌}
use Rattle.site_bytes.specs.declared.insn.SiteChange.{SiteChange}
use Rattle.patch_core.specs.Moves.{batch_next, is_store}
use Rattle.ft_desk.specs.Plans.{plain_plan}
use Rattle.control_core.specs.declared.phase.Phase.TheVariants as phase
use Rattle.control_core.specs.ControlInvariant.{busy}
use Rattle.control_core.proofs.ControlFields.{batch-go, phase-seen, store-go, store-seen}
use Rattle.control_core.proofs.Nexts.{left-at}
use Rattle.control_core.proofs.control.Control.patched.Goals as goal

pub invariant_of-self : goal.invariant_of-self
invariant_of-self c =
    let at' = phase-seen c.self.inside c.args.self.now phase.Patching c.self.view_is c.requires in
    let test : is_store (batch_next (plain_plan c.last.result.now).sites c.did.new.self.made) ≡ true =
    ap (λ (sites : List SiteChange). is_store (batch_next sites c.did.new.self.made)) (sym c.as_slice.ensures.value) ∙ sym c.is_at_store.ensures ∙ c.if-is_at_store.true in
    store-go c.self.inside c.did.new.self _ at' c.did.ensures c.last.ensures test c.self.invariant

pub returns-then-is_at_store : goal.returns-then-is_at_store
returns-then-is_at_store c =
    let at' = phase-seen c.self.inside c.args.self.now phase.Patching c.self.view_is c.requires in
    let test : is_store (batch_next (plain_plan c.last.result.now).sites c.did.new.self.made) ≡ true =
    ap (λ (sites : List SiteChange). is_store (batch_next sites c.did.new.self.made)) (sym c.as_slice.ensures.value) ∙ sym c.is_at_store.ensures ∙ c.if-is_at_store.true in
    store-seen c.self.inside c.did.new.self _ at' c.did.ensures c.last.ensures test c.args.self.now c.self.view_is

pub invariant_of-self-2 : goal.invariant_of-self-2
invariant_of-self-2 c =
    let at' = phase-seen c.self.inside c.args.self.now phase.Patching c.self.view_is c.requires in
    batch-go c.self.inside c.did.new.self c.batch_phase-self-inside.result _ c.self.invariant
    (ap busy at') (left-at c.self.inside phase.Patching c.self.invariant at')
    c.did.ensures c.last-2.ensures c.batch_phase-self-inside.ensures
