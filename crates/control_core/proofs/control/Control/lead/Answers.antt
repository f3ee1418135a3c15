use Rattle.std.proofs.Common.{[], ◌∷◌, ◌++◌, sym, ap, ◌∙◌, subst, arith}
use Rattle.word_machine_laws.specs.Led.{later}
use Rattle.word_machine_laws.specs.Orders.{picked}
use Rattle.control_core.specs.Seated.{IsFor, control_of}
use Rattle.control_core.proofs.LeadLaw.{control-longer, for-longer}
use Rattle.control_core.proofs.Led.{lead-kept, lead-room, led-seen, line-within}
use Rattle.control_core.proofs.control.Control.lead.Goals as goal

pub push_reserved-requires : goal.push_reserved-requires
push_reserved-requires c =
    lead-room c.self.inside c.self.invariant c.args.self.now c.self.view_is c.args.line c.requires.there c.requires.fresh

pub invariant_of-self : goal.invariant_of-self
invariant_of-self c =
    let same = c.push_reserved.ensures.capacity in
    lead-kept c.self.inside c.self.invariant c.args.self.now c.self.view_is c.args.line c.requires.there c.requires.fresh
    c.push_reserved.new.self (omega (arith, same)) c.push_reserved.ensures.items

pub returns-clause-led : goal.returns-clause-led
returns-clause-led c =
    led-seen c.self.inside c.args.self.now c.self.view_is c.push_reserved.new.self c.args.line c.push_reserved.ensures.items

pub returns-clause-of : goal.returns-clause-of
returns-clause-of c = λ job plan is.
    let s = c.args.self.now in
    let more = picked s.all (c.args.line ∷ []) in
    subst (IsFor (later job more plan))
    (sym (led-seen c.self.inside s c.self.view_is c.push_reserved.new.self c.args.line c.push_reserved.ensures.items))
    (for-longer s more (s.order ++ c.args.line ∷ []) (line-within c.self.inside s c.self.invariant c.self.view_is) job plan is)

pub returns-clause-control : goal.returns-clause-control
returns-clause-control c =
    let s = c.args.self.now in
    ap control_of (led-seen c.self.inside s c.self.view_is c.push_reserved.new.self c.args.line c.push_reserved.ensures.items)
    ∙ control-longer s (picked s.all (c.args.line ∷ [])) (s.order ++ c.args.line ∷ []) (line-within c.self.inside s c.self.invariant c.self.view_is)
