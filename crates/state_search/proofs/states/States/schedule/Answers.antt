use Rattle.std.proofs.Common.{◌++◌, List, ℕ, reverse, Some, sym, ap, ◌∙◌, append-nil}
use Rattle.state_search.proofs.Entries.{get-there}
use Rattle.state_search.proofs.states.States.schedule.Goals as goal

pub loop-step-init : goal.loop-step-init
loop-step-init c = record {
  within = c.requires;
  path = λ k s at. (k, at ∙ ap (λ (q : List ℕ). Some (k, q)) (sym (ap (λ (q : List ℕ). s ++ reverse q) c.new-actors.ensures.items ∙ append-nil s)));
}

pub returns : goal.returns
returns c =
    let there = get-there c.args.self.now c.loop-step.place c.loop-step.invariant.within in
    let p = c.loop-step.invariant.path there.0.0 there.0.1 there.1 in
    let none = c.in_default.ensures.first there.0.0 there.0.1 there.1 in
    (p.0, p.1 ∙ ap (λ (q : List ℕ). Some (p.0, q ++ reverse c.loop-step.actors.items)) none ∙ ap (λ (q : List ℕ). Some (p.0, q)) (sym c.reverse.ensures.items))
