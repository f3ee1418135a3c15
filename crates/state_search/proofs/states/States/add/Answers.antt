use Rattle.std.proofs.Common.{[], ◌∷◌, ◌++◌, ◌<◌, ◌≡◌, IfOk, List, ℕ, length, slice_get, Some, ap, subst, arith}
use Rattle.std.proofs.lemmas.Result.{IfOk-weaker}
use Rattle.state_search.specs.Entries.{IsAdded}
use Rattle.state_search.specs.Steps.{with_schedules}
use Rattle.state_search.proofs.Steps.{table-length, states-added, earlier-kept}
use Rattle.state_search.proofs.states.States.add.Goals as goal

pub invariant_of-self : goal.invariant_of-self
invariant_of-self c =
    earlier-kept c.add.result c.self.inside.table c.add.new.self c.args.key.items c.args.step c.self.invariant
    (let h : c.args.step.before < length c.args.self.now = c.requires in let l = table-length c.self.inside.table in let v = ap length c.self.view_is in omega (arith, h, l, v)) c.add.ensures.added c.add.ensures.kept

pub returns : goal.returns
returns c =
    subst (λ old. IfOk c.add.result (λ new. (k s : List ℕ) → slice_get old c.args.step.before ≡ Some (k, s) → IsAdded new old c.args.key.items (s ++ c.args.step.actor ∷ []) (with_schedules c.add.new.self)))
    c.self.view_is
    (IfOk-weaker c.add.result (λ new. IsAdded new c.self.inside.table c.args.key.items c.args.step c.add.new.self)
    (λ new. (k s : List ℕ) → slice_get (with_schedules c.self.inside.table) c.args.step.before ≡ Some (k, s)
    → IsAdded new (with_schedules c.self.inside.table) c.args.key.items (s ++ c.args.step.actor ∷ []) (with_schedules c.add.new.self))
    (λ new a k s at. states-added new c.self.inside.table c.add.new.self c.args.key.items c.args.step a k s at) c.add.ensures.added)
