-- From the other index on all have told.
use Rattle.std.proofs.Common.{ℕ, ◌+◌, ◌≤◌, Option, option_map, sym, ap, ◌∙◌, arith}
use Rattle.cpu_core.proofs.Untold.{rest-fewer}
use Rattle.cpu_core.proofs.tasks.Tasks.untold_from.Goals as goal

pub returns : goal.returns
returns c =
    let n = c.loop-n.n in
    let past : c.args.to ≤ n = omega arith in
    sym (ap (λ (o : Option ℕ). option_map (λ k. n + k) o) (rest-fewer c.args.request c.args.self.now c.args.to n past c.requires.told)) ∙ c.loop-n.invariant
