use Rattle.std.proofs.Common.{◌≡◌, ◌+◌, drop}
use Rattle.history_check.specs.PlainRuns.{past_silent}
use Rattle.history_check.proofs.acts.Acts.passed.Given as goal

-- so far each act gave no items, and from here on it goes to the same count
abbrev pub invariant-loop-act : goal.invariant-loop-act
invariant-loop-act l = record {
  so_far : l.passed ≡ l.self.gone + l.act-index;
  same : past_silent l.passed (drop l.act-index l.self.rest.now) ≡ past_silent l.self.gone l.self.rest.now;
}
