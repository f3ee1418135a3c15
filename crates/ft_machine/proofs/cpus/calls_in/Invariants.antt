-- The calls so far.
use Rattle.std.proofs.Common.{◌≡◌, ◌≤◌, take}
use Rattle.history_laws.specs.Bound.{calls_in}
use Rattle.ft_machine.proofs.cpus.calls_in.Given as goal

abbrev pub invariant-loop-act : goal.invariant-loop-act
invariant-loop-act l = record { calls : l.calls ≡ calls_in (take l.act-index l.acts); few : l.calls ≤ l.act-index }
