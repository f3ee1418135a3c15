use Rattle.std.proofs.Common.{◌≡◌, ◌≤◌, length}
use Rattle.ft_schedule.specs.Coming.{coming}
use Rattle.ft_schedule.proofs.player.Player.next_actor.Given as goal

abbrev pub invariant-loop-self : goal.invariant-loop-self
invariant-loop-self l = record {
  over : l.self-inside.cpus ≤ l.self-inside.cpu;
  within : l.self-inside.cpu ≤ l.self-inside.cpus;
  same : coming l.self-inside ≡ coming l.initial.self-inside;
}

abbrev pub decreases-loop-self : goal.decreases-loop-self
decreases-loop-self l = length l.self-inside.later.now
