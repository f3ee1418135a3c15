-- What a player keeps, and the actors that are still to come.
use Rattle.std.specs.Prelude.{◌-◌, List, ◌++◌}
use Rattle.ft_base.specs.declared.turn.Actor.{Actor}
use Rattle.ft_base.specs.Schedule.{every_cpu, turn_of, repeated, actors_in}
use Rattle.ft_schedule.specs.declared.player.Player.TheInside.{Inside}

-- the other CPUs of the count under way, then the other counts of its turn, then the later turns
abbrev pub coming : Inside → List Actor
coming p = every_cpu p.cpu (p.cpus - p.cpu) ++ (repeated p.count (turn_of p.cpus p.who) ++ actors_in p.cpus p.later.now)
