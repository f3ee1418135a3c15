-- One count of a turn, cut after its first actor.
use Rattle.std.specs.Prelude.{ℕ}
use Rattle.ft_base.specs.declared.turn.Actor.{Actor}
use Rattle.ft_base.specs.declared.turn.Actor.TheVariants.{Control as OfControl, Cpu as OfCpu}
use Rattle.ft_base.specs.declared.turn.Who.{Who}
use Rattle.ft_base.specs.declared.turn.Who.TheVariants.{Control, Cpu, All}

-- its first actor
abbrev pub first_actor : Who → Actor
first_actor Control = OfControl
first_actor (Cpu c) = OfCpu c
first_actor All = OfControl

-- the CPU from which on the others come, or the number of CPUs if there are no others
abbrev pub cpu_after : ℕ → Who → ℕ
cpu_after cpus All = 0
cpu_after cpus _ = cpus
