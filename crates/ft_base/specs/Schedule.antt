-- The actors of a schedule, one after the other.
use Rattle.std.specs.Prelude.{ℕ, zero, suc, ◌<◌, List, [], ◌∷◌, ◌++◌, length}
use Rattle.ft_base.specs.declared.turn.Actor.{Actor}
use Rattle.ft_base.specs.declared.turn.Actor.TheVariants.{Control, Cpu}
use Rattle.ft_base.specs.declared.turn.Who.{Who}
use Rattle.ft_base.specs.declared.turn.Who.TheVariants.{Control as OfControl, Cpu as OfCpu, All}
use Rattle.ft_base.specs.declared.turn.Turn.{Turn}
use Rattle.ft_base.specs.Job.{Job}

-- `n` CPUs, from this one on
abbrev pub every_cpu : ℕ → ℕ → List Actor
every_cpu c zero = []
every_cpu c (suc n) = Cpu (record { 0 = c }) ∷ every_cpu (suc c) n

-- one count of a schedule's entry, among this many CPUs
abbrev pub turn_of : ℕ → Who → List Actor
turn_of cpus OfControl = Control ∷ []
turn_of cpus (OfCpu c) = Cpu c ∷ []
turn_of cpus All = Control ∷ every_cpu 0 cpus

-- a list `n` times
unfoldable pub repeated : ℕ → List Actor → List Actor
repeated zero turn = []
repeated (suc n) turn = turn ++ repeated n turn

-- the actors of all entries
abbrev pub actors_in : ℕ → List Turn → List Actor
actors_in cpus [] = []
actors_in cpus (t ∷ ts) = repeated t.count (turn_of cpus t.who) ++ actors_in cpus ts

-- the actors of the job's schedule
unfoldable pub actors_of : Job → List Actor
actors_of job = actors_in (length job.quanta) job.schedule

-- control and the job's CPUs are its actors
abbrev pub IsActor : Job → Actor → Type 0
IsActor job Control = Unit {0}
IsActor job (Cpu c) = c.0 < length job.quanta

-- the entry that gives this actor one turn
abbrev pub turn_for : Actor → Turn
turn_for Control = record { who = OfControl; count = 1 }
turn_for (Cpu c) = record { who = OfCpu c; count = 1 }
