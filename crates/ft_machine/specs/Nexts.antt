-- The operation that an actor's next step makes.
use Rattle.std.specs.Prelude.{nat_lt, length, Option, None, if◌then◌else◌}
use Rattle.ft_base.specs.declared.turn.Actor.{Actor}
use Rattle.ft_base.specs.declared.turn.Actor.TheVariants.{Control as ByControl, Cpu as ByCpu}
use Rattle.ft_base.specs.Job.{Job}
use Rattle.word_map.specs.Ops.{WordOp}
use Rattle.word_machine.specs.Control.{control_next}
use Rattle.word_machine.specs.Cpu.{cpu_next}
use Rattle.word_machine.specs.Machine.{World}

-- the next operation of an actor in a state; none if it is at its end, or a CPU that the job doesn't have
abbrev pub next_op : Job → Actor → World → Option WordOp
next_op job ByControl s = control_next job s.control
next_op job (ByCpu c) s = if nat_lt c.0 (length job.quanta) then cpu_next job (s.cpus c.0) else None
