-- A job of the worked examples is within the limits, so that the laws speak of it: its replay is legal and whole. And which interrupts are
-- within them.
use Rattle.std.proofs.Common.{[], ◌∷◌, refl, arith, reverse}
use Rattle.ft_base.specs.declared.context.Ctx.TheVariants.{Softirq, Irq}
use Rattle.ft_base.specs.declared.task.TaskAct.TheVariants.{Call, Ret, Raise, Lower, After}
use Rattle.ft_base.specs.Desk.{desk}
use Rattle.ft_hist.specs.Rules.{IsLegal, IsWhole}
use Rattle.word_machine.specs.Commands.{insn, moves}
use Rattle.word_machine.specs.Control.{control_next, control_got}
use Rattle.word_machine.specs.Cpu.{cpu_next, cpu_got}
use Rattle.word_machine.specs.Machine.{start, step, run, played, play, all_end}
use Rattle.ft_base.specs.Schedule.{actors_of, repeated}
use Rattle.ft_base.specs.Acts.{AreRaised}
use Rattle.word_machine.proofs.RowSamples.{breakpoint_is_read, breakpoint_is_read-plays}
use Rattle.word_machine_laws.proofs.Limited.{limited}
use Rattle.word_machine.specs.Limits.{IsLimited}
use Rattle.word_machine_laws.proofs.Ends.{every_play_is_legal, every_ended_play_is_whole}

is_limited : IsLimited breakpoint_is_read
is_limited = record {
  version = (omega arith, omega arith);
  job' = record { commands = (omega arith, tt); acts = (tt, tt); tasks = ((omega arith, refl), tt) };
  placed = (omega arith, tt);
  waits = (tt, tt);
  raised = (tt, tt);
  ctls = omega arith;
  counts = record { few_functions = omega arith; few_users = omega arith; few_tasks = omega arith; few_tramps = omega arith };
  frames = omega arith;
  levels = (tt, tt);
  acts = omega arith;
  items = omega arith;
}

legal : IsLegal breakpoint_is_read (reverse (play breakpoint_is_read).past)
unfolding actors_of repeated
legal = every_play_is_legal breakpoint_is_read (limited breakpoint_is_read is_limited)

whole : IsWhole breakpoint_is_read (reverse (play breakpoint_is_read).past)
unfolding actors_of repeated start step run played play all_end control_next control_got cpu_next cpu_got insn moves desk
whole = every_ended_play_is_whole breakpoint_is_read (limited breakpoint_is_read is_limited) breakpoint_is_read-plays.1

-- ## what the limits say of interrupts

-- one may come above another, and goes before it
nested : AreRaised [] (Raise Softirq ∷ Call (record { 0 = 0 }) ∷ Ret ∷ Raise Irq ∷ After 1 ∷ Lower ∷ Lower ∷ [])
nested = (omega arith, (omega arith, tt))

-- one that goes leaves the context in which it came
again : AreRaised [] (Raise Irq ∷ Lower ∷ Raise Softirq ∷ Lower ∷ [])
again = (omega arith, (omega arith, tt))

-- none comes in its own context, or goes if none has come
in_itself : AreRaised [] (Raise Irq ∷ Raise Irq ∷ []) → ⊥
in_itself h = let lt = h.1.0 in omega (arith, lt)

twice_gone : AreRaised [] (Raise Irq ∷ Lower ∷ Lower ∷ []) → ⊥
twice_gone h = h.1
