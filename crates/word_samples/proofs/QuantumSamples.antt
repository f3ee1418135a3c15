-- Written by tools/ft samples quanta
-- The word machine at runs that switch elsewhere on a machine that counts other steps of a quantum, beside the histories that ftcore prints.
use Rattle.std.proofs.Common.{true, false, List, [], ◌∷◌, None, codes, refl}
use Rattle.ft_base.specs.declared.context.Ctx.TheVariants.{Normal}
use Rattle.ft_base.specs.declared.item.Ran.TheVariants.{Own, Nop}
use Rattle.ft_base.specs.declared.item.Answer.TheVariants.{Accepted}
use Rattle.ft_base.specs.declared.item.Item.{Item}
use Rattle.ft_base.specs.declared.item.Item.TheVariants.{Begin, Return, Enter, Back, BackEnd, Body, Leave, Ret}
use Rattle.ft_base.specs.declared.user.Kind.TheVariants.{Function}
use Rattle.ft_base.specs.declared.task.TaskAct.TheVariants.{Call, Ret as RetAct}
use Rattle.ft_base.specs.declared.turn.Who.TheVariants.{Control as OfControl, Cpu as OfCpu, All}
use Rattle.ft_base.specs.Job.{usual_lines, usual_rings, Job, Register, Run}
use Rattle.ft_base.specs.Desk.{desk}
use Rattle.ft_base.specs.Schedule.{actors_of, repeated}
use Rattle.ft_hist.proofs.SmallJobs.{named, call_in}
use Rattle.word_machine.specs.Commands.{insn, moves}
use Rattle.word_machine.specs.Control.{control_next, control_got}
use Rattle.word_machine.specs.Cpu.{cpu_next, cpu_got}
use Rattle.word_machine.specs.Machine.{start, step, run, played, play, all_end}
use Rattle.word_machine.proofs.Plays.{Plays}

abbrev pub steps_after_looks_count : Job
steps_after_looks_count = record { version = 3; functions = named (codes "a") None ∷ []; users = []; frames = 50; tramps = 64; quanta = 3 ∷ []; tasks = record { pid = 10; cpu = 0; acts = Call (record { 0 = 0 }) ∷ RetAct ∷ [] } ∷ record { pid = 11; cpu = 0; acts = Call (record { 0 = 0 }) ∷ RetAct ∷ [] } ∷ []; ctls = []; lines = usual_lines; rings = usual_rings; schedule = record { who = OfCpu (record { 0 = 0 }); count = 100 } ∷ [] }

abbrev pub steps_after_looks_count-items : List Item
steps_after_looks_count-items = Enter (call_in 0 1) Normal (record { 0 = 0 }) None ∷ Enter (call_in 1 1) Normal (record { 0 = 0 }) None ∷ Body (call_in 0 1) (record { 0 = 0 }) Nop ∷ Body (call_in 1 1) (record { 0 = 0 }) Nop ∷ Leave (call_in 0 1) ∷ Ret (call_in 0 1) None ∷ Leave (call_in 1 1) ∷ Ret (call_in 1 1) None ∷ []

pub steps_after_looks_count-plays : Plays steps_after_looks_count steps_after_looks_count-items true
unfolding actors_of repeated start step run played play all_end control_next control_got cpu_next cpu_got insn moves desk
steps_after_looks_count-plays = (refl, refl)

abbrev pub answers_count_for_nothing : Job
answers_count_for_nothing = record { version = 3; functions = named (codes "a") None ∷ []; users = record { name = codes "tr"; kind = Function; regs = false; ipmodify = None; pid = false; act = None } ∷ []; frames = 50; tramps = 64; quanta = 6 ∷ []; tasks = record { pid = 10; cpu = 0; acts = Call (record { 0 = 0 }) ∷ RetAct ∷ [] } ∷ record { pid = 11; cpu = 0; acts = Call (record { 0 = 0 }) ∷ RetAct ∷ [] } ∷ []; ctls = Run (Register 0) ∷ []; lines = usual_lines; rings = usual_rings; schedule = record { who = OfCpu (record { 0 = 0 }); count = 3 } ∷ record { who = OfControl; count = 10 } ∷ record { who = All; count = 300 } ∷ [] }

abbrev pub answers_count_for_nothing-items : List Item
answers_count_for_nothing-items = Enter (call_in 0 1) Normal (record { 0 = 0 }) None ∷ Begin 1 ∷ Return 1 Accepted ∷ Back (call_in 0 1) (record { 0 = 0 }) ∷ Enter (call_in 1 1) Normal (record { 0 = 0 }) None ∷ BackEnd (call_in 0 1) (record { 0 = 0 }) ∷ Body (call_in 0 1) (record { 0 = 0 }) (Own (record { 0 = 0 })) ∷ Leave (call_in 0 1) ∷ Ret (call_in 0 1) None ∷ Back (call_in 1 1) (record { 0 = 0 }) ∷ BackEnd (call_in 1 1) (record { 0 = 0 }) ∷ Body (call_in 1 1) (record { 0 = 0 }) (Own (record { 0 = 0 })) ∷ Leave (call_in 1 1) ∷ Ret (call_in 1 1) None ∷ []

pub answers_count_for_nothing-plays : Plays answers_count_for_nothing answers_count_for_nothing-items true
unfolding actors_of repeated start step run played play all_end control_next control_got cpu_next cpu_got insn moves desk
answers_count_for_nothing-plays = (refl, refl)
