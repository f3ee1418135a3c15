-- Written by tools/ft samples waits
-- The word machine at runs that take longer on a machine that waits for more, beside the histories that another program printed,
-- which was written from the same rules.
use Rattle.std.proofs.Common.{true, false, List, [], ◌∷◌, None, codes, refl}
use Rattle.ft_base.specs.declared.context.Ctx.TheVariants.{Normal, Softirq}
use Rattle.ft_base.specs.declared.item.Ran.TheVariants.{Own, Nop}
use Rattle.ft_base.specs.declared.item.Answer.TheVariants.{Accepted}
use Rattle.ft_base.specs.declared.item.Item.{Item}
use Rattle.ft_base.specs.declared.item.Item.TheVariants.{Begin, Return, Enter, Back, BackEnd, Body, Leave, Ret}
use Rattle.ft_base.specs.declared.user.Kind.TheVariants.{Fprobe}
use Rattle.ft_base.specs.declared.task.TaskAct.TheVariants.{Call, Ret as RetAct, After, Raise, Lower}
use Rattle.ft_base.specs.declared.turn.Who.TheVariants.{Control as OfControl, Cpu as OfCpu, All}
use Rattle.ft_base.specs.Job.{usual_lines, usual_rings, Job, Register, Enable, Disable, MaxDepth, Run, Until}
use Rattle.ft_base.specs.Desk.{desk}
use Rattle.ft_base.specs.Schedule.{actors_of, repeated}
use Rattle.ft_hist.proofs.SmallJobs.{named, call_in}
use Rattle.word_machine.specs.Commands.{insn, moves}
use Rattle.word_machine.specs.Control.{control_next, control_got}
use Rattle.word_machine.specs.Cpu.{cpu_next, cpu_got}
use Rattle.word_machine.specs.Machine.{start, step, run, played, play, all_end}
use Rattle.word_machine.proofs.Plays.{Plays}

abbrev pub enabled_within_a_call : Job
enabled_within_a_call = record { version = 1; functions = named (codes "a") None ∷ []; users = record { name = codes "p"; kind = Fprobe false false; regs = false; ipmodify = None; pid = false; act = None } ∷ []; frames = 50; tramps = 16; quanta = 100 ∷ []; tasks = record { pid = 10; cpu = 0; acts = After 2 ∷ Call (record { 0 = 0 }) ∷ RetAct ∷ [] } ∷ []; ctls = Run (Register 0) ∷ Run (Disable 0) ∷ Until 0 1 ∷ Run (Enable 0) ∷ []; lines = usual_lines; rings = usual_rings; schedule = record { who = All; count = 14 } ∷ record { who = OfCpu (record { 0 = 0 }); count = 6 } ∷ record { who = OfControl; count = 5 } ∷ record { who = All; count = 300 } ∷ [] }

abbrev pub enabled_within_a_call-items : List Item
enabled_within_a_call-items = Begin 1 ∷ Return 1 Accepted ∷ Begin 2 ∷ Return 2 Accepted ∷ Enter (call_in 0 1) Normal (record { 0 = 0 }) None ∷ Begin 3 ∷ Return 3 Accepted ∷ Back (call_in 0 1) (record { 0 = 0 }) ∷ BackEnd (call_in 0 1) (record { 0 = 0 }) ∷ Body (call_in 0 1) (record { 0 = 0 }) (Own (record { 0 = 0 })) ∷ Leave (call_in 0 1) ∷ Ret (call_in 0 1) None ∷ []

pub enabled_within_a_call-plays : Plays enabled_within_a_call enabled_within_a_call-items true
unfolding actors_of repeated start step run played play all_end control_next control_got cpu_next cpu_got insn moves desk
enabled_within_a_call-plays = (refl, refl)

abbrev pub quiet_before_an_act : Job
quiet_before_an_act = record { version = 1; functions = named (codes "a") None ∷ []; users = []; frames = 50; tramps = 16; quanta = 1 ∷ []; tasks = record { pid = 10; cpu = 0; acts = Call (record { 0 = 0 }) ∷ RetAct ∷ [] } ∷ record { pid = 11; cpu = 0; acts = Raise Softirq ∷ Lower ∷ [] } ∷ []; ctls = Run (MaxDepth 1) ∷ []; lines = usual_lines; rings = usual_rings; schedule = record { who = OfCpu (record { 0 = 0 }); count = 1 } ∷ record { who = OfControl; count = 3 } ∷ record { who = OfCpu (record { 0 = 0 }); count = 4 } ∷ record { who = OfControl; count = 4 } ∷ record { who = All; count = 300 } ∷ [] }

abbrev pub quiet_before_an_act-items : List Item
quiet_before_an_act-items = Begin 1 ∷ Return 1 Accepted ∷ Enter (call_in 0 1) Normal (record { 0 = 0 }) None ∷ Body (call_in 0 1) (record { 0 = 0 }) Nop ∷ Leave (call_in 0 1) ∷ Ret (call_in 0 1) None ∷ []

pub quiet_before_an_act-plays : Plays quiet_before_an_act quiet_before_an_act-items true
unfolding actors_of repeated start step run played play all_end control_next control_got cpu_next cpu_got insn moves desk
quiet_before_an_act-plays = (refl, refl)
