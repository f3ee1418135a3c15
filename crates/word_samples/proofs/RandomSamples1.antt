-- The word machine at random jobs under schedules of single steps, beside the histories that another program printed, which was written
-- from the same rules. Of two hundred such jobs these are left: each item, each two neighbours of a history, each two commands one after the
-- other and each company of kinds that the two hundred had is in one of them.
use Rattle.std.proofs.Common.{true, false, List, [], ◌∷◌, Some, None, codes, refl}
use Rattle.ft_base.specs.declared.context.Ctx.TheVariants.{Normal, Softirq, Irq, Nmi}
use Rattle.ft_base.specs.declared.item.Ran.TheVariants.{Own, Nop, List as ByList}
use Rattle.ft_base.specs.declared.item.Reason.TheVariants.{Depth, Recursion, Pid as ByPid}
use Rattle.ft_base.specs.declared.item.Answer.TheVariants.{Accepted, Already, NotThere, Invalid}
use Rattle.ft_base.specs.declared.item.Item.{Item}
use Rattle.ft_base.specs.declared.item.Item.TheVariants.{Begin, Return, Enter, Back, BackEnd, Refuse, Miss, Body, Leave, Exit, ExitEnd, Ret}
use Rattle.ft_base.specs.declared.user.Kind.TheVariants.{Graph, Function, Fprobe, Profile}
use Rattle.ft_base.specs.declared.user.Act.TheVariants.{CallIn, IrqIn}
use Rattle.ft_base.specs.declared.task.TaskAct.TheVariants.{Call, Ret as RetAct, After, Raise, Lower}
use Rattle.ft_base.specs.declared.turn.Who.TheVariants.{Control as OfControl, Cpu as OfCpu, All}
use Rattle.ft_base.specs.Job.{usual_lines, usual_rings, Job, Register, Unregister, Filter, Notrace, Enable, Disable, Pid, NoPid, MaxDepth, Run, Until}
use Rattle.ft_base.specs.Desk.{desk}
use Rattle.ft_base.specs.Schedule.{actors_of, repeated}
use Rattle.ft_hist.proofs.SmallJobs.{named, call_in}
use Rattle.word_machine.specs.Commands.{insn, moves}
use Rattle.word_machine.specs.Control.{control_next, control_got}
use Rattle.word_machine.specs.Cpu.{cpu_next, cpu_got}
use Rattle.word_machine.specs.Machine.{start, step, run, played, play, all_end}
use Rattle.word_machine.proofs.Plays.{Plays}

abbrev pub job_3 : Job
job_3 = record { version = 1; functions = named (codes "a") None ∷ named (codes "b") (Some (codes "m")) ∷ []; users = record { name = codes "u0"; kind = Fprobe false false; regs = true; ipmodify = None; pid = true; act = None } ∷ []; frames = 50; tramps = 16; quanta = 15 ∷ 40 ∷ []; tasks = record { pid = 10; cpu = 0; acts = Raise Nmi ∷ Call (record { 0 = 0 }) ∷ Call (record { 0 = 0 }) ∷ RetAct ∷ RetAct ∷ Lower ∷ Call (record { 0 = 1 }) ∷ Raise Irq ∷ Call (record { 0 = 1 }) ∷ RetAct ∷ Lower ∷ RetAct ∷ [] } ∷ []; ctls = Run (Register 0) ∷ Run (Disable 0) ∷ Run (Filter 0 (record { append = true; remove = true; clear = false; set = false ∷ true ∷ [] })) ∷ Run (Pid (true ∷ [])) ∷ Run (Register 0) ∷ Run (Register 0) ∷ Run (Register 0) ∷ []; lines = usual_lines; rings = usual_rings; schedule = record { who = OfCpu (record { 0 = 1 }); count = 3 } ∷ record { who = OfControl; count = 1 } ∷ record { who = OfCpu (record { 0 = 0 }); count = 2 } ∷ record { who = OfCpu (record { 0 = 1 }); count = 2 } ∷ record { who = OfControl; count = 3 } ∷ record { who = OfControl; count = 2 } ∷ record { who = OfCpu (record { 0 = 0 }); count = 2 } ∷ record { who = All; count = 300 } ∷ [] }

abbrev pub job_3-items : List Item
job_3-items = Begin 1 ∷ Enter (call_in 0 1) Nmi (record { 0 = 0 }) None ∷ Body (call_in 0 1) (record { 0 = 0 }) Nop ∷ Enter (call_in 0 2) Nmi (record { 0 = 0 }) (Some (call_in 0 1)) ∷ Back (call_in 0 2) (record { 0 = 0 }) ∷ BackEnd (call_in 0 2) (record { 0 = 0 }) ∷ Body (call_in 0 2) (record { 0 = 0 }) (Own (record { 0 = 0 })) ∷ Leave (call_in 0 2) ∷ Ret (call_in 0 2) (Some (call_in 0 1)) ∷ Leave (call_in 0 1) ∷ Ret (call_in 0 1) None ∷ Enter (call_in 0 3) Normal (record { 0 = 1 }) None ∷ Back (call_in 0 3) (record { 0 = 0 }) ∷ BackEnd (call_in 0 3) (record { 0 = 0 }) ∷ Body (call_in 0 3) (record { 0 = 1 }) (Own (record { 0 = 0 })) ∷ Return 1 Accepted ∷ Begin 2 ∷ Enter (call_in 0 4) Irq (record { 0 = 1 }) (Some (call_in 0 3)) ∷ Body (call_in 0 4) (record { 0 = 1 }) (Own (record { 0 = 0 })) ∷ Leave (call_in 0 4) ∷ Return 2 Accepted ∷ Ret (call_in 0 4) (Some (call_in 0 3)) ∷ Begin 3 ∷ Leave (call_in 0 3) ∷ Ret (call_in 0 3) None ∷ Return 3 Accepted ∷ Begin 4 ∷ Return 4 Accepted ∷ Begin 5 ∷ Return 5 Already ∷ Begin 6 ∷ Return 6 Already ∷ Begin 7 ∷ Return 7 Already ∷ []

pub job_3-plays : Plays job_3 job_3-items true
unfolding actors_of repeated start step run played play all_end control_next control_got cpu_next cpu_got insn moves desk
job_3-plays = (refl, refl)

abbrev pub job_11 : Job
job_11 = record { version = 1; functions = named (codes "a") (Some (codes "m")) ∷ named (codes "b") (Some (codes "m")) ∷ named (codes "c") None ∷ named (codes "d") None ∷ []; users = record { name = codes "u0"; kind = Function; regs = true; ipmodify = None; pid = false; act = None } ∷ record { name = codes "u1"; kind = Fprobe false false; regs = false; ipmodify = None; pid = false; act = Some (CallIn (record { 0 = 0 })) } ∷ []; frames = 50; tramps = 16; quanta = 7 ∷ []; tasks = record { pid = 10; cpu = 0; acts = After 2 ∷ Raise Irq ∷ Call (record { 0 = 0 }) ∷ RetAct ∷ Call (record { 0 = 0 }) ∷ Raise Nmi ∷ Lower ∷ RetAct ∷ Lower ∷ [] } ∷ record { pid = 11; cpu = 0; acts = After 1 ∷ Raise Softirq ∷ Call (record { 0 = 2 }) ∷ Call (record { 0 = 0 }) ∷ RetAct ∷ RetAct ∷ Lower ∷ [] } ∷ []; ctls = Run (Unregister 0) ∷ Run (Disable 0) ∷ Until 1 3 ∷ Run (MaxDepth 0) ∷ Run (Register 0) ∷ Run (Pid (true ∷ false ∷ [])) ∷ []; lines = usual_lines; rings = usual_rings; schedule = record { who = OfControl; count = 6 } ∷ record { who = OfCpu (record { 0 = 0 }); count = 20 } ∷ record { who = OfControl; count = 2 } ∷ record { who = OfControl; count = 7 } ∷ record { who = All; count = 300 } ∷ [] }

abbrev pub job_11-items : List Item
job_11-items = Begin 1 ∷ Return 1 NotThere ∷ Begin 2 ∷ Return 2 NotThere ∷ Enter (call_in 0 1) Irq (record { 0 = 0 }) None ∷ Enter (call_in 1 1) Softirq (record { 0 = 2 }) None ∷ Body (call_in 0 1) (record { 0 = 0 }) Nop ∷ Leave (call_in 0 1) ∷ Ret (call_in 0 1) None ∷ Body (call_in 1 1) (record { 0 = 2 }) Nop ∷ Enter (call_in 1 2) Softirq (record { 0 = 0 }) (Some (call_in 1 1)) ∷ Begin 3 ∷ Enter (call_in 0 2) Irq (record { 0 = 0 }) None ∷ Body (call_in 0 2) (record { 0 = 0 }) Nop ∷ Body (call_in 1 2) (record { 0 = 0 }) Nop ∷ Leave (call_in 1 2) ∷ Return 3 Accepted ∷ Begin 4 ∷ Leave (call_in 0 2) ∷ Ret (call_in 0 2) None ∷ Ret (call_in 1 2) (Some (call_in 1 1)) ∷ Leave (call_in 1 1) ∷ Ret (call_in 1 1) None ∷ Return 4 Accepted ∷ Begin 5 ∷ Return 5 Accepted ∷ []

pub job_11-plays : Plays job_11 job_11-items true
unfolding actors_of repeated start step run played play all_end control_next control_got cpu_next cpu_got insn moves desk
job_11-plays = (refl, refl)

abbrev pub job_14 : Job
job_14 = record { version = 1; functions = named (codes "a") None ∷ []; users = record { name = codes "u0"; kind = Graph; regs = false; ipmodify = None; pid = true; act = None } ∷ record { name = codes "u1"; kind = Function; regs = true; ipmodify = Some (record { 0 = 0 }); pid = true; act = None } ∷ record { name = codes "u2"; kind = Fprobe true false; regs = false; ipmodify = None; pid = true; act = Some (IrqIn (record { 0 = 0 })) } ∷ []; frames = 3; tramps = 16; quanta = 1 ∷ []; tasks = record { pid = 10; cpu = 0; acts = After 2 ∷ Call (record { 0 = 0 }) ∷ After 1 ∷ After 6 ∷ After 5 ∷ RetAct ∷ Raise Softirq ∷ Lower ∷ Raise Irq ∷ Lower ∷ [] } ∷ record { pid = 11; cpu = 0; acts = After 5 ∷ Raise Irq ∷ Raise Nmi ∷ Call (record { 0 = 0 }) ∷ Call (record { 0 = 0 }) ∷ Call (record { 0 = 0 }) ∷ RetAct ∷ RetAct ∷ RetAct ∷ Lower ∷ Lower ∷ [] } ∷ []; ctls = Run (NoPid (true ∷ true ∷ [])) ∷ Run (Notrace 0 (record { append = true; remove = false; clear = false; set = true ∷ [] })) ∷ Run (Register 0) ∷ Run (MaxDepth 0) ∷ Run (Notrace 1 (record { append = false; remove = true; clear = false; set = true ∷ [] })) ∷ Run (Register 2) ∷ []; lines = usual_lines; rings = usual_rings; schedule = record { who = OfControl; count = 5 } ∷ record { who = OfControl; count = 1 } ∷ record { who = OfControl; count = 9 } ∷ record { who = OfCpu (record { 0 = 0 }); count = 6 } ∷ record { who = OfControl; count = 7 } ∷ record { who = OfCpu (record { 0 = 0 }); count = 10 } ∷ record { who = OfCpu (record { 0 = 0 }); count = 2 } ∷ record { who = All; count = 300 } ∷ [] }

abbrev pub job_14-items : List Item
job_14-items = Begin 1 ∷ Return 1 Accepted ∷ Begin 2 ∷ Return 2 Accepted ∷ Begin 3 ∷ Enter (call_in 0 1) Normal (record { 0 = 0 }) None ∷ Body (call_in 0 1) (record { 0 = 0 }) Nop ∷ Return 3 Accepted ∷ Begin 4 ∷ Return 4 Accepted ∷ Begin 5 ∷ Return 5 Accepted ∷ Begin 6 ∷ Enter (call_in 1 1) Nmi (record { 0 = 0 }) None ∷ Return 6 Accepted ∷ Refuse (call_in 1 1) (record { 0 = 2 }) ByPid ∷ Leave (call_in 0 1) ∷ Body (call_in 1 1) (record { 0 = 0 }) (Own (record { 0 = 2 })) ∷ Ret (call_in 0 1) None ∷ Enter (call_in 1 2) Nmi (record { 0 = 0 }) (Some (call_in 1 1)) ∷ Refuse (call_in 1 2) (record { 0 = 2 }) ByPid ∷ Body (call_in 1 2) (record { 0 = 0 }) (Own (record { 0 = 2 })) ∷ Enter (call_in 1 3) Nmi (record { 0 = 0 }) (Some (call_in 1 2)) ∷ Refuse (call_in 1 3) (record { 0 = 2 }) ByPid ∷ Body (call_in 1 3) (record { 0 = 0 }) (Own (record { 0 = 2 })) ∷ Leave (call_in 1 3) ∷ Ret (call_in 1 3) (Some (call_in 1 2)) ∷ Leave (call_in 1 2) ∷ Ret (call_in 1 2) (Some (call_in 1 1)) ∷ Leave (call_in 1 1) ∷ Ret (call_in 1 1) None ∷ []

pub job_14-plays : Plays job_14 job_14-items true
unfolding actors_of repeated start step run played play all_end control_next control_got cpu_next cpu_got insn moves desk
job_14-plays = (refl, refl)

abbrev pub job_16 : Job
job_16 = record { version = 1; functions = named (codes "a") (Some (codes "m")) ∷ named (codes "b") (Some (codes "m")) ∷ named (codes "c") (Some (codes "m")) ∷ []; users = record { name = codes "u0"; kind = Function; regs = false; ipmodify = None; pid = true; act = Some (CallIn (record { 0 = 0 })) } ∷ record { name = codes "u1"; kind = Fprobe true true; regs = true; ipmodify = None; pid = false; act = None } ∷ record { name = codes "u2"; kind = Fprobe false false; regs = true; ipmodify = None; pid = false; act = Some (CallIn (record { 0 = 1 })) } ∷ record { name = codes "u3"; kind = Fprobe true false; regs = false; ipmodify = None; pid = false; act = Some (IrqIn (record { 0 = 1 })) } ∷ []; frames = 50; tramps = 0; quanta = 3 ∷ []; tasks = record { pid = 10; cpu = 0; acts = Raise Irq ∷ Lower ∷ Raise Nmi ∷ Call (record { 0 = 1 }) ∷ Call (record { 0 = 1 }) ∷ RetAct ∷ RetAct ∷ Lower ∷ [] } ∷ record { pid = 11; cpu = 0; acts = After 1 ∷ Raise Nmi ∷ Lower ∷ Call (record { 0 = 1 }) ∷ Call (record { 0 = 1 }) ∷ RetAct ∷ RetAct ∷ [] } ∷ []; ctls = Run (Unregister 0) ∷ Run (MaxDepth 1) ∷ Run (Filter 3 (record { append = true; remove = true; clear = false; set = true ∷ false ∷ false ∷ [] })) ∷ Until 1 1 ∷ Run (Register 0) ∷ Run (NoPid (true ∷ false ∷ [])) ∷ []; lines = usual_lines; rings = usual_rings; schedule = record { who = OfControl; count = 3 } ∷ record { who = OfCpu (record { 0 = 0 }); count = 7 } ∷ record { who = OfCpu (record { 0 = 0 }); count = 1 } ∷ record { who = OfCpu (record { 0 = 0 }); count = 8 } ∷ record { who = OfCpu (record { 0 = 0 }); count = 8 } ∷ record { who = OfCpu (record { 0 = 0 }); count = 1 } ∷ record { who = OfControl; count = 1 } ∷ record { who = All; count = 300 } ∷ [] }

abbrev pub job_16-items : List Item
job_16-items = Begin 1 ∷ Return 1 NotThere ∷ Begin 2 ∷ Enter (call_in 0 1) Nmi (record { 0 = 1 }) None ∷ Enter (call_in 1 1) Normal (record { 0 = 1 }) None ∷ Body (call_in 0 1) (record { 0 = 1 }) Nop ∷ Body (call_in 1 1) (record { 0 = 1 }) Nop ∷ Enter (call_in 0 2) Nmi (record { 0 = 1 }) (Some (call_in 0 1)) ∷ Body (call_in 0 2) (record { 0 = 1 }) Nop ∷ Enter (call_in 1 2) Normal (record { 0 = 1 }) (Some (call_in 1 1)) ∷ Return 2 Accepted ∷ Begin 3 ∷ Leave (call_in 0 2) ∷ Return 3 Accepted ∷ Ret (call_in 0 2) (Some (call_in 0 1)) ∷ Begin 4 ∷ Body (call_in 1 2) (record { 0 = 1 }) Nop ∷ Leave (call_in 0 1) ∷ Ret (call_in 0 1) None ∷ Leave (call_in 1 2) ∷ Ret (call_in 1 2) (Some (call_in 1 1)) ∷ Leave (call_in 1 1) ∷ Ret (call_in 1 1) None ∷ Return 4 Accepted ∷ Begin 5 ∷ Return 5 Accepted ∷ []

pub job_16-plays : Plays job_16 job_16-items true
unfolding actors_of repeated start step run played play all_end control_next control_got cpu_next cpu_got insn moves desk
job_16-plays = (refl, refl)

abbrev pub job_21 : Job
job_21 = record { version = 1; functions = named (codes "a") (Some (codes "m")) ∷ named (codes "b") (Some (codes "m")) ∷ []; users = record { name = codes "u0"; kind = Fprobe true true; regs = false; ipmodify = None; pid = false; act = Some (CallIn (record { 0 = 0 })) } ∷ record { name = codes "u1"; kind = Fprobe false false; regs = false; ipmodify = None; pid = false; act = None } ∷ []; frames = 3; tramps = 1; quanta = 1 ∷ 3 ∷ []; tasks = record { pid = 10; cpu = 1; acts = Call (record { 0 = 0 }) ∷ Call (record { 0 = 0 }) ∷ RetAct ∷ RetAct ∷ Call (record { 0 = 1 }) ∷ Call (record { 0 = 0 }) ∷ RetAct ∷ RetAct ∷ [] } ∷ record { pid = 11; cpu = 0; acts = After 1 ∷ Raise Nmi ∷ Lower ∷ [] } ∷ []; ctls = Run (Register 1) ∷ Run (Register 1) ∷ []; lines = usual_lines; rings = usual_rings; schedule = record { who = OfCpu (record { 0 = 0 }); count = 5 } ∷ record { who = OfCpu (record { 0 = 1 }); count = 39 } ∷ record { who = OfCpu (record { 0 = 1 }); count = 34 } ∷ record { who = OfControl; count = 37 } ∷ record { who = All; count = 300 } ∷ [] }

abbrev pub job_21-items : List Item
job_21-items = Enter (call_in 0 1) Normal (record { 0 = 0 }) None ∷ Body (call_in 0 1) (record { 0 = 0 }) Nop ∷ Enter (call_in 0 2) Normal (record { 0 = 0 }) (Some (call_in 0 1)) ∷ Body (call_in 0 2) (record { 0 = 0 }) Nop ∷ Leave (call_in 0 2) ∷ Ret (call_in 0 2) (Some (call_in 0 1)) ∷ Leave (call_in 0 1) ∷ Ret (call_in 0 1) None ∷ Enter (call_in 0 3) Normal (record { 0 = 1 }) None ∷ Body (call_in 0 3) (record { 0 = 1 }) Nop ∷ Enter (call_in 0 4) Normal (record { 0 = 0 }) (Some (call_in 0 3)) ∷ Body (call_in 0 4) (record { 0 = 0 }) Nop ∷ Leave (call_in 0 4) ∷ Ret (call_in 0 4) (Some (call_in 0 3)) ∷ Leave (call_in 0 3) ∷ Ret (call_in 0 3) None ∷ Begin 1 ∷ Return 1 Accepted ∷ Begin 2 ∷ Return 2 Already ∷ []

pub job_21-plays : Plays job_21 job_21-items true
unfolding actors_of repeated start step run played play all_end control_next control_got cpu_next cpu_got insn moves desk
job_21-plays = (refl, refl)

abbrev pub job_26 : Job
job_26 = record { version = 1; functions = named (codes "a") None ∷ named (codes "b") (Some (codes "m")) ∷ []; users = record { name = codes "u0"; kind = Function; regs = false; ipmodify = None; pid = false; act = None } ∷ record { name = codes "u1"; kind = Function; regs = false; ipmodify = None; pid = false; act = Some (CallIn (record { 0 = 0 })) } ∷ record { name = codes "u2"; kind = Fprobe false false; regs = false; ipmodify = None; pid = false; act = None } ∷ record { name = codes "u3"; kind = Graph; regs = false; ipmodify = None; pid = false; act = None } ∷ []; frames = 1; tramps = 0; quanta = 15 ∷ 15 ∷ []; tasks = record { pid = 10; cpu = 0; acts = After 3 ∷ After 4 ∷ After 5 ∷ Raise Softirq ∷ Call (record { 0 = 0 }) ∷ RetAct ∷ Lower ∷ [] } ∷ record { pid = 11; cpu = 0; acts = After 2 ∷ Raise Softirq ∷ Lower ∷ Call (record { 0 = 1 }) ∷ Raise Irq ∷ Raise Nmi ∷ Call (record { 0 = 0 }) ∷ RetAct ∷ Lower ∷ Lower ∷ RetAct ∷ [] } ∷ record { pid = 12; cpu = 0; acts = Call (record { 0 = 1 }) ∷ Call (record { 0 = 1 }) ∷ RetAct ∷ Raise Softirq ∷ Call (record { 0 = 0 }) ∷ RetAct ∷ Lower ∷ RetAct ∷ [] } ∷ []; ctls = Run (Register 3) ∷ Run (Pid (false ∷ true ∷ false ∷ [])) ∷ Run (Register 0) ∷ Run (Notrace 3 (record { append = true; remove = false; clear = false; set = false ∷ true ∷ [] })) ∷ Until 0 2 ∷ Run (Register 3) ∷ []; lines = usual_lines; rings = usual_rings; schedule = record { who = OfCpu (record { 0 = 1 }); count = 1 } ∷ record { who = OfCpu (record { 0 = 1 }); count = 1 } ∷ record { who = OfCpu (record { 0 = 1 }); count = 1 } ∷ record { who = OfControl; count = 1 } ∷ record { who = OfCpu (record { 0 = 0 }); count = 1 } ∷ record { who = OfCpu (record { 0 = 0 }); count = 1 } ∷ record { who = OfControl; count = 2 } ∷ record { who = OfCpu (record { 0 = 0 }); count = 2 } ∷ record { who = OfCpu (record { 0 = 0 }); count = 1 } ∷ record { who = OfCpu (record { 0 = 1 }); count = 2 } ∷ record { who = OfControl; count = 1 } ∷ record { who = OfCpu (record { 0 = 1 }); count = 3 } ∷ record { who = OfControl; count = 1 } ∷ record { who = OfControl; count = 1 } ∷ record { who = OfControl; count = 1 } ∷ record { who = OfControl; count = 3 } ∷ record { who = OfCpu (record { 0 = 1 }); count = 1 } ∷ record { who = OfControl; count = 3 } ∷ record { who = OfCpu (record { 0 = 1 }); count = 3 } ∷ record { who = OfCpu (record { 0 = 1 }); count = 1 } ∷ record { who = All; count = 300 } ∷ [] }

abbrev pub job_26-items : List Item
job_26-items = Begin 1 ∷ Enter (call_in 2 1) Normal (record { 0 = 1 }) None ∷ Back (call_in 2 1) (record { 0 = 3 }) ∷ BackEnd (call_in 2 1) (record { 0 = 3 }) ∷ Body (call_in 2 1) (record { 0 = 1 }) ByList ∷ Enter (call_in 2 2) Normal (record { 0 = 1 }) (Some (call_in 2 1)) ∷ Refuse (call_in 2 2) (record { 0 = 3 }) Depth ∷ Body (call_in 2 2) (record { 0 = 1 }) ByList ∷ Return 1 Accepted ∷ Begin 2 ∷ Return 2 Accepted ∷ Leave (call_in 2 2) ∷ Begin 3 ∷ Ret (call_in 2 2) (Some (call_in 2 1)) ∷ Enter (call_in 2 3) Softirq (record { 0 = 0 }) (Some (call_in 2 1)) ∷ Return 3 Accepted ∷ Begin 4 ∷ Back (call_in 2 3) (record { 0 = 0 }) ∷ BackEnd (call_in 2 3) (record { 0 = 0 }) ∷ Enter (call_in 1 1) Normal (record { 0 = 1 }) None ∷ Back (call_in 1 1) (record { 0 = 0 }) ∷ Refuse (call_in 2 3) (record { 0 = 3 }) Depth ∷ Body (call_in 2 3) (record { 0 = 0 }) ByList ∷ Leave (call_in 2 3) ∷ Return 4 Accepted ∷ Ret (call_in 2 3) (Some (call_in 2 1)) ∷ Leave (call_in 2 1) ∷ Begin 5 ∷ BackEnd (call_in 1 1) (record { 0 = 0 }) ∷ Return 5 Already ∷ Body (call_in 1 1) (record { 0 = 1 }) ByList ∷ Enter (call_in 1 2) Nmi (record { 0 = 0 }) (Some (call_in 1 1)) ∷ Exit (call_in 2 1) (record { 0 = 3 }) 2 ∷ ExitEnd (call_in 2 1) (record { 0 = 3 }) ∷ Ret (call_in 2 1) None ∷ Enter (call_in 0 1) Softirq (record { 0 = 0 }) None ∷ Back (call_in 0 1) (record { 0 = 0 }) ∷ BackEnd (call_in 0 1) (record { 0 = 0 }) ∷ Back (call_in 1 2) (record { 0 = 0 }) ∷ BackEnd (call_in 1 2) (record { 0 = 0 }) ∷ Back (call_in 1 2) (record { 0 = 3 }) ∷ BackEnd (call_in 1 2) (record { 0 = 3 }) ∷ Body (call_in 1 2) (record { 0 = 0 }) ByList ∷ Back (call_in 0 1) (record { 0 = 3 }) ∷ BackEnd (call_in 0 1) (record { 0 = 3 }) ∷ Body (call_in 0 1) (record { 0 = 0 }) ByList ∷ Leave (call_in 0 1) ∷ Exit (call_in 0 1) (record { 0 = 3 }) 43 ∷ ExitEnd (call_in 0 1) (record { 0 = 3 }) ∷ Ret (call_in 0 1) None ∷ Leave (call_in 1 2) ∷ Exit (call_in 1 2) (record { 0 = 3 }) 40 ∷ ExitEnd (call_in 1 2) (record { 0 = 3 }) ∷ Ret (call_in 1 2) (Some (call_in 1 1)) ∷ Leave (call_in 1 1) ∷ Ret (call_in 1 1) None ∷ []

pub job_26-plays : Plays job_26 job_26-items true
unfolding actors_of repeated start step run played play all_end control_next control_got cpu_next cpu_got insn moves desk
job_26-plays = (refl, refl)

abbrev pub job_31 : Job
job_31 = record { version = 1; functions = named (codes "a") (Some (codes "m")) ∷ []; users = record { name = codes "u0"; kind = Fprobe true false; regs = true; ipmodify = None; pid = true; act = None } ∷ record { name = codes "u1"; kind = Function; regs = true; ipmodify = None; pid = true; act = Some (CallIn (record { 0 = 0 })) } ∷ []; frames = 1; tramps = 1; quanta = 1 ∷ 7 ∷ []; tasks = record { pid = 10; cpu = 1; acts = After 1 ∷ Raise Irq ∷ Raise Nmi ∷ Lower ∷ Call (record { 0 = 0 }) ∷ RetAct ∷ Lower ∷ [] } ∷ record { pid = 11; cpu = 0; acts = Call (record { 0 = 0 }) ∷ RetAct ∷ Call (record { 0 = 0 }) ∷ Raise Softirq ∷ Call (record { 0 = 0 }) ∷ RetAct ∷ Call (record { 0 = 0 }) ∷ Call (record { 0 = 0 }) ∷ RetAct ∷ RetAct ∷ Lower ∷ RetAct ∷ [] } ∷ []; ctls = Run (MaxDepth 2) ∷ Run (Disable 1) ∷ Until 0 1 ∷ Run (NoPid (true ∷ true ∷ [])) ∷ []; lines = usual_lines; rings = usual_rings; schedule = record { who = OfControl; count = 2 } ∷ record { who = OfControl; count = 3 } ∷ record { who = OfControl; count = 2 } ∷ record { who = OfControl; count = 2 } ∷ record { who = OfCpu (record { 0 = 1 }); count = 3 } ∷ record { who = OfCpu (record { 0 = 0 }); count = 2 } ∷ record { who = OfCpu (record { 0 = 1 }); count = 2 } ∷ record { who = OfCpu (record { 0 = 1 }); count = 3 } ∷ record { who = OfControl; count = 1 } ∷ record { who = OfCpu (record { 0 = 0 }); count = 1 } ∷ record { who = All; count = 300 } ∷ [] }

abbrev pub job_31-items : List Item
job_31-items = Begin 1 ∷ Enter (call_in 1 1) Normal (record { 0 = 0 }) None ∷ Return 1 Accepted ∷ Begin 2 ∷ Return 2 NotThere ∷ Body (call_in 1 1) (record { 0 = 0 }) Nop ∷ Begin 3 ∷ Leave (call_in 1 1) ∷ Ret (call_in 1 1) None ∷ Enter (call_in 1 2) Normal (record { 0 = 0 }) None ∷ Enter (call_in 0 1) Irq (record { 0 = 0 }) None ∷ Return 3 Accepted ∷ Body (call_in 1 2) (record { 0 = 0 }) Nop ∷ Body (call_in 0 1) (record { 0 = 0 }) Nop ∷ Leave (call_in 0 1) ∷ Ret (call_in 0 1) None ∷ Enter (call_in 1 3) Softirq (record { 0 = 0 }) (Some (call_in 1 2)) ∷ Body (call_in 1 3) (record { 0 = 0 }) Nop ∷ Leave (call_in 1 3) ∷ Ret (call_in 1 3) (Some (call_in 1 2)) ∷ Enter (call_in 1 4) Softirq (record { 0 = 0 }) (Some (call_in 1 2)) ∷ Body (call_in 1 4) (record { 0 = 0 }) Nop ∷ Enter (call_in 1 5) Softirq (record { 0 = 0 }) (Some (call_in 1 4)) ∷ Body (call_in 1 5) (record { 0 = 0 }) Nop ∷ Leave (call_in 1 5) ∷ Ret (call_in 1 5) (Some (call_in 1 4)) ∷ Leave (call_in 1 4) ∷ Ret (call_in 1 4) (Some (call_in 1 2)) ∷ Leave (call_in 1 2) ∷ Ret (call_in 1 2) None ∷ []

pub job_31-plays : Plays job_31 job_31-items true
unfolding actors_of repeated start step run played play all_end control_next control_got cpu_next cpu_got insn moves desk
job_31-plays = (refl, refl)

abbrev pub job_33 : Job
job_33 = record { version = 1; functions = named (codes "a") None ∷ named (codes "b") (Some (codes "m")) ∷ []; users = record { name = codes "u0"; kind = Fprobe true false; regs = false; ipmodify = None; pid = false; act = Some (IrqIn (record { 0 = 1 })) } ∷ record { name = codes "u1"; kind = Fprobe true false; regs = false; ipmodify = None; pid = false; act = None } ∷ []; frames = 50; tramps = 16; quanta = 40 ∷ 1 ∷ []; tasks = record { pid = 10; cpu = 0; acts = After 1 ∷ Call (record { 0 = 0 }) ∷ Call (record { 0 = 1 }) ∷ Call (record { 0 = 1 }) ∷ Raise Nmi ∷ Call (record { 0 = 0 }) ∷ RetAct ∷ Lower ∷ RetAct ∷ RetAct ∷ RetAct ∷ [] } ∷ record { pid = 11; cpu = 1; acts = After 3 ∷ Call (record { 0 = 0 }) ∷ After 3 ∷ After 6 ∷ RetAct ∷ After 1 ∷ Call (record { 0 = 0 }) ∷ After 1 ∷ Call (record { 0 = 1 }) ∷ RetAct ∷ RetAct ∷ [] } ∷ record { pid = 12; cpu = 1; acts = After 2 ∷ Raise Irq ∷ Raise Nmi ∷ Call (record { 0 = 0 }) ∷ Call (record { 0 = 1 }) ∷ Call (record { 0 = 1 }) ∷ Call (record { 0 = 0 }) ∷ Call (record { 0 = 1 }) ∷ RetAct ∷ RetAct ∷ RetAct ∷ RetAct ∷ RetAct ∷ Lower ∷ Lower ∷ [] } ∷ []; ctls = Run (MaxDepth 2) ∷ Run (Disable 0) ∷ Run (Register 1) ∷ Run (Register 1) ∷ Run (Register 1) ∷ Run (Filter 1 (record { append = true; remove = true; clear = false; set = false ∷ true ∷ [] })) ∷ []; lines = usual_lines; rings = usual_rings; schedule = record { who = OfCpu (record { 0 = 0 }); count = 1 } ∷ record { who = OfCpu (record { 0 = 0 }); count = 3 } ∷ record { who = OfControl; count = 3 } ∷ record { who = OfControl; count = 1 } ∷ record { who = OfControl; count = 1 } ∷ record { who = OfCpu (record { 0 = 1 }); count = 1 } ∷ record { who = OfControl; count = 3 } ∷ record { who = OfControl; count = 3 } ∷ record { who = OfCpu (record { 0 = 0 }); count = 3 } ∷ record { who = OfCpu (record { 0 = 1 }); count = 2 } ∷ record { who = OfControl; count = 1 } ∷ record { who = All; count = 300 } ∷ [] }

abbrev pub job_33-items : List Item
job_33-items = Begin 1 ∷ Return 1 Accepted ∷ Begin 2 ∷ Return 2 NotThere ∷ Begin 3 ∷ Enter (call_in 0 1) Normal (record { 0 = 0 }) None ∷ Body (call_in 0 1) (record { 0 = 0 }) Nop ∷ Enter (call_in 0 2) Normal (record { 0 = 1 }) (Some (call_in 0 1)) ∷ Body (call_in 0 2) (record { 0 = 1 }) Nop ∷ Enter (call_in 0 3) Normal (record { 0 = 1 }) (Some (call_in 0 2)) ∷ Enter (call_in 2 1) Nmi (record { 0 = 0 }) None ∷ Back (call_in 0 3) (record { 0 = 1 }) ∷ BackEnd (call_in 0 3) (record { 0 = 1 }) ∷ Body (call_in 0 3) (record { 0 = 1 }) (Own (record { 0 = 1 })) ∷ Enter (call_in 0 4) Nmi (record { 0 = 0 }) (Some (call_in 0 3)) ∷ Back (call_in 2 1) (record { 0 = 1 }) ∷ BackEnd (call_in 2 1) (record { 0 = 1 }) ∷ Back (call_in 0 4) (record { 0 = 1 }) ∷ BackEnd (call_in 0 4) (record { 0 = 1 }) ∷ Body (call_in 2 1) (record { 0 = 0 }) (Own (record { 0 = 1 })) ∷ Body (call_in 0 4) (record { 0 = 0 }) (Own (record { 0 = 1 })) ∷ Leave (call_in 0 4) ∷ Enter (call_in 2 2) Nmi (record { 0 = 1 }) (Some (call_in 2 1)) ∷ Exit (call_in 0 4) (record { 0 = 1 }) 17 ∷ ExitEnd (call_in 0 4) (record { 0 = 1 }) ∷ Ret (call_in 0 4) (Some (call_in 0 3)) ∷ Return 3 Accepted ∷ Begin 4 ∷ Leave (call_in 0 3) ∷ Return 4 Already ∷ Back (call_in 2 2) (record { 0 = 1 }) ∷ Begin 5 ∷ Exit (call_in 0 3) (record { 0 = 1 }) 11 ∷ Return 5 Already ∷ ExitEnd (call_in 0 3) (record { 0 = 1 }) ∷ Begin 6 ∷ Ret (call_in 0 3) (Some (call_in 0 2)) ∷ BackEnd (call_in 2 2) (record { 0 = 1 }) ∷ Enter (call_in 1 1) Normal (record { 0 = 0 }) None ∷ Body (call_in 2 2) (record { 0 = 1 }) (Own (record { 0 = 1 })) ∷ Leave (call_in 0 2) ∷ Ret (call_in 0 2) (Some (call_in 0 1)) ∷ Leave (call_in 0 1) ∷ Ret (call_in 0 1) None ∷ Enter (call_in 2 3) Nmi (record { 0 = 1 }) (Some (call_in 2 2)) ∷ Back (call_in 1 1) (record { 0 = 1 }) ∷ BackEnd (call_in 1 1) (record { 0 = 1 }) ∷ Body (call_in 1 1) (record { 0 = 0 }) (Own (record { 0 = 1 })) ∷ Back (call_in 2 3) (record { 0 = 1 }) ∷ BackEnd (call_in 2 3) (record { 0 = 1 }) ∷ Return 6 Accepted ∷ Body (call_in 2 3) (record { 0 = 1 }) (Own (record { 0 = 1 })) ∷ Enter (call_in 2 4) Nmi (record { 0 = 0 }) (Some (call_in 2 3)) ∷ Leave (call_in 1 1) ∷ Exit (call_in 1 1) (record { 0 = 1 }) 45 ∷ Back (call_in 2 4) (record { 0 = 1 }) ∷ ExitEnd (call_in 1 1) (record { 0 = 1 }) ∷ BackEnd (call_in 2 4) (record { 0 = 1 }) ∷ Ret (call_in 1 1) None ∷ Body (call_in 2 4) (record { 0 = 0 }) (Own (record { 0 = 1 })) ∷ Enter (call_in 2 5) Nmi (record { 0 = 1 }) (Some (call_in 2 4)) ∷ Enter (call_in 1 2) Normal (record { 0 = 0 }) None ∷ Back (call_in 2 5) (record { 0 = 1 }) ∷ BackEnd (call_in 2 5) (record { 0 = 1 }) ∷ Back (call_in 1 2) (record { 0 = 1 }) ∷ Body (call_in 2 5) (record { 0 = 1 }) (Own (record { 0 = 1 })) ∷ BackEnd (call_in 1 2) (record { 0 = 1 }) ∷ Body (call_in 1 2) (record { 0 = 0 }) (Own (record { 0 = 1 })) ∷ Leave (call_in 2 5) ∷ Exit (call_in 2 5) (record { 0 = 1 }) 62 ∷ ExitEnd (call_in 2 5) (record { 0 = 1 }) ∷ Enter (call_in 1 3) Normal (record { 0 = 1 }) (Some (call_in 1 2)) ∷ Ret (call_in 2 5) (Some (call_in 2 4)) ∷ Leave (call_in 2 4) ∷ Back (call_in 1 3) (record { 0 = 1 }) ∷ Exit (call_in 2 4) (record { 0 = 1 }) 55 ∷ BackEnd (call_in 1 3) (record { 0 = 1 }) ∷ ExitEnd (call_in 2 4) (record { 0 = 1 }) ∷ Body (call_in 1 3) (record { 0 = 1 }) (Own (record { 0 = 1 })) ∷ Ret (call_in 2 4) (Some (call_in 2 3)) ∷ Leave (call_in 1 3) ∷ Leave (call_in 2 3) ∷ Exit (call_in 1 3) (record { 0 = 1 }) 74 ∷ Exit (call_in 2 3) (record { 0 = 1 }) 48 ∷ ExitEnd (call_in 1 3) (record { 0 = 1 }) ∷ ExitEnd (call_in 2 3) (record { 0 = 1 }) ∷ Ret (call_in 1 3) (Some (call_in 1 2)) ∷ Ret (call_in 2 3) (Some (call_in 2 2)) ∷ Leave (call_in 1 2) ∷ Leave (call_in 2 2) ∷ Exit (call_in 1 2) (record { 0 = 1 }) 64 ∷ Exit (call_in 2 2) (record { 0 = 1 }) 30 ∷ ExitEnd (call_in 1 2) (record { 0 = 1 }) ∷ ExitEnd (call_in 2 2) (record { 0 = 1 }) ∷ Ret (call_in 1 2) None ∷ Ret (call_in 2 2) (Some (call_in 2 1)) ∷ Leave (call_in 2 1) ∷ Exit (call_in 2 1) (record { 0 = 1 }) 15 ∷ ExitEnd (call_in 2 1) (record { 0 = 1 }) ∷ Ret (call_in 2 1) None ∷ []

pub job_33-plays : Plays job_33 job_33-items true
unfolding actors_of repeated start step run played play all_end control_next control_got cpu_next cpu_got insn moves desk
job_33-plays = (refl, refl)

abbrev pub job_39 : Job
job_39 = record { version = 1; functions = named (codes "a") (Some (codes "m")) ∷ named (codes "b") (Some (codes "m")) ∷ []; users = record { name = codes "u0"; kind = Profile; regs = false; ipmodify = None; pid = true; act = None } ∷ record { name = codes "u1"; kind = Fprobe true true; regs = true; ipmodify = None; pid = true; act = Some (CallIn (record { 0 = 1 })) } ∷ []; frames = 1; tramps = 0; quanta = 40 ∷ []; tasks = record { pid = 10; cpu = 0; acts = After 1 ∷ Call (record { 0 = 1 }) ∷ RetAct ∷ Raise Softirq ∷ Raise Nmi ∷ Lower ∷ After 3 ∷ Call (record { 0 = 1 }) ∷ RetAct ∷ Lower ∷ [] } ∷ record { pid = 11; cpu = 0; acts = After 4 ∷ Call (record { 0 = 1 }) ∷ Call (record { 0 = 0 }) ∷ Call (record { 0 = 1 }) ∷ RetAct ∷ RetAct ∷ RetAct ∷ [] } ∷ record { pid = 12; cpu = 0; acts = After 1 ∷ Call (record { 0 = 1 }) ∷ RetAct ∷ Raise Nmi ∷ Call (record { 0 = 1 }) ∷ RetAct ∷ Lower ∷ [] } ∷ []; ctls = Run (Pid (true ∷ false ∷ false ∷ [])) ∷ Run (Pid (false ∷ true ∷ false ∷ [])) ∷ Run (Enable 0) ∷ Until 2 2 ∷ Run (Register 1) ∷ Until 0 4 ∷ Run (Enable 0) ∷ Run (MaxDepth 1) ∷ []; lines = usual_lines; rings = usual_rings; schedule = record { who = OfCpu (record { 0 = 0 }); count = 8 } ∷ record { who = OfCpu (record { 0 = 0 }); count = 1 } ∷ record { who = OfCpu (record { 0 = 0 }); count = 4 } ∷ record { who = OfCpu (record { 0 = 0 }); count = 6 } ∷ record { who = OfControl; count = 7 } ∷ record { who = OfControl; count = 5 } ∷ record { who = OfControl; count = 1 } ∷ record { who = OfCpu (record { 0 = 0 }); count = 1 } ∷ record { who = OfCpu (record { 0 = 0 }); count = 7 } ∷ record { who = OfControl; count = 2 } ∷ record { who = OfCpu (record { 0 = 0 }); count = 1 } ∷ record { who = OfControl; count = 1 } ∷ record { who = OfCpu (record { 0 = 0 }); count = 5 } ∷ record { who = OfControl; count = 8 } ∷ record { who = All; count = 300 } ∷ [] }

abbrev pub job_39-items : List Item
job_39-items = Begin 1 ∷ Return 1 Accepted ∷ Begin 2 ∷ Enter (call_in 2 1) Normal (record { 0 = 1 }) None ∷ Return 2 Accepted ∷ Begin 3 ∷ Return 3 NotThere ∷ Body (call_in 2 1) (record { 0 = 1 }) Nop ∷ Leave (call_in 2 1) ∷ Begin 4 ∷ Ret (call_in 2 1) None ∷ Enter (call_in 2 2) Nmi (record { 0 = 1 }) None ∷ Body (call_in 2 2) (record { 0 = 1 }) Nop ∷ Leave (call_in 2 2) ∷ Ret (call_in 2 2) None ∷ Return 4 Accepted ∷ Enter (call_in 0 1) Normal (record { 0 = 1 }) None ∷ Refuse (call_in 0 1) (record { 0 = 1 }) ByPid ∷ Body (call_in 0 1) (record { 0 = 1 }) ByList ∷ Leave (call_in 0 1) ∷ Ret (call_in 0 1) None ∷ Begin 5 ∷ Return 5 NotThere ∷ Begin 6 ∷ Enter (call_in 0 2) Softirq (record { 0 = 1 }) None ∷ Return 6 Accepted ∷ Enter (call_in 1 1) Normal (record { 0 = 1 }) None ∷ Back (call_in 1 1) (record { 0 = 1 }) ∷ Enter (call_in 1 2) Normal (record { 0 = 1 }) (Some (call_in 1 1)) ∷ Refuse (call_in 1 2) (record { 0 = 1 }) Recursion ∷ Body (call_in 1 2) (record { 0 = 1 }) ByList ∷ Leave (call_in 1 2) ∷ Ret (call_in 1 2) (Some (call_in 1 1)) ∷ BackEnd (call_in 1 1) (record { 0 = 1 }) ∷ Body (call_in 1 1) (record { 0 = 1 }) ByList ∷ Enter (call_in 1 3) Normal (record { 0 = 0 }) (Some (call_in 1 1)) ∷ Back (call_in 1 3) (record { 0 = 1 }) ∷ Enter (call_in 1 4) Normal (record { 0 = 1 }) (Some (call_in 1 3)) ∷ Refuse (call_in 0 2) (record { 0 = 1 }) ByPid ∷ Body (call_in 0 2) (record { 0 = 1 }) ByList ∷ Leave (call_in 0 2) ∷ Ret (call_in 0 2) None ∷ Refuse (call_in 1 4) (record { 0 = 1 }) Recursion ∷ Body (call_in 1 4) (record { 0 = 1 }) ByList ∷ Leave (call_in 1 4) ∷ Ret (call_in 1 4) (Some (call_in 1 3)) ∷ BackEnd (call_in 1 3) (record { 0 = 1 }) ∷ Body (call_in 1 3) (record { 0 = 0 }) ByList ∷ Enter (call_in 1 5) Normal (record { 0 = 1 }) (Some (call_in 1 3)) ∷ Back (call_in 1 5) (record { 0 = 1 }) ∷ Enter (call_in 1 6) Normal (record { 0 = 1 }) (Some (call_in 1 5)) ∷ Refuse (call_in 1 6) (record { 0 = 1 }) Recursion ∷ Body (call_in 1 6) (record { 0 = 1 }) ByList ∷ Leave (call_in 1 6) ∷ Ret (call_in 1 6) (Some (call_in 1 5)) ∷ BackEnd (call_in 1 5) (record { 0 = 1 }) ∷ Body (call_in 1 5) (record { 0 = 1 }) ByList ∷ Leave (call_in 1 5) ∷ Ret (call_in 1 5) (Some (call_in 1 3)) ∷ Leave (call_in 1 3) ∷ Ret (call_in 1 3) (Some (call_in 1 1)) ∷ Leave (call_in 1 1) ∷ Ret (call_in 1 1) None ∷ []

pub job_39-plays : Plays job_39 job_39-items true
unfolding actors_of repeated start step run played play all_end control_next control_got cpu_next cpu_got insn moves desk
job_39-plays = (refl, refl)

abbrev pub job_40 : Job
job_40 = record { version = 1; functions = named (codes "a") None ∷ named (codes "b") None ∷ named (codes "c") (Some (codes "m")) ∷ named (codes "d") None ∷ []; users = record { name = codes "u0"; kind = Fprobe true false; regs = false; ipmodify = None; pid = true; act = None } ∷ record { name = codes "u1"; kind = Fprobe false false; regs = false; ipmodify = None; pid = true; act = Some (IrqIn (record { 0 = 0 })) } ∷ record { name = codes "u2"; kind = Graph; regs = true; ipmodify = None; pid = true; act = None } ∷ []; frames = 2; tramps = 1; quanta = 3 ∷ 3 ∷ []; tasks = record { pid = 10; cpu = 1; acts = Raise Softirq ∷ Lower ∷ Call (record { 0 = 3 }) ∷ RetAct ∷ Call (record { 0 = 1 }) ∷ RetAct ∷ [] } ∷ []; ctls = Until 0 5 ∷ Run (Register 1) ∷ Run (Unregister 0) ∷ Run (Register 1) ∷ Until 0 1 ∷ Run (Notrace 0 (record { append = false; remove = true; clear = false; set = true ∷ false ∷ false ∷ false ∷ [] })) ∷ []; lines = usual_lines; rings = usual_rings; schedule = record { who = OfControl; count = 2 } ∷ record { who = OfControl; count = 6 } ∷ record { who = OfControl; count = 17 } ∷ record { who = OfControl; count = 7 } ∷ record { who = OfCpu (record { 0 = 0 }); count = 14 } ∷ record { who = OfCpu (record { 0 = 0 }); count = 10 } ∷ record { who = OfCpu (record { 0 = 0 }); count = 17 } ∷ record { who = OfControl; count = 2 } ∷ record { who = OfCpu (record { 0 = 1 }); count = 13 } ∷ record { who = All; count = 300 } ∷ [] }

abbrev pub job_40-items : List Item
job_40-items = Enter (call_in 0 1) Normal (record { 0 = 3 }) None ∷ Body (call_in 0 1) (record { 0 = 3 }) Nop ∷ Leave (call_in 0 1) ∷ Ret (call_in 0 1) None ∷ Enter (call_in 0 2) Normal (record { 0 = 1 }) None ∷ Body (call_in 0 2) (record { 0 = 1 }) Nop ∷ Leave (call_in 0 2) ∷ Begin 1 ∷ Ret (call_in 0 2) None ∷ Return 1 Accepted ∷ Begin 2 ∷ Return 2 NotThere ∷ Begin 3 ∷ Return 3 Already ∷ Begin 4 ∷ Return 4 Accepted ∷ []

pub job_40-plays : Plays job_40 job_40-items true
unfolding actors_of repeated start step run played play all_end control_next control_got cpu_next cpu_got insn moves desk
job_40-plays = (refl, refl)

abbrev pub job_42 : Job
job_42 = record { version = 1; functions = named (codes "a") None ∷ []; users = record { name = codes "u0"; kind = Function; regs = false; ipmodify = None; pid = false; act = Some (CallIn (record { 0 = 0 })) } ∷ record { name = codes "u1"; kind = Function; regs = true; ipmodify = None; pid = false; act = Some (IrqIn (record { 0 = 0 })) } ∷ []; frames = 3; tramps = 0; quanta = 3 ∷ 3 ∷ []; tasks = record { pid = 10; cpu = 1; acts = After 2 ∷ Call (record { 0 = 0 }) ∷ Call (record { 0 = 0 }) ∷ RetAct ∷ After 6 ∷ RetAct ∷ Call (record { 0 = 0 }) ∷ Call (record { 0 = 0 }) ∷ RetAct ∷ RetAct ∷ [] } ∷ record { pid = 11; cpu = 1; acts = After 6 ∷ Call (record { 0 = 0 }) ∷ Raise Softirq ∷ Lower ∷ RetAct ∷ [] } ∷ []; ctls = Run (Notrace 1 (record { append = true; remove = false; clear = false; set = true ∷ [] })) ∷ Run (Filter 0 (record { append = false; remove = true; clear = false; set = true ∷ [] })) ∷ Run (Pid (false ∷ false ∷ [])) ∷ Run (Register 1) ∷ Run (Register 1) ∷ Run (Register 1) ∷ Run (Disable 1) ∷ []; lines = usual_lines; rings = usual_rings; schedule = record { who = OfCpu (record { 0 = 0 }); count = 3 } ∷ record { who = OfCpu (record { 0 = 0 }); count = 3 } ∷ record { who = OfCpu (record { 0 = 0 }); count = 3 } ∷ record { who = OfControl; count = 3 } ∷ record { who = OfCpu (record { 0 = 1 }); count = 1 } ∷ record { who = OfCpu (record { 0 = 1 }); count = 3 } ∷ record { who = OfCpu (record { 0 = 0 }); count = 3 } ∷ record { who = OfCpu (record { 0 = 0 }); count = 1 } ∷ record { who = OfCpu (record { 0 = 0 }); count = 2 } ∷ record { who = OfControl; count = 2 } ∷ record { who = OfControl; count = 3 } ∷ record { who = OfCpu (record { 0 = 1 }); count = 2 } ∷ record { who = OfCpu (record { 0 = 1 }); count = 1 } ∷ record { who = OfCpu (record { 0 = 1 }); count = 1 } ∷ record { who = OfCpu (record { 0 = 1 }); count = 2 } ∷ record { who = OfCpu (record { 0 = 1 }); count = 3 } ∷ record { who = All; count = 300 } ∷ [] }

abbrev pub job_42-items : List Item
job_42-items = Begin 1 ∷ Return 1 Accepted ∷ Begin 2 ∷ Return 2 Accepted ∷ Begin 3 ∷ Return 3 Accepted ∷ Enter (call_in 0 1) Normal (record { 0 = 0 }) None ∷ Begin 4 ∷ Body (call_in 0 1) (record { 0 = 0 }) Nop ∷ Return 4 Accepted ∷ Begin 5 ∷ Return 5 Already ∷ Begin 6 ∷ Enter (call_in 0 2) Normal (record { 0 = 0 }) (Some (call_in 0 1)) ∷ Return 6 Already ∷ Begin 7 ∷ Return 7 Invalid ∷ Body (call_in 0 2) (record { 0 = 0 }) Nop ∷ Enter (call_in 1 1) Normal (record { 0 = 0 }) None ∷ Leave (call_in 0 2) ∷ Ret (call_in 0 2) (Some (call_in 0 1)) ∷ Body (call_in 1 1) (record { 0 = 0 }) Nop ∷ Leave (call_in 0 1) ∷ Ret (call_in 0 1) None ∷ Leave (call_in 1 1) ∷ Ret (call_in 1 1) None ∷ Enter (call_in 0 3) Normal (record { 0 = 0 }) None ∷ Body (call_in 0 3) (record { 0 = 0 }) Nop ∷ Enter (call_in 0 4) Normal (record { 0 = 0 }) (Some (call_in 0 3)) ∷ Body (call_in 0 4) (record { 0 = 0 }) Nop ∷ Leave (call_in 0 4) ∷ Ret (call_in 0 4) (Some (call_in 0 3)) ∷ Leave (call_in 0 3) ∷ Ret (call_in 0 3) None ∷ []

pub job_42-plays : Plays job_42 job_42-items true
unfolding actors_of repeated start step run played play all_end control_next control_got cpu_next cpu_got insn moves desk
job_42-plays = (refl, refl)

abbrev pub job_43 : Job
job_43 = record { version = 1; functions = named (codes "a") (Some (codes "m")) ∷ []; users = record { name = codes "u0"; kind = Fprobe true false; regs = false; ipmodify = None; pid = false; act = None } ∷ record { name = codes "u1"; kind = Fprobe false false; regs = true; ipmodify = None; pid = false; act = None } ∷ record { name = codes "u2"; kind = Profile; regs = true; ipmodify = None; pid = false; act = None } ∷ []; frames = 2; tramps = 1; quanta = 1 ∷ 40 ∷ []; tasks = record { pid = 10; cpu = 0; acts = After 1 ∷ Call (record { 0 = 0 }) ∷ RetAct ∷ Call (record { 0 = 0 }) ∷ Call (record { 0 = 0 }) ∷ RetAct ∷ RetAct ∷ [] } ∷ []; ctls = Run (Pid (true ∷ [])) ∷ Until 0 5 ∷ Run (Register 1) ∷ []; lines = usual_lines; rings = usual_rings; schedule = record { who = OfCpu (record { 0 = 0 }); count = 2 } ∷ record { who = OfCpu (record { 0 = 0 }); count = 14 } ∷ record { who = OfCpu (record { 0 = 1 }); count = 3 } ∷ record { who = OfCpu (record { 0 = 0 }); count = 5 } ∷ record { who = OfCpu (record { 0 = 1 }); count = 3 } ∷ record { who = OfCpu (record { 0 = 1 }); count = 5 } ∷ record { who = OfCpu (record { 0 = 1 }); count = 10 } ∷ record { who = OfControl; count = 18 } ∷ record { who = OfCpu (record { 0 = 0 }); count = 15 } ∷ record { who = OfCpu (record { 0 = 1 }); count = 2 } ∷ record { who = OfControl; count = 1 } ∷ record { who = OfControl; count = 4 } ∷ record { who = OfControl; count = 1 } ∷ record { who = OfCpu (record { 0 = 0 }); count = 4 } ∷ record { who = OfCpu (record { 0 = 1 }); count = 18 } ∷ record { who = OfCpu (record { 0 = 0 }); count = 9 } ∷ record { who = OfCpu (record { 0 = 1 }); count = 15 } ∷ record { who = OfCpu (record { 0 = 0 }); count = 13 } ∷ record { who = OfControl; count = 2 } ∷ record { who = OfControl; count = 7 } ∷ record { who = OfCpu (record { 0 = 1 }); count = 13 } ∷ record { who = OfControl; count = 19 } ∷ record { who = OfCpu (record { 0 = 0 }); count = 9 } ∷ record { who = OfCpu (record { 0 = 1 }); count = 19 } ∷ record { who = OfCpu (record { 0 = 0 }); count = 11 } ∷ record { who = OfCpu (record { 0 = 0 }); count = 12 } ∷ record { who = All; count = 300 } ∷ [] }

abbrev pub job_43-items : List Item
job_43-items = Begin 1 ∷ Return 1 Accepted ∷ Enter (call_in 0 1) Normal (record { 0 = 0 }) None ∷ Body (call_in 0 1) (record { 0 = 0 }) Nop ∷ Leave (call_in 0 1) ∷ Ret (call_in 0 1) None ∷ Enter (call_in 0 2) Normal (record { 0 = 0 }) None ∷ Body (call_in 0 2) (record { 0 = 0 }) Nop ∷ Enter (call_in 0 3) Normal (record { 0 = 0 }) (Some (call_in 0 2)) ∷ Body (call_in 0 3) (record { 0 = 0 }) Nop ∷ Begin 2 ∷ Leave (call_in 0 3) ∷ Ret (call_in 0 3) (Some (call_in 0 2)) ∷ Leave (call_in 0 2) ∷ Ret (call_in 0 2) None ∷ Return 2 Accepted ∷ []

pub job_43-plays : Plays job_43 job_43-items true
unfolding actors_of repeated start step run played play all_end control_next control_got cpu_next cpu_got insn moves desk
job_43-plays = (refl, refl)

abbrev pub job_49 : Job
job_49 = record { version = 1; functions = named (codes "a") (Some (codes "m")) ∷ []; users = record { name = codes "u0"; kind = Fprobe true true; regs = false; ipmodify = None; pid = false; act = Some (IrqIn (record { 0 = 0 })) } ∷ record { name = codes "u1"; kind = Function; regs = false; ipmodify = None; pid = false; act = Some (IrqIn (record { 0 = 0 })) } ∷ record { name = codes "u2"; kind = Function; regs = true; ipmodify = Some (record { 0 = 0 }); pid = false; act = None } ∷ []; frames = 50; tramps = 0; quanta = 7 ∷ []; tasks = record { pid = 10; cpu = 0; acts = Raise Nmi ∷ Call (record { 0 = 0 }) ∷ RetAct ∷ Lower ∷ [] } ∷ record { pid = 11; cpu = 0; acts = After 5 ∷ Raise Nmi ∷ Call (record { 0 = 0 }) ∷ RetAct ∷ Call (record { 0 = 0 }) ∷ After 7 ∷ After 7 ∷ RetAct ∷ Lower ∷ [] } ∷ record { pid = 12; cpu = 0; acts = After 6 ∷ Raise Softirq ∷ Call (record { 0 = 0 }) ∷ RetAct ∷ Lower ∷ Raise Irq ∷ Call (record { 0 = 0 }) ∷ Call (record { 0 = 0 }) ∷ Call (record { 0 = 0 }) ∷ RetAct ∷ RetAct ∷ RetAct ∷ Lower ∷ [] } ∷ []; ctls = Run (Enable 1) ∷ Run (MaxDepth 0) ∷ Run (Enable 2) ∷ Run (Notrace 0 (record { append = false; remove = false; clear = false; set = true ∷ [] })) ∷ Run (MaxDepth 2) ∷ Run (Register 2) ∷ Until 2 10 ∷ Run (MaxDepth 2) ∷ []; lines = usual_lines; rings = usual_rings; schedule = record { who = OfControl; count = 1 } ∷ record { who = OfControl; count = 2 } ∷ record { who = OfCpu (record { 0 = 0 }); count = 3 } ∷ record { who = OfCpu (record { 0 = 0 }); count = 15 } ∷ record { who = OfCpu (record { 0 = 0 }); count = 18 } ∷ record { who = OfControl; count = 14 } ∷ record { who = OfCpu (record { 0 = 0 }); count = 4 } ∷ record { who = OfCpu (record { 0 = 0 }); count = 8 } ∷ record { who = OfControl; count = 16 } ∷ record { who = OfControl; count = 9 } ∷ record { who = OfCpu (record { 0 = 0 }); count = 6 } ∷ record { who = OfCpu (record { 0 = 0 }); count = 19 } ∷ record { who = OfControl; count = 6 } ∷ record { who = OfControl; count = 20 } ∷ record { who = OfCpu (record { 0 = 0 }); count = 12 } ∷ record { who = OfControl; count = 2 } ∷ record { who = OfControl; count = 14 } ∷ record { who = All; count = 300 } ∷ [] }

abbrev pub job_49-items : List Item
job_49-items = Begin 1 ∷ Return 1 NotThere ∷ Begin 2 ∷ Enter (call_in 0 1) Nmi (record { 0 = 0 }) None ∷ Body (call_in 0 1) (record { 0 = 0 }) Nop ∷ Leave (call_in 0 1) ∷ Ret (call_in 0 1) None ∷ Return 2 Accepted ∷ Begin 3 ∷ Return 3 NotThere ∷ Begin 4 ∷ Return 4 Accepted ∷ Begin 5 ∷ Return 5 Accepted ∷ Begin 6 ∷ Return 6 Invalid ∷ Enter (call_in 1 1) Nmi (record { 0 = 0 }) None ∷ Enter (call_in 2 1) Softirq (record { 0 = 0 }) None ∷ Body (call_in 1 1) (record { 0 = 0 }) Nop ∷ Leave (call_in 1 1) ∷ Ret (call_in 1 1) None ∷ Body (call_in 2 1) (record { 0 = 0 }) Nop ∷ Leave (call_in 2 1) ∷ Enter (call_in 1 2) Nmi (record { 0 = 0 }) None ∷ Body (call_in 1 2) (record { 0 = 0 }) Nop ∷ Ret (call_in 2 1) None ∷ Enter (call_in 2 2) Irq (record { 0 = 0 }) None ∷ Body (call_in 2 2) (record { 0 = 0 }) Nop ∷ Enter (call_in 2 3) Irq (record { 0 = 0 }) (Some (call_in 2 2)) ∷ Body (call_in 2 3) (record { 0 = 0 }) Nop ∷ Enter (call_in 2 4) Irq (record { 0 = 0 }) (Some (call_in 2 3)) ∷ Body (call_in 2 4) (record { 0 = 0 }) Nop ∷ Leave (call_in 2 4) ∷ Ret (call_in 2 4) (Some (call_in 2 3)) ∷ Begin 7 ∷ Leave (call_in 2 3) ∷ Ret (call_in 2 3) (Some (call_in 2 2)) ∷ Leave (call_in 2 2) ∷ Return 7 Accepted ∷ Ret (call_in 2 2) None ∷ Leave (call_in 1 2) ∷ Ret (call_in 1 2) None ∷ []

pub job_49-plays : Plays job_49 job_49-items true
unfolding actors_of repeated start step run played play all_end control_next control_got cpu_next cpu_got insn moves desk
job_49-plays = (refl, refl)

abbrev pub job_59 : Job
job_59 = record { version = 1; functions = named (codes "a") None ∷ named (codes "b") (Some (codes "m")) ∷ []; users = record { name = codes "u0"; kind = Fprobe true false; regs = true; ipmodify = None; pid = false; act = Some (IrqIn (record { 0 = 1 })) } ∷ record { name = codes "u1"; kind = Fprobe false false; regs = true; ipmodify = None; pid = false; act = None } ∷ record { name = codes "u2"; kind = Fprobe false false; regs = false; ipmodify = None; pid = false; act = Some (CallIn (record { 0 = 1 })) } ∷ []; frames = 1; tramps = 0; quanta = 7 ∷ []; tasks = record { pid = 10; cpu = 0; acts = After 1 ∷ After 5 ∷ Call (record { 0 = 1 }) ∷ Call (record { 0 = 0 }) ∷ RetAct ∷ RetAct ∷ [] } ∷ []; ctls = Run (Register 2) ∷ Run (Pid (false ∷ [])) ∷ Run (Register 2) ∷ Run (Register 2) ∷ Run (Register 1) ∷ Run (Filter 2 (record { append = false; remove = false; clear = false; set = false ∷ true ∷ [] })) ∷ Run (Register 2) ∷ []; lines = usual_lines; rings = usual_rings; schedule = record { who = OfControl; count = 10 } ∷ record { who = OfControl; count = 10 } ∷ record { who = OfCpu (record { 0 = 0 }); count = 3 } ∷ record { who = OfCpu (record { 0 = 0 }); count = 6 } ∷ record { who = OfControl; count = 8 } ∷ record { who = OfCpu (record { 0 = 0 }); count = 20 } ∷ record { who = OfControl; count = 4 } ∷ record { who = OfCpu (record { 0 = 0 }); count = 14 } ∷ record { who = OfCpu (record { 0 = 0 }); count = 1 } ∷ record { who = OfControl; count = 4 } ∷ record { who = OfCpu (record { 0 = 0 }); count = 2 } ∷ record { who = OfControl; count = 20 } ∷ record { who = OfControl; count = 11 } ∷ record { who = OfCpu (record { 0 = 0 }); count = 14 } ∷ record { who = OfCpu (record { 0 = 0 }); count = 14 } ∷ record { who = OfControl; count = 19 } ∷ record { who = OfControl; count = 1 } ∷ record { who = OfControl; count = 1 } ∷ record { who = OfControl; count = 10 } ∷ record { who = OfControl; count = 9 } ∷ record { who = OfControl; count = 8 } ∷ record { who = OfControl; count = 4 } ∷ record { who = OfControl; count = 6 } ∷ record { who = OfCpu (record { 0 = 0 }); count = 2 } ∷ record { who = All; count = 300 } ∷ [] }

abbrev pub job_59-items : List Item
job_59-items = Begin 1 ∷ Return 1 Accepted ∷ Begin 2 ∷ Return 2 Accepted ∷ Begin 3 ∷ Return 3 Already ∷ Begin 4 ∷ Return 4 Already ∷ Begin 5 ∷ Return 5 Accepted ∷ Begin 6 ∷ Return 6 Accepted ∷ Begin 7 ∷ Return 7 Already ∷ Enter (call_in 0 1) Normal (record { 0 = 1 }) None ∷ Back (call_in 0 1) (record { 0 = 1 }) ∷ BackEnd (call_in 0 1) (record { 0 = 1 }) ∷ Back (call_in 0 1) (record { 0 = 2 }) ∷ Enter (call_in 0 2) Normal (record { 0 = 1 }) (Some (call_in 0 1)) ∷ Refuse (call_in 0 2) (record { 0 = 1 }) Recursion ∷ Refuse (call_in 0 2) (record { 0 = 2 }) Recursion ∷ Body (call_in 0 2) (record { 0 = 1 }) ByList ∷ Leave (call_in 0 2) ∷ Ret (call_in 0 2) (Some (call_in 0 1)) ∷ BackEnd (call_in 0 1) (record { 0 = 2 }) ∷ Body (call_in 0 1) (record { 0 = 1 }) ByList ∷ Enter (call_in 0 3) Normal (record { 0 = 0 }) (Some (call_in 0 1)) ∷ Back (call_in 0 3) (record { 0 = 1 }) ∷ BackEnd (call_in 0 3) (record { 0 = 1 }) ∷ Body (call_in 0 3) (record { 0 = 0 }) ByList ∷ Leave (call_in 0 3) ∷ Ret (call_in 0 3) (Some (call_in 0 1)) ∷ Leave (call_in 0 1) ∷ Ret (call_in 0 1) None ∷ []

pub job_59-plays : Plays job_59 job_59-items true
unfolding actors_of repeated start step run played play all_end control_next control_got cpu_next cpu_got insn moves desk
job_59-plays = (refl, refl)

abbrev pub job_65 : Job
job_65 = record { version = 1; functions = named (codes "a") (Some (codes "m")) ∷ named (codes "b") (Some (codes "m")) ∷ named (codes "c") None ∷ named (codes "d") (Some (codes "m")) ∷ []; users = record { name = codes "u0"; kind = Fprobe false false; regs = false; ipmodify = None; pid = false; act = Some (CallIn (record { 0 = 3 })) } ∷ record { name = codes "u1"; kind = Fprobe true false; regs = false; ipmodify = None; pid = true; act = None } ∷ record { name = codes "u2"; kind = Fprobe true true; regs = true; ipmodify = None; pid = false; act = None } ∷ record { name = codes "u3"; kind = Fprobe true true; regs = false; ipmodify = None; pid = false; act = None } ∷ []; frames = 50; tramps = 16; quanta = 15 ∷ 40 ∷ []; tasks = record { pid = 10; cpu = 0; acts = Call (record { 0 = 0 }) ∷ Call (record { 0 = 1 }) ∷ RetAct ∷ RetAct ∷ [] } ∷ []; ctls = Run (Disable 3) ∷ Run (Register 2) ∷ Run (Register 0) ∷ Run (Enable 1) ∷ []; lines = usual_lines; rings = usual_rings; schedule = record { who = OfCpu (record { 0 = 1 }); count = 3 } ∷ record { who = OfCpu (record { 0 = 1 }); count = 2 } ∷ record { who = OfControl; count = 1 } ∷ record { who = OfCpu (record { 0 = 0 }); count = 2 } ∷ record { who = OfCpu (record { 0 = 1 }); count = 2 } ∷ record { who = OfCpu (record { 0 = 0 }); count = 2 } ∷ record { who = OfCpu (record { 0 = 1 }); count = 3 } ∷ record { who = OfCpu (record { 0 = 0 }); count = 1 } ∷ record { who = OfCpu (record { 0 = 1 }); count = 2 } ∷ record { who = OfCpu (record { 0 = 1 }); count = 3 } ∷ record { who = OfControl; count = 1 } ∷ record { who = OfControl; count = 3 } ∷ record { who = OfCpu (record { 0 = 0 }); count = 3 } ∷ record { who = OfCpu (record { 0 = 1 }); count = 1 } ∷ record { who = OfControl; count = 2 } ∷ record { who = OfCpu (record { 0 = 1 }); count = 3 } ∷ record { who = OfControl; count = 1 } ∷ record { who = OfCpu (record { 0 = 0 }); count = 3 } ∷ record { who = OfCpu (record { 0 = 0 }); count = 1 } ∷ record { who = OfCpu (record { 0 = 0 }); count = 2 } ∷ record { who = OfControl; count = 2 } ∷ record { who = OfControl; count = 3 } ∷ record { who = OfCpu (record { 0 = 1 }); count = 3 } ∷ record { who = OfCpu (record { 0 = 1 }); count = 2 } ∷ record { who = OfCpu (record { 0 = 1 }); count = 1 } ∷ record { who = OfCpu (record { 0 = 1 }); count = 3 } ∷ record { who = OfCpu (record { 0 = 1 }); count = 3 } ∷ record { who = OfCpu (record { 0 = 0 }); count = 2 } ∷ record { who = OfControl; count = 1 } ∷ record { who = All; count = 300 } ∷ [] }

abbrev pub job_65-items : List Item
job_65-items = Begin 1 ∷ Enter (call_in 0 1) Normal (record { 0 = 0 }) None ∷ Body (call_in 0 1) (record { 0 = 0 }) Nop ∷ Return 1 NotThere ∷ Begin 2 ∷ Enter (call_in 0 2) Normal (record { 0 = 1 }) (Some (call_in 0 1)) ∷ Body (call_in 0 2) (record { 0 = 1 }) Nop ∷ Leave (call_in 0 2) ∷ Ret (call_in 0 2) (Some (call_in 0 1)) ∷ Leave (call_in 0 1) ∷ Ret (call_in 0 1) None ∷ Return 2 Accepted ∷ Begin 3 ∷ Return 3 Accepted ∷ Begin 4 ∷ Return 4 NotThere ∷ []

pub job_65-plays : Plays job_65 job_65-items true
unfolding actors_of repeated start step run played play all_end control_next control_got cpu_next cpu_got insn moves desk
job_65-plays = (refl, refl)

abbrev pub job_67 : Job
job_67 = record { version = 1; functions = named (codes "a") None ∷ []; users = record { name = codes "u0"; kind = Graph; regs = false; ipmodify = None; pid = true; act = None } ∷ record { name = codes "u1"; kind = Fprobe true false; regs = true; ipmodify = None; pid = true; act = None } ∷ record { name = codes "u2"; kind = Profile; regs = true; ipmodify = None; pid = true; act = None } ∷ record { name = codes "u3"; kind = Fprobe true false; regs = false; ipmodify = None; pid = true; act = None } ∷ []; frames = 50; tramps = 1; quanta = 40 ∷ []; tasks = record { pid = 10; cpu = 0; acts = After 1 ∷ Call (record { 0 = 0 }) ∷ Call (record { 0 = 0 }) ∷ After 1 ∷ Raise Irq ∷ Call (record { 0 = 0 }) ∷ Call (record { 0 = 0 }) ∷ Call (record { 0 = 0 }) ∷ RetAct ∷ Call (record { 0 = 0 }) ∷ RetAct ∷ RetAct ∷ RetAct ∷ Lower ∷ RetAct ∷ RetAct ∷ [] } ∷ record { pid = 11; cpu = 0; acts = After 2 ∷ Call (record { 0 = 0 }) ∷ Call (record { 0 = 0 }) ∷ After 1 ∷ RetAct ∷ RetAct ∷ [] } ∷ []; ctls = Run (Register 1) ∷ Run (Notrace 2 (record { append = true; remove = true; clear = false; set = true ∷ [] })) ∷ []; lines = usual_lines; rings = usual_rings; schedule = record { who = OfCpu (record { 0 = 0 }); count = 2 } ∷ record { who = OfControl; count = 6 } ∷ record { who = OfControl; count = 15 } ∷ record { who = OfControl; count = 15 } ∷ record { who = OfCpu (record { 0 = 0 }); count = 5 } ∷ record { who = OfControl; count = 12 } ∷ record { who = OfControl; count = 20 } ∷ record { who = OfCpu (record { 0 = 0 }); count = 20 } ∷ record { who = OfControl; count = 12 } ∷ record { who = OfControl; count = 4 } ∷ record { who = OfControl; count = 16 } ∷ record { who = OfControl; count = 4 } ∷ record { who = OfControl; count = 16 } ∷ record { who = OfCpu (record { 0 = 0 }); count = 12 } ∷ record { who = OfCpu (record { 0 = 0 }); count = 1 } ∷ record { who = OfControl; count = 15 } ∷ record { who = OfCpu (record { 0 = 0 }); count = 11 } ∷ record { who = OfCpu (record { 0 = 0 }); count = 16 } ∷ record { who = OfCpu (record { 0 = 0 }); count = 18 } ∷ record { who = OfControl; count = 13 } ∷ record { who = All; count = 300 } ∷ [] }

abbrev pub job_67-items : List Item
job_67-items = Begin 1 ∷ Return 1 Accepted ∷ Begin 2 ∷ Return 2 Accepted ∷ Enter (call_in 1 1) Normal (record { 0 = 0 }) None ∷ Back (call_in 1 1) (record { 0 = 1 }) ∷ BackEnd (call_in 1 1) (record { 0 = 1 }) ∷ Body (call_in 1 1) (record { 0 = 0 }) (Own (record { 0 = 1 })) ∷ Enter (call_in 1 2) Normal (record { 0 = 0 }) (Some (call_in 1 1)) ∷ Back (call_in 1 2) (record { 0 = 1 }) ∷ BackEnd (call_in 1 2) (record { 0 = 1 }) ∷ Body (call_in 1 2) (record { 0 = 0 }) (Own (record { 0 = 1 })) ∷ Leave (call_in 1 2) ∷ Exit (call_in 1 2) (record { 0 = 1 }) 9 ∷ ExitEnd (call_in 1 2) (record { 0 = 1 }) ∷ Ret (call_in 1 2) (Some (call_in 1 1)) ∷ Leave (call_in 1 1) ∷ Exit (call_in 1 1) (record { 0 = 1 }) 5 ∷ ExitEnd (call_in 1 1) (record { 0 = 1 }) ∷ Enter (call_in 0 1) Normal (record { 0 = 0 }) None ∷ Back (call_in 0 1) (record { 0 = 1 }) ∷ BackEnd (call_in 0 1) (record { 0 = 1 }) ∷ Body (call_in 0 1) (record { 0 = 0 }) (Own (record { 0 = 1 })) ∷ Enter (call_in 0 2) Normal (record { 0 = 0 }) (Some (call_in 0 1)) ∷ Back (call_in 0 2) (record { 0 = 1 }) ∷ BackEnd (call_in 0 2) (record { 0 = 1 }) ∷ Body (call_in 0 2) (record { 0 = 0 }) (Own (record { 0 = 1 })) ∷ Enter (call_in 0 3) Irq (record { 0 = 0 }) (Some (call_in 0 2)) ∷ Back (call_in 0 3) (record { 0 = 1 }) ∷ BackEnd (call_in 0 3) (record { 0 = 1 }) ∷ Body (call_in 0 3) (record { 0 = 0 }) (Own (record { 0 = 1 })) ∷ Ret (call_in 1 1) None ∷ Enter (call_in 0 4) Irq (record { 0 = 0 }) (Some (call_in 0 3)) ∷ Back (call_in 0 4) (record { 0 = 1 }) ∷ BackEnd (call_in 0 4) (record { 0 = 1 }) ∷ Body (call_in 0 4) (record { 0 = 0 }) (Own (record { 0 = 1 })) ∷ Enter (call_in 0 5) Irq (record { 0 = 0 }) (Some (call_in 0 4)) ∷ Back (call_in 0 5) (record { 0 = 1 }) ∷ BackEnd (call_in 0 5) (record { 0 = 1 }) ∷ Body (call_in 0 5) (record { 0 = 0 }) (Own (record { 0 = 1 })) ∷ Leave (call_in 0 5) ∷ Exit (call_in 0 5) (record { 0 = 1 }) 37 ∷ ExitEnd (call_in 0 5) (record { 0 = 1 }) ∷ Ret (call_in 0 5) (Some (call_in 0 4)) ∷ Enter (call_in 0 6) Irq (record { 0 = 0 }) (Some (call_in 0 4)) ∷ Back (call_in 0 6) (record { 0 = 1 }) ∷ BackEnd (call_in 0 6) (record { 0 = 1 }) ∷ Body (call_in 0 6) (record { 0 = 0 }) (Own (record { 0 = 1 })) ∷ Leave (call_in 0 6) ∷ Exit (call_in 0 6) (record { 0 = 1 }) 45 ∷ ExitEnd (call_in 0 6) (record { 0 = 1 }) ∷ Ret (call_in 0 6) (Some (call_in 0 4)) ∷ Leave (call_in 0 4) ∷ Exit (call_in 0 4) (record { 0 = 1 }) 33 ∷ ExitEnd (call_in 0 4) (record { 0 = 1 }) ∷ Ret (call_in 0 4) (Some (call_in 0 3)) ∷ Leave (call_in 0 3) ∷ Exit (call_in 0 3) (record { 0 = 1 }) 28 ∷ ExitEnd (call_in 0 3) (record { 0 = 1 }) ∷ Ret (call_in 0 3) (Some (call_in 0 2)) ∷ Leave (call_in 0 2) ∷ Exit (call_in 0 2) (record { 0 = 1 }) 24 ∷ ExitEnd (call_in 0 2) (record { 0 = 1 }) ∷ Ret (call_in 0 2) (Some (call_in 0 1)) ∷ Leave (call_in 0 1) ∷ Exit (call_in 0 1) (record { 0 = 1 }) 20 ∷ ExitEnd (call_in 0 1) (record { 0 = 1 }) ∷ Ret (call_in 0 1) None ∷ []

pub job_67-plays : Plays job_67 job_67-items true
unfolding actors_of repeated start step run played play all_end control_next control_got cpu_next cpu_got insn moves desk
job_67-plays = (refl, refl)

abbrev pub job_74 : Job
job_74 = record { version = 1; functions = named (codes "a") (Some (codes "m")) ∷ []; users = record { name = codes "u0"; kind = Fprobe true true; regs = false; ipmodify = None; pid = true; act = Some (IrqIn (record { 0 = 0 })) } ∷ record { name = codes "u1"; kind = Graph; regs = true; ipmodify = None; pid = true; act = None } ∷ []; frames = 1; tramps = 1; quanta = 15 ∷ []; tasks = record { pid = 10; cpu = 0; acts = After 2 ∷ Call (record { 0 = 0 }) ∷ After 1 ∷ RetAct ∷ Raise Nmi ∷ After 1 ∷ Call (record { 0 = 0 }) ∷ Call (record { 0 = 0 }) ∷ RetAct ∷ RetAct ∷ Lower ∷ [] } ∷ record { pid = 11; cpu = 0; acts = Raise Irq ∷ Raise Nmi ∷ Call (record { 0 = 0 }) ∷ RetAct ∷ Lower ∷ Lower ∷ [] } ∷ record { pid = 12; cpu = 0; acts = Raise Softirq ∷ Raise Nmi ∷ Lower ∷ Lower ∷ [] } ∷ []; ctls = Run (Register 1) ∷ Run (Notrace 0 (record { append = false; remove = true; clear = false; set = true ∷ [] })) ∷ Run (Register 1) ∷ []; lines = usual_lines; rings = usual_rings; schedule = record { who = OfCpu (record { 0 = 0 }); count = 8 } ∷ record { who = OfControl; count = 8 } ∷ record { who = OfControl; count = 5 } ∷ record { who = OfCpu (record { 0 = 0 }); count = 8 } ∷ record { who = OfCpu (record { 0 = 0 }); count = 4 } ∷ record { who = OfControl; count = 4 } ∷ record { who = OfCpu (record { 0 = 0 }); count = 3 } ∷ record { who = OfControl; count = 7 } ∷ record { who = OfCpu (record { 0 = 0 }); count = 2 } ∷ record { who = All; count = 300 } ∷ [] }

abbrev pub job_74-items : List Item
job_74-items = Enter (call_in 1 1) Nmi (record { 0 = 0 }) None ∷ Begin 1 ∷ Back (call_in 1 1) (record { 0 = 1 }) ∷ BackEnd (call_in 1 1) (record { 0 = 1 }) ∷ Body (call_in 1 1) (record { 0 = 0 }) (Own (record { 0 = 1 })) ∷ Return 1 Accepted ∷ Begin 2 ∷ Return 2 Accepted ∷ Begin 3 ∷ Return 3 Already ∷ Enter (call_in 0 1) Normal (record { 0 = 0 }) None ∷ Back (call_in 0 1) (record { 0 = 1 }) ∷ BackEnd (call_in 0 1) (record { 0 = 1 }) ∷ Body (call_in 0 1) (record { 0 = 0 }) (Own (record { 0 = 1 })) ∷ Leave (call_in 1 1) ∷ Exit (call_in 1 1) (record { 0 = 1 }) 2 ∷ ExitEnd (call_in 1 1) (record { 0 = 1 }) ∷ Ret (call_in 1 1) None ∷ Leave (call_in 0 1) ∷ Exit (call_in 0 1) (record { 0 = 1 }) 11 ∷ ExitEnd (call_in 0 1) (record { 0 = 1 }) ∷ Ret (call_in 0 1) None ∷ Enter (call_in 0 2) Nmi (record { 0 = 0 }) None ∷ Back (call_in 0 2) (record { 0 = 1 }) ∷ BackEnd (call_in 0 2) (record { 0 = 1 }) ∷ Body (call_in 0 2) (record { 0 = 0 }) (Own (record { 0 = 1 })) ∷ Enter (call_in 0 3) Nmi (record { 0 = 0 }) (Some (call_in 0 2)) ∷ Refuse (call_in 0 3) (record { 0 = 1 }) Depth ∷ Body (call_in 0 3) (record { 0 = 0 }) (Own (record { 0 = 1 })) ∷ Leave (call_in 0 3) ∷ Ret (call_in 0 3) (Some (call_in 0 2)) ∷ Leave (call_in 0 2) ∷ Exit (call_in 0 2) (record { 0 = 1 }) 23 ∷ ExitEnd (call_in 0 2) (record { 0 = 1 }) ∷ Ret (call_in 0 2) None ∷ []

pub job_74-plays : Plays job_74 job_74-items true
unfolding actors_of repeated start step run played play all_end control_next control_got cpu_next cpu_got insn moves desk
job_74-plays = (refl, refl)

abbrev pub job_76 : Job
job_76 = record { version = 1; functions = named (codes "a") (Some (codes "m")) ∷ named (codes "b") (Some (codes "m")) ∷ named (codes "c") None ∷ []; users = record { name = codes "u0"; kind = Fprobe true true; regs = true; ipmodify = None; pid = true; act = Some (IrqIn (record { 0 = 1 })) } ∷ record { name = codes "u1"; kind = Graph; regs = false; ipmodify = None; pid = true; act = None } ∷ record { name = codes "u2"; kind = Fprobe false false; regs = false; ipmodify = None; pid = true; act = Some (IrqIn (record { 0 = 2 })) } ∷ record { name = codes "u3"; kind = Function; regs = false; ipmodify = None; pid = true; act = None } ∷ []; frames = 3; tramps = 0; quanta = 15 ∷ []; tasks = record { pid = 10; cpu = 0; acts = Raise Nmi ∷ Lower ∷ Call (record { 0 = 1 }) ∷ Call (record { 0 = 0 }) ∷ RetAct ∷ RetAct ∷ After 2 ∷ Raise Irq ∷ Lower ∷ [] } ∷ []; ctls = Run (Filter 1 (record { append = false; remove = false; clear = false; set = false ∷ false ∷ true ∷ [] })) ∷ Run (Unregister 0) ∷ []; lines = usual_lines; rings = usual_rings; schedule = record { who = OfControl; count = 17 } ∷ record { who = OfControl; count = 2 } ∷ record { who = OfCpu (record { 0 = 0 }); count = 11 } ∷ record { who = OfControl; count = 4 } ∷ record { who = OfCpu (record { 0 = 0 }); count = 4 } ∷ record { who = OfControl; count = 12 } ∷ record { who = OfCpu (record { 0 = 0 }); count = 13 } ∷ record { who = OfCpu (record { 0 = 0 }); count = 15 } ∷ record { who = OfCpu (record { 0 = 0 }); count = 20 } ∷ record { who = OfCpu (record { 0 = 0 }); count = 2 } ∷ record { who = OfCpu (record { 0 = 0 }); count = 13 } ∷ record { who = OfControl; count = 8 } ∷ record { who = OfCpu (record { 0 = 0 }); count = 4 } ∷ record { who = OfControl; count = 16 } ∷ record { who = OfControl; count = 14 } ∷ record { who = OfCpu (record { 0 = 0 }); count = 17 } ∷ record { who = OfCpu (record { 0 = 0 }); count = 6 } ∷ record { who = OfCpu (record { 0 = 0 }); count = 15 } ∷ record { who = All; count = 300 } ∷ [] }

abbrev pub job_76-items : List Item
job_76-items = Begin 1 ∷ Return 1 Accepted ∷ Begin 2 ∷ Return 2 NotThere ∷ Enter (call_in 0 1) Normal (record { 0 = 1 }) None ∷ Body (call_in 0 1) (record { 0 = 1 }) Nop ∷ Enter (call_in 0 2) Normal (record { 0 = 0 }) (Some (call_in 0 1)) ∷ Body (call_in 0 2) (record { 0 = 0 }) Nop ∷ Leave (call_in 0 2) ∷ Ret (call_in 0 2) (Some (call_in 0 1)) ∷ Leave (call_in 0 1) ∷ Ret (call_in 0 1) None ∷ []

pub job_76-plays : Plays job_76 job_76-items true
unfolding actors_of repeated start step run played play all_end control_next control_got cpu_next cpu_got insn moves desk
job_76-plays = (refl, refl)

abbrev pub job_81 : Job
job_81 = record { version = 1; functions = named (codes "a") (Some (codes "m")) ∷ named (codes "b") (Some (codes "m")) ∷ named (codes "c") (Some (codes "m")) ∷ named (codes "d") None ∷ []; users = record { name = codes "u0"; kind = Fprobe true false; regs = false; ipmodify = None; pid = true; act = Some (IrqIn (record { 0 = 2 })) } ∷ record { name = codes "u1"; kind = Fprobe true false; regs = true; ipmodify = None; pid = true; act = None } ∷ record { name = codes "u2"; kind = Fprobe true true; regs = false; ipmodify = None; pid = true; act = Some (CallIn (record { 0 = 3 })) } ∷ record { name = codes "u3"; kind = Profile; regs = true; ipmodify = None; pid = true; act = None } ∷ []; frames = 2; tramps = 0; quanta = 1 ∷ []; tasks = record { pid = 10; cpu = 0; acts = After 1 ∷ Raise Softirq ∷ Call (record { 0 = 1 }) ∷ RetAct ∷ Lower ∷ [] } ∷ record { pid = 11; cpu = 0; acts = After 1 ∷ Call (record { 0 = 1 }) ∷ Call (record { 0 = 3 }) ∷ RetAct ∷ RetAct ∷ [] } ∷ []; ctls = Run (Enable 2) ∷ Run (Unregister 3) ∷ []; lines = usual_lines; rings = usual_rings; schedule = record { who = OfCpu (record { 0 = 0 }); count = 3 } ∷ record { who = OfControl; count = 2 } ∷ record { who = OfCpu (record { 0 = 0 }); count = 3 } ∷ record { who = OfControl; count = 2 } ∷ record { who = OfCpu (record { 0 = 0 }); count = 3 } ∷ record { who = OfCpu (record { 0 = 0 }); count = 1 } ∷ record { who = OfCpu (record { 0 = 0 }); count = 2 } ∷ record { who = OfCpu (record { 0 = 0 }); count = 2 } ∷ record { who = OfControl; count = 3 } ∷ record { who = OfControl; count = 3 } ∷ record { who = OfControl; count = 1 } ∷ record { who = OfControl; count = 1 } ∷ record { who = OfCpu (record { 0 = 0 }); count = 1 } ∷ record { who = OfCpu (record { 0 = 0 }); count = 3 } ∷ record { who = OfControl; count = 1 } ∷ record { who = OfCpu (record { 0 = 0 }); count = 1 } ∷ record { who = OfControl; count = 1 } ∷ record { who = OfCpu (record { 0 = 0 }); count = 2 } ∷ record { who = OfCpu (record { 0 = 0 }); count = 3 } ∷ record { who = OfControl; count = 1 } ∷ record { who = All; count = 300 } ∷ [] }

abbrev pub job_81-items : List Item
job_81-items = Begin 1 ∷ Return 1 NotThere ∷ Begin 2 ∷ Return 2 NotThere ∷ Enter (call_in 1 1) Normal (record { 0 = 1 }) None ∷ Body (call_in 1 1) (record { 0 = 1 }) Nop ∷ Enter (call_in 0 1) Softirq (record { 0 = 1 }) None ∷ Enter (call_in 1 2) Normal (record { 0 = 3 }) (Some (call_in 1 1)) ∷ Body (call_in 0 1) (record { 0 = 1 }) Nop ∷ Body (call_in 1 2) (record { 0 = 3 }) Nop ∷ Leave (call_in 0 1) ∷ Ret (call_in 0 1) None ∷ Leave (call_in 1 2) ∷ Ret (call_in 1 2) (Some (call_in 1 1)) ∷ Leave (call_in 1 1) ∷ Ret (call_in 1 1) None ∷ []

pub job_81-plays : Plays job_81 job_81-items true
unfolding actors_of repeated start step run played play all_end control_next control_got cpu_next cpu_got insn moves desk
job_81-plays = (refl, refl)

abbrev pub job_82 : Job
job_82 = record { version = 1; functions = named (codes "a") (Some (codes "m")) ∷ named (codes "b") (Some (codes "m")) ∷ []; users = record { name = codes "u0"; kind = Function; regs = true; ipmodify = None; pid = true; act = Some (CallIn (record { 0 = 0 })) } ∷ record { name = codes "u1"; kind = Fprobe true true; regs = true; ipmodify = None; pid = true; act = None } ∷ record { name = codes "u2"; kind = Function; regs = true; ipmodify = None; pid = true; act = None } ∷ []; frames = 2; tramps = 0; quanta = 1 ∷ 40 ∷ []; tasks = record { pid = 10; cpu = 1; acts = Call (record { 0 = 1 }) ∷ Call (record { 0 = 0 }) ∷ Call (record { 0 = 0 }) ∷ After 3 ∷ Call (record { 0 = 0 }) ∷ RetAct ∷ RetAct ∷ RetAct ∷ RetAct ∷ [] } ∷ record { pid = 11; cpu = 1; acts = After 4 ∷ After 3 ∷ Call (record { 0 = 0 }) ∷ RetAct ∷ Raise Nmi ∷ Lower ∷ Call (record { 0 = 0 }) ∷ Call (record { 0 = 1 }) ∷ RetAct ∷ RetAct ∷ [] } ∷ record { pid = 12; cpu = 1; acts = After 1 ∷ Call (record { 0 = 1 }) ∷ After 4 ∷ Call (record { 0 = 0 }) ∷ RetAct ∷ RetAct ∷ Raise Irq ∷ Lower ∷ [] } ∷ []; ctls = Run (Register 0) ∷ Run (Register 0) ∷ Run (Filter 0 (record { append = true; remove = false; clear = false; set = true ∷ false ∷ [] })) ∷ Run (Disable 0) ∷ []; lines = usual_lines; rings = usual_rings; schedule = record { who = OfCpu (record { 0 = 0 }); count = 13 } ∷ record { who = OfCpu (record { 0 = 1 }); count = 16 } ∷ record { who = OfCpu (record { 0 = 0 }); count = 8 } ∷ record { who = OfControl; count = 3 } ∷ record { who = OfCpu (record { 0 = 1 }); count = 7 } ∷ record { who = OfCpu (record { 0 = 1 }); count = 9 } ∷ record { who = OfCpu (record { 0 = 0 }); count = 17 } ∷ record { who = OfCpu (record { 0 = 1 }); count = 2 } ∷ record { who = OfCpu (record { 0 = 1 }); count = 6 } ∷ record { who = All; count = 300 } ∷ [] }

abbrev pub job_82-items : List Item
job_82-items = Enter (call_in 0 1) Normal (record { 0 = 1 }) None ∷ Body (call_in 0 1) (record { 0 = 1 }) Nop ∷ Enter (call_in 0 2) Normal (record { 0 = 0 }) (Some (call_in 0 1)) ∷ Body (call_in 0 2) (record { 0 = 0 }) Nop ∷ Enter (call_in 0 3) Normal (record { 0 = 0 }) (Some (call_in 0 2)) ∷ Begin 1 ∷ Body (call_in 0 3) (record { 0 = 0 }) Nop ∷ Return 1 Accepted ∷ Begin 2 ∷ Return 2 Already ∷ Begin 3 ∷ Enter (call_in 2 1) Normal (record { 0 = 1 }) None ∷ Body (call_in 2 1) (record { 0 = 1 }) ByList ∷ Return 3 Accepted ∷ Begin 4 ∷ Return 4 Invalid ∷ Enter (call_in 0 4) Normal (record { 0 = 0 }) (Some (call_in 0 3)) ∷ Back (call_in 0 4) (record { 0 = 0 }) ∷ Enter (call_in 0 5) Normal (record { 0 = 0 }) (Some (call_in 0 4)) ∷ Refuse (call_in 0 5) (record { 0 = 0 }) Recursion ∷ Body (call_in 0 5) (record { 0 = 0 }) ByList ∷ Leave (call_in 0 5) ∷ Ret (call_in 0 5) (Some (call_in 0 4)) ∷ BackEnd (call_in 0 4) (record { 0 = 0 }) ∷ Body (call_in 0 4) (record { 0 = 0 }) ByList ∷ Leave (call_in 0 4) ∷ Ret (call_in 0 4) (Some (call_in 0 3)) ∷ Leave (call_in 0 3) ∷ Ret (call_in 0 3) (Some (call_in 0 2)) ∷ Leave (call_in 0 2) ∷ Enter (call_in 1 1) Normal (record { 0 = 0 }) None ∷ Back (call_in 1 1) (record { 0 = 0 }) ∷ Enter (call_in 1 2) Normal (record { 0 = 0 }) (Some (call_in 1 1)) ∷ Refuse (call_in 1 2) (record { 0 = 0 }) Recursion ∷ Body (call_in 1 2) (record { 0 = 0 }) ByList ∷ Leave (call_in 1 2) ∷ Ret (call_in 1 2) (Some (call_in 1 1)) ∷ BackEnd (call_in 1 1) (record { 0 = 0 }) ∷ Body (call_in 1 1) (record { 0 = 0 }) ByList ∷ Leave (call_in 1 1) ∷ Ret (call_in 1 1) None ∷ Enter (call_in 2 2) Normal (record { 0 = 0 }) (Some (call_in 2 1)) ∷ Back (call_in 2 2) (record { 0 = 0 }) ∷ Enter (call_in 2 3) Normal (record { 0 = 0 }) (Some (call_in 2 2)) ∷ Refuse (call_in 2 3) (record { 0 = 0 }) Recursion ∷ Body (call_in 2 3) (record { 0 = 0 }) ByList ∷ Leave (call_in 2 3) ∷ Ret (call_in 2 3) (Some (call_in 2 2)) ∷ BackEnd (call_in 2 2) (record { 0 = 0 }) ∷ Body (call_in 2 2) (record { 0 = 0 }) ByList ∷ Leave (call_in 2 2) ∷ Ret (call_in 2 2) (Some (call_in 2 1)) ∷ Leave (call_in 2 1) ∷ Ret (call_in 2 1) None ∷ Ret (call_in 0 2) (Some (call_in 0 1)) ∷ Leave (call_in 0 1) ∷ Ret (call_in 0 1) None ∷ Enter (call_in 1 3) Normal (record { 0 = 0 }) None ∷ Back (call_in 1 3) (record { 0 = 0 }) ∷ Enter (call_in 1 4) Normal (record { 0 = 0 }) (Some (call_in 1 3)) ∷ Refuse (call_in 1 4) (record { 0 = 0 }) Recursion ∷ Body (call_in 1 4) (record { 0 = 0 }) ByList ∷ Leave (call_in 1 4) ∷ Ret (call_in 1 4) (Some (call_in 1 3)) ∷ BackEnd (call_in 1 3) (record { 0 = 0 }) ∷ Body (call_in 1 3) (record { 0 = 0 }) ByList ∷ Enter (call_in 1 5) Normal (record { 0 = 1 }) (Some (call_in 1 3)) ∷ Body (call_in 1 5) (record { 0 = 1 }) Nop ∷ Leave (call_in 1 5) ∷ Ret (call_in 1 5) (Some (call_in 1 3)) ∷ Leave (call_in 1 3) ∷ Ret (call_in 1 3) None ∷ []

pub job_82-plays : Plays job_82 job_82-items true
unfolding actors_of repeated start step run played play all_end control_next control_got cpu_next cpu_got insn moves desk
job_82-plays = (refl, refl)

abbrev pub job_93 : Job
job_93 = record { version = 1; functions = named (codes "a") (Some (codes "m")) ∷ named (codes "b") None ∷ named (codes "c") None ∷ named (codes "d") (Some (codes "m")) ∷ []; users = record { name = codes "u0"; kind = Function; regs = false; ipmodify = None; pid = false; act = None } ∷ record { name = codes "u1"; kind = Fprobe true false; regs = true; ipmodify = None; pid = false; act = None } ∷ record { name = codes "u2"; kind = Fprobe false false; regs = true; ipmodify = None; pid = false; act = Some (IrqIn (record { 0 = 0 })) } ∷ record { name = codes "u3"; kind = Function; regs = false; ipmodify = None; pid = true; act = Some (IrqIn (record { 0 = 0 })) } ∷ []; frames = 2; tramps = 0; quanta = 1 ∷ []; tasks = record { pid = 10; cpu = 0; acts = Raise Softirq ∷ Raise Irq ∷ Raise Nmi ∷ Lower ∷ Lower ∷ Lower ∷ [] } ∷ record { pid = 11; cpu = 0; acts = Raise Nmi ∷ Call (record { 0 = 0 }) ∷ Call (record { 0 = 0 }) ∷ Call (record { 0 = 3 }) ∷ Call (record { 0 = 3 }) ∷ After 1 ∷ RetAct ∷ RetAct ∷ RetAct ∷ RetAct ∷ Lower ∷ [] } ∷ []; ctls = Run (Register 1) ∷ Until 0 6 ∷ Run (NoPid (true ∷ true ∷ [])) ∷ Run (Unregister 1) ∷ []; lines = usual_lines; rings = usual_rings; schedule = record { who = OfCpu (record { 0 = 0 }); count = 2 } ∷ record { who = OfControl; count = 2 } ∷ record { who = OfCpu (record { 0 = 0 }); count = 1 } ∷ record { who = OfControl; count = 3 } ∷ record { who = OfControl; count = 2 } ∷ record { who = OfControl; count = 3 } ∷ record { who = OfControl; count = 2 } ∷ record { who = OfControl; count = 1 } ∷ record { who = OfCpu (record { 0 = 0 }); count = 3 } ∷ record { who = All; count = 300 } ∷ [] }

abbrev pub job_93-items : List Item
job_93-items = Begin 1 ∷ Enter (call_in 1 1) Nmi (record { 0 = 0 }) None ∷ Back (call_in 1 1) (record { 0 = 1 }) ∷ BackEnd (call_in 1 1) (record { 0 = 1 }) ∷ Body (call_in 1 1) (record { 0 = 0 }) ByList ∷ Return 1 Accepted ∷ Enter (call_in 1 2) Nmi (record { 0 = 0 }) (Some (call_in 1 1)) ∷ Begin 2 ∷ Back (call_in 1 2) (record { 0 = 1 }) ∷ BackEnd (call_in 1 2) (record { 0 = 1 }) ∷ Body (call_in 1 2) (record { 0 = 0 }) ByList ∷ Enter (call_in 1 3) Nmi (record { 0 = 3 }) (Some (call_in 1 2)) ∷ Return 2 Accepted ∷ Begin 3 ∷ Body (call_in 1 3) (record { 0 = 3 }) ByList ∷ Enter (call_in 1 4) Nmi (record { 0 = 3 }) (Some (call_in 1 3)) ∷ Body (call_in 1 4) (record { 0 = 3 }) ByList ∷ Leave (call_in 1 4) ∷ Ret (call_in 1 4) (Some (call_in 1 3)) ∷ Leave (call_in 1 3) ∷ Ret (call_in 1 3) (Some (call_in 1 2)) ∷ Leave (call_in 1 2) ∷ Ret (call_in 1 2) (Some (call_in 1 1)) ∷ Leave (call_in 1 1) ∷ Ret (call_in 1 1) None ∷ Return 3 Accepted ∷ []

pub job_93-plays : Plays job_93 job_93-items true
unfolding actors_of repeated start step run played play all_end control_next control_got cpu_next cpu_got insn moves desk
job_93-plays = (refl, refl)

abbrev pub job_1011 : Job
job_1011 = record { version = 1; functions = named (codes "a") (Some (codes "m")) ∷ named (codes "b") None ∷ named (codes "c") (Some (codes "m")) ∷ []; users = record { name = codes "u0"; kind = Profile; regs = false; ipmodify = None; pid = false; act = Some (IrqIn (record { 0 = 0 })) } ∷ record { name = codes "u1"; kind = Fprobe true false; regs = true; ipmodify = None; pid = false; act = Some (CallIn (record { 0 = 1 })) } ∷ record { name = codes "u2"; kind = Profile; regs = false; ipmodify = None; pid = false; act = None } ∷ record { name = codes "u3"; kind = Fprobe true true; regs = true; ipmodify = None; pid = false; act = None } ∷ []; frames = 2; tramps = 16; quanta = 7 ∷ 7 ∷ []; tasks = record { pid = 10; cpu = 0; acts = After 1 ∷ Call (record { 0 = 1 }) ∷ Call (record { 0 = 0 }) ∷ RetAct ∷ After 4 ∷ RetAct ∷ [] } ∷ record { pid = 11; cpu = 1; acts = After 2 ∷ Call (record { 0 = 0 }) ∷ Call (record { 0 = 0 }) ∷ Call (record { 0 = 2 }) ∷ After 2 ∷ Call (record { 0 = 2 }) ∷ Call (record { 0 = 1 }) ∷ After 2 ∷ RetAct ∷ RetAct ∷ RetAct ∷ RetAct ∷ RetAct ∷ [] } ∷ []; ctls = Run (Register 1) ∷ Run (Unregister 2) ∷ Run (Register 3) ∷ Until 1 2 ∷ Run (Filter 0 (record { append = true; remove = false; clear = false; set = false ∷ false ∷ true ∷ [] })) ∷ []; lines = usual_lines; rings = usual_rings; schedule = record { who = OfControl; count = 30 } ∷ record { who = OfCpu (record { 0 = 0 }); count = 11 } ∷ record { who = OfControl; count = 10 } ∷ record { who = OfCpu (record { 0 = 1 }); count = 21 } ∷ record { who = OfControl; count = 27 } ∷ record { who = OfControl; count = 6 } ∷ record { who = OfCpu (record { 0 = 0 }); count = 38 } ∷ record { who = OfCpu (record { 0 = 0 }); count = 21 } ∷ record { who = OfControl; count = 8 } ∷ record { who = OfCpu (record { 0 = 1 }); count = 35 } ∷ record { who = OfCpu (record { 0 = 0 }); count = 37 } ∷ record { who = OfCpu (record { 0 = 1 }); count = 34 } ∷ record { who = OfCpu (record { 0 = 0 }); count = 4 } ∷ record { who = OfControl; count = 12 } ∷ record { who = OfCpu (record { 0 = 1 }); count = 21 } ∷ record { who = OfCpu (record { 0 = 0 }); count = 9 } ∷ record { who = OfCpu (record { 0 = 1 }); count = 31 } ∷ record { who = OfControl; count = 28 } ∷ record { who = OfCpu (record { 0 = 1 }); count = 8 } ∷ record { who = OfCpu (record { 0 = 1 }); count = 27 } ∷ record { who = All; count = 300 } ∷ [] }

abbrev pub job_1011-items : List Item
job_1011-items = Begin 1 ∷ Return 1 Accepted ∷ Begin 2 ∷ Return 2 NotThere ∷ Begin 3 ∷ Enter (call_in 1 1) Normal (record { 0 = 0 }) None ∷ Back (call_in 1 1) (record { 0 = 3 }) ∷ BackEnd (call_in 1 1) (record { 0 = 3 }) ∷ Back (call_in 1 1) (record { 0 = 1 }) ∷ Enter (call_in 1 2) Normal (record { 0 = 1 }) (Some (call_in 1 1)) ∷ Refuse (call_in 1 2) (record { 0 = 3 }) Recursion ∷ Refuse (call_in 1 2) (record { 0 = 1 }) Recursion ∷ Body (call_in 1 2) (record { 0 = 1 }) ByList ∷ Leave (call_in 1 2) ∷ Ret (call_in 1 2) (Some (call_in 1 1)) ∷ BackEnd (call_in 1 1) (record { 0 = 1 }) ∷ Body (call_in 1 1) (record { 0 = 0 }) ByList ∷ Enter (call_in 1 3) Normal (record { 0 = 0 }) (Some (call_in 1 1)) ∷ Enter (call_in 0 1) Normal (record { 0 = 1 }) None ∷ Back (call_in 1 3) (record { 0 = 3 }) ∷ BackEnd (call_in 1 3) (record { 0 = 3 }) ∷ Back (call_in 0 1) (record { 0 = 3 }) ∷ BackEnd (call_in 0 1) (record { 0 = 3 }) ∷ Back (call_in 1 3) (record { 0 = 1 }) ∷ Enter (call_in 1 4) Normal (record { 0 = 1 }) (Some (call_in 1 3)) ∷ Back (call_in 0 1) (record { 0 = 1 }) ∷ Enter (call_in 0 2) Normal (record { 0 = 1 }) (Some (call_in 0 1)) ∷ Refuse (call_in 1 4) (record { 0 = 3 }) Recursion ∷ Refuse (call_in 0 2) (record { 0 = 3 }) Recursion ∷ Refuse (call_in 1 4) (record { 0 = 1 }) Recursion ∷ Body (call_in 1 4) (record { 0 = 1 }) ByList ∷ Refuse (call_in 0 2) (record { 0 = 1 }) Recursion ∷ Leave (call_in 1 4) ∷ Ret (call_in 1 4) (Some (call_in 1 3)) ∷ Body (call_in 0 2) (record { 0 = 1 }) ByList ∷ BackEnd (call_in 1 3) (record { 0 = 1 }) ∷ Leave (call_in 0 2) ∷ Ret (call_in 0 2) (Some (call_in 0 1)) ∷ Body (call_in 1 3) (record { 0 = 0 }) ByList ∷ BackEnd (call_in 0 1) (record { 0 = 1 }) ∷ Body (call_in 0 1) (record { 0 = 1 }) ByList ∷ Enter (call_in 1 5) Normal (record { 0 = 2 }) (Some (call_in 1 3)) ∷ Enter (call_in 0 3) Normal (record { 0 = 0 }) (Some (call_in 0 1)) ∷ Back (call_in 1 5) (record { 0 = 3 }) ∷ Miss (call_in 1 5) (record { 0 = 3 }) ∷ BackEnd (call_in 1 5) (record { 0 = 3 }) ∷ Back (call_in 0 3) (record { 0 = 3 }) ∷ BackEnd (call_in 0 3) (record { 0 = 3 }) ∷ Back (call_in 1 5) (record { 0 = 1 }) ∷ Miss (call_in 1 5) (record { 0 = 1 }) ∷ Back (call_in 0 3) (record { 0 = 1 }) ∷ Enter (call_in 1 6) Normal (record { 0 = 1 }) (Some (call_in 1 5)) ∷ Enter (call_in 0 4) Normal (record { 0 = 1 }) (Some (call_in 0 3)) ∷ Refuse (call_in 1 6) (record { 0 = 3 }) Recursion ∷ Refuse (call_in 0 4) (record { 0 = 3 }) Recursion ∷ Refuse (call_in 1 6) (record { 0 = 1 }) Recursion ∷ Refuse (call_in 0 4) (record { 0 = 1 }) Recursion ∷ Body (call_in 1 6) (record { 0 = 1 }) ByList ∷ Body (call_in 0 4) (record { 0 = 1 }) ByList ∷ Leave (call_in 1 6) ∷ Leave (call_in 0 4) ∷ Ret (call_in 1 6) (Some (call_in 1 5)) ∷ Ret (call_in 0 4) (Some (call_in 0 3)) ∷ BackEnd (call_in 1 5) (record { 0 = 1 }) ∷ BackEnd (call_in 0 3) (record { 0 = 1 }) ∷ Body (call_in 1 5) (record { 0 = 2 }) ByList ∷ Body (call_in 0 3) (record { 0 = 0 }) ByList ∷ Leave (call_in 0 3) ∷ Return 3 Accepted ∷ Exit (call_in 0 3) (record { 0 = 1 }) 50 ∷ Enter (call_in 1 7) Normal (record { 0 = 2 }) (Some (call_in 1 5)) ∷ Begin 4 ∷ ExitEnd (call_in 0 3) (record { 0 = 1 }) ∷ Return 4 Accepted ∷ Ret (call_in 0 3) (Some (call_in 0 1)) ∷ Back (call_in 1 7) (record { 0 = 3 }) ∷ Miss (call_in 1 7) (record { 0 = 3 }) ∷ Leave (call_in 0 1) ∷ BackEnd (call_in 1 7) (record { 0 = 3 }) ∷ Exit (call_in 0 1) (record { 0 = 1 }) 25 ∷ ExitEnd (call_in 0 1) (record { 0 = 1 }) ∷ Ret (call_in 0 1) None ∷ Back (call_in 1 7) (record { 0 = 1 }) ∷ Miss (call_in 1 7) (record { 0 = 1 }) ∷ Enter (call_in 1 8) Normal (record { 0 = 1 }) (Some (call_in 1 7)) ∷ Refuse (call_in 1 8) (record { 0 = 3 }) Recursion ∷ Refuse (call_in 1 8) (record { 0 = 1 }) Recursion ∷ Body (call_in 1 8) (record { 0 = 1 }) ByList ∷ Leave (call_in 1 8) ∷ Ret (call_in 1 8) (Some (call_in 1 7)) ∷ BackEnd (call_in 1 7) (record { 0 = 1 }) ∷ Body (call_in 1 7) (record { 0 = 2 }) ByList ∷ Enter (call_in 1 9) Normal (record { 0 = 1 }) (Some (call_in 1 7)) ∷ Back (call_in 1 9) (record { 0 = 3 }) ∷ Miss (call_in 1 9) (record { 0 = 3 }) ∷ BackEnd (call_in 1 9) (record { 0 = 3 }) ∷ Back (call_in 1 9) (record { 0 = 1 }) ∷ Miss (call_in 1 9) (record { 0 = 1 }) ∷ Enter (call_in 1 10) Normal (record { 0 = 1 }) (Some (call_in 1 9)) ∷ Refuse (call_in 1 10) (record { 0 = 3 }) Recursion ∷ Refuse (call_in 1 10) (record { 0 = 1 }) Recursion ∷ Body (call_in 1 10) (record { 0 = 1 }) ByList ∷ Leave (call_in 1 10) ∷ Ret (call_in 1 10) (Some (call_in 1 9)) ∷ BackEnd (call_in 1 9) (record { 0 = 1 }) ∷ Body (call_in 1 9) (record { 0 = 1 }) ByList ∷ Leave (call_in 1 9) ∷ Ret (call_in 1 9) (Some (call_in 1 7)) ∷ Leave (call_in 1 7) ∷ Ret (call_in 1 7) (Some (call_in 1 5)) ∷ Leave (call_in 1 5) ∷ Ret (call_in 1 5) (Some (call_in 1 3)) ∷ Leave (call_in 1 3) ∷ Exit (call_in 1 3) (record { 0 = 1 }) 23 ∷ ExitEnd (call_in 1 3) (record { 0 = 1 }) ∷ Ret (call_in 1 3) (Some (call_in 1 1)) ∷ Leave (call_in 1 1) ∷ Exit (call_in 1 1) (record { 0 = 1 }) 8 ∷ ExitEnd (call_in 1 1) (record { 0 = 1 }) ∷ Ret (call_in 1 1) None ∷ []

pub job_1011-plays : Plays job_1011 job_1011-items true
unfolding actors_of repeated start step run played play all_end control_next control_got cpu_next cpu_got insn moves desk
job_1011-plays = (refl, refl)

abbrev pub job_1016 : Job
job_1016 = record { version = 1; functions = named (codes "x0") None ∷ named (codes "x1") None ∷ named (codes "x2") None ∷ named (codes "x3") None ∷ named (codes "x4") None ∷ named (codes "x5") None ∷ named (codes "x6") None ∷ named (codes "x7") None ∷ named (codes "x8") None ∷ named (codes "x9") None ∷ named (codes "x10") None ∷ named (codes "x11") None ∷ named (codes "x12") None ∷ named (codes "x13") None ∷ named (codes "x14") None ∷ named (codes "x15") None ∷ named (codes "x16") None ∷ named (codes "x17") None ∷ named (codes "x18") None ∷ named (codes "x19") None ∷ named (codes "x20") None ∷ named (codes "x21") None ∷ named (codes "x22") None ∷ named (codes "x23") None ∷ named (codes "x24") None ∷ named (codes "x25") None ∷ named (codes "x26") None ∷ named (codes "x27") None ∷ named (codes "x28") None ∷ named (codes "x29") None ∷ named (codes "x30") None ∷ named (codes "x31") None ∷ named (codes "x32") None ∷ named (codes "x33") None ∷ named (codes "x34") None ∷ named (codes "x35") None ∷ named (codes "x36") None ∷ named (codes "x37") None ∷ named (codes "x38") None ∷ named (codes "x39") None ∷ named (codes "x40") None ∷ named (codes "x41") None ∷ named (codes "x42") None ∷ named (codes "x43") None ∷ named (codes "x44") None ∷ named (codes "x45") None ∷ named (codes "x46") None ∷ named (codes "x47") None ∷ named (codes "x48") None ∷ named (codes "x49") None ∷ named (codes "x50") None ∷ named (codes "x51") None ∷ named (codes "x52") None ∷ named (codes "x53") None ∷ named (codes "x54") None ∷ named (codes "x55") None ∷ named (codes "x56") None ∷ named (codes "x57") None ∷ named (codes "x58") None ∷ named (codes "x59") None ∷ named (codes "x60") None ∷ named (codes "x61") None ∷ named (codes "a") (Some (codes "m")) ∷ named (codes "b") (Some (codes "m")) ∷ named (codes "c") None ∷ []; users = record { name = codes "u0"; kind = Function; regs = false; ipmodify = None; pid = false; act = Some (IrqIn (record { 0 = 64 })) } ∷ record { name = codes "u1"; kind = Profile; regs = true; ipmodify = None; pid = true; act = Some (IrqIn (record { 0 = 63 })) } ∷ record { name = codes "u2"; kind = Fprobe true true; regs = true; ipmodify = None; pid = true; act = None } ∷ record { name = codes "u3"; kind = Fprobe true false; regs = false; ipmodify = None; pid = true; act = Some (IrqIn (record { 0 = 63 })) } ∷ []; frames = 1; tramps = 1; quanta = 7 ∷ []; tasks = record { pid = 10; cpu = 0; acts = After 2 ∷ Raise Softirq ∷ Call (record { 0 = 64 }) ∷ Call (record { 0 = 62 }) ∷ Call (record { 0 = 63 }) ∷ Call (record { 0 = 63 }) ∷ Call (record { 0 = 62 }) ∷ RetAct ∷ RetAct ∷ RetAct ∷ RetAct ∷ RetAct ∷ Lower ∷ Raise Nmi ∷ Lower ∷ [] } ∷ record { pid = 11; cpu = 0; acts = Call (record { 0 = 62 }) ∷ RetAct ∷ After 1 ∷ After 4 ∷ Raise Nmi ∷ Call (record { 0 = 63 }) ∷ RetAct ∷ Lower ∷ Raise Nmi ∷ Lower ∷ [] } ∷ []; ctls = Run (Unregister 1) ∷ Run (Register 1) ∷ Run (Register 3) ∷ Run (Register 0) ∷ []; lines = usual_lines; rings = usual_rings; schedule = record { who = OfCpu (record { 0 = 0 }); count = 35 } ∷ record { who = OfCpu (record { 0 = 0 }); count = 13 } ∷ record { who = OfControl; count = 40 } ∷ record { who = OfControl; count = 16 } ∷ record { who = OfControl; count = 26 } ∷ record { who = OfControl; count = 25 } ∷ record { who = OfCpu (record { 0 = 0 }); count = 41 } ∷ record { who = OfControl; count = 34 } ∷ record { who = OfControl; count = 22 } ∷ record { who = OfControl; count = 39 } ∷ record { who = OfControl; count = 5 } ∷ record { who = OfCpu (record { 0 = 0 }); count = 31 } ∷ record { who = All; count = 300 } ∷ [] }

abbrev pub job_1016-items : List Item
job_1016-items = Enter (call_in 1 1) Normal (record { 0 = 62 }) None ∷ Body (call_in 1 1) (record { 0 = 62 }) Nop ∷ Leave (call_in 1 1) ∷ Ret (call_in 1 1) None ∷ Begin 1 ∷ Return 1 NotThere ∷ Begin 2 ∷ Return 2 Accepted ∷ Begin 3 ∷ Enter (call_in 0 1) Softirq (record { 0 = 64 }) None ∷ Back (call_in 0 1) (record { 0 = 1 }) ∷ Enter (call_in 0 2) Irq (record { 0 = 63 }) (Some (call_in 0 1)) ∷ Refuse (call_in 0 2) (record { 0 = 1 }) Depth ∷ Body (call_in 0 2) (record { 0 = 63 }) (Own (record { 0 = 1 })) ∷ Leave (call_in 0 2) ∷ Ret (call_in 0 2) (Some (call_in 0 1)) ∷ BackEnd (call_in 0 1) (record { 0 = 1 }) ∷ Body (call_in 0 1) (record { 0 = 64 }) (Own (record { 0 = 1 })) ∷ Enter (call_in 0 3) Softirq (record { 0 = 62 }) (Some (call_in 0 1)) ∷ Refuse (call_in 0 3) (record { 0 = 1 }) Depth ∷ Body (call_in 0 3) (record { 0 = 62 }) (Own (record { 0 = 1 })) ∷ Enter (call_in 0 4) Softirq (record { 0 = 63 }) (Some (call_in 0 3)) ∷ Refuse (call_in 0 4) (record { 0 = 1 }) Depth ∷ Body (call_in 0 4) (record { 0 = 63 }) (Own (record { 0 = 1 })) ∷ Enter (call_in 0 5) Softirq (record { 0 = 63 }) (Some (call_in 0 4)) ∷ Refuse (call_in 0 5) (record { 0 = 1 }) Depth ∷ Body (call_in 0 5) (record { 0 = 63 }) (Own (record { 0 = 1 })) ∷ Enter (call_in 0 6) Softirq (record { 0 = 62 }) (Some (call_in 0 5)) ∷ Refuse (call_in 0 6) (record { 0 = 1 }) Depth ∷ Body (call_in 0 6) (record { 0 = 62 }) (Own (record { 0 = 1 })) ∷ Leave (call_in 0 6) ∷ Ret (call_in 0 6) (Some (call_in 0 5)) ∷ Leave (call_in 0 5) ∷ Ret (call_in 0 5) (Some (call_in 0 4)) ∷ Leave (call_in 0 4) ∷ Ret (call_in 0 4) (Some (call_in 0 3)) ∷ Leave (call_in 0 3) ∷ Ret (call_in 0 3) (Some (call_in 0 1)) ∷ Leave (call_in 0 1) ∷ Exit (call_in 0 1) (record { 0 = 1 }) 10 ∷ ExitEnd (call_in 0 1) (record { 0 = 1 }) ∷ Ret (call_in 0 1) None ∷ []

pub job_1016-plays : Plays job_1016 job_1016-items false
unfolding actors_of repeated start step run played play all_end control_next control_got cpu_next cpu_got insn moves desk
job_1016-plays = (refl, refl)

abbrev pub job_1023 : Job
job_1023 = record { version = 1; functions = named (codes "a") (Some (codes "m")) ∷ named (codes "b") (Some (codes "m")) ∷ named (codes "c") None ∷ named (codes "d") (Some (codes "m")) ∷ []; users = record { name = codes "u0"; kind = Graph; regs = false; ipmodify = None; pid = true; act = None } ∷ record { name = codes "u1"; kind = Fprobe false false; regs = true; ipmodify = None; pid = true; act = None } ∷ record { name = codes "u2"; kind = Function; regs = true; ipmodify = Some (record { 0 = 2 }); pid = true; act = None } ∷ record { name = codes "u3"; kind = Profile; regs = false; ipmodify = None; pid = true; act = None } ∷ []; frames = 3; tramps = 0; quanta = 3 ∷ 15 ∷ []; tasks = record { pid = 10; cpu = 1; acts = After 2 ∷ Raise Softirq ∷ Lower ∷ [] } ∷ record { pid = 11; cpu = 1; acts = Call (record { 0 = 3 }) ∷ Call (record { 0 = 3 }) ∷ Call (record { 0 = 2 }) ∷ Raise Irq ∷ Raise Nmi ∷ Call (record { 0 = 2 }) ∷ RetAct ∷ Call (record { 0 = 0 }) ∷ RetAct ∷ Lower ∷ Lower ∷ RetAct ∷ RetAct ∷ RetAct ∷ [] } ∷ record { pid = 12; cpu = 1; acts = After 5 ∷ After 3 ∷ Call (record { 0 = 3 }) ∷ Call (record { 0 = 3 }) ∷ Call (record { 0 = 2 }) ∷ Call (record { 0 = 0 }) ∷ After 5 ∷ RetAct ∷ Call (record { 0 = 0 }) ∷ RetAct ∷ RetAct ∷ RetAct ∷ RetAct ∷ [] } ∷ []; ctls = Run (Filter 1 (record { append = true; remove = true; clear = false; set = false ∷ true ∷ false ∷ false ∷ [] })) ∷ Until 1 4 ∷ Run (NoPid (true ∷ false ∷ true ∷ [])) ∷ Run (Unregister 0) ∷ Run (MaxDepth 1) ∷ Run (Disable 0) ∷ []; lines = usual_lines; rings = usual_rings; schedule = record { who = OfControl; count = 18 } ∷ record { who = OfCpu (record { 0 = 1 }); count = 3 } ∷ record { who = OfCpu (record { 0 = 1 }); count = 4 } ∷ record { who = OfCpu (record { 0 = 0 }); count = 8 } ∷ record { who = OfCpu (record { 0 = 0 }); count = 6 } ∷ record { who = OfCpu (record { 0 = 0 }); count = 14 } ∷ record { who = OfCpu (record { 0 = 0 }); count = 9 } ∷ record { who = OfCpu (record { 0 = 0 }); count = 20 } ∷ record { who = OfCpu (record { 0 = 0 }); count = 5 } ∷ record { who = OfCpu (record { 0 = 1 }); count = 6 } ∷ record { who = OfCpu (record { 0 = 0 }); count = 18 } ∷ record { who = OfControl; count = 19 } ∷ record { who = OfControl; count = 18 } ∷ record { who = OfCpu (record { 0 = 0 }); count = 16 } ∷ record { who = All; count = 300 } ∷ [] }

abbrev pub job_1023-items : List Item
job_1023-items = Begin 1 ∷ Return 1 Accepted ∷ Enter (call_in 1 1) Normal (record { 0 = 3 }) None ∷ Body (call_in 1 1) (record { 0 = 3 }) Nop ∷ Enter (call_in 1 2) Normal (record { 0 = 3 }) (Some (call_in 1 1)) ∷ Body (call_in 1 2) (record { 0 = 3 }) Nop ∷ Enter (call_in 1 3) Normal (record { 0 = 2 }) (Some (call_in 1 2)) ∷ Body (call_in 1 3) (record { 0 = 2 }) Nop ∷ Begin 2 ∷ Enter (call_in 1 4) Nmi (record { 0 = 2 }) (Some (call_in 1 3)) ∷ Body (call_in 1 4) (record { 0 = 2 }) Nop ∷ Return 2 Accepted ∷ Begin 3 ∷ Return 3 NotThere ∷ Begin 4 ∷ Leave (call_in 1 4) ∷ Return 4 Accepted ∷ Ret (call_in 1 4) (Some (call_in 1 3)) ∷ Begin 5 ∷ Return 5 NotThere ∷ Enter (call_in 1 5) Nmi (record { 0 = 0 }) (Some (call_in 1 3)) ∷ Body (call_in 1 5) (record { 0 = 0 }) Nop ∷ Leave (call_in 1 5) ∷ Ret (call_in 1 5) (Some (call_in 1 3)) ∷ Enter (call_in 2 1) Normal (record { 0 = 3 }) None ∷ Body (call_in 2 1) (record { 0 = 3 }) Nop ∷ Enter (call_in 2 2) Normal (record { 0 = 3 }) (Some (call_in 2 1)) ∷ Leave (call_in 1 3) ∷ Ret (call_in 1 3) (Some (call_in 1 2)) ∷ Leave (call_in 1 2) ∷ Ret (call_in 1 2) (Some (call_in 1 1)) ∷ Leave (call_in 1 1) ∷ Ret (call_in 1 1) None ∷ Body (call_in 2 2) (record { 0 = 3 }) Nop ∷ Enter (call_in 2 3) Normal (record { 0 = 2 }) (Some (call_in 2 2)) ∷ Body (call_in 2 3) (record { 0 = 2 }) Nop ∷ Enter (call_in 2 4) Normal (record { 0 = 0 }) (Some (call_in 2 3)) ∷ Body (call_in 2 4) (record { 0 = 0 }) Nop ∷ Leave (call_in 2 4) ∷ Ret (call_in 2 4) (Some (call_in 2 3)) ∷ Enter (call_in 2 5) Normal (record { 0 = 0 }) (Some (call_in 2 3)) ∷ Body (call_in 2 5) (record { 0 = 0 }) Nop ∷ Leave (call_in 2 5) ∷ Ret (call_in 2 5) (Some (call_in 2 3)) ∷ Leave (call_in 2 3) ∷ Ret (call_in 2 3) (Some (call_in 2 2)) ∷ Leave (call_in 2 2) ∷ Ret (call_in 2 2) (Some (call_in 2 1)) ∷ Leave (call_in 2 1) ∷ Ret (call_in 2 1) None ∷ []

pub job_1023-plays : Plays job_1023 job_1023-items true
unfolding actors_of repeated start step run played play all_end control_next control_got cpu_next cpu_got insn moves desk
job_1023-plays = (refl, refl)

abbrev pub job_1026 : Job
job_1026 = record { version = 1; functions = named (codes "a") (Some (codes "m")) ∷ []; users = record { name = codes "u0"; kind = Function; regs = false; ipmodify = None; pid = true; act = Some (CallIn (record { 0 = 0 })) } ∷ record { name = codes "u1"; kind = Graph; regs = true; ipmodify = None; pid = true; act = None } ∷ record { name = codes "u2"; kind = Fprobe true true; regs = false; ipmodify = None; pid = true; act = Some (CallIn (record { 0 = 0 })) } ∷ []; frames = 3; tramps = 1; quanta = 1 ∷ []; tasks = record { pid = 10; cpu = 0; acts = Call (record { 0 = 0 }) ∷ Call (record { 0 = 0 }) ∷ RetAct ∷ Call (record { 0 = 0 }) ∷ Call (record { 0 = 0 }) ∷ Call (record { 0 = 0 }) ∷ RetAct ∷ RetAct ∷ RetAct ∷ RetAct ∷ [] } ∷ []; ctls = Run (Pid (false ∷ [])) ∷ Run (Unregister 0) ∷ Run (Register 0) ∷ Run (Register 1) ∷ []; lines = usual_lines; rings = usual_rings; schedule = record { who = OfCpu (record { 0 = 0 }); count = 7 } ∷ record { who = OfCpu (record { 0 = 0 }); count = 32 } ∷ record { who = OfControl; count = 6 } ∷ record { who = OfCpu (record { 0 = 0 }); count = 27 } ∷ record { who = OfControl; count = 32 } ∷ record { who = OfControl; count = 19 } ∷ record { who = OfControl; count = 18 } ∷ record { who = OfCpu (record { 0 = 0 }); count = 3 } ∷ record { who = OfCpu (record { 0 = 0 }); count = 19 } ∷ record { who = OfCpu (record { 0 = 0 }); count = 29 } ∷ record { who = OfControl; count = 31 } ∷ record { who = All; count = 300 } ∷ [] }

abbrev pub job_1026-items : List Item
job_1026-items = Enter (call_in 0 1) Normal (record { 0 = 0 }) None ∷ Body (call_in 0 1) (record { 0 = 0 }) Nop ∷ Enter (call_in 0 2) Normal (record { 0 = 0 }) (Some (call_in 0 1)) ∷ Body (call_in 0 2) (record { 0 = 0 }) Nop ∷ Leave (call_in 0 2) ∷ Ret (call_in 0 2) (Some (call_in 0 1)) ∷ Enter (call_in 0 3) Normal (record { 0 = 0 }) (Some (call_in 0 1)) ∷ Body (call_in 0 3) (record { 0 = 0 }) Nop ∷ Enter (call_in 0 4) Normal (record { 0 = 0 }) (Some (call_in 0 3)) ∷ Body (call_in 0 4) (record { 0 = 0 }) Nop ∷ Enter (call_in 0 5) Normal (record { 0 = 0 }) (Some (call_in 0 4)) ∷ Body (call_in 0 5) (record { 0 = 0 }) Nop ∷ Leave (call_in 0 5) ∷ Ret (call_in 0 5) (Some (call_in 0 4)) ∷ Begin 1 ∷ Leave (call_in 0 4) ∷ Ret (call_in 0 4) (Some (call_in 0 3)) ∷ Leave (call_in 0 3) ∷ Ret (call_in 0 3) (Some (call_in 0 1)) ∷ Leave (call_in 0 1) ∷ Ret (call_in 0 1) None ∷ Return 1 Accepted ∷ Begin 2 ∷ Return 2 NotThere ∷ Begin 3 ∷ Return 3 Accepted ∷ Begin 4 ∷ Return 4 Accepted ∷ []

pub job_1026-plays : Plays job_1026 job_1026-items true
unfolding actors_of repeated start step run played play all_end control_next control_got cpu_next cpu_got insn moves desk
job_1026-plays = (refl, refl)

abbrev pub job_1030 : Job
job_1030 = record { version = 1; functions = named (codes "a") (Some (codes "m")) ∷ []; users = record { name = codes "u0"; kind = Profile; regs = false; ipmodify = None; pid = true; act = None } ∷ record { name = codes "u1"; kind = Function; regs = true; ipmodify = None; pid = true; act = Some (IrqIn (record { 0 = 0 })) } ∷ []; frames = 2; tramps = 16; quanta = 7 ∷ 7 ∷ []; tasks = record { pid = 10; cpu = 1; acts = Call (record { 0 = 0 }) ∷ Call (record { 0 = 0 }) ∷ RetAct ∷ Call (record { 0 = 0 }) ∷ Call (record { 0 = 0 }) ∷ RetAct ∷ RetAct ∷ RetAct ∷ [] } ∷ record { pid = 11; cpu = 0; acts = After 3 ∷ Call (record { 0 = 0 }) ∷ Call (record { 0 = 0 }) ∷ After 4 ∷ Call (record { 0 = 0 }) ∷ RetAct ∷ RetAct ∷ RetAct ∷ [] } ∷ []; ctls = Run (Register 1) ∷ Run (Disable 0) ∷ Run (Disable 1) ∷ Run (Register 1) ∷ Run (Register 0) ∷ Run (Unregister 1) ∷ Run (Register 0) ∷ []; lines = usual_lines; rings = usual_rings; schedule = record { who = OfControl; count = 14 } ∷ record { who = OfControl; count = 12 } ∷ record { who = OfCpu (record { 0 = 1 }); count = 7 } ∷ record { who = OfCpu (record { 0 = 1 }); count = 16 } ∷ record { who = OfCpu (record { 0 = 0 }); count = 16 } ∷ record { who = OfCpu (record { 0 = 0 }); count = 4 } ∷ record { who = OfControl; count = 19 } ∷ record { who = OfControl; count = 2 } ∷ record { who = OfCpu (record { 0 = 0 }); count = 17 } ∷ record { who = OfCpu (record { 0 = 1 }); count = 11 } ∷ record { who = OfCpu (record { 0 = 0 }); count = 13 } ∷ record { who = OfCpu (record { 0 = 1 }); count = 5 } ∷ record { who = OfCpu (record { 0 = 0 }); count = 16 } ∷ record { who = OfCpu (record { 0 = 0 }); count = 13 } ∷ record { who = OfControl; count = 1 } ∷ record { who = OfCpu (record { 0 = 0 }); count = 1 } ∷ record { who = OfCpu (record { 0 = 1 }); count = 6 } ∷ record { who = All; count = 300 } ∷ [] }

abbrev pub job_1030-items : List Item
job_1030-items = Begin 1 ∷ Enter (call_in 0 1) Normal (record { 0 = 0 }) None ∷ Back (call_in 0 1) (record { 0 = 1 }) ∷ Enter (call_in 0 2) Irq (record { 0 = 0 }) (Some (call_in 0 1)) ∷ Back (call_in 0 2) (record { 0 = 1 }) ∷ BackEnd (call_in 0 2) (record { 0 = 1 }) ∷ Body (call_in 0 2) (record { 0 = 0 }) (Own (record { 0 = 1 })) ∷ Leave (call_in 0 2) ∷ Ret (call_in 0 2) (Some (call_in 0 1)) ∷ BackEnd (call_in 0 1) (record { 0 = 1 }) ∷ Body (call_in 0 1) (record { 0 = 0 }) (Own (record { 0 = 1 })) ∷ Enter (call_in 0 3) Normal (record { 0 = 0 }) (Some (call_in 0 1)) ∷ Back (call_in 0 3) (record { 0 = 1 }) ∷ Enter (call_in 0 4) Irq (record { 0 = 0 }) (Some (call_in 0 3)) ∷ Back (call_in 0 4) (record { 0 = 1 }) ∷ BackEnd (call_in 0 4) (record { 0 = 1 }) ∷ Body (call_in 0 4) (record { 0 = 0 }) (Own (record { 0 = 1 })) ∷ Leave (call_in 0 4) ∷ Ret (call_in 0 4) (Some (call_in 0 3)) ∷ BackEnd (call_in 0 3) (record { 0 = 1 }) ∷ Body (call_in 0 3) (record { 0 = 0 }) (Own (record { 0 = 1 })) ∷ Leave (call_in 0 3) ∷ Ret (call_in 0 3) (Some (call_in 0 1)) ∷ Return 1 Accepted ∷ Enter (call_in 0 5) Normal (record { 0 = 0 }) (Some (call_in 0 1)) ∷ Begin 2 ∷ Return 2 NotThere ∷ Begin 3 ∷ Return 3 Invalid ∷ Begin 4 ∷ Return 4 Already ∷ Back (call_in 0 5) (record { 0 = 1 }) ∷ Begin 5 ∷ Enter (call_in 0 6) Irq (record { 0 = 0 }) (Some (call_in 0 5)) ∷ Enter (call_in 1 1) Normal (record { 0 = 0 }) None ∷ Back (call_in 0 6) (record { 0 = 1 }) ∷ Back (call_in 1 1) (record { 0 = 1 }) ∷ BackEnd (call_in 0 6) (record { 0 = 1 }) ∷ Enter (call_in 1 2) Irq (record { 0 = 0 }) (Some (call_in 1 1)) ∷ Body (call_in 0 6) (record { 0 = 0 }) (Own (record { 0 = 1 })) ∷ Leave (call_in 0 6) ∷ Ret (call_in 0 6) (Some (call_in 0 5)) ∷ BackEnd (call_in 0 5) (record { 0 = 1 }) ∷ Body (call_in 0 5) (record { 0 = 0 }) (Own (record { 0 = 1 })) ∷ Back (call_in 1 2) (record { 0 = 0 }) ∷ Enter (call_in 0 7) Normal (record { 0 = 0 }) (Some (call_in 0 5)) ∷ BackEnd (call_in 1 2) (record { 0 = 0 }) ∷ Back (call_in 1 2) (record { 0 = 1 }) ∷ BackEnd (call_in 1 2) (record { 0 = 1 }) ∷ Back (call_in 0 7) (record { 0 = 0 }) ∷ Body (call_in 1 2) (record { 0 = 0 }) ByList ∷ BackEnd (call_in 0 7) (record { 0 = 0 }) ∷ Leave (call_in 1 2) ∷ Exit (call_in 1 2) (record { 0 = 0 }) 44 ∷ ExitEnd (call_in 1 2) (record { 0 = 0 }) ∷ Ret (call_in 1 2) (Some (call_in 1 1)) ∷ Back (call_in 0 7) (record { 0 = 1 }) ∷ BackEnd (call_in 1 1) (record { 0 = 1 }) ∷ Enter (call_in 0 8) Irq (record { 0 = 0 }) (Some (call_in 0 7)) ∷ Body (call_in 1 1) (record { 0 = 0 }) (Own (record { 0 = 1 })) ∷ Enter (call_in 1 3) Normal (record { 0 = 0 }) (Some (call_in 1 1)) ∷ Back (call_in 0 8) (record { 0 = 0 }) ∷ BackEnd (call_in 0 8) (record { 0 = 0 }) ∷ Back (call_in 1 3) (record { 0 = 0 }) ∷ BackEnd (call_in 1 3) (record { 0 = 0 }) ∷ Back (call_in 0 8) (record { 0 = 1 }) ∷ BackEnd (call_in 0 8) (record { 0 = 1 }) ∷ Body (call_in 0 8) (record { 0 = 0 }) ByList ∷ Leave (call_in 0 8) ∷ Back (call_in 1 3) (record { 0 = 1 }) ∷ Enter (call_in 1 4) Irq (record { 0 = 0 }) (Some (call_in 1 3)) ∷ Exit (call_in 0 8) (record { 0 = 0 }) 61 ∷ ExitEnd (call_in 0 8) (record { 0 = 0 }) ∷ Ret (call_in 0 8) (Some (call_in 0 7)) ∷ BackEnd (call_in 0 7) (record { 0 = 1 }) ∷ Body (call_in 0 7) (record { 0 = 0 }) ByList ∷ Back (call_in 1 4) (record { 0 = 0 }) ∷ BackEnd (call_in 1 4) (record { 0 = 0 }) ∷ Leave (call_in 0 7) ∷ Exit (call_in 0 7) (record { 0 = 0 }) 49 ∷ ExitEnd (call_in 0 7) (record { 0 = 0 }) ∷ Ret (call_in 0 7) (Some (call_in 0 5)) ∷ Back (call_in 1 4) (record { 0 = 1 }) ∷ BackEnd (call_in 1 4) (record { 0 = 1 }) ∷ Leave (call_in 0 5) ∷ Body (call_in 1 4) (record { 0 = 0 }) ByList ∷ Ret (call_in 0 5) (Some (call_in 0 1)) ∷ Leave (call_in 1 4) ∷ Exit (call_in 1 4) (record { 0 = 0 }) 76 ∷ Leave (call_in 0 1) ∷ ExitEnd (call_in 1 4) (record { 0 = 0 }) ∷ Ret (call_in 0 1) None ∷ Ret (call_in 1 4) (Some (call_in 1 3)) ∷ BackEnd (call_in 1 3) (record { 0 = 1 }) ∷ Body (call_in 1 3) (record { 0 = 0 }) ByList ∷ Enter (call_in 1 5) Normal (record { 0 = 0 }) (Some (call_in 1 3)) ∷ Back (call_in 1 5) (record { 0 = 0 }) ∷ BackEnd (call_in 1 5) (record { 0 = 0 }) ∷ Back (call_in 1 5) (record { 0 = 1 }) ∷ Enter (call_in 1 6) Irq (record { 0 = 0 }) (Some (call_in 1 5)) ∷ Refuse (call_in 1 6) (record { 0 = 0 }) Depth ∷ Back (call_in 1 6) (record { 0 = 1 }) ∷ BackEnd (call_in 1 6) (record { 0 = 1 }) ∷ Body (call_in 1 6) (record { 0 = 0 }) ByList ∷ Leave (call_in 1 6) ∷ Ret (call_in 1 6) (Some (call_in 1 5)) ∷ BackEnd (call_in 1 5) (record { 0 = 1 }) ∷ Body (call_in 1 5) (record { 0 = 0 }) ByList ∷ Leave (call_in 1 5) ∷ Return 5 Accepted ∷ Begin 6 ∷ Exit (call_in 1 5) (record { 0 = 0 }) 96 ∷ ExitEnd (call_in 1 5) (record { 0 = 0 }) ∷ Ret (call_in 1 5) (Some (call_in 1 3)) ∷ Leave (call_in 1 3) ∷ Exit (call_in 1 3) (record { 0 = 0 }) 63 ∷ ExitEnd (call_in 1 3) (record { 0 = 0 }) ∷ Ret (call_in 1 3) (Some (call_in 1 1)) ∷ Leave (call_in 1 1) ∷ Ret (call_in 1 1) None ∷ Return 6 Accepted ∷ Begin 7 ∷ Return 7 Already ∷ []

pub job_1030-plays : Plays job_1030 job_1030-items true
unfolding actors_of repeated start step run played play all_end control_next control_got cpu_next cpu_got insn moves desk
job_1030-plays = (refl, refl)

abbrev pub job_1038 : Job
job_1038 = record { version = 1; functions = named (codes "a") None ∷ []; users = record { name = codes "u0"; kind = Graph; regs = false; ipmodify = None; pid = true; act = Some (CallIn (record { 0 = 0 })) } ∷ []; frames = 3; tramps = 0; quanta = 40 ∷ 1 ∷ []; tasks = record { pid = 10; cpu = 1; acts = Call (record { 0 = 0 }) ∷ After 1 ∷ Call (record { 0 = 0 }) ∷ Call (record { 0 = 0 }) ∷ After 2 ∷ RetAct ∷ Raise Softirq ∷ Call (record { 0 = 0 }) ∷ RetAct ∷ Lower ∷ RetAct ∷ RetAct ∷ [] } ∷ []; ctls = Run (Register 0) ∷ Run (NoPid (false ∷ [])) ∷ Run (Register 0) ∷ Run (Notrace 0 (record { append = true; remove = false; clear = false; set = true ∷ [] })) ∷ Run (NoPid (false ∷ [])) ∷ Run (Enable 0) ∷ []; lines = usual_lines; rings = usual_rings; schedule = record { who = OfControl; count = 5 } ∷ record { who = OfCpu (record { 0 = 1 }); count = 4 } ∷ record { who = OfCpu (record { 0 = 0 }); count = 7 } ∷ record { who = OfCpu (record { 0 = 1 }); count = 7 } ∷ record { who = OfControl; count = 5 } ∷ record { who = OfCpu (record { 0 = 0 }); count = 6 } ∷ record { who = OfCpu (record { 0 = 1 }); count = 6 } ∷ record { who = OfControl; count = 2 } ∷ record { who = OfControl; count = 2 } ∷ record { who = OfControl; count = 1 } ∷ record { who = OfControl; count = 2 } ∷ record { who = OfCpu (record { 0 = 1 }); count = 6 } ∷ record { who = OfCpu (record { 0 = 1 }); count = 1 } ∷ record { who = OfCpu (record { 0 = 1 }); count = 5 } ∷ record { who = OfControl; count = 7 } ∷ record { who = OfControl; count = 7 } ∷ record { who = OfControl; count = 8 } ∷ record { who = OfControl; count = 8 } ∷ record { who = OfCpu (record { 0 = 1 }); count = 6 } ∷ record { who = OfControl; count = 2 } ∷ record { who = OfControl; count = 7 } ∷ record { who = OfCpu (record { 0 = 1 }); count = 7 } ∷ record { who = OfCpu (record { 0 = 1 }); count = 3 } ∷ record { who = OfCpu (record { 0 = 0 }); count = 4 } ∷ record { who = OfCpu (record { 0 = 1 }); count = 8 } ∷ record { who = All; count = 300 } ∷ [] }

abbrev pub job_1038-items : List Item
job_1038-items = Begin 1 ∷ Enter (call_in 0 1) Normal (record { 0 = 0 }) None ∷ Body (call_in 0 1) (record { 0 = 0 }) Nop ∷ Return 1 Accepted ∷ Begin 2 ∷ Enter (call_in 0 2) Normal (record { 0 = 0 }) (Some (call_in 0 1)) ∷ Back (call_in 0 2) (record { 0 = 0 }) ∷ Enter (call_in 0 3) Normal (record { 0 = 0 }) (Some (call_in 0 2)) ∷ Return 2 Accepted ∷ Begin 3 ∷ Refuse (call_in 0 3) (record { 0 = 0 }) Recursion ∷ Return 3 Already ∷ Begin 4 ∷ Body (call_in 0 3) (record { 0 = 0 }) ByList ∷ Leave (call_in 0 3) ∷ Ret (call_in 0 3) (Some (call_in 0 2)) ∷ BackEnd (call_in 0 2) (record { 0 = 0 }) ∷ Body (call_in 0 2) (record { 0 = 0 }) ByList ∷ Enter (call_in 0 4) Normal (record { 0 = 0 }) (Some (call_in 0 2)) ∷ Body (call_in 0 4) (record { 0 = 0 }) Nop ∷ Leave (call_in 0 4) ∷ Ret (call_in 0 4) (Some (call_in 0 2)) ∷ Return 4 Accepted ∷ Begin 5 ∷ Enter (call_in 0 5) Softirq (record { 0 = 0 }) (Some (call_in 0 2)) ∷ Body (call_in 0 5) (record { 0 = 0 }) Nop ∷ Leave (call_in 0 5) ∷ Return 5 Accepted ∷ Ret (call_in 0 5) (Some (call_in 0 2)) ∷ Begin 6 ∷ Return 6 Invalid ∷ Leave (call_in 0 2) ∷ Exit (call_in 0 2) (record { 0 = 0 }) 6 ∷ ExitEnd (call_in 0 2) (record { 0 = 0 }) ∷ Ret (call_in 0 2) (Some (call_in 0 1)) ∷ Leave (call_in 0 1) ∷ Ret (call_in 0 1) None ∷ []

pub job_1038-plays : Plays job_1038 job_1038-items true
unfolding actors_of repeated start step run played play all_end control_next control_got cpu_next cpu_got insn moves desk
job_1038-plays = (refl, refl)

abbrev pub job_1040 : Job
job_1040 = record { version = 1; functions = named (codes "a") None ∷ named (codes "b") None ∷ named (codes "c") (Some (codes "m")) ∷ []; users = record { name = codes "u0"; kind = Fprobe false false; regs = true; ipmodify = None; pid = false; act = None } ∷ record { name = codes "u1"; kind = Profile; regs = false; ipmodify = None; pid = false; act = None } ∷ record { name = codes "u2"; kind = Function; regs = false; ipmodify = None; pid = false; act = None } ∷ []; frames = 3; tramps = 0; quanta = 7 ∷ []; tasks = record { pid = 10; cpu = 0; acts = Raise Irq ∷ Raise Nmi ∷ Lower ∷ Lower ∷ [] } ∷ record { pid = 11; cpu = 0; acts = After 4 ∷ Raise Nmi ∷ Call (record { 0 = 0 }) ∷ RetAct ∷ Call (record { 0 = 2 }) ∷ RetAct ∷ Call (record { 0 = 0 }) ∷ RetAct ∷ Lower ∷ [] } ∷ record { pid = 12; cpu = 0; acts = Raise Nmi ∷ Call (record { 0 = 0 }) ∷ RetAct ∷ Lower ∷ [] } ∷ []; ctls = Run (Filter 0 (record { append = true; remove = false; clear = false; set = true ∷ false ∷ false ∷ [] })) ∷ Run (Disable 1) ∷ Run (NoPid (false ∷ false ∷ false ∷ [])) ∷ Run (Notrace 2 (record { append = true; remove = true; clear = false; set = false ∷ false ∷ true ∷ [] })) ∷ Run (Disable 1) ∷ Run (Register 2) ∷ Run (Disable 2) ∷ []; lines = usual_lines; rings = usual_rings; schedule = record { who = OfCpu (record { 0 = 0 }); count = 25 } ∷ record { who = OfCpu (record { 0 = 0 }); count = 11 } ∷ record { who = OfCpu (record { 0 = 0 }); count = 36 } ∷ record { who = OfControl; count = 18 } ∷ record { who = OfControl; count = 21 } ∷ record { who = OfCpu (record { 0 = 0 }); count = 26 } ∷ record { who = OfCpu (record { 0 = 0 }); count = 20 } ∷ record { who = OfCpu (record { 0 = 0 }); count = 23 } ∷ record { who = OfControl; count = 44 } ∷ record { who = OfCpu (record { 0 = 0 }); count = 35 } ∷ record { who = OfControl; count = 7 } ∷ record { who = OfControl; count = 19 } ∷ record { who = OfCpu (record { 0 = 0 }); count = 40 } ∷ record { who = OfControl; count = 23 } ∷ record { who = OfCpu (record { 0 = 0 }); count = 43 } ∷ record { who = OfControl; count = 5 } ∷ record { who = OfCpu (record { 0 = 0 }); count = 24 } ∷ record { who = OfCpu (record { 0 = 0 }); count = 37 } ∷ record { who = OfCpu (record { 0 = 0 }); count = 29 } ∷ record { who = All; count = 300 } ∷ [] }

abbrev pub job_1040-items : List Item
job_1040-items = Enter (call_in 2 1) Nmi (record { 0 = 0 }) None ∷ Body (call_in 2 1) (record { 0 = 0 }) Nop ∷ Leave (call_in 2 1) ∷ Ret (call_in 2 1) None ∷ Begin 1 ∷ Return 1 Accepted ∷ Begin 2 ∷ Return 2 NotThere ∷ Begin 3 ∷ Return 3 Accepted ∷ Begin 4 ∷ Return 4 Accepted ∷ Begin 5 ∷ Return 5 NotThere ∷ Begin 6 ∷ Enter (call_in 1 1) Nmi (record { 0 = 0 }) None ∷ Back (call_in 1 1) (record { 0 = 2 }) ∷ BackEnd (call_in 1 1) (record { 0 = 2 }) ∷ Body (call_in 1 1) (record { 0 = 0 }) ByList ∷ Leave (call_in 1 1) ∷ Ret (call_in 1 1) None ∷ Enter (call_in 1 2) Nmi (record { 0 = 2 }) None ∷ Back (call_in 1 2) (record { 0 = 2 }) ∷ BackEnd (call_in 1 2) (record { 0 = 2 }) ∷ Body (call_in 1 2) (record { 0 = 2 }) ByList ∷ Leave (call_in 1 2) ∷ Ret (call_in 1 2) None ∷ Enter (call_in 1 3) Nmi (record { 0 = 0 }) None ∷ Back (call_in 1 3) (record { 0 = 2 }) ∷ BackEnd (call_in 1 3) (record { 0 = 2 }) ∷ Body (call_in 1 3) (record { 0 = 0 }) ByList ∷ Leave (call_in 1 3) ∷ Ret (call_in 1 3) None ∷ Return 6 Accepted ∷ Begin 7 ∷ Return 7 Invalid ∷ []

pub job_1040-plays : Plays job_1040 job_1040-items true
unfolding actors_of repeated start step run played play all_end control_next control_got cpu_next cpu_got insn moves desk
job_1040-plays = (refl, refl)

abbrev pub job_1042 : Job
job_1042 = record { version = 1; functions = named (codes "a") None ∷ named (codes "b") (Some (codes "m")) ∷ []; users = record { name = codes "u0"; kind = Profile; regs = true; ipmodify = None; pid = false; act = Some (IrqIn (record { 0 = 1 })) } ∷ record { name = codes "u1"; kind = Fprobe true false; regs = true; ipmodify = None; pid = true; act = Some (CallIn (record { 0 = 1 })) } ∷ record { name = codes "u2"; kind = Profile; regs = false; ipmodify = None; pid = false; act = Some (CallIn (record { 0 = 0 })) } ∷ []; frames = 1; tramps = 1; quanta = 3 ∷ []; tasks = record { pid = 10; cpu = 0; acts = After 2 ∷ After 4 ∷ After 1 ∷ Raise Irq ∷ Raise Nmi ∷ Call (record { 0 = 0 }) ∷ Call (record { 0 = 0 }) ∷ Call (record { 0 = 0 }) ∷ RetAct ∷ RetAct ∷ RetAct ∷ Lower ∷ Lower ∷ [] } ∷ record { pid = 11; cpu = 0; acts = After 2 ∷ After 2 ∷ Raise Nmi ∷ Call (record { 0 = 0 }) ∷ Call (record { 0 = 0 }) ∷ Call (record { 0 = 0 }) ∷ RetAct ∷ RetAct ∷ RetAct ∷ Lower ∷ [] } ∷ record { pid = 12; cpu = 0; acts = Raise Irq ∷ Raise Nmi ∷ Call (record { 0 = 0 }) ∷ RetAct ∷ Lower ∷ Lower ∷ [] } ∷ []; ctls = Run (Register 1) ∷ Run (Register 0) ∷ Until 1 4 ∷ Run (Unregister 2) ∷ Run (MaxDepth 0) ∷ []; lines = usual_lines; rings = usual_rings; schedule = record { who = OfControl; count = 22 } ∷ record { who = OfCpu (record { 0 = 0 }); count = 17 } ∷ record { who = OfCpu (record { 0 = 0 }); count = 5 } ∷ record { who = OfCpu (record { 0 = 0 }); count = 11 } ∷ record { who = OfControl; count = 3 } ∷ record { who = OfCpu (record { 0 = 0 }); count = 34 } ∷ record { who = OfControl; count = 12 } ∷ record { who = OfControl; count = 43 } ∷ record { who = OfCpu (record { 0 = 0 }); count = 20 } ∷ record { who = OfCpu (record { 0 = 0 }); count = 22 } ∷ record { who = OfControl; count = 41 } ∷ record { who = OfCpu (record { 0 = 0 }); count = 21 } ∷ record { who = OfCpu (record { 0 = 0 }); count = 30 } ∷ record { who = OfCpu (record { 0 = 0 }); count = 24 } ∷ record { who = OfControl; count = 29 } ∷ record { who = OfControl; count = 38 } ∷ record { who = OfCpu (record { 0 = 0 }); count = 26 } ∷ record { who = All; count = 300 } ∷ [] }

abbrev pub job_1042-items : List Item
job_1042-items = Begin 1 ∷ Enter (call_in 2 1) Nmi (record { 0 = 0 }) None ∷ Back (call_in 2 1) (record { 0 = 1 }) ∷ Enter (call_in 2 2) Nmi (record { 0 = 1 }) (Some (call_in 2 1)) ∷ Refuse (call_in 2 2) (record { 0 = 1 }) Recursion ∷ Body (call_in 2 2) (record { 0 = 1 }) (Own (record { 0 = 1 })) ∷ Leave (call_in 2 2) ∷ Ret (call_in 2 2) (Some (call_in 2 1)) ∷ BackEnd (call_in 2 1) (record { 0 = 1 }) ∷ Body (call_in 2 1) (record { 0 = 0 }) (Own (record { 0 = 1 })) ∷ Leave (call_in 2 1) ∷ Exit (call_in 2 1) (record { 0 = 1 }) 2 ∷ ExitEnd (call_in 2 1) (record { 0 = 1 }) ∷ Ret (call_in 2 1) None ∷ Return 1 Accepted ∷ Begin 2 ∷ Return 2 Accepted ∷ Enter (call_in 1 1) Nmi (record { 0 = 0 }) None ∷ Back (call_in 1 1) (record { 0 = 0 }) ∷ BackEnd (call_in 1 1) (record { 0 = 0 }) ∷ Back (call_in 1 1) (record { 0 = 1 }) ∷ Enter (call_in 1 2) Nmi (record { 0 = 1 }) (Some (call_in 1 1)) ∷ Refuse (call_in 1 2) (record { 0 = 0 }) Recursion ∷ Refuse (call_in 1 2) (record { 0 = 1 }) Recursion ∷ Body (call_in 1 2) (record { 0 = 1 }) ByList ∷ Leave (call_in 1 2) ∷ Ret (call_in 1 2) (Some (call_in 1 1)) ∷ BackEnd (call_in 1 1) (record { 0 = 1 }) ∷ Body (call_in 1 1) (record { 0 = 0 }) ByList ∷ Begin 3 ∷ Return 3 NotThere ∷ Enter (call_in 1 3) Nmi (record { 0 = 0 }) (Some (call_in 1 1)) ∷ Begin 4 ∷ Refuse (call_in 1 3) (record { 0 = 0 }) Depth ∷ Back (call_in 1 3) (record { 0 = 1 }) ∷ Miss (call_in 1 3) (record { 0 = 1 }) ∷ Enter (call_in 1 4) Nmi (record { 0 = 1 }) (Some (call_in 1 3)) ∷ Refuse (call_in 1 4) (record { 0 = 0 }) Recursion ∷ Refuse (call_in 1 4) (record { 0 = 1 }) Recursion ∷ Body (call_in 1 4) (record { 0 = 1 }) ByList ∷ Leave (call_in 1 4) ∷ Ret (call_in 1 4) (Some (call_in 1 3)) ∷ BackEnd (call_in 1 3) (record { 0 = 1 }) ∷ Body (call_in 1 3) (record { 0 = 0 }) ByList ∷ Return 4 Accepted ∷ Enter (call_in 1 5) Nmi (record { 0 = 0 }) (Some (call_in 1 3)) ∷ Refuse (call_in 1 5) (record { 0 = 0 }) Depth ∷ Enter (call_in 0 1) Nmi (record { 0 = 0 }) None ∷ Back (call_in 1 5) (record { 0 = 1 }) ∷ Miss (call_in 1 5) (record { 0 = 1 }) ∷ Enter (call_in 1 6) Nmi (record { 0 = 1 }) (Some (call_in 1 5)) ∷ Back (call_in 0 1) (record { 0 = 0 }) ∷ BackEnd (call_in 0 1) (record { 0 = 0 }) ∷ Refuse (call_in 1 6) (record { 0 = 0 }) Recursion ∷ Back (call_in 0 1) (record { 0 = 1 }) ∷ Enter (call_in 0 2) Nmi (record { 0 = 1 }) (Some (call_in 0 1)) ∷ Refuse (call_in 1 6) (record { 0 = 1 }) Recursion ∷ Body (call_in 1 6) (record { 0 = 1 }) ByList ∷ Leave (call_in 1 6) ∷ Ret (call_in 1 6) (Some (call_in 1 5)) ∷ Refuse (call_in 0 2) (record { 0 = 0 }) Recursion ∷ BackEnd (call_in 1 5) (record { 0 = 1 }) ∷ Body (call_in 1 5) (record { 0 = 0 }) ByList ∷ Leave (call_in 1 5) ∷ Refuse (call_in 0 2) (record { 0 = 1 }) Recursion ∷ Ret (call_in 1 5) (Some (call_in 1 3)) ∷ Body (call_in 0 2) (record { 0 = 1 }) ByList ∷ Leave (call_in 0 2) ∷ Ret (call_in 0 2) (Some (call_in 0 1)) ∷ Leave (call_in 1 3) ∷ Ret (call_in 1 3) (Some (call_in 1 1)) ∷ BackEnd (call_in 0 1) (record { 0 = 1 }) ∷ Body (call_in 0 1) (record { 0 = 0 }) ByList ∷ Leave (call_in 1 1) ∷ Exit (call_in 1 1) (record { 0 = 0 }) 18 ∷ Enter (call_in 0 3) Nmi (record { 0 = 0 }) (Some (call_in 0 1)) ∷ ExitEnd (call_in 1 1) (record { 0 = 0 }) ∷ Exit (call_in 1 1) (record { 0 = 1 }) 20 ∷ ExitEnd (call_in 1 1) (record { 0 = 1 }) ∷ Ret (call_in 1 1) None ∷ Refuse (call_in 0 3) (record { 0 = 0 }) Depth ∷ Back (call_in 0 3) (record { 0 = 1 }) ∷ Miss (call_in 0 3) (record { 0 = 1 }) ∷ Enter (call_in 0 4) Nmi (record { 0 = 1 }) (Some (call_in 0 3)) ∷ Refuse (call_in 0 4) (record { 0 = 0 }) Recursion ∷ Refuse (call_in 0 4) (record { 0 = 1 }) Recursion ∷ Body (call_in 0 4) (record { 0 = 1 }) ByList ∷ Leave (call_in 0 4) ∷ Ret (call_in 0 4) (Some (call_in 0 3)) ∷ BackEnd (call_in 0 3) (record { 0 = 1 }) ∷ Body (call_in 0 3) (record { 0 = 0 }) ByList ∷ Enter (call_in 0 5) Nmi (record { 0 = 0 }) (Some (call_in 0 3)) ∷ Refuse (call_in 0 5) (record { 0 = 0 }) Depth ∷ Back (call_in 0 5) (record { 0 = 1 }) ∷ Miss (call_in 0 5) (record { 0 = 1 }) ∷ Enter (call_in 0 6) Nmi (record { 0 = 1 }) (Some (call_in 0 5)) ∷ Refuse (call_in 0 6) (record { 0 = 0 }) Recursion ∷ []

pub job_1042-plays : Plays job_1042 job_1042-items false
unfolding actors_of repeated start step run played play all_end control_next control_got cpu_next cpu_got insn moves desk
job_1042-plays = (refl, refl)

abbrev pub job_1044 : Job
job_1044 = record { version = 1; functions = named (codes "x0") None ∷ named (codes "x1") None ∷ named (codes "x2") None ∷ named (codes "x3") None ∷ named (codes "x4") None ∷ named (codes "x5") None ∷ named (codes "x6") None ∷ named (codes "x7") None ∷ named (codes "x8") None ∷ named (codes "x9") None ∷ named (codes "x10") None ∷ named (codes "x11") None ∷ named (codes "x12") None ∷ named (codes "x13") None ∷ named (codes "x14") None ∷ named (codes "x15") None ∷ named (codes "x16") None ∷ named (codes "x17") None ∷ named (codes "x18") None ∷ named (codes "x19") None ∷ named (codes "x20") None ∷ named (codes "x21") None ∷ named (codes "x22") None ∷ named (codes "x23") None ∷ named (codes "x24") None ∷ named (codes "x25") None ∷ named (codes "x26") None ∷ named (codes "x27") None ∷ named (codes "x28") None ∷ named (codes "x29") None ∷ named (codes "x30") None ∷ named (codes "x31") None ∷ named (codes "x32") None ∷ named (codes "x33") None ∷ named (codes "x34") None ∷ named (codes "x35") None ∷ named (codes "x36") None ∷ named (codes "x37") None ∷ named (codes "x38") None ∷ named (codes "x39") None ∷ named (codes "x40") None ∷ named (codes "x41") None ∷ named (codes "x42") None ∷ named (codes "x43") None ∷ named (codes "x44") None ∷ named (codes "x45") None ∷ named (codes "x46") None ∷ named (codes "x47") None ∷ named (codes "x48") None ∷ named (codes "x49") None ∷ named (codes "x50") None ∷ named (codes "x51") None ∷ named (codes "x52") None ∷ named (codes "x53") None ∷ named (codes "x54") None ∷ named (codes "x55") None ∷ named (codes "x56") None ∷ named (codes "x57") None ∷ named (codes "x58") None ∷ named (codes "x59") None ∷ named (codes "x60") None ∷ named (codes "x61") None ∷ named (codes "a") (Some (codes "m")) ∷ named (codes "b") (Some (codes "m")) ∷ []; users = record { name = codes "u0"; kind = Fprobe true true; regs = true; ipmodify = None; pid = false; act = None } ∷ []; frames = 50; tramps = 16; quanta = 40 ∷ []; tasks = record { pid = 10; cpu = 0; acts = After 2 ∷ Raise Irq ∷ Raise Nmi ∷ Call (record { 0 = 62 }) ∷ RetAct ∷ Lower ∷ Lower ∷ [] } ∷ record { pid = 11; cpu = 0; acts = Call (record { 0 = 62 }) ∷ RetAct ∷ [] } ∷ record { pid = 12; cpu = 0; acts = After 2 ∷ Call (record { 0 = 63 }) ∷ Call (record { 0 = 62 }) ∷ RetAct ∷ Raise Softirq ∷ Call (record { 0 = 62 }) ∷ Call (record { 0 = 62 }) ∷ RetAct ∷ Raise Irq ∷ Call (record { 0 = 63 }) ∷ RetAct ∷ Lower ∷ RetAct ∷ Lower ∷ RetAct ∷ [] } ∷ []; ctls = Run (Unregister 0) ∷ Run (Unregister 0) ∷ []; lines = usual_lines; rings = usual_rings; schedule = record { who = OfCpu (record { 0 = 0 }); count = 2 } ∷ record { who = OfControl; count = 3 } ∷ record { who = OfCpu (record { 0 = 0 }); count = 5 } ∷ record { who = OfCpu (record { 0 = 0 }); count = 6 } ∷ record { who = OfCpu (record { 0 = 0 }); count = 3 } ∷ record { who = OfCpu (record { 0 = 0 }); count = 3 } ∷ record { who = OfCpu (record { 0 = 0 }); count = 3 } ∷ record { who = OfCpu (record { 0 = 0 }); count = 2 } ∷ record { who = OfCpu (record { 0 = 0 }); count = 3 } ∷ record { who = OfControl; count = 2 } ∷ record { who = OfCpu (record { 0 = 0 }); count = 1 } ∷ record { who = OfControl; count = 5 } ∷ record { who = OfCpu (record { 0 = 0 }); count = 5 } ∷ record { who = OfControl; count = 4 } ∷ record { who = OfCpu (record { 0 = 0 }); count = 7 } ∷ record { who = OfCpu (record { 0 = 0 }); count = 8 } ∷ record { who = OfControl; count = 1 } ∷ record { who = All; count = 300 } ∷ [] }

abbrev pub job_1044-items : List Item
job_1044-items = Begin 1 ∷ Return 1 NotThere ∷ Begin 2 ∷ Enter (call_in 1 1) Normal (record { 0 = 62 }) None ∷ Body (call_in 1 1) (record { 0 = 62 }) Nop ∷ Leave (call_in 1 1) ∷ Ret (call_in 1 1) None ∷ Return 2 NotThere ∷ Enter (call_in 0 1) Nmi (record { 0 = 62 }) None ∷ Body (call_in 0 1) (record { 0 = 62 }) Nop ∷ Leave (call_in 0 1) ∷ Ret (call_in 0 1) None ∷ Enter (call_in 2 1) Normal (record { 0 = 63 }) None ∷ Body (call_in 2 1) (record { 0 = 63 }) Nop ∷ Enter (call_in 2 2) Normal (record { 0 = 62 }) (Some (call_in 2 1)) ∷ Body (call_in 2 2) (record { 0 = 62 }) Nop ∷ Leave (call_in 2 2) ∷ Ret (call_in 2 2) (Some (call_in 2 1)) ∷ Enter (call_in 2 3) Softirq (record { 0 = 62 }) (Some (call_in 2 1)) ∷ Body (call_in 2 3) (record { 0 = 62 }) Nop ∷ Enter (call_in 2 4) Softirq (record { 0 = 62 }) (Some (call_in 2 3)) ∷ Body (call_in 2 4) (record { 0 = 62 }) Nop ∷ Leave (call_in 2 4) ∷ Ret (call_in 2 4) (Some (call_in 2 3)) ∷ Enter (call_in 2 5) Irq (record { 0 = 63 }) (Some (call_in 2 3)) ∷ Body (call_in 2 5) (record { 0 = 63 }) Nop ∷ Leave (call_in 2 5) ∷ Ret (call_in 2 5) (Some (call_in 2 3)) ∷ Leave (call_in 2 3) ∷ Ret (call_in 2 3) (Some (call_in 2 1)) ∷ Leave (call_in 2 1) ∷ Ret (call_in 2 1) None ∷ []

pub job_1044-plays : Plays job_1044 job_1044-items true
unfolding actors_of repeated start step run played play all_end control_next control_got cpu_next cpu_got insn moves desk
job_1044-plays = (refl, refl)

abbrev pub job_1045 : Job
job_1045 = record { version = 1; functions = named (codes "a") (Some (codes "m")) ∷ []; users = record { name = codes "u0"; kind = Profile; regs = true; ipmodify = None; pid = true; act = None } ∷ []; frames = 50; tramps = 1; quanta = 7 ∷ []; tasks = record { pid = 10; cpu = 0; acts = Call (record { 0 = 0 }) ∷ RetAct ∷ Call (record { 0 = 0 }) ∷ Call (record { 0 = 0 }) ∷ RetAct ∷ Call (record { 0 = 0 }) ∷ RetAct ∷ RetAct ∷ [] } ∷ record { pid = 11; cpu = 0; acts = After 4 ∷ Raise Irq ∷ Call (record { 0 = 0 }) ∷ Call (record { 0 = 0 }) ∷ Call (record { 0 = 0 }) ∷ Raise Nmi ∷ Lower ∷ RetAct ∷ RetAct ∷ RetAct ∷ Lower ∷ [] } ∷ record { pid = 12; cpu = 0; acts = Call (record { 0 = 0 }) ∷ RetAct ∷ Raise Irq ∷ Call (record { 0 = 0 }) ∷ Raise Nmi ∷ Call (record { 0 = 0 }) ∷ RetAct ∷ Lower ∷ RetAct ∷ Lower ∷ [] } ∷ []; ctls = Run (NoPid (true ∷ false ∷ false ∷ [])) ∷ Until 2 4 ∷ Run (Unregister 0) ∷ Run (Unregister 0) ∷ Run (Register 0) ∷ Run (Register 0) ∷ Run (Register 0) ∷ []; lines = usual_lines; rings = usual_rings; schedule = record { who = OfControl; count = 17 } ∷ record { who = OfCpu (record { 0 = 0 }); count = 42 } ∷ record { who = OfControl; count = 36 } ∷ record { who = OfControl; count = 45 } ∷ record { who = OfControl; count = 3 } ∷ record { who = OfCpu (record { 0 = 0 }); count = 1 } ∷ record { who = OfControl; count = 43 } ∷ record { who = OfCpu (record { 0 = 0 }); count = 40 } ∷ record { who = OfCpu (record { 0 = 0 }); count = 39 } ∷ record { who = OfControl; count = 27 } ∷ record { who = OfCpu (record { 0 = 0 }); count = 28 } ∷ record { who = OfControl; count = 41 } ∷ record { who = OfCpu (record { 0 = 0 }); count = 23 } ∷ record { who = OfCpu (record { 0 = 0 }); count = 5 } ∷ record { who = OfCpu (record { 0 = 0 }); count = 3 } ∷ record { who = OfCpu (record { 0 = 0 }); count = 25 } ∷ record { who = OfControl; count = 5 } ∷ record { who = OfControl; count = 30 } ∷ record { who = OfControl; count = 5 } ∷ record { who = All; count = 300 } ∷ [] }

abbrev pub job_1045-items : List Item
job_1045-items = Begin 1 ∷ Enter (call_in 0 1) Normal (record { 0 = 0 }) None ∷ Enter (call_in 2 1) Normal (record { 0 = 0 }) None ∷ Body (call_in 2 1) (record { 0 = 0 }) Nop ∷ Body (call_in 0 1) (record { 0 = 0 }) Nop ∷ Leave (call_in 0 1) ∷ Ret (call_in 0 1) None ∷ Leave (call_in 2 1) ∷ Ret (call_in 2 1) None ∷ Enter (call_in 2 2) Irq (record { 0 = 0 }) None ∷ Enter (call_in 0 2) Normal (record { 0 = 0 }) None ∷ Body (call_in 0 2) (record { 0 = 0 }) Nop ∷ Enter (call_in 0 3) Normal (record { 0 = 0 }) (Some (call_in 0 2)) ∷ Return 1 Accepted ∷ Body (call_in 2 2) (record { 0 = 0 }) Nop ∷ Body (call_in 0 3) (record { 0 = 0 }) Nop ∷ Leave (call_in 0 3) ∷ Ret (call_in 0 3) (Some (call_in 0 2)) ∷ Enter (call_in 2 3) Nmi (record { 0 = 0 }) (Some (call_in 2 2)) ∷ Body (call_in 2 3) (record { 0 = 0 }) Nop ∷ Leave (call_in 2 3) ∷ Enter (call_in 0 4) Normal (record { 0 = 0 }) (Some (call_in 0 2)) ∷ Body (call_in 0 4) (record { 0 = 0 }) Nop ∷ Ret (call_in 2 3) (Some (call_in 2 2)) ∷ Leave (call_in 2 2) ∷ Ret (call_in 2 2) None ∷ Leave (call_in 0 4) ∷ Ret (call_in 0 4) (Some (call_in 0 2)) ∷ Leave (call_in 0 2) ∷ Ret (call_in 0 2) None ∷ Begin 2 ∷ Return 2 NotThere ∷ Begin 3 ∷ Return 3 NotThere ∷ Begin 4 ∷ Return 4 Accepted ∷ Begin 5 ∷ Return 5 Already ∷ Begin 6 ∷ Return 6 Already ∷ Enter (call_in 1 1) Irq (record { 0 = 0 }) None ∷ Back (call_in 1 1) (record { 0 = 0 }) ∷ BackEnd (call_in 1 1) (record { 0 = 0 }) ∷ Body (call_in 1 1) (record { 0 = 0 }) (Own (record { 0 = 0 })) ∷ Enter (call_in 1 2) Irq (record { 0 = 0 }) (Some (call_in 1 1)) ∷ Back (call_in 1 2) (record { 0 = 0 }) ∷ BackEnd (call_in 1 2) (record { 0 = 0 }) ∷ Body (call_in 1 2) (record { 0 = 0 }) (Own (record { 0 = 0 })) ∷ Enter (call_in 1 3) Irq (record { 0 = 0 }) (Some (call_in 1 2)) ∷ Back (call_in 1 3) (record { 0 = 0 }) ∷ BackEnd (call_in 1 3) (record { 0 = 0 }) ∷ Body (call_in 1 3) (record { 0 = 0 }) (Own (record { 0 = 0 })) ∷ Leave (call_in 1 3) ∷ Exit (call_in 1 3) (record { 0 = 0 }) 49 ∷ ExitEnd (call_in 1 3) (record { 0 = 0 }) ∷ Ret (call_in 1 3) (Some (call_in 1 2)) ∷ Leave (call_in 1 2) ∷ Exit (call_in 1 2) (record { 0 = 0 }) 45 ∷ ExitEnd (call_in 1 2) (record { 0 = 0 }) ∷ Ret (call_in 1 2) (Some (call_in 1 1)) ∷ Leave (call_in 1 1) ∷ Exit (call_in 1 1) (record { 0 = 0 }) 41 ∷ ExitEnd (call_in 1 1) (record { 0 = 0 }) ∷ Ret (call_in 1 1) None ∷ []

pub job_1045-plays : Plays job_1045 job_1045-items true
unfolding actors_of repeated start step run played play all_end control_next control_got cpu_next cpu_got insn moves desk
job_1045-plays = (refl, refl)
