-- The word machine at random jobs under schedules of single steps, beside the histories that another program printed, which was written
-- from the same rules. Of two hundred such jobs these are left: each item, each two neighbours of a history, each two commands one after the
-- other and each company of kinds that the two hundred had is in one of them.
use Rattle.std.proofs.Common.{true, false, List, [], ◌∷◌, Some, None, codes, refl}
use Rattle.ft_base.specs.declared.context.Ctx.TheVariants.{Normal, Softirq, Irq, Nmi}
use Rattle.ft_base.specs.declared.item.Ran.TheVariants.{Own, Nop, List as ByList}
use Rattle.ft_base.specs.declared.item.Reason.TheVariants.{Depth, Recursion, Pid as ByPid}
use Rattle.ft_base.specs.declared.item.Answer.TheVariants.{Accepted, Already, NotThere, Invalid}
use Rattle.ft_base.specs.declared.item.Item.{Item}
use Rattle.ft_base.specs.declared.item.Item.TheVariants.{Begin, Return, Enter, Back, BackEnd, Refuse, Miss, Body, Leave, Exit, ExitEnd, Ret}
use Rattle.ft_base.specs.declared.user.Kind.TheVariants.{Graph, Function, Fprobe, Profile}
use Rattle.ft_base.specs.declared.user.Act.TheVariants.{CallIn, IrqIn}
use Rattle.ft_base.specs.declared.task.TaskAct.TheVariants.{Call, Ret as RetAct, After, Raise, Lower}
use Rattle.ft_base.specs.declared.turn.Who.TheVariants.{Control as OfControl, Cpu as OfCpu, All}
use Rattle.ft_base.specs.Job.{usual_lines, usual_rings, Job, Register, Unregister, Filter, Notrace, Enable, Disable, Pid, NoPid, MaxDepth, Run, Until}
use Rattle.ft_base.specs.Desk.{desk}
use Rattle.ft_base.specs.Schedule.{actors_of, repeated}
use Rattle.ft_hist.proofs.SmallJobs.{named, call_in}
use Rattle.word_machine.specs.Commands.{insn, moves}
use Rattle.word_machine.specs.Control.{control_next, control_got}
use Rattle.word_machine.specs.Cpu.{cpu_next, cpu_got}
use Rattle.word_machine.specs.Machine.{start, step, run, played, play, all_end}
use Rattle.word_machine.proofs.Plays.{Plays}

abbrev pub job_1051 : Job
job_1051 = record { version = 1; functions = named (codes "a") None ∷ []; users = record { name = codes "u0"; kind = Graph; regs = false; ipmodify = None; pid = true; act = None } ∷ record { name = codes "u1"; kind = Function; regs = false; ipmodify = None; pid = false; act = Some (IrqIn (record { 0 = 0 })) } ∷ []; frames = 3; tramps = 1; quanta = 15 ∷ []; tasks = record { pid = 10; cpu = 0; acts = After 1 ∷ Call (record { 0 = 0 }) ∷ RetAct ∷ Raise Nmi ∷ Call (record { 0 = 0 }) ∷ RetAct ∷ Lower ∷ [] } ∷ record { pid = 11; cpu = 0; acts = Raise Nmi ∷ Lower ∷ [] } ∷ record { pid = 12; cpu = 0; acts = Raise Softirq ∷ Raise Nmi ∷ Call (record { 0 = 0 }) ∷ RetAct ∷ Lower ∷ Lower ∷ [] } ∷ []; ctls = Run (Disable 0) ∷ Run (Register 0) ∷ Run (Register 0) ∷ []; lines = usual_lines; rings = usual_rings; schedule = record { who = OfControl; count = 25 } ∷ record { who = OfControl; count = 43 } ∷ record { who = OfCpu (record { 0 = 0 }); count = 19 } ∷ record { who = OfControl; count = 33 } ∷ record { who = OfCpu (record { 0 = 0 }); count = 6 } ∷ record { who = OfControl; count = 29 } ∷ record { who = OfControl; count = 3 } ∷ record { who = OfCpu (record { 0 = 0 }); count = 12 } ∷ record { who = OfControl; count = 3 } ∷ record { who = All; count = 300 } ∷ [] }

abbrev pub job_1051-items : List Item
job_1051-items = Begin 1 ∷ Return 1 NotThere ∷ Begin 2 ∷ Enter (call_in 0 1) Normal (record { 0 = 0 }) None ∷ Enter (call_in 2 1) Nmi (record { 0 = 0 }) None ∷ Back (call_in 2 1) (record { 0 = 0 }) ∷ Back (call_in 0 1) (record { 0 = 0 }) ∷ BackEnd (call_in 0 1) (record { 0 = 0 }) ∷ Body (call_in 0 1) (record { 0 = 0 }) (Own (record { 0 = 0 })) ∷ Return 2 Accepted ∷ Leave (call_in 0 1) ∷ Begin 3 ∷ Return 3 Already ∷ Exit (call_in 0 1) (record { 0 = 0 }) 6 ∷ ExitEnd (call_in 0 1) (record { 0 = 0 }) ∷ Ret (call_in 0 1) None ∷ BackEnd (call_in 2 1) (record { 0 = 0 }) ∷ Body (call_in 2 1) (record { 0 = 0 }) (Own (record { 0 = 0 })) ∷ Leave (call_in 2 1) ∷ Exit (call_in 2 1) (record { 0 = 0 }) 5 ∷ ExitEnd (call_in 2 1) (record { 0 = 0 }) ∷ Ret (call_in 2 1) None ∷ Enter (call_in 0 2) Nmi (record { 0 = 0 }) None ∷ Back (call_in 0 2) (record { 0 = 0 }) ∷ BackEnd (call_in 0 2) (record { 0 = 0 }) ∷ Body (call_in 0 2) (record { 0 = 0 }) (Own (record { 0 = 0 })) ∷ Leave (call_in 0 2) ∷ Exit (call_in 0 2) (record { 0 = 0 }) 23 ∷ ExitEnd (call_in 0 2) (record { 0 = 0 }) ∷ Ret (call_in 0 2) None ∷ []

pub job_1051-plays : Plays job_1051 job_1051-items true
unfolding actors_of repeated start step run played play all_end control_next control_got cpu_next cpu_got insn moves desk
job_1051-plays = (refl, refl)

abbrev pub job_1052 : Job
job_1052 = record { version = 1; functions = named (codes "a") None ∷ named (codes "b") (Some (codes "m")) ∷ []; users = record { name = codes "u0"; kind = Function; regs = true; ipmodify = Some (record { 0 = 1 }); pid = true; act = None } ∷ record { name = codes "u1"; kind = Graph; regs = false; ipmodify = None; pid = false; act = None } ∷ record { name = codes "u2"; kind = Graph; regs = false; ipmodify = None; pid = false; act = Some (CallIn (record { 0 = 1 })) } ∷ record { name = codes "u3"; kind = Profile; regs = true; ipmodify = None; pid = false; act = None } ∷ []; frames = 2; tramps = 1; quanta = 15 ∷ 40 ∷ []; tasks = record { pid = 10; cpu = 1; acts = After 2 ∷ Call (record { 0 = 1 }) ∷ Raise Softirq ∷ Call (record { 0 = 1 }) ∷ RetAct ∷ Lower ∷ Call (record { 0 = 1 }) ∷ RetAct ∷ RetAct ∷ [] } ∷ record { pid = 11; cpu = 0; acts = After 3 ∷ Call (record { 0 = 1 }) ∷ RetAct ∷ Call (record { 0 = 1 }) ∷ Call (record { 0 = 1 }) ∷ RetAct ∷ RetAct ∷ [] } ∷ []; ctls = Run (Register 0) ∷ Run (Disable 3) ∷ Run (Disable 0) ∷ Run (Register 0) ∷ []; lines = usual_lines; rings = usual_rings; schedule = record { who = OfCpu (record { 0 = 1 }); count = 3 } ∷ record { who = OfCpu (record { 0 = 0 }); count = 1 } ∷ record { who = OfControl; count = 2 } ∷ record { who = OfCpu (record { 0 = 1 }); count = 3 } ∷ record { who = OfCpu (record { 0 = 1 }); count = 2 } ∷ record { who = OfCpu (record { 0 = 0 }); count = 1 } ∷ record { who = OfCpu (record { 0 = 1 }); count = 3 } ∷ record { who = OfCpu (record { 0 = 1 }); count = 1 } ∷ record { who = OfCpu (record { 0 = 1 }); count = 3 } ∷ record { who = OfCpu (record { 0 = 0 }); count = 3 } ∷ record { who = OfCpu (record { 0 = 1 }); count = 3 } ∷ record { who = OfControl; count = 3 } ∷ record { who = OfCpu (record { 0 = 0 }); count = 2 } ∷ record { who = OfCpu (record { 0 = 1 }); count = 3 } ∷ record { who = All; count = 300 } ∷ [] }

abbrev pub job_1052-items : List Item
job_1052-items = Begin 1 ∷ Return 1 Invalid ∷ Begin 2 ∷ Return 2 NotThere ∷ Begin 3 ∷ Return 3 NotThere ∷ Begin 4 ∷ Enter (call_in 0 1) Normal (record { 0 = 1 }) None ∷ Return 4 Invalid ∷ Enter (call_in 1 1) Normal (record { 0 = 1 }) None ∷ Body (call_in 0 1) (record { 0 = 1 }) Nop ∷ Body (call_in 1 1) (record { 0 = 1 }) Nop ∷ Leave (call_in 1 1) ∷ Enter (call_in 0 2) Softirq (record { 0 = 1 }) (Some (call_in 0 1)) ∷ Ret (call_in 1 1) None ∷ Body (call_in 0 2) (record { 0 = 1 }) Nop ∷ Enter (call_in 1 2) Normal (record { 0 = 1 }) None ∷ Leave (call_in 0 2) ∷ Body (call_in 1 2) (record { 0 = 1 }) Nop ∷ Ret (call_in 0 2) (Some (call_in 0 1)) ∷ Enter (call_in 1 3) Normal (record { 0 = 1 }) (Some (call_in 1 2)) ∷ Enter (call_in 0 3) Normal (record { 0 = 1 }) (Some (call_in 0 1)) ∷ Body (call_in 1 3) (record { 0 = 1 }) Nop ∷ Body (call_in 0 3) (record { 0 = 1 }) Nop ∷ Leave (call_in 1 3) ∷ Ret (call_in 1 3) (Some (call_in 1 2)) ∷ Leave (call_in 0 3) ∷ Ret (call_in 0 3) (Some (call_in 0 1)) ∷ Leave (call_in 1 2) ∷ Ret (call_in 1 2) None ∷ Leave (call_in 0 1) ∷ Ret (call_in 0 1) None ∷ []

pub job_1052-plays : Plays job_1052 job_1052-items true
unfolding actors_of repeated start step run played play all_end control_next control_got cpu_next cpu_got insn moves desk
job_1052-plays = (refl, refl)

abbrev pub job_1053 : Job
job_1053 = record { version = 1; functions = named (codes "a") (Some (codes "m")) ∷ named (codes "b") (Some (codes "m")) ∷ named (codes "c") None ∷ []; users = record { name = codes "u0"; kind = Fprobe true true; regs = true; ipmodify = None; pid = false; act = Some (CallIn (record { 0 = 0 })) } ∷ record { name = codes "u1"; kind = Function; regs = true; ipmodify = None; pid = true; act = None } ∷ record { name = codes "u2"; kind = Fprobe true false; regs = true; ipmodify = None; pid = false; act = Some (IrqIn (record { 0 = 2 })) } ∷ []; frames = 3; tramps = 1; quanta = 15 ∷ []; tasks = record { pid = 10; cpu = 0; acts = After 3 ∷ Raise Nmi ∷ Call (record { 0 = 1 }) ∷ RetAct ∷ Lower ∷ [] } ∷ []; ctls = Run (Unregister 1) ∷ Run (Register 1) ∷ Run (Filter 2 (record { append = true; remove = false; clear = false; set = false ∷ true ∷ false ∷ [] })) ∷ []; lines = usual_lines; rings = usual_rings; schedule = record { who = OfControl; count = 30 } ∷ record { who = OfControl; count = 15 } ∷ record { who = OfCpu (record { 0 = 0 }); count = 27 } ∷ record { who = OfControl; count = 3 } ∷ record { who = OfCpu (record { 0 = 0 }); count = 28 } ∷ record { who = OfControl; count = 20 } ∷ record { who = OfControl; count = 23 } ∷ record { who = OfCpu (record { 0 = 0 }); count = 23 } ∷ record { who = OfCpu (record { 0 = 0 }); count = 33 } ∷ record { who = OfCpu (record { 0 = 0 }); count = 31 } ∷ record { who = OfCpu (record { 0 = 0 }); count = 37 } ∷ record { who = OfCpu (record { 0 = 0 }); count = 17 } ∷ record { who = OfCpu (record { 0 = 0 }); count = 1 } ∷ record { who = OfControl; count = 3 } ∷ record { who = OfControl; count = 14 } ∷ record { who = OfControl; count = 34 } ∷ record { who = OfCpu (record { 0 = 0 }); count = 30 } ∷ record { who = OfCpu (record { 0 = 0 }); count = 31 } ∷ record { who = All; count = 300 } ∷ [] }

abbrev pub job_1053-items : List Item
job_1053-items = Begin 1 ∷ Return 1 NotThere ∷ Begin 2 ∷ Return 2 Accepted ∷ Begin 3 ∷ Return 3 Accepted ∷ Enter (call_in 0 1) Nmi (record { 0 = 1 }) None ∷ Back (call_in 0 1) (record { 0 = 1 }) ∷ BackEnd (call_in 0 1) (record { 0 = 1 }) ∷ Body (call_in 0 1) (record { 0 = 1 }) (Own (record { 0 = 1 })) ∷ Leave (call_in 0 1) ∷ Ret (call_in 0 1) None ∷ []

pub job_1053-plays : Plays job_1053 job_1053-items true
unfolding actors_of repeated start step run played play all_end control_next control_got cpu_next cpu_got insn moves desk
job_1053-plays = (refl, refl)

abbrev pub job_1054 : Job
job_1054 = record { version = 1; functions = named (codes "x0") None ∷ named (codes "x1") None ∷ named (codes "x2") None ∷ named (codes "x3") None ∷ named (codes "x4") None ∷ named (codes "x5") None ∷ named (codes "x6") None ∷ named (codes "x7") None ∷ named (codes "x8") None ∷ named (codes "x9") None ∷ named (codes "x10") None ∷ named (codes "x11") None ∷ named (codes "x12") None ∷ named (codes "x13") None ∷ named (codes "x14") None ∷ named (codes "x15") None ∷ named (codes "x16") None ∷ named (codes "x17") None ∷ named (codes "x18") None ∷ named (codes "x19") None ∷ named (codes "x20") None ∷ named (codes "x21") None ∷ named (codes "x22") None ∷ named (codes "x23") None ∷ named (codes "x24") None ∷ named (codes "x25") None ∷ named (codes "x26") None ∷ named (codes "x27") None ∷ named (codes "x28") None ∷ named (codes "x29") None ∷ named (codes "x30") None ∷ named (codes "x31") None ∷ named (codes "x32") None ∷ named (codes "x33") None ∷ named (codes "x34") None ∷ named (codes "x35") None ∷ named (codes "x36") None ∷ named (codes "x37") None ∷ named (codes "x38") None ∷ named (codes "x39") None ∷ named (codes "x40") None ∷ named (codes "x41") None ∷ named (codes "x42") None ∷ named (codes "x43") None ∷ named (codes "x44") None ∷ named (codes "x45") None ∷ named (codes "x46") None ∷ named (codes "x47") None ∷ named (codes "x48") None ∷ named (codes "x49") None ∷ named (codes "x50") None ∷ named (codes "x51") None ∷ named (codes "x52") None ∷ named (codes "x53") None ∷ named (codes "x54") None ∷ named (codes "x55") None ∷ named (codes "x56") None ∷ named (codes "x57") None ∷ named (codes "x58") None ∷ named (codes "x59") None ∷ named (codes "x60") None ∷ named (codes "x61") None ∷ named (codes "a") None ∷ []; users = record { name = codes "u0"; kind = Fprobe true true; regs = false; ipmodify = None; pid = false; act = Some (CallIn (record { 0 = 62 })) } ∷ record { name = codes "u1"; kind = Fprobe true false; regs = true; ipmodify = None; pid = false; act = Some (IrqIn (record { 0 = 62 })) } ∷ record { name = codes "u2"; kind = Profile; regs = false; ipmodify = None; pid = false; act = None } ∷ []; frames = 2; tramps = 0; quanta = 7 ∷ 1 ∷ []; tasks = record { pid = 10; cpu = 1; acts = Raise Nmi ∷ Call (record { 0 = 62 }) ∷ After 2 ∷ RetAct ∷ Lower ∷ [] } ∷ record { pid = 11; cpu = 1; acts = Call (record { 0 = 62 }) ∷ RetAct ∷ Raise Nmi ∷ After 2 ∷ After 2 ∷ Lower ∷ [] } ∷ []; ctls = Run (Register 2) ∷ Run (Pid (false ∷ true ∷ [])) ∷ Run (Register 1) ∷ Run (Enable 2) ∷ []; lines = usual_lines; rings = usual_rings; schedule = record { who = OfCpu (record { 0 = 1 }); count = 7 } ∷ record { who = OfControl; count = 3 } ∷ record { who = OfCpu (record { 0 = 1 }); count = 2 } ∷ record { who = OfControl; count = 9 } ∷ record { who = OfControl; count = 12 } ∷ record { who = OfCpu (record { 0 = 1 }); count = 6 } ∷ record { who = OfCpu (record { 0 = 1 }); count = 18 } ∷ record { who = OfCpu (record { 0 = 0 }); count = 19 } ∷ record { who = OfCpu (record { 0 = 1 }); count = 15 } ∷ record { who = OfCpu (record { 0 = 0 }); count = 14 } ∷ record { who = OfCpu (record { 0 = 1 }); count = 18 } ∷ record { who = OfCpu (record { 0 = 0 }); count = 13 } ∷ record { who = OfCpu (record { 0 = 0 }); count = 2 } ∷ record { who = OfCpu (record { 0 = 1 }); count = 8 } ∷ record { who = All; count = 300 } ∷ [] }

abbrev pub job_1054-items : List Item
job_1054-items = Enter (call_in 1 1) Normal (record { 0 = 62 }) None ∷ Enter (call_in 0 1) Nmi (record { 0 = 62 }) None ∷ Begin 1 ∷ Body (call_in 1 1) (record { 0 = 62 }) Nop ∷ Body (call_in 0 1) (record { 0 = 62 }) Nop ∷ Leave (call_in 1 1) ∷ Ret (call_in 1 1) None ∷ Return 1 Accepted ∷ Begin 2 ∷ Return 2 Accepted ∷ Begin 3 ∷ Return 3 Accepted ∷ Leave (call_in 0 1) ∷ Begin 4 ∷ Return 4 Invalid ∷ Ret (call_in 0 1) None ∷ []

pub job_1054-plays : Plays job_1054 job_1054-items true
unfolding actors_of repeated start step run played play all_end control_next control_got cpu_next cpu_got insn moves desk
job_1054-plays = (refl, refl)

abbrev pub job_1056 : Job
job_1056 = record { version = 1; functions = named (codes "a") None ∷ []; users = record { name = codes "u0"; kind = Profile; regs = false; ipmodify = None; pid = false; act = None } ∷ record { name = codes "u1"; kind = Profile; regs = true; ipmodify = None; pid = false; act = None } ∷ record { name = codes "u2"; kind = Fprobe false false; regs = true; ipmodify = None; pid = false; act = None } ∷ []; frames = 3; tramps = 0; quanta = 3 ∷ []; tasks = record { pid = 10; cpu = 0; acts = After 1 ∷ After 2 ∷ Raise Softirq ∷ Call (record { 0 = 0 }) ∷ Call (record { 0 = 0 }) ∷ Call (record { 0 = 0 }) ∷ RetAct ∷ RetAct ∷ RetAct ∷ Lower ∷ [] } ∷ []; ctls = Run (Enable 0) ∷ Run (MaxDepth 1) ∷ Until 0 4 ∷ Run (Register 2) ∷ Run (Register 0) ∷ Run (Unregister 0) ∷ []; lines = usual_lines; rings = usual_rings; schedule = record { who = OfCpu (record { 0 = 0 }); count = 13 } ∷ record { who = OfCpu (record { 0 = 0 }); count = 2 } ∷ record { who = OfCpu (record { 0 = 0 }); count = 7 } ∷ record { who = OfControl; count = 15 } ∷ record { who = OfControl; count = 19 } ∷ record { who = OfControl; count = 15 } ∷ record { who = OfCpu (record { 0 = 0 }); count = 15 } ∷ record { who = All; count = 300 } ∷ [] }

abbrev pub job_1056-items : List Item
job_1056-items = Begin 1 ∷ Return 1 NotThere ∷ Begin 2 ∷ Return 2 Accepted ∷ Enter (call_in 0 1) Softirq (record { 0 = 0 }) None ∷ Body (call_in 0 1) (record { 0 = 0 }) Nop ∷ Enter (call_in 0 2) Softirq (record { 0 = 0 }) (Some (call_in 0 1)) ∷ Begin 3 ∷ Body (call_in 0 2) (record { 0 = 0 }) Nop ∷ Enter (call_in 0 3) Softirq (record { 0 = 0 }) (Some (call_in 0 2)) ∷ Body (call_in 0 3) (record { 0 = 0 }) Nop ∷ Leave (call_in 0 3) ∷ Ret (call_in 0 3) (Some (call_in 0 2)) ∷ Leave (call_in 0 2) ∷ Ret (call_in 0 2) (Some (call_in 0 1)) ∷ Return 3 Accepted ∷ Leave (call_in 0 1) ∷ Begin 4 ∷ Ret (call_in 0 1) None ∷ Return 4 Accepted ∷ Begin 5 ∷ Return 5 Accepted ∷ []

pub job_1056-plays : Plays job_1056 job_1056-items true
unfolding actors_of repeated start step run played play all_end control_next control_got cpu_next cpu_got insn moves desk
job_1056-plays = (refl, refl)

abbrev pub job_1059 : Job
job_1059 = record { version = 1; functions = named (codes "a") None ∷ []; users = record { name = codes "u0"; kind = Profile; regs = false; ipmodify = None; pid = true; act = None } ∷ []; frames = 1; tramps = 0; quanta = 1 ∷ []; tasks = record { pid = 10; cpu = 0; acts = After 1 ∷ Raise Nmi ∷ Call (record { 0 = 0 }) ∷ Call (record { 0 = 0 }) ∷ After 3 ∷ Call (record { 0 = 0 }) ∷ RetAct ∷ RetAct ∷ RetAct ∷ Lower ∷ [] } ∷ record { pid = 11; cpu = 0; acts = Raise Irq ∷ Call (record { 0 = 0 }) ∷ RetAct ∷ Call (record { 0 = 0 }) ∷ Raise Nmi ∷ Call (record { 0 = 0 }) ∷ Call (record { 0 = 0 }) ∷ RetAct ∷ RetAct ∷ Lower ∷ RetAct ∷ Lower ∷ [] } ∷ []; ctls = Run (Register 0) ∷ Run (Enable 0) ∷ Until 0 3 ∷ Run (Disable 0) ∷ Run (Unregister 0) ∷ Run (Filter 0 (record { append = false; remove = true; clear = false; set = true ∷ [] })) ∷ []; lines = usual_lines; rings = usual_rings; schedule = record { who = OfCpu (record { 0 = 0 }); count = 19 } ∷ record { who = OfControl; count = 12 } ∷ record { who = OfCpu (record { 0 = 0 }); count = 6 } ∷ record { who = OfControl; count = 16 } ∷ record { who = OfCpu (record { 0 = 0 }); count = 20 } ∷ record { who = OfCpu (record { 0 = 0 }); count = 3 } ∷ record { who = OfControl; count = 1 } ∷ record { who = OfControl; count = 7 } ∷ record { who = OfControl; count = 15 } ∷ record { who = OfControl; count = 1 } ∷ record { who = OfControl; count = 13 } ∷ record { who = OfCpu (record { 0 = 0 }); count = 9 } ∷ record { who = OfControl; count = 2 } ∷ record { who = OfCpu (record { 0 = 0 }); count = 20 } ∷ record { who = All; count = 300 } ∷ [] }

abbrev pub job_1059-items : List Item
job_1059-items = Enter (call_in 1 1) Irq (record { 0 = 0 }) None ∷ Body (call_in 1 1) (record { 0 = 0 }) Nop ∷ Leave (call_in 1 1) ∷ Ret (call_in 1 1) None ∷ Begin 1 ∷ Enter (call_in 1 2) Irq (record { 0 = 0 }) None ∷ Back (call_in 1 2) (record { 0 = 0 }) ∷ BackEnd (call_in 1 2) (record { 0 = 0 }) ∷ Body (call_in 1 2) (record { 0 = 0 }) ByList ∷ Return 1 Accepted ∷ Enter (call_in 1 3) Nmi (record { 0 = 0 }) (Some (call_in 1 2)) ∷ Enter (call_in 0 1) Nmi (record { 0 = 0 }) None ∷ Refuse (call_in 1 3) (record { 0 = 0 }) Depth ∷ Begin 2 ∷ Return 2 Invalid ∷ Body (call_in 1 3) (record { 0 = 0 }) ByList ∷ Back (call_in 0 1) (record { 0 = 0 }) ∷ Enter (call_in 1 4) Nmi (record { 0 = 0 }) (Some (call_in 1 3)) ∷ BackEnd (call_in 0 1) (record { 0 = 0 }) ∷ Body (call_in 0 1) (record { 0 = 0 }) ByList ∷ Begin 3 ∷ Enter (call_in 0 2) Nmi (record { 0 = 0 }) (Some (call_in 0 1)) ∷ Return 3 Invalid ∷ Begin 4 ∷ Refuse (call_in 1 4) (record { 0 = 0 }) Depth ∷ Body (call_in 0 2) (record { 0 = 0 }) ByList ∷ Body (call_in 1 4) (record { 0 = 0 }) ByList ∷ Leave (call_in 1 4) ∷ Enter (call_in 0 3) Nmi (record { 0 = 0 }) (Some (call_in 0 2)) ∷ Ret (call_in 1 4) (Some (call_in 1 3)) ∷ Body (call_in 0 3) (record { 0 = 0 }) Nop ∷ Leave (call_in 1 3) ∷ Ret (call_in 1 3) (Some (call_in 1 2)) ∷ Leave (call_in 0 3) ∷ Return 4 Accepted ∷ Begin 5 ∷ Return 5 Accepted ∷ Ret (call_in 0 3) (Some (call_in 0 2)) ∷ Leave (call_in 1 2) ∷ Leave (call_in 0 2) ∷ Ret (call_in 0 2) (Some (call_in 0 1)) ∷ Ret (call_in 1 2) None ∷ Leave (call_in 0 1) ∷ Ret (call_in 0 1) None ∷ []

pub job_1059-plays : Plays job_1059 job_1059-items true
unfolding actors_of repeated start step run played play all_end control_next control_got cpu_next cpu_got insn moves desk
job_1059-plays = (refl, refl)

abbrev pub job_1073 : Job
job_1073 = record { version = 1; functions = named (codes "a") None ∷ named (codes "b") (Some (codes "m")) ∷ named (codes "c") None ∷ []; users = record { name = codes "u0"; kind = Fprobe true true; regs = false; ipmodify = None; pid = true; act = Some (CallIn (record { 0 = 1 })) } ∷ record { name = codes "u1"; kind = Function; regs = true; ipmodify = Some (record { 0 = 0 }); pid = true; act = Some (CallIn (record { 0 = 1 })) } ∷ record { name = codes "u2"; kind = Fprobe false false; regs = true; ipmodify = None; pid = true; act = Some (CallIn (record { 0 = 0 })) } ∷ record { name = codes "u3"; kind = Function; regs = false; ipmodify = None; pid = true; act = Some (CallIn (record { 0 = 2 })) } ∷ []; frames = 1; tramps = 1; quanta = 1 ∷ []; tasks = record { pid = 10; cpu = 0; acts = After 3 ∷ After 2 ∷ Call (record { 0 = 0 }) ∷ After 5 ∷ Call (record { 0 = 1 }) ∷ RetAct ∷ After 5 ∷ RetAct ∷ [] } ∷ record { pid = 11; cpu = 0; acts = After 3 ∷ After 1 ∷ Call (record { 0 = 1 }) ∷ After 1 ∷ Call (record { 0 = 2 }) ∷ RetAct ∷ RetAct ∷ [] } ∷ []; ctls = Run (Unregister 0) ∷ Run (Register 2) ∷ Run (Pid (false ∷ true ∷ [])) ∷ Run (Enable 3) ∷ Run (Register 1) ∷ []; lines = usual_lines; rings = usual_rings; schedule = record { who = OfControl; count = 8 } ∷ record { who = OfControl; count = 35 } ∷ record { who = OfCpu (record { 0 = 0 }); count = 19 } ∷ record { who = OfControl; count = 40 } ∷ record { who = OfCpu (record { 0 = 0 }); count = 35 } ∷ record { who = OfCpu (record { 0 = 0 }); count = 25 } ∷ record { who = OfCpu (record { 0 = 0 }); count = 45 } ∷ record { who = OfCpu (record { 0 = 0 }); count = 22 } ∷ record { who = OfCpu (record { 0 = 0 }); count = 12 } ∷ record { who = OfCpu (record { 0 = 0 }); count = 45 } ∷ record { who = OfControl; count = 6 } ∷ record { who = All; count = 300 } ∷ [] }

abbrev pub job_1073-items : List Item
job_1073-items = Begin 1 ∷ Return 1 NotThere ∷ Begin 2 ∷ Return 2 Accepted ∷ Begin 3 ∷ Return 3 Accepted ∷ Begin 4 ∷ Return 4 NotThere ∷ Begin 5 ∷ Return 5 Invalid ∷ Enter (call_in 0 1) Normal (record { 0 = 0 }) None ∷ Enter (call_in 1 1) Normal (record { 0 = 1 }) None ∷ Refuse (call_in 0 1) (record { 0 = 2 }) ByPid ∷ Back (call_in 1 1) (record { 0 = 2 }) ∷ Body (call_in 0 1) (record { 0 = 0 }) (Own (record { 0 = 2 })) ∷ Enter (call_in 1 2) Normal (record { 0 = 0 }) (Some (call_in 1 1)) ∷ Enter (call_in 0 2) Normal (record { 0 = 1 }) (Some (call_in 0 1)) ∷ Refuse (call_in 1 2) (record { 0 = 2 }) Recursion ∷ Body (call_in 1 2) (record { 0 = 0 }) (Own (record { 0 = 2 })) ∷ Leave (call_in 1 2) ∷ Ret (call_in 1 2) (Some (call_in 1 1)) ∷ Refuse (call_in 0 2) (record { 0 = 2 }) ByPid ∷ BackEnd (call_in 1 1) (record { 0 = 2 }) ∷ Body (call_in 0 2) (record { 0 = 1 }) (Own (record { 0 = 2 })) ∷ Body (call_in 1 1) (record { 0 = 1 }) (Own (record { 0 = 2 })) ∷ Leave (call_in 0 2) ∷ Ret (call_in 0 2) (Some (call_in 0 1)) ∷ Enter (call_in 1 3) Normal (record { 0 = 2 }) (Some (call_in 1 1)) ∷ Leave (call_in 0 1) ∷ Ret (call_in 0 1) None ∷ Back (call_in 1 3) (record { 0 = 2 }) ∷ Enter (call_in 1 4) Normal (record { 0 = 0 }) (Some (call_in 1 3)) ∷ Refuse (call_in 1 4) (record { 0 = 2 }) Recursion ∷ Body (call_in 1 4) (record { 0 = 0 }) (Own (record { 0 = 2 })) ∷ Leave (call_in 1 4) ∷ Ret (call_in 1 4) (Some (call_in 1 3)) ∷ BackEnd (call_in 1 3) (record { 0 = 2 }) ∷ Body (call_in 1 3) (record { 0 = 2 }) (Own (record { 0 = 2 })) ∷ Leave (call_in 1 3) ∷ Ret (call_in 1 3) (Some (call_in 1 1)) ∷ Leave (call_in 1 1) ∷ Ret (call_in 1 1) None ∷ []

pub job_1073-plays : Plays job_1073 job_1073-items true
unfolding actors_of repeated start step run played play all_end control_next control_got cpu_next cpu_got insn moves desk
job_1073-plays = (refl, refl)

abbrev pub job_2039 : Job
job_2039 = record { version = 1; functions = named (codes "a") None ∷ named (codes "b") (Some (codes "m")) ∷ named (codes "c") (Some (codes "m")) ∷ named (codes "d") (Some (codes "m")) ∷ []; users = record { name = codes "u0"; kind = Graph; regs = true; ipmodify = None; pid = true; act = Some (IrqIn (record { 0 = 3 })) } ∷ record { name = codes "u1"; kind = Graph; regs = true; ipmodify = None; pid = true; act = Some (CallIn (record { 0 = 3 })) } ∷ []; frames = 1; tramps = 1; quanta = 3 ∷ 1 ∷ []; tasks = record { pid = 10; cpu = 0; acts = After 4 ∷ After 1 ∷ Raise Irq ∷ Call (record { 0 = 1 }) ∷ RetAct ∷ Call (record { 0 = 3 }) ∷ RetAct ∷ Raise Nmi ∷ Lower ∷ Lower ∷ [] } ∷ record { pid = 11; cpu = 0; acts = After 7 ∷ Raise Nmi ∷ Call (record { 0 = 3 }) ∷ Call (record { 0 = 2 }) ∷ Call (record { 0 = 1 }) ∷ RetAct ∷ RetAct ∷ RetAct ∷ Lower ∷ [] } ∷ []; ctls = Run (Disable 0) ∷ Run (Register 1) ∷ Run (Disable 1) ∷ Run (Enable 0) ∷ Run (Notrace 0 (record { append = true; remove = false; clear = false; set = true ∷ false ∷ false ∷ false ∷ [] })) ∷ Run (Filter 0 (record { append = false; remove = true; clear = false; set = false ∷ false ∷ false ∷ true ∷ [] })) ∷ Run (MaxDepth 0) ∷ []; lines = usual_lines; rings = usual_rings; schedule = record { who = OfControl; count = 42 } ∷ record { who = OfControl; count = 41 } ∷ record { who = OfCpu (record { 0 = 1 }); count = 5 } ∷ record { who = OfControl; count = 3 } ∷ record { who = OfCpu (record { 0 = 0 }); count = 17 } ∷ record { who = OfControl; count = 38 } ∷ record { who = OfCpu (record { 0 = 0 }); count = 9 } ∷ record { who = OfCpu (record { 0 = 0 }); count = 3 } ∷ record { who = OfCpu (record { 0 = 1 }); count = 6 } ∷ record { who = OfCpu (record { 0 = 1 }); count = 2 } ∷ record { who = OfCpu (record { 0 = 1 }); count = 21 } ∷ record { who = OfCpu (record { 0 = 1 }); count = 17 } ∷ record { who = OfCpu (record { 0 = 1 }); count = 39 } ∷ record { who = All; count = 300 } ∷ [] }

abbrev pub job_2039-items : List Item
job_2039-items = Begin 1 ∷ Return 1 NotThere ∷ Begin 2 ∷ Return 2 Accepted ∷ Begin 3 ∷ Return 3 Invalid ∷ Begin 4 ∷ Return 4 NotThere ∷ Begin 5 ∷ Return 5 Accepted ∷ Begin 6 ∷ Return 6 Accepted ∷ Begin 7 ∷ Return 7 Accepted ∷ Enter (call_in 0 1) Irq (record { 0 = 1 }) None ∷ Enter (call_in 1 1) Nmi (record { 0 = 3 }) None ∷ Back (call_in 0 1) (record { 0 = 1 }) ∷ Enter (call_in 0 2) Irq (record { 0 = 3 }) (Some (call_in 0 1)) ∷ Refuse (call_in 0 2) (record { 0 = 1 }) Recursion ∷ Back (call_in 1 1) (record { 0 = 1 }) ∷ Enter (call_in 1 2) Nmi (record { 0 = 3 }) (Some (call_in 1 1)) ∷ Body (call_in 0 2) (record { 0 = 3 }) (Own (record { 0 = 1 })) ∷ Leave (call_in 0 2) ∷ Ret (call_in 0 2) (Some (call_in 0 1)) ∷ BackEnd (call_in 0 1) (record { 0 = 1 }) ∷ Body (call_in 0 1) (record { 0 = 1 }) (Own (record { 0 = 1 })) ∷ Refuse (call_in 1 2) (record { 0 = 1 }) Recursion ∷ Body (call_in 1 2) (record { 0 = 3 }) (Own (record { 0 = 1 })) ∷ Leave (call_in 1 2) ∷ Leave (call_in 0 1) ∷ Exit (call_in 0 1) (record { 0 = 1 }) 16 ∷ Ret (call_in 1 2) (Some (call_in 1 1)) ∷ BackEnd (call_in 1 1) (record { 0 = 1 }) ∷ Body (call_in 1 1) (record { 0 = 3 }) (Own (record { 0 = 1 })) ∷ ExitEnd (call_in 0 1) (record { 0 = 1 }) ∷ Ret (call_in 0 1) None ∷ Enter (call_in 1 3) Nmi (record { 0 = 2 }) (Some (call_in 1 1)) ∷ Enter (call_in 0 3) Irq (record { 0 = 3 }) None ∷ Refuse (call_in 1 3) (record { 0 = 1 }) Depth ∷ Body (call_in 1 3) (record { 0 = 2 }) (Own (record { 0 = 1 })) ∷ Back (call_in 0 3) (record { 0 = 1 }) ∷ Enter (call_in 0 4) Irq (record { 0 = 3 }) (Some (call_in 0 3)) ∷ Enter (call_in 1 4) Nmi (record { 0 = 1 }) (Some (call_in 1 3)) ∷ Refuse (call_in 0 4) (record { 0 = 1 }) Recursion ∷ Body (call_in 0 4) (record { 0 = 3 }) (Own (record { 0 = 1 })) ∷ Leave (call_in 0 4) ∷ Ret (call_in 0 4) (Some (call_in 0 3)) ∷ Refuse (call_in 1 4) (record { 0 = 1 }) Depth ∷ Body (call_in 1 4) (record { 0 = 1 }) (Own (record { 0 = 1 })) ∷ BackEnd (call_in 0 3) (record { 0 = 1 }) ∷ Body (call_in 0 3) (record { 0 = 3 }) (Own (record { 0 = 1 })) ∷ Leave (call_in 1 4) ∷ Ret (call_in 1 4) (Some (call_in 1 3)) ∷ Leave (call_in 0 3) ∷ Exit (call_in 0 3) (record { 0 = 1 }) 40 ∷ Leave (call_in 1 3) ∷ Ret (call_in 1 3) (Some (call_in 1 1)) ∷ ExitEnd (call_in 0 3) (record { 0 = 1 }) ∷ Ret (call_in 0 3) None ∷ Leave (call_in 1 1) ∷ Exit (call_in 1 1) (record { 0 = 1 }) 19 ∷ ExitEnd (call_in 1 1) (record { 0 = 1 }) ∷ Ret (call_in 1 1) None ∷ []

pub job_2039-plays : Plays job_2039 job_2039-items true
unfolding actors_of repeated start step run played play all_end control_next control_got cpu_next cpu_got insn moves desk
job_2039-plays = (refl, refl)

abbrev pub job_2043 : Job
job_2043 = record { version = 1; functions = named (codes "a") None ∷ named (codes "b") (Some (codes "m")) ∷ named (codes "c") None ∷ named (codes "d") (Some (codes "m")) ∷ []; users = record { name = codes "u0"; kind = Fprobe true false; regs = false; ipmodify = None; pid = true; act = Some (CallIn (record { 0 = 3 })) } ∷ record { name = codes "u1"; kind = Graph; regs = false; ipmodify = None; pid = true; act = None } ∷ []; frames = 3; tramps = 16; quanta = 3 ∷ []; tasks = record { pid = 10; cpu = 0; acts = After 4 ∷ After 3 ∷ Raise Softirq ∷ Call (record { 0 = 2 }) ∷ Raise Nmi ∷ Call (record { 0 = 2 }) ∷ Call (record { 0 = 0 }) ∷ RetAct ∷ RetAct ∷ Lower ∷ RetAct ∷ Lower ∷ [] } ∷ record { pid = 11; cpu = 0; acts = After 4 ∷ After 2 ∷ Raise Irq ∷ Raise Nmi ∷ Lower ∷ Lower ∷ [] } ∷ record { pid = 12; cpu = 0; acts = After 3 ∷ Call (record { 0 = 3 }) ∷ RetAct ∷ Call (record { 0 = 1 }) ∷ Call (record { 0 = 1 }) ∷ RetAct ∷ RetAct ∷ [] } ∷ []; ctls = Run (Filter 1 (record { append = true; remove = true; clear = false; set = false ∷ false ∷ false ∷ true ∷ [] })) ∷ Run (Register 1) ∷ Run (Enable 0) ∷ Run (Unregister 1) ∷ []; lines = usual_lines; rings = usual_rings; schedule = record { who = OfControl; count = 15 } ∷ record { who = OfCpu (record { 0 = 0 }); count = 40 } ∷ record { who = OfControl; count = 2 } ∷ record { who = OfCpu (record { 0 = 0 }); count = 4 } ∷ record { who = OfControl; count = 28 } ∷ record { who = All; count = 300 } ∷ [] }

abbrev pub job_2043-items : List Item
job_2043-items = Begin 1 ∷ Return 1 Accepted ∷ Begin 2 ∷ Return 2 Accepted ∷ Begin 3 ∷ Return 3 NotThere ∷ Begin 4 ∷ Enter (call_in 2 1) Normal (record { 0 = 3 }) None ∷ Body (call_in 2 1) (record { 0 = 3 }) (Own (record { 0 = 1 })) ∷ Leave (call_in 2 1) ∷ Ret (call_in 2 1) None ∷ Return 4 Accepted ∷ Enter (call_in 2 2) Normal (record { 0 = 1 }) None ∷ Body (call_in 2 2) (record { 0 = 1 }) Nop ∷ Enter (call_in 2 3) Normal (record { 0 = 1 }) (Some (call_in 2 2)) ∷ Enter (call_in 0 1) Softirq (record { 0 = 2 }) None ∷ Body (call_in 2 3) (record { 0 = 1 }) Nop ∷ Body (call_in 0 1) (record { 0 = 2 }) Nop ∷ Leave (call_in 2 3) ∷ Ret (call_in 2 3) (Some (call_in 2 2)) ∷ Leave (call_in 2 2) ∷ Ret (call_in 2 2) None ∷ Enter (call_in 0 2) Nmi (record { 0 = 2 }) (Some (call_in 0 1)) ∷ Body (call_in 0 2) (record { 0 = 2 }) Nop ∷ Enter (call_in 0 3) Nmi (record { 0 = 0 }) (Some (call_in 0 2)) ∷ Body (call_in 0 3) (record { 0 = 0 }) Nop ∷ Leave (call_in 0 3) ∷ Ret (call_in 0 3) (Some (call_in 0 2)) ∷ Leave (call_in 0 2) ∷ Ret (call_in 0 2) (Some (call_in 0 1)) ∷ Leave (call_in 0 1) ∷ Ret (call_in 0 1) None ∷ []

pub job_2043-plays : Plays job_2043 job_2043-items true
unfolding actors_of repeated start step run played play all_end control_next control_got cpu_next cpu_got insn moves desk
job_2043-plays = (refl, refl)

abbrev pub job_2045 : Job
job_2045 = record { version = 1; functions = named (codes "x0") None ∷ named (codes "x1") None ∷ named (codes "x2") None ∷ named (codes "x3") None ∷ named (codes "x4") None ∷ named (codes "x5") None ∷ named (codes "x6") None ∷ named (codes "x7") None ∷ named (codes "x8") None ∷ named (codes "x9") None ∷ named (codes "x10") None ∷ named (codes "x11") None ∷ named (codes "x12") None ∷ named (codes "x13") None ∷ named (codes "x14") None ∷ named (codes "x15") None ∷ named (codes "x16") None ∷ named (codes "x17") None ∷ named (codes "x18") None ∷ named (codes "x19") None ∷ named (codes "x20") None ∷ named (codes "x21") None ∷ named (codes "x22") None ∷ named (codes "x23") None ∷ named (codes "x24") None ∷ named (codes "x25") None ∷ named (codes "x26") None ∷ named (codes "x27") None ∷ named (codes "x28") None ∷ named (codes "x29") None ∷ named (codes "x30") None ∷ named (codes "x31") None ∷ named (codes "x32") None ∷ named (codes "x33") None ∷ named (codes "x34") None ∷ named (codes "x35") None ∷ named (codes "x36") None ∷ named (codes "x37") None ∷ named (codes "x38") None ∷ named (codes "x39") None ∷ named (codes "x40") None ∷ named (codes "x41") None ∷ named (codes "x42") None ∷ named (codes "x43") None ∷ named (codes "x44") None ∷ named (codes "x45") None ∷ named (codes "x46") None ∷ named (codes "x47") None ∷ named (codes "x48") None ∷ named (codes "x49") None ∷ named (codes "x50") None ∷ named (codes "x51") None ∷ named (codes "x52") None ∷ named (codes "x53") None ∷ named (codes "x54") None ∷ named (codes "x55") None ∷ named (codes "x56") None ∷ named (codes "x57") None ∷ named (codes "x58") None ∷ named (codes "x59") None ∷ named (codes "x60") None ∷ named (codes "x61") None ∷ named (codes "a") (Some (codes "m")) ∷ named (codes "b") None ∷ []; users = record { name = codes "u0"; kind = Profile; regs = true; ipmodify = None; pid = false; act = Some (IrqIn (record { 0 = 62 })) } ∷ record { name = codes "u1"; kind = Fprobe true true; regs = false; ipmodify = None; pid = false; act = None } ∷ record { name = codes "u2"; kind = Graph; regs = true; ipmodify = None; pid = false; act = None } ∷ []; frames = 2; tramps = 0; quanta = 3 ∷ []; tasks = record { pid = 10; cpu = 0; acts = After 3 ∷ Call (record { 0 = 63 }) ∷ Call (record { 0 = 63 }) ∷ Call (record { 0 = 62 }) ∷ Call (record { 0 = 62 }) ∷ RetAct ∷ RetAct ∷ RetAct ∷ RetAct ∷ [] } ∷ record { pid = 11; cpu = 0; acts = After 3 ∷ After 2 ∷ Call (record { 0 = 62 }) ∷ RetAct ∷ After 4 ∷ Call (record { 0 = 62 }) ∷ Call (record { 0 = 62 }) ∷ Raise Softirq ∷ Raise Irq ∷ Call (record { 0 = 63 }) ∷ RetAct ∷ Lower ∷ Lower ∷ RetAct ∷ RetAct ∷ [] } ∷ []; ctls = Run (MaxDepth 1) ∷ Run (Notrace 1 (record { append = true; remove = false; clear = false; set = false ∷ false ∷ false ∷ false ∷ false ∷ false ∷ false ∷ false ∷ false ∷ false ∷ false ∷ false ∷ false ∷ false ∷ false ∷ false ∷ false ∷ false ∷ false ∷ false ∷ false ∷ false ∷ false ∷ false ∷ false ∷ false ∷ false ∷ false ∷ false ∷ false ∷ false ∷ false ∷ false ∷ false ∷ false ∷ false ∷ false ∷ false ∷ false ∷ false ∷ false ∷ false ∷ false ∷ false ∷ false ∷ false ∷ false ∷ false ∷ false ∷ false ∷ false ∷ false ∷ false ∷ false ∷ false ∷ false ∷ false ∷ false ∷ false ∷ false ∷ false ∷ false ∷ true ∷ false ∷ [] })) ∷ Run (NoPid (false ∷ true ∷ [])) ∷ Run (Register 2) ∷ []; lines = usual_lines; rings = usual_rings; schedule = record { who = OfCpu (record { 0 = 0 }); count = 5 } ∷ record { who = OfControl; count = 8 } ∷ record { who = OfCpu (record { 0 = 0 }); count = 8 } ∷ record { who = OfControl; count = 2 } ∷ record { who = OfCpu (record { 0 = 0 }); count = 8 } ∷ record { who = OfControl; count = 8 } ∷ record { who = OfControl; count = 7 } ∷ record { who = OfControl; count = 6 } ∷ record { who = OfCpu (record { 0 = 0 }); count = 2 } ∷ record { who = OfControl; count = 7 } ∷ record { who = OfControl; count = 4 } ∷ record { who = OfCpu (record { 0 = 0 }); count = 7 } ∷ record { who = OfControl; count = 3 } ∷ record { who = OfControl; count = 6 } ∷ record { who = OfCpu (record { 0 = 0 }); count = 5 } ∷ record { who = OfControl; count = 2 } ∷ record { who = OfControl; count = 4 } ∷ record { who = OfControl; count = 6 } ∷ record { who = All; count = 300 } ∷ [] }

abbrev pub job_2045-items : List Item
job_2045-items = Begin 1 ∷ Return 1 Accepted ∷ Begin 2 ∷ Return 2 Accepted ∷ Begin 3 ∷ Return 3 Accepted ∷ Begin 4 ∷ Enter (call_in 0 1) Normal (record { 0 = 63 }) None ∷ Body (call_in 0 1) (record { 0 = 63 }) Nop ∷ Enter (call_in 1 1) Normal (record { 0 = 62 }) None ∷ Enter (call_in 0 2) Normal (record { 0 = 63 }) (Some (call_in 0 1)) ∷ Body (call_in 1 1) (record { 0 = 62 }) Nop ∷ Body (call_in 0 2) (record { 0 = 63 }) Nop ∷ Leave (call_in 1 1) ∷ Ret (call_in 1 1) None ∷ Enter (call_in 0 3) Normal (record { 0 = 62 }) (Some (call_in 0 2)) ∷ Body (call_in 0 3) (record { 0 = 62 }) Nop ∷ Enter (call_in 0 4) Normal (record { 0 = 62 }) (Some (call_in 0 3)) ∷ Body (call_in 0 4) (record { 0 = 62 }) Nop ∷ Leave (call_in 0 4) ∷ Ret (call_in 0 4) (Some (call_in 0 3)) ∷ Leave (call_in 0 3) ∷ Ret (call_in 0 3) (Some (call_in 0 2)) ∷ Leave (call_in 0 2) ∷ Ret (call_in 0 2) (Some (call_in 0 1)) ∷ Leave (call_in 0 1) ∷ Ret (call_in 0 1) None ∷ Return 4 Accepted ∷ Enter (call_in 1 2) Normal (record { 0 = 62 }) None ∷ Back (call_in 1 2) (record { 0 = 2 }) ∷ BackEnd (call_in 1 2) (record { 0 = 2 }) ∷ Body (call_in 1 2) (record { 0 = 62 }) ByList ∷ Enter (call_in 1 3) Normal (record { 0 = 62 }) (Some (call_in 1 2)) ∷ Refuse (call_in 1 3) (record { 0 = 2 }) Depth ∷ Body (call_in 1 3) (record { 0 = 62 }) ByList ∷ Enter (call_in 1 4) Irq (record { 0 = 63 }) (Some (call_in 1 3)) ∷ Refuse (call_in 1 4) (record { 0 = 2 }) Depth ∷ Body (call_in 1 4) (record { 0 = 63 }) ByList ∷ Leave (call_in 1 4) ∷ []

pub job_2045-plays : Plays job_2045 job_2045-items false
unfolding actors_of repeated start step run played play all_end control_next control_got cpu_next cpu_got insn moves desk
job_2045-plays = (refl, refl)

abbrev pub job_2048 : Job
job_2048 = record { version = 1; functions = named (codes "a") (Some (codes "m")) ∷ named (codes "b") (Some (codes "m")) ∷ named (codes "c") (Some (codes "m")) ∷ []; users = record { name = codes "u0"; kind = Fprobe true true; regs = false; ipmodify = None; pid = false; act = None } ∷ []; frames = 2; tramps = 1; quanta = 7 ∷ []; tasks = record { pid = 10; cpu = 0; acts = Call (record { 0 = 1 }) ∷ RetAct ∷ Call (record { 0 = 0 }) ∷ Call (record { 0 = 0 }) ∷ Call (record { 0 = 2 }) ∷ Raise Nmi ∷ Lower ∷ RetAct ∷ RetAct ∷ RetAct ∷ [] } ∷ record { pid = 11; cpu = 0; acts = After 1 ∷ Raise Irq ∷ Call (record { 0 = 0 }) ∷ Call (record { 0 = 2 }) ∷ Call (record { 0 = 0 }) ∷ RetAct ∷ RetAct ∷ RetAct ∷ Lower ∷ [] } ∷ record { pid = 12; cpu = 0; acts = After 2 ∷ Call (record { 0 = 1 }) ∷ Call (record { 0 = 0 }) ∷ After 2 ∷ Call (record { 0 = 0 }) ∷ Raise Softirq ∷ Call (record { 0 = 2 }) ∷ Call (record { 0 = 0 }) ∷ RetAct ∷ RetAct ∷ Lower ∷ RetAct ∷ RetAct ∷ RetAct ∷ [] } ∷ []; ctls = Run (Register 0) ∷ Run (Enable 0) ∷ Run (Disable 0) ∷ []; lines = usual_lines; rings = usual_rings; schedule = record { who = OfCpu (record { 0 = 0 }); count = 4 } ∷ record { who = OfCpu (record { 0 = 0 }); count = 14 } ∷ record { who = OfControl; count = 17 } ∷ record { who = OfCpu (record { 0 = 0 }); count = 4 } ∷ record { who = OfCpu (record { 0 = 0 }); count = 4 } ∷ record { who = OfCpu (record { 0 = 0 }); count = 19 } ∷ record { who = OfControl; count = 7 } ∷ record { who = OfControl; count = 12 } ∷ record { who = OfCpu (record { 0 = 0 }); count = 19 } ∷ record { who = All; count = 300 } ∷ [] }

abbrev pub job_2048-items : List Item
job_2048-items = Enter (call_in 0 1) Normal (record { 0 = 1 }) None ∷ Body (call_in 0 1) (record { 0 = 1 }) Nop ∷ Leave (call_in 0 1) ∷ Ret (call_in 0 1) None ∷ Enter (call_in 0 2) Normal (record { 0 = 0 }) None ∷ Begin 1 ∷ Body (call_in 0 2) (record { 0 = 0 }) Nop ∷ Enter (call_in 0 3) Normal (record { 0 = 0 }) (Some (call_in 0 2)) ∷ Back (call_in 0 3) (record { 0 = 0 }) ∷ BackEnd (call_in 0 3) (record { 0 = 0 }) ∷ Body (call_in 0 3) (record { 0 = 0 }) (Own (record { 0 = 0 })) ∷ Enter (call_in 0 4) Normal (record { 0 = 2 }) (Some (call_in 0 3)) ∷ Back (call_in 0 4) (record { 0 = 0 }) ∷ BackEnd (call_in 0 4) (record { 0 = 0 }) ∷ Body (call_in 0 4) (record { 0 = 2 }) (Own (record { 0 = 0 })) ∷ Leave (call_in 0 4) ∷ Ret (call_in 0 4) (Some (call_in 0 3)) ∷ Return 1 Accepted ∷ Begin 2 ∷ Return 2 Accepted ∷ Begin 3 ∷ Return 3 Accepted ∷ Leave (call_in 0 3) ∷ Ret (call_in 0 3) (Some (call_in 0 2)) ∷ Leave (call_in 0 2) ∷ Ret (call_in 0 2) None ∷ Enter (call_in 1 1) Irq (record { 0 = 0 }) None ∷ Enter (call_in 2 1) Normal (record { 0 = 1 }) None ∷ Body (call_in 2 1) (record { 0 = 1 }) (Own (record { 0 = 0 })) ∷ Body (call_in 1 1) (record { 0 = 0 }) (Own (record { 0 = 0 })) ∷ Enter (call_in 1 2) Irq (record { 0 = 2 }) (Some (call_in 1 1)) ∷ Enter (call_in 2 2) Normal (record { 0 = 0 }) (Some (call_in 2 1)) ∷ Body (call_in 2 2) (record { 0 = 0 }) (Own (record { 0 = 0 })) ∷ Body (call_in 1 2) (record { 0 = 2 }) (Own (record { 0 = 0 })) ∷ Enter (call_in 1 3) Irq (record { 0 = 0 }) (Some (call_in 1 2)) ∷ Enter (call_in 2 3) Normal (record { 0 = 0 }) (Some (call_in 2 2)) ∷ Body (call_in 1 3) (record { 0 = 0 }) (Own (record { 0 = 0 })) ∷ Leave (call_in 1 3) ∷ Ret (call_in 1 3) (Some (call_in 1 2)) ∷ Body (call_in 2 3) (record { 0 = 0 }) (Own (record { 0 = 0 })) ∷ Leave (call_in 1 2) ∷ Ret (call_in 1 2) (Some (call_in 1 1)) ∷ Leave (call_in 1 1) ∷ Ret (call_in 1 1) None ∷ Enter (call_in 2 4) Softirq (record { 0 = 2 }) (Some (call_in 2 3)) ∷ Body (call_in 2 4) (record { 0 = 2 }) (Own (record { 0 = 0 })) ∷ Enter (call_in 2 5) Softirq (record { 0 = 0 }) (Some (call_in 2 4)) ∷ Body (call_in 2 5) (record { 0 = 0 }) (Own (record { 0 = 0 })) ∷ Leave (call_in 2 5) ∷ Ret (call_in 2 5) (Some (call_in 2 4)) ∷ Leave (call_in 2 4) ∷ Ret (call_in 2 4) (Some (call_in 2 3)) ∷ Leave (call_in 2 3) ∷ Ret (call_in 2 3) (Some (call_in 2 2)) ∷ Leave (call_in 2 2) ∷ Ret (call_in 2 2) (Some (call_in 2 1)) ∷ Leave (call_in 2 1) ∷ Ret (call_in 2 1) None ∷ []

pub job_2048-plays : Plays job_2048 job_2048-items true
unfolding actors_of repeated start step run played play all_end control_next control_got cpu_next cpu_got insn moves desk
job_2048-plays = (refl, refl)

abbrev pub job_2056 : Job
job_2056 = record { version = 1; functions = named (codes "a") (Some (codes "m")) ∷ named (codes "b") None ∷ named (codes "c") None ∷ []; users = record { name = codes "u0"; kind = Fprobe true false; regs = true; ipmodify = None; pid = false; act = None } ∷ record { name = codes "u1"; kind = Profile; regs = false; ipmodify = None; pid = false; act = None } ∷ record { name = codes "u2"; kind = Graph; regs = true; ipmodify = None; pid = true; act = Some (IrqIn (record { 0 = 2 })) } ∷ record { name = codes "u3"; kind = Fprobe true true; regs = false; ipmodify = None; pid = false; act = Some (CallIn (record { 0 = 2 })) } ∷ []; frames = 1; tramps = 0; quanta = 40 ∷ 7 ∷ []; tasks = record { pid = 10; cpu = 0; acts = After 6 ∷ Call (record { 0 = 0 }) ∷ Call (record { 0 = 2 }) ∷ Call (record { 0 = 2 }) ∷ RetAct ∷ RetAct ∷ RetAct ∷ [] } ∷ record { pid = 11; cpu = 1; acts = After 1 ∷ Call (record { 0 = 0 }) ∷ Call (record { 0 = 2 }) ∷ Call (record { 0 = 1 }) ∷ RetAct ∷ Call (record { 0 = 0 }) ∷ RetAct ∷ RetAct ∷ RetAct ∷ [] } ∷ []; ctls = Run (Notrace 2 (record { append = true; remove = false; clear = false; set = true ∷ false ∷ false ∷ [] })) ∷ Run (NoPid (true ∷ true ∷ [])) ∷ Run (Notrace 3 (record { append = true; remove = false; clear = false; set = false ∷ false ∷ true ∷ [] })) ∷ Run (Register 3) ∷ Run (Register 1) ∷ Run (Enable 2) ∷ []; lines = usual_lines; rings = usual_rings; schedule = record { who = OfCpu (record { 0 = 1 }); count = 3 } ∷ record { who = OfCpu (record { 0 = 0 }); count = 2 } ∷ record { who = OfControl; count = 2 } ∷ record { who = OfCpu (record { 0 = 0 }); count = 2 } ∷ record { who = OfCpu (record { 0 = 0 }); count = 2 } ∷ record { who = OfControl; count = 3 } ∷ record { who = OfCpu (record { 0 = 1 }); count = 3 } ∷ record { who = OfCpu (record { 0 = 1 }); count = 2 } ∷ record { who = OfCpu (record { 0 = 0 }); count = 3 } ∷ record { who = OfCpu (record { 0 = 1 }); count = 1 } ∷ record { who = OfControl; count = 1 } ∷ record { who = OfControl; count = 2 } ∷ record { who = OfControl; count = 3 } ∷ record { who = OfControl; count = 1 } ∷ record { who = All; count = 300 } ∷ [] }

abbrev pub job_2056-items : List Item
job_2056-items = Begin 1 ∷ Return 1 Accepted ∷ Begin 2 ∷ Enter (call_in 1 1) Normal (record { 0 = 0 }) None ∷ Return 2 Accepted ∷ Begin 3 ∷ Return 3 Accepted ∷ Begin 4 ∷ Body (call_in 1 1) (record { 0 = 0 }) Nop ∷ Enter (call_in 1 2) Normal (record { 0 = 2 }) (Some (call_in 1 1)) ∷ Body (call_in 1 2) (record { 0 = 2 }) Nop ∷ Enter (call_in 1 3) Normal (record { 0 = 1 }) (Some (call_in 1 2)) ∷ Back (call_in 1 3) (record { 0 = 3 }) ∷ Enter (call_in 1 4) Normal (record { 0 = 2 }) (Some (call_in 1 3)) ∷ Body (call_in 1 4) (record { 0 = 2 }) Nop ∷ Leave (call_in 1 4) ∷ Ret (call_in 1 4) (Some (call_in 1 3)) ∷ BackEnd (call_in 1 3) (record { 0 = 3 }) ∷ Body (call_in 1 3) (record { 0 = 1 }) ByList ∷ Leave (call_in 1 3) ∷ Ret (call_in 1 3) (Some (call_in 1 2)) ∷ Enter (call_in 1 5) Normal (record { 0 = 0 }) (Some (call_in 1 2)) ∷ Return 4 Accepted ∷ Begin 5 ∷ Back (call_in 1 5) (record { 0 = 3 }) ∷ Enter (call_in 1 6) Normal (record { 0 = 2 }) (Some (call_in 1 5)) ∷ Body (call_in 1 6) (record { 0 = 2 }) Nop ∷ Leave (call_in 1 6) ∷ Ret (call_in 1 6) (Some (call_in 1 5)) ∷ BackEnd (call_in 1 5) (record { 0 = 3 }) ∷ Body (call_in 1 5) (record { 0 = 0 }) ByList ∷ Leave (call_in 1 5) ∷ Ret (call_in 1 5) (Some (call_in 1 2)) ∷ Leave (call_in 1 2) ∷ Ret (call_in 1 2) (Some (call_in 1 1)) ∷ Leave (call_in 1 1) ∷ Return 5 Accepted ∷ Ret (call_in 1 1) None ∷ Begin 6 ∷ Return 6 NotThere ∷ Enter (call_in 0 1) Normal (record { 0 = 0 }) None ∷ Back (call_in 0 1) (record { 0 = 1 }) ∷ BackEnd (call_in 0 1) (record { 0 = 1 }) ∷ Back (call_in 0 1) (record { 0 = 3 }) ∷ Enter (call_in 0 2) Normal (record { 0 = 2 }) (Some (call_in 0 1)) ∷ Refuse (call_in 0 2) (record { 0 = 1 }) Recursion ∷ Body (call_in 0 2) (record { 0 = 2 }) ByList ∷ Leave (call_in 0 2) ∷ Ret (call_in 0 2) (Some (call_in 0 1)) ∷ BackEnd (call_in 0 1) (record { 0 = 3 }) ∷ Body (call_in 0 1) (record { 0 = 0 }) ByList ∷ Enter (call_in 0 3) Normal (record { 0 = 2 }) (Some (call_in 0 1)) ∷ Refuse (call_in 0 3) (record { 0 = 1 }) Depth ∷ Body (call_in 0 3) (record { 0 = 2 }) ByList ∷ Enter (call_in 0 4) Normal (record { 0 = 2 }) (Some (call_in 0 3)) ∷ Refuse (call_in 0 4) (record { 0 = 1 }) Depth ∷ Body (call_in 0 4) (record { 0 = 2 }) ByList ∷ Leave (call_in 0 4) ∷ Ret (call_in 0 4) (Some (call_in 0 3)) ∷ Leave (call_in 0 3) ∷ Ret (call_in 0 3) (Some (call_in 0 1)) ∷ Leave (call_in 0 1) ∷ Exit (call_in 0 1) (record { 0 = 1 }) 41 ∷ ExitEnd (call_in 0 1) (record { 0 = 1 }) ∷ Ret (call_in 0 1) None ∷ []

pub job_2056-plays : Plays job_2056 job_2056-items true
unfolding actors_of repeated start step run played play all_end control_next control_got cpu_next cpu_got insn moves desk
job_2056-plays = (refl, refl)

abbrev pub job_2057 : Job
job_2057 = record { version = 1; functions = named (codes "a") (Some (codes "m")) ∷ named (codes "b") None ∷ named (codes "c") None ∷ named (codes "d") None ∷ []; users = record { name = codes "u0"; kind = Function; regs = true; ipmodify = Some (record { 0 = 2 }); pid = true; act = Some (CallIn (record { 0 = 2 })) } ∷ record { name = codes "u1"; kind = Fprobe true true; regs = false; ipmodify = None; pid = true; act = None } ∷ []; frames = 50; tramps = 16; quanta = 40 ∷ 40 ∷ []; tasks = record { pid = 10; cpu = 1; acts = After 3 ∷ Call (record { 0 = 0 }) ∷ After 4 ∷ Call (record { 0 = 0 }) ∷ RetAct ∷ Call (record { 0 = 2 }) ∷ RetAct ∷ After 3 ∷ RetAct ∷ [] } ∷ record { pid = 11; cpu = 0; acts = After 6 ∷ Raise Softirq ∷ Raise Nmi ∷ Call (record { 0 = 3 }) ∷ Call (record { 0 = 3 }) ∷ RetAct ∷ RetAct ∷ Lower ∷ Call (record { 0 = 3 }) ∷ RetAct ∷ Lower ∷ [] } ∷ []; ctls = Run (Notrace 0 (record { append = true; remove = true; clear = false; set = false ∷ false ∷ false ∷ true ∷ [] })) ∷ Run (NoPid (false ∷ false ∷ [])) ∷ Run (Register 0) ∷ Run (NoPid (true ∷ true ∷ [])) ∷ Run (Disable 0) ∷ Run (Enable 0) ∷ Run (Register 0) ∷ []; lines = usual_lines; rings = usual_rings; schedule = record { who = OfCpu (record { 0 = 1 }); count = 7 } ∷ record { who = OfCpu (record { 0 = 1 }); count = 1 } ∷ record { who = OfControl; count = 3 } ∷ record { who = OfCpu (record { 0 = 0 }); count = 8 } ∷ record { who = OfControl; count = 3 } ∷ record { who = OfControl; count = 5 } ∷ record { who = OfCpu (record { 0 = 1 }); count = 7 } ∷ record { who = OfCpu (record { 0 = 0 }); count = 7 } ∷ record { who = OfCpu (record { 0 = 0 }); count = 2 } ∷ record { who = OfCpu (record { 0 = 0 }); count = 5 } ∷ record { who = OfCpu (record { 0 = 0 }); count = 1 } ∷ record { who = OfCpu (record { 0 = 1 }); count = 6 } ∷ record { who = OfCpu (record { 0 = 0 }); count = 2 } ∷ record { who = OfCpu (record { 0 = 1 }); count = 3 } ∷ record { who = OfCpu (record { 0 = 1 }); count = 8 } ∷ record { who = OfCpu (record { 0 = 1 }); count = 5 } ∷ record { who = OfCpu (record { 0 = 1 }); count = 1 } ∷ record { who = OfCpu (record { 0 = 1 }); count = 6 } ∷ record { who = OfCpu (record { 0 = 0 }); count = 5 } ∷ record { who = OfCpu (record { 0 = 1 }); count = 8 } ∷ record { who = OfCpu (record { 0 = 0 }); count = 2 } ∷ record { who = OfControl; count = 4 } ∷ record { who = OfControl; count = 5 } ∷ record { who = OfCpu (record { 0 = 0 }); count = 5 } ∷ record { who = OfControl; count = 1 } ∷ record { who = OfCpu (record { 0 = 0 }); count = 4 } ∷ record { who = OfCpu (record { 0 = 0 }); count = 3 } ∷ record { who = All; count = 300 } ∷ [] }

abbrev pub job_2057-items : List Item
job_2057-items = Begin 1 ∷ Return 1 Accepted ∷ Begin 2 ∷ Return 2 Accepted ∷ Begin 3 ∷ Return 3 Invalid ∷ Begin 4 ∷ Return 4 Accepted ∷ Begin 5 ∷ Enter (call_in 0 1) Normal (record { 0 = 0 }) None ∷ Return 5 NotThere ∷ Begin 6 ∷ Return 6 NotThere ∷ Body (call_in 0 1) (record { 0 = 0 }) Nop ∷ Begin 7 ∷ Return 7 Invalid ∷ Enter (call_in 0 2) Normal (record { 0 = 0 }) (Some (call_in 0 1)) ∷ Enter (call_in 1 1) Nmi (record { 0 = 3 }) None ∷ Body (call_in 0 2) (record { 0 = 0 }) Nop ∷ Body (call_in 1 1) (record { 0 = 3 }) Nop ∷ Leave (call_in 0 2) ∷ Enter (call_in 1 2) Nmi (record { 0 = 3 }) (Some (call_in 1 1)) ∷ Ret (call_in 0 2) (Some (call_in 0 1)) ∷ Body (call_in 1 2) (record { 0 = 3 }) Nop ∷ Enter (call_in 0 3) Normal (record { 0 = 2 }) (Some (call_in 0 1)) ∷ Leave (call_in 1 2) ∷ Body (call_in 0 3) (record { 0 = 2 }) Nop ∷ Ret (call_in 1 2) (Some (call_in 1 1)) ∷ Leave (call_in 0 3) ∷ Leave (call_in 1 1) ∷ Ret (call_in 0 3) (Some (call_in 0 1)) ∷ Ret (call_in 1 1) None ∷ Enter (call_in 1 3) Softirq (record { 0 = 3 }) None ∷ Leave (call_in 0 1) ∷ Ret (call_in 0 1) None ∷ Body (call_in 1 3) (record { 0 = 3 }) Nop ∷ Leave (call_in 1 3) ∷ Ret (call_in 1 3) None ∷ []

pub job_2057-plays : Plays job_2057 job_2057-items true
unfolding actors_of repeated start step run played play all_end control_next control_got cpu_next cpu_got insn moves desk
job_2057-plays = (refl, refl)

abbrev pub job_2060 : Job
job_2060 = record { version = 1; functions = named (codes "a") (Some (codes "m")) ∷ named (codes "b") None ∷ named (codes "c") (Some (codes "m")) ∷ []; users = record { name = codes "u0"; kind = Function; regs = false; ipmodify = None; pid = true; act = Some (CallIn (record { 0 = 2 })) } ∷ []; frames = 1; tramps = 16; quanta = 15 ∷ 1 ∷ []; tasks = record { pid = 10; cpu = 0; acts = Call (record { 0 = 2 }) ∷ Call (record { 0 = 2 }) ∷ Call (record { 0 = 0 }) ∷ After 4 ∷ RetAct ∷ Call (record { 0 = 1 }) ∷ Call (record { 0 = 2 }) ∷ RetAct ∷ RetAct ∷ RetAct ∷ RetAct ∷ [] } ∷ record { pid = 11; cpu = 1; acts = After 4 ∷ Call (record { 0 = 1 }) ∷ Call (record { 0 = 2 }) ∷ RetAct ∷ RetAct ∷ [] } ∷ record { pid = 12; cpu = 1; acts = Raise Nmi ∷ Call (record { 0 = 2 }) ∷ Call (record { 0 = 1 }) ∷ Call (record { 0 = 0 }) ∷ Call (record { 0 = 1 }) ∷ RetAct ∷ RetAct ∷ RetAct ∷ RetAct ∷ Lower ∷ [] } ∷ []; ctls = Run (Enable 0) ∷ Run (Register 0) ∷ Run (Register 0) ∷ Run (Filter 0 (record { append = true; remove = false; clear = false; set = false ∷ false ∷ true ∷ [] })) ∷ Run (MaxDepth 1) ∷ Run (Register 0) ∷ []; lines = usual_lines; rings = usual_rings; schedule = record { who = OfCpu (record { 0 = 0 }); count = 1 } ∷ record { who = OfControl; count = 5 } ∷ record { who = OfCpu (record { 0 = 1 }); count = 2 } ∷ record { who = OfCpu (record { 0 = 0 }); count = 2 } ∷ record { who = OfControl; count = 5 } ∷ record { who = OfCpu (record { 0 = 1 }); count = 6 } ∷ record { who = OfCpu (record { 0 = 0 }); count = 8 } ∷ record { who = OfCpu (record { 0 = 0 }); count = 4 } ∷ record { who = OfCpu (record { 0 = 0 }); count = 3 } ∷ record { who = OfCpu (record { 0 = 0 }); count = 5 } ∷ record { who = OfControl; count = 8 } ∷ record { who = OfControl; count = 5 } ∷ record { who = OfCpu (record { 0 = 1 }); count = 5 } ∷ record { who = OfControl; count = 5 } ∷ record { who = OfCpu (record { 0 = 1 }); count = 6 } ∷ record { who = OfControl; count = 2 } ∷ record { who = OfCpu (record { 0 = 0 }); count = 3 } ∷ record { who = OfCpu (record { 0 = 1 }); count = 8 } ∷ record { who = All; count = 300 } ∷ [] }

abbrev pub job_2060-items : List Item
job_2060-items = Begin 1 ∷ Return 1 NotThere ∷ Begin 2 ∷ Enter (call_in 0 1) Normal (record { 0 = 2 }) None ∷ Enter (call_in 2 1) Nmi (record { 0 = 2 }) None ∷ Body (call_in 0 1) (record { 0 = 2 }) Nop ∷ Enter (call_in 0 2) Normal (record { 0 = 2 }) (Some (call_in 0 1)) ∷ Body (call_in 0 2) (record { 0 = 2 }) Nop ∷ Enter (call_in 0 3) Normal (record { 0 = 0 }) (Some (call_in 0 2)) ∷ Body (call_in 0 3) (record { 0 = 0 }) Nop ∷ Back (call_in 2 1) (record { 0 = 0 }) ∷ Enter (call_in 2 2) Nmi (record { 0 = 2 }) (Some (call_in 2 1)) ∷ Refuse (call_in 2 2) (record { 0 = 0 }) Recursion ∷ Body (call_in 2 2) (record { 0 = 2 }) (Own (record { 0 = 0 })) ∷ Leave (call_in 2 2) ∷ Ret (call_in 2 2) (Some (call_in 2 1)) ∷ BackEnd (call_in 2 1) (record { 0 = 0 }) ∷ Return 2 Accepted ∷ Body (call_in 2 1) (record { 0 = 2 }) (Own (record { 0 = 0 })) ∷ Begin 3 ∷ Return 3 Already ∷ Begin 4 ∷ Enter (call_in 2 3) Nmi (record { 0 = 1 }) (Some (call_in 2 1)) ∷ Back (call_in 2 3) (record { 0 = 0 }) ∷ Enter (call_in 2 4) Nmi (record { 0 = 2 }) (Some (call_in 2 3)) ∷ Refuse (call_in 2 4) (record { 0 = 0 }) Recursion ∷ Body (call_in 2 4) (record { 0 = 2 }) (Own (record { 0 = 0 })) ∷ Leave (call_in 2 4) ∷ Ret (call_in 2 4) (Some (call_in 2 3)) ∷ BackEnd (call_in 2 3) (record { 0 = 0 }) ∷ Body (call_in 2 3) (record { 0 = 1 }) (Own (record { 0 = 0 })) ∷ Return 4 Accepted ∷ Enter (call_in 2 5) Nmi (record { 0 = 0 }) (Some (call_in 2 3)) ∷ Begin 5 ∷ Leave (call_in 0 3) ∷ Ret (call_in 0 3) (Some (call_in 0 2)) ∷ Body (call_in 2 5) (record { 0 = 0 }) Nop ∷ Enter (call_in 0 4) Normal (record { 0 = 1 }) (Some (call_in 0 2)) ∷ Enter (call_in 1 1) Normal (record { 0 = 1 }) None ∷ Body (call_in 0 4) (record { 0 = 1 }) Nop ∷ Return 5 Accepted ∷ Begin 6 ∷ Enter (call_in 2 6) Nmi (record { 0 = 1 }) (Some (call_in 2 5)) ∷ Return 6 Already ∷ Enter (call_in 0 5) Normal (record { 0 = 2 }) (Some (call_in 0 4)) ∷ Body (call_in 1 1) (record { 0 = 1 }) Nop ∷ Body (call_in 2 6) (record { 0 = 1 }) Nop ∷ Back (call_in 0 5) (record { 0 = 0 }) ∷ Enter (call_in 1 2) Normal (record { 0 = 2 }) (Some (call_in 1 1)) ∷ Enter (call_in 0 6) Normal (record { 0 = 2 }) (Some (call_in 0 5)) ∷ Leave (call_in 2 6) ∷ Refuse (call_in 0 6) (record { 0 = 0 }) Recursion ∷ Ret (call_in 2 6) (Some (call_in 2 5)) ∷ Body (call_in 0 6) (record { 0 = 2 }) (Own (record { 0 = 0 })) ∷ Leave (call_in 0 6) ∷ Ret (call_in 0 6) (Some (call_in 0 5)) ∷ BackEnd (call_in 0 5) (record { 0 = 0 }) ∷ Body (call_in 0 5) (record { 0 = 2 }) (Own (record { 0 = 0 })) ∷ Leave (call_in 2 5) ∷ Back (call_in 1 2) (record { 0 = 0 }) ∷ Ret (call_in 2 5) (Some (call_in 2 3)) ∷ Leave (call_in 0 5) ∷ Enter (call_in 1 3) Normal (record { 0 = 2 }) (Some (call_in 1 2)) ∷ Ret (call_in 0 5) (Some (call_in 0 4)) ∷ Leave (call_in 0 4) ∷ Ret (call_in 0 4) (Some (call_in 0 2)) ∷ Leave (call_in 2 3) ∷ Ret (call_in 2 3) (Some (call_in 2 1)) ∷ Leave (call_in 0 2) ∷ Ret (call_in 0 2) (Some (call_in 0 1)) ∷ Leave (call_in 0 1) ∷ Leave (call_in 2 1) ∷ Ret (call_in 0 1) None ∷ Refuse (call_in 1 3) (record { 0 = 0 }) Recursion ∷ Ret (call_in 2 1) None ∷ Body (call_in 1 3) (record { 0 = 2 }) (Own (record { 0 = 0 })) ∷ Leave (call_in 1 3) ∷ Ret (call_in 1 3) (Some (call_in 1 2)) ∷ BackEnd (call_in 1 2) (record { 0 = 0 }) ∷ Body (call_in 1 2) (record { 0 = 2 }) (Own (record { 0 = 0 })) ∷ Leave (call_in 1 2) ∷ Ret (call_in 1 2) (Some (call_in 1 1)) ∷ Leave (call_in 1 1) ∷ Ret (call_in 1 1) None ∷ []

pub job_2060-plays : Plays job_2060 job_2060-items true
unfolding actors_of repeated start step run played play all_end control_next control_got cpu_next cpu_got insn moves desk
job_2060-plays = (refl, refl)

abbrev pub job_2066 : Job
job_2066 = record { version = 1; functions = named (codes "a") (Some (codes "m")) ∷ []; users = record { name = codes "u0"; kind = Profile; regs = false; ipmodify = None; pid = true; act = None } ∷ []; frames = 2; tramps = 1; quanta = 1 ∷ 7 ∷ []; tasks = record { pid = 10; cpu = 1; acts = Raise Softirq ∷ Raise Irq ∷ Call (record { 0 = 0 }) ∷ Call (record { 0 = 0 }) ∷ Call (record { 0 = 0 }) ∷ RetAct ∷ RetAct ∷ RetAct ∷ Lower ∷ Lower ∷ [] } ∷ record { pid = 11; cpu = 1; acts = Call (record { 0 = 0 }) ∷ Call (record { 0 = 0 }) ∷ RetAct ∷ RetAct ∷ [] } ∷ record { pid = 12; cpu = 0; acts = Call (record { 0 = 0 }) ∷ RetAct ∷ Raise Irq ∷ Call (record { 0 = 0 }) ∷ RetAct ∷ Call (record { 0 = 0 }) ∷ RetAct ∷ Lower ∷ Call (record { 0 = 0 }) ∷ RetAct ∷ [] } ∷ []; ctls = Run (Enable 0) ∷ Run (Disable 0) ∷ Run (Register 0) ∷ Run (NoPid (false ∷ false ∷ false ∷ [])) ∷ Run (Enable 0) ∷ Run (NoPid (true ∷ true ∷ true ∷ [])) ∷ []; lines = usual_lines; rings = usual_rings; schedule = record { who = OfCpu (record { 0 = 0 }); count = 4 } ∷ record { who = OfCpu (record { 0 = 0 }); count = 6 } ∷ record { who = OfControl; count = 5 } ∷ record { who = OfCpu (record { 0 = 1 }); count = 3 } ∷ record { who = OfCpu (record { 0 = 0 }); count = 5 } ∷ record { who = OfCpu (record { 0 = 0 }); count = 2 } ∷ record { who = OfControl; count = 2 } ∷ record { who = OfCpu (record { 0 = 0 }); count = 6 } ∷ record { who = All; count = 300 } ∷ [] }

abbrev pub job_2066-items : List Item
job_2066-items = Enter (call_in 2 1) Normal (record { 0 = 0 }) None ∷ Body (call_in 2 1) (record { 0 = 0 }) Nop ∷ Leave (call_in 2 1) ∷ Ret (call_in 2 1) None ∷ Begin 1 ∷ Return 1 NotThere ∷ Begin 2 ∷ Return 2 NotThere ∷ Begin 3 ∷ Enter (call_in 2 2) Irq (record { 0 = 0 }) None ∷ Body (call_in 2 2) (record { 0 = 0 }) Nop ∷ Leave (call_in 2 2) ∷ Ret (call_in 2 2) None ∷ Enter (call_in 2 3) Irq (record { 0 = 0 }) None ∷ Enter (call_in 0 1) Irq (record { 0 = 0 }) None ∷ Body (call_in 2 3) (record { 0 = 0 }) Nop ∷ Leave (call_in 2 3) ∷ Enter (call_in 1 1) Normal (record { 0 = 0 }) None ∷ Ret (call_in 2 3) None ∷ Body (call_in 0 1) (record { 0 = 0 }) Nop ∷ Enter (call_in 2 4) Normal (record { 0 = 0 }) None ∷ Enter (call_in 0 2) Irq (record { 0 = 0 }) (Some (call_in 0 1)) ∷ Back (call_in 2 4) (record { 0 = 0 }) ∷ Back (call_in 1 1) (record { 0 = 0 }) ∷ BackEnd (call_in 2 4) (record { 0 = 0 }) ∷ BackEnd (call_in 1 1) (record { 0 = 0 }) ∷ Body (call_in 2 4) (record { 0 = 0 }) (Own (record { 0 = 0 })) ∷ Body (call_in 1 1) (record { 0 = 0 }) (Own (record { 0 = 0 })) ∷ Leave (call_in 2 4) ∷ Exit (call_in 2 4) (record { 0 = 0 }) 22 ∷ ExitEnd (call_in 2 4) (record { 0 = 0 }) ∷ Ret (call_in 2 4) None ∷ Back (call_in 0 2) (record { 0 = 0 }) ∷ BackEnd (call_in 0 2) (record { 0 = 0 }) ∷ Body (call_in 0 2) (record { 0 = 0 }) (Own (record { 0 = 0 })) ∷ Enter (call_in 1 2) Normal (record { 0 = 0 }) (Some (call_in 1 1)) ∷ Return 3 Accepted ∷ Enter (call_in 0 3) Irq (record { 0 = 0 }) (Some (call_in 0 2)) ∷ Begin 4 ∷ Back (call_in 1 2) (record { 0 = 0 }) ∷ BackEnd (call_in 1 2) (record { 0 = 0 }) ∷ Body (call_in 1 2) (record { 0 = 0 }) (Own (record { 0 = 0 })) ∷ Leave (call_in 1 2) ∷ Back (call_in 0 3) (record { 0 = 0 }) ∷ BackEnd (call_in 0 3) (record { 0 = 0 }) ∷ Body (call_in 0 3) (record { 0 = 0 }) (Own (record { 0 = 0 })) ∷ Exit (call_in 1 2) (record { 0 = 0 }) 39 ∷ ExitEnd (call_in 1 2) (record { 0 = 0 }) ∷ Return 4 Accepted ∷ Ret (call_in 1 2) (Some (call_in 1 1)) ∷ Begin 5 ∷ Return 5 Invalid ∷ Begin 6 ∷ Leave (call_in 1 1) ∷ Leave (call_in 0 3) ∷ Exit (call_in 0 3) (record { 0 = 0 }) 43 ∷ ExitEnd (call_in 0 3) (record { 0 = 0 }) ∷ Ret (call_in 0 3) (Some (call_in 0 2)) ∷ Exit (call_in 1 1) (record { 0 = 0 }) 23 ∷ ExitEnd (call_in 1 1) (record { 0 = 0 }) ∷ Ret (call_in 1 1) None ∷ Leave (call_in 0 2) ∷ Exit (call_in 0 2) (record { 0 = 0 }) 32 ∷ ExitEnd (call_in 0 2) (record { 0 = 0 }) ∷ Ret (call_in 0 2) (Some (call_in 0 1)) ∷ Leave (call_in 0 1) ∷ Ret (call_in 0 1) None ∷ Return 6 Accepted ∷ []

pub job_2066-plays : Plays job_2066 job_2066-items true
unfolding actors_of repeated start step run played play all_end control_next control_got cpu_next cpu_got insn moves desk
job_2066-plays = (refl, refl)

abbrev pub job_2080 : Job
job_2080 = record { version = 1; functions = named (codes "a") (Some (codes "m")) ∷ []; users = record { name = codes "u0"; kind = Graph; regs = true; ipmodify = None; pid = true; act = Some (CallIn (record { 0 = 0 })) } ∷ record { name = codes "u1"; kind = Profile; regs = false; ipmodify = None; pid = true; act = Some (CallIn (record { 0 = 0 })) } ∷ record { name = codes "u2"; kind = Graph; regs = false; ipmodify = None; pid = true; act = Some (CallIn (record { 0 = 0 })) } ∷ record { name = codes "u3"; kind = Profile; regs = false; ipmodify = None; pid = true; act = Some (CallIn (record { 0 = 0 })) } ∷ []; frames = 50; tramps = 16; quanta = 3 ∷ 15 ∷ []; tasks = record { pid = 10; cpu = 0; acts = Call (record { 0 = 0 }) ∷ Call (record { 0 = 0 }) ∷ Call (record { 0 = 0 }) ∷ RetAct ∷ RetAct ∷ Call (record { 0 = 0 }) ∷ Call (record { 0 = 0 }) ∷ RetAct ∷ RetAct ∷ RetAct ∷ [] } ∷ record { pid = 11; cpu = 1; acts = After 4 ∷ Raise Irq ∷ Lower ∷ Raise Softirq ∷ Call (record { 0 = 0 }) ∷ Call (record { 0 = 0 }) ∷ RetAct ∷ RetAct ∷ Lower ∷ [] } ∷ []; ctls = Run (Enable 2) ∷ Run (Pid (false ∷ true ∷ [])) ∷ Run (Register 3) ∷ Run (Pid (true ∷ true ∷ [])) ∷ Run (Enable 2) ∷ []; lines = usual_lines; rings = usual_rings; schedule = record { who = OfCpu (record { 0 = 1 }); count = 21 } ∷ record { who = OfControl; count = 3 } ∷ record { who = OfCpu (record { 0 = 1 }); count = 7 } ∷ record { who = OfCpu (record { 0 = 1 }); count = 23 } ∷ record { who = OfCpu (record { 0 = 0 }); count = 24 } ∷ record { who = OfControl; count = 32 } ∷ record { who = OfCpu (record { 0 = 0 }); count = 1 } ∷ record { who = OfControl; count = 24 } ∷ record { who = OfCpu (record { 0 = 0 }); count = 27 } ∷ record { who = OfCpu (record { 0 = 1 }); count = 7 } ∷ record { who = All; count = 300 } ∷ [] }

abbrev pub job_2080-items : List Item
job_2080-items = Begin 1 ∷ Return 1 NotThere ∷ Begin 2 ∷ Enter (call_in 0 1) Normal (record { 0 = 0 }) None ∷ Body (call_in 0 1) (record { 0 = 0 }) Nop ∷ Enter (call_in 0 2) Normal (record { 0 = 0 }) (Some (call_in 0 1)) ∷ Body (call_in 0 2) (record { 0 = 0 }) Nop ∷ Enter (call_in 0 3) Normal (record { 0 = 0 }) (Some (call_in 0 2)) ∷ Body (call_in 0 3) (record { 0 = 0 }) Nop ∷ Leave (call_in 0 3) ∷ Ret (call_in 0 3) (Some (call_in 0 2)) ∷ Leave (call_in 0 2) ∷ Ret (call_in 0 2) (Some (call_in 0 1)) ∷ Enter (call_in 0 4) Normal (record { 0 = 0 }) (Some (call_in 0 1)) ∷ Body (call_in 0 4) (record { 0 = 0 }) Nop ∷ Enter (call_in 0 5) Normal (record { 0 = 0 }) (Some (call_in 0 4)) ∷ Body (call_in 0 5) (record { 0 = 0 }) Nop ∷ Leave (call_in 0 5) ∷ Ret (call_in 0 5) (Some (call_in 0 4)) ∷ Leave (call_in 0 4) ∷ Ret (call_in 0 4) (Some (call_in 0 1)) ∷ Leave (call_in 0 1) ∷ Ret (call_in 0 1) None ∷ Return 2 Accepted ∷ Begin 3 ∷ Return 3 Accepted ∷ Begin 4 ∷ Return 4 Accepted ∷ Begin 5 ∷ Return 5 NotThere ∷ Enter (call_in 1 1) Softirq (record { 0 = 0 }) None ∷ Back (call_in 1 1) (record { 0 = 3 }) ∷ Enter (call_in 1 2) Softirq (record { 0 = 0 }) (Some (call_in 1 1)) ∷ Refuse (call_in 1 2) (record { 0 = 3 }) Recursion ∷ Body (call_in 1 2) (record { 0 = 0 }) (Own (record { 0 = 3 })) ∷ Leave (call_in 1 2) ∷ Ret (call_in 1 2) (Some (call_in 1 1)) ∷ BackEnd (call_in 1 1) (record { 0 = 3 }) ∷ Body (call_in 1 1) (record { 0 = 0 }) (Own (record { 0 = 3 })) ∷ Enter (call_in 1 3) Softirq (record { 0 = 0 }) (Some (call_in 1 1)) ∷ Back (call_in 1 3) (record { 0 = 3 }) ∷ Enter (call_in 1 4) Softirq (record { 0 = 0 }) (Some (call_in 1 3)) ∷ Refuse (call_in 1 4) (record { 0 = 3 }) Recursion ∷ Body (call_in 1 4) (record { 0 = 0 }) (Own (record { 0 = 3 })) ∷ Leave (call_in 1 4) ∷ Ret (call_in 1 4) (Some (call_in 1 3)) ∷ BackEnd (call_in 1 3) (record { 0 = 3 }) ∷ Body (call_in 1 3) (record { 0 = 0 }) (Own (record { 0 = 3 })) ∷ Leave (call_in 1 3) ∷ Exit (call_in 1 3) (record { 0 = 3 }) 40 ∷ ExitEnd (call_in 1 3) (record { 0 = 3 }) ∷ Ret (call_in 1 3) (Some (call_in 1 1)) ∷ Leave (call_in 1 1) ∷ Exit (call_in 1 1) (record { 0 = 3 }) 31 ∷ ExitEnd (call_in 1 1) (record { 0 = 3 }) ∷ Ret (call_in 1 1) None ∷ []

pub job_2080-plays : Plays job_2080 job_2080-items true
unfolding actors_of repeated start step run played play all_end control_next control_got cpu_next cpu_got insn moves desk
job_2080-plays = (refl, refl)

abbrev pub job_2081 : Job
job_2081 = record { version = 1; functions = named (codes "x0") None ∷ named (codes "x1") None ∷ named (codes "x2") None ∷ named (codes "x3") None ∷ named (codes "x4") None ∷ named (codes "x5") None ∷ named (codes "x6") None ∷ named (codes "x7") None ∷ named (codes "x8") None ∷ named (codes "x9") None ∷ named (codes "x10") None ∷ named (codes "x11") None ∷ named (codes "x12") None ∷ named (codes "x13") None ∷ named (codes "x14") None ∷ named (codes "x15") None ∷ named (codes "x16") None ∷ named (codes "x17") None ∷ named (codes "x18") None ∷ named (codes "x19") None ∷ named (codes "x20") None ∷ named (codes "x21") None ∷ named (codes "x22") None ∷ named (codes "x23") None ∷ named (codes "x24") None ∷ named (codes "x25") None ∷ named (codes "x26") None ∷ named (codes "x27") None ∷ named (codes "x28") None ∷ named (codes "x29") None ∷ named (codes "x30") None ∷ named (codes "x31") None ∷ named (codes "x32") None ∷ named (codes "x33") None ∷ named (codes "x34") None ∷ named (codes "x35") None ∷ named (codes "x36") None ∷ named (codes "x37") None ∷ named (codes "x38") None ∷ named (codes "x39") None ∷ named (codes "x40") None ∷ named (codes "x41") None ∷ named (codes "x42") None ∷ named (codes "x43") None ∷ named (codes "x44") None ∷ named (codes "x45") None ∷ named (codes "x46") None ∷ named (codes "x47") None ∷ named (codes "x48") None ∷ named (codes "x49") None ∷ named (codes "x50") None ∷ named (codes "x51") None ∷ named (codes "x52") None ∷ named (codes "x53") None ∷ named (codes "x54") None ∷ named (codes "x55") None ∷ named (codes "x56") None ∷ named (codes "x57") None ∷ named (codes "x58") None ∷ named (codes "x59") None ∷ named (codes "x60") None ∷ named (codes "x61") None ∷ named (codes "a") None ∷ named (codes "b") None ∷ named (codes "c") (Some (codes "m")) ∷ named (codes "d") None ∷ []; users = record { name = codes "u0"; kind = Function; regs = true; ipmodify = Some (record { 0 = 64 }); pid = true; act = None } ∷ record { name = codes "u1"; kind = Graph; regs = false; ipmodify = None; pid = true; act = None } ∷ record { name = codes "u2"; kind = Fprobe true true; regs = false; ipmodify = None; pid = true; act = Some (IrqIn (record { 0 = 62 })) } ∷ record { name = codes "u3"; kind = Fprobe true false; regs = false; ipmodify = None; pid = true; act = None } ∷ []; frames = 50; tramps = 0; quanta = 7 ∷ []; tasks = record { pid = 10; cpu = 0; acts = After 3 ∷ Call (record { 0 = 62 }) ∷ Raise Softirq ∷ Lower ∷ RetAct ∷ [] } ∷ record { pid = 11; cpu = 0; acts = Raise Irq ∷ Raise Nmi ∷ Call (record { 0 = 65 }) ∷ Call (record { 0 = 65 }) ∷ Call (record { 0 = 64 }) ∷ RetAct ∷ Call (record { 0 = 63 }) ∷ RetAct ∷ RetAct ∷ RetAct ∷ Lower ∷ Lower ∷ [] } ∷ record { pid = 12; cpu = 0; acts = Raise Nmi ∷ Call (record { 0 = 63 }) ∷ RetAct ∷ Call (record { 0 = 63 }) ∷ Call (record { 0 = 63 }) ∷ Call (record { 0 = 62 }) ∷ RetAct ∷ RetAct ∷ RetAct ∷ Lower ∷ Call (record { 0 = 63 }) ∷ RetAct ∷ [] } ∷ []; ctls = Run (Register 3) ∷ Run (NoPid (false ∷ true ∷ true ∷ [])) ∷ Run (Enable 3) ∷ Run (NoPid (true ∷ false ∷ true ∷ [])) ∷ Run (Unregister 1) ∷ Until 0 1 ∷ Run (Register 1) ∷ Run (Register 0) ∷ []; lines = usual_lines; rings = usual_rings; schedule = record { who = OfControl; count = 1 } ∷ record { who = OfControl; count = 1 } ∷ record { who = OfCpu (record { 0 = 0 }); count = 2 } ∷ record { who = OfControl; count = 3 } ∷ record { who = OfCpu (record { 0 = 0 }); count = 1 } ∷ record { who = OfCpu (record { 0 = 0 }); count = 3 } ∷ record { who = OfControl; count = 3 } ∷ record { who = OfCpu (record { 0 = 0 }); count = 2 } ∷ record { who = OfControl; count = 1 } ∷ record { who = OfControl; count = 2 } ∷ record { who = OfCpu (record { 0 = 0 }); count = 2 } ∷ record { who = OfCpu (record { 0 = 0 }); count = 1 } ∷ record { who = OfCpu (record { 0 = 0 }); count = 2 } ∷ record { who = OfCpu (record { 0 = 0 }); count = 2 } ∷ record { who = OfControl; count = 1 } ∷ record { who = OfCpu (record { 0 = 0 }); count = 1 } ∷ record { who = OfControl; count = 2 } ∷ record { who = OfCpu (record { 0 = 0 }); count = 3 } ∷ record { who = OfCpu (record { 0 = 0 }); count = 2 } ∷ record { who = OfControl; count = 1 } ∷ record { who = OfControl; count = 2 } ∷ record { who = OfCpu (record { 0 = 0 }); count = 1 } ∷ record { who = OfCpu (record { 0 = 0 }); count = 2 } ∷ record { who = OfCpu (record { 0 = 0 }); count = 3 } ∷ record { who = All; count = 300 } ∷ [] }

abbrev pub job_2081-items : List Item
job_2081-items = Begin 1 ∷ Enter (call_in 1 1) Nmi (record { 0 = 65 }) None ∷ Enter (call_in 2 1) Nmi (record { 0 = 63 }) None ∷ Body (call_in 2 1) (record { 0 = 63 }) Nop ∷ Body (call_in 1 1) (record { 0 = 65 }) Nop ∷ Enter (call_in 1 2) Nmi (record { 0 = 65 }) (Some (call_in 1 1)) ∷ Body (call_in 1 2) (record { 0 = 65 }) Nop ∷ Leave (call_in 2 1) ∷ Ret (call_in 2 1) None ∷ Enter (call_in 2 2) Nmi (record { 0 = 63 }) None ∷ Enter (call_in 1 3) Nmi (record { 0 = 64 }) (Some (call_in 1 2)) ∷ Body (call_in 1 3) (record { 0 = 64 }) Nop ∷ Body (call_in 2 2) (record { 0 = 63 }) Nop ∷ Enter (call_in 2 3) Nmi (record { 0 = 63 }) (Some (call_in 2 2)) ∷ Leave (call_in 1 3) ∷ Ret (call_in 1 3) (Some (call_in 1 2)) ∷ Enter (call_in 1 4) Nmi (record { 0 = 63 }) (Some (call_in 1 2)) ∷ Body (call_in 2 3) (record { 0 = 63 }) Nop ∷ Enter (call_in 2 4) Nmi (record { 0 = 62 }) (Some (call_in 2 3)) ∷ Body (call_in 2 4) (record { 0 = 62 }) Nop ∷ Body (call_in 1 4) (record { 0 = 63 }) Nop ∷ Leave (call_in 1 4) ∷ Ret (call_in 1 4) (Some (call_in 1 2)) ∷ Leave (call_in 2 4) ∷ Ret (call_in 2 4) (Some (call_in 2 3)) ∷ Leave (call_in 2 3) ∷ Ret (call_in 2 3) (Some (call_in 2 2)) ∷ Leave (call_in 1 2) ∷ Ret (call_in 1 2) (Some (call_in 1 1)) ∷ Leave (call_in 1 1) ∷ Ret (call_in 1 1) None ∷ Leave (call_in 2 2) ∷ Ret (call_in 2 2) None ∷ Enter (call_in 2 5) Normal (record { 0 = 63 }) None ∷ Body (call_in 2 5) (record { 0 = 63 }) Nop ∷ Leave (call_in 2 5) ∷ Ret (call_in 2 5) None ∷ Return 1 Accepted ∷ Begin 2 ∷ Return 2 Accepted ∷ Begin 3 ∷ Return 3 Accepted ∷ Begin 4 ∷ Enter (call_in 0 1) Normal (record { 0 = 62 }) None ∷ Refuse (call_in 0 1) (record { 0 = 3 }) ByPid ∷ Body (call_in 0 1) (record { 0 = 62 }) ByList ∷ Return 4 Accepted ∷ Begin 5 ∷ Leave (call_in 0 1) ∷ Return 5 NotThere ∷ Ret (call_in 0 1) None ∷ []

pub job_2081-plays : Plays job_2081 job_2081-items false
unfolding actors_of repeated start step run played play all_end control_next control_got cpu_next cpu_got insn moves desk
job_2081-plays = (refl, refl)

abbrev pub job_3010 : Job
job_3010 = record { version = 1; functions = named (codes "a") (Some (codes "m")) ∷ named (codes "b") None ∷ named (codes "c") None ∷ []; users = record { name = codes "u0"; kind = Fprobe true true; regs = false; ipmodify = None; pid = true; act = Some (CallIn (record { 0 = 0 })) } ∷ record { name = codes "u1"; kind = Profile; regs = true; ipmodify = None; pid = true; act = Some (CallIn (record { 0 = 0 })) } ∷ record { name = codes "u2"; kind = Function; regs = true; ipmodify = Some (record { 0 = 2 }); pid = true; act = None } ∷ record { name = codes "u3"; kind = Fprobe false false; regs = true; ipmodify = None; pid = true; act = Some (CallIn (record { 0 = 1 })) } ∷ []; frames = 50; tramps = 1; quanta = 15 ∷ []; tasks = record { pid = 10; cpu = 0; acts = Raise Nmi ∷ Call (record { 0 = 0 }) ∷ RetAct ∷ Lower ∷ [] } ∷ record { pid = 11; cpu = 0; acts = Call (record { 0 = 1 }) ∷ Call (record { 0 = 1 }) ∷ RetAct ∷ Call (record { 0 = 2 }) ∷ After 1 ∷ Call (record { 0 = 2 }) ∷ RetAct ∷ RetAct ∷ RetAct ∷ [] } ∷ []; ctls = Run (Unregister 0) ∷ Run (Register 1) ∷ Run (Unregister 1) ∷ Run (Disable 0) ∷ []; lines = usual_lines; rings = usual_rings; schedule = record { who = OfControl; count = 2 } ∷ record { who = OfControl; count = 2 } ∷ record { who = OfCpu (record { 0 = 0 }); count = 1 } ∷ record { who = OfCpu (record { 0 = 0 }); count = 1 } ∷ record { who = OfControl; count = 1 } ∷ record { who = OfControl; count = 3 } ∷ record { who = OfControl; count = 1 } ∷ record { who = OfControl; count = 1 } ∷ record { who = OfCpu (record { 0 = 0 }); count = 2 } ∷ record { who = OfControl; count = 3 } ∷ record { who = OfControl; count = 2 } ∷ record { who = OfControl; count = 1 } ∷ record { who = OfControl; count = 2 } ∷ record { who = All; count = 300 } ∷ [] }

abbrev pub job_3010-items : List Item
job_3010-items = Begin 1 ∷ Return 1 NotThere ∷ Begin 2 ∷ Enter (call_in 0 1) Nmi (record { 0 = 0 }) None ∷ Back (call_in 0 1) (record { 0 = 1 }) ∷ Enter (call_in 0 2) Nmi (record { 0 = 0 }) (Some (call_in 0 1)) ∷ Enter (call_in 1 1) Normal (record { 0 = 1 }) None ∷ Back (call_in 1 1) (record { 0 = 1 }) ∷ Enter (call_in 1 2) Normal (record { 0 = 0 }) (Some (call_in 1 1)) ∷ Refuse (call_in 0 2) (record { 0 = 1 }) Recursion ∷ Body (call_in 0 2) (record { 0 = 0 }) (Own (record { 0 = 1 })) ∷ Leave (call_in 0 2) ∷ Ret (call_in 0 2) (Some (call_in 0 1)) ∷ BackEnd (call_in 0 1) (record { 0 = 1 }) ∷ Body (call_in 0 1) (record { 0 = 0 }) (Own (record { 0 = 1 })) ∷ Leave (call_in 0 1) ∷ Exit (call_in 0 1) (record { 0 = 1 }) 4 ∷ ExitEnd (call_in 0 1) (record { 0 = 1 }) ∷ Refuse (call_in 1 2) (record { 0 = 1 }) Recursion ∷ Body (call_in 1 2) (record { 0 = 0 }) (Own (record { 0 = 1 })) ∷ Leave (call_in 1 2) ∷ Ret (call_in 1 2) (Some (call_in 1 1)) ∷ BackEnd (call_in 1 1) (record { 0 = 1 }) ∷ Body (call_in 1 1) (record { 0 = 1 }) (Own (record { 0 = 1 })) ∷ Return 2 Accepted ∷ Enter (call_in 1 3) Normal (record { 0 = 1 }) (Some (call_in 1 1)) ∷ Begin 3 ∷ Ret (call_in 0 1) None ∷ Body (call_in 1 3) (record { 0 = 1 }) (Own (record { 0 = 1 })) ∷ Leave (call_in 1 3) ∷ Ret (call_in 1 3) (Some (call_in 1 1)) ∷ Enter (call_in 1 4) Normal (record { 0 = 2 }) (Some (call_in 1 1)) ∷ Body (call_in 1 4) (record { 0 = 2 }) Nop ∷ Enter (call_in 1 5) Normal (record { 0 = 2 }) (Some (call_in 1 4)) ∷ Body (call_in 1 5) (record { 0 = 2 }) Nop ∷ Leave (call_in 1 5) ∷ Ret (call_in 1 5) (Some (call_in 1 4)) ∷ Leave (call_in 1 4) ∷ Ret (call_in 1 4) (Some (call_in 1 1)) ∷ Return 3 Accepted ∷ Begin 4 ∷ Return 4 NotThere ∷ Leave (call_in 1 1) ∷ Ret (call_in 1 1) None ∷ []

pub job_3010-plays : Plays job_3010 job_3010-items true
unfolding actors_of repeated start step run played play all_end control_next control_got cpu_next cpu_got insn moves desk
job_3010-plays = (refl, refl)

abbrev pub job_3018 : Job
job_3018 = record { version = 1; functions = named (codes "a") None ∷ named (codes "b") (Some (codes "m")) ∷ named (codes "c") None ∷ named (codes "d") None ∷ []; users = record { name = codes "u0"; kind = Function; regs = true; ipmodify = None; pid = true; act = Some (CallIn (record { 0 = 0 })) } ∷ []; frames = 2; tramps = 0; quanta = 1 ∷ []; tasks = record { pid = 10; cpu = 0; acts = Call (record { 0 = 2 }) ∷ Raise Irq ∷ Raise Nmi ∷ Call (record { 0 = 1 }) ∷ RetAct ∷ Lower ∷ Lower ∷ RetAct ∷ [] } ∷ record { pid = 11; cpu = 0; acts = After 1 ∷ Raise Irq ∷ Raise Nmi ∷ Call (record { 0 = 2 }) ∷ Call (record { 0 = 2 }) ∷ RetAct ∷ RetAct ∷ Lower ∷ Lower ∷ [] } ∷ []; ctls = Run (Register 0) ∷ Run (Register 0) ∷ Run (MaxDepth 2) ∷ Until 1 1 ∷ Run (Pid (true ∷ false ∷ [])) ∷ Run (Register 0) ∷ Run (Register 0) ∷ Run (Register 0) ∷ []; lines = usual_lines; rings = usual_rings; schedule = record { who = OfControl; count = 2 } ∷ record { who = OfControl; count = 31 } ∷ record { who = OfControl; count = 16 } ∷ record { who = OfControl; count = 37 } ∷ record { who = OfCpu (record { 0 = 0 }); count = 45 } ∷ record { who = OfControl; count = 19 } ∷ record { who = OfControl; count = 6 } ∷ record { who = All; count = 300 } ∷ [] }

abbrev pub job_3018-items : List Item
job_3018-items = Begin 1 ∷ Enter (call_in 0 1) Normal (record { 0 = 2 }) None ∷ Back (call_in 0 1) (record { 0 = 0 }) ∷ Enter (call_in 0 2) Normal (record { 0 = 0 }) (Some (call_in 0 1)) ∷ Refuse (call_in 0 2) (record { 0 = 0 }) Recursion ∷ Body (call_in 0 2) (record { 0 = 0 }) ByList ∷ Leave (call_in 0 2) ∷ Ret (call_in 0 2) (Some (call_in 0 1)) ∷ BackEnd (call_in 0 1) (record { 0 = 0 }) ∷ Body (call_in 0 1) (record { 0 = 2 }) ByList ∷ Return 1 Accepted ∷ Begin 2 ∷ Return 2 Already ∷ Begin 3 ∷ Enter (call_in 0 3) Nmi (record { 0 = 1 }) (Some (call_in 0 1)) ∷ Return 3 Accepted ∷ Begin 4 ∷ Enter (call_in 1 1) Nmi (record { 0 = 2 }) None ∷ Back (call_in 0 3) (record { 0 = 0 }) ∷ Enter (call_in 0 4) Nmi (record { 0 = 0 }) (Some (call_in 0 3)) ∷ Refuse (call_in 1 1) (record { 0 = 0 }) ByPid ∷ Body (call_in 1 1) (record { 0 = 2 }) ByList ∷ Enter (call_in 1 2) Nmi (record { 0 = 2 }) (Some (call_in 1 1)) ∷ Refuse (call_in 0 4) (record { 0 = 0 }) Recursion ∷ Body (call_in 0 4) (record { 0 = 0 }) ByList ∷ Leave (call_in 0 4) ∷ Ret (call_in 0 4) (Some (call_in 0 3)) ∷ BackEnd (call_in 0 3) (record { 0 = 0 }) ∷ Refuse (call_in 1 2) (record { 0 = 0 }) ByPid ∷ Body (call_in 0 3) (record { 0 = 1 }) ByList ∷ Body (call_in 1 2) (record { 0 = 2 }) ByList ∷ Return 4 Accepted ∷ Leave (call_in 0 3) ∷ Begin 5 ∷ Leave (call_in 1 2) ∷ Return 5 Already ∷ Ret (call_in 0 3) (Some (call_in 0 1)) ∷ Begin 6 ∷ Ret (call_in 1 2) (Some (call_in 1 1)) ∷ Return 6 Already ∷ Begin 7 ∷ Return 7 Already ∷ Leave (call_in 1 1) ∷ Ret (call_in 1 1) None ∷ Leave (call_in 0 1) ∷ Ret (call_in 0 1) None ∷ []

pub job_3018-plays : Plays job_3018 job_3018-items true
unfolding actors_of repeated start step run played play all_end control_next control_got cpu_next cpu_got insn moves desk
job_3018-plays = (refl, refl)

abbrev pub job_3029 : Job
job_3029 = record { version = 1; functions = named (codes "a") None ∷ named (codes "b") (Some (codes "m")) ∷ []; users = record { name = codes "u0"; kind = Function; regs = true; ipmodify = None; pid = true; act = None } ∷ record { name = codes "u1"; kind = Function; regs = true; ipmodify = None; pid = true; act = Some (CallIn (record { 0 = 1 })) } ∷ record { name = codes "u2"; kind = Profile; regs = false; ipmodify = None; pid = true; act = Some (IrqIn (record { 0 = 0 })) } ∷ record { name = codes "u3"; kind = Fprobe true false; regs = true; ipmodify = None; pid = true; act = None } ∷ []; frames = 2; tramps = 16; quanta = 1 ∷ []; tasks = record { pid = 10; cpu = 0; acts = Raise Nmi ∷ Call (record { 0 = 1 }) ∷ RetAct ∷ Lower ∷ [] } ∷ record { pid = 11; cpu = 0; acts = After 4 ∷ Raise Irq ∷ Call (record { 0 = 1 }) ∷ Raise Nmi ∷ After 4 ∷ Lower ∷ Call (record { 0 = 1 }) ∷ After 4 ∷ After 2 ∷ RetAct ∷ RetAct ∷ Lower ∷ [] } ∷ record { pid = 12; cpu = 0; acts = Call (record { 0 = 0 }) ∷ Call (record { 0 = 1 }) ∷ Call (record { 0 = 1 }) ∷ RetAct ∷ RetAct ∷ RetAct ∷ [] } ∷ []; ctls = Run (Filter 2 (record { append = false; remove = true; clear = false; set = false ∷ true ∷ [] })) ∷ Run (NoPid (true ∷ true ∷ true ∷ [])) ∷ Run (Notrace 1 (record { append = true; remove = true; clear = false; set = true ∷ false ∷ [] })) ∷ Run (MaxDepth 1) ∷ Run (Pid (false ∷ false ∷ true ∷ [])) ∷ []; lines = usual_lines; rings = usual_rings; schedule = record { who = OfCpu (record { 0 = 0 }); count = 2 } ∷ record { who = OfControl; count = 2 } ∷ record { who = OfControl; count = 1 } ∷ record { who = OfControl; count = 2 } ∷ record { who = OfCpu (record { 0 = 0 }); count = 1 } ∷ record { who = OfCpu (record { 0 = 0 }); count = 1 } ∷ record { who = OfControl; count = 1 } ∷ record { who = OfControl; count = 3 } ∷ record { who = OfControl; count = 2 } ∷ record { who = OfCpu (record { 0 = 0 }); count = 2 } ∷ record { who = OfCpu (record { 0 = 0 }); count = 1 } ∷ record { who = OfControl; count = 3 } ∷ record { who = OfCpu (record { 0 = 0 }); count = 3 } ∷ record { who = OfControl; count = 3 } ∷ record { who = OfControl; count = 1 } ∷ record { who = OfControl; count = 2 } ∷ record { who = All; count = 300 } ∷ [] }

abbrev pub job_3029-items : List Item
job_3029-items = Begin 1 ∷ Return 1 Accepted ∷ Begin 2 ∷ Return 2 Accepted ∷ Begin 3 ∷ Return 3 Accepted ∷ Begin 4 ∷ Enter (call_in 2 1) Normal (record { 0 = 0 }) None ∷ Enter (call_in 0 1) Nmi (record { 0 = 1 }) None ∷ Body (call_in 2 1) (record { 0 = 0 }) Nop ∷ Body (call_in 0 1) (record { 0 = 1 }) Nop ∷ Return 4 Accepted ∷ Begin 5 ∷ Enter (call_in 2 2) Normal (record { 0 = 1 }) (Some (call_in 2 1)) ∷ Leave (call_in 0 1) ∷ Ret (call_in 0 1) None ∷ Body (call_in 2 2) (record { 0 = 1 }) Nop ∷ Enter (call_in 1 1) Irq (record { 0 = 1 }) None ∷ Return 5 Accepted ∷ Enter (call_in 2 3) Normal (record { 0 = 1 }) (Some (call_in 2 2)) ∷ Body (call_in 1 1) (record { 0 = 1 }) Nop ∷ Body (call_in 2 3) (record { 0 = 1 }) Nop ∷ Leave (call_in 2 3) ∷ Ret (call_in 2 3) (Some (call_in 2 2)) ∷ Enter (call_in 1 2) Irq (record { 0 = 1 }) (Some (call_in 1 1)) ∷ Leave (call_in 2 2) ∷ Ret (call_in 2 2) (Some (call_in 2 1)) ∷ Body (call_in 1 2) (record { 0 = 1 }) Nop ∷ Leave (call_in 2 1) ∷ Ret (call_in 2 1) None ∷ Leave (call_in 1 2) ∷ Ret (call_in 1 2) (Some (call_in 1 1)) ∷ Leave (call_in 1 1) ∷ Ret (call_in 1 1) None ∷ []

pub job_3029-plays : Plays job_3029 job_3029-items true
unfolding actors_of repeated start step run played play all_end control_next control_got cpu_next cpu_got insn moves desk
job_3029-plays = (refl, refl)

abbrev pub job_3031 : Job
job_3031 = record { version = 1; functions = named (codes "a") (Some (codes "m")) ∷ named (codes "b") None ∷ named (codes "c") None ∷ named (codes "d") (Some (codes "m")) ∷ []; users = record { name = codes "u0"; kind = Fprobe false false; regs = true; ipmodify = None; pid = true; act = None } ∷ []; frames = 50; tramps = 0; quanta = 3 ∷ 15 ∷ []; tasks = record { pid = 10; cpu = 1; acts = Raise Irq ∷ Call (record { 0 = 1 }) ∷ RetAct ∷ Call (record { 0 = 0 }) ∷ Call (record { 0 = 1 }) ∷ RetAct ∷ RetAct ∷ Lower ∷ [] } ∷ record { pid = 11; cpu = 1; acts = After 4 ∷ Raise Irq ∷ Call (record { 0 = 0 }) ∷ Call (record { 0 = 3 }) ∷ RetAct ∷ RetAct ∷ Lower ∷ Call (record { 0 = 2 }) ∷ Raise Softirq ∷ Raise Irq ∷ Lower ∷ Call (record { 0 = 2 }) ∷ RetAct ∷ Lower ∷ RetAct ∷ [] } ∷ record { pid = 12; cpu = 0; acts = Raise Nmi ∷ Call (record { 0 = 2 }) ∷ RetAct ∷ Lower ∷ [] } ∷ []; ctls = Until 2 1 ∷ Run (Register 0) ∷ Run (Register 0) ∷ Run (Pid (false ∷ true ∷ false ∷ [])) ∷ Run (Disable 0) ∷ []; lines = usual_lines; rings = usual_rings; schedule = record { who = OfCpu (record { 0 = 1 }); count = 29 } ∷ record { who = OfCpu (record { 0 = 0 }); count = 10 } ∷ record { who = OfCpu (record { 0 = 0 }); count = 17 } ∷ record { who = OfControl; count = 33 } ∷ record { who = OfCpu (record { 0 = 0 }); count = 4 } ∷ record { who = OfCpu (record { 0 = 1 }); count = 35 } ∷ record { who = OfCpu (record { 0 = 1 }); count = 1 } ∷ record { who = OfCpu (record { 0 = 1 }); count = 36 } ∷ record { who = OfCpu (record { 0 = 0 }); count = 36 } ∷ record { who = OfCpu (record { 0 = 0 }); count = 18 } ∷ record { who = OfControl; count = 36 } ∷ record { who = OfControl; count = 40 } ∷ record { who = OfControl; count = 12 } ∷ record { who = OfControl; count = 24 } ∷ record { who = OfCpu (record { 0 = 0 }); count = 23 } ∷ record { who = OfCpu (record { 0 = 1 }); count = 24 } ∷ record { who = OfControl; count = 31 } ∷ record { who = OfCpu (record { 0 = 0 }); count = 26 } ∷ record { who = OfCpu (record { 0 = 1 }); count = 24 } ∷ record { who = OfControl; count = 20 } ∷ record { who = All; count = 300 } ∷ [] }

abbrev pub job_3031-items : List Item
job_3031-items = Enter (call_in 0 1) Irq (record { 0 = 1 }) None ∷ Body (call_in 0 1) (record { 0 = 1 }) Nop ∷ Leave (call_in 0 1) ∷ Ret (call_in 0 1) None ∷ Enter (call_in 0 2) Irq (record { 0 = 0 }) None ∷ Body (call_in 0 2) (record { 0 = 0 }) Nop ∷ Enter (call_in 0 3) Irq (record { 0 = 1 }) (Some (call_in 0 2)) ∷ Body (call_in 0 3) (record { 0 = 1 }) Nop ∷ Leave (call_in 0 3) ∷ Ret (call_in 0 3) (Some (call_in 0 2)) ∷ Enter (call_in 2 1) Nmi (record { 0 = 2 }) None ∷ Body (call_in 2 1) (record { 0 = 2 }) Nop ∷ Leave (call_in 2 1) ∷ Ret (call_in 2 1) None ∷ Begin 1 ∷ Leave (call_in 0 2) ∷ Ret (call_in 0 2) None ∷ Return 1 Accepted ∷ Begin 2 ∷ Return 2 Already ∷ Begin 3 ∷ Return 3 Accepted ∷ Begin 4 ∷ Return 4 Accepted ∷ Enter (call_in 1 1) Irq (record { 0 = 0 }) None ∷ Body (call_in 1 1) (record { 0 = 0 }) ByList ∷ Enter (call_in 1 2) Irq (record { 0 = 3 }) (Some (call_in 1 1)) ∷ Body (call_in 1 2) (record { 0 = 3 }) ByList ∷ Leave (call_in 1 2) ∷ Ret (call_in 1 2) (Some (call_in 1 1)) ∷ Leave (call_in 1 1) ∷ Ret (call_in 1 1) None ∷ Enter (call_in 1 3) Normal (record { 0 = 2 }) None ∷ Body (call_in 1 3) (record { 0 = 2 }) ByList ∷ Enter (call_in 1 4) Softirq (record { 0 = 2 }) (Some (call_in 1 3)) ∷ Body (call_in 1 4) (record { 0 = 2 }) ByList ∷ Leave (call_in 1 4) ∷ Ret (call_in 1 4) (Some (call_in 1 3)) ∷ Leave (call_in 1 3) ∷ Ret (call_in 1 3) None ∷ []

pub job_3031-plays : Plays job_3031 job_3031-items true
unfolding actors_of repeated start step run played play all_end control_next control_got cpu_next cpu_got insn moves desk
job_3031-plays = (refl, refl)

abbrev pub job_3039 : Job
job_3039 = record { version = 1; functions = named (codes "a") None ∷ []; users = record { name = codes "u0"; kind = Profile; regs = true; ipmodify = None; pid = true; act = Some (CallIn (record { 0 = 0 })) } ∷ record { name = codes "u1"; kind = Fprobe true true; regs = true; ipmodify = None; pid = true; act = Some (CallIn (record { 0 = 0 })) } ∷ record { name = codes "u2"; kind = Function; regs = false; ipmodify = None; pid = true; act = Some (IrqIn (record { 0 = 0 })) } ∷ []; frames = 3; tramps = 0; quanta = 15 ∷ 15 ∷ []; tasks = record { pid = 10; cpu = 0; acts = After 3 ∷ Call (record { 0 = 0 }) ∷ Call (record { 0 = 0 }) ∷ RetAct ∷ Call (record { 0 = 0 }) ∷ Call (record { 0 = 0 }) ∷ RetAct ∷ RetAct ∷ RetAct ∷ [] } ∷ []; ctls = Run (Register 0) ∷ Run (Register 0) ∷ Run (Register 0) ∷ Until 0 3 ∷ Run (Enable 0) ∷ Run (MaxDepth 2) ∷ []; lines = usual_lines; rings = usual_rings; schedule = record { who = OfControl; count = 8 } ∷ record { who = OfCpu (record { 0 = 1 }); count = 1 } ∷ record { who = OfCpu (record { 0 = 0 }); count = 2 } ∷ record { who = OfCpu (record { 0 = 0 }); count = 5 } ∷ record { who = OfControl; count = 1 } ∷ record { who = OfControl; count = 7 } ∷ record { who = OfCpu (record { 0 = 1 }); count = 2 } ∷ record { who = OfControl; count = 6 } ∷ record { who = OfControl; count = 1 } ∷ record { who = OfCpu (record { 0 = 0 }); count = 6 } ∷ record { who = OfCpu (record { 0 = 0 }); count = 6 } ∷ record { who = OfCpu (record { 0 = 1 }); count = 5 } ∷ record { who = OfControl; count = 2 } ∷ record { who = OfCpu (record { 0 = 1 }); count = 5 } ∷ record { who = OfCpu (record { 0 = 1 }); count = 2 } ∷ record { who = OfControl; count = 2 } ∷ record { who = OfCpu (record { 0 = 0 }); count = 8 } ∷ record { who = OfControl; count = 2 } ∷ record { who = OfControl; count = 5 } ∷ record { who = OfCpu (record { 0 = 1 }); count = 3 } ∷ record { who = OfCpu (record { 0 = 1 }); count = 1 } ∷ record { who = OfCpu (record { 0 = 0 }); count = 1 } ∷ record { who = OfCpu (record { 0 = 0 }); count = 2 } ∷ record { who = OfCpu (record { 0 = 0 }); count = 2 } ∷ record { who = OfCpu (record { 0 = 0 }); count = 7 } ∷ record { who = OfCpu (record { 0 = 0 }); count = 7 } ∷ record { who = OfCpu (record { 0 = 0 }); count = 8 } ∷ record { who = All; count = 300 } ∷ [] }

abbrev pub job_3039-items : List Item
job_3039-items = Begin 1 ∷ Return 1 Accepted ∷ Begin 2 ∷ Return 2 Already ∷ Begin 3 ∷ Return 3 Already ∷ Enter (call_in 0 1) Normal (record { 0 = 0 }) None ∷ Back (call_in 0 1) (record { 0 = 0 }) ∷ Enter (call_in 0 2) Normal (record { 0 = 0 }) (Some (call_in 0 1)) ∷ Refuse (call_in 0 2) (record { 0 = 0 }) Recursion ∷ Body (call_in 0 2) (record { 0 = 0 }) ByList ∷ Leave (call_in 0 2) ∷ Ret (call_in 0 2) (Some (call_in 0 1)) ∷ BackEnd (call_in 0 1) (record { 0 = 0 }) ∷ Body (call_in 0 1) (record { 0 = 0 }) ByList ∷ Enter (call_in 0 3) Normal (record { 0 = 0 }) (Some (call_in 0 1)) ∷ Back (call_in 0 3) (record { 0 = 0 }) ∷ Enter (call_in 0 4) Normal (record { 0 = 0 }) (Some (call_in 0 3)) ∷ Refuse (call_in 0 4) (record { 0 = 0 }) Recursion ∷ Body (call_in 0 4) (record { 0 = 0 }) ByList ∷ Leave (call_in 0 4) ∷ Ret (call_in 0 4) (Some (call_in 0 3)) ∷ BackEnd (call_in 0 3) (record { 0 = 0 }) ∷ Body (call_in 0 3) (record { 0 = 0 }) ByList ∷ Leave (call_in 0 3) ∷ Begin 4 ∷ Return 4 Invalid ∷ Exit (call_in 0 3) (record { 0 = 0 }) 16 ∷ Begin 5 ∷ ExitEnd (call_in 0 3) (record { 0 = 0 }) ∷ Ret (call_in 0 3) (Some (call_in 0 1)) ∷ Enter (call_in 0 5) Normal (record { 0 = 0 }) (Some (call_in 0 1)) ∷ Return 5 Accepted ∷ Back (call_in 0 5) (record { 0 = 0 }) ∷ Enter (call_in 0 6) Normal (record { 0 = 0 }) (Some (call_in 0 5)) ∷ Refuse (call_in 0 6) (record { 0 = 0 }) Recursion ∷ Body (call_in 0 6) (record { 0 = 0 }) ByList ∷ Leave (call_in 0 6) ∷ Ret (call_in 0 6) (Some (call_in 0 5)) ∷ BackEnd (call_in 0 5) (record { 0 = 0 }) ∷ Body (call_in 0 5) (record { 0 = 0 }) ByList ∷ Enter (call_in 0 7) Normal (record { 0 = 0 }) (Some (call_in 0 5)) ∷ Refuse (call_in 0 7) (record { 0 = 0 }) Depth ∷ Body (call_in 0 7) (record { 0 = 0 }) ByList ∷ Leave (call_in 0 7) ∷ Ret (call_in 0 7) (Some (call_in 0 5)) ∷ Leave (call_in 0 5) ∷ Exit (call_in 0 5) (record { 0 = 0 }) 33 ∷ ExitEnd (call_in 0 5) (record { 0 = 0 }) ∷ Ret (call_in 0 5) (Some (call_in 0 1)) ∷ Leave (call_in 0 1) ∷ Exit (call_in 0 1) (record { 0 = 0 }) 7 ∷ ExitEnd (call_in 0 1) (record { 0 = 0 }) ∷ Ret (call_in 0 1) None ∷ []

pub job_3039-plays : Plays job_3039 job_3039-items true
unfolding actors_of repeated start step run played play all_end control_next control_got cpu_next cpu_got insn moves desk
job_3039-plays = (refl, refl)

abbrev pub job_3041 : Job
job_3041 = record { version = 1; functions = named (codes "a") None ∷ []; users = record { name = codes "u0"; kind = Fprobe true false; regs = true; ipmodify = None; pid = true; act = Some (CallIn (record { 0 = 0 })) } ∷ []; frames = 50; tramps = 16; quanta = 7 ∷ 1 ∷ []; tasks = record { pid = 10; cpu = 1; acts = After 2 ∷ Call (record { 0 = 0 }) ∷ Call (record { 0 = 0 }) ∷ Call (record { 0 = 0 }) ∷ Call (record { 0 = 0 }) ∷ RetAct ∷ RetAct ∷ RetAct ∷ RetAct ∷ [] } ∷ record { pid = 11; cpu = 1; acts = Call (record { 0 = 0 }) ∷ Call (record { 0 = 0 }) ∷ RetAct ∷ Call (record { 0 = 0 }) ∷ RetAct ∷ After 3 ∷ Call (record { 0 = 0 }) ∷ RetAct ∷ Call (record { 0 = 0 }) ∷ RetAct ∷ RetAct ∷ [] } ∷ record { pid = 12; cpu = 0; acts = Call (record { 0 = 0 }) ∷ Call (record { 0 = 0 }) ∷ Call (record { 0 = 0 }) ∷ RetAct ∷ RetAct ∷ RetAct ∷ [] } ∷ []; ctls = Run (Register 0) ∷ Run (Register 0) ∷ Run (Register 0) ∷ []; lines = usual_lines; rings = usual_rings; schedule = record { who = OfControl; count = 2 } ∷ record { who = OfControl; count = 2 } ∷ record { who = OfCpu (record { 0 = 1 }); count = 3 } ∷ record { who = OfCpu (record { 0 = 1 }); count = 1 } ∷ record { who = OfControl; count = 1 } ∷ record { who = OfCpu (record { 0 = 0 }); count = 3 } ∷ record { who = OfControl; count = 3 } ∷ record { who = OfCpu (record { 0 = 0 }); count = 2 } ∷ record { who = OfCpu (record { 0 = 1 }); count = 3 } ∷ record { who = OfCpu (record { 0 = 1 }); count = 3 } ∷ record { who = OfCpu (record { 0 = 1 }); count = 3 } ∷ record { who = OfCpu (record { 0 = 0 }); count = 1 } ∷ record { who = OfCpu (record { 0 = 0 }); count = 1 } ∷ record { who = OfCpu (record { 0 = 0 }); count = 3 } ∷ record { who = OfCpu (record { 0 = 0 }); count = 3 } ∷ record { who = OfCpu (record { 0 = 0 }); count = 1 } ∷ record { who = OfCpu (record { 0 = 1 }); count = 3 } ∷ record { who = OfCpu (record { 0 = 0 }); count = 3 } ∷ record { who = OfCpu (record { 0 = 0 }); count = 3 } ∷ record { who = All; count = 300 } ∷ [] }

abbrev pub job_3041-items : List Item
job_3041-items = Begin 1 ∷ Enter (call_in 1 1) Normal (record { 0 = 0 }) None ∷ Enter (call_in 2 1) Normal (record { 0 = 0 }) None ∷ Body (call_in 2 1) (record { 0 = 0 }) Nop ∷ Body (call_in 1 1) (record { 0 = 0 }) Nop ∷ Enter (call_in 2 2) Normal (record { 0 = 0 }) (Some (call_in 2 1)) ∷ Body (call_in 2 2) (record { 0 = 0 }) Nop ∷ Enter (call_in 2 3) Normal (record { 0 = 0 }) (Some (call_in 2 2)) ∷ Enter (call_in 1 2) Normal (record { 0 = 0 }) (Some (call_in 1 1)) ∷ Body (call_in 2 3) (record { 0 = 0 }) Nop ∷ Leave (call_in 2 3) ∷ Ret (call_in 2 3) (Some (call_in 2 2)) ∷ Body (call_in 1 2) (record { 0 = 0 }) Nop ∷ Leave (call_in 2 2) ∷ Ret (call_in 2 2) (Some (call_in 2 1)) ∷ Leave (call_in 2 1) ∷ Ret (call_in 2 1) None ∷ Leave (call_in 1 2) ∷ Ret (call_in 1 2) (Some (call_in 1 1)) ∷ Return 1 Accepted ∷ Begin 2 ∷ Return 2 Already ∷ Enter (call_in 1 3) Normal (record { 0 = 0 }) (Some (call_in 1 1)) ∷ Begin 3 ∷ Return 3 Already ∷ Enter (call_in 0 1) Normal (record { 0 = 0 }) None ∷ Back (call_in 1 3) (record { 0 = 0 }) ∷ Enter (call_in 1 4) Normal (record { 0 = 0 }) (Some (call_in 1 3)) ∷ Back (call_in 0 1) (record { 0 = 0 }) ∷ Enter (call_in 0 2) Normal (record { 0 = 0 }) (Some (call_in 0 1)) ∷ Refuse (call_in 1 4) (record { 0 = 0 }) Recursion ∷ Body (call_in 1 4) (record { 0 = 0 }) (Own (record { 0 = 0 })) ∷ Leave (call_in 1 4) ∷ Refuse (call_in 0 2) (record { 0 = 0 }) Recursion ∷ Ret (call_in 1 4) (Some (call_in 1 3)) ∷ Body (call_in 0 2) (record { 0 = 0 }) (Own (record { 0 = 0 })) ∷ BackEnd (call_in 1 3) (record { 0 = 0 }) ∷ Leave (call_in 0 2) ∷ Body (call_in 1 3) (record { 0 = 0 }) (Own (record { 0 = 0 })) ∷ Ret (call_in 0 2) (Some (call_in 0 1)) ∷ BackEnd (call_in 0 1) (record { 0 = 0 }) ∷ Leave (call_in 1 3) ∷ Body (call_in 0 1) (record { 0 = 0 }) (Own (record { 0 = 0 })) ∷ Exit (call_in 1 3) (record { 0 = 0 }) 26 ∷ Enter (call_in 0 3) Normal (record { 0 = 0 }) (Some (call_in 0 1)) ∷ ExitEnd (call_in 1 3) (record { 0 = 0 }) ∷ Ret (call_in 1 3) (Some (call_in 1 1)) ∷ Back (call_in 0 3) (record { 0 = 0 }) ∷ Enter (call_in 1 5) Normal (record { 0 = 0 }) (Some (call_in 1 1)) ∷ Enter (call_in 0 4) Normal (record { 0 = 0 }) (Some (call_in 0 3)) ∷ Back (call_in 1 5) (record { 0 = 0 }) ∷ Refuse (call_in 0 4) (record { 0 = 0 }) Recursion ∷ Enter (call_in 1 6) Normal (record { 0 = 0 }) (Some (call_in 1 5)) ∷ Body (call_in 0 4) (record { 0 = 0 }) (Own (record { 0 = 0 })) ∷ Leave (call_in 0 4) ∷ Ret (call_in 0 4) (Some (call_in 0 3)) ∷ BackEnd (call_in 0 3) (record { 0 = 0 }) ∷ Body (call_in 0 3) (record { 0 = 0 }) (Own (record { 0 = 0 })) ∷ Refuse (call_in 1 6) (record { 0 = 0 }) Recursion ∷ Body (call_in 1 6) (record { 0 = 0 }) (Own (record { 0 = 0 })) ∷ Enter (call_in 0 5) Normal (record { 0 = 0 }) (Some (call_in 0 3)) ∷ Leave (call_in 1 6) ∷ Ret (call_in 1 6) (Some (call_in 1 5)) ∷ BackEnd (call_in 1 5) (record { 0 = 0 }) ∷ Body (call_in 1 5) (record { 0 = 0 }) (Own (record { 0 = 0 })) ∷ Back (call_in 0 5) (record { 0 = 0 }) ∷ Leave (call_in 1 5) ∷ Enter (call_in 0 6) Normal (record { 0 = 0 }) (Some (call_in 0 5)) ∷ Exit (call_in 1 5) (record { 0 = 0 }) 50 ∷ ExitEnd (call_in 1 5) (record { 0 = 0 }) ∷ Ret (call_in 1 5) (Some (call_in 1 1)) ∷ Refuse (call_in 0 6) (record { 0 = 0 }) Recursion ∷ Enter (call_in 1 7) Normal (record { 0 = 0 }) (Some (call_in 1 1)) ∷ Body (call_in 0 6) (record { 0 = 0 }) (Own (record { 0 = 0 })) ∷ Leave (call_in 0 6) ∷ Ret (call_in 0 6) (Some (call_in 0 5)) ∷ BackEnd (call_in 0 5) (record { 0 = 0 }) ∷ Body (call_in 0 5) (record { 0 = 0 }) (Own (record { 0 = 0 })) ∷ Back (call_in 1 7) (record { 0 = 0 }) ∷ Enter (call_in 1 8) Normal (record { 0 = 0 }) (Some (call_in 1 7)) ∷ Enter (call_in 0 7) Normal (record { 0 = 0 }) (Some (call_in 0 5)) ∷ Refuse (call_in 1 8) (record { 0 = 0 }) Recursion ∷ Back (call_in 0 7) (record { 0 = 0 }) ∷ Body (call_in 1 8) (record { 0 = 0 }) (Own (record { 0 = 0 })) ∷ Enter (call_in 0 8) Normal (record { 0 = 0 }) (Some (call_in 0 7)) ∷ Leave (call_in 1 8) ∷ Ret (call_in 1 8) (Some (call_in 1 7)) ∷ BackEnd (call_in 1 7) (record { 0 = 0 }) ∷ Body (call_in 1 7) (record { 0 = 0 }) (Own (record { 0 = 0 })) ∷ Refuse (call_in 0 8) (record { 0 = 0 }) Recursion ∷ Leave (call_in 1 7) ∷ Body (call_in 0 8) (record { 0 = 0 }) (Own (record { 0 = 0 })) ∷ Leave (call_in 0 8) ∷ Exit (call_in 1 7) (record { 0 = 0 }) 78 ∷ Ret (call_in 0 8) (Some (call_in 0 7)) ∷ ExitEnd (call_in 1 7) (record { 0 = 0 }) ∷ BackEnd (call_in 0 7) (record { 0 = 0 }) ∷ Ret (call_in 1 7) (Some (call_in 1 1)) ∷ Body (call_in 0 7) (record { 0 = 0 }) (Own (record { 0 = 0 })) ∷ Leave (call_in 1 1) ∷ Leave (call_in 0 7) ∷ Ret (call_in 1 1) None ∷ Exit (call_in 0 7) (record { 0 = 0 }) 82 ∷ ExitEnd (call_in 0 7) (record { 0 = 0 }) ∷ Ret (call_in 0 7) (Some (call_in 0 5)) ∷ Leave (call_in 0 5) ∷ Exit (call_in 0 5) (record { 0 = 0 }) 65 ∷ ExitEnd (call_in 0 5) (record { 0 = 0 }) ∷ Ret (call_in 0 5) (Some (call_in 0 3)) ∷ Leave (call_in 0 3) ∷ Exit (call_in 0 3) (record { 0 = 0 }) 47 ∷ ExitEnd (call_in 0 3) (record { 0 = 0 }) ∷ Ret (call_in 0 3) (Some (call_in 0 1)) ∷ Leave (call_in 0 1) ∷ Exit (call_in 0 1) (record { 0 = 0 }) 28 ∷ ExitEnd (call_in 0 1) (record { 0 = 0 }) ∷ Ret (call_in 0 1) None ∷ []

pub job_3041-plays : Plays job_3041 job_3041-items true
unfolding actors_of repeated start step run played play all_end control_next control_got cpu_next cpu_got insn moves desk
job_3041-plays = (refl, refl)

abbrev pub job_3047 : Job
job_3047 = record { version = 1; functions = named (codes "a") (Some (codes "m")) ∷ named (codes "b") (Some (codes "m")) ∷ named (codes "c") None ∷ []; users = record { name = codes "u0"; kind = Fprobe true true; regs = false; ipmodify = None; pid = true; act = None } ∷ record { name = codes "u1"; kind = Fprobe true false; regs = false; ipmodify = None; pid = true; act = None } ∷ []; frames = 1; tramps = 16; quanta = 15 ∷ 15 ∷ []; tasks = record { pid = 10; cpu = 1; acts = After 1 ∷ Raise Irq ∷ Call (record { 0 = 1 }) ∷ Call (record { 0 = 0 }) ∷ RetAct ∷ RetAct ∷ Lower ∷ [] } ∷ []; ctls = Run (Register 0) ∷ Run (Filter 0 (record { append = true; remove = false; clear = false; set = false ∷ false ∷ true ∷ [] })) ∷ Until 0 5 ∷ Run (Register 1) ∷ Run (Disable 1) ∷ Run (NoPid (true ∷ [])) ∷ Run (Register 1) ∷ Run (Register 1) ∷ []; lines = usual_lines; rings = usual_rings; schedule = record { who = OfControl; count = 13 } ∷ record { who = OfCpu (record { 0 = 0 }); count = 18 } ∷ record { who = OfCpu (record { 0 = 1 }); count = 19 } ∷ record { who = OfControl; count = 15 } ∷ record { who = OfControl; count = 19 } ∷ record { who = OfCpu (record { 0 = 1 }); count = 7 } ∷ record { who = OfControl; count = 10 } ∷ record { who = OfCpu (record { 0 = 1 }); count = 10 } ∷ record { who = All; count = 300 } ∷ [] }

abbrev pub job_3047-items : List Item
job_3047-items = Begin 1 ∷ Return 1 Accepted ∷ Begin 2 ∷ Enter (call_in 0 1) Irq (record { 0 = 1 }) None ∷ Back (call_in 0 1) (record { 0 = 0 }) ∷ BackEnd (call_in 0 1) (record { 0 = 0 }) ∷ Body (call_in 0 1) (record { 0 = 1 }) (Own (record { 0 = 0 })) ∷ Enter (call_in 0 2) Irq (record { 0 = 0 }) (Some (call_in 0 1)) ∷ Body (call_in 0 2) (record { 0 = 0 }) Nop ∷ Leave (call_in 0 2) ∷ Ret (call_in 0 2) (Some (call_in 0 1)) ∷ Leave (call_in 0 1) ∷ Ret (call_in 0 1) None ∷ Return 2 Accepted ∷ Begin 3 ∷ Return 3 Accepted ∷ Begin 4 ∷ Return 4 Accepted ∷ Begin 5 ∷ Return 5 Accepted ∷ Begin 6 ∷ Return 6 Already ∷ Begin 7 ∷ Return 7 Already ∷ []

pub job_3047-plays : Plays job_3047 job_3047-items true
unfolding actors_of repeated start step run played play all_end control_next control_got cpu_next cpu_got insn moves desk
job_3047-plays = (refl, refl)

abbrev pub job_3048 : Job
job_3048 = record { version = 1; functions = named (codes "a") None ∷ named (codes "b") (Some (codes "m")) ∷ []; users = record { name = codes "u0"; kind = Fprobe true false; regs = true; ipmodify = None; pid = true; act = Some (CallIn (record { 0 = 0 })) } ∷ record { name = codes "u1"; kind = Function; regs = true; ipmodify = Some (record { 0 = 1 }); pid = true; act = None } ∷ record { name = codes "u2"; kind = Fprobe false false; regs = false; ipmodify = None; pid = true; act = None } ∷ record { name = codes "u3"; kind = Profile; regs = false; ipmodify = None; pid = true; act = Some (IrqIn (record { 0 = 0 })) } ∷ []; frames = 2; tramps = 16; quanta = 15 ∷ []; tasks = record { pid = 10; cpu = 0; acts = Call (record { 0 = 1 }) ∷ RetAct ∷ Raise Nmi ∷ Call (record { 0 = 0 }) ∷ RetAct ∷ Lower ∷ [] } ∷ []; ctls = Run (Register 2) ∷ Run (Register 2) ∷ Run (Filter 1 (record { append = false; remove = false; clear = false; set = true ∷ false ∷ [] })) ∷ Run (MaxDepth 2) ∷ Run (Unregister 2) ∷ []; lines = usual_lines; rings = usual_rings; schedule = record { who = OfCpu (record { 0 = 0 }); count = 4 } ∷ record { who = OfCpu (record { 0 = 0 }); count = 2 } ∷ record { who = OfCpu (record { 0 = 0 }); count = 2 } ∷ record { who = OfCpu (record { 0 = 0 }); count = 7 } ∷ record { who = OfControl; count = 1 } ∷ record { who = OfCpu (record { 0 = 0 }); count = 1 } ∷ record { who = OfCpu (record { 0 = 0 }); count = 2 } ∷ record { who = All; count = 300 } ∷ [] }

abbrev pub job_3048-items : List Item
job_3048-items = Enter (call_in 0 1) Normal (record { 0 = 1 }) None ∷ Body (call_in 0 1) (record { 0 = 1 }) Nop ∷ Leave (call_in 0 1) ∷ Ret (call_in 0 1) None ∷ Enter (call_in 0 2) Nmi (record { 0 = 0 }) None ∷ Begin 1 ∷ Body (call_in 0 2) (record { 0 = 0 }) Nop ∷ Leave (call_in 0 2) ∷ Ret (call_in 0 2) None ∷ Return 1 Accepted ∷ Begin 2 ∷ Return 2 Already ∷ Begin 3 ∷ Return 3 Accepted ∷ Begin 4 ∷ Return 4 Accepted ∷ Begin 5 ∷ Return 5 Accepted ∷ []

pub job_3048-plays : Plays job_3048 job_3048-items true
unfolding actors_of repeated start step run played play all_end control_next control_got cpu_next cpu_got insn moves desk
job_3048-plays = (refl, refl)

abbrev pub job_3053 : Job
job_3053 = record { version = 1; functions = named (codes "a") None ∷ named (codes "b") (Some (codes "m")) ∷ named (codes "c") None ∷ named (codes "d") None ∷ []; users = record { name = codes "u0"; kind = Profile; regs = false; ipmodify = None; pid = true; act = None } ∷ record { name = codes "u1"; kind = Graph; regs = true; ipmodify = None; pid = false; act = Some (CallIn (record { 0 = 3 })) } ∷ []; frames = 2; tramps = 16; quanta = 1 ∷ []; tasks = record { pid = 10; cpu = 0; acts = After 1 ∷ Call (record { 0 = 1 }) ∷ Call (record { 0 = 2 }) ∷ Call (record { 0 = 0 }) ∷ RetAct ∷ RetAct ∷ RetAct ∷ [] } ∷ record { pid = 11; cpu = 0; acts = Raise Irq ∷ Raise Nmi ∷ Lower ∷ Lower ∷ [] } ∷ record { pid = 12; cpu = 0; acts = Call (record { 0 = 0 }) ∷ Call (record { 0 = 1 }) ∷ Call (record { 0 = 2 }) ∷ Call (record { 0 = 0 }) ∷ Call (record { 0 = 1 }) ∷ Raise Irq ∷ Raise Nmi ∷ Lower ∷ Lower ∷ RetAct ∷ RetAct ∷ RetAct ∷ RetAct ∷ RetAct ∷ [] } ∷ []; ctls = Run (Register 0) ∷ Until 1 1 ∷ Run (Register 1) ∷ Run (Register 1) ∷ Run (Disable 0) ∷ []; lines = usual_lines; rings = usual_rings; schedule = record { who = OfCpu (record { 0 = 0 }); count = 3 } ∷ record { who = OfCpu (record { 0 = 0 }); count = 1 } ∷ record { who = OfCpu (record { 0 = 0 }); count = 2 } ∷ record { who = OfCpu (record { 0 = 0 }); count = 3 } ∷ record { who = OfControl; count = 3 } ∷ record { who = OfCpu (record { 0 = 0 }); count = 1 } ∷ record { who = OfControl; count = 3 } ∷ record { who = OfControl; count = 3 } ∷ record { who = OfCpu (record { 0 = 0 }); count = 3 } ∷ record { who = OfCpu (record { 0 = 0 }); count = 1 } ∷ record { who = OfControl; count = 3 } ∷ record { who = OfCpu (record { 0 = 0 }); count = 2 } ∷ record { who = OfControl; count = 2 } ∷ record { who = OfControl; count = 3 } ∷ record { who = OfControl; count = 2 } ∷ record { who = OfCpu (record { 0 = 0 }); count = 1 } ∷ record { who = OfCpu (record { 0 = 0 }); count = 3 } ∷ record { who = OfControl; count = 1 } ∷ record { who = OfCpu (record { 0 = 0 }); count = 3 } ∷ record { who = OfControl; count = 3 } ∷ record { who = OfCpu (record { 0 = 0 }); count = 3 } ∷ record { who = All; count = 300 } ∷ [] }

abbrev pub job_3053-items : List Item
job_3053-items = Enter (call_in 2 1) Normal (record { 0 = 0 }) None ∷ Begin 1 ∷ Body (call_in 2 1) (record { 0 = 0 }) Nop ∷ Enter (call_in 2 2) Normal (record { 0 = 1 }) (Some (call_in 2 1)) ∷ Back (call_in 2 2) (record { 0 = 0 }) ∷ Return 1 Accepted ∷ BackEnd (call_in 2 2) (record { 0 = 0 }) ∷ Begin 2 ∷ Body (call_in 2 2) (record { 0 = 1 }) (Own (record { 0 = 0 })) ∷ Enter (call_in 0 1) Normal (record { 0 = 1 }) None ∷ Enter (call_in 2 3) Normal (record { 0 = 2 }) (Some (call_in 2 2)) ∷ Back (call_in 0 1) (record { 0 = 0 }) ∷ Back (call_in 2 3) (record { 0 = 0 }) ∷ BackEnd (call_in 0 1) (record { 0 = 0 }) ∷ BackEnd (call_in 2 3) (record { 0 = 0 }) ∷ Body (call_in 0 1) (record { 0 = 1 }) (Own (record { 0 = 0 })) ∷ Body (call_in 2 3) (record { 0 = 2 }) (Own (record { 0 = 0 })) ∷ Enter (call_in 0 2) Normal (record { 0 = 2 }) (Some (call_in 0 1)) ∷ Enter (call_in 2 4) Normal (record { 0 = 0 }) (Some (call_in 2 3)) ∷ Back (call_in 0 2) (record { 0 = 1 }) ∷ Refuse (call_in 2 4) (record { 0 = 1 }) Depth ∷ Enter (call_in 0 3) Normal (record { 0 = 3 }) (Some (call_in 0 2)) ∷ Refuse (call_in 0 3) (record { 0 = 1 }) Recursion ∷ Refuse (call_in 2 4) (record { 0 = 0 }) Depth ∷ Body (call_in 2 4) (record { 0 = 0 }) ByList ∷ Enter (call_in 2 5) Normal (record { 0 = 1 }) (Some (call_in 2 4)) ∷ Refuse (call_in 0 3) (record { 0 = 0 }) Recursion ∷ Body (call_in 0 3) (record { 0 = 3 }) ByList ∷ Leave (call_in 0 3) ∷ Ret (call_in 0 3) (Some (call_in 0 2)) ∷ BackEnd (call_in 0 2) (record { 0 = 1 }) ∷ Refuse (call_in 2 5) (record { 0 = 1 }) Depth ∷ Back (call_in 0 2) (record { 0 = 0 }) ∷ Refuse (call_in 2 5) (record { 0 = 0 }) Depth ∷ BackEnd (call_in 0 2) (record { 0 = 0 }) ∷ Body (call_in 2 5) (record { 0 = 1 }) ByList ∷ Body (call_in 0 2) (record { 0 = 2 }) ByList ∷ Return 2 Accepted ∷ Begin 3 ∷ Return 3 Already ∷ Begin 4 ∷ Return 4 Invalid ∷ Enter (call_in 0 4) Normal (record { 0 = 0 }) (Some (call_in 0 2)) ∷ Leave (call_in 2 5) ∷ Ret (call_in 2 5) (Some (call_in 2 4)) ∷ Refuse (call_in 0 4) (record { 0 = 1 }) Depth ∷ Leave (call_in 2 4) ∷ Ret (call_in 2 4) (Some (call_in 2 3)) ∷ Leave (call_in 2 3) ∷ Exit (call_in 2 3) (record { 0 = 0 }) 12 ∷ Refuse (call_in 0 4) (record { 0 = 0 }) Depth ∷ ExitEnd (call_in 2 3) (record { 0 = 0 }) ∷ Ret (call_in 2 3) (Some (call_in 2 2)) ∷ Body (call_in 0 4) (record { 0 = 0 }) ByList ∷ Leave (call_in 2 2) ∷ Leave (call_in 0 4) ∷ Ret (call_in 0 4) (Some (call_in 0 2)) ∷ Exit (call_in 2 2) (record { 0 = 0 }) 4 ∷ ExitEnd (call_in 2 2) (record { 0 = 0 }) ∷ Leave (call_in 0 2) ∷ Ret (call_in 2 2) (Some (call_in 2 1)) ∷ Exit (call_in 0 2) (record { 0 = 1 }) 19 ∷ Leave (call_in 2 1) ∷ ExitEnd (call_in 0 2) (record { 0 = 1 }) ∷ Ret (call_in 2 1) None ∷ Exit (call_in 0 2) (record { 0 = 0 }) 32 ∷ ExitEnd (call_in 0 2) (record { 0 = 0 }) ∷ Ret (call_in 0 2) (Some (call_in 0 1)) ∷ Leave (call_in 0 1) ∷ Exit (call_in 0 1) (record { 0 = 0 }) 11 ∷ ExitEnd (call_in 0 1) (record { 0 = 0 }) ∷ Ret (call_in 0 1) None ∷ []

pub job_3053-plays : Plays job_3053 job_3053-items true
unfolding actors_of repeated start step run played play all_end control_next control_got cpu_next cpu_got insn moves desk
job_3053-plays = (refl, refl)

abbrev pub job_3064 : Job
job_3064 = record { version = 1; functions = named (codes "a") None ∷ named (codes "b") None ∷ []; users = record { name = codes "u0"; kind = Fprobe true true; regs = false; ipmodify = None; pid = false; act = None } ∷ record { name = codes "u1"; kind = Profile; regs = false; ipmodify = None; pid = true; act = Some (CallIn (record { 0 = 0 })) } ∷ record { name = codes "u2"; kind = Fprobe false false; regs = false; ipmodify = None; pid = true; act = None } ∷ []; frames = 2; tramps = 16; quanta = 3 ∷ 7 ∷ []; tasks = record { pid = 10; cpu = 0; acts = After 2 ∷ After 2 ∷ [] } ∷ record { pid = 11; cpu = 1; acts = Raise Irq ∷ Lower ∷ Call (record { 0 = 1 }) ∷ Call (record { 0 = 0 }) ∷ Call (record { 0 = 1 }) ∷ RetAct ∷ RetAct ∷ RetAct ∷ [] } ∷ record { pid = 12; cpu = 0; acts = Raise Softirq ∷ Raise Irq ∷ Lower ∷ Lower ∷ [] } ∷ []; ctls = Run (Unregister 2) ∷ Run (Register 1) ∷ Run (MaxDepth 1) ∷ Run (MaxDepth 1) ∷ []; lines = usual_lines; rings = usual_rings; schedule = record { who = OfCpu (record { 0 = 0 }); count = 2 } ∷ record { who = OfCpu (record { 0 = 0 }); count = 1 } ∷ record { who = OfControl; count = 18 } ∷ record { who = OfControl; count = 8 } ∷ record { who = OfControl; count = 16 } ∷ record { who = OfCpu (record { 0 = 1 }); count = 4 } ∷ record { who = OfControl; count = 16 } ∷ record { who = OfControl; count = 19 } ∷ record { who = OfControl; count = 1 } ∷ record { who = OfCpu (record { 0 = 0 }); count = 17 } ∷ record { who = OfCpu (record { 0 = 0 }); count = 17 } ∷ record { who = OfControl; count = 16 } ∷ record { who = OfControl; count = 2 } ∷ record { who = OfCpu (record { 0 = 0 }); count = 10 } ∷ record { who = OfCpu (record { 0 = 1 }); count = 14 } ∷ record { who = OfCpu (record { 0 = 1 }); count = 11 } ∷ record { who = OfCpu (record { 0 = 0 }); count = 13 } ∷ record { who = OfCpu (record { 0 = 0 }); count = 16 } ∷ record { who = OfCpu (record { 0 = 1 }); count = 19 } ∷ record { who = All; count = 300 } ∷ [] }

abbrev pub job_3064-items : List Item
job_3064-items = Begin 1 ∷ Return 1 NotThere ∷ Begin 2 ∷ Enter (call_in 1 1) Normal (record { 0 = 1 }) None ∷ Back (call_in 1 1) (record { 0 = 1 }) ∷ Enter (call_in 1 2) Normal (record { 0 = 0 }) (Some (call_in 1 1)) ∷ Refuse (call_in 1 2) (record { 0 = 1 }) Recursion ∷ Body (call_in 1 2) (record { 0 = 0 }) (Own (record { 0 = 1 })) ∷ Leave (call_in 1 2) ∷ Ret (call_in 1 2) (Some (call_in 1 1)) ∷ BackEnd (call_in 1 1) (record { 0 = 1 }) ∷ Body (call_in 1 1) (record { 0 = 1 }) (Own (record { 0 = 1 })) ∷ Enter (call_in 1 3) Normal (record { 0 = 0 }) (Some (call_in 1 1)) ∷ Back (call_in 1 3) (record { 0 = 1 }) ∷ Enter (call_in 1 4) Normal (record { 0 = 0 }) (Some (call_in 1 3)) ∷ Refuse (call_in 1 4) (record { 0 = 1 }) Recursion ∷ Body (call_in 1 4) (record { 0 = 0 }) (Own (record { 0 = 1 })) ∷ Leave (call_in 1 4) ∷ Ret (call_in 1 4) (Some (call_in 1 3)) ∷ BackEnd (call_in 1 3) (record { 0 = 1 }) ∷ Body (call_in 1 3) (record { 0 = 0 }) (Own (record { 0 = 1 })) ∷ Enter (call_in 1 5) Normal (record { 0 = 1 }) (Some (call_in 1 3)) ∷ Refuse (call_in 1 5) (record { 0 = 1 }) Depth ∷ Body (call_in 1 5) (record { 0 = 1 }) (Own (record { 0 = 1 })) ∷ Return 2 Accepted ∷ Leave (call_in 1 5) ∷ Begin 3 ∷ Ret (call_in 1 5) (Some (call_in 1 3)) ∷ Leave (call_in 1 3) ∷ Exit (call_in 1 3) (record { 0 = 1 }) 13 ∷ ExitEnd (call_in 1 3) (record { 0 = 1 }) ∷ Ret (call_in 1 3) (Some (call_in 1 1)) ∷ Leave (call_in 1 1) ∷ Return 3 Accepted ∷ Exit (call_in 1 1) (record { 0 = 1 }) 4 ∷ Begin 4 ∷ ExitEnd (call_in 1 1) (record { 0 = 1 }) ∷ Ret (call_in 1 1) None ∷ Return 4 Accepted ∷ []

pub job_3064-plays : Plays job_3064 job_3064-items true
unfolding actors_of repeated start step run played play all_end control_next control_got cpu_next cpu_got insn moves desk
job_3064-plays = (refl, refl)

abbrev pub job_3074 : Job
job_3074 = record { version = 1; functions = named (codes "a") None ∷ named (codes "b") None ∷ named (codes "c") (Some (codes "m")) ∷ []; users = record { name = codes "u0"; kind = Function; regs = true; ipmodify = Some (record { 0 = 0 }); pid = false; act = None } ∷ record { name = codes "u1"; kind = Function; regs = true; ipmodify = Some (record { 0 = 0 }); pid = false; act = Some (IrqIn (record { 0 = 0 })) } ∷ record { name = codes "u2"; kind = Function; regs = true; ipmodify = Some (record { 0 = 2 }); pid = false; act = Some (CallIn (record { 0 = 0 })) } ∷ record { name = codes "u3"; kind = Function; regs = true; ipmodify = None; pid = false; act = Some (IrqIn (record { 0 = 0 })) } ∷ []; frames = 1; tramps = 16; quanta = 3 ∷ 15 ∷ []; tasks = record { pid = 10; cpu = 1; acts = Call (record { 0 = 0 }) ∷ Call (record { 0 = 1 }) ∷ After 1 ∷ RetAct ∷ RetAct ∷ [] } ∷ record { pid = 11; cpu = 1; acts = After 3 ∷ Call (record { 0 = 2 }) ∷ Raise Irq ∷ Call (record { 0 = 1 }) ∷ Call (record { 0 = 2 }) ∷ RetAct ∷ RetAct ∷ Lower ∷ RetAct ∷ [] } ∷ record { pid = 12; cpu = 0; acts = Raise Irq ∷ Call (record { 0 = 2 }) ∷ RetAct ∷ Call (record { 0 = 0 }) ∷ Call (record { 0 = 2 }) ∷ Call (record { 0 = 1 }) ∷ Call (record { 0 = 1 }) ∷ RetAct ∷ RetAct ∷ RetAct ∷ RetAct ∷ Lower ∷ [] } ∷ []; ctls = Run (MaxDepth 2) ∷ Run (Register 1) ∷ Until 0 5 ∷ Run (Filter 2 (record { append = false; remove = false; clear = false; set = true ∷ false ∷ false ∷ [] })) ∷ Run (Notrace 3 (record { append = true; remove = true; clear = false; set = true ∷ false ∷ false ∷ [] })) ∷ Run (Register 1) ∷ Run (Pid (true ∷ true ∷ true ∷ [])) ∷ []; lines = usual_lines; rings = usual_rings; schedule = record { who = OfCpu (record { 0 = 0 }); count = 8 } ∷ record { who = OfControl; count = 3 } ∷ record { who = OfControl; count = 8 } ∷ record { who = OfCpu (record { 0 = 0 }); count = 2 } ∷ record { who = OfCpu (record { 0 = 0 }); count = 4 } ∷ record { who = OfCpu (record { 0 = 1 }); count = 8 } ∷ record { who = OfCpu (record { 0 = 0 }); count = 1 } ∷ record { who = OfCpu (record { 0 = 1 }); count = 5 } ∷ record { who = All; count = 300 } ∷ [] }

abbrev pub job_3074-items : List Item
job_3074-items = Enter (call_in 2 1) Irq (record { 0 = 2 }) None ∷ Body (call_in 2 1) (record { 0 = 2 }) Nop ∷ Begin 1 ∷ Leave (call_in 2 1) ∷ Ret (call_in 2 1) None ∷ Enter (call_in 0 1) Normal (record { 0 = 0 }) None ∷ Body (call_in 0 1) (record { 0 = 0 }) Nop ∷ Enter (call_in 2 2) Irq (record { 0 = 0 }) None ∷ Enter (call_in 0 2) Normal (record { 0 = 1 }) (Some (call_in 0 1)) ∷ Body (call_in 0 2) (record { 0 = 1 }) Nop ∷ Body (call_in 2 2) (record { 0 = 0 }) Nop ∷ Return 1 Accepted ∷ Begin 2 ∷ Return 2 Invalid ∷ Enter (call_in 2 3) Irq (record { 0 = 2 }) (Some (call_in 2 2)) ∷ Body (call_in 2 3) (record { 0 = 2 }) Nop ∷ Leave (call_in 0 2) ∷ Ret (call_in 0 2) (Some (call_in 0 1)) ∷ Enter (call_in 2 4) Irq (record { 0 = 1 }) (Some (call_in 2 3)) ∷ Leave (call_in 0 1) ∷ Ret (call_in 0 1) None ∷ Body (call_in 2 4) (record { 0 = 1 }) Nop ∷ Begin 3 ∷ Enter (call_in 2 5) Irq (record { 0 = 1 }) (Some (call_in 2 4)) ∷ Return 3 Accepted ∷ Begin 4 ∷ Return 4 Accepted ∷ Body (call_in 2 5) (record { 0 = 1 }) Nop ∷ Begin 5 ∷ Enter (call_in 1 1) Normal (record { 0 = 2 }) None ∷ Return 5 Invalid ∷ Begin 6 ∷ Leave (call_in 2 5) ∷ Ret (call_in 2 5) (Some (call_in 2 4)) ∷ Body (call_in 1 1) (record { 0 = 2 }) Nop ∷ Leave (call_in 2 4) ∷ Ret (call_in 2 4) (Some (call_in 2 3)) ∷ Return 6 Accepted ∷ Enter (call_in 1 2) Irq (record { 0 = 1 }) (Some (call_in 1 1)) ∷ Leave (call_in 2 3) ∷ Ret (call_in 2 3) (Some (call_in 2 2)) ∷ Body (call_in 1 2) (record { 0 = 1 }) Nop ∷ Leave (call_in 2 2) ∷ Enter (call_in 1 3) Irq (record { 0 = 2 }) (Some (call_in 1 2)) ∷ Ret (call_in 2 2) None ∷ Body (call_in 1 3) (record { 0 = 2 }) Nop ∷ Leave (call_in 1 3) ∷ Ret (call_in 1 3) (Some (call_in 1 2)) ∷ Leave (call_in 1 2) ∷ Ret (call_in 1 2) (Some (call_in 1 1)) ∷ Leave (call_in 1 1) ∷ Ret (call_in 1 1) None ∷ []

pub job_3074-plays : Plays job_3074 job_3074-items true
unfolding actors_of repeated start step run played play all_end control_next control_got cpu_next cpu_got insn moves desk
job_3074-plays = (refl, refl)

abbrev pub job_3075 : Job
job_3075 = record { version = 1; functions = named (codes "a") (Some (codes "m")) ∷ named (codes "b") None ∷ named (codes "c") None ∷ []; users = record { name = codes "u0"; kind = Fprobe false false; regs = false; ipmodify = None; pid = true; act = Some (IrqIn (record { 0 = 0 })) } ∷ []; frames = 1; tramps = 1; quanta = 7 ∷ []; tasks = record { pid = 10; cpu = 0; acts = After 1 ∷ Call (record { 0 = 1 }) ∷ RetAct ∷ Call (record { 0 = 1 }) ∷ RetAct ∷ Raise Softirq ∷ Call (record { 0 = 1 }) ∷ Raise Irq ∷ Lower ∷ RetAct ∷ Lower ∷ [] } ∷ record { pid = 11; cpu = 0; acts = After 4 ∷ Raise Nmi ∷ Lower ∷ Raise Irq ∷ Raise Nmi ∷ Call (record { 0 = 2 }) ∷ RetAct ∷ Call (record { 0 = 0 }) ∷ Call (record { 0 = 1 }) ∷ RetAct ∷ RetAct ∷ Lower ∷ Lower ∷ [] } ∷ []; ctls = Run (Notrace 0 (record { append = false; remove = false; clear = false; set = true ∷ false ∷ false ∷ [] })) ∷ Run (Unregister 0) ∷ Run (Enable 0) ∷ Run (Notrace 0 (record { append = false; remove = true; clear = false; set = false ∷ false ∷ true ∷ [] })) ∷ Run (NoPid (true ∷ true ∷ [])) ∷ Run (Enable 0) ∷ Run (Register 0) ∷ []; lines = usual_lines; rings = usual_rings; schedule = record { who = OfControl; count = 14 } ∷ record { who = OfCpu (record { 0 = 0 }); count = 16 } ∷ record { who = OfControl; count = 8 } ∷ record { who = OfControl; count = 14 } ∷ record { who = OfControl; count = 2 } ∷ record { who = OfControl; count = 12 } ∷ record { who = OfCpu (record { 0 = 0 }); count = 6 } ∷ record { who = OfCpu (record { 0 = 0 }); count = 16 } ∷ record { who = OfCpu (record { 0 = 0 }); count = 2 } ∷ record { who = OfControl; count = 16 } ∷ record { who = OfCpu (record { 0 = 0 }); count = 13 } ∷ record { who = All; count = 300 } ∷ [] }

abbrev pub job_3075-items : List Item
job_3075-items = Begin 1 ∷ Return 1 Accepted ∷ Begin 2 ∷ Return 2 NotThere ∷ Begin 3 ∷ Return 3 NotThere ∷ Begin 4 ∷ Return 4 Accepted ∷ Begin 5 ∷ Enter (call_in 0 1) Normal (record { 0 = 1 }) None ∷ Return 5 Accepted ∷ Begin 6 ∷ Return 6 NotThere ∷ Begin 7 ∷ Refuse (call_in 0 1) (record { 0 = 0 }) ByPid ∷ Enter (call_in 1 1) Nmi (record { 0 = 2 }) None ∷ Body (call_in 0 1) (record { 0 = 1 }) (Own (record { 0 = 0 })) ∷ Leave (call_in 0 1) ∷ Ret (call_in 0 1) None ∷ Refuse (call_in 1 1) (record { 0 = 0 }) ByPid ∷ Body (call_in 1 1) (record { 0 = 2 }) (Own (record { 0 = 0 })) ∷ Enter (call_in 0 2) Normal (record { 0 = 1 }) None ∷ Refuse (call_in 0 2) (record { 0 = 0 }) ByPid ∷ Leave (call_in 1 1) ∷ Ret (call_in 1 1) None ∷ Enter (call_in 1 2) Nmi (record { 0 = 0 }) None ∷ Body (call_in 0 2) (record { 0 = 1 }) (Own (record { 0 = 0 })) ∷ Return 7 Accepted ∷ Leave (call_in 0 2) ∷ Ret (call_in 0 2) None ∷ Refuse (call_in 1 2) (record { 0 = 0 }) ByPid ∷ Body (call_in 1 2) (record { 0 = 0 }) (Own (record { 0 = 0 })) ∷ Enter (call_in 0 3) Softirq (record { 0 = 1 }) None ∷ Enter (call_in 1 3) Nmi (record { 0 = 1 }) (Some (call_in 1 2)) ∷ Refuse (call_in 1 3) (record { 0 = 0 }) ByPid ∷ Refuse (call_in 0 3) (record { 0 = 0 }) ByPid ∷ Body (call_in 0 3) (record { 0 = 1 }) (Own (record { 0 = 0 })) ∷ Body (call_in 1 3) (record { 0 = 1 }) (Own (record { 0 = 0 })) ∷ Leave (call_in 1 3) ∷ Ret (call_in 1 3) (Some (call_in 1 2)) ∷ Leave (call_in 0 3) ∷ Ret (call_in 0 3) None ∷ Leave (call_in 1 2) ∷ Ret (call_in 1 2) None ∷ []

pub job_3075-plays : Plays job_3075 job_3075-items true
unfolding actors_of repeated start step run played play all_end control_next control_got cpu_next cpu_got insn moves desk
job_3075-plays = (refl, refl)

abbrev pub job_3077 : Job
job_3077 = record { version = 1; functions = named (codes "a") (Some (codes "m")) ∷ named (codes "b") (Some (codes "m")) ∷ named (codes "c") None ∷ []; users = record { name = codes "u0"; kind = Function; regs = true; ipmodify = Some (record { 0 = 2 }); pid = true; act = Some (CallIn (record { 0 = 2 })) } ∷ record { name = codes "u1"; kind = Profile; regs = false; ipmodify = None; pid = false; act = Some (IrqIn (record { 0 = 2 })) } ∷ record { name = codes "u2"; kind = Fprobe true false; regs = true; ipmodify = None; pid = false; act = Some (CallIn (record { 0 = 0 })) } ∷ record { name = codes "u3"; kind = Graph; regs = false; ipmodify = None; pid = true; act = Some (IrqIn (record { 0 = 2 })) } ∷ []; frames = 2; tramps = 1; quanta = 3 ∷ []; tasks = record { pid = 10; cpu = 0; acts = After 3 ∷ Call (record { 0 = 1 }) ∷ Call (record { 0 = 1 }) ∷ RetAct ∷ Call (record { 0 = 0 }) ∷ RetAct ∷ RetAct ∷ [] } ∷ record { pid = 11; cpu = 0; acts = After 3 ∷ After 6 ∷ Raise Irq ∷ Raise Nmi ∷ Lower ∷ Lower ∷ [] } ∷ []; ctls = Run (MaxDepth 1) ∷ Run (MaxDepth 0) ∷ Run (Enable 0) ∷ Run (Register 2) ∷ Run (Filter 2 (record { append = true; remove = true; clear = false; set = false ∷ true ∷ false ∷ [] })) ∷ Run (Notrace 1 (record { append = true; remove = false; clear = false; set = false ∷ true ∷ false ∷ [] })) ∷ []; lines = usual_lines; rings = usual_rings; schedule = record { who = OfCpu (record { 0 = 0 }); count = 18 } ∷ record { who = OfCpu (record { 0 = 0 }); count = 18 } ∷ record { who = OfCpu (record { 0 = 0 }); count = 13 } ∷ record { who = OfCpu (record { 0 = 0 }); count = 4 } ∷ record { who = OfControl; count = 13 } ∷ record { who = OfControl; count = 19 } ∷ record { who = All; count = 300 } ∷ [] }

abbrev pub job_3077-items : List Item
job_3077-items = Begin 1 ∷ Return 1 Accepted ∷ Begin 2 ∷ Return 2 Accepted ∷ Begin 3 ∷ Return 3 NotThere ∷ Begin 4 ∷ Enter (call_in 0 1) Normal (record { 0 = 1 }) None ∷ Body (call_in 0 1) (record { 0 = 1 }) Nop ∷ Enter (call_in 0 2) Normal (record { 0 = 1 }) (Some (call_in 0 1)) ∷ Back (call_in 0 2) (record { 0 = 2 }) ∷ Enter (call_in 0 3) Normal (record { 0 = 0 }) (Some (call_in 0 2)) ∷ Refuse (call_in 0 3) (record { 0 = 2 }) Recursion ∷ Return 4 Accepted ∷ Body (call_in 0 3) (record { 0 = 0 }) (Own (record { 0 = 2 })) ∷ Begin 5 ∷ Leave (call_in 0 3) ∷ Ret (call_in 0 3) (Some (call_in 0 2)) ∷ BackEnd (call_in 0 2) (record { 0 = 2 }) ∷ Body (call_in 0 2) (record { 0 = 1 }) (Own (record { 0 = 2 })) ∷ Return 5 Accepted ∷ Begin 6 ∷ Leave (call_in 0 2) ∷ Return 6 Accepted ∷ Exit (call_in 0 2) (record { 0 = 2 }) 10 ∷ ExitEnd (call_in 0 2) (record { 0 = 2 }) ∷ Ret (call_in 0 2) (Some (call_in 0 1)) ∷ Enter (call_in 0 4) Normal (record { 0 = 0 }) (Some (call_in 0 1)) ∷ Back (call_in 0 4) (record { 0 = 2 }) ∷ Enter (call_in 0 5) Normal (record { 0 = 0 }) (Some (call_in 0 4)) ∷ Refuse (call_in 0 5) (record { 0 = 2 }) Recursion ∷ Body (call_in 0 5) (record { 0 = 0 }) (Own (record { 0 = 2 })) ∷ Leave (call_in 0 5) ∷ Ret (call_in 0 5) (Some (call_in 0 4)) ∷ BackEnd (call_in 0 4) (record { 0 = 2 }) ∷ Body (call_in 0 4) (record { 0 = 0 }) (Own (record { 0 = 2 })) ∷ Leave (call_in 0 4) ∷ Exit (call_in 0 4) (record { 0 = 2 }) 28 ∷ ExitEnd (call_in 0 4) (record { 0 = 2 }) ∷ Ret (call_in 0 4) (Some (call_in 0 1)) ∷ Leave (call_in 0 1) ∷ Ret (call_in 0 1) None ∷ []

pub job_3077-plays : Plays job_3077 job_3077-items true
unfolding actors_of repeated start step run played play all_end control_next control_got cpu_next cpu_got insn moves desk
job_3077-plays = (refl, refl)

abbrev pub job_3079 : Job
job_3079 = record { version = 1; functions = named (codes "a") (Some (codes "m")) ∷ named (codes "b") (Some (codes "m")) ∷ named (codes "c") None ∷ []; users = record { name = codes "u0"; kind = Fprobe true false; regs = false; ipmodify = None; pid = true; act = Some (IrqIn (record { 0 = 2 })) } ∷ record { name = codes "u1"; kind = Fprobe true true; regs = true; ipmodify = None; pid = true; act = None } ∷ record { name = codes "u2"; kind = Graph; regs = false; ipmodify = None; pid = true; act = Some (IrqIn (record { 0 = 0 })) } ∷ []; frames = 1; tramps = 16; quanta = 7 ∷ []; tasks = record { pid = 10; cpu = 0; acts = After 4 ∷ Call (record { 0 = 0 }) ∷ After 2 ∷ Call (record { 0 = 2 }) ∷ Raise Irq ∷ Lower ∷ Call (record { 0 = 1 }) ∷ Raise Irq ∷ Lower ∷ After 2 ∷ RetAct ∷ RetAct ∷ RetAct ∷ [] } ∷ record { pid = 11; cpu = 0; acts = Raise Irq ∷ Raise Nmi ∷ Call (record { 0 = 2 }) ∷ Call (record { 0 = 1 }) ∷ RetAct ∷ RetAct ∷ Lower ∷ Lower ∷ [] } ∷ []; ctls = Run (Unregister 2) ∷ Run (Register 1) ∷ Run (Disable 0) ∷ Run (Register 0) ∷ Run (MaxDepth 2) ∷ Until 1 2 ∷ Run (Disable 2) ∷ Until 0 5 ∷ Run (Unregister 2) ∷ []; lines = usual_lines; rings = usual_rings; schedule = record { who = OfControl; count = 14 } ∷ record { who = OfControl; count = 13 } ∷ record { who = OfCpu (record { 0 = 0 }); count = 7 } ∷ record { who = OfControl; count = 1 } ∷ record { who = OfControl; count = 19 } ∷ record { who = OfControl; count = 4 } ∷ record { who = OfCpu (record { 0 = 0 }); count = 20 } ∷ record { who = OfControl; count = 13 } ∷ record { who = OfControl; count = 9 } ∷ record { who = OfControl; count = 12 } ∷ record { who = OfCpu (record { 0 = 0 }); count = 15 } ∷ record { who = OfControl; count = 9 } ∷ record { who = OfControl; count = 14 } ∷ record { who = OfCpu (record { 0 = 0 }); count = 20 } ∷ record { who = OfControl; count = 9 } ∷ record { who = OfCpu (record { 0 = 0 }); count = 6 } ∷ record { who = OfCpu (record { 0 = 0 }); count = 14 } ∷ record { who = OfCpu (record { 0 = 0 }); count = 3 } ∷ record { who = OfControl; count = 5 } ∷ record { who = OfCpu (record { 0 = 0 }); count = 19 } ∷ record { who = OfControl; count = 14 } ∷ record { who = OfCpu (record { 0 = 0 }); count = 9 } ∷ record { who = OfCpu (record { 0 = 0 }); count = 8 } ∷ record { who = All; count = 300 } ∷ [] }

abbrev pub job_3079-items : List Item
job_3079-items = Begin 1 ∷ Return 1 NotThere ∷ Begin 2 ∷ Enter (call_in 1 1) Nmi (record { 0 = 2 }) None ∷ Back (call_in 1 1) (record { 0 = 1 }) ∷ BackEnd (call_in 1 1) (record { 0 = 1 }) ∷ Body (call_in 1 1) (record { 0 = 2 }) (Own (record { 0 = 1 })) ∷ Enter (call_in 1 2) Nmi (record { 0 = 1 }) (Some (call_in 1 1)) ∷ Back (call_in 1 2) (record { 0 = 1 }) ∷ BackEnd (call_in 1 2) (record { 0 = 1 }) ∷ Body (call_in 1 2) (record { 0 = 1 }) (Own (record { 0 = 1 })) ∷ Return 2 Accepted ∷ Begin 3 ∷ Return 3 NotThere ∷ Begin 4 ∷ Leave (call_in 1 2) ∷ Ret (call_in 1 2) (Some (call_in 1 1)) ∷ Leave (call_in 1 1) ∷ Ret (call_in 1 1) None ∷ Return 4 Accepted ∷ Begin 5 ∷ Enter (call_in 0 1) Normal (record { 0 = 0 }) None ∷ Back (call_in 0 1) (record { 0 = 0 }) ∷ Enter (call_in 0 2) Irq (record { 0 = 2 }) (Some (call_in 0 1)) ∷ Return 5 Accepted ∷ Begin 6 ∷ Back (call_in 0 2) (record { 0 = 0 }) ∷ Return 6 NotThere ∷ Miss (call_in 0 2) (record { 0 = 0 }) ∷ BackEnd (call_in 0 2) (record { 0 = 0 }) ∷ Back (call_in 0 2) (record { 0 = 1 }) ∷ Miss (call_in 0 2) (record { 0 = 1 }) ∷ BackEnd (call_in 0 2) (record { 0 = 1 }) ∷ Body (call_in 0 2) (record { 0 = 2 }) ByList ∷ Leave (call_in 0 2) ∷ Ret (call_in 0 2) (Some (call_in 0 1)) ∷ BackEnd (call_in 0 1) (record { 0 = 0 }) ∷ Back (call_in 0 1) (record { 0 = 1 }) ∷ BackEnd (call_in 0 1) (record { 0 = 1 }) ∷ Body (call_in 0 1) (record { 0 = 0 }) ByList ∷ Enter (call_in 0 3) Normal (record { 0 = 2 }) (Some (call_in 0 1)) ∷ Back (call_in 0 3) (record { 0 = 0 }) ∷ Miss (call_in 0 3) (record { 0 = 0 }) ∷ Enter (call_in 0 4) Irq (record { 0 = 2 }) (Some (call_in 0 3)) ∷ Back (call_in 0 4) (record { 0 = 0 }) ∷ Miss (call_in 0 4) (record { 0 = 0 }) ∷ BackEnd (call_in 0 4) (record { 0 = 0 }) ∷ Back (call_in 0 4) (record { 0 = 1 }) ∷ Miss (call_in 0 4) (record { 0 = 1 }) ∷ BackEnd (call_in 0 4) (record { 0 = 1 }) ∷ Body (call_in 0 4) (record { 0 = 2 }) ByList ∷ Leave (call_in 0 4) ∷ Ret (call_in 0 4) (Some (call_in 0 3)) ∷ BackEnd (call_in 0 3) (record { 0 = 0 }) ∷ Back (call_in 0 3) (record { 0 = 1 }) ∷ Miss (call_in 0 3) (record { 0 = 1 }) ∷ BackEnd (call_in 0 3) (record { 0 = 1 }) ∷ Body (call_in 0 3) (record { 0 = 2 }) ByList ∷ Begin 7 ∷ Return 7 NotThere ∷ Enter (call_in 0 5) Normal (record { 0 = 1 }) (Some (call_in 0 3)) ∷ Back (call_in 0 5) (record { 0 = 0 }) ∷ Miss (call_in 0 5) (record { 0 = 0 }) ∷ Enter (call_in 0 6) Irq (record { 0 = 2 }) (Some (call_in 0 5)) ∷ Back (call_in 0 6) (record { 0 = 0 }) ∷ Miss (call_in 0 6) (record { 0 = 0 }) ∷ BackEnd (call_in 0 6) (record { 0 = 0 }) ∷ Back (call_in 0 6) (record { 0 = 1 }) ∷ Miss (call_in 0 6) (record { 0 = 1 }) ∷ BackEnd (call_in 0 6) (record { 0 = 1 }) ∷ Body (call_in 0 6) (record { 0 = 2 }) ByList ∷ Leave (call_in 0 6) ∷ Ret (call_in 0 6) (Some (call_in 0 5)) ∷ BackEnd (call_in 0 5) (record { 0 = 0 }) ∷ Back (call_in 0 5) (record { 0 = 1 }) ∷ Miss (call_in 0 5) (record { 0 = 1 }) ∷ BackEnd (call_in 0 5) (record { 0 = 1 }) ∷ Body (call_in 0 5) (record { 0 = 1 }) ByList ∷ Leave (call_in 0 5) ∷ Ret (call_in 0 5) (Some (call_in 0 3)) ∷ Leave (call_in 0 3) ∷ Ret (call_in 0 3) (Some (call_in 0 1)) ∷ Leave (call_in 0 1) ∷ Exit (call_in 0 1) (record { 0 = 0 }) 22 ∷ ExitEnd (call_in 0 1) (record { 0 = 0 }) ∷ Ret (call_in 0 1) None ∷ []

pub job_3079-plays : Plays job_3079 job_3079-items true
unfolding actors_of repeated start step run played play all_end control_next control_got cpu_next cpu_got insn moves desk
job_3079-plays = (refl, refl)
