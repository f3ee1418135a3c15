-- Written by tools/ft samples word REFERENCE runs FILE
-- The word machine at runs in which a machine goes wrong that leaves something out, beside the histories that another program printed,
-- which was written from the same rules.
use Rattle.std.proofs.Common.{true, false, List, [], ◌∷◌, Some, None, codes, refl}
use Rattle.ft_base.specs.declared.context.Ctx.TheVariants.{Normal, Softirq}
use Rattle.ft_base.specs.declared.item.Ran.TheVariants.{Own, Nop, List as ByList}
use Rattle.ft_base.specs.declared.item.Reason.TheVariants.{Recursion, Pid as ByPid}
use Rattle.ft_base.specs.declared.item.Answer.TheVariants.{Accepted}
use Rattle.ft_base.specs.declared.item.Item.{Item}
use Rattle.ft_base.specs.declared.item.Item.TheVariants.{Begin, Return, Enter, Back, BackEnd, Refuse, Body, Leave, Exit, ExitEnd, Ret}
use Rattle.ft_base.specs.declared.user.Kind.TheVariants.{Graph, Function, Fprobe}
use Rattle.ft_base.specs.declared.user.Act.TheVariants.{CallIn}
use Rattle.ft_base.specs.declared.task.TaskAct.TheVariants.{Call, Ret as RetAct, After, Raise, Lower}
use Rattle.ft_base.specs.declared.turn.Who.TheVariants.{Control as OfControl, Cpu as OfCpu, All}
use Rattle.ft_base.specs.Job.{usual_lines, usual_rings, Job, Register, Unregister, Filter, Notrace, Disable, NoPid, MaxDepth, Run, Until}
use Rattle.ft_base.specs.Desk.{desk}
use Rattle.ft_base.specs.Schedule.{actors_of, repeated}
use Rattle.ft_hist.proofs.SmallJobs.{named, call_in}
use Rattle.word_machine.specs.Commands.{insn, moves}
use Rattle.word_machine.specs.Control.{control_next, control_got}
use Rattle.word_machine.specs.Cpu.{cpu_next, cpu_got}
use Rattle.word_machine.specs.Machine.{start, step, run, played, play, all_end}
use Rattle.word_machine.proofs.Plays.{Plays}

abbrev pub no_next : Job
no_next = record { version = 1; functions = named (codes "a") None ∷ []; users = record { name = codes "t1"; kind = Function; regs = false; ipmodify = None; pid = false; act = None } ∷ record { name = codes "t2"; kind = Function; regs = false; ipmodify = None; pid = false; act = None } ∷ []; frames = 50; tramps = 16; quanta = 100 ∷ []; tasks = record { pid = 10; cpu = 0; acts = After 1 ∷ Call (record { 0 = 0 }) ∷ RetAct ∷ [] } ∷ []; ctls = Run (Register 0) ∷ Run (Register 1) ∷ []; lines = usual_lines; rings = usual_rings; schedule = record { who = All; count = 20 } ∷ record { who = OfControl; count = 11 } ∷ record { who = OfCpu (record { 0 = 0 }); count = 12 } ∷ record { who = All; count = 300 } ∷ [] }

abbrev pub no_next-items : List Item
no_next-items = Begin 1 ∷ Return 1 Accepted ∷ Begin 2 ∷ Enter (call_in 0 1) Normal (record { 0 = 0 }) None ∷ Back (call_in 0 1) (record { 0 = 1 }) ∷ BackEnd (call_in 0 1) (record { 0 = 1 }) ∷ Back (call_in 0 1) (record { 0 = 0 }) ∷ BackEnd (call_in 0 1) (record { 0 = 0 }) ∷ Body (call_in 0 1) (record { 0 = 0 }) ByList ∷ Leave (call_in 0 1) ∷ Ret (call_in 0 1) None ∷ Return 2 Accepted ∷ []

pub no_next-plays : Plays no_next no_next-items true
unfolding actors_of repeated start step run played play all_end control_next control_got cpu_next cpu_got insn moves desk
no_next-plays = (refl, refl)

abbrev pub no_breakpoint : Job
no_breakpoint = record { version = 1; functions = named (codes "a") None ∷ []; users = record { name = codes "tr"; kind = Function; regs = false; ipmodify = None; pid = false; act = None } ∷ []; frames = 50; tramps = 16; quanta = 100 ∷ []; tasks = record { pid = 10; cpu = 0; acts = Call (record { 0 = 0 }) ∷ RetAct ∷ [] } ∷ []; ctls = Run (Register 0) ∷ []; lines = usual_lines; rings = usual_rings; schedule = record { who = OfControl; count = 8 } ∷ record { who = All; count = 300 } ∷ [] }

abbrev pub no_breakpoint-items : List Item
no_breakpoint-items = Begin 1 ∷ Enter (call_in 0 1) Normal (record { 0 = 0 }) None ∷ Back (call_in 0 1) (record { 0 = 0 }) ∷ BackEnd (call_in 0 1) (record { 0 = 0 }) ∷ Body (call_in 0 1) (record { 0 = 0 }) (Own (record { 0 = 0 })) ∷ Leave (call_in 0 1) ∷ Ret (call_in 0 1) None ∷ Return 1 Accepted ∷ []

pub no_breakpoint-plays : Plays no_breakpoint no_breakpoint-items true
unfolding actors_of repeated start step run played play all_end control_next control_got cpu_next cpu_got insn moves desk
no_breakpoint-plays = (refl, refl)

abbrev pub displacement_before_breakpoint : Job
displacement_before_breakpoint = record { version = 1; functions = named (codes "a") None ∷ []; users = record { name = codes "tr"; kind = Function; regs = false; ipmodify = None; pid = false; act = None } ∷ []; frames = 50; tramps = 16; quanta = 100 ∷ []; tasks = record { pid = 10; cpu = 0; acts = Call (record { 0 = 0 }) ∷ RetAct ∷ [] } ∷ []; ctls = Run (Register 0) ∷ []; lines = usual_lines; rings = usual_rings; schedule = record { who = OfControl; count = 5 } ∷ record { who = All; count = 300 } ∷ [] }

abbrev pub displacement_before_breakpoint-items : List Item
displacement_before_breakpoint-items = Begin 1 ∷ Enter (call_in 0 1) Normal (record { 0 = 0 }) None ∷ Body (call_in 0 1) (record { 0 = 0 }) Nop ∷ Leave (call_in 0 1) ∷ Ret (call_in 0 1) None ∷ Return 1 Accepted ∷ []

pub displacement_before_breakpoint-plays : Plays displacement_before_breakpoint displacement_before_breakpoint-items true
unfolding actors_of repeated start step run played play all_end control_next control_got cpu_next cpu_got insn moves desk
displacement_before_breakpoint-plays = (refl, refl)

abbrev pub no_first_sync : Job
no_first_sync = record { version = 1; functions = named (codes "a") None ∷ []; users = record { name = codes "tr"; kind = Function; regs = false; ipmodify = None; pid = false; act = None } ∷ []; frames = 50; tramps = 16; quanta = 100 ∷ []; tasks = record { pid = 10; cpu = 0; acts = Call (record { 0 = 0 }) ∷ RetAct ∷ [] } ∷ []; ctls = Run (Register 0) ∷ []; lines = usual_lines; rings = usual_rings; schedule = record { who = OfCpu (record { 0 = 0 }); count = 3 } ∷ record { who = OfControl; count = 9 } ∷ record { who = All; count = 300 } ∷ [] }

abbrev pub no_first_sync-items : List Item
no_first_sync-items = Enter (call_in 0 1) Normal (record { 0 = 0 }) None ∷ Begin 1 ∷ Body (call_in 0 1) (record { 0 = 0 }) Nop ∷ Leave (call_in 0 1) ∷ Ret (call_in 0 1) None ∷ Return 1 Accepted ∷ []

pub no_first_sync-plays : Plays no_first_sync no_first_sync-items true
unfolding actors_of repeated start step run played play all_end control_next control_got cpu_next cpu_got insn moves desk
no_first_sync-plays = (refl, refl)

abbrev pub acknowledged_too_early : Job
acknowledged_too_early = record { version = 1; functions = named (codes "a") None ∷ []; users = record { name = codes "tr"; kind = Function; regs = false; ipmodify = None; pid = false; act = None } ∷ []; frames = 50; tramps = 16; quanta = 100 ∷ []; tasks = record { pid = 10; cpu = 0; acts = Call (record { 0 = 0 }) ∷ RetAct ∷ [] } ∷ []; ctls = Run (Register 0) ∷ []; lines = usual_lines; rings = usual_rings; schedule = record { who = OfCpu (record { 0 = 0 }); count = 4 } ∷ record { who = OfControl; count = 11 } ∷ record { who = All; count = 300 } ∷ [] }

abbrev pub acknowledged_too_early-items : List Item
acknowledged_too_early-items = Enter (call_in 0 1) Normal (record { 0 = 0 }) None ∷ Begin 1 ∷ Body (call_in 0 1) (record { 0 = 0 }) Nop ∷ Leave (call_in 0 1) ∷ Ret (call_in 0 1) None ∷ Return 1 Accepted ∷ []

pub acknowledged_too_early-plays : Plays acknowledged_too_early acknowledged_too_early-items true
unfolding actors_of repeated start step run played play all_end control_next control_got cpu_next cpu_got insn moves desk
acknowledged_too_early-plays = (refl, refl)

abbrev pub switched_in_a_fetch : Job
switched_in_a_fetch = record { version = 1; functions = named (codes "a") None ∷ []; users = record { name = codes "tr"; kind = Function; regs = false; ipmodify = None; pid = false; act = None } ∷ []; frames = 50; tramps = 16; quanta = 3 ∷ []; tasks = record { pid = 10; cpu = 0; acts = Call (record { 0 = 0 }) ∷ RetAct ∷ [] } ∷ record { pid = 11; cpu = 0; acts = Raise Softirq ∷ Lower ∷ [] } ∷ []; ctls = Run (Register 0) ∷ []; lines = usual_lines; rings = usual_rings; schedule = record { who = OfControl; count = 5 } ∷ record { who = All; count = 300 } ∷ [] }

abbrev pub switched_in_a_fetch-items : List Item
switched_in_a_fetch-items = Begin 1 ∷ Enter (call_in 0 1) Normal (record { 0 = 0 }) None ∷ Body (call_in 0 1) (record { 0 = 0 }) Nop ∷ Return 1 Accepted ∷ Leave (call_in 0 1) ∷ Ret (call_in 0 1) None ∷ []

pub switched_in_a_fetch-plays : Plays switched_in_a_fetch switched_in_a_fetch-items true
unfolding actors_of repeated start step run played play all_end control_next control_got cpu_next cpu_got insn moves desk
switched_in_a_fetch-plays = (refl, refl)

abbrev pub no_quiet_for_a_walker : Job
no_quiet_for_a_walker = record { version = 1; functions = named (codes "a") None ∷ []; users = record { name = codes "t1"; kind = Function; regs = false; ipmodify = None; pid = false; act = None } ∷ record { name = codes "t2"; kind = Function; regs = false; ipmodify = None; pid = false; act = None } ∷ record { name = codes "t3"; kind = Function; regs = false; ipmodify = None; pid = false; act = None } ∷ []; frames = 50; tramps = 16; quanta = 100 ∷ []; tasks = record { pid = 10; cpu = 0; acts = After 3 ∷ Call (record { 0 = 0 }) ∷ RetAct ∷ [] } ∷ []; ctls = Run (Register 0) ∷ Run (Register 1) ∷ Run (Register 2) ∷ Run (Unregister 0) ∷ []; lines = usual_lines; rings = usual_rings; schedule = record { who = OfControl; count = 10 } ∷ record { who = OfCpu (record { 0 = 0 }); count = 2 } ∷ record { who = OfControl; count = 3 } ∷ record { who = OfCpu (record { 0 = 0 }); count = 4 } ∷ record { who = OfControl; count = 3 } ∷ record { who = OfCpu (record { 0 = 0 }); count = 4 } ∷ record { who = OfControl; count = 9 } ∷ record { who = OfCpu (record { 0 = 0 }); count = 1 } ∷ record { who = OfControl; count = 3 } ∷ record { who = OfCpu (record { 0 = 0 }); count = 4 } ∷ record { who = OfControl; count = 3 } ∷ record { who = OfCpu (record { 0 = 0 }); count = 3 } ∷ record { who = OfControl; count = 3 } ∷ record { who = OfCpu (record { 0 = 0 }); count = 4 } ∷ record { who = OfControl; count = 10 } ∷ record { who = OfCpu (record { 0 = 0 }); count = 19 } ∷ record { who = OfControl; count = 3 } ∷ record { who = All; count = 300 } ∷ [] }

abbrev pub no_quiet_for_a_walker-items : List Item
no_quiet_for_a_walker-items = Begin 1 ∷ Return 1 Accepted ∷ Begin 2 ∷ Return 2 Accepted ∷ Begin 3 ∷ Return 3 Accepted ∷ Enter (call_in 0 1) Normal (record { 0 = 0 }) None ∷ Back (call_in 0 1) (record { 0 = 2 }) ∷ BackEnd (call_in 0 1) (record { 0 = 2 }) ∷ Back (call_in 0 1) (record { 0 = 1 }) ∷ BackEnd (call_in 0 1) (record { 0 = 1 }) ∷ Begin 4 ∷ Back (call_in 0 1) (record { 0 = 0 }) ∷ BackEnd (call_in 0 1) (record { 0 = 0 }) ∷ Body (call_in 0 1) (record { 0 = 0 }) ByList ∷ Leave (call_in 0 1) ∷ Ret (call_in 0 1) None ∷ Return 4 Accepted ∷ []

pub no_quiet_for_a_walker-plays : Plays no_quiet_for_a_walker no_quiet_for_a_walker-items true
unfolding actors_of repeated start step run played play all_end control_next control_got cpu_next cpu_got insn moves desk
no_quiet_for_a_walker-plays = (refl, refl)

abbrev pub no_quiet_for_a_trampoline : Job
no_quiet_for_a_trampoline = record { version = 1; functions = named (codes "a") None ∷ []; users = record { name = codes "tr"; kind = Function; regs = false; ipmodify = None; pid = false; act = None } ∷ []; frames = 50; tramps = 16; quanta = 14 ∷ []; tasks = record { pid = 11; cpu = 0; acts = After 1 ∷ Raise Softirq ∷ Lower ∷ Raise Softirq ∷ Lower ∷ [] } ∷ record { pid = 10; cpu = 0; acts = After 1 ∷ Raise Softirq ∷ Lower ∷ Call (record { 0 = 0 }) ∷ RetAct ∷ [] } ∷ []; ctls = Run (Register 0) ∷ Run (Unregister 0) ∷ []; lines = usual_lines; rings = usual_rings; schedule = record { who = OfControl; count = 5 } ∷ record { who = OfCpu (record { 0 = 0 }); count = 2 } ∷ record { who = OfControl; count = 1 } ∷ record { who = OfCpu (record { 0 = 0 }); count = 1 } ∷ record { who = OfControl; count = 3 } ∷ record { who = OfCpu (record { 0 = 0 }); count = 1 } ∷ record { who = OfControl; count = 1 } ∷ record { who = OfCpu (record { 0 = 0 }); count = 3 } ∷ record { who = OfControl; count = 3 } ∷ record { who = OfCpu (record { 0 = 0 }); count = 8 } ∷ record { who = OfControl; count = 3 } ∷ record { who = OfCpu (record { 0 = 0 }); count = 3 } ∷ record { who = OfControl; count = 2 } ∷ record { who = OfCpu (record { 0 = 0 }); count = 10 } ∷ record { who = OfControl; count = 2 } ∷ record { who = OfCpu (record { 0 = 0 }); count = 1 } ∷ record { who = OfControl; count = 2 } ∷ record { who = All; count = 300 } ∷ [] }

abbrev pub no_quiet_for_a_trampoline-items : List Item
no_quiet_for_a_trampoline-items = Begin 1 ∷ Return 1 Accepted ∷ Enter (call_in 1 1) Normal (record { 0 = 0 }) None ∷ Begin 2 ∷ Body (call_in 1 1) (record { 0 = 0 }) (Own (record { 0 = 0 })) ∷ Leave (call_in 1 1) ∷ Ret (call_in 1 1) None ∷ Return 2 Accepted ∷ []

pub no_quiet_for_a_trampoline-plays : Plays no_quiet_for_a_trampoline no_quiet_for_a_trampoline-items true
unfolding actors_of repeated start step run played play all_end control_next control_got cpu_next cpu_got insn moves desk
no_quiet_for_a_trampoline-plays = (refl, refl)

abbrev pub quiet_within_a_call : Job
quiet_within_a_call = record { version = 1; functions = named (codes "a") None ∷ []; users = record { name = codes "tr"; kind = Function; regs = false; ipmodify = None; pid = false; act = None } ∷ []; frames = 50; tramps = 16; quanta = 14 ∷ []; tasks = record { pid = 11; cpu = 0; acts = After 1 ∷ Raise Softirq ∷ Lower ∷ Raise Softirq ∷ Lower ∷ [] } ∷ record { pid = 10; cpu = 0; acts = After 1 ∷ Raise Softirq ∷ Lower ∷ Call (record { 0 = 0 }) ∷ RetAct ∷ [] } ∷ []; ctls = Run (Register 0) ∷ Run (Unregister 0) ∷ []; lines = usual_lines; rings = usual_rings; schedule = record { who = OfControl; count = 10 } ∷ record { who = OfCpu (record { 0 = 0 }); count = 5 } ∷ record { who = OfControl; count = 3 } ∷ record { who = OfCpu (record { 0 = 0 }); count = 5 } ∷ record { who = OfControl; count = 3 } ∷ record { who = OfCpu (record { 0 = 0 }); count = 5 } ∷ record { who = OfControl; count = 2 } ∷ record { who = OfCpu (record { 0 = 0 }); count = 13 } ∷ record { who = OfControl; count = 6 } ∷ record { who = OfCpu (record { 0 = 0 }); count = 5 } ∷ record { who = OfControl; count = 3 } ∷ record { who = OfCpu (record { 0 = 0 }); count = 5 } ∷ record { who = OfControl; count = 3 } ∷ record { who = OfCpu (record { 0 = 0 }); count = 2 } ∷ record { who = OfControl; count = 2 } ∷ record { who = OfCpu (record { 0 = 0 }); count = 6 } ∷ record { who = OfControl; count = 3 } ∷ record { who = All; count = 300 } ∷ [] }

abbrev pub quiet_within_a_call-items : List Item
quiet_within_a_call-items = Begin 1 ∷ Return 1 Accepted ∷ Enter (call_in 1 1) Normal (record { 0 = 0 }) None ∷ Begin 2 ∷ Back (call_in 1 1) (record { 0 = 0 }) ∷ BackEnd (call_in 1 1) (record { 0 = 0 }) ∷ Body (call_in 1 1) (record { 0 = 0 }) (Own (record { 0 = 0 })) ∷ Leave (call_in 1 1) ∷ Ret (call_in 1 1) None ∷ Return 2 Accepted ∷ []

pub quiet_within_a_call-plays : Plays quiet_within_a_call quiet_within_a_call-items true
unfolding actors_of repeated start step run played play all_end control_next control_got cpu_next cpu_got insn moves desk
quiet_within_a_call-plays = (refl, refl)

abbrev pub no_quiet_for_a_filter : Job
no_quiet_for_a_filter = record { version = 1; functions = named (codes "a") None ∷ named (codes "b") None ∷ []; users = record { name = codes "t1"; kind = Function; regs = false; ipmodify = None; pid = false; act = None } ∷ record { name = codes "t2"; kind = Function; regs = false; ipmodify = None; pid = false; act = None } ∷ record { name = codes "t3"; kind = Function; regs = false; ipmodify = None; pid = false; act = None } ∷ []; frames = 50; tramps = 16; quanta = 100 ∷ []; tasks = record { pid = 10; cpu = 0; acts = After 4 ∷ Call (record { 0 = 0 }) ∷ RetAct ∷ [] } ∷ []; ctls = Run (Filter 0 (record { append = false; remove = false; clear = false; set = true ∷ false ∷ [] })) ∷ Run (Register 0) ∷ Run (Register 1) ∷ Run (Register 2) ∷ Run (Filter 0 (record { append = true; remove = false; clear = false; set = false ∷ true ∷ [] })) ∷ Run (Filter 0 (record { append = false; remove = false; clear = true; set = false ∷ false ∷ [] })) ∷ []; lines = usual_lines; rings = usual_rings; schedule = record { who = OfControl; count = 12 } ∷ record { who = OfCpu (record { 0 = 0 }); count = 2 } ∷ record { who = OfControl; count = 3 } ∷ record { who = OfCpu (record { 0 = 0 }); count = 5 } ∷ record { who = OfControl; count = 3 } ∷ record { who = OfCpu (record { 0 = 0 }); count = 4 } ∷ record { who = OfControl; count = 4 } ∷ record { who = OfCpu (record { 0 = 0 }); count = 3 } ∷ record { who = OfControl; count = 10 } ∷ record { who = OfCpu (record { 0 = 0 }); count = 2 } ∷ record { who = OfControl; count = 4 } ∷ record { who = OfCpu (record { 0 = 0 }); count = 4 } ∷ record { who = OfControl; count = 4 } ∷ record { who = OfCpu (record { 0 = 0 }); count = 4 } ∷ record { who = OfControl; count = 12 } ∷ record { who = OfCpu (record { 0 = 0 }); count = 5 } ∷ record { who = OfControl; count = 3 } ∷ record { who = OfCpu (record { 0 = 0 }); count = 4 } ∷ record { who = OfControl; count = 3 } ∷ record { who = OfCpu (record { 0 = 0 }); count = 3 } ∷ record { who = OfControl; count = 2 } ∷ record { who = OfCpu (record { 0 = 0 }); count = 19 } ∷ record { who = OfControl; count = 6 } ∷ record { who = All; count = 300 } ∷ [] }

abbrev pub no_quiet_for_a_filter-items : List Item
no_quiet_for_a_filter-items = Begin 1 ∷ Return 1 Accepted ∷ Begin 2 ∷ Return 2 Accepted ∷ Begin 3 ∷ Return 3 Accepted ∷ Begin 4 ∷ Return 4 Accepted ∷ Enter (call_in 0 1) Normal (record { 0 = 0 }) None ∷ Back (call_in 0 1) (record { 0 = 2 }) ∷ BackEnd (call_in 0 1) (record { 0 = 2 }) ∷ Back (call_in 0 1) (record { 0 = 1 }) ∷ BackEnd (call_in 0 1) (record { 0 = 1 }) ∷ Begin 5 ∷ Back (call_in 0 1) (record { 0 = 0 }) ∷ BackEnd (call_in 0 1) (record { 0 = 0 }) ∷ Body (call_in 0 1) (record { 0 = 0 }) ByList ∷ Leave (call_in 0 1) ∷ Return 5 Accepted ∷ Ret (call_in 0 1) None ∷ Begin 6 ∷ Return 6 Accepted ∷ []

pub no_quiet_for_a_filter-plays : Plays no_quiet_for_a_filter no_quiet_for_a_filter-items true
unfolding actors_of repeated start step run played play all_end control_next control_got cpu_next cpu_got insn moves desk
no_quiet_for_a_filter-plays = (refl, refl)

abbrev pub no_quiet_for_a_disabled_user : Job
no_quiet_for_a_disabled_user = record { version = 1; functions = named (codes "a") None ∷ []; users = record { name = codes "p"; kind = Fprobe false false; regs = false; ipmodify = None; pid = false; act = None } ∷ []; frames = 50; tramps = 16; quanta = 100 ∷ []; tasks = record { pid = 10; cpu = 0; acts = After 1 ∷ Call (record { 0 = 0 }) ∷ RetAct ∷ [] } ∷ []; ctls = Run (Register 0) ∷ Run (Disable 0) ∷ []; lines = usual_lines; rings = usual_rings; schedule = record { who = OfControl; count = 1 } ∷ record { who = OfCpu (record { 0 = 0 }); count = 3 } ∷ record { who = OfControl; count = 3 } ∷ record { who = OfCpu (record { 0 = 0 }); count = 7 } ∷ record { who = OfControl; count = 4 } ∷ record { who = OfCpu (record { 0 = 0 }); count = 3 } ∷ record { who = OfControl; count = 1 } ∷ record { who = OfCpu (record { 0 = 0 }); count = 1 } ∷ record { who = OfControl; count = 1 } ∷ record { who = OfCpu (record { 0 = 0 }); count = 3 } ∷ record { who = OfControl; count = 3 } ∷ record { who = OfCpu (record { 0 = 0 }); count = 4 } ∷ record { who = OfControl; count = 1 } ∷ record { who = OfCpu (record { 0 = 0 }); count = 3 } ∷ record { who = OfControl; count = 2 } ∷ record { who = OfCpu (record { 0 = 0 }); count = 3 } ∷ record { who = OfControl; count = 2 } ∷ record { who = OfCpu (record { 0 = 0 }); count = 8 } ∷ record { who = OfControl; count = 1 } ∷ record { who = All; count = 300 } ∷ [] }

abbrev pub no_quiet_for_a_disabled_user-items : List Item
no_quiet_for_a_disabled_user-items = Begin 1 ∷ Return 1 Accepted ∷ Enter (call_in 0 1) Normal (record { 0 = 0 }) None ∷ Begin 2 ∷ Back (call_in 0 1) (record { 0 = 0 }) ∷ BackEnd (call_in 0 1) (record { 0 = 0 }) ∷ Body (call_in 0 1) (record { 0 = 0 }) (Own (record { 0 = 0 })) ∷ Leave (call_in 0 1) ∷ Return 2 Accepted ∷ Ret (call_in 0 1) None ∷ []

pub no_quiet_for_a_disabled_user-plays : Plays no_quiet_for_a_disabled_user no_quiet_for_a_disabled_user-items true
unfolding actors_of repeated start step run played play all_end control_next control_got cpu_next cpu_got insn moves desk
no_quiet_for_a_disabled_user-plays = (refl, refl)

abbrev pub no_quiet_for_a_pid : Job
no_quiet_for_a_pid = record { version = 1; functions = named (codes "a") None ∷ []; users = record { name = codes "t"; kind = Function; regs = false; ipmodify = None; pid = true; act = None } ∷ []; frames = 50; tramps = 16; quanta = 100 ∷ []; tasks = record { pid = 10; cpu = 0; acts = After 1 ∷ Call (record { 0 = 0 }) ∷ RetAct ∷ [] } ∷ []; ctls = Run (Register 0) ∷ Run (NoPid (true ∷ [])) ∷ []; lines = usual_lines; rings = usual_rings; schedule = record { who = OfControl; count = 1 } ∷ record { who = OfCpu (record { 0 = 0 }); count = 3 } ∷ record { who = OfControl; count = 3 } ∷ record { who = OfCpu (record { 0 = 0 }); count = 7 } ∷ record { who = OfControl; count = 4 } ∷ record { who = OfCpu (record { 0 = 0 }); count = 3 } ∷ record { who = OfControl; count = 1 } ∷ record { who = OfCpu (record { 0 = 0 }); count = 1 } ∷ record { who = OfControl; count = 1 } ∷ record { who = OfCpu (record { 0 = 0 }); count = 3 } ∷ record { who = OfControl; count = 3 } ∷ record { who = OfCpu (record { 0 = 0 }); count = 3 } ∷ record { who = OfControl; count = 3 } ∷ record { who = OfCpu (record { 0 = 0 }); count = 4 } ∷ record { who = OfControl; count = 2 } ∷ record { who = OfCpu (record { 0 = 0 }); count = 10 } ∷ record { who = OfControl; count = 2 } ∷ record { who = All; count = 300 } ∷ [] }

abbrev pub no_quiet_for_a_pid-items : List Item
no_quiet_for_a_pid-items = Begin 1 ∷ Return 1 Accepted ∷ Enter (call_in 0 1) Normal (record { 0 = 0 }) None ∷ Begin 2 ∷ Back (call_in 0 1) (record { 0 = 0 }) ∷ BackEnd (call_in 0 1) (record { 0 = 0 }) ∷ Body (call_in 0 1) (record { 0 = 0 }) (Own (record { 0 = 0 })) ∷ Leave (call_in 0 1) ∷ Return 2 Accepted ∷ Ret (call_in 0 1) None ∷ []

pub no_quiet_for_a_pid-plays : Plays no_quiet_for_a_pid no_quiet_for_a_pid-items true
unfolding actors_of repeated start step run played play all_end control_next control_got cpu_next cpu_got insn moves desk
no_quiet_for_a_pid-plays = (refl, refl)

abbrev pub no_quiet_for_a_depth : Job
no_quiet_for_a_depth = record { version = 1; functions = named (codes "a") None ∷ []; users = record { name = codes "g"; kind = Graph; regs = false; ipmodify = None; pid = false; act = None } ∷ []; frames = 50; tramps = 16; quanta = 100 ∷ []; tasks = record { pid = 10; cpu = 0; acts = After 1 ∷ Call (record { 0 = 0 }) ∷ Call (record { 0 = 0 }) ∷ RetAct ∷ RetAct ∷ [] } ∷ []; ctls = Run (Register 0) ∷ Run (MaxDepth 1) ∷ []; lines = usual_lines; rings = usual_rings; schedule = record { who = OfControl; count = 10 } ∷ record { who = OfCpu (record { 0 = 0 }); count = 3 } ∷ record { who = OfControl; count = 3 } ∷ record { who = OfCpu (record { 0 = 0 }); count = 7 } ∷ record { who = OfControl; count = 3 } ∷ record { who = OfCpu (record { 0 = 0 }); count = 2 } ∷ record { who = OfControl; count = 2 } ∷ record { who = OfCpu (record { 0 = 0 }); count = 21 } ∷ record { who = OfControl; count = 2 } ∷ record { who = All; count = 300 } ∷ [] }

abbrev pub no_quiet_for_a_depth-items : List Item
no_quiet_for_a_depth-items = Begin 1 ∷ Return 1 Accepted ∷ Enter (call_in 0 1) Normal (record { 0 = 0 }) None ∷ Back (call_in 0 1) (record { 0 = 0 }) ∷ BackEnd (call_in 0 1) (record { 0 = 0 }) ∷ Body (call_in 0 1) (record { 0 = 0 }) (Own (record { 0 = 0 })) ∷ Enter (call_in 0 2) Normal (record { 0 = 0 }) (Some (call_in 0 1)) ∷ Begin 2 ∷ Back (call_in 0 2) (record { 0 = 0 }) ∷ BackEnd (call_in 0 2) (record { 0 = 0 }) ∷ Body (call_in 0 2) (record { 0 = 0 }) (Own (record { 0 = 0 })) ∷ Leave (call_in 0 2) ∷ Return 2 Accepted ∷ Exit (call_in 0 2) (record { 0 = 0 }) 8 ∷ ExitEnd (call_in 0 2) (record { 0 = 0 }) ∷ Ret (call_in 0 2) (Some (call_in 0 1)) ∷ Leave (call_in 0 1) ∷ Exit (call_in 0 1) (record { 0 = 0 }) 3 ∷ ExitEnd (call_in 0 1) (record { 0 = 0 }) ∷ Ret (call_in 0 1) None ∷ []

pub no_quiet_for_a_depth-plays : Plays no_quiet_for_a_depth no_quiet_for_a_depth-items true
unfolding actors_of repeated start step run played play all_end control_next control_got cpu_next cpu_got insn moves desk
no_quiet_for_a_depth-plays = (refl, refl)

abbrev pub present_copy_written : Job
present_copy_written = record { version = 1; functions = named (codes "a") None ∷ []; users = record { name = codes "t1"; kind = Function; regs = false; ipmodify = None; pid = false; act = None } ∷ record { name = codes "t2"; kind = Function; regs = false; ipmodify = None; pid = false; act = None } ∷ record { name = codes "t3"; kind = Function; regs = false; ipmodify = None; pid = false; act = None } ∷ []; frames = 50; tramps = 16; quanta = 100 ∷ []; tasks = record { pid = 10; cpu = 0; acts = After 4 ∷ Call (record { 0 = 0 }) ∷ RetAct ∷ [] } ∷ []; ctls = Run (Filter 0 (record { append = false; remove = false; clear = false; set = true ∷ [] })) ∷ Run (Register 0) ∷ Run (Register 1) ∷ Run (Register 2) ∷ Run (Filter 0 (record { append = false; remove = false; clear = true; set = false ∷ [] })) ∷ []; lines = usual_lines; rings = usual_rings; schedule = record { who = OfControl; count = 12 } ∷ record { who = OfCpu (record { 0 = 0 }); count = 2 } ∷ record { who = OfControl; count = 3 } ∷ record { who = OfCpu (record { 0 = 0 }); count = 4 } ∷ record { who = OfControl; count = 2 } ∷ record { who = OfCpu (record { 0 = 0 }); count = 1 } ∷ record { who = OfControl; count = 1 } ∷ record { who = OfCpu (record { 0 = 0 }); count = 3 } ∷ record { who = OfControl; count = 12 } ∷ record { who = OfCpu (record { 0 = 0 }); count = 4 } ∷ record { who = OfControl; count = 3 } ∷ record { who = OfCpu (record { 0 = 0 }); count = 4 } ∷ record { who = OfControl; count = 3 } ∷ record { who = OfCpu (record { 0 = 0 }); count = 4 } ∷ record { who = OfControl; count = 10 } ∷ record { who = OfCpu (record { 0 = 0 }); count = 16 } ∷ record { who = All; count = 300 } ∷ [] }

abbrev pub present_copy_written-items : List Item
present_copy_written-items = Begin 1 ∷ Return 1 Accepted ∷ Begin 2 ∷ Return 2 Accepted ∷ Begin 3 ∷ Return 3 Accepted ∷ Begin 4 ∷ Return 4 Accepted ∷ Enter (call_in 0 1) Normal (record { 0 = 0 }) None ∷ Back (call_in 0 1) (record { 0 = 2 }) ∷ BackEnd (call_in 0 1) (record { 0 = 2 }) ∷ Back (call_in 0 1) (record { 0 = 1 }) ∷ Begin 5 ∷ BackEnd (call_in 0 1) (record { 0 = 1 }) ∷ Back (call_in 0 1) (record { 0 = 0 }) ∷ BackEnd (call_in 0 1) (record { 0 = 0 }) ∷ Body (call_in 0 1) (record { 0 = 0 }) ByList ∷ Leave (call_in 0 1) ∷ Return 5 Accepted ∷ Ret (call_in 0 1) None ∷ []

pub present_copy_written-plays : Plays present_copy_written present_copy_written-items true
unfolding actors_of repeated start step run played play all_end control_next control_got cpu_next cpu_got insn moves desk
present_copy_written-plays = (refl, refl)

abbrev pub selected_before_the_words : Job
selected_before_the_words = record { version = 1; functions = named (codes "a") None ∷ []; users = record { name = codes "t1"; kind = Function; regs = false; ipmodify = None; pid = false; act = None } ∷ record { name = codes "t2"; kind = Function; regs = false; ipmodify = None; pid = false; act = None } ∷ record { name = codes "t3"; kind = Function; regs = false; ipmodify = None; pid = false; act = None } ∷ []; frames = 50; tramps = 16; quanta = 100 ∷ []; tasks = record { pid = 10; cpu = 0; acts = After 3 ∷ Call (record { 0 = 0 }) ∷ RetAct ∷ [] } ∷ []; ctls = Run (Register 0) ∷ Run (Register 1) ∷ Run (Register 2) ∷ Run (Filter 0 (record { append = false; remove = false; clear = false; set = true ∷ [] })) ∷ []; lines = usual_lines; rings = usual_rings; schedule = record { who = OfControl; count = 10 } ∷ record { who = OfCpu (record { 0 = 0 }); count = 2 } ∷ record { who = OfControl; count = 3 } ∷ record { who = OfCpu (record { 0 = 0 }); count = 4 } ∷ record { who = OfControl; count = 2 } ∷ record { who = OfCpu (record { 0 = 0 }); count = 1 } ∷ record { who = OfControl; count = 1 } ∷ record { who = OfCpu (record { 0 = 0 }); count = 3 } ∷ record { who = OfControl; count = 12 } ∷ record { who = OfCpu (record { 0 = 0 }); count = 4 } ∷ record { who = OfControl; count = 3 } ∷ record { who = OfCpu (record { 0 = 0 }); count = 4 } ∷ record { who = OfControl; count = 3 } ∷ record { who = OfCpu (record { 0 = 0 }); count = 4 } ∷ record { who = OfControl; count = 12 } ∷ record { who = OfCpu (record { 0 = 0 }); count = 20 } ∷ record { who = All; count = 300 } ∷ [] }

abbrev pub selected_before_the_words-items : List Item
selected_before_the_words-items = Begin 1 ∷ Return 1 Accepted ∷ Begin 2 ∷ Return 2 Accepted ∷ Begin 3 ∷ Return 3 Accepted ∷ Begin 4 ∷ Enter (call_in 0 1) Normal (record { 0 = 0 }) None ∷ Back (call_in 0 1) (record { 0 = 2 }) ∷ BackEnd (call_in 0 1) (record { 0 = 2 }) ∷ Back (call_in 0 1) (record { 0 = 1 }) ∷ BackEnd (call_in 0 1) (record { 0 = 1 }) ∷ Back (call_in 0 1) (record { 0 = 0 }) ∷ BackEnd (call_in 0 1) (record { 0 = 0 }) ∷ Body (call_in 0 1) (record { 0 = 0 }) ByList ∷ Leave (call_in 0 1) ∷ Return 4 Accepted ∷ Ret (call_in 0 1) None ∷ []

pub selected_before_the_words-plays : Plays selected_before_the_words selected_before_the_words-items true
unfolding actors_of repeated start step run played play all_end control_next control_got cpu_next cpu_got insn moves desk
selected_before_the_words-plays = (refl, refl)

abbrev pub no_notrace_word : Job
no_notrace_word = record { version = 1; functions = named (codes "a") None ∷ []; users = record { name = codes "t1"; kind = Function; regs = false; ipmodify = None; pid = false; act = None } ∷ record { name = codes "t2"; kind = Function; regs = false; ipmodify = None; pid = false; act = None } ∷ record { name = codes "t3"; kind = Function; regs = false; ipmodify = None; pid = false; act = None } ∷ []; frames = 50; tramps = 16; quanta = 100 ∷ []; tasks = record { pid = 10; cpu = 0; acts = After 4 ∷ Call (record { 0 = 0 }) ∷ RetAct ∷ [] } ∷ []; ctls = Run (Register 0) ∷ Run (Register 1) ∷ Run (Register 2) ∷ Run (Notrace 0 (record { append = false; remove = false; clear = false; set = true ∷ [] })) ∷ []; lines = usual_lines; rings = usual_rings; schedule = record { who = All; count = 300 } ∷ [] }

abbrev pub no_notrace_word-items : List Item
no_notrace_word-items = Begin 1 ∷ Return 1 Accepted ∷ Begin 2 ∷ Return 2 Accepted ∷ Begin 3 ∷ Return 3 Accepted ∷ Begin 4 ∷ Return 4 Accepted ∷ Enter (call_in 0 1) Normal (record { 0 = 0 }) None ∷ Back (call_in 0 1) (record { 0 = 2 }) ∷ BackEnd (call_in 0 1) (record { 0 = 2 }) ∷ Back (call_in 0 1) (record { 0 = 1 }) ∷ BackEnd (call_in 0 1) (record { 0 = 1 }) ∷ Body (call_in 0 1) (record { 0 = 0 }) ByList ∷ Leave (call_in 0 1) ∷ Ret (call_in 0 1) None ∷ []

pub no_notrace_word-plays : Plays no_notrace_word no_notrace_word-items true
unfolding actors_of repeated start step run played play all_end control_next control_got cpu_next cpu_got insn moves desk
no_notrace_word-plays = (refl, refl)

abbrev pub filter_of_the_other_copy : Job
filter_of_the_other_copy = record { version = 1; functions = named (codes "a") None ∷ []; users = record { name = codes "t1"; kind = Function; regs = false; ipmodify = None; pid = false; act = None } ∷ record { name = codes "t2"; kind = Function; regs = false; ipmodify = None; pid = false; act = None } ∷ []; frames = 50; tramps = 16; quanta = 100 ∷ []; tasks = record { pid = 10; cpu = 0; acts = After 3 ∷ Call (record { 0 = 0 }) ∷ RetAct ∷ [] } ∷ []; ctls = Run (Filter 0 (record { append = false; remove = false; clear = false; set = true ∷ [] })) ∷ Run (Register 0) ∷ Run (Register 1) ∷ []; lines = usual_lines; rings = usual_rings; schedule = record { who = All; count = 300 } ∷ [] }

abbrev pub filter_of_the_other_copy-items : List Item
filter_of_the_other_copy-items = Begin 1 ∷ Return 1 Accepted ∷ Begin 2 ∷ Return 2 Accepted ∷ Begin 3 ∷ Return 3 Accepted ∷ Enter (call_in 0 1) Normal (record { 0 = 0 }) None ∷ Back (call_in 0 1) (record { 0 = 1 }) ∷ BackEnd (call_in 0 1) (record { 0 = 1 }) ∷ Back (call_in 0 1) (record { 0 = 0 }) ∷ BackEnd (call_in 0 1) (record { 0 = 0 }) ∷ Body (call_in 0 1) (record { 0 = 0 }) ByList ∷ Leave (call_in 0 1) ∷ Ret (call_in 0 1) None ∷ []

pub filter_of_the_other_copy-plays : Plays filter_of_the_other_copy filter_of_the_other_copy-items true
unfolding actors_of repeated start step run played play all_end control_next control_got cpu_next cpu_got insn moves desk
filter_of_the_other_copy-plays = (refl, refl)

abbrev pub no_unlinking : Job
no_unlinking = record { version = 1; functions = named (codes "a") None ∷ []; users = record { name = codes "t1"; kind = Function; regs = false; ipmodify = None; pid = false; act = None } ∷ record { name = codes "t2"; kind = Function; regs = false; ipmodify = None; pid = false; act = None } ∷ []; frames = 50; tramps = 16; quanta = 100 ∷ []; tasks = record { pid = 10; cpu = 0; acts = After 4 ∷ Call (record { 0 = 0 }) ∷ RetAct ∷ [] } ∷ []; ctls = Run (Register 0) ∷ Run (Register 1) ∷ Run (Unregister 0) ∷ Run (Register 0) ∷ []; lines = usual_lines; rings = usual_rings; schedule = record { who = All; count = 300 } ∷ [] }

abbrev pub no_unlinking-items : List Item
no_unlinking-items = Begin 1 ∷ Return 1 Accepted ∷ Begin 2 ∷ Return 2 Accepted ∷ Begin 3 ∷ Return 3 Accepted ∷ Begin 4 ∷ Return 4 Accepted ∷ Enter (call_in 0 1) Normal (record { 0 = 0 }) None ∷ Back (call_in 0 1) (record { 0 = 0 }) ∷ BackEnd (call_in 0 1) (record { 0 = 0 }) ∷ Back (call_in 0 1) (record { 0 = 1 }) ∷ BackEnd (call_in 0 1) (record { 0 = 1 }) ∷ Body (call_in 0 1) (record { 0 = 0 }) ByList ∷ Leave (call_in 0 1) ∷ Ret (call_in 0 1) None ∷ []

pub no_unlinking-plays : Plays no_unlinking no_unlinking-items true
unfolding actors_of repeated start step run played play all_end control_next control_got cpu_next cpu_got insn moves desk
no_unlinking-plays = (refl, refl)

abbrev pub no_state_at_unregistration : Job
no_state_at_unregistration = record { version = 1; functions = named (codes "a") None ∷ []; users = record { name = codes "g"; kind = Graph; regs = false; ipmodify = None; pid = false; act = None } ∷ []; frames = 50; tramps = 16; quanta = 100 ∷ []; tasks = record { pid = 10; cpu = 0; acts = After 1 ∷ Call (record { 0 = 0 }) ∷ After 2 ∷ RetAct ∷ [] } ∷ []; ctls = Run (Register 0) ∷ Until 0 2 ∷ Run (Unregister 0) ∷ []; lines = usual_lines; rings = usual_rings; schedule = record { who = All; count = 300 } ∷ [] }

abbrev pub no_state_at_unregistration-items : List Item
no_state_at_unregistration-items = Begin 1 ∷ Return 1 Accepted ∷ Enter (call_in 0 1) Normal (record { 0 = 0 }) None ∷ Back (call_in 0 1) (record { 0 = 0 }) ∷ BackEnd (call_in 0 1) (record { 0 = 0 }) ∷ Body (call_in 0 1) (record { 0 = 0 }) (Own (record { 0 = 0 })) ∷ Begin 2 ∷ Return 2 Accepted ∷ Leave (call_in 0 1) ∷ Ret (call_in 0 1) None ∷ []

pub no_state_at_unregistration-plays : Plays no_state_at_unregistration no_state_at_unregistration-items true
unfolding actors_of repeated start step run played play all_end control_next control_got cpu_next cpu_got insn moves desk
no_state_at_unregistration-plays = (refl, refl)

abbrev pub link_cleared : Job
link_cleared = record { version = 1; functions = named (codes "a") None ∷ []; users = record { name = codes "t1"; kind = Function; regs = false; ipmodify = None; pid = false; act = None } ∷ record { name = codes "t2"; kind = Function; regs = false; ipmodify = None; pid = false; act = None } ∷ record { name = codes "t3"; kind = Function; regs = false; ipmodify = None; pid = false; act = None } ∷ []; frames = 50; tramps = 16; quanta = 100 ∷ []; tasks = record { pid = 10; cpu = 0; acts = After 3 ∷ Call (record { 0 = 0 }) ∷ RetAct ∷ [] } ∷ []; ctls = Run (Register 0) ∷ Run (Register 1) ∷ Run (Register 2) ∷ Run (Unregister 1) ∷ []; lines = usual_lines; rings = usual_rings; schedule = record { who = OfControl; count = 10 } ∷ record { who = OfCpu (record { 0 = 0 }); count = 2 } ∷ record { who = OfControl; count = 3 } ∷ record { who = OfCpu (record { 0 = 0 }); count = 4 } ∷ record { who = OfControl; count = 3 } ∷ record { who = OfCpu (record { 0 = 0 }); count = 4 } ∷ record { who = OfControl; count = 12 } ∷ record { who = OfCpu (record { 0 = 0 }); count = 4 } ∷ record { who = OfControl; count = 3 } ∷ record { who = OfCpu (record { 0 = 0 }); count = 4 } ∷ record { who = OfControl; count = 3 } ∷ record { who = OfCpu (record { 0 = 0 }); count = 4 } ∷ record { who = OfControl; count = 10 } ∷ record { who = OfCpu (record { 0 = 0 }); count = 11 } ∷ record { who = All; count = 300 } ∷ [] }

abbrev pub link_cleared-items : List Item
link_cleared-items = Begin 1 ∷ Return 1 Accepted ∷ Begin 2 ∷ Return 2 Accepted ∷ Begin 3 ∷ Return 3 Accepted ∷ Enter (call_in 0 1) Normal (record { 0 = 0 }) None ∷ Back (call_in 0 1) (record { 0 = 2 }) ∷ Begin 4 ∷ BackEnd (call_in 0 1) (record { 0 = 2 }) ∷ Back (call_in 0 1) (record { 0 = 0 }) ∷ BackEnd (call_in 0 1) (record { 0 = 0 }) ∷ Body (call_in 0 1) (record { 0 = 0 }) ByList ∷ Leave (call_in 0 1) ∷ Ret (call_in 0 1) None ∷ Return 4 Accepted ∷ []

pub link_cleared-plays : Plays link_cleared link_cleared-items true
unfolding actors_of repeated start step run played play all_end control_next control_got cpu_next cpu_got insn moves desk
link_cleared-plays = (refl, refl)

abbrev pub link_after_first : Job
link_after_first = record { version = 1; functions = named (codes "a") None ∷ []; users = record { name = codes "t1"; kind = Function; regs = false; ipmodify = None; pid = false; act = None } ∷ record { name = codes "t2"; kind = Function; regs = false; ipmodify = None; pid = false; act = None } ∷ record { name = codes "t3"; kind = Function; regs = false; ipmodify = None; pid = false; act = None } ∷ []; frames = 50; tramps = 16; quanta = 100 ∷ []; tasks = record { pid = 10; cpu = 0; acts = After 2 ∷ Call (record { 0 = 0 }) ∷ RetAct ∷ [] } ∷ []; ctls = Run (Register 0) ∷ Run (Register 1) ∷ Run (Register 2) ∷ []; lines = usual_lines; rings = usual_rings; schedule = record { who = OfControl; count = 10 } ∷ record { who = OfCpu (record { 0 = 0 }); count = 2 } ∷ record { who = OfControl; count = 3 } ∷ record { who = OfCpu (record { 0 = 0 }); count = 4 } ∷ record { who = OfControl; count = 3 } ∷ record { who = OfCpu (record { 0 = 0 }); count = 4 } ∷ record { who = OfControl; count = 12 } ∷ record { who = OfCpu (record { 0 = 0 }); count = 4 } ∷ record { who = OfControl; count = 3 } ∷ record { who = OfCpu (record { 0 = 0 }); count = 4 } ∷ record { who = OfControl; count = 3 } ∷ record { who = OfCpu (record { 0 = 0 }); count = 4 } ∷ record { who = OfControl; count = 8 } ∷ record { who = OfCpu (record { 0 = 0 }); count = 13 } ∷ record { who = All; count = 300 } ∷ [] }

abbrev pub link_after_first-items : List Item
link_after_first-items = Begin 1 ∷ Return 1 Accepted ∷ Begin 2 ∷ Return 2 Accepted ∷ Begin 3 ∷ Enter (call_in 0 1) Normal (record { 0 = 0 }) None ∷ Back (call_in 0 1) (record { 0 = 1 }) ∷ BackEnd (call_in 0 1) (record { 0 = 1 }) ∷ Return 3 Accepted ∷ Back (call_in 0 1) (record { 0 = 0 }) ∷ BackEnd (call_in 0 1) (record { 0 = 0 }) ∷ Body (call_in 0 1) (record { 0 = 0 }) ByList ∷ Leave (call_in 0 1) ∷ Ret (call_in 0 1) None ∷ []

pub link_after_first-plays : Plays link_after_first link_after_first-items true
unfolding actors_of repeated start step run played play all_end control_next control_got cpu_next cpu_got insn moves desk
link_after_first-plays = (refl, refl)

abbrev pub walk_begun_again : Job
walk_begun_again = record { version = 1; functions = named (codes "a") None ∷ []; users = record { name = codes "t1"; kind = Function; regs = false; ipmodify = None; pid = false; act = None } ∷ record { name = codes "t2"; kind = Function; regs = false; ipmodify = None; pid = false; act = None } ∷ []; frames = 50; tramps = 16; quanta = 100 ∷ []; tasks = record { pid = 10; cpu = 0; acts = After 2 ∷ Call (record { 0 = 0 }) ∷ RetAct ∷ [] } ∷ []; ctls = Run (Register 0) ∷ Run (Register 1) ∷ []; lines = usual_lines; rings = usual_rings; schedule = record { who = All; count = 300 } ∷ [] }

abbrev pub walk_begun_again-items : List Item
walk_begun_again-items = Begin 1 ∷ Return 1 Accepted ∷ Begin 2 ∷ Return 2 Accepted ∷ Enter (call_in 0 1) Normal (record { 0 = 0 }) None ∷ Back (call_in 0 1) (record { 0 = 1 }) ∷ BackEnd (call_in 0 1) (record { 0 = 1 }) ∷ Back (call_in 0 1) (record { 0 = 0 }) ∷ BackEnd (call_in 0 1) (record { 0 = 0 }) ∷ Body (call_in 0 1) (record { 0 = 0 }) ByList ∷ Leave (call_in 0 1) ∷ Ret (call_in 0 1) None ∷ []

pub walk_begun_again-plays : Plays walk_begun_again walk_begun_again-items true
unfolding actors_of repeated start step run played play all_end control_next control_got cpu_next cpu_got insn moves desk
walk_begun_again-plays = (refl, refl)

abbrev pub guard_before_pid : Job
guard_before_pid = record { version = 1; functions = named (codes "a") None ∷ named (codes "b") None ∷ []; users = record { name = codes "t1"; kind = Function; regs = false; ipmodify = None; pid = false; act = Some (CallIn (record { 0 = 1 })) } ∷ record { name = codes "t2"; kind = Function; regs = false; ipmodify = None; pid = true; act = None } ∷ []; frames = 50; tramps = 16; quanta = 100 ∷ []; tasks = record { pid = 10; cpu = 0; acts = After 3 ∷ Call (record { 0 = 0 }) ∷ RetAct ∷ [] } ∷ []; ctls = Run (Register 0) ∷ Run (Register 1) ∷ Run (NoPid (true ∷ [])) ∷ []; lines = usual_lines; rings = usual_rings; schedule = record { who = All; count = 300 } ∷ [] }

abbrev pub guard_before_pid-items : List Item
guard_before_pid-items = Begin 1 ∷ Return 1 Accepted ∷ Begin 2 ∷ Return 2 Accepted ∷ Begin 3 ∷ Return 3 Accepted ∷ Enter (call_in 0 1) Normal (record { 0 = 0 }) None ∷ Refuse (call_in 0 1) (record { 0 = 1 }) ByPid ∷ Back (call_in 0 1) (record { 0 = 0 }) ∷ Enter (call_in 0 2) Normal (record { 0 = 1 }) (Some (call_in 0 1)) ∷ Refuse (call_in 0 2) (record { 0 = 1 }) ByPid ∷ Refuse (call_in 0 2) (record { 0 = 0 }) Recursion ∷ Body (call_in 0 2) (record { 0 = 1 }) ByList ∷ Leave (call_in 0 2) ∷ Ret (call_in 0 2) (Some (call_in 0 1)) ∷ BackEnd (call_in 0 1) (record { 0 = 0 }) ∷ Body (call_in 0 1) (record { 0 = 0 }) ByList ∷ Leave (call_in 0 1) ∷ Ret (call_in 0 1) None ∷ []

pub guard_before_pid-plays : Plays guard_before_pid guard_before_pid-items true
unfolding actors_of repeated start step run played play all_end control_next control_got cpu_next cpu_got insn moves desk
guard_before_pid-plays = (refl, refl)

abbrev pub exit_by_registration_bit : Job
exit_by_registration_bit = record { version = 1; functions = named (codes "a") None ∷ []; users = record { name = codes "g"; kind = Graph; regs = false; ipmodify = None; pid = false; act = None } ∷ []; frames = 50; tramps = 16; quanta = 100 ∷ []; tasks = record { pid = 10; cpu = 0; acts = After 1 ∷ Call (record { 0 = 0 }) ∷ After 3 ∷ RetAct ∷ [] } ∷ []; ctls = Run (Register 0) ∷ Until 0 2 ∷ Run (Unregister 0) ∷ Run (Register 0) ∷ []; lines = usual_lines; rings = usual_rings; schedule = record { who = All; count = 300 } ∷ [] }

abbrev pub exit_by_registration_bit-items : List Item
exit_by_registration_bit-items = Begin 1 ∷ Return 1 Accepted ∷ Enter (call_in 0 1) Normal (record { 0 = 0 }) None ∷ Back (call_in 0 1) (record { 0 = 0 }) ∷ BackEnd (call_in 0 1) (record { 0 = 0 }) ∷ Body (call_in 0 1) (record { 0 = 0 }) (Own (record { 0 = 0 })) ∷ Begin 2 ∷ Return 2 Accepted ∷ Begin 3 ∷ Return 3 Accepted ∷ Leave (call_in 0 1) ∷ Ret (call_in 0 1) None ∷ []

pub exit_by_registration_bit-plays : Plays exit_by_registration_bit exit_by_registration_bit-items true
unfolding actors_of repeated start step run played play all_end control_next control_got cpu_next cpu_got insn moves desk
exit_by_registration_bit-plays = (refl, refl)
