-- Written by tools/ft samples word REFERENCE rows FILE
-- The word machine at worked examples, beside the histories that another program printed,
-- which was written from the same rules.
use Rattle.std.proofs.Common.{true, false, List, [], ◌∷◌, Some, None, codes, refl}
use Rattle.ft_base.specs.declared.context.Ctx.TheVariants.{Normal, Softirq, Irq}
use Rattle.ft_base.specs.declared.item.Ran.TheVariants.{Own, Nop, List as ByList}
use Rattle.ft_base.specs.declared.item.Reason.TheVariants.{Depth, Recursion, Pid as ByPid}
use Rattle.ft_base.specs.declared.item.Answer.TheVariants.{Accepted, Already, NotThere, Invalid, NoMatch, Busy}
use Rattle.ft_base.specs.declared.item.Item.{Item}
use Rattle.ft_base.specs.declared.item.Item.TheVariants.{Begin, Return, Enter, Back, BackEnd, Refuse, Miss, Body, Leave, Exit, ExitEnd, Ret}
use Rattle.ft_base.specs.declared.user.Kind.TheVariants.{Graph, Function, Fprobe, Profile}
use Rattle.ft_base.specs.declared.user.Act.TheVariants.{CallIn, IrqIn}
use Rattle.ft_base.specs.declared.task.TaskAct.TheVariants.{Call, Ret as RetAct, After, Raise, Lower}
use Rattle.ft_base.specs.declared.turn.Who.TheVariants.{Control as OfControl, Cpu as OfCpu, All}
use Rattle.ft_base.specs.Job.{usual_lines, usual_rings, Job, Register, Unregister, Filter, Notrace, Enable, Disable, Pid, NoPid, MaxDepth, Run, Until}
use Rattle.ft_base.specs.Desk.{desk}
use Rattle.ft_base.specs.Schedule.{actors_of, repeated}
use Rattle.ft_hist.proofs.SmallJobs.{named, call_in}
use Rattle.word_machine.specs.Commands.{insn, moves}
use Rattle.word_machine.specs.Control.{control_next, control_got}
use Rattle.word_machine.specs.Cpu.{cpu_next, cpu_got}
use Rattle.word_machine.specs.Machine.{start, step, run, played, play, all_end}
use Rattle.word_machine.proofs.Plays.{Plays}

abbrev pub breakpoint_is_read : Job
breakpoint_is_read = record { version = 1; functions = named (codes "a") None ∷ []; users = record { name = codes "tr"; kind = Function; regs = false; ipmodify = None; pid = false; act = None } ∷ []; frames = 50; tramps = 16; quanta = 100 ∷ []; tasks = record { pid = 10; cpu = 0; acts = Call (record { 0 = 0 }) ∷ RetAct ∷ [] } ∷ []; ctls = Run (Register 0) ∷ []; lines = usual_lines; rings = usual_rings; schedule = record { who = OfControl; count = 9 } ∷ record { who = OfCpu (record { 0 = 0 }); count = 13 } ∷ record { who = All; count = 60 } ∷ [] }

abbrev pub breakpoint_is_read-items : List Item
breakpoint_is_read-items = Begin 1 ∷ Enter (call_in 0 1) Normal (record { 0 = 0 }) None ∷ Back (call_in 0 1) (record { 0 = 0 }) ∷ BackEnd (call_in 0 1) (record { 0 = 0 }) ∷ Body (call_in 0 1) (record { 0 = 0 }) (Own (record { 0 = 0 })) ∷ Leave (call_in 0 1) ∷ Ret (call_in 0 1) None ∷ Return 1 Accepted ∷ []

pub breakpoint_is_read-plays : Plays breakpoint_is_read breakpoint_is_read-items true
unfolding actors_of repeated start step run played play all_end control_next control_got cpu_next cpu_got insn moves desk
breakpoint_is_read-plays = (refl, refl)

abbrev pub fetch_held_between_loads : Job
fetch_held_between_loads = record { version = 1; functions = named (codes "a") None ∷ []; users = record { name = codes "tr"; kind = Function; regs = false; ipmodify = None; pid = false; act = None } ∷ []; frames = 50; tramps = 16; quanta = 100 ∷ []; tasks = record { pid = 10; cpu = 0; acts = Call (record { 0 = 0 }) ∷ RetAct ∷ [] } ∷ []; ctls = Run (Register 0) ∷ []; lines = usual_lines; rings = usual_rings; schedule = record { who = OfCpu (record { 0 = 0 }); count = 3 } ∷ record { who = OfControl; count = 40 } ∷ record { who = OfCpu (record { 0 = 0 }); count = 1 } ∷ record { who = All; count = 60 } ∷ [] }

abbrev pub fetch_held_between_loads-items : List Item
fetch_held_between_loads-items = Enter (call_in 0 1) Normal (record { 0 = 0 }) None ∷ Begin 1 ∷ Body (call_in 0 1) (record { 0 = 0 }) Nop ∷ Leave (call_in 0 1) ∷ Ret (call_in 0 1) None ∷ Return 1 Accepted ∷ []

pub fetch_held_between_loads-plays : Plays fetch_held_between_loads fetch_held_between_loads-items true
unfolding actors_of repeated start step run played play all_end control_next control_got cpu_next cpu_got insn moves desk
fetch_held_between_loads-plays = (refl, refl)

abbrev pub stopped_in_a_fetch : Job
stopped_in_a_fetch = record { version = 1; functions = named (codes "a") None ∷ []; users = record { name = codes "tr"; kind = Function; regs = false; ipmodify = None; pid = false; act = None } ∷ []; frames = 50; tramps = 16; quanta = 100 ∷ []; tasks = record { pid = 10; cpu = 0; acts = Call (record { 0 = 0 }) ∷ RetAct ∷ [] } ∷ []; ctls = Run (Register 0) ∷ []; lines = usual_lines; rings = usual_rings; schedule = record { who = OfCpu (record { 0 = 0 }); count = 3 } ∷ record { who = OfControl; count = 40 } ∷ record { who = OfCpu (record { 0 = 0 }); count = 1 } ∷ [] }

abbrev pub stopped_in_a_fetch-items : List Item
stopped_in_a_fetch-items = Enter (call_in 0 1) Normal (record { 0 = 0 }) None ∷ Begin 1 ∷ []

pub stopped_in_a_fetch-plays : Plays stopped_in_a_fetch stopped_in_a_fetch-items false
unfolding actors_of repeated start step run played play all_end control_next control_got cpu_next cpu_got insn moves desk
stopped_in_a_fetch-plays = (refl, refl)

abbrev pub preempted_in_callback : Job
preempted_in_callback = record { version = 1; functions = named (codes "a") None ∷ []; users = record { name = codes "tr"; kind = Function; regs = false; ipmodify = None; pid = false; act = None } ∷ []; frames = 50; tramps = 16; quanta = 14 ∷ []; tasks = record { pid = 11; cpu = 0; acts = After 1 ∷ Raise Softirq ∷ Lower ∷ Raise Softirq ∷ Lower ∷ [] } ∷ record { pid = 10; cpu = 0; acts = After 1 ∷ Raise Softirq ∷ Lower ∷ Call (record { 0 = 0 }) ∷ RetAct ∷ [] } ∷ []; ctls = Run (Register 0) ∷ Run (Unregister 0) ∷ []; lines = usual_lines; rings = usual_rings; schedule = record { who = OfControl; count = 10 } ∷ record { who = OfCpu (record { 0 = 0 }); count = 5 } ∷ record { who = OfControl; count = 3 } ∷ record { who = OfCpu (record { 0 = 0 }); count = 5 } ∷ record { who = OfControl; count = 3 } ∷ record { who = OfCpu (record { 0 = 0 }); count = 5 } ∷ record { who = OfControl; count = 2 } ∷ record { who = OfCpu (record { 0 = 0 }); count = 14 } ∷ record { who = OfControl; count = 7 } ∷ record { who = OfCpu (record { 0 = 0 }); count = 4 } ∷ record { who = OfControl; count = 3 } ∷ record { who = OfCpu (record { 0 = 0 }); count = 3 } ∷ record { who = OfControl; count = 3 } ∷ record { who = OfCpu (record { 0 = 0 }); count = 3 } ∷ record { who = OfControl; count = 3 } ∷ record { who = OfCpu (record { 0 = 0 }); count = 3 } ∷ record { who = OfControl; count = 5 } ∷ record { who = All; count = 60 } ∷ [] }

abbrev pub preempted_in_callback-items : List Item
preempted_in_callback-items = Begin 1 ∷ Return 1 Accepted ∷ Enter (call_in 1 1) Normal (record { 0 = 0 }) None ∷ Back (call_in 1 1) (record { 0 = 0 }) ∷ Begin 2 ∷ BackEnd (call_in 1 1) (record { 0 = 0 }) ∷ Body (call_in 1 1) (record { 0 = 0 }) (Own (record { 0 = 0 })) ∷ Leave (call_in 1 1) ∷ Ret (call_in 1 1) None ∷ Return 2 Accepted ∷ []

pub preempted_in_callback-plays : Plays preempted_in_callback preempted_in_callback-items true
unfolding actors_of repeated start step run played play all_end control_next control_got cpu_next cpu_got insn moves desk
preempted_in_callback-plays = (refl, refl)

abbrev pub hash_changed_in_walk_old : Job
hash_changed_in_walk_old = record { version = 1; functions = named (codes "a") None ∷ []; users = record { name = codes "t1"; kind = Function; regs = false; ipmodify = None; pid = false; act = None } ∷ record { name = codes "t2"; kind = Function; regs = false; ipmodify = None; pid = false; act = None } ∷ []; frames = 50; tramps = 16; quanta = 100 ∷ []; tasks = record { pid = 10; cpu = 0; acts = After 2 ∷ Call (record { 0 = 0 }) ∷ RetAct ∷ [] } ∷ []; ctls = Run (Register 0) ∷ Run (Register 1) ∷ Until 0 1 ∷ Run (Notrace 0 (record { append = false; remove = false; clear = false; set = true ∷ [] })) ∷ []; lines = usual_lines; rings = usual_rings; schedule = record { who = OfControl; count = 50 } ∷ record { who = OfCpu (record { 0 = 0 }); count = 20 } ∷ record { who = OfControl; count = 50 } ∷ record { who = OfCpu (record { 0 = 0 }); count = 20 } ∷ record { who = OfControl; count = 50 } ∷ record { who = OfCpu (record { 0 = 0 }); count = 20 } ∷ record { who = OfControl; count = 50 } ∷ record { who = OfCpu (record { 0 = 0 }); count = 20 } ∷ record { who = OfControl; count = 50 } ∷ record { who = OfCpu (record { 0 = 0 }); count = 20 } ∷ record { who = OfControl; count = 50 } ∷ record { who = OfCpu (record { 0 = 0 }); count = 20 } ∷ record { who = OfControl; count = 50 } ∷ record { who = OfCpu (record { 0 = 0 }); count = 14 } ∷ record { who = OfControl; count = 50 } ∷ record { who = OfCpu (record { 0 = 0 }); count = 20 } ∷ record { who = All; count = 60 } ∷ [] }

abbrev pub hash_changed_in_walk_old-items : List Item
hash_changed_in_walk_old-items = Begin 1 ∷ Return 1 Accepted ∷ Begin 2 ∷ Return 2 Accepted ∷ Enter (call_in 0 1) Normal (record { 0 = 0 }) None ∷ Back (call_in 0 1) (record { 0 = 1 }) ∷ BackEnd (call_in 0 1) (record { 0 = 1 }) ∷ Begin 3 ∷ Back (call_in 0 1) (record { 0 = 0 }) ∷ BackEnd (call_in 0 1) (record { 0 = 0 }) ∷ Body (call_in 0 1) (record { 0 = 0 }) ByList ∷ Leave (call_in 0 1) ∷ Ret (call_in 0 1) None ∷ Return 3 Accepted ∷ []

pub hash_changed_in_walk_old-plays : Plays hash_changed_in_walk_old hash_changed_in_walk_old-items true
unfolding actors_of repeated start step run played play all_end control_next control_got cpu_next cpu_got insn moves desk
hash_changed_in_walk_old-plays = (refl, refl)

abbrev pub hash_changed_in_walk_new : Job
hash_changed_in_walk_new = record { version = 1; functions = named (codes "a") None ∷ []; users = record { name = codes "t1"; kind = Function; regs = false; ipmodify = None; pid = false; act = None } ∷ record { name = codes "t2"; kind = Function; regs = false; ipmodify = None; pid = false; act = None } ∷ []; frames = 50; tramps = 16; quanta = 100 ∷ []; tasks = record { pid = 10; cpu = 0; acts = After 2 ∷ Call (record { 0 = 0 }) ∷ RetAct ∷ [] } ∷ []; ctls = Run (Register 0) ∷ Run (Register 1) ∷ Until 0 1 ∷ Run (Notrace 0 (record { append = false; remove = false; clear = false; set = true ∷ [] })) ∷ []; lines = usual_lines; rings = usual_rings; schedule = record { who = OfControl; count = 50 } ∷ record { who = OfCpu (record { 0 = 0 }); count = 20 } ∷ record { who = OfControl; count = 50 } ∷ record { who = OfCpu (record { 0 = 0 }); count = 20 } ∷ record { who = OfControl; count = 50 } ∷ record { who = OfCpu (record { 0 = 0 }); count = 20 } ∷ record { who = OfControl; count = 50 } ∷ record { who = OfCpu (record { 0 = 0 }); count = 20 } ∷ record { who = OfControl; count = 50 } ∷ record { who = OfCpu (record { 0 = 0 }); count = 20 } ∷ record { who = OfControl; count = 50 } ∷ record { who = OfCpu (record { 0 = 0 }); count = 20 } ∷ record { who = OfControl; count = 50 } ∷ record { who = OfCpu (record { 0 = 0 }); count = 13 } ∷ record { who = OfControl; count = 50 } ∷ record { who = OfCpu (record { 0 = 0 }); count = 20 } ∷ record { who = All; count = 60 } ∷ [] }

abbrev pub hash_changed_in_walk_new-items : List Item
hash_changed_in_walk_new-items = Begin 1 ∷ Return 1 Accepted ∷ Begin 2 ∷ Return 2 Accepted ∷ Enter (call_in 0 1) Normal (record { 0 = 0 }) None ∷ Back (call_in 0 1) (record { 0 = 1 }) ∷ BackEnd (call_in 0 1) (record { 0 = 1 }) ∷ Begin 3 ∷ Body (call_in 0 1) (record { 0 = 0 }) ByList ∷ Leave (call_in 0 1) ∷ Ret (call_in 0 1) None ∷ Return 3 Accepted ∷ []

pub hash_changed_in_walk_new-plays : Plays hash_changed_in_walk_new hash_changed_in_walk_new-items true
unfolding actors_of repeated start step run played play all_end control_next control_got cpu_next cpu_got insn moves desk
hash_changed_in_walk_new-plays = (refl, refl)

abbrev pub further_words : Job
further_words = record { version = 1; functions = named (codes "x0") None ∷ named (codes "x1") None ∷ named (codes "x2") None ∷ named (codes "x3") None ∷ named (codes "x4") None ∷ named (codes "x5") None ∷ named (codes "x6") None ∷ named (codes "x7") None ∷ named (codes "x8") None ∷ named (codes "x9") None ∷ named (codes "x10") None ∷ named (codes "x11") None ∷ named (codes "x12") None ∷ named (codes "x13") None ∷ named (codes "x14") None ∷ named (codes "x15") None ∷ named (codes "x16") None ∷ named (codes "x17") None ∷ named (codes "x18") None ∷ named (codes "x19") None ∷ named (codes "x20") None ∷ named (codes "x21") None ∷ named (codes "x22") None ∷ named (codes "x23") None ∷ named (codes "x24") None ∷ named (codes "x25") None ∷ named (codes "x26") None ∷ named (codes "x27") None ∷ named (codes "x28") None ∷ named (codes "x29") None ∷ named (codes "x30") None ∷ named (codes "x31") None ∷ named (codes "x32") None ∷ named (codes "x33") None ∷ named (codes "x34") None ∷ named (codes "x35") None ∷ named (codes "x36") None ∷ named (codes "x37") None ∷ named (codes "x38") None ∷ named (codes "x39") None ∷ named (codes "x40") None ∷ named (codes "x41") None ∷ named (codes "x42") None ∷ named (codes "x43") None ∷ named (codes "x44") None ∷ named (codes "x45") None ∷ named (codes "x46") None ∷ named (codes "x47") None ∷ named (codes "x48") None ∷ named (codes "x49") None ∷ named (codes "x50") None ∷ named (codes "x51") None ∷ named (codes "x52") None ∷ named (codes "x53") None ∷ named (codes "x54") None ∷ named (codes "x55") None ∷ named (codes "x56") None ∷ named (codes "x57") None ∷ named (codes "x58") None ∷ named (codes "x59") None ∷ named (codes "x60") None ∷ named (codes "x61") None ∷ named (codes "x62") None ∷ named (codes "x63") None ∷ named (codes "a") None ∷ named (codes "b") None ∷ []; users = record { name = codes "t1"; kind = Function; regs = false; ipmodify = None; pid = false; act = None } ∷ record { name = codes "t2"; kind = Function; regs = false; ipmodify = None; pid = false; act = None } ∷ record { name = codes "t3"; kind = Function; regs = false; ipmodify = None; pid = false; act = None } ∷ []; frames = 50; tramps = 16; quanta = 100 ∷ []; tasks = record { pid = 10; cpu = 0; acts = After 7 ∷ Call (record { 0 = 64 }) ∷ RetAct ∷ Call (record { 0 = 65 }) ∷ RetAct ∷ [] } ∷ []; ctls = Run (Filter 0 (record { append = false; remove = false; clear = false; set = false ∷ false ∷ false ∷ false ∷ false ∷ false ∷ false ∷ false ∷ false ∷ false ∷ false ∷ false ∷ false ∷ false ∷ false ∷ false ∷ false ∷ false ∷ false ∷ false ∷ false ∷ false ∷ false ∷ false ∷ false ∷ false ∷ false ∷ false ∷ false ∷ false ∷ false ∷ false ∷ false ∷ false ∷ false ∷ false ∷ false ∷ false ∷ false ∷ false ∷ false ∷ false ∷ false ∷ false ∷ false ∷ false ∷ false ∷ false ∷ false ∷ false ∷ false ∷ false ∷ false ∷ false ∷ false ∷ false ∷ false ∷ false ∷ false ∷ false ∷ false ∷ false ∷ false ∷ false ∷ true ∷ true ∷ [] })) ∷ Run (Filter 1 (record { append = false; remove = false; clear = false; set = false ∷ false ∷ false ∷ false ∷ false ∷ false ∷ false ∷ false ∷ false ∷ false ∷ false ∷ false ∷ false ∷ false ∷ false ∷ false ∷ false ∷ false ∷ false ∷ false ∷ false ∷ false ∷ false ∷ false ∷ false ∷ false ∷ false ∷ false ∷ false ∷ false ∷ false ∷ false ∷ false ∷ false ∷ false ∷ false ∷ false ∷ false ∷ false ∷ false ∷ false ∷ false ∷ false ∷ false ∷ false ∷ false ∷ false ∷ false ∷ false ∷ false ∷ false ∷ false ∷ false ∷ false ∷ false ∷ false ∷ false ∷ false ∷ false ∷ false ∷ false ∷ false ∷ false ∷ false ∷ true ∷ true ∷ [] })) ∷ Run (Notrace 1 (record { append = false; remove = false; clear = false; set = false ∷ false ∷ false ∷ false ∷ false ∷ false ∷ false ∷ false ∷ false ∷ false ∷ false ∷ false ∷ false ∷ false ∷ false ∷ false ∷ false ∷ false ∷ false ∷ false ∷ false ∷ false ∷ false ∷ false ∷ false ∷ false ∷ false ∷ false ∷ false ∷ false ∷ false ∷ false ∷ false ∷ false ∷ false ∷ false ∷ false ∷ false ∷ false ∷ false ∷ false ∷ false ∷ false ∷ false ∷ false ∷ false ∷ false ∷ false ∷ false ∷ false ∷ false ∷ false ∷ false ∷ false ∷ false ∷ false ∷ false ∷ false ∷ false ∷ false ∷ false ∷ false ∷ false ∷ false ∷ false ∷ true ∷ [] })) ∷ Run (Filter 2 (record { append = false; remove = false; clear = false; set = false ∷ false ∷ false ∷ false ∷ false ∷ false ∷ false ∷ false ∷ false ∷ false ∷ false ∷ false ∷ false ∷ false ∷ false ∷ false ∷ false ∷ false ∷ false ∷ false ∷ false ∷ false ∷ false ∷ false ∷ false ∷ false ∷ false ∷ false ∷ false ∷ false ∷ false ∷ false ∷ false ∷ false ∷ false ∷ false ∷ false ∷ false ∷ false ∷ false ∷ false ∷ false ∷ false ∷ false ∷ false ∷ false ∷ false ∷ false ∷ false ∷ false ∷ false ∷ false ∷ false ∷ false ∷ false ∷ false ∷ false ∷ false ∷ false ∷ false ∷ false ∷ false ∷ false ∷ false ∷ false ∷ true ∷ [] })) ∷ Run (Register 0) ∷ Run (Register 1) ∷ Run (Register 2) ∷ []; lines = usual_lines; rings = usual_rings; schedule = record { who = All; count = 300 } ∷ [] }

abbrev pub further_words-items : List Item
further_words-items = Begin 1 ∷ Return 1 Accepted ∷ Begin 2 ∷ Return 2 Accepted ∷ Begin 3 ∷ Return 3 Accepted ∷ Begin 4 ∷ Return 4 Accepted ∷ Begin 5 ∷ Return 5 Accepted ∷ Begin 6 ∷ Return 6 Accepted ∷ Begin 7 ∷ Return 7 Accepted ∷ Enter (call_in 0 1) Normal (record { 0 = 64 }) None ∷ Back (call_in 0 1) (record { 0 = 1 }) ∷ BackEnd (call_in 0 1) (record { 0 = 1 }) ∷ Back (call_in 0 1) (record { 0 = 0 }) ∷ BackEnd (call_in 0 1) (record { 0 = 0 }) ∷ Body (call_in 0 1) (record { 0 = 64 }) ByList ∷ Leave (call_in 0 1) ∷ Ret (call_in 0 1) None ∷ Enter (call_in 0 2) Normal (record { 0 = 65 }) None ∷ Back (call_in 0 2) (record { 0 = 2 }) ∷ BackEnd (call_in 0 2) (record { 0 = 2 }) ∷ Back (call_in 0 2) (record { 0 = 0 }) ∷ BackEnd (call_in 0 2) (record { 0 = 0 }) ∷ Body (call_in 0 2) (record { 0 = 65 }) ByList ∷ Leave (call_in 0 2) ∷ Ret (call_in 0 2) None ∷ []

pub further_words-plays : Plays further_words further_words-items true
unfolding actors_of repeated start step run played play all_end control_next control_got cpu_next cpu_got insn moves desk
further_words-plays = (refl, refl)

abbrev pub silent_acts : Job
silent_acts = record { version = 1; functions = []; users = []; frames = 50; tramps = 16; quanta = 100 ∷ 100 ∷ []; tasks = record { pid = 10; cpu = 0; acts = Raise Softirq ∷ Lower ∷ After 2 ∷ [] } ∷ record { pid = 11; cpu = 1; acts = After 1 ∷ Raise Irq ∷ Lower ∷ [] } ∷ []; ctls = Run (Pid (true ∷ false ∷ [])) ∷ Until 1 3 ∷ Run (MaxDepth 2) ∷ []; lines = usual_lines; rings = usual_rings; schedule = record { who = All; count = 300 } ∷ [] }

abbrev pub silent_acts-items : List Item
silent_acts-items = Begin 1 ∷ Return 1 Accepted ∷ Begin 2 ∷ Return 2 Accepted ∷ []

pub silent_acts-plays : Plays silent_acts silent_acts-items true
unfolding actors_of repeated start step run played play all_end control_next control_got cpu_next cpu_got insn moves desk
silent_acts-plays = (refl, refl)

abbrev pub first_path : Job
first_path = record { version = 1; functions = named (codes "a") None ∷ []; users = record { name = codes "tr"; kind = Function; regs = false; ipmodify = None; pid = false; act = None } ∷ []; frames = 50; tramps = 16; quanta = 100 ∷ []; tasks = record { pid = 10; cpu = 0; acts = After 1 ∷ Call (record { 0 = 0 }) ∷ RetAct ∷ [] } ∷ []; ctls = Run (Register 0) ∷ []; lines = usual_lines; rings = usual_rings; schedule = record { who = All; count = 300 } ∷ [] }

abbrev pub first_path-items : List Item
first_path-items = Begin 1 ∷ Return 1 Accepted ∷ Enter (call_in 0 1) Normal (record { 0 = 0 }) None ∷ Back (call_in 0 1) (record { 0 = 0 }) ∷ BackEnd (call_in 0 1) (record { 0 = 0 }) ∷ Body (call_in 0 1) (record { 0 = 0 }) (Own (record { 0 = 0 })) ∷ Leave (call_in 0 1) ∷ Ret (call_in 0 1) None ∷ []

pub first_path-plays : Plays first_path first_path-items true
unfolding actors_of repeated start step run played play all_end control_next control_got cpu_next cpu_got insn moves desk
first_path-plays = (refl, refl)

abbrev pub list_then_own : Job
list_then_own = record { version = 1; functions = named (codes "a") None ∷ []; users = record { name = codes "t1"; kind = Function; regs = false; ipmodify = None; pid = false; act = None } ∷ record { name = codes "t2"; kind = Function; regs = false; ipmodify = None; pid = false; act = None } ∷ []; frames = 50; tramps = 16; quanta = 100 ∷ []; tasks = record { pid = 10; cpu = 0; acts = After 2 ∷ Call (record { 0 = 0 }) ∷ RetAct ∷ After 3 ∷ Call (record { 0 = 0 }) ∷ RetAct ∷ [] } ∷ []; ctls = Run (Register 0) ∷ Run (Register 1) ∷ Until 0 3 ∷ Run (Unregister 0) ∷ []; lines = usual_lines; rings = usual_rings; schedule = record { who = All; count = 300 } ∷ [] }

abbrev pub list_then_own-items : List Item
list_then_own-items = Begin 1 ∷ Return 1 Accepted ∷ Begin 2 ∷ Return 2 Accepted ∷ Enter (call_in 0 1) Normal (record { 0 = 0 }) None ∷ Back (call_in 0 1) (record { 0 = 1 }) ∷ BackEnd (call_in 0 1) (record { 0 = 1 }) ∷ Back (call_in 0 1) (record { 0 = 0 }) ∷ BackEnd (call_in 0 1) (record { 0 = 0 }) ∷ Body (call_in 0 1) (record { 0 = 0 }) ByList ∷ Leave (call_in 0 1) ∷ Ret (call_in 0 1) None ∷ Begin 3 ∷ Return 3 Accepted ∷ Enter (call_in 0 2) Normal (record { 0 = 0 }) None ∷ Back (call_in 0 2) (record { 0 = 1 }) ∷ BackEnd (call_in 0 2) (record { 0 = 1 }) ∷ Body (call_in 0 2) (record { 0 = 0 }) (Own (record { 0 = 1 })) ∷ Leave (call_in 0 2) ∷ Ret (call_in 0 2) None ∷ []

pub list_then_own-plays : Plays list_then_own list_then_own-items true
unfolding actors_of repeated start step run played play all_end control_next control_got cpu_next cpu_got insn moves desk
list_then_own-plays = (refl, refl)

abbrev pub repeated_commands : Job
repeated_commands = record { version = 1; functions = named (codes "a") None ∷ []; users = record { name = codes "t"; kind = Function; regs = false; ipmodify = None; pid = false; act = None } ∷ []; frames = 50; tramps = 16; quanta = []; tasks = []; ctls = Run (Register 0) ∷ Run (Register 0) ∷ Run (Unregister 0) ∷ Run (Unregister 0) ∷ []; lines = usual_lines; rings = usual_rings; schedule = record { who = All; count = 300 } ∷ [] }

abbrev pub repeated_commands-items : List Item
repeated_commands-items = Begin 1 ∷ Return 1 Accepted ∷ Begin 2 ∷ Return 2 Already ∷ Begin 3 ∷ Return 3 Accepted ∷ Begin 4 ∷ Return 4 NotThere ∷ []

pub repeated_commands-plays : Plays repeated_commands repeated_commands-items true
unfolding actors_of repeated start step run played play all_end control_next control_got cpu_next cpu_got insn moves desk
repeated_commands-plays = (refl, refl)

abbrev pub two_ipmodify_users : Job
two_ipmodify_users = record { version = 1; functions = named (codes "a") None ∷ named (codes "b") None ∷ named (codes "c") None ∷ named (codes "d") None ∷ []; users = record { name = codes "p"; kind = Function; regs = true; ipmodify = Some (record { 0 = 3 }); pid = false; act = None } ∷ record { name = codes "q"; kind = Function; regs = true; ipmodify = Some (record { 0 = 3 }); pid = false; act = None } ∷ []; frames = 50; tramps = 16; quanta = 100 ∷ []; tasks = record { pid = 10; cpu = 0; acts = After 7 ∷ Call (record { 0 = 1 }) ∷ RetAct ∷ [] } ∷ []; ctls = Run (Filter 0 (record { append = false; remove = false; clear = false; set = true ∷ false ∷ false ∷ false ∷ [] })) ∷ Run (Filter 0 (record { append = true; remove = false; clear = false; set = false ∷ true ∷ false ∷ false ∷ [] })) ∷ Run (Filter 1 (record { append = false; remove = false; clear = false; set = false ∷ true ∷ true ∷ false ∷ [] })) ∷ Run (Register 0) ∷ Run (Register 1) ∷ Run (Unregister 0) ∷ Run (Register 1) ∷ []; lines = usual_lines; rings = usual_rings; schedule = record { who = All; count = 300 } ∷ [] }

abbrev pub two_ipmodify_users-items : List Item
two_ipmodify_users-items = Begin 1 ∷ Return 1 Accepted ∷ Begin 2 ∷ Return 2 Accepted ∷ Begin 3 ∷ Return 3 Accepted ∷ Begin 4 ∷ Return 4 Accepted ∷ Begin 5 ∷ Return 5 (Busy (record { 0 = 1 }) (record { 0 = 0 })) ∷ Begin 6 ∷ Return 6 Accepted ∷ Begin 7 ∷ Return 7 Accepted ∷ Enter (call_in 0 1) Normal (record { 0 = 1 }) None ∷ Back (call_in 0 1) (record { 0 = 1 }) ∷ BackEnd (call_in 0 1) (record { 0 = 1 }) ∷ Body (call_in 0 1) (record { 0 = 3 }) (Own (record { 0 = 1 })) ∷ Leave (call_in 0 1) ∷ Ret (call_in 0 1) None ∷ []

pub two_ipmodify_users-plays : Plays two_ipmodify_users two_ipmodify_users-items true
unfolding actors_of repeated start step run played play all_end control_next control_got cpu_next cpu_got insn moves desk
two_ipmodify_users-plays = (refl, refl)

abbrev pub notrace_wins : Job
notrace_wins = record { version = 1; functions = named (codes "ext3_read") (Some (codes "ext3")) ∷ named (codes "ext3_write") (Some (codes "ext3")) ∷ named (codes "vfs_read") None ∷ []; users = record { name = codes "t"; kind = Function; regs = false; ipmodify = None; pid = false; act = None } ∷ []; frames = 50; tramps = 16; quanta = 100 ∷ []; tasks = record { pid = 10; cpu = 0; acts = After 3 ∷ Call (record { 0 = 1 }) ∷ RetAct ∷ Call (record { 0 = 0 }) ∷ RetAct ∷ [] } ∷ []; ctls = Run (Filter 0 (record { append = false; remove = false; clear = false; set = true ∷ true ∷ false ∷ [] })) ∷ Run (Notrace 0 (record { append = false; remove = false; clear = false; set = false ∷ true ∷ false ∷ [] })) ∷ Run (Register 0) ∷ []; lines = usual_lines; rings = usual_rings; schedule = record { who = All; count = 300 } ∷ [] }

abbrev pub notrace_wins-items : List Item
notrace_wins-items = Begin 1 ∷ Return 1 Accepted ∷ Begin 2 ∷ Return 2 Accepted ∷ Begin 3 ∷ Return 3 Accepted ∷ Enter (call_in 0 1) Normal (record { 0 = 1 }) None ∷ Body (call_in 0 1) (record { 0 = 1 }) Nop ∷ Leave (call_in 0 1) ∷ Ret (call_in 0 1) None ∷ Enter (call_in 0 2) Normal (record { 0 = 0 }) None ∷ Back (call_in 0 2) (record { 0 = 0 }) ∷ BackEnd (call_in 0 2) (record { 0 = 0 }) ∷ Body (call_in 0 2) (record { 0 = 0 }) (Own (record { 0 = 0 })) ∷ Leave (call_in 0 2) ∷ Ret (call_in 0 2) None ∷ []

pub notrace_wins-plays : Plays notrace_wins notrace_wins-items true
unfolding actors_of repeated start step run played play all_end control_next control_got cpu_next cpu_got insn moves desk
notrace_wins-plays = (refl, refl)

abbrev pub recursion : Job
recursion = record { version = 1; functions = named (codes "a") None ∷ named (codes "b") None ∷ []; users = record { name = codes "t1"; kind = Function; regs = false; ipmodify = None; pid = false; act = Some (CallIn (record { 0 = 1 })) } ∷ []; frames = 50; tramps = 16; quanta = 100 ∷ []; tasks = record { pid = 10; cpu = 0; acts = After 1 ∷ Call (record { 0 = 0 }) ∷ RetAct ∷ [] } ∷ []; ctls = Run (Register 0) ∷ []; lines = usual_lines; rings = usual_rings; schedule = record { who = All; count = 300 } ∷ [] }

abbrev pub recursion-items : List Item
recursion-items = Begin 1 ∷ Return 1 Accepted ∷ Enter (call_in 0 1) Normal (record { 0 = 0 }) None ∷ Back (call_in 0 1) (record { 0 = 0 }) ∷ Enter (call_in 0 2) Normal (record { 0 = 1 }) (Some (call_in 0 1)) ∷ Refuse (call_in 0 2) (record { 0 = 0 }) Recursion ∷ Body (call_in 0 2) (record { 0 = 1 }) (Own (record { 0 = 0 })) ∷ Leave (call_in 0 2) ∷ Ret (call_in 0 2) (Some (call_in 0 1)) ∷ BackEnd (call_in 0 1) (record { 0 = 0 }) ∷ Body (call_in 0 1) (record { 0 = 0 }) (Own (record { 0 = 0 })) ∷ Leave (call_in 0 1) ∷ Ret (call_in 0 1) None ∷ []

pub recursion-plays : Plays recursion recursion-items true
unfolding actors_of repeated start step run played play all_end control_next control_got cpu_next cpu_got insn moves desk
recursion-plays = (refl, refl)

abbrev pub recursion_in_irq : Job
recursion_in_irq = record { version = 1; functions = named (codes "a") None ∷ named (codes "b") None ∷ []; users = record { name = codes "t1"; kind = Function; regs = false; ipmodify = None; pid = false; act = Some (IrqIn (record { 0 = 1 })) } ∷ []; frames = 50; tramps = 16; quanta = 100 ∷ []; tasks = record { pid = 10; cpu = 0; acts = After 1 ∷ Call (record { 0 = 0 }) ∷ RetAct ∷ [] } ∷ []; ctls = Run (Register 0) ∷ []; lines = usual_lines; rings = usual_rings; schedule = record { who = All; count = 300 } ∷ [] }

abbrev pub recursion_in_irq-items : List Item
recursion_in_irq-items = Begin 1 ∷ Return 1 Accepted ∷ Enter (call_in 0 1) Normal (record { 0 = 0 }) None ∷ Back (call_in 0 1) (record { 0 = 0 }) ∷ Enter (call_in 0 2) Irq (record { 0 = 1 }) (Some (call_in 0 1)) ∷ Back (call_in 0 2) (record { 0 = 0 }) ∷ BackEnd (call_in 0 2) (record { 0 = 0 }) ∷ Body (call_in 0 2) (record { 0 = 1 }) (Own (record { 0 = 0 })) ∷ Leave (call_in 0 2) ∷ Ret (call_in 0 2) (Some (call_in 0 1)) ∷ BackEnd (call_in 0 1) (record { 0 = 0 }) ∷ Body (call_in 0 1) (record { 0 = 0 }) (Own (record { 0 = 0 })) ∷ Leave (call_in 0 1) ∷ Ret (call_in 0 1) None ∷ []

pub recursion_in_irq-plays : Plays recursion_in_irq recursion_in_irq-items true
unfolding actors_of repeated start step run played play all_end control_next control_got cpu_next cpu_got insn moves desk
recursion_in_irq-plays = (refl, refl)

abbrev pub full_shadow_stack : Job
full_shadow_stack = record { version = 1; functions = named (codes "a") None ∷ named (codes "b") None ∷ named (codes "c") None ∷ []; users = record { name = codes "g"; kind = Graph; regs = false; ipmodify = None; pid = false; act = None } ∷ []; frames = 2; tramps = 16; quanta = 100 ∷ []; tasks = record { pid = 10; cpu = 0; acts = After 1 ∷ Call (record { 0 = 0 }) ∷ Call (record { 0 = 1 }) ∷ Call (record { 0 = 2 }) ∷ RetAct ∷ RetAct ∷ RetAct ∷ [] } ∷ []; ctls = Run (Register 0) ∷ []; lines = usual_lines; rings = usual_rings; schedule = record { who = All; count = 300 } ∷ [] }

abbrev pub full_shadow_stack-items : List Item
full_shadow_stack-items = Begin 1 ∷ Return 1 Accepted ∷ Enter (call_in 0 1) Normal (record { 0 = 0 }) None ∷ Back (call_in 0 1) (record { 0 = 0 }) ∷ BackEnd (call_in 0 1) (record { 0 = 0 }) ∷ Body (call_in 0 1) (record { 0 = 0 }) (Own (record { 0 = 0 })) ∷ Enter (call_in 0 2) Normal (record { 0 = 1 }) (Some (call_in 0 1)) ∷ Back (call_in 0 2) (record { 0 = 0 }) ∷ BackEnd (call_in 0 2) (record { 0 = 0 }) ∷ Body (call_in 0 2) (record { 0 = 1 }) (Own (record { 0 = 0 })) ∷ Enter (call_in 0 3) Normal (record { 0 = 2 }) (Some (call_in 0 2)) ∷ Refuse (call_in 0 3) (record { 0 = 0 }) Depth ∷ Body (call_in 0 3) (record { 0 = 2 }) (Own (record { 0 = 0 })) ∷ Leave (call_in 0 3) ∷ Ret (call_in 0 3) (Some (call_in 0 2)) ∷ Leave (call_in 0 2) ∷ Exit (call_in 0 2) (record { 0 = 0 }) 7 ∷ ExitEnd (call_in 0 2) (record { 0 = 0 }) ∷ Ret (call_in 0 2) (Some (call_in 0 1)) ∷ Leave (call_in 0 1) ∷ Exit (call_in 0 1) (record { 0 = 0 }) 3 ∷ ExitEnd (call_in 0 1) (record { 0 = 0 }) ∷ Ret (call_in 0 1) None ∷ []

pub full_shadow_stack-plays : Plays full_shadow_stack full_shadow_stack-items true
unfolding actors_of repeated start step run played play all_end control_next control_got cpu_next cpu_got insn moves desk
full_shadow_stack-plays = (refl, refl)

abbrev pub fprobe_misses : Job
fprobe_misses = record { version = 1; functions = named (codes "a") None ∷ named (codes "b") None ∷ []; users = record { name = codes "p"; kind = Fprobe true false; regs = false; ipmodify = None; pid = false; act = None } ∷ []; frames = 1; tramps = 16; quanta = 100 ∷ []; tasks = record { pid = 10; cpu = 0; acts = After 1 ∷ Call (record { 0 = 0 }) ∷ Call (record { 0 = 1 }) ∷ RetAct ∷ RetAct ∷ [] } ∷ []; ctls = Run (Register 0) ∷ []; lines = usual_lines; rings = usual_rings; schedule = record { who = All; count = 300 } ∷ [] }

abbrev pub fprobe_misses-items : List Item
fprobe_misses-items = Begin 1 ∷ Return 1 Accepted ∷ Enter (call_in 0 1) Normal (record { 0 = 0 }) None ∷ Back (call_in 0 1) (record { 0 = 0 }) ∷ BackEnd (call_in 0 1) (record { 0 = 0 }) ∷ Body (call_in 0 1) (record { 0 = 0 }) (Own (record { 0 = 0 })) ∷ Enter (call_in 0 2) Normal (record { 0 = 1 }) (Some (call_in 0 1)) ∷ Back (call_in 0 2) (record { 0 = 0 }) ∷ Miss (call_in 0 2) (record { 0 = 0 }) ∷ BackEnd (call_in 0 2) (record { 0 = 0 }) ∷ Body (call_in 0 2) (record { 0 = 1 }) (Own (record { 0 = 0 })) ∷ Leave (call_in 0 2) ∷ Ret (call_in 0 2) (Some (call_in 0 1)) ∷ Leave (call_in 0 1) ∷ Exit (call_in 0 1) (record { 0 = 0 }) 3 ∷ ExitEnd (call_in 0 1) (record { 0 = 0 }) ∷ Ret (call_in 0 1) None ∷ []

pub fprobe_misses-plays : Plays fprobe_misses fprobe_misses-items true
unfolding actors_of repeated start step run played play all_end control_next control_got cpu_next cpu_got insn moves desk
fprobe_misses-plays = (refl, refl)

abbrev pub fprobe_cancels : Job
fprobe_cancels = record { version = 1; functions = named (codes "a") None ∷ named (codes "b") None ∷ []; users = record { name = codes "p"; kind = Fprobe true true; regs = false; ipmodify = None; pid = false; act = None } ∷ []; frames = 1; tramps = 16; quanta = 100 ∷ []; tasks = record { pid = 10; cpu = 0; acts = After 1 ∷ Call (record { 0 = 0 }) ∷ Call (record { 0 = 1 }) ∷ RetAct ∷ RetAct ∷ [] } ∷ []; ctls = Run (Register 0) ∷ []; lines = usual_lines; rings = usual_rings; schedule = record { who = All; count = 300 } ∷ [] }

abbrev pub fprobe_cancels-items : List Item
fprobe_cancels-items = Begin 1 ∷ Return 1 Accepted ∷ Enter (call_in 0 1) Normal (record { 0 = 0 }) None ∷ Back (call_in 0 1) (record { 0 = 0 }) ∷ BackEnd (call_in 0 1) (record { 0 = 0 }) ∷ Body (call_in 0 1) (record { 0 = 0 }) (Own (record { 0 = 0 })) ∷ Enter (call_in 0 2) Normal (record { 0 = 1 }) (Some (call_in 0 1)) ∷ Back (call_in 0 2) (record { 0 = 0 }) ∷ BackEnd (call_in 0 2) (record { 0 = 0 }) ∷ Body (call_in 0 2) (record { 0 = 1 }) (Own (record { 0 = 0 })) ∷ Leave (call_in 0 2) ∷ Ret (call_in 0 2) (Some (call_in 0 1)) ∷ Leave (call_in 0 1) ∷ Ret (call_in 0 1) None ∷ []

pub fprobe_cancels-plays : Plays fprobe_cancels fprobe_cancels-items true
unfolding actors_of repeated start step run played play all_end control_next control_got cpu_next cpu_got insn moves desk
fprobe_cancels-plays = (refl, refl)

abbrev pub registered_again : Job
registered_again = record { version = 1; functions = named (codes "a") None ∷ []; users = record { name = codes "g"; kind = Graph; regs = false; ipmodify = None; pid = false; act = None } ∷ []; frames = 50; tramps = 16; quanta = 100 ∷ []; tasks = record { pid = 10; cpu = 0; acts = After 1 ∷ Call (record { 0 = 0 }) ∷ After 3 ∷ RetAct ∷ Call (record { 0 = 0 }) ∷ RetAct ∷ [] } ∷ []; ctls = Run (Register 0) ∷ Until 0 2 ∷ Run (Unregister 0) ∷ Run (Register 0) ∷ []; lines = usual_lines; rings = usual_rings; schedule = record { who = All; count = 300 } ∷ [] }

abbrev pub registered_again-items : List Item
registered_again-items = Begin 1 ∷ Return 1 Accepted ∷ Enter (call_in 0 1) Normal (record { 0 = 0 }) None ∷ Back (call_in 0 1) (record { 0 = 0 }) ∷ BackEnd (call_in 0 1) (record { 0 = 0 }) ∷ Body (call_in 0 1) (record { 0 = 0 }) (Own (record { 0 = 0 })) ∷ Begin 2 ∷ Return 2 Accepted ∷ Begin 3 ∷ Return 3 Accepted ∷ Leave (call_in 0 1) ∷ Ret (call_in 0 1) None ∷ Enter (call_in 0 2) Normal (record { 0 = 0 }) None ∷ Back (call_in 0 2) (record { 0 = 0 }) ∷ BackEnd (call_in 0 2) (record { 0 = 0 }) ∷ Body (call_in 0 2) (record { 0 = 0 }) (Own (record { 0 = 0 })) ∷ Leave (call_in 0 2) ∷ Exit (call_in 0 2) (record { 0 = 0 }) 13 ∷ ExitEnd (call_in 0 2) (record { 0 = 0 }) ∷ Ret (call_in 0 2) None ∷ []

pub registered_again-plays : Plays registered_again registered_again-items true
unfolding actors_of repeated start step run played play all_end control_next control_got cpu_next cpu_got insn moves desk
registered_again-plays = (refl, refl)

abbrev pub no_trampolines : Job
no_trampolines = record { version = 1; functions = named (codes "a") None ∷ []; users = record { name = codes "tr"; kind = Function; regs = false; ipmodify = None; pid = false; act = None } ∷ []; frames = 50; tramps = 0; quanta = 100 ∷ []; tasks = record { pid = 10; cpu = 0; acts = After 1 ∷ Call (record { 0 = 0 }) ∷ RetAct ∷ [] } ∷ []; ctls = Run (Register 0) ∷ []; lines = usual_lines; rings = usual_rings; schedule = record { who = All; count = 300 } ∷ [] }

abbrev pub no_trampolines-items : List Item
no_trampolines-items = Begin 1 ∷ Return 1 Accepted ∷ Enter (call_in 0 1) Normal (record { 0 = 0 }) None ∷ Back (call_in 0 1) (record { 0 = 0 }) ∷ BackEnd (call_in 0 1) (record { 0 = 0 }) ∷ Body (call_in 0 1) (record { 0 = 0 }) ByList ∷ Leave (call_in 0 1) ∷ Ret (call_in 0 1) None ∷ []

pub no_trampolines-plays : Plays no_trampolines no_trampolines-items true
unfolding actors_of repeated start step run played play all_end control_next control_got cpu_next cpu_got insn moves desk
no_trampolines-plays = (refl, refl)

abbrev pub pids : Job
pids = record { version = 1; functions = named (codes "a") None ∷ []; users = record { name = codes "t"; kind = Function; regs = false; ipmodify = None; pid = true; act = None } ∷ []; frames = 50; tramps = 16; quanta = 100 ∷ []; tasks = record { pid = 10; cpu = 0; acts = After 2 ∷ Call (record { 0 = 0 }) ∷ RetAct ∷ [] } ∷ record { pid = 11; cpu = 0; acts = After 3 ∷ Call (record { 0 = 0 }) ∷ RetAct ∷ [] } ∷ []; ctls = Run (Register 0) ∷ Run (Pid (true ∷ false ∷ [])) ∷ Until 0 3 ∷ Run (MaxDepth 0) ∷ []; lines = usual_lines; rings = usual_rings; schedule = record { who = All; count = 300 } ∷ [] }

abbrev pub pids-items : List Item
pids-items = Begin 1 ∷ Return 1 Accepted ∷ Begin 2 ∷ Return 2 Accepted ∷ Enter (call_in 0 1) Normal (record { 0 = 0 }) None ∷ Back (call_in 0 1) (record { 0 = 0 }) ∷ BackEnd (call_in 0 1) (record { 0 = 0 }) ∷ Body (call_in 0 1) (record { 0 = 0 }) (Own (record { 0 = 0 })) ∷ Leave (call_in 0 1) ∷ Ret (call_in 0 1) None ∷ Begin 3 ∷ Return 3 Accepted ∷ Enter (call_in 1 1) Normal (record { 0 = 0 }) None ∷ Refuse (call_in 1 1) (record { 0 = 0 }) ByPid ∷ Body (call_in 1 1) (record { 0 = 0 }) (Own (record { 0 = 0 })) ∷ Leave (call_in 1 1) ∷ Ret (call_in 1 1) None ∷ []

pub pids-plays : Plays pids pids-items true
unfolding actors_of repeated start step run played play all_end control_next control_got cpu_next cpu_got insn moves desk
pids-plays = (refl, refl)

abbrev pub excluded_pids : Job
excluded_pids = record { version = 1; functions = named (codes "a") None ∷ []; users = record { name = codes "t"; kind = Function; regs = false; ipmodify = None; pid = true; act = None } ∷ []; frames = 50; tramps = 16; quanta = 100 ∷ []; tasks = record { pid = 10; cpu = 0; acts = After 2 ∷ Call (record { 0 = 0 }) ∷ RetAct ∷ [] } ∷ record { pid = 11; cpu = 0; acts = After 3 ∷ Call (record { 0 = 0 }) ∷ RetAct ∷ [] } ∷ []; ctls = Run (Register 0) ∷ Run (NoPid (true ∷ false ∷ [])) ∷ Until 0 3 ∷ Run (MaxDepth 0) ∷ []; lines = usual_lines; rings = usual_rings; schedule = record { who = All; count = 300 } ∷ [] }

abbrev pub excluded_pids-items : List Item
excluded_pids-items = Begin 1 ∷ Return 1 Accepted ∷ Begin 2 ∷ Return 2 Accepted ∷ Enter (call_in 0 1) Normal (record { 0 = 0 }) None ∷ Refuse (call_in 0 1) (record { 0 = 0 }) ByPid ∷ Body (call_in 0 1) (record { 0 = 0 }) (Own (record { 0 = 0 })) ∷ Leave (call_in 0 1) ∷ Ret (call_in 0 1) None ∷ Begin 3 ∷ Return 3 Accepted ∷ Enter (call_in 1 1) Normal (record { 0 = 0 }) None ∷ Back (call_in 1 1) (record { 0 = 0 }) ∷ BackEnd (call_in 1 1) (record { 0 = 0 }) ∷ Body (call_in 1 1) (record { 0 = 0 }) (Own (record { 0 = 0 })) ∷ Leave (call_in 1 1) ∷ Ret (call_in 1 1) None ∷ []

pub excluded_pids-plays : Plays excluded_pids excluded_pids-items true
unfolding actors_of repeated start step run played play all_end control_next control_got cpu_next cpu_got insn moves desk
excluded_pids-plays = (refl, refl)

abbrev pub disabled_fprobe : Job
disabled_fprobe = record { version = 1; functions = named (codes "a") None ∷ []; users = record { name = codes "p"; kind = Fprobe true false; regs = false; ipmodify = None; pid = false; act = None } ∷ []; frames = 50; tramps = 16; quanta = 100 ∷ []; tasks = record { pid = 10; cpu = 0; acts = After 1 ∷ Call (record { 0 = 0 }) ∷ After 2 ∷ RetAct ∷ Call (record { 0 = 0 }) ∷ RetAct ∷ [] } ∷ []; ctls = Run (Register 0) ∷ Until 0 2 ∷ Run (Disable 0) ∷ []; lines = usual_lines; rings = usual_rings; schedule = record { who = All; count = 300 } ∷ [] }

abbrev pub disabled_fprobe-items : List Item
disabled_fprobe-items = Begin 1 ∷ Return 1 Accepted ∷ Enter (call_in 0 1) Normal (record { 0 = 0 }) None ∷ Back (call_in 0 1) (record { 0 = 0 }) ∷ BackEnd (call_in 0 1) (record { 0 = 0 }) ∷ Body (call_in 0 1) (record { 0 = 0 }) (Own (record { 0 = 0 })) ∷ Begin 2 ∷ Return 2 Accepted ∷ Leave (call_in 0 1) ∷ Ret (call_in 0 1) None ∷ Enter (call_in 0 2) Normal (record { 0 = 0 }) None ∷ Body (call_in 0 2) (record { 0 = 0 }) (Own (record { 0 = 0 })) ∷ Leave (call_in 0 2) ∷ Ret (call_in 0 2) None ∷ []

pub disabled_fprobe-plays : Plays disabled_fprobe disabled_fprobe-items true
unfolding actors_of repeated start step run played play all_end control_next control_got cpu_next cpu_got insn moves desk
disabled_fprobe-plays = (refl, refl)

abbrev pub invalid_commands : Job
invalid_commands = record { version = 1; functions = named (codes "a") None ∷ []; users = record { name = codes "r"; kind = Function; regs = false; ipmodify = Some (record { 0 = 0 }); pid = false; act = None } ∷ record { name = codes "q"; kind = Function; regs = true; ipmodify = Some (record { 0 = 0 }); pid = false; act = None } ∷ record { name = codes "t"; kind = Function; regs = false; ipmodify = None; pid = false; act = None } ∷ []; frames = 50; tramps = 16; quanta = []; tasks = []; ctls = Run (Register 0) ∷ Run (Register 1) ∷ Run (Enable 2) ∷ Run (Register 2) ∷ Run (Enable 2) ∷ Run (Filter 1 (record { append = false; remove = false; clear = false; set = true ∷ [] })) ∷ Run (Register 1) ∷ Run (Filter 1 (record { append = false; remove = false; clear = true; set = false ∷ [] })) ∷ []; lines = usual_lines; rings = usual_rings; schedule = record { who = All; count = 300 } ∷ [] }

abbrev pub invalid_commands-items : List Item
invalid_commands-items = Begin 1 ∷ Return 1 Invalid ∷ Begin 2 ∷ Return 2 Invalid ∷ Begin 3 ∷ Return 3 NotThere ∷ Begin 4 ∷ Return 4 Accepted ∷ Begin 5 ∷ Return 5 Invalid ∷ Begin 6 ∷ Return 6 Accepted ∷ Begin 7 ∷ Return 7 Accepted ∷ Begin 8 ∷ Return 8 Invalid ∷ []

pub invalid_commands-plays : Plays invalid_commands invalid_commands-items true
unfolding actors_of repeated start step run played play all_end control_next control_got cpu_next cpu_got insn moves desk
invalid_commands-plays = (refl, refl)

abbrev pub unregistered_in_call : Job
unregistered_in_call = record { version = 1; functions = named (codes "a") None ∷ []; users = record { name = codes "tr"; kind = Function; regs = false; ipmodify = None; pid = false; act = None } ∷ []; frames = 50; tramps = 16; quanta = 100 ∷ []; tasks = record { pid = 10; cpu = 0; acts = After 1 ∷ Call (record { 0 = 0 }) ∷ RetAct ∷ [] } ∷ []; ctls = Run (Register 0) ∷ Until 0 1 ∷ Run (Unregister 0) ∷ []; lines = usual_lines; rings = usual_rings; schedule = record { who = All; count = 300 } ∷ [] }

abbrev pub unregistered_in_call-items : List Item
unregistered_in_call-items = Begin 1 ∷ Return 1 Accepted ∷ Enter (call_in 0 1) Normal (record { 0 = 0 }) None ∷ Begin 2 ∷ Body (call_in 0 1) (record { 0 = 0 }) (Own (record { 0 = 0 })) ∷ Leave (call_in 0 1) ∷ Ret (call_in 0 1) None ∷ Return 2 Accepted ∷ []

pub unregistered_in_call-plays : Plays unregistered_in_call unregistered_in_call-items true
unfolding actors_of repeated start step run played play all_end control_next control_got cpu_next cpu_got insn moves desk
unregistered_in_call-plays = (refl, refl)

abbrev pub profile_user : Job
profile_user = record { version = 1; functions = named (codes "a") None ∷ named (codes "b") None ∷ []; users = record { name = codes "p"; kind = Profile; regs = false; ipmodify = None; pid = false; act = None } ∷ []; frames = 50; tramps = 16; quanta = 100 ∷ []; tasks = record { pid = 10; cpu = 0; acts = After 1 ∷ Call (record { 0 = 0 }) ∷ Call (record { 0 = 1 }) ∷ RetAct ∷ RetAct ∷ [] } ∷ []; ctls = Run (Register 0) ∷ []; lines = usual_lines; rings = usual_rings; schedule = record { who = All; count = 300 } ∷ [] }

abbrev pub profile_user-items : List Item
profile_user-items = Begin 1 ∷ Return 1 Accepted ∷ Enter (call_in 0 1) Normal (record { 0 = 0 }) None ∷ Back (call_in 0 1) (record { 0 = 0 }) ∷ BackEnd (call_in 0 1) (record { 0 = 0 }) ∷ Body (call_in 0 1) (record { 0 = 0 }) (Own (record { 0 = 0 })) ∷ Enter (call_in 0 2) Normal (record { 0 = 1 }) (Some (call_in 0 1)) ∷ Back (call_in 0 2) (record { 0 = 0 }) ∷ BackEnd (call_in 0 2) (record { 0 = 0 }) ∷ Body (call_in 0 2) (record { 0 = 1 }) (Own (record { 0 = 0 })) ∷ Leave (call_in 0 2) ∷ Exit (call_in 0 2) (record { 0 = 0 }) 7 ∷ ExitEnd (call_in 0 2) (record { 0 = 0 }) ∷ Ret (call_in 0 2) (Some (call_in 0 1)) ∷ Leave (call_in 0 1) ∷ Exit (call_in 0 1) (record { 0 = 0 }) 3 ∷ ExitEnd (call_in 0 1) (record { 0 = 0 }) ∷ Ret (call_in 0 1) None ∷ []

pub profile_user-plays : Plays profile_user profile_user-items true
unfolding actors_of repeated start step run played play all_end control_next control_got cpu_next cpu_got insn moves desk
profile_user-plays = (refl, refl)

abbrev pub no_match : Job
no_match = record { version = 1; functions = named (codes "a") None ∷ named (codes "b") None ∷ []; users = record { name = codes "t"; kind = Function; regs = false; ipmodify = None; pid = false; act = None } ∷ []; frames = 50; tramps = 16; quanta = 100 ∷ []; tasks = record { pid = 10; cpu = 0; acts = After 4 ∷ Call (record { 0 = 0 }) ∷ RetAct ∷ Call (record { 0 = 1 }) ∷ RetAct ∷ [] } ∷ []; ctls = Run (Filter 0 (record { append = false; remove = false; clear = false; set = false ∷ true ∷ [] })) ∷ Run (Filter 0 (record { append = true; remove = false; clear = false; set = false ∷ false ∷ [] })) ∷ Run (Filter 0 (record { append = false; remove = true; clear = false; set = false ∷ false ∷ [] })) ∷ Run (Register 0) ∷ []; lines = usual_lines; rings = usual_rings; schedule = record { who = All; count = 300 } ∷ [] }

abbrev pub no_match-items : List Item
no_match-items = Begin 1 ∷ Return 1 Accepted ∷ Begin 2 ∷ Return 2 NoMatch ∷ Begin 3 ∷ Return 3 NoMatch ∷ Begin 4 ∷ Return 4 Accepted ∷ Enter (call_in 0 1) Normal (record { 0 = 0 }) None ∷ Body (call_in 0 1) (record { 0 = 0 }) Nop ∷ Leave (call_in 0 1) ∷ Ret (call_in 0 1) None ∷ Enter (call_in 0 2) Normal (record { 0 = 1 }) None ∷ Back (call_in 0 2) (record { 0 = 0 }) ∷ BackEnd (call_in 0 2) (record { 0 = 0 }) ∷ Body (call_in 0 2) (record { 0 = 1 }) (Own (record { 0 = 0 })) ∷ Leave (call_in 0 2) ∷ Ret (call_in 0 2) None ∷ []

pub no_match-plays : Plays no_match no_match-items true
unfolding actors_of repeated start step run played play all_end control_next control_got cpu_next cpu_got insn moves desk
no_match-plays = (refl, refl)

abbrev pub busy_elsewhere : Job
busy_elsewhere = record { version = 1; functions = named (codes "a") None ∷ named (codes "b") None ∷ named (codes "c") None ∷ named (codes "d") None ∷ []; users = record { name = codes "p"; kind = Function; regs = true; ipmodify = Some (record { 0 = 3 }); pid = false; act = None } ∷ record { name = codes "q"; kind = Function; regs = true; ipmodify = Some (record { 0 = 3 }); pid = false; act = None } ∷ record { name = codes "r"; kind = Function; regs = true; ipmodify = Some (record { 0 = 3 }); pid = false; act = None } ∷ []; frames = 50; tramps = 16; quanta = 100 ∷ []; tasks = record { pid = 10; cpu = 0; acts = After 10 ∷ Call (record { 0 = 1 }) ∷ RetAct ∷ Call (record { 0 = 2 }) ∷ RetAct ∷ [] } ∷ []; ctls = Run (Filter 0 (record { append = false; remove = false; clear = false; set = true ∷ false ∷ false ∷ false ∷ [] })) ∷ Run (Filter 1 (record { append = false; remove = false; clear = false; set = false ∷ false ∷ true ∷ false ∷ [] })) ∷ Run (Filter 2 (record { append = false; remove = false; clear = false; set = false ∷ true ∷ true ∷ false ∷ [] })) ∷ Run (Register 0) ∷ Run (Register 1) ∷ Run (Register 2) ∷ Run (Filter 2 (record { append = false; remove = false; clear = false; set = false ∷ true ∷ false ∷ false ∷ [] })) ∷ Run (Register 2) ∷ Run (Filter 2 (record { append = true; remove = false; clear = false; set = false ∷ false ∷ true ∷ true ∷ [] })) ∷ Run (Filter 2 (record { append = true; remove = false; clear = false; set = true ∷ false ∷ false ∷ false ∷ [] })) ∷ []; lines = usual_lines; rings = usual_rings; schedule = record { who = All; count = 300 } ∷ [] }

abbrev pub busy_elsewhere-items : List Item
busy_elsewhere-items = Begin 1 ∷ Return 1 Accepted ∷ Begin 2 ∷ Return 2 Accepted ∷ Begin 3 ∷ Return 3 Accepted ∷ Begin 4 ∷ Return 4 Accepted ∷ Begin 5 ∷ Return 5 Accepted ∷ Begin 6 ∷ Return 6 (Busy (record { 0 = 2 }) (record { 0 = 1 })) ∷ Begin 7 ∷ Return 7 Accepted ∷ Begin 8 ∷ Return 8 Accepted ∷ Begin 9 ∷ Return 9 (Busy (record { 0 = 2 }) (record { 0 = 1 })) ∷ Begin 10 ∷ Return 10 (Busy (record { 0 = 0 }) (record { 0 = 0 })) ∷ Enter (call_in 0 1) Normal (record { 0 = 1 }) None ∷ Back (call_in 0 1) (record { 0 = 2 }) ∷ BackEnd (call_in 0 1) (record { 0 = 2 }) ∷ Body (call_in 0 1) (record { 0 = 3 }) (Own (record { 0 = 2 })) ∷ Leave (call_in 0 1) ∷ Ret (call_in 0 1) None ∷ Enter (call_in 0 2) Normal (record { 0 = 2 }) None ∷ Back (call_in 0 2) (record { 0 = 1 }) ∷ BackEnd (call_in 0 2) (record { 0 = 1 }) ∷ Body (call_in 0 2) (record { 0 = 3 }) (Own (record { 0 = 1 })) ∷ Leave (call_in 0 2) ∷ Ret (call_in 0 2) None ∷ []

pub busy_elsewhere-plays : Plays busy_elsewhere busy_elsewhere-items true
unfolding actors_of repeated start step run played play all_end control_next control_got cpu_next cpu_got insn moves desk
busy_elsewhere-plays = (refl, refl)

abbrev pub cleared_set : Job
cleared_set = record { version = 1; functions = named (codes "a") None ∷ named (codes "b") None ∷ []; users = record { name = codes "t"; kind = Function; regs = false; ipmodify = None; pid = false; act = None } ∷ []; frames = 50; tramps = 16; quanta = 100 ∷ []; tasks = record { pid = 10; cpu = 0; acts = After 3 ∷ Call (record { 0 = 1 }) ∷ RetAct ∷ After 6 ∷ Call (record { 0 = 0 }) ∷ RetAct ∷ Call (record { 0 = 1 }) ∷ RetAct ∷ [] } ∷ []; ctls = Run (Filter 0 (record { append = false; remove = false; clear = false; set = true ∷ false ∷ [] })) ∷ Run (Register 0) ∷ Run (Filter 0 (record { append = false; remove = false; clear = true; set = false ∷ false ∷ [] })) ∷ Until 0 3 ∷ Run (Notrace 0 (record { append = false; remove = false; clear = false; set = true ∷ true ∷ [] })) ∷ Run (Notrace 0 (record { append = false; remove = false; clear = true; set = false ∷ false ∷ [] })) ∷ Run (Notrace 0 (record { append = true; remove = false; clear = false; set = true ∷ false ∷ [] })) ∷ []; lines = usual_lines; rings = usual_rings; schedule = record { who = All; count = 300 } ∷ [] }

abbrev pub cleared_set-items : List Item
cleared_set-items = Begin 1 ∷ Return 1 Accepted ∷ Begin 2 ∷ Return 2 Accepted ∷ Begin 3 ∷ Return 3 Accepted ∷ Enter (call_in 0 1) Normal (record { 0 = 1 }) None ∷ Back (call_in 0 1) (record { 0 = 0 }) ∷ BackEnd (call_in 0 1) (record { 0 = 0 }) ∷ Body (call_in 0 1) (record { 0 = 1 }) (Own (record { 0 = 0 })) ∷ Leave (call_in 0 1) ∷ Ret (call_in 0 1) None ∷ Begin 4 ∷ Return 4 Accepted ∷ Begin 5 ∷ Return 5 Accepted ∷ Begin 6 ∷ Return 6 Accepted ∷ Enter (call_in 0 2) Normal (record { 0 = 0 }) None ∷ Body (call_in 0 2) (record { 0 = 0 }) Nop ∷ Leave (call_in 0 2) ∷ Ret (call_in 0 2) None ∷ Enter (call_in 0 3) Normal (record { 0 = 1 }) None ∷ Back (call_in 0 3) (record { 0 = 0 }) ∷ BackEnd (call_in 0 3) (record { 0 = 0 }) ∷ Body (call_in 0 3) (record { 0 = 1 }) (Own (record { 0 = 0 })) ∷ Leave (call_in 0 3) ∷ Ret (call_in 0 3) None ∷ []

pub cleared_set-plays : Plays cleared_set cleared_set-items true
unfolding actors_of repeated start step run played play all_end control_next control_got cpu_next cpu_got insn moves desk
cleared_set-plays = (refl, refl)

abbrev pub removed_from_none : Job
removed_from_none = record { version = 1; functions = named (codes "a") None ∷ named (codes "b") None ∷ named (codes "c") None ∷ []; users = record { name = codes "t"; kind = Function; regs = false; ipmodify = None; pid = false; act = None } ∷ []; frames = 50; tramps = 16; quanta = 100 ∷ []; tasks = record { pid = 10; cpu = 0; acts = After 3 ∷ Call (record { 0 = 0 }) ∷ RetAct ∷ Call (record { 0 = 2 }) ∷ RetAct ∷ After 5 ∷ Call (record { 0 = 0 }) ∷ RetAct ∷ [] } ∷ []; ctls = Run (Filter 0 (record { append = false; remove = false; clear = false; set = true ∷ false ∷ false ∷ [] })) ∷ Run (Filter 0 (record { append = false; remove = true; clear = false; set = false ∷ true ∷ false ∷ [] })) ∷ Run (Register 0) ∷ Until 0 5 ∷ Run (Notrace 0 (record { append = false; remove = false; clear = false; set = true ∷ false ∷ false ∷ [] })) ∷ Run (Notrace 0 (record { append = false; remove = true; clear = false; set = false ∷ true ∷ false ∷ [] })) ∷ []; lines = usual_lines; rings = usual_rings; schedule = record { who = All; count = 300 } ∷ [] }

abbrev pub removed_from_none-items : List Item
removed_from_none-items = Begin 1 ∷ Return 1 Accepted ∷ Begin 2 ∷ Return 2 Accepted ∷ Begin 3 ∷ Return 3 Accepted ∷ Enter (call_in 0 1) Normal (record { 0 = 0 }) None ∷ Back (call_in 0 1) (record { 0 = 0 }) ∷ BackEnd (call_in 0 1) (record { 0 = 0 }) ∷ Body (call_in 0 1) (record { 0 = 0 }) (Own (record { 0 = 0 })) ∷ Leave (call_in 0 1) ∷ Ret (call_in 0 1) None ∷ Enter (call_in 0 2) Normal (record { 0 = 2 }) None ∷ Back (call_in 0 2) (record { 0 = 0 }) ∷ BackEnd (call_in 0 2) (record { 0 = 0 }) ∷ Body (call_in 0 2) (record { 0 = 2 }) (Own (record { 0 = 0 })) ∷ Leave (call_in 0 2) ∷ Ret (call_in 0 2) None ∷ Begin 4 ∷ Return 4 Accepted ∷ Begin 5 ∷ Return 5 Accepted ∷ Enter (call_in 0 3) Normal (record { 0 = 0 }) None ∷ Back (call_in 0 3) (record { 0 = 0 }) ∷ BackEnd (call_in 0 3) (record { 0 = 0 }) ∷ Body (call_in 0 3) (record { 0 = 0 }) (Own (record { 0 = 0 })) ∷ Leave (call_in 0 3) ∷ Ret (call_in 0 3) None ∷ []

pub removed_from_none-plays : Plays removed_from_none removed_from_none-items true
unfolding actors_of repeated start step run played play all_end control_next control_got cpu_next cpu_got insn moves desk
removed_from_none-plays = (refl, refl)

abbrev pub task_without_acts : Job
task_without_acts = record { version = 1; functions = named (codes "a") None ∷ []; users = []; frames = 50; tramps = 16; quanta = 1 ∷ 1 ∷ []; tasks = record { pid = 10; cpu = 0; acts = [] } ∷ record { pid = 11; cpu = 0; acts = Call (record { 0 = 0 }) ∷ RetAct ∷ [] } ∷ record { pid = 12; cpu = 1; acts = [] } ∷ []; ctls = []; lines = usual_lines; rings = usual_rings; schedule = record { who = All; count = 300 } ∷ [] }

abbrev pub task_without_acts-items : List Item
task_without_acts-items = Enter (call_in 1 1) Normal (record { 0 = 0 }) None ∷ Body (call_in 1 1) (record { 0 = 0 }) Nop ∷ Leave (call_in 1 1) ∷ Ret (call_in 1 1) None ∷ []

pub task_without_acts-plays : Plays task_without_acts task_without_acts-items true
unfolding actors_of repeated start step run played play all_end control_next control_got cpu_next cpu_got insn moves desk
task_without_acts-plays = (refl, refl)

abbrev pub pid_before_recursion : Job
pid_before_recursion = record { version = 1; functions = named (codes "a") None ∷ named (codes "b") None ∷ []; users = record { name = codes "t1"; kind = Function; regs = false; ipmodify = None; pid = false; act = Some (CallIn (record { 0 = 1 })) } ∷ record { name = codes "t2"; kind = Function; regs = false; ipmodify = None; pid = true; act = None } ∷ []; frames = 50; tramps = 16; quanta = 100 ∷ []; tasks = record { pid = 10; cpu = 0; acts = After 3 ∷ Call (record { 0 = 0 }) ∷ RetAct ∷ [] } ∷ record { pid = 11; cpu = 0; acts = After 3 ∷ Call (record { 0 = 0 }) ∷ RetAct ∷ [] } ∷ []; ctls = Run (Register 0) ∷ Run (Register 1) ∷ Run (Pid (false ∷ true ∷ [])) ∷ []; lines = usual_lines; rings = usual_rings; schedule = record { who = All; count = 300 } ∷ [] }

abbrev pub pid_before_recursion-items : List Item
pid_before_recursion-items = Begin 1 ∷ Return 1 Accepted ∷ Begin 2 ∷ Return 2 Accepted ∷ Begin 3 ∷ Return 3 Accepted ∷ Enter (call_in 1 1) Normal (record { 0 = 0 }) None ∷ Back (call_in 1 1) (record { 0 = 1 }) ∷ BackEnd (call_in 1 1) (record { 0 = 1 }) ∷ Back (call_in 1 1) (record { 0 = 0 }) ∷ Enter (call_in 1 2) Normal (record { 0 = 1 }) (Some (call_in 1 1)) ∷ Refuse (call_in 1 2) (record { 0 = 1 }) Recursion ∷ Refuse (call_in 1 2) (record { 0 = 0 }) Recursion ∷ Body (call_in 1 2) (record { 0 = 1 }) ByList ∷ Leave (call_in 1 2) ∷ Ret (call_in 1 2) (Some (call_in 1 1)) ∷ BackEnd (call_in 1 1) (record { 0 = 0 }) ∷ Body (call_in 1 1) (record { 0 = 0 }) ByList ∷ Leave (call_in 1 1) ∷ Ret (call_in 1 1) None ∷ Enter (call_in 0 1) Normal (record { 0 = 0 }) None ∷ Refuse (call_in 0 1) (record { 0 = 1 }) ByPid ∷ Back (call_in 0 1) (record { 0 = 0 }) ∷ Enter (call_in 0 2) Normal (record { 0 = 1 }) (Some (call_in 0 1)) ∷ Refuse (call_in 0 2) (record { 0 = 1 }) ByPid ∷ Refuse (call_in 0 2) (record { 0 = 0 }) Recursion ∷ Body (call_in 0 2) (record { 0 = 1 }) ByList ∷ Leave (call_in 0 2) ∷ Ret (call_in 0 2) (Some (call_in 0 1)) ∷ BackEnd (call_in 0 1) (record { 0 = 0 }) ∷ Body (call_in 0 1) (record { 0 = 0 }) ByList ∷ Leave (call_in 0 1) ∷ Ret (call_in 0 1) None ∷ []

pub pid_before_recursion-plays : Plays pid_before_recursion pid_before_recursion-items true
unfolding actors_of repeated start step run played play all_end control_next control_got cpu_next cpu_got insn moves desk
pid_before_recursion-plays = (refl, refl)

abbrev pub max_depth : Job
max_depth = record { version = 1; functions = named (codes "a") None ∷ named (codes "b") None ∷ named (codes "c") None ∷ []; users = record { name = codes "g"; kind = Graph; regs = false; ipmodify = None; pid = false; act = None } ∷ []; frames = 50; tramps = 16; quanta = 100 ∷ []; tasks = record { pid = 10; cpu = 0; acts = After 2 ∷ Call (record { 0 = 0 }) ∷ Call (record { 0 = 1 }) ∷ Call (record { 0 = 2 }) ∷ RetAct ∷ RetAct ∷ RetAct ∷ After 3 ∷ Call (record { 0 = 0 }) ∷ Call (record { 0 = 1 }) ∷ RetAct ∷ RetAct ∷ [] } ∷ []; ctls = Run (Register 0) ∷ Run (MaxDepth 2) ∷ Until 0 7 ∷ Run (MaxDepth 1) ∷ []; lines = usual_lines; rings = usual_rings; schedule = record { who = All; count = 300 } ∷ [] }

abbrev pub max_depth-items : List Item
max_depth-items = Begin 1 ∷ Return 1 Accepted ∷ Begin 2 ∷ Return 2 Accepted ∷ Enter (call_in 0 1) Normal (record { 0 = 0 }) None ∷ Back (call_in 0 1) (record { 0 = 0 }) ∷ BackEnd (call_in 0 1) (record { 0 = 0 }) ∷ Body (call_in 0 1) (record { 0 = 0 }) (Own (record { 0 = 0 })) ∷ Enter (call_in 0 2) Normal (record { 0 = 1 }) (Some (call_in 0 1)) ∷ Back (call_in 0 2) (record { 0 = 0 }) ∷ BackEnd (call_in 0 2) (record { 0 = 0 }) ∷ Body (call_in 0 2) (record { 0 = 1 }) (Own (record { 0 = 0 })) ∷ Enter (call_in 0 3) Normal (record { 0 = 2 }) (Some (call_in 0 2)) ∷ Refuse (call_in 0 3) (record { 0 = 0 }) Depth ∷ Body (call_in 0 3) (record { 0 = 2 }) (Own (record { 0 = 0 })) ∷ Leave (call_in 0 3) ∷ Ret (call_in 0 3) (Some (call_in 0 2)) ∷ Leave (call_in 0 2) ∷ Exit (call_in 0 2) (record { 0 = 0 }) 9 ∷ ExitEnd (call_in 0 2) (record { 0 = 0 }) ∷ Ret (call_in 0 2) (Some (call_in 0 1)) ∷ Leave (call_in 0 1) ∷ Exit (call_in 0 1) (record { 0 = 0 }) 5 ∷ ExitEnd (call_in 0 1) (record { 0 = 0 }) ∷ Ret (call_in 0 1) None ∷ Begin 3 ∷ Return 3 Accepted ∷ Enter (call_in 0 4) Normal (record { 0 = 0 }) None ∷ Back (call_in 0 4) (record { 0 = 0 }) ∷ BackEnd (call_in 0 4) (record { 0 = 0 }) ∷ Body (call_in 0 4) (record { 0 = 0 }) (Own (record { 0 = 0 })) ∷ Enter (call_in 0 5) Normal (record { 0 = 1 }) (Some (call_in 0 4)) ∷ Refuse (call_in 0 5) (record { 0 = 0 }) Depth ∷ Body (call_in 0 5) (record { 0 = 1 }) (Own (record { 0 = 0 })) ∷ Leave (call_in 0 5) ∷ Ret (call_in 0 5) (Some (call_in 0 4)) ∷ Leave (call_in 0 4) ∷ Exit (call_in 0 4) (record { 0 = 0 }) 28 ∷ ExitEnd (call_in 0 4) (record { 0 = 0 }) ∷ Ret (call_in 0 4) None ∷ []

pub max_depth-plays : Plays max_depth max_depth-items true
unfolding actors_of repeated start step run played play all_end control_next control_got cpu_next cpu_got insn moves desk
max_depth-plays = (refl, refl)

abbrev pub enabled_again : Job
enabled_again = record { version = 1; functions = named (codes "a") None ∷ []; users = record { name = codes "p"; kind = Fprobe true false; regs = false; ipmodify = None; pid = false; act = None } ∷ []; frames = 50; tramps = 16; quanta = 100 ∷ []; tasks = record { pid = 10; cpu = 0; acts = After 2 ∷ Call (record { 0 = 0 }) ∷ RetAct ∷ After 3 ∷ Call (record { 0 = 0 }) ∷ After 4 ∷ RetAct ∷ After 5 ∷ Call (record { 0 = 0 }) ∷ RetAct ∷ [] } ∷ []; ctls = Run (Register 0) ∷ Run (Disable 0) ∷ Until 0 3 ∷ Run (Enable 0) ∷ Until 0 5 ∷ Run (Disable 0) ∷ Until 0 7 ∷ Run (Enable 0) ∷ []; lines = usual_lines; rings = usual_rings; schedule = record { who = All; count = 300 } ∷ [] }

abbrev pub enabled_again-items : List Item
enabled_again-items = Begin 1 ∷ Return 1 Accepted ∷ Begin 2 ∷ Return 2 Accepted ∷ Enter (call_in 0 1) Normal (record { 0 = 0 }) None ∷ Body (call_in 0 1) (record { 0 = 0 }) (Own (record { 0 = 0 })) ∷ Leave (call_in 0 1) ∷ Ret (call_in 0 1) None ∷ Begin 3 ∷ Return 3 Accepted ∷ Enter (call_in 0 2) Normal (record { 0 = 0 }) None ∷ Back (call_in 0 2) (record { 0 = 0 }) ∷ BackEnd (call_in 0 2) (record { 0 = 0 }) ∷ Body (call_in 0 2) (record { 0 = 0 }) (Own (record { 0 = 0 })) ∷ Begin 4 ∷ Return 4 Accepted ∷ Leave (call_in 0 2) ∷ Ret (call_in 0 2) None ∷ Begin 5 ∷ Return 5 Accepted ∷ Enter (call_in 0 3) Normal (record { 0 = 0 }) None ∷ Back (call_in 0 3) (record { 0 = 0 }) ∷ BackEnd (call_in 0 3) (record { 0 = 0 }) ∷ Body (call_in 0 3) (record { 0 = 0 }) (Own (record { 0 = 0 })) ∷ Leave (call_in 0 3) ∷ Exit (call_in 0 3) (record { 0 = 0 }) 21 ∷ ExitEnd (call_in 0 3) (record { 0 = 0 }) ∷ Ret (call_in 0 3) None ∷ []

pub enabled_again-plays : Plays enabled_again enabled_again-items true
unfolding actors_of repeated start step run played play all_end control_next control_got cpu_next cpu_got insn moves desk
enabled_again-plays = (refl, refl)
