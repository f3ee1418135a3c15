-- The word machine at worked examples of version 3 of the script language: a CPU answers requests before the steps of its tasks, and plain users
-- aren't asked whether they are on.
use Rattle.std.proofs.Common.{true, false, List, [], ◌∷◌, None, codes, refl}
use Rattle.ft_base.specs.declared.context.Ctx.TheVariants.{Normal, Softirq, Irq}
use Rattle.ft_base.specs.declared.item.Ran.TheVariants.{Own, Nop, List as ByList}
use Rattle.ft_base.specs.declared.item.Answer.TheVariants.{Accepted}
use Rattle.ft_base.specs.declared.item.Item.{Item}
use Rattle.ft_base.specs.declared.item.Item.TheVariants.{Begin, Return, Enter, Back, BackEnd, Body, Leave, Ret}
use Rattle.ft_base.specs.declared.user.Kind.TheVariants.{Graph, Function, Fprobe}
use Rattle.ft_base.specs.declared.task.TaskAct.TheVariants.{Call, Ret as RetAct, After, Raise, Lower}
use Rattle.ft_base.specs.declared.turn.Who.TheVariants.{Control as OfControl, Cpu as OfCpu, All}
use Rattle.ft_base.specs.Job.{usual_lines, usual_rings, Job, Register, Unregister, Run}
use Rattle.ft_base.specs.Desk.{desk}
use Rattle.ft_base.specs.Schedule.{actors_of, repeated}
use Rattle.ft_hist.proofs.SmallJobs.{named, call_in}
use Rattle.word_machine.specs.Commands.{insn, moves}
use Rattle.word_machine.specs.Control.{control_next, control_got}
use Rattle.word_machine.specs.Cpu.{cpu_next, cpu_got}
use Rattle.word_machine.specs.Machine.{start, step, run, played, play, all_end}
use Rattle.word_machine.proofs.Plays.{Plays}

abbrev pub registered_before_the_fetch : Job
registered_before_the_fetch = record { version = 3; functions = named (codes "a") None ∷ []; users = record { name = codes "t"; kind = Function; regs = false; ipmodify = None; pid = false; act = None } ∷ []; frames = 50; tramps = 64; quanta = 100 ∷ []; tasks = record { pid = 10; cpu = 0; acts = Call (record { 0 = 0 }) ∷ RetAct ∷ [] } ∷ []; ctls = Run (Register 0) ∷ []; lines = usual_lines; rings = usual_rings; schedule = record { who = OfCpu (record { 0 = 0 }); count = 3 } ∷ record { who = OfControl; count = 10 } ∷ record { who = OfCpu (record { 0 = 0 }); count = 2 } ∷ record { who = OfControl; count = 3 } ∷ record { who = OfCpu (record { 0 = 0 }); count = 2 } ∷ record { who = OfControl; count = 3 } ∷ record { who = OfCpu (record { 0 = 0 }); count = 2 } ∷ record { who = OfControl; count = 2 } ∷ record { who = All; count = 100 } ∷ [] }

abbrev pub registered_before_the_fetch-items : List Item
registered_before_the_fetch-items = Enter (call_in 0 1) Normal (record { 0 = 0 }) None ∷ Begin 1 ∷ Return 1 Accepted ∷ Back (call_in 0 1) (record { 0 = 0 }) ∷ BackEnd (call_in 0 1) (record { 0 = 0 }) ∷ Body (call_in 0 1) (record { 0 = 0 }) (Own (record { 0 = 0 })) ∷ Leave (call_in 0 1) ∷ Ret (call_in 0 1) None ∷ []

pub registered_before_the_fetch-plays : Plays registered_before_the_fetch registered_before_the_fetch-items true
unfolding actors_of repeated start step run played play all_end control_next control_got cpu_next cpu_got insn moves desk
registered_before_the_fetch-plays = (refl, refl)

abbrev pub no_look_within_a_fetch : Job
no_look_within_a_fetch = record { version = 3; functions = named (codes "a") None ∷ []; users = record { name = codes "t"; kind = Function; regs = false; ipmodify = None; pid = false; act = None } ∷ []; frames = 50; tramps = 64; quanta = 100 ∷ []; tasks = record { pid = 10; cpu = 0; acts = Call (record { 0 = 0 }) ∷ RetAct ∷ [] } ∷ []; ctls = Run (Register 0) ∷ []; lines = usual_lines; rings = usual_rings; schedule = record { who = OfCpu (record { 0 = 0 }); count = 5 } ∷ record { who = OfControl; count = 10 } ∷ record { who = OfCpu (record { 0 = 0 }); count = 2 } ∷ record { who = OfControl; count = 10 } ∷ record { who = All; count = 100 } ∷ [] }

abbrev pub no_look_within_a_fetch-items : List Item
no_look_within_a_fetch-items = Enter (call_in 0 1) Normal (record { 0 = 0 }) None ∷ Begin 1 ∷ Body (call_in 0 1) (record { 0 = 0 }) Nop ∷ Leave (call_in 0 1) ∷ Return 1 Accepted ∷ Ret (call_in 0 1) None ∷ []

pub no_look_within_a_fetch-plays : Plays no_look_within_a_fetch no_look_within_a_fetch-items true
unfolding actors_of repeated start step run played play all_end control_next control_got cpu_next cpu_got insn moves desk
no_look_within_a_fetch-plays = (refl, refl)

abbrev pub look_before_a_fetch : Job
look_before_a_fetch = record { version = 3; functions = named (codes "a") None ∷ []; users = record { name = codes "t"; kind = Function; regs = false; ipmodify = None; pid = false; act = None } ∷ []; frames = 50; tramps = 64; quanta = 100 ∷ []; tasks = record { pid = 10; cpu = 0; acts = Call (record { 0 = 0 }) ∷ RetAct ∷ [] } ∷ []; ctls = Run (Register 0) ∷ []; lines = usual_lines; rings = usual_rings; schedule = record { who = OfCpu (record { 0 = 0 }); count = 4 } ∷ record { who = OfControl; count = 10 } ∷ record { who = OfCpu (record { 0 = 0 }); count = 2 } ∷ record { who = OfControl; count = 10 } ∷ record { who = All; count = 100 } ∷ [] }

abbrev pub look_before_a_fetch-items : List Item
look_before_a_fetch-items = Enter (call_in 0 1) Normal (record { 0 = 0 }) None ∷ Begin 1 ∷ Back (call_in 0 1) (record { 0 = 0 }) ∷ Return 1 Accepted ∷ BackEnd (call_in 0 1) (record { 0 = 0 }) ∷ Body (call_in 0 1) (record { 0 = 0 }) (Own (record { 0 = 0 })) ∷ Leave (call_in 0 1) ∷ Ret (call_in 0 1) None ∷ []

pub look_before_a_fetch-plays : Plays look_before_a_fetch look_before_a_fetch-items true
unfolding actors_of repeated start step run played play all_end control_next control_got cpu_next cpu_got insn moves desk
look_before_a_fetch-plays = (refl, refl)

abbrev pub no_look_in_irq : Job
no_look_in_irq = record { version = 3; functions = named (codes "a") None ∷ []; users = record { name = codes "t"; kind = Function; regs = false; ipmodify = None; pid = false; act = None } ∷ []; frames = 50; tramps = 64; quanta = 100 ∷ []; tasks = record { pid = 10; cpu = 0; acts = Raise Irq ∷ Call (record { 0 = 0 }) ∷ RetAct ∷ Lower ∷ [] } ∷ []; ctls = Run (Register 0) ∷ []; lines = usual_lines; rings = usual_rings; schedule = record { who = OfCpu (record { 0 = 0 }); count = 4 } ∷ record { who = OfControl; count = 10 } ∷ record { who = OfCpu (record { 0 = 0 }); count = 2 } ∷ record { who = OfControl; count = 10 } ∷ record { who = All; count = 100 } ∷ [] }

abbrev pub no_look_in_irq-items : List Item
no_look_in_irq-items = Enter (call_in 0 1) Irq (record { 0 = 0 }) None ∷ Begin 1 ∷ Back (call_in 0 1) (record { 0 = 0 }) ∷ BackEnd (call_in 0 1) (record { 0 = 0 }) ∷ Body (call_in 0 1) (record { 0 = 0 }) (Own (record { 0 = 0 })) ∷ Leave (call_in 0 1) ∷ Ret (call_in 0 1) None ∷ Return 1 Accepted ∷ []

pub no_look_in_irq-plays : Plays no_look_in_irq no_look_in_irq-items true
unfolding actors_of repeated start step run played play all_end control_next control_got cpu_next cpu_got insn moves desk
no_look_in_irq-plays = (refl, refl)

abbrev pub looks_in_softirq : Job
looks_in_softirq = record { version = 3; functions = named (codes "a") None ∷ []; users = record { name = codes "t"; kind = Function; regs = false; ipmodify = None; pid = false; act = None } ∷ []; frames = 50; tramps = 64; quanta = 100 ∷ []; tasks = record { pid = 10; cpu = 0; acts = Raise Softirq ∷ Call (record { 0 = 0 }) ∷ RetAct ∷ Lower ∷ [] } ∷ []; ctls = Run (Register 0) ∷ []; lines = usual_lines; rings = usual_rings; schedule = record { who = OfCpu (record { 0 = 0 }); count = 5 } ∷ record { who = OfControl; count = 10 } ∷ record { who = OfCpu (record { 0 = 0 }); count = 2 } ∷ record { who = OfControl; count = 3 } ∷ record { who = OfCpu (record { 0 = 0 }); count = 2 } ∷ record { who = OfControl; count = 3 } ∷ record { who = OfCpu (record { 0 = 0 }); count = 2 } ∷ record { who = OfControl; count = 2 } ∷ record { who = All; count = 100 } ∷ [] }

abbrev pub looks_in_softirq-items : List Item
looks_in_softirq-items = Enter (call_in 0 1) Softirq (record { 0 = 0 }) None ∷ Begin 1 ∷ Return 1 Accepted ∷ Back (call_in 0 1) (record { 0 = 0 }) ∷ BackEnd (call_in 0 1) (record { 0 = 0 }) ∷ Body (call_in 0 1) (record { 0 = 0 }) (Own (record { 0 = 0 })) ∷ Leave (call_in 0 1) ∷ Ret (call_in 0 1) None ∷ []

pub looks_in_softirq-plays : Plays looks_in_softirq looks_in_softirq-items true
unfolding actors_of repeated start step run played play all_end control_next control_got cpu_next cpu_got insn moves desk
looks_in_softirq-plays = (refl, refl)

abbrev pub looks_use_up_no_quantum : Job
looks_use_up_no_quantum = record { version = 3; functions = named (codes "a") None ∷ []; users = []; frames = 50; tramps = 64; quanta = 2 ∷ []; tasks = record { pid = 10; cpu = 0; acts = Call (record { 0 = 0 }) ∷ RetAct ∷ [] } ∷ record { pid = 11; cpu = 0; acts = Call (record { 0 = 0 }) ∷ RetAct ∷ [] } ∷ []; ctls = []; lines = usual_lines; rings = usual_rings; schedule = record { who = OfCpu (record { 0 = 0 }); count = 100 } ∷ [] }

abbrev pub looks_use_up_no_quantum-items : List Item
looks_use_up_no_quantum-items = Enter (call_in 0 1) Normal (record { 0 = 0 }) None ∷ Enter (call_in 1 1) Normal (record { 0 = 0 }) None ∷ Body (call_in 0 1) (record { 0 = 0 }) Nop ∷ Body (call_in 1 1) (record { 0 = 0 }) Nop ∷ Leave (call_in 0 1) ∷ Ret (call_in 0 1) None ∷ Leave (call_in 1 1) ∷ Ret (call_in 1 1) None ∷ []

pub looks_use_up_no_quantum-plays : Plays looks_use_up_no_quantum looks_use_up_no_quantum-items true
unfolding actors_of repeated start step run played play all_end control_next control_got cpu_next cpu_got insn moves desk
looks_use_up_no_quantum-plays = (refl, refl)

abbrev pub plain_user_in_its_trampoline : Job
plain_user_in_its_trampoline = record { version = 3; functions = named (codes "a") None ∷ []; users = record { name = codes "t"; kind = Function; regs = false; ipmodify = None; pid = false; act = None } ∷ []; frames = 50; tramps = 64; quanta = 100 ∷ []; tasks = record { pid = 10; cpu = 0; acts = After 1 ∷ Call (record { 0 = 0 }) ∷ RetAct ∷ [] } ∷ []; ctls = Run (Register 0) ∷ Run (Unregister 0) ∷ []; lines = usual_lines; rings = usual_rings; schedule = record { who = OfCpu (record { 0 = 0 }); count = 1 } ∷ record { who = OfControl; count = 10 } ∷ record { who = OfCpu (record { 0 = 0 }); count = 2 } ∷ record { who = OfControl; count = 3 } ∷ record { who = OfCpu (record { 0 = 0 }); count = 2 } ∷ record { who = OfControl; count = 3 } ∷ record { who = OfCpu (record { 0 = 0 }); count = 2 } ∷ record { who = OfControl; count = 2 } ∷ record { who = OfCpu (record { 0 = 0 }); count = 9 } ∷ record { who = OfControl; count = 6 } ∷ record { who = OfCpu (record { 0 = 0 }); count = 2 } ∷ record { who = OfControl; count = 3 } ∷ record { who = OfCpu (record { 0 = 0 }); count = 2 } ∷ record { who = OfControl; count = 3 } ∷ record { who = OfCpu (record { 0 = 0 }); count = 2 } ∷ record { who = OfControl; count = 22 } ∷ record { who = All; count = 100 } ∷ [] }

abbrev pub plain_user_in_its_trampoline-items : List Item
plain_user_in_its_trampoline-items = Begin 1 ∷ Return 1 Accepted ∷ Enter (call_in 0 1) Normal (record { 0 = 0 }) None ∷ Begin 2 ∷ Back (call_in 0 1) (record { 0 = 0 }) ∷ BackEnd (call_in 0 1) (record { 0 = 0 }) ∷ Body (call_in 0 1) (record { 0 = 0 }) (Own (record { 0 = 0 })) ∷ Leave (call_in 0 1) ∷ Return 2 Accepted ∷ Ret (call_in 0 1) None ∷ []

pub plain_user_in_its_trampoline-plays : Plays plain_user_in_its_trampoline plain_user_in_its_trampoline-items true
unfolding actors_of repeated start step run played play all_end control_next control_got cpu_next cpu_got insn moves desk
plain_user_in_its_trampoline-plays = (refl, refl)

abbrev pub graph_user_in_its_trampoline : Job
graph_user_in_its_trampoline = record { version = 3; functions = named (codes "a") None ∷ []; users = record { name = codes "t"; kind = Graph; regs = false; ipmodify = None; pid = false; act = None } ∷ []; frames = 50; tramps = 64; quanta = 100 ∷ []; tasks = record { pid = 10; cpu = 0; acts = After 1 ∷ Call (record { 0 = 0 }) ∷ RetAct ∷ [] } ∷ []; ctls = Run (Register 0) ∷ Run (Unregister 0) ∷ []; lines = usual_lines; rings = usual_rings; schedule = record { who = OfCpu (record { 0 = 0 }); count = 1 } ∷ record { who = OfControl; count = 10 } ∷ record { who = OfCpu (record { 0 = 0 }); count = 2 } ∷ record { who = OfControl; count = 3 } ∷ record { who = OfCpu (record { 0 = 0 }); count = 2 } ∷ record { who = OfControl; count = 3 } ∷ record { who = OfCpu (record { 0 = 0 }); count = 2 } ∷ record { who = OfControl; count = 2 } ∷ record { who = OfCpu (record { 0 = 0 }); count = 9 } ∷ record { who = OfControl; count = 6 } ∷ record { who = OfCpu (record { 0 = 0 }); count = 2 } ∷ record { who = OfControl; count = 3 } ∷ record { who = OfCpu (record { 0 = 0 }); count = 2 } ∷ record { who = OfControl; count = 3 } ∷ record { who = OfCpu (record { 0 = 0 }); count = 2 } ∷ record { who = OfControl; count = 22 } ∷ record { who = All; count = 100 } ∷ [] }

abbrev pub graph_user_in_its_trampoline-items : List Item
graph_user_in_its_trampoline-items = Begin 1 ∷ Return 1 Accepted ∷ Enter (call_in 0 1) Normal (record { 0 = 0 }) None ∷ Begin 2 ∷ Body (call_in 0 1) (record { 0 = 0 }) (Own (record { 0 = 0 })) ∷ Leave (call_in 0 1) ∷ Return 2 Accepted ∷ Ret (call_in 0 1) None ∷ []

pub graph_user_in_its_trampoline-plays : Plays graph_user_in_its_trampoline graph_user_in_its_trampoline-items true
unfolding actors_of repeated start step run played play all_end control_next control_got cpu_next cpu_got insn moves desk
graph_user_in_its_trampoline-plays = (refl, refl)

abbrev pub fprobe_in_its_trampoline : Job
fprobe_in_its_trampoline = record { version = 3; functions = named (codes "a") None ∷ []; users = record { name = codes "t"; kind = Fprobe false false; regs = false; ipmodify = None; pid = false; act = None } ∷ []; frames = 50; tramps = 64; quanta = 100 ∷ []; tasks = record { pid = 10; cpu = 0; acts = After 1 ∷ Call (record { 0 = 0 }) ∷ RetAct ∷ [] } ∷ []; ctls = Run (Register 0) ∷ Run (Unregister 0) ∷ []; lines = usual_lines; rings = usual_rings; schedule = record { who = OfCpu (record { 0 = 0 }); count = 1 } ∷ record { who = OfControl; count = 10 } ∷ record { who = OfCpu (record { 0 = 0 }); count = 2 } ∷ record { who = OfControl; count = 3 } ∷ record { who = OfCpu (record { 0 = 0 }); count = 2 } ∷ record { who = OfControl; count = 3 } ∷ record { who = OfCpu (record { 0 = 0 }); count = 2 } ∷ record { who = OfControl; count = 2 } ∷ record { who = OfCpu (record { 0 = 0 }); count = 9 } ∷ record { who = OfControl; count = 6 } ∷ record { who = OfCpu (record { 0 = 0 }); count = 2 } ∷ record { who = OfControl; count = 3 } ∷ record { who = OfCpu (record { 0 = 0 }); count = 2 } ∷ record { who = OfControl; count = 3 } ∷ record { who = OfCpu (record { 0 = 0 }); count = 2 } ∷ record { who = OfControl; count = 22 } ∷ record { who = All; count = 100 } ∷ [] }

abbrev pub fprobe_in_its_trampoline-items : List Item
fprobe_in_its_trampoline-items = Begin 1 ∷ Return 1 Accepted ∷ Enter (call_in 0 1) Normal (record { 0 = 0 }) None ∷ Begin 2 ∷ Body (call_in 0 1) (record { 0 = 0 }) (Own (record { 0 = 0 })) ∷ Leave (call_in 0 1) ∷ Return 2 Accepted ∷ Ret (call_in 0 1) None ∷ []

pub fprobe_in_its_trampoline-plays : Plays fprobe_in_its_trampoline fprobe_in_its_trampoline-items true
unfolding actors_of repeated start step run played play all_end control_next control_got cpu_next cpu_got insn moves desk
fprobe_in_its_trampoline-plays = (refl, refl)

abbrev pub plain_user_in_a_walk : Job
plain_user_in_a_walk = record { version = 3; functions = named (codes "a") None ∷ []; users = record { name = codes "t"; kind = Function; regs = false; ipmodify = None; pid = false; act = None } ∷ record { name = codes "s"; kind = Function; regs = false; ipmodify = None; pid = false; act = None } ∷ []; frames = 50; tramps = 64; quanta = 100 ∷ []; tasks = record { pid = 10; cpu = 0; acts = After 2 ∷ Call (record { 0 = 0 }) ∷ RetAct ∷ [] } ∷ []; ctls = Run (Register 0) ∷ Run (Register 1) ∷ Run (Unregister 0) ∷ []; lines = usual_lines; rings = usual_rings; schedule = record { who = OfCpu (record { 0 = 0 }); count = 1 } ∷ record { who = OfControl; count = 10 } ∷ record { who = OfCpu (record { 0 = 0 }); count = 2 } ∷ record { who = OfControl; count = 3 } ∷ record { who = OfCpu (record { 0 = 0 }); count = 2 } ∷ record { who = OfControl; count = 3 } ∷ record { who = OfCpu (record { 0 = 0 }); count = 2 } ∷ record { who = OfControl; count = 2 } ∷ record { who = OfControl; count = 10 } ∷ record { who = OfCpu (record { 0 = 0 }); count = 2 } ∷ record { who = OfControl; count = 3 } ∷ record { who = OfCpu (record { 0 = 0 }); count = 2 } ∷ record { who = OfControl; count = 3 } ∷ record { who = OfCpu (record { 0 = 0 }); count = 2 } ∷ record { who = OfControl; count = 2 } ∷ record { who = OfCpu (record { 0 = 0 }); count = 21 } ∷ record { who = OfControl; count = 6 } ∷ record { who = OfCpu (record { 0 = 0 }); count = 2 } ∷ record { who = OfControl; count = 3 } ∷ record { who = OfCpu (record { 0 = 0 }); count = 2 } ∷ record { who = OfControl; count = 3 } ∷ record { who = OfCpu (record { 0 = 0 }); count = 2 } ∷ record { who = OfControl; count = 22 } ∷ record { who = All; count = 100 } ∷ [] }

abbrev pub plain_user_in_a_walk-items : List Item
plain_user_in_a_walk-items = Begin 1 ∷ Return 1 Accepted ∷ Begin 2 ∷ Return 2 Accepted ∷ Enter (call_in 0 1) Normal (record { 0 = 0 }) None ∷ Back (call_in 0 1) (record { 0 = 1 }) ∷ BackEnd (call_in 0 1) (record { 0 = 1 }) ∷ Begin 3 ∷ Back (call_in 0 1) (record { 0 = 0 }) ∷ BackEnd (call_in 0 1) (record { 0 = 0 }) ∷ Body (call_in 0 1) (record { 0 = 0 }) ByList ∷ Leave (call_in 0 1) ∷ Return 3 Accepted ∷ Ret (call_in 0 1) None ∷ []

pub plain_user_in_a_walk-plays : Plays plain_user_in_a_walk plain_user_in_a_walk-items true
unfolding actors_of repeated start step run played play all_end control_next control_got cpu_next cpu_got insn moves desk
plain_user_in_a_walk-plays = (refl, refl)

abbrev pub graph_user_in_a_walk : Job
graph_user_in_a_walk = record { version = 3; functions = named (codes "a") None ∷ []; users = record { name = codes "t"; kind = Graph; regs = false; ipmodify = None; pid = false; act = None } ∷ record { name = codes "s"; kind = Function; regs = false; ipmodify = None; pid = false; act = None } ∷ []; frames = 50; tramps = 64; quanta = 100 ∷ []; tasks = record { pid = 10; cpu = 0; acts = After 2 ∷ Call (record { 0 = 0 }) ∷ RetAct ∷ [] } ∷ []; ctls = Run (Register 0) ∷ Run (Register 1) ∷ Run (Unregister 0) ∷ []; lines = usual_lines; rings = usual_rings; schedule = record { who = OfCpu (record { 0 = 0 }); count = 1 } ∷ record { who = OfControl; count = 10 } ∷ record { who = OfCpu (record { 0 = 0 }); count = 2 } ∷ record { who = OfControl; count = 3 } ∷ record { who = OfCpu (record { 0 = 0 }); count = 2 } ∷ record { who = OfControl; count = 3 } ∷ record { who = OfCpu (record { 0 = 0 }); count = 2 } ∷ record { who = OfControl; count = 2 } ∷ record { who = OfControl; count = 10 } ∷ record { who = OfCpu (record { 0 = 0 }); count = 2 } ∷ record { who = OfControl; count = 3 } ∷ record { who = OfCpu (record { 0 = 0 }); count = 2 } ∷ record { who = OfControl; count = 3 } ∷ record { who = OfCpu (record { 0 = 0 }); count = 2 } ∷ record { who = OfControl; count = 2 } ∷ record { who = OfCpu (record { 0 = 0 }); count = 21 } ∷ record { who = OfControl; count = 6 } ∷ record { who = OfCpu (record { 0 = 0 }); count = 2 } ∷ record { who = OfControl; count = 3 } ∷ record { who = OfCpu (record { 0 = 0 }); count = 2 } ∷ record { who = OfControl; count = 3 } ∷ record { who = OfCpu (record { 0 = 0 }); count = 2 } ∷ record { who = OfControl; count = 22 } ∷ record { who = All; count = 100 } ∷ [] }

abbrev pub graph_user_in_a_walk-items : List Item
graph_user_in_a_walk-items = Begin 1 ∷ Return 1 Accepted ∷ Begin 2 ∷ Return 2 Accepted ∷ Enter (call_in 0 1) Normal (record { 0 = 0 }) None ∷ Back (call_in 0 1) (record { 0 = 1 }) ∷ BackEnd (call_in 0 1) (record { 0 = 1 }) ∷ Begin 3 ∷ Body (call_in 0 1) (record { 0 = 0 }) ByList ∷ Leave (call_in 0 1) ∷ Return 3 Accepted ∷ Ret (call_in 0 1) None ∷ []

pub graph_user_in_a_walk-plays : Plays graph_user_in_a_walk graph_user_in_a_walk-items true
unfolding actors_of repeated start step run played play all_end control_next control_got cpu_next cpu_got insn moves desk
graph_user_in_a_walk-plays = (refl, refl)

abbrev pub two_commands_in_a_call : Job
two_commands_in_a_call = record { version = 3; functions = named (codes "a") None ∷ []; users = record { name = codes "old"; kind = Function; regs = false; ipmodify = None; pid = false; act = None } ∷ record { name = codes "new"; kind = Function; regs = false; ipmodify = None; pid = false; act = None } ∷ []; frames = 50; tramps = 64; quanta = 100 ∷ []; tasks = record { pid = 10; cpu = 0; acts = After 1 ∷ Call (record { 0 = 0 }) ∷ RetAct ∷ Call (record { 0 = 0 }) ∷ RetAct ∷ [] } ∷ []; ctls = Run (Register 0) ∷ Run (Register 1) ∷ Run (Unregister 0) ∷ []; lines = usual_lines; rings = usual_rings; schedule = record { who = OfCpu (record { 0 = 0 }); count = 1 } ∷ record { who = OfControl; count = 10 } ∷ record { who = OfCpu (record { 0 = 0 }); count = 2 } ∷ record { who = OfControl; count = 3 } ∷ record { who = OfCpu (record { 0 = 0 }); count = 2 } ∷ record { who = OfControl; count = 3 } ∷ record { who = OfCpu (record { 0 = 0 }); count = 2 } ∷ record { who = OfControl; count = 2 } ∷ record { who = OfCpu (record { 0 = 0 }); count = 11 } ∷ record { who = OfControl; count = 10 } ∷ record { who = OfCpu (record { 0 = 0 }); count = 2 } ∷ record { who = OfControl; count = 3 } ∷ record { who = OfCpu (record { 0 = 0 }); count = 2 } ∷ record { who = OfControl; count = 3 } ∷ record { who = OfCpu (record { 0 = 0 }); count = 2 } ∷ record { who = OfControl; count = 2 } ∷ record { who = OfControl; count = 6 } ∷ record { who = OfCpu (record { 0 = 0 }); count = 2 } ∷ record { who = OfControl; count = 3 } ∷ record { who = OfCpu (record { 0 = 0 }); count = 2 } ∷ record { who = OfControl; count = 3 } ∷ record { who = OfCpu (record { 0 = 0 }); count = 2 } ∷ record { who = OfControl; count = 22 } ∷ record { who = OfCpu (record { 0 = 0 }); count = 100 } ∷ record { who = All; count = 100 } ∷ [] }

abbrev pub two_commands_in_a_call-items : List Item
two_commands_in_a_call-items = Begin 1 ∷ Return 1 Accepted ∷ Enter (call_in 0 1) Normal (record { 0 = 0 }) None ∷ Begin 2 ∷ Return 2 Accepted ∷ Begin 3 ∷ Back (call_in 0 1) (record { 0 = 0 }) ∷ BackEnd (call_in 0 1) (record { 0 = 0 }) ∷ Body (call_in 0 1) (record { 0 = 0 }) (Own (record { 0 = 0 })) ∷ Leave (call_in 0 1) ∷ Ret (call_in 0 1) None ∷ Enter (call_in 0 2) Normal (record { 0 = 0 }) None ∷ Back (call_in 0 2) (record { 0 = 1 }) ∷ BackEnd (call_in 0 2) (record { 0 = 1 }) ∷ Body (call_in 0 2) (record { 0 = 0 }) (Own (record { 0 = 1 })) ∷ Leave (call_in 0 2) ∷ Ret (call_in 0 2) None ∷ Return 3 Accepted ∷ []

pub two_commands_in_a_call-plays : Plays two_commands_in_a_call two_commands_in_a_call-items true
unfolding actors_of repeated start step run played play all_end control_next control_got cpu_next cpu_got insn moves desk
two_commands_in_a_call-plays = (refl, refl)
