-- The word machine at worked examples of version 2 of the script language, in which each guard has two levels.
use Rattle.std.proofs.Common.{true, List, [], ◌∷◌, Some, None, refl}
use Rattle.ft_base.specs.declared.context.Ctx.TheVariants.{Normal}
use Rattle.ft_base.specs.declared.item.Ran.TheVariants.{Own, List as ByList}
use Rattle.ft_base.specs.declared.item.Reason.TheVariants.{Recursion, Pid as ByPid}
use Rattle.ft_base.specs.declared.item.Answer.TheVariants.{Accepted}
use Rattle.ft_base.specs.declared.item.Item.{Item}
use Rattle.ft_base.specs.declared.item.Item.TheVariants.{Begin, Return, Enter, Back, BackEnd, Refuse, Body, Leave, Ret}
use Rattle.ft_base.specs.Job.{Job}
use Rattle.ft_base.specs.Desk.{desk}
use Rattle.ft_base.specs.Schedule.{actors_of, repeated}
use Rattle.ft_hist.proofs.SmallJobs.{call_in}
use Rattle.word_machine.specs.Commands.{insn, moves}
use Rattle.word_machine.specs.Control.{control_next, control_got}
use Rattle.word_machine.specs.Cpu.{cpu_next, cpu_got}
use Rattle.word_machine.specs.Machine.{start, step, run, played, play, all_end}
use Rattle.word_machine.proofs.Plays.{Plays}
use Rattle.word_machine.proofs.RowSamples.{recursion, pid_before_recursion}

-- a callback's act makes a call that is called back too, and the call of that act is refused
abbrev pub recursion_in_version_2 : Job
recursion_in_version_2 = record recursion { version = 2 }

abbrev pub recursion_in_version_2-items : List Item
recursion_in_version_2-items = Begin 1 ∷ Return 1 Accepted ∷ Enter (call_in 0 1) Normal (record { 0 = 0 }) None ∷ Back (call_in 0 1) (record { 0 = 0 }) ∷ Enter (call_in 0 2) Normal (record { 0 = 1 }) (Some (call_in 0 1)) ∷ Back (call_in 0 2) (record { 0 = 0 }) ∷ Enter (call_in 0 3) Normal (record { 0 = 1 }) (Some (call_in 0 2)) ∷ Refuse (call_in 0 3) (record { 0 = 0 }) Recursion ∷ Body (call_in 0 3) (record { 0 = 1 }) (Own (record { 0 = 0 })) ∷ Leave (call_in 0 3) ∷ Ret (call_in 0 3) (Some (call_in 0 2)) ∷ BackEnd (call_in 0 2) (record { 0 = 0 }) ∷ Body (call_in 0 2) (record { 0 = 1 }) (Own (record { 0 = 0 })) ∷ Leave (call_in 0 2) ∷ Ret (call_in 0 2) (Some (call_in 0 1)) ∷ BackEnd (call_in 0 1) (record { 0 = 0 }) ∷ Body (call_in 0 1) (record { 0 = 0 }) (Own (record { 0 = 0 })) ∷ Leave (call_in 0 1) ∷ Ret (call_in 0 1) None ∷ []

pub recursion_in_version_2-plays : Plays recursion_in_version_2 recursion_in_version_2-items true
unfolding actors_of repeated start step run played play all_end control_next control_got cpu_next cpu_got insn moves desk
recursion_in_version_2-plays = (refl, refl)

-- beside another user of the list, whose callback takes the second level before and gives it back
abbrev pub pid_before_recursion_in_version_2 : Job
pid_before_recursion_in_version_2 = record pid_before_recursion { version = 2 }

abbrev pub pid_before_recursion_in_version_2-items : List Item
pid_before_recursion_in_version_2-items = Begin 1 ∷ Return 1 Accepted ∷ Begin 2 ∷ Return 2 Accepted ∷ Begin 3 ∷ Return 3 Accepted ∷ Enter (call_in 1 1) Normal (record { 0 = 0 }) None ∷ Back (call_in 1 1) (record { 0 = 1 }) ∷ BackEnd (call_in 1 1) (record { 0 = 1 }) ∷ Back (call_in 1 1) (record { 0 = 0 }) ∷ Enter (call_in 1 2) Normal (record { 0 = 1 }) (Some (call_in 1 1)) ∷ Back (call_in 1 2) (record { 0 = 1 }) ∷ BackEnd (call_in 1 2) (record { 0 = 1 }) ∷ Back (call_in 1 2) (record { 0 = 0 }) ∷ Enter (call_in 1 3) Normal (record { 0 = 1 }) (Some (call_in 1 2)) ∷ Refuse (call_in 1 3) (record { 0 = 1 }) Recursion ∷ Refuse (call_in 1 3) (record { 0 = 0 }) Recursion ∷ Body (call_in 1 3) (record { 0 = 1 }) ByList ∷ Leave (call_in 1 3) ∷ Ret (call_in 1 3) (Some (call_in 1 2)) ∷ BackEnd (call_in 1 2) (record { 0 = 0 }) ∷ Body (call_in 1 2) (record { 0 = 1 }) ByList ∷ Leave (call_in 1 2) ∷ Ret (call_in 1 2) (Some (call_in 1 1)) ∷ BackEnd (call_in 1 1) (record { 0 = 0 }) ∷ Body (call_in 1 1) (record { 0 = 0 }) ByList ∷ Leave (call_in 1 1) ∷ Ret (call_in 1 1) None ∷ Enter (call_in 0 1) Normal (record { 0 = 0 }) None ∷ Refuse (call_in 0 1) (record { 0 = 1 }) ByPid ∷ Back (call_in 0 1) (record { 0 = 0 }) ∷ Enter (call_in 0 2) Normal (record { 0 = 1 }) (Some (call_in 0 1)) ∷ Refuse (call_in 0 2) (record { 0 = 1 }) ByPid ∷ Back (call_in 0 2) (record { 0 = 0 }) ∷ Enter (call_in 0 3) Normal (record { 0 = 1 }) (Some (call_in 0 2)) ∷ Refuse (call_in 0 3) (record { 0 = 1 }) ByPid ∷ Refuse (call_in 0 3) (record { 0 = 0 }) Recursion ∷ Body (call_in 0 3) (record { 0 = 1 }) ByList ∷ Leave (call_in 0 3) ∷ Ret (call_in 0 3) (Some (call_in 0 2)) ∷ BackEnd (call_in 0 2) (record { 0 = 0 }) ∷ Body (call_in 0 2) (record { 0 = 1 }) ByList ∷ Leave (call_in 0 2) ∷ Ret (call_in 0 2) (Some (call_in 0 1)) ∷ BackEnd (call_in 0 1) (record { 0 = 0 }) ∷ Body (call_in 0 1) (record { 0 = 0 }) ByList ∷ Leave (call_in 0 1) ∷ Ret (call_in 0 1) None ∷ []

pub pid_before_recursion_in_version_2-plays : Plays pid_before_recursion_in_version_2 pid_before_recursion_in_version_2-items true
unfolding actors_of repeated start step run played play all_end control_next control_got cpu_next cpu_got insn moves desk
pid_before_recursion_in_version_2-plays = (refl, refl)
