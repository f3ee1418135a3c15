-- Where control stands in the parts of a command, by what its steppers have done: the word machine's positions.
use Rattle.std.specs.Prelude.{ℕ, suc, ◌+◌, ◌-◌, nat_lt, List, drop, is_some, if◌then◌else◌}
use Rattle.ft_base.specs.Job.{Job}
use Rattle.grace_core.specs.declared.waiter.WaitPhase.{WaitPhase}
use Rattle.grace_core.specs.declared.waiter.WaitPhase.TheVariants.{Waiting}
use Rattle.ops_list.specs.declared.linker.LinkPhase.{LinkPhase}
use Rattle.ops_list.specs.declared.linker.LinkPhase.TheVariants.{Linking as LinkingUser}
use Rattle.patch_core.specs.Moves.{Move, Put, Sync, Done, batch, batch_next}
use Rattle.ft_desk.specs.declared.plan.TrampChange.{TrampChange}
use Rattle.ft_desk.specs.declared.plan.TrampChange.TheVariants.{Set, Clear}
use Rattle.ft_desk.specs.declared.plan.ListChange.{ListChange}
use Rattle.ft_desk.specs.declared.plan.ListChange.TheVariants.{Keep as KeepList, Push as PushUser, Unlink}
use Rattle.ft_desk.specs.Plans.{PlainPlan}
use Rattle.control_core.specs.Followed.{plan_followed}
use Rattle.word_machine.specs.Commands.{effect}
use Rattle.word_machine.specs.Control.{Position, Take, Copy, Select, Push, Relink, StorePids, StoreDepth, Patch, Ask, Await, Awaited, Cpus, Tasks, Release, Close, copy_from}

-- before a word of the copy, or, after the last of them, before the user's state
abbrev pub writing_at : ℕ → ℕ → Position
writing_at words k = if nat_lt k words then Copy 0 k else (if nat_lt k (words + words) then Copy 1 (k - words) else Select)

-- in a change of the list
abbrev pub linking_at : LinkPhase → Position
linking_at (LinkingUser u first) = Push
linking_at _ = Relink

-- in a wait that is not over
abbrev pub waiting_at : Awaited → WaitPhase → Position
waiting_at whom (Waiting n) = Await whom n
waiting_at whom _ = Ask whom

-- ## where a plan leads

-- the plan of the command after the first d
abbrev pub plan_at : Job → ℕ → (ℕ → ℕ) → List ℕ → PlainPlan
plan_at job d copies order = plan_followed job d copies order (effect job d)

-- what is stored first, if no trampoline is taken
abbrev pub stored_by : Job → PlainPlan → Position
stored_by job plan =
    if plan.pair then copy_from job 0 0
    else (if is_some plan.sel then Select
    else (if is_some plan.pids then StorePids
    else (if is_some plan.depth then StoreDepth
    else Close)))

-- the same, by what happens to the trampoline's word
abbrev pub begun_to : Job → PlainPlan → TrampChange → Position
begun_to job plan (Set slot reg) = Take
begun_to job plan _ = stored_by job plan

-- after the Begin of a command with this plan
abbrev pub begun_by : Job → PlainPlan → Position
begun_by job plan = begun_to job plan plan.tramp

-- after all other stores: before the wait for quiet points, if there is one
abbrev pub quiet_by : PlainPlan → Position
quiet_by plan = if plan.quiet then Ask Tasks else Close

-- the moves of the plan's batch that are left after this many
abbrev pub moves_left : PlainPlan → ℕ → List Move
moves_left plan made = drop made (batch plan.sites)

-- before this move of the batch, which has these after it; a batch that is done leads on
abbrev pub moving_to : PlainPlan → List Move → Move → Position
moving_to plan rest (Put w x) = Patch w x rest
moving_to plan rest Sync = Ask (Cpus rest)
moving_to plan rest Done = quiet_by plan

-- before the next move of the batch, after this many
abbrev pub moving_by : PlainPlan → ℕ → Position
moving_by plan made = moving_to plan (moves_left plan (suc made)) (batch_next plan.sites made)

-- after the user's state is stored, by what happens to the list; a list that stays is followed by this
abbrev pub listed_to : Position → ListChange → Position
listed_to otherwise KeepList = otherwise
listed_to otherwise (PushUser first) = Push
listed_to otherwise (Unlink before after) = Relink

-- the same of a plan
abbrev pub listed_by : PlainPlan → Position
listed_by plan = listed_to (moving_by plan 0) plan.list

-- after the wait for quiet points, by what happens to the trampoline's word
abbrev pub released_to : TrampChange → Position
released_to (Clear slot) = Release
released_to _ = Close

-- the same of a plan
abbrev pub released_by : PlainPlan → Position
released_by plan = released_to plan.tramp
