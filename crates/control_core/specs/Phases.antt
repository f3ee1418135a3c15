-- Where control goes in a command, by the desk's plan.
use Rattle.std.specs.Prelude.{ℕ, suc, Bool, true, false, Option, Some, None, if◌then◌else◌}
use Rattle.ft_base.specs.declared.number.UserNo.{UserNo}
use Rattle.word_map.specs.declared.shape.Shape.{Shape}
use Rattle.word_map.specs.Contents.{sel_copy}
use Rattle.grace_core.specs.Waits.{Wait, wait_start}
use Rattle.grace_core.specs.declared.waiter.WaitPhase.{WaitPhase}
use Rattle.grace_core.specs.declared.waiter.WaitPhase.TheVariants.{Asking, Ended}
use Rattle.hash_pages.specs.Pages.{Page}
use Rattle.ops_list.specs.declared.linker.LinkPhase.{LinkPhase}
use Rattle.ops_list.specs.declared.linker.LinkPhase.TheVariants.{Linking as LinkingUser, Heading, Unlinking, Ended as LinkEnded}
use Rattle.patch_core.specs.Moves.{Move, Put, Sync, Done, batch_next}
use Rattle.ft_desk.specs.declared.plan.TrampChange.{TrampChange}
use Rattle.ft_desk.specs.declared.plan.TrampChange.TheVariants.{Keep as KeepTramp, Set, Clear}
use Rattle.ft_desk.specs.declared.plan.ListChange.{ListChange}
use Rattle.ft_desk.specs.declared.plan.ListChange.TheVariants.{Keep as KeepList, Push, Unlink}
use Rattle.ft_desk.specs.Plans.{PlainPlan}
use Rattle.control_core.specs.declared.phase.Phase.{Phase}
use Rattle.control_core.specs.declared.phase.Phase.TheVariants as phase

-- the page of a user's sets before its first store
abbrev pub page_start : Shape → ℕ → ℕ → Page
page_start shape u sel = record { shape = shape; user = u; copy = sel_copy sel; sel = sel; stored = 0 }

-- the store of the traced tasks, or of the graph depth, or none
abbrev pub number_to : Option ℕ → Option ℕ → Phase
number_to (Some pids) depth = phase.StoringPids
number_to None (Some depth) = phase.StoringDepth
number_to None None = phase.Closing

-- the user's sets and state, or its state alone
abbrev pub write_to : Shape → Bool → ℕ → ℕ → Phase
write_to shape pair u sel = if pair then phase.Writing (page_start shape u sel) else phase.Selecting

-- after the trampoline is taken, or if none is
abbrev pub store_in : Shape → PlainPlan → Option UserNo → Option ℕ → Phase
store_in shape p (Some u) (Some sel) = write_to shape p.pair u.0 sel
store_in shape p (Some u) None = number_to p.pids p.depth
store_in shape p None sel = number_to p.pids p.depth

-- after the trampoline is taken, or if none is, for this plan
abbrev pub store_to : Shape → PlainPlan → Phase
store_to shape p = store_in shape p p.user p.sel

-- after the Begin
abbrev pub begin_in : TrampChange → Phase → Phase
begin_in (Set slot reg) otherwise = phase.Taking
begin_in KeepTramp otherwise = otherwise
begin_in (Clear slot) otherwise = otherwise

-- after the Begin of this plan's command
abbrev pub begin_to : Shape → PlainPlan → Phase
begin_to shape p = begin_in p.tramp (store_to shape p)

-- after all that the command stores before its wait, when so many requests were stored
abbrev pub quiet_to : Shape → PlainPlan → ℕ → Phase
quiet_to shape p request = if p.quiet then phase.Quieting (wait_start shape true (suc request)) else phase.Closing

-- before a move of the batch
abbrev pub move_to : Shape → PlainPlan → ℕ → Move → Phase
move_to shape p request (Put w x) = phase.Patching
move_to shape p request Sync = phase.Syncing (wait_start shape false (suc request))
move_to shape p request Done = quiet_to shape p request

-- after so many moves of the batch
abbrev pub batch_to : Shape → PlainPlan → ℕ → ℕ → Phase
batch_to shape p made request = move_to shape p request (batch_next p.sites made)

-- after the user's state is stored
abbrev pub list_in : Shape → PlainPlan → ℕ → ℕ → ListChange → Option UserNo → Phase
list_in shape p made request (Push first) (Some u) = phase.Linking (record { shape = shape; phase = LinkingUser u first })
list_in shape p made request (Push first) None = batch_to shape p made request
list_in shape p made request (Unlink before after) u = phase.Linking (record { shape = shape; phase = Unlinking before after })
list_in shape p made request KeepList u = batch_to shape p made request

-- after the user's state is stored, for this plan
abbrev pub list_to : Shape → PlainPlan → ℕ → ℕ → Phase
list_to shape p made request = list_in shape p made request p.list p.user

-- after the wait for quiet points
abbrev pub release_in : TrampChange → Phase
release_in (Clear slot) = phase.Releasing
release_in KeepTramp = phase.Closing
release_in (Set slot reg) = phase.Closing

-- ## the steppers of parts

-- a wait has not stored its request
abbrev pub is_asking : WaitPhase → Bool
is_asking Asking = true
is_asking _ = false

-- a wait is over
abbrev pub is_over : WaitPhase → Bool
is_over Ended = true
is_over _ = false

-- the wait for the quiet points of tasks, or for the acknowledgements of CPUs, in a phase, after this many requests: its own is the next one,
-- or, once it is stored, the last
abbrev pub wait_in : Shape → Bool → ℕ → WaitPhase → Wait
wait_in shape quiet requests p = record { shape = shape; quiet = quiet; request = if is_asking p then suc requests else requests; phase = p }

-- a change of the list is made
abbrev pub is_linked_up : LinkPhase → Bool
is_linked_up (LinkingUser u first) = false
is_linked_up (Heading u) = false
is_linked_up (Unlinking before after) = false
is_linked_up LinkEnded = true
