-- Samples of what a call in its dispatch finds around it, guards and frames, and of tasks and their contexts.
use Rattle.std.proofs.Common.{◌≡◌, ℕ, true, false, [], ◌∷◌, refl}
use Rattle.ft_base.specs.declared.context.Ctx.TheVariants.{Normal, Softirq, Irq}
use Rattle.ft_base.specs.declared.task.TaskAct.TheVariants.{Call}
use Rattle.ft_base.specs.Same.{context}
use Rattle.ft_base.specs.Tasks.{has_acts, tasks_of}
use Rattle.ft_hist.specs.Dispatch.{Around, call_of, is_full, takes_frame, misses_frame}
use Rattle.ft_hist.proofs.SmallJobs.{call_in, recursion, two_levels, full_shadow_stack, fprobe_misses, pids}

-- ## guards

-- in version 1 a guard has one level, in version 2 two; those of other contexts aren't asked
one_level_is_held : is_full recursion (Normal ∷ []) Normal ≡ true
one_level_is_held = refl

one_of_two_is_free : is_full two_levels (Normal ∷ []) Normal ≡ false
one_of_two_is_free = refl

both_are_held : is_full two_levels (Normal ∷ Irq ∷ Normal ∷ []) Normal ≡ true
both_are_held = refl

another_context : is_full recursion (Irq ∷ []) Normal ≡ false
another_context = refl

-- ## frames

-- the other calls of the task hold this many frames
abbrev at_level : ℕ → Around
at_level n = record { task = record { 0 = 0 }; guards = []; level = n }

-- an fprobe with an exit takes the only frame, and misses it if it is taken
frame_is_free : (takes_frame fprobe_misses (at_level 0) 0 ≡ true) × (misses_frame fprobe_misses (at_level 0) 0 ≡ false)
frame_is_free = (refl, refl)

frame_is_taken : (takes_frame fprobe_misses (at_level 1) 0 ≡ false) × (misses_frame fprobe_misses (at_level 1) 0 ≡ true)
frame_is_taken = (refl, refl)

-- a graph user has room for one, or is refused, and a user without an exit neither takes nor misses one
graph_user_takes : takes_frame full_shadow_stack (at_level 1) 0 ≡ true
graph_user_takes = refl

function_user_takes_none : (takes_frame pids (at_level 0) 0 ≡ false) × (misses_frame pids (at_level 50) 0 ≡ false)
function_user_takes_none = (refl, refl)

-- ## calls and tasks

call_by_number : call_of (record { 0 = 1 }) 2 ≡ call_in 1 2
call_by_number = refl

-- both tasks are on the first CPU
tasks_of_the_first : tasks_of pids 0 ≡ 0 ∷ 1 ∷ []
tasks_of_the_first = refl

tasks_of_another : tasks_of pids 1 ≡ []
tasks_of_another = refl

-- the latest interrupt is the context that a task is in
latest_context : context (Irq ∷ Softirq ∷ []) ≡ Irq
latest_context = refl

acts_left : (has_acts [] ≡ false) × (has_acts (Call (record { 0 = 0 }) ∷ []) ≡ true)
acts_left = (refl, refl)
