-- Each row of the steps of control and of a CPU is passed by a sample, with what decides where the actor goes on: where it stands before its
-- turn, and where after it. docs/PROOFS.md has the rows as a table.
use Rattle.std.proofs.Common.{◌≡◌, ℕ, suc, List, [], ◌∷◌, length, map, take, slice_get, Option, Some, refl}
use Rattle.ft_base.specs.declared.context.Ctx.TheVariants.{Normal, Irq}
use Rattle.ft_base.specs.declared.item.Reason.TheVariants.{Pid as ByPid, Recursion, Depth as ByDepth}
use Rattle.ft_base.specs.declared.turn.Actor.{Actor}
use Rattle.ft_base.specs.declared.turn.Actor.TheVariants.{Control as ByControl, Cpu as ByCpu}
use Rattle.ft_base.specs.Job.{Job}
use Rattle.ft_base.specs.Schedule.{actors_of, repeated}
use Rattle.ft_base.specs.Desk.{desk}
use Rattle.word_map.specs.Words.{Head, Tail, Next}
use Rattle.word_map.specs.Instructions.{tail_of}
use Rattle.word_map.specs.Ops.{WordOp, Store}
use Rattle.word_machine.specs.Commands.{insn, moves}
use Rattle.word_machine.specs.Control.{Position, Line, Take, Copy, Select, Push, Relink, StorePids, StoreDepth, Patch, Ask, Await, Cpus, Tasks, Release, Close, control_next, control_got}
use Rattle.word_machine.specs.Task.{Moment, Polling, First, Fetch, GotHead, GotBreak, InTramp, OwnSel, AtFirst, TestSel, TestFilter, TestNotrace, AtPids, AtDepth, Refusing, Calling, Missing, Acting, Ending, AtLink, Closing, Leaving, AtExit, Exiting, EndingExit, Returning}
use Rattle.word_machine.specs.Cpu.{Phase, Going, StoringAck, StoringQuiet, Over, cpu_next, cpu_got}
use Rattle.word_machine.specs.Machine.{World, start, step, run}
use Rattle.word_machine.proofs.RowSamples.{breakpoint_is_read, cleared_set, disabled_fprobe, enabled_again, excluded_pids, fetch_held_between_loads, fprobe_misses, full_shadow_stack, further_words, hash_changed_in_walk_new, hash_changed_in_walk_old, invalid_commands, list_then_own, max_depth, no_match, no_trampolines, pids, preempted_in_callback, profile_user, recursion, recursion_in_irq, registered_again, repeated_commands, silent_acts, task_without_acts, two_ipmodify_users, unregistered_in_call}
use Rattle.word_machine.proofs.RunSamples.{link_cleared, no_next, no_quiet_for_a_walker, no_state_at_unregistration, present_copy_written, switched_in_a_fetch}
use Rattle.word_samples.proofs.RandomSamples1.{job_3, job_82, job_93}
use Rattle.word_samples.proofs.RandomSamples2.{job_3010, job_3053}

-- where an actor stands: control, with its lines left, and in a batch with how many moves come after this one; or a CPU, with its present
-- task, and how many acts that has finished
data Stand : Type 0 where
  OfControl : (lines : ℕ) → Position → Stand
  AtPatch : (lines : ℕ) → WordOp → (moves : ℕ) → Stand
  AtAsk : (lines moves : ℕ) → Stand
  AtWait : (lines moves cpu : ℕ) → Stand
  OfCpu : Phase → (task acts : ℕ) → Moment → Stand

abbrev stand_at : ℕ → Position → Stand
stand_at lines (Patch w x rest) = AtPatch lines (Store w x) (length rest)
stand_at lines (Ask (Cpus rest)) = AtAsk lines (length rest)
stand_at lines (Await (Cpus rest) c) = AtWait lines (length rest) c
stand_at lines p = OfControl lines p

abbrev stand : World → Actor → Stand
stand s ByControl = stand_at (length s.control.remaining) s.control.position
stand s (ByCpu c) = let me = s.cpus c.0 in let x = me.tasks me.present in OfCpu me.phase me.present x.gone x.moment

-- a turn of the replay of a job, counted from 0: whose it is, and what it takes from where to where
record Turn : Type 0 where
  job : Job
  turn : ℕ
  actor : Actor
  from : Stand
  to : Stand

abbrev row : Job → ℕ → Actor → Stand → Stand → Turn
row job turn actor from to = record { job = job; turn = turn; actor = actor; from = from; to = to }

abbrev at_cpu : ℕ → Actor
at_cpu c = ByCpu (record { 0 = c })

-- the state of a replay after this many turns
abbrev turned : Job → ℕ → World
turned job n = run job (take n (actors_of job)) (start job)

-- what the row says of its turn, and what is found there
abbrev said : Turn → Option Actor × Stand × Stand
said r = (Some r.actor, r.from, r.to)

abbrev found : Turn → Option Actor × Stand × Stand
found r = (slice_get (actors_of r.job) r.turn, stand (turned r.job r.turn) r.actor, stand (turned r.job (suc r.turn)) r.actor)

abbrev control_rows : List Turn
control_rows =
    row silent_acts 27 ByControl (OfControl 2 Line) (OfControl 2 Line) ∷  -- a line that waits: not met
    row unregistered_in_call 48 ByControl (OfControl 2 Line) (OfControl 1 Line) ∷  -- a line that waits: met
    row breakpoint_is_read 0 ByControl (OfControl 1 Line) (OfControl 1 Take) ∷  -- a Begin: adds, with a trampoline
    row no_trampolines 0 ByControl (OfControl 1 Line) (OfControl 1 (Copy 0 0)) ∷  -- a Begin: adds, without
    row repeated_commands 17 ByControl (OfControl 2 Line) (OfControl 2 Select) ∷  -- a Begin: removes
    row cleared_set 48 ByControl (OfControl 5 Line) (OfControl 5 (Copy 0 0)) ∷  -- a Begin: edits
    row enabled_again 90 ByControl (OfControl 5 Line) (OfControl 5 Select) ∷  -- a Begin: enables
    row enabled_again 44 ByControl (OfControl 7 Line) (OfControl 7 Select) ∷  -- a Begin: disables
    row silent_acts 0 ByControl (OfControl 3 Line) (OfControl 3 StorePids) ∷  -- a Begin: lists
    row silent_acts 54 ByControl (OfControl 1 Line) (OfControl 1 StoreDepth) ∷  -- a Begin: levels
    row further_words 0 ByControl (OfControl 7 Line) (OfControl 7 Close) ∷  -- a Begin: nothing
    row breakpoint_is_read 1 ByControl (OfControl 1 Take) (OfControl 1 (Copy 0 0)) ∷  -- Take
    row breakpoint_is_read 2 ByControl (OfControl 1 (Copy 0 0)) (OfControl 1 (Copy 1 0)) ∷  -- Copy: a filter word
    row breakpoint_is_read 3 ByControl (OfControl 1 (Copy 1 0)) (OfControl 1 Select) ∷  -- Copy: a notrace word
    row further_words 22 ByControl (OfControl 3 (Copy 0 1)) (OfControl 3 (Copy 1 0)) ∷  -- Copy: a second filter word
    row further_words 26 ByControl (OfControl 3 (Copy 1 1)) (OfControl 3 Select) ∷  -- Copy: a second notrace word
    row breakpoint_is_read 4 ByControl (OfControl 1 Select) (OfControl 1 Push) ∷  -- Select: adds
    row repeated_commands 18 ByControl (OfControl 2 Select) (OfControl 2 Relink) ∷  -- Select: removes
    row cleared_set 54 ByControl (OfControl 5 Select) (AtPatch 5 (Store (Next 1) 2) 6) ∷  -- Select: edits
    row present_copy_written 90 ByControl (OfControl 1 Select) (OfControl 1 (Ask Tasks)) ∷  -- Select: edits, and no site changes
    row enabled_again 92 ByControl (OfControl 5 Select) (OfControl 5 Close) ∷  -- Select: enables
    row enabled_again 46 ByControl (OfControl 7 Select) (OfControl 7 (Ask Tasks)) ∷  -- Select: disables
    row breakpoint_is_read 5 ByControl (OfControl 1 Push) (OfControl 1 Relink) ∷  -- Push: no other user
    row invalid_commands 30 ByControl (OfControl 2 Push) (OfControl 2 Relink) ∷  -- Push: others
    row breakpoint_is_read 6 ByControl (OfControl 1 Relink) (AtPatch 1 (Store (Next 0) 2) 6) ∷  -- Relink: adds
    row no_quiet_for_a_walker 64 ByControl (OfControl 2 Relink) (OfControl 2 Close) ∷  -- Relink: adds, and no site changes
    row repeated_commands 19 ByControl (OfControl 2 Relink) (AtPatch 2 (Store (Next 0) 0) 6) ∷  -- Relink: removes the first
    row list_then_own 140 ByControl (OfControl 1 Relink) (AtPatch 1 (Store (Next 0) 3) 6) ∷  -- Relink: removes another
    row link_cleared 81 ByControl (OfControl 1 Relink) (OfControl 1 (Ask Tasks)) ∷  -- Relink: removes, and no site changes
    row silent_acts 3 ByControl (OfControl 3 StorePids) (OfControl 3 (Ask Tasks)) ∷  -- StorePids: pid
    row excluded_pids 50 ByControl (OfControl 3 StorePids) (OfControl 3 (Ask Tasks)) ∷  -- StorePids: nopid
    row silent_acts 57 ByControl (OfControl 1 StoreDepth) (OfControl 1 (Ask Tasks)) ∷  -- StoreDepth
    row repeated_commands 20 ByControl (AtPatch 2 (Store (Next 0) 0) 6) (AtPatch 2 (Store (Head 0) 204) 5) ∷  -- Patch: a next, the nop
    row no_trampolines 12 ByControl (AtPatch 1 (Store (Next 0) 1) 6) (AtPatch 1 (Store (Head 0) 204) 5) ∷  -- Patch: a next, the list caller
    row breakpoint_is_read 7 ByControl (AtPatch 1 (Store (Next 0) 2) 6) (AtPatch 1 (Store (Head 0) 204) 5) ∷  -- Patch: a next, a trampoline
    row breakpoint_is_read 8 ByControl (AtPatch 1 (Store (Head 0) 204) 5) (AtAsk 1 4) ∷  -- Patch: a breakpoint
    row repeated_commands 10 ByControl (AtPatch 4 (Store (Tail 0) (tail_of 0 2)) 3) (AtAsk 4 2) ∷  -- Patch: a tail
    row job_3 69 ByControl (AtPatch 7 (Store (Tail 0) (tail_of 0 2)) 5) (AtPatch 7 (Store (Tail 1) (tail_of 1 2)) 4) ∷  -- Patch: a tail, before another site's
    row repeated_commands 12 ByControl (AtPatch 4 (Store (Head 0) 232) 1) (AtAsk 4 0) ∷  -- Patch: a head
    row preempted_in_callback 9 ByControl (AtAsk 2 4) (AtWait 2 4 0) ∷  -- Ask Cpus: the first
    row repeated_commands 11 ByControl (AtAsk 4 2) (AtPatch 4 (Store (Head 0) 232) 1) ∷  -- Ask Cpus: the second
    row repeated_commands 13 ByControl (AtAsk 4 0) (OfControl 4 Close) ∷  -- Ask Cpus: the third
    row hash_changed_in_walk_old 10 ByControl (AtWait 4 4 0) (AtWait 4 4 0) ∷  -- Await Cpus: the first, not met
    row preempted_in_callback 15 ByControl (AtWait 2 4 0) (AtPatch 2 (Store (Tail 0) (tail_of 0 2)) 3) ∷  -- Await Cpus: the first, met
    row job_3 63 ByControl (AtWait 7 6 0) (AtWait 7 6 1) ∷  -- Await Cpus: the first, met, before another CPU's
    row no_trampolines 26 ByControl (AtWait 1 2 0) (AtWait 1 2 0) ∷  -- Await Cpus: the second, not met
    row preempted_in_callback 23 ByControl (AtWait 2 2 0) (AtPatch 2 (Store (Head 0) 232) 1) ∷  -- Await Cpus: the second, met
    row no_trampolines 34 ByControl (AtWait 1 0 0) (AtWait 1 0 0) ∷  -- Await Cpus: the third, not met
    row preempted_in_callback 31 ByControl (AtWait 2 0 0) (OfControl 2 Close) ∷  -- Await Cpus: the third, met
    row silent_acts 6 ByControl (OfControl 3 (Ask Tasks)) (OfControl 3 (Await Tasks 0)) ∷  -- Ask Tasks
    row silent_acts 9 ByControl (OfControl 3 (Await Tasks 0)) (OfControl 3 (Await Tasks 0)) ∷  -- Await Tasks: not met
    row silent_acts 18 ByControl (OfControl 3 (Await Tasks 0)) (OfControl 3 (Await Tasks 1)) ∷  -- Await Tasks: met
    row repeated_commands 28 ByControl (OfControl 2 Release) (OfControl 2 Close) ∷  -- Release
    row further_words 2 ByControl (OfControl 7 Close) (OfControl 6 Line) ∷  -- Close: ok
    row repeated_commands 16 ByControl (OfControl 3 Close) (OfControl 2 Line) ∷  -- Close: already
    row invalid_commands 5 ByControl (OfControl 6 Close) (OfControl 5 Line) ∷  -- Close: not there
    row invalid_commands 1 ByControl (OfControl 8 Close) (OfControl 7 Line) ∷  -- Close: invalid
    row no_match 6 ByControl (OfControl 3 Close) (OfControl 2 Line) ∷  -- Close: no match
    row two_ipmodify_users 70 ByControl (OfControl 3 Close) (OfControl 2 Line) ∷  -- Close: busy
    row task_without_acts 0 ByControl (OfControl 0 Line) (OfControl 0 Line) ∷  -- at its end
    []

control_passes : map found control_rows ≡ map said control_rows
unfolding actors_of repeated start step run control_next control_got cpu_next cpu_got insn moves desk
control_passes = refl

abbrev cpu_rows : List Turn
cpu_rows =
    row fetch_held_between_loads 0 (at_cpu 0) (OfCpu Going 0 0 Polling) (OfCpu Going 0 0 First) ∷  -- the load of a poll: before an act
    row task_without_acts 2 (at_cpu 1) (OfCpu Going 3 0 Polling) (OfCpu (StoringAck 0) 3 0 Polling) ∷  -- the load of a poll: after the last act
    row preempted_in_callback 11 (at_cpu 0) (OfCpu (StoringAck 1) 0 0 Polling) (OfCpu (StoringQuiet 1 0) 0 0 Polling) ∷  -- StoringAck: a request
    row task_without_acts 5 (at_cpu 1) (OfCpu (StoringAck 0) 3 0 Polling) (OfCpu (StoringQuiet 0 2) 3 0 Polling) ∷  -- StoringAck: all ones
    row silent_acts 7 (at_cpu 0) (OfCpu (StoringQuiet 0 0) 0 1 Polling) (OfCpu Going 0 2 Polling) ∷  -- StoringQuiet: of the present task
    row preempted_in_callback 13 (at_cpu 0) (OfCpu (StoringQuiet 1 1) 0 0 Polling) (OfCpu Going 0 0 First) ∷  -- StoringQuiet: of another
    row task_without_acts 4 (at_cpu 0) (OfCpu (StoringQuiet 0 0) 1 0 Polling) (OfCpu Going 1 0 First) ∷  -- StoringQuiet: of one that has ended
    row silent_acts 1 (at_cpu 0) (OfCpu Going 0 0 Polling) (OfCpu Going 0 1 Polling) ∷  -- the end of a poll: a context is raised
    row silent_acts 7 (at_cpu 0) (OfCpu (StoringQuiet 0 0) 0 1 Polling) (OfCpu Going 0 2 Polling) ∷  -- the end of a poll: a context is lowered
    row fetch_held_between_loads 0 (at_cpu 0) (OfCpu Going 0 0 Polling) (OfCpu Going 0 0 First) ∷  -- the end of a poll: another act begins
    row task_without_acts 8 (at_cpu 1) (OfCpu (StoringQuiet 0 2) 3 0 Polling) (OfCpu Over 3 0 Polling) ∷  -- the end of a poll: the CPU is at its end
    row preempted_in_callback 84 (at_cpu 0) (OfCpu (StoringQuiet 7 0) 0 4 Polling) (OfCpu Going 1 3 (Ending 0)) ∷  -- a switch: the task has ended
    row pids 3 (at_cpu 0) (OfCpu Going 0 0 First) (OfCpu Going 1 0 Polling) ∷  -- a switch: its wait is not met
    row switched_in_a_fetch 18 (at_cpu 0) (OfCpu (StoringQuiet 1 1) 1 0 Polling) (OfCpu Going 0 0 Closing) ∷  -- a switch: the quantum is used up, between acts
    row preempted_in_callback 46 (at_cpu 0) (OfCpu Going 1 3 (Calling 0 1)) (OfCpu Going 0 0 Polling) ∷  -- a switch: within a call
    row fetch_held_between_loads 1 (at_cpu 0) (OfCpu Going 0 0 First) (OfCpu Going 0 0 Fetch) ∷  -- First: a call
    row breakpoint_is_read 20 (at_cpu 0) (OfCpu Going 0 1 First) (OfCpu Going 0 1 Returning) ∷  -- First: a return
    row further_words 3 (at_cpu 0) (OfCpu Going 0 0 First) (OfCpu Going 0 0 Polling) ∷  -- First: a wait, not met
    row silent_acts 29 (at_cpu 1) (OfCpu Going 1 0 First) (OfCpu Going 1 1 Polling) ∷  -- First: met
    row fetch_held_between_loads 2 (at_cpu 0) (OfCpu Going 0 0 Fetch) (OfCpu Going 0 0 (GotHead 15)) ∷  -- Fetch: a nop
    row preempted_in_callback 42 (at_cpu 0) (OfCpu Going 1 3 Fetch) (OfCpu Going 1 3 (GotHead 232)) ∷  -- Fetch: a call
    row breakpoint_is_read 11 (at_cpu 0) (OfCpu Going 0 0 Fetch) (OfCpu Going 0 0 GotBreak) ∷  -- Fetch: the breakpoint
    row task_without_acts 13 (at_cpu 0) (OfCpu Going 1 0 (GotHead 15)) (OfCpu Going 1 0 Closing) ∷  -- GotHead: the nop
    row no_trampolines 49 (at_cpu 0) (OfCpu Going 0 1 (GotHead 232)) (OfCpu Going 0 1 AtFirst) ∷  -- GotHead: the list caller
    row preempted_in_callback 43 (at_cpu 0) (OfCpu Going 1 3 (GotHead 232)) (OfCpu Going 1 3 (InTramp 0)) ∷  -- GotHead: a trampoline
    row job_3010 165 (at_cpu 0) (OfCpu Going 1 3 GotBreak) (OfCpu Going 1 3 Closing) ∷  -- GotBreak: the nop
    row no_next 57 (at_cpu 0) (OfCpu Going 0 1 GotBreak) (OfCpu Going 0 1 AtFirst) ∷  -- GotBreak: the list caller
    row breakpoint_is_read 12 (at_cpu 0) (OfCpu Going 0 0 GotBreak) (OfCpu Going 0 0 (InTramp 0)) ∷  -- GotBreak: a trampoline
    row breakpoint_is_read 13 (at_cpu 0) (OfCpu Going 0 0 (InTramp 0)) (OfCpu Going 0 0 (OwnSel 0 1)) ∷  -- InTramp
    row breakpoint_is_read 14 (at_cpu 0) (OfCpu Going 0 0 (OwnSel 0 1)) (OfCpu Going 0 0 (Calling 0 1)) ∷  -- OwnSel: stands
    row unregistered_in_call 57 (at_cpu 0) (OfCpu Going 0 1 (OwnSel 0 1)) (OfCpu Going 0 1 Closing) ∷  -- OwnSel: doesn't
    row no_trampolines 51 (at_cpu 0) (OfCpu Going 0 1 AtFirst) (OfCpu Going 0 1 (TestSel 0)) ∷  -- AtFirst: a user
    row job_93 122 (at_cpu 0) (OfCpu Going 1 4 AtFirst) (OfCpu Going 1 4 Closing) ∷  -- AtFirst: none
    row link_cleared 82 (at_cpu 0) (OfCpu Going 0 1 (TestSel 1)) (OfCpu Going 0 1 (AtLink 1)) ∷  -- TestSel: off
    row no_trampolines 53 (at_cpu 0) (OfCpu Going 0 1 (TestSel 0)) (OfCpu Going 0 1 (TestNotrace 0 1 1)) ∷  -- TestSel: its filter is empty
    row further_words 185 (at_cpu 0) (OfCpu Going 0 1 (TestSel 2)) (OfCpu Going 0 1 (TestFilter 2 1 1)) ∷  -- TestSel: it has a filter
    row present_copy_written 91 (at_cpu 0) (OfCpu Going 0 1 (TestFilter 0 1 1)) (OfCpu Going 0 1 (TestNotrace 0 1 1)) ∷  -- TestFilter: in
    row job_82 182 (at_cpu 1) (OfCpu Going 2 1 (TestFilter 0 0 1)) (OfCpu Going 2 1 (AtLink 0)) ∷  -- TestFilter: not in
    row further_words 193 (at_cpu 0) (OfCpu Going 0 1 (TestFilter 1 1 1)) (OfCpu Going 0 1 (TestNotrace 1 1 1)) ∷  -- TestFilter: in, in the second word
    row further_words 187 (at_cpu 0) (OfCpu Going 0 1 (TestFilter 2 1 1)) (OfCpu Going 0 1 (AtLink 2)) ∷  -- TestFilter: not in
    row hash_changed_in_walk_new 534 (at_cpu 0) (OfCpu Going 0 1 (TestNotrace 0 0 1)) (OfCpu Going 0 1 (AtLink 0)) ∷  -- TestNotrace: in
    row no_trampolines 55 (at_cpu 0) (OfCpu Going 0 1 (TestNotrace 0 1 1)) (OfCpu Going 0 1 (Calling 0 1)) ∷  -- TestNotrace: not in
    row further_words 253 (at_cpu 0) (OfCpu Going 0 3 (TestNotrace 1 1 1)) (OfCpu Going 0 3 (AtLink 1)) ∷  -- TestNotrace: in, in the second word
    row further_words 195 (at_cpu 0) (OfCpu Going 0 1 (TestNotrace 1 1 1)) (OfCpu Going 0 1 (Calling 1 1)) ∷  -- TestNotrace: not in
    row pids 83 (at_cpu 0) (OfCpu Going 0 1 (AtPids 0 1)) (OfCpu Going 0 1 (Calling 0 1)) ∷  -- AtPids: traced
    row excluded_pids 83 (at_cpu 0) (OfCpu Going 0 1 (AtPids 0 1)) (OfCpu Going 0 1 (Refusing 0 1 ByPid)) ∷  -- AtPids: not traced
    row registered_again 59 (at_cpu 0) (OfCpu Going 0 1 (AtDepth 0 1)) (OfCpu Going 0 1 (Calling 0 1)) ∷  -- AtDepth: passes
    row full_shadow_stack 119 (at_cpu 0) (OfCpu Going 0 3 (AtDepth 0 1)) (OfCpu Going 0 3 (Refusing 0 1 ByDepth)) ∷  -- AtDepth: no frame
    row max_depth 135 (at_cpu 0) (OfCpu Going 0 3 (AtDepth 0 1)) (OfCpu Going 0 3 (Refusing 0 1 ByDepth)) ∷  -- AtDepth: too deep
    row excluded_pids 85 (at_cpu 0) (OfCpu Going 0 1 (Refusing 0 1 ByPid)) (OfCpu Going 0 1 Closing) ∷  -- Refusing: pid
    row recursion 83 (at_cpu 0) (OfCpu Going 0 1 (Refusing 0 1 Recursion)) (OfCpu Going 0 1 Closing) ∷  -- Refusing: recursion
    row full_shadow_stack 121 (at_cpu 0) (OfCpu Going 0 3 (Refusing 0 1 ByDepth)) (OfCpu Going 0 3 Closing) ∷  -- Refusing: depth
    row breakpoint_is_read 15 (at_cpu 0) (OfCpu Going 0 0 (Calling 0 1)) (OfCpu Going 0 0 (Ending 0)) ∷  -- Calling: function
    row registered_again 61 (at_cpu 0) (OfCpu Going 0 1 (Calling 0 1)) (OfCpu Going 0 1 (Ending 0)) ∷  -- Calling: graph
    row profile_user 73 (at_cpu 0) (OfCpu Going 0 1 (Calling 0 1)) (OfCpu Going 0 1 (Ending 0)) ∷  -- Calling: profile
    row disabled_fprobe 59 (at_cpu 0) (OfCpu Going 0 1 (Calling 0 1)) (OfCpu Going 0 1 (Ending 0)) ∷  -- Calling: fprobe
    row fprobe_misses 91 (at_cpu 0) (OfCpu Going 0 2 (Calling 0 1)) (OfCpu Going 0 2 (Missing 0)) ∷  -- Calling: an exit finds no frame
    row fprobe_misses 93 (at_cpu 0) (OfCpu Going 0 2 (Missing 0)) (OfCpu Going 0 2 (Ending 0)) ∷  -- Missing
    row recursion 73 (at_cpu 0) (OfCpu Going 0 1 (Acting 0 (record { ctx = Normal; func = 1 }))) (OfCpu Going 0 1 Fetch) ∷  -- Acting: in the same context
    row recursion_in_irq 73 (at_cpu 0) (OfCpu Going 0 1 (Acting 0 (record { ctx = Irq; func = 1 }))) (OfCpu Going 0 1 Fetch) ∷  -- Acting: in an interrupt
    row breakpoint_is_read 16 (at_cpu 0) (OfCpu Going 0 0 (Ending 0)) (OfCpu Going 0 0 Closing) ∷  -- Ending
    row list_then_own 109 (at_cpu 0) (OfCpu Going 0 1 (AtLink 1)) (OfCpu Going 0 1 (TestSel 0)) ∷  -- AtLink: a user
    row no_trampolines 61 (at_cpu 0) (OfCpu Going 0 1 (AtLink 0)) (OfCpu Going 0 1 Closing) ∷  -- AtLink: the end
    row task_without_acts 16 (at_cpu 0) (OfCpu Going 1 0 Closing) (OfCpu Going 1 1 Polling) ∷  -- Closing: a scripted call
    row recursion 85 (at_cpu 0) (OfCpu Going 0 1 Closing) (OfCpu Going 0 1 Leaving) ∷  -- Closing: an act's call
    row recursion 87 (at_cpu 0) (OfCpu Going 0 1 Leaving) (OfCpu Going 0 1 Returning) ∷  -- Leaving
    row profile_user 107 (at_cpu 0) (OfCpu Going 0 3 (AtExit (record { user = 0; reg = 1; entry = 7 }) [])) (OfCpu Going 0 3 (Exiting (record { user = 0; reg = 1; entry = 7 }) [])) ∷  -- AtExit: stands
    row no_state_at_unregistration 127 (at_cpu 0) (OfCpu Going 0 3 (AtExit (record { user = 0; reg = 1; entry = 3 }) [])) (OfCpu Going 0 3 Returning) ∷  -- AtExit: unregistered
    row disabled_fprobe 93 (at_cpu 0) (OfCpu Going 0 3 (AtExit (record { user = 0; reg = 1; entry = 3 }) [])) (OfCpu Going 0 3 Returning) ∷  -- AtExit: disabled
    row registered_again 171 (at_cpu 0) (OfCpu Going 0 3 (AtExit (record { user = 0; reg = 1; entry = 3 }) [])) (OfCpu Going 0 3 Returning) ∷  -- AtExit: registered anew
    row profile_user 109 (at_cpu 0) (OfCpu Going 0 3 (Exiting (record { user = 0; reg = 1; entry = 7 }) [])) (OfCpu Going 0 3 (EndingExit (record { user = 0; reg = 1; entry = 7 }) [])) ∷  -- Exiting
    row profile_user 111 (at_cpu 0) (OfCpu Going 0 3 (EndingExit (record { user = 0; reg = 1; entry = 7 }) [])) (OfCpu Going 0 3 Returning) ∷  -- EndingExit: the last
    row job_3053 406 (at_cpu 0) (OfCpu Going 0 5 (EndingExit (record { user = 1; reg = 1; entry = 19 }) ((record { user = 0; reg = 1; entry = 32 }) ∷ []))) (OfCpu Going 2 13 Returning) ∷  -- EndingExit: another follows
    row breakpoint_is_read 21 (at_cpu 0) (OfCpu Going 0 1 Returning) (OfCpu Going 0 2 Polling) ∷  -- Returning: a scripted call
    row recursion 89 (at_cpu 0) (OfCpu Going 0 1 Returning) (OfCpu Going 0 1 (Ending 0)) ∷  -- Returning: an act's call
    row task_without_acts 11 (at_cpu 1) (OfCpu Over 3 0 Polling) (OfCpu Over 3 0 Polling) ∷  -- at its end
    []

cpu_passes : map found cpu_rows ≡ map said cpu_rows
unfolding actors_of repeated start step run control_next control_got cpu_next cpu_got insn moves desk
cpu_passes = refl
