-- Each step of an actor keeps the rule, and so it holds after every list of actors and of a replay.
use Rattle.std.proofs.Common.{cond, ◌≡◌, Bool, true, false, List, [], ◌∷◌, length, Some, None, refl, arith}
use Rattle.std.specs.Prelude.{Option, nat_lt}
use Rattle.std.proofs.lemmas.Bool.Decides.{nat_tests}
use Rattle.ft_base.specs.declared.turn.Actor.{Actor}
use Rattle.ft_base.specs.declared.turn.Actor.TheVariants.{Control as ByControl, Cpu as ByCpu}
use Rattle.ft_base.specs.Job.{Job}
use Rattle.ft_base.specs.Schedule.{actors_of}
use Rattle.word_map.specs.Ops.{WordOp}
use Rattle.word_machine.specs.Control.{control_next}
use Rattle.word_machine.specs.Cpu.{cpu_next}
use Rattle.word_machine.specs.Machine.{World, control_moved, cpu_moved, step, run, played, play, start, all_end}
use Rattle.word_machine.specs.Rule.{MachineRule, IsWordJob}
use Rattle.word_machine_laws.proofs.Start.{opens}
use Rattle.word_machine_laws.proofs.PollRows.{cpu_keeps}
use Rattle.word_machine_laws.proofs.ControlRows.{control_keeps}

module _ (job : Job) (ok : IsWordJob job) where
  -- a step of any actor
  pub step_keeps : (a : Actor) (s : World) → MachineRule job s → MachineRule job (step job a s)
  unfolding step
  step_keeps ByControl s k = by_next (control_next job s.control) refl
    where
      by_next : (o : Option WordOp) → control_next job s.control ≡ o → MachineRule job (control_moved job s o)
      by_next None e = k
      by_next (Some op) e = control_keeps job ok s op k e
  step_keeps (ByCpu c) s k = by_there (nat_lt c.0 (length job.quanta)) refl (cpu_next job (s.cpus c.0)) refl
    where
      by_there : (b : Bool) → nat_lt c.0 (length job.quanta) ≡ b → (o : Option WordOp) → cpu_next job (s.cpus c.0) ≡ o
          → MachineRule job (cond b (cpu_moved job s c.0 o) s)
      by_there false t o e = k
      by_there true t None e = k
      by_there true t (Some op) e = cpu_keeps job ok s c.0 op (grind (arith, nat_tests)) k e

  run_keeps : (as' : List Actor) (s : World) → MachineRule job s → MachineRule job (run job as' s)
  unfolding run
  run_keeps [] s k = k
  run_keeps (a ∷ rest) s k = run_keeps rest (step job a s) (step_keeps a s k)

  -- after any list of actors
  pub run_kept : (as' : List Actor) → MachineRule job (run job as' (start job))
  run_kept as' = run_keeps as' (start job) (opens job ok)

  played_keeps : (as' : List Actor) (s : World) → MachineRule job s → MachineRule job (played job as' s)
  unfolding played
  played_keeps [] s k = k
  played_keeps (a ∷ rest) s k = by (all_end job s) (played_keeps rest (step job a s) (step_keeps a s k))
    where
      by : (b : Bool) → MachineRule job (played job rest (step job a s)) → MachineRule job (cond b s (played job rest (step job a s)))
      by true go = k
      by false go = go

  -- at the end of the job's replay
  pub play_kept : MachineRule job (play job)
  unfolding play
  play_kept = played_keeps (actors_of job) (start job) (opens job ok)
