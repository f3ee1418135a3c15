-- A CPU's next operation is the machine's, and its word is there.
use Rattle.std.proofs.Common.{cond, ◌≡◌, ℕ, zero, suc, ◌<◌, Bool, true, false, not, ◌&&◌, List, [], ◌∷◌, length, slice_get, Option, Some, None, IsSomeAnd, refl, sym, ap, ap₂, ◌∙◌, subst}
use Rattle.std.proofs.lemmas.Bool.{lt-ltb}
use Rattle.std.proofs.lemmas.Option.{slice_get_within}
use Rattle.ft_base.specs.Job.{Job}
use Rattle.ft_base.proofs.Modifiers.{named-at}
use Rattle.ft_base.proofs.Small.{false_true, or-true}
use Rattle.ft_hist.specs.Frames.{FrameUser}
use Rattle.grace_core.specs.Views.{acknowledged, told_word}
use Rattle.return_stack.specs.Calls.{top_users}
use Rattle.word_map.specs.Words.{Ack, Quiet, Want}
use Rattle.word_map.specs.Ops.{WordOp, Load as LoadOp, Store}
use Rattle.word_machine.specs.Task.{Moment as MachineMoment, TaskState, is_quiet as machine_quiet, quiet_word, task_op}
use Rattle.word_machine.specs.Task as machine
use Rattle.word_machine.specs.Cpu.{Cpu, StoringAck, any_has_more, cpu_next, going_op, is_looked_before, looks, phase_op as machine_op, present_op, takes_looks}
use Rattle.word_machine_laws.proofs.Finished.{present-is}
use Rattle.word_machine_laws.proofs.TaskSteps.{is_polling as polls}
use Rattle.task_core.specs.declared.moment.Moment.{Moment}
use Rattle.task_core.specs.declared.moment.Moment.TheVariants.{Polling, First, Load, Mark}
use Rattle.task_core.specs.declared.open_call.OpenCall.{OpenCall}
use Rattle.cpu_core.specs.declared.parts.Parts.{Parts}
use Rattle.cpu_core.specs.declared.parts.Phase.{Phase}
use Rattle.cpu_core.specs.declared.parts.Phase.TheVariants as code
use Rattle.task_core.specs.declared.task.Task.{Task}
use Rattle.cpu_core.specs.CpuNeeds.{HasNext, IsQuietThere, NextAt}
use Rattle.cpu_core.specs.CpuOps.{cpu_op, is_looking, is_open, is_running, op_by, phase_op, present_task, runs, told_op}
use Rattle.cpu_core.specs.Cpus.{IsFor, IsIn, cpu_of, number_or, phase_in, tasks_by}
use Rattle.task_core.specs.Contexts.{is_open_to_requests, open_at}
use Rattle.task_core.specs.TaskNeeds.{IsTaskThere}
use Rattle.task_core.specs.Setups.{PlainSetup}
use Rattle.task_core.specs.Starts.{is_left}
use Rattle.task_core.specs.States.{is_polling, moment_at, moment_of, state_of, users_in}
use Rattle.task_core.specs.TaskOps.{op_of, top}
use Rattle.task_core.specs.StackInvariant.{IsTaskOf}
use Rattle.cpu_core.specs.Turns.{any_left}
use Rattle.cpu_core.proofs.Changed.{more-left}
use Rattle.cpu_core.proofs.LoadWords.{task-there}
use Rattle.cpu_core.proofs.Lookups.{state-at, view-is}
use Rattle.cpu_core.proofs.Untold.{untold-there}
use Rattle.task_core.proofs.RowMoments.{load-loud, mark-loud}
use Rattle.task_core.proofs.RowContexts.{open-is}
use Rattle.task_core.proofs.RowOps.{operation-is}
use Rattle.task_core.proofs.ActsLeft.{act-left}

-- ## a task before a poll

loud-polls : (m : MachineMoment) → machine_quiet m ≡ false → polls m ≡ false
loud-polls machine.Polling loud = false_true (sym loud)
loud-polls _ loud = refl

polls-at : (o : OpenCall) (users : List FrameUser) (m : Moment) → polls (moment_at o users m) ≡ is_polling m
polls-at o users Polling = refl
polls-at o users First = refl
polls-at o users (Load load) = loud-polls (moment_at o users (Load load)) (load-loud o users load)
polls-at o users (Mark mark) = loud-polls (moment_at o users (Mark mark)) (mark-loud users mark)

-- it stands there where the machine's does
pub polls-is : (t : Task) → polls (moment_of t) ≡ is_polling t.moment
polls-is t = polls-at (top t) (users_in (top_users t.stacks.calls)) t.moment

-- the operation of the machine's CPU, whose present task stands where this one does
pub op-at : (me : Cpu) (t : Task) → (me.tasks me.present).moment ≡ moment_of t
    → (is_polling t.moment ≡ false → op_of t ≡ task_op me.present (me.tasks me.present) (me.tasks me.present).moment)
    → cond (not (is_polling t.moment)) (op_of t) (Some (LoadOp Want)) ≡ present_op me (me.tasks me.present).moment
op-at me t at op = by (is_polling t.moment) refl
  where
    before : (m : MachineMoment) → polls m ≡ true → present_op me m ≡ Some (LoadOp Want)
    before machine.Polling e = refl
    before _ e = false_true e

    polls-here : polls (me.tasks me.present).moment ≡ is_polling t.moment
    polls-here = ap polls at ∙ polls-is t

    by : (b : Bool) → is_polling t.moment ≡ b → cond (not b) (op_of t) (Some (LoadOp Want)) ≡ present_op me (me.tasks me.present).moment
    by true e = sym (before (me.tasks me.present).moment (polls-here ∙ e))
    by false e = op e ∙ sym (present-is me (me.tasks me.present).moment (polls-here ∙ e))

-- ## the tasks of a CPU

-- a task that has an act left is one of those that have
pub left-any : (ts : List Task) (i : ℕ) (t : Task) → slice_get ts i ≡ Some t → is_left t ≡ true → any_left ts ≡ true
left-any [] i t e left = absurd cc
left-any (u ∷ ts) zero t e left = let same : u ≡ t = cc in rw (same, left) refl
left-any (u ∷ ts) (suc i) t e left = rw (left-any ts i t e left) (or-true (is_left u))

-- what the present task does next, if there is one
abbrev running_op : Option Task → Option WordOp
running_op o = cond (runs o) (op_by o) (Some (LoadOp Want))

module _ (job : Job) (c : Parts) (k : IsFor job c) where
  -- a task has an act left where the machine's has
  pub more-is : any_has_more job (cpu_of job c) ≡ any_left c.tasks
  more-is = more-left job c k.own

  -- ## between polls

  pub task-for : (i : ℕ) (t : Task) → slice_get c.tasks i ≡ Some t → IsTaskOf job t
  task-for i t e = named-at (IsTaskOf job) c.tasks i t e k.own.tasks

  -- the machine's task
  state-is : (i : ℕ) (t : Task) → slice_get c.tasks i ≡ Some t → tasks_by job c.tasks t.number.0 ≡ state_of t
  state-is i t e = state-at job c.cpu.0 c.tasks k.own.numbers' i t e

  -- the present task, which has an act left
  present-op-is : (t : Task) → present_task c ≡ Some t
      → running_op (present_task c) ≡ present_op (cpu_of job c) (tasks_by job c.tasks (cpu_of job c).present).moment
  present-op-is t e =
      let me : Cpu = cpu_of job c in
      let number : me.present ≡ t.number.0 = ap (λ o. number_or (length job.tasks) o) e in
      let state : me.tasks me.present ≡ state_of t = ap me.tasks number ∙ state-is c.present t e in
      ap (λ o. running_op o) e
      ∙ op-at me t (ap (λ (x : TaskState). x.moment) state)
      (λ other. operation-is job t (task-for c.present t e) other ∙ ap₂ (λ n (x : TaskState). task_op n x x.moment) (sym number) (sym state))

  -- no task has an act left
  last-op : any_left c.tasks ≡ false → running_op (present_task c) ≡ Some (LoadOp Want)
  last-op none = by (present_task c) refl
    where
      by_poll : (t : Task) (b : Bool) → is_polling t.moment ≡ b → present_task c ≡ Some t → cond (not b) (op_of t) (Some (LoadOp Want)) ≡ Some (LoadOp Want)
      by_poll t true p e = refl
      by_poll t false p e =
          let left : is_left t ≡ true = lt-ltb t.acts.gone (length t.acts.all) (act-left job t (task-for c.present t e) p) in
          false_true (sym none ∙ left-any c.tasks c.present t e left)

      by : (o : Option Task) → present_task c ≡ o → running_op o ≡ Some (LoadOp Want)
      by None e = refl
      by (Some t) e = by_poll t (is_polling t.moment) refl e

  pub going-is : running_op (present_task c) ≡ going_op job (cpu_of job c)
  going-is = rw more-is (by (any_left c.tasks) refl)
    where
      by_task : (o : Option Task) → present_task c ≡ o → IsSomeAnd o (λ t. is_left t ≡ true)
          → running_op (present_task c) ≡ present_op (cpu_of job c) (tasks_by job c.tasks (cpu_of job c).present).moment
      by_task None e left = absurd left
      by_task (Some t) e left = present-op-is t e

      by : (b : Bool) → any_left c.tasks ≡ b
          → running_op (present_task c)
          ≡ cond b (present_op (cpu_of job c) (tasks_by job c.tasks (cpu_of job c).present).moment) (Some (LoadOp Want))
      by true any = by_task (present_task c) refl (k.present any)
      by false none = last-op none

  -- a look is next exactly if it is the machine's: whoever is open to requests has an act left
  pub looking-is : is_looking c ≡ looks job (cpu_of job c)
  looking-is = ap (λ (s : PlainSetup). s.looks && is_open (present_task c)) k.own.setup ∙ both (takes_looks job)
    where
      me : Cpu
      me = cpu_of job c

      -- who is before a poll isn't open to requests, and any other has an act left
      shut : (t : Task) (m : Moment) → t.moment ≡ m → present_task c ≡ Some t → any_left c.tasks ≡ false → is_open_to_requests t ≡ false
      shut t Polling m e none = ap (open_at t) m
      shut t _ m e none =
          let left : is_left t ≡ true = lt-ltb t.acts.gone (length t.acts.all) (act-left job t (task-for c.present t e) (ap is_polling m)) in
          false_true (sym none ∙ left-any c.tasks c.present t e left)

      by : (b : Bool) → any_left c.tasks ≡ b → (o : Option Task) → present_task c ≡ o → is_open o ≡ b && is_looked_before (me.tasks me.present)
      by true any None e = absurd (subst (λ o. IsSomeAnd o (λ (t : Task). is_left t ≡ true)) e (k.present any))
      by false none None e = refl
      by true any (Some t) e =
          let number : me.present ≡ t.number.0 = ap (λ o. number_or (length job.tasks) o) e in
          open-is job t (task-for c.present t e) ∙ ap is_looked_before (sym (ap me.tasks number ∙ state-is c.present t e))
      by false none (Some t) e = shut t t.moment refl e none

      both : (b : Bool) → (b && is_open (present_task c)) ≡ (b && any_has_more job me && is_looked_before (me.tasks me.present))
      both true = by (any_left c.tasks) refl (present_task c) refl ∙ ap (λ b. b && is_looked_before (me.tasks me.present)) (sym more-is)
      both false = refl

  pub running-there : is_running c ≡ true → IsSomeAnd (present_task c) (IsTaskThere c.setup.shape)
  running-there r = by (present_task c) refl r
    where
      by : (o : Option Task) → present_task c ≡ o → runs o ≡ true → IsSomeAnd o (IsTaskThere c.setup.shape)
      by None e r = false_true r
      by (Some t) e r = subst (λ (s : PlainSetup). IsTaskThere s.shape t) (sym k.own.setup) (task-there job t (task-for c.present t e))

  -- ## in a poll

  acking-is : (r : ℕ) → phase_op c (code.StoringAck r) ≡ machine_op job (cpu_of job c) (StoringAck r)
  acking-is r = ap (λ b. Some (Store (Ack c.cpu.0) (acknowledged b r))) (sym more-is)

  -- the word of a task
  module _ (r i : ℕ) (t : Task) (e : slice_get c.tasks i ≡ Some t) where
    telling-is : phase_op c (code.StoringQuiet r i) ≡ machine_op job (cpu_of job c) (phase_in c.tasks (code.StoringQuiet r i))
    telling-is =
        ap (λ o. told_op r o) e
        ∙ ap (λ v. Some (Store (Quiet t.number.0) (told_word r v))) (sym (view-is t))
        ∙ ap (λ (x : TaskState). Some (Store (Quiet t.number.0) (quiet_word r x))) (sym (state-is i t e))
        ∙ ap (λ n. Some (Store (Quiet n) (quiet_word r (tasks_by job c.tasks n)))) (ap (λ o. number_or 0 o) (sym e))

    telling-there : IsQuietThere c i
    telling-there = record {
      within = slice_get_within c.tasks i t e;
      number = subst (λ o. IsSomeAnd o (λ (x : Task). x.number.0 < c.setup.shape.tasks)) (sym e)
          (subst (λ (s : PlainSetup). t.number.0 < s.shape.tasks) (sym k.own.setup) (task-for i t e).number);
    }

  -- ## in any phase

  op-in : (phase : Phase) → IsIn c phase → phase_op c phase ≡ machine_op job (cpu_of job c) (phase_in c.tasks phase)
  op-in code.Going h = ap₂ (λ b op. cond b (Some (LoadOp Want)) op) looking-is going-is
  op-in code.Looked h = going-is
  op-in (code.Answering r) h = refl
  op-in (code.StoringAck r) h = acking-is r
  op-in (code.StoringQuiet r i) h = (let t = untold-there r c.tasks i h.1 in telling-is r i t.0 t.1)
  op-in code.Over h = refl

  pub cpu-op-is : cpu_op c ≡ cpu_next job (cpu_of job c)
  unfolding cpu_next
  cpu-op-is = op-in c.phase k.phase'

  there-in : (phase : Phase) → IsIn c phase → NextAt c phase
  there-in code.Going h = running-there
  there-in code.Looked h = running-there
  there-in (code.Answering r) h = subst (λ (s : PlainSetup). c.cpu.0 < s.shape.cpus) (sym k.own.setup) k.own.cpu
  there-in (code.StoringAck r) h = subst (λ (s : PlainSetup). c.cpu.0 < s.shape.cpus) (sym k.own.setup) k.own.cpu
  there-in (code.StoringQuiet r i) h = (let t = untold-there r c.tasks i h.1 in telling-there r i t.0 t.1)
  there-in code.Over h = tt

  pub cpu-op-there : HasNext c
  cpu-op-there = there-in c.phase k.phase'
