-- An actor is at its end exactly if it has no operation left.
use Rattle.std.proofs.Common.{cond, ◌≡◌, ℕ, ◌<◌, Bool, true, false, List, [], ◌∷◌, length, Some, None, refl, sym}
use Rattle.std.specs.Prelude.{◌↔◌}
use Rattle.ft_base.specs.declared.task.TaskAct.{TaskAct}
use Rattle.ft_base.specs.declared.task.TaskAct.TheVariants.{Call, Ret as RetAct, Raise, Lower, After}
use Rattle.ft_base.specs.Job.{Job, Ctl, Run, Until}
use Rattle.ft_base.specs.WellFormed.{IsScript}
use Rattle.ft_base.proofs.Small.{false_true}
use Rattle.ft_hist.specs.Frames.{is_nil}
use Rattle.word_map.specs.Words.{Want}
use Rattle.word_map.specs.Ops.{Load}
use Rattle.word_machine.specs.Control.{Control, Position, Line, line_op, next_in, control_next}
use Rattle.word_machine.specs.Task.{OpenCall, TaskState, Moment, Polling, First, is_quiet, first_op, call_op, stack_op}
use Rattle.word_machine.specs.Cpu.{Cpu, Phase, Going, Looked, Answering, StoringAck, StoringQuiet, Over, any_has_more, looks, present_op, going_op, phase_op, cpu_next}
use Rattle.word_machine.specs.Machine.{World, is_end, control_is_done}
use Rattle.word_machine.specs.Tasks.{StandsIn, FirstAt, open_by, is_returning, acts_by}
use Rattle.word_machine.specs.Rule.{MachineRule}

some_none : {A : Type 0} {B : Type 0} (x : A) → Some x ≡ None → B
some_none x e = absurd (cc)

-- ## control

line-ends : (d : ℕ) (remaining : List Ctl) → (is_nil remaining ≡ true) ↔ (line_op d remaining ≡ None)
line-ends d [] = (λ e. refl, λ e. refl)
line-ends d (Until t n ∷ rest) = (λ e. false_true e, λ e. some_none _ e)
line-ends d (Run c ∷ rest) = (λ e. false_true e, λ e. some_none _ e)

position-ends : (job : Job) (s : Control) (p : Position) → (control_is_done s p ≡ true) ↔ (next_in job s p ≡ None)
position-ends job s Line = line-ends s.commands_done s.remaining
position-ends job s _ = (λ e. false_true e, λ e. some_none _ e)

pub control-ends : (job : Job) (s : Control) → (control_is_done s s.position ≡ true) ↔ (control_next job s ≡ None)
unfolding control_next
control-ends job s = position-ends job s s.position

-- ## CPUs

call-goes : {B : Type 0} (x : TaskState) (c : OpenCall) (below : List OpenCall) (m : Moment) → is_quiet m ≡ false → call_op x c below m ≡ None → B
call-goes x c below Polling q e = false_true (sym q)
call-goes x c below First q e = false_true (sym q)
call-goes x c below _ q e = some_none _ e

stack-goes : {B : Type 0} (x : TaskState) (stack : List OpenCall) (m : Moment) → is_quiet m ≡ false → StandsIn false x.acts stack → stack_op x stack m ≡ None
    → B
stack-goes x [] m q s e = false_true s.1
stack-goes x (c ∷ below) m q s e = call-goes x c below m q e

first-goes : {B : Type 0} (job : Job) (t : ℕ) (x : TaskState) (acts : List TaskAct) (stack : List OpenCall) → IsScript job (open_by false stack) acts
    → FirstAt First acts → first_op t x acts stack ≡ None → B
first-goes job t x [] stack s f e = absurd f
first-goes job t x (Call g ∷ rest) stack s f e = some_none _ e
first-goes job t x (RetAct ∷ rest) [] s f e = elim s [ ]
first-goes job t x (RetAct ∷ rest) (c ∷ below) s f e = some_none _ e
first-goes job t x (Raise c ∷ rest) stack s f e = absurd f
first-goes job t x (Lower ∷ rest) stack s f e = absurd f
first-goes job t x (After n ∷ rest) stack s f e = some_none _ e

present-goes : {B : Type 0} (job : Job) (me : Cpu) (m : Moment) → StandsIn (is_quiet m) (me.tasks me.present).acts (me.tasks me.present).stack
    → IsScript job (open_by (is_returning m) (me.tasks me.present).stack) (acts_by (is_quiet m) (me.tasks me.present).acts)
    → FirstAt m (me.tasks me.present).acts → present_op me m ≡ None → B
present-goes job me Polling st s f e = some_none _ e
present-goes job me First st s f e = (let x = me.tasks me.present in first-goes job me.present x x.acts x.stack s f e)
present-goes job me m st s f e = (let x = me.tasks me.present in stack-goes x x.stack m refl st e)

module _ (job : Job) (s : World) (k : MachineRule job s) (c : ℕ) (inside : c < length job.quanta) where
  going-goes : {B : Type 0} → going_op job (s.cpus c) ≡ None → B
  going-goes e = by (any_has_more job (s.cpus c)) refl e
    where
      by : {B : Type 0} (b : Bool) → any_has_more job (s.cpus c) ≡ b
          → cond b (present_op (s.cpus c) ((s.cpus c).tasks (s.cpus c).present).moment) (Some (Load Want)) ≡ None → B
      by true goes e =
          let kc = k.cpus c inside in
          let t = kc.tasks (s.cpus c).present (kc.present goes).0 in
          present-goes job (s.cpus c) ((s.cpus c).tasks (s.cpus c).present).moment t.stands t.script t.first e
      by false goes e = some_none _ e

  phase-ends : (p : Phase) → (is_end p ≡ true) ↔ (phase_op job (s.cpus c) p ≡ None)
  phase-ends Going = (λ e. false_true e, λ e. by (looks job (s.cpus c)) e)
    where
      by : (b : Bool) → cond b (Some (Load Want)) (going_op job (s.cpus c)) ≡ None → false ≡ true
      by true e = some_none _ e
      by false e = going-goes e
  phase-ends Looked = (λ e. false_true e, λ e. going-goes e)
  phase-ends (Answering r) = (λ e. false_true e, λ e. some_none _ e)
  phase-ends (StoringAck r) = (λ e. false_true e, λ e. some_none _ e)
  phase-ends (StoringQuiet r t) = (λ e. false_true e, λ e. some_none _ e)
  phase-ends Over = (λ e. refl, λ e. refl)

  pub cpu-ends : (is_end (s.cpus c).phase ≡ true) ↔ (cpu_next job (s.cpus c) ≡ None)
  unfolding cpu_next
  cpu-ends = phase-ends (s.cpus c).phase
