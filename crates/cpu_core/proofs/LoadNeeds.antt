-- The value of a task's load fits it.
use Rattle.std.proofs.Common.{◌≡◌, ℕ, suc, ◌<◌, ◌≤◌, true, List, [], ◌∷◌, length, refl, sym, ap, ◌∙◌, subst, arith}
use Rattle.std.specs.Prelude.{IfSome}
use Rattle.ft_base.specs.Job.{Job}
use Rattle.ft_base.specs.Same.{rank, context}
use Rattle.ft_base.proofs.Small.{==-refl}
use Rattle.ft_base.proofs.Versions.{few-largest}
use Rattle.ft_hist.specs.Dispatch.{held_levels}
use Rattle.ops_list.specs.declared.walker.WalkPhase.{WalkPhase}
use Rattle.ops_list.specs.declared.walker.WalkPhase.TheVariants.{Starting, At, Ended as WalkEnded}
use Rattle.ops_list.specs.Walks.{walk_at}
use Rattle.hash_pages.specs.declared.reader.ReadPhase.{ReadPhase}
use Rattle.hash_pages.specs.declared.reader.ReadPhase.TheVariants.{AtSel, AtFilter, AtNotrace, Ended as ReadEnded}
use Rattle.recursion_guard.specs.Guards.{IsHeld, held_in}
use Rattle.return_stack.specs.Calls.{StackedCall}
use Rattle.word_machine.specs.Laws.{PresentTakes}
use Rattle.word_machine.specs.Limits.{IsLimited}
use Rattle.word_machine.specs.Task.{Closing as ClosingAt, TaskState}
use Rattle.task_core.specs.declared.moment.Moment.{Moment}
use Rattle.task_core.specs.declared.moment.Moment.TheVariants.{Load}
use Rattle.task_core.specs.declared.moment.ToLoad.{ToLoad}
use Rattle.task_core.specs.declared.moment.ToLoad.TheVariants.{Fetch, GotHead, GotBreak, InTramp, OwnSel, Walking, Reading, AtPids, AtDepth, AtExit}
use Rattle.task_core.specs.declared.open_call.OpenCall.{OpenCall as CodeCall}
use Rattle.task_core.specs.declared.task.Task.{Task}
use Rattle.task_core.specs.TaskNeeds.{FitsLoad}
use Rattle.task_core.specs.Moments.{reading_at, walking_at}
use Rattle.task_core.specs.Setups.{setup_in}
use Rattle.task_core.specs.States.{load_moment, state_of, users_in}
use Rattle.task_core.specs.TaskInvariant.{NamesThere}
use Rattle.task_core.specs.StackInvariant.{IsReading, IsTaskOf, IsWalking}
use Rattle.task_core.proofs.StackCalls.{owed-some}
use Rattle.task_core.proofs.Guards.{holding, of-call}
use Rattle.task_core.proofs.GuardLaw.{guards-of, own-is}
use Rattle.task_core.proofs.GuardLoads.{under}
use Rattle.task_core.proofs.RowLists.{standing}
use Rattle.task_core.proofs.ExitGuards.{taken-levels}
use Rattle.task_core.proofs.InvariantLoads.{tramp-there}

-- ## walks and reads

module _ (job : Job) where
  -- a load of a walk names nobody, or a user that there is
  walk-named : (x : TaskState) (phase : WalkPhase) (v : ℕ) → IsWalking phase → PresentTakes job x (walking_at phase) v → 0 < length x.stack
      → v ≤ length job.users
  walk-named x phase v walking takes lt = by x.stack lt phase walking takes
    where
      by : (stack : _) → 0 < length stack → (phase : WalkPhase) → IsWalking phase → PresentTakes job (record x { stack = stack }) (walking_at phase) v
          → v ≤ length job.users
      by [] lt phase walking takes = absurd (omega (arith, lt))
      by (c ∷ below) lt Starting walking takes = takes
      by (c ∷ below) lt (At u) walking takes = takes
      by (c ∷ below) lt WalkEnded walking takes = absurd walking

  -- a read is of a user that there is
  read-named : (u : ℕ) (phase : ReadPhase) → IsReading phase → NamesThere job (reading_at u (λ reg. ClosingAt) phase) → u < length job.users
  read-named u AtSel reading names = names
  read-named u (AtFilter copy reg) reading names = names.0
  read-named u (AtNotrace copy reg) reading names = names.0
  read-named u (ReadEnded v) reading names = absurd reading

-- ## the guard of a callback

module _ (job : Job) (t : Task) (o : CodeCall) (os : List CodeCall) (s : StackedCall) (ss : List StackedCall) (m : Moment)
    (k : IsTaskOf job (standing t (o ∷ os) (s ∷ ss) m)) where
  -- a user that holds a level of the guard of its call holds one of the present context's
  pub taken-is : holding m ≡ true → IsHeld t.guards
  taken-is e =
      let here : held_in t.guards.held (context t.guards.raised) ≡ held_in t.guards.held o.ctx = ap (λ x. held_in t.guards.held x) (own-is job t o os s ss m k e) in
      let held : held_in t.guards.held o.ctx ≡ held_levels (o.ctx ∷ under t o os s ss) o.ctx =
      rw e at (of-call t.guards o os s ss m (guards-of job (standing t (o ∷ os) (s ∷ ss) m) k)).held o.ctx in
      let one : held_levels (o.ctx ∷ under t o os s ss) o.ctx ≡ suc (held_levels (under t o os s ss) o.ctx) =
      taken-levels o.ctx (under t o os s ss) o.ctx ∙ rw (==-refl (rank o.ctx)) refl in
      omega (arith, here, held, one)

-- ## a load

module _ (job : Job) (limited : IsLimited job) (v : ℕ) (t : Task) (o : CodeCall) (os : List CodeCall) (s : StackedCall) (ss : List StackedCall) where
  pub load-fits : (l : ToLoad) → IsTaskOf job (standing t (o ∷ os) (s ∷ ss) (Load l))
      → PresentTakes job (state_of (standing t (o ∷ os) (s ∷ ss) (Load l))) (load_moment o (users_in s.users) l) v
      → FitsLoad (setup_in job) (standing t (o ∷ os) (s ∷ ss) (Load l)) l v
  load-fits Fetch k takes = takes
  load-fits (GotHead byte) k takes =
      let few = few-largest job.version limited.counts in
      let funcs = few.few_functions in
      let tramps = few.few_tramps in
      let lt = k.steady.calls.0.func in
      let i = takes.1 in
      (omega (arith, funcs, lt), (takes.0, omega (arith, tramps, i), takes.2, takes.3))
  load-fits GotBreak k takes = (let tramps = (few-largest job.version limited.counts).few_tramps in omega (arith, tramps, takes))
  load-fits (InTramp slot) k takes = tramp-there v takes.1 takes.0 (length job.users) takes.2 takes.3
  load-fits (OwnSel u reg) k takes = k.steady.calls.0.names
  load-fits Walking k takes = record {
    shape = k.tied.0.shape';
    func = k.steady.calls.0.func;
    name = walk-named job (state_of (standing t (o ∷ os) (s ∷ ss) (Load Walking))) o.walk.phase v k.moment.0 takes (omega arith);
  }
  load-fits (Reading r) k takes =
      subst (λ phase. IfSome (walk_at phase) (λ u. u.0 < length job.users)) (sym k.moment.user)
      (read-named job r.user r.phase k.moment.open' k.steady.calls.0.names)
  load-fits (AtPids u reg) k takes = (let lt = k.number in let few = limited.counts.few_tasks in (k.steady.calls.0.names, omega (arith, lt, few)))
  load-fits (AtDepth u reg) k takes = taken-is job t o os s ss (Load (AtDepth u reg)) k refl
  load-fits (AtExit i) k takes = (let lt = k.moment in let few = k.few.0 in (owed-some s.users i lt, omega (arith, lt, few)))
