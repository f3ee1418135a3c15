-- What the first operation of an act, the Body and the Ret make of a task is what the machine makes of it.
use Rattle.std.proofs.Common.{cond, ◌≡◌, ℕ, zero, suc, Bool, true, false, not, List, [], ◌∷◌, drop, slice_get, length, nat_le, Option, Some, None, refl, sym, ap, ◌∙◌, subst}
use Rattle.ft_base.specs.declared.context.Ctx.{Ctx}
use Rattle.ft_base.specs.declared.task.TaskAct.{TaskAct}
use Rattle.ft_base.specs.declared.task.TaskAct.TheVariants.{Call, Ret as RetAct, Raise, Lower, After}
use Rattle.ft_base.specs.Job.{Job}
use Rattle.ft_base.specs.Same.{same_ctx}
use Rattle.ft_base.specs.WellFormed.{IsScript}
use Rattle.ft_hist.specs.Frames.{is_nil}
use Rattle.return_stack.specs.declared.shadow.FrameUser.{FrameUser as OwedUser}
use Rattle.return_stack.specs.Calls.{StackedCall, if_used, without_empty}
use Rattle.word_map.specs.Contents.{returned_at}
use Rattle.word_machine.specs.Task.{OpenCall, Polling, Leaving, at_moment, closed, first_got, user_of, with_top}
use Rattle.word_machine.specs.Task as machine
use Rattle.word_machine.specs.Tasks.{open_by}
use Rattle.task_core.specs.declared.moment.Moment.TheVariants.{First, Mark}
use Rattle.task_core.specs.declared.moment.Moment.TheVariants as moment
use Rattle.task_core.specs.declared.moment.ToMark.TheVariants.{Closing, Leaving as ToLeave, Ending, Returning}
use Rattle.task_core.specs.declared.open_call.OpenCall.{OpenCall as CodeCall}
use Rattle.task_core.specs.declared.task.Task.{Task}
use Rattle.task_core.specs.Opens.{top_of}
use Rattle.task_core.specs.Setups.{setup_in}
use Rattle.task_core.specs.States.{joined, stack_in, state_of, users_in}
use Rattle.task_core.specs.TaskInvariant.{IsCalled, act_raised}
use Rattle.task_core.specs.TaskSteps.{after_first, at, body_begun, finished, returned, without_raised}
use Rattle.task_core.specs.StackInvariant.{IsTaskOf}
use Rattle.task_core.proofs.RowExits.{from-row}
use Rattle.task_core.proofs.RowLists.{rest-drop, standing}
use Rattle.task_core.proofs.ActContexts.{back-raised, quiet-raised, script-back_raised}

-- ## the first operation of an act

module _ (job : Job) (t : Task) (v : ℕ) where
  -- of these acts to come
  pub first-got : (os : List CodeCall) (ss : List StackedCall) (acts : List TaskAct) → IsTaskOf job (standing t os ss First)
      → IsScript job (open_by false (stack_in os ss)) acts
      → state_of (after_first (standing t os ss First) (setup_in job) (slice_get acts 0) v)
      ≡ first_got t.number.0 (state_of (standing t os ss First)) acts (stack_in os ss) v
  first-got os ss [] k script = refl
  first-got os ss (Call f ∷ rest) k script = rw (quiet-raised job (state_of (standing t os ss First)) k.steady refl) refl
  first-got [] [] (RetAct ∷ rest) k script = absurd script
  first-got [] (s ∷ ss) (RetAct ∷ rest) k script = absurd k.tied
  first-got (o ∷ os) [] (RetAct ∷ rest) k script = absurd k.tied
  first-got (o ∷ os) (s ∷ ss) (RetAct ∷ rest) k script = from-row job t o os s ss First 0
  first-got os ss (Raise x ∷ rest) k script = refl
  first-got os ss (Lower ∷ rest) k script = refl
  first-got os ss (After n ∷ rest) k script = by (nat_le n (returned_at v))
    where
      y : Task
      y = standing t os ss First

      by : (b : Bool)
          → state_of (cond b (finished y) (at y moment.Polling))
          ≡ cond b (machine.finished (state_of y) (stack_in os ss)) (at_moment (state_of y) Polling)
      by true = ap (λ (acts : List TaskAct). record (state_of y) { acts = acts; gone = suc t.acts.gone; moment = Polling }) (rest-drop t.acts.all t.acts.gone)
      by false = refl

-- ## the end of a dispatch

-- a frame that owes nothing is given back
used-call : (o : CodeCall) (s : StackedCall)
    → joined o (record s { users = if_used s.users }) ≡ record (joined o s) { framed = not (is_nil (users_in s.users)) }
used-call o s = by s.users
  where
    by : (U : Option (List OwedUser))
        → joined o (record s { users = if_used U }) ≡ record (joined o (record s { users = U })) { framed = not (is_nil (users_in U)) }
    by None = refl
    by (Some []) = refl
    by (Some (m ∷ rest)) = refl

module _ (job : Job) (t : Task) (o : CodeCall) (os : List CodeCall) (s : StackedCall) (ss : List StackedCall) where
  -- the calls below the top one
  abbrev below : List OpenCall
  below = stack_in os ss

  pub body-row : (let y = standing t (o ∷ os) (s ∷ ss) (Mark Closing) in state_of (body_begun y) ≡ closed (state_of y) (joined o s) below)
  body-row = by o.scripted
    where
      y : Task
      y = standing t (o ∷ os) (s ∷ ss) (Mark Closing)

      -- with the frame given back
      z : Task
      z = standing t (o ∷ os) (without_empty (s ∷ ss)) (Mark Closing)

      c' : OpenCall
      c' = record (joined o s) { framed = not (is_nil (users_in s.users)) }

      by : (b : Bool)
          → state_of (cond b (finished z) (at z (Mark ToLeave)))
          ≡ cond b (machine.finished (state_of y) (c' ∷ below)) (with_top (state_of y) c' below Leaving)
      by true =
          ap (λ (p : List TaskAct × OpenCall). record (state_of y) { acts = p.0; gone = suc t.acts.gone; stack = p.1 ∷ below; moment = Polling })
          (λ i. (rest-drop t.acts.all t.acts.gone i, used-call o s i))
      by false = ap (λ (c : OpenCall). with_top (state_of y) c below Leaving) (used-call o s)

-- ## the return

drop-tail : {X : Type 0} (n : ℕ) (xs : List X) → drop n (drop 1 xs) ≡ drop (suc n) xs
drop-tail zero [] = refl
drop-tail (suc n) [] = refl
drop-tail n (x ∷ xs) = refl

module _ (job : Job) (t : Task) where
  -- the call returns to the callback whose act made it, in that call's context
  act-returned : (o : CodeCall) (s : StackedCall) (os : List CodeCall) (ss : List StackedCall)
      → IsTaskOf job (standing t (o ∷ os) (s ∷ ss) (Mark Returning)) → o.scripted ≡ false
      → state_of (record (standing t os ss (Mark (Ending (top_of os).user))) {
        guards = cond (same_ctx o.ctx (top_of os).ctx) t.guards (without_raised t.guards);
      })
      ≡ record (state_of (standing t (o ∷ os) (s ∷ ss) (Mark Returning))) {
        stack = stack_in os ss;
        moment = machine.Ending (user_of (stack_in os ss));
      }
  act-returned o s [] [] k e = absurd (subst (λ b. IsCalled b o.ctx []) e k.steady.calls.0.called)
  act-returned o s [] (z ∷ ss) k e = absurd k.tied.1
  act-returned o s (b ∷ os) [] k e = absurd k.tied.1
  act-returned o s (b ∷ os) (z ∷ ss) k e =
      ap (λ (cs : List Ctx). record (state_of (standing t (o ∷ b ∷ os) (s ∷ z ∷ ss) (Mark Returning))) {
        contexts = cs;
        stack = joined b z ∷ stack_in os ss;
        moment = machine.Ending b.user.0;
      })
      (by (same_ctx o.ctx b.ctx)
      ∙ ap (λ (cs : List Ctx). drop (length cs) t.guards.raised) (sym (back-raised (joined o s) (joined b z) (stack_in os ss) e)))
    where
      under : List Ctx
      under = act_raised (joined b z ∷ stack_in os ss)

      by : (same : Bool)
          → drop (length under) (cond same t.guards (without_raised t.guards)).raised
          ≡ drop (length (cond same under (o.ctx ∷ under))) t.guards.raised
      by true = refl
      by false = drop-tail (length under) t.guards.raised

  pub return-row : (o : CodeCall) (os : List CodeCall) (s : StackedCall) (ss : List StackedCall)
      → (let y = standing t (o ∷ os) (s ∷ ss) (Mark Returning) in
      IsTaskOf job y → state_of (returned y) ≡ machine.returned (state_of y) (joined o s) (stack_in os ss))
  return-row o os s ss k = by o.scripted refl
    where
      y : Task
      y = standing t (o ∷ os) (s ∷ ss) (Mark Returning)

      by : (b : Bool) → o.scripted ≡ b
          → state_of (cond b (finished (standing t os ss (Mark Returning)))
          (record (standing t os ss (Mark (Ending (top_of os).user))) { guards = cond (same_ctx o.ctx (top_of os).ctx) t.guards (without_raised t.guards) }))
          ≡ cond b (machine.finished (state_of y) (stack_in os ss))
          (record (state_of y) { stack = stack_in os ss; moment = machine.Ending (user_of (stack_in os ss)) })
      by true e =
          ap (λ (p : List TaskAct × List Ctx). record (state_of y) {
            acts = p.0;
            gone = suc t.acts.gone;
            contexts = drop (length p.1) t.guards.raised;
            stack = stack_in os ss;
            moment = Polling;
          })
          (λ i. (rest-drop t.acts.all t.acts.gone i, script-back_raised job (joined o s) (stack_in os ss) e k.steady.calls i))
      by false e = act-returned o s os ss k e
