-- The guards of a task of code after a mark: calls of acts come over those of their callbacks, and a callback that ends gives its level back.
use Rattle.std.proofs.Common.{cond, ◌≡◌, ℕ, suc, Bool, true, false, List, [], ◌∷◌, drop, Some, None, refl, sym, ap, ◌∙◌, subst}
use Rattle.std.specs.Prelude.{Option}
use Rattle.ft_base.specs.declared.context.Ctx.{Ctx}
use Rattle.ft_base.specs.declared.number.FuncNo.{FuncNo}
use Rattle.ft_base.specs.declared.number.UserNo.{UserNo}
use Rattle.ft_base.specs.declared.user.Kind.{Kind}
use Rattle.ft_base.specs.Job.{Spec}
use Rattle.ft_base.specs.Kinds.{has_depth, is_fprobe}
use Rattle.ft_base.specs.Same.{same_ctx, context}
use Rattle.ft_hist.specs.Frames.{runs_after}
use Rattle.ft_hist.specs.Plain.{Owed, owed_by}
use Rattle.ft_hist.specs.Dispatch.{held_levels}
use Rattle.recursion_guard.specs.Guards.{GuardState, held_in, left}
use Rattle.return_stack.specs.declared.shadow.FrameUser.{FrameUser}
use Rattle.return_stack.specs.Calls.{CallStack, StackedCall, if_used, is_full, with_hook, with_user}
use Rattle.fprobe.specs.declared.entry.Probe.{Probe}
use Rattle.fprobe.specs.declared.entry.Probe.TheVariants.{Plain, Wanted, Cancelled, Missed}
use Rattle.fprobe.specs.Entry.{calls_after}
use Rattle.word_map.specs.declared.shape.Shape.{Shape}
use Rattle.word_machine.specs.Task.{OpenCall, guards_under}
use Rattle.word_machine.specs.Task as machine
use Rattle.task_core.specs.declared.moment.Moment.{Moment as CodeMoment}
use Rattle.task_core.specs.declared.moment.Moment.TheVariants.{Polling, Load, Mark}
use Rattle.task_core.specs.declared.moment.ToLoad.TheVariants.{Fetch}
use Rattle.task_core.specs.declared.moment.ToMark.{ToMark}
use Rattle.task_core.specs.declared.moment.ToMark.TheVariants.{Refusing, Calling, Missing, Acting, Ending, Closing, Leaving, Exiting, EndingExit, Returning}
use Rattle.task_core.specs.declared.open_call.OpenCall.{OpenCall as CodeCall}
use Rattle.task_core.specs.declared.task.Task.{Task}
use Rattle.task_core.specs.Framed.{probe_of}
use Rattle.task_core.specs.Leads.{act_to, after_user_to}
use Rattle.task_core.specs.Opens.{top_of}
use Rattle.task_core.specs.Setups.{PlainSetup, declared_in}
use Rattle.task_core.specs.States.{stack_in}
use Rattle.task_core.specs.TaskInvariant.{IsCalled, act_raised, guards_at, raised_over}
use Rattle.task_core.specs.TaskOps.{next_call}
use Rattle.task_core.specs.TaskSteps.{acted, after_mark, body_begun, called_back, callback_ended, finished, lacks_frame, new_call, returned, stacks_after, with_raised, without_raised}
use Rattle.task_core.proofs.Guards.{Guards, GuardsAt, GuardsIn, IsOver, holding, in-call, over-none}
use Rattle.task_core.proofs.GuardLoads.{In, after-free, exit-guards, given, goes, passed-guards, under}
use Rattle.task_core.proofs.RowLists.{standing}

-- ## raised contexts

-- a call of an act raises the context to its own, if that is another one
over-raised : (x : Ctx) (cs : List Ctx) (g : GuardState) (same : Bool) → IsOver cs g.raised
    → IsOver (cond same cs (x ∷ cs)) (cond same g (with_raised g x)).raised
over-raised x cs g true h = h
over-raised x cs g false h = ap (λ (l : List Ctx). x ∷ l) h

-- and its return lowers it
over-lowered : (x : Ctx) (cs : List Ctx) (g : GuardState) (same : Bool) → IsOver (cond same cs (x ∷ cs)) g.raised
    → IsOver cs (cond same g (without_raised g)).raised
over-lowered x cs g true h = h
over-lowered x cs g false h = by g.raised h
  where
    by : (raised : List Ctx) → IsOver (x ∷ cs) raised → IsOver cs (drop 1 raised)
    by [] e = absurd cc
    by (y ∷ ys) e = ap (λ (l : List Ctx). drop 1 l) e

-- ## the stacks after a callback

-- these calls, with another one at the top
abbrev pub HaveTop : List StackedCall → List StackedCall → Type 0
HaveTop ss calls = (s : StackedCall) × (calls ≡ s ∷ ss)

module _ (s : StackedCall) (ss : List StackedCall) (user : FrameUser) where
  probe-top : (p : Probe) → HaveTop ss (calls_after p (s ∷ ss) user)
  probe-top Plain = (s, refl)
  probe-top Missed = (s, refl)
  probe-top Cancelled = (_, refl)
  probe-top Wanted = (_, refl)

  -- a callback changes the top call alone
  pub called-top : (kind : Kind) (stacks : CallStack) → HaveTop ss (stacks_after kind (record stacks { calls = s ∷ ss }) user).calls
  called-top kind stacks = by (has_depth kind) (is_fprobe kind)
    where
      probe : Probe
      probe = probe_of kind (is_full (record stacks { calls = s ∷ ss }))

      by : (deep fprobe : Bool) → HaveTop ss (cond deep (with_user (with_hook (s ∷ ss)) user) (cond fprobe (calls_after probe (s ∷ ss) user) (s ∷ ss)))
      by true fprobe = (_, refl)
      by false true = probe-top probe
      by false false = (s, refl)

-- ## moments of a callback

pub act-holds : (u : UserNo) (o : Option Owed) → holding (act_to u o) ≡ true
act-holds u None = refl
act-holds u (Some o) = refl

called-holds : (lacks : Bool) (u : UserNo) (o : Option Owed) → holding (cond lacks (Mark (Missing u)) (act_to u o)) ≡ true
called-holds true u o = refl
called-holds false u o = act-holds u o

-- ## a mark

module _ (t : Task) (o : CodeCall) (os : List CodeCall) (s : StackedCall) (ss : List StackedCall) where
  -- the guards and contexts are those of its calls
  abbrev Now : Bool → Type 0
  Now b = In t o os s ss t.guards b

  -- the task at a moment
  abbrev stands : CodeMoment → Task
  stands m = standing t (o ∷ os) (s ∷ ss) m

  called-guards : (spec : Spec) (u : UserNo) (reg place : ℕ) → Now true → Guards (called_back (stands (Mark (Calling u reg))) spec u reg place)
  called-guards spec u reg place h =
      let user : FrameUser = record { user = u; reg = reg; entry = place } in
      let top = called-top s ss user spec.kind t.stacks in
      let lacks : Bool = lacks_frame spec.kind (stands (Mark (Calling u reg))).stacks in
      let m : CodeMoment = cond lacks (Mark (Missing u)) (act_to u (owed_by o.ctx spec.act)) in
      let o' : CodeCall = record o { runs = runs_after o.runs spec.ipmodify } in
      subst (λ calls. GuardsAt t.guards (o' ∷ os) calls m) (sym top.1)
      (in-call t.guards o' os top.0 ss m true (called-holds lacks u (owed_by o.ctx spec.act)) h)

  acted-guards : (shape : Shape) (u : UserNo) (f : FuncNo) (x : Ctx) → Now true → Guards (acted (stands (Mark (Acting u f x))) shape u f x)
  acted-guards shape u f x h =
      in-call (cond (same_ctx x o.ctx) t.guards (with_raised t.guards x)) (new_call (next_call t) x f false shape) (record o { user = u } ∷ os)
      (record { call = next_call t; users = None }) (s ∷ ss) (Load Fetch) false refl
      (record { held = held (same_ctx x o.ctx); raised = over-raised x _ t.guards (same_ctx x o.ctx) h.raised })
    where
      held : (b : Bool) (k : Ctx) → held_in (cond b t.guards (with_raised t.guards x)).held k ≡ held_levels (o.ctx ∷ under t o os s ss) k
      held true k = h.held k
      held false k = h.held k

  ended-guards : (u : UserNo) → context t.guards.raised ≡ o.ctx → Now true → Guards (callback_ended (stands (Mark (Ending u))))
  ended-guards u here h = in-call (left t.guards) o os s ss (after_user_to o.ran) false (after-free o.ran) (given t o os s ss here h)

  body-guards : Now false → Guards (body_begun (stands (Mark Closing)))
  body-guards h = by o.scripted
    where
      -- its frame is given back if it owes nothing
      begun : Task
      begun = record t {
        opens = record t.opens { calls = o ∷ os };
        stacks = record t.stacks { calls = record s { users = if_used s.users } ∷ ss };
        moment = Mark Closing;
      }

      by : (b : Bool) → Guards (cond b (finished begun) (record begun { moment = Mark Leaving }))
      by true = in-call t.guards o os (record s { users = if_used s.users }) ss Polling false refl h
      by false = in-call t.guards o os (record s { users = if_used s.users }) ss (Mark Leaving) false refl h

-- ## the return

-- a call of the script holds no guard, and neither does the call below it
pub under-script : (stack : List OpenCall) → guards_under true stack ≡ guards_at machine.First stack
under-script [] = refl
under-script (c ∷ below) = refl

module _ (t : Task) (o : CodeCall) where
  -- the task after its top call
  abbrev popped : List CodeCall → List StackedCall → Task
  popped os ss = record t { opens = record t.opens { calls = os }; stacks = record t.stacks { calls = ss } }

  script-guards : (os : List CodeCall) (s : StackedCall) (ss : List StackedCall) → act_raised (stack_in os ss) ≡ [] → o.scripted ≡ true
      → In t o os s ss t.guards false → Guards (finished (popped os ss))
  script-guards os s ss none e h = record {
    held = λ k. (h.held k ∙ ap (λ b. held_levels (guards_under b (stack_in os ss)) k) e ∙ ap (λ gs. held_levels gs k) (under-script (stack_in os ss)));
    raised = over-none (act_raised (stack_in os ss)) t.guards.raised none;
  }

  act-guards : (os : List CodeCall) (s : StackedCall) (ss : List StackedCall) → IsCalled false o.ctx (stack_in os ss) → o.scripted ≡ false
      → In t o os s ss t.guards false
      → Guards (record (popped os ss) {
        guards = cond (same_ctx o.ctx (top_of os).ctx) t.guards (without_raised t.guards);
        moment = Mark (Ending (top_of os).user);
      })
  act-guards [] s ss called e h = absurd called
  act-guards (b ∷ bb) s [] called e h = absurd called
  act-guards (b ∷ bb) s (s' ∷ ss) called e h =
      in-call (cond (same_ctx o.ctx b.ctx) t.guards (without_raised t.guards)) b bb s' ss (Mark (Ending b.user)) true refl
      (record { held = held (same_ctx o.ctx b.ctx); raised = over-lowered o.ctx _ t.guards (same_ctx o.ctx b.ctx) raised })
    where
      now : In t (record o { scripted = false }) (b ∷ bb) s (s' ∷ ss) t.guards false
      now = subst (λ y. GuardsIn t.guards false o.ctx y (stack_in (b ∷ bb) (s' ∷ ss))) e h

      raised : IsOver (raised_over o.ctx (stack_in (b ∷ bb) (s' ∷ ss)) (act_raised (stack_in (b ∷ bb) (s' ∷ ss)))) t.guards.raised
      raised = now.raised

      held : (y : Bool) (k : Ctx) → held_in (cond y t.guards (without_raised t.guards)).held k ≡ held_levels (b.ctx ∷ under t b bb s' ss) k
      held true k = now.held k
      held false k = now.held k

  pub returned-guards : (os : List CodeCall) (s : StackedCall) (ss : List StackedCall) → IsCalled o.scripted o.ctx (stack_in os ss)
      → (o.scripted ≡ true → act_raised (stack_in os ss) ≡ []) → In t o os s ss t.guards false
      → Guards (returned (standing t (o ∷ os) (s ∷ ss) (Mark Returning)))
  returned-guards os s ss called none h = by o.scripted refl called
    where
      by : (b : Bool) → o.scripted ≡ b → IsCalled b o.ctx (stack_in os ss)
          → Guards (cond b (finished (popped os ss)) (record (popped os ss) {
            guards = cond (same_ctx o.ctx (top_of os).ctx) t.guards (without_raised t.guards);
            moment = Mark (Ending (top_of os).user);
          }))
      by true e called = script-guards os s ss (none e) e h
      by false e called = act-guards os s ss called e h

-- ## all marks

module _ (t : Task) (o : CodeCall) (os : List CodeCall) (s : StackedCall) (ss : List StackedCall) (setup : PlainSetup) (place : ℕ) where
  -- In a callback the present context is that of the call. A scripted call is over others of the script
  pub mark-guards : (l : ToMark) → (holding (Mark l) ≡ true → context t.guards.raised ≡ o.ctx)
      → IsCalled o.scripted o.ctx (stack_in os ss) → (o.scripted ≡ true → act_raised (stack_in os ss) ≡ [])
      → In t o os s ss t.guards (holding (Mark l)) → Guards (after_mark (standing t (o ∷ os) (s ∷ ss) (Mark l)) setup l place)
  mark-guards (Refusing u reg reason) own called none h = passed-guards t o os s ss (Mark (Refusing u reg reason)) h
  mark-guards (Calling u reg) own called none h = called-guards t o os s ss (declared_in setup u.0) u reg place h
  mark-guards (Missing u) own called none h =
      let owed : Option Owed = owed_by o.ctx (declared_in setup u.0).act in goes t o os s ss (act_to u owed) true (act-holds u owed) h
  mark-guards (Acting u f x) own called none h = acted-guards t o os s ss setup.shape u f x h
  mark-guards (Ending u) own called none h = ended-guards t o os s ss u (own refl) h
  mark-guards Closing own called none h = body-guards t o os s ss h
  mark-guards Leaving own called none h = exit-guards t o os s ss (Mark Leaving) 0 h
  mark-guards (Exiting i) own called none h = goes t o os s ss (Mark (EndingExit i)) false refl h
  mark-guards (EndingExit i) own called none h = exit-guards t o os s ss (Mark (EndingExit i)) (suc i) h
  mark-guards Returning own called none h = returned-guards t o os s ss called none h
