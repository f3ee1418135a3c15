-- The guards that a task of code holds, and the contexts that it is in: what its top call and those below say of them.
use Rattle.std.proofs.Common.{cond, ◌≡◌, ℕ, suc, ◌-◌, Bool, true, false, List, [], ◌∷◌, ◌++◌, length, drop, refl, sym, ap, ◌∙◌, subst}
use Rattle.ft_base.specs.declared.context.Ctx.{Ctx}
use Rattle.ft_base.specs.declared.context.Ctx.TheVariants.{Normal, Softirq, Irq, Nmi}
use Rattle.ft_base.specs.Same.{same_ctx, context}
use Rattle.ft_hist.specs.Frames.{FrameUser}
use Rattle.ft_hist.specs.Dispatch.{held_levels}
use Rattle.ops_list.specs.declared.walker.WalkPhase.{WalkPhase}
use Rattle.ops_list.specs.declared.walker.WalkPhase.TheVariants.{Starting, At, Ended as WalkEnded}
use Rattle.hash_pages.specs.declared.reader.ReadPhase.{ReadPhase}
use Rattle.hash_pages.specs.declared.reader.ReadPhase.TheVariants.{AtSel, AtFilter, AtNotrace, Ended as ReadEnded}
use Rattle.hash_pages.specs.declared.reader.Verdict.{Verdict}
use Rattle.hash_pages.specs.declared.reader.Verdict.TheVariants.{On}
use Rattle.recursion_guard.specs.declared.held.HeldLevels.{HeldLevels}
use Rattle.recursion_guard.specs.Guards.{GuardState, entered, held_in, left, with_held}
use Rattle.return_stack.specs.Calls.{StackedCall, top_users}
use Rattle.word_machine.specs.Task.{OpenCall, Closing as ClosingAt, guards_under}
use Rattle.task_core.specs.declared.moment.Moment.{Moment as CodeMoment}
use Rattle.task_core.specs.declared.moment.Moment.TheVariants.{Polling, First, Load, Mark}
use Rattle.task_core.specs.declared.moment.ToLoad.{ToLoad}
use Rattle.task_core.specs.declared.moment.ToLoad.TheVariants.{Walking, Reading, AtDepth, AtExit}
use Rattle.task_core.specs.declared.moment.ToMark.{ToMark}
use Rattle.task_core.specs.declared.moment.ToMark.TheVariants.{Calling, Missing, Acting, Ending, Exiting, EndingExit}
use Rattle.task_core.specs.declared.open_call.OpenCall.{OpenCall as CodeCall}
use Rattle.task_core.specs.declared.task.Task.{Task}
use Rattle.task_core.specs.Moments.{judged, reading_at, walking_at}
use Rattle.task_core.specs.Opens.{top_of}
use Rattle.task_core.specs.States.{ending_exit, exiting, moment_at, stack_in, users_in}
use Rattle.task_core.specs.TaskInvariant.{act_raised, guards_at, holds_guard, raised_over}
use Rattle.task_core.proofs.ExitGuards.{next-held}

-- ## contexts and levels

module _ (held : HeldLevels) (f : ℕ → ℕ) where
  counted : (x k : Ctx) → held_in (with_held held x (f (held_in held x))) k ≡ cond (same_ctx x k) (f (held_in held k)) (held_in held k)
  counted Normal Normal = refl
  counted Normal _ = refl
  counted Softirq Softirq = refl
  counted Softirq _ = refl
  counted Irq Irq = refl
  counted Irq _ = refl
  counted Nmi Nmi = refl
  counted Nmi _ = refl

module _ (g : GuardState) (x : Ctx) (e : context g.raised ≡ x) (k : Ctx) where
  -- a change of the present context's number leaves those of the others
  levels-apart : (f : ℕ → ℕ) → held_in (with_held g.held (context g.raised) (f (held_in g.held (context g.raised)))) k
      ≡ cond (same_ctx x k) (f (held_in g.held k)) (held_in g.held k)
  levels-apart f =
      subst (λ y. held_in (with_held g.held (context g.raised) (f (held_in g.held (context g.raised)))) k
      ≡ cond (same_ctx y k) (f (held_in g.held k)) (held_in g.held k)) e (counted g.held f (context g.raised) k)

  -- a level that is taken, and one that is given back
  pub taken-apart : held_in (entered g).held k ≡ cond (same_ctx x k) (suc (held_in g.held k)) (held_in g.held k)
  taken-apart = levels-apart suc

  pub given-apart : held_in (left g).held k ≡ cond (same_ctx x k) (held_in g.held k - 1) (held_in g.held k)
  given-apart = levels-apart (λ n. n - 1)

-- ## moments

-- a level of the guard of the top call's context is held for it
abbrev pub holding : CodeMoment → Bool
holding (Load (AtDepth u reg)) = true
holding (Mark (Calling u reg)) = true
holding (Mark (Missing u)) = true
holding (Mark (Acting u f x)) = true
holding (Mark (Ending u)) = true
holding _ = false

walking-held : (phase : WalkPhase) → holds_guard (walking_at phase) ≡ false
walking-held Starting = refl
walking-held (At u) = refl
walking-held WalkEnded = refl

judged-held : (u : ℕ) (v : Verdict) → holds_guard (judged u (λ reg. ClosingAt) v) ≡ false
judged-held u (On reg) = refl
judged-held u _ = refl

reading-held : (u : ℕ) (phase : ReadPhase) → holds_guard (reading_at u (λ reg. ClosingAt) phase) ≡ false
reading-held u AtSel = refl
reading-held u (AtFilter copy reg) = refl
reading-held u (AtNotrace copy reg) = refl
reading-held u (ReadEnded v) = judged-held u v

exiting-held : (users : List FrameUser) → holds_guard (exiting users) ≡ false
exiting-held [] = refl
exiting-held (m ∷ rest) = refl

ending-held : (users : List FrameUser) → holds_guard (ending_exit users) ≡ false
ending-held [] = refl
ending-held (m ∷ rest) = refl

module _ (o : CodeCall) (users : List FrameUser) where
  load-holding : (l : ToLoad) → holds_guard (moment_at o users (Load l)) ≡ holding (Load l)
  load-holding Walking = walking-held o.walk.phase
  load-holding (Reading r) = reading-held r.user r.phase
  load-holding (AtDepth u reg) = refl
  load-holding (AtExit i) = next-held (drop i users)
  load-holding _ = refl

  mark-holding : (l : ToMark) → holds_guard (moment_at o users (Mark l)) ≡ holding (Mark l)
  mark-holding (Calling u reg) = refl
  mark-holding (Missing u) = refl
  mark-holding (Acting u f x) = refl
  mark-holding (Ending u) = refl
  mark-holding (Exiting i) = exiting-held (drop i users)
  mark-holding (EndingExit i) = ending-held (drop i users)
  mark-holding _ = refl

  -- it is so for the machine's moment
  pub holding-is : (m : CodeMoment) → holds_guard (moment_at o users m) ≡ holding m
  holding-is Polling = refl
  holding-is First = refl
  holding-is (Load l) = load-holding l
  holding-is (Mark l) = mark-holding l

-- ## guards and contexts

-- the contexts that are raised are these, over others
abbrev pub IsOver : List Ctx → List Ctx → Type 0
IsOver cs raised = raised ≡ cs ++ drop (length cs) raised

-- guards and contexts are those of these calls at this moment
pub record GuardsAt (g : GuardState) (calls : List CodeCall) (ss : List StackedCall) (m : CodeMoment) : Type 0 where
  pub held : (k : Ctx) → held_in g.held k ≡ held_levels (guards_at (moment_at (top_of calls) (users_in (top_users ss)) m) (stack_in calls ss)) k
  pub raised : IsOver (act_raised (stack_in calls ss)) g.raised

-- those of a task
abbrev pub Guards : Task → Type 0
Guards t = GuardsAt t.guards t.opens.calls t.stacks.calls t.moment

-- the same by a call in context x, made by the script or by an act, over others, that holds a level of its guard or not
pub record GuardsIn (g : GuardState) (b : Bool) (x : Ctx) (scripted : Bool) (below : List OpenCall) : Type 0 where
  pub held : (k : Ctx) → held_in g.held k ≡ held_levels (cond b (x ∷ guards_under scripted below) (guards_under scripted below)) k
  pub raised : IsOver (cond scripted [] (raised_over x below (act_raised below))) g.raised

module _ (g : GuardState) (o : CodeCall) (os : List CodeCall) (s : StackedCall) (ss : List StackedCall) (m : CodeMoment) where
  -- the guards at the moment of the top call
  abbrev guards_by : Bool → List Ctx
  guards_by b = cond b (o.ctx ∷ guards_under o.scripted (stack_in os ss)) (guards_under o.scripted (stack_in os ss))

  guards-by : (b : Bool) → holding m ≡ b → guards_at (moment_at o (users_in s.users) m) (stack_in (o ∷ os) (s ∷ ss)) ≡ guards_by b
  guards-by b e = ap guards_by (holding-is o (users_in s.users) m ∙ e)

  pub in-call : (b : Bool) → holding m ≡ b → GuardsIn g b o.ctx o.scripted (stack_in os ss) → GuardsAt g (o ∷ os) (s ∷ ss) m
  in-call b e h = record {
    held = λ k. h.held k ∙ ap (λ gs. held_levels gs k) (sym (guards-by b e));
    raised = h.raised;
  }

  pub of-call : GuardsAt g (o ∷ os) (s ∷ ss) m → GuardsIn g (holding m) o.ctx o.scripted (stack_in os ss)
  of-call h = record {
    held = λ k. h.held k ∙ ap (λ gs. held_levels gs k) (guards-by (holding m) refl);
    raised = h.raised;
  }

-- they stay from moment to moment, as long as the level is held or isn't
pub guards-stay : (g : GuardState) (calls : List CodeCall) (ss : List StackedCall) (m m' : CodeMoment) → holding m ≡ holding m'
    → GuardsAt g calls ss m → GuardsAt g calls ss m'
guards-stay g [] ss m m' e h = record { held = h.held; raised = h.raised }
guards-stay g (o ∷ os) [] m m' e h = record { held = h.held; raised = h.raised }
guards-stay g (o ∷ os) (s ∷ ss) m m' e h = in-call g o os s ss m' (holding m) (sym e) (of-call g o os s ss m h)

-- ## raised contexts

-- any contexts are over none
pub over-none : (cs raised : List Ctx) → cs ≡ [] → IsOver cs raised
over-none cs raised e = subst (λ l. IsOver l raised) (sym e) refl
