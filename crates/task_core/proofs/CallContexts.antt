-- The contexts of the open calls of a task that keeps its invariant.
use Rattle.std.proofs.Common.{cond, ◌≡◌, ℕ, suc, ◌+◌, ◌*◌, ◌<◌, ◌≤◌, ◌⊎◌, Bool, true, false, ◌||◌, List, [], ◌∷◌, ◌++◌, refl, sym, ap, ◌∙◌, subst, arith, eqb-true, leb-false, inl, inr}
use Rattle.std.proofs.lemmas.Bool.{eq-eqb}
use Rattle.ft_base.specs.declared.context.Ctx.{Ctx}
use Rattle.ft_base.specs.declared.context.Ctx.TheVariants.{Irq}
use Rattle.ft_base.specs.Desk.{spec_at}
use Rattle.ft_base.specs.Job.{Job}
use Rattle.ft_base.specs.Same.{rank, same_ctx, context}
use Rattle.ft_base.specs.Versions.{levels}
use Rattle.ft_base.proofs.Small.{==-refl, false_true}
use Rattle.ft_hist.specs.Plain.{Owed}
use Rattle.ft_hist.specs.Dispatch.{held_levels}
use Rattle.word_machine.specs.Calls.{under_by, under_call}
use Rattle.word_machine.specs.Task.{OpenCall, TaskState, Moment, Acting, Ending, guards_under}
use Rattle.task_core.specs.TaskInvariant.{CallsInvariant, IsActContext, IsCalled, TaskInvariant, CallInvariant, act_calls, act_raised, ground_context, holds_guard, is_acted, is_dispatching, raised_over}
use Rattle.task_core.proofs.ExitGuards.{taken-levels}
use Rattle.task_core.proofs.InvariantMarks.{owed-context}

-- ## the present context

-- an act's call is in the context below, or raises it to that of an interrupt
raises : (b c : Ctx) → IsActContext b c → same_ctx c b ≡ false → (rank b < rank Irq) × (c ≡ Irq)
raises b c (inl e) ne = let y : same_ctx c b ≡ true = eq-eqb (rank c) (rank b) (ap rank e) in false_true (sym ne ∙ y)
raises b c (inr e) ne = e

stays : (b c : Ctx) → IsActContext b c → same_ctx c b ≡ true → c ≡ b
stays b c (inl e) same = e
stays b c (inr e) same =
    let lt : rank b < rank Irq = e.0 in
    let y : rank c ≡ rank b = eqb-true (rank c) (rank b) same in
    let z : rank c ≡ rank Irq = ap rank e.1 in
    absurd (omega (arith, lt, y, z))

-- ## levels

-- the levels that are held below a call, and the one of its own callback
abbrev guards_with : OpenCall → List OpenCall → List Ctx
guards_with c below = c.ctx ∷ guards_under c.scripted below

-- that is one more of its own context's
one-more : (c : OpenCall) (below : List OpenCall)
    → held_levels (guards_with c below) c.ctx ≡ suc (held_levels (guards_under c.scripted below) c.ctx)
one-more c below = taken-levels c.ctx (guards_under c.scripted below) c.ctx ∙ rw (==-refl (rank c.ctx)) refl

module _ (job : Job) where
  module _ (x : Ctx) (cs : List Ctx) where
    -- over the context of the call below
    over : (b : OpenCall) (bb : List OpenCall) → IsActContext b.ctx x → context (act_raised (b ∷ bb) ++ cs) ≡ b.ctx
        → context (raised_over x (b ∷ bb) (act_raised (b ∷ bb)) ++ cs) ≡ x
    over b bb called below = by (same_ctx x b.ctx) refl
      where
        by : (s : Bool) → same_ctx x b.ctx ≡ s → context (cond s (act_raised (b ∷ bb)) (x ∷ act_raised (b ∷ bb)) ++ cs) ≡ x
        by true e = below ∙ sym (stays b.ctx x called e)
        by false e = refl

  top-context : (cs : List Ctx) (m : Moment) (c : OpenCall) (below : List OpenCall) → CallsInvariant job m (c ∷ below) → ground_context (c ∷ below) ≡ context cs
      → context (act_raised (c ∷ below) ++ cs) ≡ c.ctx
  top-context cs m c [] k ground = by c.scripted k.0.called ground
    where
      by : (s : Bool) → IsCalled s c.ctx [] → cond s c.ctx (ground_context []) ≡ context cs → context (cond s [] [] ++ cs) ≡ c.ctx
      by true called g = sym g
      by false called g = absurd called
  top-context cs m c (b ∷ bb) k ground = by c.scripted k.0.called ground (λ g. top-context cs (under_call c (b ∷ bb)) b bb k.1 g)
    where
      by : (s : Bool) → IsCalled s c.ctx (b ∷ bb) → cond s c.ctx (ground_context (b ∷ bb)) ≡ context cs
          → (ground_context (b ∷ bb) ≡ context cs → context (act_raised (b ∷ bb) ++ cs) ≡ b.ctx)
          → context (cond s [] (raised_over c.ctx (b ∷ bb) (act_raised (b ∷ bb))) ++ cs) ≡ c.ctx
      by true called g below = sym g
      by false called g below = over c.ctx cs b bb called (below g)

  -- while the top call is in its dispatch, or an act made it, the context that was raised last is that of the call
  pub acted-context : (x : TaskState) → TaskInvariant job x → (c : OpenCall) (below : List OpenCall) → x.stack ≡ c ∷ below
      → (is_dispatching x.moment || is_acted x.stack) ≡ true → context (act_raised x.stack ++ x.contexts) ≡ c.ctx
  acted-context x k c below e h =
      subst (λ s. CallsInvariant job x.moment s → ground_context s ≡ context x.contexts → context (act_raised s ++ x.contexts) ≡ c.ctx) (sym e)
      (λ calls g. top-context x.contexts x.moment c below calls g) k.calls (k.ground h)

  pub context-is : (x : TaskState) → TaskInvariant job x → (c : OpenCall) (below : List OpenCall) → x.stack ≡ c ∷ below → is_dispatching x.moment ≡ true
      → context (act_raised x.stack ++ x.contexts) ≡ c.ctx
  context-is x k c below e h = acted-context x k c below e (rw h refl)

  -- a call that an act is about to make raises the context to that of an interrupt, if it is in another one than its caller
  pub act-raises : (x : TaskState) → TaskInvariant job x → (c : OpenCall) (below : List OpenCall) → x.stack ≡ c ∷ below → (u : ℕ) (o : Owed)
      → x.moment ≡ Acting u o → same_ctx o.ctx c.ctx ≡ false → (rank c.ctx < rank Irq) × (o.ctx ≡ Irq)
  act-raises x k c below e u o at' ne =
      let call : CallsInvariant job (Acting u o) (c ∷ below) = subst (λ (y : Moment × List OpenCall). CallsInvariant job y.0 y.1) (λ i. (at' i, e i)) k.calls in
      raises c.ctx o.ctx (owed-context c.ctx (spec_at job u).act o call.0.found) ne

  -- ## how many calls acts have made

  -- the call that made the top one is in its callback
  calls-under : (m : Moment) (c b : OpenCall) (bb : List OpenCall) → CallsInvariant job m (c ∷ b ∷ bb) → c.scripted ≡ false
      → CallsInvariant job (Ending b.user) (b ∷ bb)
  calls-under m c b bb k s = subst (λ s. CallsInvariant job (under_by s b.user) (b ∷ bb)) s k.1

  -- with its callback the top call holds no more levels than there are
  few-levels : (m : Moment) (c : OpenCall) (below : List OpenCall) → CallInvariant job c below m → holds_guard m ≡ true
      → held_levels (guards_with c below) c.ctx ≤ levels job
  few-levels m c below k h =
      let lt = leb-false (levels job) (held_levels (guards_under c.scripted below) c.ctx) (k.free h) in
      let e = one-more c below in
      omega (arith, lt, e)

  -- Of the top call and those below it, down to the scripted one, each is in a callback. All these callbacks are in the context of the top
  -- call, or that is an interrupt's, and no more of them are in another context than a guard has levels
  abbrev AreCounted : OpenCall → List OpenCall → Type 0
  AreCounted c below =
      (suc (act_calls (c ∷ below)) ≤ held_levels (guards_with c below) c.ctx)
      ⊎ ((c.ctx ≡ Irq) × (suc (act_calls (c ∷ below)) ≤ held_levels (guards_with c below) c.ctx + levels job))

  -- one call more, made by an act of the one below
  counted-over : (c b : OpenCall) (bb : List OpenCall) → c.scripted ≡ false → IsActContext b.ctx c.ctx
      → held_levels (guards_with b bb) b.ctx ≤ levels job → AreCounted b bb → AreCounted c (b ∷ bb)
  counted-over c b bb s called few k = by called k
    where
      calls : act_calls (c ∷ b ∷ bb) ≡ suc (act_calls (b ∷ bb))
      calls = rw s refl

      more : held_levels (guards_with c (b ∷ bb)) c.ctx ≡ suc (held_levels (guards_with b bb) c.ctx)
      more = one-more c (b ∷ bb) ∙ ap (λ (s : Bool). suc (held_levels (guards_under s (b ∷ bb)) c.ctx)) s

      by : IsActContext b.ctx c.ctx → AreCounted b bb → AreCounted c (b ∷ bb)
      by (inl e) (inl le) = (let same = ap (held_levels (guards_with b bb)) e in inl (omega (arith, le, calls, more, same)))
      by (inl e) (inr (irq, le)) = (let same = ap (held_levels (guards_with b bb)) e in inr (e ∙ irq, omega (arith, le, calls, more, same)))
      by (inr e) (inl le) = inr (e.1, omega (arith, le, few, calls, more))
      by (inr e) (inr (irq, le)) = (let lt = e.0 in let z : rank b.ctx ≡ rank Irq = ap rank irq in absurd (omega (arith, lt, z)))

  -- a call of the script
  counted-first : (c : OpenCall) (below : List OpenCall) → c.scripted ≡ true → AreCounted c below
  counted-first c below s =
      let none : act_calls (c ∷ below) ≡ 0 = rw s refl in
      let one = one-more c below in
      inl (omega (arith, none, one))

  counted : (m : Moment) (c : OpenCall) (below : List OpenCall) → CallsInvariant job m (c ∷ below) → AreCounted c below
  counted m c [] k = by c.scripted refl
    where
      by : (s : Bool) → c.scripted ≡ s → AreCounted c []
      by true s = counted-first c [] s
      by false s = absurd (subst (λ s. IsCalled s c.ctx []) s k.0.called)
  counted m c (b ∷ bb) k = by c.scripted refl (counted (under_call c (b ∷ bb)) b bb k.1)
    where
      by : (s : Bool) → c.scripted ≡ s → AreCounted b bb → AreCounted c (b ∷ bb)
      by true s more = counted-first c (b ∷ bb) s
      by false s more =
          counted-over c b bb s (subst (λ s. IsCalled s c.ctx (b ∷ bb)) s k.0.called)
          (few-levels (Ending b.user) b bb (calls-under m c b bb k s).0 refl) more

  few-calls : (m : Moment) (c : OpenCall) (below : List OpenCall) → CallsInvariant job m (c ∷ below) → holds_guard m ≡ true
      → act_calls (c ∷ below) < 2 * levels job
  few-calls m c below k h = by (counted m c below k) (few-levels m c below k.0 h)
    where
      by : AreCounted c below → held_levels (guards_with c below) c.ctx ≤ levels job → act_calls (c ∷ below) < 2 * levels job
      by (inl le) few = omega (arith, le, few)
      by (inr (irq, le)) few = omega (arith, le, few)

  -- while a user is called back, the acts have made fewer calls than the guards of two contexts have levels
  pub few-act-calls : (x : TaskState) → TaskInvariant job x → (c : OpenCall) (below : List OpenCall) → x.stack ≡ c ∷ below → holds_guard x.moment ≡ true
      → act_calls x.stack < 2 * levels job
  few-act-calls x k c below e h =
      subst (λ s. CallsInvariant job x.moment s → act_calls s < 2 * levels job) (sym e) (λ calls. few-calls x.moment c below calls h) k.calls
