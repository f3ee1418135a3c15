-- The open callbacks of a task are those of the calls on its stack, so how many are open in a context is counted there.
use Rattle.std.proofs.Common.{cond, if◌then◌else◌, ◌≡◌, ℕ, suc, ◌+◌, ◌<◌, Bool, true, false, ◌&&◌, ◌==◌, List, [], ◌∷◌, Option, Some, None, is_some, refl, sym, ap, ◌∙◌, subst, arith, inl, inr}
use Rattle.std.specs.Prelude.{count_by}
use Rattle.std.specs.List.{AllByRecursion as Each}
use Rattle.std.proofs.lemmas.Bool.Decides.{eqb_tells}
use Rattle.std.proofs.lemmas.List.Sums.{sum_by-cons}
use Rattle.ft_base.specs.declared.number.CallNo.{CallNo}
use Rattle.ft_base.specs.declared.number.FuncNo.{FuncNo}
use Rattle.ft_base.specs.declared.context.Ctx.{Ctx}
use Rattle.ft_base.specs.declared.item.Item.{Item}
use Rattle.ft_base.specs.declared.item.Item.TheVariants.{Enter}
use Rattle.ft_base.specs.Same.{same_call, same_ctx}
use Rattle.ft_base.specs.Job.{Job}
use Rattle.ft_base.proofs.Small.{==-refl, and_both, and-false, Each-weaker}
use Rattle.ft_hist.specs.Past.{is_of, done, Entered, entered, entry_of, ctx_of, Callback, callbacks, ended, is_at, is_ctx, open_callbacks}
use Rattle.ft_hist.specs.Plain.{plain, PlainTask, Frame, Phase, InBack, InExit, in_phase}
use Rattle.ft_hist.proofs.Laws.{same_call-refl}
use Rattle.ft_hist.proofs.RunLaws.{some_inj, same_call-eq, calls_on, sound}
use Rattle.ft_hist.proofs.Steps.{Step, step_enter, step_act, step_back, step_back_end, step_exit, step_exit_end, step_ret, run-holds}
use Rattle.ft_hist.proofs.Carries.{of_task, carries_item}

-- ## what stands on a stack

-- the user in whose callback a call is
abbrev pub user_in : Phase → Option ℕ
user_in (InBack u owed fresh) = Some u
user_in (InExit u) = Some u
user_in _ = None

-- a call on a stack, with the user in whose callback it is
pub record Standing : Type 0 where
  pub call : CallNo
  pub ctx : Ctx
  pub user : Option ℕ

abbrev pub stands : CallNo → Ctx → Option ℕ → Standing
stands call x user = record { call = call; ctx = x; user = user }

abbrev pub standing : List Frame → List Standing
standing [] = []
standing (f ∷ below) = stands f.call f.ctx (user_in f.phase) ∷ standing below

-- the open callbacks of these calls
abbrev pub open_on : List Standing → List Callback
open_on [] = []
open_on (s ∷ below) = with_open s.call s.ctx s.user (open_on below)
  where
    with_open : CallNo → Ctx → Option ℕ → List Callback → List Callback
    with_open call x None bs = bs
    with_open call x (Some u) bs = record { call = call; user = u; ctx = Some x } ∷ bs

-- how many of them are in a context
abbrev pub opens_at : Ctx → List Standing → ℕ
opens_at x [] = 0
opens_at x (s ∷ below) = if is_some s.user && same_ctx s.ctx x then suc (opens_at x below) else opens_at x below

pub each-standing : (P : CallNo → Type 0) (fs : List Frame) → Each P (calls_on fs) → Each (λ s. P s.call) (standing fs)
each-standing P [] h = tt
each-standing P (f ∷ fs) h = (h.0, each-standing P fs h.1)

-- a call is none of those with lower numbers
pub lower-apart : (call : CallNo) (cs : List CallNo) → Each (λ c. c.n < call.n) cs → Each (λ c. same_call call c ≡ false) cs
lower-apart call cs h = Each-weaker (λ c. c.n < call.n) (λ c. same_call call c ≡ false) cs (λ c lt. one c lt) h
  where
    one : (c : CallNo) → c.n < call.n → same_call call c ≡ false
    one c lt = elim (eqb_tells call.n c.n) [
      | inl e ↦ (let same = e.1 in absurd (omega (arith, lt, same)))
      | inr e ↦ rw (e.0, and-false (call.task.0 == c.task.0)) refl
    ]

-- ## the callbacks that are open

ended-own : (t : ℕ) (call : CallNo) (u : ℕ) (bs : List Callback) → (call.task.0 == t) ≡ true → of_task t (ended call u bs) ≡ ended call u (of_task t bs)
ended-own t call u [] own = refl
ended-own t call u (b ∷ bs) own = by (same_call b.call call && (b.user == u)) refl (ended-own t call u bs own)
  where
    by : (e : Bool) → (same_call b.call call && (b.user == u)) ≡ e → of_task t (ended call u bs) ≡ ended call u (of_task t bs)
        → of_task t (cond e bs (b ∷ ended call u bs)) ≡ ended call u (cond (b.call.task.0 == t) (b ∷ of_task t bs) (of_task t bs))
    by true e more =
        let is : b.call ≡ call = same_call-eq b.call call (and_both (same_call b.call call) (b.user == u) e).0 in
        let task : (b.call.task.0 == t) ≡ true = subst (λ (c : CallNo). (c.task.0 == t) ≡ true) (sym is) own in
        rw (task, e) refl
    by false e more = there (b.call.task.0 == t)
      where
        there : (o : Bool) → cond o (b ∷ of_task t (ended call u bs)) (of_task t (ended call u bs)) ≡ ended call u (cond o (b ∷ of_task t bs) (of_task t bs))
        there true = rw (e, more) refl
        there false = more

abbrev HasCtx : List Item → Standing → Type 0
HasCtx past s = ctx_of s.call past ≡ Some s.ctx

-- a task's open callbacks are those of its stack, and each call there was entered in its context
pub record Opened (t : ℕ) (past : List Item) (ss : List Standing) : Type 0 where
  pub opens : of_task t (callbacks past) ≡ open_on ss
  pub ctxs : Each (HasCtx past) ss

module _ (t : ℕ) (past : List Item) where
  -- the callback that the top call is in ends
  ended-top : (call : CallNo) (x : Ctx) (u : ℕ) (below : List Standing) → (call.task.0 == t) ≡ true → of_task t (callbacks past) ≡ record { call = call; user = u; ctx = Some x } ∷ open_on below
      → of_task t (ended call u (callbacks past)) ≡ open_on below
  ended-top call x u below own h = ended-own t call u (callbacks past) own ∙ rw (h, same_call-refl call, ==-refl u) refl

  entered-apart : (call : CallNo) (x : Ctx) (f : FuncNo) (caller : Option CallNo) (ss : List Standing) → Each (λ s. same_call call s.call ≡ false) ss → Each (HasCtx past) ss → Each (HasCtx (Enter call x f caller ∷ past)) ss
  entered-apart call x f caller [] apart c = tt
  entered-apart call x f caller (s ∷ ss) apart c = (rw apart.0 c.0, entered-apart call x f caller ss apart.1 c.1)

  -- a call is entered over this stack
  opened-enter : (call : CallNo) (x : Ctx) (f : FuncNo) (caller : Option CallNo) (fs : List Frame) (next : ℕ) → call.n ≡ next → Each (λ c. c.n < next) (calls_on fs) → Opened t past (standing fs)
      → Opened t (Enter call x f caller ∷ past) (stands call x None ∷ standing fs)
  opened-enter call x f caller fs next number lower h = record {
    opens = h.opens;
    ctxs = (rw (same_call-refl call) refl, entered-apart call x f caller (standing fs) (each-standing (λ c. same_call call c ≡ false) fs (lower-apart call (calls_on fs) (rw number lower))) h.ctxs);
  }

opened-own : (job : Job) (d t : ℕ) (past : List Item) (p s : PlainTask) (item : Item) → is_of t item ≡ true → Step job d p s item → Each (λ c. c.n < p.next) (calls_on p.stack)
    → Opened t past (standing p.stack) → Opened t (item ∷ past) (standing s.stack)
opened-own job d t past p s item own (step_enter {call = call} {x = x} {f = f} {caller = caller} it quiet acts is) n h = opened-enter t past call x f caller p.stack p.next it.number n h
opened-own job d t past p s item own (step_act q g below {u = u} {fresh = fresh} {call = call} {x = x} {f = f} {caller = caller} it) n h =
    opened-enter t past call x f caller (in_phase g (InBack u (Some (record { ctx = x; func = f.0 })) fresh) ∷ below) q.next it.number n h
opened-own job d t past p s item own (step_back q f below) n h = record { opens = rw (own, h.ctxs.0, h.opens) refl; ctxs = h.ctxs }
opened-own job d t past p s item own (step_exit q f below) n h = record { opens = rw (own, h.ctxs.0, h.opens) refl; ctxs = h.ctxs }
opened-own job d t past p s item own (step_back_end q f below {u = u}) n h = record { opens = ended-top t past f.call f.ctx u.0 (standing below) own h.opens; ctxs = h.ctxs }
opened-own job d t past p s item own (step_exit_end q f below {u = u}) n h = record { opens = ended-top t past f.call f.ctx u.0 (standing below) own h.opens; ctxs = h.ctxs }
opened-own job d t past p s item own (step_ret q f below) n h = record { opens = h.opens; ctxs = h.ctxs.1 }
opened-own job d t past p s item own _ n h = record { opens = h.opens; ctxs = h.ctxs }

opened-other : (job : Job) (t : ℕ) (item : Item) (past : List Item) (s : PlainTask) → is_of t item ≡ false → Each (λ f. f.call.task.0 ≡ t) (standing s.stack) → Opened t past (standing s.stack) → Opened t (item ∷ past) (standing s.stack)
opened-other job t item past s other own h =
    let c = carries_item job t item past other in
    record { opens = c.opens ∙ h.opens; ctxs = ctxs (standing s.stack) own h.ctxs }
  where
    ctxs : (ss : List Standing) → Each (λ f. f.call.task.0 ≡ t) ss → Each (HasCtx past) ss → Each (HasCtx (item ∷ past)) ss
    ctxs [] own h = tt
    ctxs (s ∷ ss) own h = (rw ((carries_item job t item past other).calls s.call own.0).entered h.0, ctxs ss own.1 h.1)

pub opened : (job : Job) (t : ℕ) (past : List Item) (s : PlainTask) → plain job t past ≡ Some s → Opened t past (standing s.stack)
opened job t = run-holds job t (λ past s. Opened t past (standing s.stack)) (record { opens = refl; ctxs = tt })
    (λ item past p s own here k h. opened-own job (done past) t past p s item own k (sound job t past p here).number h)
    (λ item past s other here h. opened-other job t item past s other (each-standing (λ c. c.task.0 ≡ t) s.stack (sound job t past s here).task) h)

-- ## counts

count-cons : (p : Callback → Bool) (b : Callback) (bs : List Callback) → count_by p (b ∷ bs) ≡ (if p b then 1 else 0) + count_by p bs
count-cons p b bs = sum_by-cons (λ (c : Callback). cond (p c) 1 0) b bs

-- the callbacks of a task in a context
pub count-of_task : (t : ℕ) (x : Ctx) (bs : List Callback) → count_by (is_at t x) bs ≡ count_by (λ b. is_ctx b.ctx x) (of_task t bs)
count-of_task t x [] = refl
count-of_task t x (b ∷ bs) = count-cons (is_at t x) b bs ∙ by (b.call.task.0 == t) (count-of_task t x bs)
  where
    by : (e : Bool) → count_by (is_at t x) bs ≡ count_by (λ b. is_ctx b.ctx x) (of_task t bs)
        → (cond (e && is_ctx b.ctx x) 1 0) + count_by (is_at t x) bs ≡ count_by (λ b. is_ctx b.ctx x) (cond e (b ∷ of_task t bs) (of_task t bs))
    by true more = ap (λ n. (cond (is_ctx b.ctx x) 1 0) + n) more ∙ sym (count-cons (λ c. is_ctx c.ctx x) b (of_task t bs))
    by false more = omega (arith, more)

count-on : (x : Ctx) (ss : List Standing) → count_by (λ b. is_ctx b.ctx x) (open_on ss) ≡ opens_at x ss
count-on x [] = refl
count-on x (s ∷ ss) = by s.user (count-on x ss)
  where
    by : (u : Option ℕ) → count_by (λ b. is_ctx b.ctx x) (open_on ss) ≡ opens_at x ss → count_by (λ b. is_ctx b.ctx x) (open_on (stands s.call s.ctx u ∷ ss)) ≡ opens_at x (stands s.call s.ctx u ∷ ss)
    by None more = more
    by (Some u) more = count-cons (λ b. is_ctx b.ctx x) (record { call = s.call; user = u; ctx = Some s.ctx }) (open_on ss) ∙ one (same_ctx s.ctx x)
      where
        one : (c : Bool) → (cond c 1 0) + count_by (λ b. is_ctx b.ctx x) (open_on ss) ≡ cond c (suc (opens_at x ss)) (opens_at x ss)
        one true = omega (arith, more)
        one false = omega (arith, more)

-- how many callbacks of a task are open in a context is counted on its stack
pub opens-are : (job : Job) (t : ℕ) (x : Ctx) (past : List Item) (s : PlainTask) → plain job t past ≡ Some s → open_callbacks t x past ≡ opens_at x (standing s.stack)
opens-are job t x past s here = count-of_task t x (callbacks past) ∙ rw (opened job t past s here).opens (count-on x (standing s.stack))

-- where the top call is in no callback, those that are open in its context are counted below it
pub opens-below : (job : Job) (call : CallNo) (x : Ctx) (below : List Standing) (past : List Item) (s : PlainTask) → plain job call.task.0 past ≡ Some s → standing s.stack ≡ stands call x None ∷ below
    → open_callbacks call.task.0 (entry_of call past).ctx past ≡ opens_at x below
opens-below job call x below past s here top =
    let entered-in = (rw top at (opened job call.task.0 past s here).ctxs).0 in
    rw (entry entered-in) (opens-are job call.task.0 x past s here ∙ ap (opens_at x) top)
  where
    entry : ctx_of call past ≡ Some x → (entry_of call past).ctx ≡ x
    entry h = by (entered call past) refl
      where
        by : (o : Option Entered) → entered call past ≡ o → (entry_of call past).ctx ≡ x
        by None e = let none = rw e at h in absurd cc
        by (Some n) e = let is = rw e at h in rw e (some_inj n.ctx x is)
