-- What a plain run says of its past: how an item moves it, and that its calls are numbered.
use Rattle.std.proofs.Common.{◌≡◌, ℕ, suc, ◌<◌, true, false, ◌==◌, List, [], ◌∷◌, Option, Some, refl, sym, ◌∙◌, arith, eqb-true, inl, inr, ◌≤◌}
use Rattle.std.proofs.lemmas.Bool.Decides.{eqb_tells}
use Rattle.std.specs.List.{AllByRecursion as Each}
use Rattle.ft_base.specs.declared.number.CallNo.{CallNo}
use Rattle.ft_base.specs.declared.number.FuncNo.{FuncNo}
use Rattle.ft_base.specs.declared.context.Ctx.{Ctx}
use Rattle.ft_base.specs.declared.item.Item.{Item}
use Rattle.ft_base.specs.declared.item.Item.TheVariants.{Begin, Return, Enter, Back, BackEnd, Refuse, Miss, Body, Leave, Exit, ExitEnd, Ret}
use Rattle.ft_base.specs.Same.{same_call}
use Rattle.ft_base.specs.Job.{Job}
use Rattle.ft_base.proofs.Small.{false_true, ==-refl, and-false, Each-weaker}
use Rattle.ft_hist.specs.Past.{is_of, done, all_visits, Visit, is_dispatched, exits}
use Rattle.ft_hist.specs.Plain.{plain, PlainTask, Frame, top_call}
use Rattle.ft_hist.proofs.Laws.{other-task}
use Rattle.ft_hist.proofs.Steps.{Step, step_begin, step_return, step_enter, step_act, step_back, step_refuse, step_body, step_exit, step_ret, run-holds}
pub use Rattle.ft_hist.proofs.Steps.{if_some, some_inj, same_call-eq}

-- the calls of a stack
abbrev pub calls_on : List Frame → List CallNo
calls_on [] = []
calls_on (f ∷ below) = f.call ∷ calls_on below

pub record Enters (s s' : PlainTask) (call : CallNo) (caller : Option CallNo) : Type 0 where
  pub number : call.n ≡ s.next
  pub from : caller ≡ top_call s.stack
  pub next : s'.next ≡ suc s.next
  pub calls : calls_on s'.stack ≡ call ∷ calls_on s.stack

pub record Returns (s s' : PlainTask) (call : CallNo) (to : Option CallNo) : Type 0 where
  pub to_is : to ≡ top_call s'.stack
  pub next : s'.next ≡ s.next
  pub calls : calls_on s.stack ≡ call ∷ calls_on s'.stack

pub record Keeps (s s' : PlainTask) (call : CallNo) : Type 0 where
  pub next : s'.next ≡ s.next
  pub calls : calls_on s'.stack ≡ calls_on s.stack
  pub top : (rest : List CallNo) × (calls_on s.stack ≡ call ∷ rest)

-- how an item of a task moves its plain run
abbrev pub Moves : PlainTask → PlainTask → Item → Type 0
Moves s s' (Begin k) = Unit {0}
Moves s s' (Return k a) = Unit {0}
Moves s s' (Enter call x f caller) = Enters s s' call caller
Moves s s' (Back call u) = Keeps s s' call
Moves s s' (BackEnd call u) = Keeps s s' call
Moves s s' (Refuse call u reason) = Keeps s s' call
Moves s s' (Miss call u) = Keeps s s' call
Moves s s' (Body call g ran) = Keeps s s' call
Moves s s' (Leave call) = Keeps s s' call
Moves s s' (Exit call u entry) = Keeps s s' call
Moves s s' (ExitEnd call u) = Keeps s s' call
Moves s s' (Ret call to) = Returns s s' call to

module _ (job : Job) (d : ℕ) where
  pub step-moves : (p s : PlainTask) (item : Item) → Step job d p s item → Moves p s item
  step-moves p s item step_begin = tt
  step-moves p s item step_return = tt
  step-moves p s item (step_enter it quiet acts x) = record { number = it.number; from = it.from; next = refl; calls = refl }
  step-moves p s item (step_act q g below it) = record { number = it.number; from = it.from; next = refl; calls = refl }
  step-moves p s item (step_ret q f below) = record { to_is = refl; next = refl; calls = refl }
  step-moves p s item _ = record { next = refl; calls = refl; top = (_, refl) }

ne_b : (a b : ℕ) → a < b → (a == b) ≡ false
ne_b a b lt = elim (eqb_tells a b) [ inl x ↦ (let y : a ≡ b = x.1 in absurd (omega arith)) | inr x ↦ x.0 ]

-- the calls of a task's stack are numbered, the latest first, and no call that is still to come has visited anybody
pub record Sound (job : Job) (t : ℕ) (past : List Item) (next : ℕ) (calls : List CallNo) : Type 0 where
  pub task : Each (λ c. c.task.0 ≡ t) calls
  pub number : Each (λ c. c.n < next) calls
  pub visits : Each (λ m. m.call.task.0 ≡ t → m.call.n < next) (all_visits job past)
  pub fresh : (c : CallNo) → c.task.0 ≡ t → next ≤ c.n → (is_dispatched c past ≡ false) × (exits c past ≡ [])

-- a visit of another task's call
abbrev pub IsNumbered : ℕ → ℕ → Visit → Type 0
IsNumbered t next m = m.call.task.0 ≡ t → m.call.n < next

ne : (a b : ℕ) → (a == b) ≡ false → a ≡ b → {A : Type 0} → A
ne a b e x {A} = false_true (sym e ∙ (rw x (==-refl b)))

module _ (job : Job) (t : ℕ) (past : List Item) where
  -- a call that is entered
  sound-enter : (next : ℕ) (calls : List CallNo) (call : CallNo) (x : Ctx) (f : FuncNo) (caller : Option CallNo) → is_of t (Enter call x f caller) ≡ true → call.n ≡ next
      → Sound job t past next calls → Sound job t (Enter call x f caller ∷ past) (suc next) (call ∷ calls)
  unfolding all_visits
  sound-enter next calls call x f caller own number h = record {
    task = (eqb-true call.task.0 t own, h.task);
    number = (omega (arith, number), Each-weaker (λ c. c.n < next) (λ c. c.n < suc next) calls (λ c lt. omega (arith, lt)) h.number);
    visits = Each-weaker (IsNumbered t next) (IsNumbered t (suc next)) (all_visits job past) (λ c lt e. let l = lt e in omega (arith, l)) h.visits;
    fresh = λ c e le. h.fresh c e (omega (arith, le));
  }

  -- the top call isn't one that is still to come
  top-other : (call c : CallNo) (next : ℕ) → call.n < next → next ≤ c.n → same_call call c ≡ false
  top-other call c next lt le = let ne' : (call.n == c.n) ≡ false = ne_b call.n c.n (omega (arith, lt, le)) in rw (ne', and-false (call.task.0 == c.task.0)) refl

  -- one more item of the task
  sound-own : (d : ℕ) (p s : PlainTask) (item : Item) → is_of t item ≡ true → Step job d p s item → Sound job t past p.next (calls_on p.stack) → Sound job t (item ∷ past) s.next (calls_on s.stack)
  unfolding all_visits
  sound-own d p s item own (step_enter it quiet acts x) h = sound-enter p.next (calls_on p.stack) _ _ _ _ own it.number h
  sound-own d p s item own (step_act q g below it) h = sound-enter q.next (g.call ∷ calls_on below) _ _ _ _ own it.number h
  sound-own d p s item own (step_back q f below) h = record { task = h.task; number = h.number; visits = (λ _. h.number.0, h.visits); fresh = h.fresh }
  sound-own d p s item own (step_refuse q f below) h = record { task = h.task; number = h.number; visits = (λ _. h.number.0, h.visits); fresh = h.fresh }
  sound-own d p s item own (step_body q f below) h = record {
    task = h.task;
    number = h.number;
    visits = h.visits;
    fresh = λ c e le. (rw (top-other f.call c q.next h.number.0 le) (h.fresh c e le).0, (h.fresh c e le).1);
  }
  sound-own d p s item own (step_exit q f below) h = record {
    task = h.task;
    number = h.number;
    visits = h.visits;
    fresh = λ c e le. ((h.fresh c e le).0, rw (top-other f.call c q.next h.number.0 le) (h.fresh c e le).1);
  }
  sound-own d p s item own (step_ret q f below) h = record { task = h.task.1; number = h.number.1; visits = h.visits; fresh = h.fresh }
  sound-own d p s item own _ h = record { task = h.task; number = h.number; visits = h.visits; fresh = h.fresh }

  -- one more item of another
  sound-other : (next : ℕ) (calls : List CallNo) (item : Item) → is_of t item ≡ false → Sound job t past next calls → Sound job t (item ∷ past) next calls
  unfolding all_visits
  sound-other next calls (Back call u) other h = record { task = h.task; number = h.number; visits = (λ e. ne call.task.0 t other e, h.visits); fresh = h.fresh }
  sound-other next calls (Refuse call u reason) other h = record { task = h.task; number = h.number; visits = (λ e. ne call.task.0 t other e, h.visits); fresh = h.fresh }
  sound-other next calls (Body call g ran) other h = record {
    task = h.task;
    number = h.number;
    visits = h.visits;
    fresh = λ c e' le. (rw (other-task t call c other e') (h.fresh c e' le).0, (h.fresh c e' le).1);
  }
  sound-other next calls (Exit call u entry) other h = record {
    task = h.task;
    number = h.number;
    visits = h.visits;
    fresh = λ c e' le. ((h.fresh c e' le).0, rw (other-task t call c other e') (h.fresh c e' le).1);
  }
  sound-other next calls _ other h = record { task = h.task; number = h.number; visits = h.visits; fresh = h.fresh }

-- so a plain run is sound
pub sound : (job : Job) (t : ℕ) (past : List Item) (s : PlainTask) → plain job t past ≡ Some s → Sound job t past s.next (calls_on s.stack)
unfolding all_visits
sound job t = run-holds job t (λ past s. Sound job t past s.next (calls_on s.stack)) (record { task = tt; number = tt; visits = tt; fresh = λ c e le. (refl, refl) })
    (λ item past p s own here k h. sound-own job t past (done past) p s item own k h)
    (λ item past s other here h. sound-other job t past s.next (calls_on s.stack) item other h)
