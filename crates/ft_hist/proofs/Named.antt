-- On a plain run of a well-formed job each call is of one of the job's functions.
use Rattle.std.proofs.Common.{cond, ◌≡◌, ℕ, zero, suc, ◌<◌, true, false, nat_lt, nat_le, List, [], ◌∷◌, get_or, Option, Some, None, refl, subst}
use Rattle.std.specs.List.{AllByRecursion as Each}
use Rattle.ft_base.specs.declared.context.Ctx.{Ctx}
use Rattle.ft_base.specs.declared.context.Ctx.TheVariants.{Irq}
use Rattle.ft_base.specs.declared.item.Item.{Item}
use Rattle.ft_base.specs.declared.item.Item.TheVariants.{Enter}
use Rattle.ft_base.specs.declared.task.TaskAct.{TaskAct}
use Rattle.ft_base.specs.declared.task.TaskAct.TheVariants.{Call, Ret as RetAct, Raise, Lower, After}
use Rattle.ft_base.specs.declared.user.Act.{Act}
use Rattle.ft_base.specs.declared.user.Act.TheVariants.{CallIn, IrqIn}
use Rattle.ft_base.specs.Same.{rank}
use Rattle.ft_base.specs.Job.{Job, funcs, no_task}
use Rattle.ft_base.specs.Desk.{spec_at, plain_spec}
use Rattle.ft_base.specs.WellFormed.{IsActNamed, IsScript, IsWellFormed}
use Rattle.ft_base.proofs.Small.{each-get}
use Rattle.ft_hist.specs.Past.{done}
use Rattle.ft_hist.specs.Plain.{plain, PlainTask, Phase, Owed, InBack, ahead, owed_by, below_top}
use Rattle.ft_hist.proofs.Steps.{Step, step_begin, step_return, step_enter, step_act, step_back, step_miss, step_leave, step_ret, acts_ahead, run-holds}

-- each act that calls calls a function below n
abbrev pub ActsNamed : ℕ → List TaskAct → Type 0
ActsNamed n [] = Unit {0}
ActsNamed n (Call f ∷ rest) = (f.0 < n) × ActsNamed n rest
ActsNamed n (_ ∷ rest) = ActsNamed n rest

-- and so does a call that is owed
abbrev pub OwedNamed : ℕ → Option Owed → Type 0
OwedNamed n None = Unit {0}
OwedNamed n (Some o) = o.func < n

abbrev pub PhaseNamed : ℕ → Phase → Type 0
PhaseNamed n (InBack u owed fresh) = OwedNamed n owed
PhaseNamed n _ = Unit {0}

-- a task all of whose calls to come are of functions below n
pub record RunNamed (n : ℕ) (s : PlainTask) : Type 0 where
  pub acts : ActsNamed n s.acts
  pub stack : Each (λ t. PhaseNamed n t.phase) s.stack

-- an item that enters a call enters a function below n
abbrev pub EnterNamed : ℕ → Item → Type 0
EnterNamed n (Enter call ctx f caller) = f.0 < n
EnterNamed n _ = Unit {0}

script-acts : (job : Job) (n : ℕ) (acts : List TaskAct) → IsScript job n acts → ActsNamed (funcs job) acts
script-acts job n [] h = tt
script-acts job n (Call f ∷ rest) h = (h.0, script-acts job (suc n) rest h.1)
script-acts job zero (RetAct ∷ rest) h = absurd h
script-acts job (suc n) (RetAct ∷ rest) h = script-acts job n rest h
script-acts job n (Raise c ∷ rest) h = script-acts job n rest h
script-acts job n (Lower ∷ rest) h = script-acts job n rest h
script-acts job n (After m ∷ rest) h = script-acts job n rest h

ahead-acts : (n d : ℕ) (acts : List TaskAct) (cs : List Ctx) (gone : ℕ) → ActsNamed n acts → ActsNamed n (ahead d acts cs gone).acts
ahead-acts n d [] cs gone h = h
ahead-acts n d (Call f ∷ rest) cs gone h = h
ahead-acts n d (RetAct ∷ rest) cs gone h = h
ahead-acts n d (Raise c ∷ rest) cs gone h = ahead-acts n d rest (c ∷ cs) (suc gone) h
ahead-acts n d (Lower ∷ rest) cs gone h = ahead-acts n d rest (below_top cs) (suc gone) h
ahead-acts n d (After m ∷ rest) cs gone h =
    elim (nat_le m d) as (λ b. ActsNamed n (cond b (ahead d rest cs (suc gone)) (record { acts = After m ∷ rest; contexts = cs; gone = gone })).acts) [
      | true ↦ ahead-acts n d rest cs (suc gone) h
      | false ↦ h
    ]

-- what an act of the job owes
owed-named : (job : Job) (x : Ctx) (act : Option Act) → IsActNamed job act → OwedNamed (funcs job) (owed_by x act)
owed-named job x None h = tt
owed-named job x (Some (CallIn f)) h = h
owed-named job x (Some (IrqIn f)) h =
    elim (nat_lt (rank x) (rank Irq)) as (λ b. OwedNamed (funcs job) (cond b (Some (record { ctx = Irq; func = f.0 })) None)) [ true ↦ h | false ↦ tt ]

-- ## one more item of a task

module _ (n : ℕ) (job : Job) (owes : (x : Ctx) (u : ℕ) → OwedNamed n (owed_by x (spec_at job u).act)) (d : ℕ) where
  -- the acts ahead, of which the first is known
  acts : (p : PlainTask) (act : TaskAct) (rest : List TaskAct) → (acts_ahead d p).acts ≡ act ∷ rest → ActsNamed n p.acts → ActsNamed n (act ∷ rest)
  acts p act rest e h = subst (λ xs. ActsNamed n xs) e (ahead-acts n d p.acts p.contexts p.gone h)

  -- the run stays so, and an Enter is of a function below n
  pub named-after : (p s : PlainTask) (item : Item) → Step job d p s item → RunNamed n p → RunNamed n s × EnterNamed n item
  named-after p s item step_begin h = (h, tt)
  named-after p s item step_return h = (h, tt)
  named-after p s item (step_enter {f = f} {rest = rest} it quiet e x) h = let a = acts p (Call f) rest e h.acts in (record { acts = a.1; stack = (tt, h.stack) }, a.0)
  named-after p s item (step_act q g below it) h = (record { acts = h.acts; stack = (tt, (tt, h.stack.1)) }, h.stack.0)
  named-after p s item (step_back q f below {u = u}) h = (record { acts = h.acts; stack = (owes f.ctx u.0, h.stack.1) }, tt)
  named-after p s item (step_miss q f below) h = (record { acts = h.acts; stack = (h.stack.0, h.stack.1) }, tt)
  named-after p s item (step_leave q f below {rest = rest} e) h = (record { acts = acts q RetAct rest e h.acts; stack = (tt, h.stack.1) }, tt)
  named-after p s item (step_ret q f below) h = (record { acts = h.acts; stack = h.stack.1 }, tt)
  named-after p s item _ h = (record { acts = h.acts; stack = (tt, h.stack.1) }, tt)

-- ## a plain run of a well-formed job

module _ (job : Job) (is : IsWellFormed job) where
  owes : (x : Ctx) (u : ℕ) → OwedNamed (funcs job) (owed_by x (spec_at job u).act)
  owes x u = owed-named job x (spec_at job u).act (each-get (λ s. IsActNamed job s.act) job.users u plain_spec tt is.acts)

  pub run-named : (t : ℕ) (past : List Item) (s : PlainTask) → plain job t past ≡ Some s → RunNamed (funcs job) s
  run-named t = run-holds job t (λ past s. RunNamed (funcs job) s)
      (record { acts = script-acts job 0 (get_or job.tasks t no_task).acts (each-get (λ x. IsScript job 0 x.acts) job.tasks t no_task refl is.tasks); stack = tt })
      (λ item past p s own here k h. (named-after (funcs job) job owes (done past) p s item k h).0)
      (λ item past s other here h. h)

  -- the Enter of a call on a plain run
  pub enter-named : (past : List Item) (p s : PlainTask) (t : ℕ) (item : Item) → plain job t past ≡ Some p → Step job (done past) p s item → EnterNamed (funcs job) item
  enter-named past p s t item here k = (named-after (funcs job) job owes (done past) p s item k (run-named t past p here)).1
