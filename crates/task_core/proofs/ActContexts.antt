-- The contexts that the acts of a task have raised, from row to row.
use Rattle.std.proofs.Common.{cond, ◌≡◌, ℕ, ◌<◌, Bool, true, false, not, List, [], ◌∷◌, ◌++◌, nat_le, refl, sym, ◌∙◌, subst}
use Rattle.ft_base.specs.declared.context.Ctx.{Ctx}
use Rattle.ft_base.specs.declared.number.CallNo.{CallNo}
use Rattle.ft_base.specs.declared.task.TaskAct.{TaskAct}
use Rattle.ft_base.specs.declared.task.TaskAct.TheVariants.{Call, Ret as RetAct, Raise, Lower, After}
use Rattle.ft_base.specs.Job.{Job}
use Rattle.ft_base.specs.Same.{rank, same_ctx, context}
use Rattle.ft_base.specs.Acts.{AreRaised}
use Rattle.ft_base.proofs.Small.{false_true}
use Rattle.ft_hist.specs.Frames.{is_nil}
use Rattle.ft_hist.specs.Plain.{Owed, below_top}
use Rattle.word_map.specs.Contents.{returned_at}
use Rattle.word_machine.specs.Calls.{under_by}
use Rattle.word_machine.specs.Task.{OpenCall, TaskState, Moment, Polling, First, Acting, Closing, Leaving, Returning, at_moment, closed, finished, first_got, is_quiet, opened, task_got, user_of, with_top}
use Rattle.word_machine.specs.Tasks.{acts_by}
use Rattle.task_core.specs.TaskInvariant.{CallsInvariant, TaskInvariant, act_raised}
use Rattle.task_core.proofs.InvariantParts.{standing}

-- ## between acts

-- over a scripted call no context is raised by an act
scripted-raised : (c : OpenCall) (below : List OpenCall) → c.scripted ≡ true → act_raised (c ∷ below) ≡ []
scripted-raised c below s = rw s refl

module _ (job : Job) where
  pub none-raised : (m : Moment) (stack : List OpenCall) → is_quiet m ≡ true → CallsInvariant job m stack → act_raised stack ≡ []
  none-raised m [] q k = refl
  none-raised m (c ∷ below) q k = scripted-raised c below (k.0.scripted q)

  pub quiet-raised : (x : TaskState) → TaskInvariant job x → is_quiet x.moment ≡ true → act_raised x.stack ≡ []
  quiet-raised x k q = none-raised x.moment x.stack q k.calls

  -- so the present context is that of the script
  pub script-context : (x : TaskState) → TaskInvariant job x → is_quiet x.moment ≡ true → context (act_raised x.stack ++ x.contexts) ≡ context x.contexts
  script-context x k q = rw (quiet-raised x k q) refl

  acts-raised : (x : TaskState) → TaskInvariant job x → is_quiet x.moment ≡ true → AreRaised x.contexts x.acts
  acts-raised x k q = subst (λ b. AreRaised x.contexts (acts_by b x.acts)) q k.raised

  -- an interrupt of the script may come
  pub may-raise : (x : TaskState) → TaskInvariant job x → is_quiet x.moment ≡ true → (c : Ctx) (rest : List TaskAct) → x.acts ≡ Raise c ∷ rest
      → rank (context (act_raised x.stack ++ x.contexts)) < rank c
  may-raise x k q c rest e = rw (quiet-raised x k q) (subst (λ acts. AreRaised x.contexts acts) e (acts-raised x k q)).0

  -- and one may go: the contexts below it are left
  pub may-lower : (x : TaskState) → TaskInvariant job x → is_quiet x.moment ≡ true → (rest : List TaskAct) → x.acts ≡ Lower ∷ rest
      → act_raised x.stack ++ x.contexts ≡ context x.contexts ∷ below_top x.contexts
  may-lower x k q rest e = rw (quiet-raised x k q) (by x.contexts (subst (λ acts. AreRaised x.contexts acts) e (acts-raised x k q)))
    where
      by : (cs : List Ctx) → AreRaised cs (Lower ∷ rest) → cs ≡ context cs ∷ below_top cs
      by [] h = absurd h
      by (c ∷ cs) h = refl

-- ## the rows

-- at these moments no call of an act is entered or left
abbrev pub raised_stay : Moment → Bool
raised_stay (Acting u o) = false
raised_stay Returning = false
raised_stay _ = true

module _ (job : Job) (t v : ℕ) (x : TaskState) where
  first-raised : (acts : List TaskAct) (stack : List OpenCall) → CallsInvariant job First stack
      → act_raised (first_got t (record x { acts = acts; stack = stack; moment = First }) acts stack v).stack ≡ act_raised stack
  first-raised [] stack k = refl
  first-raised (Call f ∷ rest) stack k = sym (none-raised job First stack refl k)
  first-raised (RetAct ∷ rest) [] k = refl
  first-raised (RetAct ∷ rest) (c ∷ below) k = refl
  first-raised (Raise c ∷ rest) stack k = refl
  first-raised (Lower ∷ rest) stack k = refl
  first-raised (After n ∷ rest) stack k = by (nat_le n (returned_at v))
    where
      y : TaskState
      y = record x { acts = After n ∷ rest; stack = stack; moment = First }

      by : (b : Bool) → act_raised (cond b (finished y stack) (at_moment y Polling)).stack ≡ act_raised stack
      by true = refl
      by false = refl

  closed-raised : (c : OpenCall) (below : List OpenCall) → act_raised (closed (standing x (c ∷ below) Closing) c below).stack ≡ act_raised (c ∷ below)
  closed-raised c below = by c.scripted
    where
      y : TaskState
      y = standing x (c ∷ below) Closing

      c' : OpenCall
      c' = record c { framed = not (is_nil c.users) }

      by : (s : Bool) → act_raised (cond s (finished y (c' ∷ below)) (with_top y c' below Leaving)).stack ≡ act_raised (c ∷ below)
      by true = refl
      by false = refl

  raised-row : (m : Moment) (stack : List OpenCall) → raised_stay m ≡ true → CallsInvariant job m stack
      → act_raised (task_got job t (standing x stack m) m v).stack ≡ act_raised stack
  raised-row First stack e k = first-raised x.acts stack k
  raised-row Polling [] e k = refl
  raised-row m [] e k = refl
  raised-row (Acting u o) (c ∷ below) e k = false_true e
  raised-row Returning (c ∷ below) e k = false_true e
  raised-row Closing (c ∷ below) e k = closed-raised c below
  raised-row _ (c ∷ below) e k = refl

-- at these moments the contexts stay
pub raised-stayed : (job : Job) (t v : ℕ) (x : TaskState) → TaskInvariant job x → raised_stay x.moment ≡ true
    → act_raised (task_got job t x x.moment v).stack ≡ act_raised x.stack
raised-stayed job t v x k e = raised-row job t v x x.moment x.stack e k.calls

-- a call of an act raises its context, unless it is that of its caller
pub act-raised : (call : CallNo) (u : ℕ) (o : Owed) (c : OpenCall) (below : List OpenCall)
    → act_raised (opened call o.ctx o.func false ∷ record c { user = u } ∷ below)
    ≡ cond (same_ctx o.ctx c.ctx) (act_raised (c ∷ below)) (o.ctx ∷ act_raised (c ∷ below))
act-raised call u o c below = refl

-- and takes it back as it returns
pub back-raised : (c b : OpenCall) (bb : List OpenCall) → c.scripted ≡ false
    → act_raised (c ∷ b ∷ bb) ≡ cond (same_ctx c.ctx b.ctx) (act_raised (b ∷ bb)) (c.ctx ∷ act_raised (b ∷ bb))
back-raised c b bb s = rw s refl

-- a call of the script had none raised, nor has the one below
pub script-back_raised : (job : Job) (c : OpenCall) (below : List OpenCall) → c.scripted ≡ true → CallsInvariant job Returning (c ∷ below)
    → act_raised below ≡ act_raised (c ∷ below)
script-back_raised job c below s k =
    none-raised job First below refl (subst (λ b. CallsInvariant job (under_by b (user_of below)) below) s k.1) ∙ sym (scripted-raised c below s)
