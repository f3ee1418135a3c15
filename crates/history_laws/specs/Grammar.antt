-- The plain run of a task as a grammar over an ordinary stack of calls, without phases. Each part says of a list of items that it
-- begins with such a part, and which items come after it. If it can make calls, it also says how the number of the task's next
-- call goes on: `Try call x n items n' rest` says that `items` are a try in that call's dispatch, in context x, and then `rest`,
-- and that the next call has the number n before the try and n' after it.
use Rattle.std.specs.Prelude.{ℕ, suc, ◌<◌, ◌≤◌, List, [], ◌∷◌, ◌++◌, get_or, Option, Some, None, if◌then◌else◌}
use Rattle.ft_base.specs.declared.number.CallNo.{CallNo}
use Rattle.ft_base.specs.declared.number.FuncNo.{FuncNo}
use Rattle.ft_base.specs.declared.number.UserNo.{UserNo}
use Rattle.ft_base.specs.declared.context.Ctx.{Ctx}
use Rattle.ft_base.specs.declared.context.Ctx.TheVariants.{Irq}
use Rattle.ft_base.specs.declared.item.Ran.{Ran}
use Rattle.ft_base.specs.declared.item.Reason.{Reason}
use Rattle.ft_base.specs.declared.item.Item.{Item}
use Rattle.ft_base.specs.declared.item.Item.TheVariants.{Enter, Back, BackEnd, Refuse, Miss, Body, Leave, Exit, ExitEnd, Ret}
use Rattle.ft_base.specs.declared.task.TaskAct.{TaskAct}
use Rattle.ft_base.specs.declared.task.TaskAct.TheVariants.{Call, Ret as RetAct, Raise, Lower, After}
use Rattle.ft_base.specs.declared.user.Act.{Act}
use Rattle.ft_base.specs.declared.user.Act.TheVariants.{CallIn, IrqIn}
use Rattle.ft_base.specs.Same.{rank, context}
use Rattle.ft_base.specs.Job.{Job, no_task}
use Rattle.ft_base.specs.Desk.{spec_at}
use Rattle.ft_hist.specs.Past.{done, is_of}
use Rattle.ft_hist.specs.Plain.{below_top}

-- an item, and how many commands had returned before it
pub record Stamped : Type 0 where
  pub returned : ℕ
  pub item : Item

-- an item after this many returned commands
abbrev pub at : ℕ → Item → Stamped
at k item = record { returned = k; item = item }

-- the items of a task in a past, the earliest first
abbrev pub items_of : ℕ → List Item → List Stamped
items_of t [] = []
items_of t (item ∷ past) = if is_of t item then items_of t past ++ at (done past) item ∷ [] else items_of t past

-- before the next of these items, if there is one, this many commands have returned; so they have before all of them, since what has
-- returned never falls
abbrev pub HasReturned : ℕ → List Stamped → Type 0
HasReturned m [] = Unit {0}
HasReturned m (x ∷ rest) = m ≤ x.returned

-- the call that is on the top of a stack
abbrev pub top_of : List CallNo → Option CallNo
top_of [] = None
top_of (call ∷ below) = Some call

-- the n-th call of a task
abbrev pub call_in : ℕ → ℕ → CallNo
call_in t n = record { task = record { 0 = t }; n = n }

-- any number of exit callbacks in the return of a call: each is an Exit and an ExitEnd of one user
pub data Exits (call : CallNo) : List Stamped → List Stamped → Type 0 where
  no_exit : {rest : List Stamped} → Exits call rest rest
  one_exit : {k j entry : ℕ} {u : UserNo} {items rest : List Stamped} → Exits call items rest
      → Exits call (at k (Exit call u entry) ∷ at j (ExitEnd call u) ∷ items) rest

-- the return of a call to its caller: Leave, any number of exit callbacks, and Ret
pub data Return (call : CallNo) (to : Option CallNo) : List Stamped → List Stamped → Type 0 where
  returns : {k j : ℕ} {items rest : List Stamped} → Exits call items (at j (Ret call to) ∷ rest) → Return call to (at k (Leave call) ∷ items) rest

-- How a constructor is read, `one_try`: if `items` begin with a try, which leaves `between` and takes the next call's number from n to m,
-- and `between` begins with tries, which leave `rest` and take it from m to n', then `items` begin with tries, which leave `rest` and take
-- it from n to n'.
module _ (job : Job) (t : ℕ) where
  mutual
    -- any number of tries in the dispatch of a call in this context
    pub data Tries : CallNo → Ctx → ℕ → List Stamped → ℕ → List Stamped → Type 0 where
      no_try : {call : CallNo} {x : Ctx} {n : ℕ} {rest : List Stamped} → Tries call x n rest n rest
      one_try : {call : CallNo} {x : Ctx} {n m n' : ℕ} {items between rest : List Stamped} → Try call x n items m between → Tries call x m between n' rest
          → Tries call x n items n' rest

    -- a user is tried: it is refused, or called back, and its act comes between Back and BackEnd; directly after the Back there may be a Miss
    pub data Try : CallNo → Ctx → ℕ → List Stamped → ℕ → List Stamped → Type 0 where
      refused : {call : CallNo} {x : Ctx} {n k : ℕ} {u : UserNo} {reason : Reason} {rest : List Stamped} → Try call x n (at k (Refuse call u reason) ∷ rest) n rest
      called : {call : CallNo} {x : Ctx} {n n' k j : ℕ} {u : UserNo} {items rest : List Stamped}
          → ActOf call x (spec_at job u.0).act n items n' (at j (BackEnd call u) ∷ rest)
          → Try call x n (at k (Back call u) ∷ items) n' rest
      missed : {call : CallNo} {x : Ctx} {n n' k i j : ℕ} {u : UserNo} {items rest : List Stamped}
          → ActOf call x (spec_at job u.0).act n items n' (at j (BackEnd call u) ∷ rest)
          → Try call x n (at k (Back call u) ∷ at i (Miss call u) ∷ items) n' rest

    -- what a user's act makes in a callback of a call in this context: nothing, if there is no act, or an interrupt in a
    -- context that isn't below irq; else a whole call, dispatch and return
    pub data ActOf : CallNo → Ctx → Option Act → ℕ → List Stamped → ℕ → List Stamped → Type 0 where
      no_act : {call : CallNo} {x : Ctx} {n : ℕ} {rest : List Stamped} → ActOf call x None n rest n rest
      no_interrupt : {call : CallNo} {x : Ctx} {f : FuncNo} {n : ℕ} {rest : List Stamped} → rank Irq ≤ rank x → ActOf call x (Some (IrqIn f)) n rest n rest
      by_call : {call : CallNo} {x : Ctx} {f : FuncNo} {n n' : ℕ} {items between rest : List Stamped}
          → Dispatch (Some call) x f n items n' between → Return (call_in t n) (Some call) between rest
          → ActOf call x (Some (CallIn f)) n items n' rest
      by_interrupt : {call : CallNo} {x : Ctx} {f : FuncNo} {n n' : ℕ} {items between rest : List Stamped} → rank x < rank Irq
          → Dispatch (Some call) Irq f n items n' between → Return (call_in t n) (Some call) between rest
          → ActOf call x (Some (IrqIn f)) n items n' rest

    -- the dispatch of the task's next call, of this function in this context by this caller: Enter, any number of tries, and Body
    pub data Dispatch : Option CallNo → Ctx → FuncNo → ℕ → List Stamped → ℕ → List Stamped → Type 0 where
      dispatch : {caller : Option CallNo} {x : Ctx} {f g : FuncNo} {ran : Ran} {n n' k j : ℕ} {items rest : List Stamped}
          → Tries (call_in t n) x (suc n) items n' (at j (Body (call_in t n) g ran) ∷ rest)
          → Dispatch caller x f n (at k (Enter (call_in t n) x f caller) ∷ items) n' rest

  -- a run of a beginning of these acts, in these raised contexts, over this stack of calls, from this call number on: it may stop
  -- at any act; `call` is a dispatch by the top call, in the present context; `ret` is the return of the top call to the one below
  -- it; the other acts give no items, and `after` waits
  pub data Run : List TaskAct → List Ctx → List CallNo → ℕ → List Stamped → Type 0 where
    stop : {acts : List TaskAct} {cs : List Ctx} {stack : List CallNo} {n : ℕ} → Run acts cs stack n []
    call : {f : FuncNo} {acts : List TaskAct} {cs : List Ctx} {stack : List CallNo} {n n' : ℕ} {items rest : List Stamped}
        → Dispatch (top_of stack) (context cs) f n items n' rest → Run acts cs (call_in t n ∷ stack) n' rest → Run (Call f ∷ acts) cs stack n items
    ret : {acts : List TaskAct} {cs : List Ctx} {c : CallNo} {below : List CallNo} {n : ℕ} {items rest : List Stamped}
        → Return c (top_of below) items rest → Run acts cs below n rest → Run (RetAct ∷ acts) cs (c ∷ below) n items
    raise : {x : Ctx} {acts : List TaskAct} {cs : List Ctx} {stack : List CallNo} {n : ℕ} {items : List Stamped}
        → Run acts (x ∷ cs) stack n items → Run (Raise x ∷ acts) cs stack n items
    lower : {acts : List TaskAct} {cs : List Ctx} {stack : List CallNo} {n : ℕ} {items : List Stamped}
        → Run acts (below_top cs) stack n items → Run (Lower ∷ acts) cs stack n items
    after : {m : ℕ} {acts : List TaskAct} {cs : List Ctx} {stack : List CallNo} {n : ℕ} {items : List Stamped}
        → HasReturned m items → Run acts cs stack n items → Run (After m ∷ acts) cs stack n items

-- a run of a beginning of the task's acts, from its start: no context is raised, no call is open, and the first call is number 1
abbrev pub IsRunOf : Job → ℕ → List Stamped → Type 0
IsRunOf job t items = Run job t (get_or job.tasks t no_task).acts [] [] 1 items
