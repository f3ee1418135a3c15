-- The outcome of a history: what it tells of each call, and which commands were refused. When anything happened isn't told (docs/OUTCOMES.md).
use Rattle.std.specs.Prelude.{ℕ, ◌==◌, List, [], ◌∷◌, ◌++◌, map, Option, Some, None, if◌then◌else◌}
use Rattle.std.specs.List.{range_with_len}
use Rattle.std.specs.Option.{option_to_list}
use Rattle.ft_base.specs.declared.number.CallNo.{CallNo}
use Rattle.ft_base.specs.declared.number.FuncNo.{FuncNo}
use Rattle.ft_base.specs.declared.number.UserNo.{UserNo}
use Rattle.ft_base.specs.declared.item.Answer.{Answer}
use Rattle.ft_base.specs.declared.item.Answer.TheVariants.{Accepted}
use Rattle.ft_base.specs.declared.item.Item.{Item}
use Rattle.ft_base.specs.declared.item.Item.TheVariants.{Return, Enter, Back, Refuse, Miss, Body, Exit}
use Rattle.ft_base.specs.declared.item.Ran.{Ran}
use Rattle.ft_base.specs.declared.item.Reason.{Reason}
use Rattle.ft_base.specs.Same.{same_call}

-- What happens in a call:
--   CalledBack, Missed, Refused   at its entry to a user: it is called back, its exit can't be set up, it is refused for this reason
--   BodyRan                       the body of this function runs, and this was fetched
--   Exited                        the user is called back at the return
pub data Happening : Type 0 where
  CalledBack : (user : UserNo) → Happening
  Missed : (user : UserNo) → Happening
  Refused : (user : UserNo) → (reason : Reason) → Happening
  BodyRan : (func : FuncNo) → (ran : Ran) → Happening
  Exited : (user : UserNo) → Happening

-- what is told of a call: which it is, the function that was called, and what happened in it, in its order
pub record CallTold : Type 0 where
  pub call : CallNo
  pub func : FuncNo
  pub happened : List Happening

-- an outcome: of each task its calls, in the order in which it made them; and the commands that were refused, each with its answer
pub record Outcome : Type 0 where
  pub calls : List (List CallTold)
  pub refused : List (ℕ × Answer)

-- the call in which an item is something that happened, and what
abbrev pub happening : Item → Option (CallNo × Happening)
happening (Back call user) = Some (call, CalledBack user)
happening (Miss call user) = Some (call, Missed user)
happening (Refuse call user reason) = Some (call, Refused user reason)
happening (Body call func ran) = Some (call, BodyRan func ran)
happening (Exit call user entry) = Some (call, Exited user)
happening _ = None

-- the same of one call alone
abbrev pub of_call : CallNo → Option (CallNo × Happening) → List Happening
of_call call None = []
of_call call (Some h) = if same_call call h.0 then h.1 ∷ [] else []

-- what happens in a call in these items
abbrev pub happened : CallNo → List Item → List Happening
happened call [] = []
happened call (item ∷ rest) = of_call call (happening item) ++ happened call rest

-- the call that an item enters, and its function
abbrev pub entered : Item → Option (CallNo × FuncNo)
entered (Enter call ctx func caller) = Some (call, func)
entered _ = None

-- what these items tell of that call, if it is of this task
abbrev pub told_of : ℕ → Option (CallNo × FuncNo) → List Item → List CallTold
told_of t None rest = []
told_of t (Some e) rest = if e.0.task.0 == t then record { call = e.0; func = e.1; happened = happened e.0 rest } ∷ [] else []

-- what is told of the calls of a task
abbrev pub calls_of : ℕ → List Item → List CallTold
calls_of t [] = []
calls_of t (item ∷ rest) = told_of t (entered item) rest ++ calls_of t rest

-- a command that was refused, and its answer
abbrev pub refusal : Item → Option (ℕ × Answer)
refusal (Return k Accepted) = None
refusal (Return k answer) = Some (k, answer)
refusal _ = None

abbrev pub refusals : List Item → List (ℕ × Answer)
refusals [] = []
refusals (item ∷ rest) = option_to_list (refusal item) ++ refusals rest

-- the outcome of a history of so many tasks
abbrev pub outcome : ℕ → List Item → Outcome
outcome tasks items = record { calls = map (λ t. calls_of t items) (range_with_len 0 tasks); refused = refusals items }
