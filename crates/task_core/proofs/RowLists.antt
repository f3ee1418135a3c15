-- A task's lists: its acts to come, and the users of a frame.
use Rattle.std.proofs.Common.{◌≡◌, ℕ, zero, suc, ◌<◌, List, [], ◌∷◌, drop, length, map, slice_get, Option, Some, None, option_map, option_and_then, unwrap_or, refl, sym, ◌∙◌, arith}
use Rattle.std.proofs.lemmas.Option.{slice_get-map}
use Rattle.ft_base.specs.declared.task.TaskAct.{TaskAct}
use Rattle.return_stack.specs.declared.shadow.FrameUser.{FrameUser as OwedUser}
use Rattle.return_stack.specs.Calls.{StackedCall}
use Rattle.word_machine.specs.Task.{rest_acts}
use Rattle.task_core.specs.declared.moment.Moment.{Moment as CodeMoment}
use Rattle.task_core.specs.declared.open_call.OpenCall.{OpenCall as CodeCall}
use Rattle.task_core.specs.declared.task.Task.{Task}
use Rattle.task_core.specs.States.{plain_user, users_in}
use Rattle.task_core.specs.TaskOps.{no_user}

-- the task with these calls, at a moment
abbrev pub standing : Task → List CodeCall → List StackedCall → CodeMoment → Task
standing t os ss m = record t { opens = record t.opens { calls = os }; stacks = record t.stacks { calls = ss }; moment = m }

-- ## an element and those from it on

-- the element at a place is the first of those from there on
pub get-first : {X : Type 0} (xs : List X) (i : ℕ) → slice_get xs i ≡ slice_get (drop i xs) 0
get-first [] zero = refl
get-first [] (suc i) = refl
get-first (x ∷ xs) zero = refl
get-first (x ∷ xs) (suc i) = get-first xs i

-- the acts after the present one
pub rest-drop : (acts : List TaskAct) (gone : ℕ) → drop (suc gone) acts ≡ rest_acts (drop gone acts)
rest-drop [] zero = refl
rest-drop [] (suc gone) = refl
rest-drop (a ∷ acts) zero = refl
rest-drop (a ∷ acts) (suc gone) = rest-drop acts gone

-- ## the users of a frame

-- the user whose exit is at a place, as the stacks have it and as the machine has it
pub owed-first : (U : Option (List OwedUser)) (i : ℕ)
    → option_map plain_user (option_and_then (λ users. slice_get users i) U) ≡ slice_get (drop i (users_in U)) 0
owed-first None zero = refl
owed-first None (suc i) = refl
owed-first (Some users) i = sym (slice_get-map plain_user users i) ∙ get-first (map plain_user users) i

-- the users from a place on, where there is one
pub owed-split : (U : Option (List OwedUser)) (i : ℕ) → i < length (users_in U)
    → drop i (users_in U)
    ≡ plain_user (unwrap_or (option_and_then (λ users. slice_get users i) U) no_user) ∷ drop (suc i) (users_in U)
owed-split None i lt = absurd (omega (arith, lt))
owed-split (Some []) i lt = absurd (omega (arith, lt))
owed-split (Some (m ∷ rest)) zero lt = refl
owed-split (Some (m ∷ rest)) (suc i) lt = owed-split (Some rest) i (omega (arith, lt))
