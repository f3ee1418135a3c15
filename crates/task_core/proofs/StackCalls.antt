-- The open calls of a task of a job are as many on each of its stacks, and what a frame owes is one of its users.
use Rattle.std.proofs.Common.{◌≡◌, ℕ, zero, suc, ◌<◌, List, [], ◌∷◌, drop, length, map, slice_get, Some, None, refl, ap, arith}
use Rattle.std.specs.Prelude.{Option, IfSome, IsSome, IsSomeAnd}
use Rattle.std.specs.List.{AllByRecursion as Each}
use Rattle.std.specs.Option.{option_and_then}
use Rattle.std.proofs.lemmas.List.{length-map}
use Rattle.ft_base.specs.declared.number.TaskNo.{TaskNo}
use Rattle.ft_base.specs.declared.task.TaskAct.{TaskAct}
use Rattle.ft_base.specs.Job.{Job}
use Rattle.return_stack.specs.declared.shadow.FrameUser.{FrameUser as OwedUser}
use Rattle.return_stack.specs.Calls.{StackedCall}
use Rattle.word_map.specs.declared.shape.Shape.{Shape}
use Rattle.word_machine.specs.Calls.{under_call}
use Rattle.word_machine.specs.Task.{Moment}
use Rattle.task_core.specs.declared.open_call.OpenCall.{OpenCall as CodeCall}
use Rattle.task_core.specs.declared.task.Task.{Task}
use Rattle.task_core.specs.TaskNeeds.{HasCallRoom, IsInCall}
use Rattle.task_core.specs.States.{joined, plain_user, stack_in, stack_of, users_in}
use Rattle.task_core.specs.StackInvariant.{StackInvariant, IsTaskOf}

-- ## calls

-- no call is open on a stack that has none
pub none-open : {A : Type 0} → 0 < 0 → A
none-open lt = absurd (omega (arith, lt))

module _ (shape : Shape) (number : TaskNo) where
  -- there are as many on each side
  as-many : (m : Moment) (os : List CodeCall) (ss : List StackedCall) → StackInvariant shape number m os ss
      → (length os ≡ length (stack_in os ss)) × (length ss ≡ length (stack_in os ss))
  as-many m [] [] k = (refl, refl)
  as-many m [] (s ∷ ss) k = absurd k
  as-many m (o ∷ os) [] k = absurd k
  as-many m (o ∷ os) (s ∷ ss) k =
      let more = as-many (under_call (joined o s) (stack_in os ss)) os ss k.1 in (ap suc more.0, ap suc more.1)

module _ (job : Job) (t : Task) (k : IsTaskOf job t) where
  -- a call that is open is so on each of the stacks
  pub in-call_of : 0 < length (stack_of t) → IsInCall t
  in-call_of lt =
      let e = as-many _ t.number _ t.opens.calls t.stacks.calls k.tied in
      record { opened = omega (arith, lt, e.0); stacked = omega (arith, lt, e.1) }

  -- one more call finds room on each of them
  pub call-room : length (stack_of t) < t.opens.limit → suc t.next < 4_294_967_296 → HasCallRoom t
  call-room lt next =
      let e = as-many _ t.number _ t.opens.calls t.stacks.calls k.tied in
      let l = k.limits in
      record { opened = omega (arith, lt, e.0); stacked = omega (arith, lt, e.1, l); next = next }

-- ## acts

-- the present act is the first of those that are left
pub present-first : (all : List TaskAct) (gone : ℕ) (act : TaskAct) → slice_get all gone ≡ Some act → drop gone all ≡ act ∷ drop (suc gone) all
present-first [] gone act e = absurd cc
present-first (a ∷ all) zero act e = (let y : a ≡ act = cc in ap (λ (x : TaskAct). x ∷ all) y)
present-first (a ∷ all) (suc gone) act e = present-first all gone act e

-- ## the users of a frame

module _ (n : ℕ) where
  users-named : (users : List OwedUser) (i : ℕ) → i < length (map plain_user users) → Each (λ o. o.user < n) (map plain_user users)
      → IsSomeAnd (slice_get users i) (λ m. m.user.0 < n)
  users-named [] i lt h = absurd (omega (arith, lt))
  users-named (m ∷ users) zero lt h = h.0
  users-named (m ∷ users) (suc i) lt h = users-named users i (omega (arith, lt)) h.1

  -- the exit at a place of a frame is one of a user that there is
  pub owed-named : (users : Option (List OwedUser)) (i : ℕ) → i < length (users_in users) → Each (λ o. o.user < n) (users_in users)
      → IsSomeAnd (option_and_then (λ us. slice_get us i) users) (λ m. m.user.0 < n)
  owed-named None i lt h = absurd (omega (arith, lt))
  owed-named (Some users) i lt h = users-named users i lt h

users-some : (users : List OwedUser) (i : ℕ) → i < length (map plain_user users) → IsSome (slice_get users i)
users-some [] i lt = absurd (omega (arith, lt))
users-some (m ∷ users) zero lt = refl
users-some (m ∷ users) (suc i) lt = users-some users i (omega (arith, lt))

-- at a place of a frame an exit is owed
pub owed-some : (users : Option (List OwedUser)) (i : ℕ) → i < length (users_in users) → IsSome (option_and_then (λ us. slice_get us i) users)
owed-some None i lt = absurd (omega (arith, lt))
owed-some (Some users) i lt = users-some users i lt

-- a frame of few users has room for one more
pub users-room : (users : Option (List OwedUser)) (n : ℕ) → length (users_in users) < n → IfSome users (λ us. length us < n)
users-room None n lt = tt
users-room (Some users) n lt = (let e = length-map users plain_user in omega (arith, lt, e))
