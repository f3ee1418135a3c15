-- The stacks of a task of code are those of the machine's task.
use Rattle.std.proofs.Common.{◌≡◌, Bool, true, false, List, [], ◌∷◌, map, Option, Some, None, refl, sym, ap, ◌∙◌}
use Rattle.ft_base.specs.declared.number.TaskNo.{TaskNo}
use Rattle.ft_hist.specs.Frames.{FrameUser}
use Rattle.return_stack.specs.declared.shadow.FrameUser.{FrameUser as OwedUser}
use Rattle.return_stack.specs.Calls.{StackedCall, frames_in, top_call}
use Rattle.word_map.specs.declared.shape.Shape.{Shape}
use Rattle.word_machine.specs.Calls.{under_call}
use Rattle.word_machine.specs.Task.{OpenCall, Moment, level_of, top_of}
use Rattle.task_core.specs.declared.open_call.OpenCall.{OpenCall as CodeCall}
use Rattle.task_core.specs.Framed.{owed_user, stacked}
use Rattle.task_core.specs.Opens.{latest}
use Rattle.task_core.specs.States.{joined, plain_user, stack_in}
use Rattle.task_core.specs.StackInvariant.{StackInvariant}
use Rattle.task_core.proofs.Stacks.{frames-level}

-- ## calls and their frames

-- a user of a frame is the same in both
users-back : (users : List FrameUser) → map plain_user (map owed_user users) ≡ users
users-back [] = refl
users-back (m ∷ rest) = ap (λ (us : List FrameUser). m ∷ us) (users-back rest)

owed-back : (users : List OwedUser) → map owed_user (map plain_user users) ≡ users
owed-back [] = refl
owed-back (m ∷ rest) = ap (λ (us : List OwedUser). m ∷ us) (owed-back rest)

-- a call of the stacks is that of the machine
stacked-is : (o : CodeCall) (s : StackedCall) → s.call ≡ o.call → stacked (joined o s) ≡ s
stacked-is o s e = by s.users
  where
    by : (U : Option (List OwedUser)) → stacked (joined o (record s { users = U })) ≡ record s { users = U }
    by None = ap (λ call. record s { call = call; users = None }) (sym e)
    by (Some users) = λ i. record { call = sym e i; users = Some (owed-back users i) }

-- so are all of them
pub stack-is : (shape : Shape) (number : TaskNo) (m : Moment) (os : List CodeCall) (ss : List StackedCall) → StackInvariant shape number m os ss
    → map stacked (stack_in os ss) ≡ ss
stack-is shape number m [] [] k = refl
stack-is shape number m [] (s ∷ ss) k = absurd k
stack-is shape number m (o ∷ os) [] k = absurd k
stack-is shape number m (o ∷ os) (s ∷ ss) k =
    λ i. stacked-is o s k.0.call i ∷ stack-is shape number (under_call (joined o s) (stack_in os ss)) os ss k.1 i

-- a call of the machine, given back by what the task knows of it and by its stacks
pub back-is : (c : OpenCall) → (c.framed ≡ false → c.users ≡ []) → (o : CodeCall)
    → joined o (stacked c) ≡ record (joined o (stacked c)) { framed = c.framed; users = c.users }
back-is c bare o = by c.framed bare
  where
    by : (framed : Bool) → (framed ≡ false → c.users ≡ [])
        → joined o (stacked (record c { framed = framed })) ≡ record (joined o (stacked c)) { framed = framed; users = c.users }
    by true bare = ap (λ (users : List FrameUser). record (joined o (stacked c)) { framed = true; users = users }) (users-back c.users)
    by false bare = ap (λ (users : List FrameUser). record (joined o (stacked c)) { framed = false; users = users }) (sym (bare refl))

-- ## the latest call and its caller

module _ (shape : Shape) (number : TaskNo) where
  -- the latest call's number
  pub latest-top : (m : Moment) (os : List CodeCall) (ss : List StackedCall) → StackInvariant shape number m os ss → latest os ≡ top_of (stack_in os ss)
  latest-top m [] [] k = refl
  latest-top m [] (s ∷ ss) k = absurd k
  latest-top m (o ∷ os) [] k = absurd k
  latest-top m (o ∷ os) (s ∷ ss) k = refl

  pub caller-top : (m : Moment) (os : List CodeCall) (ss : List StackedCall) → StackInvariant shape number m os ss → top_call ss ≡ top_of (stack_in os ss)
  caller-top m [] [] k = refl
  caller-top m [] (s ∷ ss) k = absurd k
  caller-top m (o ∷ os) [] k = absurd k
  caller-top m (o ∷ os) (s ∷ ss) k = ap Some k.0.call

  -- how many frames there are
  pub frames-are : (m : Moment) (os : List CodeCall) (ss : List StackedCall) → StackInvariant shape number m os ss → frames_in ss ≡ level_of (stack_in os ss)
  frames-are m os ss k = ap frames_in (sym (stack-is shape number m os ss k)) ∙ frames-level (stack_in os ss)
