-- What polls have told: at most a request, or the ending value of an actor that has no act left; and what a poll leaves to be done.
use Rattle.std.proofs.Common.{◌≡◌, ℕ, suc, ◌+◌, ◌≤◌, Bool, true, false, List, [], ◌∷◌, length, ◌∙◌, sym, inl, inr, arith}
use Rattle.ft_base.proofs.Small.{false_true}
use Rattle.ft_base.specs.declared.task.TaskAct.{TaskAct}
use Rattle.ft_base.specs.Tasks.{has_acts}
use Rattle.word_machine.specs.Task.{Moment, Polling, First, is_quiet, rest_acts}
use Rattle.word_machine.specs.Tasks.{HasTold, FirstAt}

-- an actor with acts left has told a request
pub told-more : (request : ℕ) (more : Bool) (ending v : ℕ) → more ≡ true → HasTold request more ending v → v ≤ request
told-more request more ending v e (inl x) = x
told-more request more ending v e (inr x) = false_true (sym x.0 ∙ e)

-- a later request is not lower
pub told-later : (request request' : ℕ) (more : Bool) (ending v : ℕ) → request ≤ request' → HasTold request more ending v → HasTold request' more ending v
told-later request request' more ending v le (inl x) = inl (omega (arith, x, le))
told-later request request' more ending v le (inr x) = inr x

-- an actor that had acts left has told the same when it has fewer
pub told-fewer : (request : ℕ) (more more' : Bool) (ending v : ℕ) → more ≡ true → HasTold request more ending v → HasTold request more' ending v
told-fewer request more more' ending v e x = inl (told-more request more ending v e x)

-- a moment within a call is not the first of an act
pub first-loud : (m : Moment) (acts : List TaskAct) → is_quiet m ≡ false → FirstAt m acts
first-loud Polling acts e = tt
first-loud First acts e = false_true (sym e)
first-loud _ acts e = tt

-- one act fewer remains, and one more is finished
pub one-done : (gone : ℕ) (acts : List TaskAct) (all : ℕ) → has_acts acts ≡ true → gone + length acts ≡ all → suc gone + length (rest_acts acts) ≡ all
one-done gone [] all e k = false_true e
one-done gone (a ∷ rest) all e k = omega (arith, k)
