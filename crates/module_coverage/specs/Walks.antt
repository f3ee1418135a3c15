-- What is known of a task's calls part of the way through its acts.
use Rattle.std.specs.Prelude.{◌≡◌, ℕ, suc, ◌+◌, ◌-◌, ◌≤◌, ◌⊎◌, ◌&&◌, ◌==◌, nat_le, Bool, false, List, length, take, drop, slice_get, Some, Contains}
use Rattle.ft_base.specs.declared.task.TaskAct.TheVariants.{Call}
use Rattle.script_waits.specs.declared.script.LinedAct.{LinedAct}
use Rattle.script_waits.specs.declared.script.ControlLine.{ControlLine}
use Rattle.script_waits.specs.declared.script.Wait.{Wait}
use Rattle.script_waits.specs.declared.script.Wait.TheVariants.{Command, Until}
use Rattle.module_coverage.specs.declared.span.Span.{Span}
use Rattle.module_coverage.specs.declared.span.Entered.{Entered}
use Rattle.module_coverage.specs.declared.until.Place.{Place}
use Rattle.module_coverage.specs.declared.walk.Walk.{Walk}
use Rattle.module_coverage.specs.Covered.{last_after, return_number}
use Rattle.module_coverage.specs.Spans.{acts_in, waits_in, commands_to}

-- control waits there for so many acts of the task, or more
abbrev pub is_wait_for : ℕ → ℕ → Wait → Bool
is_wait_for t n Command = false
is_wait_for t n (Until u m) = (u.0 == t) && nat_le n m

-- how many commands the line is
abbrev pub commands_at : Wait → ℕ
commands_at Command = 1
commands_at (Until u m) = 0

-- the call's span, if so many commands have begun when it has returned
abbrev pub span_to : ℕ → Entered → Span
span_to to call = record { line = call.line; func = call.func; from = call.from; to = to }

module _ (control : List ControlLine) (t : ℕ) where
  -- control waits for none of the acts of a higher number before this place
  abbrev pub Leads : ℕ → Place → Type 0
  Leads passed place = (n : ℕ) → passed ≤ n → commands_to t n 0 (waits_in control) ≡ commands_to t n place.commands (drop place.lines (waits_in control))

  -- a call whose return isn't among the acts passed: it is entered, or it is among the acts below
  pub data IsAhead (passed from : ℕ) (entered : List Entered) (below : List LinedAct) (s : Span) : Type 0 where
    is_open : (j : ℕ) → slice_get entered j ≡ Some (record { line = s.line; func = s.func; from = s.from })
        → s.to ≡ commands_to t (return_number passed (length entered - suc j) (acts_in below)) 0 (waits_in control) → IsAhead passed from entered below s
    is_below : (i n : ℕ) → n ≡ passed + suc i → slice_get below i ≡ Some (record { act = Call s.func; line = s.line })
        → s.from ≡ last_after from (take i (acts_in below)) → s.to ≡ commands_to t (return_number n 0 (drop (suc i) (acts_in below))) 0 (waits_in control) → IsAhead passed from entered below s

  -- the walk has the span, or will have it after the acts below
  abbrev pub Finds : ℕ → Walk → List LinedAct → Span → Type 0
  Finds passed walk below s = Contains walk.spans.items s ⊎ IsAhead passed walk.from walk.entered.items below s
