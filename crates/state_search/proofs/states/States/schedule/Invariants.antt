-- The schedule of the state at this place, and then the actors so far from the last one on.
use Rattle.std.proofs.Common.{◌≡◌, ◌<◌, ◌++◌, List, ℕ, length, reverse, slice_get, Some}
use Rattle.state_search.proofs.states.States.schedule.Given as goal

abbrev pub invariant-loop-step : goal.invariant-loop-step
invariant-loop-step l = record {
  within : l.place < length l.self;
  path : (k s : List ℕ) → slice_get l.self l.place ≡ Some (k, s) → (o : List ℕ) × (slice_get l.self l.at ≡ Some (o, s ++ reverse l.actors.items));
}

abbrev pub decreases-loop-step : goal.decreases-loop-step
decreases-loop-step l = l.place
