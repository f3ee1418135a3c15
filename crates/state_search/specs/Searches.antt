-- A search on its way: what is kept, and what has been gone on from.
use Rattle.std.specs.Prelude.{◌≡◌, ◌<◌, ℕ, true, List, [], ◌∷◌, ◌++◌, slice_get, Some}
use Rattle.std.specs.Global.{Vec}
use Rattle.state_search.specs.Entries.{HasKey, Grows}
use Rattle.state_search.specs.Races.{Meaning, IsSchedule, AreShown}
use Rattle.state_search.specs.Steps.{Entry}

-- outcomes, each with a schedule that shows it
abbrev pub Outcomes : Type 0
Outcomes = List (List ℕ × Vec ℕ)

-- of a kept state: its schedule leads to it, and its outcome, if it has one, is listed
pub record IsKept (r : Meaning) (outcomes : Outcomes) (k s : List ℕ) : Type 0 where
  pub schedule : IsSchedule r s
  pub key : r.has_key s k
  pub told : r.ended s ≡ true → HasKey outcomes (r.outcome s)

-- each kept state is one that the race comes to, with its outcome listed; and only outcomes are listed
pub record IsSearch (r : Meaning) (states : List Entry) (outcomes : Outcomes) : Type 0 where
  pub each : (i : ℕ) (k s : List ℕ) → slice_get states i ≡ Some (k, s) → IsKept r outcomes k s
  pub shown : AreShown r outcomes

-- a state that is alike to the one after this schedule is kept
abbrev pub HasState : Meaning → List Entry → List ℕ → Type 0
HasState r es s = (i : ℕ) × (k t : List ℕ) × (slice_get es i ≡ Some (k, t)) × r.alike t s

-- the outcome after this schedule is listed, if there is one
pub record Tells (r : Meaning) (s : List ℕ) (old new : Outcomes) : Type 0 where
  pub shown : AreShown r new
  pub grows : Grows old new
  pub told : r.ended s ≡ true → HasKey new (r.outcome s)

-- the state after this schedule is kept
pub record Arrives (r : Meaning) (s : List ℕ) (old new : List Entry) (outcomes : Outcomes) : Type 0 where
  pub search : IsSearch r new outcomes
  pub grows : Grows old new
  pub kept : HasState r new s

-- the state after one more step of this actor from the one at this place is kept
abbrev pub GoesOn : Meaning → ℕ → ℕ → List Entry → List Entry → Outcomes → Type 0
GoesOn r at a old new outcomes = (k s : List ℕ) × (slice_get old at ≡ Some (k, s)) × Arrives r (s ++ a ∷ []) old new outcomes

-- all that is one step after this schedule is kept, for the first so many actors
abbrev pub AreNear : Meaning → List Entry → List ℕ → ℕ → Type 0
AreNear r states s n = (a : ℕ) → a < n → HasState r states (s ++ a ∷ [])

-- a search that goes on from the state at this place, with so many actors so far
pub record Turns (r : Meaning) (old states : List Entry) (outcomes : Outcomes) (at n : ℕ) : Type 0 where
  pub search : IsSearch r states outcomes
  pub grows : Grows old states
  pub near : (k s : List ℕ) → slice_get old at ≡ Some (k, s) → AreNear r states s n

-- a search that has gone on from the first so many states
pub record Passes (r : Meaning) (states : List Entry) (outcomes : Outcomes) (n : ℕ) : Type 0 where
  pub search : IsSearch r states outcomes
  pub root : HasState r states []
  pub passed : (i : ℕ) → i < n → (k s : List ℕ) → slice_get states i ≡ Some (k, s) → AreNear r states s r.actors
