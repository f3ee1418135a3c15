-- What a race is, and which outcomes it has.
use Rattle.std.specs.Prelude.{◌≡◌, ◌<◌, ℕ, Bool, true, List, [], ◌∷◌, ◌++◌, All, slice_get, Some}
use Rattle.std.specs.Global.{Vec}

-- a race: how many actors it has, which keys a state may have that a schedule leads to, which schedules lead to states that are alike, whether
-- there is an outcome after a schedule, and which
pub record Meaning : Type 1 where
  pub actors : ℕ
  pub has_key : List ℕ → List ℕ → Type 0
  pub alike : List ℕ → List ℕ → Type 0
  pub ended : List ℕ → Bool
  pub outcome : List ℕ → List ℕ

-- the key says all of a state that matters: states with one key are alike, states that are alike stay so step by step, and the same is told of them
pub record IsExact (r : Meaning) : Type 0 where
  pub itself : (s : List ℕ) → r.alike s s
  pub chain : (s t u : List ℕ) → r.alike s t → r.alike t u → r.alike s u
  pub keys : (k s t : List ℕ) → r.has_key s k → r.has_key t k → r.alike s t
  pub steps : (s t : List ℕ) (a : ℕ) → r.alike s t → r.alike (s ++ a ∷ []) (t ++ a ∷ [])
  pub ends : (s t : List ℕ) → r.alike s t → r.ended s ≡ r.ended t
  pub tells : (s t : List ℕ) → r.alike s t → r.outcome s ≡ r.outcome t

-- a schedule of a race: a list of its actors
abbrev pub IsSchedule : Meaning → List ℕ → Type 0
IsSchedule r s = All (λ a. a < r.actors) s

-- a schedule of the race shows this outcome
abbrev pub Shows : Meaning → List ℕ → List ℕ → Type 0
Shows r o s = IsSchedule r s × (r.ended s ≡ true) × (r.outcome s ≡ o)

-- an outcome of the race: some schedule shows it
abbrev pub IsOutcome : Meaning → List ℕ → Type 0
IsOutcome r o = (s : List ℕ) × Shows r o s

-- each entry of the list is an outcome with a schedule that shows it
abbrev pub AreShown : Meaning → List (List ℕ × Vec ℕ) → Type 0
AreShown r es = (i : ℕ) (o : List ℕ) (s : Vec ℕ) → slice_get es i ≡ Some (o, s) → Shows r o s.items
