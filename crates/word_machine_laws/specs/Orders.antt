-- Orders of lines: each line once, and those of a lane in their own order.
use Rattle.std.specs.Prelude.{ℕ, ◌≡◌, ◌<◌, ◌==◌, true, List, [], ◌∷◌, length, get_or, Option, Some, None, slice_get, eqb, if◌then◌else◌}
use Rattle.std.specs.List.{IsDistinct, list_any, range_with_len}

-- ## things in an order

-- a thing, if it is there, before others
abbrev pub before_all : {A : Type 0} → Option A → List A → List A
before_all None xs = xs
before_all (Some x) xs = x ∷ xs

-- the things of these numbers, in the order of the numbers
abbrev pub picked : {A : Type 0} → List A → List ℕ → List A
picked xs [] = []
picked xs (k ∷ ks) = before_all (slice_get xs k) (picked xs ks)

-- ## which orders there are

-- the line of this number was led
abbrev pub IsLed : List ℕ → ℕ → Type 0
IsLed order k = list_any (eqb k) order ≡ true

-- these are numbers of n lines, each at most once
pub record AreLed (n : ℕ) (order : List ℕ) : Type 0 where
  pub once : IsDistinct eqb order
  pub within : (k : ℕ) → IsLed order k → k < n

-- they are the numbers of all n
pub record AreAllLed (n : ℕ) (order : List ℕ) : Type 0 where
  pub led : AreLed n order
  pub all : length order ≡ n

-- ## lanes

-- the lane of a line
abbrev pub lane_of : List ℕ → ℕ → ℕ
lane_of lanes k = get_or lanes k 0

-- the lines of one lane among these, in their order
abbrev pub in_lane : List ℕ → ℕ → List ℕ → List ℕ
in_lane lanes l [] = []
in_lane lanes l (k ∷ ks) = if lane_of lanes k == l then k ∷ in_lane lanes l ks else in_lane lanes l ks

-- The order is a merge of the lanes: it has each line once, and those of a lane in the order in which the script has them.
pub record IsLaneOrder (lanes order : List ℕ) : Type 0 where
  pub each : AreAllLed (length lanes) order
  pub lanes' : (l : ℕ) → in_lane lanes l order ≡ in_lane lanes l (range_with_len 0 (length lanes))
