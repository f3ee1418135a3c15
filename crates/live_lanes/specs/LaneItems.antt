-- Commands as items of their lanes.
use Rattle.std.specs.Prelude.{ℕ, suc, ◌≡◌, ◌<◌, ◌==◌, if◌then◌else◌, List, [], ◌∷◌, length, map, take, slice_index}
use Rattle.desk_lock.specs.declared.served.Served1.{Served1}
use Rattle.desk_lock.specs.Journals.{IsMerge, pair}
use Rattle.word_machine_laws.specs.Orders.{lane_of}

-- how often a lane stands among these
abbrev pub count_in : ℕ → List ℕ → ℕ
count_in l [] = 0
count_in l (x ∷ xs) = if x == l then suc (count_in l xs) else count_in l xs

-- the number of a command among those of its lane
abbrev pub rank : List ℕ → ℕ → ℕ
rank lanes k = count_in (lane_of lanes k) (take k lanes)

-- a command as an item of its lane
abbrev pub as_item : List ℕ → ℕ → Served1
as_item lanes k = pair (lane_of lanes k) (rank lanes k)

-- commands as items, in the same order
abbrev pub as_items : List ℕ → List ℕ → List Served1
as_items lanes order = map (as_item lanes) order

-- So many commands has each lane, and each command is of one of these lanes.
pub record AreCounts (lanes counts : List ℕ) : Type 0 where
  pub each : (l : ℕ) → l < length counts → slice_index counts l ≡ count_in l lanes
  pub within : (k : ℕ) → k < length lanes → lane_of lanes k < length counts

-- What stands in the order of the lanes is all that they have, and of each lane in its order.
abbrev pub AreAllServed : List ℕ → List ℕ → Type 0
AreAllServed lanes order = (counts : List ℕ) × AreCounts lanes counts × IsMerge counts (as_items lanes order)
