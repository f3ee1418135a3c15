-- Journals: which item of which lane was served, in order.
use Rattle.std.specs.Prelude.{ℕ, ◌≡◌, ◌<◌, ◌≤◌, List, [], ◌∷◌, length, slice_get, slice_index, Some, ◌==◌, if◌then◌else◌}
use Rattle.std.specs.List.{range_with_len}
use Rattle.desk_lock.specs.declared.served.Served1.{Served1}

-- an item of a lane
abbrev pub pair : ℕ → ℕ → Served1
pair lane item = record { lane = lane; item = item }

-- the items of one lane in a journal, in their order there
abbrev pub items_of : ℕ → List Served1 → List ℕ
items_of lane [] = []
items_of lane (s ∷ ss) = if s.lane == lane then s.item ∷ items_of lane ss else items_of lane ss

-- how many items of a lane stand in a journal
abbrev pub done_of : ℕ → List Served1 → ℕ
done_of lane journal = length (items_of lane journal)

-- the item of a lane that comes next, after a journal
abbrev pub next_of : ℕ → List Served1 → Served1
next_of lane journal = pair lane (done_of lane journal)

-- Each entry is of a lane, and each lane's items are 0, 1, 2 and so on, without a gap, and no more of them than it has.
pub record IsInOrder (counts : List ℕ) (journal : List Served1) : Type 0 where
  pub lanes : (k : ℕ) (s : Served1) → slice_get journal k ≡ Some s → s.lane < length counts
  pub items : (l : ℕ) → l < length counts → items_of l journal ≡ range_with_len 0 (done_of l journal)
  pub below : (l : ℕ) → l < length counts → done_of l journal ≤ slice_index counts l

-- The journal is a merge of the lanes: each entry is of a lane, and each lane's items are all that it has, each once and in order.
pub record IsMerge (counts : List ℕ) (journal : List Served1) : Type 0 where
  pub lanes : (k : ℕ) (s : Served1) → slice_get journal k ≡ Some s → s.lane < length counts
  pub items : (l : ℕ) → l < length counts → items_of l journal ≡ range_with_len 0 (slice_index counts l)
