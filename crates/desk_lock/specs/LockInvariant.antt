-- What is under the lock, and the lanes' seats.
use Rattle.std.specs.Prelude.{ℕ, suc, ◌≡◌, ◌+◌, ◌-◌, ◌≤◌, List, [], ◌∷◌, length, slice_get, Some}
use Rattle.std.specs.List.{sum_by}
use Rattle.ft_base.specs.declared.limits.TheConstants.{LANES}
use Rattle.desk_lock.specs.declared.served.Served1.{Served1}
use Rattle.desk_lock.specs.declared.lane.Lane.{Lane}
use Rattle.desk_lock.specs.Journals.{IsInOrder, done_of}

-- ## under the lock

-- the lanes from the l-th on, with these counts, after a journal
abbrev pub lanes_from : ℕ → List ℕ → List Served1 → List Lane
lanes_from l [] journal = []
lanes_from l (n ∷ ns) journal = record { count = n; next = done_of l journal } ∷ lanes_from (suc l) ns journal

-- how many items of a lane are left
abbrev pub left_in : Lane → ℕ
left_in lane = lane.count - lane.next

-- what contracts see: the value, and the journal of what it has served
pub record LockView (T : Type 0) : Type 0 where
  pub value : T
  pub journal : List Served1

-- What holds whenever the lock is free: for the counts and the name of the turns, the value's own counts, name and list,
-- the journal, the lanes, and the room of the journal.
--   counts', name'   the value has the counts and the name of the turns
--   served'          the journal is the value's own list
--   lanes'           the lanes are those after the journal
--   order            each lane's items come in order
--   few              there are no more lanes than there may be
--   room'            the journal has room for all items that are left
pub record LockInvariant (counts name own_counts own_name : List ℕ) (served journal : List Served1) (lanes : List Lane) (room : ℕ) : Type 0 where
  pub counts' : own_counts ≡ counts
  pub name' : own_name ≡ name
  pub served' : served ≡ journal
  pub lanes' : lanes ≡ lanes_from 0 counts journal
  pub order : IsInOrder counts journal
  pub few : length counts ≤ LANES
  pub room' : length journal + sum_by left_in lanes ≤ room

-- ## seats

-- a seat: its lane, how many items that has, and how many turns were taken
pub record LanePlace : Type 0 where
  pub lane : ℕ
  pub count : ℕ
  pub done : ℕ

-- the seat after one more turn
abbrev pub one_more : LanePlace → LanePlace
one_more s = record s { done = s.done + 1 }

-- the seats of the lanes from the l-th on, with these counts, before any turn
abbrev pub seats_from : ℕ → List ℕ → List LanePlace
seats_from l [] = []
seats_from l (n ∷ ns) = record { lane = l; count = n; done = 0 } ∷ seats_from (suc l) ns

-- it is a seat of a lane with these counts, which has had no more turns than the lane has items
pub record IsSeat (counts : List ℕ) (s : LanePlace) : Type 0 where
  pub is : slice_get counts s.lane ≡ Some s.count
  pub within : s.done ≤ s.count
