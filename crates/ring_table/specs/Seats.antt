-- What contracts see of the table and of seats.
use Rattle.std.specs.Prelude.{ℕ, ◌≡◌, ◌⊎◌, suc, ◌+◌, ◌-◌, ◌<◌, ◌≤◌, Bool, true, false, List, [], ◌∷◌, ◌++◌, length, map, set, get_or, slice_get, slice_index, vec_capacity, Some, if◌then◌else◌}
use Rattle.std.specs.Global.{Vec}
use Rattle.atomic_table.specs.Seated.{TableId}
use Rattle.atomic_table.specs.Table.{Me}
use Rattle.ft_base.specs.declared.item.Item.{Item}
use Rattle.ft_base.specs.declared.item.Stamped.{Stamped}
use Rattle.ft_base.specs.declared.limits.TheConstants.{ITEMS}
use Rattle.ring_rules.specs.Plan.{IsPlan, TracePlan}
use Rattle.ring_rules.specs.Hits.{fires, has, is_hit, quota, trigger}
use Rattle.ring_rules.specs.Fold.{Ring, no_ring}
use Rattle.ring_rules.specs.Legal.{fired_at, items_on, switched}
use Rattle.ring_rules.specs.RingInvariant.{CpuInvariant, ring_after}
use Rattle.ring_rules.specs.Gathered.{RingBox, lists_of, no_lists}
use Rattle.ring_table.specs.declared.view.Known.{Known}
use Rattle.ring_table.specs.Views.{Part, View, cpu_view, nothing}
use Rattle.ring_table.specs.Tally.{drawn, fired_of, hits_of, looked, saw, switched_to}
use Rattle.dealt_seats.specs.Views as seats

-- ## the table

-- a table, and what a job says of rings
pub record Board : Type 0 where
  pub table_id : TableId
  pub plan : TracePlan

-- The table is the plan's.
pub record IsTable (b : Board) (key : TracePlan) : Type 0 where
  pub limits : IsPlan b.plan
  pub key' : key ≡ b.plan
  pub words : b.table_id.words ≡ suc (length b.plan.triggers)
  pub slots : b.table_id.slots ≡ 0

-- ## a seat

-- a CPU's seat: its table, its id there, the plan, the CPU's number, what the CPU has done at the table, its ring, the places at which each
-- trigger fired for it, the lowest place that may come next, how many items may be offered in all, and how many more
pub record SeatPlace : Type 0 where
  pub table_id : TableId
  pub id : ℕ
  pub plan : TracePlan
  pub number : ℕ
  pub known : Known
  pub ring : Ring
  pub fired : List (List ℕ)
  pub next : ℕ
  pub room : ℕ
  pub left : ℕ

-- how much room each vector has
abbrev pub spaces_of : List (Vec ℕ) → List ℕ
spaces_of vs = map (λ v. vec_capacity v) vs

-- What a seat keeps of numbers.
--   lengths   each trigger is counted,
--   count     and has a list of fired places,
--   same      as many as the CPU has fired hits of it
--   fewer     no more hits fired than there were
--   within    there were no more hits than items
--   few       nor more than a script's calls can make items
--   spaces    there is room for each hit that can fire
--   below     the fired places are below the next one
--   written   no more places were written than items came
--   keeps     the ring is as long as the plan says
pub record SeatGood (plan : TracePlan) (known : Known) (ring : RingBox) (fired : List (Vec ℕ)) (next room left : ℕ) : Type 0 where
  pub lengths : (length known.hits ≡ length plan.triggers) × (length known.fired ≡ length plan.triggers)
  pub count : length fired ≡ length plan.triggers
  pub same : (i : ℕ) → i < length plan.triggers → length (fired_at (lists_of fired) i) ≡ fired_of known i
  pub fewer : (i : ℕ) → fired_of known i ≤ hits_of known i
  pub within : (i : ℕ) → hits_of known i + left ≤ room
  pub few : room ≤ ITEMS
  pub spaces : (i : ℕ) → i < length plan.triggers → quota (trigger plan i).limit room ≤ get_or (spaces_of fired) i 0
  pub below : (i p : ℕ) → has (fired_at (lists_of fired) i) p ≡ true → p < next
  pub written' : ring.ring.written + left ≤ room
  pub keeps : ring.most ≡ plan.ring

-- A seat knows what its CPU has done, and nothing else; and the numbers fit.
pub record SeatSits {S : Type 0} (me : Me S View) (known : Known) (c : ℕ) (ring : RingBox) (fired : List (Vec ℕ)) (next room left : ℕ) : Type 0 where
  pub view' : me ≡ (cpu_view me.0.job c known, [])
  pub good : SeatGood me.0.job known ring fired next room left

-- A seat has made of its items what it would have made of these, and was offered as many.
--   made      it has made of them what a CPU has to
--   offered   they and those that may still be offered fill its room
pub record SeatHas (plan : TracePlan) (items : List Stamped) (s : SeatPlace) : Type 0 where
  pub made : CpuInvariant plan items s.next s.known.own (hits_of s.known) s.fired s.ring (λ b. saw s.known b ≡ true)
  pub offered : length items + s.left ≡ s.room

-- a seat of the table
abbrev pub SitsAt : Board → SeatPlace → Type 0
SitsAt b s = (s.table_id ≡ b.table_id) × (s.plan ≡ b.plan)

-- the seat of a CPU to which nothing was offered
abbrev pub fresh : TableId → ℕ → TracePlan → ℕ → ℕ → SeatPlace
fresh table id plan c room = record {
  table_id = table;
  id = id;
  plan = plan;
  number = c;
  known = nothing plan;
  ring = no_ring;
  fired = no_lists (length plan.triggers);
  next = 0;
  room = room;
  left = room;
}

-- ## an item

-- the seat after its CPU has done something, with these fired places
abbrev pub with_known : SeatPlace → Known → List (List ℕ) → SeatPlace
with_known s k fired = record {
  table_id = s.table_id;
  id = s.id;
  plan = s.plan;
  number = s.number;
  known = k;
  ring = s.ring;
  fired = fired;
  next = s.next;
  room = s.room;
  left = s.left;
}

-- trigger i is hit at place p, with ticket n
abbrev pub hit_with : SeatPlace → ℕ → ℕ → ℕ → SeatPlace
hit_with s i p n =
    if fires (trigger s.plan i).limit n
    then with_known s (switched_to (trigger s.plan i).on (drawn s.plan i n s.known)) (set s.fired i (fired_at s.fired i ++ p ∷ []))
    else with_known s (drawn s.plan i n s.known) s.fired

-- trigger i at an item: some ticket is drawn if the item hits it
abbrev pub Hits : ℕ → Stamped → SeatPlace → SeatPlace → Type 0
Hits i x s t =
    ((is_hit (trigger s.plan i) x.item ≡ false) × (t ≡ s))
    ⊎ ((is_hit (trigger s.plan i) x.item ≡ true) × ((n : ℕ) × (t ≡ hit_with s i x.place n)))

-- What the first m triggers have made of a seat at an item.
--   rest          the rest is as before
--   own           each that fired has switched tracing, and the last of them tells
--   hits, later   each that was hit has drawn a ticket, and no other
--   lengths       each is still counted
--   grows, kept   each that fired has the item's place, and no other
--   saw'          nothing was looked at
pub record HitFor (x : Stamped) (s t : SeatPlace) (m : ℕ) : Type 0 where
  pub rest : t ≡ with_known s t.known t.fired
  pub own : t.known.own ≡ switched s.plan t.fired x m s.known.own
  pub hits : (i : ℕ) → i < m → hits_of t.known i ≡ hits_of s.known i + (if is_hit (trigger s.plan i) x.item then 1 else 0)
  pub later : (i : ℕ) → m ≤ i → hits_of t.known i ≡ hits_of s.known i
  pub lengths : (length t.known.hits ≡ length s.known.hits) × (length t.fired ≡ length s.fired)
  pub grows : (i : ℕ) → i < m → (fired_at t.fired i ≡ fired_at s.fired i)
      ⊎ ((is_hit (trigger s.plan i) x.item ≡ true) × (fired_at t.fired i ≡ fired_at s.fired i ++ x.place ∷ []))
  pub kept : (i : ℕ) → m ≤ i → fired_at t.fired i ≡ fired_at s.fired i
  pub saw' : (b : Bool) → saw t.known b ≡ saw s.known b

-- the seat after it has found tracing on or off at place p
abbrev pub looked_with : SeatPlace → ℕ → Bool → SeatPlace
looked_with s p on = record {
  table_id = s.table_id;
  id = s.id;
  plan = s.plan;
  number = s.number;
  known = looked on s.known;
  ring = ring_after s.plan on p s.ring;
  fired = s.fired;
  next = s.next;
  room = s.room;
  left = s.left;
}

-- an item comes at place p
abbrev pub passed : SeatPlace → ℕ → SeatPlace
passed s p = record {
  table_id = s.table_id;
  id = s.id;
  plan = s.plan;
  number = s.number;
  known = s.known;
  ring = s.ring;
  fired = s.fired;
  next = p + 1;
  room = s.room;
  left = s.left - 1;
}

-- the same seat after one more item
pub record IsNext (x : Stamped) (s t : SeatPlace) : Type 0 where
  pub table' : (t.table_id ≡ s.table_id) × (t.plan ≡ s.plan) × (t.number ≡ s.number)
  pub next' : t.next ≡ x.place + 1
  pub room' : t.room ≡ s.room
  pub left' : t.left ≡ s.left - 1

-- ## the seats of a table

-- the seat of CPU c, with so much room, to which nothing was offered
pub record IsNew (b : Board) (room : ℕ) (s : SeatPlace) (c : ℕ) : Type 0 where
  pub sits : SitsAt b s
  pub number' : s.number ≡ c
  pub next' : s.next ≡ 0
  pub left' : s.left ≡ room
  pub has' : SeatHas b.plan [] s

-- these are the seats of the table's CPUs in order, with these rooms, and nothing was offered to them
pub record AreNew (b : Board) (rooms : List ℕ) (seats : List SeatPlace) : Type 0 where
  pub count : length seats ≡ b.plan.cpus
  pub each : (c : ℕ) (s : SeatPlace) → slice_get seats c ≡ Some s → IsNew b (slice_index rooms c) s c

-- these are the seats of the table's CPUs in order
pub record AreSeats (b : Board) (seats : List SeatPlace) : Type 0 where
  pub count : length seats ≡ b.plan.cpus
  pub each : (c : ℕ) (s : SeatPlace) → slice_get seats c ≡ Some s → SitsAt b s × (s.number ≡ c)

-- the items of a history on each CPU are those that were offered to its seat
abbrev pub HaveItems : TracePlan → List Item → List SeatPlace → Type 0
HaveItems plan history seats = (c : ℕ) (s : SeatPlace) → slice_get seats c ≡ Some s → SeatHas plan (items_on plan c history) s

-- the seats of a plan's CPUs, at a table
abbrev pub AreAt : TableId → TracePlan → List SeatPlace → Type 0
AreAt table plan seats = (c : ℕ) (s : SeatPlace) → slice_get seats c ≡ Some s → (s.table_id ≡ table) × (s.plan ≡ plan)

-- these are the seats of the first CPUs, so many, in order, with these rooms, and nothing was offered to them
pub record AreFresh (table : TableId) (plan : TracePlan) (rooms : List ℕ) (seats : List SeatPlace) (cpus : ℕ) : Type 0 where
  pub count : length seats ≡ cpus
  pub each : (c : ℕ) (s : SeatPlace) → slice_get seats c ≡ Some s → (id : ℕ) × (s ≡ fresh table id plan c (slice_index rooms c))

-- ## what is collected of seats

-- the rings of CPUs, the places at which triggers fired for each, and for how many CPUs there is room
pub record Shares : Type 0 where
  pub rings : List Ring
  pub fired : List (List (List ℕ))
  pub room : ℕ

-- those of the CPUs of these seats
abbrev pub shares_of : List SeatPlace → ℕ → Shares
shares_of seats room = record { rings = map (λ s. s.ring) seats; fired = map (λ s. s.fired) seats; room = room }

-- what the seats know of their CPUs
abbrev pub parts_of : List SeatPlace → List Part
parts_of ss = seats.parts_of (λ (s : SeatPlace). s.number) (λ s. s.known) ss

-- The fired places of a seat are as many as its CPU has counted, and not many.
pub record IsCounted (plan : TracePlan) (s : SeatPlace) : Type 0 where
  pub places : (i : ℕ) → i < length plan.triggers → length (fired_at s.fired i) ≡ fired_of s.known i
  pub few : (i : ℕ) → fired_of s.known i ≤ ITEMS

-- so are those of each
abbrev pub AreCounted : TracePlan → List SeatPlace → Type 0
AreCounted plan seats = (c : ℕ) (s : SeatPlace) → slice_get seats c ≡ Some s → IsCounted plan s
