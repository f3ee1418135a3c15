-- Which rings a history may have if its CPUs ran side by side: which of the hits of all CPUs fire, and when a CPU sees that another one has
-- switched tracing, is left open. The fired places are those that the rings say themselves.
use Rattle.std.specs.Prelude.{◌≡◌, ◌⊎◌, ℕ, zero, suc, ◌<◌, Bool, true, false, ◌&&◌, List, [], ◌∷◌, ◌++◌, length, slice_get, slice_index_or, if◌then◌else◌, Some}
use Rattle.ft_base.specs.declared.item.Item.{Item}
use Rattle.ft_base.specs.declared.item.Stamped.{Stamped}
use Rattle.ft_base.specs.Job.{Trigger}
use Rattle.circular_buffer.specs.Buffer.{keep_last}
use Rattle.ring_rules.specs.Plan.{TracePlan}
use Rattle.ring_rules.specs.Hits.{has, hits_in, is_hit, is_of_cpu, is_traced, quota, stamp, trigger}
use Rattle.ring_rules.specs.Fold.{Ring, Rings}

-- the items of CPU c among these, which stand from place p on
abbrev pub items_from : TracePlan → ℕ → ℕ → List Item → List Stamped
items_from plan c p [] = []
items_from plan c p (item ∷ rest) =
    if is_of_cpu plan c item then stamp p item ∷ items_from plan c (suc p) rest else items_from plan c (suc p) rest

-- the items of CPU c
abbrev pub items_on : TracePlan → ℕ → List Item → List Stamped
items_on plan c history = items_from plan c 0 history

-- the places at which trigger i fired
abbrev pub fired_at : List (List ℕ) → ℕ → List ℕ
fired_at fired i = slice_index_or fired i []

-- whether an item is a fired hit of trigger i
abbrev pub has_fired : TracePlan → List (List ℕ) → Stamped → ℕ → Bool
has_fired plan fired x i = is_hit (trigger plan i) x.item && has (fired_at fired i) x.place

-- what the first n triggers make of a switch at an item: the last of them that fires there tells
abbrev pub switched : TracePlan → List (List ℕ) → Stamped → ℕ → Bool → Bool
switched plan fired x zero on = on
switched plan fired x (suc n) on = if has_fired plan fired x n then (trigger plan n).on else switched plan fired x n on

-- the own switch of a CPU after these items of it, if it was as told before them
abbrev pub own_from : TracePlan → List (List ℕ) → List Stamped → Bool → Bool
own_from plan fired [] on = on
own_from plan fired (x ∷ xs) on = own_from plan fired xs (switched plan fired x (length plan.triggers) on)

-- the own switch of a CPU after its first items: what its last fired hit has made of tracing, or what tracing was at first
abbrev pub own_after : TracePlan → List (List ℕ) → List Stamped → Bool
own_after plan fired before = own_from plan fired before plan.tracing

-- the places of the entry callbacks among these, which may be written into a ring
abbrev pub traced_places : TracePlan → List Stamped → List ℕ
traced_places plan [] = []
traced_places plan (x ∷ xs) = if is_traced plan x.item then x.place ∷ traced_places plan xs else traced_places plan xs

-- no place is there twice
abbrev pub EachOnce : List ℕ → Type 0
EachOnce [] = Unit {0}
EachOnce (p ∷ ps) = (has ps p ≡ false) × EachOnce ps

-- the first list has some of the second's, in their order
abbrev pub IsSublist : List ℕ → List ℕ → Type 0
IsSublist xs [] = xs ≡ []
IsSublist xs (y ∷ ys) = IsSublist xs ys ⊎ ((rest : List ℕ) × (xs ≡ y ∷ rest) × IsSublist rest ys)

-- another CPU than c has a fired hit of a trigger that switches tracing on, or off
pub record OtherFired (plan : TracePlan) (history : List Item) (fired : List (List ℕ)) (c : ℕ) (on : Bool) : Type 0 where
  pub trigger' : ℕ
  pub within : trigger' < length plan.triggers
  pub switches : (trigger plan trigger').on ≡ on
  pub place : ℕ
  pub item : Item
  pub fired' : has (fired_at fired trigger') place ≡ true
  pub stands : slice_get history place ≡ Some item
  pub other : is_of_cpu plan c item ≡ false

-- The ring of CPU c.
--   written   the places that were written into it
--   some_of   they are those of some of the CPU's entry callbacks, in their order
--   keeps     the ring has their number, and holds the last of them
--   missed    where the CPU's own switch is on, an entry callback isn't written only if another CPU has switched tracing off
--   extra     where it is off, an entry callback is written only if another CPU has switched tracing on
pub record IsRing (plan : TracePlan) (history : List Item) (rings : Rings) (c : ℕ) : Type 0 where
  pub written : List ℕ
  pub some_of : IsSublist written (traced_places plan (items_on plan c history))
  pub keeps : slice_get rings.cpus c ≡ Some (record { written = length written; held = keep_last plan.ring written })
  pub missed : (before after : List Stamped) (x : Stamped) → items_on plan c history ≡ before ++ x ∷ after → is_traced plan x.item ≡ true
      → own_after plan rings.fired before ≡ true → has written x.place ≡ false → OtherFired plan history rings.fired c false
  pub extra : (before after : List Stamped) (x : Stamped) → items_on plan c history ≡ before ++ x ∷ after → is_traced plan x.item ≡ true
      → own_after plan rings.fired before ≡ false → has written x.place ≡ true → OtherFired plan history rings.fired c true

-- The places at which a trigger fired.
--   times   it fires at each hit until it has fired as often as it may
--   hits    each is the place of a call that hits it
--   once    none is there twice
pub record AreFired (history : List Item) (t : Trigger) (places : List ℕ) : Type 0 where
  pub times : length places ≡ quota t.limit (hits_in t history)
  pub hits : (p : ℕ) → has places p ≡ true → (x : Item) × (slice_get history p ≡ Some x) × (is_hit t x ≡ true)
  pub once : EachOnce places

-- The rings are legal for a history: there is a ring for each CPU and a list of places for each trigger, and they are such.
pub record RingsLegal (plan : TracePlan) (history : List Item) (rings : Rings) : Type 0 where
  pub cpus : length rings.cpus ≡ plan.cpus
  pub triggers : length rings.fired ≡ length plan.triggers
  pub ring : (c : ℕ) → c < plan.cpus → IsRing plan history rings c
  pub fired : (i : ℕ) → i < length plan.triggers → AreFired history (trigger plan i) (fired_at rings.fired i)

-- ## a CPU alone

-- each fired place of a trigger that switches tracing on, or off, is that of an item of CPU c
abbrev pub OnlyOwnFired : TracePlan → List Item → List (List ℕ) → ℕ → Bool → Type 0
OnlyOwnFired plan history fired c on =
    (i p : ℕ) (item : Item) → i < length plan.triggers → (trigger plan i).on ≡ on → has (fired_at fired i) p ≡ true → slice_get history p ≡ Some item
    → is_of_cpu plan c item ≡ true

-- the places of the entry callbacks among these items at which the own switch is on, if it was as told before them
abbrev pub own_places : TracePlan → List (List ℕ) → List Stamped → Bool → List ℕ
own_places plan fired [] on = []
own_places plan fired (x ∷ xs) on =
    if is_traced plan x.item && on
    then x.place ∷ own_places plan fired xs (switched plan fired x (length plan.triggers) on)
    else own_places plan fired xs (switched plan fired x (length plan.triggers) on)

-- the ring into which these places were written
abbrev pub ring_with : TracePlan → List ℕ → Ring
ring_with plan places = record { written = length places; held = keep_last plan.ring places }
