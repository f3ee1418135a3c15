-- What one CPU has made of its items, and what all CPUs have made of theirs. Rings that each CPU makes by itself are shown legal by these.
use Rattle.std.specs.Prelude.{◌≡◌, ◌≢◌, ◌⊎◌, ◌+◌, ℕ, zero, suc, ◌<◌, ◌≤◌, ◌==◌, Bool, true, false, ◌&&◌, List, [], ◌∷◌, ◌++◌, length, Some, if◌then◌else◌}
use Rattle.std.specs.List.{list_any, AllByRecursion as Each}
use Rattle.ft_base.specs.declared.number.CallNo.{CallNo}
use Rattle.ft_base.specs.declared.item.Item.{Item}
use Rattle.ft_base.specs.declared.item.Stamped.{Stamped}
use Rattle.ft_base.specs.Items.{call_of}
use Rattle.ft_base.specs.Job.{Trigger}
use Rattle.circular_buffer.specs.Buffer.{keep_last}
use Rattle.ring_rules.specs.Plan.{TracePlan}
use Rattle.ring_rules.specs.Hits.{has, is_hit, is_traced, trigger}
use Rattle.ring_rules.specs.Fold.{Ring, write}
use Rattle.ring_rules.specs.Legal.{EachOnce, IsSublist, fired_at, own_after, traced_places}

-- ## one CPU

-- how many of the items hit a trigger
abbrev pub hits_on : Trigger → List Stamped → ℕ
hits_on t [] = 0
hits_on t (x ∷ xs) = (if is_hit t x.item then 1 else 0) + hits_on t xs

-- whether one of them hits it at a place
abbrev pub hit_at : Trigger → ℕ → List Stamped → Bool
hit_at t p items = list_any (λ x. (x.place == p) && is_hit t x.item) items

-- What a CPU has made of its own switch and of its ring, where `fired` says at which places triggers fired, for whichever CPU.
--   below     its items' places are below the next one
--   own'      its own switch
--   the others   the ring, as in the rule of legal rings, with `saw` in place of another CPU that has switched tracing off, or on
pub record RingInvariant (plan : TracePlan) (items : List Stamped) (next : ℕ) (own : Bool) (fired : List (List ℕ)) (ring : Ring)
    (saw : Bool → Type 0) : Type 0 where
  pub below : Each (λ x. x.place < next) items
  pub own' : own ≡ own_after plan fired items
  pub written : List ℕ
  pub some_of : IsSublist written (traced_places plan items)
  pub keeps : ring ≡ record { written = length written; held = keep_last plan.ring written }
  pub missed : (before after : List Stamped) (x : Stamped) → items ≡ before ++ x ∷ after → is_traced plan x.item ≡ true
      → own_after plan fired before ≡ true → has written x.place ≡ false → saw false
  pub extra : (before after : List Stamped) (x : Stamped) → items ≡ before ++ x ∷ after → is_traced plan x.item ≡ true
      → own_after plan fired before ≡ false → has written x.place ≡ true → saw true

-- What a CPU has made of its items by itself.
--   below, least   the next place is the least one above theirs
--   own'           its own switch
--   hits'          how often they hit each trigger
--   count          it has a list for each trigger,
--   places, once   in which are places of hits, none twice: those at which the trigger fired for it
--   the others     its ring, as above
pub record CpuInvariant (plan : TracePlan) (items : List Stamped) (next : ℕ) (own : Bool) (hits : ℕ → ℕ) (fired : List (List ℕ)) (ring : Ring)
    (saw : Bool → Type 0) : Type 0 where
  pub below : Each (λ x. x.place < next) items
  pub least : (p : ℕ) → Each (λ x. x.place < p) items → next ≤ p
  pub own' : own ≡ own_after plan fired items
  pub hits' : (i : ℕ) → i < length plan.triggers → hits i ≡ hits_on (trigger plan i) items
  pub count : length fired ≡ length plan.triggers
  pub places : (i p : ℕ) → i < length plan.triggers → has (fired_at fired i) p ≡ true → hit_at (trigger plan i) p items ≡ true
  pub once : (i : ℕ) → i < length plan.triggers → EachOnce (fired_at fired i)
  pub written : List ℕ
  pub some_of : IsSublist written (traced_places plan items)
  pub keeps : ring ≡ record { written = length written; held = keep_last plan.ring written }
  pub missed : (before after : List Stamped) (x : Stamped) → items ≡ before ++ x ∷ after → is_traced plan x.item ≡ true
      → own_after plan fired before ≡ true → has written x.place ≡ false → saw false
  pub extra : (before after : List Stamped) (x : Stamped) → items ≡ before ++ x ∷ after → is_traced plan x.item ≡ true
      → own_after plan fired before ≡ false → has written x.place ≡ true → saw true

-- the ring after an item whose place is written, or isn't
abbrev pub ring_after : TracePlan → Bool → ℕ → Ring → Ring
ring_after plan now p ring = if now then write plan.ring p ring else ring

-- of each trigger the item's place is one more fired place, if the item hit it, or there is none
abbrev pub Grows : TracePlan → Stamped → List (List ℕ) → List (List ℕ) → Type 0
Grows plan x fired fired' =
    (i : ℕ) → i < length plan.triggers
    → (fired_at fired' i ≡ fired_at fired i) ⊎ ((is_hit (trigger plan i) x.item ≡ true) × (fired_at fired' i ≡ fired_at fired i ++ x.place ∷ []))

-- ## all CPUs

-- the sum over the first n CPUs
abbrev pub total : ℕ → (ℕ → ℕ) → ℕ
total zero f = 0
total (suc n) f = total n f + f n

-- the calls of a history are of tasks that the plan has
abbrev pub IsOf : TracePlan → List Item → Type 0
IsOf plan history = Each (λ item. (call : CallNo) → call_of item ≡ Some call → call.task.0 < length plan.tasks) history

-- a list has the places of all CPUs' lists, each once
pub record Gathers (cpus : ℕ) (parts : ℕ → List ℕ) (all : List ℕ) : Type 0 where
  pub times : length all ≡ total cpus (λ c. length (parts c))
  pub from : (p : ℕ) → has all p ≡ true → (c : ℕ) × (c < cpus) × (has (parts c) p ≡ true)
  pub each : (c p : ℕ) → c < cpus → has (parts c) p ≡ true → has all p ≡ true
  pub once : EachOnce all

-- another CPU than c has a fired hit, by its own list, of a trigger that switches tracing on, or off
pub record FiredElsewhere (plan : TracePlan) (fired : ℕ → List (List ℕ)) (c : ℕ) (on : Bool) : Type 0 where
  pub cpu : ℕ
  pub apart : cpu ≢ c
  pub inside : cpu < plan.cpus
  pub trigger' : ℕ
  pub within : trigger' < length plan.triggers
  pub switches : (trigger plan trigger').on ≡ on
  pub some : 0 < length (fired_at (fired cpu) trigger')
