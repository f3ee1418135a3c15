-- Rings as the program keeps them.
use Rattle.std.specs.Prelude.{ℕ, ◌<◌, ◌^◌, List, length, map, replicate, []}
use Rattle.std.specs.List.{flat_map, range_with_len}
use Rattle.std.specs.Global.{Vec}
use Rattle.ring_rules.specs.Fold.{Ring, Rings, no_ring, write}
use Rattle.ring_rules.specs.Legal.{fired_at}

-- a ring, and how many places it holds at most
pub record RingBox : Type 0 where
  pub ring : Ring
  pub most : ℕ

-- an empty one that holds so many
abbrev pub empty_box : ℕ → RingBox
empty_box most = record { ring = no_ring; most = most }

-- after one more place was written
abbrev pub written_box : ℕ → RingBox → RingBox
written_box p b = record { ring = write b.most p b.ring; most = b.most }

-- the rings of several
abbrev pub rings_in : List RingBox → List Ring
rings_in bs = map (λ b. b.ring) bs

-- lists of places, one for each trigger
abbrev pub lists_of : List (Vec ℕ) → List (List ℕ)
lists_of vs = map (λ v. v.items) vs

-- so many empty ones
abbrev pub no_lists : ℕ → List (List ℕ)
no_lists n = replicate n []

-- the lists of several parts
abbrev pub part_lists : List (Vec (Vec ℕ)) → List (List (List ℕ))
part_lists parts = map (λ p. lists_of p.items) parts

-- the places at which trigger i fired, those of one part after those of another
abbrev pub places_in : ℕ → List (List (List ℕ)) → List ℕ
places_in i parts = flat_map (λ p. fired_at p i) parts

-- the same of parts as the program keeps them
abbrev pub places_of : ℕ → List (Vec (Vec ℕ)) → List ℕ
places_of i parts = flat_map (λ p. fired_at (lists_of p.items) i) parts

-- the places at which each of n triggers fired
abbrev pub all_fired : ℕ → List (List (List ℕ)) → List (List ℕ)
all_fired n parts = map (λ i. places_in i parts) (range_with_len 0 n)

-- no trigger has fired so often that a number couldn't tell it
abbrev pub AreFew : ℕ → List (List (List ℕ)) → Type 0
AreFew n parts = (i : ℕ) → i < n → length (places_in i parts) < 2 ^ 32

-- the rings that these make up
abbrev pub rings_of : ℕ → List RingBox → List (List (List ℕ)) → Rings
rings_of n boxes parts = record { cpus = rings_in boxes; fired = all_fired n parts }
