-- What the code keeps of rings while it goes through a history.
use Rattle.std.specs.Prelude.{◌≡◌, ℕ, ◌<◌, ◌≤◌, List, length, get_or, set, slice_index_or}
use Rattle.ring_rules.specs.Plan.{TracePlan}
use Rattle.ring_rules.specs.Fold.{Tracing, no_ring, write}
use Rattle.ring_rules.specs.Gathered.{RingBox, empty_box}

-- what is so far, how many places each ring holds, and how many items came
pub record Traced : Type 0 where
  pub so_far : Tracing
  pub most : ℕ
  pub seen : ℕ

-- no trigger was hit and no ring was written to more often than items came, and each ring holds so many places
pub record IsTraced (hits : List ℕ) (boxes : List RingBox) (most seen : ℕ) : Type 0 where
  pub hits' : (i : ℕ) → get_or hits i 0 ≤ seen
  pub boxes' : (c : ℕ) → c < length boxes → ((slice_index_or boxes c (empty_box 0)).ring.written ≤ seen)
      × ((slice_index_or boxes c (empty_box 0)).most ≡ most)

-- it has the plan's triggers, CPUs and rings
pub record IsFor (plan : TracePlan) (t : Traced) : Type 0 where
  pub hits : length t.so_far.hits ≡ length plan.triggers
  pub fired : length t.so_far.rings.fired ≡ length plan.triggers
  pub cpus : length t.so_far.rings.cpus ≡ plan.cpus
  pub most : t.most ≡ plan.ring

-- with other rings
abbrev pub with_fold : Traced → Tracing → Traced
with_fold t s = record { so_far = s; most = t.most; seen = t.seen }

-- with one more place in the ring of CPU c
abbrev pub with_written : Traced → ℕ → ℕ → Traced
with_written t c p = with_fold t (record {
  on = t.so_far.on;
  hits = t.so_far.hits;
  rings = record { cpus = set t.so_far.rings.cpus c (write t.most p (slice_index_or t.so_far.rings.cpus c no_ring)); fired = t.so_far.rings.fired };
})
