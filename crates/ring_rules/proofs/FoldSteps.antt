-- What one item makes of the rings of a history that is gone through by place, and how often triggers were hit by then.
use Rattle.std.proofs.Common.{◌≡◌, ◌≢◌, ℕ, zero, suc, ◌+◌, ◌<◌, ◌≤◌, Bool, true, false, List, [], ◌∷◌, ◌++◌, length, set, refl, sym, ap, ◌∙◌, cond, arith, ⊎_elim, length-set, get_or-set_other, Option, Some, None}
use Rattle.std.specs.Prelude.{◌&&◌, slice_index, slice_index_or}
use Rattle.std.proofs.lemmas.List.{get_or_past}
use Rattle.ft_base.specs.Items.{call_of}
use Rattle.ft_base.specs.Job.{Trigger}
use Rattle.ft_base.specs.declared.item.Item.{Item}
use Rattle.ring_rules.specs.Plan.{TracePlan}
use Rattle.ring_rules.specs.Hits.{fires, hits_in, is_hit, is_traced, quota, trigger}
use Rattle.ring_rules.specs.Fold.{Tracing, after_item, after_items, at_start, cpu_of_call, hit, hit_all, no_ring, write, written_at}
use Rattle.ring_rules.proofs.FoldLegal.{fold-hits, fold-lengths}
use Rattle.ring_rules.proofs.Numbers.{lt-or-le, num}

-- ## the lengths

-- as many hits, lists and rings
pub record Alike (s t : Tracing) : Type 0 where
  pub hits : length t.hits ≡ length s.hits
  pub fired : length t.rings.fired ≡ length s.rings.fired
  pub cpus : length t.rings.cpus ≡ length s.rings.cpus

pub hit-alike : (plan : TracePlan) (p i : ℕ) (s : Tracing) → Alike s (hit plan p i s)
hit-alike plan p i s = by (fires (trigger plan i).limit (slice_index s.hits i))
  where
    by : (b : Bool)
        → Alike s (cond b
        (record {
          on = (trigger plan i).on;
          hits = set s.hits i (suc (slice_index s.hits i));
          rings = record { cpus = s.rings.cpus; fired = set s.rings.fired i (slice_index_or s.rings.fired i [] ++ p ∷ []) };
        })
        (record { on = s.on; hits = set s.hits i (suc (slice_index s.hits i)); rings = s.rings }))
    by true = record {
      hits = length-set s.hits i (suc (slice_index s.hits i));
      fired = length-set s.rings.fired i (slice_index_or s.rings.fired i [] ++ p ∷ []);
      cpus = refl;
    }
    by false = record { hits = length-set s.hits i (suc (slice_index s.hits i)); fired = refl; cpus = refl }

pub alike-alike : (s t u : Tracing) → Alike s t → Alike t u → Alike s u
alike-alike s t u a b = record { hits = b.hits ∙ a.hits; fired = b.fired ∙ a.fired; cpus = b.cpus ∙ a.cpus }

pub all-alike : (plan : TracePlan) (p : ℕ) (item : Item) (m : ℕ) (s : Tracing) → Alike s (hit_all plan p item m s)
all-alike plan p item zero s = record { hits = refl; fired = refl; cpus = refl }
all-alike plan p item (suc m) s = by (all-alike plan p item m s) (is_hit (trigger plan m) item)
  where
    by : Alike s (hit_all plan p item m s) → (b : Bool) → Alike s (cond b (hit plan p m (hit_all plan p item m s)) (hit_all plan p item m s))
    by a true = alike-alike s (hit_all plan p item m s) (hit plan p m (hit_all plan p item m s)) a (hit-alike plan p m (hit_all plan p item m s))
    by a false = a

pub goes-alike : (plan : TracePlan) (p : ℕ) (item : Item) (s : Tracing) → Alike s (after_item plan p item s)
goes-alike plan p item s = by (is_traced plan item && (hit_all plan p item (length plan.triggers) s).on)
  where
    by : (b : Bool)
        → Alike s (cond b
        (record {
          on = (hit_all plan p item (length plan.triggers) s).on;
          hits = (hit_all plan p item (length plan.triggers) s).hits;
          rings = written_at plan p (cpu_of_call plan (call_of item)) (hit_all plan p item (length plan.triggers) s).rings;
        })
        (hit_all plan p item (length plan.triggers) s))
    by true =
        let a = all-alike plan p item (length plan.triggers) s in
        record {
          hits = a.hits;
          fired = a.fired;
          cpus = length-set (hit_all plan p item (length plan.triggers) s).rings.cpus (cpu_of_call plan (call_of item))
              (write plan.ring p (slice_index_or (hit_all plan p item (length plan.triggers) s).rings.cpus (cpu_of_call plan (call_of item)) no_ring))
              ∙ a.cpus;
        }
    by false = all-alike plan p item (length plan.triggers) s

-- ## the hits of a trigger to come

pub hit-later : (plan : TracePlan) (p i j : ℕ) (s : Tracing) → j ≢ i → slice_index (hit plan p i s).hits j ≡ slice_index s.hits j
hit-later plan p i j s ne = by (fires (trigger plan i).limit (slice_index s.hits i))
  where
    by : (b : Bool)
        → slice_index (cond {A = Tracing} b
        (record {
          on = (trigger plan i).on;
          hits = set s.hits i (suc (slice_index s.hits i));
          rings = record { cpus = s.rings.cpus; fired = set s.rings.fired i (slice_index_or s.rings.fired i [] ++ p ∷ []) };
        })
        (record { on = s.on; hits = set s.hits i (suc (slice_index s.hits i)); rings = s.rings })).hits j
        ≡ slice_index s.hits j
    by true = get_or-set_other s.hits i j (suc (slice_index s.hits i)) 0 ne
    by false = get_or-set_other s.hits i j (suc (slice_index s.hits i)) 0 ne

pub all-later : (plan : TracePlan) (p : ℕ) (item : Item) (m j : ℕ) (s : Tracing) → m ≤ j
    → slice_index (hit_all plan p item m s).hits j ≡ slice_index s.hits j
all-later plan p item zero j s low = refl
all-later plan p item (suc m) j s low = by (all-later plan p item m j s (omega (arith, low))) (is_hit (trigger plan m) item)
  where
    by : slice_index (hit_all plan p item m s).hits j ≡ slice_index s.hits j → (b : Bool)
        → slice_index (cond {A = Tracing} b (hit plan p m (hit_all plan p item m s)) (hit_all plan p item m s)).hits j ≡ slice_index s.hits j
    by e true = hit-later plan p m j (hit_all plan p item m s) (λ q. absurd (omega (arith, q, low))) ∙ e
    by e false = e

-- the rings stay
hit-cpus : (plan : TracePlan) (p i : ℕ) (s : Tracing) → (hit plan p i s).rings.cpus ≡ s.rings.cpus
hit-cpus plan p i s = by (fires (trigger plan i).limit (slice_index s.hits i))
  where
    by : (b : Bool)
        → (cond {A = Tracing} b
        (record {
          on = (trigger plan i).on;
          hits = set s.hits i (suc (slice_index s.hits i));
          rings = record { cpus = s.rings.cpus; fired = set s.rings.fired i (slice_index_or s.rings.fired i [] ++ p ∷ []) };
        })
        (record { on = s.on; hits = set s.hits i (suc (slice_index s.hits i)); rings = s.rings })).rings.cpus
        ≡ s.rings.cpus
    by true = refl
    by false = refl

pub all-cpus : (plan : TracePlan) (p : ℕ) (item : Item) (m : ℕ) (s : Tracing) → (hit_all plan p item m s).rings.cpus ≡ s.rings.cpus
all-cpus plan p item zero s = refl
all-cpus plan p item (suc m) s = by (all-cpus plan p item m s) (is_hit (trigger plan m) item)
  where
    by : (hit_all plan p item m s).rings.cpus ≡ s.rings.cpus → (b : Bool)
        → (cond {A = Tracing} b (hit plan p m (hit_all plan p item m s)) (hit_all plan p item m s)).rings.cpus ≡ s.rings.cpus
    by e true = hit-cpus plan p m (hit_all plan p item m s) ∙ e
    by e false = e

-- ## items

pub goes-more : (plan : TracePlan) (p : ℕ) (xs : List Item) (x : Item) (s : Tracing)
    → after_items plan p (xs ++ x ∷ []) s ≡ after_item plan (p + length xs) x (after_items plan p xs s)
goes-more plan p [] x s = ap (λ n. after_item plan n x s) (let e : p ≡ p + 0 = omega arith in e)
goes-more plan p (y ∷ ys) x s =
    goes-more plan (suc p) ys x (after_item plan p y s)
    ∙ ap (λ n. after_item plan n x (after_items plan (suc p) ys (after_item plan p y s)))
    (let e : suc p + length ys ≡ p + suc (length ys) = omega arith in e)

-- ## how often triggers were hit

pub hits-most : (t : Trigger) (items : List Item) → hits_in t items ≤ length items
hits-most t [] = omega arith
hits-most t (item ∷ rest) = by (is_hit t item) (hits-most t rest)
  where
    by : (b : Bool) → hits_in t rest ≤ length rest → num b + hits_in t rest ≤ suc (length rest)
    by true e = let z : num true ≡ 1 = refl in omega (arith, e, z)
    by false e = let z : num false ≡ 0 = refl in omega (arith, e, z)

pub quota-most : (limit : Option ℕ) (n : ℕ) → quota limit n ≤ n
quota-most None n = omega arith
quota-most (Some most) n = omega arith

-- no trigger was hit more often than items came
pub fold-few : (plan : TracePlan) (history : List Item) (i : ℕ) → slice_index (after_items plan 0 history (at_start plan)).hits i ≤ length history
fold-few plan history i =
    ⊎_elim
    (λ (lt : i < length plan.triggers).
    let e = fold-hits plan history i lt in
    let m = hits-most (trigger plan i) history in
    omega (arith, e, m))
    (λ (le : length plan.triggers ≤ i).
    let l = (fold-lengths plan history).0 in
    let e = get_or_past (after_items plan 0 history (at_start plan)).hits i 0 (omega (arith, le, l)) in
    omega (arith, e))
    (lt-or-le i (length plan.triggers))
