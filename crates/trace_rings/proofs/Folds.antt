-- What stays as it is while triggers are gone through, and one more item.
use Rattle.std.proofs.Common.{◌≡◌, ℕ, zero, suc, ◌+◌, ◌<◌, ◌≤◌, ◌^◌, Bool, true, false, List, [], ◌∷◌, ◌++◌, length, replicate, set, get_or, take, ⊎_elim, refl, sym, ap, ◌∙◌, subst, cond, arith, Some}
use Rattle.std.specs.Prelude.{slice_get, slice_index_or}
use Rattle.std.proofs.lemmas.List.{append-nil, get_or_past, length-replicate, length-take, map-set, set_past, take_more}
use Rattle.std.specs.Global.{Vec}
use Rattle.ft_base.specs.declared.item.Item.{Item}
use Rattle.ring_rules.specs.Plan.{TracePlan}
use Rattle.ring_rules.specs.Hits.{hits_in, is_hit, trigger}
use Rattle.ring_rules.specs.Fold.{Ring, Rings, Tracing, after_item, after_items, at_start, fold, hit, hit_all, no_ring, write}
use Rattle.ring_rules.specs.Gathered.{AreFew, RingBox, empty_box, lists_of, no_lists, rings_in, written_box}
use Rattle.ring_rules.specs.Legal.{fired_at}
use Rattle.ring_rules.proofs.Assembled.{same-value}
use Rattle.ring_rules.proofs.FoldLegal.{fold-legal}
use Rattle.ring_rules.proofs.FoldSteps.{Alike, all-alike, alike-alike, goes-alike, goes-more, hits-most, quota-most}
use Rattle.ring_rules.proofs.Lists.{get-below, none-some}
use Rattle.ring_rules.proofs.Numbers.{lt-or-le}
use Rattle.trace_rings.specs.Traced.{IsFor, IsTraced, Traced, with_fold, with_written}

-- ## a fold of the plan

pub for-alike : (plan : TracePlan) (t : Traced) (s : Tracing) (seen : ℕ) → IsFor plan t → Alike t.so_far s
    → IsFor plan (record { so_far = s; most = t.most; seen = seen })
for-alike plan t s seen f a = record { hits = a.hits ∙ f.hits; fired = a.fired ∙ f.fired; cpus = a.cpus ∙ f.cpus; most = f.most }

pub for-all : (plan : TracePlan) (p : ℕ) (item : Item) (m : ℕ) (t u : Traced) → IsFor plan t → u ≡ with_fold t (hit_all plan p item m t.so_far)
    → IsFor plan u
for-all plan p item m t u f e =
    subst (IsFor plan) (sym e) (for-alike plan t (hit_all plan p item m t.so_far) t.seen f (all-alike plan p item m t.so_far))

for-goes-on : (plan : TracePlan) (p : ℕ) (items : List Item) (s : Tracing) → Alike s (after_items plan p items s)
for-goes-on plan p [] s = record { hits = refl; fired = refl; cpus = refl }
for-goes-on plan p (item ∷ rest) s =
    alike-alike s (after_item plan p item s) (after_items plan (suc p) rest (after_item plan p item s)) (goes-alike plan p item s)
    (for-goes-on plan (suc p) rest (after_item plan p item s))

pub for-start : (plan : TracePlan) (items : List Item) (seen : ℕ) (t : Traced)
    → t ≡ record { so_far = after_items plan 0 items (at_start plan); most = plan.ring; seen = seen } → IsFor plan t
for-start plan items seen t e =
    let a = for-goes-on plan 0 items (at_start plan) in
    subst (IsFor plan) (sym e)
    record {
      hits = a.hits ∙ length-replicate (length plan.triggers) 0;
      fired = a.fired ∙ length-replicate (length plan.triggers) [];
      cpus = a.cpus ∙ length-replicate plan.cpus no_ring;
      most = refl;
    }

-- ## one more trigger

pub all-hit : (plan : TracePlan) (p : ℕ) (item : Item) (m : ℕ) (t u v : Traced) → u ≡ with_fold t (hit_all plan p item m t.so_far)
    → is_hit (trigger plan m) item ≡ true
    → v ≡ with_fold u (hit plan p m u.so_far) → v ≡ with_fold t (hit_all plan p item (suc m) t.so_far)
all-hit plan p item m t u v e hit' step =
    step ∙ ap (λ w. with_fold w (hit plan p m w.so_far)) e
    ∙ ap (λ b. with_fold t (cond b (hit plan p m (hit_all plan p item m t.so_far)) (hit_all plan p item m t.so_far))) (sym hit')

pub all-missed : (plan : TracePlan) (p : ℕ) (item : Item) (m : ℕ) (t u : Traced) → u ≡ with_fold t (hit_all plan p item m t.so_far)
    → is_hit (trigger plan m) item ≡ false
    → u ≡ with_fold t (hit_all plan p item (suc m) t.so_far)
all-missed plan p item m t u e miss =
    e ∙ ap (λ b. with_fold t (cond b (hit plan p m (hit_all plan p item m t.so_far)) (hit_all plan p item m t.so_far))) (sym miss)

-- ## rings

pub boxes-at : (bs : List RingBox) (c : ℕ) → slice_index_or (rings_in bs) c no_ring ≡ (slice_index_or bs c (empty_box 0)).ring
boxes-at [] c = refl
boxes-at (b ∷ bs) zero = refl
boxes-at (b ∷ bs) (suc c) = boxes-at bs c

pub boxes-length : (bs : List RingBox) → length (rings_in bs) ≡ length bs
boxes-length [] = refl
boxes-length (b ∷ bs) = ap suc (boxes-length bs)

pub written-at : (hits : List ℕ) (bs : List RingBox) (most seen : ℕ) → IsTraced hits bs most seen → (c : ℕ)
    → (slice_index_or (rings_in bs) c no_ring).written ≤ seen
written-at hits bs most seen is c =
    ⊎_elim
    (λ (lt : c < length bs).
    let b = (is.boxes' c lt).0 in
    let e = ap (λ (r : Ring). r.written) (boxes-at bs c) in
    omega (arith, b, e))
    (λ (le : length bs ≤ c).
    let l = boxes-length bs in
    let e = ap (λ (r : Ring). r.written) (get_or_past (rings_in bs) c no_ring (omega (arith, le, l))) in
    omega (arith, e))
    (lt-or-le c (length bs))

pub written-rings : (bs bs' : List RingBox) (c p most : ℕ) → bs' ≡ set bs c (written_box p (slice_index_or bs c (empty_box 0)))
    → (c < length bs → (slice_index_or bs c (empty_box 0)).most ≡ most)
    → rings_in bs' ≡ set (rings_in bs) c (write most p (slice_index_or (rings_in bs) c no_ring))
written-rings bs bs' c p most e m =
    ⊎_elim
    (λ (lt : c < length bs).
    ap rings_in e
    ∙ map-set (λ (b : RingBox). b.ring) bs c (written_box p (slice_index_or bs c (empty_box 0)))
    ∙ (λ j. set (rings_in bs) c (write (m lt j) p (sym (boxes-at bs c) j))))
    (λ (le : length bs ≤ c).
    ap rings_in (e ∙ set_past bs c (written_box p (slice_index_or bs c (empty_box 0))) le)
    ∙ sym (set_past (rings_in bs) c (write most p (slice_index_or (rings_in bs) c no_ring)) (let l = boxes-length bs in omega (arith, le, l))))
    (lt-or-le c (length bs))

pub write-as : (t0 t : Traced) (l : List Ring) (c p : ℕ) → t0 ≡ t
    → l ≡ set t0.so_far.rings.cpus c (write t0.most p (slice_index_or t0.so_far.rings.cpus c no_ring))
    → record {
      so_far = record { on = t0.so_far.on; hits = t0.so_far.hits; rings = record { cpus = l; fired = t0.so_far.rings.fired } };
      most = t0.most;
      seen = t0.seen;
    } ≡ with_written t c p
write-as t0 t l c p e m =
    (λ j. record {
      so_far = record { on = t0.so_far.on; hits = t0.so_far.hits; rings = record { cpus = m j; fired = t0.so_far.rings.fired } };
      most = t0.most;
      seen = t0.seen;
    })
    ∙ ap (λ u. with_written u c p) e

pub at-lists : (vs : List (Vec ℕ)) (i : ℕ) (d : Vec ℕ) → i < length vs → fired_at (lists_of vs) i ≡ (get_or vs i d).items
at-lists [] i d lt = absurd (omega (arith, lt))
at-lists (v ∷ vs) zero d lt = refl
at-lists (v ∷ vs) (suc i) d lt = at-lists vs i d (omega (arith, lt))

pub rings-none : (n most : ℕ) → rings_in (replicate n (empty_box most)) ≡ replicate n no_ring
rings-none zero most = refl
rings-none (suc n) most = ap (λ (l : List Ring). no_ring ∷ l) (rings-none n most)

-- ## what the code has

pub for-pass : (plan : TracePlan) (t u : Traced) (seen : ℕ) → IsFor plan t → u ≡ record { so_far = t.so_far; most = t.most; seen = seen }
    → IsFor plan u
for-pass plan t u seen f e = subst (IsFor plan) (sym e) record { hits = f.hits; fired = f.fired; cpus = f.cpus; most = f.most }

pub few-as : (l l' : List Ring) (k seen seen' : ℕ) → l' ≡ l → seen' ≡ seen + 1 → (slice_index_or l k no_ring).written ≤ seen
    → (slice_index_or l' k no_ring).written < seen'
few-as l l' k seen seen' e s w = let same = ap (λ m. (slice_index_or m k no_ring).written) e in omega (arith, same, s, w)

pub new-as : (plan : TracePlan) (on : Bool) (hits : List ℕ) (cpus : List RingBox) (fired : List (List ℕ)) (most n m k : ℕ) → on ≡ plan.tracing
    → hits ≡ replicate n 0 → n ≡ length plan.triggers → cpus ≡ replicate m (empty_box most) → m ≡ plan.cpus
    → fired ≡ no_lists k → k ≡ length plan.triggers → (ring : ℕ) → ring ≡ plan.ring
    → ◌≡◌ {A = Traced} (record {
      so_far = record { on = on; hits = hits; rings = record { cpus = rings_in cpus; fired = fired } };
      most = ring;
      seen = 0;
    })
    (record { so_far = at_start plan; most = plan.ring; seen = 0 })
new-as plan on hits cpus fired most n m k is-on is-hits is-n is-cpus is-m is-fired is-k ring is-ring =
    λ j. record {
      so_far = record {
        on = is-on j;
        hits = (is-hits ∙ ap (λ z. replicate z 0) is-n) j;
        rings = record {
          cpus = (ap rings_in is-cpus ∙ rings-none m most ∙ ap (λ z. replicate z no_ring) is-m) j;
          fired = (is-fired ∙ ap no_lists is-k) j;
        };
      };
      most = is-ring j;
      seen = 0;
    }

get-at : {A : Type 0} (xs : List A) (i : ℕ) (x d : A) → slice_get xs i ≡ Some x → get_or xs i d ≡ x
get-at [] i x d e = absurd (none-some x e)
get-at (y ∷ ys) zero x d e = same-value (Some y) y x refl e
get-at (y ∷ ys) (suc i) x d e = get-at ys i x d e

pub fold-more : (plan : TracePlan) (history : List Item) (i : ℕ) (x : Item) (t t' : Traced) → slice_get history i ≡ Some x
    → t ≡ record { so_far = after_items plan 0 (take i history) (at_start plan); most = plan.ring; seen = i }
    → t' ≡ record { so_far = after_item plan t.seen x t.so_far; most = t.most; seen = t.seen + 1 }
    → t' ≡ record { so_far = after_items plan 0 (take (i + 1) history) (at_start plan); most = plan.ring; seen = i + 1 }
fold-more plan history i x t t' at e step =
    let lt = get-below history x i at in
    let more : take (i + 1) history ≡ take i history ++ x ∷ [] = take_more history i x lt
    ∙ ap (λ y. take i history ++ y ∷ []) (get-at history i x x at) in
    let many : i ≡ 0 + length (take i history) = (let l = length-take i history in omega (arith, l, lt)) in
    step
    ∙ ap (λ (u : Traced). record { so_far = after_item plan u.seen x u.so_far; most = u.most; seen = u.seen + 1 }) e
    ∙ (λ j. record {
      so_far = (ap (λ n. after_item plan n x (after_items plan 0 (take i history) (at_start plan))) many
          ∙ sym (goes-more plan 0 (take i history) x (at_start plan))
          ∙ ap (λ l. after_items plan 0 l (at_start plan)) (sym more)) j;
      most = plan.ring;
      seen = i + 1;
    })

-- ## how often triggers fired

-- no more often than there are items
pub few-fired : (plan : TracePlan) (history : List Item) (rings : Rings) → rings ≡ fold plan history → length history < 2 ^ 32
    → AreFew (length plan.triggers) (rings.fired ∷ [])
few-fired plan history rings is few i lt =
    let legal = (fold-legal plan history).fired i lt in
    let times = legal.times in
    let q = quota-most (trigger plan i).limit (hits_in (trigger plan i) history) in
    let h = hits-most (trigger plan i) history in
    let one = ap length (append-nil (fired_at rings.fired i)) in
    let same = ap (λ (r : Rings). length (fired_at r.fired i)) is in
    omega (arith, few, times, q, h, one, same)
