-- The items of a history on its CPUs.
use Rattle.std.proofs.Common.{◌≡◌, ◌≢◌, ℕ, zero, suc, ◌+◌, ◌<◌, Bool, true, false, List, [], ◌∷◌, ◌++◌, get_or, length, ⊎_elim, cond, refl, sym, ap, ◌∙◌, arith, Option, Some, None}
use Rattle.std.specs.Prelude.{◌==◌, ◌&&◌, if◌then◌else◌, slice_get}
use Rattle.std.specs.List.{AllByRecursion as Each}
use Rattle.ft_base.proofs.Small.{false_true, and_both, or-true_either, ==-refl}
use Rattle.ft_base.specs.Items.{call_of}
use Rattle.ft_base.specs.Job.{Trigger}
use Rattle.ft_base.specs.declared.number.CallNo.{CallNo}
use Rattle.ft_base.specs.declared.item.Item.{Item}
use Rattle.ft_base.specs.declared.item.Item.TheVariants.{Enter}
use Rattle.ft_base.specs.declared.item.Stamped.{Stamped}
use Rattle.ring_rules.specs.Plan.{IsPlan, TracePlan}
use Rattle.ring_rules.specs.Hits.{hits_in, is_hit, is_of_cpu, stamp, call_on}
use Rattle.ring_rules.specs.Legal.{items_from}
use Rattle.ring_rules.specs.RingInvariant.{IsOf, hit_at, hits_on, total}
use Rattle.ring_rules.proofs.Lists.{apart, equal}
use Rattle.ring_rules.proofs.Numbers.{num}
use Rattle.ring_rules.proofs.Totals.{total-more, total-same}

-- ## one CPU

task-apart : (plan : TracePlan) (c d : ℕ) (t : Option CallNo) → d ≢ c → call_on plan d t ≡ true → call_on plan c t ≡ false
task-apart plan c d None ne e = false_true e
task-apart plan c d (Some call) ne e = apart (get_or plan.tasks call.task.0 0) c (λ q. ne (sym (equal (get_or plan.tasks call.task.0 0) d e) ∙ q))

-- an item is on one CPU
pub on-apart : (plan : TracePlan) (c d : ℕ) (item : Item) → d ≢ c → is_of_cpu plan d item ≡ true → is_of_cpu plan c item ≡ false
on-apart plan c d item ne e = task-apart plan c d (call_of item) ne e

-- a call has a task
pub hit-task : (t : Trigger) (item : Item) → is_hit t item ≡ true → (call : CallNo) × (call_of item ≡ Some call)
hit-task t (Enter call ctx f caller) e = (call, refl)
hit-task t _ e = false_true e

-- ## where the items of a CPU stand

-- y is the item of CPU c that stands in a list at its place, if the list is from place n on
abbrev pub Stands : TracePlan → ℕ → ℕ → List Item → Stamped → Type 0
Stands plan c n l y = (j : ℕ) × (y.place ≡ n + j) × (slice_get l j ≡ Some y.item) × (is_of_cpu plan c y.item ≡ true)

-- a hit at place p stands in such a list
abbrev pub Found : TracePlan → ℕ → Trigger → ℕ → ℕ → List Item → Type 0
Found plan c t p n l = (j : ℕ) × (x : Item) × (p ≡ n + j) × (slice_get l j ≡ Some x) × (is_hit t x ≡ true) × (is_of_cpu plan c x ≡ true)

-- each stands in the history at its place
pub each-stands : (plan : TracePlan) (c q : ℕ) (h : List Item)
    → Each (Stands plan c q h) (items_from plan c q h)
each-stands plan c q [] = tt
each-stands plan c q (item ∷ rest) = by (later (items_from plan c (suc q) rest) (each-stands plan c (suc q) rest)) (is_of_cpu plan c item) refl
  where
    later : (xs : List Stamped) → Each (Stands plan c (suc q) rest) xs → Each (Stands plan c q (item ∷ rest)) xs
    later [] all = tt
    later (y ∷ ys) all = ((suc all.0.0, (let e = all.0.1 in omega (arith, e)), all.0.2, all.0.3), later ys all.1)

    by : Each (Stands plan c q (item ∷ rest)) (items_from plan c (suc q) rest) → (b : Bool) → is_of_cpu plan c item ≡ b
        → Each (Stands plan c q (item ∷ rest)) (cond b (stamp q item ∷ items_from plan c (suc q) rest) (items_from plan c (suc q) rest))
    by all true on = ((0, omega arith, refl, on), all)
    by all false on = all

-- a hit of one of its items is a hit in the history
pub hit-stands : (plan : TracePlan) (c q : ℕ) (t : Trigger) (p : ℕ) (h : List Item) → hit_at t p (items_from plan c q h) ≡ true
    → Found plan c t p q h
hit-stands plan c q t p [] e = false_true e
hit-stands plan c q t p (item ∷ rest) e = by (λ e'. later (hit-stands plan c (suc q) t p rest e')) (is_of_cpu plan c item) refl e
  where
    later : Found plan c t p (suc q) rest → Found plan c t p q (item ∷ rest)
    later f = (suc f.0, f.1, (let e = f.2 in omega (arith, e)), f.3, f.4, f.5)

    by : (hit_at t p (items_from plan c (suc q) rest) ≡ true → Found plan c t p q (item ∷ rest)) → (b : Bool) → is_of_cpu plan c item ≡ b
        → hit_at t p (cond b (stamp q item ∷ items_from plan c (suc q) rest) (items_from plan c (suc q) rest)) ≡ true
        → Found plan c t p q (item ∷ rest)
    by go true on e' =
        ⊎_elim
        (λ here. (
          0,
          item,
          (let s = equal q p ((and_both (q == p) (is_hit t item) here).0) in omega (arith, s)),
          refl,
          (and_both (q == p) (is_hit t item) here).1,
          on,
        ))
        go (or-true_either ((q == p) && is_hit t item) (hit_at t p (items_from plan c (suc q) rest)) e')
    by go false on e' = go e'

-- ## all hits

-- one more item at the front
hits-front : (plan : TracePlan) (c q : ℕ) (t : Trigger) (item : Item) (rest : List Item)
    → hits_on t (items_from plan c q (item ∷ rest)) ≡ hits_on t (items_from plan c (suc q) rest) + num (is_of_cpu plan c item && is_hit t item)
hits-front plan c q t item rest = by (is_of_cpu plan c item)
  where
    by : (b : Bool)
        → hits_on t (cond b (stamp q item ∷ items_from plan c (suc q) rest) (items_from plan c (suc q) rest))
        ≡ hits_on t (items_from plan c (suc q) rest) + num (b && is_hit t item)
    by true = omega arith
    by false = (let z : num (false && is_hit t item) ≡ 0 =
        refl in let s : hits_on t (cond false (stamp q item ∷ items_from plan c (suc q) rest) (items_from plan c (suc q) rest))
        ≡ hits_on t (items_from plan c (suc q) rest) = refl in omega (arith, z, s))

none-all : (n : ℕ) → total n (λ c. 0) ≡ 0
none-all zero = refl
none-all (suc n) = let e = none-all n in omega (arith, e)

zero-more : (a : Bool) (n : ℕ) → n + num (a && false) ≡ n
zero-more true n = let z : num (true && false) ≡ 0 = refl in omega (arith, z)
zero-more false n = let z : num (false && false) ≡ 0 = refl in omega (arith, z)

zero-before : (a : Bool) (n : ℕ) → n + num (false && a) ≡ n
zero-before a n = let z : num (false && a) ≡ 0 = refl in omega (arith, z)

-- the hits of a CPU's items, from place q on
abbrev old : TracePlan → ℕ → Trigger → List Item → ℕ → ℕ
old plan q t h c = hits_on t (items_from plan c q h)

one-more : (plan : TracePlan) → IsPlan plan → (t : Trigger) (q : ℕ) (item : Item) (rest : List Item)
    → ((call : CallNo) → call_of item ≡ Some call → call.task.0 < length plan.tasks)
    → (b : Bool) → is_hit t item ≡ b
    → total plan.cpus (old plan q t (item ∷ rest)) ≡ total plan.cpus (old plan (suc q) t rest) + num b
one-more plan is t q item rest of true hit =
    let k = hit-task t item hit in
    let c : ℕ = get_or plan.tasks k.0.task.0 0 in
    let inside : c < plan.cpus = is.tasks k.0.task.0 (of k.0 k.1) in
    let on : is_of_cpu plan c item ≡ true = ap (call_on plan c) k.1 ∙ ==-refl c in
    let own : old plan q t (item ∷ rest) c ≡ old plan (suc q) t rest c + 1 = hits-front plan c q t item rest
    ∙ (λ j. old plan (suc q) t rest c + num (on j && hit j)) in
    let others : (d : ℕ) → d ≢ c → old plan q t (item ∷ rest) d ≡ old plan (suc q) t rest d = λ d ne.
    hits-front plan d q t item rest ∙ ap (λ a. old plan (suc q) t rest d + num (a && is_hit t item)) (on-apart plan d c item (λ s. ne (sym s)) on)
    ∙ zero-before (is_hit t item) (old plan (suc q) t rest d) in
    total-more plan.cpus c 1 (old plan (suc q) t rest) (old plan q t (item ∷ rest)) inside own others
one-more plan is t q item rest of false hit =
    let same = total-same plan.cpus (old plan q t (item ∷ rest)) (old plan (suc q) t rest)
    (λ c lt. hits-front plan c q t item rest ∙ ap (λ b. old plan (suc q) t rest c + num (is_of_cpu plan c item && b)) hit
    ∙ zero-more (is_of_cpu plan c item) (old plan (suc q) t rest c)) in
    let z : num false ≡ 0 = refl in
    omega (arith, same, z)

pub hits-all : (plan : TracePlan) → IsPlan plan → (t : Trigger) (q : ℕ) (h : List Item) → IsOf plan h
    → total plan.cpus (λ c. hits_on t (items_from plan c q h)) ≡ hits_in t h
hits-all plan is t q [] of = none-all plan.cpus
hits-all plan is t q (item ∷ rest) of =
    let rest-is = hits-all plan is t (suc q) rest of.1 in
    let front = one-more plan is t q item rest of.0 (is_hit t item) refl in
    omega (arith, rest-is, front)

-- ## a history with one more item

pub hits-more : (t : Trigger) (past : List Item) (item : Item) → hits_in t (past ++ item ∷ []) ≡ hits_in t past + num (is_hit t item)
hits-more t [] item = omega arith
hits-more t (x ∷ xs) item =
    let e = hits-more t xs item in
    let n : ℕ = if is_hit t x then 1 else 0 in
    omega (arith, e)

pub items-more : (plan : TracePlan) (c q : ℕ) (past : List Item) (item : Item)
    → items_from plan c q (past ++ item ∷ [])
    ≡ (if is_of_cpu plan c item then items_from plan c q past ++ stamp (q + length past) item ∷ [] else items_from plan c q past)
items-more plan c q [] item = ap (λ n. cond (is_of_cpu plan c item) (stamp n item ∷ []) []) (let e : q ≡ q + 0 = omega arith in e)
items-more plan c q (x ∷ xs) item =
    ap (λ l. cond (is_of_cpu plan c x) (stamp q x ∷ l) l) (items-more plan c (suc q) xs item)
    ∙ ap (λ n. cond (is_of_cpu plan c x)
    (stamp q x ∷ cond (is_of_cpu plan c item) (items_from plan c (suc q) xs ++ stamp n item ∷ []) (items_from plan c (suc q) xs))
    (cond (is_of_cpu plan c item) (items_from plan c (suc q) xs ++ stamp n item ∷ []) (items_from plan c (suc q) xs)))
    (let e : suc q + length xs ≡ q + suc (length xs) = omega arith in e)
    ∙ by (is_of_cpu plan c x) (is_of_cpu plan c item)
  where
    by : (a b : Bool)
        → cond a (stamp q x ∷ cond b (items_from plan c (suc q) xs ++ stamp (q + suc (length xs)) item ∷ []) (items_from plan c (suc q) xs))
        (cond b (items_from plan c (suc q) xs ++ stamp (q + suc (length xs)) item ∷ []) (items_from plan c (suc q) xs))
        ≡ cond b (cond a (stamp q x ∷ items_from plan c (suc q) xs) (items_from plan c (suc q) xs) ++ stamp (q + suc (length xs)) item ∷ [])
        (cond a (stamp q x ∷ items_from plan c (suc q) xs) (items_from plan c (suc q) xs))
    by true true = refl
    by true false = refl
    by false true = refl
    by false false = refl
