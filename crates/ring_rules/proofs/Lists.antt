-- Lists of places and of items that get one more.
use Rattle.std.proofs.Common.{◌≡◌, ◌≢◌, ◌⊎◌, ℕ, zero, suc, ◌+◌, ◌<◌, ◌≤◌, Bool, true, false, List, [], ◌∷◌, ◌++◌, length, inl, inr, ⊎_elim, cond, refl, sym, ap, ◌∙◌, subst, arith, Option, Some, None}
use Rattle.std.specs.Prelude.{◌==◌, ◌||◌, ◌&&◌, if◌then◌else◌, drop, slice_get, slice_index_or}
use Rattle.std.specs.List.{list_any, AllByRecursion as Each}
use Rattle.std.proofs.lemmas.Bool.Decides.{nat_tests}
use Rattle.std.proofs.lemmas.List.Folds.{list_any-append}
use Rattle.ft_base.proofs.Small.{false_true, or-false_both, or-true, or-true_either, ==-refl}
use Rattle.ft_base.specs.Job.{Trigger}
use Rattle.ft_base.specs.declared.item.Stamped.{Stamped}
use Rattle.ring_rules.specs.Plan.{TracePlan}
use Rattle.ring_rules.specs.Hits.{has, is_hit, is_traced}
use Rattle.ring_rules.specs.Legal.{EachOnce, IsSublist, traced_places}
use Rattle.ring_rules.specs.RingInvariant.{hit_at, hits_on}

-- ## tests

pub bool_cases : (b : Bool) → (b ≡ true) ⊎ (b ≡ false)
bool_cases true = inl refl
bool_cases false = inr refl

pub or_false : (a : Bool) → (a || false) ≡ a
or_false true = refl
or_false false = refl

pub apart : (m n : ℕ) → m ≢ n → (m == n) ≡ false
apart m n ne = by (m == n) refl
  where
    by : (b : Bool) → (m == n) ≡ b → b ≡ false
    by true e = absurd (ne (grind (arith, nat_tests)))
    by false e = refl

pub equal : (m n : ℕ) → (m == n) ≡ true → m ≡ n
equal m n e = grind (arith, nat_tests)

pub any-snoc : {X : Type 0} (test : X → Bool) (xs : List X) (x : X) → list_any test (xs ++ x ∷ []) ≡ (list_any test xs || test x)
any-snoc test xs x = list_any-append test xs (x ∷ []) ∙ ap (λ b. list_any test xs || b) (or_false (test x))

-- ## places

pub has-snoc : (ps : List ℕ) (q p : ℕ) → has (ps ++ q ∷ []) p ≡ (has ps p || (q == p))
has-snoc ps q p = any-snoc (λ n. n == p) ps q

pub has-apart : (ps : List ℕ) (q p : ℕ) → q ≢ p → has (ps ++ q ∷ []) p ≡ has ps p
has-apart ps q p ne = has-snoc ps q p ∙ ap (λ b. has ps p || b) (apart q p ne) ∙ or_false (has ps p)

pub has-last : (ps : List ℕ) (q : ℕ) → has (ps ++ q ∷ []) q ≡ true
has-last ps q = has-snoc ps q q ∙ ap (λ b. has ps q || b) (==-refl q) ∙ or-true (has ps q)

pub once-snoc : (ps : List ℕ) (q : ℕ) → EachOnce ps → has ps q ≡ false → EachOnce (ps ++ q ∷ [])
once-snoc [] q e new = (refl, tt)
once-snoc (p ∷ ps) q e new = (
  has-snoc ps q p ∙ (λ i. e.0 i || other i),
  once-snoc ps q e.1 ((or-false_both (p == q) (has ps q) new).1),
)
  where
    other : (q == p) ≡ false
    other = apart q p (λ s. false_true (sym ((or-false_both (p == q) (has ps q) new).0) ∙ ap (λ n. p == n) s ∙ ==-refl p))

pub sub-keep : (xs ys : List ℕ) (y : ℕ) → IsSublist xs ys → IsSublist xs (ys ++ y ∷ [])
sub-keep xs [] y s = inl s
sub-keep xs (z ∷ ys) y s =
    ⊎_elim (λ a. inl (sub-keep xs ys y a)) (λ (b : (rest : List ℕ) × (xs ≡ z ∷ rest) × IsSublist rest ys). inr (b.0, b.1, sub-keep b.0 ys y b.2)) s

pub sub-take : (xs ys : List ℕ) (y : ℕ) → IsSublist xs ys → IsSublist (xs ++ y ∷ []) (ys ++ y ∷ [])
sub-take xs [] y s = inr ([], ap (λ l. l ++ y ∷ []) s, refl)
sub-take xs (z ∷ ys) y s =
    ⊎_elim (λ a. inl (sub-take xs ys y a))
    (λ (b : (rest : List ℕ) × (xs ≡ z ∷ rest) × IsSublist rest ys). inr (b.0 ++ y ∷ [], ap (λ l. l ++ y ∷ []) b.1, sub-take b.0 ys y b.2)) s

pub sub-has : (xs ys : List ℕ) (p : ℕ) → IsSublist xs ys → has xs p ≡ true → has ys p ≡ true
sub-has xs [] p s h = false_true (sym (ap (λ l. has l p) s) ∙ h)
sub-has xs (y ∷ ys) p s h =
    ⊎_elim (λ a. ap (λ b. (y == p) || b) (sub-has xs ys p a h) ∙ or-true (y == p))
    (λ (b : (rest : List ℕ) × (xs ≡ y ∷ rest) × IsSublist rest ys).
    ⊎_elim (λ q. ap (λ c. c || has ys p) q) (λ q. ap (λ c. (y == p) || c) (sub-has b.0 ys p b.2 q) ∙ or-true (y == p))
    (or-true_either (y == p) (has b.0 p) (sym (ap (λ l. has l p) b.1) ∙ h))) s

pub sub-length : (xs ys : List ℕ) → IsSublist xs ys → length xs ≤ length ys
sub-length xs [] s = let e = ap length s in omega (arith, e)
sub-length xs (y ∷ ys) s =
    ⊎_elim (λ a. let le = sub-length xs ys a in omega (arith, le))
    (λ (b : (rest : List ℕ) × (xs ≡ y ∷ rest) × IsSublist rest ys).
    let e = ap length b.1 in let le = sub-length b.0 ys b.2 in omega (arith, e, le)) s

-- as many of them as there are are all
pub sub-full : (xs ys : List ℕ) → IsSublist xs ys → length ys ≤ length xs → xs ≡ ys
sub-full xs [] s le = s
sub-full xs (y ∷ ys) s le =
    ⊎_elim (λ a. let less = sub-length xs ys a in absurd (omega (arith, less, le)))
    (λ (b : (rest : List ℕ) × (xs ≡ y ∷ rest) × IsSublist rest ys).
    let e = ap length b.1 in b.1 ∙ ap (λ (l : List ℕ). y ∷ l) (sub-full b.0 ys b.2 (omega (arith, e, le)))) s

pub sub-same : (xs ys : List ℕ) → IsSublist xs ys → IsSublist ys xs → xs ≡ ys
sub-same xs ys s t = sub-full xs ys s (sub-length ys xs t)

-- ## items

pub each-middle : {X : Type 0} (P : X → Type 0) (xs : List X) (x : X) (ys : List X) → Each P (xs ++ x ∷ ys) → P x
each-middle P [] x ys all = all.0
each-middle P (z ∷ zs) x ys all = each-middle P zs x ys all.1

pub each-front : {X : Type 0} (P : X → Type 0) (xs ys : List X) → Each P (xs ++ ys) → Each P xs
each-front P [] ys all = tt
each-front P (z ∷ zs) ys all = (all.0, each-front P zs ys all.1)

pub hits-snoc : (t : Trigger) (xs : List Stamped) (x : Stamped) → hits_on t (xs ++ x ∷ []) ≡ hits_on t xs + (if is_hit t x.item then 1 else 0)
hits-snoc t [] x = omega arith
hits-snoc t (y ∷ ys) x =
    let e = hits-snoc t ys x in
    let n : ℕ = if is_hit t y.item then 1 else 0 in
    omega (arith, e)

pub traced-snoc : (plan : TracePlan) (xs : List Stamped) (x : Stamped)
    → traced_places plan (xs ++ x ∷ []) ≡ (if is_traced plan x.item then traced_places plan xs ++ x.place ∷ [] else traced_places plan xs)
traced-snoc plan [] x = refl
traced-snoc plan (y ∷ ys) x = ap (λ l. cond (is_traced plan y.item) (y.place ∷ l) l) (traced-snoc plan ys x)
    ∙ by (is_traced plan y.item) (is_traced plan x.item)
  where
    by : (a b : Bool)
        → cond a (y.place ∷ cond b (traced_places plan ys ++ x.place ∷ []) (traced_places plan ys))
        (cond b (traced_places plan ys ++ x.place ∷ []) (traced_places plan ys))
        ≡ cond b (cond a (y.place ∷ traced_places plan ys) (traced_places plan ys) ++ x.place ∷ [])
        (cond a (y.place ∷ traced_places plan ys) (traced_places plan ys))
    by true true = refl
    by true false = refl
    by false true = refl
    by false false = refl

pub traced-below : (plan : TracePlan) (next : ℕ) (xs : List Stamped) (p : ℕ) → Each (λ x. x.place < next) xs → has (traced_places plan xs) p ≡ true
    → p < next
traced-below plan next [] p all h = false_true h
traced-below plan next (x ∷ xs) p all h = by (traced-below plan next xs p all.1) (is_traced plan x.item) h
  where
    by : (has (traced_places plan xs) p ≡ true → p < next) → (b : Bool)
        → has (cond b (x.place ∷ traced_places plan xs) (traced_places plan xs)) p ≡ true → p < next
    by rest true h' = ⊎_elim (λ q. subst (λ n. n < next) (equal x.place p q) all.0)
        (λ q. rest q) (or-true_either (x.place == p) (has (traced_places plan xs) p) h')
    by rest false h' = rest h'

pub hit_at-below : (t : Trigger) (next p : ℕ) (xs : List Stamped) → Each (λ x. x.place < next) xs → hit_at t p xs ≡ true → p < next
hit_at-below t next p [] all h = false_true h
hit_at-below t next p (x ∷ xs) all h =
    ⊎_elim (λ q. subst (λ n. n < next) (equal x.place p (first (x.place == p) (is_hit t x.item) q)) all.0) (λ q. hit_at-below t next p xs all.1 q)
    (or-true_either ((x.place == p) && is_hit t x.item) (hit_at t p xs) h)
  where
    first : (a b : Bool) → (a && b) ≡ true → a ≡ true
    first true b e = refl
    first false b e = false_true e

-- ## where a list with one more is cut

abbrev head-or : {X : Type 0} → X → List X → X
head-or d [] = d
head-or d (x ∷ xs) = x

abbrev tail-of : {X : Type 0} → List X → List X
tail-of [] = []
tail-of (x ∷ xs) = xs

pub not-nil : {X P : Type 0} (xs : List X) (y : X) (ys : List X) → [] ≡ xs ++ y ∷ ys → P
not-nil [] y ys e = absurd (omega (arith, ap length e))
not-nil (x ∷ xs) y ys e = absurd (omega (arith, ap length e))

pub snoc-cut : {X : Type 0} (xs : List X) (x : X) (before : List X) (y : X) (after : List X) → xs ++ x ∷ [] ≡ before ++ y ∷ after
    → ((before ≡ xs) × (y ≡ x)) ⊎ ((rest : List X) × (xs ≡ before ++ y ∷ rest))
snoc-cut [] x [] y after e = inl (refl, sym (ap (head-or x) e))
snoc-cut [] x (b ∷ bs) y after e = not-nil bs y after (ap tail-of e)
snoc-cut (z ∷ zs) x [] y after e = inr (zs, ap (λ l. l ∷ zs) (ap (head-or z) e))
snoc-cut {X = X} (z ∷ zs) x (b ∷ bs) y after e =
    ⊎_elim (λ (t : (bs ≡ zs) × (y ≡ x)). inl ((λ i. sym (ap (head-or z) e) i ∷ t.0 i), t.1))
    (λ (t : (rest : List X) × (zs ≡ bs ++ y ∷ rest)). inr (t.0, (λ i. ap (head-or z) e i ∷ t.1 i)))
    (snoc-cut zs x bs y after (ap tail-of e))

-- ## what stands at a place

abbrev pub is_some : {A : Type 0} → Option A → Bool
is_some None = false
is_some (Some x) = true

pub none-some : {A : Type 0} (x : A) → None ≡ Some x → ⊥
none-some x e = false_true (ap is_some e)

pub get-more : {A : Type 0} (xs : List A) (x y : A) (k : ℕ) → slice_get xs k ≡ Some y → slice_get (xs ++ x ∷ []) k ≡ Some y
get-more [] x y k e = absurd (none-some y e)
get-more (z ∷ zs) x y zero e = e
get-more (z ∷ zs) x y (suc k) e = get-more zs x y k e

pub get-last : {A : Type 0} (xs : List A) (x : A) → slice_get (xs ++ x ∷ []) (length xs) ≡ Some x
get-last [] x = refl
get-last (y ∷ ys) x = get-last ys x

pub get-below : {A : Type 0} (xs : List A) (y : A) (k : ℕ) → slice_get xs k ≡ Some y → k < length xs
get-below [] y k e = absurd (none-some y e)
get-below (z ∷ zs) y zero e = omega arith
get-below (z ∷ zs) y (suc k) e = let lt = get-below zs y k e in omega (arith, lt)

pub get-some : {A : Type 0} (xs : List A) (c : ℕ) (d : A) → c < length xs → slice_get xs c ≡ Some (slice_index_or xs c d)
get-some [] c d lt = absurd (omega (arith, lt))
get-some (x ∷ xs) zero d lt = refl
get-some (x ∷ xs) (suc c) d lt = get-some xs c d (omega (arith, lt))

pub drop-none : (m : ℕ) → drop {A = ℕ} m [] ≡ []
drop-none zero = refl
drop-none (suc m) = refl
