-- Places and the items that they stand for.
use Rattle.std.proofs.Common.{◌≡◌, ◌≢◌, ◌↔◌, ℕ, zero, suc, ◌+◌, ◌<◌, ◌≤◌, ◌==◌, ◌&&◌, ◌||◌, Bool, true, false, true≢false, List, [], ◌∷◌, get_or, drop, length, inl, inr, refl, sym, ap, ap₂, subst, ◌∙◌, add-one, arith}
use Rattle.std.proofs.Math.Bool.{or-false}
use Rattle.std.proofs.lemmas.List.{drop_more}
use Rattle.std.proofs.lemmas.Bool.{and_from, and_parts, or_cases, or_left, or_right, eq-eqb, ne_eqb, eqb-true}
use Rattle.glob_filter.specs.Items.{Item, byte, any, star, class}
use Rattle.glob_filter.specs.Matching.{takes, some_rest, is_fit}
use Rattle.glob_filter.specs.TokenItems.{item_of, token_items}
use Rattle.glob_filter.specs.declared.token.Token.{Token}
use Rattle.glob_filter.specs.declared.token.Token.TheVariants.{Byte, Any, Star, Class}
use Rattle.glob_filter.specs.Places.{has_place, has_byte, matches_from, AreBytes, StandsFor, IsFilled}
use Rattle.ft_base.proofs.Small.{same_test}

-- ---- items

-- no other token means a `*`
pub not-star : (token : Token) → token ≢ Star → item_of token ≢ star
not-star (Byte b) other e = absurd cc
not-star Any other e = absurd cc
not-star Star other e = other refl
not-star (Class negated ranges) other e = absurd cc

-- an item that matches one byte, and what comes after it, match if it takes the first byte and they match the others
is_fit-one : (item : Item) → item ≢ star → (items : List Item) (b : ℕ) (name : List ℕ) → is_fit (item ∷ items) (b ∷ name) ≡ (takes item b && is_fit items name)
is_fit-one (byte a) one items b name = refl
is_fit-one any one items b name = refl
is_fit-one star one items b name = absurd (one refl)
is_fit-one (class negated ranges) one items b name = refl

-- they don't match the empty name
is_fit-end : (item : Item) → item ≢ star → (items : List Item) → is_fit (item ∷ items) [] ≡ false
is_fit-end (byte a) one items = refl
is_fit-end any one items = refl
is_fit-end star one items = absurd (one refl)
is_fit-end (class negated ranges) one items = refl

-- a test that passes at the whole name passes at a rest of it
some_rest-here : (test : List ℕ → Bool) (name : List ℕ) → test name ≡ true → some_rest test name ≡ true
some_rest-here test [] h = h
some_rest-here test (b ∷ name) h = ap (λ t. t || some_rest test name) h

-- ---- what a place stands for

-- tables that agree up to a place match the same from it
matches_from-same : (t u s r : List ℕ) (p : ℕ) (name : List ℕ) → ((q b : ℕ) → q ≤ p → b < 256 → has_byte t q b ≡ has_byte u q b)
    → ((q : ℕ) → q ≤ p → has_place s q ≡ has_place r q) → AreBytes name → matches_from t s p name ≡ matches_from u r p name
matches_from-same t u s r zero [] ht hs bytes = refl
matches_from-same t u s r (suc p) [] ht hs bytes = refl
matches_from-same t u s r zero (b ∷ name) ht hs bytes =
    ap₂ (λ x y. x && y) (hs zero (omega arith)) (matches_from-same t u s r zero name ht hs (λ k. bytes (suc k)))
matches_from-same t u s r (suc p) (b ∷ name) ht hs bytes =
    let first : (has_byte t (suc p) b && matches_from t s p name) ≡ (has_byte u (suc p) b && matches_from u r p name) =
    ap₂ (λ x y. x && y) (ht (suc p) b (omega arith) (bytes zero))
    (matches_from-same t u s r p name (λ q c h. ht q c (omega (arith, h))) (λ q h. hs q (omega (arith, h))) (λ k. bytes (suc k))) in
    let second : (has_place s (suc p) && matches_from t s (suc p) name) ≡ (has_place r (suc p) && matches_from u r (suc p) name) =
    ap₂ (λ x y. x && y) (hs (suc p) (omega arith)) (matches_from-same t u s r (suc p) name ht hs (λ k. bytes (suc k))) in
    ap₂ (λ x y. x || y) first second

-- place 0 stands for no items, as long as no `*` stands there
StandsFor-none : (t s : List ℕ) → has_place s zero ≡ false → StandsFor t s zero []
StandsFor-none t s none [] bytes = refl
StandsFor-none t s none (b ∷ name) bytes = ap (λ x. x && matches_from t s zero name) none

-- the place above stands for one more item, which matches one byte
StandsFor-one : (t u s : List ℕ) (p : ℕ) (item : Item) (items : List Item) → item ≢ star → StandsFor t s p items
    → ((q b : ℕ) → q ≤ p → b < 256 → has_byte u q b ≡ has_byte t q b) → ((b : ℕ) → b < 256 → has_byte u (suc p) b ≡ takes item b)
    → has_place s (suc p) ≡ false → StandsFor u s (suc p) (item ∷ items)
StandsFor-one t u s p item items one fits same here none [] bytes = sym (is_fit-end item one items)
StandsFor-one t u s p item items one fits same here none (b ∷ name) bytes =
    let more : AreBytes name = λ k. bytes (suc k) in
    let rest : matches_from u s p name ≡ is_fit items name = matches_from-same u t s s p name same (λ q h. refl) more ∙ fits name more in
    ap₂ (λ x y. x || y) (ap₂ (λ x y. x && y) (here b (bytes zero)) rest) (ap (λ x. x && matches_from u s (suc p) name) none)
    ∙ or-false (takes item b && is_fit items name) ∙ sym (is_fit-one item one items b name)

absorbed : (a k f s : Bool) → (f ≡ true → s ≡ true) → (a || s) ≡ ((a || (k && f)) || s)
absorbed true k f s h = refl
absorbed false true true s h = h refl
absorbed false true false s h = refl
absorbed false false f s h = refl

-- with a `*`, the place stands for one more item
StandsFor-star : (t s r : List ℕ) (p : ℕ) (items : List Item) → StandsFor t s p items → ((q : ℕ) → q < p → has_place r q ≡ has_place s q)
    → has_place r p ≡ true → StandsFor t r p (star ∷ items)
StandsFor-star t s r zero items fits same here [] bytes = fits [] bytes
StandsFor-star t s r (suc p) items fits same here [] bytes = fits [] bytes
StandsFor-star t s r zero items fits same here (b ∷ name) bytes =
    let more : AreBytes name = λ k. bytes (suc k) in
    let rest : Bool = some_rest (is_fit items) name in
    ap₂ (λ x y. x && y) here (StandsFor-star t s r zero items fits same here name more)
    ∙ absorbed false (has_place s zero) (is_fit items name) rest (some_rest-here (is_fit items) name)
    ∙ ap (λ x. (has_place s zero && x) || rest) (sym (fits name more))
    ∙ ap (λ x. x || rest) (fits (b ∷ name) bytes)
StandsFor-star t s r (suc p) items fits same here (b ∷ name) bytes =
    let more : AreBytes name = λ k. bytes (suc k) in
    let rest : Bool = some_rest (is_fit items) name in
    let below : matches_from t r p name ≡ matches_from t s p name =
    matches_from-same t t r s p name (λ q c h lt. refl) (λ q h. same q (omega (arith, h))) more in
    ap₂ (λ x y. (has_byte t (suc p) b && x) || y) below
    (ap₂ (λ x y. x && y) here (StandsFor-star t s r (suc p) items fits same here name more))
    ∙ absorbed (has_byte t (suc p) b && matches_from t s p name) (has_place s (suc p)) (is_fit items name) rest (some_rest-here (is_fit items) name)
    ∙ ap (λ x. ((has_byte t (suc p) b && matches_from t s p name) || (has_place s (suc p) && x)) || rest) (sym (fits name more))
    ∙ ap (λ x. x || rest) (fits (b ∷ name) bytes)

-- ---- tables that are filled item by item, from the last to the first

pub IsFilled-none : (t s : List ℕ) → ((q b : ℕ) → b < 256 → has_byte t q b ≡ false) → ((q : ℕ) → has_place s q ≡ false) → IsFilled t s 0 []
IsFilled-none t s no_bytes no_stars = record {
  fits = StandsFor-none t s (no_stars zero);
  no_bytes = λ q b h lt. no_bytes q b lt;
  no_stars = λ q h. no_stars q;
}

pub IsFilled-star : (t s r : List ℕ) (p : ℕ) (items : List Item) → IsFilled t s p items → ((q : ℕ) → has_place r q ≡ (q == p || has_place s q))
    → IsFilled t r p (star ∷ items)
IsFilled-star t s r p items filled places =
    let other : (q : ℕ) → q ≢ p → has_place r q ≡ has_place s q = λ q ne. places q ∙ ap (λ x. x || has_place s q) (ne_eqb q p ne) in
    record {
      fits = StandsFor-star t s r p items filled.fits (λ q h. let ne : q ≢ p = omega arith in other q ne)
          (places p ∙ ap (λ x. x || has_place s p) (eq-eqb p p refl));
      no_bytes = filled.no_bytes;
      no_stars = λ q h. let ne : q ≢ p = omega arith in other q ne ∙ filled.no_stars q h;
    }

IsFilled-suc : (t u s : List ℕ) (p : ℕ) (item : Item) (items : List Item) → item ≢ star → IsFilled t s p items
    → ((q b : ℕ) → b < 256 → has_byte u q b ≡ ((q == suc p && takes item b) || has_byte t q b)) → IsFilled u s (suc p) (item ∷ items)
IsFilled-suc t u s p item items one filled bytes =
    let other : (q b : ℕ) → q ≢ suc p → b < 256 → has_byte u q b ≡ has_byte t q b =
    λ q b ne lt. bytes q b lt ∙ ap (λ x. (x && takes item b) || has_byte t q b) (ne_eqb q (suc p) ne) in
    record {
      fits = StandsFor-one t u s p item items one filled.fits (λ q b h lt. let ne : q ≢ suc p = omega arith in other q b ne lt)
          (λ b lt. let above : p < suc p = omega arith in
          bytes (suc p) b lt ∙ ap₂ (λ x y. (x && takes item b) || y) (eq-eqb (suc p) (suc p) refl) (filled.no_bytes (suc p) b above lt) ∙ or-false (takes item b))
          (filled.no_stars (suc p) (omega arith));
      no_bytes = λ q b h lt. let ne : q ≢ suc p = omega arith in let above : p < q = omega arith in other q b ne lt ∙ filled.no_bytes q b above lt;
      no_stars = λ q h. let above : p < q = omega arith in filled.no_stars q above;
    }

pub IsFilled-one : (t u s : List ℕ) (p : ℕ) (item : Item) (items : List Item) → item ≢ star → IsFilled t s p items
    → ((q b : ℕ) → b < 256 → has_byte u q b ≡ ((q == p + 1 && takes item b) || has_byte t q b)) → IsFilled u s (p + 1) (item ∷ items)
IsFilled-one t u s p item items one filled bytes =
    subst (λ n. IsFilled u s n (item ∷ items)) (sym (add-one p))
    (IsFilled-suc t u s p item items one filled (λ q b lt. bytes q b lt ∙ ap (λ n. (q == n && takes item b) || has_byte t q b) (add-one p)))

-- one token more, which stands before those from v on
pub items_from : (tokens : List Token) (v w : ℕ) (token : Token) → v ≡ w + 1 → w < length tokens → token ≡ get_or tokens w token
    → token_items (drop w tokens) ≡ item_of token ∷ token_items (drop v tokens)
items_from tokens v w token one within is =
    ap token_items (drop_more tokens w token within) ∙ ap₂ (λ t n. item_of t ∷ token_items (drop n tokens)) (sym is) (sym one)

-- ---- the search

-- a place of the state matches what is left of the name
abbrev pub Reaches : List ℕ → List ℕ → List ℕ → List ℕ → Type 0
Reaches takes stars state left = (p : ℕ) × (has_place state p ≡ true) × (matches_from takes stars p left ≡ true)

-- so what is left decides whether the place matches the name
abbrev pub IsDecidedBy : List ℕ → List ℕ → ℕ → List ℕ → List ℕ → List ℕ → Type 0
IsDecidedBy takes stars start name state left = (matches_from takes stars start name ≡ true) ↔ Reaches takes stars state left

-- at first the state has the start alone
pub IsDecidedBy-start : (t s : List ℕ) (start : ℕ) (name blank state : List ℕ) → ((p : ℕ) → has_place blank p ≡ false)
    → ((p : ℕ) → has_place state p ≡ (p == start || has_place blank p)) → IsDecidedBy t s start name state name
IsDecidedBy-start t s start name blank state none places = (
  λ m. (start, places start ∙ ap (λ x. x || has_place blank start) (eq-eqb start start refl), m),
  λ r. let is : (r.0 == start) ≡ true = sym (or-false (r.0 == start)) ∙ ap (λ x. r.0 == start || x) (sym (none r.0)) ∙ sym (places r.0) ∙ r.1 in
      subst (λ p. matches_from t s p name ≡ true) (eqb-true r.0 start is) r.2,
)

module _ (t s state new : List ℕ) (b : ℕ) (left : List ℕ)
    (places : (p : ℕ) → has_place new p ≡ ((has_place state (p + 1) && has_byte t (p + 1) b) || (has_place state p && has_place s p))) where
  at_suc : (p : ℕ) → has_place new p ≡ ((has_place state (suc p) && has_byte t (suc p) b) || (has_place state p && has_place s p))
  at_suc p = places p ∙ ap (λ n. (has_place state n && has_byte t n b) || (has_place state p && has_place s p)) (add-one p)

  kept : (p : ℕ) → has_place state p ≡ true → has_place s p ≡ true → has_place new p ≡ true
  kept p set is = at_suc p ∙ or_right (has_place state (suc p) && has_byte t (suc p) b) (has_place state p && has_place s p) (and_from _ _ set is)

  Reaches-more : (p : ℕ) → has_place state p ≡ true → matches_from t s p (b ∷ left) ≡ true → Reaches t s new left
  Reaches-more zero set m = let both = and_parts (has_place s zero) (matches_from t s zero left) m in (zero, kept zero set both.0, both.1)
  Reaches-more (suc p) set m = elim (or_cases (has_byte t (suc p) b && matches_from t s p left) (has_place s (suc p) && matches_from t s (suc p) left) m) [
    | inl h ↦ (let both = and_parts (has_byte t (suc p) b) (matches_from t s p left) h in
        (p, at_suc p ∙ or_left (has_place state (suc p) && has_byte t (suc p) b) (has_place state p && has_place s p) (and_from _ _ set both.0), both.1))
    | inr h ↦ (let both = and_parts (has_place s (suc p)) (matches_from t s (suc p) left) h in (suc p, kept (suc p) set both.0, both.1))
  ]

  star_takes : (p : ℕ) → has_place s p ≡ true → matches_from t s p left ≡ true → matches_from t s p (b ∷ left) ≡ true
  star_takes zero is m = and_from (has_place s zero) (matches_from t s zero left) is m
  star_takes (suc p) is m =
      or_right (has_byte t (suc p) b && matches_from t s p left) (has_place s (suc p) && matches_from t s (suc p) left)
      (and_from (has_place s (suc p)) (matches_from t s (suc p) left) is m)

  Reaches-less : (p : ℕ) → has_place new p ≡ true → matches_from t s p left ≡ true → Reaches t s state (b ∷ left)
  Reaches-less p set m = elim (or_cases (has_place state (suc p) && has_byte t (suc p) b) (has_place state p && has_place s p) (sym (at_suc p) ∙ set)) [
    | inl h ↦ (let both = and_parts (has_place state (suc p)) (has_byte t (suc p) b) h in (
      suc p,
      both.0,
      or_left (has_byte t (suc p) b && matches_from t s p left) (has_place s (suc p) && matches_from t s (suc p) left)
          (and_from (has_byte t (suc p) b) (matches_from t s p left) both.1 m),
    ))
    | inr h ↦ (let both = and_parts (has_place state p) (has_place s p) h in (p, both.0, star_takes p both.1 m))
  ]

  -- a step for the first byte that is left
  pub IsDecidedBy-step : (start : ℕ) (name : List ℕ) → IsDecidedBy t s start name state (b ∷ left) → IsDecidedBy t s start name new left
  IsDecidedBy-step start name decided =
      (λ m. let r = decided.0 m in Reaches-more r.0 r.1 r.2, λ r. let more = Reaches-less r.0 r.1 r.2 in decided.1 more)

-- if no place is left, the place at the start doesn't match
pub decided-none : (t s : List ℕ) (start : ℕ) (name state left : List ℕ) → ((p : ℕ) → has_place state p ≡ false) → IsDecidedBy t s start name state left
    → false ≡ matches_from t s start name
decided-none t s start name state left none decided =
    same_test false (matches_from t s start name) (λ e. absurd (true≢false (sym e)))
    (λ m. let r = decided.0 m in sym (none r.0) ∙ r.1)

-- at the end of the name, place 0 decides
pub decided-end : (t s : List ℕ) (start : ℕ) (name state : List ℕ) → IsDecidedBy t s start name state [] → has_place state 0 ≡ matches_from t s start name
decided-end t s start name state decided =
    same_test (has_place state 0) (matches_from t s start name) (λ set. decided.1 (zero, set, refl)) (λ m. let r = decided.0 m in at_end r.0 r.1 r.2)
  where
    at_end : (p : ℕ) → has_place state p ≡ true → matches_from t s p [] ≡ true → has_place state 0 ≡ true
    at_end zero set m = set
    at_end (suc p) set m = absurd (true≢false (sym m))
