-- Lists of keys with values: what stands where, and what an added key changes.
use Rattle.std.proofs.Common.{◌≡◌, ℕ, zero, suc, ◌<◌, Bool, true, false, List, [], ◌∷◌, ◌++◌, length, slice_get, Option, Some, None, unwrap_or, is_some, nat_eq, refl, sym, ap, subst, ◌∙◌, true≢false, arith, ◌⊎◌, inl, inr}
use Rattle.std.proofs.lemmas.Option.{slice_get-map, slice_get_within}
use Rattle.std.proofs.lemmas.List.{map-append}
use Rattle.std.proofs.lemmas.Map.Entries.{place_from_lookup}
use Rattle.std.proofs.lemmas.Slice.Eq.{bytes_eq-Decides}
use Rattle.std.specs.Cmp.Lexicographic.{pointwise}
use Rattle.std.specs.List.{AllByRecursion, IsDistinct}
use Rattle.std.specs.Map.{lookup, keys_of}
use Rattle.std.specs.Option.{option_map}
use Rattle.std.specs.Global.{Vec}
use Rattle.indexmap.specs.IndexMap.{IndexMap, get, insert_entry}
use Rattle.indexmap.proofs.CallerLemmas.{insert_entry-new}
use Rattle.state_search.specs.Entries.{entries_of, AreApart, HasKey, IsAdded, Grows}

pub some-eq : {X : Type 0} (x y : X) → Some x ≡ Some y → x ≡ y
some-eq x y e = ap (λ o. unwrap_or o x) e

pub get-left : {X : Type 0} (xs ys : List X) (i : ℕ) (x : X) → slice_get xs i ≡ Some x → slice_get (xs ++ ys) i ≡ Some x
get-left [] ys i x e = absurd cc
get-left (z ∷ zs) ys zero x e = e
get-left (z ∷ zs) ys (suc i) x e = get-left zs ys i x e

pub get-last : {X : Type 0} (xs : List X) (x : X) → slice_get (xs ++ x ∷ []) (length xs) ≡ Some x
get-last [] x = refl
get-last (z ∷ zs) x = get-last zs x

pub get-there : {X : Type 0} (xs : List X) (i : ℕ) → i < length xs → (x : X) × (slice_get xs i ≡ Some x)
get-there [] i lt = absurd (omega (arith, lt))
get-there (z ∷ zs) zero lt = (z, refl)
get-there (z ∷ zs) (suc i) lt = get-there zs i (omega (arith, lt))

pub none-there : {X : Type 0} (xs : List X) (i : ℕ) → slice_get xs i ≡ None → i < length xs → ⊥
none-there [] i e lt = omega (arith, lt)
none-there (z ∷ zs) zero e lt = true≢false (ap is_some e)
none-there (z ∷ zs) (suc i) e lt = none-there zs i e (omega (arith, lt))

-- what stands in a list with one entry more stood there before, or is that one, at the end
pub pushed : {X : Type 0} (xs : List X) (x : X) (i : ℕ) (y : X) → slice_get (xs ++ x ∷ []) i ≡ Some y → (slice_get xs i ≡ Some y) ⊎ ((i ≡ length xs) × (x ≡ y))
pushed [] x zero y e = inr (refl, some-eq x y e)
pushed [] x (suc i) y e = absurd cc
pushed (z ∷ zs) x zero y e = inl e
pushed (z ∷ zs) x (suc i) y e = elim (pushed zs x i y e) [ inl h ↦ inl h | inr h ↦ inr (ap suc h.0, h.1) ]

-- the equality of keys
abbrev same_words : Vec ℕ → Vec ℕ → Bool
same_words x y = pointwise nat_eq x.items y.items

none-of : {X : Type 0} (o : Option X) → is_some o ≡ false → o ≡ None
none-of None e = refl
none-of (Some x) e = absurd cc

module _ {V : Type 0} where
  -- a key that is there stays there
  pub has-grown : (old new : List (List ℕ × V)) (k : List ℕ) → Grows old new → HasKey old k → HasKey new k
  has-grown old new k g h = (h.0, h.1, g h.0 k h.1 h.2)

  -- what stands at a place of the earlier list is what stands there later
  pub at-back : (old new : List (List ℕ × V)) (i : ℕ) (k : List ℕ) (v : V) → Grows old new → i < length old → slice_get new i ≡ Some (k, v) → slice_get old i ≡ Some (k, v)
  at-back old new i k v g lt e =
      let o = get-there old i lt in
      o.1 ∙ sym (g i o.0.0 o.0.1 o.1) ∙ e

  -- a place of the earlier list is one of the later list
  pub grows-within : (old new : List (List ℕ × V)) (i : ℕ) → Grows old new → i < length old → i < length new
  grows-within old new i g lt =
      let o = get-there old i lt in
      slice_get_within new i o.0 (g i o.0.0 o.0.1 o.1)

  pub added-grows : (b : Bool) (old new : List (List ℕ × V)) (k : List ℕ) (v : V) → IsAdded b old k v new → Grows old new
  added-grows true old new k v a i l w e = subst (λ es. slice_get es i ≡ Some (l, w)) (sym a) (get-left old ((k, v) ∷ []) i (l, w) e)
  added-grows false old new k v a i l w e = subst (λ es. slice_get es i ≡ Some (l, w)) (sym a.0) e

  pub added-has : (b : Bool) (old new : List (List ℕ × V)) (k : List ℕ) (v : V) → IsAdded b old k v new → HasKey new k
  added-has true old new k v a = (length old, v, subst (λ es. slice_get es (length old) ≡ Some (k, v)) (sym a) (get-last old (k, v)))
  added-has false old new k v a = subst (λ es. HasKey es k) (sym a.0) a.1

  pub added-each : (P : List ℕ × V → Type 0) (b : Bool) (old new : List (List ℕ × V)) (k : List ℕ) (v : V) → ((i : ℕ) (e : List ℕ × V) → slice_get old i ≡ Some e → P e) → P (k, v)
      → IsAdded b old k v new → (i : ℕ) (e : List ℕ × V) → slice_get new i ≡ Some e → P e
  added-each P true old new k v each here a i e at = elim (pushed old (k, v) i e (subst (λ es. slice_get es i ≡ Some e) a at)) [ inl h ↦ each i e h | inr h ↦ subst P h.1 here ]
  added-each P false old new k v each here a i e at = each i e (subst (λ es. slice_get es i ≡ Some e) a.0 at)

  -- a key that a look-up finds in a map is in the list that contracts see
  pub has-from_lookup : (es : List (Vec ℕ × V)) (k : List ℕ) → is_some (lookup (λ (x : Vec ℕ). pointwise nat_eq k x.items) es) ≡ true → HasKey (entries_of es) k
  has-from_lookup es k found = by (lookup (λ (x : Vec ℕ). pointwise nat_eq k x.items) es) refl found
    where
      by : (o : Option V) → lookup (λ (x : Vec ℕ). pointwise nat_eq k x.items) es ≡ o → is_some o ≡ true → HasKey (entries_of es) k
      by None e f = absurd cc
      by (Some v) e f =
          let p = place_from_lookup (λ (x : Vec ℕ). pointwise nat_eq k x.items) es v e in
          let same : k ≡ p.1.items = (bytes_eq-Decides k p.1.items).0 p.3 in (
            p.0,
            v,
            slice_get-map (λ (e : Vec ℕ × V). (e.0.items, e.1)) es p.0
                ∙ ap (option_map (λ (e : Vec ℕ × V). (e.0.items, e.1))) p.2
                ∙ ap (λ (q : List ℕ). Some (q, v)) (sym same),
          )

  -- a key that a map doesn't have goes last in the list that contracts see
  pub added-new : {S : Type 0} (m : IndexMap (Vec ℕ) V S) (k : Vec ℕ) (v : V) (new : List (Vec ℕ × V)) → is_some (get same_words m k) ≡ false → new ≡ insert_entry same_words m.entries k v
      → entries_of new ≡ entries_of m.entries ++ (k.items, v) ∷ []
  added-new m k v new absent e =
      ap entries_of (e ∙ insert_entry-new same_words m k v (none-of (get same_words m k) absent))
      ∙ map-append (λ (e : Vec ℕ × V). (e.0.items, e.1)) m.entries ((k, v) ∷ [])

  -- the entry at a place has this key
  key-at : (e : Vec ℕ × V) (k : List ℕ) (v : V) → (let p : List ℕ × V = (e.0.items, e.1) in let q : List ℕ × V = (k, v) in Some p ≡ Some q) → e.0.items ≡ k
  key-at e k v h = ap (λ (p : List ℕ × V). p.0) (some-eq {X = List ℕ × V} (e.0.items, e.1) (k, v) h)

  -- a key that no later one is equal to doesn't come again
  none-later : (x : Vec ℕ) (es : List (Vec ℕ × V)) → AllByRecursion (λ y. same_words x y ≡ false) (keys_of es) → (j : ℕ) (k : List ℕ) (v : V) → x.items ≡ k → slice_get (entries_of es) j ≡ Some (k, v) → ⊥
  none-later x [] h j k v ek e = absurd cc
  none-later x (y ∷ es) h zero k v ek e = true≢false (sym ((bytes_eq-Decides x.items y.0.items).1 (ek ∙ sym (key-at y k v e))) ∙ h.0)
  none-later x (y ∷ es) h (suc j) k v ek e = none-later x es h.1 j k v ek e

  -- the keys of a map stand apart in the list that contracts see
  pub apart : (es : List (Vec ℕ × V)) → IsDistinct same_words (keys_of es) → AreApart (entries_of es)
  unfolding IsDistinct
  apart [] h i j k v w a b = absurd cc
  apart (e ∷ es) h zero zero k v w a b = refl
  apart (e ∷ es) h zero (suc j) k v w a b = absurd (none-later e.0 es h.0 j k w (key-at e k v a) b)
  apart (e ∷ es) h (suc i) zero k v w a b = absurd (none-later e.0 es h.0 i k v (key-at e k w b) a)
  apart (e ∷ es) h (suc i) (suc j) k v w a b = ap suc (apart es h.1 i j k v w a b)
