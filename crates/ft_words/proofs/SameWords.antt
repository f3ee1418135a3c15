-- Word lists that are equal text by text.
use Rattle.std.proofs.Common.{◌≡◌, ℕ, Bool, true, false, List, [], ◌∷◌, map, refl, sym, ap, ap₂, true≢false}
use Rattle.std.specs.Borrow.{Bor}
use Rattle.std.specs.Str.{bytes_eq}
use Rattle.std.specs.Cmp.Lexicographic.{pointwise}
use Rattle.std.proofs.lemmas.Slice.Eq.{bytes_eq-Decides}
use Rattle.std.proofs.lemmas.Bool.{and_parts, and_from}

abbrev texts : List (Bor (List ℕ)) → List (List ℕ)
texts = map (λ w. w.now)

pub texts-from_pointwise : (xs ys : List (Bor (List ℕ))) → pointwise (λ x y. bytes_eq x.now y.now) xs ys ≡ true → texts xs ≡ texts ys
texts-from_pointwise [] [] h = refl
texts-from_pointwise [] (y ∷ ys) h = absurd (true≢false (sym h))
texts-from_pointwise (x ∷ xs) [] h = absurd (true≢false (sym h))
texts-from_pointwise (x ∷ xs) (y ∷ ys) h =
    let p = and_parts (bytes_eq x.now y.now) _ h in
    ap₂ (λ (t : List ℕ) ts. t ∷ ts) ((bytes_eq-Decides x.now y.now).0 p.0) (texts-from_pointwise xs ys p.1)

head_of : List (List ℕ) → List ℕ → List ℕ
head_of [] d = d
head_of (x ∷ xs) d = x

tail_of : List (List ℕ) → List (List ℕ)
tail_of [] = []
tail_of (x ∷ xs) = xs

is_nil : List (List ℕ) → Bool
is_nil [] = true
is_nil (x ∷ xs) = false

pub pointwise-from_texts : (xs ys : List (Bor (List ℕ))) → texts xs ≡ texts ys → pointwise (λ x y. bytes_eq x.now y.now) xs ys ≡ true
unfolding is_nil head_of tail_of
pointwise-from_texts [] [] e = refl
pointwise-from_texts [] (y ∷ ys) e = absurd (true≢false (ap is_nil e))
pointwise-from_texts (x ∷ xs) [] e = absurd (true≢false (sym (ap is_nil e)))
pointwise-from_texts (x ∷ xs) (y ∷ ys) e =
    and_from _ _ ((bytes_eq-Decides x.now y.now).1 (ap (λ l. head_of l []) e)) (pointwise-from_texts xs ys (ap tail_of e))
