-- Words that are read one after the other: the steps of a loop over them, and what was read if something is made of it.
use Rattle.std.proofs.Common.{◌≡◌, ℕ, ◌+◌, ◌<◌, ◌≤◌, List, [], ◌∷◌, ◌++◌, length, map, drop, get_or, Option, Some, None, refl, ap, ◌∙◌, sym, subst, append_assoc, add-one, drop-cons}
use Rattle.std.specs.Prelude.{option_map}
use Rattle.std.proofs.lemmas.List.{append-nil, drop_all}
use Rattle.script_text.specs.Lines.{Word}
use Rattle.script_text.specs.Words.{both, all_read}

-- a value and those after it, if there are both
abbrev before : {A : Type 0} → Option A → Option (List A) → Option (List A)
before value others = both (λ v vs. v ∷ vs) value others

-- these values and those after them, if there are any
abbrev pub all_before : {A : Type 0} → List A → Option (List A) → Option (List A)
all_before values None = None
all_before values (Some others) = Some (values ++ others)

one_more : {A : Type 0} (values : List A) (value : A) (o : Option (List A)) → all_before values (before (Some value) o) ≡ all_before (values ++ value ∷ []) o
one_more values value None = refl
one_more values value (Some others) = ap Some (sym (append_assoc values (value ∷ []) others))

-- f gives the bytes of a word, and `values` were read from the words before i
module _ {A X : Type 0} (read : Word → Option A) (f : X → Word) (words : List X) (values : List A) (i : ℕ) (inv : all_before values (all_read read (map f (drop i words))) ≡ all_read read (map f words)) where
  -- word i is read
  module _ (d : X) (inside : i < length words) where
    rest : Option (List A)
    rest = all_read read (map f (drop (i + 1) words))

    next : all_before values (before (read (f (get_or words i d))) rest) ≡ all_read read (map f words)
    unfolding rest
    next =
        let cut : drop i words ≡ get_or words i d ∷ drop (i + 1) words = rw (add-one, drop-cons words i d) refl in
        ap (λ xs. all_before values (all_read read (map f xs))) (sym cut) ∙ inv

    pub all_read-none : None ≡ read (f (get_or words i d)) → None ≡ all_read read (map f words)
    unfolding rest
    all_read-none e = ap (λ o. all_before values (before o rest)) e ∙ next

    pub all_read-more : (value : A) (more : List A) → more ≡ values ++ value ∷ [] → Some value ≡ read (f (get_or words i d)) → all_before more (all_read read (map f (drop (i + 1) words))) ≡ all_read read (map f words)
    unfolding rest
    all_read-more value more pushed e = ap (λ vs. all_before vs rest) pushed ∙ sym (one_more values value rest) ∙ ap (λ o. all_before values (before o rest)) e ∙ next

  pub all_read-end : length words ≤ i → Some values ≡ all_read read (map f words)
  all_read-end past = ap Some (sym (append-nil values)) ∙ ap (λ xs. all_before values (all_read read (map f xs))) (sym (drop_all i words past)) ∙ inv

-- ---- values of which something was made

pub made_of_one : {A B : Type 0} (made : B) (P : B → Type 0) (f : A → B) (a : Option A) → ((x : A) → a ≡ Some x → P (f x)) → option_map f a ≡ Some made → P made
made_of_one made P f None rule e = absurd (cc)
made_of_one made P f (Some x) rule e = let same : f x ≡ made = cc in subst P same (rule x refl)

pub made_of_both : {A B C : Type 0} (made : C) (P : C → Type 0) (f : A → B → C) (a : Option A) (b : Option B) → ((x : A) (y : B) → a ≡ Some x → b ≡ Some y → P (f x y)) → both f a b ≡ Some made → P made
made_of_both made P f None b rule e = absurd (cc)
made_of_both made P f (Some x) None rule e = absurd (cc)
made_of_both made P f (Some x) (Some y) rule e = let same : f x y ≡ made = cc in subst P same (rule x y refl refl)
