-- A race of two actors that change one number.
use Rattle.std.specs.Prelude.{◌≡◌, ℕ, ◌+◌, ◌*◌, ◌==◌, nat_lt, nat_le, List, [], ◌∷◌, ◌++◌, get_or, if◌then◌else◌}
use mathlib.Core.Path.{refl, ap, sym, ◌∙◌}
use Rattle.state_search.specs.Races.{Meaning, IsExact}

-- the number after a step of this actor
abbrev pub stepped : ℕ → ℕ → ℕ
stepped a x = if nat_lt x 10 then (if a == 0 then 2 * x else x + 1) else x

abbrev pub after_from : ℕ → List ℕ → ℕ
after_from x [] = x
after_from x (a ∷ s) = after_from (stepped a x) s

-- the number after a schedule
abbrev pub after : List ℕ → ℕ
after s = after_from 1 s

-- its key is the number, and so is its outcome, from ten on
abbrev pub meaning : Meaning
meaning = record {
  actors = 2;
  has_key = λ s k. k ≡ after s ∷ [];
  alike = λ s t. after s ≡ after t;
  ended = λ s. nat_le 10 (after s);
  outcome = λ s. after s ∷ [];
}

pub after-snoc : (x : ℕ) (s : List ℕ) (a : ℕ) → after_from x (s ++ a ∷ []) ≡ stepped a (after_from x s)
after-snoc x [] a = refl
after-snoc x (b ∷ s) a = after-snoc (stepped b x) s a

pub exact : IsExact meaning
exact = record {
  itself = λ s. refl;
  chain = λ s t u e f. e ∙ f;
  keys = λ k s t e f. ap (λ l. get_or l 0 0) (sym e ∙ f);
  steps = λ s t a e. after-snoc 1 s a ∙ ap (stepped a) e ∙ sym (after-snoc 1 t a);
  ends = λ s t e. ap (nat_le 10) e;
  tells = λ s t e. ap (λ x. x ∷ []) e;
}
