-- The set of all matched functions.
use Rattle.std.proofs.Common.{◌≡◌, ℕ, ◌<◌, ◌&&◌, ◌||◌, not, true, false, length, replicate, refl, sym, ap, ap₂, ◌∙◌, arith}
use Rattle.std.proofs.lemmas.List.{get_or-replicate}
use Rattle.std.proofs.lemmas.List.FromFn.{length-map-range_with_len, get_or-map-range_with_len}
use Rattle.site_set.proofs.MarksLemmas.{holds-empty, length-empty, holds-union, length-difference, holds-difference, same_members}
use Rattle.ft_base.specs.Marks.{Marks, holds, is_empty, empty, union, difference}
use Rattle.ft_base.specs.Desk.{matches_by}
use Rattle.filter_hash.specs.Pair.{Pair, size_of, matched}

pub length-matched : (pair : Pair) → length (matched pair) ≡ size_of pair
unfolding matched
length-matched pair = length-map-range_with_len (matches_by pair.filter pair.notrace) 0 (size_of pair)

pub holds-matched : (pair : Pair) (f : ℕ) → f < size_of pair → holds (matched pair) f ≡ matches_by pair.filter pair.notrace f
unfolding matched
holds-matched pair f h = get_or-map-range_with_len (matches_by pair.filter pair.notrace) 0 (size_of pair) f f false h (omega arith)

-- a set of what the filter lets through, of the filter's size
pub record IsLet (filter now : Marks) : Type 0 where
  pub size : length now ≡ length filter
  pub members : (f : ℕ) → f < length filter → holds now f ≡ (is_empty filter || holds filter f)

-- an empty filter lets each function through
pub IsLet-all : (filter now : Marks) (n : ℕ) → n ≡ length filter → is_empty filter ≡ true → now ≡ replicate n true → length now ≡ n → IsLet filter now
IsLet-all filter now n e empty is long = record {
  size = long ∙ e;
  members = λ f h. ap (λ s. holds s f) is ∙ get_or-replicate n f true false (omega arith) ∙ sym (ap (λ b. b || holds filter f) empty);
}

-- any other filter lets through what it holds
pub IsLet-held : (filter now : Marks) (n : ℕ) → n ≡ length filter → is_empty filter ≡ false → now ≡ union (empty n) filter → length now ≡ n → IsLet filter now
IsLet-held filter now n e some is long = record {
  size = long ∙ e;
  members = λ f h. ap (λ s. holds s f) is ∙ holds-union (empty n) filter (omega (arith, length-empty n)) f
      ∙ ap₂ (λ a b. a || b) (holds-empty n f ∙ sym some) refl;
}

-- what is let through and not kept out is matched
pub matches-from_IsLet : (filter notrace now out : Marks) → IsLet filter now → out ≡ difference now notrace
    → (f : ℕ) → f < length filter → holds out f ≡ matches_by filter notrace f
matches-from_IsLet filter notrace now out l is f h =
    ap (λ s. holds s f) is ∙ holds-difference now notrace f ∙ ap (λ b. b && not (holds notrace f)) (l.members f h)

pub matched-from_IsLet : (pair : Pair) (now out : Marks) → IsLet pair.filter now → out ≡ difference now pair.notrace → out ≡ matched pair
matched-from_IsLet pair now out l is =
    let long : length out ≡ size_of pair = ap length is ∙ length-difference now pair.notrace ∙ l.size in
    same_members out (matched pair) (long ∙ sym (length-matched pair))
    (λ f h. let low : f < size_of pair = omega arith in
    matches-from_IsLet pair.filter pair.notrace now out l is f low ∙ sym (holds-matched pair f low))
