-- One numbered text after the other.
use Rattle.std.proofs.Common.{◌≡◌, ℕ, suc, ◌+◌, ◌≤◌, List, [], ◌++◌, Some, length, drop, sym, ◌∙◌, append-nil, append_assoc, add-one}
use Rattle.std.specs.Prelude.{slice_get}
use Rattle.std.proofs.lemmas.List.{drop_all}
use Rattle.trace_views.specs.Words.{numbered_texts}
use Rattle.trace_views.proofs.ItemTexts.{drop_at_get}

module _ {A : Type 0} (f : ℕ → A → List ℕ) (xs : List A) (all : List ℕ) where
  -- the next one
  pub numbered_texts-more : (n : ℕ) (x : A) (text : List ℕ) → slice_get xs n ≡ Some x → text ++ numbered_texts f n (drop n xs) ≡ all
      → (text ++ f n x) ++ numbered_texts f (n + 1) (drop (n + 1) xs) ≡ all
  numbered_texts-more n x text here so_far =
      let first : text ++ (f n x ++ numbered_texts f (suc n) (drop (suc n) xs)) ≡ all = rw (drop_at_get xs n x here) at so_far in
      rw (add-one n) (append_assoc text (f n x) (numbered_texts f (suc n) (drop (suc n) xs)) ∙ first)

  -- all of them
  pub numbered_texts-all : (n : ℕ) (text : List ℕ) → length xs ≤ n → text ++ numbered_texts f n (drop n xs) ≡ all → text ≡ all
  numbered_texts-all n text past so_far = let a : text ++ [] ≡ all = rw (drop_all n xs past) at so_far in sym (append-nil text) ∙ a
