-- A text that is cut at each character that passes a test of ASCII characters gives the parts between them.
use Rattle.std.proofs.Common.{◌≡◌, ℕ, ◌<◌, arith, Bool, true, false, cond, List, [], ◌∷◌, ◌++◌, length, take, drop, get_or, Option, Some, None, refl, sym, ap, ◌∙◌, subst, length-drop}
use Rattle.std.specs.List.{All, slice_split}
use Rattle.std.specs.Option.{MatchOption}
use Rattle.std.specs.Str.{NoCharPasses}
use Rattle.std.specs.Str.Pattern.{FindsBy}
use Rattle.std.specs.Str.Iter.{split_steps, split_text, split_has_more, split_pattern}
use Rattle.std.proofs.Math.ListN.{take-append-drop}
use Rattle.std.proofs.lemmas.Iterator.{YieldsList}
use Rattle.std.proofs.lemmas.Iterator.Splits.{YieldsList-from_shown_while}
use Rattle.std.proofs.lemmas.List.Elements.{All-from_get_or}
use Rattle.std.proofs.lemmas.List.Splits.{slice_split_none, slice_split_at}
use Rattle.std.proofs.lemmas.Str.{NoCharPasses-byte}
use Rattle.std.proofs.lemmas.Str.Pattern.{drop_at_char}

-- t passes ASCII characters alone
module _ (t : ℕ → Bool) (low : (c : ℕ) → t c ≡ true → c < 128) where
  fails : (b : ℕ) (r : Bool) → t b ≡ r → (b < 128 → t b ≡ false) → t b ≡ false
  fails b true e h = h (low b e)
  fails b false e h = e

  -- no byte passes if no character does
  none : (bs : List ℕ) → NoCharPasses t bs → All (λ b. t b ≡ false) bs
  none bs h = All-from_get_or (λ b. t b ≡ false) bs 0 (λ i l. fails (get_or bs i 0) _ refl (λ s. NoCharPasses-byte t bs i h l s))

  -- what is cut off is the first part
  piece : (w x rest : List ℕ) (more : Bool) (o : Option (ℕ × ℕ)) → FindsBy t w o
      → MatchOption o ((x ≡ w) × (more ≡ false)) (λ q. 0 < q.1 → (x ≡ take q.0 w) × (more ≡ true) × (rest ≡ drop q.1 w)) → slice_split t w ≡ x ∷ cond more (slice_split t rest) []
  piece w x rest more None clear end =
      ap (slice_split t) (sym end.0) ∙ slice_split_none t x (none x (subst (NoCharPasses t) (sym end.0) clear)) ∙ ap (λ b. x ∷ cond b (slice_split t rest) []) (sym end.1)
  piece w x rest more (Some q) at cut =
      let c : ℕ = at.1.0 in
      let back : drop q.0 w ≡ c ∷ drop q.1 w = drop_at_char c w q.0 q.1 at.1.2 (low c at.1.1) in
      let end : 0 < q.1 = omega (arith, at.1.2.ends, ap length back, length-drop q.0 w, length-drop q.1 w) in
      let is = cut end in
      let whole : w ≡ x ++ c ∷ rest = sym (take-append-drop q.0 w) ∙ ap (λ ys. take q.0 w ++ ys) back ∙ ap (λ xs. xs ++ c ∷ drop q.1 w) (sym is.0) ∙ ap (λ ys. x ++ c ∷ ys) (sym is.2) in
      ap (slice_split t) whole ∙ slice_split_at t x c rest (none x (subst (NoCharPasses t) (sym is.0) at.0)) at.1.1 ∙ ap (λ b. x ∷ cond b (slice_split t rest) []) (sym is.1)

  -- the pattern finds what passes each test that it matches by, and goes on matching by it
  module _ {P : Type 0} (matches : P → (ℕ → Bool) → Type 0) where
    abbrev finds : P → List ℕ → Option (ℕ × ℕ) → Type 0
    finds p s r = (k : ℕ → Bool) → matches p k → FindsBy k s r

    abbrev keeps : P → P → Type 0
    keeps p q = (k : ℕ → Bool) → matches p k → matches q k

    -- the last three facts are the clauses `text`, `has_more` and `pattern` of `split`
    pub YieldsList-from_split_by : {s : _} (bs : List ℕ) → split_text s ≡ bs → split_has_more s ≡ true → matches (split_pattern s) t
        → YieldsList (split_steps finds keeps) (λ x. x.now) s (slice_split t bs)
    YieldsList-from_split_by {s} bs text more pattern =
        let parts = slice_split t in
        subst (YieldsList (split_steps finds keeps) (λ x. x.now) s) (λ i. cond (more i) (parts (text i)) [])
        (YieldsList-from_shown_while (split_steps finds keeps) (λ x. x.now) (λ u. cond (split_has_more u) (parts (split_text u)) []) (λ u. matches (split_pattern u) t)
        (λ u v h k. ap (λ b. length (cond b (parts (split_text u)) [])) (sym k.0))
        (λ u x v h k.
        let cut = k.1.1.1 in (
          k.1.0 t h,
          ap (λ b. cond b (parts (split_text u)) []) (sym k.0) ∙ piece (split_text u) x.now (split_text v) (split_has_more v) cut.0 (cut.1 t h) cut.2,
        ))
        s pattern)
