-- The texts of lines, one after the other.
use Rattle.std.proofs.Common.{◌≡◌, ℕ, ◌+◌, ◌<◌, ◌≤◌, List, [], ◌∷◌, ◌++◌, length, map, drop, get_or, refl, sym, ap, ◌∙◌, append_assoc, append-nil}
use Rattle.std.proofs.lemmas.List.{drop_all, drop_more}
use Rattle.trace_views.specs.Words.{lines_text}

module _ {L : Type 0} (text : L → List ℕ) where
  -- lines after others
  pub lines-after : (lines others : List L) → lines_text text (lines ++ others) ≡ lines_text text lines ++ lines_text text others
  lines-after [] others = refl
  lines-after (line ∷ lines) others = rw (lines-after lines others) (sym (append_assoc (text line) (lines_text text lines) (lines_text text others)))

  -- one line after others
  pub line-after : (lines : List L) (line : L) → lines_text text (lines ++ line ∷ []) ≡ lines_text text lines ++ text line
  line-after lines line = lines-after lines (line ∷ []) ∙ ap (λ (t : List ℕ). lines_text text lines ++ t) (append-nil (text line))

  module _ (lines : List L) (i : ℕ) (t all : List ℕ) where
    -- the next line
    pub lines-more : (line : L) → i < length lines → line ≡ get_or lines i line
        → t ++ lines_text text (drop i lines) ≡ all → (t ++ text line) ++ lines_text text (drop (i + 1) lines) ≡ all
    lines-more line within is so_far =
        let here : drop i lines ≡ line ∷ drop (i + 1) lines = drop_more lines i line within ∙ ap (λ (x : L). x ∷ drop (i + 1) lines) (sym is) in
        let a : t ++ (text line ++ lines_text text (drop (i + 1) lines)) ≡ all = rw here at so_far in
        append_assoc t (text line) (lines_text text (drop (i + 1) lines)) ∙ a

    -- all lines
    pub lines-all : length lines ≤ i → t ++ lines_text text (drop i lines) ≡ all → t ≡ all
    lines-all past so_far = let a : t ++ [] ≡ all = rw (drop_all i lines past) at so_far in sym (append-nil t) ∙ a

-- the texts of lines by what each is read as
pub lines-read : {L M : Type 0} (text : M → List ℕ) (read : L → M) (lines : List L) → lines_text (λ line. text (read line)) lines ≡ lines_text text (map read lines)
lines-read text read [] = refl
lines-read text read (line ∷ lines) = ap (λ (t : List ℕ). text (read line) ++ t) (lines-read text read lines)
