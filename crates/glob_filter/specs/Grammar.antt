-- The grammar of patterns: which text is written for a list of items, by one rule for each form of item.
use Rattle.std.specs.Prelude.{ℕ, true, false, List, [], ◌∷◌, ◌++◌, ◌≢◌, drop, Contains, if◌then◌else◌}
use Rattle.glob_filter.specs.Items.{Item, byte, any, star, class, asterisk, question_mark, open_bracket, close_bracket, exclamation_mark, is_negated, ranges_of}

-- the content of a class: what comes after its `[` and an optional `!`
abbrev pub content_of : List ℕ → List ℕ
content_of text = if is_negated text then drop 1 text else text

-- a `[` before this text begins a class: a `]` comes after the content's first byte
abbrev pub BeginsClass : List ℕ → Type 0
BeginsClass text = Contains (drop 1 (content_of text)) close_bracket

-- the text is written for these items; a class's content, `first ∷ others`, ends at the first `]` after its first byte
pub data HasItems : List ℕ → List Item → Type 0 where
  end : HasItems [] []
  a_star : {text : List ℕ} {items : List Item} → HasItems text items → HasItems (asterisk ∷ text) (star ∷ items)
  a_question_mark : {text : List ℕ} {items : List Item} → HasItems text items → HasItems (question_mark ∷ text) (any ∷ items)
  a_class : (first : ℕ) (others text : List ℕ) {items : List Item} → first ≢ exclamation_mark → ¬ Contains others close_bracket → HasItems text items
      → HasItems (open_bracket ∷ first ∷ (others ++ close_bracket ∷ text)) (class false (ranges_of (first ∷ others)) ∷ items)
  a_negated_class : (first : ℕ) (others text : List ℕ) {items : List Item} → ¬ Contains others close_bracket → HasItems text items
      → HasItems (open_bracket ∷ exclamation_mark ∷ first ∷ (others ++ close_bracket ∷ text)) (class true (ranges_of (first ∷ others)) ∷ items)
  a_bracket : {text : List ℕ} {items : List Item} → ¬ BeginsClass text → HasItems text items → HasItems (open_bracket ∷ text) (byte open_bracket ∷ items)
  a_byte : {b : ℕ} {text : List ℕ} {items : List Item} → b ≢ asterisk → b ≢ question_mark → b ≢ open_bracket → HasItems text items → HasItems (b ∷ text) (byte b ∷ items)
