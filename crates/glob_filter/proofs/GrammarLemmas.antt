-- The items of a text are the items that the grammar gives it.
use Rattle.std.proofs.Common.{◌≡◌, ◌≢◌, ◌⊎◌, ◌↔◌, inl, inr, ℕ, ◌+◌, ◌<◌, ◌≤◌, List, [], ◌∷◌, ◌++◌, length, take, drop, get_or, zero, suc, refl, sym, ap, subst, ◌∙◌, Bool, true, false, not, cond, eqb, nat_lt, Some, None, arith, length-append, zero-add}
use Rattle.std.specs.List.{Contains, position_or_len}
use Rattle.std.proofs.lemmas.Bool.{cases_eq, ne_eqb, lt-ltb, le-ltb}
use Rattle.std.proofs.lemmas.List.{drop_at, take_at, drop-drop}
use Rattle.glob_filter.specs.Items.{Item, byte, any, star, class, asterisk, question_mark, open_bracket, close_bracket, exclamation_mark, is_negated, ranges_of, class_end, class_to, class_at, first_item, items_after, items_of}
use Rattle.glob_filter.specs.Grammar.{content_of, BeginsClass, HasItems, end, a_star, a_question_mark, a_class, a_negated_class, a_bracket, a_byte}
use Rattle.glob_filter.proofs.Texts.{items_after-drop, drop_one_more}

-- ---- the first `]` of a list

Contains-more : (b x : ℕ) (xs : List ℕ) → Contains xs x → Contains (b ∷ xs) x
Contains-more b x xs h = (suc h.0, omega (arith, h.1), h.2)

Contains-first : (x : ℕ) (xs : List ℕ) → Contains (x ∷ xs) x
Contains-first x xs = (zero, omega arith, refl)

Contains-split : (b x : ℕ) (xs : List ℕ) → Contains (b ∷ xs) x → (b ≡ x) ⊎ Contains xs x
Contains-split b x xs h = split h.0 h.1 h.2
  where
    split : (k : ℕ) → k < length (b ∷ xs) → get_or (b ∷ xs) k x ≡ x → (b ≡ x) ⊎ Contains xs x
    split zero lt e = inl e
    split (suc k) lt e = inr (k, omega arith, e)

abbrev ends : ℕ → Bool
ends b = eqb b close_bracket

-- the first `]` comes right after what has none
close-first : (others text : List ℕ) → ¬ Contains others close_bracket → position_or_len ends (others ++ close_bracket ∷ text) ≡ length others
close-first [] text none = refl
close-first (b ∷ others) text none =
    let other : eqb b close_bracket ≡ false = ne_eqb b close_bracket (λ e. none (subst (λ x. Contains (b ∷ others) x) e (Contains-first b others))) in
    ap (λ t. cond (not t) (1 + position_or_len ends (others ++ close_bracket ∷ text)) 0) other
    ∙ ap (λ n. 1 + n) (close-first others text (λ h. none (Contains-more b close_bracket others h)))
    ∙ omega arith

-- if there is none, the search comes to the end
close-none : (xs : List ℕ) → ¬ Contains xs close_bracket → position_or_len ends xs ≡ length xs
close-none [] none = refl
close-none (b ∷ xs) none =
    let other : eqb b close_bracket ≡ false = ne_eqb b close_bracket (λ e. none (subst (λ x. Contains (b ∷ xs) x) e (Contains-first b xs))) in
    ap (λ t. cond (not t) (1 + position_or_len ends xs) 0) other
    ∙ ap (λ n. 1 + n) (close-none xs (λ h. none (Contains-more b close_bracket xs h)))
    ∙ omega arith

-- the class whose content begins with this byte ends there
class_end-first : (first : ℕ) (others text : List ℕ) → ¬ Contains others close_bracket → class_end (first ∷ (others ++ close_bracket ∷ text)) ≡ Some (length others)
class_end-first first others text none =
    let xs : List ℕ = others ++ close_bracket ∷ text in
    ap (λ n. cond (nat_lt n (length xs)) (Some n) None) (close-first others text none)
    ∙ ap (λ t. cond t (Some (length others)) None) (lt-ltb (length others) (length xs) (omega (arith, length-append others (close_bracket ∷ text))))

class_end-none : (content : List ℕ) → ¬ Contains (drop 1 content) close_bracket → class_end content ≡ None
class_end-none content none =
    let xs : List ℕ = drop 1 content in
    ap (λ n. cond (nat_lt n (length xs)) (Some n) None) (close-none xs none)
    ∙ ap (λ t. cond t (Some (length xs)) None) (le-ltb (length xs) (length xs) (omega arith))

NoneIn-[] : (x : ℕ) → ¬ Contains [] x
NoneIn-[] x h = omega (arith, h.1)

NoneIn-more : (b x : ℕ) (xs : List ℕ) → b ≢ x → ¬ Contains xs x → ¬ Contains (b ∷ xs) x
NoneIn-more b x xs ne none h = elim (Contains-split b x xs h) [ inl e ↦ ne e | inr more ↦ none more ]

-- a list up to its first `]`, and what comes after it
abbrev Split : List ℕ → Type 0
Split xs = (front back : List ℕ) × (xs ≡ front ++ close_bracket ∷ back) × (¬ Contains front close_bracket)

Split-more : (b : ℕ) (xs : List ℕ) → b ≢ close_bracket → (¬ Contains xs close_bracket) ⊎ Split xs → (¬ Contains (b ∷ xs) close_bracket) ⊎ Split (b ∷ xs)
Split-more b xs ne (inl none) = inl (NoneIn-more b close_bracket xs ne none)
Split-more b xs ne (inr s) = inr (b ∷ s.0, s.1, ap (λ rest. b ∷ rest) s.2, NoneIn-more b close_bracket s.0 ne s.3)

Split-step : (b : ℕ) (xs : List ℕ) → (b ≡ close_bracket) ⊎ (b ≢ close_bracket) → (¬ Contains xs close_bracket) ⊎ Split xs → (¬ Contains (b ∷ xs) close_bracket) ⊎ Split (b ∷ xs)
Split-step b xs (inl e) rest = inr ([], xs, ap (λ x. x ∷ xs) e, NoneIn-[] close_bracket)
Split-step b xs (inr ne) rest = Split-more b xs ne rest

split_close : (xs : List ℕ) → (¬ Contains xs close_bracket) ⊎ Split xs
split_close [] = inl (NoneIn-[] close_bracket)
split_close (b ∷ xs) = Split-step b xs (cases_eq b close_bracket) (split_close xs)

-- ---- the items of a text, by the form of its first item

-- a content and its `]` are passed over
after_class : (first : ℕ) (others text : List ℕ) → drop (length others + 2) (first ∷ (others ++ close_bracket ∷ text)) ≡ text
after_class first others text =
    let rest : List ℕ = first ∷ (others ++ close_bracket ∷ text) in
    let closed : drop (length others + 1) rest ≡ close_bracket ∷ text = drop_at (first ∷ others) (close_bracket ∷ text) (length others + 1) (omega arith) in
    let more : length others + 2 ≡ length others + 1 + 1 = omega arith in
    ap (λ n. drop n rest) more ∙ sym (drop-drop 1 (length others + 1) rest) ∙ ap (drop 1) closed

content_taken : (first : ℕ) (others text : List ℕ) → take (length others + 1) (first ∷ (others ++ close_bracket ∷ text)) ≡ first ∷ others
content_taken first others text = take_at (first ∷ others) (close_bracket ∷ text) (length others + 1) (omega arith)

items_of-class : (first : ℕ) (others text : List ℕ) → first ≢ exclamation_mark → ¬ Contains others close_bracket
    → items_of (open_bracket ∷ first ∷ (others ++ close_bracket ∷ text)) ≡ class false (ranges_of (first ∷ others)) ∷ items_of text
items_of-class first others text ne none =
    let rest : List ℕ = first ∷ (others ++ close_bracket ∷ text) in
    let at : class_at rest ≡ class_to false 0 rest (Some (length others)) =
    ap (λ t. cond t (class_to true 1 (drop 1 rest) (class_end (drop 1 rest))) (class_to false 0 rest (class_end rest))) (ne_eqb first exclamation_mark ne)
    ∙ ap (class_to false 0 rest) (class_end-first first others text none) in
    ap (λ (c : Item × ℕ). c.0 ∷ items_after c.1 rest) at
    ∙ ap (λ content. class false (ranges_of content) ∷ items_after (0 + (length others + 2)) rest) (content_taken first others text)
    ∙ ap (λ items. class false (ranges_of (first ∷ others)) ∷ items)
    (items_after-drop (0 + (length others + 2)) rest ∙ ap (λ n. items_of (drop n rest)) (zero-add (length others + 2)) ∙ ap items_of (after_class first others text))

items_of-negated_class : (first : ℕ) (others text : List ℕ) → ¬ Contains others close_bracket
    → items_of (open_bracket ∷ exclamation_mark ∷ first ∷ (others ++ close_bracket ∷ text)) ≡ class true (ranges_of (first ∷ others)) ∷ items_of text
items_of-negated_class first others text none =
    let rest : List ℕ = first ∷ (others ++ close_bracket ∷ text) in
    ap (λ (c : Item × ℕ). c.0 ∷ items_after c.1 (exclamation_mark ∷ rest)) (ap (class_to true 1 rest) (class_end-first first others text none))
    ∙ ap (λ content. class true (ranges_of content) ∷ items_after (1 + (length others + 2)) (exclamation_mark ∷ rest)) (content_taken first others text)
    ∙ ap (λ items. class true (ranges_of (first ∷ others)) ∷ items)
    (items_after-drop (1 + (length others + 2)) (exclamation_mark ∷ rest)
    ∙ ap items_of (drop_one_more exclamation_mark rest (length others + 2) ∙ after_class first others text))

no_class : (negated : Bool) (text : List ℕ) → ¬ Contains (drop 1 (cond negated (drop 1 text) text)) close_bracket
    → cond negated (class_to true 1 (drop 1 text) (class_end (drop 1 text))) (class_to false 0 text (class_end text)) ≡ (byte open_bracket, 0)
no_class true text none = ap (class_to true 1 (drop 1 text)) (class_end-none (drop 1 text) none)
no_class false text none = ap (class_to false 0 text) (class_end-none text none)

items_of-bracket : (text : List ℕ) → ¬ BeginsClass text → items_of (open_bracket ∷ text) ≡ byte open_bracket ∷ items_of text
items_of-bracket text none = ap (λ (c : Item × ℕ). c.0 ∷ items_after c.1 text) (no_class (is_negated text) text none)

items_of-byte : (b : ℕ) (text : List ℕ) → b ≢ asterisk → b ≢ question_mark → b ≢ open_bracket → items_of (b ∷ text) ≡ byte b ∷ items_of text
items_of-byte b text not_star not_any not_class =
    let plain : first_item b text ≡ (byte b, 0) =
    ap (λ t. cond t (star, 0) (cond (eqb b question_mark) (any, 0) (cond (eqb b open_bracket) (class_at text) (byte b, 0)))) (ne_eqb b asterisk not_star)
    ∙ ap (λ t. cond t (any, 0) (cond (eqb b open_bracket) (class_at text) (byte b, 0))) (ne_eqb b question_mark not_any)
    ∙ ap (λ t. cond t (class_at text) (byte b, 0)) (ne_eqb b open_bracket not_class) in
    ap (λ (c : Item × ℕ). c.0 ∷ items_after c.1 text) plain

-- ---- the grammar gives each text its items, and no others

items-HasItems : {text : List ℕ} {items : List Item} → HasItems text items → items ≡ items_of text
items-HasItems end = refl
items-HasItems (a_star h) = ap (λ items. star ∷ items) (items-HasItems h)
items-HasItems (a_question_mark h) = ap (λ items. any ∷ items) (items-HasItems h)
items-HasItems (a_class first others text ne none h) =
    ap (λ items. class false (ranges_of (first ∷ others)) ∷ items) (items-HasItems h) ∙ sym (items_of-class first others text ne none)
items-HasItems (a_negated_class first others text none h) =
    ap (λ items. class true (ranges_of (first ∷ others)) ∷ items) (items-HasItems h) ∙ sym (items_of-negated_class first others text none)
items-HasItems (a_bracket {text} {items} none h) =
    ap (λ items. byte open_bracket ∷ items) (items-HasItems h) ∙ sym (items_of-bracket text none)
items-HasItems (a_byte {b} {text} {items} not_star not_any not_class h) =
    ap (λ items. byte b ∷ items) (items-HasItems h) ∙ sym (items_of-byte b text not_star not_any not_class)

abbrev Has : List ℕ → Type 0
Has text = HasItems text (items_of text)

-- each text of at most n bytes has its items
abbrev HasUpTo : ℕ → Type 0
HasUpTo n = (text : List ℕ) → length text ≤ n → Has text

bracket_alone : (text : List ℕ) → ¬ BeginsClass text → Has text → Has (open_bracket ∷ text)
bracket_alone text none h = subst (HasItems (open_bracket ∷ text)) (sym (items_of-bracket text none)) (a_bracket none h)

class_has : (n first : ℕ) (tail : List ℕ) → first ≢ exclamation_mark → length (first ∷ tail) ≤ n → HasUpTo n → (¬ Contains tail close_bracket) ⊎ Split tail → Has (open_bracket ∷ first ∷ tail)
class_has n first tail ne le shorter (inl none) =
    let content : content_of (first ∷ tail) ≡ first ∷ tail = ap (λ t. cond t tail (first ∷ tail)) (ne_eqb first exclamation_mark ne) in
    bracket_alone (first ∷ tail) (subst (λ c. ¬ Contains (drop 1 c) close_bracket) (sym content) none) (shorter (first ∷ tail) le)
class_has n first tail ne le shorter (inr s) =
    let within : length s.1 ≤ n = omega (arith, ap length s.2, length-append s.0 (close_bracket ∷ s.1)) in
    subst (λ t. Has (open_bracket ∷ first ∷ t)) (sym s.2)
    (subst (HasItems (open_bracket ∷ first ∷ (s.0 ++ close_bracket ∷ s.1))) (sym (items_of-class first s.0 s.1 ne s.3)) (a_class first s.0 s.1 ne s.3 (shorter s.1 within)))

negated_class_has : (n first : ℕ) (tail : List ℕ) → length (exclamation_mark ∷ first ∷ tail) ≤ n → HasUpTo n → (¬ Contains tail close_bracket) ⊎ Split tail
    → Has (open_bracket ∷ exclamation_mark ∷ first ∷ tail)
negated_class_has n first tail le shorter (inl none) = bracket_alone (exclamation_mark ∷ first ∷ tail) none (shorter (exclamation_mark ∷ first ∷ tail) le)
negated_class_has n first tail le shorter (inr s) =
    let within : length s.1 ≤ n = omega (arith, ap length s.2, length-append s.0 (close_bracket ∷ s.1)) in
    subst (λ t. Has (open_bracket ∷ exclamation_mark ∷ first ∷ t)) (sym s.2)
    (subst (HasItems (open_bracket ∷ exclamation_mark ∷ first ∷ (s.0 ++ close_bracket ∷ s.1))) (sym (items_of-negated_class first s.0 s.1 s.3)) (a_negated_class first s.0 s.1 s.3 (shorter s.1 within)))

negated_has : (n : ℕ) (content : List ℕ) → length (exclamation_mark ∷ content) ≤ n → HasUpTo n → Has (open_bracket ∷ exclamation_mark ∷ content)
negated_has n [] le shorter = bracket_alone (exclamation_mark ∷ []) (NoneIn-[] close_bracket) (shorter (exclamation_mark ∷ []) le)
negated_has n (first ∷ tail) le shorter = negated_class_has n first tail le shorter (split_close tail)

bracket_has : (n x : ℕ) (tail : List ℕ) → length (x ∷ tail) ≤ n → HasUpTo n → (x ≡ exclamation_mark) ⊎ (x ≢ exclamation_mark) → Has (open_bracket ∷ x ∷ tail)
bracket_has n x tail le shorter (inl e) = subst (λ y. Has (open_bracket ∷ y ∷ tail)) (sym e) (negated_has n tail le shorter)
bracket_has n x tail le shorter (inr ne) = class_has n x tail ne le shorter (split_close tail)

open_has : (n : ℕ) (text : List ℕ) → length text ≤ n → HasUpTo n → Has (open_bracket ∷ text)
open_has n [] le shorter = bracket_alone [] (NoneIn-[] close_bracket) (shorter [] le)
open_has n (x ∷ tail) le shorter = bracket_has n x tail le shorter (cases_eq x exclamation_mark)

first_has : (n b : ℕ) (text : List ℕ) → length text ≤ n → HasUpTo n
    → (b ≡ asterisk) ⊎ (b ≢ asterisk) → (b ≡ question_mark) ⊎ (b ≢ question_mark) → (b ≡ open_bracket) ⊎ (b ≢ open_bracket) → Has (b ∷ text)
first_has n b text le shorter (inl e) any_or class_or = subst (λ x. Has (x ∷ text)) (sym e) (a_star (shorter text le))
first_has n b text le shorter (inr not_star) (inl e) class_or = subst (λ x. Has (x ∷ text)) (sym e) (a_question_mark (shorter text le))
first_has n b text le shorter (inr not_star) (inr not_any) (inl e) = subst (λ x. Has (x ∷ text)) (sym e) (open_has n text le shorter)
first_has n b text le shorter (inr not_star) (inr not_any) (inr not_class) =
    subst (HasItems (b ∷ text)) (sym (items_of-byte b text not_star not_any not_class)) (a_byte not_star not_any not_class (shorter text le))

has_up_to : (n : ℕ) → HasUpTo n
has_up_to n [] le = end
has_up_to zero (b ∷ text) le = absurd (omega (arith, le))
has_up_to (suc n) (b ∷ text) le =
    first_has n b text (omega (arith, le)) (has_up_to n) (cases_eq b asterisk) (cases_eq b question_mark) (cases_eq b open_bracket)

pub HasItems-items : (text : List ℕ) (items : List Item) → HasItems text items ↔ (items ≡ items_of text)
HasItems-items text items = (items-HasItems, λ e. subst (HasItems text) (sym e) (has_up_to (length text) text (omega arith)))
