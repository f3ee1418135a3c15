-- One item more of a text.
use Rattle.std.proofs.Common.{◌≡◌, ℕ, ◌+◌, ◌≤◌, ◌==◌, Bool, true, false, true≢false, Some, None, cond, nat_lt, List, [], ◌∷◌, ◌++◌, drop, length, zero, suc, refl, sym, ap, ◌∙◌, inl, inr, arith, append_assoc, add_comm, add-one, length-append, length-drop}
use Rattle.std.specs.List.{list_any}
use Rattle.std.proofs.lemmas.Bool.{cases_lt, lt-ltb}
use Rattle.std.proofs.lemmas.List.{map_push}
use Rattle.glob_filter.specs.Items.{first_item, items_after, items_of}
use Rattle.glob_filter.specs.TokenItems.{item_of, token_items}
use Rattle.glob_filter.specs.Causes.{backslash, first_cause}
use Rattle.glob_filter.specs.declared.faults.PatternFault.TheVariants.{Empty, Backslash, TooLong}
use Rattle.ft_base.specs.declared.limits.TheConstants.{PATTERN_BYTES}
use Rattle.glob_filter.specs.declared.token.Token.{Token}

-- the bytes that belong to an item before are dropped
pub items_after-drop : (taken : ℕ) (text : List ℕ) → items_after taken text ≡ items_of (drop taken text)
items_after-drop zero text = refl
items_after-drop (suc taken) [] = refl
items_after-drop (suc taken) (b ∷ text) = items_after-drop taken text

-- one byte more is dropped
pub drop_one_more : (b : ℕ) (text : List ℕ) (n : ℕ) → drop (1 + n) (b ∷ text) ≡ drop n text
drop_one_more b text n = ap (λ k. drop k (b ∷ text)) (add_comm 1 n ∙ add-one n)

-- if the items so far and those of the rest are the text's, so are they when the rest's first item is read
pub one_more : (text : List ℕ) (tokens : List Token) (token : Token) (rest : List ℕ) (b : ℕ) (others after : List ℕ)
    → rest ≡ b ∷ others → item_of token ≡ (first_item b others).0 → after ≡ drop (first_item b others).1 others
    → token_items tokens ++ items_of rest ≡ items_of text → token_items (tokens ++ token ∷ []) ++ items_of after ≡ items_of text
one_more text tokens token rest b others after rest_is token_is after_is so_far =
    let pushed : token_items (tokens ++ token ∷ []) ++ items_of after ≡ token_items tokens ++ (item_of token ∷ items_of after) =
    ap (λ items. items ++ items_of after) (map_push item_of tokens token) ∙ append_assoc (token_items tokens) (item_of token ∷ []) (items_of after) in
    let first : item_of token ∷ items_of after ≡ items_of (b ∷ others) =
    ap (λ item. item ∷ items_of after) token_is
    ∙ ap (λ items. (first_item b others).0 ∷ items) (ap items_of after_is ∙ sym (items_after-drop (first_item b others).1 others)) in
    pushed ∙ ap (λ items. token_items tokens ++ items) (first ∙ ap items_of (sym rest_is)) ∙ so_far

-- reading an item leaves no more of the text
pub length_after : (tokens : List Token) (token : Token) (all : ℕ) (rest : List ℕ) (b n : ℕ) (others after : List ℕ) → rest ≡ b ∷ others → after ≡ drop n others
    → length tokens + length rest ≤ all → length (tokens ++ token ∷ []) + length after ≤ all
length_after tokens token all rest b n others after rest_is after_is most =
    omega (arith, length-append tokens (token ∷ []), ap length rest_is, ap length after_is, length-drop n others)

-- a text that no cause refuses is no longer than a pattern may be
pub length-no_cause : (text : List ℕ) → first_cause text ≡ None → length text ≤ PATTERN_BYTES
length-no_cause text e = elim (cases_lt PATTERN_BYTES (length text)) [
  | inl h ↦ absurd (refused (length text == 0) (list_any (λ b. b == backslash) text) (nat_lt PATTERN_BYTES (length text)) (lt-ltb PATTERN_BYTES (length text) h) e)
  | inr h ↦ h
]
  where
    refused : (x y z : Bool) → z ≡ true → cond x (Some Empty) (cond y (Some Backslash) (cond z (Some TooLong) None)) ≡ None → ⊥
    refused true y z h f = absurd cc
    refused false true z h f = absurd cc
    refused false false true h f = absurd cc
    refused false false false h f = true≢false (sym h)
