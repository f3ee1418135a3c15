-- The form of a text is the form that the grammar gives it.
use Rattle.std.proofs.Common.{◌≡◌, ◌↔◌, ℕ, suc, ◌+◌, ◌==◌, ◌||◌, ◌++◌, not, cond, arith, Bool, true, false, [], ◌∷◌, length, take, drop, codes, Some, None, refl, sym, subst, inl, inr, ap, ap₂, ◌∙◌, nat_eq}
use Rattle.std.specs.List.{position_or_len, before_first, after_first, starts_with}
use Rattle.std.specs.Str.Parse.{digits_value}
use Rattle.std.proofs.lemmas.Bool.{ne_eqb}
use Rattle.std.proofs.lemmas.Bool.Decides.{eqb_tells}
use Rattle.std.proofs.lemmas.List.{take-append-drop}
use Rattle.std.proofs.lemmas.Slice.Eq.{bytes_eq-Decides}
use Rattle.glob_filter.specs.Items.{is_negated}
use Rattle.filter_commands.specs.Forms.{Text, TextForm, line, named, in_module, colon, has_colon, is_number, unmarked, module_with, module_form, form_of}
use Rattle.filter_commands.specs.Grammar.{IsOwner, HasForm, a_line, a_glob, inside, outside}

abbrev pub is_colon : ℕ → Bool
is_colon b = b == colon

or-true : (b : Bool) → (b || true) ≡ true
or-true true = refl
or-true false = refl

-- ---- the first `:`

pub has_colon-after : (glob tail : Text) → has_colon (glob ++ colon ∷ tail) ≡ true
has_colon-after [] tail = refl
has_colon-after (b ∷ glob) tail = ap (λ t. is_colon b || t) (has_colon-after glob tail) ∙ or-true (is_colon b)

first-after : (glob tail : Text) → has_colon glob ≡ false → position_or_len is_colon (glob ++ colon ∷ tail) ≡ length glob
first-after [] tail none = refl
first-after (b ∷ glob) tail none =
    elim (is_colon b) as (λ t. (t || has_colon glob) ≡ false → cond (not t) (1 + position_or_len is_colon (glob ++ colon ∷ tail)) 0 ≡ length (b ∷ glob)) [
      | true ↦ λ h. absurd cc
      | false ↦ λ h. let more = first-after glob tail h in omega arith
    ] none

take-length : (xs ys : Text) → take (length xs) (xs ++ ys) ≡ xs
take-length [] ys = refl
take-length (x ∷ xs) ys = ap (λ (zs : Text). x ∷ zs) (take-length xs ys)

drop-length : (xs ys : Text) (y : ℕ) → drop (length xs + 1) (xs ++ y ∷ ys) ≡ ys
drop-length [] ys y = refl
drop-length (x ∷ xs) ys y = ap (λ n. drop n (x ∷ (xs ++ y ∷ ys))) same ∙ drop-length xs ys y
  where
    same : length (x ∷ xs) + 1 ≡ suc (length xs + 1)
    same = omega arith

-- what stands before the first `:`, and what comes after it
pub before_first-colon : (glob tail : Text) → has_colon glob ≡ false → before_first is_colon (glob ++ colon ∷ tail) ≡ glob
before_first-colon glob tail none = ap (λ n. take n (glob ++ colon ∷ tail)) (first-after glob tail none) ∙ take-length glob (colon ∷ tail)

pub after_first-colon : (glob tail : Text) → has_colon glob ≡ false → after_first is_colon (glob ++ colon ∷ tail) ≡ tail
after_first-colon glob tail none = ap (λ n. drop (n + 1) (glob ++ colon ∷ tail)) (first-after glob tail none) ∙ drop-length glob tail colon

form_of-colon : (glob tail : Text) → has_colon glob ≡ false → form_of (glob ++ colon ∷ tail) ≡ module_form glob tail
form_of-colon glob tail none =
    let text : Text = glob ++ colon ∷ tail in
    ap (λ t. cond t (module_form (before_first is_colon text) (after_first is_colon text)) (cond (is_number text) (Some (line (digits_value 10 text))) (Some (named text)))) (has_colon-after glob tail)
    ∙ ap₂ module_form (before_first-colon glob tail none) (after_first-colon glob tail none)

-- a text with a `:` is cut at the first
pub record Cut (text : Text) : Type 0 where
  pub glob : Text
  pub tail : Text
  pub is : text ≡ glob ++ colon ∷ tail
  pub none : has_colon glob ≡ false

pub cut : (text : Text) → has_colon text ≡ true → Cut text
cut [] h = absurd cc
cut (b ∷ text) h = elim (eqb_tells b colon) [
  | inl t ↦ record { glob = []; tail = text; is = ap (λ x. x ∷ text) t.1; none = refl }
  | inr f ↦
      let rest : Cut text = cut text (sym (ap (λ t. t || has_colon text) f.0) ∙ h) in
      record { glob = b ∷ rest.glob; tail = rest.tail; is = ap (λ (x : Text). b ∷ x) rest.is; none = ap (λ t. t || has_colon rest.glob) f.0 ∙ rest.none }
]

-- ---- the module

not_empty : (b : ℕ) (text : Text) → (length (b ∷ text) == 0) ≡ false
not_empty b text = ne_eqb (length (b ∷ text)) 0 (λ e. omega arith)

module_with-plain : (glob owner : Text) → IsOwner owner → is_negated owner ≡ false → module_with glob (unmarked owner) ≡ Some (in_module glob false owner)
module_with-plain glob [] is plain = absurd (let h = is.some in cc)
module_with-plain glob (b ∷ owner) is plain =
    ap (λ t. module_with glob (cond t (true, owner) (false, b ∷ owner))) plain
    ∙ ap (λ t. cond t None (Some (in_module glob false (b ∷ owner)))) is.some

module_with-marked : (glob owner : Text) → IsOwner owner → module_with glob (true, owner) ≡ Some (in_module glob true owner)
module_with-marked glob owner is = ap (λ t. cond t None (Some (in_module glob true owner))) is.some

module_form-mod : (glob owner : Text) → has_colon owner ≡ false → module_form glob (codes "mod:" ++ owner) ≡ module_with glob (unmarked owner)
module_form-mod glob owner plain = ap (λ t. cond t None (module_with glob (unmarked owner))) plain

-- a form that the grammar gives is the form
pub form_of-HasForm : (text : Text) (form : TextForm) → HasForm text form → form_of text ≡ Some form
form_of-HasForm _ _ (a_line text none digits) = rw (none, digits) refl
form_of-HasForm _ _ (a_glob text none other) = rw (none, other) refl
form_of-HasForm _ _ (inside glob owner none is plain) =
    form_of-colon glob (codes "mod:" ++ owner) none ∙ module_form-mod glob owner is.plain ∙ module_with-plain glob owner is plain
form_of-HasForm _ _ (outside glob owner none is) =
    form_of-colon glob (codes "mod:!" ++ owner) none ∙ module_form-mod glob (33 ∷ owner) is.plain ∙ module_with-marked glob owner is

-- ---- from the form to the grammar

-- a module's text gives the form that the grammar gives it
HasForm-module : (glob owner : Text) (form : TextForm) → has_colon glob ≡ false → has_colon owner ≡ false → module_with glob (unmarked owner) ≡ Some form → HasForm (glob ++ (codes ":mod:" ++ owner)) form
HasForm-module glob [] form none plain e = absurd cc
HasForm-module glob (b ∷ owner) form none plain e = elim (eqb_tells b 33) [
  | inl t ↦ marked owner (sym (ap (λ x. has_colon (x ∷ owner)) t.1) ∙ plain) t.1 (sym (ap (λ x. module_with glob (cond x (true, owner) (false, b ∷ owner))) t.0) ∙ e)
  | inr f ↦
      let same : in_module glob false (b ∷ owner) ≡ form = some (sym (ap (λ t. cond t None (Some (in_module glob false (b ∷ owner)))) (not_empty b owner)) ∙ sym (ap (λ x. module_with glob (cond x (true, owner) (false, b ∷ owner))) f.0) ∙ e) in
      subst (λ x. HasForm (glob ++ (codes ":mod:" ++ b ∷ owner)) x) same (inside glob (b ∷ owner) none (record { some = not_empty b owner; plain = plain }) f.0)
]
  where
    some : {x y : TextForm} → Some x ≡ Some y → x ≡ y
    some h = cc

    marked : (rest : Text) → has_colon rest ≡ false → b ≡ 33 → module_with glob (true, rest) ≡ Some form → HasForm (glob ++ (codes ":mod:" ++ b ∷ rest)) form
    marked [] p m h = absurd cc
    marked (c ∷ rest) p m h =
        let h' : Some (in_module glob true (c ∷ rest)) ≡ Some form = sym (ap (λ t. cond t None (Some (in_module glob true (c ∷ rest)))) (not_empty c rest)) ∙ h in
        subst (λ x. HasForm (glob ++ (codes ":mod:" ++ x ∷ c ∷ rest)) form) (sym m)
        (subst (λ x. HasForm (glob ++ (codes ":mod:!" ++ c ∷ rest)) x) (some h') (outside glob (c ∷ rest) none (record { some = not_empty c rest; plain = p })))

-- what begins with `mod:`
tail-mod : (tail : Text) → starts_with nat_eq tail (codes "mod:") ≡ true → tail ≡ codes "mod:" ++ drop 4 tail
tail-mod tail h = sym (take-append-drop 4 tail) ∙ sym (ap (λ (x : Text). x ++ drop 4 tail) ((bytes_eq-Decides (codes "mod:") (take 4 tail)).0 h))

HasForm-colon : (glob tail : Text) (form : TextForm) → has_colon glob ≡ false → module_form glob tail ≡ Some form → HasForm (glob ++ colon ∷ tail) form
HasForm-colon glob tail form none e = begins (starts_with nat_eq tail (codes "mod:")) refl e
  where
    plain : (t : Bool) → has_colon (drop 4 tail) ≡ t → starts_with nat_eq tail (codes "mod:") ≡ true → cond t None (module_with glob (unmarked (drop 4 tail))) ≡ Some form → HasForm (glob ++ colon ∷ tail) form
    plain true p s h = absurd cc
    plain false p s h = subst (λ x. HasForm (glob ++ colon ∷ x) form) (sym (tail-mod tail s)) (HasForm-module glob (drop 4 tail) form none p h)

    begins : (t : Bool) → starts_with nat_eq tail (codes "mod:") ≡ t → cond (not t) None (cond (has_colon (drop 4 tail)) None (module_with glob (unmarked (drop 4 tail)))) ≡ Some form → HasForm (glob ++ colon ∷ tail) form
    begins true s h = plain (has_colon (drop 4 tail)) refl s h
    begins false s h = absurd cc

pub HasForm-form_of : (text : Text) (form : TextForm) → form_of text ≡ Some form → HasForm text form
HasForm-form_of text form e = cases (has_colon text) refl e
  where
    some : {x y : TextForm} → Some x ≡ Some y → x ≡ y
    some h = cc

    numbered : (t : Bool) → is_number text ≡ t → has_colon text ≡ false → cond t (Some (line (digits_value 10 text))) (Some (named text)) ≡ Some form → HasForm text form
    numbered true n none h = subst (λ x. HasForm text x) (some h) (a_line text none n)
    numbered false n none h = subst (λ x. HasForm text x) (some h) (a_glob text none n)

    with_colon : (c : Cut text) → HasForm text form
    with_colon c = subst (λ x. HasForm x form) (sym c.is) (HasForm-colon c.glob c.tail form c.none (sym (form_of-colon c.glob c.tail c.none) ∙ sym (ap form_of c.is) ∙ e))

    cases : (t : Bool) → has_colon text ≡ t → cond t (module_form (before_first is_colon text) (after_first is_colon text)) (cond (is_number text) (Some (line (digits_value 10 text))) (Some (named text))) ≡ Some form → HasForm text form
    cases true h e' = with_colon (cut text h)
    cases false h e' = numbered (is_number text) refl h e'

pub HasForm-form : (text : Text) (form : TextForm) → HasForm text form ↔ (form_of text ≡ Some form)
HasForm-form text form = (form_of-HasForm text form, HasForm-form_of text form)
