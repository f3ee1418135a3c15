-- The form of a trigger's text is the form that the grammar gives it.
use Rattle.std.proofs.Common.{◌≡◌, ◌↔◌, ◌++◌, cond, Bool, true, false, ◌∷◌, codes, Option, Some, None, refl, sym, subst, ap, ap₂, ◌∙◌}
use Rattle.std.specs.List.{before_first, after_first}
use Rattle.std.specs.Str.{bytes_eq}
use Rattle.std.specs.Str.Parse.{digits_value}
use Rattle.std.proofs.lemmas.Slice.Eq.{bytes_eq-Decides}
use Rattle.filter_commands.specs.Forms.{Text, colon, has_colon}
use Rattle.filter_commands.specs.Triggers.{TriggerForm, HasTrigger, unlimited, limited, switch_word, is_limit, switch_of, limit_of, unlimited_form, limited_form, form_after, trigger_form}
use Rattle.filter_commands.proofs.GrammarLemmas.{is_colon, has_colon-after, before_first-colon, after_first-colon, Cut, cut}

some : {x y : TriggerForm} → Some x ≡ Some y → x ≡ y
some h = cc

-- ---- the word that switches

has_colon-switch : (on : Bool) → has_colon (switch_word on) ≡ false
has_colon-switch true = refl
has_colon-switch false = refl

switch_of-word : (on : Bool) → switch_of (switch_word on) ≡ Some on
switch_of-word true = refl
switch_of-word false = refl

word-switch_of : (word : Text) (on : Bool) → switch_of word ≡ Some on → word ≡ switch_word on
word-switch_of word on e = first (bytes_eq word (switch_word true)) refl e
  where
    is_on : (b : Bool) → bytes_eq word (switch_word b) ≡ true → Some b ≡ Some on → word ≡ switch_word on
    is_on b same h =
        let it : b ≡ on = cc in
        subst (λ x. word ≡ switch_word x) it ((bytes_eq-Decides word (switch_word b)).0 same)

    second : (t : Bool) → bytes_eq word (switch_word false) ≡ t → cond t (Some false) None ≡ Some on → word ≡ switch_word on
    second true same h = is_on false same h
    second false same h = absurd cc

    first : (t : Bool) → bytes_eq word (switch_word true) ≡ t → cond t (Some true) (cond (bytes_eq word (switch_word false)) (Some false) None) ≡ Some on → word ≡ switch_word on
    first true same h = is_on true same h
    first false same h = second (bytes_eq word (switch_word false)) refl h

-- ---- from the grammar to the form

trigger_form-colon : (glob tail : Text) → has_colon glob ≡ false → trigger_form (glob ++ colon ∷ tail) ≡ form_after glob tail
trigger_form-colon glob tail none =
    let text : Text = glob ++ colon ∷ tail in
    ap (λ t. cond t (form_after (before_first is_colon text) (after_first is_colon text)) None) (has_colon-after glob tail)
    ∙ ap₂ form_after (before_first-colon glob tail none) (after_first-colon glob tail none)

form_after-colon : (glob word digits : Text) → has_colon word ≡ false → form_after glob (word ++ colon ∷ digits) ≡ limited_form glob (switch_of word) (limit_of digits)
form_after-colon glob word digits none =
    let after : Text = word ++ colon ∷ digits in
    ap (λ t. cond t (limited_form glob (switch_of (before_first is_colon after)) (limit_of (after_first is_colon after))) (unlimited_form glob (switch_of after))) (has_colon-after word digits)
    ∙ ap₂ (λ (w d : Text). limited_form glob (switch_of w) (limit_of d)) (before_first-colon word digits none) (after_first-colon word digits none)

form_after-switch : (glob : Text) (on : Bool) → form_after glob (switch_word on) ≡ Some (record { glob = glob; on = on; limit = None })
form_after-switch glob true = refl
form_after-switch glob false = refl

trigger_form-HasTrigger : (text : Text) (form : TriggerForm) → HasTrigger text form → trigger_form text ≡ Some form
trigger_form-HasTrigger _ _ (unlimited glob on none) = trigger_form-colon glob (switch_word on) none ∙ form_after-switch glob on
trigger_form-HasTrigger _ _ (limited glob digits on none is) =
    trigger_form-colon glob (switch_word on ++ (codes ":" ++ digits)) none
    ∙ form_after-colon glob (switch_word on) digits (has_colon-switch on)
    ∙ ap₂ (limited_form glob) (switch_of-word on) (ap (λ t. cond t (Some (digits_value 10 digits)) None) is)

-- ---- from the form to the grammar

HasTrigger-limited : (glob word digits : Text) (form : TriggerForm) → has_colon glob ≡ false → limited_form glob (switch_of word) (limit_of digits) ≡ Some form → HasTrigger (glob ++ colon ∷ (word ++ colon ∷ digits)) form
HasTrigger-limited glob word digits form none e = switched (switch_of word) refl e
  where
    last : (on : Bool) → switch_of word ≡ Some on → (t : Bool) → is_limit digits ≡ t → limited_form glob (Some on) (cond t (Some (digits_value 10 digits)) None) ≡ Some form → HasTrigger (glob ++ colon ∷ (word ++ colon ∷ digits)) form
    last on s true is h =
        subst (λ (x : Text). HasTrigger (glob ++ colon ∷ (x ++ colon ∷ digits)) form) (sym (word-switch_of word on s))
        (subst (λ f. HasTrigger (glob ++ colon ∷ (switch_word on ++ colon ∷ digits)) f) (some h) (limited glob digits on none is))
    last on s false is h = absurd cc

    switched : (o : Option Bool) → switch_of word ≡ o → limited_form glob o (limit_of digits) ≡ Some form → HasTrigger (glob ++ colon ∷ (word ++ colon ∷ digits)) form
    switched None s h = absurd cc
    switched (Some on) s h = last on s (is_limit digits) refl h

HasTrigger-after : (glob tail : Text) (form : TriggerForm) → has_colon glob ≡ false → form_after glob tail ≡ Some form → HasTrigger (glob ++ colon ∷ tail) form
HasTrigger-after glob tail form none e = cases (has_colon tail) refl e
  where
    plain : (o : Option Bool) → switch_of tail ≡ o → unlimited_form glob o ≡ Some form → HasTrigger (glob ++ colon ∷ tail) form
    plain None s h = absurd cc
    plain (Some on) s h =
        subst (λ (x : Text). HasTrigger (glob ++ colon ∷ x) form) (sym (word-switch_of tail on s))
        (subst (λ f. HasTrigger (glob ++ colon ∷ switch_word on) f) (some h) (unlimited glob on none))

    counted : Cut tail → HasTrigger (glob ++ colon ∷ tail) form
    counted c =
        subst (λ (x : Text). HasTrigger (glob ++ colon ∷ x) form) (sym c.is)
        (HasTrigger-limited glob c.glob c.tail form none (sym (form_after-colon glob c.glob c.tail c.none) ∙ sym (ap (form_after glob) c.is) ∙ e))

    cases : (t : Bool) → has_colon tail ≡ t → cond t (limited_form glob (switch_of (before_first is_colon tail)) (limit_of (after_first is_colon tail))) (unlimited_form glob (switch_of tail)) ≡ Some form → HasTrigger (glob ++ colon ∷ tail) form
    cases true h e' = counted (cut tail h)
    cases false h e' = plain (switch_of tail) refl e'

HasTrigger-trigger_form : (text : Text) (form : TriggerForm) → trigger_form text ≡ Some form → HasTrigger text form
HasTrigger-trigger_form text form e = cases (has_colon text) refl e
  where
    with_colon : Cut text → HasTrigger text form
    with_colon c =
        subst (λ x. HasTrigger x form) (sym c.is)
        (HasTrigger-after c.glob c.tail form c.none (sym (trigger_form-colon c.glob c.tail c.none) ∙ sym (ap trigger_form c.is) ∙ e))

    cases : (t : Bool) → has_colon text ≡ t → cond t (form_after (before_first is_colon text) (after_first is_colon text)) None ≡ Some form → HasTrigger text form
    cases true h e' = with_colon (cut text h)
    cases false h e' = absurd cc

-- the grammar gives a text this form exactly if it is its form
pub HasTrigger-form : (text : Text) (form : TriggerForm) → HasTrigger text form ↔ (trigger_form text ≡ Some form)
HasTrigger-form text form = (trigger_form-HasTrigger text form, HasTrigger-trigger_form text form)
