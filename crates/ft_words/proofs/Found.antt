-- Words of the language give what the parser finds in them, and nothing else.
use Rattle.std.proofs.Common.{◌≡◌, ◌==◌, if◌then◌else◌, arith, false, true, ℕ, List, ◌∷◌, [], length, Option, Some, None, codes, slice_index, nat_eq, refl, sym, ap, subst, ◌∙◌, true≢false}
use Rattle.std.specs.Char.{is_ascii_digit}
use Rattle.std.proofs.lemmas.Bool.{and_parts}
use Rattle.std.proofs.lemmas.Bool.Decides.{nat_tests}
use Rattle.std.proofs.lemmas.Option.{same_Some, none-some}
use Rattle.ft_words.specs.declared.order.Form.{Form}
use Rattle.ft_words.specs.declared.order.Form.TheVariants.{Log, Function, Graph, Profile, Enabled, Modules, Rings}
use Rattle.ft_words.specs.declared.order.Order.{Order}
use Rattle.ft_words.specs.declared.order.Order.TheVariants.{Replay, Run, Bulk}
use Rattle.ft_words.specs.Command.{is_taken, value_in}
use Rattle.ft_words.specs.Language.{Text, Spells, form_name, SaysForm, SaysSeed, Gives}
use Rattle.ft_words.proofs.OnWords.{IsPlain, IsPlainIfSaid, Reads, Reads-print, Reads-seed}

-- ## no value of the language looks like an option

IsPlain-form_name : (f : Form) → IsPlain (form_name f)
IsPlain-form_name Log = refl
IsPlain-form_name Function = refl
IsPlain-form_name Graph = refl
IsPlain-form_name Profile = refl
IsPlain-form_name Enabled = refl
IsPlain-form_name Modules = refl
IsPlain-form_name Rings = refl

IsPlain-form : (value : Option Text) (f : Form) → SaysForm value f → IsPlainIfSaid value
IsPlain-form None f h = tt
IsPlain-form (Some text) f h = subst IsPlain (sym h) (IsPlain-form_name f)

digit-no_dash : (d : ℕ) → is_ascii_digit d ≡ true → nat_eq d 45 ≡ false
digit-no_dash d h = grind (arith, nat_tests)

IsPlain-seed : (value : Option Text) (n : ℕ) → SaysSeed value n → IsPlainIfSaid value
IsPlain-seed None n h = tt
IsPlain-seed (Some []) n h = omega (arith, h.some)
IsPlain-seed (Some (d ∷ ds)) n h = digit-no_dash d (and_parts _ _ h.digits).0

-- ## what the parser finds in words that give an order

-- the mode of an order, the name of its option, and the parser's name for that
mode_of : Order → Text
mode_of (Replay form) = codes "replay"
mode_of (Run form) = codes "run"
mode_of (Bulk seed) = codes "bulk"

name_of : Order → Text
name_of (Replay form) = codes "--print"
name_of (Run form) = codes "--print"
name_of (Bulk seed) = codes "--seed"

option_of : Order → Text
option_of (Replay form) = codes "print"
option_of (Run form) = codes "print"
option_of (Bulk seed) = codes "seed"

respelt : (words : List Text) (mode mode' name name' : Text) (value : Option Text) → mode ≡ mode' → name ≡ name' → Spells words mode name value → Spells words mode' name' value
respelt words mode mode' name name' value m n h = subst (λ x. Spells words x name' value) m (subst (λ x. Spells words mode x value) n h)

-- the words say this mode, and this value of its option
says : (words : List Text) (o : Order) (g : Gives words o) → Spells words (mode_of o) (name_of o) g.value
unfolding mode_of name_of
says words (Replay f) g = respelt words g.mode (codes "replay") g.name (codes "--print") g.value g.means.0 g.means.1 g.spelt
says words (Run f) g = respelt words g.mode (codes "run") g.name (codes "--print") g.value g.means.0 g.means.1 g.spelt
says words (Bulk n) g = respelt words g.mode (codes "bulk") g.name (codes "--seed") g.value g.means.0 g.means.1 g.spelt

Reads-Gives : (words : List Text) (o : Order) (g : Gives words o) → Reads (mode_of o) (option_of o) g.value words
unfolding mode_of name_of option_of
Reads-Gives words (Replay f) g = Reads-print words (codes "replay") g.value refl (IsPlain-form g.value f g.means.2) (says words (Replay f) g)
Reads-Gives words (Run f) g = Reads-print words (codes "run") g.value refl (IsPlain-form g.value f g.means.2) (says words (Run f) g)
Reads-Gives words (Bulk n) g = Reads-seed words (codes "bulk") g.value refl (IsPlain-seed g.value n g.means.2) (says words (Bulk n) g)

same_mode : (words : List Text) (m : Text) → Some m ≡ value_in (codes "mode") words → (o : Order) → Gives words o → m ≡ mode_of o
same_mode words m e o g = same_Some m (mode_of o) (e ∙ (Reads-Gives words o g).mode_is)

replay≢run : codes "replay" ≡ codes "run" → ⊥
replay≢run e = omega (arith, ap length e)

pub replay≢bulk : codes "replay" ≡ codes "bulk" → ⊥
replay≢bulk e = omega (arith, ap length e)

pub run≢bulk : codes "run" ≡ codes "bulk" → ⊥
run≢bulk e = omega (arith, ap length e)

-- ## if the words give no order

pub none-not_taken : (words : List Text) → is_taken words ≡ false → (o : Order) → Gives words o → ⊥
none-not_taken words e o g = true≢false (sym (Reads-Gives words o g).taken ∙ e)

pub none-no_mode : (words : List Text) → None ≡ value_in (codes "mode") words → (o : Order) → Gives words o → ⊥
none-no_mode words e o g = none-some (mode_of o) (e ∙ (Reads-Gives words o g).mode_is)

pub none-other_mode : (words : List Text) (m : Text) → Some m ≡ value_in (codes "mode") words → (m ≡ codes "replay" → ⊥) → (m ≡ codes "run" → ⊥) → (m ≡ codes "bulk" → ⊥) → (o : Order) → Gives words o → ⊥
unfolding mode_of
none-other_mode words m e p r b (Replay f) g = p (same_mode words m e (Replay f) g)
none-other_mode words m e p r b (Run f) g = r (same_mode words m e (Run f) g)
none-other_mode words m e p r b (Bulk n) g = b (same_mode words m e (Bulk n) g)

-- what is said with the mode that the parser found, and with the value that it found, is what the words give
module _ (words : List Text) (m : Text) (value : Option Text) (found : Some m ≡ value_in (codes "mode") words) where
  said : (o : Order) (g : Gives words o) → value ≡ value_in (option_of o) words → g.value ≡ value
  said o g e = sym (Reads-Gives words o g).value_is ∙ sym e

  -- the words say the mode that the parser found, and the value that it found, of the option of the order
  spelt : (o : Order) (g : Gives words o) → value ≡ value_in (option_of o) words → Spells words m (name_of o) value
  spelt o g e =
      subst (Spells words m (name_of o)) (said o g e)
      (respelt words (mode_of o) m (name_of o) (name_of o) g.value (sym (same_mode words m found o g)) refl (says words o g))

  pub none-no_form : (m ≡ codes "bulk" → ⊥) → value ≡ value_in (codes "print") words → ((f : Form) → SaysForm value f → Spells words m (codes "--print") value → ⊥) → (o : Order) → Gives words o → ⊥
  unfolding mode_of name_of option_of
  none-no_form not e none (Replay f) g = none f (subst (λ v. SaysForm v f) (said (Replay f) g e) g.means.2) (spelt (Replay f) g e)
  none-no_form not e none (Run f) g = none f (subst (λ v. SaysForm v f) (said (Run f) g e) g.means.2) (spelt (Run f) g e)
  none-no_form not e none (Bulk n) g = not (same_mode words m found (Bulk n) g)

  pub none-no_seed : m ≡ codes "bulk" → value ≡ value_in (codes "seed") words → ((n : ℕ) → SaysSeed value n → Spells words m (codes "--seed") value → ⊥) → (o : Order) → Gives words o → ⊥
  unfolding mode_of name_of option_of
  none-no_seed is e none (Replay f) g = replay≢bulk (sym (same_mode words m found (Replay f) g) ∙ is)
  none-no_seed is e none (Run f) g = run≢bulk (sym (same_mode words m found (Run f) g) ∙ is)
  none-no_seed is e none (Bulk n) g = none n (subst (λ v. SaysSeed v n) (said (Bulk n) g e) g.means.2) (spelt (Bulk n) g e)

-- ## one order

-- a name's first byte tells its form
form_at : ℕ → Form
form_at b =
    if b == 102 then Function else (if b == 103 then Graph else (if b == 112 then Profile else (if b == 101 then Enabled
    else (if b == 109 then Modules else (if b == 114 then Rings else Log)))))

form_at-name : (f : Form) → form_at (slice_index (form_name f) 0) ≡ f
unfolding form_at
form_at-name Log = refl
form_at-name Function = refl
form_at-name Graph = refl
form_at-name Profile = refl
form_at-name Enabled = refl
form_at-name Modules = refl
form_at-name Rings = refl

one_form : (value : Option Text) (f g : Form) → SaysForm value f → SaysForm value g → f ≡ g
one_form None f g a b = a ∙ sym b
one_form (Some text) f g a b = sym (form_at-name f) ∙ ap (λ t. form_at (slice_index t 0)) (sym a ∙ b) ∙ form_at-name g

one_seed : (value : Option Text) (n k : ℕ) → SaysSeed value n → SaysSeed value k → n ≡ k
one_seed None n k a b = a ∙ sym b
one_seed (Some text) n k a b = a.value ∙ sym b.value

-- two orders that the same words give have one mode
one_mode : (words : List Text) (a b : Order) → Gives words a → Gives words b → mode_of a ≡ mode_of b
one_mode words a b g h = same_mode words (mode_of a) (sym (Reads-Gives words a g).mode_is) b h

-- and one value, if the parser has one name for their options
one_value : (words : List Text) (a b : Order) (g : Gives words a) (h : Gives words b) → option_of b ≡ option_of a → h.value ≡ g.value
one_value words a b g h e = sym (Reads-Gives words b h).value_is ∙ ap (λ id. value_in id words) e ∙ (Reads-Gives words a g).value_is

pub one_order : (words : List Text) (a b : Order) → Gives words a → Gives words b → a ≡ b
unfolding mode_of option_of
one_order words (Replay f) (Replay k) g h =
    ap Replay (one_form g.value f k g.means.2 (subst (λ v. SaysForm v k) (one_value words (Replay f) (Replay k) g h refl) h.means.2))
one_order words (Replay f) (Run k) g h = absurd (replay≢run (one_mode words (Replay f) (Run k) g h))
one_order words (Replay f) (Bulk n) g h = absurd (replay≢bulk (one_mode words (Replay f) (Bulk n) g h))
one_order words (Run f) (Replay k) g h = absurd (replay≢run (one_mode words (Replay k) (Run f) h g))
one_order words (Run f) (Run k) g h =
    ap Run (one_form g.value f k g.means.2 (subst (λ v. SaysForm v k) (one_value words (Run f) (Run k) g h refl) h.means.2))
one_order words (Run f) (Bulk n) g h = absurd (run≢bulk (one_mode words (Run f) (Bulk n) g h))
one_order words (Bulk n) (Replay f) g h = absurd (replay≢bulk (one_mode words (Replay f) (Bulk n) h g))
one_order words (Bulk n) (Run f) g h = absurd (run≢bulk (one_mode words (Run f) (Bulk n) h g))
one_order words (Bulk n) (Bulk k) g h =
    ap Bulk (one_seed g.value n k g.means.2 (subst (λ v. SaysSeed v k) (one_value words (Bulk n) (Bulk k) g h refl) h.means.2))
