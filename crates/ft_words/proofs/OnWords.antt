-- What the parser makes of the words of the language.
use Rattle.std.proofs.Common.{◌≡◌, ℕ, true, false, List, [], ◌∷◌, ◌++◌, Option, Some, None, inl, inr, refl, sym, subst, codes, nat_eq}
use Rattle.clap.specs.Words.{is_simple}
use Rattle.clap.proofs.OnLiterals.{clap_on_literals}
use Rattle.ft_words.specs.Command.{app, is_taken, value_in}
use Rattle.ft_words.specs.Language.{Text, IsOneOf, spellings_of, spellings_with, Spells}

-- no argument has a rule on another
pub simple : is_simple app ≡ true
unfolding clap_on_literals app
simple = refl

-- the parser takes the words, and finds this mode and this value of the argument
pub record Reads (mode id : Text) (value : Option Text) (words : List Text) : Type 0 where
  pub taken : is_taken words ≡ true
  pub mode_is : value_in (codes "mode") words ≡ Some mode
  pub value_is : value_in id words ≡ value

-- the text is not empty, and does not begin with `-`
abbrev pub IsPlain : Text → Type 0
IsPlain [] = ⊥
IsPlain (x ∷ xs) = nat_eq x 45 ≡ false

-- the value is plain, if there is one
abbrev pub IsPlainIfSaid : Option Text → Type 0
IsPlainIfSaid None = Unit {0}
IsPlainIfSaid (Some text) = IsPlain text

-- each of the list
abbrev AllOf : {X : Type 0} → (X → Type 0) → List X → Type 0
AllOf P [] = Unit {0}
AllOf P (x ∷ xs) = P x × AllOf P xs

at : {X : Type 0} (P : X → Type 0) (x : X) (xs : List X) → IsOneOf x xs → AllOf P xs → P x
at P x [] h all = absurd h
at P x (y ∷ ys) (inl e) all = subst P (sym e) all.0
at P x (y ∷ ys) (inr h) all = at P x ys h all.1

-- ## `--print`, line by line

print-alone-1 : (m : ℕ) (ms : Text) → nat_eq m 45 ≡ false → Reads (m ∷ ms) (codes "print") None ((m ∷ ms) ∷ [])
unfolding clap_on_literals app is_taken value_in
print-alone-1 m ms e = record { taken = simp e; mode_is = simp e; value_is = simp e }

print-alone-2 : (m : ℕ) (ms : Text) → nat_eq m 45 ≡ false → Reads (m ∷ ms) (codes "print") None (codes "--" ∷ (m ∷ ms) ∷ [])
unfolding clap_on_literals app is_taken value_in
print-alone-2 m ms e = record { taken = refl; mode_is = refl; value_is = refl }

print-alone-3 : (m : ℕ) (ms : Text) → nat_eq m 45 ≡ false → Reads (m ∷ ms) (codes "print") None ((m ∷ ms) ∷ codes "--" ∷ [])
unfolding clap_on_literals app is_taken value_in
print-alone-3 m ms e = record { taken = simp e; mode_is = simp e; value_is = simp e }

print-apart-1 : (m v : ℕ) (ms vs : Text) → nat_eq m 45 ≡ false → nat_eq v 45 ≡ false → Reads (m ∷ ms) (codes "print") (Some (v ∷ vs)) (codes "--print" ∷ (v ∷ vs) ∷ (m ∷ ms) ∷ [])
unfolding clap_on_literals app is_taken value_in
print-apart-1 m v ms vs e f = record { taken = simp (e, f); mode_is = simp (e, f); value_is = simp (e, f) }

print-apart-2 : (m v : ℕ) (ms vs : Text) → nat_eq m 45 ≡ false → nat_eq v 45 ≡ false → Reads (m ∷ ms) (codes "print") (Some (v ∷ vs)) (codes "--print" ∷ (v ∷ vs) ∷ codes "--" ∷ (m ∷ ms) ∷ [])
unfolding clap_on_literals app is_taken value_in
print-apart-2 m v ms vs e f = record { taken = simp f; mode_is = simp f; value_is = simp f }

print-apart-3 : (m v : ℕ) (ms vs : Text) → nat_eq m 45 ≡ false → nat_eq v 45 ≡ false → Reads (m ∷ ms) (codes "print") (Some (v ∷ vs)) (codes "--print" ∷ (v ∷ vs) ∷ (m ∷ ms) ∷ codes "--" ∷ [])
unfolding clap_on_literals app is_taken value_in
print-apart-3 m v ms vs e f = record { taken = simp (e, f); mode_is = simp (e, f); value_is = simp (e, f) }

print-apart-4 : (m v : ℕ) (ms vs : Text) → nat_eq m 45 ≡ false → nat_eq v 45 ≡ false → Reads (m ∷ ms) (codes "print") (Some (v ∷ vs)) ((m ∷ ms) ∷ codes "--print" ∷ (v ∷ vs) ∷ [])
unfolding clap_on_literals app is_taken value_in
print-apart-4 m v ms vs e f = record { taken = simp (e, f); mode_is = simp (e, f); value_is = simp (e, f) }

print-apart-5 : (m v : ℕ) (ms vs : Text) → nat_eq m 45 ≡ false → nat_eq v 45 ≡ false → Reads (m ∷ ms) (codes "print") (Some (v ∷ vs)) ((m ∷ ms) ∷ codes "--print" ∷ (v ∷ vs) ∷ codes "--" ∷ [])
unfolding clap_on_literals app is_taken value_in
print-apart-5 m v ms vs e f = record { taken = simp (e, f); mode_is = simp (e, f); value_is = simp (e, f) }

print-joined-1 : (m v : ℕ) (ms vs : Text) → nat_eq m 45 ≡ false → Reads (m ∷ ms) (codes "print") (Some (v ∷ vs)) ((codes "--print=" ++ (v ∷ vs)) ∷ (m ∷ ms) ∷ [])
unfolding clap_on_literals app is_taken value_in
print-joined-1 m v ms vs e = record { taken = simp e; mode_is = simp e; value_is = simp e }

print-joined-2 : (m v : ℕ) (ms vs : Text) → nat_eq m 45 ≡ false → Reads (m ∷ ms) (codes "print") (Some (v ∷ vs)) ((codes "--print=" ++ (v ∷ vs)) ∷ codes "--" ∷ (m ∷ ms) ∷ [])
unfolding clap_on_literals app is_taken value_in
print-joined-2 m v ms vs e = record { taken = refl; mode_is = refl; value_is = refl }

print-joined-3 : (m v : ℕ) (ms vs : Text) → nat_eq m 45 ≡ false → Reads (m ∷ ms) (codes "print") (Some (v ∷ vs)) ((codes "--print=" ++ (v ∷ vs)) ∷ (m ∷ ms) ∷ codes "--" ∷ [])
unfolding clap_on_literals app is_taken value_in
print-joined-3 m v ms vs e = record { taken = simp e; mode_is = simp e; value_is = simp e }

print-joined-4 : (m v : ℕ) (ms vs : Text) → nat_eq m 45 ≡ false → Reads (m ∷ ms) (codes "print") (Some (v ∷ vs)) ((m ∷ ms) ∷ (codes "--print=" ++ (v ∷ vs)) ∷ [])
unfolding clap_on_literals app is_taken value_in
print-joined-4 m v ms vs e = record { taken = simp e; mode_is = simp e; value_is = simp e }

print-joined-5 : (m v : ℕ) (ms vs : Text) → nat_eq m 45 ≡ false → Reads (m ∷ ms) (codes "print") (Some (v ∷ vs)) ((m ∷ ms) ∷ (codes "--print=" ++ (v ∷ vs)) ∷ codes "--" ∷ [])
unfolding clap_on_literals app is_taken value_in
print-joined-5 m v ms vs e = record { taken = simp e; mode_is = simp e; value_is = simp e }

-- the parser finds what the words say of `--print`
pub Reads-print : (words : List Text) (mode : Text) (value : Option Text) → IsPlain mode → IsPlainIfSaid value → Spells words mode (codes "--print") value → Reads mode (codes "print") value words
Reads-print words [] value e p h = absurd e
Reads-print words (m ∷ ms) None e p h =
    at (Reads (m ∷ ms) (codes "print") None) words (spellings_of (m ∷ ms)) h
    (print-alone-1 m ms e, (print-alone-2 m ms e, (print-alone-3 m ms e, tt)))
Reads-print words (m ∷ ms) (Some []) e p h = absurd p
Reads-print words (m ∷ ms) (Some (v ∷ vs)) e f (inl h) =
    at (Reads (m ∷ ms) (codes "print") (Some (v ∷ vs))) words (spellings_with (m ∷ ms) (codes "--print" ∷ (v ∷ vs) ∷ [])) h
    (print-apart-1 m v ms vs e f, (print-apart-2 m v ms vs e f, (print-apart-3 m v ms vs e f, (print-apart-4 m v ms vs e f, (print-apart-5 m v ms vs e f, tt)))))
Reads-print words (m ∷ ms) (Some (v ∷ vs)) e f (inr h) =
    at (Reads (m ∷ ms) (codes "print") (Some (v ∷ vs))) words (spellings_with (m ∷ ms) ((codes "--print=" ++ (v ∷ vs)) ∷ [])) h
    (print-joined-1 m v ms vs e, (print-joined-2 m v ms vs e, (print-joined-3 m v ms vs e, (print-joined-4 m v ms vs e, (print-joined-5 m v ms vs e, tt)))))

-- ## `--seed`, line by line

seed-alone-1 : (m : ℕ) (ms : Text) → nat_eq m 45 ≡ false → Reads (m ∷ ms) (codes "seed") None ((m ∷ ms) ∷ [])
unfolding clap_on_literals app is_taken value_in
seed-alone-1 m ms e = record { taken = simp e; mode_is = simp e; value_is = simp e }

seed-alone-2 : (m : ℕ) (ms : Text) → nat_eq m 45 ≡ false → Reads (m ∷ ms) (codes "seed") None (codes "--" ∷ (m ∷ ms) ∷ [])
unfolding clap_on_literals app is_taken value_in
seed-alone-2 m ms e = record { taken = refl; mode_is = refl; value_is = refl }

seed-alone-3 : (m : ℕ) (ms : Text) → nat_eq m 45 ≡ false → Reads (m ∷ ms) (codes "seed") None ((m ∷ ms) ∷ codes "--" ∷ [])
unfolding clap_on_literals app is_taken value_in
seed-alone-3 m ms e = record { taken = simp e; mode_is = simp e; value_is = simp e }

seed-apart-1 : (m v : ℕ) (ms vs : Text) → nat_eq m 45 ≡ false → nat_eq v 45 ≡ false → Reads (m ∷ ms) (codes "seed") (Some (v ∷ vs)) (codes "--seed" ∷ (v ∷ vs) ∷ (m ∷ ms) ∷ [])
unfolding clap_on_literals app is_taken value_in
seed-apart-1 m v ms vs e f = record { taken = simp (e, f); mode_is = simp (e, f); value_is = simp (e, f) }

seed-apart-2 : (m v : ℕ) (ms vs : Text) → nat_eq m 45 ≡ false → nat_eq v 45 ≡ false → Reads (m ∷ ms) (codes "seed") (Some (v ∷ vs)) (codes "--seed" ∷ (v ∷ vs) ∷ codes "--" ∷ (m ∷ ms) ∷ [])
unfolding clap_on_literals app is_taken value_in
seed-apart-2 m v ms vs e f = record { taken = simp f; mode_is = simp f; value_is = simp f }

seed-apart-3 : (m v : ℕ) (ms vs : Text) → nat_eq m 45 ≡ false → nat_eq v 45 ≡ false → Reads (m ∷ ms) (codes "seed") (Some (v ∷ vs)) (codes "--seed" ∷ (v ∷ vs) ∷ (m ∷ ms) ∷ codes "--" ∷ [])
unfolding clap_on_literals app is_taken value_in
seed-apart-3 m v ms vs e f = record { taken = simp (e, f); mode_is = simp (e, f); value_is = simp (e, f) }

seed-apart-4 : (m v : ℕ) (ms vs : Text) → nat_eq m 45 ≡ false → nat_eq v 45 ≡ false → Reads (m ∷ ms) (codes "seed") (Some (v ∷ vs)) ((m ∷ ms) ∷ codes "--seed" ∷ (v ∷ vs) ∷ [])
unfolding clap_on_literals app is_taken value_in
seed-apart-4 m v ms vs e f = record { taken = simp (e, f); mode_is = simp (e, f); value_is = simp (e, f) }

seed-apart-5 : (m v : ℕ) (ms vs : Text) → nat_eq m 45 ≡ false → nat_eq v 45 ≡ false → Reads (m ∷ ms) (codes "seed") (Some (v ∷ vs)) ((m ∷ ms) ∷ codes "--seed" ∷ (v ∷ vs) ∷ codes "--" ∷ [])
unfolding clap_on_literals app is_taken value_in
seed-apart-5 m v ms vs e f = record { taken = simp (e, f); mode_is = simp (e, f); value_is = simp (e, f) }

seed-joined-1 : (m v : ℕ) (ms vs : Text) → nat_eq m 45 ≡ false → Reads (m ∷ ms) (codes "seed") (Some (v ∷ vs)) ((codes "--seed=" ++ (v ∷ vs)) ∷ (m ∷ ms) ∷ [])
unfolding clap_on_literals app is_taken value_in
seed-joined-1 m v ms vs e = record { taken = simp e; mode_is = simp e; value_is = simp e }

seed-joined-2 : (m v : ℕ) (ms vs : Text) → nat_eq m 45 ≡ false → Reads (m ∷ ms) (codes "seed") (Some (v ∷ vs)) ((codes "--seed=" ++ (v ∷ vs)) ∷ codes "--" ∷ (m ∷ ms) ∷ [])
unfolding clap_on_literals app is_taken value_in
seed-joined-2 m v ms vs e = record { taken = refl; mode_is = refl; value_is = refl }

seed-joined-3 : (m v : ℕ) (ms vs : Text) → nat_eq m 45 ≡ false → Reads (m ∷ ms) (codes "seed") (Some (v ∷ vs)) ((codes "--seed=" ++ (v ∷ vs)) ∷ (m ∷ ms) ∷ codes "--" ∷ [])
unfolding clap_on_literals app is_taken value_in
seed-joined-3 m v ms vs e = record { taken = simp e; mode_is = simp e; value_is = simp e }

seed-joined-4 : (m v : ℕ) (ms vs : Text) → nat_eq m 45 ≡ false → Reads (m ∷ ms) (codes "seed") (Some (v ∷ vs)) ((m ∷ ms) ∷ (codes "--seed=" ++ (v ∷ vs)) ∷ [])
unfolding clap_on_literals app is_taken value_in
seed-joined-4 m v ms vs e = record { taken = simp e; mode_is = simp e; value_is = simp e }

seed-joined-5 : (m v : ℕ) (ms vs : Text) → nat_eq m 45 ≡ false → Reads (m ∷ ms) (codes "seed") (Some (v ∷ vs)) ((m ∷ ms) ∷ (codes "--seed=" ++ (v ∷ vs)) ∷ codes "--" ∷ [])
unfolding clap_on_literals app is_taken value_in
seed-joined-5 m v ms vs e = record { taken = simp e; mode_is = simp e; value_is = simp e }

-- the parser finds what the words say of `--seed`
pub Reads-seed : (words : List Text) (mode : Text) (value : Option Text) → IsPlain mode → IsPlainIfSaid value → Spells words mode (codes "--seed") value → Reads mode (codes "seed") value words
Reads-seed words [] value e p h = absurd e
Reads-seed words (m ∷ ms) None e p h =
    at (Reads (m ∷ ms) (codes "seed") None) words (spellings_of (m ∷ ms)) h
    (seed-alone-1 m ms e, (seed-alone-2 m ms e, (seed-alone-3 m ms e, tt)))
Reads-seed words (m ∷ ms) (Some []) e p h = absurd p
Reads-seed words (m ∷ ms) (Some (v ∷ vs)) e f (inl h) =
    at (Reads (m ∷ ms) (codes "seed") (Some (v ∷ vs))) words (spellings_with (m ∷ ms) (codes "--seed" ∷ (v ∷ vs) ∷ [])) h
    (seed-apart-1 m v ms vs e f, (seed-apart-2 m v ms vs e f, (seed-apart-3 m v ms vs e f, (seed-apart-4 m v ms vs e f, (seed-apart-5 m v ms vs e f, tt)))))
Reads-seed words (m ∷ ms) (Some (v ∷ vs)) e f (inr h) =
    at (Reads (m ∷ ms) (codes "seed") (Some (v ∷ vs))) words (spellings_with (m ∷ ms) ((codes "--seed=" ++ (v ∷ vs)) ∷ [])) h
    (seed-joined-1 m v ms vs e, (seed-joined-2 m v ms vs e, (seed-joined-3 m v ms vs e, (seed-joined-4 m v ms vs e, (seed-joined-5 m v ms vs e, tt)))))
