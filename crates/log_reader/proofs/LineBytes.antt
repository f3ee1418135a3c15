-- The bytes of a line: a word has those from 33 to 126, and spaces stand between words.
use Rattle.std.proofs.Common.{◌≡◌, ℕ, zero, suc, ◌<◌, ◌^◌, Bool, true, false, ◌&&◌, ◌==◌, List, [], ◌∷◌, ◌++◌, refl, sym, ◌∙◌, subst, arith, inl, inr}
use Rattle.std.specs.Fmt.{decimal}
use Rattle.std.specs.List.{list_all, AllByRecursion as Each}
use Rattle.std.specs.Str.{IsAscii, IsUtf8}
use Rattle.std.specs.Str.Parse.{AllDigits}
use Rattle.std.proofs.lemmas.Bool.Decides.{eqb_tells, nat_tests}
use Rattle.std.proofs.lemmas.Fmt.{decimal_is_IsNumeral}
use Rattle.std.proofs.lemmas.Str.{IsUtf8-from_ascii}
use Rattle.std.proofs.lemmas.Str.Parse.{tells_digits}
use Rattle.ft_base.specs.Name.{is_from_to, is_first_byte, is_later_byte, is_name_text}
use Rattle.ft_base.proofs.Small.{false_true, and_both}
use Rattle.trace_views.specs.Words.{Word}
use Rattle.trace_views.specs.LogText.{joined}
use Rattle.trace_lines.proofs.LogWords.{Free}

-- a byte of a word, and of a line
abbrev pub in_word : ℕ → Bool
in_word b = is_from_to 33 126 b

abbrev pub in_line : ℕ → Bool
in_line b = is_from_to 32 126 b

abbrev pub IsGraphic : Word → Type 0
IsGraphic w = list_all in_word w ≡ true

and-true : (a b : Bool) → a ≡ true → b ≡ true → (a && b) ≡ true
and-true a b h k = rw (h, k) refl

all-append : (p : ℕ → Bool) (xs ys : List ℕ) → list_all p xs ≡ true → list_all p ys ≡ true → list_all p (xs ++ ys) ≡ true
all-append p [] ys h k = k
all-append p (x ∷ xs) ys h k = let both = and_both (p x) (list_all p xs) h in and-true (p x) (list_all p (xs ++ ys)) both.0 (all-append p xs ys both.1 k)

all-weaker : (p q : ℕ → Bool) (xs : List ℕ) → ((b : ℕ) → p b ≡ true → q b ≡ true) → list_all p xs ≡ true → list_all q xs ≡ true
all-weaker p q [] f h = refl
all-weaker p q (x ∷ xs) f h = let both = and_both (p x) (list_all p xs) h in and-true (q x) (list_all q xs) (f x both.0) (all-weaker p q xs f both.1)

-- a byte that none of them may be
pub all-free : (p : ℕ → Bool) (b : ℕ) (xs : List ℕ) → p b ≡ false → list_all p xs ≡ true → Free b xs
all-free p b [] out h = refl
all-free p b (x ∷ xs) out h =
    let both = and_both (p x) (list_all p xs) h in
    let other : (x == b) ≡ false = elim (eqb_tells x b) [ inl e ↦ false_true (sym out ∙ subst (λ c. p c ≡ true) e.1 both.0) | inr e ↦ e.0 ] in
    rw other (all-free p b xs out both.1)

pub no-space : (w : Word) → IsGraphic w → Free 32 w
no-space w h = all-free in_word 32 w refl h

-- ## words

digits-graphic : (ds : List ℕ) → AllDigits 10 ds → IsGraphic ds
digits-graphic [] h = refl
digits-graphic (d ∷ ds) h =
    let p = tells_digits.parts d ds h in
    let low = p.0.0 in
    let high = p.0.1 in
    let one : in_word d ≡ true = grind (arith, nat_tests) in
    and-true (in_word d) (list_all in_word ds) one (digits-graphic ds p.1)

pub decimal-graphic : (n : ℕ) → n < 2 ^ 64 → IsGraphic (decimal n)
decimal-graphic n lt = digits-graphic (decimal n) (decimal_is_IsNumeral n lt).0.1

first-in_word : (b : ℕ) → is_first_byte b ≡ true → in_word b ≡ true
first-in_word b h = grind (arith, nat_tests)

later-in_word : (b : ℕ) → is_later_byte b ≡ true → in_word b ≡ true
later-in_word b h = grind (arith, nat_tests)

pub name-graphic : (w : Word) → is_name_text w ≡ true → IsGraphic w
name-graphic [] h = false_true h
name-graphic (x ∷ xs) h =
    let b = and_both (is_first_byte x && list_all is_later_byte xs) _ h in
    let parts = and_both (is_first_byte x) (list_all is_later_byte xs) b.0 in
    and-true (in_word x) (list_all in_word xs) (first-in_word x parts.0) (all-weaker is_later_byte in_word xs later-in_word parts.1)

pub graphic-append : (v w : Word) → IsGraphic v → IsGraphic w → IsGraphic (v ++ w)
graphic-append v w h k = all-append in_word v w h k

-- ## lines

word-in_line : (b : ℕ) → in_word b ≡ true → in_line b ≡ true
word-in_line b h = grind (arith, nat_tests)

pub line-bytes : (ws : List Word) → Each IsGraphic ws → list_all in_line (joined ws) ≡ true
line-bytes [] h = refl
line-bytes (w ∷ []) h = all-weaker in_word in_line w word-in_line h.0
line-bytes (w ∷ w2 ∷ ws) h = all-append in_line w (32 ∷ joined (w2 ∷ ws)) (all-weaker in_word in_line w word-in_line h.0) (line-bytes (w2 ∷ ws) h.1)

line-small : (b : ℕ) → in_line b ≡ true → b < 128
line-small b h = grind (arith, nat_tests)

line-ascii : (xs : List ℕ) → list_all in_line xs ≡ true → IsAscii xs
line-ascii [] h i = omega arith
line-ascii (b ∷ bs) h zero = line-small b (and_both (in_line b) _ h).0
line-ascii (b ∷ bs) h (suc i) = line-ascii bs (and_both (in_line b) _ h).1 i

-- the line is one line, and a text
pub line-no_feed : (ws : List Word) → Each IsGraphic ws → Free 10 (joined ws)
line-no_feed ws h = all-free in_line 10 (joined ws) refl (line-bytes ws h)

pub line-utf8 : (ws : List Word) → Each IsGraphic ws → IsUtf8 (joined ws)
line-utf8 ws h = IsUtf8-from_ascii (joined ws) (line-ascii (joined ws) (line-bytes ws h))
