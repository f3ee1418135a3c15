-- Words and lines are told apart: by the space and the line feed, which no word has.
use Rattle.std.proofs.Common.{if◌then◌else◌, rules, ◌≡◌, ℕ, ◌<◌, ◌≤◌, ◌⊎◌, ◌^◌, true, false, ◌&&◌, ◌==◌, List, [], ◌∷◌, ◌++◌, length, refl, sym, ap, ◌∙◌, subst, arith, inl, inr}
use Rattle.std.proofs.lemmas.Bool.Decides.{eqb_tells}
use Rattle.std.proofs.lemmas.Fmt.{decimal_is_IsNumeral}
use Rattle.std.proofs.lemmas.Str.Parse.{tells_digits}
use Rattle.std.specs.Fmt.{decimal}
use Rattle.std.specs.Str.Parse.{AllDigits, digits_value}
use Rattle.std.specs.List.{list_any, list_all, AllByRecursion as Each}
use Rattle.ft_base.specs.Name.{is_first_byte, is_later_byte, is_name_text}
use Rattle.ft_base.proofs.Small.{false_true, and_both, or-false_both}
use Rattle.trace_views.specs.Words.{Word}
use Rattle.trace_views.specs.LogText.{joined}

-- no byte of the text is this one
abbrev pub Free : ℕ → List ℕ → Type 0
Free b xs = list_any (λ c. c == b) xs ≡ false

pub Free-append : (b : ℕ) (xs ys : List ℕ) → Free b xs → Free b ys → Free b (xs ++ ys)
Free-append b [] ys h k = k
Free-append b (x ∷ xs) ys h k = let both = or-false_both (x == b) (list_any (λ c. c == b) xs) h in rw (both.0, Free-append b xs ys both.1 k) refl

-- the text up to a byte, and what comes after it
abbrev pub upto : ℕ → List ℕ → List ℕ
upto b [] = []
upto b (c ∷ cs) = if c == b then [] else c ∷ upto b cs

abbrev pub beyond : ℕ → List ℕ → List ℕ
beyond b [] = []
beyond b (c ∷ cs) = if c == b then cs else beyond b cs

eqb-self : (n : ℕ) → (n == n) ≡ true
eqb-self n = search rules

pub upto-at : (b : ℕ) (xs ys : List ℕ) → Free b xs → upto b (xs ++ b ∷ ys) ≡ xs
upto-at b [] ys h = rw (eqb-self b) refl
upto-at b (x ∷ xs) ys h = let both = or-false_both (x == b) (list_any (λ c. c == b) xs) h in rw both.0 (ap (λ (zs : List ℕ). x ∷ zs) (upto-at b xs ys both.1))

pub beyond-at : (b : ℕ) (xs ys : List ℕ) → Free b xs → beyond b (xs ++ b ∷ ys) ≡ ys
beyond-at b [] ys h = rw (eqb-self b) refl
beyond-at b (x ∷ xs) ys h = let both = or-false_both (x == b) (list_any (λ c. c == b) xs) h in rw both.0 (beyond-at b xs ys both.1)

pub same-upto : (b : ℕ) (xs ys r s : List ℕ) → Free b xs → Free b ys → xs ++ b ∷ r ≡ ys ++ b ∷ s → (xs ≡ ys) × (r ≡ s)
same-upto b xs ys r s h k e = (
  sym (upto-at b xs r h) ∙ ap (λ (zs : List ℕ). upto b zs) e ∙ upto-at b ys s k,
  sym (beyond-at b xs r h) ∙ ap (λ (zs : List ℕ). beyond b zs) e ∙ beyond-at b ys s k,
)

not-free : (b : ℕ) (xs r : List ℕ) → Free b (xs ++ b ∷ r) → ⊥
not-free b [] r h = false_true (sym (rw (eqb-self b) at h))
not-free b (x ∷ xs) r h = not-free b xs r (or-false_both (x == b) (list_any (λ c. c == b) (xs ++ b ∷ r)) h).1

-- a word has no space and no line feed
abbrev pub IsWord : List ℕ → Type 0
IsWord w = Free 32 w × Free 10 w

-- words that are joined are told apart
pub same-joined : (ws vs : List Word) → Each IsWord ws → Each IsWord vs → 0 < length ws → 0 < length vs → joined ws ≡ joined vs → ws ≡ vs
same-joined [] vs a b n m e = absurd (omega (arith, n))
same-joined (w ∷ ws) [] a b n m e = absurd (omega (arith, m))
same-joined (w ∷ []) (v ∷ []) a b n m e = ap (λ (x : Word). x ∷ []) e
same-joined (w ∷ []) (v ∷ v2 ∷ vs) a b n m e = absurd (not-free 32 v (joined (v2 ∷ vs)) (subst (λ x. Free 32 x) e a.0.0))
same-joined (w ∷ w2 ∷ ws) (v ∷ []) a b n m e = absurd (not-free 32 w (joined (w2 ∷ ws)) (subst (λ x. Free 32 x) (sym e) b.0.0))
same-joined (w ∷ w2 ∷ ws) (v ∷ v2 ∷ vs) a b n m e =
    let both = same-upto 32 w v (joined (w2 ∷ ws)) (joined (v2 ∷ vs)) a.0.0 b.0.0 e in
    let rest = same-joined (w2 ∷ ws) (v2 ∷ vs) a.1 b.1 (omega arith) (omega arith) both.1 in
    ap (λ (x : Word). x ∷ w2 ∷ ws) both.0 ∙ ap (λ (xs : List Word). v ∷ xs) rest

pub Free-joined : (ws : List Word) → Each IsWord ws → Free 10 (joined ws)
Free-joined [] h = refl
Free-joined (w ∷ []) h = h.0.1
Free-joined (w ∷ w2 ∷ ws) h = Free-append 10 w (32 ∷ joined (w2 ∷ ws)) h.0.1 (Free-joined (w2 ∷ ws) h.1)

-- ## decimal numbers

digits-free : (b : ℕ) (ds : List ℕ) → (b < 48) ⊎ (57 < b) → AllDigits 10 ds → Free b ds
digits-free b [] out h = refl
digits-free b (d ∷ ds) out h =
    let p = tells_digits.parts d ds h in
    let low = p.0.0 in
    let high = p.0.1 in
    let other : (d == b) ≡ false = elim (eqb_tells d b) [ inl x ↦ (let q : d ≡ b = x.1 in elim out [ inl l ↦ absurd (omega (arith, low, q, l)) | inr l ↦ absurd (omega (arith, high, q, l)) ]) | inr x ↦ x.0 ] in
    rw other (digits-free b ds out p.1)

pub decimal-free : (b n : ℕ) → (b < 48) ⊎ (57 < b) → n < 2 ^ 64 → Free b (decimal n)
decimal-free b n out lt = digits-free b (decimal n) out (decimal_is_IsNumeral n lt).0.1

pub decimal-word : (n : ℕ) → n < 2 ^ 64 → IsWord (decimal n)
decimal-word n lt = (decimal-free 32 n (inl (omega arith)) lt, decimal-free 10 n (inl (omega arith)) lt)

pub value-decimal : (n : ℕ) → n < 2 ^ 64 → digits_value 10 (decimal n) ≡ n
value-decimal n lt = (decimal_is_IsNumeral n lt).1

-- its first byte is a digit
pub decimal-first : (n : ℕ) → n < 2 ^ 64 → (d : ℕ) × (ds : List ℕ) × (decimal n ≡ d ∷ ds) × (48 ≤ d) × (d ≤ 57)
decimal-first n lt = by (decimal n) refl (decimal_is_IsNumeral n lt).0.0 (decimal_is_IsNumeral n lt).0.1
  where
    by : (xs : List ℕ) → decimal n ≡ xs → 0 < length xs → AllDigits 10 xs → (d : ℕ) × (ds : List ℕ) × (decimal n ≡ d ∷ ds) × (48 ≤ d) × (d ≤ 57)
    by [] e some all = absurd (omega (arith, some))
    by (d ∷ ds) e some all = let p = tells_digits.parts d ds all in (d, ds, e, p.0.0, p.0.1)

-- ## names

later-free : (b : ℕ) (xs : List ℕ) → is_later_byte b ≡ false → list_all is_later_byte xs ≡ true → Free b xs
later-free b [] out h = refl
later-free b (x ∷ xs) out h =
    let both = and_both (is_later_byte x) (list_all is_later_byte xs) h in
    let other : (x == b) ≡ false = elim (eqb_tells x b) [ inl e ↦ false_true (sym out ∙ subst (λ c. is_later_byte c ≡ true) e.1 both.0) | inr e ↦ e.0 ] in
    rw other (later-free b xs out both.1)

pub name-word : (w : List ℕ) → is_name_text w ≡ true → IsWord w
name-word [] h = false_true h
name-word (x ∷ xs) h = (free 32 refl refl, free 10 refl refl)
  where
    parts : (is_first_byte x ≡ true) × (list_all is_later_byte xs ≡ true)
    parts = let b = and_both (is_first_byte x && list_all is_later_byte xs) _ h in and_both (is_first_byte x) (list_all is_later_byte xs) b.0

    free : (b : ℕ) → is_first_byte b ≡ false → is_later_byte b ≡ false → Free b (x ∷ xs)
    free b first out =
        let other : (x == b) ≡ false = elim (eqb_tells x b) [ inl e ↦ false_true (sym first ∙ subst (λ c. is_first_byte c ≡ true) e.1 parts.0) | inr e ↦ e.0 ] in
        rw other (later-free b xs out parts.1)
