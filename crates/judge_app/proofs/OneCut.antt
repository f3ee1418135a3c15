-- An input is cut at one place alone.
use Rattle.std.proofs.Common.{◌≡◌, ◌+◌, ◌≤◌, ◌<◌, ◌⊎◌, ℕ, List, [], ◌∷◌, ◌++◌, length, length-append, drop, refl, sym, ap, ◌∙◌, subst, arith, inl, inr, append-nil}
use Rattle.std.specs.Prelude.{count_by}
use Rattle.judge_app.specs.Cut.{EndsLine, IsAfter, IsCut, is_feed, log_line}
use Rattle.judge_app.proofs.CutLaws.{Beyond, beyond, ends-more}

-- a text that ends with a line feed and begins with the line `log`, or is a beginning of it, has it whole
has-line : (front log back : List ℕ) → log_line ++ log ≡ (front ++ 10 ∷ []) ++ back → 4 ≤ length (front ++ 10 ∷ [])
has-line [] log back e = (let one : ◌≡◌ {A = ℕ} 108 10 = cc in absurd (omega (arith, one)))
has-line (a ∷ []) log back e = (let one : ◌≡◌ {A = ℕ} 111 10 = cc in absurd (omega (arith, one)))
has-line (a ∷ b ∷ []) log back e = (let one : ◌≡◌ {A = ℕ} 103 10 = cc in absurd (omega (arith, one)))
has-line (a ∷ b ∷ c ∷ front) log back e = omega (arith, length-append (a ∷ b ∷ c ∷ front) (10 ∷ []))

module _ (input script log script' log' : List ℕ) (here : IsAfter script log input) (earliest : (a b : List ℕ) → IsAfter a b script → ⊥)
    (here' : IsAfter script' log' input) where
  -- no line `log` stands within the script
  not-shorter : length script ≤ length script'
  not-shorter = by (lower (length script) (length script'))
    where
      lower : (m n : ℕ) → (m ≤ n) ⊎ (n < m)
      lower m n = grind arith

      within : length script' < length script → (r : Beyond script' (log_line ++ log') script (log_line ++ log))
          → (r.more ≡ []) ⊎ ((front : List ℕ) × (r.more ≡ front ++ 10 ∷ [])) → ⊥
      within lt r (inl e) =
          let size = ap length (r.longer ∙ ap (λ m. script' ++ m) e ∙ append-nil script') in
          absurd (omega (arith, size, lt))
      within lt r (inr (front, e)) =
          let long = has-line front log' (log_line ++ log) (r.left ∙ ap (λ m. m ++ (log_line ++ log)) e) in
          let size = ap length e in
          let four : length log_line ≡ 4 = refl in
          let q : Beyond log_line log' r.more (log_line ++ log) = beyond log_line log' r.more (log_line ++ log) r.left (omega (arith, long, size, four)) in
          earliest script' q.more (r.longer ∙ ap (λ m. script' ++ m) q.longer, here'.1)

      by : (length script ≤ length script') ⊎ (length script' < length script) → length script ≤ length script'
      by (inl le) = le
      by (inr lt) =
          let r = beyond script' (log_line ++ log') script (log_line ++ log) (sym here'.0 ∙ here.0) (omega (arith, lt)) in
          absurd (within lt r (ends-more script' r.more (subst EndsLine r.longer here.1)))

module _ (input script log script' log' : List ℕ) (first first' : ℕ) (cut : IsCut input script log first) (cut' : IsCut input script' log' first') where
  pub one-cut : (script' ≡ script) × (log' ≡ log)
  one-cut =
      let le = not-shorter input script log script' log' cut.here cut.earliest cut'.here in
      let ge = not-shorter input script' log' script log cut'.here cut'.earliest cut.here in
      let r = beyond script (log_line ++ log) script' (log_line ++ log') (sym cut.here.0 ∙ cut'.here.0) le in
      let size = ap length r.longer ∙ length-append script r.more in
      let none : r.more ≡ [] = no-bytes r.more (omega (arith, size, ge)) in
      let same : log_line ++ log ≡ log_line ++ log' = r.left ∙ ap (λ m. m ++ (log_line ++ log')) none in
      (r.longer ∙ ap (λ m. script ++ m) none ∙ append-nil script, sym (rest-same same))
    where
      no-bytes : (xs : List ℕ) → length xs ≡ 0 → xs ≡ []
      no-bytes [] e = refl
      no-bytes (x ∷ xs) e = absurd (omega (arith, e))

      rest-same : log_line ++ log ≡ log_line ++ log' → log ≡ log'
      rest-same e = ap (λ t. drop 4 t) e

  -- and the log's first line has one number
  pub one-first : first' ≡ first
  one-first = cut'.number ∙ ap (λ (t : List ℕ). count_by is_feed t + 2) one-cut.0 ∙ sym cut.number
