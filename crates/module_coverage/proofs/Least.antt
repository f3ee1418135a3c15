-- The least line of a call that isn't covered.
use Rattle.std.proofs.Common.{◌≡◌, ℕ, zero, suc, ◌+◌, ◌≤◌, ◌<◌, inl, inr, List, [], ◌∷◌, length, get_or, slice_get, take, Option, Some, None, sym, subst, arith}
use Rattle.std.specs.Prelude.{Contains, ◌↔◌}
use Rattle.std.proofs.lemmas.Bool.{cases_eq}
use Rattle.std.proofs.lemmas.List.{take_more}
use Rattle.std.proofs.lemmas.List.Elements.{Contains-append_left, Contains-push, Contains-push_cases}
use Rattle.script_waits.specs.declared.script.LinedAct.{LinedAct}
use Rattle.script_waits.specs.declared.script.ControlLine.{ControlLine}
use Rattle.script_waits.specs.Greedy.{IsLeast, lower_of}
use Rattle.script_waits.proofs.Least.{least-same, least-lower}
use Rattle.module_coverage.specs.declared.span.Span.{Span}
use Rattle.module_coverage.specs.Plan.{ModulePlan}
use Rattle.module_coverage.specs.Spans.{IsSpan}
use Rattle.module_coverage.specs.Uncovered.{IsUncovered, IsUncoveredLine}

-- line n is that of a call of one of these spans that isn't covered
abbrev pub IsLineAmong : ModulePlan → List Span → ℕ → Type 0
IsLineAmong plan spans n = (s : Span) × Contains spans s × IsUncovered plan s × (n ≡ s.line)

-- one span more
pub least-span : (plan : ModulePlan) (spans : List Span) (i : ℕ) (d : Span) (low line : Option ℕ) → i < length spans → IsLeast (IsLineAmong plan (take i spans)) low
    → IsLeast (λ n. IsUncovered plan (get_or spans i d) × (n ≡ (get_or spans i d).line)) line → IsLeast (IsLineAmong plan (take (i + 1) spans)) (lower_of low line)
least-span plan spans i d low line inside before one =
    let more = take_more spans i d inside in
    least-lower _ _ _ low line
    (λ m w. (w.0, subst (λ (xs : List Span). Contains xs w.0) (sym more) (Contains-append_left (take i spans) (get_or spans i d ∷ []) w.0 w.1), w.2, w.3))
    (λ m w. (get_or spans i d, subst (λ (xs : List Span). Contains xs (get_or spans i d)) (sym more) (Contains-push (take i spans) (get_or spans i d)), w.0, w.1))
    (λ m w. elim (Contains-push_cases (take i spans) (get_or spans i d) w.0 (subst (λ (xs : List Span). Contains xs w.0) more w.1)) [
      | inl there ↦ inl (w.0, there, w.2, w.3)
      | inr same ↦ inr (subst (λ (s : Span). IsUncovered plan s × (m ≡ s.line)) (sym same) (w.2, w.3))
    ])
    before one

module _ (tracks : List (List LinedAct)) (control : List ControlLine) (plan : ModulePlan) where
  -- the same for the tasks below t
  pub record IsLineTo (t : ℕ) (n : ℕ) : Type 0 where
    pub task : ℕ
    pub below : task < t
    pub span : Span
    pub is_call : IsSpan control task (get_or tracks task []) span
    pub uncovered : IsUncovered plan span
    pub line : n ≡ span.line

  pub least-start : IsLeast (IsLineTo 0) None
  least-start m w = let none : w.task < 0 = w.below in omega (arith, none)

  -- one task more
  pub least-task : (t : ℕ) (spans : List Span) (low line : Option ℕ) → ((s : Span) → Contains spans s ↔ IsSpan control t (get_or tracks t []) s)
      → IsLeast (IsLineTo t) low → IsLeast (IsLineAmong plan spans) line → IsLeast (IsLineTo (t + 1)) (lower_of low line)
  least-task t spans low line all before one =
      least-lower (IsLineTo t) (IsLineAmong plan spans) (IsLineTo (t + 1)) low line
      (λ m w. record { task = w.task; below = omega (arith, w.below); span = w.span; is_call = w.is_call; uncovered = w.uncovered; line = w.line })
      (λ m w. record { task = t; below = omega arith; span = w.0; is_call = (all w.0).0 w.1; uncovered = w.2; line = w.3 })
      (λ m w. elim (cases_eq w.task t) [
        | inl same ↦ inr (w.span, (all w.span).1 (subst (λ (i : ℕ). IsSpan control i (get_or tracks i []) w.span) same w.is_call), w.uncovered, w.line)
        | inr other ↦ inl (record { task = w.task; below = omega (arith, w.below, other); span = w.span; is_call = w.is_call; uncovered = w.uncovered; line = w.line })
      ])
      before one

  -- a task that isn't there has no calls
  there : (xs : List (List LinedAct)) (k i : ℕ) (act : LinedAct) → slice_get (get_or xs k []) i ≡ Some act → k < length xs
  there [] k i act h = cc
  there (x ∷ xs) zero i act h = omega arith
  there (x ∷ xs) (suc k) i act h = let q = there xs k i act h in omega (arith, q)

  -- all tasks
  pub least-end : (t : ℕ) (low : Option ℕ) → length tracks ≤ t → IsLeast (IsLineTo t) low → IsLeast (IsUncoveredLine tracks control plan) low
  least-end t low past h = least-same (IsLineTo t) (IsUncoveredLine tracks control plan) low
      (λ m w. record { task = w.task; span = w.span; is_call = w.is_call; uncovered = w.uncovered; line = w.line })
      (λ m w. let inside = there tracks w.task w.is_call.place _ w.is_call.call in
      record { task = w.task; below = omega (arith, inside, past); span = w.span; is_call = w.is_call; uncovered = w.uncovered; line = w.line })
      h
