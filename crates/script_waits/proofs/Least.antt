-- The least line at which one of the first tasks or control is.
use Rattle.std.proofs.Common.{◌≡◌, ℕ, zero, suc, ◌+◌, ◌<◌, ◌≤◌, ◌⊎◌, inl, inr, arith, nat_le, true, false, Bool, List, [], ◌∷◌, length, get_or, slice_get, Option, Some, None, option_map, refl, cond, ap, sym, subst}
use Rattle.std.proofs.lemmas.Bool.{leb-true, leb-false, cases_eq}
use Rattle.script_waits.specs.declared.script.LinedAct.{LinedAct}
use Rattle.script_waits.specs.declared.script.ControlLine.{ControlLine}
use Rattle.script_waits.specs.Greedy.{Passed, Waits, in_task, in_control, IsLeast, lower_of, next_act, next_line}

module _ (tracks : List (List LinedAct)) (lines : List ControlLine) (p : Passed) where
  -- control, or one of the tasks below t, is at line n
  pub data WaitsTo (t : ℕ) (n : ℕ) : Type 0 where
    among : (k : ℕ) (act : LinedAct) → k < t → next_act tracks lines p k ≡ Some act → n ≡ act.line → WaitsTo t n
    control : (next : ControlLine) → next_line tracks lines p ≡ Some next → n ≡ next.line → WaitsTo t n

  start-at : (o : Option ControlLine) → next_line tracks lines p ≡ o → IsLeast (WaitsTo 0) (option_map (λ (o : ControlLine). o.line) o)
  start-at None e = λ m w. elim w [ among k act h f g ↦ omega (arith, h) | control next f g ↦ absurd (cc) ]
  start-at (Some next) e = (control next e refl, λ m w. elim w [ among k act h f g ↦ absurd (omega (arith, h)) | control other f g ↦ let q : other ≡ next = cc in omega (arith, g, ap (λ (x : ControlLine). x.line) q) ])

  -- no task yet
  pub least-start : IsLeast (WaitsTo 0) (option_map (λ (o : ControlLine). o.line) (next_line tracks lines p))
  least-start = start-at (next_line tracks lines p) refl

-- who is at an act is one of the tasks
at_act-inside : (tracks : List (List LinedAct)) (k i : ℕ) (act : LinedAct) → slice_get (get_or tracks k []) i ≡ Some act → k < length tracks
at_act-inside [] k i act h = absurd (cc)
at_act-inside (x ∷ xs) zero i act h = omega arith
at_act-inside (x ∷ xs) (suc k) i act h = let q = at_act-inside xs k i act h in omega (arith, q)

-- the same numbers, in other words
pub least-same : (P Q : ℕ → Type 0) (o : Option ℕ) → ((m : ℕ) → P m → Q m) → ((m : ℕ) → Q m → P m) → IsLeast P o → IsLeast Q o
least-same P Q None to from h = λ m q. h m (from m q)
least-same P Q (Some n) to from h = (to n h.0, λ m q. h.1 m (from m q))

picked : (R : ℕ → Type 0) (x y : ℕ) (b : Bool) → b ≡ nat_le x y → R x → R y → ((m : ℕ) → R m → (x ≤ m) ⊎ (y ≤ m)) → IsLeast R (cond b (Some x) (Some y))
picked R x y true e hx hy least = (hx, λ m h. elim (least m h) [ inl a ↦ a | inr b ↦ omega (arith, leb-true x y (sym e)) ])
picked R x y false e hx hy least = (hy, λ m h. elim (least m h) [ inl a ↦ omega (arith, leb-false x y (sym e)) | inr b ↦ b ])

-- the least of two
pub least-lower : (P Q R : ℕ → Type 0) (a b : Option ℕ) → ((m : ℕ) → P m → R m) → ((m : ℕ) → Q m → R m) → ((m : ℕ) → R m → P m ⊎ Q m) → IsLeast P a → IsLeast Q b → IsLeast R (lower_of a b)
least-lower P Q R None None p q r f g = λ m h. elim (r m h) [ inl x ↦ f m x | inr y ↦ g m y ]
least-lower P Q R None (Some y) p q r f g = (q y g.0, λ m h. elim (r m h) [ inl a ↦ absurd (f m a) | inr b ↦ g.1 m b ])
least-lower P Q R (Some x) None p q r f g = (p x f.0, λ m h. elim (r m h) [ inl a ↦ f.1 m a | inr b ↦ absurd (g m b) ])
least-lower P Q R (Some x) (Some y) p q r f g = picked R x y (nat_le x y) refl (p x f.0) (q y g.0) (λ m h. elim (r m h) [ inl a ↦ inl (f.1 m a) | inr b ↦ inr (g.1 m b) ])

module _ (tracks : List (List LinedAct)) (lines : List ControlLine) (p : Passed) where
  at_act : (o : Option LinedAct) → IsLeast (λ n. (act : LinedAct) × (o ≡ Some act) × (n ≡ act.line)) (option_map (λ (a : LinedAct). a.line) o)
  at_act None = λ m w. cc (w.1)
  at_act (Some act) = ((act, refl, refl), λ m w. let q : w.0 ≡ act = cc (w.1) in omega (arith, w.2, ap (λ (x : LinedAct). x.line) q))

  -- one task more
  pub least-more : (t : ℕ) (low : Option ℕ) → IsLeast (WaitsTo tracks lines p t) low → IsLeast (WaitsTo tracks lines p (t + 1)) (lower_of low (option_map (λ (a : LinedAct). a.line) (next_act tracks lines p t)))
  least-more t low h = least-lower (WaitsTo tracks lines p t) (λ n. (act : LinedAct) × (next_act tracks lines p t ≡ Some act) × (n ≡ act.line)) (WaitsTo tracks lines p (t + 1)) low _
      (λ m w. elim w [ among k act b f g ↦ among k act (omega (arith, b)) f g | control o f g ↦ control o f g ])
      (λ m w. among t w.0 (omega arith) w.1 w.2)
      (λ m w. elim w [
        | among k act b f g ↦ elim (cases_eq k t) [
          | inl e ↦ inr (act, subst (λ i. next_act tracks lines p i ≡ Some act) e f, g)
          | inr ne ↦ inl (among k act (omega (arith, b)) f g)
        ]
        | control o f g ↦ inl (control o f g)
      ])
      h (at_act (next_act tracks lines p t))

  -- all tasks
  pub least-end : (t : ℕ) (low : Option ℕ) → length tracks ≤ t → IsLeast (WaitsTo tracks lines p t) low → IsLeast (Waits tracks lines p) low
  least-end t low past h = least-same _ _ low
      (λ m w. elim w [ among k act b f g ↦ in_task k act f g | control o f g ↦ in_control o f g ])
      (λ m w. elim w [ in_task k act f g ↦ among k act (let q = at_act-inside tracks k (get_or p.acts k 0) act f in omega (arith, q, past)) f g | in_control o f g ↦ control o f g ])
      h
