-- One line of control more.
use Rattle.std.proofs.Common.{◌≡◌, ℕ, ◌+◌, ◌≤◌, ◌<◌, ◌&&◌, ◌==◌, nat_le, Bool, true, false, true≢false, List, ◌∷◌, length, drop, get_or, refl, sym, ap, ◌∙◌, arith, add-one, add-zero}
use Rattle.std.specs.Prelude.{if◌then◌else◌}
use Rattle.std.proofs.lemmas.Bool.{leb-false, lt-leb}
use Rattle.std.proofs.lemmas.List.{drop_more, drop-map}
use Rattle.script_waits.specs.declared.script.ControlLine.{ControlLine}
use Rattle.script_waits.specs.declared.script.Wait.{Wait}
use Rattle.script_waits.specs.declared.script.Wait.TheVariants.{Command, Until}
use Rattle.module_coverage.specs.Spans.{commands_to, waits_in}
use Rattle.module_coverage.specs.Walks.{is_wait_for, commands_at}

-- a wait for fewer acts isn't one for more
still-no : (same : Bool) (acts n m : ℕ) → acts ≤ n → (same && nat_le acts m) ≡ false → (same && nat_le n m) ≡ false
still-no false acts n m up e = refl
still-no true acts n m up e = let low : m < acts = leb-false acts m e in lt-leb n m (omega (arith, low, up))

one-more : (t acts n k : ℕ) (w : Wait) (ws : List Wait) → acts ≤ n → is_wait_for t acts w ≡ false → commands_to t n k (w ∷ ws) ≡ commands_to t n (k + commands_at w) ws
one-more t acts n k Command ws up e = ap (λ (x : ℕ). commands_to t n x ws) (sym (add-one k))
one-more t acts n k (Until u m) ws up e =
    ap (λ (b : Bool). if b then k else commands_to t n k ws) (still-no (u.0 == t) acts n m up e) ∙ ap (λ (x : ℕ). commands_to t n x ws) (sym (add-zero k))

stop-here : (t acts k : ℕ) (w : Wait) (ws : List Wait) → is_wait_for t acts w ≡ true → commands_to t acts k (w ∷ ws) ≡ k
stop-here t acts k Command ws e = absurd (true≢false (sym e))
stop-here t acts k (Until u m) ws e = ap (λ (b : Bool). if b then k else commands_to t acts k ws) e

waits-more : (control : List ControlLine) (i : ℕ) (d : ControlLine) → i < length control → drop i (waits_in control) ≡ (get_or control i d).wait ∷ drop (i + 1) (waits_in control)
waits-more control i d inside =
    drop-map (λ (c : ControlLine). c.wait) i control
    ∙ ap (λ (cs : List ControlLine). waits_in cs) (drop_more control i d inside)
    ∙ ap (λ (ws : List Wait). (get_or control i d).wait ∷ ws) (sym (drop-map (λ (c : ControlLine). c.wait) (i + 1) control))

module _ (control : List ControlLine) (i : ℕ) (d : ControlLine) (t acts k : ℕ) (inside : i < length control) where
  pub passes-more : (n : ℕ) → acts ≤ n → is_wait_for t acts (get_or control i d).wait ≡ false
      → commands_to t n k (drop i (waits_in control)) ≡ commands_to t n (k + commands_at (get_or control i d).wait) (drop (i + 1) (waits_in control))
  passes-more n up e = ap (λ (ws : List Wait). commands_to t n k ws) (waits-more control i d inside) ∙ one-more t acts n k (get_or control i d).wait (drop (i + 1) (waits_in control)) up e

  pub stops-here : is_wait_for t acts (get_or control i d).wait ≡ true → commands_to t acts k (drop i (waits_in control)) ≡ k
  stops-here e = ap (λ (ws : List Wait). commands_to t acts k ws) (waits-more control i d inside) ∙ stop-here t acts k (get_or control i d).wait (drop (i + 1) (waits_in control)) e
