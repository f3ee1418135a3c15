-- A wait looks at each CPU or task that it is for, in the order of their numbers, each until it has reached the request.
use Rattle.std.proofs.Common.{◌≡◌, ℕ, suc, ◌<◌, ◌≤◌, Bool, true, false, nat_le, List, [], ◌∷◌, Some, None, cond, inl, inr, refl, sym, ap, ◌∙◌, arith}
use Rattle.std.proofs.lemmas.Bool.{le-leb, true≢false}
use Rattle.std.proofs.lemmas.Bool.Decides.{eqb_tells, leb_tells}
use Rattle.word_map.specs.declared.shape.Shape.{Shape}
use Rattle.word_map.specs.Ops.{Load}
use Rattle.grace_core.specs.declared.waiter.WaitPhase.{WaitPhase}
use Rattle.grace_core.specs.declared.waiter.WaitPhase.TheVariants.{Asking, Waiting, Ended}
use Rattle.grace_core.specs.Waits.{Wait, wait_next, wait_got, wait_after, waiting_for, awaited, awaited_word, reached}
use Rattle.grace_core.specs.Pasts.{HasSeen, wait_past}

-- a wait in this phase
abbrev pub wait_in : Shape → Bool → ℕ → WaitPhase → Wait
wait_in shape quiet request phase = record { shape = shape; quiet = quiet; request = request; phase = phase }

-- the first of so many that it is still to look at
abbrev pub still : ℕ → WaitPhase → ℕ
still many Asking = 0
still many (Waiting m) = m
still many Ended = many

-- the wait for this one, or the end, leaves no later one out
pub still-waiting_for : (many m n : ℕ) → m ≤ n → n < many → still many (waiting_for many m) ≤ n
still-waiting_for many m n above below = rw (le-leb (suc m) many (omega arith)) above

-- none is left out until it has reached the request
pub still-got : (many m n : ℕ) (b : Bool) → m ≤ n → n < many → (b ≡ true → m ≡ n → ⊥)
    → still many (cond b (waiting_for many (suc m)) (Waiting m)) ≤ n
still-got many m n true above below other = still-waiting_for many (suc m) n (omega (arith, other refl)) below
still-got many m n false above below other = above

-- what was seen after a value came was seen
pub HasSeen-more : (w : Wait) (v : ℕ) (vs : List ℕ) (n : ℕ) → HasSeen (wait_got w v) vs n → HasSeen w (v ∷ vs) n
HasSeen-more w v vs n seen = record {
  moment = suc seen.moment;
  value = seen.value;
  loads = seen.loads;
  gives = seen.gives;
  enough = seen.enough;
}

-- the one that it looks at is seen if it has reached the request
pub HasSeen-now : (shape : Shape) (quiet : Bool) (request m n v : ℕ) (vs : List ℕ) → m ≡ n → request ≤ reached quiet v
    → HasSeen (wait_in shape quiet request (Waiting m)) (v ∷ vs) n
HasSeen-now shape quiet request m n v vs same enough = record {
  moment = 0;
  value = v;
  loads = ap (λ k. Some (Load (awaited_word quiet k))) same;
  gives = refl;
  enough = enough;
}

-- each that is still to be looked at is seen before the end
pub over-HasSeen : (shape : Shape) (quiet : Bool) (request : ℕ) (phase : WaitPhase) (vs : List ℕ) (n : ℕ)
    → wait_next (wait_past (wait_in shape quiet request phase) vs) ≡ None
    → n < awaited (wait_in shape quiet request phase) → still (awaited (wait_in shape quiet request phase)) phase ≤ n
    → HasSeen (wait_in shape quiet request phase) vs n
over-HasSeen shape quiet request Asking [] n over below above = absurd cc
over-HasSeen shape quiet request (Waiting m) [] n over below above = absurd cc
over-HasSeen shape quiet request Ended vs n over below above = absurd (omega arith)
over-HasSeen shape quiet request Asking (v ∷ vs) n over below above =
    let w = wait_in shape quiet request Asking in
    HasSeen-more w v vs n (over-HasSeen shape quiet request (wait_after w Asking v) vs n over below (still-waiting_for _ 0 n (omega arith) below))
over-HasSeen shape quiet request (Waiting m) (v ∷ vs) n over below above =
    let w = wait_in shape quiet request (Waiting m) in
    let later : ((nat_le request (reached quiet v) ≡ true) → m ≡ n → ⊥) → HasSeen w (v ∷ vs) n =
    λ other. HasSeen-more w v vs n
    (over-HasSeen shape quiet request (wait_after w (Waiting m) v) vs n over below (still-got _ m n _ above below other)) in
    elim (leb_tells request (reached quiet v)) [
      | inr low ↦ later (λ high. absurd (true≢false (sym high ∙ low.0)))
      | inl high ↦ elim (eqb_tells m n) [
        | inl same ↦ HasSeen-now shape quiet request m n v vs same.1 high.1
        | inr other ↦ later (λ _. other.1)
      ]
    ]
