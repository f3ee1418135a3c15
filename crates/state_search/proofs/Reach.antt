-- A search that has gone on from each state that it keeps has all outcomes.
use Rattle.std.proofs.Common.{◌≡◌, ℕ, ◌<◌, ◌≤◌, ◌+◌, ◌↔◌, Bool, true, false, List, [], ◌∷◌, ◌++◌, length, slice_get, Some, refl, sym, subst, ◌∙◌, arith, true≢false, append_assoc, append-nil, below_more}
use Rattle.std.proofs.lemmas.Option.{slice_get_within}
use Rattle.std.proofs.lemmas.List.Elements.{All-nil, All-head, All-tail}
use Rattle.std.specs.Global.{Vec}
use Rattle.state_search.specs.Entries.{HasKey, IsAdded, Grows}
use Rattle.state_search.specs.Races.{Meaning, IsExact, IsSchedule, Shows, IsOutcome, AreShown}
use Rattle.state_search.specs.Steps.{Entry}
use Rattle.state_search.specs.Searches.{Outcomes, HasState, IsKept, IsSearch, Tells, Arrives, GoesOn, AreNear, Turns, Passes}
use Rattle.state_search.proofs.Entries.{some-eq, get-last, has-grown, at-back, added-grows, added-has, added-each}

pub kept-more : (r : Meaning) (old new : Outcomes) (k s : List ℕ) → Grows old new → IsKept r old k s → IsKept r new k s
kept-more r old new k s g h = record { schedule = h.schedule; key = h.key; told = λ e. has-grown old new (r.outcome s) g (h.told e) }

-- nothing is kept, and nothing is listed
pub nothing : (r : Meaning) → IsSearch r [] []
nothing r = record { each = λ i k s e. absurd cc; shown = λ i o s e. absurd cc }

-- the outcome after a schedule was added
pub told : (r : Meaning) (b : Bool) (old new : Outcomes) (o : List ℕ) (s : Vec ℕ) → AreShown r old → IsSchedule r s.items → r.ended s.items ≡ true → o ≡ r.outcome s.items → IsAdded b old o s new
    → Tells r s.items old new
told r b old new o s shown is ended eo added =
    let a = subst (λ p. IsAdded b old p s new) eo added in
    record {
      shown = λ i p q at. added-each (λ e. Shows r e.0 e.1.items) b old new (r.outcome s.items) s (λ j e. shown j e.0 e.1) (is, ended, refl) a i (p, q) at;
      grows = added-grows b old new (r.outcome s.items) s a;
      told = λ e. added-has b old new (r.outcome s.items) s a;
    }

-- there was none
pub untold : (r : Meaning) (es : Outcomes) (s : List ℕ) → AreShown r es → r.ended s ≡ false → Tells r s es es
untold r es s shown f = record { shown = shown; grows = λ i k t e. e; told = λ e. absurd (true≢false (sym e ∙ f)) }

-- a state that is kept stays kept
pub state-grown : (r : Meaning) (old new : List Entry) (s : List ℕ) → Grows old new → HasState r old s → HasState r new s
state-grown r old new s g h = (h.0, h.1, h.2, g h.0 h.1 h.2 h.3, h.4)

-- a state whose key was added is kept: that was new, or a state with that key was
pub added-state : (r : Meaning) → IsExact r → (b : Bool) (old new : List Entry) (before : Outcomes) (k s : List ℕ) → IsSearch r old before → r.has_key s k → IsAdded b old k s new → HasState r new s
added-state r exact true old new before k s h hk a = (length old, k, s, subst (λ es. slice_get es (length old) ≡ Some (k, s)) (sym a) (get-last old (k, s)), exact.itself s)
added-state r exact false old new before k s h hk a =
    let i = a.1.0 in
    let t = a.1.1 in
    (i, k, t, subst (λ es. slice_get es i ≡ Some (k, t)) (sym a.0) a.1.2, exact.keys k t s (h.each i k t a.1.2).key hk)

-- the state after a schedule was added
pub arrived : (r : Meaning) → IsExact r → (b : Bool) (old new : List Entry) (before outcomes : Outcomes) (k s : List ℕ) → IsSearch r old before → IsSchedule r s → Tells r s before outcomes → r.has_key s k → IsAdded b old k s new
    → Arrives r s old new outcomes
arrived r exact b old new before outcomes k s h is tells hk a = record {
  search = record {
    each = λ i l t at. added-each (λ e. IsKept r outcomes e.0 e.1) b old new k s (λ j e here. kept-more r before outcomes e.0 e.1 tells.grows (h.each j e.0 e.1 here))
        (record { schedule = is; key = hk; told = tells.told }) a i (l, t) at;
    shown = tells.shown;
  };
  grows = added-grows b old new k s a;
  kept = added-state r exact b old new before k s h hk a;
}

-- the state before the first step was added to none
pub started : (r : Meaning) → IsExact r → (outcomes : Outcomes) (k : List ℕ) → Tells r [] [] outcomes → r.has_key [] k → Passes r ((k, []) ∷ []) outcomes 0
started r exact outcomes k tells hk =
    let a = arrived r exact true [] ((k, []) ∷ []) [] outcomes k [] (nothing r) (All-nil (λ a. a < r.actors)) tells hk refl in
    record { search = a.search; root = a.kept; passed = λ i lt. absurd (omega (arith, lt)) }

-- no actor yet
pub turn-first : (r : Meaning) (states : List Entry) (outcomes : Outcomes) (at : ℕ) → IsSearch r states outcomes → Turns r states states outcomes at 0
turn-first r states outcomes at h = record { search = h; grows = λ i k s e. e; near = λ k s e a lt. absurd (omega (arith, lt)) }

-- one more actor
pub turn-next : (r : Meaning) (old mid new : List Entry) (before outcomes : Outcomes) (at n : ℕ) → Turns r old mid before at n → GoesOn r at n mid new outcomes → Turns r old new outcomes at (n + 1)
turn-next r old mid new before outcomes at n h w =
    let arrives = w.3 in
    record {
      search = arrives.search;
      grows = λ i k s e. arrives.grows i k s (h.grows i k s e);
      near = λ k s e a lt.
          let same : (w.0, w.1) ≡ (k, s) = some-eq (w.0, w.1) (k, s) (sym w.2 ∙ h.grows at k s e) in
          below_more (λ b. HasState r new (s ++ b ∷ [])) n
          (λ b below. state-grown r mid new (s ++ b ∷ []) arrives.grows (h.near k s e b below))
          (subst (λ (p : Entry). HasState r new (p.1 ++ n ∷ [])) same arrives.kept) a lt;
    }

-- all actors: one more state is passed
pub passed-more : (r : Meaning) (old new : List Entry) (outcomes : Outcomes) (at n : ℕ) → Passes r old outcomes at → at < length old → r.actors ≤ n → (later : Outcomes) → Turns r old new later at n → Passes r new later (at + 1)
passed-more r old new outcomes at n h lt en later t = record {
  search = t.search;
  root = state-grown r old new [] t.grows h.root;
  passed = below_more (λ i. (k s : List ℕ) → slice_get new i ≡ Some (k, s) → AreNear r new s r.actors) at
      (λ i below k s e a la. state-grown r old new (s ++ a ∷ []) t.grows (h.passed i below k s (at-back old new i k s t.grows (omega (arith, below, lt)) e) a la))
      (λ k s e a la. t.near k s (at-back old new at k s t.grows lt e) a (omega (arith, la, en)));
}

module _ (r : Meaning) (exact : IsExact r) (states : List Entry) (outcomes : Outcomes) (n : ℕ) (h : Passes r states outcomes n) (all : length states ≤ n) where
  -- whatever a schedule leads to from a state that is kept is kept
  reach : (done rest : List ℕ) → HasState r states done → IsSchedule r rest → HasState r states (done ++ rest)
  reach done [] at is = subst (HasState r states) (sym (append-nil done)) at
  reach done (a ∷ rest) at is =
      let within = slice_get_within states at.0 (at.1, at.2) at.3 in
      let near : HasState r states (at.2 ++ a ∷ []) = h.passed at.0 (omega (arith, within, all)) at.1 at.2 at.3 a (All-head (λ b. b < r.actors) a rest is) in
      let next : HasState r states (done ++ a ∷ []) = (near.0, near.1, near.2, near.3, exact.chain near.2 (at.2 ++ a ∷ []) (done ++ a ∷ []) near.4 (exact.steps at.2 done a at.4)) in
      subst (HasState r states) (append_assoc done (a ∷ []) rest) (reach (done ++ a ∷ []) rest next (All-tail (λ b. b < r.actors) a rest is))

  -- each outcome is listed
  pub listed : (o : List ℕ) → IsOutcome r o → HasKey outcomes o
  listed o p =
      let s = p.0 in
      let at = reach [] s h.root p.1.0 in
      let here = h.search.each at.0 at.1 at.2 at.3 in
      let told : HasKey outcomes (r.outcome at.2) = here.told (exact.ends at.2 s at.4 ∙ p.1.1) in
      subst (HasKey outcomes) (exact.tells at.2 s at.4 ∙ p.1.2) told

  -- and nothing else
  pub exactly : (o : List ℕ) → IsOutcome r o ↔ HasKey outcomes o
  exactly o = (listed o, λ at. (at.1.items, h.search.shown at.0 o at.1 at.2))
