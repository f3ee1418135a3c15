-- States by their last steps: what stands where in the list with schedules.
use Rattle.std.proofs.Common.{◌≡◌, ℕ, zero, suc, ◌<◌, ◌+◌, Bool, true, false, List, [], ◌∷◌, ◌++◌, length, slice_get, Some, refl, sym, ap, subst, ◌∙◌, arith, inl, inr, Result, Ok, Err, IfOk, OnErr}
use Rattle.std.proofs.lemmas.List.{length-append}
use Rattle.std.proofs.lemmas.Option.{get_or_from_slice_get}
use Rattle.state_search.specs.declared.states.Step.{Step}
use Rattle.state_search.specs.Entries.{HasKey, IsAdded}
use Rattle.state_search.specs.Steps.{Entry, AreEarlier, led, after_states}
use Rattle.state_search.proofs.Entries.{some-eq, get-left, get-last, get-there, pushed}

-- one state more
pub after-snoc : (done : List Entry) (es : List (List ℕ × Step)) (k : List ℕ) (p : Step) → after_states done (es ++ (k, p) ∷ []) ≡ after_states done es ++ (k, led (after_states done es) p) ∷ []
after-snoc done [] k p = refl
after-snoc done (e ∷ es) k p = after-snoc (done ++ (e.0, led done e.1) ∷ []) es k p

after-length : (done : List Entry) (es : List (List ℕ × Step)) → length (after_states done es) ≡ length done + length es
after-length done [] = omega arith
after-length done (e ∷ es) = let h = after-length (done ++ (e.0, led done e.1) ∷ []) es in let l = length-append done ((e.0, led done e.1) ∷ []) in omega (arith, h, l)

-- the states before stay where they are
pub after-left : (done : List Entry) (es : List (List ℕ × Step)) (i : ℕ) (x : Entry) → slice_get done i ≡ Some x → slice_get (after_states done es) i ≡ Some x
after-left done [] i x at = at
after-left done (e ∷ es) i x at = after-left (done ++ (e.0, led done e.1) ∷ []) es i x (get-left done ((e.0, led done e.1) ∷ []) i x at)

-- the schedule of a state is that of the state before its last step, and that step
pub led-is : (es : List Entry) (p : Step) (k s : List ℕ) → slice_get es p.before ≡ Some (k, s) → led es p ≡ s ++ p.actor ∷ []
led-is [] p k s at = absurd cc
led-is (e ∷ es) p k s at = ap (λ (x : Entry). x.1 ++ p.actor ∷ []) (get_or_from_slice_get (e ∷ es) p.before (k, s) e at)

-- a state of the table stands in the list at the same place, with the schedule before its last step and that step
pub after-at : (done : List Entry) (es : List (List ℕ × Step)) (n i : ℕ) (k : List ℕ) (p : Step) → slice_get es i ≡ Some (k, p) → n ≡ length done + i → p.before < n
    → (l s : List ℕ) → slice_get (after_states done es) p.before ≡ Some (l, s) → slice_get (after_states done es) n ≡ Some (k, s ++ p.actor ∷ [])
after-at done [] n i k p at en lt l s e = absurd cc
after-at done (x ∷ es) n zero k p at en lt l s e =
    let done' = done ++ (x.0, led done x.1) ∷ [] in
    let there = get-there done p.before (omega (arith, en, lt)) in
    let same : there.0 ≡ (l, s) = some-eq there.0 (l, s) (sym (after-left done' es p.before there.0 (get-left done ((x.0, led done x.1) ∷ []) p.before there.0 there.1)) ∙ e) in
    let is : x ≡ (k, p) = some-eq x (k, p) at in
    let here = after-left done' es (length done) (x.0, led done x.1) (get-last done (x.0, led done x.1)) in
    let end : n ≡ length done = omega (arith, en) in
    let schedule : led done p ≡ s ++ p.actor ∷ [] = led-is done p l s (there.1 ∙ ap (λ (q : Entry). Some q) same) in
    ap (λ m. slice_get (after_states done' es) m) end ∙ here ∙ ap (λ (q : List ℕ × Step). Some (q.0, led done q.1)) is ∙ ap (λ (q : List ℕ). Some (k, q)) schedule
after-at done (x ∷ es) n (suc i) k p at en lt l s e =
    let size = length-append done ((x.0, led done x.1) ∷ []) in
    after-at (done ++ (x.0, led done x.1) ∷ []) es n i k p at (omega (arith, en, size)) lt l s e

-- a key of the table is one of the list
pub after-has : (done : List Entry) (es : List (List ℕ × Step)) (k : List ℕ) (i : ℕ) (p : Step) → slice_get es i ≡ Some (k, p) → HasKey (after_states done es) k
after-has done [] k i p at = absurd cc
after-has done (x ∷ es) k zero p at = (
  length done,
  led done x.1,
  after-left (done ++ (x.0, led done x.1) ∷ []) es (length done) (x.0, led done x.1) (get-last done (x.0, led done x.1))
      ∙ ap (λ (q : List ℕ × Step). Some (q.0, led done x.1)) (some-eq x (k, p) at),
)
after-has done (x ∷ es) k (suc i) p at = after-has (done ++ (x.0, led done x.1) ∷ []) es k i p at

-- the first state has no steps
pub first-empty : (es : List (List ℕ × Step)) (k s : List ℕ) → slice_get (after_states [] es) 0 ≡ Some (k, s) → s ≡ []
first-empty [] k s at = absurd cc
first-empty (x ∷ es) k s at = ap (λ (q : Entry). q.1) (some-eq (k, s) (x.0, []) (sym at ∙ after-left ((x.0, []) ∷ []) es 0 (x.0, []) refl))

-- there are as many states in the list as in the table
pub table-length : (es : List (List ℕ × Step)) → length (after_states [] es) ≡ length es
table-length es = let h = after-length [] es in omega (arith, h)

-- what an added state is in the list with schedules
pub states-added : (b : Bool) (old new : List (List ℕ × Step)) (k : List ℕ) (p : Step) → IsAdded b old k p new → (l s : List ℕ) → slice_get (after_states [] old) p.before ≡ Some (l, s)
    → IsAdded b (after_states [] old) k (s ++ p.actor ∷ []) (after_states [] new)
states-added true old new k p a l s at =
    ap (after_states []) a ∙ after-snoc [] old k p ∙ ap (λ (q : List ℕ). after_states [] old ++ (k, q) ∷ []) (led-is (after_states [] old) p l s at)
states-added false old new k p a l s at = (ap (after_states []) a.0, after-has [] old k a.1.0 a.1.1 a.1.2)

-- and it comes after the state before it
pub earlier-added : (b : Bool) (old new : List (List ℕ × Step)) (k : List ℕ) (p : Step) → AreEarlier old → p.before < length old → IsAdded b old k p new → AreEarlier new
earlier-added true old new k p h lt a i l q at later =
    elim (pushed old (k, p) i (l, q) (subst (λ es. slice_get es i ≡ Some (l, q)) a at)) [
      | inl e ↦ h i l q e later
      | inr e ↦ subst (λ (x : List ℕ × Step). x.1.before < i) e.1 (omega (arith, lt, e.0))
    ]
earlier-added false old new k p h lt a i l q at later = subst AreEarlier (sym a.0) h i l q at later

-- also where memory ran out
pub earlier-kept : {E : Type 0} (r : Result Bool E) (old new : List (List ℕ × Step)) (k : List ℕ) (p : Step) → AreEarlier old → p.before < length old → IfOk r (λ b. IsAdded b old k p new) → OnErr r (new ≡ old)
    → AreEarlier new
earlier-kept (Ok b) old new k p h lt a e = earlier-added b old new k p h lt a
earlier-kept (Err x) old new k p h lt a e = subst AreEarlier (sym e) h
