-- When a module is away, by its history.
use Rattle.std.proofs.Common.{◌≡◌, ℕ, zero, suc, ◌+◌, ◌≤◌, ◌<◌, ◌&&◌, ◌==◌, max, nat_le, nat_lt, inl, inr, Bool, true, false, true≢false, not, Some, List, [], ◌∷◌, ◌++◌, length, map, drop, get_or, filter, refl, sym, ap, ◌∙◌, subst, arith}
use Rattle.std.specs.Prelude.{if◌then◌else◌, Option, Vec, set}
use Rattle.std.specs.List.{list_any}
use Rattle.std.specs.List.Sorted.{IsNonDecreasingBy}
use Rattle.std.proofs.lemmas.Bool.{lt-leb, le-leb, lt-ltb, ltb-true, cases_lt}
use Rattle.std.proofs.lemmas.List.{get_or-drop, length-drop, get_or_default, drop_more, get_or-map, map-set}
use Rattle.std.proofs.lemmas.List.Elements.{filter-append}
use Rattle.std.proofs.lemmas.List.Kept.{IsNonDecreasingBy-filter}
use Rattle.script_waits.specs.Greedy.{IsLeast}
use Rattle.module_coverage.specs.declared.change.Change.{Change}
use Rattle.module_coverage.specs.Plan.{ModulePlan, is_of, loaded_by, is_loaded_in}
use Rattle.module_coverage.specs.Histories.{absence, lists, Keeps}
use Rattle.ft_base.proofs.Small.{and_both}

-- no change counts before its time
still : (k : ℕ) (was : Bool) (cs : List Change) → ((j : ℕ) (d : Change) → j < length cs → k < (get_or cs j d).at) → loaded_by k was cs ≡ was
still k was [] later = refl
still k was (c ∷ cs) later =
    let first : nat_le c.at k ≡ false = lt-leb c.at k (later 0 c (omega arith)) in
    rw first (still k was cs (λ j d b. later (suc j) d (omega (arith, b))))

-- nor do those of the rest of a history in order
pub still-rest : (k : ℕ) (was : Bool) (cs : List Change) (i : ℕ) (c : Change) → IsNonDecreasingBy (λ (x : Change). x.at) cs → i < length cs → k < (get_or cs i c).at → loaded_by k was (drop i cs) ≡ was
still-rest k was cs i c ordered inside before =
    still k was (drop i cs) (λ j d b.
    let low : (get_or cs i d).at ≤ (get_or cs (i + j) d).at = ordered i (i + j) d (omega arith) (omega (arith, b, length-drop i cs)) in
    let same : (get_or cs i c).at ≡ (get_or cs i d).at = ap (λ (x : Change). x.at) (get_or_default cs i c d inside) in
    let there : (get_or (drop i cs) j d).at ≡ (get_or cs (i + j) d).at = ap (λ (x : Change). x.at) (get_or-drop i cs j d) in
    omega (arith, low, same, there, before))

-- one history after the other
loaded-append : (k : ℕ) (was : Bool) (xs ys : List Change) → loaded_by k was (xs ++ ys) ≡ loaded_by k (loaded_by k was xs) ys
loaded-append k was [] ys = refl
loaded-append k was (x ∷ xs) ys = loaded-append k (if nat_le x.at k then x.load else was) xs ys

both-false : (b : Bool) → (if b then false else false) ≡ false
both-false true = refl
both-false false = refl

-- the modules that aren't loaded at first
absences : (m k : ℕ) (was : Bool) (absent : List ℕ) → loaded_by k was (filter (is_of m) (map absence absent)) ≡ (if list_any (λ other. other == m) absent then false else was)
absences m k was [] = refl
absences m k was (x ∷ xs) = by (x == m) refl (λ now. absences m k now xs)
  where
    by : (b : Bool) → (x == m) ≡ b → ((now : Bool) → loaded_by k now (filter (is_of m) (map absence xs)) ≡ (if list_any (λ other. other == m) xs then false else now))
        → loaded_by k was (filter (is_of m) (map absence (x ∷ xs))) ≡ (if list_any (λ other. other == m) (x ∷ xs) then false else was)
    by false e below = rw e (below was)
    by true e below =
        let first : loaded_by k was (absence x ∷ filter (is_of m) (map absence xs)) ≡ loaded_by k false (filter (is_of m) (map absence xs)) =
        ap (λ (b : Bool). loaded_by k (if b then false else was) (filter (is_of m) (map absence xs))) (le-leb 0 k (omega arith)) in
        rw e (first ∙ below false ∙ both-false (list_any (λ other. other == m) xs))

turned : (b : Bool) → (if b then false else true) ≡ not b
turned true = refl
turned false = refl

-- the whole history of a module
history-loaded : (plan : ModulePlan) (m k : ℕ) → loaded_by k true (filter (is_of m) (map absence plan.absent ++ plan.changes)) ≡ is_loaded_in plan m k
history-loaded plan m k =
    ap (λ (cs : List Change). loaded_by k true cs) (filter-append (is_of m) (map absence plan.absent) plan.changes)
    ∙ loaded-append k true (filter (is_of m) (map absence plan.absent)) (filter (is_of m) plan.changes)
    ∙ ap (λ (was : Bool). loaded_by k was (filter (is_of m) plan.changes)) (absences m k true plan.absent ∙ turned (list_any (λ other. other == m) plan.absent))

-- absences come before all changes
ordered-cons : (c : Change) (cs : List Change) → c.at ≡ 0 → IsNonDecreasingBy (λ (x : Change). x.at) cs → IsNonDecreasingBy (λ (x : Change). x.at) (c ∷ cs)
ordered-cons c cs z h zero j d le b = omega (arith, z)
ordered-cons c cs z h (suc i) zero d le b = absurd (omega (arith, le))
ordered-cons c cs z h (suc i) (suc j) d le b = h i j d (omega (arith, le)) (omega (arith, b))

ordered-story : (absent : List ℕ) (cs : List Change) → IsNonDecreasingBy (λ (x : Change). x.at) cs → IsNonDecreasingBy (λ (x : Change). x.at) (map absence absent ++ cs)
ordered-story [] cs h = h
ordered-story (x ∷ xs) cs h = ordered-cons (absence x) (map absence xs ++ cs) refl (ordered-story xs cs h)

module _ (plan : ModulePlan) (owners : List (Option ℕ)) (histories : List (List Change)) (keeps : Keeps plan owners histories) (m : ℕ) (inside : m < length histories) where
  pub kept-loaded : (k : ℕ) → loaded_by k true (get_or histories m []) ≡ is_loaded_in plan m k
  kept-loaded k = ap (λ (cs : List Change). loaded_by k true cs) (keeps.changes m inside) ∙ history-loaded plan m k

  pub kept-ordered : IsNonDecreasingBy (λ (x : Change). x.at) (get_or histories m [])
  kept-ordered =
      subst (λ (cs : List Change). IsNonDecreasingBy (λ (x : Change). x.at) cs) (sym (keeps.changes m inside))
      (IsNonDecreasingBy-filter (λ (x : Change). x.at) (is_of m) (map absence plan.absent ++ plan.changes) (ordered-story plan.absent plan.changes keeps.ordered))

-- ## the search for the first number of commands

and-right : (a b : Bool) → b ≡ true → (a && b) ≡ a
and-right true b e = e
and-right false b e = refl

not-true : (b : Bool) → not b ≡ true → b ≡ false
not-true false e = refl
not-true true e = sym e

not-false : (b : Bool) → not b ≡ false → b ≡ true
not-false true e = refl
not-false false e = sym e

module _ (history : List Change) (i : ℕ) (d : Change) (from since : ℕ) (loaded : Bool) (inside : i < length history) (up : from ≤ since)
    (past : IsNonDecreasingBy (λ (x : Change). x.at) history → (k : ℕ) → from ≤ k → k < since → loaded_by k true history ≡ true)
    (rest : (k : ℕ) → since ≤ k → loaded_by k true history ≡ loaded_by k loaded (drop i history)) where
  -- it is away, and the next change comes later
  pub away-found : (not loaded && nat_lt since (get_or history i d).at) ≡ true → IsNonDecreasingBy (λ (x : Change). x.at) history
      → IsLeast (λ k. (from ≤ k) × (loaded_by k true history ≡ false)) (Some since)
  away-found away ordered =
      let both = and_both (not loaded) (nat_lt since (get_or history i d).at) away in
      let gone : loaded ≡ false = not-true loaded both.0 in
      let later : since < (get_or history i d).at = ltb-true since (get_or history i d).at both.1 in
      let here : loaded_by since true history ≡ false = rest since (omega arith) ∙ still-rest since loaded history i d ordered inside later ∙ gone in (
        (up, here),
        λ m h. elim (cases_lt m since) [
          | inl below ↦ absurd (true≢false (sym (past ordered m h.0 below) ∙ h.1))
          | inr above ↦ above
        ],
      )

  -- it isn't, or the next change comes at once
  module _ (stays : (not loaded && nat_lt since (get_or history i d).at) ≡ false) (next : ℕ) (is : next ≡ max since (get_or history i d).at) where
    pub past-more : IsNonDecreasingBy (λ (x : Change). x.at) history → (k : ℕ) → from ≤ k → k < next → loaded_by k true history ≡ true
    past-more ordered k low high = elim (cases_lt k since) [
      | inl below ↦ past ordered k low below
      | inr above ↦
          let before : k < (get_or history i d).at = omega (arith, is, above, high) in
          let later : nat_lt since (get_or history i d).at ≡ true = lt-ltb since (get_or history i d).at (omega (arith, above, before)) in
          let there : loaded ≡ true = not-false loaded (sym (and-right (not loaded) (nat_lt since (get_or history i d).at) later) ∙ stays) in
          rest k above ∙ still-rest k loaded history i d ordered inside before ∙ there
    ]

    pub rest-more : (k : ℕ) → next ≤ k → loaded_by k true history ≡ loaded_by k (get_or history i d).load (drop (i + 1) history)
    rest-more k high =
        let here : nat_le (get_or history i d).at k ≡ true = le-leb (get_or history i d).at k (omega (arith, is, high)) in
        rest k (omega (arith, is, high)) ∙ ap (λ (cs : List Change). loaded_by k loaded cs) (drop_more history i d inside)
        ∙ ap (λ (b : Bool). loaded_by k (if b then (get_or history i d).load else loaded) (drop (i + 1) history)) here

-- ## the histories

-- one change more in one of them
pub put-more : {Z : Type 0} (histories : List (Vec Change Z)) (m : ℕ) (v w : Vec Change Z) (c : Change) → m < length histories → v ≡ get_or histories m v → w.items ≡ v.items ++ c ∷ []
    → lists (set histories m w) ≡ set (lists histories) m (get_or (lists histories) m [] ++ c ∷ [])
put-more {Z} histories m v w c inside here more =
    let items : Vec Change Z → List Change = λ (x : Vec Change Z). x.items in
    map-set items histories m w
    ∙ ap (λ (xs : List Change). set (lists histories) m xs) (more ∙ ap (λ (xs : List Change). xs ++ c ∷ []) (ap items here ∙ sym (get_or-map items histories m v [] inside)))
