-- An order of lanes is told by the lanes in which its lines come: each lane's lines have their own order.
use Rattle.std.proofs.Common.{cond, ◌≡◌, ◌≢◌, ◌<◌, ℕ, zero, suc, Bool, true, false, ◌||◌, ◌==◌, List, [], ◌∷◌, length, Option, Some, refl, sym, ap, ap₂, ◌∙◌, subst, eqb-true, arith}
use Rattle.std.specs.Prelude.{slice_get, eqb}
use Rattle.std.specs.List.{list_any, AllByRecursion as Each}
use Rattle.ft_base.specs.Job.{Job}
use Rattle.ft_base.proofs.Small.{==-refl, or-true}
use Rattle.word_machine_laws.specs.Orders.{before_all, picked, IsLed, lane_of, in_lane, IsLaneOrder}

-- ## lists by their elements

pub same-list : {A : Type 0} (xs ys : List A) → length xs ≡ length ys → ((i : ℕ) → i < length xs → slice_get xs i ≡ slice_get ys i) → xs ≡ ys
same-list [] [] e at = refl
same-list [] (y ∷ ys) e at = absurd (omega (arith, e))
same-list (x ∷ xs) [] e at = absurd (omega (arith, e))
same-list (x ∷ xs) (y ∷ ys) e at =
    let first : Some x ≡ Some y = at 0 (omega arith) in
    let one : x ≡ y = cc in
    ap₂ (λ z zs. z ∷ zs) one (same-list xs ys (omega (arith, e)) (λ i lt. at (suc i) (omega (arith, lt))))

there : (lanes : List ℕ) (k : ℕ) → k < length lanes → slice_get lanes k ≡ Some (lane_of lanes k)
there [] k lt = absurd (omega (arith, lt))
there (lane ∷ rest) zero lt = refl
there (lane ∷ rest) (suc k) lt = there rest k (omega (arith, lt))

-- ## numbers in an order

pub each-led : (P : ℕ → Type 0) (order : List ℕ) → ((k : ℕ) → IsLed order k → P k) → Each P order
each-led P [] all = tt
each-led P (k ∷ ks) all = (
  all k (ap (λ (b : Bool). b || list_any (eqb k) ks) (==-refl k)),
  each-led P ks (λ j led. all j (ap (λ (b : Bool). eqb j k || b) led ∙ or-true (eqb j k))),
)

-- each number that is below picks a thing
pub picked-all : {A : Type 0} (xs : List A) (order : List ℕ) → Each (λ k. k < length xs) order → length (picked xs order) ≡ length order
picked-all xs [] h = refl
picked-all xs (k ∷ ks) h = one xs k h.0 (picked xs ks) ∙ ap suc (picked-all xs ks h.1)
  where
    one : {A : Type 0} (ys : List A) (j : ℕ) → j < length ys → (zs : List A) → length (before_all (slice_get ys j) zs) ≡ suc (length zs)
    one [] j lt zs = absurd (omega (arith, lt))
    one (y ∷ ys) zero lt zs = refl
    one (y ∷ ys) (suc j) lt zs = one ys j (omega (arith, lt)) zs

-- ## lanes

module _ (lanes : List ℕ) where
  abbrev Below : ℕ → Type 0
  Below k = k < length lanes

  pub picked-first : (k : ℕ) (ks : List ℕ) → Below k → picked lanes (k ∷ ks) ≡ lane_of lanes k ∷ picked lanes ks
  picked-first k ks lt = ap (λ (lane : Option ℕ). before_all lane (picked lanes ks)) (there lanes k lt)

  -- the first line is of this lane, or of another
  pub own-lane : (l k : ℕ) (ks : List ℕ) → (lane_of lanes k == l) ≡ true → in_lane lanes l (k ∷ ks) ≡ k ∷ in_lane lanes l ks
  own-lane l k ks e = ap (λ (b : Bool). cond b (k ∷ in_lane lanes l ks) (in_lane lanes l ks)) e

  pub other-lane : (l k : ℕ) (ks : List ℕ) → (lane_of lanes k == l) ≡ false → in_lane lanes l (k ∷ ks) ≡ in_lane lanes l ks
  other-lane l k ks e = ap (λ (b : Bool). cond b (k ∷ in_lane lanes l ks) (in_lane lanes l ks)) e

  -- if orders have the same lines of each lane and begin with lines of one lane, they begin with one line
  same-first : (k j : ℕ) (ks js : List ℕ) → lane_of lanes k ≡ lane_of lanes j
      → ((l : ℕ) → in_lane lanes l (k ∷ ks) ≡ in_lane lanes l (j ∷ js)) → (k ≡ j) × ((l : ℕ) → in_lane lanes l ks ≡ in_lane lanes l js)
  same-first k j ks js lane all = (first, λ l. rest l (lane_of lanes k == l) refl)
    where
      both : (l : ℕ) → (lane_of lanes k == l) ≡ true → k ∷ in_lane lanes l ks ≡ j ∷ in_lane lanes l js
      both l is = sym (own-lane l k ks is) ∙ all l ∙ own-lane l j js (subst (λ (n : ℕ). (n == l) ≡ true) lane is)

      first : k ≡ j
      first = let e = both (lane_of lanes k) (==-refl (lane_of lanes k)) in cc

      rest : (l : ℕ) (b : Bool) → (lane_of lanes k == l) ≡ b → in_lane lanes l ks ≡ in_lane lanes l js
      rest l true is = let e = both l is in cc
      rest l false is = sym (other-lane l k ks is) ∙ all l ∙ other-lane l j js (subst (λ (n : ℕ). (n == l) ≡ false) lane is)

  same-order : (order other : List ℕ) → Each Below order → Each Below other → picked lanes order ≡ picked lanes other
      → ((l : ℕ) → in_lane lanes l order ≡ in_lane lanes l other) → order ≡ other
  same-order [] [] h g e all = refl
  same-order [] (j ∷ js) h g e all = let some : [] ≡ lane_of lanes j ∷ picked lanes js = e ∙ picked-first j js g.0 in absurd cc
  same-order (k ∷ ks) [] h g e all = let some : lane_of lanes k ∷ picked lanes ks ≡ [] = sym (picked-first k ks h.0) ∙ e in absurd cc
  same-order (k ∷ ks) (j ∷ js) h g e all =
      let both : lane_of lanes k ∷ picked lanes ks ≡ lane_of lanes j ∷ picked lanes js = sym (picked-first k ks h.0) ∙ e ∙ picked-first j js g.0 in
      let lane : lane_of lanes k ≡ lane_of lanes j = cc in
      let more : picked lanes ks ≡ picked lanes js = cc in
      let step = same-first k j ks js lane all in
      ap₂ (λ n ns. n ∷ ns) step.0 (same-order ks js h.1 g.1 more step.1)

  -- two orders of lanes that have the same lanes are one
  pub lanes-tell : (order other : List ℕ) → IsLaneOrder lanes order → IsLaneOrder lanes other → picked lanes order ≡ picked lanes other → order ≡ other
  lanes-tell order other is is' e =
      same-order order other (each-led Below order is.each.led.within) (each-led Below other is'.each.led.within) e (λ l. is.lanes' l ∙ sym (is'.lanes' l))

-- ## whether there are lanes

is-empty : (xs : List ℕ) → (length xs == 0) ≡ true → xs ≡ []
is-empty [] e = refl
is-empty (x ∷ xs) e = (let n : length (x ∷ xs) ≡ 0 = eqb-true (length (x ∷ xs)) 0 e in absurd (omega (arith, n)))

is-some : (xs : List ℕ) → (length xs == 0) ≡ false → xs ≢ []
is-some [] e none = absurd cc
is-some (x ∷ xs) e none = absurd cc

-- it was asked whether these lanes of a job are none
module _ (job : Job) (lanes : List ℕ) (empty : Bool) (are : lanes ≡ job.lines.lanes) (asked : empty ≡ (length lanes == 0)) where
  answered : empty ≡ (length job.lines.lanes == 0)
  answered = asked ∙ ap (λ (ls : List ℕ). length ls == 0) are

  pub no-lanes : empty ≡ true → job.lines.lanes ≡ []
  no-lanes yes' = is-empty job.lines.lanes (sym answered ∙ yes')

  pub some-lanes : empty ≡ false → job.lines.lanes ≢ []
  some-lanes no' = is-some job.lines.lanes (sym answered ∙ no')
