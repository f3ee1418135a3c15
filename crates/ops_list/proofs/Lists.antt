-- What words say of the list of users, and what becomes of the list when one word changes. The facts speak of links as a function of
-- numbers, and of no stepper.
use Rattle.std.proofs.Common.{◌≡◌, ℕ, suc, ◌<◌, Bool, true, false, ◌==◌, List, [], ◌∷◌, ◌++◌, length, inl, inr, refl, sym, ap, ◌∙◌, subst, arith, eqb-true}
use Rattle.std.proofs.lemmas.Bool.Decides.{nat_tests}
use Rattle.ft_base.specs.Order.{has}
use Rattle.word_map.specs.Chains.{Leads}
use Rattle.ft_base.proofs.Small.{false_true, ==-refl, or-false_both, or-true, or-true_either}
use Rattle.word_map.specs.Words.{at_put}
use Rattle.word_map.specs.Contents.{name_of}
use Rattle.ops_list.specs.Lists.{nth_user, last_from}

-- ## what words say

-- a word that leads to a list names its first user
pub leads-name : (link : ℕ → ℕ) (w : ℕ) (l : List ℕ) → Leads link w l → w ≡ name_of (nth_user l 0)
leads-name link w [] r = r
leads-name link w (u ∷ us) r = r.0

-- from a user of a list the links lead to those after it
pub leads-after : (link : ℕ → ℕ) (w : ℕ) (front back : List ℕ) (u : ℕ) → Leads link w (front ++ u ∷ back) → Leads link (link u) back
leads-after link w [] back u r = r.1
leads-after link w (v ∷ vs) back u r = leads-after link (link v) vs back u r.1

-- a word leads to one list
pub leads-one : (link : ℕ → ℕ) (w : ℕ) (l m : List ℕ) → Leads link w l → Leads link w m → l ≡ m
leads-one link w [] [] a b = refl
leads-one link w [] (v ∷ vs) a b = absurd (let e : 0 ≡ suc v = sym a ∙ b.0 in omega (arith, e))
leads-one link w (u ∷ us) [] a b = absurd (let e : suc u ≡ 0 = sym a.0 ∙ b in omega (arith, e))
leads-one link w (u ∷ us) (v ∷ vs) a b =
    let names : suc u ≡ suc v = sym a.0 ∙ b.0 in
    let first : u ≡ v = omega (arith, names) in
    let rest : us ≡ vs = leads-one link (link u) us vs a.1 (subst (λ x. Leads link (link x) vs) (sym first) b.1) in
    λ i. first i ∷ rest i

-- a user of a list leads to a shorter one
leads-shorter : (link : ℕ → ℕ) (w : ℕ) (l : List ℕ) (u : ℕ) → Leads link w l → has u l ≡ true
    → (back : List ℕ) × (length back < length l) × Leads link (link u) back
leads-shorter link w [] u r h = false_true h
leads-shorter link w (v ∷ vs) u r h =
    elim (or-true_either (v == u) (has u vs) h) [
      | inl e ↦ (vs, omega arith, subst (λ x. Leads link (link x) vs) (eqb-true v u e) r.1)
      | inr t ↦ (let a = leads-shorter link (link v) vs u r.1 t in (a.0, (let less = a.1 in omega (arith, less)), a.2))
    ]

-- the first user comes once: from a second place its link would lead to a shorter list than from the first
leads-once : (link : ℕ → ℕ) (w : ℕ) (l : List ℕ) (u : ℕ) → Leads link w (u ∷ l) → has u l ≡ false
leads-once link w l u r = by_test (has u l) refl
  where
    by_test : (b : Bool) → has u l ≡ b → b ≡ false
    by_test false e = refl
    by_test true e =
        let a = leads-shorter link (link u) l u r.1 e in
        let same : length l ≡ length a.0 = ap length (leads-one link (link u) l a.0 r.1 a.2) in
        let less = a.1 in absurd (omega (arith, less, same))

has-append : (u : ℕ) (xs ys : List ℕ) → has u (xs ++ ys) ≡ false → has u ys ≡ false
has-append u [] ys e = e
has-append u (x ∷ xs) ys e = has-append u xs ys (or-false_both (x == u) (has u (xs ++ ys)) e).1

-- each user comes once
pub leads-front : (link : ℕ → ℕ) (w : ℕ) (front back : List ℕ) (u : ℕ) → Leads link w (front ++ u ∷ back) → has u front ≡ false
leads-front link w [] back u r = refl
leads-front link w (v ∷ vs) back u r =
    let others : has v (u ∷ back) ≡ false = has-append v vs (u ∷ back) (leads-once link w (vs ++ u ∷ back) v r) in
    let differs : (u == v) ≡ false = (or-false_both (u == v) (has v back) others).0 in
    let first : (v == u) ≡ false = grind (arith, nat_tests) in
    rw (first, leads-front link (link v) vs back u r.1) refl

pub leads-back : (link : ℕ → ℕ) (w : ℕ) (front back : List ℕ) (u : ℕ) → Leads link w (front ++ u ∷ back) → has u back ≡ false
leads-back link w [] back u r = leads-once link w back u r
leads-back link w (v ∷ vs) back u r = leads-back link (link v) vs back u r.1

-- ## one word changes

at_put-same : (link : ℕ → ℕ) (i x : ℕ) → at_put link i x i ≡ x
at_put-same link i x = rw (==-refl i) refl

at_put-other : (link : ℕ → ℕ) (i x k : ℕ) → (k == i) ≡ false → at_put link i x k ≡ link k
at_put-other link i x k e = rw e refl

-- the link of a user that isn't on a list is free
pub leads-other : (link : ℕ → ℕ) (i x w : ℕ) (l : List ℕ) → has i l ≡ false → Leads link w l → Leads (at_put link i x) w l
leads-other link i x w [] out r = r
leads-other link i x w (u ∷ us) out r =
    let b = or-false_both (u == i) (has i us) out in
    (r.0, leads-other link i x (at_put link i x u) us b.1 (subst (λ y. Leads link y us) (sym (at_put-other link i x u b.0)) r.1))

-- a user that isn't on a list leads to it once its link names the first user
pub leads-linked : (link : ℕ → ℕ) (w : ℕ) (l : List ℕ) (u : ℕ) → has u l ≡ false → Leads link w l
    → let linked = at_put link u (name_of (nth_user l 0)) in Leads linked (linked u) l
leads-linked link w l u out r =
    let x : ℕ = name_of (nth_user l 0) in
    leads-other link u x (at_put link u x u) l out
    (subst (λ y. Leads link y l) (leads-name link w l r ∙ sym (at_put-same link u x)) r)

-- the user before another is neither that one nor after it
last-out : (link : ℕ → ℕ) (w v : ℕ) (vs back : List ℕ) (u : ℕ) → Leads link w (v ∷ vs ++ u ∷ back)
    → ((u == last_from v vs) ≡ false) × (has (last_from v vs) back ≡ false)
last-out link w v [] back u r = or-false_both (u == v) (has v back) (leads-once link w (u ∷ back) v r)
last-out link w v (y ∷ ys) back u r = last-out link (link v) y ys back u r.1

last-has : (v : ℕ) (vs rest : List ℕ) → has (last_from v vs) (v ∷ vs ++ rest) ≡ true
last-has v [] rest = rw (==-refl v) refl
last-has v (y ∷ ys) rest = rw (last-has y ys rest) (or-true (v == last_from y ys))

-- the users before that one are others
last-differs : (link : ℕ → ℕ) (w v y : ℕ) (ys rest : List ℕ) → Leads link w (v ∷ y ∷ ys ++ rest) → (v == last_from y ys) ≡ false
last-differs link w v y ys rest r = by_test (v == last_from y ys) refl
  where
    by_test : (b : Bool) → (v == last_from y ys) ≡ b → b ≡ false
    by_test false e = refl
    by_test true e =
        let again : has v (y ∷ ys ++ rest) ≡ true =
        subst (λ z. has z (y ∷ ys ++ rest) ≡ true) (sym (eqb-true v (last_from y ys) e)) (last-has y ys rest) in
        false_true (sym (leads-once link w (y ∷ ys ++ rest) v r) ∙ again)

-- once the link of the user before another names the one after that, the list lacks the one between
pub leads-unlink : (link : ℕ → ℕ) (w v : ℕ) (vs back : List ℕ) (u : ℕ) → Leads link w (v ∷ vs ++ u ∷ back)
    → Leads (at_put link (last_from v vs) (name_of (nth_user back 0))) w (v ∷ vs ++ back)
leads-unlink link w v [] back u r = (r.0, leads-linked link (link u) back v (last-out link w v [] back u r).1 r.1.1)
leads-unlink link w v (y ∷ ys) back u r =
    let i : ℕ = last_from y ys in let x : ℕ = name_of (nth_user back 0) in (
      r.0,
      subst (λ z. Leads (at_put link i x) z (y ∷ ys ++ back)) (sym (at_put-other link i x v (last-differs link w v y ys (u ∷ back) r)))
          (leads-unlink link (link v) y ys back u r.1),
    )

-- and that one has its link still, and leads to the users after it
pub unlinked-link : (link : ℕ → ℕ) (w v : ℕ) (vs back : List ℕ) (u x : ℕ) → Leads link w (v ∷ vs ++ u ∷ back)
    → at_put link (last_from v vs) x u ≡ link u
unlinked-link link w v vs back u x r = at_put-other link (last_from v vs) x u (last-out link w v vs back u r).0

pub unlinked-leads : (link : ℕ → ℕ) (w v : ℕ) (vs back : List ℕ) (u x : ℕ) → Leads link w (v ∷ vs ++ u ∷ back)
    → Leads (at_put link (last_from v vs) x) (link u) back
unlinked-leads link w v vs back u x r =
    leads-other link (last_from v vs) x (link u) back (last-out link w v vs back u r).1 (leads-after link w (v ∷ vs) back u r)
