-- The lists of sites that change.
use Rattle.std.proofs.Common.{cond, ◌≡◌, ℕ, zero, suc, ◌+◌, ◌-◌, ◌<◌, ◌≤◌, Bool, true, false, List, [], ◌∷◌, ◌++◌, refl, sym, ap, ap₂, ◌∙◌, arith, append_assoc, eqb-true, subst, append-nil}
use Rattle.ft_base.proofs.Small.{false_true, ==-refl}
use Rattle.site_bytes.specs.declared.insn.Insn.{Insn}
use Rattle.site_bytes.specs.declared.insn.Insn.TheVariants.{Nop, List as CallList, Own}
use Rattle.site_bytes.specs.declared.insn.SiteChange.{SiteChange}
use Rattle.ft_desk.specs.Sites.{same_insn, changed_sites}

-- an instruction is the same as itself
pub same_insn-refl : (a : Insn) → same_insn a a ≡ true
same_insn-refl Nop = refl
same_insn-refl CallList = refl
same_insn-refl (Own s) = ==-refl s

-- and of no other
pub same_insn-true : (a b : Insn) → same_insn a b ≡ true → a ≡ b
same_insn-true Nop Nop h = refl
same_insn-true Nop CallList h = false_true h
same_insn-true Nop (Own t) h = false_true h
same_insn-true CallList Nop h = false_true h
same_insn-true CallList CallList h = refl
same_insn-true CallList (Own t) h = false_true h
same_insn-true (Own s) Nop h = false_true h
same_insn-true (Own s) CallList h = false_true h
same_insn-true (Own s) (Own t) h = ap Own (eqb-true s t h)

pub same_insn-differ : (a b : Insn) → (a ≡ b → ⊥) → same_insn a b ≡ false
same_insn-differ a b ne = by (same_insn a b) refl
  where
    by : (x : Bool) → same_insn a b ≡ x → same_insn a b ≡ false
    by true e = absurd (ne (same_insn-true a b e))
    by false e = e

pub same_insn-equal : (a b : Insn) → a ≡ b → same_insn a b ≡ true
same_insn-equal a b e = subst (λ x. same_insn a x ≡ true) e (same_insn-refl a)

-- the change of a site
abbrev pub change : ℕ → Insn → SiteChange
change f insn = record { func = record { 0 = f }; insn = insn }

module _ (old new : ℕ → Insn) where
  changed-zero : (from : ℕ) → changed_sites old new from 0 ≡ []
  unfolding changed_sites
  changed-zero from = refl

  pub changed-same : (from n : ℕ) → same_insn (old from) (new from) ≡ true → changed_sites old new from (suc n) ≡ changed_sites old new (suc from) n
  unfolding changed_sites
  changed-same from n h = rw h refl

  pub changed-other : (from n : ℕ) → same_insn (old from) (new from) ≡ false
      → changed_sites old new from (suc n) ≡ change from (new from) ∷ changed_sites old new (suc from) n
  unfolding changed_sites
  changed-other from n h = rw h refl

  -- sites that stay are passed over
  pub changed-skip : (k from n : ℕ) → ((f : ℕ) → from ≤ f → f < from + k → same_insn (old f) (new f) ≡ true)
      → changed_sites old new from (k + n) ≡ changed_sites old new (from + k) n
  changed-skip zero from n h = let a : 0 + n ≡ n = omega arith in let b : from + 0 ≡ from = omega arith in rw (a, b) refl
  changed-skip (suc k) from n h =
      let a : suc k + n ≡ suc (k + n) = omega arith in
      let b : from + suc k ≡ suc from + k = omega arith in
      rw (a, b) (changed-same from (k + n) (h from (omega arith) (omega arith)) ∙ changed-skip k (suc from) n (λ f x y. h f (omega arith) (omega arith)))

  -- the same from one place to a later one
  pub changed-to : (from to size : ℕ) → from ≤ to → to ≤ size → ((f : ℕ) → from ≤ f → f < to → same_insn (old f) (new f) ≡ true)
      → changed_sites old new from (size - from) ≡ changed_sites old new to (size - to)
  changed-to from to size a b h =
      let e : size - from ≡ (to - from) + (size - to) = omega arith in
      let g : from + (to - from) ≡ to = omega arith in
      ap (λ x. changed_sites old new from x) e
      ∙ changed-skip (to - from) from (size - to) (λ f low high. h f low (omega arith))
      ∙ ap (λ x. changed_sites old new x (size - to)) g

  -- one more site is looked at: it is written down if it changes
  module _ (from f size : ℕ) (items whole : List SiteChange) (low : from ≤ f) (high : f < size)
      (skip : (g : ℕ) → from ≤ g → g < f → same_insn (old g) (new g) ≡ true)
      (before : items ++ changed_sites old new from (size - from) ≡ whole) where
    at_f : items ++ changed_sites old new f (suc (size - (f + 1))) ≡ whole
    at_f = let e : suc (size - (f + 1)) ≡ size - f = omega arith in
        rw e (ap (λ x. items ++ x) (sym (changed-to from f size low (omega arith) skip)) ∙ before)

    pub step-same : same_insn (old f) (new f) ≡ true → items ++ changed_sites old new (f + 1) (size - (f + 1)) ≡ whole
    step-same h = let e : f + 1 ≡ suc f = omega arith in
        ap (λ x. items ++ changed_sites old new x (size - (f + 1))) e ∙ ap (λ x. items ++ x) (sym (changed-same f (size - (f + 1)) h)) ∙ at_f

    pub step-other : same_insn (old f) (new f) ≡ false
        → (items ++ change f (new f) ∷ []) ++ changed_sites old new (f + 1) (size - (f + 1)) ≡ whole
    step-other h = let e : f + 1 ≡ suc f = omega arith in
        append_assoc items (change f (new f) ∷ []) _
        ∙ ap (λ x. items ++ (change f (new f) ∷ changed_sites old new x (size - (f + 1)))) e
        ∙ ap (λ x. items ++ x) (sym (changed-other f (size - (f + 1)) h)) ∙ at_f

  -- the same by the list that `push_change` makes
  pub step : (from f size : ℕ) (items whole items' : List SiteChange) (o n : Insn) → from ≤ f → f < size
      → ((g : ℕ) → from ≤ g → g < f → same_insn (old g) (new g) ≡ true)
      → items ++ changed_sites old new from (size - from) ≡ whole
      → o ≡ old f → n ≡ new f → items' ≡ cond (same_insn o n) items (items ++ change f n ∷ [])
      → items' ++ changed_sites old new (f + 1) (size - (f + 1)) ≡ whole
  step from f size items whole items' o n low high skip before eo en pushed = by (same_insn o n) refl pushed
    where
      by : (b : Bool) → same_insn o n ≡ b → items' ≡ cond b items (items ++ change f n ∷ [])
          → items' ++ changed_sites old new (f + 1) (size - (f + 1)) ≡ whole
      by true e p = rw p (step-same from f size items whole low high skip before (ap₂ same_insn (sym eo) (sym en) ∙ e))
      by false e p = rw (p, en) (step-other from f size items whole low high skip before (ap₂ same_insn (sym eo) (sym en) ∙ e))

  -- no further site changes
  pub changed-none : (from size : ℕ) (items whole : List SiteChange) → from ≤ size
      → ((g : ℕ) → from ≤ g → g < size → same_insn (old g) (new g) ≡ true)
      → items ++ changed_sites old new from (size - from) ≡ whole → items ≡ whole
  changed-none from size items whole low skip before =
      let e : size - size ≡ 0 = omega arith in
      sym (append-nil items) ∙ ap (λ x. items ++ x) (sym (changed-to from size size low (omega arith) skip ∙ ap (λ n. changed_sites old new size n) e ∙ changed-zero size)) ∙ before

-- lists of sites of the same instructions are the same
pub changed-ext : (old new old' new' : ℕ → Insn) (from n : ℕ)
    → ((f : ℕ) → f < from + n → old f ≡ old' f) → ((f : ℕ) → f < from + n → new f ≡ new' f)
    → changed_sites old new from n ≡ changed_sites old' new' from n
unfolding changed_sites
changed-ext old new old' new' from zero a b = refl
changed-ext old new old' new' from (suc n) a b =
    let here = a from (omega arith) in
    let there = b from (omega arith) in
    rw (here, there, changed-ext old new old' new' (suc from) n (λ f h. a f (omega arith)) (λ f h. b f (omega arith))) refl
