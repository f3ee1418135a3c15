-- An item may follow exactly if it keeps each part, and there is one verdict at most on a history.
use Rattle.std.proofs.Common.{◌≡◌, ◌⊎◌, ℕ, zero, suc, ◌-◌, ◌<◌, List, [], ◌∷◌, ◌++◌, take, drop, Some, refl, sym, ap, ◌∙◌, subst, arith, inl, inr}
use Rattle.std.specs.Prelude.{slice_get}
use Rattle.std.specs.List.{AllByRecursion as Each}
use Rattle.ft_base.specs.declared.item.Item.{Item}
use Rattle.ft_base.specs.Job.{Job}
use Rattle.ft_hist.specs.Rules.{IsLegal, MayFollow}
use Rattle.ft_hist.specs.Telling.{past_at}
use Rattle.ft_hist.proofs.RunLaws.{some_inj}
use Rattle.ft_hist.proofs.Splitting.{splits}
use Rattle.history_check.specs.declared.verdict.Rule.{Rule}
use Rattle.history_check.specs.declared.verdict.Rule.TheVariants.{PlainRun, Callbacks, Silence, Refusals, Exits, Fetches, Commands}
use Rattle.history_check.specs.declared.verdict.Verdict.{Verdict}
use Rattle.history_check.specs.declared.verdict.Verdict.TheVariants.{Whole, Legal, Broken}
use Rattle.history_check.specs.Parts.{BreaksFirst, Keeps, rank, rules}
use Rattle.history_check.specs.Verdicts.{IsBroken, IsVerdict}

-- ## legality is its parts

module _ (job : Job) (past : List Item) (item : Item) where
  pub all-parts : MayFollow job past item → (rule : Rule) → Keeps rule job past item
  all-parts m PlainRun = m.run
  all-parts m Callbacks = m.callbacks
  all-parts m Silence = m.silence
  all-parts m Refusals = m.refusals
  all-parts m Exits = m.exits
  all-parts m Fetches = m.fetches
  all-parts m Commands = m.commands

  pub of-parts : ((rule : Rule) → Keeps rule job past item) → MayFollow job past item
  of-parts k = record { run = k PlainRun; callbacks = k Callbacks; silence = k Silence; refusals = k Refusals; exits = k Exits; fetches = k Fetches; commands = k Commands }

-- ## parts in their order

at-rank : (r : Rule) → slice_get rules (rank r) ≡ Some r
at-rank PlainRun = refl
at-rank Callbacks = refl
at-rank Silence = refl
at-rank Refusals = refl
at-rank Exits = refl
at-rank Fetches = refl
at-rank Commands = refl

each-taken : {A : Type 0} (P : A → Type 0) (xs : List A) (n i : ℕ) (x : A) → Each P (take n xs) → i < n → slice_get xs i ≡ Some x → P x
each-taken P [] n i x all lt at = absurd cc
each-taken P (y ∷ xs) zero i x all lt at = absurd (omega (arith, lt))
each-taken P (y ∷ xs) (suc n) zero x all lt at = subst P (some_inj y x at) all.0
each-taken P (y ∷ xs) (suc n) (suc i) x all lt at = each-taken P xs n i x all.1 (omega (arith, lt)) at

three : (a b : ℕ) → (a < b) ⊎ ((a ≡ b) ⊎ (b < a))
three a b = grind arith

module _ (job : Job) (past : List Item) (item : Item) where
  earlier-kept : (r s : Rule) → BreaksFirst s job past item → rank r < rank s → Keeps r job past item
  earlier-kept r s b lt = each-taken (λ q. Keeps q job past item) rules (rank s) (rank r) r b.kept lt (at-rank r)

  one-rule : (r s : Rule) → BreaksFirst r job past item → BreaksFirst s job past item → r ≡ s
  one-rule r s b d = elim (three (rank r) (rank s)) [
    | inl lt ↦ absurd (b.broken (earlier-kept r s d lt))
    | inr (inl e) ↦ some_inj r s (sym (at-rank r) ∙ ap (slice_get rules) e ∙ at-rank s)
    | inr (inr gt) ↦ absurd (d.broken (earlier-kept s r b gt))
  ]

-- ## places

split-at : (xs : List Item) (p : ℕ) (x : Item) → slice_get xs p ≡ Some x → xs ≡ take p xs ++ x ∷ drop (suc p) xs
split-at [] p x e = absurd cc
split-at (y ∷ ys) zero x e = ap (λ z. z ∷ ys) (some_inj y x e)
split-at (y ∷ ys) (suc p) x e = ap (λ zs. y ∷ zs) (split-at ys p x e)

-- the beginning of a beginning
take-split : (xs : List Item) (p q : ℕ) (x : Item) → slice_get xs p ≡ Some x → p < q → take q xs ≡ take p xs ++ x ∷ take (q - suc p) (drop (suc p) xs)
take-split [] p q x e lt = absurd cc
take-split (y ∷ ys) p zero x e lt = absurd (omega (arith, lt))
take-split (y ∷ ys) zero (suc q) x e lt = let same : suc q - 1 ≡ q = omega arith in ap (λ z. z ∷ take q ys) (some_inj y x e) ∙ ap (λ n. x ∷ take n ys) (sym same)
take-split (y ∷ ys) (suc p) (suc q) x e lt =
    let same : suc q - suc (suc p) ≡ q - suc p = omega (arith, lt) in
    ap (λ zs. y ∷ zs) (take-split ys p q x e (omega (arith, lt)) ∙ ap (λ n. take p ys ++ x ∷ take n (drop (suc p) ys)) (sym same))

module _ (job : Job) (items : List Item) where
  -- no item of a legal history breaks a part
  not-legal : (p : ℕ) (r : Rule) → IsBroken job items p r → IsLegal job items → ⊥
  not-legal p r b legal =
      let follows = splits job items (take p items) b.item (drop (suc p) items) legal (split-at items p b.item b.here) in
      b.breaks.broken (all-parts job (past_at p items) b.item follows r)

  not-before : (p q : ℕ) (r s : Rule) → IsBroken job items p r → IsBroken job items q s → p < q → ⊥
  not-before p q r s b d lt =
      let follows = splits job (take q items) (take p items) b.item (take (q - suc p) (drop (suc p) items)) d.legal (take-split items p q b.item b.here lt) in
      b.breaks.broken (all-parts job (past_at p items) b.item follows r)

  one-broken : (p q : ℕ) (r s : Rule) → IsBroken job items p r → IsBroken job items q s → (p ≡ q) × (r ≡ s)
  one-broken p q r s b d = elim (three p q) [
    | inl lt ↦ absurd (not-before p q r s b d lt)
    | inr (inl e) ↦ (e, same e d)
    | inr (inr gt) ↦ absurd (not-before q p s r d b gt)
  ]
    where
      here : (d : IsBroken job items p s) → r ≡ s
      here d =
          let item : d.item ≡ b.item = some_inj d.item b.item (sym d.here ∙ b.here) in
          one-rule job (past_at p items) b.item r s b.breaks (subst (λ x. BreaksFirst s job (past_at p items) x) item d.breaks)

      same : p ≡ q → IsBroken job items q s → r ≡ s
      same e d = here (subst (λ n. IsBroken job items n s) (sym e) d)

  pub one-verdict : (v w : Verdict) → IsVerdict job items v → IsVerdict job items w → v ≡ w
  one-verdict Whole Whole a b = refl
  one-verdict Whole Legal a b = absurd (b.1 a)
  one-verdict Whole (Broken p r) a b = absurd (not-legal p r b a.legal)
  one-verdict Legal Whole a b = absurd (a.1 b)
  one-verdict Legal Legal a b = refl
  one-verdict Legal (Broken p r) a b = absurd (not-legal p r b a.0)
  one-verdict (Broken p r) Whole a b = absurd (not-legal p r a b.legal)
  one-verdict (Broken p r) Legal a b = absurd (not-legal p r a b.0)
  one-verdict (Broken p r) (Broken q s) a b = let same = one-broken p q r s a b in λ i. Broken (same.0 i) (same.1 i)
