-- The sites of a plan are those that the word machine finds: two typed instructions are the same if their numbers are.
use Rattle.std.proofs.Common.{cond, ◌≡◌, ◌≢◌, ℕ, zero, suc, ◌+◌, ◌==◌, Bool, true, false, not, List, ◌∷◌, refl, sym, ap, ap₂, ◌∙◌, arith, inl, inr}
use Rattle.std.proofs.lemmas.Bool.{eq-eqb}
use Rattle.std.proofs.lemmas.Bool.Decides.{eqb_tells}
use Rattle.ft_base.specs.Job.{Job, funcs}
use Rattle.ft_base.specs.Desk.{desk}
use Rattle.site_bytes.specs.declared.insn.Insn.{Insn}
use Rattle.site_bytes.specs.declared.insn.Insn.TheVariants.{Nop, List as CallList, Own}
use Rattle.site_bytes.specs.declared.insn.SiteChange.{SiteChange}
use Rattle.word_map.specs.Instructions.{insn_at, insn_numbered, number_of}
use Rattle.ft_desk.specs.Plans.{sites_between}
use Rattle.ft_desk.specs.Sites.{changed_sites, same_insn}
use Rattle.word_machine.specs.Commands.{changed, changed_from, changes, insn}

-- ## instructions and their numbers

-- the number of a call of a trampoline, as `insn_numbered` takes it apart
own-number : (s : ℕ) → 2 + s ≡ suc (suc s)
own-number s = omega arith

-- an instruction is the one with its number
pub insn-numbered_back : (i : Insn) → insn_numbered (number_of i) ≡ i
insn-numbered_back Nop = refl
insn-numbered_back CallList = refl
insn-numbered_back (Own s) = rw (own-number s) refl

-- numbers that differ are not equal by the test
differ : (a b : ℕ) → a ≢ b → false ≡ (a == b)
differ a b ne = elim (eqb_tells a b) [ inl e ↦ absurd (ne e.1) | inr e ↦ sym e.0 ]

-- two are the same if their numbers are
same-number : (i j : Insn) → same_insn i j ≡ (number_of i == number_of j)
same-number Nop Nop = refl
same-number Nop CallList = refl
same-number Nop (Own t) = differ 0 (2 + t) (λ e. omega (arith, e))
same-number CallList Nop = refl
same-number CallList CallList = refl
same-number CallList (Own t) = differ 1 (2 + t) (λ e. omega (arith, e))
same-number (Own s) Nop = differ (2 + s) 0 (λ e. omega (arith, e))
same-number (Own s) CallList = differ (2 + s) 1 (λ e. omega (arith, e))
same-number (Own s) (Own t) = elim (eqb_tells s t) [
  | inl e ↦ e.0 ∙ sym (eq-eqb (2 + s) (2 + t) (ap (λ n. 2 + n) e.1))
  | inr e ↦ (let ne = e.1 in e.0 ∙ differ (2 + s) (2 + t) (λ n. ne (omega (arith, n))))
]

-- ## sites

-- the machine's instruction of a site is the number of the desk's
insn-is : (job : Job) (k f : ℕ) → insn job k f ≡ number_of (insn_at (desk job k) f)
unfolding insn insn_at
insn-is job k f = refl

-- a choice, the other way round
unless : (b : Bool) (xs ys : List SiteChange) → cond b xs ys ≡ cond (not b) ys xs
unless true xs ys = refl
unless false xs ys = refl

module _ (job : Job) (d : ℕ) where
  -- a site changes if its typed instruction does
  changes-is : (f : ℕ) → not (same_insn (insn_at (desk job d) f) (insn_at (desk job (suc d)) f)) ≡ changes job d f
  changes-is f = ap not (same-number (insn_at (desk job d) f) (insn_at (desk job (suc d)) f))
      ∙ sym (ap₂ (λ a b. not (a == b)) (insn-is job d f) (insn-is job (suc d) f))

  -- and then has the desk's
  becomes-is : (f : ℕ) → insn_at (desk job (suc d)) f ≡ insn_numbered (insn job (suc d) f)
  becomes-is f = sym (ap insn_numbered (insn-is job (suc d) f) ∙ insn-numbered_back (insn_at (desk job (suc d)) f))

  -- the sites from one on, of which there are `n`
  found : (n from : ℕ) → changed_sites (insn_at (desk job d)) (insn_at (desk job (suc d))) from n ≡ changed_from job d from n
  unfolding changed_sites
  found zero from = refl
  found (suc n) from =
      unless (same_insn (insn_at (desk job d) from) (insn_at (desk job (suc d)) from)) _ _
      ∙ (λ i. cond (changes-is from i) (record { func = record { 0 = from }; insn = becomes-is from i } ∷ found n (suc from) i) (found n (suc from) i))

  pub sites-found : sites_between (desk job d) (desk job (suc d)) (funcs job) ≡ changed job d
  sites-found = found (funcs job) 0
