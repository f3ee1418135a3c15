-- Laws of desks and the numbers of instructions: an instruction tells the target, and whoever is registered or sited
-- is a user of the job.
use Rattle.std.proofs.Common.{◌≡◌, ◌⊎◌, ℕ, zero, suc, ◌+◌, ◌<◌, Bool, true, false, not, ◌&&◌, List, [], ◌∷◌, get_or, Some, None, cond, inl, inr, refl, sym, ap, ◌∙◌, subst, arith, length}
use Rattle.std.specs.Prelude.{Option, ◌==◌, is_some}
use Rattle.std.proofs.lemmas.Bool.{cases_eq, cases_lt}
use Rattle.std.proofs.lemmas.Bool.Decides.{nat_tests}
use Rattle.ft_base.specs.declared.item.Ran.TheVariants.{Nop, List as ByList, Own}
use Rattle.ft_base.specs.Job.{Job}
use Rattle.ft_base.specs.WellFormed.{IsWellFormed}
use Rattle.ft_base.specs.Desk.{Desk, UserState, desk, user_at, unseen, is_sited, is_matching, sited, sited_from, target, target_by}
use Rattle.ft_base.proofs.Small.{false_true, and_both}
use Rattle.word_map.specs.Instructions.{code_by}
use Rattle.word_machine.specs.Commands.{Effect, Adds, Enables, Nothing, effect, subject, state_of, insn, changes}
use Rattle.word_machine.specs.Progress.{waits}
use Rattle.word_machine.specs.Trampolines.{HasSlot}
use Rattle.word_machine_laws.proofs.DeskChanges.{SubjectBy, between}
use Rattle.ft_base.proofs.DeskLaws.{length-desk}
use Rattle.std.proofs.lemmas.List.{get_or_past}

-- ## instructions

-- the first of those sited is sited
pub head_sited : (D : Desk) (f base : ℕ) (states : List UserState) (u : ℕ) (rest : List ℕ) → sited_from D f base states ≡ u ∷ rest
    → (i : ℕ) × (u ≡ base + i) × (((get_or states i (unseen 0)).registered && is_matching (get_or states i (unseen 0)) f) ≡ true)
head_sited D f base [] u rest e = absurd (cc)
head_sited D f base (s ∷ states) u rest e = by_test (s.registered && is_matching s f) refl e (λ h. head_sited D f (suc base) states u rest h)
  where
    by_test : (b : Bool) → (s.registered && is_matching s f) ≡ b → cond b (base ∷ sited_from D f (suc base) states) (sited_from D f (suc base) states)
        ≡ u ∷ rest
        → (sited_from D f (suc base) states ≡ u ∷ rest
        → (i : ℕ) × (u ≡ suc base + i) × (((get_or states i (unseen 0)).registered && is_matching (get_or states i (unseen 0)) f) ≡ true))
        → (i : ℕ) × (u ≡ base + i) × (((get_or (s ∷ states) i (unseen 0)).registered && is_matching (get_or (s ∷ states) i (unseen 0)) f) ≡ true)
    by_test true t h deeper = (0, (let z : base ≡ u = cc in omega (arith, z)), t)
    by_test false t h deeper = let r = deeper h in (suc r.0, (let z = r.1 in omega (arith, z)), r.2)

-- what an instruction's number says of the target
abbrev pub InsnSays : Job → ℕ → ℕ → ℕ → Type 0
InsnSays job k f zero = target (desk job k) f ≡ Nop
InsnSays job k f (suc zero) = target (desk job k) f ≡ ByList
InsnSays job k f (suc (suc t)) = (u : ℕ) × (target (desk job k) f ≡ Own (record { 0 = u })) × (is_sited (desk job k) u f ≡ true) × HasSlot (state_of job k u) t

pub insn-says : (job : Job) (k f : ℕ) → InsnSays job k f (insn job k f)
unfolding insn
insn-says job k f = by_sited (sited (desk job k) f) refl
  where
    by_sited : (l : List ℕ) → sited (desk job k) f ≡ l → InsnSays job k f (code_by (desk job k) (target (desk job k) f))
    by_sited [] s = (let e : target (desk job k) f ≡ Nop = ap (target_by (desk job k)) s in subst (λ r. InsnSays job k f (code_by (desk job k) r)) (sym e) e)
    by_sited (u ∷ v ∷ rest) s = (let e : target (desk job k) f ≡ ByList = ap (target_by (desk job k)) s in
        subst (λ r. InsnSays job k f (code_by (desk job k) r)) (sym e) e)
    by_sited (u ∷ []) s = by_slot (user_at (desk job k) u).slot refl
      where
        e : target (desk job k) f ≡ target_by (desk job k) (u ∷ [])
        e = ap (target_by (desk job k)) s

        by_slot : (o : Option ℕ) → (user_at (desk job k) u).slot ≡ o → InsnSays job k f (code_by (desk job k) (target (desk job k) f))
        by_slot None z =
            let t : target (desk job k) f ≡ ByList = e ∙ ap (λ (o : Option ℕ). cond (is_some o) (Own (record { 0 = u })) ByList) z in
            subst (λ r. InsnSays job k f (code_by (desk job k) r)) (sym t) t
        by_slot (Some w) z =
            let t : target (desk job k) f ≡ Own (record { 0 = u }) = e ∙ ap (λ (o : Option ℕ). cond (is_some o) (Own (record { 0 = u })) ByList) z in
            let r = head_sited (desk job k) f 0 (desk job k).users u [] s in
            let i : u ≡ r.0 = (let y = r.1 in omega (arith, y)) in
            let there : is_sited (desk job k) u f ≡ true = subst (λ x. is_sited (desk job k) x f ≡ true) (sym i) r.2 in
            let reg : (user_at (desk job k) u).registered
            ≡ true = (and_both (user_at (desk job k) u).registered (is_matching (user_at (desk job k) u) f) there).0 in
            let code : code_by (desk job k) (Own (record { 0 = u })) ≡ suc (suc w) = (let y : 2 + w ≡ suc (suc w) = omega arith in rw z y) in
            subst (λ r. InsnSays job k f (code_by (desk job k) r)) (sym t) (subst (λ n. InsnSays job k f n) (sym code) (u, t, there, (reg, z)))

-- a user's old state under a command: the new one is the same, or the command is about this user
module _ (job : Job) (ok : IsWellFormed job) where
  pub other-same : (k u : ℕ) → (state_of job (suc k) u ≡ state_of job k u) ⊎ (u ≡ subject job k)
  other-same k u = elim (cases_eq u (subject job k)) [ inl e ↦ inr e | inr ne ↦ inl ((between job ok k).others u ne) ]

  -- a user that was sited and has a trampoline: it still has both, or the command waits
  pub sites_kept : (d u f t : ℕ) → (is_sited (desk job d) u f ≡ true) × HasSlot (state_of job d u) t
      → (waits (effect job d) ≡ true) ⊎ ((is_sited (desk job (suc d)) u f ≡ true) × HasSlot (state_of job (suc d) u) t)
  sites_kept d u f t own = elim (cases_eq u (subject job d)) [
    | inr ne ↦ inr (subst (λ s. ((s.registered && is_matching s f) ≡ true) × HasSlot s t) (sym ((between job ok d).others u ne)) own)
    | inl e ↦ by_effect (effect job d) (between job ok d).subject (subst (λ x. (state_of job d x).registered ≡ true) e own.1.0)
        (subst (λ x. ((((state_of job d x).registered && is_matching (state_of job d x) f) ≡ true) × HasSlot (state_of job d x) t)) e own) e
  ]
    where
      s : UserState
      s = state_of job d (subject job d)

      s' : UserState
      s' = state_of job (suc d) (subject job d)

      P : UserState → Type 0
      P x = ((x.registered && is_matching x f) ≡ true) × HasSlot x t

      by_effect : (z : Effect) → SubjectBy job (desk job d) (suc d) z (state_of job d (subject job d)) (state_of job (suc d) (subject job d))
          → (state_of job d (subject job d)).registered ≡ true
          → P (state_of job d (subject job d)) → u ≡ subject job d
          → (waits z ≡ true) ⊎ ((is_sited (desk job (suc d)) u f ≡ true) × HasSlot (state_of job (suc d) u) t)
      by_effect Adds x r o e = false_true (sym x.0 ∙ r)
      by_effect Enables x r o e = inr (subst (λ y. P (state_of job (suc d) y)) (sym e) (subst P (sym x.1) o))
      by_effect Nothing x r o e = inr (subst (λ y. P (state_of job (suc d) y)) (sym e) (subst P (sym (x.1 r)) o))
      by_effect _ x r o e = inl refl

pub unchanged : (job : Job) (d f : ℕ) → changes job d f ≡ false → insn job d f ≡ insn job (suc d) f
unchanged job d f e = elim (cases_eq (insn job d f) (insn job (suc d) f))
    [ inl x ↦ x | inr x ↦ false_true (sym e ∙ (let t : (insn job d f == insn job (suc d) f) ≡ false = grind (arith, nat_tests) in ap not t)) ]

-- a registered user is one of the job's
pub registered-inside : (job : Job) (k u : ℕ) → (state_of job k u).registered ≡ true → u < length job.users
registered-inside job k u r = elim (cases_lt u (length job.users)) [
  | inl h ↦ h
  | inr h ↦ (let e = length-desk job k in let past = get_or_past (desk job k).users u (unseen 0) (omega (arith, e, h)) in
      false_true (sym (ap (λ (s : UserState). s.registered) past) ∙ r))
]

pub sited-registered : (job : Job) (k u f : ℕ) → is_sited (desk job k) u f ≡ true → (state_of job k u).registered ≡ true
sited-registered job k u f e = (and_both (state_of job k u).registered (is_matching (state_of job k u) f) e).0
