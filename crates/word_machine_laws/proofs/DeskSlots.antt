-- Laws of desks: two registered users never have one trampoline, and slots, instructions and registered users are
-- among those of the job.
use Rattle.std.proofs.Common.{◌≡◌, ◌≢◌, ◌⊎◌, ℕ, zero, suc, Bool, true, not, ◌&&◌, Some, inl, inr, refl, sym, ap, ◌∙◌, subst, ◌+◌, ◌<◌, length, arith}
use Rattle.std.specs.List.{list_any}
use Rattle.std.proofs.lemmas.Bool.{cases_eq, cases_lt}
use Rattle.ft_base.specs.Job.{Job}
use Rattle.ft_base.specs.Desk.{Desk, UserState, desk, user_at, unseen, lowest, is_free, has_slot}
use Rattle.ft_base.specs.WellFormed.{IsWellFormed}
use Rattle.ft_base.proofs.Small.{false_true, ==-refl}
use Rattle.word_machine.specs.Commands.{Effect, Adds, Removes, Edits, Enables, Disables, Lists, Levels, Nothing, effect, subject, state_of, insn}
use Rattle.word_machine.specs.Trampolines.{HasSlot}
use Rattle.word_machine_laws.proofs.DeskChanges.{SubjectBy, between}
use Rattle.word_machine.proofs.Small.{lowest_case, lowest_passes, any_get}
use Rattle.word_machine_laws.proofs.CommandDesks.{others_same}
use Rattle.word_machine_laws.proofs.DeskStart.{none_at_start}
use Rattle.std.proofs.lemmas.List.{get_or_past}
use Rattle.ft_base.proofs.DeskLaws.{length-desk}
use Rattle.ft_hist.proofs.RunLaws.{some_inj}
use Rattle.word_machine_laws.proofs.DeskNumbers.{InsnSays, insn-says}

-- nobody has a free trampoline
free_none : (D : Desk) (t u : ℕ) → is_free D t ≡ true → HasSlot (user_at D u) t → ⊥
free_none D t u free h =
    let there : list_any (λ v. v.registered && has_slot t v.slot) D.users ≡ true =
    any_get (λ v. v.registered && has_slot t v.slot) D.users u (unseen 0) refl (rw (h.0, h.1) (==-refl t)) in
    false_true (sym (ap not there) ∙ free)

-- the user that a register command adds takes a free one
pub added_free : (job : Job) → IsWellFormed job → (d t : ℕ) → effect job d ≡ Adds → (state_of job (suc d) (subject job d)).slot ≡ Some t → (u : ℕ)
    → HasSlot (state_of job d u) t → ⊥
added_free job ok d t adds slot u h =
    let c : SubjectBy job (desk job d) (suc d) Adds (state_of job d (subject job d)) (state_of job (suc d) (subject job d)) =
    subst (λ z. SubjectBy job (desk job d) (suc d) z (state_of job d (subject job d)) (state_of job (suc d) (subject job d))) adds
    (between job ok d).subject in
    free_none (desk job d) t u (lowest_passes (is_free (desk job d)) 0 job.tramps t (sym (ap (λ (s : UserState). s.slot) c.1) ∙ slot)) h

-- the subject's trampoline is its old one, or was free
subject_slot : (job : Job) → IsWellFormed job → (d t : ℕ) → HasSlot (state_of job (suc d) (subject job d)) t
    → HasSlot (state_of job d (subject job d)) t ⊎ ((v : ℕ) → HasSlot (state_of job d v) t → ⊥)
subject_slot job ok d t h = by_effect (effect job d) refl (between job ok d).subject
  where
    by_effect : (z : Effect) → effect job d ≡ z → SubjectBy job (desk job d) (suc d) z (state_of job d (subject job d)) (state_of job (suc d) (subject job d))
        → HasSlot (state_of job d (subject job d)) t ⊎ ((v : ℕ) → HasSlot (state_of job d v) t → ⊥)
    by_effect Adds e c = inr (λ v x. added_free job ok d t e h.1 v x)
    by_effect Removes e c = false_true (sym (ap (λ (s : UserState). s.registered) c.1) ∙ h.0)
    by_effect Edits e c = inl (sym c.1.registered ∙ h.0, sym c.1.slot ∙ h.1)
    by_effect Enables e c = inl (subst (λ (s : UserState). HasSlot s t) c.1 h)
    by_effect Disables e c = inl (subst (λ (s : UserState). HasSlot s t) c.1 h)
    by_effect Lists e c = inl (subst (λ (s : UserState). HasSlot s t) c h)
    by_effect Levels e c = inl (subst (λ (s : UserState). HasSlot s t) c h)
    by_effect Nothing e c = inl (sym c.0.registered ∙ h.0, sym c.0.slot ∙ h.1)

pub slots_apart : (job : Job) → IsWellFormed job → (k u v t : ℕ) → HasSlot (state_of job k u) t → HasSlot (state_of job k v) t → u ≡ v
slots_apart job ok zero u v t h i = false_true (sym (none_at_start job u) ∙ h.0)
slots_apart job ok (suc k) u v t h i = elim (cases_eq u (subject job k)) [
  | inl eu ↦ elim (cases_eq v (subject job k)) [
    | inl ev ↦ eu ∙ sym ev
    | inr nv ↦ one u v eu nv (λ a b x y. slots_apart job ok k a b t x y) h i
  ]
  | inr nu ↦ elim (cases_eq v (subject job k)) [
    | inl ev ↦ sym (one v u ev nu (λ a b x y. slots_apart job ok k a b t x y) i h)
    | inr nv ↦ slots_apart job ok k u v t (subst (λ (s : UserState). HasSlot s t) (others_same job ok k u nu) h)
        (subst (λ (s : UserState). HasSlot s t) (others_same job ok k v nv) i)
  ]
]
  where
    one : (a b : ℕ) → a ≡ subject job k → b ≢ subject job k → ((x y : ℕ) → HasSlot (state_of job k x) t → HasSlot (state_of job k y) t → x ≡ y)
        → HasSlot (state_of job (suc k) a) t → HasSlot (state_of job (suc k) b) t → a ≡ b
    one a b ea nb before x y =
        let old : HasSlot (state_of job k b) t = subst (λ (s : UserState). HasSlot s t) (others_same job ok k b nb) y in
        elim (subject_slot job ok k t (subst (λ (w : ℕ). HasSlot (state_of job (suc k) w) t) ea x)) [
          | inl z ↦ ea ∙ before (subject job k) b z old
          | inr none ↦ absurd (none b old)
        ]

module _ (job : Job) (ok : IsWellFormed job) where
  lowest-small : (p : ℕ → Bool) (n t : ℕ) → lowest p 0 n ≡ Some t → t < n
  lowest-small p n t = lowest_case (λ o. o ≡ Some t → t < n) p 0 n (λ g is low high between e. (let z : g ≡ t = some_inj g t e in omega (arith, z, high)))
      (λ all e. absurd (cc))

  -- a trampoline that a user has is one of the job's
  pub slot-small : (k u t : ℕ) → HasSlot (state_of job k u) t → t < job.tramps
  slot-small zero u t h = false_true (sym (none_at_start job u) ∙ h.0)
  slot-small (suc k) u t h = elim (cases_eq u (subject job k)) [
    | inr ne ↦ slot-small k u t (subst (λ (s : UserState). HasSlot s t) ((between job ok k).others u ne) h)
    | inl e ↦ by_effect (effect job k) (between job ok k).subject (subst (λ x. HasSlot (state_of job (suc k) x) t) e h)
        (λ q. slot-small k u t (subst (λ x. HasSlot (state_of job k x) t) (sym e) q))
  ]
    where
      by_effect : (z : Effect) → SubjectBy job (desk job k) (suc k) z (state_of job k (subject job k)) (state_of job (suc k) (subject job k))
          → HasSlot (state_of job (suc k) (subject job k)) t
          → (HasSlot (state_of job k (subject job k)) t → t < job.tramps) → t < job.tramps
      by_effect Adds s h old = lowest-small (is_free (desk job k)) job.tramps t (sym (ap (λ (x : UserState). x.slot) s.1) ∙ h.1)
      by_effect Removes s h old = false_true (sym (ap (λ (x : UserState). x.registered) s.1) ∙ h.0)
      by_effect Edits s h old = old (s.0, sym s.1.slot ∙ h.1)
      by_effect Lists s h old = old (subst (λ (x : UserState). HasSlot x t) s h)
      by_effect Levels s h old = old (subst (λ (x : UserState). HasSlot x t) s h)
      by_effect Nothing s h old = old (sym s.0.registered ∙ h.0, sym s.0.slot ∙ h.1)
      by_effect _ s h old = old (s.0, sym (ap (λ (x : UserState). x.slot) s.1) ∙ h.1)

  pub insn-small : (k f : ℕ) → insn job k f < 2 + job.tramps
  insn-small k f = by (insn job k f) (insn-says job k f)
    where
      by : (n : ℕ) → InsnSays job k f n → n < 2 + job.tramps
      by zero s = omega arith
      by (suc zero) s = omega arith
      by (suc (suc t)) s = (let z = slot-small k s.0 t s.3 in omega (arith, z))

  -- a user that was ever registered is one of the job's
  pub since-inside : (k u : ℕ) → 0 < (state_of job k u).since → u < length job.users
  since-inside k u pos = elim (cases_lt u (length job.users)) [
    | inl h ↦ h
    | inr h ↦ (let e = length-desk job k in let past = get_or_past (desk job k).users u (unseen 0) (omega (arith, e, h)) in
        let z : (state_of job k u).since ≡ 0 = ap (λ (s : UserState). s.since) past in absurd (omega (arith, z, pos)))
  ]
