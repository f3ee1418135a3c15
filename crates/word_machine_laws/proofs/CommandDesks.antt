-- Laws of desks: what a command leaves of a user, which commands change no call site, and the order of users after
-- a command.
use Rattle.std.proofs.Common.{◌≡◌, ◌≢◌, ◌⊎◌, ℕ, suc, ◌+◌, Bool, true, false, ◌&&◌, not, List, [], ◌∷◌, length, get_or, Some, None, cond, inl, inr, refl, sym, ap, ◌∙◌, subst, arith}
use Rattle.std.specs.Prelude.{Option}
use Rattle.std.proofs.lemmas.Bool.{cases_eq, eq-eqb}
use Rattle.ft_base.specs.declared.item.Ran.TheVariants.{Own}
use Rattle.ft_base.specs.Job.{Job, Command, Register, Unregister, Filter, Notrace, Pid, NoPid, Enable, Disable, MaxDepth, commands}
use Rattle.ft_base.specs.Desk.{Desk, UserState, desk, user_at, unseen, is_sited, is_matching, matches_by, sited, sited_from, target, target_by, after, answer_on, is_accepted}
use Rattle.ft_base.specs.Order.{IsOrder, order_after}
use Rattle.ft_base.specs.WellFormed.{IsWellFormed, IsNamed}
use Rattle.ft_base.proofs.Small.{false_true, and_both}
use Rattle.ft_base.proofs.DeskLaws.{desk-suc, length-desk}
use Rattle.ft_base.proofs.Order.{order-same, after_command}
use Rattle.ft_base.proofs.Modifiers.{named-at}
use Rattle.word_map.specs.Instructions.{code_by}
use Rattle.word_machine.specs.Commands.{Effect, Adds, Removes, Edits, Enables, Disables, Lists, Levels, Nothing, insn, changes, effect, effect_in, effect_by, edits_or, subject, subject_of, subject_in, state_of, command}
use Rattle.word_machine.specs.Progress.{waits, patches, relinks, is_adds, is_removes}
use Rattle.word_machine_laws.proofs.DeskChanges.{SubjectBy, between}
use Rattle.word_machine_laws.proofs.DeskNumbers.{head_sited}

-- a fact of a registered user that stays if the user is enabled
abbrev pub StaysEnabled : (UserState → Type 0) → Type 0
StaysEnabled R = (s : UserState) → R s → (s.registered ≡ true) × R (record s { enabled = true })

-- registered alike, and if so with the same sets and slot
abbrev pub Alike : UserState → UserState → Type 0
Alike s t = (t.registered ≡ s.registered) × (s.registered ≡ true → (t.filter ≡ s.filter) × (t.notrace ≡ s.notrace) × (t.slot ≡ s.slot))

alike_same : (s t : UserState) → t ≡ s → Alike s t
alike_same s t e = (
  ap (λ (x : UserState). x.registered) e,
  (λ r. (ap (λ (x : UserState). x.filter) e, ap (λ (x : UserState). x.notrace) e, ap (λ (x : UserState). x.slot) e)),
)

sites_alike : (s t : UserState) (f : ℕ) → Alike s t → (t.registered && is_matching t f) ≡ (s.registered && is_matching s f)
sites_alike s t f a = by_reg s.registered refl
  where
    by_reg : (r : Bool) → s.registered ≡ r → (t.registered && is_matching t f) ≡ (s.registered && is_matching s f)
    by_reg true e = let x = a.1 e in λ i. (a.0 i && matches_by (x.0 i) (x.1 i) f)
    by_reg false e = rw (e, a.0 ∙ e) refl

sited_alike : (D E : Desk) (f base : ℕ) (us vs : List UserState) → length vs ≡ length us → ((i : ℕ) → Alike (get_or us i (unseen 0)) (get_or vs i (unseen 0)))
    → sited_from E f base vs ≡ sited_from D f base us
sited_alike D E f base [] [] len same = refl
sited_alike D E f base [] (v ∷ vs) len same = absurd (omega (arith, len))
sited_alike D E f base (u ∷ us) [] len same = absurd (omega (arith, len))
sited_alike D E f base (u ∷ us) (v ∷ vs) len same =
    let rest : sited_from E f (suc base) vs ≡ sited_from D f (suc base) us = sited_alike D E f (suc base) us vs (omega arith) (λ i. same (suc i)) in
    let e : (v.registered && is_matching v f) ≡ (u.registered && is_matching u f) = sites_alike u v f (same 0) in
    λ i. cond (e i) (base ∷ rest i) (rest i)

code_slot : (D : Desk) (u w : ℕ) → (user_at D u).slot ≡ Some w → code_by D (Own record { 0 = u }) ≡ 2 + w
code_slot D u w e = rw e refl

pub code_alike : (D E : Desk) (f : ℕ) → length E.users ≡ length D.users → ((u : ℕ) → Alike (user_at D u) (user_at E u))
    → code_by E (target E f) ≡ code_by D (target D f)
code_alike D E f len same = ap (λ l. code_by E (target_by E l)) (sited_alike D E f 0 D.users E.users len same) ∙ by_list (sited D f) refl
  where
    by_list : (l : List ℕ) → sited D f ≡ l → code_by E (target_by E l) ≡ code_by D (target_by D l)
    by_list [] e = refl
    by_list (u ∷ v ∷ rest) e = refl
    by_list (u ∷ []) e =
        let h = head_sited D f 0 D.users u [] e in
        let i : u ≡ h.0 = (let z = h.1 in omega (arith, z)) in
        let s : is_sited D u f ≡ true = subst (λ x. is_sited D x f ≡ true) (sym i) h.2 in
        by_slot (user_at D u).slot refl ((same u).1 (and_both (user_at D u).registered (is_matching (user_at D u) f) s).0).2
      where
        by_slot : (o : Option ℕ) → (user_at D u).slot ≡ o → (user_at E u).slot ≡ (user_at D u).slot
            → code_by E (target_by E (u ∷ [])) ≡ code_by D (target_by D (u ∷ []))
        by_slot None e e' = rw (e, e' ∙ e) refl
        by_slot (Some w) e e' = rw (e, e' ∙ e) (code_slot E u w (e' ∙ e) ∙ sym (code_slot D u w e))

module _ (job : Job) (ok : IsWellFormed job) (d : ℕ) where
  pub others_same : (v : ℕ) → v ≢ subject job d → state_of job (suc d) v ≡ state_of job d v
  others_same v ne = (between job ok d).others v ne

  -- what is so of a registered user stays so, or the command waits
  pub user_kept : (R : UserState → Type 0) (u : ℕ) → StaysEnabled R → R (state_of job d u) → (waits (effect job d) ≡ true) ⊎ R (state_of job (suc d) u)
  user_kept R u steady r = elim (cases_eq u (subject job d)) [
    | inl e ↦ subst (λ x. (waits (effect job d) ≡ true) ⊎ R (state_of job (suc d) x)) (sym e)
        (by_effect (effect job d) (between job ok d).subject (subst (λ x. R (state_of job d x)) e r))
    | inr ne ↦ inr (subst R (sym (others_same u ne)) r)
  ]
    where
      by_effect : (z : Effect) → SubjectBy job (desk job d) (suc d) z (state_of job d (subject job d)) (state_of job (suc d) (subject job d))
          → R (state_of job d (subject job d))
          → (waits z ≡ true) ⊎ R (state_of job (suc d) (subject job d))
      by_effect Adds c x = false_true (sym c.0 ∙ (steady (state_of job d (subject job d)) x).0)
      by_effect Enables c x = inr (subst R (sym c.1) (steady (state_of job d (subject job d)) x).1)
      by_effect Nothing c x = inr (subst R (sym (c.1 (steady (state_of job d (subject job d)) x).0)) x)
      by_effect _ c x = inl refl

  alike_by : patches (effect job d) ≡ false → (u : ℕ) → Alike (state_of job d u) (state_of job (suc d) u)
  alike_by none u = elim (cases_eq u (subject job d)) [
    | inr ne ↦ alike_same (state_of job d u) (state_of job (suc d) u) (others_same u ne)
    | inl e ↦ subst (λ x. Alike (state_of job d x) (state_of job (suc d) x)) (sym e) (by_effect (effect job d) (between job ok d).subject none)
  ]
    where
      by_effect : (z : Effect) → SubjectBy job (desk job d) (suc d) z (state_of job d (subject job d)) (state_of job (suc d) (subject job d))
          → patches z ≡ false
          → Alike (state_of job d (subject job d)) (state_of job (suc d) (subject job d))
      by_effect Adds c x = false_true (sym x)
      by_effect Removes c x = false_true (sym x)
      by_effect Edits c x = false_true (sym x)
      by_effect Enables c x = (
        ap (λ (y : UserState). y.registered) c.1,
        (λ r. (ap (λ (y : UserState). y.filter) c.1, ap (λ (y : UserState). y.notrace) c.1, ap (λ (y : UserState). y.slot) c.1)),
      )
      by_effect Disables c x = (
        ap (λ (y : UserState). y.registered) c.1,
        (λ r. (ap (λ (y : UserState). y.filter) c.1, ap (λ (y : UserState). y.notrace) c.1, ap (λ (y : UserState). y.slot) c.1)),
      )
      by_effect Lists c x = alike_same (state_of job d (subject job d)) (state_of job (suc d) (subject job d)) c
      by_effect Levels c x = alike_same (state_of job d (subject job d)) (state_of job (suc d) (subject job d)) c
      by_effect Nothing c x = (c.0.registered, (λ r. (alike_same (state_of job d (subject job d)) (state_of job (suc d) (subject job d)) (c.1 r)).1 r))

  -- a command that patches nothing changes no call site
  pub none_changes : patches (effect job d) ≡ false → (f : ℕ) → changes job d f ≡ false
  unfolding insn
  none_changes none f =
      let e : code_by (desk job (suc d)) (target (desk job (suc d)) f) ≡ code_by (desk job d) (target (desk job d) f) =
      code_alike (desk job d) (desk job (suc d)) f (length-desk job (suc d) ∙ sym (length-desk job d)) (alike_by none) in
      ap not (eq-eqb (insn job d f) (insn job (suc d) f) (sym e))

  -- a command that neither adds nor removes a user leaves who is registered, and since when
  pub rest_same : relinks (effect job d) ≡ false → (v : ℕ) → ((state_of job (suc d) v).registered ≡ (state_of job d v).registered)
      × ((state_of job (suc d) v).since ≡ (state_of job d v).since)
  rest_same none v = elim (cases_eq v (subject job d)) [
    | inr ne ↦ (ap (λ (s : UserState). s.registered) (others_same v ne), ap (λ (s : UserState). s.since) (others_same v ne))
    | inl e ↦ subst (λ x. ((state_of job (suc d) x).registered ≡ (state_of job d x).registered) × ((state_of job (suc d) x).since ≡ (state_of job d x).since))
        (sym e)
        (by_effect (effect job d) (between job ok d).subject none)
  ]
    where
      by_effect : (z : Effect) → SubjectBy job (desk job d) (suc d) z (state_of job d (subject job d)) (state_of job (suc d) (subject job d))
          → relinks z ≡ false
          → ((state_of job (suc d) (subject job d)).registered ≡ (state_of job d (subject job d)).registered)
          × ((state_of job (suc d) (subject job d)).since ≡ (state_of job d (subject job d)).since)
      by_effect Edits c x = (c.1.registered, c.1.since)
      by_effect Enables c x = (ap (λ (y : UserState). y.registered) c.1, ap (λ (y : UserState). y.since) c.1)
      by_effect Disables c x = (ap (λ (y : UserState). y.registered) c.1, ap (λ (y : UserState). y.since) c.1)
      by_effect Lists c x = (ap (λ (y : UserState). y.registered) c, ap (λ (y : UserState). y.since) c)
      by_effect Levels c x = (ap (λ (y : UserState). y.registered) c, ap (λ (y : UserState). y.since) c)
      by_effect Nothing c x = (c.0.registered, c.0.since)
      by_effect _ c x = false_true (sym x)

  -- its list is then the list of the desk that is begun
  pub order_flips : relinks (effect job d) ≡ false → (order : List ℕ) → IsOrder (desk job d) d order → IsOrder (desk job (suc d)) (suc d) order
  order_flips none order h = order-same (desk job d) (desk job (suc d)) d order (λ v. (rest_same none v).0) (λ v. (rest_same none v).1) h

  -- what the command is, by its effect
  pub sort_removes : effect job d ≡ Removes → (command job d ≡ Some (Unregister (subject job d)))
      × (is_accepted (answer_on job (desk job d) (Unregister (subject job d))) ≡ true)
  sort_removes e = by_command (command job d) refl e
    where
      edited : (b : Bool) → edits_or b ≡ Removes → ⊥
      edited true x = false_true (ap is_removes x)
      edited false x = false_true (ap is_removes x)

      by_effect : (c : Command) → effect_by (desk job d) c ≡ Removes → c ≡ Unregister (subject_of c)
      by_effect (Register u) x = false_true (ap is_removes x)
      by_effect (Unregister u) x = refl
      by_effect (Filter u y) x = absurd (edited (user_at (desk job d) u).registered x)
      by_effect (Notrace u y) x = absurd (edited (user_at (desk job d) u).registered x)
      by_effect (Pid y) x = false_true (ap is_removes x)
      by_effect (NoPid y) x = false_true (ap is_removes x)
      by_effect (Enable u) x = false_true (ap is_removes x)
      by_effect (Disable u) x = false_true (ap is_removes x)
      by_effect (MaxDepth n) x = false_true (ap is_removes x)

      by_answer : (c : Command) (b : Bool) → is_accepted (answer_on job (desk job d) c) ≡ b → cond b (effect_by (desk job d) c) Nothing ≡ Removes
          → (c ≡ Unregister (subject_of c)) × (is_accepted (answer_on job (desk job d) c) ≡ true)
      by_answer c true a x = (by_effect c x, a)
      by_answer c false a x = false_true (ap is_removes x)

      by_command : (o : Option Command) → command job d ≡ o → effect_in job d o ≡ Removes
          → (o ≡ Some (Unregister (subject_in o))) × (is_accepted (answer_on job (desk job d) (Unregister (subject_in o))) ≡ true)
      by_command None x y = false_true (ap is_removes y)
      by_command (Some c) x y =
          let r = by_answer c (is_accepted (answer_on job (desk job d) c)) refl y in
          (ap (λ (z : Command). Some z) r.0, subst (λ (z : Command). is_accepted (answer_on job (desk job d) z) ≡ true) r.0 r.1)

  pub sort_adds : effect job d ≡ Adds → (command job d ≡ Some (Register (subject job d)))
      × (is_accepted (answer_on job (desk job d) (Register (subject job d))) ≡ true)
  sort_adds e = by_command (command job d) refl e
    where
      edited : (b : Bool) → edits_or b ≡ Adds → ⊥
      edited true x = false_true (ap is_adds x)
      edited false x = false_true (ap is_adds x)

      by_effect : (c : Command) → effect_by (desk job d) c ≡ Adds → c ≡ Register (subject_of c)
      by_effect (Register u) x = refl
      by_effect (Unregister u) x = false_true (ap is_adds x)
      by_effect (Filter u y) x = absurd (edited (user_at (desk job d) u).registered x)
      by_effect (Notrace u y) x = absurd (edited (user_at (desk job d) u).registered x)
      by_effect (Pid y) x = false_true (ap is_adds x)
      by_effect (NoPid y) x = false_true (ap is_adds x)
      by_effect (Enable u) x = false_true (ap is_adds x)
      by_effect (Disable u) x = false_true (ap is_adds x)
      by_effect (MaxDepth n) x = false_true (ap is_adds x)

      by_answer : (c : Command) (b : Bool) → is_accepted (answer_on job (desk job d) c) ≡ b → cond b (effect_by (desk job d) c) Nothing ≡ Adds
          → (c ≡ Register (subject_of c)) × (is_accepted (answer_on job (desk job d) c) ≡ true)
      by_answer c true a x = (by_effect c x, a)
      by_answer c false a x = false_true (ap is_adds x)

      by_command : (o : Option Command) → command job d ≡ o → effect_in job d o ≡ Adds
          → (o ≡ Some (Register (subject_in o))) × (is_accepted (answer_on job (desk job d) (Register (subject_in o))) ≡ true)
      by_command None x y = false_true (ap is_adds y)
      by_command (Some c) x y =
          let r = by_answer c (is_accepted (answer_on job (desk job d) c)) refl y in
          (ap (λ (z : Command). Some z) r.0, subst (λ (z : Command). is_accepted (answer_on job (desk job d) z) ≡ true) r.0 r.1)

  -- the list after an accepted command
  pub order_next : (c : Command) (order : List ℕ) → command job d ≡ Some c → is_accepted (answer_on job (desk job d) c) ≡ true → IsOrder (desk job d) d order
      → IsOrder (desk job (suc d)) (suc d) (order_after order c)
  order_next c order is accepts h =
      subst (λ D. IsOrder D (suc d) (order_after order c)) (sym (desk-suc job d ∙ ap (λ (o : Option Command). after job (desk job d) (suc d) o) is))
      (subst (λ b. IsOrder (after job (desk job d) (suc d) (Some c)) (suc d) (cond b (order_after order c) order)) accepts
      (after_command job (desk job d) d order (length-desk job d) h c (named-at (IsNamed job) (commands job) d c is ok.commands)))
