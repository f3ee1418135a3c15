-- A dispatch by a user's own trampoline: the load of its word, and of the user's state.
use Rattle.std.proofs.Common.{◌≡◌, ◌⊎◌, ℕ, suc, ◌≤◌, Bool, true, false, ◌&&◌, List, inl, inr, refl, sym, ap, ◌∙◌, subst, arith}
use Rattle.std.specs.List.{AllByRecursion as Each}
use Rattle.std.proofs.lemmas.Bool.{cases_eq, ne_eqb, eq-eqb}
use Rattle.ft_base.specs.declared.item.Ran.TheVariants.{Own}
use Rattle.ft_base.specs.declared.item.Item.{Item}
use Rattle.ft_base.specs.Job.{Job}
use Rattle.ft_base.specs.Desk.{UserState, desk, is_sited, is_on, is_matching}
use Rattle.ft_base.proofs.Small.{false_true}
use Rattle.ft_hist.specs.Past.{visits, Visit}
use Rattle.ft_hist.specs.Rules.{OnlyThose}
use Rattle.ft_hist.specs.Known.{WasOff}
use Rattle.word_map.specs.Contents.{high, sel_on, stands, tramp_user}
use Rattle.word_machine.specs.Commands.{Effect, Adds, Removes, Edits, Enables, Disables, Nothing, effect, subject, state_of}
use Rattle.word_machine.specs.Task.{OpenCall, InTramp, OwnSel, Closing, own_in, begin_call}
use Rattle.word_machine.specs.Progress.{SeenAt, HoldsAt, waits, selected, desk_by, quiet_reached}
use Rattle.word_machine.specs.HashCopies.{HashCopies, Reader}
use Rattle.word_machine.specs.Trampolines.{TrampolinesHeld}
use Rattle.word_machine.specs.Verdicts.{Here, Seen, Found, InOwn, Dispatches, BeforeVisit, may_come_before, may_come_closing}
use Rattle.word_machine.specs.Rule.{Counts, IsWordJob}
use Rattle.word_machine_laws.proofs.VerdictLaws.{seen_map, selected-underway}
use Rattle.word_machine_laws.proofs.DeskChanges.{SubjectBy, between, numbers-kept}
use Rattle.word_map.proofs.ContentLaws.{tramp-reads}
use Rattle.word_machine_laws.proofs.Contents.{sel-reg-is, test_on, test_off}
use Rattle.word_machine_laws.proofs.DeskNumbers.{other-same, registered-inside, sited-registered}
use Rattle.word_machine_laws.proofs.LoadMoments.{running, dispatch_goes}
use Rattle.word_machine_laws.proofs.LoadTests.{since_now, Comes, off-seen, seen-desk, low-of, begin_kept}
use Rattle.word_machine_laws.proofs.OwnWord.{own-word}

module _ (job : Job) (ok : IsWordJob job) (h : Here) (past : List Item) (clock : ℕ) (counts : Counts h.d h.p clock past) (ack q : ℕ) (c : OpenCall)
    (below : List OpenCall) where
  -- the load of a trampoline's word tells the user and its registration
  pub tramp_kept : (slot t : ℕ) (tramp : ℕ → ℕ) → TrampolinesHeld job h.d h.p tramp → quiet_reached (effect job h.d) h.p h.request t ≤ q
      → Dispatches job h past ack q c below (InTramp slot)
      → Dispatches job h past ack q (running c (Own (record { 0 = tramp_user (tramp slot) }))) below (OwnSel (tramp_user (tramp slot)) (high (tramp slot)))
  tramp_kept slot t tramp k passed x =
      dispatch_goes job h past ack q c below (InTramp slot) (OwnSel (tramp_user (tramp slot)) (high (tramp slot)))
      (Own (record { 0 = tramp_user (tramp slot) })) x (λ u un. inl refl)
      (x.at.0, (own.0.0, own.0.1, own.0.2, sym own.0.3.0), refl, (slot, own))
    where
      reads : (tramp_user (tramp slot) ≡ x.at.1.0) × (high (tramp slot) ≡ x.at.1.1)
      reads = tramp-reads (tramp slot) x.at.1.1 x.at.1.0
          (let i = registered-inside job x.at.1.2.0.0 x.at.1.0 x.at.1.2.0.3.1.0.0 in let m = ok.users in omega (arith, i, m))
          (own-word job h past q c slot x.at.1.0 x.at.1.1 t tramp k passed x.at.1.2)

      own : InOwn job h past q c slot (tramp_user (tramp slot)) (high (tramp slot))
      own = subst (λ (y : ℕ × ℕ). InOwn job h past q c slot y.0 y.1) (λ i. (sym reads.0 i, sym reads.1 i)) x.at.1.2

  -- the load of the user's state: it is on, or was off
  pub own_kept : (u reg : ℕ) (sel : ℕ → ℕ) → HashCopies job h.d h.p h.copies sel h.bits → Dispatches job h past ack q c below (OwnSel u reg)
      → Dispatches job h past ack q c below (own_in (stands (sel u) reg) (begin_call job c below u reg))
  own_kept u reg sel sets x = by (sel_on (sel u)) refl
    where
      Sited : ℕ → Type 0
      Sited k = (is_sited (desk job k) u c.func ≡ true) × ((state_of job k u).reg ≡ reg)

      sited : Seen job h q (selected h.p) Sited
      sited = seen_map (selected h.p) (effect job h.d) h.p h.request q _ _ (Sited h.d) (Sited (suc h.d)) (λ own. (own.0, own.1.1)) (λ own. (own.0, own.1.1))
          x.at.3.1.1

      s : UserState
      s = state_of job (desk_by (selected h.p) h.d) u

      number : high (sel u) ≡ reg
      number = sel-reg-is job s (sel u) (h.copies u) (h.bits u) (sets.small u) (sets.sels u) ∙ by_flag (selected h.p) sited
        where
          by_flag : (b : Bool) → SeenAt b (effect job h.d) h.p h.request q ((is_sited (desk job h.d) u c.func ≡ true) × ((state_of job h.d u).reg ≡ reg))
              ((is_sited (desk job (suc h.d)) u c.func ≡ true) × ((state_of job (suc h.d) u).reg ≡ reg))
              → (state_of job (desk_by b h.d) u).reg ≡ reg
          by_flag false own = own.1
          by_flag true (inl own) = own.1
          by_flag true (inr y) = (numbers-kept job ok.job' h.d u (sited-registered job h.d u c.func y.2.0)).1 ∙ y.2.1

      stands-is : (b : Bool) → sel_on (sel u) ≡ b → stands (sel u) reg ≡ b
      stands-is true e = rw (e, number) (eq-eqb reg reg refl)
      stands-is false e = rw e refl

      found : sel_on (sel u) ≡ true → Found job h q u reg c.func
      found on = by_flag (selected h.p) (test_on job s (sel u) (h.copies u) (h.bits u) (sets.small u) (sets.sels u) on).1 sited
        where
          On : ℕ → Type 0
          On k = (is_on (desk job k) u c.func ≡ true) × ((state_of job k u).reg ≡ reg)

          both : (k : ℕ) → (is_sited (desk job k) u c.func ≡ true) × ((state_of job k u).reg ≡ reg) → (state_of job k u).enabled ≡ true → On k
          both k own en = (rw (own.0, en) refl, own.1)

          by_flag : (b : Bool) → Reader job (state_of job (desk_by b h.d) u) (h.bits u (h.copies u)) (high (sel u))
              → SeenAt b (effect job h.d) h.p h.request q ((is_sited (desk job h.d) u c.func ≡ true) × ((state_of job h.d u).reg ≡ reg))
              ((is_sited (desk job (suc h.d)) u c.func ≡ true) × ((state_of job (suc h.d) u).reg ≡ reg))
              → SeenAt b (effect job h.d) h.p h.request q (On h.d) (On (suc h.d))
          by_flag false rd own = both h.d own rd.enabled
          by_flag true rd (inl own) = inl (both (suc h.d) own rd.enabled)
          by_flag true rd (inr y) = elim (other-same job ok.job' h.d u) [
            | inl same ↦ inl (both (suc h.d) (subst (λ (z : UserState). ((z.registered && is_matching z c.func) ≡ true) × (z.reg ≡ reg))
                (sym same) y.2) rd.enabled)
            | inr e ↦ by_effect (effect job h.d) (between job ok.job' h.d).subject y.0 e
          ]
            where
              by_effect : (z : Effect) → SubjectBy job (desk job h.d) (suc h.d) z (state_of job h.d (subject job h.d))
                  (state_of job (suc h.d) (subject job h.d)) → waits z ≡ true → u ≡ subject job h.d
                  → (On (suc h.d)) ⊎ ((waits (effect job h.d) ≡ true) × HoldsAt (effect job h.d) h.p h.request q × On h.d)
              by_effect Removes ch w e =
                  let off : (state_of job (suc h.d) u).registered ≡ false =
                  subst (λ v. (state_of job (suc h.d) v).registered ≡ false) (sym e) (ap (λ (z : UserState). z.registered) ch.1) in
                  false_true (sym off ∙ rd.registered)
              by_effect Disables ch w e =
                  let off : (state_of job (suc h.d) u).enabled ≡ false =
                  subst (λ v. (state_of job (suc h.d) v).enabled ≡ false) (sym e) (ap (λ (z : UserState). z.enabled) ch.1) in
                  false_true (sym off ∙ rd.enabled)
              by_effect Edits ch w e =
                  let same : (state_of job (suc h.d) u).enabled ≡ (state_of job h.d u).enabled =
                  subst (λ v. (state_of job (suc h.d) v).enabled ≡ (state_of job h.d v).enabled) (sym e) ch.1.enabled in
                  inr (y.0, y.1, both h.d y.2 (sym same ∙ rd.enabled))
              by_effect Adds ch w e = false_true w
              by_effect Enables ch w e = false_true w
              by_effect Nothing ch w e = false_true w
              by_effect _ ch w e =
                  let same : state_of job (suc h.d) u ≡ state_of job h.d u = subst (λ v. state_of job (suc h.d) v ≡ state_of job h.d v) (sym e) ch in
                  inl (both (suc h.d) (subst (λ (z : UserState). ((z.registered && is_matching z c.func) ≡ true) × (z.reg ≡ reg)) (sym same) y.2) rd.enabled)

      is : c.ran ≡ Own (record { 0 = u })
      is = x.at.2

      by : (b : Bool) → sel_on (sel u) ≡ b → Dispatches job h past ack q c below (own_in (stands (sel u) reg) (begin_call job c below u reg))
      by true e =
          subst (λ b. Dispatches job h past ack q c below (own_in b (begin_call job c below u reg))) (sym (stands-is true e))
          (begin_kept job ok h past clock counts ack q c below (OwnSel u reg) x u reg x.at.1
          (subst (λ r. BeforeVisit job h q r u (visits job c.call past)) (sym is) (refl, x.at.0))
          (subst (λ r. Comes job ok h past clock counts ack q c below (λ v. may_come_before (since_now job ok h past clock counts) r u v)) (sym is)
          (λ v un. inl refl))
          (found e))
      by false e =
          subst (λ b. Dispatches job h past ack q c below (own_in b (begin_call job c below u reg))) (sym (stands-is false e))
          (dispatch_goes job h past ack q c below (OwnSel u reg) Closing c.ran x
          (subst (λ r. Comes job ok h past clock counts ack q c below (λ v. may_come_closing r v)) (sym is)
          (λ v un. elim (cases_eq v u) [
            | inl g ↦ inr (subst (λ y. WasOff job c.call c.func y past) (sym g)
                (off-seen job ok h past clock counts ack q c below u (selected h.p) (selected-underway h.p)
                (low-of job ok h past clock counts ack q c below (OwnSel u reg) x)
                (seen-desk job ok h past clock counts ack q c below (selected h.p) (λ k. is_on (desk job k) u c.func ≡ false)
                (test_off job s (sel u) (h.copies u) c.func (h.bits u) (sets.small u) (sets.sels u) e))))
            | inr ne ↦ inl (rw (ne_eqb v u ne) refl)
          ]))
          (x.at.1, subst (λ r. OnlyThose r (visits job c.call past)) (sym is) (subst (λ ms. Each (λ (y : Visit). y.user ≡ u) ms) (sym x.at.0) tt)))
