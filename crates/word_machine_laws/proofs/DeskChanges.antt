-- Laws of desks and the effects of commands: what one command changes between two desks, by its effect, and when
-- users were registered.
use Rattle.std.proofs.Common.{cond, ◌≡◌, ◌≢◌, ℕ, zero, suc, ◌+◌, ◌-◌, ◌<◌, ◌≤◌, Bool, true, false, List, [], ◌∷◌, length, map, get_or, Option, Some, None, refl, sym, ap, ◌∙◌, subst, arith, inl, inr}
use Rattle.std.specs.Prelude.{slice_get, ◌⊎◌}
use Rattle.std.proofs.lemmas.Bool.{cases_eq}
use Rattle.ft_base.specs.Job.{Job, Spec, funcs, Command, Register, Unregister, Filter, Notrace, Pid, NoPid, Enable, Disable, MaxDepth, commands}
use Rattle.ft_base.specs.Desk.{Desk, unseen, UserState, desk, user_at, answer_on, is_accepted, switch_answer, changed, registered_as, unregistered_as, with_user}
use Rattle.ft_base.specs.WellFormed.{IsWellFormed, IsNamed}
use Rattle.ft_base.proofs.Small.{false_true}
use Rattle.ft_base.proofs.DeskLaws.{length-desk, user_at-same, user_at-other}
use Rattle.ft_base.proofs.Modifiers.{named-at}
use Rattle.ft_base.proofs.Order.{not-registered}
use Rattle.word_machine.specs.Commands.{Effect, Adds, Removes, Edits, Enables, Disables, Lists, Levels, Nothing, effect_by, edits_or, effect, subject, subject_of, state_of, command}
use Rattle.word_machine.specs.Progress.{is_lists, is_levels}

-- a user's state but for its sets
pub record KeepsRest (s s' : UserState) : Type 0 where
  pub registered : s'.registered ≡ s.registered
  pub reg : s'.reg ≡ s.reg
  pub since : s'.since ≡ s.since
  pub enabled : s'.enabled ≡ s.enabled
  pub slot : s'.slot ≡ s.slot

-- the state of a command's user before and after it, by the effect
abbrev pub SubjectBy : Job → Desk → ℕ → Effect → UserState → UserState → Type 0
SubjectBy job d k Adds s s' = (s.registered ≡ false) × (s' ≡ registered_as job d k s)
SubjectBy job d k Removes s s' = (s.registered ≡ true) × (s' ≡ unregistered_as s)
SubjectBy job d k Edits s s' = (s.registered ≡ true) × KeepsRest s s'
SubjectBy job d k Enables s s' = (s.registered ≡ true) × (s' ≡ record s { enabled = true })
SubjectBy job d k Disables s s' = (s.registered ≡ true) × (s' ≡ record s { enabled = false })
SubjectBy job d k Lists s s' = s' ≡ s
SubjectBy job d k Levels s s' = s' ≡ s
SubjectBy job d k Nothing s s' = KeepsRest s s' × (s.registered ≡ true → s' ≡ s)

pub record Changed (job : Job) (k u : ℕ) (z : Effect) (d d' : Desk) : Type 0 where
  pub others : (v : ℕ) → v ≢ u → user_at d' v ≡ user_at d v
  pub subject : SubjectBy job d k z (user_at d u) (user_at d' u)
  pub lists : is_lists z ≡ false → (d'.pids ≡ d.pids) × (d'.nopids ≡ d.nopids)
  pub level : is_levels z ≡ false → d'.depth ≡ d.depth

rest-same : (s : UserState) → KeepsRest s s
rest-same s = record { registered = refl; reg = refl; since = refl; enabled = refl; slot = refl }

switches : (job : Job) (d : Desk) (u : ℕ) → is_accepted (switch_answer job d u) ≡ true → (user_at d u).registered ≡ true
switches job d u e = by (user_at d u).registered refl
  where
    by : (b : Bool) → (user_at d u).registered ≡ b → (user_at d u).registered ≡ true
    by true x = x
    by false x = false_true (rw x at e)

module _ (job : Job) (d : Desk) (k : ℕ) (size : length d.users ≡ length job.users) where
  refused : (u : ℕ) → Changed job k u Nothing d d
  refused u = record { others = λ v ne. refl; subject = (rest-same (user_at d u), (λ r. refl)); lists = λ e. (refl, refl); level = λ e. refl }

  one : (u : ℕ) (z : Effect) (s : UserState) → u < length job.users → SubjectBy job d k z (user_at d u) s → Changed job k u z d (with_user d u s)
  one u z s within by = record {
    others = λ v ne. user_at-other d u v s ne;
    subject = subst (λ x. SubjectBy job d k z (user_at d u) x) (sym (user_at-same d u s (rw size within))) by;
    lists = λ e. (refl, refl);
    level = λ e. refl;
  }

  edited-by : (u : ℕ) (s : UserState) → u < length job.users → KeepsRest (user_at d u) s
      → Changed job k u (edits_or (user_at d u).registered) d (with_user d u s)
  edited-by u s within keeps =
      elim (user_at d u).registered as (λ b. (user_at d u).registered ≡ b → Changed job k u (edits_or b) d (with_user d u s)) [
        | true ↦ λ e. one u Edits s within (e, keeps)
        | false ↦ λ e. one u Nothing s within (keeps, (λ r. false_true (sym e ∙ r)))
      ] refl

  accepted : (c : Command) → IsNamed job c → is_accepted (answer_on job d c) ≡ true → Changed job k (subject_of c) (effect_by d c) d (changed job d k c)
  accepted (Register u) w e = one u Adds _ w (not-registered job d u e, refl)
  accepted (Unregister u) w e = one u Removes _ w (registered-is (user_at d u).registered refl e, refl)
    where
      registered-is : (b : Bool) → (user_at d u).registered ≡ b → is_accepted (answer_on job d (Unregister u)) ≡ true → (user_at d u).registered ≡ true
      registered-is true x y = x
      registered-is false x y = false_true (rw x at y)
  accepted (Filter u x) w e = edited-by u _ w (record { registered = refl; reg = refl; since = refl; enabled = refl; slot = refl })
  accepted (Notrace u x) w e = edited-by u _ w (record { registered = refl; reg = refl; since = refl; enabled = refl; slot = refl })
  accepted (Pid pids) w e = record { others = λ v ne. refl; subject = refl; lists = λ z. false_true (sym z); level = λ z. refl }
  accepted (NoPid nopids) w e = record { others = λ v ne. refl; subject = refl; lists = λ z. false_true (sym z); level = λ z. refl }
  accepted (Enable u) w e = one u Enables _ w (switches job d u e, refl)
  accepted (Disable u) w e = one u Disables _ w (switches job d u e, refl)
  accepted (MaxDepth n) w e = record { others = λ v ne. refl; subject = refl; lists = λ z. (refl, refl); level = λ z. false_true (sym z) }

  pub changed-by : (c : Command) → IsNamed job c
      → Changed job k (subject_of c) (cond (is_accepted (answer_on job d c)) (effect_by d c) Nothing) d
      (cond (is_accepted (answer_on job d c)) (changed job d k c) d)
  changed-by c w =
      elim (is_accepted (answer_on job d c)) as (λ b. is_accepted (answer_on job d c) ≡ b
      → Changed job k (subject_of c) (cond b (effect_by d c) Nothing) d (cond b (changed job d k c) d)) [
        | true ↦ λ e. accepted c w e
        | false ↦ λ e. refused (subject_of c)
      ] refl

module _ (job : Job) (ok : IsWellFormed job) where
  -- between the desks of two numbers
  pub between : (k : ℕ) → Changed job (suc k) (subject job k) (effect job k) (desk job k) (desk job (suc k))
  unfolding desk
  between k = by (command job k) refl
    where
      by : (o : Option Command) → slice_get (commands job) k ≡ o → Changed job (suc k) (subject job k) (effect job k) (desk job k) (desk job (suc k))
      by None e = rw e (refused job (desk job k) (suc k) (length-desk job k) 0)
      by (Some c) e = rw e (changed-by job (desk job k) (suc k) (length-desk job k) c (named-at (IsNamed job) (commands job) k c e ok.commands))

  -- a user's last registration changes only if it is registered anew
  pub since-step : (k u : ℕ) → ((state_of job (suc k) u).since ≡ (state_of job k u).since)
      ⊎ (((state_of job (suc k) u).since ≡ suc k) × ((state_of job k u).registered ≡ false) × (u ≡ subject job k) × (effect job k ≡ Adds))
  since-step k u = elim (cases_eq u (subject job k)) [
    | inr ne ↦ inl (ap (λ (s : UserState). s.since) ((between k).others u ne))
    | inl e ↦ subst (λ x. ((state_of job (suc k) x).since ≡ (state_of job k x).since)
        ⊎ (((state_of job (suc k) x).since ≡ suc k) × ((state_of job k x).registered ≡ false) × (x ≡ subject job k) × (effect job k ≡ Adds))) (sym e)
        (by_effect (effect job k) refl (between k).subject)
  ]
    where
      v : ℕ
      v = subject job k

      by_effect : (z : Effect) → effect job k ≡ z → SubjectBy job (desk job k) (suc k) z (state_of job k (subject job k)) (state_of job (suc k) (subject job k))
          → ((state_of job (suc k) (subject job k)).since ≡ (state_of job k (subject job k)).since)
          ⊎ (((state_of job (suc k) (subject job k)).since ≡ suc k) × ((state_of job k (subject job k)).registered ≡ false)
          × (subject job k ≡ subject job k) × (effect job k ≡ Adds))
      by_effect Adds z s = inr (ap (λ (x : UserState). x.since) s.1, s.0, refl, z)
      by_effect Edits z s = inl s.1.since
      by_effect Lists z s = inl (ap (λ (x : UserState). x.since) s)
      by_effect Levels z s = inl (ap (λ (x : UserState). x.since) s)
      by_effect Nothing z s = inl s.0.since
      by_effect _ z s = inl (ap (λ (x : UserState). x.since) s.1)

  -- it never falls, and is at most the command's number
  pub since-more : (k u : ℕ) → (state_of job k u).since ≤ k → (state_of job k u).since ≤ (state_of job (suc k) u).since
  since-more k u le = elim (since-step k u) [ inl e ↦ omega (arith, e) | inr x ↦ (let e = x.0 in omega (arith, e, le)) ]

  pub since-small : (k u : ℕ) → (state_of job k u).since ≤ k
  unfolding desk
  since-small zero u = let e = start u in omega (arith, e)
    where
      start : (u : ℕ) → (state_of job 0 u).since ≡ 0
      start u = at job.users u
        where
          at : (specs : List Spec) (u : ℕ) → (get_or (map (λ s. unseen (funcs job)) specs) u (unseen 0)).since ≡ 0
          at [] u = refl
          at (s ∷ specs) zero = refl
          at (s ∷ specs) (suc u) = at specs u
  since-small (suc k) u = let le = since-small k u in elim (since-step k u) [ inl e ↦ omega (arith, e, le) | inr x ↦ (let e = x.0 in omega (arith, e)) ]

  pub since-grows : (k u : ℕ) → (state_of job k u).since ≤ (state_of job (suc k) u).since
  since-grows k u = since-more k u (since-small k u)

  pub since-later : (k n u : ℕ) → (state_of job k u).since ≤ (state_of job (n + k) u).since
  since-later k zero u = (let e : 0 + k ≡ k = omega arith in rw e (omega arith))
  since-later k (suc n) u = (let a = since-later k n u in let b = since-grows (n + k) u in let e : suc n + k ≡ suc (n + k) = omega arith in
      rw e (omega (arith, a, b)))

  pub since-between : (k m u : ℕ) → k ≤ m → (state_of job k u).since ≤ (state_of job m u).since
  since-between k m u le = subst (λ x. (state_of job k u).since ≤ (state_of job x u).since) (let e : (m - k) + k ≡ m = omega arith in
      e) (since-later k (m - k) u)

  -- a registered user keeps its numbers, also if the command unregisters it
  pub numbers-kept : (k u : ℕ) → (state_of job k u).registered ≡ true → ((state_of job (suc k) u).since ≡ (state_of job k u).since)
      × ((state_of job (suc k) u).reg ≡ (state_of job k u).reg)
  numbers-kept k u r = elim (cases_eq u (subject job k)) [
    | inr ne ↦ (let e = (between k).others u ne in (ap (λ (s : UserState). s.since) e, ap (λ (s : UserState). s.reg) e))
    | inl e ↦ subst (λ x. ((state_of job (suc k) x).since ≡ (state_of job k x).since) × ((state_of job (suc k) x).reg ≡ (state_of job k x).reg)) (sym e)
        (by_effect (effect job k) (between k).subject (subst (λ x. (state_of job k x).registered ≡ true) e r))
  ]
    where
      by_effect : (z : Effect) → SubjectBy job (desk job k) (suc k) z (state_of job k (subject job k)) (state_of job (suc k) (subject job k))
          → (state_of job k (subject job k)).registered ≡ true
          → ((state_of job (suc k) (subject job k)).since ≡ (state_of job k (subject job k)).since)
          × ((state_of job (suc k) (subject job k)).reg ≡ (state_of job k (subject job k)).reg)
      by_effect Adds s r = false_true (sym s.0 ∙ r)
      by_effect Edits s r = (s.1.since, s.1.reg)
      by_effect Lists s r = (ap (λ (x : UserState). x.since) s, ap (λ (x : UserState). x.reg) s)
      by_effect Levels s r = (ap (λ (x : UserState). x.since) s, ap (λ (x : UserState). x.reg) s)
      by_effect Nothing s r = (s.0.since, s.0.reg)
      by_effect _ s r = (ap (λ (x : UserState). x.since) s.1, ap (λ (x : UserState). x.reg) s.1)

  -- the numbers of registrations tell users apart
  pub since-unique : (k v u : ℕ) → 0 < (state_of job k v).since → (state_of job k v).since ≡ (state_of job k u).since → v ≡ u
  unfolding desk
  since-unique zero v u pos same = absurd (let e = start job.users v in omega (arith, e, pos))
    where
      start : (specs : List Spec) (u : ℕ) → (get_or (map (λ s. unseen (funcs job)) specs) u (unseen 0)).since ≡ 0
      start [] u = refl
      start (s ∷ specs) zero = refl
      start (s ∷ specs) (suc u) = start specs u
  since-unique (suc k) v u pos same =
      let sv = since-small k v in let su = since-small k u in
      elim (since-step k v) [
        | inl e ↦ elim (since-step k u) [
          | inl e' ↦ since-unique k v u (omega (arith, e, pos)) (sym e ∙ same ∙ e')
          | inr x ↦ absurd (let n = x.0 in omega (arith, e, n, sv, same))
        ]
        | inr x ↦ elim (since-step k u) [
          | inl e' ↦ absurd (let n = x.0 in omega (arith, e', n, su, same))
          | inr y ↦ x.2 ∙ sym y.2
        ]
      ]

  -- a user that is registered was before, or is registered by the command
  pub registered-step : (k u : ℕ) → (state_of job (suc k) u).registered ≡ true
      → ((state_of job k u).registered ≡ true) ⊎ ((state_of job (suc k) u).since ≡ suc k)
  registered-step k u r = elim (cases_eq u (subject job k)) [
    | inr ne ↦ inl (sym (ap (λ (s : UserState). s.registered) ((between k).others u ne)) ∙ r)
    | inl e ↦ subst (λ x. ((state_of job k x).registered ≡ true) ⊎ ((state_of job (suc k) x).since ≡ suc k)) (sym e)
        (by_effect (effect job k) (between k).subject (subst (λ x. (state_of job (suc k) x).registered ≡ true) e r))
  ]
    where
      by_effect : (z : Effect) → SubjectBy job (desk job k) (suc k) z (state_of job k (subject job k)) (state_of job (suc k) (subject job k))
          → (state_of job (suc k) (subject job k)).registered ≡ true
          → ((state_of job k (subject job k)).registered ≡ true) ⊎ ((state_of job (suc k) (subject job k)).since ≡ suc k)
      by_effect Adds s r = inr (ap (λ (x : UserState). x.since) s.1)
      by_effect Lists s r = inl (sym (ap (λ (x : UserState). x.registered) s) ∙ r)
      by_effect Levels s r = inl (sym (ap (λ (x : UserState). x.registered) s) ∙ r)
      by_effect Nothing s r = inl (sym s.0.registered ∙ r)
      by_effect _ s r = inl s.0

  pub since-positive : (k u : ℕ) → (state_of job k u).registered ≡ true → 0 < (state_of job k u).since
  unfolding desk
  since-positive zero u r = false_true (sym (start job.users u) ∙ r)
    where
      start : (specs : List Spec) (u : ℕ) → (get_or (map (λ s. unseen (funcs job)) specs) u (unseen 0)).registered ≡ false
      start [] u = refl
      start (s ∷ specs) zero = refl
      start (s ∷ specs) (suc u) = start specs u
  since-positive (suc k) u r = elim (registered-step k u r) [
    | inl x ↦ (let p = since-positive k u x in let g = since-grows k u in omega (arith, p, g))
    | inr e ↦ omega (arith, e)
  ]
