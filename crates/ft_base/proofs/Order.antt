-- The list of registered users, the latest first, and what a command makes of it.
use Rattle.std.proofs.Common.{cond, ◌≡◌, ◌≢◌, ℕ, suc, ◌<◌, ◌≤◌, Bool, true, false, not, ◌||◌, ◌&&◌, ◌==◌, List, [], ◌∷◌, length, Some, refl, sym, ap, ◌∙◌, subst, arith, inl, inr, eqb-true}
use Rattle.std.proofs.lemmas.Bool.Decides.{eqb_tells}
use Rattle.std.specs.List.{filter, AllByRecursion as Each}
use Rattle.ft_base.specs.Job.{Job, Command, Register, Unregister, Filter, Notrace, Pid, NoPid, Enable, Disable, MaxDepth}
use Rattle.ft_base.specs.Desk.{Desk, UserState, after, changed, user_at, answer_on, is_accepted, registered_as, unregistered_as, with_user, register_answer}
use Rattle.ft_base.proofs.DeskLaws.{user_at-same, user_at-other}
use Rattle.ft_base.specs.Order.{IsBelow, IsFalling, IsOrder, has, order_after}
use Rattle.ft_base.specs.WellFormed.{IsNamed}
use Rattle.ft_base.proofs.Small.{false_true, ==-refl, or-false_both, Each-weaker, Each-filter}

-- the members of a list from which u is missing keep what only u loses
pub falling-other : (d d' : Desk) (u : ℕ) (us : List ℕ) → has u us ≡ false → ((v : ℕ) → v ≢ u → (user_at d' v).since ≡ (user_at d v).since) → IsFalling d us → IsFalling d' us
falling-other d d' u [] none same h = tt
falling-other d d' u (v ∷ us) none same h =
    let both = or-false_both (v == u) (has u us) none in
    (others us both.1 h.0, falling-other d d' u us both.1 same h.1)
  where
    differs : (w : ℕ) → (w == u) ≡ false → w ≢ u
    differs w e x = elim (eqb_tells w u) [ inl t ↦ false_true (sym e ∙ t.0) | inr f ↦ f.1 x ]

    others : (ws : List ℕ) → has u ws ≡ false → Each (λ w. IsBelow d v w) ws → Each (λ w. IsBelow d' v w) ws
    others [] n k = tt
    others (w ∷ ws) n k =
        let b = or-false_both (w == u) (has u ws) n in
        let v_same : (user_at d' v).since ≡ (user_at d v).since = same v (differs v (or-false_both (v == u) (has u us) none).0) in
        let w_same : (user_at d' w).since ≡ (user_at d w).since = same w (differs w b.0) in
        (rw (v_same, w_same) k.0, others ws b.1 k.1)

falling-same : (d d' : Desk) (us : List ℕ) → ((v : ℕ) → (user_at d' v).since ≡ (user_at d v).since) → IsFalling d us → IsFalling d' us
falling-same d d' [] same h = tt
falling-same d d' (v ∷ us) same h =
    (Each-weaker (λ w. IsBelow d v w) (λ w. IsBelow d' v w) us (λ w lt. rw (same v, same w) lt) h.0, falling-same d d' us same h.1)

pub falling-filter : (d : Desk) (p : ℕ → Bool) (us : List ℕ) → IsFalling d us → IsFalling d (filter p us)
falling-filter d p [] h = tt
falling-filter d p (v ∷ us) h =
    elim (p v) as (λ b. IsFalling d (cond b (v ∷ filter p us) (filter p us))) [
      | true ↦ (Each-filter (λ w. IsBelow d v w) p us h.0, falling-filter d p us h.1)
      | false ↦ falling-filter d p us h.1
    ]

and_false : (b : Bool) → (b && false) ≡ false
and_false true = refl
and_false false = refl

has-filter_same : (u : ℕ) (us : List ℕ) → has u (filter (λ v. not (v == u)) us) ≡ false
has-filter_same u [] = refl
has-filter_same u (v ∷ us) =
    elim (v == u) as (λ b. (v == u) ≡ b → has u (cond (not b) (v ∷ filter (λ v. not (v == u)) us) (filter (λ v. not (v == u)) us)) ≡ false) [
      | true ↦ λ e. has-filter_same u us
      | false ↦ λ e. rw e (has-filter_same u us)
    ] refl

has-filter_other : (u w : ℕ) (us : List ℕ) → (w == u) ≡ false → has w (filter (λ v. not (v == u)) us) ≡ has w us
has-filter_other u w [] ne = refl
has-filter_other u w (v ∷ us) ne =
    elim (v == u) as (λ b. (v == u) ≡ b → has w (cond (not b) (v ∷ filter (λ v. not (v == u)) us) (filter (λ v. not (v == u)) us)) ≡ ((v == w) || has w us)) [
      | true ↦ λ e.
          let vu : v ≡ u = eqb-true v u e in
          let apart : (v == w) ≡ false = elim (eqb_tells v w) [ inl t ↦ false_true (sym ne ∙ (let wu : w ≡ u = sym t.1 ∙ vu in rw wu (==-refl u))) | inr f ↦ f.0 ] in
          rw apart (has-filter_other u w us ne)
      | false ↦ λ e. ap (λ b. (v == w) || b) (has-filter_other u w us ne)
    ] refl

ne_sym : (u v : ℕ) → u ≢ v → v ≢ u
ne_sym u v ne e = ne (sym e)

module _ (job : Job) (d : Desk) (k u : ℕ) (order : List ℕ) (within : u < length d.users) (h : IsOrder d k order) where
  pub registers : (user_at d u).registered ≡ false → IsOrder (changed job d (suc k) (Register u)) (suc k) (u ∷ order)
  registers free = record {
    members = λ v. elim (eqb_tells u v) [
      | inl t ↦ rw t.0 (subst (λ x. true ≡ (user_at (changed job d (suc k) (Register u)) x).registered) t.1 (sym (ap (λ (s : UserState). s.registered) here)))
      | inr f ↦ rw (f.0, user_at-other d u v _ (ne_sym u v f.1)) (h.members v)
    ];
    falling = (newest order missing, falling-other d (changed job d (suc k) (Register u)) u order missing (λ v ne. rw (user_at-other d u v _ ne) refl) h.falling);
    recent = λ v. elim (eqb_tells u v) [
      | inl t ↦ subst (λ x. (user_at (changed job d (suc k) (Register u)) x).since ≤ suc k) t.1 (rw here (omega arith))
      | inr f ↦ rw (user_at-other d u v _ (ne_sym u v f.1)) (let le = h.recent v in omega arith)
    ];
  }
    where
      here : user_at (changed job d (suc k) (Register u)) u ≡ registered_as job d (suc k) (user_at d u)
      here = user_at-same d u (registered_as job d (suc k) (user_at d u)) within

      missing : has u order ≡ false
      missing = h.members u ∙ free

      newest : (ws : List ℕ) → has u ws ≡ false → Each (λ w. IsBelow (changed job d (suc k) (Register u)) u w) ws
      newest [] none = tt
      newest (w ∷ ws) none =
          let both = or-false_both (w == u) (has u ws) none in
          let ne : w ≢ u = λ x. (elim (eqb_tells w u) [ inl t ↦ false_true (sym both.0 ∙ t.0) | inr f ↦ f.1 x ]) in
          let le = h.recent w in
          (rw (here, user_at-other d u w _ ne) (omega arith), newest ws both.1)

  pub unregisters : IsOrder (changed job d (suc k) (Unregister u)) (suc k) (filter (λ v. not (v == u)) order)
  unregisters = record {
    members = λ v. elim (eqb_tells u v) [
      | inl t ↦ subst (λ x. has x (filter (λ v. not (v == u)) order) ≡ (user_at (changed job d (suc k) (Unregister u)) x).registered) t.1
          (has-filter_same u order ∙ sym (ap (λ (s : UserState). s.registered) gone))
      | inr f ↦ has-filter_other u v order (flipped v f.1) ∙ h.members v ∙ sym (ap (λ (s : UserState). s.registered) (user_at-other d u v (unregistered_as (user_at d u)) (ne_sym u v f.1)))
    ];
    falling = falling-same d (changed job d (suc k) (Unregister u)) (filter (λ v. not (v == u)) order) since_same (falling-filter d (λ v. not (v == u)) order h.falling);
    recent = λ v. rw (since_same v) (let le = h.recent v in omega arith);
  }
    where
      gone : user_at (changed job d (suc k) (Unregister u)) u ≡ unregistered_as (user_at d u)
      gone = user_at-same d u (unregistered_as (user_at d u)) within

      flipped : (v : ℕ) → u ≢ v → (v == u) ≡ false
      flipped v ne = elim (eqb_tells v u) [ inl t ↦ absurd (ne (sym t.1)) | inr f ↦ f.0 ]

      since_same : (v : ℕ) → (user_at (changed job d (suc k) (Unregister u)) v).since ≡ (user_at d v).since
      since_same v = elim (eqb_tells u v) [
        | inl t ↦ subst (λ x. (user_at (changed job d (suc k) (Unregister u)) x).since ≡ (user_at d x).since) t.1 (ap (λ (s : UserState). s.since) gone)
        | inr f ↦ ap (λ (s : UserState). s.since) (user_at-other d u v (unregistered_as (user_at d u)) (ne_sym u v f.1))
      ]

  -- and where the command is refused
  pub refused : IsOrder d (suc k) order
  refused = record { members = h.members; falling = h.falling; recent = λ v. (let le = h.recent v in omega arith) }

-- registered users, and when they were registered, stay the same
pub order-same : (d d' : Desk) (k : ℕ) (order : List ℕ) → ((v : ℕ) → (user_at d' v).registered ≡ (user_at d v).registered) → ((v : ℕ) → (user_at d' v).since ≡ (user_at d v).since)
    → IsOrder d k order → IsOrder d' (suc k) order
order-same d d' k order reg since h = record {
  members = λ v. h.members v ∙ sym (reg v);
  falling = falling-same d d' order since h.falling;
  recent = λ v. rw (since v) (let le = h.recent v in omega arith);
}

-- of a user's state, what a change of another part leaves
pub user-part : {X : Type 0} (part : UserState → X) (d : Desk) (u : ℕ) (s : UserState) → u < length d.users → part s ≡ part (user_at d u) → (v : ℕ) → part (user_at (with_user d u s) v) ≡ part (user_at d v)
user-part part d u s within same v = elim (eqb_tells u v) [
  | inl t ↦ subst (λ x. part (user_at (with_user d u s) x) ≡ part (user_at d x)) t.1 (ap part (user_at-same d u s within) ∙ same)
  | inr f ↦ ap part (user_at-other d u v s (ne_sym u v f.1))
]

pub not-registered : (job : Job) (d : Desk) (u : ℕ) → is_accepted (register_answer job d u) ≡ true → (user_at d u).registered ≡ false
not-registered job d u e = by (user_at d u).registered refl
  where
    by : (b : Bool) → (user_at d u).registered ≡ b → (user_at d u).registered ≡ false
    by true x = false_true (rw x at e)
    by false x = x

-- the list after a command of control
module _ (job : Job) (d : Desk) (k : ℕ) (order : List ℕ) (size : length d.users ≡ length job.users) (h : IsOrder d k order) where
  abbrev Next : Command → Type 0
  Next c = IsOrder (after job d (suc k) (Some c)) (suc k) (cond (is_accepted (answer_on job d c)) (order_after order c) order)

  abbrev within : ℕ → Type 0
  within u = u < length job.users

  accepted : (c : Command) → IsNamed job c → is_accepted (answer_on job d c) ≡ true → IsOrder (changed job d (suc k) c) (suc k) (order_after order c)
  accepted (Register u) w e = registers job d k u order (rw size w) h (not-registered job d u e)
  accepted (Unregister u) w e = unregisters job d k u order (rw size w) h
  accepted (Filter u x) w e = order-same d (changed job d (suc k) (Filter u x)) k order
      (user-part (λ (s : UserState). s.registered) d u _ (rw size w) refl) (user-part (λ (s : UserState). s.since) d u _ (rw size w) refl) h
  accepted (Notrace u x) w e = order-same d (changed job d (suc k) (Notrace u x)) k order
      (user-part (λ (s : UserState). s.registered) d u _ (rw size w) refl) (user-part (λ (s : UserState). s.since) d u _ (rw size w) refl) h
  accepted (Enable u) w e = order-same d (changed job d (suc k) (Enable u)) k order
      (user-part (λ (s : UserState). s.registered) d u _ (rw size w) refl) (user-part (λ (s : UserState). s.since) d u _ (rw size w) refl) h
  accepted (Disable u) w e = order-same d (changed job d (suc k) (Disable u)) k order
      (user-part (λ (s : UserState). s.registered) d u _ (rw size w) refl) (user-part (λ (s : UserState). s.since) d u _ (rw size w) refl) h
  accepted (Pid only) w e = order-same d (changed job d (suc k) (Pid only)) k order (λ v. refl) (λ v. refl) h
  accepted (NoPid only) w e = order-same d (changed job d (suc k) (NoPid only)) k order (λ v. refl) (λ v. refl) h
  accepted (MaxDepth n) w e = order-same d (changed job d (suc k) (MaxDepth n)) k order (λ v. refl) (λ v. refl) h

  pub after_command : (c : Command) → IsNamed job c → Next c
  after_command c w =
      elim (is_accepted (answer_on job d c)) as (λ b. is_accepted (answer_on job d c) ≡ b → IsOrder (cond b (changed job d (suc k) c) d) (suc k) (cond b (order_after order c) order)) [
        | true ↦ λ e. accepted c w e
        | false ↦ λ e. order-same d d k order (λ v. refl) (λ v. refl) h
      ] refl
