-- An unregistered user stays off until it is registered again, so no callback of it begins.
use Rattle.std.proofs.Common.{cond, ◌≡◌, ℕ, zero, suc, ◌+◌, ◌-◌, ◌<◌, ◌≤◌, true, false, ◌&&◌, ◌==◌, List, ◌∷◌, ◌++◌, length, reverse, Option, Some, None, refl, sym, ap, ◌∙◌, subst, arith, inl, inr, append_assoc}
use Rattle.std.specs.Prelude.{slice_get}
use Rattle.std.proofs.lemmas.Bool.Decides.{eqb_tells}
use Rattle.ft_base.specs.declared.number.CallNo.{CallNo}
use Rattle.ft_base.specs.declared.number.UserNo.{UserNo}
use Rattle.ft_base.specs.declared.item.Answer.TheVariants.{Accepted}
use Rattle.ft_base.specs.declared.item.Item.{Item}
use Rattle.ft_base.specs.declared.item.Item.TheVariants.{Return, Back, Exit}
use Rattle.ft_base.specs.Job.{Job, Command, Register, Unregister, Filter, Notrace, Enable, Disable, commands}
use Rattle.ft_base.specs.Desk.{Desk, UserState, desk, after, changed, user_at, is_on, is_sited, is_matching, is_live, is_accepted, answer_on, registered_as, unregistered_as}
use Rattle.ft_base.specs.WellFormed.{IsWellFormed, IsNamed}
use Rattle.ft_base.proofs.Small.{false_true, and_both}
use Rattle.ft_base.proofs.DeskLaws.{desk-suc, length-desk, user_at-same, user_at-other}
use Rattle.ft_base.proofs.Order.{user-part}
use Rattle.ft_base.proofs.Modifiers.{named-at}
use Rattle.ft_hist.specs.Past.{done, begun, entry_of}
use Rattle.ft_hist.specs.Rules.{IsLegal, MayFollow}
use Rattle.ft_hist.proofs.Splitting.{splits, legal-front, split-reverse}
use Rattle.ft_hist.proofs.WindowLaws.{legal-counts}
use Rattle.ft_hist.proofs.ItemOrders.{done-newer}

module _ (job : Job) where
  -- a command that isn't its registration leaves an unregistered user so
  off-changed : (d : Desk) (k u : ℕ) (c : Command) → length d.users ≡ length job.users → IsNamed job c → (c ≡ Register u → ⊥) → (user_at d u).registered ≡ false
      → (user_at (changed job d k c) u).registered ≡ false
  off-changed d k u (Register v) size named other off =
      ap (λ (s : UserState). s.registered) (user_at-other d v u (registered_as job d k (user_at d v)) (λ e. other (ap (λ (n : ℕ). Register n) (sym e)))) ∙ off
  off-changed d k u (Unregister v) size named other off = elim (eqb_tells v u) [
    | inl t ↦ subst (λ x. (user_at (changed job d k (Unregister v)) x).registered ≡ false) t.1 (ap (λ (s : UserState). s.registered) (user_at-same d v (unregistered_as (user_at d v)) (rw size named)))
    | inr f ↦ ap (λ (s : UserState). s.registered) (user_at-other d v u (unregistered_as (user_at d v)) (λ e. f.1 (sym e))) ∙ off
  ]
  off-changed d k u (Filter v x) size named other off = user-part (λ (s : UserState). s.registered) d v _ (rw size named) refl u ∙ off
  off-changed d k u (Notrace v x) size named other off = user-part (λ (s : UserState). s.registered) d v _ (rw size named) refl u ∙ off
  off-changed d k u (Enable v) size named other off = user-part (λ (s : UserState). s.registered) d v _ (rw size named) refl u ∙ off
  off-changed d k u (Disable v) size named other off = user-part (λ (s : UserState). s.registered) d v _ (rw size named) refl u ∙ off
  off-changed d k u _ size named other off = off

  module _ (is : IsWellFormed job) (u : ℕ) where
    off-after : (d : Desk) (k : ℕ) (c : Option Command) → length d.users ≡ length job.users → ((x : Command) → c ≡ Some x → IsNamed job x) → (c ≡ Some (Register u) → ⊥)
        → (user_at d u).registered ≡ false → (user_at (after job d k c) u).registered ≡ false
    off-after d k None size named other off = off
    off-after d k (Some c) size named other off =
        elim (is_accepted (answer_on job d c)) as (λ b. (user_at (cond b (changed job d k c) d) u).registered ≡ false) [
          | true ↦ off-changed d k u c size (named c refl) (λ e. other (ap (λ (x : Command). Some x) e)) off
          | false ↦ off
        ]

    off-next : (k : ℕ) → (slice_get (commands job) k ≡ Some (Register u) → ⊥) → (user_at (desk job k) u).registered ≡ false → (user_at (desk job (suc k)) u).registered ≡ false
    off-next k other off = rw (desk-suc job k) (off-after (desk job k) (suc k) (slice_get (commands job) k) (length-desk job k) (λ x e. named-at (IsNamed job) (commands job) k x e is.commands) other off)

    -- no registration of the user among the commands from one to another
    abbrev NoneBetween : ℕ → ℕ → Type 0
    NoneBetween from to = (j : ℕ) → from ≤ j → j < to → slice_get (commands job) j ≡ Some (Register u) → ⊥

    off-through : (n k : ℕ) → NoneBetween k (k + n) → (user_at (desk job k) u).registered ≡ false → (user_at (desk job (k + n)) u).registered ≡ false
    off-through zero k none off = let e : k + 0 ≡ k = omega arith in rw e off
    off-through (suc n) k none off =
        let e : k + suc n ≡ suc (k + n) = omega arith in
        rw e (off-next (k + n) (none (k + n) (omega arith) (omega arith)) (off-through n k (λ j low high. none j low (omega arith)) off))

    off-until : (from to : ℕ) → from ≤ to → NoneBetween from to → (user_at (desk job from) u).registered ≡ false → (user_at (desk job to) u).registered ≡ false
    off-until from to le none off =
        let e : from + (to - from) ≡ to = omega arith in
        subst (λ j. (user_at (desk job j) u).registered ≡ false) e (off-through (to - from) from (λ j low high. none j low (omega arith)) off)

    off-unregistered : (d : Desk) (k : ℕ) → u < length d.users → is_accepted (answer_on job d (Unregister u)) ≡ true → (user_at (after job d k (Some (Unregister u))) u).registered ≡ false
    off-unregistered d k within accepted = rw accepted (ap (λ (s : UserState). s.registered) (user_at-same d u (unregistered_as (user_at d u)) within))

  -- where a user's unregistration has returned and no registration of it has begun since, it is off and no registration of it is live
  module _ (is : IsWellFormed job) (items first second third : List Item) (k : ℕ) (user : UserNo) (item : Item) (legal : IsLegal job items)
      (e : items ≡ first ++ Return (suc k) Accepted ∷ (second ++ item ∷ third)) (command : slice_get (commands job) k ≡ Some (Unregister user.0)) where
    abbrev pub before : List Item
    before = first ++ Return (suc k) Accepted ∷ second

    split : items ≡ before ++ item ∷ third
    split = e ∙ sym (append_assoc first (Return (suc k) Accepted ∷ second) (item ∷ third))

    returned : done (reverse first) ≡ k
    returned = let n = (splits job items first (Return (suc k) Accepted) (second ++ item ∷ third) legal e).commands.number in omega arith

    off-there : (user_at (desk job (suc k)) user.0).registered ≡ false
    off-there =
        let c = (splits job items first (Return (suc k) Accepted) (second ++ item ∷ third) legal e).commands.command in
        let there : slice_get (commands job) k ≡ Some c.0 = subst (λ n. slice_get (commands job) n ≡ Some c.0) returned c.1 in
        let same : Some c.0 ≡ Some (Unregister user.0) = sym there ∙ command in
        let c_is : c.0 ≡ Unregister user.0 = cc in
        let answer : Accepted ≡ answer_on job (desk job k) (Unregister user.0) =
        subst (λ x. Accepted ≡ answer_on job (desk job k) x) c_is (subst (λ n. Accepted ≡ answer_on job (desk job n) c.0) returned c.2) in
        let accepted : is_accepted (answer_on job (desk job k) (Unregister user.0)) ≡ true = ap (λ a. is_accepted a) (sym answer) in
        let named : user.0 < length job.users = named-at (IsNamed job) (commands job) k (Unregister user.0) command is.commands in
        rw (desk-suc job k, command) (off-unregistered is user.0 (desk job k) (suc k) (rw (length-desk job k) named) accepted)

    later : suc k ≤ done (reverse before)
    later =
        let n = done-newer (reverse second) (Return (suc k) Accepted ∷ reverse first) in
        rw (split-reverse first (Return (suc k) Accepted) second) (omega (arith, returned))

    counts : done (reverse before) ≤ begun (reverse before)
    unfolding IsLegal
    counts = (legal-counts job (reverse before) (legal-front job before (item ∷ third) (subst (λ xs. IsLegal job xs) split legal))).0

    -- it isn't registered after the commands that have returned, nor after those that have begun
    pub off-now : NoneBetween is user.0 (suc k) (begun (reverse before))
        → ((user_at (desk job (done (reverse before))) user.0).registered ≡ false) × ((user_at (desk job (begun (reverse before))) user.0).registered ≡ false)
    off-now none =
        let c = counts in
        let l = later in (
          off-until is user.0 (suc k) (done (reverse before)) l (λ j low high. none j low (omega arith)) off-there,
          off-until is user.0 (suc k) (begun (reverse before)) (omega arith) none off-there,
        )

    pub rule_at : MayFollow job (reverse before) item
    rule_at = splits job items before item third legal split

  -- so neither an entry callback nor an exit callback begins
  module _ (is : IsWellFormed job) (items first second third : List Item) (k : ℕ) (call : CallNo) (user : UserNo) (legal : IsLegal job items) (command : slice_get (commands job) k ≡ Some (Unregister user.0)) where
    off-not-on : (d : Desk) (f : ℕ) → (user_at d user.0).registered ≡ false → is_on d user.0 f ≡ true → ⊥
    off-not-on d f off on =
        let sited = (and_both (is_sited d user.0 f) (user_at d user.0).enabled on).0 in
        let there = (and_both (user_at d user.0).registered (is_matching (user_at d user.0) f) sited).0 in
        false_true (sym off ∙ there)

    off-not-live : (d : Desk) (r : ℕ) → (user_at d user.0).registered ≡ false → is_live d user.0 r ≡ true → ⊥
    off-not-live d r off live =
        let both = (and_both ((user_at d user.0).registered && (user_at d user.0).enabled) ((user_at d user.0).reg == r) live).0 in
        false_true (sym off ∙ (and_both (user_at d user.0).registered (user_at d user.0).enabled both).0)

    pub no_callback : (e : items ≡ first ++ Return (suc k) Accepted ∷ (second ++ Back call user ∷ third)) → NoneBetween is user.0 (suc k) (begun (reverse (first ++ Return (suc k) Accepted ∷ second))) → ⊥
    no_callback e none =
        let past = reverse (first ++ Return (suc k) Accepted ∷ second) in
        let off = off-now is items first second third k user (Back call user) legal e command none in
        elim (rule_at is items first second third k user (Back call user) legal e command).callbacks.on [
          | inl x ↦ off-not-on (desk job (done past)) (entry_of call past).func off.0 x
          | inr x ↦ off-not-on (desk job (begun past)) (entry_of call past).func off.1 x
        ]

    pub no_exit : (entry : ℕ) (e : items ≡ first ++ Return (suc k) Accepted ∷ (second ++ Exit call user entry ∷ third)) → NoneBetween is user.0 (suc k) (begun (reverse (first ++ Return (suc k) Accepted ∷ second))) → ⊥
    no_exit entry e none =
        let past = reverse (first ++ Return (suc k) Accepted ∷ second) in
        let off = off-now is items first second third k user (Exit call user entry) legal e command none in
        let of = (rule_at is items first second third k user (Exit call user entry) legal e command).exits.0.of in
        elim of.5 [
          | inl x ↦ off-not-live (desk job (done past)) of.0.reg off.0 x
          | inr x ↦ off-not-live (desk job (begun past)) of.0.reg off.1 x
        ]
