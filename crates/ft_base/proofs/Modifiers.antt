-- On every desk at most one registered user replaces a function.
use Rattle.std.proofs.Common.{cond, ◌≡◌, ◌≢◌, ℕ, zero, suc, ◌+◌, ◌<◌, ◌≤◌, Bool, true, false, not, ◌||◌, ◌&&◌, ◌==◌, List, [], ◌∷◌, length, get_or, map, Option, Some, None, is_some, refl, sym, ap, ◌∙◌, subst, arith, inl, inr, nat_lt, ltb-true, ltb-false}
use Rattle.std.specs.Prelude.{slice_get}
use Rattle.std.specs.List.{AllByRecursion as Each}
use Rattle.std.specs.Option.{option_and_then}
use Rattle.std.proofs.lemmas.Bool.Decides.{eqb_tells}
use Rattle.ft_base.specs.declared.item.Answer.TheVariants.{Accepted, Already, Invalid, NoMatch}
use Rattle.ft_base.specs.Marks.{Marks, is_empty}
use Rattle.ft_base.specs.Job.{Job, Spec, Edit, Command, Register, Unregister, Filter, Notrace, Pid, NoPid, Enable, Disable, MaxDepth, commands, funcs}
use Rattle.ft_base.specs.Desk.{Desk, UserState, desk, after, changed, user_at, unseen, spec_at, is_matching, matches_by, is_sited, answer_on, is_accepted, with_user, lowest, other_modifier, holder, busy_or, claim, register_answer, edit_answer, edited, registered_as, unregistered_as}
use Rattle.ft_base.proofs.DeskLaws.{user_at-same, user_at-other, length-desk}
use Rattle.ft_base.specs.WellFormed.{IsNamed, IsWellFormed}
use Rattle.ft_base.specs.Order.{OneModifies}
use Rattle.ft_base.proofs.Small.{false_true, and_both}

-- ## the lowest number

lowest-some : (p : ℕ → Bool) (from n x : ℕ) → lowest p from n ≡ Some x → p x ≡ true
lowest-some p from zero x e = absurd cc
lowest-some p from (suc n) x e =
    elim (p from) as (λ b. p from ≡ b → cond b (Some from) (lowest p (suc from) n) ≡ Some x → p x ≡ true) [
      | true ↦ λ h y. let same : from ≡ x = cc in subst (λ z. p z ≡ true) same h
      | false ↦ λ h y. lowest-some p (suc from) n x y
    ] refl e

lowest-none : (p : ℕ → Bool) (from n : ℕ) → lowest p from n ≡ None → (i : ℕ) → from ≤ i → i < from + n → p i ≡ false
lowest-none p from zero e i le lt = absurd (omega arith)
lowest-none p from (suc n) e i le lt =
    elim (p from) as (λ b. p from ≡ b → cond b (Some from) (lowest p (suc from) n) ≡ None → p i ≡ false) [
      | true ↦ λ h y. absurd cc
      | false ↦ λ h y. elim (eqb_tells from i) [
        | inl t ↦ subst (λ z. p z ≡ false) t.1 h
        | inr f ↦ let ne = f.1 in lowest-none p (suc from) n y i (further from i le ne) (omega arith)
      ]
    ] refl e
  where
    further : (a b : ℕ) → a ≤ b → a ≢ b → suc a ≤ b
    further a b l d =
        elim (nat_lt a b) as (λ x. nat_lt a b ≡ x → suc a ≤ b) [
          | true ↦ λ x. let y : a < b = ltb-true a b x in omega arith
          | false ↦ λ x. let y : b ≤ a = ltb-false a b x in absurd (d (omega arith))
        ] refl

-- ## what an accepted claim says

-- a user with these sets matches the function, and the function has a holder
abbrev pub conflicts : Job → Desk → ℕ → Marks → Marks → ℕ → Bool
conflicts job d u filter notrace f = matches_by filter notrace f && is_some (holder job d u f)

-- the holder of a function, if there is a function
abbrev pub holder_at : Job → Desk → ℕ → Option ℕ → Option ℕ
holder_at job d u o = option_and_then (holder job d u) o

module _ (job : Job) (d : Desk) (u : ℕ) (filter notrace : Marks) where
  claim-free : is_accepted (claim job d u filter notrace) ≡ true → (f v : ℕ) → f < funcs job → matches_by filter notrace f ≡ true → v < length job.users → other_modifier job d u f v ≡ false
  claim-free e f v lt m lv = by (lowest (conflicts job d u filter notrace) 0 (funcs job)) refl e
    where
      busy : (x : ℕ) (o : Option ℕ) → is_some o ≡ true → is_accepted (busy_or (Some x) o Accepted) ≡ true → {A : Type 0} → A
      busy x None s y {A} = false_true s
      busy x (Some w) s y {A} = false_true y

      free : (o : Option ℕ) → lowest (other_modifier job d u f) 0 (length job.users) ≡ o → conflicts job d u filter notrace f ≡ false → other_modifier job d u f v ≡ false
      free None x c = lowest-none (other_modifier job d u f) 0 (length job.users) x v (omega arith) (omega arith)
      free (Some w) x c = false_true (sym c ∙ rw (m, x) refl)

      by : (o : Option ℕ) → lowest (conflicts job d u filter notrace) 0 (funcs job) ≡ o → is_accepted (busy_or o (holder_at job d u o) Accepted) ≡ true → other_modifier job d u f v ≡ false
      by None x y = free (lowest (other_modifier job d u f) 0 (length job.users)) refl (lowest-none (conflicts job d u filter notrace) 0 (funcs job) x f (omega arith) (omega arith))
      by (Some x) z y =
          let c : conflicts job d u filter notrace x ≡ true = lowest-some (conflicts job d u filter notrace) 0 (funcs job) x z in
          busy x (holder_at job d u (Some x)) (and_both (matches_by filter notrace x) _ c).1 y

-- ## on every desk

abbrev modifies : Job → Desk → ℕ → ℕ → Bool
modifies job d u f = (user_at d u).registered && is_some (spec_at job u).ipmodify && is_matching (user_at d u) f

-- at most one registered user that replaces matches a function
abbrev pub Lone : Job → Desk → Type 0
Lone job d = (f u v : ℕ) → f < funcs job → modifies job d u f ≡ true → modifies job d v f ≡ true → u ≡ v

-- a user that is registered is one of the users
pub registered-within : (us : List UserState) (v : ℕ) → (get_or us v (unseen 0)).registered ≡ true → v < length us
registered-within [] v e = false_true e
registered-within (x ∷ us) zero e = omega arith
registered-within (x ∷ us) (suc v) e = let l = registered-within us v e in omega arith

module _ (job : Job) (d : Desk) (size : length d.users ≡ length job.users) (h : Lone job d) where
  -- nobody else stands where this user is to be
  abbrev IsClear : ℕ → UserState → Type 0
  IsClear u s = (f v : ℕ) → f < funcs job → v < length job.users → s.registered ≡ true → is_some (spec_at job u).ipmodify ≡ true → is_matching s f ≡ true → other_modifier job d u f v ≡ false

  lone-with : (u : ℕ) (s : UserState) → u < length job.users → IsClear u s → Lone job (with_user d u s)
  lone-with u s w clear f x y lt mx my =
      elim (eqb_tells u x) [
        | inl tx ↦ elim (eqb_tells u y) [
          | inl ty ↦ sym tx.1 ∙ ty.1
          | inr fy ↦ clash y fy.1 (subst (λ z. modifies job (with_user d u s) z f ≡ true) (sym tx.1) mx) my
        ]
        | inr fx ↦ elim (eqb_tells u y) [
          | inl ty ↦ clash x fx.1 (subst (λ z. modifies job (with_user d u s) z f ≡ true) (sym ty.1) my) mx
          | inr fy ↦ h f x y lt (other x fx.1 mx) (other y fy.1 my)
        ]
      ]
    where
      other : (z : ℕ) → u ≢ z → modifies job (with_user d u s) z f ≡ true → modifies job d z f ≡ true
      other z ne m = rw (user_at-other d u z s (λ q. ne (sym q))) at m

      clash : (z : ℕ) → u ≢ z → modifies job (with_user d u s) u f ≡ true → modifies job (with_user d u s) z f ≡ true → {A : Type 0} → A
      clash z ne mu mz {A} =
          let at : modifies job d z f ≡ true = other z ne mz in
          let zz = and_both ((user_at d z).registered && is_some (spec_at job z).ipmodify) (is_matching (user_at d z) f) at in
          let zr = and_both (user_at d z).registered (is_some (spec_at job z).ipmodify) zz.0 in
          let here : user_at (with_user d u s) u ≡ s = user_at-same d u s (rw size w) in
          let us' : (s.registered && is_some (spec_at job u).ipmodify && is_matching s f) ≡ true = rw here at mu in
          let uu = and_both (s.registered && is_some (spec_at job u).ipmodify) (is_matching s f) us' in
          let ur = and_both s.registered (is_some (spec_at job u).ipmodify) uu.0 in
          let apart : (z == u) ≡ false = elim (eqb_tells z u) [ inl t ↦ absurd (ne (sym t.1)) | inr q ↦ q.0 ] in
          let no' : other_modifier job d u f z ≡ false = clear f z lt (rw (sym size) (registered-within d.users z zr.0)) ur.0 ur.1 uu.1 in
          false_true (sym no' ∙ rw (apart, zr.0, zr.1, zz.1) refl)

  -- a user whose marks stay
  stays : (u : ℕ) (s : UserState) → u < length job.users → (s.registered ≡ true → (user_at d u).registered ≡ true) → s.filter ≡ (user_at d u).filter → s.notrace ≡ (user_at d u).notrace → Lone job (with_user d u s)
  stays u s w r e1 e2 = lone-with u s w (λ f v lt lv reg ip m. clear f v lt reg ip m)
    where
      clear : (f v : ℕ) → f < funcs job → s.registered ≡ true → is_some (spec_at job u).ipmodify ≡ true → is_matching s f ≡ true → other_modifier job d u f v ≡ false
      clear f v lt reg ip m = by (other_modifier job d u f v) refl
        where
          by : (b : Bool) → other_modifier job d u f v ≡ b → other_modifier job d u f v ≡ false
          by false x = x
          by true x =
              let a1 = and_both (not (v == u) && (user_at d v).registered && is_some (spec_at job v).ipmodify) (is_matching (user_at d v) f) x in
              let a2 = and_both (not (v == u) && (user_at d v).registered) (is_some (spec_at job v).ipmodify) a1.0 in
              let a3 = and_both (not (v == u)) (user_at d v).registered a2.0 in
              let mu : is_matching (user_at d u) f ≡ true = rw (e1, e2) at m in
              let same : u ≡ v = h f u v lt (rw (r reg, ip, mu) refl) (rw (a3.1, a2.1, a1.1) refl) in
              let eq : (v == u) ≡ true = elim (eqb_tells v u) [ inl t ↦ t.0 | inr q ↦ absurd (q.1 (sym same)) ] in
              false_true (ap not (sym eq) ∙ a3.0)

  register-claims : (u : ℕ) → is_some (spec_at job u).ipmodify ≡ true → is_accepted (register_answer job d u) ≡ true → is_accepted (claim job d u (user_at d u).filter (user_at d u).notrace) ≡ true
  register-claims u ip e = by (user_at d u).registered (not (spec_at job u).regs || is_empty (user_at d u).filter) (rw ip at e)
    where
      by : (a b : Bool) → is_accepted (cond a Already (cond b Invalid (claim job d u (user_at d u).filter (user_at d u).notrace))) ≡ true → is_accepted (claim job d u (user_at d u).filter (user_at d u).notrace) ≡ true
      by true b x = false_true x
      by false true x = false_true x
      by false false x = x

  edit-claims : (u : ℕ) (e : Edit) (f n : Marks) → (user_at d u).registered ≡ true → is_some (spec_at job u).ipmodify ≡ true → is_accepted (edit_answer job d u e f n) ≡ true → is_accepted (claim job d u f n) ≡ true
  edit-claims u e f n reg ip x = by (e.clear || not (is_empty e.set)) (is_empty f) (rw (reg, ip) at x)
    where
      by : (a b : Bool) → is_accepted (cond (a && b) Invalid (cond (not a) NoMatch (claim job d u f n))) ≡ true → is_accepted (claim job d u f n) ≡ true
      by true true y = false_true y
      by true false y = y
      by false b y = false_true y

  pub lone-changed : (k : ℕ) (c : Command) → IsNamed job c → is_accepted (answer_on job d c) ≡ true → Lone job (changed job d k c)
  lone-changed k (Register u) w e = lone-with u (registered_as job d k (user_at d u)) w
      (λ f v lt lv reg ip m. claim-free job d u (user_at d u).filter (user_at d u).notrace (register-claims u ip e) f v lt m lv)
  lone-changed k (Unregister u) w e = lone-with u (unregistered_as (user_at d u)) w (λ f v lt lv reg ip m. false_true reg)
  lone-changed k (Filter u x) w e = lone-with u (record (user_at d u) { filter = edited (funcs job) (user_at d u).filter x }) w
      (λ f v lt lv reg ip m. claim-free job d u (edited (funcs job) (user_at d u).filter x) (user_at d u).notrace (edit-claims u x (edited (funcs job) (user_at d u).filter x) (user_at d u).notrace reg ip e) f v lt m lv)
  lone-changed k (Notrace u x) w e = lone-with u (record (user_at d u) { notrace = edited (funcs job) (user_at d u).notrace x }) w
      (λ f v lt lv reg ip m. claim-free job d u (user_at d u).filter (edited (funcs job) (user_at d u).notrace x) (edit-claims u x (user_at d u).filter (edited (funcs job) (user_at d u).notrace x) reg ip e) f v lt m lv)
  lone-changed k (Enable u) w e = stays u (record (user_at d u) { enabled = true }) w (λ r. r) refl refl
  lone-changed k (Disable u) w e = stays u (record (user_at d u) { enabled = false }) w (λ r. r) refl refl
  lone-changed k (Pid only) w e = h
  lone-changed k (NoPid only) w e = h
  lone-changed k (MaxDepth n) w e = h

pub named-at : {X : Type 0} (P : X → Type 0) (xs : List X) (k : ℕ) (x : X) → slice_get xs k ≡ Some x → Each P xs → P x
named-at P [] k x e h = absurd cc
named-at P (y ∷ xs) zero x e h = let same : y ≡ x = cc in subst P same h.0
named-at P (y ∷ xs) (suc k) x e h = named-at P xs k x e h.1

-- before the first command no user is registered, or has been
pub start-registered : (n : ℕ) (us : List Spec) (u : ℕ) → (get_or (map (λ s. unseen n) us) u (unseen 0)).registered ≡ false
start-registered n [] u = refl
start-registered n (x ∷ us) zero = refl
start-registered n (x ∷ us) (suc u) = start-registered n us u

pub start-since : (n : ℕ) (us : List Spec) (u : ℕ) → (get_or (map (λ s. unseen n) us) u (unseen 0)).since ≡ 0
start-since n [] u = refl
start-since n (x ∷ us) zero = refl
start-since n (x ∷ us) (suc u) = start-since n us u

module _ (job : Job) (is : IsWellFormed job) where
  lone-after : (k : ℕ) (c : Option Command) → slice_get (commands job) k ≡ c → Lone job (desk job k) → Lone job (after job (desk job k) (suc k) c)
  lone-after k None e h = h
  lone-after k (Some c) e h =
      elim (is_accepted (answer_on job (desk job k) c)) as (λ b. is_accepted (answer_on job (desk job k) c) ≡ b → Lone job (cond b (changed job (desk job k) (suc k) c) (desk job k))) [
        | true ↦ λ x. lone-changed job (desk job k) (length-desk job k) h (suc k) c (named-at (IsNamed job) (commands job) k c e is.commands) x
        | false ↦ λ x. h
      ] refl

  lone-start : Lone job (desk job 0)
  unfolding desk
  lone-start f u v lt mu mv = false_true (sym (start-registered (funcs job) job.users u) ∙ (and_both (user_at (desk job 0) u).registered _ (and_both ((user_at (desk job 0) u).registered && is_some (spec_at job u).ipmodify) _ mu).0).0)

  pub lone : (k : ℕ) → Lone job (desk job k)
  unfolding desk
  lone zero = lone-start
  lone (suc k) = lone-after k (slice_get (commands job) k) refl (lone k)

  pub one_modifies : (k : ℕ) → OneModifies job (desk job k)
  one_modifies k f u v lt ou ov iu iv =
      let su = and_both (user_at (desk job k) u).registered _ (and_both (is_sited (desk job k) u f) _ ou).0 in
      let sv = and_both (user_at (desk job k) v).registered _ (and_both (is_sited (desk job k) v f) _ ov).0 in
      lone k f u v lt (rw (su.0, iu, su.1) refl) (rw (sv.0, iv, sv.1) refl)
