-- Masks are accepted where users that replace functions stay apart, and change nothing but the notrace sets.
use Rattle.std.proofs.Common.{cond, ◌≡◌, ◌≢◌, ℕ, zero, suc, ◌+◌, ◌<◌, Bool, true, false, not, ◌&&◌, ◌||◌, List, [], ◌∷◌, length, get_or, Some, is_some, refl, sym, ap, ap₂, ◌∙◌, subst, arith, inl, inr, add-zero}
use Rattle.std.proofs.lemmas.Bool.{cases_eq}
use Rattle.std.proofs.lemmas.Bool.Decides.{eqb_tells}
use Rattle.std.proofs.lemmas.List.{length-set}
use Rattle.ft_base.specs.declared.item.Answer.TheVariants.{Accepted, Invalid, NoMatch}
use Rattle.ft_base.specs.Marks.{Marks, holds, is_empty, union}
use Rattle.ft_base.specs.Job.{Job, funcs}
use Rattle.ft_base.specs.Desk.{Desk, UserState, user_at, spec_at, is_matching, matches_by, other_modifier, busy_or, claim, edited, edit_answer, answer_on, is_accepted, with_user, after}
use Rattle.ft_base.proofs.Modifiers.{conflicts, holder_at}
use Rattle.ft_base.proofs.Small.{false_true, and_both}
use Rattle.ft_base.proofs.DeskLaws.{user_at-same, user_at-other}
use Rattle.ft_base.proofs.Order.{user-part}
use Rattle.ft_desk.specs.Declarations.{Declared, job_of}
use Rattle.ft_desk.proofs.ClaimLaws.{funcs-is}
use Rattle.site_set.proofs.MarksLemmas.{length-union}
use Rattle.module_table.specs.Lines.{mask, masks_from, replacing, desk_after}
use Rattle.module_table.specs.Reached.{is_replaced}
use Rattle.module_table.proofs.LowestLaws.{lowest-is_none}
use Rattle.module_table.proofs.HiddenLaws.{edited-replacing, selects-replacing, matches-fewer, union-fewer}

-- ## one mask

-- the user is registered and replaces functions
abbrev pub is_bound : Job → Desk → ℕ → Bool
is_bound job desk u = (user_at desk u).registered && is_some (spec_at job u).ipmodify

module _ (job : Job) (desk : Desk) (u : ℕ) (filter notrace : Marks) where
  -- no other user replaces a function that these sets match
  abbrev pub IsClear : Type 0
  IsClear = (f v : ℕ) → f < funcs job → v ≢ u → matches_by filter notrace f ≡ true → is_replaced job desk v f ≡ true → ⊥

  claim-accepted : IsClear → claim job desk u filter notrace ≡ Accepted
  claim-accepted clear = ap (λ o. busy_or o (holder_at job desk u o) Accepted)
      (lowest-is_none (conflicts job desk u filter notrace) 0 (funcs job) (λ f l r. free f (omega arith)))
    where
      apart : (f v : ℕ) → f < funcs job → matches_by filter notrace f ≡ true → v ≢ u → (b : Bool) → is_replaced job desk v f ≡ b → is_replaced job desk v f ≡ false
      apart f v lt m ne true h = absurd (clear f v lt ne m h)
      apart f v lt m ne false h = h

      nobody : (f : ℕ) → f < funcs job → matches_by filter notrace f ≡ true → (v : ℕ) → other_modifier job desk u f v ≡ false
      nobody f lt m v = elim (eqb_tells v u) [
        | inl t ↦ rw t.0 refl
        | inr q ↦ rw q.0 (apart f v lt m q.1 (is_replaced job desk v f) refl)
      ]

      free : (f : ℕ) → f < funcs job → conflicts job desk u filter notrace f ≡ false
      free f lt = by (matches_by filter notrace f) refl
        where
          by : (b : Bool) → matches_by filter notrace f ≡ b → conflicts job desk u filter notrace f ≡ false
          by true m = rw (lowest-is_none (other_modifier job desk u f) 0 (length job.users) (λ v l r. nobody f lt m v), m) refl
          by false m = rw m refl

  -- a user that is bound needs a filter, and nobody in its way
  edit-accepted : (set : Marks) → (is_bound job desk u ≡ true → is_empty filter ≡ false) → (is_bound job desk u ≡ true → IsClear)
      → edit_answer job desk u (replacing set) filter notrace ≡ Accepted
  edit-accepted set filters clear = by (is_empty set || not (is_empty set)) (is_bound job desk u) (selects-replacing set) refl
    where
      by : (s b : Bool) → s ≡ true → is_bound job desk u ≡ b
          → cond ((b && s) && is_empty filter) Invalid (cond (not s) NoMatch (cond b (claim job desk u filter notrace) Accepted)) ≡ Accepted
      by false b e h = false_true e
      by true false e h = refl
      by true true e h = subst (λ (b : Bool). cond b Invalid (claim job desk u filter notrace) ≡ Accepted) (sym (filters h)) (claim-accepted (clear h))

-- ## the masks of all users

abbrev pub with_notrace : UserState → Marks → UserState
with_notrace s notrace = record s { notrace = notrace }

module _ (d : Declared) (owns : List Marks) (low new : Marks) where
  abbrev job : Job
  job = job_of d

  abbrev own_at : ℕ → Marks
  own_at u = get_or owns u []

  -- the user would replace the function if only these were hidden
  abbrev pub may_replace : Desk → ℕ → ℕ → Bool
  may_replace desk f u = (user_at desk u).registered && is_some (spec_at (job_of d) u).ipmodify && matches_by (user_at desk u).filter (union (get_or owns u []) low) f

  -- some users are masked, and the others as before: each keeps out at least its own set and these functions
  pub record IsUnderway (desk : Desk) : Type 0 where
    pub users : length desk.users ≡ length d.specs
    pub sets : (u : ℕ) → u < length d.specs → length (get_or owns u []) ≡ d.funcs
    pub low_size : length low ≡ d.funcs
    pub new_size : length new ≡ d.funcs
    pub fewer : (f : ℕ) → holds low f ≡ true → holds new f ≡ true
    pub more : (u f : ℕ) → u < length d.specs → holds (union (get_or owns u []) low) f ≡ true → holds (user_at desk u).notrace f ≡ true
    pub filters : (u : ℕ) → is_bound (job_of d) desk u ≡ true → is_empty (user_at desk u).filter ≡ false
    pub apart : (f u v : ℕ) → f < d.funcs → may_replace desk f u ≡ true → may_replace desk f v ≡ true → u ≡ v

  -- the desk after the masks of some users, from a number on
  pub record IsMasked (old now : Desk) (from : ℕ) (os : List Marks) : Type 0 where
    pub users : length now.users ≡ length old.users
    pub before : (v : ℕ) → v < from → user_at now v ≡ user_at old v
    pub masked : (i v : ℕ) → v ≡ from + i → i < length os → user_at now v ≡ with_notrace (user_at old v) (union (get_or os i []) new)
    pub depth : now.depth ≡ old.depth

  registered-within : (us : List UserState) (v : ℕ) (s : UserState) → s.registered ≡ false → (get_or us v s).registered ≡ true → v < length us
  registered-within [] v s off e = false_true (sym off ∙ e)
  registered-within (x ∷ us) zero s off e = omega arith
  registered-within (x ∷ us) (suc v) s off e = let l = registered-within us v s off e in omega arith

  module _ (desk : Desk) (is : IsUnderway desk) (u : ℕ) (lt : u < length d.specs) where
    abbrev masked_set : Marks
    masked_set = union (own_at u) new

    size : length masked_set ≡ d.funcs
    size = length-union (own_at u) new ∙ is.sets u lt

    -- who replaces a function replaces it with fewer functions hidden
    lower : (f v : ℕ) → is_replaced job desk v f ≡ true → may_replace desk f v ≡ true
    lower f v e =
        let a = and_both (is_bound job desk v) (is_matching (user_at desk v) f) e in
        let r = and_both (user_at desk v).registered (is_some (spec_at job v).ipmodify) a.0 in
        let inside : v < length d.specs = let l = registered-within desk.users v _ refl r.0 in let s = is.users in omega arith in
        rw a.0 (matches-fewer (user_at desk v).filter (user_at desk v).notrace (union (own_at v) low) f (is.more v f inside) a.1)

    lower-new : (f : ℕ) → is_bound job desk u ≡ true → matches_by (user_at desk u).filter masked_set f ≡ true → may_replace desk f u ≡ true
    lower-new f b m = rw b (matches-fewer (user_at desk u).filter masked_set (union (own_at u) low) f
        (union-fewer (own_at u) new low f (is.new_size ∙ sym (is.sets u lt)) (is.low_size ∙ sym (is.sets u lt)) (is.fewer f)) m)

    mask-masked_set : edited (funcs job) (user_at desk u).notrace (replacing masked_set) ≡ masked_set
    mask-masked_set = ap (λ n. edited n (user_at desk u).notrace (replacing masked_set)) (funcs-is d.funcs ∙ sym size) ∙ edited-replacing (user_at desk u).notrace masked_set

    mask-accepted : answer_on job desk (mask u (own_at u) new) ≡ Accepted
    mask-accepted = ap (edit_answer job desk u (replacing masked_set) (user_at desk u).filter) mask-masked_set
        ∙ edit-accepted job desk u (user_at desk u).filter masked_set masked_set (is.filters u)
        (λ b f v l ne m r. ne (is.apart f v u (rw (funcs-is d.funcs) at l) (lower f v r) (lower-new f b m)))

    mask-after : (k : ℕ) → after job desk k (Some (mask u (own_at u) new)) ≡ with_user desk u (with_notrace (user_at desk u) masked_set)
    mask-after k = ap (λ a. cond (is_accepted a) (with_user desk u (with_notrace (user_at desk u) (edited (funcs job) (user_at desk u).notrace (replacing masked_set)))) desk) mask-accepted
        ∙ ap (λ n. with_user desk u (with_notrace (user_at desk u) n)) mask-masked_set

    abbrev after-desk : Desk
    after-desk = with_user desk u (with_notrace (user_at desk u) masked_set)

    inside : u < length desk.users
    inside = let s = is.users in omega arith

    same-registered : (v : ℕ) → (user_at after-desk v).registered ≡ (user_at desk v).registered
    same-registered v = user-part (λ (s : UserState). s.registered) desk u (with_notrace (user_at desk u) masked_set) inside refl v

    same-filter : (v : ℕ) → (user_at after-desk v).filter ≡ (user_at desk v).filter
    same-filter v = user-part (λ (s : UserState). s.filter) desk u (with_notrace (user_at desk u) masked_set) inside refl v

    same-bound : (v : ℕ) → is_bound job after-desk v ≡ is_bound job desk v
    same-bound v = ap (λ b. b && is_some (spec_at job v).ipmodify) (same-registered v)

    same-may : (f v : ℕ) → may_replace after-desk f v ≡ may_replace desk f v
    same-may f v = ap₂ (λ b filter. b && is_some (spec_at job v).ipmodify && matches_by filter (union (own_at v) low) f) (same-registered v) (same-filter v)

    underway-after : IsUnderway (with_user desk u (with_notrace (user_at desk u) masked_set))
    underway-after = record {
      users = length-set desk.users u (with_notrace (user_at desk u) masked_set) ∙ is.users;
      sets = is.sets;
      low_size = is.low_size;
      new_size = is.new_size;
      fewer = is.fewer;
      more = λ v f l e. elim (cases_eq v u) [
        | inl same ↦ ap (λ w. holds (user_at after-desk w).notrace f) same ∙ ap (λ (s : UserState). holds s.notrace f) (user_at-same desk u (with_notrace (user_at desk u) masked_set) inside)
            ∙ union-fewer (own_at u) new low f (is.new_size ∙ sym (is.sets u lt)) (is.low_size ∙ sym (is.sets u lt)) (is.fewer f) (ap (λ w. holds (union (own_at w) low) f) (sym same) ∙ e)
        | inr apart ↦ ap (λ (s : UserState). holds s.notrace f) (user_at-other desk u v (with_notrace (user_at desk u) masked_set) apart) ∙ is.more v f l e
      ];
      filters = λ v b. ap is_empty (same-filter v) ∙ is.filters v (sym (same-bound v) ∙ b);
      apart = λ f v w l a b. is.apart f v w l (sym (same-may f v) ∙ a) (sym (same-may f w) ∙ b);
    }

  -- the masks of users lead to a desk on which they are masked
  abbrev Runs : List Marks → ℕ → ℕ → Type 0
  Runs os from k = (desk : Desk) → IsUnderway desk → from + length os ≡ length d.specs
      → ((i : ℕ) → i < length os → get_or os i [] ≡ get_or owns (from + i) [])
      → IsMasked desk (desk_after (job_of d) desk k (masks_from from os new)) from os

  -- one more
  module _ (o : Marks) (os : List Marks) (from k : ℕ) (deeper : Runs os (suc from) (suc k)) (desk : Desk) (is : IsUnderway desk)
      (size : from + length (o ∷ os) ≡ length d.specs) (same : (i : ℕ) → i < length (o ∷ os) → get_or (o ∷ os) i [] ≡ get_or owns (from + i) []) where
    first : from < length d.specs
    first = omega arith

    head : o ≡ own_at from
    head = same 0 (omega arith) ∙ ap own_at (add-zero from)

    abbrev state : UserState
    state = with_notrace (user_at desk from) (union o new)

    abbrev next : Desk
    next = with_user desk from state

    step : after job desk (suc k) (Some (mask from o new)) ≡ next
    step = subst (λ w. after job desk (suc k) (Some (mask from w new)) ≡ with_user desk from (with_notrace (user_at desk from) (union w new))) (sym head) (mask-after desk is from first (suc k))

    on : IsUnderway next
    on = subst (λ w. IsUnderway (with_user desk from (with_notrace (user_at desk from) (union w new)))) (sym head) (underway-after desk is from first)

    abbrev result : Desk
    result = desk_after job desk k (masks_from from (o ∷ os) new)

    rest : IsMasked next result (suc from) os
    rest = subst (λ x. IsMasked next (desk_after job x (suc k) (masks_from (suc from) os new)) (suc from) os) (sym step)
        (deeper next on (omega arith) (λ i l. same (suc i) (omega arith) ∙ ap own_at (let e : from + suc i ≡ suc from + i = omega arith in e)))

    more-masked : (i v : ℕ) → v ≡ from + i → i < length (o ∷ os) → user_at result v ≡ with_notrace (user_at desk v) (union (get_or (o ∷ os) i []) new)
    more-masked zero v e l =
        let here : v ≡ from = omega arith in
        subst (λ w. user_at result w ≡ with_notrace (user_at desk w) (union o new)) (sym here)
        (rest.before from (omega arith) ∙ user_at-same desk from state (let s = is.users in omega arith))
    more-masked (suc i) v e l = rest.masked i v (omega arith) (omega arith)
        ∙ ap (λ s. with_notrace s (union (get_or os i []) new)) (user_at-other desk from v state (λ same. absurd (omega arith)))

    masks-more : IsMasked desk result from (o ∷ os)
    masks-more = record {
      users = rest.users ∙ length-set desk.users from state;
      before = λ v l. rest.before v (omega arith) ∙ user_at-other desk from v state (λ e. absurd (omega arith));
      masked = more-masked;
      depth = rest.depth;
    }

  -- the masks of the users from a number on
  pub masks-run : (os : List Marks) (from k : ℕ) (desk : Desk) → IsUnderway desk → from + length os ≡ length d.specs
      → ((i : ℕ) → i < length os → get_or os i [] ≡ get_or owns (from + i) [])
      → IsMasked desk (desk_after (job_of d) desk k (masks_from from os new)) from os
  masks-run [] from k desk is size same = record { users = refl; before = λ v l. refl; masked = λ i v e l. absurd (omega arith); depth = refl }
  masks-run (o ∷ os) from k desk is size same = masks-more o os from k (masks-run os (suc from) (suc k)) desk is size same
