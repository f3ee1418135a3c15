-- What contracts see of a desk after a user was registered or unregistered.
use Rattle.std.proofs.Common.{cond, ◌≡◌, ℕ, zero, suc, ◌<◌, ◌==◌, Bool, true, false, not, ◌&&◌, ◌||◌, List, [], ◌∷◌, length, map, get_or, set, Option, Some, None, is_some, refl, sym, ap, ap₂, ◌∙◌, arith, get_or-set_same, eqb-true}
use Rattle.std.specs.List.{filter, list_any}
use Rattle.ft_base.specs.declared.number.UserNo.{UserNo}
use Rattle.ft_base.specs.Marks.{Marks}
use Rattle.ft_base.specs.Job.{Register, Unregister}
use Rattle.ft_base.specs.Desk.{UserState, unseen, is_free, has_slot, lowest, unregistered_as}
use Rattle.ft_base.proofs.Small.{false_true, and_both, or-true, ==-refl}
use Rattle.tramp_slots.specs.Holders.{Holders, holder_of, is_free_slot}
use Rattle.ipmodify.proofs.LowestLemmas.{lowest-same}
use Rattle.site_bytes.specs.declared.insn.SiteChange.{SiteChange}
use Rattle.ft_desk.specs.declared.user.User.{User}
use Rattle.ft_desk.specs.declared.plan.TrampChange.{TrampChange}
use Rattle.ft_desk.specs.declared.plan.TrampChange.TheVariants.{Keep as KeepTramp}
use Rattle.ft_desk.specs.declared.plan.ListChange.{ListChange}
use Rattle.ft_desk.specs.declared.plan.ListChange.TheVariants.{Push, Unlink}
use Rattle.ft_desk.specs.DeskInvariant.{AreSlots}
use Rattle.word_map.specs.Contents.{digit, other_copy, sel_of}
use Rattle.ft_desk.specs.Plans.{PlainPlan, first_of, given_by, no_plan, taken_by, user_after, user_before, user_no}
use Rattle.ft_desk.specs.DeskView.{carried_out}
use Rattle.word_map.specs.Instructions.{insn_at}
use Rattle.ft_desk.specs.Sites.{changed_sites}
use Rattle.ft_desk.specs.Users.{desk_by, enrolled, no_user, retired, state_of, user_of}
use Rattle.ft_desk.proofs.SumLaws.{user_at-is}
use Rattle.ft_desk.proofs.ViewLaws.{declared_with, desk_with, map-set, set-back}
use Rattle.ft_desk.proofs.DeskViewLaws.{seen, seen-same, declared-still, state-now, next-at, copy-at}
use Rattle.ft_desk.proofs.EditViews.{sites-with, other-digit}

-- ## free slots

any-true : (p : UserState → Bool) (users : List User) → list_any p (map state_of users) ≡ true
    → (i : ℕ) × (i < length users) × (p (state_of (user_of users i)) ≡ true)
any-true p [] e = false_true e
any-true p (x ∷ users) e = by (p (state_of x)) refl e (any-true p users)
  where
    by : (b : Bool) → p (state_of x) ≡ b → (b || list_any p (map state_of users)) ≡ true
        → (list_any p (map state_of users) ≡ true → (i : ℕ) × (i < length users) × (p (state_of (user_of users i)) ≡ true))
        → (i : ℕ) × (i < suc (length users)) × (p (state_of (user_of (x ∷ users) i)) ≡ true)
    by true h e deeper = (0, omega arith, h)
    by false h e deeper = let d = deeper e in (suc d.0, (let a = d.1 in omega (arith, a)), d.2)

any-at : (p : UserState → Bool) (users : List User) (i : ℕ) → i < length users → p (state_of (user_of users i)) ≡ true → list_any p (map state_of users) ≡ true
any-at p [] i h e = absurd (omega arith)
any-at p (x ∷ users) zero h e = ap (λ b. b || list_any p (map state_of users)) e
any-at p (x ∷ users) (suc i) h e = ap (λ b. p (state_of x) || b) (any-at p users i (omega arith) e) ∙ or-true (p (state_of x))

has-slot : (s : ℕ) (o : Option ℕ) → has_slot s o ≡ true → o ≡ Some s
has-slot s None e = false_true e
has-slot s (Some t) e = ap Some (sym (eqb-true s t e))

slot-has : (s : ℕ) (o : Option ℕ) → o ≡ Some s → has_slot s o ≡ true
slot-has s o e = ap (has_slot s) e ∙ ==-refl s

-- a slot is free on the desk if it has no holder
pub free-is : (users : List User) (slots : Holders) (pids nopids : Marks) (depth s : ℕ) → AreSlots users slots
    → is_free_slot slots s ≡ is_free (desk_with users pids nopids depth) s
free-is users slots pids nopids depth s a = by (holder_of slots s) refl
  where
    held : UserState → Bool
    held v = v.registered && has_slot s v.slot

    taken : (b : Bool) → list_any (λ v. v.registered && has_slot s v.slot) (map state_of users) ≡ b → holder_of slots s ≡ None → b ≡ false
    taken true e h =
        let w = any-true (λ v. v.registered && has_slot s v.slot) users e in
        let both = and_both (user_of users w.0).registered (has_slot s (user_of users w.0).slot) w.2 in
        let no : None ≡ Some (user_no w.0) = sym h ∙ a.held w.0 s w.1 both.0 (has-slot s (user_of users w.0).slot both.1) in absurd cc
    taken false e h = refl

    by : (o : Option UserNo) → holder_of slots s ≡ o → not (is_some (holder_of slots s)) ≡ not (list_any (λ v. v.registered && has_slot s v.slot) (map state_of users))
    by None h = ap (λ o. not (is_some o)) h ∙ ap not (sym (taken (list_any (λ v. v.registered && has_slot s v.slot) (map state_of users)) refl h))
    by (Some v) h =
        let z = a.holds v s h in
        ap (λ o. not (is_some o)) h
        ∙ ap not (sym (any-at (λ v. v.registered && has_slot s v.slot) users v.0 z.0 (ap₂ (λ b c. b && c) z.1 (slot-has s (user_of users v.0).slot z.2))))

-- ## the list

pub numbers-without : (u : ℕ) (order : List UserNo) → map (λ (v : UserNo). v.0) (filter (λ v. not (v.0 == u)) order) ≡ filter (λ v. not (v == u)) (map (λ (v : UserNo). v.0) order)
numbers-without u [] = refl
numbers-without u (v ∷ order) = by (v.0 == u) (numbers-without u order)
  where
    by : (b : Bool) → map (λ (v : UserNo). v.0) (filter (λ v. not (v.0 == u)) order) ≡ filter (λ v. not (v == u)) (map (λ (v : UserNo). v.0) order)
        → map (λ (v : UserNo). v.0) (cond (not b) (v ∷ filter (λ v. not (v.0 == u)) order) (filter (λ v. not (v.0 == u)) order))
        ≡ cond (not b) (v.0 ∷ filter (λ v. not (v == u)) (map (λ (v : UserNo). v.0) order)) (filter (λ v. not (v == u)) (map (λ (v : UserNo). v.0) order))
    by true e = e
    by false e = ap (λ zs. v.0 ∷ zs) e

-- ## unregistered

abbrev with_retire : PlainPlan → ℕ → ℕ → TrampChange → ListChange → List SiteChange → PlainPlan
with_retire p u sel tramp list sites = record p { user = Some (user_no u); sel = Some sel; tramp = tramp; list = list; sites = sites; quiet = true }

with_retire-same : (p : PlainPlan) (u sel sel' : ℕ) (t t' : TrampChange) (l l' : ListChange) (sites sites' : List SiteChange) → p ≡ no_plan → sel ≡ sel' → t ≡ t' → l ≡ l' → sites ≡ sites'
    → with_retire p u sel t l sites ≡ with_retire no_plan u sel' t' l' sites'
with_retire-same p u sel sel' t t' l l' sites sites' ep es et el ei = rw (ep, es, et, el, ei) refl

pub retire-seen : (users users' : List User) (funcs funcs' tasks tramps tramps' : ℕ) (pids nopids : Marks) (depth : ℕ) (order order' : List ℕ) (commands commands' : ℕ)
    (plan before after : PlainPlan) (sites : List SiteChange) (u : ℕ) (old this : User) (prev next : Option UserNo) → u < length users
    → users' ≡ set users u (retired (user_of users u)) → funcs' ≡ funcs → tramps' ≡ tramps → commands' ≡ suc commands → before ≡ no_plan
    → old ≡ user_of users u → this ≡ user_of users' u → order' ≡ filter (λ v. not (v == u)) order
    → prev ≡ user_before None u order → next ≡ user_after u order
    → sites ≡ changed_sites (insn_at (desk_by users)) (insn_at (desk_by users')) 0 funcs
    → after ≡ with_retire before u (sel_of (state_of this) (digit this.second)) (given_by old.slot before.tramp) (Unlink prev next) sites
    → seen (declared_with users' funcs' tasks tramps') (desk_with users' pids nopids depth) (map (λ (x : User). digit x.second) users') order' commands' after
    ≡ carried_out (seen (declared_with users funcs tasks tramps) (desk_with users pids nopids depth) (map (λ (x : User). digit x.second) users) order commands plan) (Unregister u)
retire-seen users users' funcs funcs' tasks tramps tramps' pids nopids depth order order' commands commands' plan before after sites u old this prev next within
    eu ef er en eb eo et ed ep ex es ea =
    seen-same _ _ _ _ _ _ _ _ _ _ _ _
    (ap (λ t. declared_with users' funcs' tasks t) er ∙ declared-still users u (retired (user_of users u)) within refl users' funcs funcs' tasks tramps eu ef)
    state
    (ap (λ (us : List User). map (λ (x : User). digit x.second) us) eu ∙ set-back (λ (x : User). digit x.second) users u (retired (user_of users u)) no_user within refl)
    ed en
    (ea ∙ with_retire-same before u _ _ _ _ _ _ sites _ eb
    (ap (λ (x : User). sel_of (state_of x) (digit x.second)) (et ∙ ap (λ (us : List User). user_of us u) eu ∙ get_or-set_same users u (retired (user_of users u)) no_user within)
    ∙ ap₂ sel_of (ap unregistered_as (sym (user_at-is users u)) ∙ sym (next-at users u (retired (user_of users u)) within refl _)) (sym (copy-at users u)))
    (ap₂ (λ o (p : PlainPlan). given_by o p.tramp) (ap (λ (x : User). x.slot) eo ∙ sym (ap (λ (s : UserState). s.slot) (user_at-is users u))) eb)
    (ap₂ Unlink ep ex)
    (es ∙ sites-with users users' pids nopids depth funcs ∙ ap (λ d. changed_sites (insn_at (desk_with users pids nopids depth)) (insn_at d) 0 funcs) state))
  where
    state : desk_with users' pids nopids depth
        ≡ record { users = set (map state_of users) u (unregistered_as (get_or (map state_of users) u (unseen 0))); pids = pids; nopids = nopids; depth = depth }
    state = ap (λ ss. record { users = ss; pids = pids; nopids = nopids; depth = depth })
        (ap (map state_of) eu ∙ state-now users u (retired (user_of users u)) within refl _ (ap unregistered_as (sym (user_at-is users u))))

-- ## registered

abbrev with_enroll : PlainPlan → ℕ → ℕ → TrampChange → ListChange → List SiteChange → PlainPlan
with_enroll p u sel tramp list sites = record p { user = Some (user_no u); pair = true; sel = Some sel; tramp = tramp; list = list; sites = sites }

with_enroll-same : (p : PlainPlan) (u sel sel' : ℕ) (t t' : TrampChange) (l l' : ListChange) (sites sites' : List SiteChange) → p ≡ no_plan → sel ≡ sel' → t ≡ t' → l ≡ l' → sites ≡ sites'
    → with_enroll p u sel t l sites ≡ with_enroll no_plan u sel' t' l' sites'
with_enroll-same p u sel sel' t t' l l' sites sites' ep es et el ei = rw (ep, es, et, el, ei) refl

abbrev enrolled_state : ℕ → Option ℕ → UserState → UserState
enrolled_state since slot s = record s { registered = true; reg = suc s.reg; since = since; enabled = true; slot = slot }

enrolled_state-same : (k k' : ℕ) (o o' : Option ℕ) (s s' : UserState) → k ≡ k' → o ≡ o' → s ≡ s' → enrolled_state k o s ≡ enrolled_state k' o' s'
enrolled_state-same k k' o o' s s' ek eo es = rw (ek, eo, es) refl

pub enroll-seen : (users users' : List User) (funcs funcs' tasks : ℕ) (slots slots' : Holders) (pids nopids : Marks) (depth : ℕ) (order order' : List ℕ) (commands commands' : ℕ)
    (plan before after : PlainPlan) (sites : List SiteChange) (u : ℕ) (slot : Option ℕ) (this : User) (first : Option UserNo) → u < length users
    → AreSlots users slots → slot ≡ lowest (is_free_slot slots) 0 (length slots)
    → users' ≡ set users u (enrolled commands' slot (user_of users u)) → funcs' ≡ funcs → length slots' ≡ length slots → commands' ≡ suc commands → before ≡ no_plan
    → this ≡ user_of users' u → order' ≡ u ∷ order → first ≡ first_of order
    → sites ≡ changed_sites (insn_at (desk_by users)) (insn_at (desk_by users')) 0 funcs
    → after ≡ with_enroll before u (sel_of (state_of this) (digit this.second)) (taken_by slot this.reg before.tramp) (Push first) sites
    → seen (declared_with users' funcs' tasks (length slots')) (desk_with users' pids nopids depth) (map (λ (x : User). digit x.second) users') order' commands' after
    ≡ carried_out (seen (declared_with users funcs tasks (length slots)) (desk_with users pids nopids depth) (map (λ (x : User). digit x.second) users) order commands plan) (Register u)
enroll-seen users users' funcs funcs' tasks slots slots' pids nopids depth order order' commands commands' plan before after sites u slot this first within
    a el eu ef er en eb et ed ei es ea =
    seen-same _ _ _ _ _ _ _ _ _ _ _ _
    (ap (λ t. declared_with users' funcs' tasks t) er ∙ declared-still users u (enrolled commands' slot (user_of users u)) within refl users' funcs funcs' tasks (length slots) eu ef)
    state
    (ap (λ (us : List User). map (λ (x : User). digit x.second) us) eu ∙ map-set (λ (x : User). digit x.second) users u (enrolled commands' slot (user_of users u))
    ∙ ap (set (map (λ (x : User). digit x.second) users) u) (other-digit (user_of users u).second ∙ ap other_copy (sym (copy-at users u))))
    ed en
    (ea ∙ with_enroll-same before u _ _ _ _ _ _ sites _ eb
    (ap (λ (x : User). sel_of (state_of x) (digit x.second)) is-y
    ∙ ap₂ sel_of (own ∙ sym (next-at users u (enrolled commands' slot (user_of users u)) within refl _)) (other-digit (user_of users u).second ∙ ap other_copy (sym (copy-at users u))))
    (ap₂ (λ n (p : PlainPlan). taken_by slot n p.tramp) (ap (λ (x : User). x.reg) is-y) eb
    ∙ ap (λ (s : UserState). taken_by s.slot s.reg KeepTramp) (own ∙ sym (next-at users u (enrolled commands' slot (user_of users u)) within refl _)))
    (ap Push ei)
    (es ∙ sites-with users users' pids nopids depth funcs ∙ ap (λ d. changed_sites (insn_at (desk_with users pids nopids depth)) (insn_at d) 0 funcs) state))
  where
    is-y : this ≡ enrolled commands' slot (user_of users u)
    is-y = et ∙ ap (λ (us : List User). user_of us u) eu ∙ get_or-set_same users u (enrolled commands' slot (user_of users u)) no_user within

    own : state_of (enrolled commands' slot (user_of users u))
        ≡ enrolled_state (suc commands) (lowest (is_free (desk_with users pids nopids depth)) 0 (length slots)) (get_or (map state_of users) u (unseen 0))
    own = enrolled_state-same _ _ _ _ _ _ en
        (el ∙ lowest-same (is_free_slot slots) (is_free (desk_with users pids nopids depth)) 0 (length slots) (λ i h. free-is users slots pids nopids depth i a)) (sym (user_at-is users u))

    state : desk_with users' pids nopids depth
        ≡ record { users = set (map state_of users) u (enrolled_state (suc commands) (lowest (is_free (desk_with users pids nopids depth)) 0 (length slots)) (get_or (map state_of users) u (unseen 0))); pids = pids; nopids = nopids; depth = depth }
    state = ap (λ ss. record { users = ss; pids = pids; nopids = nopids; depth = depth })
        (ap (map state_of) eu ∙ state-now users u (enrolled commands' slot (user_of users u)) within refl _ own)
