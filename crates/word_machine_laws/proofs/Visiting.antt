-- A user that was found on may be visited: it is on after the commands that have returned or those that have begun, and the call has not visited
-- it.
use Rattle.std.proofs.Common.{cond, ◌≡◌, ℕ, suc, ◌<◌, ◌≤◌, Bool, true, false, ◌||◌, ◌==◌, List, [], ◌∷◌, refl, sym, ap, ◌∙◌, subst, arith, inl, inr, eqb-true}
use Rattle.std.specs.List.{list_any, AllByRecursion as Each}
use Rattle.ft_base.specs.declared.number.CallNo.{CallNo}
use Rattle.ft_base.specs.declared.item.Item.{Item}
use Rattle.ft_base.specs.declared.item.Item.TheVariants.{Back, Refuse, Begin, Return}
use Rattle.ft_base.specs.declared.item.Ran.{Ran}
use Rattle.ft_base.specs.declared.item.Ran.TheVariants.{Nop, List as ByList, Own}
use Rattle.ft_base.specs.Same.{same_call}
use Rattle.ft_base.specs.Job.{Job}
use Rattle.ft_base.specs.Desk.{desk, is_on, user_at}
use Rattle.ft_base.specs.Order.{IsOrder, has}
use Rattle.ft_base.proofs.Small.{false_true, and_both, Each-weaker, Each-filter}
use Rattle.ft_hist.specs.Past.{done, begun, entry_of, Visit, all_visits, visits, registration_at}
use Rattle.ft_hist.specs.Rules.{IsLegalPast, IsUnvisited, MayVisit}
use Rattle.ft_hist.proofs.WindowLaws.{legal-counts, begun-more}
use Rattle.word_machine.specs.Commands.{effect, subject, state_of, Removes}
use Rattle.word_machine.specs.Progress.{underway, begun_at, selected, listed, desk_by}
use Rattle.word_machine.specs.UserList.{since_of, list_desk}
use Rattle.word_machine.specs.Verdicts.{Here, Found, BeforeVisit, Walks}
use Rattle.word_machine.specs.Rule.{Counts, IsWordJob}
use Rattle.word_machine_laws.proofs.DeskChanges.{between, since-between, numbers-kept, since-positive}
use Rattle.word_machine_laws.proofs.VerdictLaws.{seen_either, seen_map, either_of, selected-underway, listed-underway}

module _ (job : Job) (ok : IsWordJob job) where
  abbrev Told : List Item → List Visit → Type 0
  Told past ms = Each (λ m. m.since ≤ since_of job (begun past) m.user) ms

  told-more : (item : Item) (past : List Item) (ms : List Visit) → Told past ms → Told (item ∷ past) ms
  told-more item past ms x = Each-weaker (λ m. m.since ≤ since_of job (begun past) m.user) (λ m. m.since ≤ since_of job (begun (item ∷ past)) m.user) ms
      (λ m le. let g = since-between job ok.job' (begun past) (begun (item ∷ past)) m.user (begun-more item past) in omega (arith, le, g)) x

  read-below : (call : CallNo) (u : ℕ) (past : List Item) → done past ≤ begun past → since_of job (registration_at job call u past) u
      ≤ since_of job (begun past) u
  read-below call u past le =
      elim (is_on (desk job (done past)) u (entry_of call past).func) as (λ b. since_of job (cond b (done past) (begun past)) u ≤ since_of job (begun past) u) [
        | true ↦ since-between job ok.job' (done past) (begun past) u le
        | false ↦ omega arith
      ]

  -- each visit tells a number that its user had
  pub told : (past : List Item) → IsLegalPast job past → Told past (all_visits job past)
  unfolding IsLegalPast all_visits
  told [] l = tt
  told (Back c u ∷ past) l = (read-below c u.0 past (legal-counts job past l.1).0, told past l.1)
  told (Refuse c u r ∷ past) l = (read-below c u.0 past (legal-counts job past l.1).0, told past l.1)
  told (Begin k ∷ past) l = told-more (Begin k) past (all_visits job past) (told past l.1)
  told (Return k a ∷ past) l = told-more (Return k a) past (all_visits job past) (told past l.1)
  told (_ ∷ past) l = told past l.1

  module _ (h : Here) (q clock : ℕ) (past : List Item) (counts : Counts h.d h.p clock past) (legal : IsLegalPast job past)
      (ord : IsOrder (desk job (list_desk h.p h.d)) (list_desk h.p h.d) h.order) where
    -- the user at which a walker is has the numbers that it has after the commands that have begun
    pub walk-since : (u : ℕ) → Walks job h q u → (0 < since_of job (list_desk h.p h.d) u) × (since_of job (begun past) u ≡ since_of job (list_desk h.p h.d) u)
    walk-since u w = subst (λ k. (0 < since_of job (list_desk h.p h.d) u) × (since_of job k u ≡ since_of job (list_desk h.p h.d) u)) (sym counts.started)
        (by_list (listed h.p) refl)
      where
        by_list : (b : Bool) → listed h.p ≡ b → (0 < since_of job (desk_by (listed h.p) h.d) u)
            × (since_of job (begun_at h.p h.d) u ≡ since_of job (desk_by (listed h.p) h.d) u)
        by_list true e = rw (e, listed-underway h.p e) (there w, refl)
          where
            there : Walks job h q u → 0 < since_of job (suc h.d) u
            there (inl x) = since-positive job ok.job' (suc h.d) u
                (sym (subst (λ b. has u h.order ≡ (user_at (desk job (desk_by b h.d)) u).registered) e (ord.members u)) ∙ x)
            there (inr x) =
                let removes = (between job ok.job' h.d).subject in
                let reg : (state_of job h.d u).registered ≡ true = subst (λ v. (state_of job h.d v).registered ≡ true) (sym x.0.2) (gone_reg x.0.1) in
                let kept = numbers-kept job ok.job' h.d u reg in
                let pos = since-positive job ok.job' h.d u reg in
                let e' = kept.0 in omega (arith, pos, e')
              where
                gone_reg : effect job h.d ≡ Removes → (state_of job h.d (subject job h.d)).registered ≡ true
                gone_reg z = (rw z at (between job ok.job' h.d).subject).0
        by_list false e = rw e (here w)
          where
            here : Walks job h q u → (0 < since_of job h.d u) × (since_of job (begun_at h.p h.d) u ≡ since_of job h.d u)
            here (inr x) = false_true (sym e ∙ x.0.0)
            here (inl x) =
                let reg : (state_of job h.d u).registered ≡ true =
                sym (subst (λ b. has u h.order ≡ (user_at (desk job (desk_by b h.d)) u).registered) e (ord.members u)) ∙ x in
                (since-positive job ok.job' h.d u reg, by_under (underway h.p) reg)
              where
                by_under : (b : Bool) → (state_of job h.d u).registered ≡ true → since_of job (cond b (suc h.d) h.d) u ≡ since_of job h.d u
                by_under true reg = (numbers-kept job ok.job' h.d u reg).0
                by_under false reg = refl

    on-registered : (k u f : ℕ) → is_on (desk job k) u f ≡ true → (state_of job k u).registered ≡ true
    on-registered k u f e = (and_both _ _ (and_both _ _ e).0).0

    -- and so has it after the command at which a visit reads its registration
    pub read-numbers : (call : CallNo) (u : ℕ) → (since_of job (registration_at job call u past) u ≡ since_of job (begun past) u)
        × ((state_of job (registration_at job call u past) u).reg ≡ (state_of job (begun past) u).reg)
    read-numbers call u =
        elim (is_on (desk job (done past)) u (entry_of call past).func)
        as (λ b. is_on (desk job (done past)) u (entry_of call past).func ≡ b
        → (since_of job (cond b (done past) (begun past)) u ≡ since_of job (begun past) u)
        × ((state_of job (cond b (done past) (begun past)) u).reg ≡ (state_of job (begun past) u).reg)) [
          | false ↦ λ e. (refl, refl)
          | true ↦ λ e. at_done (on-registered (done past) u _ e)
        ] refl
      where
        at_done : (state_of job (done past) u).registered ≡ true → (since_of job (done past) u ≡ since_of job (begun past) u)
            × ((state_of job (done past) u).reg ≡ (state_of job (begun past) u).reg)
        at_done reg = rw (counts.returned, counts.started) (by_under (underway h.p) (rw counts.returned at reg))
          where
            by_under : (b : Bool) → (state_of job h.d u).registered ≡ true → (since_of job h.d u ≡ since_of job (cond b (suc h.d) h.d) u)
                × ((state_of job h.d u).reg ≡ (state_of job (cond b (suc h.d) h.d) u).reg)
            by_under true reg = (let n = numbers-kept job ok.job' h.d u reg in (sym n.0, sym n.1))
            by_under false reg = (refl, refl)

    -- the registration that was found is that of the visit
    pub read-reg : (call : CallNo) (u reg f : ℕ) → Found job h q u reg f → (state_of job (registration_at job call u past) u).reg ≡ reg
    read-reg call u reg f found =
        elim (seen_either (selected h.p) (effect job h.d) h.p h.request q _ _ found) [
          | inl x ↦ (read-numbers call u).1 ∙ sym (old x.0) ∙ x.1
          | inr x ↦ (read-numbers call u).1 ∙ ap (λ (k : ℕ). (state_of job k u).reg) (counts.started ∙ rw (selected-underway h.p x.0) refl) ∙ x.1.1
        ]
      where
        old : is_on (desk job h.d) u f ≡ true → (state_of job h.d u).reg ≡ (state_of job (begun past) u).reg
        old e = rw counts.started (by_under (underway h.p))
          where
            by_under : (b : Bool) → (state_of job h.d u).reg ≡ (state_of job (cond b (suc h.d) h.d) u).reg
            by_under true = sym (numbers-kept job ok.job' h.d u (on-registered h.d u f e)).1
            by_under false = refl

    -- nobody who was visited has a later number than that user has now
    unmet : (call : CallNo) (u : ℕ) (ms : List Visit) → Told past ms → Each (λ m. since_of job (begun past) u < m.since) ms
        → list_any (λ m. m.user == u) ms ≡ false
    unmet call u [] t b = refl
    unmet call u (m ∷ ms) t b =
        elim (m.user == u) as (λ e. (m.user == u) ≡ e → (e || list_any (λ m. m.user == u) ms) ≡ false) [
          | true ↦ λ e. absurd (let le : m.since ≤ since_of job (begun past) u = subst (λ v. m.since ≤ since_of job (begun past) v)
              (eqb-true m.user u e) t.0 in let lt = b.0 in omega (arith, le, lt))
          | false ↦ λ e. unmet call u ms t.1 b.1
        ] refl

    pub may_meet : (ran : Ran) (call : CallNo) (u reg f : ℕ) → (entry_of call past).func ≡ f → Found job h q u reg f
        → BeforeVisit job h q ran u (visits job call past) → MayVisit job past call u
    may_meet ran call u reg f known found before = record {
      on = rw known (either_of job h q clock past (selected h.p) (λ k. is_on (desk job k) u f ≡ true) counts (selected-underway h.p)
          (seen_map (selected h.p) (effect job h.d) h.p h.request q _ _ _ _ (λ x. x.0) (λ x. x.0) found));
      once = by_once ran before;
      order = by_order ran before;
    }
      where
        told-visits : Told past (visits job call past)
        told-visits = Each-filter (λ m. m.since ≤ since_of job (begun past) m.user) (λ m. same_call m.call call) (all_visits job past) (told past legal)

        later : Walks job h q u → Each (λ m. since_of job (list_desk h.p h.d) u < m.since) (visits job call past)
            → Each (λ m. since_of job (begun past) u < m.since) (visits job call past)
        later w each = subst (λ n. Each (λ m. n < m.since) (visits job call past)) (sym (walk-since u w).1) each

        by_once : (r : Ran) → BeforeVisit job h q r u (visits job call past) → IsUnvisited job call u past
        by_once ByList b = unmet call u (visits job call past) told-visits (later b.0 b.1)
        by_once (Own w) b = rw b.1 refl
        by_once Nop b = absurd b

        by_order : (r : Ran) → BeforeVisit job h q r u (visits job call past)
            → Each (λ m. (user_at (desk job (registration_at job call u past)) u).since < m.since) (visits job call past)
        by_order ByList b = subst (λ n. Each (λ m. n < m.since) (visits job call past)) (sym (read-numbers call u).0) (later b.0 b.1)
        by_order (Own w) b = rw b.1 tt
        by_order Nop b = absurd b
