-- The walk of the list of users: the load of its head, and of a user's link.
use Rattle.std.proofs.Common.{◌≡◌, ◌⊎◌, ℕ, suc, ◌<◌, ◌≤◌, Bool, true, false, List, [], ◌∷◌, inl, inr, refl, sym, ap, ◌∙◌, subst, arith, nat_lt, nat_le}
use Rattle.std.specs.List.{AllByRecursion as Each}
use Rattle.std.proofs.lemmas.Bool.Decides.{nat_tests}
use Rattle.ft_base.specs.declared.item.Ran.TheVariants.{List as ByList}
use Rattle.ft_base.specs.declared.item.Item.{Item}
use Rattle.ft_base.specs.Job.{Job}
use Rattle.ft_base.specs.Desk.{desk}
use Rattle.ft_base.specs.Order.{has}
use Rattle.word_map.specs.Chains.{Leads}
use Rattle.ft_base.proofs.Small.{false_true, Each-weaker}
use Rattle.ft_hist.specs.Past.{begun, visits, entry_of, Visit}
use Rattle.ft_hist.specs.Rules.{OnlyThose}
use Rattle.ft_hist.specs.Known.{WasOff}
use Rattle.word_machine.specs.Commands.{state_of}
use Rattle.word_machine.specs.Task.{OpenCall, Moment, AtFirst, AtLink, TestSel, Closing, walks_to}
use Rattle.word_machine.specs.Progress.{listed}
use Rattle.word_machine.specs.UserList.{since_of, older, list_desk, UserList}
use Rattle.word_machine.specs.Verdicts.{Here, Dispatches, RanIs, Walks, BeforeVisit, AfterVisit, may_come_before, may_come_after, may_come_closing}
use Rattle.word_machine.specs.Rule.{Counts, IsWordJob}
use Rattle.word_machine_laws.proofs.VerdictLaws.{listed-underway}
use Rattle.word_machine.proofs.Small.{if_case, each_of, has_case, has-head}
use Rattle.word_machine_laws.proofs.LoadMoments.{dispatch_goes}
use Rattle.word_machine_laws.proofs.LoadFetch.{begun-low, begun-high}
use Rattle.word_machine_laws.proofs.LoadTests.{Comes, low-of}
use Rattle.word_machine_laws.proofs.UserList.{falls_of, older_below, Falls, falls_below, reads_older, among_of, older_among, among_older}

module _ (job : Job) (ok : IsWordJob job) (h : Here) (past : List Item) (clock : ℕ) (counts : Counts h.d h.p clock past) (ack q : ℕ) (c : OpenCall)
    (below : List OpenCall) where
  module _ (first : ℕ) (list : UserList job h.d h.p h.order first h.link) (m : Moment) (x : Dispatches job h past ack q c below m) (ran : RanIs job past c)
      (is : c.ran ≡ ByList) where
    low : (entry_of c.call past).from ≤ list_desk h.p h.d
    low = (let l = low-of job ok h past clock counts ack q c below m x in
        if_case (λ k. (entry_of c.call past).from ≤ k) (listed h.p) (suc h.d) h.d (λ e. omega (arith, l)) (λ e. l))

    up : list_desk h.p h.d ≤ begun past
    up = if_case (λ k. k ≤ begun past) (listed h.p) (suc h.d) h.d (λ e. begun-high job ok h past clock counts (listed-underway h.p e))
        (λ e. begun-low job ok h past clock counts)

    -- the list falls
    falls : Falls (since_of job (list_desk h.p h.d)) (suc (list_desk h.p h.d)) h.order
    falls = falls_of (desk job (list_desk h.p h.d)) (suc (list_desk h.p h.d)) h.order (each_of _ h.order (λ v. let r = list.order'.recent v in
        omega (arith, r))) list.order'.falling

    -- the load of a word whose links give these users: who was to come is among them
    name_kept : (w : ℕ) (todo : ℕ → Bool) (l : List ℕ) (b : ℕ) → Leads h.link w l → Falls (since_of job (list_desk h.p h.d)) b l
        → ((v : ℕ) → has v l ≡ true → has v h.order ≡ true)
        → ((v : ℕ) → todo v ≡ true → has v h.order ≡ true → has v l ≡ true) → Comes job ok h past clock counts ack q c below todo
        → ((v : ℕ) → since_of job (list_desk h.p h.d) v < b → Each (λ (y : Visit). since_of job (list_desk h.p h.d) v < y.since) (visits job c.call past))
        → Dispatches job h past ack q c below (walks_to w)
    name_kept w todo [] b r f sub all watch later =
        subst (λ v. Dispatches job h past ack q c below (walks_to v)) (sym r)
        (dispatch_goes job h past ack q c below m Closing c.ran x
        (subst (λ r. Comes job ok h past clock counts ack q c below (λ v. may_come_closing r v)) (sym is)
        (λ v un. elim (watch v un) [ inr o ↦ inr o | inl t ↦ inr (off v (state_of job (list_desk h.p h.d) v).registered refl t) ]))
        (ran, subst (λ r. OnlyThose r (visits job c.call past)) (sym is) tt))
      where
        off : (v : ℕ) (b : Bool) → (state_of job (list_desk h.p h.d) v).registered ≡ b → todo v ≡ true → WasOff job c.call c.func v past
        off v false e t = (list_desk h.p h.d, low, up, (rw e refl))
        off v true e t = false_true (all v t (list.order'.members v ∙ e))
    name_kept w todo (u ∷ us) b r f sub all watch later =
        subst (λ v. Dispatches job h past ack q c below (walks_to v)) (sym r.0)
        (dispatch_goes job h past ack q c below m (TestSel u) c.ran x
        (subst (λ r. Comes job ok h past clock counts ack q c below (λ v. may_come_before (since_of job (list_desk h.p h.d)) r u v)) (sym is)
        (λ v un. elim (watch v un) [ inr o ↦ inr o | inl t ↦ comes v (state_of job (list_desk h.p h.d) v).registered refl t ]))
        (ran, subst (λ r. BeforeVisit job h q r u (visits job c.call past)) (sym is) (inl (sub u (has-head u us)), later u f.0), is))
      where
        comes : (v : ℕ) (b : Bool) → (state_of job (list_desk h.p h.d) v).registered ≡ b → todo v ≡ true
            → (nat_le (since_of job (list_desk h.p h.d) v) (since_of job (list_desk h.p h.d) u) ≡ true) ⊎ WasOff job c.call c.func v past
        comes v false e t = inr (list_desk h.p h.d, low, up, (rw e refl))
        comes v true e t = inl (elim (has_case v u us (all v t (list.order'.members v ∙ e))) [
          | inl s ↦ (let z : since_of job (list_desk h.p h.d) u ≡ since_of job (list_desk h.p h.d) v = ap (since_of job (list_desk h.p h.d)) s in
              grind (arith, nat_tests))
          | inr a ↦ (let z : since_of job (list_desk h.p h.d) v < since_of job (list_desk h.p h.d) u = falls_below (since_of job (list_desk h.p h.d))
              (since_of job (list_desk h.p h.d) u) us v f.1 (among_of v us a) in grind (arith, nat_tests))
        ])

  -- the load of the head of the list
  pub first_kept : (first : ℕ) → UserList job h.d h.p h.order first h.link → Dispatches job h past ack q c below AtFirst
      → Dispatches job h past ack q c below (walks_to first)
  first_kept first list x =
      name_kept first list AtFirst x x.at.1 x.at.2 first (λ v. true) h.order (suc (list_desk h.p h.d)) list.leads (falls first list AtFirst x x.at.1 x.at.2)
      (λ v a. a) (λ v t a. a) (λ v un. inl refl)
      (λ v lt. subst (λ ms. Each (λ (y : Visit). since_of job (list_desk h.p h.d) v < y.since) ms) (sym x.at.0) tt)

  -- the load of a user's link
  pub link_kept : (u first : ℕ) → UserList job h.d h.p h.order first h.link → Dispatches job h past ack q c below (AtLink u)
      → Dispatches job h past ack q c below (walks_to (h.link u))
  link_kept u first list x =
      let after : AfterVisit job h q ByList u (visits job c.call past) = subst (λ r. AfterVisit job h q r u (visits job c.call past)) x.at.2 x.at.1 in
      let since : ℕ → ℕ = since_of job (list_desk h.p h.d) in
      let f : Falls since (suc (list_desk h.p h.d)) h.order = falls first list (AtLink u) x x.at.0 x.at.2 in
      name_kept first list (AtLink u) x x.at.0 x.at.2 (h.link u) (λ v. nat_lt (since v) (since u)) (older since (since u) h.order) (since u)
      (walks after.0) (older_below since (since u) (suc (list_desk h.p h.d)) h.order f) (λ v a. older_among since (since u) h.order v a)
      (λ v t a. among_older since (since u) 0 h.order v a (grind (arith, nat_tests)))
      (subst (λ r. Comes job ok h past clock counts ack q c below (λ v. may_come_after since r u v)) x.at.2 x.so.watch)
      (λ v lt. Each-weaker (λ y. since u ≤ y.since) (λ y. since v < y.since) (visits job c.call past) (λ y l. omega (arith, l, lt)) after.1)
    where
      walks : Walks job h q u → Leads h.link (h.link u) (older (since_of job (list_desk h.p h.d)) (since_of job (list_desk h.p h.d) u) h.order)
      walks (inl a) = reads_older h.link (since_of job (list_desk h.p h.d)) (suc (list_desk h.p h.d)) first h.order u
          (falls first list (AtLink u) x x.at.0 x.at.2) list.leads (among_of u h.order a)
      walks (inr g) = g.1
