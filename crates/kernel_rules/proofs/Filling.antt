-- A history that legal lines tell, with the refusals that they and later lines want to lack, and with each Miss that is due.
use Rattle.std.proofs.Common.{cond, ◌≡◌, ℕ, inl, inr, Bool, true, false, ◌==◌, List, ◌∷◌, map, Option, Some, None, IsSome, refl, sym, ap, ◌∙◌, subst, arith, eqb-true}
use Rattle.std.specs.List.{list_any, AllByRecursion as Each}
use Rattle.ft_base.specs.declared.number.CallNo.{CallNo}
use Rattle.ft_base.specs.declared.number.UserNo.{UserNo}
use Rattle.ft_base.specs.declared.item.Item.{Item}
use Rattle.ft_base.specs.declared.item.Item.TheVariants.{Refuse, Miss}
use Rattle.ft_base.specs.declared.item.Reason.{Reason}
use Rattle.ft_base.specs.Same.{same_call}
use Rattle.ft_base.specs.Job.{Job}
use Rattle.ft_base.proofs.Small.{==-refl, Each-weaker, or-true}
use Rattle.ft_hist.proofs.Laws.{same_call-refl}
use Rattle.ft_hist.specs.Past.{Callback, Visit, all_visits, is_dispatched, miss_due, since_now, visit}
use Rattle.ft_hist.specs.Plain.{plain}
use Rattle.ft_hist.specs.Rules.{MayRefuse, NoMissDue}
use Rattle.ft_hist.proofs.Steps.{same_call-eq}
use Rattle.kernel_rules.specs.declared.line.ExitOrder.{ExitOrder}
use Rattle.kernel_rules.specs.declared.line.Line.{Line}
use Rattle.kernel_rules.specs.Rules.{IsLegalPast, MayFollow, MayVisit}
use Rattle.kernel_rules.specs.Recorded.{AreTold, Lacking, Marked, history}
use Rattle.kernel_rules.specs.Direct.{AreLegal, item_of, since_of}
use Rattle.kernel_rules.proofs.Places.{thin-told}
use Rattle.kernel_rules.proofs.Merging.{lacks}
use Rattle.kernel_rules.proofs.Parts.{run-on, since-alike, why-alike}
use Rattle.kernel_rules.proofs.Misses.{back-task, due-back, fresh-run, last_back, no-back}
use Rattle.kernel_rules.proofs.Removing.{history-runs, line-runs}
use Rattle.kernel_rules.proofs.Inserting.{visit-up}
use Rattle.kernel_rules.proofs.Lacks.{IsAfter, IsPair, eq-sym}
use Rattle.kernel_rules.proofs.Wanted.{IsLater, IsOf, IsOpen, Wanted}

-- the user of a number
abbrev pub user : ℕ → UserNo
user n = record { 0 = n }

module _ (job : Job) where
  -- what is due is of the task
  pub due-task : (t : ℕ) (past : List Item) (m : Callback) → miss_due job t past ≡ Some m → (m.call.task.0 == t) ≡ true
  due-task t past m e = back-task job t m.call m.user past (due-back job t past m e)

  -- the Miss that is due keeps the plain run
  pub due-run : (t : ℕ) (past : List Item) (m : Callback) → miss_due job t past ≡ Some m → ((v : ℕ) → IsSome (plain job v past)) → (v : ℕ) → IsSome (plain job v (Miss m.call (user m.user) ∷ past))
  due-run t past m e runs =
      fresh-run job m.call (user m.user) past
      (subst (λ (n : ℕ). last_back n m.call m.user past ≡ true) (sym (eqb-true m.call.task.0 t (due-task t past m e))) (due-back job t past m e)) runs

  -- no Miss is due where a refusal may come
  none-due : (c : CallNo) (u : UserNo) (reason : Reason) (past : List Item) → ((v : ℕ) → IsSome (plain job v past)) → IsSome (plain job c.task.0 (Refuse c u reason ∷ past)) → (m : Callback) → miss_due job c.task.0 past ≡ Some m → ⊥
  none-due c u reason past runs refuses m e = no-back job c u reason past runs refuses m.call (user m.user) (due-back job c.task.0 past m e)

-- ## readings

module _ (by : ExitOrder) (job : Job) where
  -- a history that the lines tell, in which these refusals are lacking, and of the calls whose dispatch isn't over no others
  pub record Filled (lines : List Line) (w : List Wanted) : Type 0 where
    pub past : List Marked
    pub told' : AreTold lines past
    pub legal : IsLegalPast by job (history past)
    pub only : (c : CallNo) → is_dispatched c (map item_of lines) ≡ false → Each (λ m. IsOf job c m w) (lacks job c past)
    pub all : Each (λ r. list_any (λ m. m.user == r.lacked.user.0) (lacks job r.call past) ≡ true) w
    pub due : (t : ℕ) (m : Callback) → miss_due job t (map item_of lines) ≡ Some m → miss_due job t (history past) ≡ Some m
    pub fresh : (t : ℕ) (c : CallNo) (u : UserNo) → last_back t c u.0 (map item_of lines) ≡ true → last_back t c u.0 (history past) ≡ true

  -- one more refusal, where these lines stand before it
  module _ (lines : List Line) (direct : AreLegal by job lines) (r : Wanted) (w : List Wanted) (before : r.lacked.before ≡ map item_of lines) (open' : IsOpen job (map item_of lines) r) (order : Each (IsLater job r) w) (f : Filled lines w) where
    -- the items of the lines
    abbrev xs : List Item
    xs = map item_of lines

    -- the items of the history
    abbrev hs : List Item
    hs = history f.past

    -- each task has a run after the lines
    runs : (v : ℕ) → IsSome (plain job v xs)
    runs v = line-runs by job lines direct v

    -- and after the history
    hruns : (v : ℕ) → IsSome (plain job v hs)
    hruns v = history-runs by job hs f.legal v

    -- the refusal
    abbrev refusal : Item
    refusal = Refuse r.call r.lacked.user r.lacked.reason

    -- it may come after the lines
    refuses : (v : ℕ) → IsSome (plain job v (refusal ∷ xs))
    refuses = subst (λ (p : List Item). (v : ℕ) → IsSome (plain job v (refusal ∷ p))) before open'.0.run

    -- and after the history
    refuses-up : (v : ℕ) → IsSome (plain job v (refusal ∷ hs))
    refuses-up = run-on job xs hs (thin-told lines f.past f.told') runs hruns refusal refl refuses

    -- no Miss is due where it comes
    no-miss : NoMissDue job hs r.call
    no-miss = of (miss_due job r.call.task.0 hs) refl
      where
        of : (o : Option Callback) → miss_due job r.call.task.0 hs ≡ o → miss_due job r.call.task.0 hs ≡ None
        of None e = e
        of (Some m) e = absurd (none-due job r.call r.lacked.user r.lacked.reason hs hruns (refuses-up r.call.task.0) m e)

    -- its registration is that after the lines
    since : since_now job r.call r.lacked.user.0 xs ≡ since_of job r.call r.lacked
    since = ap (λ (p : List Item). since_now job r.call r.lacked.user.0 p) (sym before)

    -- of its call the others come first
    after : (s : Wanted) → IsLater job r s → same_call s.call r.call ≡ true → IsAfter job r.call xs s.lacked r.lacked.user.0
    after s later is = let c = later is in (eq-sym s.lacked.user.0 r.lacked.user.0 c.other, (let lt = c.order in omega (arith, lt, since)))

    -- it may come after the history
    may : MayFollow by job hs refusal
    may = record {
      run = refuses-up;
      callbacks = visit-up by job lines f.past f.told' f.legal runs w f.only r.call r.lacked.user.0 open'.1 (Each-weaker (IsLater job r) _ w after order)
          (subst (λ (p : List Item). MayVisit job p r.call r.lacked.user.0) before open'.0.may);
      silence = tt;
      refusals = why-alike job xs hs (thin-told lines f.past f.told') runs hruns r.call r.lacked.user.0 r.lacked.reason
          (subst (λ (p : List Item). MayRefuse job p r.call r.lacked.user.0 r.lacked.reason) before open'.0.why);
      exits = no-miss;
      fetches = tt;
      commands = tt;
    }

    -- the visit that it is
    abbrev visit-here : Visit
    visit-here = visit job r.call r.lacked.user.0 hs (all_visits job hs) false

    -- the history with it
    pub put : Filled lines (r ∷ w)
    unfolding IsLegalPast AreTold
    put = record {
      past = Lacking refusal ∷ f.past;
      told' = (tt, f.told');
      legal = (may, f.legal);
      only = λ c none. of c (same_call r.call c) refl (Each-weaker (λ m. IsOf job c m w) (λ m. IsOf job c m (r ∷ w)) (lacks job c f.past) (λ m h. inr h) (f.only c none));
      all = (rw (same_call-refl r.call, ==-refl r.lacked.user.0) refl, Each-weaker _ _ w (λ s h. there (same_call r.call s.call) s h) f.all);
      due = λ t m e. dues t (r.call.task.0 == t) refl m e;
      fresh = λ t c u last. backs t (r.call.task.0 == t) refl c u last;
    }
      where
        of : (c : CallNo) (b : Bool) → same_call r.call c ≡ b → Each (λ m. IsOf job c m (r ∷ w)) (lacks job c f.past) → Each (λ m. IsOf job c m (r ∷ w)) (cond b (visit-here ∷ lacks job c f.past) (lacks job c f.past))
        of c true is h = (inl (is, pair), h)
          where
            pair : IsPair job c visit-here r.lacked
            pair = (
              refl,
              since-alike job xs hs (thin-told lines f.past f.told') runs hruns r.call r.lacked.user.0 ∙ since ∙ ap (λ (d : CallNo). since_of job d r.lacked) (same_call-eq r.call c is),
            )
        of c false is h = h

        there : (b : Bool) (s : Wanted) → list_any (λ m. m.user == s.lacked.user.0) (lacks job s.call f.past) ≡ true
            → list_any (λ m. m.user == s.lacked.user.0) (cond b (visit-here ∷ lacks job s.call f.past) (lacks job s.call f.past)) ≡ true
        there true s h = rw h (or-true (r.lacked.user.0 == s.lacked.user.0))
        there false s h = h

        dues : (t : ℕ) (b : Bool) → (r.call.task.0 == t) ≡ b → (m : Callback) → miss_due job t xs ≡ Some m → cond b None (miss_due job t hs) ≡ Some m
        dues t true own m e =
            absurd (none-due job r.call r.lacked.user r.lacked.reason xs runs (refuses r.call.task.0) m (subst (λ (v : ℕ). miss_due job v xs ≡ Some m) (sym (eqb-true r.call.task.0 t own)) e))
        dues t false other m e = f.due t m e

        backs : (t : ℕ) (b : Bool) → (r.call.task.0 == t) ≡ b → (c : CallNo) (u : UserNo) → last_back t c u.0 xs ≡ true → cond b false (last_back t c u.0 hs) ≡ true
        backs t true own c u last =
            absurd (no-back job r.call r.lacked.user r.lacked.reason xs runs (refuses r.call.task.0) c u (subst (λ (v : ℕ). last_back v c u.0 xs ≡ true) (sym (eqb-true r.call.task.0 t own)) last))
        backs t false other c u last = f.fresh t c u last
