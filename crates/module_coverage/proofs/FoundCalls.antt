-- In a legal history each call finds its module, and so does each body.
use Rattle.std.proofs.Common.{◌≡◌, ℕ, ◌≤◌, ◌<◌, List, [], ◌∷◌, reverse, Option, Some, None, refl, sym, ap, ◌∙◌, subst, arith, inl, inr}
use Rattle.std.specs.Prelude.{IfSome}
use Rattle.std.specs.List.{AllByRecursion as Each}
use Rattle.ft_base.specs.declared.number.CallNo.{CallNo}
use Rattle.ft_base.specs.declared.number.FuncNo.{FuncNo}
use Rattle.ft_base.specs.declared.context.Ctx.{Ctx}
use Rattle.ft_base.specs.declared.item.Item.{Item}
use Rattle.ft_base.specs.declared.item.Item.TheVariants.{Enter, Body}
use Rattle.ft_base.specs.Items.{call_of}
use Rattle.ft_base.specs.Job.{Job}
use Rattle.ft_base.specs.Desk.{spec_at, plain_spec}
use Rattle.ft_base.proofs.Small.{each-get}
use Rattle.ft_hist.specs.Past.{done, begun, Entered, entry_of, Visit, visits}
use Rattle.ft_hist.specs.Plain.{PlainTask, Frame, plain}
use Rattle.ft_hist.specs.Rules.{IsLegal, IsLegalPast, acts_passed, replacement, backs_with_replacement}
use Rattle.ft_hist.specs.Finished.{acts_done}
use Rattle.ft_hist.proofs.Finishing.{passed-is}
use Rattle.ft_hist.proofs.Laws.{entry_of-enter, own-item}
use Rattle.ft_hist.proofs.Numbers.{enters-fresh, some-run}
use Rattle.ft_hist.proofs.RunLaws.{calls_on, sound}
use Rattle.ft_hist.proofs.Steps.{own-step, run-holds}
use Rattle.ft_hist.proofs.Splitting.{splits}
use Rattle.ft_hist.proofs.ItemOrders.{legal-to}
use Rattle.ft_hist.proofs.WindowLaws.{done-more, entry_of-more, legal-counts}
use Rattle.func_table.specs.Modules.{module_of}
use Rattle.module_coverage.specs.Covered.{AreCovered, commands_until, to_command}
use Rattle.module_coverage.specs.Apart.{IsApart, AreActsApart, AreReplacementsApart}
use Rattle.module_coverage.specs.Found.{IsLoadedNow, IsThere, KeepsLoaded, RunsLoaded}
use Rattle.module_coverage.proofs.Still.{there}
use Rattle.module_coverage.proofs.Waits.{begun-few}
use Rattle.module_coverage.proofs.FoundPlaces.{Going, going-later, Claims}
use Rattle.module_coverage.proofs.FoundSteps.{goes}

-- ## along the plain run

-- the function that the Enter of a call names
abbrev named : List Item → CallNo → ℕ
named past call = (entry_of call past).func

enter-named : (item : Item) (past : List Item) (call : CallNo) (ctx : Ctx) (f : FuncNo) (caller : Option CallNo) → item ≡ Enter call ctx f caller → named (item ∷ past) call ≡ f.0
enter-named item past call ctx f caller is = ap (λ (i : Item). named (i ∷ past) call) is ∙ ap (λ (e : Entered). e.func) (entry_of-enter call ctx f caller past)

module _ (job : Job) (apart : AreActsApart job) where
  -- the calls on a task's stack keep their Enters
  names-kept : (t : ℕ) (item : Item) (past : List Item) (s : PlainTask) → IsLegalPast job (item ∷ past) → plain job t past ≡ Some s → (fs : List Frame)
      → Each (λ c. c.task.0 ≡ t) (calls_on fs) → Each (λ c. c.n < s.next) (calls_on fs) → Each (λ f. f.func ≡ named past f.call) fs → Each (λ f. f.func ≡ named (item ∷ past) f.call) fs
  names-kept t item past s l here [] own low h = tt
  names-kept t item past s l here (f ∷ fs) own low h =
      let there : plain job f.call.task.0 past ≡ Some s = subst (λ (v : ℕ). plain job v past ≡ Some s) (sym own.0) here in
      let other = enters-fresh job f.call item past l (s, there, low.0) in
      (h.0 ∙ sym (ap (λ (e : Entered). e.func) (entry_of-more f.call item past other)), names-kept t item past s l here fs own.1 low.1 h.1)

  renamed : (t : ℕ) (item : Item) (past : List Item) (s : PlainTask) → IsLegalPast job (item ∷ past) → plain job t past ≡ Some s → Going job t (named past) (done past) s → Going job t (named (item ∷ past)) (done past) s
  renamed t item past s l here h =
      let so = sound job t past s here in
      record { script = h.script; calls = h.calls; names = names-kept t item past s l here s.stack so.task so.number h.names }

  going : (t : ℕ) (past : List Item) (s : PlainTask) → plain job t past ≡ Some s → IsLegalPast job past → Going job t (named past) (done past) s
  unfolding IsLegalPast
  going t = run-holds job t (λ past s. IsLegalPast job past → Going job t (named past) (done past) s)
      (λ l. record { script = record { front = []; whole = refl; count = refl; waited = omega arith }; calls = tt; names = tt })
      (λ item past p s own here k h l.
      going-later job t (named (item ∷ past)) (done past) (done (item ∷ past)) s (done-more item past)
      (goes job t (done past) (named (item ∷ past)) apart p s item own (enter-named item past) k (renamed t item past p l here (h l.1))).0)
      (λ item past s other here h l. going-later job t (named (item ∷ past)) (done past) (done (item ∷ past)) s (done-more item past) (renamed t item past s l here (h l.1)))

  claims : (item : Item) (past : List Item) (call : CallNo) → IsLegalPast job (item ∷ past) → call_of item ≡ Some call
      → Claims job call.task.0 (done past) (acts_done job call.task.0 past) (named (item ∷ past) call)
  unfolding IsLegalPast
  claims item past call l is =
      let own = own-item item call is in
      let r = some-run job call.task.0 (item ∷ past) l in
      let w = own-step job call.task.0 item past r.0 own r.1 in
      let before = renamed call.task.0 item past w.0 l w.1 (going call.task.0 past w.0 w.1 l.1) in
      let now = goes job call.task.0 (done past) (named (item ∷ past)) apart w.0 r.0 item own (enter-named item past) w.2 before in
      subst (λ (k : ℕ). Claims job call.task.0 (done past) k (named (item ∷ past) call)) (passed-is job call.task.0 past w.0 w.1)
      (subst (λ (o : Option CallNo). IfSome o (λ c. Claims job call.task.0 (done past) (acts_passed w.0) (named (item ∷ past) c))) is now.1)

  -- ## the modules

  module _ (covered : AreCovered job) where
    found : (t f : ℕ) (past : List Item) → IsLegalPast job past → Claims job t (done past) (acts_done job t past) f → IsThere job f past
    found t f past l (inl away) = there job f past away
    found t f past l (inr w) = by (module_of job.functions f) refl
      where
        by : (o : Option ℕ) → module_of job.functions f ≡ o → IfSome o (λ m. IsLoadedNow job m past)
        by None e = tt
        by (Some m) e =
            let x = w.1 in
            let counts = legal-counts job past l in
            let few = begun-few job t past l w.0 w.2 in
            let is : module_of job.functions x.called.0 ≡ Some m = ap (λ (n : ℕ). module_of job.functions n) x.func_is ∙ e in
            let first = x.from in
            let last : begun past ≤ to_command job t x.place = subst (λ (n : ℕ). begun past ≤ commands_until t n 0 job.ctls) (sym x.number_is) few in
            (covered t x.place m x.called x.act is (done past) first (omega (arith, counts, last)), covered t x.place m x.called x.act is (begun past) (omega (arith, counts, first)) last)

    pub keeps : (items : List Item) → IsLegal job items → KeepsLoaded job items
    unfolding IsLegalPast
    keeps items legal = λ before item after call e is.
        let l : IsLegalPast job (item ∷ reverse before) = (splits job items before item after legal e, legal-to job items before (item ∷ after) legal e) in
        found call.task.0 (named (item ∷ reverse before) call) (reverse before) l.1 (claims item (reverse before) call l is)

    -- what runs is the function that was called, or a replacement
    replaced : AreReplacementsApart job → (f : ℕ) (past : List Item) (ms : List Visit) → IsThere job f past → IsThere job (replacement job f ms) past
    replaced others f past [] h = h
    replaced others f past (m ∷ ms) h = by (spec_at job m.user).ipmodify refl (each-get (λ s. IfSome s.ipmodify (λ g. IsApart job g.0)) job.users m.user plain_spec tt others)
      where
        by : (o : Option FuncNo) → (spec_at job m.user).ipmodify ≡ o → IfSome (spec_at job m.user).ipmodify (λ g. IsApart job g.0) → IsThere job (replacement job f (m ∷ ms)) past
        by None e away = rw e h
        by (Some g) e away = let a = rw e at away in rw e (there job g.0 past a)

    pub runs : AreReplacementsApart job → (items : List Item) → IsLegal job items → RunsLoaded job items
    runs others items legal = λ before after call g ran e.
        let may = splits job items before (Body call g ran) after legal e in
        let called = keeps items legal before (Body call g ran) after call e refl in
        let past : List Item = reverse before in
        subst (λ (n : ℕ). IsThere job n past) (sym may.fetches.runs) (replaced others (named past call) past (backs_with_replacement job (visits job call past)) called)
