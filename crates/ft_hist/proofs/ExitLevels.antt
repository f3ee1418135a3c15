-- An exit finds a level of its guard: the calls below one that has called a user back have left a level since then.
use Rattle.std.proofs.Common.{◌≡◌, ℕ, ◌<◌, Bool, true, false, ◌==◌, List, [], ◌∷◌, ◌++◌, reverse, Option, Some, None, refl, sym, subst, eqb-true}
use Rattle.std.specs.List.{list_any, AllByRecursion as Each}
use Rattle.std.proofs.lemmas.List.Folds.{list_any_at}
use Rattle.ft_base.specs.declared.number.CallNo.{CallNo}
use Rattle.ft_base.specs.declared.number.UserNo.{UserNo}
use Rattle.ft_base.specs.declared.number.FuncNo.{FuncNo}
use Rattle.ft_base.specs.declared.context.Ctx.{Ctx}
use Rattle.ft_base.specs.declared.item.Item.{Item}
use Rattle.ft_base.specs.declared.item.Item.TheVariants.{Enter, Back, Refuse, Exit, Ret}
use Rattle.ft_base.specs.Items.{call_of}
use Rattle.ft_base.specs.Same.{same_call}
use Rattle.ft_base.specs.Job.{Job}
use Rattle.ft_base.specs.Versions.{levels}
use Rattle.ft_base.proofs.Small.{false_true, ==-refl, Each-weaker}
use Rattle.ft_hist.specs.Past.{is_of, done, entry_of, open_callbacks, Visit, visits, all_visits}
use Rattle.ft_hist.specs.Plain.{plain, PlainTask, Frame, InBack, in_phase, top_call}
use Rattle.ft_hist.specs.Rules.{IsLegal, IsLegalPast}
use Rattle.ft_hist.proofs.Laws.{same_call-refl}
use Rattle.ft_hist.proofs.RunLaws.{calls_on, sound}
use Rattle.ft_hist.proofs.Steps.{Step, step_begin, step_return, step_enter, step_act, step_back, step_refuse, step_exit, step_ret, own-step, run-holds}
use Rattle.ft_hist.proofs.FrameCounts.{opens}
use Rattle.ft_hist.proofs.Since.{touches, touches-none, untouched-item}
use Rattle.ft_hist.proofs.Carries.{touches-other}
use Rattle.ft_hist.proofs.Numbers.{some-run, none-before}
use Rattle.ft_hist.proofs.ItemOrders.{at_x, legal_past, ctx_is}
use Rattle.ft_hist.proofs.OpenBacks.{Standing, stands, standing, opens_at, each-standing, lower-apart, opens-below}

-- at an Exit the top call is in no callback
standing-exit : (job : Job) (d : ℕ) (p s : PlainTask) (call : CallNo) (u : UserNo) (entry : ℕ) → Step job d p s (Exit call u entry) → (x : Ctx) × (below : List Standing) × (standing p.stack ≡ stands call x None ∷ below)
standing-exit job d p s call u entry (step_exit q f below) = (f.ctx, standing below, refl)

-- ## levels below a call

module _ (job : Job) where
  -- whether a user was called back in the call
  abbrev has_back : CallNo → List Item → Bool
  has_back call past = list_any (λ m. m.back) (visits job call past)

  -- below a call that has called a user back a level of its guard is free
  abbrev HasRoom : List Item → Standing → List Standing → Type 0
  HasRoom past s below = has_back s.call past ≡ true → opens_at s.ctx below < levels job

  abbrev AreRoomy : List Item → List Standing → Type 0
  AreRoomy past [] = Unit {0}
  AreRoomy past (s ∷ below) = HasRoom past s below × AreRoomy past below

  roomy-spared : (item : Item) (past : List Item) (ss : List Standing) → Each (λ s. touches s.call item ≡ false) ss → AreRoomy past ss → AreRoomy (item ∷ past) ss
  roomy-spared item past [] apart h = tt
  roomy-spared item past (s ∷ ss) apart h = (rw (untouched-item job s.call past item apart.0).visits h.0, roomy-spared item past ss apart.1 h.1)

  -- an item of the top call leaves those below it
  below-spared : (t : ℕ) (past : List Item) (p : PlainTask) (item : Item) (call : CallNo) (below : List Frame) → plain job t past ≡ Some p → calls_on p.stack ≡ call ∷ calls_on below → call_of item ≡ Some call
      → AreRoomy past (standing below) → AreRoomy (item ∷ past) (standing below)
  below-spared t past p item call below here top is h =
      let falls = rw top at (opens job t past p here).falls in
      let apart = each-standing (λ c. same_call call c ≡ false) below (lower-apart call (calls_on below) falls.0) in
      roomy-spared item past (standing below) (Each-weaker (λ x. same_call call x.call ≡ false) (λ x. touches x.call item ≡ false) (standing below) (λ x e. touches-none item call x.call is e) apart) h

  -- a call that is entered has called nobody back
  roomy-enter : (past : List Item) (call : CallNo) (x : Ctx) (f : FuncNo) (caller : Option CallNo) (fs : List Frame) (next : ℕ) → IsLegalPast job (Enter call x f caller ∷ past) → call.n ≡ next → Each (λ c. c.n < next) (calls_on fs)
      → AreRoomy past (standing fs) → AreRoomy (Enter call x f caller ∷ past) (stands call x None ∷ standing fs)
  unfolding IsLegalPast all_visits
  roomy-enter past call x f caller fs next l number lower h =
      let none = none-before job call x f caller past (l.0.run call.task.0) in
      ((λ back. false_true (rw none at back)), roomy-spared (Enter call x f caller) past (standing fs) (each-standing (λ c. same_call call c ≡ false) fs (lower-apart call (calls_on fs) (rw number lower))) h)

  -- of a call on the top that is called back now
  room-at-back : (t : ℕ) (past : List Item) (p : PlainTask) (call : CallNo) (u : UserNo) (x : Ctx) (below : List Standing) → (call.task.0 == t) ≡ true → plain job t past ≡ Some p → standing p.stack ≡ stands call x None ∷ below
      → IsLegalPast job (Back call u ∷ past) → opens_at x below < levels job
  unfolding IsLegalPast
  room-at-back t past p call u x below own here top l =
      let run : plain job call.task.0 past ≡ Some p = subst (λ n. plain job n past ≡ Some p) (sym (eqb-true call.task.0 t own)) here in
      rw (opens-below job call x below past p run top) at l.0.refusals.free

  roomy-own : (t : ℕ) (past : List Item) (p s : PlainTask) (item : Item) → plain job t past ≡ Some p → is_of t item ≡ true → IsLegalPast job (item ∷ past) → Step job (done past) p s item
      → AreRoomy past (standing p.stack) → AreRoomy (item ∷ past) (standing s.stack)
  unfolding all_visits
  roomy-own t past p s item here own l step_begin h = false_true own
  roomy-own t past p s item here own l step_return h = false_true own
  roomy-own t past p s item here own l (step_enter {call = call} {x = x} {f = f} {caller = caller} it quiet acts is) h =
      roomy-enter past call x f caller p.stack p.next l it.number (opens job t past p here).number h
  roomy-own t past p s item here own l (step_act q g below {u = u} {fresh = fresh} {call = call} {x = x} {f = f} {caller = caller} it) h =
      roomy-enter past call x f caller (in_phase g (InBack u (Some (record { ctx = x; func = f.0 })) fresh) ∷ below) q.next l it.number (opens job t past _ here).number h
  roomy-own t past p s item here own l (step_back q f below {u = u}) h =
      ((λ back. room-at-back t past _ f.call u f.ctx (standing below) own here refl l), below-spared t past _ (Back f.call u) f.call below here refl refl h.1)
  roomy-own t past p s item here own l (step_refuse q f below {u = u} {reason = reason}) h =
      ((λ back. h.0 (rw (same_call-refl f.call) at back)), below-spared t past _ (Refuse f.call u reason) f.call below here refl refl h.1)
  roomy-own t past p s item here own l (step_ret q f below) h = below-spared t past _ (Ret f.call (top_call below)) f.call below here refl refl h.1
  roomy-own t past p s item here own l _ h = (h.0, below-spared t past _ item _ _ here refl refl h.1)

  roomy-other : (t : ℕ) (item : Item) (past : List Item) (ss : List Standing) → is_of t item ≡ false → Each (λ s. s.call.task.0 ≡ t) ss → AreRoomy past ss → AreRoomy (item ∷ past) ss
  roomy-other t item past ss other own h = roomy-spared item past ss (Each-weaker (λ s. s.call.task.0 ≡ t) (λ s. touches s.call item ≡ false) ss (λ s is. touches-other t item s.call other is) own) h

  roomy : (t : ℕ) (past : List Item) (s : PlainTask) → plain job t past ≡ Some s → IsLegalPast job past → AreRoomy past (standing s.stack)
  unfolding IsLegalPast
  roomy t = run-holds job t (λ past s. IsLegalPast job past → AreRoomy past (standing s.stack)) (λ l. tt)
      (λ item past p s own here k h l. roomy-own t past p s item here own l k (h l.1))
      (λ item past s other here h l. roomy-other t item past (standing s.stack) other (each-standing (λ c. c.task.0 ≡ t) s.stack (sound job t past s here).task) (h l.1))

  -- at an exit
  exit-level : (call : CallNo) (u : UserNo) (entry : ℕ) (past : List Item) → IsLegalPast job (Exit call u entry ∷ past) → open_callbacks call.task.0 (entry_of call past).ctx past < levels job
  unfolding IsLegalPast
  exit-level call u entry past l =
      let r = some-run job call.task.0 (Exit call u entry ∷ past) l in
      let w = own-step job call.task.0 (Exit call u entry) past r.0 (==-refl call.task.0) r.1 in
      let top = standing-exit job (done past) w.0 r.0 call u entry w.2 in
      let room = (rw top.2 at (roomy call.task.0 past w.0 w.1 l.1)).0 in
      let may = l.0.exits.0 in
      let back = list_any_at (λ (x : Visit). x.back) (visits job call past) may.of.1.0 may.of.0 may.of.1.1 (subst (λ (x : Visit). x.back ≡ true) (sym may.of.1.2) may.of.4.0) in
      rw (opens-below job call top.0 top.1 past w.0 w.1 top.2) (room back)

module _ (job : Job) (items before mid rest : List Item) (call : CallNo) (ctx : Ctx) (f : FuncNo) (caller : Option CallNo) (user : UserNo) (entry : ℕ) (legal : IsLegal job items)
    (e : items ≡ before ++ Enter call ctx f caller ∷ (mid ++ Exit call user entry ∷ rest)) where
  -- fewer callbacks of the exit's task and context are open than a guard has levels
  pub exit-finds : open_callbacks call.task.0 ctx (reverse (before ++ Enter call ctx f caller ∷ mid)) < levels job
  unfolding IsLegalPast
  exit-finds =
      let past : List Item = reverse (before ++ Enter call ctx f caller ∷ mid) in
      let l : IsLegalPast job (Exit call user entry ∷ past) = (at_x job items before mid rest call ctx f caller (Exit call user entry) legal e, legal_past job items before mid rest call ctx f caller (Exit call user entry) legal e) in
      subst (λ x. open_callbacks call.task.0 x past < levels job) (ctx_is job items before mid rest call ctx f caller (Exit call user entry) legal e) (exit-level job call user entry past l)
