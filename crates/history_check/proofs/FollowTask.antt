-- The calls that are kept of a task, after one more item of it.
use Rattle.std.proofs.Common.{◌≡◌, ℕ, ◌<◌, ◌≤◌, Bool, true, false, List, [], ◌∷◌, drop, length, map, Option, Some, refl, sym, ap, ◌∙◌, subst, arith, inl, inr}
use Rattle.std.specs.Prelude.{IsSome, OnOk, Result, Ok, Err, set, slice_get}
use Rattle.std.specs.List.{AllByRecursion as Each}
use Rattle.ft_base.specs.declared.number.CallNo.{CallNo}
use Rattle.ft_base.specs.declared.number.FuncNo.{FuncNo}
use Rattle.ft_base.specs.declared.context.Ctx.{Ctx}
use Rattle.ft_base.specs.declared.item.Item.{Item}
use Rattle.ft_base.specs.declared.item.Item.TheVariants.{Begin, Return, Enter, Leave, Ret}
use Rattle.ft_base.specs.Items.{call_of}
use Rattle.ft_base.specs.Same.{same_call}
use Rattle.ft_base.specs.Job.{Job}
use Rattle.std.proofs.lemmas.Bool.Decides.{eqb_tells}
use Rattle.ft_base.proofs.Small.{Each-weaker, ==-refl, false_true}
use Rattle.ft_hist.specs.Past.{all_visits, done, done_at_leave, exits, held, is_dispatched, is_of, visits}
use Rattle.ft_hist.specs.Plain.{PlainTask, plain}
use Rattle.ft_hist.proofs.FrameCounts.{held-is, not_same, not_same'}
use Rattle.ft_hist.proofs.Laws.{plain-other, same_call-refl}
use Rattle.ft_hist.proofs.Numbers.{moved, next-moved, none-before}
use Rattle.ft_hist.proofs.RunLaws.{Keeps, Moves, calls_on, some_inj, sound}
use Rattle.ft_hist.proofs.Since.{touches}
use Rattle.history_check.specs.declared.open_call.OpenCall.{OpenCall}
use Rattle.history_check.specs.TaskCalls.{AreCallsOf, AreStacked, IsOpenCall, called, holding, is_inside}
use Rattle.history_check.specs.JudgePast.{is_enter}
use Rattle.history_check.proofs.OpenCalls.{calls-stay, holding-stays, stacked-stays, touch-other}
use Rattle.history_check.proofs.OpenStacks.{call_in, calls-same, each-call, holding-calls, keeps-of, moved-on, next-run, none-on-top, on-stack, on-top, own-call, uncons-head}

-- ## a call that is still to come

-- a call that leaves has a lower number than one that is still to come
left-number : (p s : PlainTask) (c call : CallNo) → Each (λ d. d.n < p.next) (calls_on p.stack) → Keeps p s c → p.next ≤ call.n → c.n < call.n
left-number p s c call numbers k le = let all = rw k.top.1 at numbers in let lt = all.0 in omega (arith, lt, le)

module _ (job : Job) (t : ℕ) (call : CallNo) (own : call.task.0 ≡ t) where
  -- an item of a call of the task that was entered, or of another task
  no-leave : (c : CallNo) (n : ℕ) → (c.task.0 ≡ t → c.n < n) → n ≤ call.n → same_call c call ≡ false
  no-leave c n lt le =
      elim (eqb_tells c.task.0 call.task.0) [
        | inl e ↦ (let l = lt (e.1 ∙ own) in not_same' call c (omega (arith, l, le)))
        | inr e ↦ rw e.0 refl
      ]

  -- it has not left
  pub none-left : (past : List Item) (s : PlainTask) → plain job t past ≡ Some s → s.next ≤ call.n → done_at_leave call past ≡ 0
  none-left [] s here le = refl
  none-left (item ∷ past) s here le = by (is_of t item) refl (none-left past)
    where
      -- what was so before the item is so after it, if it isn't the call's Leave
      step : (i : Item) → ((c : CallNo) → i ≡ Leave c → c.task.0 ≡ t → c.n < call.n) → done_at_leave call past ≡ 0 → done_at_leave call (i ∷ past) ≡ 0
      step (Leave c) l z = rw (no-leave c call.n (l c refl) (omega arith)) z
      step _ l z = z

      by : (b : Bool) → is_of t item ≡ b → ((p : PlainTask) → plain job t past ≡ Some p → p.next ≤ call.n → done_at_leave call past ≡ 0) → done_at_leave call (item ∷ past) ≡ 0
      by true mine before =
          let m = moved job t item past s mine here in
          let up = next-moved job m.0 s item m.2 t mine in
          let so = (sound job t past m.0 m.1).number in
          step item (λ c e same. left-number m.0 s c call so (subst (λ (i : Item). Moves m.0 s i) e m.2) (omega (arith, up, le))) (before m.0 m.1 (omega (arith, up, le)))
      by false other before =
          step item (λ c e same. false_true (sym other ∙ ap (is_of t) e ∙ rw same (==-refl t))) (before s (sym (plain-other job past item t other) ∙ here) le)

pub not-enter : (item : Item) → is_inside item ≡ true → is_enter item ≡ false
not-enter (Enter c x f caller) inside = false_true inside
not-enter _ inside = refl

module _ (job : Job) (past : List Item) (t : ℕ) where
  -- ## the call on the top

  -- what is kept of the call that an item is of
  pub record TopOf (call : CallNo) (cs : List OpenCall) : Type 0 where
    pub top : OpenCall
    pub first : slice_get cs 0 ≡ Some top
    pub call' : top.call ≡ call
    pub is : IsOpenCall job past top
    pub held' : held job call past ≡ top.held

  pub top-of : (cs : List OpenCall) → AreCallsOf job past t cs → (item : Item) (call : CallNo) → call_of item ≡ Some call → is_of t item ≡ true → IsSome (plain job t (item ∷ past))
      → is_enter item ≡ false → TopOf call cs
  unfolding AreStacked
  top-of [] k item call is mine some out = absurd (none-on-top job past t item call is mine some out k)
  top-of (top ∷ rest) k item call is mine some out =
      let on = on-top job past t item call is mine some out top rest k in
      let own = own-call job past t (top ∷ rest) k item call is mine some in
      let here : plain job call.task.0 past ≡ Some k.stack.0 = ap (λ u. plain job u past) own ∙ k.stack.1 in
      record {
        top = top;
        first = refl;
        call' = on.call';
        is = k.calls.0;
        held' = held-is job past k.stack.0 call (map call_in rest) here on.stack ∙ sym (holding-calls job past rest) ∙ sym k.stacked.0;
      }

  -- ## an item in it

  pub after-inside : (top : OpenCall) (rest : List OpenCall) → AreCallsOf job past t (top ∷ rest) → (item : Item) (call : CallNo) → call_of item ≡ Some call → is_of t item ≡ true
      → IsSome (plain job t (item ∷ past)) → is_inside item ≡ true → (new : OpenCall) → IsOpenCall job (item ∷ past) new → new.call ≡ top.call → new.held ≡ top.held → AreCallsOf job (item ∷ past) t (new ∷ rest)
  unfolding AreStacked
  after-inside top rest k item call is mine some inside new open' same held' =
      let n = next-run job past t (top ∷ rest) k item call is mine some in
      let m = keeps-of k.stack.0 n.0 item call (moved-on job past t (top ∷ rest) k item call is mine some) is inside in
      let on = on-top job past t item call is mine some (not-enter item inside) top rest k in
      record {
        stack = (n.0, n.1, ap (λ (d : CallNo). d ∷ map call_in rest) (same ∙ on.call') ∙ sym on.stack ∙ sym m.calls ∙ sym (calls-same n.0.stack));
        calls = (open', calls-stay job past item rest on.below k.calls.1);
        stacked = (held' ∙ k.stacked.0 ∙ sym (holding-stays job past item rest on.below), stacked-stays job past item rest on.below k.stacked.1);
      }

  -- ## its return

  pub after-ret : (cs : List OpenCall) → AreCallsOf job past t cs → (call : CallNo) (to : Option CallNo) → is_of t (Ret call to) ≡ true → IsSome (plain job t (Ret call to ∷ past))
      → AreCallsOf job (Ret call to ∷ past) t (drop 1 cs)
  unfolding AreStacked
  after-ret [] k call to mine some = absurd (none-on-top job past t (Ret call to) call refl mine some refl k)
  after-ret (top ∷ rest) k call to mine some =
      let n = next-run job past t (top ∷ rest) k (Ret call to) call refl mine some in
      let m = moved-on job past t (top ∷ rest) k (Ret call to) call refl mine some in
      let on = on-top job past t (Ret call to) call refl mine some refl top rest k in
      let both = uncons-head call call (map call_in rest) (calls_on n.0.stack) (sym on.stack ∙ m.calls) in
      record {
        stack = (n.0, n.1, both.1 ∙ sym (calls-same n.0.stack));
        calls = calls-stay job past (Ret call to) rest on.below k.calls.1;
        stacked = stacked-stays job past (Ret call to) rest on.below k.stacked.1;
      }

  -- ## a call that is entered

  -- the items so far say nothing of a call that is still to come
  not-left : (s : PlainTask) (call : CallNo) → plain job t past ≡ Some s → call.task.0 ≡ t → s.next ≤ call.n → done_at_leave call past ≡ 0
  not-left s call here own le = none-left job t call own past s here le

  pub after-enter : (cs : List OpenCall) → AreCallsOf job past t cs → (call : CallNo) (x : Ctx) (f : FuncNo) (caller : Option CallNo) → is_of t (Enter call x f caller) ≡ true
      → IsSome (plain job t (Enter call x f caller ∷ past)) → (new : OpenCall) → called new call x f.0 (done past) (holding job past cs) → AreCallsOf job (Enter call x f caller ∷ past) t (new ∷ cs)
  unfolding AreStacked all_visits
  after-enter cs k call x f caller mine some new h =
      let item = Enter call x f caller in
      let n = next-run job past t cs k item call refl mine some in
      let m = moved-on job past t cs k item call refl mine some in
      let own = own-call job past t cs k item call refl mine some in
      let so = sound job t past k.stack.0 k.stack.1 in
      let num : call.n ≡ k.stack.0.next = m.number in
      let fresh = so.fresh call own (omega (arith, num)) in
      let visited = none-before job call x f caller past (subst (λ u. IsSome (plain job u (item ∷ past))) (sym own) some) in
      let left' = not-left k.stack.0 call k.stack.1 own (omega (arith, num)) in
      let older : Each (λ (d : CallNo). d.n < call.n) (calls_on k.stack.0.stack) = Each-weaker (λ (d : CallNo). d.n < k.stack.0.next) (λ (d : CallNo). d.n < call.n) (calls_on k.stack.0.stack) (λ d lt. omega (arith, num, lt)) so.number in
      let below : Each (λ (c : OpenCall). c.call.n < call.n) cs = each-call job past t cs k (λ (d : CallNo). d.n < call.n) older in
      let free = Each-weaker (λ (c : OpenCall). c.call.n < call.n) (λ (c : OpenCall). touches c.call item ≡ false) cs (λ c lt. touch-other c.call call item refl (not_same call c.call lt)) below in
      record {
        stack = (n.0, n.1, ap (λ (d : CallNo). d ∷ map call_in cs) h.0 ∙ ap (λ (ds : List CallNo). call ∷ ds) (on-stack job past t cs k) ∙ sym m.calls ∙ sym (calls-same n.0.stack));
        calls = (entered-now call x f caller new h fresh.0 visited fresh.1 left', calls-stay job past item cs free k.calls);
        stacked = (h.4 ∙ sym (holding-stays job past item cs free), stacked-stays job past item cs free k.stacked);
      }
    where
      entered-now : (call : CallNo) (x : Ctx) (f : FuncNo) (caller : Option CallNo) (new : OpenCall) → called new call x f.0 (done past) (holding job past cs)
          → is_dispatched call past ≡ false → visits job call past ≡ [] → exits call past ≡ [] → done_at_leave call past ≡ 0 → IsOpenCall job (Enter call x f caller ∷ past) new
      entered-now call x f caller new h d v e l = record {
        entered' = (caller, rw (h.0, h.1, h.2, h.3, same_call-refl call) refl);
        open' = rw (h.0, same_call-refl call) refl;
        dispatched = h.5 ∙ sym d ∙ ap (λ c. is_dispatched c (Enter call x f caller ∷ past)) (sym h.0);
        visits' = rw (h.0, h.6) (sym v);
        exits' = h.7 ∙ sym e ∙ ap (λ c. exits c (Enter call x f caller ∷ past)) (sym h.0);
        left = h.8 ∙ sym l ∙ ap (λ c. done_at_leave c (Enter call x f caller ∷ past)) (sym h.0);
      }

  -- ## an item of the task, as it is told apart

  -- an item of a task is of a call
  pub of-call : (item : Item) → is_of t item ≡ true → (call : CallNo) × (call_of item ≡ Some call)
  of-call (Begin k) mine = false_true mine
  of-call (Return k a) mine = false_true mine
  of-call _ mine = (_, refl)

  pub enter-item : (cs : List OpenCall) → AreCallsOf job past t cs → (item : Item) → is_of t item ≡ true → IsSome (plain job t (item ∷ past)) → (call : CallNo) (x : Ctx) (f : FuncNo) (caller : Option CallNo) → item ≡ Enter call x f caller
      → (new : OpenCall) → called new call x f.0 (done past) (holding job past cs) → (xs : List OpenCall) → xs ≡ new ∷ cs → AreCallsOf job (item ∷ past) t xs
  enter-item cs k item mine some call x f caller e new h xs at =
      let mine' = subst (λ (i : Item). is_of t i ≡ true) e mine in
      let some' = subst (λ (i : Item). IsSome (plain job t (i ∷ past))) e some in
      subst (λ (i : Item). AreCallsOf job (i ∷ past) t xs) (sym e) (subst (λ (ys : List OpenCall). AreCallsOf job (Enter call x f caller ∷ past) t ys) (sym at) (after-enter cs k call x f caller mine' some' new h))

  pub ret-item : (cs : List OpenCall) → AreCallsOf job past t cs → (item : Item) → is_of t item ≡ true → IsSome (plain job t (item ∷ past)) → (call : CallNo) (to : Option CallNo) → item ≡ Ret call to
      → (xs : List OpenCall) → xs ≡ drop 1 cs → AreCallsOf job (item ∷ past) t xs
  ret-item cs k item mine some call to e xs at =
      let mine' = subst (λ (i : Item). is_of t i ≡ true) e mine in
      let some' = subst (λ (i : Item). IsSome (plain job t (i ∷ past))) e some in
      subst (λ (i : Item). AreCallsOf job (i ∷ past) t xs) (sym e) (subst (λ (ys : List OpenCall). AreCallsOf job (Ret call to ∷ past) t ys) (sym at) (after-ret cs k call to mine' some'))

  module _ (item : Item) (mine : is_of t item ≡ true) (some : IsSome (plain job t (item ∷ past))) (inside : is_inside item ≡ true) where
    -- the item is of the call on the top
    pub top-open : (cs : List OpenCall) → AreCallsOf job past t cs → (top : OpenCall) → slice_get cs 0 ≡ Some top → (call_of item ≡ Some top.call) × IsOpenCall job past top
    top-open cs k top first =
        let c = of-call item mine in
        let w = top-of cs k item c.0 c.1 mine some (not-enter item inside) in
        let same : w.top ≡ top = some_inj w.top top (sym w.first ∙ first) in
        (c.1 ∙ ap (λ (d : CallNo). Some d) (sym w.call' ∙ ap (λ (x : OpenCall). x.call) same), subst (λ (x : OpenCall). IsOpenCall job past x) same w.is)

    -- and goes on
    pub inside-item : (cs : List OpenCall) → AreCallsOf job past t cs → (top : OpenCall) → slice_get cs 0 ≡ Some top → (new : OpenCall) → IsOpenCall job (item ∷ past) new → (new.call ≡ top.call) × (new.held ≡ top.held)
        → AreCallsOf job (item ∷ past) t (set cs 0 new)
    inside-item [] k top first new open' same = absurd cc
    inside-item (c ∷ cs) k top first new open' same =
        let is : c ≡ top = some_inj c top first in
        let call = of-call item mine in
        after-inside c cs k item call.0 call.1 mine some inside new open' (same.0 ∙ ap (λ (x : OpenCall). x.call) (sym is)) (same.1 ∙ ap (λ (x : OpenCall). x.held) (sym is))

    pub no-top : (cs : List OpenCall) → AreCallsOf job past t cs → length cs ≤ 0 → ⊥
    no-top [] k few = let call = of-call item mine in none-on-top job past t item call.0 call.1 mine some (not-enter item inside) k
    no-top (c ∷ cs) k few = absurd (omega (arith, few))

-- an item that is neither an entry nor a return
pub is-inside : (item : Item) → ((call : CallNo) (x : Ctx) (f : FuncNo) (caller : Option CallNo) → item ≡ Enter call x f caller → ⊥) → ((call : CallNo) (to : Option CallNo) → item ≡ Ret call to → ⊥) → is_inside item ≡ true
is-inside (Enter call x f caller) a b = absurd (a call x f caller refl)
is-inside (Ret call to) a b = absurd (b call to refl)
is-inside _ a b = refl

-- two facts of a success give a third
pub on-ok-both : {T E A B C : Type 0} (r : Result T E) → OnOk r A → OnOk r B → (A → B → C) → OnOk r C
on-ok-both (Ok x) a b f = f a b
on-ok-both (Err e) a b f = tt
