-- Calls nest: while a call has not returned, what was below it on its task's stack stays there, so its return reaches its caller.
use Rattle.std.proofs.Common.{◌≡◌, ◌<◌, Bool, true, false, List, [], ◌∷◌, ◌++◌, Option, Some, None, refl, sym, ap, ◌∙◌, subst, arith, append_assoc}
use Rattle.std.specs.List.{list_any, AllByRecursion as Each}
use Rattle.ft_base.specs.declared.number.CallNo.{CallNo}
use Rattle.ft_base.specs.declared.number.FuncNo.{FuncNo}
use Rattle.ft_base.specs.declared.context.Ctx.{Ctx}
use Rattle.ft_base.specs.declared.item.Item.{Item}
use Rattle.ft_base.specs.declared.item.Item.TheVariants.{Begin, Return, Enter, Ret}
use Rattle.ft_base.specs.Same.{same_call}
use Rattle.ft_base.specs.Job.{Job}
use Rattle.ft_base.proofs.Small.{false_true, ==-refl, Each-weaker}
use Rattle.ft_hist.specs.Past.{is_of}
use Rattle.ft_hist.specs.Plain.{plain, PlainTask, Frame, top_call}
use Rattle.ft_hist.specs.Rules.{IsLegalPast}
use Rattle.ft_hist.specs.Telling.{is_ret_of}
use Rattle.ft_hist.proofs.Laws.{same_call-refl}
use Rattle.ft_hist.proofs.FrameCounts.{Falls, opens}
use Rattle.ft_hist.proofs.Numbers.{moved, some-run, holds-through, none-any}
use Rattle.ft_hist.proofs.RunLaws.{some_inj, same_call-eq, calls_on, Moves}
use Rattle.ft_hist.proofs.Splitting.{legal-older}

-- the first call of a stack
abbrev pub top_of : List CallNo → Option CallNo
top_of [] = None
top_of (c ∷ cs) = Some c

pub top-of-frames : (fs : List Frame) → top_call fs ≡ top_of (calls_on fs)
top-of-frames [] = refl
top-of-frames (f ∷ fs) = refl

-- a call that is below others has a lower number than the top one
below-lower : (upper : List CallNo) (x call : CallNo) (tail : List CallNo) → Each (λ d. d.n < x.n) (upper ++ call ∷ tail) → call.n < x.n
below-lower [] x call tail h = h.0
below-lower (y ∷ upper) x call tail h = below-lower upper x call tail h.1

-- where a call is the top one of a stack that falls, nothing is above it
alone : (upper : List CallNo) (call : CallNo) (tail rest : List CallNo) → Falls (upper ++ call ∷ tail) → upper ++ call ∷ tail ≡ call ∷ rest → tail ≡ rest
alone [] call tail rest falls e = cc
alone (x ∷ upper) call tail rest falls e =
    let is : x ≡ call = cc in
    let lt = below-lower upper x call tail falls.0 in
    let n : x.n ≡ call.n = ap (λ (c : CallNo). c.n) is in
    absurd (omega (arith, lt, n))

module _ (job : Job) (call : CallNo) (tail : List CallNo) where
  -- the call is on its task's stack, over this tail
  pub record Stands (past : List Item) : Type 0 where
    pub run : PlainTask
    pub is : plain job call.task.0 past ≡ Some run
    pub upper : List CallNo
    pub stack : calls_on run.stack ≡ upper ++ call ∷ tail

  stands-moved : (p s : PlainTask) (item : Item) → Moves p s item → is_of call.task.0 item ≡ true → is_ret_of call item ≡ false → (upper : List CallNo) → calls_on p.stack ≡ upper ++ call ∷ tail
      → (above : List CallNo) × (calls_on s.stack ≡ above ++ call ∷ tail)
  stands-moved p s (Begin k) m own other upper e = false_true own
  stands-moved p s (Return k a) m own other upper e = false_true own
  stands-moved p s (Enter c x f caller) m own other upper e = (c ∷ upper, m.calls ∙ ap (λ cs. c ∷ cs) e)
  stands-moved p s (Ret c to) m own other upper e = by upper (sym m.calls ∙ e)
    where
      by : (xs : List CallNo) → c ∷ calls_on s.stack ≡ xs ++ call ∷ tail → (above : List CallNo) × (calls_on s.stack ≡ above ++ call ∷ tail)
      by [] q = let is : c ≡ call = cc in false_true (sym other ∙ subst (λ (d : CallNo). same_call d call ≡ true) (sym is) (same_call-refl call))
      by (x ∷ xs) q = let rest : calls_on s.stack ≡ xs ++ call ∷ tail = cc in (xs, rest)
  stands-moved p s _ m own other upper e = (upper, m.calls ∙ e)

  pub stands-through : (newer past : List Item) → IsLegalPast job (newer ++ past) → list_any (is_ret_of call) newer ≡ false → Stands past → Stands (newer ++ past)
  stands-through newer past l none h =
      let r = holds-through job call.task.0 (λ s. (upper : List CallNo) × (calls_on s.stack ≡ upper ++ call ∷ tail)) (is_ret_of call) (λ p s item m own other u. stands-moved p s item m own other u.0 u.1) newer past l none
      (record { run = h.run; is = h.is; holds = (h.upper, h.stack) }) in
      record { run = r.run; is = r.is; upper = r.holds.0; stack = r.holds.1 }

  -- its return leaves the tail
  pub returns-to-tail : (to : Option CallNo) (past : List Item) → IsLegalPast job (Ret call to ∷ past) → Stands past → to ≡ top_of tail
  returns-to-tail to past l h =
      let r = some-run job call.task.0 (Ret call to ∷ past) l in
      let m = moved job call.task.0 (Ret call to) past r.0 (==-refl call.task.0) r.1 in
      let k = m.2 in
      let same : h.run ≡ m.0 = some_inj h.run m.0 (sym h.is ∙ m.1) in
      let stack = subst (λ (p : PlainTask). calls_on p.stack ≡ h.upper ++ call ∷ tail) same h.stack in
      let falls = subst (λ cs. Falls cs) stack (opens job call.task.0 past m.0 m.1).falls in
      k.to_is ∙ top-of-frames r.0.stack ∙ ap top_of (sym (alone h.upper call tail (calls_on r.0.stack) falls (sym stack ∙ k.calls)))

-- at its Enter a call stands over the stack, whose top is its caller
pub record Entering (job : Job) (call : CallNo) (caller : Option CallNo) (past : List Item) (item : Item) : Type 0 where
  pub run : PlainTask
  pub run_is : plain job call.task.0 past ≡ Some run
  pub caller_is : caller ≡ top_of (calls_on run.stack)
  pub stands : Stands job call (calls_on run.stack) (item ∷ past)

pub entering : (job : Job) (call : CallNo) (ctx : Ctx) (f : FuncNo) (caller : Option CallNo) (past : List Item) → IsLegalPast job (Enter call ctx f caller ∷ past) → Entering job call caller past (Enter call ctx f caller)
entering job call ctx f caller past l =
    let r = some-run job call.task.0 (Enter call ctx f caller ∷ past) l in
    let m = moved job call.task.0 (Enter call ctx f caller) past r.0 (==-refl call.task.0) r.1 in
    let k = m.2 in
    record {
      run = m.0;
      run_is = m.1;
      caller_is = k.from ∙ top-of-frames m.0.stack;
      stands = record { run = r.0; is = r.1; upper = []; stack = k.calls };
    }

-- ## a call returns once, and calls within it return before it

module _ (job : Job) (call : CallNo) where
  -- the call has returned: it is numbered, and not on its task's stack
  pub record HasReturned (past : List Item) : Type 0 where
    pub run : PlainTask
    pub is : plain job call.task.0 past ≡ Some run
    pub number : call.n < run.next
    pub away : Each (λ d. d.n ≡ call.n → ⊥) (calls_on run.stack)

  away-moved : (p s : PlainTask) (item : Item) → Moves p s item → is_of call.task.0 item ≡ true → call.n < p.next → Each (λ d. d.n ≡ call.n → ⊥) (calls_on p.stack)
      → (call.n < s.next) × Each (λ d. d.n ≡ call.n → ⊥) (calls_on s.stack)
  away-moved p s (Begin k) m own lt h = false_true own
  away-moved p s (Return k a) m own lt h = false_true own
  away-moved p s (Enter c x f caller) m own lt h =
      let n = m.number in
      let k = m.next in
      (omega (arith, k, lt), rw m.calls ((λ e. absurd (omega (arith, n, lt, e))), h))
  away-moved p s (Ret c to) m own lt h = let k = m.next in (omega (arith, k, lt), (rw m.calls at h).1)
  away-moved p s _ m own lt h = let k = m.next in (omega (arith, k, lt), rw m.calls h)

  returned-through : (newer past : List Item) → IsLegalPast job (newer ++ past) → HasReturned past → HasReturned (newer ++ past)
  returned-through newer past l h =
      let r = holds-through job call.task.0 (λ s. (call.n < s.next) × Each (λ d. d.n ≡ call.n → ⊥) (calls_on s.stack)) (λ x. false) (λ p s item m own one u. away-moved p s item m own u.0 u.1) newer past l (none-any newer)
      (record { run = h.run; is = h.is; holds = (h.number, h.away) }) in
      record { run = r.run; is = r.is; number = r.holds.0; away = r.holds.1 }

  pub has-returned : (to : Option CallNo) (past : List Item) → IsLegalPast job (Ret call to ∷ past) → HasReturned (Ret call to ∷ past)
  has-returned to past l =
      let r = some-run job call.task.0 (Ret call to ∷ past) l in
      let m = moved job call.task.0 (Ret call to) past r.0 (==-refl call.task.0) r.1 in
      let k = m.2 in
      let o = opens job call.task.0 past m.0 m.1 in
      let numbers = rw k.calls at o.number in
      let falls = rw k.calls at o.falls in
      record {
        run = r.0;
        is = r.1;
        number = (let n = k.next in let lt = numbers.0 in omega (arith, n, lt));
        away = Each-weaker (λ d. d.n < call.n) (λ d. d.n ≡ call.n → ⊥) (calls_on r.0.stack) (λ d lt e. absurd (omega (arith, lt, e))) falls.0;
      }

  not-again : (to : Option CallNo) (past : List Item) → IsLegalPast job (Ret call to ∷ past) → HasReturned past → ⊥
  not-again to past l h =
      let r = some-run job call.task.0 (Ret call to ∷ past) l in
      let m = moved job call.task.0 (Ret call to) past r.0 (==-refl call.task.0) r.1 in
      let k = m.2 in
      let same : h.run ≡ m.0 = some_inj h.run m.0 (sym h.is ∙ m.1) in
      let away = rw k.calls at (subst (λ (p : PlainTask). Each (λ d. d.n ≡ call.n → ⊥) (calls_on p.stack)) same h.away) in
      away.0 refl

  ret-is : (item : Item) → is_ret_of call item ≡ true → (to : Option CallNo) × (item ≡ Ret call to)
  ret-is (Ret c to) e = (to, ap (λ (d : CallNo). Ret d to) (same_call-eq c call e))
  ret-is _ e = false_true e

  again : (to : Option CallNo) (ys : List Item) (to' : Option CallNo) (rest : List Item) → IsLegalPast job (Ret call to ∷ (ys ++ Ret call to' ∷ rest)) → ⊥
  unfolding IsLegalPast
  again to ys to' rest k = not-again to (ys ++ Ret call to' ∷ rest) k
      (returned-through ys (Ret call to' ∷ rest) k.1 (has-returned to' rest (legal-older job ys (Ret call to' ∷ rest) k.1)))

  -- before a call's return it has not returned
  pub returns-once : (to : Option CallNo) (newer past : List Item) → IsLegalPast job (Ret call to ∷ (newer ++ past)) → list_any (is_ret_of call) newer ≡ false
  returns-once to newer past l = by newer [] refl
    where
      by : (xs ys : List Item) → newer ≡ ys ++ xs → list_any (is_ret_of call) xs ≡ false
      by [] ys e = refl
      by (x ∷ xs) ys e = test (is_ret_of call x) refl (by xs (ys ++ x ∷ []) (e ∙ sym (append_assoc ys (x ∷ []) xs)))
        where
          test : (b : Bool) → is_ret_of call x ≡ b → list_any (is_ret_of call) xs ≡ false → list_any (is_ret_of call) (x ∷ xs) ≡ false
          test false other more = rw (other, more) refl
          test true it more =
              let is = ret-is x it in
              let shape : newer ++ past ≡ ys ++ Ret call is.0 ∷ (xs ++ past) = ap (λ zs. zs ++ past) (e ∙ ap (λ (y : Item). ys ++ y ∷ xs) is.1) ∙ append_assoc ys (Ret call is.0 ∷ xs) past in
              let l' = subst (λ zs. IsLegalPast job (Ret call to ∷ zs)) shape l in
              absurd (again to ys is.0 (xs ++ past) l')

-- a call that is entered over another has returned when that one does
module _ (job : Job) (outer inner : CallNo) (tail : List CallNo) (same : inner.task.0 ≡ outer.task.0) where
  deep : (above upper : List CallNo) (rest : List CallNo) → Falls (above ++ inner ∷ (upper ++ outer ∷ tail)) → above ++ inner ∷ (upper ++ outer ∷ tail) ≡ outer ∷ rest → ⊥
  deep [] upper rest falls e =
      let is : inner ≡ outer = cc in
      let lt = below-lower upper inner outer tail falls.0 in
      let n : inner.n ≡ outer.n = ap (λ (c : CallNo). c.n) is in
      absurd (omega (arith, lt, n))
  deep (x ∷ above) upper rest falls e =
      let is : x ≡ outer = cc in
      let lt = below-lower (above ++ inner ∷ upper) x outer tail (subst (λ cs. Each (λ d. d.n < x.n) cs) (sym (append_assoc above (inner ∷ upper) (outer ∷ tail))) falls.0) in
      let n : x.n ≡ outer.n = ap (λ (c : CallNo). c.n) is in
      absurd (omega (arith, lt, n))

  pub inner-first : (to : Option CallNo) (newer older : List Item) → IsLegalPast job (Ret outer to ∷ (newer ++ older)) → (upper : List CallNo) → Stands job inner (upper ++ outer ∷ tail) older → list_any (is_ret_of inner) newer ≡ true
  unfolding IsLegalPast
  inner-first to newer older l upper h = by (list_any (is_ret_of inner) newer) refl
    where
      by : (b : Bool) → list_any (is_ret_of inner) newer ≡ b → list_any (is_ret_of inner) newer ≡ true
      by true e = e
      by false e =
          let now = stands-through job inner (upper ++ outer ∷ tail) newer older l.1 e h in
          let r = some-run job outer.task.0 (Ret outer to ∷ (newer ++ older)) l in
          let m = moved job outer.task.0 (Ret outer to) (newer ++ older) r.0 (==-refl outer.task.0) r.1 in
          let k = m.2 in
          let there : plain job outer.task.0 (newer ++ older) ≡ Some now.run = subst (λ t. plain job t (newer ++ older) ≡ Some now.run) same now.is in
          let run : now.run ≡ m.0 = some_inj now.run m.0 (sym there ∙ m.1) in
          let falls = (opens job outer.task.0 (newer ++ older) now.run there).falls in
          let top : calls_on now.run.stack ≡ outer ∷ calls_on r.0.stack = subst (λ (p : PlainTask). calls_on p.stack ≡ outer ∷ calls_on r.0.stack) (sym run) k.calls in
          absurd (deep now.upper upper (calls_on r.0.stack) (subst (λ cs. Falls cs) now.stack falls) (sym now.stack ∙ top))
