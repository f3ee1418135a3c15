-- A legal history of a well-formed job has rows: each callback is of the top call of its task, which was entered in a function of the job.
use Rattle.std.proofs.Common.{cond, ◌≡◌, ℕ, ◌<◌, ◌≤◌, true, false, not, ◌||◌, List, [], ◌∷◌, ◌++◌, length, reverse, Option, Some, None, IsSomeAnd, sym, ap, ◌∙◌, subst, arith, append_assoc}
use Rattle.std.specs.List.{AllByRecursion as Each}
use Rattle.std.proofs.lemmas.List.{reverse-append, length-append}
use Rattle.ft_base.specs.declared.number.CallNo.{CallNo}
use Rattle.ft_base.specs.declared.number.UserNo.{UserNo}
use Rattle.ft_base.specs.declared.item.Item.{Item}
use Rattle.ft_base.specs.declared.item.Item.TheVariants.{Enter, Back, Exit, Ret}
use Rattle.ft_base.specs.Same.{same_call}
use Rattle.ft_base.specs.Job.{Job, funcs}
use Rattle.ft_base.specs.WellFormed.{IsWellFormed}
use Rattle.ft_base.proofs.Small.{false_true, ==-refl, and_both}
use Rattle.ft_hist.specs.Past.{Entered, entered, done, is_open}
use Rattle.ft_hist.specs.Plain.{plain, PlainTask}
use Rattle.ft_hist.specs.Rules.{IsLegal, IsLegalPast}
use Rattle.ft_hist.proofs.FrameCounts.{top-open}
use Rattle.ft_hist.proofs.Numbers.{moved, some-run}
use Rattle.ft_hist.proofs.RunLaws.{Keeps}
use Rattle.ft_hist.proofs.ItemOrders.{legal-to}
use Rattle.ft_hist.proofs.ExitItems.{exit-of}
use Rattle.func_profile.specs.Rows.{IsEntered, HasRows}
use Rattle.ft_hist.proofs.Named.{EnterNamed, enter-named}
use Rattle.ft_hist.proofs.Steps.{own-step}

-- each call was entered in a function below n
abbrev EntersNamed : ℕ → List Item → Type 0
EntersNamed n past = Each (EnterNamed n) past

-- so an open call was
open-entered : (n : ℕ) (call : CallNo) (past : List Item) → EntersNamed n past → is_open call past ≡ true → IsEntered n call past
open-entered n call [] h o = false_true o
open-entered n call (Enter c ctx f caller ∷ past) h o =
    elim (same_call c call) as (λ b. (b || is_open call past) ≡ true → IsSomeAnd (cond b (Some (record { ctx = ctx; func = f.0; caller = caller; from = done past })) (entered call past)) (λ e. e.func < n)) [
      | true ↦ λ x. h.0
      | false ↦ λ x. open-entered n call past h.1 x
    ] o
open-entered n call (Ret c to ∷ past) h o = open-entered n call past h.1 (and_both (not (same_call c call)) (is_open call past) o).1
open-entered n call (_ ∷ past) h o = open-entered n call past h.1 o

module _ (job : Job) (is : IsWellFormed job) where
  item-named : (item : Item) (past : List Item) → IsLegalPast job (item ∷ past) → EnterNamed (funcs job) item
  item-named (Enter call ctx f caller) past l =
      let r = some-run job call.task.0 (Enter call ctx f caller ∷ past) l in
      let w = own-step job call.task.0 (Enter call ctx f caller) past r.0 (==-refl call.task.0) r.1 in
      enter-named job is past w.0 r.0 call.task.0 (Enter call ctx f caller) w.1 w.2
  item-named _ past l = tt

  enters-named : (past : List Item) → IsLegalPast job past → EntersNamed (funcs job) past
  unfolding IsLegalPast
  enters-named [] l = tt
  enters-named (item ∷ past) l = (item-named item past l, enters-named past l.1)

  weaker : (n : ℕ) (o : Option Entered) → funcs job ≤ n → IsSomeAnd o (λ e. e.func < funcs job) → IsSomeAnd o (λ e. e.func < n)
  weaker n None le h = h
  weaker n (Some e) le h = omega (arith, le, h)

  -- an item of a task's top call
  entered-top : (n : ℕ) (call : CallNo) (past : List Item) (p s : PlainTask) → funcs job ≤ n → IsLegalPast job past → plain job call.task.0 past ≡ Some p → Keeps p s call → IsEntered n call past
  entered-top n call past p s le l here k =
      weaker n (entered call past) le (open-entered (funcs job) call past (enters-named past l) (top-open job call.task.0 past p call k.top.0 here k.top.1))

  back-entered : (n : ℕ) (call : CallNo) (user : UserNo) (past : List Item) → funcs job ≤ n → IsLegalPast job (Back call user ∷ past) → IsEntered n call past
  unfolding IsLegalPast
  back-entered n call user past le l =
      let r = some-run job call.task.0 (Back call user ∷ past) l in
      let m = moved job call.task.0 (Back call user) past r.0 (==-refl call.task.0) r.1 in
      entered-top n call past m.0 r.0 le l.1 m.1 m.2

  exit-entered : (n : ℕ) (call : CallNo) (user : UserNo) (entry : ℕ) (past : List Item) → funcs job ≤ n → IsLegalPast job (Exit call user entry ∷ past) → IsEntered n call past
  unfolding IsLegalPast
  exit-entered n call user entry past le l =
      let r = some-run job call.task.0 (Exit call user entry ∷ past) l in
      let m = moved job call.task.0 (Exit call user entry) past r.0 (==-refl call.task.0) r.1 in
      entered-top n call past m.0 r.0 le l.1 m.1 m.2

  -- the past of an item with the item on top
  upto : (items before : List Item) (item : Item) (after : List Item) → IsLegal job items → items ≡ before ++ item ∷ after → IsLegalPast job (item ∷ reverse before)
  upto items before item after l e =
      subst (λ past. IsLegalPast job past) (reverse-append before (item ∷ []))
      (legal-to job items (before ++ item ∷ []) after l (e ∙ sym (append_assoc before (item ∷ []) after)))

  pub legal-rows : (items : List Item) (n : ℕ) → IsLegal job items → funcs job ≤ n → HasRows n items
  legal-rows items n l le = record {
    backs = λ before after call user e. back-entered n call user (reverse before) le (upto items before (Back call user) after l e);
    exits = λ before after call user entry e. (
      exit-entered n call user entry (reverse before) le (upto items before (Exit call user entry) after l e),
      earlier before after call user entry e,
    );
  }
    where
      earlier : (before after : List Item) (call : CallNo) (user : UserNo) (entry : ℕ) → items ≡ before ++ Exit call user entry ∷ after → entry < length before
      earlier before after call user entry e =
          let w = exit-of job items before after call user entry l e in
          let long = ap (λ (xs : List Item). length xs) w.2 ∙ length-append w.0 (Back call user ∷ w.1) in
          let place = w.3 in
          omega (arith, long, place)
