-- The open calls of a task, and how often a user was called back in them, over an item of a legal history.
use Rattle.std.proofs.Common.{cond, ◌≡◌, ℕ, suc, ◌+◌, ◌-◌, Bool, true, false, ◌&&◌, ◌==◌, List, [], ◌∷◌, drop, length, filter, Option, refl, sym, ap, ◌∙◌, subst, arith, eqb-true}
use Rattle.std.specs.List.{AllByRecursion as Each}
use Rattle.ft_base.specs.declared.number.CallNo.{CallNo}
use Rattle.ft_base.specs.declared.number.FuncNo.{FuncNo}
use Rattle.ft_base.specs.declared.number.UserNo.{UserNo}
use Rattle.ft_base.specs.declared.context.Ctx.{Ctx}
use Rattle.ft_base.specs.declared.item.Item.{Item}
use Rattle.ft_base.specs.declared.item.Item.TheVariants.{Enter, Back, Ret}
use Rattle.ft_base.specs.Job.{Job}
use Rattle.ft_base.specs.Same.{same_call}
use Rattle.ft_base.proofs.Small.{and_both, Each-weaker, Each-filter}
use Rattle.ft_hist.specs.Past.{is_open, calls}
use Rattle.ft_hist.specs.Rules.{IsLegalPast}
use Rattle.ft_hist.specs.Telling.{open_calls}
use Rattle.ft_hist.proofs.Laws.{same_call-refl}
use Rattle.trace_views.specs.GraphText.{called, level}
use Rattle.trace_views.specs.GraphWalks.{is_open_in, backs_in, backs_open, IsFresh, IsTop}
use Rattle.trace_views.proofs.GraphLevels.{filter-nothing, same_call-turned, pick-enter, pick-ret, pick-ret-other, level-shape, level-is}
use Rattle.trace_views.proofs.TopCalls.{fresh, of-task, older, others, put, taken, top-back}

-- ## facts of a legal past

module _ (job : Job) where
  -- a call that wasn't entered had no callback
  fresh-called : (u : ℕ) (call : CallNo) (past : List Item) → IsLegalPast job past → IsFresh call (calls past) → IsFresh call (called u past)
  fresh-called u call [] l f = tt
  fresh-called u call (Enter c ctx g caller ∷ past) l f = fresh-called u call past (older job (Enter c ctx g caller) past l) f.1
  fresh-called u call (Back c v ∷ past) l f =
      let more = fresh-called u call past (older job (Back c v) past l) f in
      let open' = subst (λ cs. IsFresh call cs) (top-back job c v past l).before (Each-filter (λ d. same_call call d ≡ false) (is_open_in c.task.0 past) (calls past) f) in
      elim (v.0 == u) as (λ b. IsFresh call (cond b (c ∷ called u past) (called u past))) [ true ↦ (open'.0, more) | false ↦ more ]
  fresh-called u call (item ∷ past) l f = fresh-called u call past (older job item past l) f

  -- of the latest open call
  module _ (call : CallNo) (past : List Item) (top : IsTop (length job.tasks) call past) where
    pub top-open : is_open call past ≡ true
    top-open =
        let own = subst (λ cs. Each (λ c. is_open_in call.task.0 past c ≡ true) cs) top.2 (of-task job call.task.0 past) in
        (and_both (call.task.0 == call.task.0) (is_open call past) own.0).1

    pub top-level : (u : ℕ) → level u call past + backs_in u call past ≡ backs_open u call.task.0 past
    top-level u = level-is u call past top-open

  -- ## the open calls

  pub open-enter : (t : ℕ) (call : CallNo) (ctx : Ctx) (f : FuncNo) (caller : Option CallNo) (past : List Item) → IsLegalPast job (Enter call ctx f caller ∷ past)
      → open_calls t (Enter call ctx f caller ∷ past) ≡ cond (call.task.0 == t) (call ∷ open_calls t past) (open_calls t past)
  open-enter t call ctx f caller past l = by (call.task.0 == t) refl
    where
      by : (b : Bool) → (call.task.0 == t) ≡ b → open_calls t (Enter call ctx f caller ∷ past) ≡ cond b (call ∷ open_calls t past) (open_calls t past)
      by true e =
          let is : call.task.0 ≡ t = eqb-true call.task.0 t e in
          subst (λ n. open_calls n (Enter call ctx f caller ∷ past) ≡ call ∷ open_calls n past) is (put job call ctx f caller past l)
      by false e = others job t (Enter call ctx f caller) past e l

  pub open-ret : (t : ℕ) (call : CallNo) (to : Option CallNo) (past : List Item) → IsLegalPast job (Ret call to ∷ past)
      → open_calls t (Ret call to ∷ past) ≡ cond (call.task.0 == t) (drop 1 (open_calls t past)) (open_calls t past)
  open-ret t call to past l = by (call.task.0 == t) refl
    where
      by : (b : Bool) → (call.task.0 == t) ≡ b → open_calls t (Ret call to ∷ past) ≡ cond b (drop 1 (open_calls t past)) (open_calls t past)
      by true e =
          let is : call.task.0 ≡ t = eqb-true call.task.0 t e in
          subst (λ n. open_calls n (Ret call to ∷ past) ≡ drop 1 (open_calls n past)) is (sym (ap (λ cs. drop 1 cs) (taken job call to past l)))
      by false e = others job t (Ret call to) past e l

  -- ## callbacks in them

  pub backs-enter : (u t : ℕ) (call : CallNo) (ctx : Ctx) (f : FuncNo) (caller : Option CallNo) (past : List Item) → IsLegalPast job (Enter call ctx f caller ∷ past)
      → backs_open u t (Enter call ctx f caller ∷ past) ≡ backs_open u t past
  backs-enter u t call ctx f caller past l =
      ap length (pick-enter t call ctx f caller past (called u past)
      (fresh-called u call past (older job (Enter call ctx f caller) past l) (fresh job call ctx f caller past l)))

  pub backs-new : (u : ℕ) (call : CallNo) (ctx : Ctx) (f : FuncNo) (caller : Option CallNo) (past : List Item) → IsLegalPast job (Enter call ctx f caller ∷ past)
      → backs_in u call past ≡ 0
  backs-new u call ctx f caller past l =
      ap length (filter-nothing (λ c. same_call c call) (called u past)
      (Each-weaker (λ c. same_call call c ≡ false) (λ c. same_call c call ≡ false) (called u past) (λ c e. same_call-turned c call ∙ e)
      (fresh-called u call past (older job (Enter call ctx f caller) past l) (fresh job call ctx f caller past l))))

  pub backs-ret : (u t : ℕ) (call : CallNo) (to : Option CallNo) (past : List Item) → IsTop (length job.tasks) call past
      → backs_open u t (Ret call to ∷ past) ≡ cond (call.task.0 == t) (backs_open u t past - backs_in u call past) (backs_open u t past)
  backs-ret u t call to past top = by (call.task.0 == t) refl
    where
      own : backs_open u call.task.0 (Ret call to ∷ past) ≡ backs_open u call.task.0 past - backs_in u call past
      own =
          let a = level-shape u call past in
          let b = top-level call past top u in
          let c = ap length (pick-ret call.task.0 call to past (called u past)) in
          omega (arith, a, b, c)

      by : (b : Bool) → (call.task.0 == t) ≡ b → backs_open u t (Ret call to ∷ past) ≡ cond b (backs_open u t past - backs_in u call past) (backs_open u t past)
      by true e = let is : call.task.0 ≡ t = eqb-true call.task.0 t e in subst (λ n. backs_open u n (Ret call to ∷ past) ≡ backs_open u n past - backs_in u call past) is own
      by false e = ap length (pick-ret-other t call to past (called u past) e)

module _ (u : ℕ) (call : CallNo) (v : UserNo) (past : List Item) (own : (v.0 == u) ≡ true) where
  pub backs-back : (job : Job) (t : ℕ) → IsTop (length job.tasks) call past → backs_open u t (Back call v ∷ past) ≡ cond (call.task.0 == t) (backs_open u t past + 1) (backs_open u t past)
  backs-back job t top = rw (own, top-open job call past top) (by (call.task.0 == t))
    where
      by : (b : Bool) → length (cond (b && true) (call ∷ filter (is_open_in t past) (called u past)) (filter (is_open_in t past) (called u past))) ≡ cond b (backs_open u t past + 1) (backs_open u t past)
      by true = omega arith
      by false = refl

  pub backs-own : backs_in u call (Back call v ∷ past) ≡ backs_in u call past + 1
  backs-own = rw (own, same_call-refl call) (let e : suc (backs_in u call past) ≡ backs_in u call past + 1 = omega arith in e)

  pub backs-others : (c : CallNo) → same_call call c ≡ false → backs_in u c (Back call v ∷ past) ≡ backs_in u c past
  backs-others c apart = rw (own, apart) refl
