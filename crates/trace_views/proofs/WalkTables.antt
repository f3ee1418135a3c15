-- What is kept of each task, over one more item.
use Rattle.std.proofs.Common.{cond, ◌≡◌, ℕ, Bool, true, false, ◌==◌, List, [], ◌∷◌, map, drop, Option, refl, sym, ap, ◌∙◌, subst, eqb-true}
use Rattle.std.proofs.lemmas.List.{drop-map}
use Rattle.ft_base.specs.declared.number.CallNo.{CallNo}
use Rattle.ft_base.specs.declared.number.FuncNo.{FuncNo}
use Rattle.ft_base.specs.declared.number.UserNo.{UserNo}
use Rattle.ft_base.specs.declared.context.Ctx.{Ctx}
use Rattle.ft_base.specs.declared.item.Item.{Item}
use Rattle.ft_base.specs.declared.item.Item.TheVariants.{Enter, Back, Ret}
use Rattle.ft_base.specs.Job.{Job}
use Rattle.ft_base.specs.Same.{same_call}
use Rattle.ft_base.proofs.Small.{and_both, Each-weaker, map-ext}
use Rattle.ft_hist.specs.Past.{is_open}
use Rattle.ft_hist.specs.Rules.{IsLegalPast}
use Rattle.ft_hist.specs.Telling.{open_calls}
use Rattle.ft_hist.proofs.Laws.{same_call-refl}
use Rattle.trace_views.specs.TaskStacks.{with_top}
use Rattle.trace_views.specs.GraphWalks.{is_open_in, IsFresh}
use Rattle.trace_views.specs.GraphLines.{graph_call, graph_calls, with_back}
use Rattle.trace_views.proofs.GraphLevels.{other-task}
use Rattle.trace_views.proofs.GraphItems.{open-enter, open-ret, backs-new, backs-own, backs-others}
use Rattle.trace_views.proofs.TopCalls.{IsTop, below-other, fresh-open, of-task, older, top-back}

-- ## the open calls of a task

-- a call that is entered is put on its task's
pub calls-enter : (job : Job) (u t : ℕ) (call : CallNo) (ctx : Ctx) (f : FuncNo) (caller : Option CallNo) (past : List Item) → IsLegalPast job (Enter call ctx f caller ∷ past)
    → graph_calls u t (Enter call ctx f caller ∷ past) ≡ cond (call.task.0 == t) (record { func = f; backs = 0 } ∷ graph_calls u t past) (graph_calls u t past)
calls-enter job u t call ctx f caller past l =
    ap (λ cs. map (graph_call u (Enter call ctx f caller ∷ past)) cs) (open-enter job t call ctx f caller past l) ∙ by (call.task.0 == t)
  where
    others : map (graph_call u (Enter call ctx f caller ∷ past)) (open_calls t past) ≡ graph_calls u t past
    others =
        map-ext (graph_call u (Enter call ctx f caller ∷ past)) (graph_call u past) (open_calls t past)
        (Each-weaker (λ c. same_call call c ≡ false) (λ c. graph_call u (Enter call ctx f caller ∷ past) c ≡ graph_call u past c) (open_calls t past) (λ c e. rw e refl)
        (fresh-open job t call ctx f caller past l))

    first : graph_call u (Enter call ctx f caller ∷ past) call ≡ record { func = f; backs = 0 }
    first = rw (same_call-refl call, backs-new job u call ctx f caller past l) refl

    by : (b : Bool) → map (graph_call u (Enter call ctx f caller ∷ past)) (cond b (call ∷ open_calls t past) (open_calls t past)) ≡ cond b (record { func = f; backs = 0 } ∷ graph_calls u t past) (graph_calls u t past)
    by true = rw (first, others) refl
    by false = others

-- one that returns is taken away
pub calls-ret : (job : Job) (u t : ℕ) (call : CallNo) (to : Option CallNo) (past : List Item) → IsLegalPast job (Ret call to ∷ past)
    → graph_calls u t (Ret call to ∷ past) ≡ cond (call.task.0 == t) (drop 1 (graph_calls u t past)) (graph_calls u t past)
calls-ret job u t call to past l = ap (λ cs. map (graph_call u past) cs) (open-ret job t call to past l) ∙ by (call.task.0 == t)
  where
    by : (b : Bool) → map (graph_call u past) (cond b (drop 1 (open_calls t past)) (open_calls t past)) ≡ cond b (drop 1 (graph_calls u t past)) (graph_calls u t past)
    by true = sym (drop-map (graph_call u past) 1 (open_calls t past))
    by false = refl

-- one with a callback of the user has one more
pub calls-back : (job : Job) (u t : ℕ) (call : CallNo) (v : UserNo) (past : List Item) → IsLegalPast job (Back call v ∷ past) → (v.0 == u) ≡ true
    → graph_calls u t (Back call v ∷ past) ≡ cond (call.task.0 == t) (with_top (with_back (graph_call u past call)) (graph_calls u call.task.0 past)) (graph_calls u t past)
calls-back job u t call v past l own = by (call.task.0 == t) refl
  where
    top : IsTop job call past (Back call v ∷ past)
    top = top-back job call v past l

    same : (cs : List CallNo) → IsFresh call cs → map (graph_call u (Back call v ∷ past)) cs ≡ map (graph_call u past) cs
    same cs fresh =
        map-ext (graph_call u (Back call v ∷ past)) (graph_call u past) cs
        (Each-weaker (λ c. same_call call c ≡ false) (λ c. graph_call u (Back call v ∷ past) c ≡ graph_call u past c) cs (λ c e. ap (λ n. record { func = (graph_call u past c).func; backs = n }) (backs-others u call v past own c e)) fresh)

    first : graph_call u (Back call v ∷ past) call ≡ with_back (graph_call u past call)
    first = ap (λ n. record { func = (graph_call u past call).func; backs = n }) (backs-own u call v past own)

    here : graph_calls u call.task.0 (Back call v ∷ past) ≡ with_top (with_back (graph_call u past call)) (graph_calls u call.task.0 past)
    here = rw top.before (rw (first, same top.below (below-other job call.task.0 call top.below past (older job (Back call v) past l) top.before)) refl)

    by : (b : Bool) → (call.task.0 == t) ≡ b → graph_calls u t (Back call v ∷ past) ≡ cond b (with_top (with_back (graph_call u past call)) (graph_calls u call.task.0 past)) (graph_calls u t past)
    by true e = let is : call.task.0 ≡ t = eqb-true call.task.0 t e in subst (λ n. graph_calls u n (Back call v ∷ past) ≡ with_top (with_back (graph_call u past call)) (graph_calls u call.task.0 past)) is here
    by false e =
        same (open_calls t past)
        (Each-weaker (λ c. is_open_in t past c ≡ true) (λ c. same_call call c ≡ false) (open_calls t past) (λ c q. other-task call c t e (and_both (c.task.0 == t) (is_open c past) q).0) (of-task job t past))

-- a callback of another user leaves them
pub calls-back-other : (u t : ℕ) (call : CallNo) (v : UserNo) (past : List Item) → (v.0 == u) ≡ false → graph_calls u t (Back call v ∷ past) ≡ graph_calls u t past
calls-back-other u t call v past other = by (open_calls t past)
  where
    by : (cs : List CallNo) → map (graph_call u (Back call v ∷ past)) cs ≡ map (graph_call u past) cs
    by [] = refl
    by (c ∷ cs) = let first : graph_call u (Back call v ∷ past) c ≡ graph_call u past c = rw other refl in rw (first, by cs) refl
