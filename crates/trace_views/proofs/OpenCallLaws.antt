-- The open calls that the form function keeps, from item to item.
use Rattle.std.proofs.Common.{◌≡◌, ℕ, ◌<◌, true, false, ◌&&◌, ◌==◌, List, [], ◌∷◌, length, get_or, Option, Some, None, refl, sym, ap, ◌∙◌, subst, inl, inr, arith, get_or-set_same, get_or-set_other, length-set, eqb-true}
use Rattle.std.specs.Prelude.{map, set, drop, slice_get, option_map}
use Rattle.std.specs.List.{AllByRecursion as Each}
use Rattle.std.proofs.lemmas.Bool.Decides.{eqb_tells}
use Rattle.ft_base.specs.declared.number.CallNo.{CallNo}
use Rattle.ft_base.specs.declared.number.FuncNo.{FuncNo}
use Rattle.ft_base.specs.declared.number.UserNo.{UserNo}
use Rattle.ft_base.specs.declared.context.Ctx.{Ctx}
use Rattle.ft_base.specs.declared.item.Ran.{Ran}
use Rattle.ft_base.specs.declared.item.Item.{Item}
use Rattle.ft_base.specs.declared.item.Item.TheVariants.{Enter, Back, Body, Exit, Ret}
use Rattle.ft_base.specs.Same.{same_call}
use Rattle.ft_base.specs.Job.{Job}
use Rattle.ft_base.proofs.Small.{==-refl, and_both, or-false_both, Each-weaker, map-ext}
use Rattle.ft_hist.specs.Past.{is_open, is_dispatched, entry_of, done, Entered}
use Rattle.ft_hist.specs.Rules.{IsLegalPast}
use Rattle.ft_hist.specs.Telling.{open_calls}
use Rattle.ft_hist.proofs.Laws.{same_call-refl, entry_of-enter, other-task}
use Rattle.ft_hist.proofs.Nesting.{top_of}
use Rattle.ft_hist.proofs.Numbers.{moved, some-run}
use Rattle.ft_hist.proofs.RunLaws.{some_inj, sound}
use Rattle.ft_hist.proofs.WindowLaws.{entry_of-more}
use Rattle.trace_views.specs.declared.open_calls.OpenCall.{OpenCall}
use Rattle.trace_views.specs.FunctionText.{body_of, running, parent_word}
use Rattle.trace_views.specs.OpenCalls.{func_no, open_call_of, HasOpenCalls, runs, parent_name}
use Rattle.trace_views.specs.Words.{function_word}
use Rattle.trace_views.specs.TaskStacks.{stack_at, with_top}
use Rattle.trace_views.proofs.TopCalls.{put, fresh-open, taken, top-body, IsTop, others, of-task, below-other, named, top-back, top-exit, Linked, linked}

-- a call whose dispatch isn't over has no Body
no-body : (call : CallNo) (past : List Item) → is_dispatched call past ≡ false → body_of call past ≡ None
no-body call [] d = refl
no-body call (Body c g ran ∷ past) d = let both = or-false_both (same_call c call) (is_dispatched call past) d in rw both.0 (no-body call past both.1)
no-body call (_ ∷ past) d = no-body call past d

-- what is kept of a call, by its Enter and its Body
abbrev kept_as : Entered → Option ℕ → OpenCall
kept_as e body = record { ctx = e.ctx; func = func_no e.func; body = option_map func_no body }

-- a call is kept through an Enter of another, and through a Body of another
kept-enter : (c call : CallNo) (ctx : Ctx) (f : FuncNo) (caller : Option CallNo) (past : List Item) → same_call call c ≡ false → open_call_of (Enter call ctx f caller ∷ past) c ≡ open_call_of past c
kept-enter c call ctx f caller past other = ap (λ (e : Entered). kept_as e (body_of c past)) (entry_of-more c (Enter call ctx f caller) past other)

kept-body : (c call : CallNo) (g : FuncNo) (ran : Ran) (past : List Item) → same_call call c ≡ false → open_call_of (Body call g ran ∷ past) c ≡ open_call_of past c
kept-body c call g ran past other = rw other refl

-- the first call that is kept is that of the first call
first-kept : (past : List Item) (cs : List CallNo) → slice_get (map (open_call_of past) cs) 0 ≡ option_map (open_call_of past) (top_of cs)
first-kept past [] = refl
first-kept past (c ∷ cs) = refl

-- the same, of an item and of stacks that are equal to these
pub carried : (job : Job) (past : List Item) (item item' : Item) (stacks stacks' : List (List OpenCall)) → item ≡ item' → stacks ≡ stacks' → HasOpenCalls job (item' ∷ past) stacks' → HasOpenCalls job (item ∷ past) stacks
carried job past item item' stacks stacks' e f h = rw (e, f) h

module _ (job : Job) (past : List Item) (stacks : List (List OpenCall)) (told : HasOpenCalls job past stacks) where
  -- another stack of one task
  at-set : (v : ℕ) (stack : List OpenCall) (past' : List Item) → v < length stacks → stack ≡ map (open_call_of past') (open_calls v past')
      → ((t : ℕ) → (v == t) ≡ false → stack_at stacks t ≡ map (open_call_of past') (open_calls t past')) → HasOpenCalls job past' (set stacks v stack)
  at-set v stack past' lt own other = record {
    tasks = length-set stacks v stack ∙ told.tasks;
    calls = λ t. elim (eqb_tells v t) [
      | inl e ↦ subst (λ (w : ℕ). get_or (set stacks v stack) w [] ≡ map (open_call_of past') (open_calls w past')) e.1 (get_or-set_same stacks v stack [] lt ∙ own)
      | inr e ↦ get_or-set_other stacks v t stack [] (λ same. e.1 (sym same)) ∙ other t e.0
    ];
  }

  -- a stack of calls that are kept as they were
  kept-there : (t : ℕ) (past' : List Item) → Each (λ c. open_call_of past' c ≡ open_call_of past c) (open_calls t past) → stack_at stacks t ≡ map (open_call_of past') (open_calls t past)
  kept-there t past' same = told.calls t ∙ sym (map-ext (open_call_of past') (open_call_of past) (open_calls t past) same)

  -- after an Enter, a Body and a Ret the stacks have the open calls again
  pub told-enter : (call : CallNo) (ctx : Ctx) (f : FuncNo) (caller : Option CallNo) → IsLegalPast job (Enter call ctx f caller ∷ past)
      → HasOpenCalls job (Enter call ctx f caller ∷ past) (set stacks call.task.0 (record { ctx = ctx; func = f; body = None } ∷ stack_at stacks call.task.0))
  told-enter call ctx f caller l =
      let past' : List Item = Enter call ctx f caller ∷ past in
      let r = some-run job call.task.0 past' l in
      let m = moved job call.task.0 (Enter call ctx f caller) past r.0 (==-refl call.task.0) r.1 in
      let k = m.2 in
      let undone = (sound job call.task.0 past m.0 m.1).fresh call refl (omega (arith, k.number)) in
      let new_call : open_call_of past' call ≡ record { ctx = ctx; func = f; body = None } =
      ap (λ (e : Entered). kept_as e (body_of call past)) (entry_of-enter call ctx f caller past)
      ∙ ap (λ (b : Option ℕ). kept_as (record { ctx = ctx; func = f.0; caller = caller; from = done past }) b) (no-body call past undone.0) in
      let still = λ (t : ℕ). kept-there t past' (Each-weaker (λ c. same_call call c ≡ false) (λ c. open_call_of past' c ≡ open_call_of past c) (open_calls t past)
      (λ c other. kept-enter c call ctx f caller past other) (fresh-open job t call ctx f caller past l)) in
      at-set call.task.0 (record { ctx = ctx; func = f; body = None } ∷ stack_at stacks call.task.0) past' (rw told.tasks (named job call.task.0 (Enter call ctx f caller) past (==-refl call.task.0) l))
      (rw (put job call ctx f caller past l, new_call) (ap (λ (cs : List OpenCall). record { ctx = ctx; func = f; body = None } ∷ cs) (still call.task.0)))
      (λ t other. rw (others job t (Enter call ctx f caller) past other l) (still t))

  pub told-body : (call : CallNo) (g : FuncNo) (ran : Ran) (top : OpenCall) → IsLegalPast job (Body call g ran ∷ past) → slice_get (stack_at stacks call.task.0) 0 ≡ Some top
      → HasOpenCalls job (Body call g ran ∷ past) (set stacks call.task.0 (with_top (record top { body = Some g }) (stack_at stacks call.task.0)))
  unfolding IsLegalPast
  told-body call g ran top l e =
      let past' : List Item = Body call g ran ∷ past in
      let w = top-body job call g ran past l in
      let stack : stack_at stacks call.task.0 ≡ open_call_of past call ∷ map (open_call_of past) w.below = told.calls call.task.0 ∙ ap (λ (cs : List CallNo). map (open_call_of past) cs) w.before in
      let top_is : top ≡ open_call_of past call = some_inj top (open_call_of past call) (sym e ∙ ap (λ (os : List OpenCall). slice_get os 0) stack) in
      let below_is : map (open_call_of past') w.below ≡ map (open_call_of past) w.below = map-ext (open_call_of past') (open_call_of past) w.below
      (Each-weaker (λ c. same_call call c ≡ false) (λ c. open_call_of past' c ≡ open_call_of past c) w.below (λ c other. kept-body c call g ran past other) (below-other job call.task.0 call w.below past l.1 w.before)) in
      at-set call.task.0 (with_top (record top { body = Some g }) (stack_at stacks call.task.0)) past' (rw told.tasks (named job call.task.0 (Body call g ran) past (==-refl call.task.0) l))
      (ap (λ (os : List OpenCall). with_top (record top { body = Some g }) os) stack
      ∙ ap (λ (o : OpenCall). record o { body = Some g } ∷ map (open_call_of past) w.below) top_is
      ∙ sym (ap (λ (cs : List CallNo). map (open_call_of past') cs) w.after ∙ rw (same_call-refl call) (ap (λ (os : List OpenCall). record (open_call_of past call) { body = Some g } ∷ os) below_is)))
      (λ t other. kept-there t past' (Each-weaker (λ c. ((c.task.0 == t) && is_open c past) ≡ true) (λ c. open_call_of past' c ≡ open_call_of past c) (open_calls t past)
      (λ c own. kept-body c call g ran past (other-task t call c other (eqb-true c.task.0 t (and_both (c.task.0 == t) (is_open c past) own).0))) (of-task job t past)))

  pub told-ret : (call : CallNo) (to : Option CallNo) → IsLegalPast job (Ret call to ∷ past)
      → HasOpenCalls job (Ret call to ∷ past) (set stacks call.task.0 (drop 1 (stack_at stacks call.task.0)))
  told-ret call to l =
      let stack : stack_at stacks call.task.0 ≡ map (open_call_of past) (call ∷ open_calls call.task.0 (Ret call to ∷ past)) = told.calls call.task.0 ∙ ap (map (open_call_of past)) (taken job call to past l) in
      at-set call.task.0 (drop 1 (stack_at stacks call.task.0)) (Ret call to ∷ past) (rw told.tasks (named job call.task.0 (Ret call to) past (==-refl call.task.0) l))
      (ap (λ (cs : List OpenCall). drop 1 cs) stack)
      (λ t other. rw (others job t (Ret call to) past other l) (told.calls t))

  -- what is kept of a top call, and of what is below it
  stack-top : (call : CallNo) (past' : List Item) (w : IsTop job call past past') → stack_at stacks call.task.0 ≡ open_call_of past call ∷ map (open_call_of past) w.below
  stack-top call past' w = told.calls call.task.0 ∙ ap (λ (cs : List CallNo). map (open_call_of past) cs) w.before

  pub top-at-body : (call : CallNo) (g : FuncNo) (ran : Ran) → IsLegalPast job (Body call g ran ∷ past) → slice_get (stack_at stacks call.task.0) 0 ≡ Some (open_call_of past call)
  top-at-body call g ran l = ap (λ (os : List OpenCall). slice_get os 0) (stack-top call (Body call g ran ∷ past) (top-body job call g ran past l))

  pub top-at-back : (call : CallNo) (u : UserNo) → IsLegalPast job (Back call u ∷ past) → slice_get (stack_at stacks call.task.0) 0 ≡ Some (open_call_of past call)
  top-at-back call u l = ap (λ (os : List OpenCall). slice_get os 0) (stack-top call (Back call u ∷ past) (top-back job call u past l))

  pub top-at-exit : (call : CallNo) (u : UserNo) (entry : ℕ) → IsLegalPast job (Exit call u entry ∷ past) → slice_get (stack_at stacks call.task.0) 0 ≡ Some (open_call_of past call)
  top-at-exit call u entry l = ap (λ (os : List OpenCall). slice_get os 0) (stack-top call (Exit call u entry ∷ past) (top-exit job call u entry past l))

  pub below-at-back : (call : CallNo) (u : UserNo) → IsLegalPast job (Back call u ∷ past) → slice_get (stack_at stacks call.task.0) 1 ≡ option_map (open_call_of past) (entry_of call past).caller
  unfolding IsLegalPast
  below-at-back call u l =
      let w = top-back job call u past l in
      let links : Linked job past (call ∷ w.below) = subst (λ (cs : List CallNo). Linked job past cs) w.before (linked job call.task.0 past l.1) in
      ap (λ (os : List OpenCall). slice_get os 1) (stack-top call (Back call u ∷ past) w) ∙ first-kept past w.below ∙ ap (λ (o : Option CallNo). option_map (open_call_of past) o) (sym links.0)

-- what a kept call is in
runs-is : (past : List Item) (call : CallNo) → runs (open_call_of past call) ≡ func_no (running call past)
runs-is past call = of (body_of call past) refl
  where
    of : (b : Option ℕ) → body_of call past ≡ b → runs (open_call_of past call) ≡ func_no (running call past)
    of None e = rw e refl
    of (Some g) e = rw e refl

-- so the parent that is printed is the caller's function
pub parent-is : (job : Job) (past : List Item) (caller : Option CallNo) → parent_name job (option_map runs (option_map (open_call_of past) caller)) ≡ parent_word job past caller
parent-is job past None = refl
parent-is job past (Some call) = ap (λ (f : FuncNo). function_word job f.0) (runs-is past call)
