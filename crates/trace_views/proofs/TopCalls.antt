-- How the items of a legal history move the open calls of its tasks: a call is put on top at its Enter, goes at its Ret, and is the top one at
-- each other item of its own.
use Rattle.std.proofs.Common.{cond, ◌≢◌, ◌⊎◌, ◌≡◌, ℕ, ◌<◌, ◌≤◌, Bool, true, false, not, ◌&&◌, ◌||◌, ◌==◌, List, [], ◌∷◌, length, Option, Some, refl, sym, ap, ◌∙◌, subst, inl, inr, arith}
use Rattle.std.specs.List.{filter, AllByRecursion as Each}
use Rattle.std.specs.Prelude.{Contains}
use Rattle.std.proofs.lemmas.Bool.{cases_lt}
use Rattle.std.proofs.lemmas.Bool.Decides.{eqb_tells}
use Rattle.std.proofs.lemmas.List.Elements.{filter_passes, recursion_from_All}
use Rattle.ft_base.specs.declared.number.CallNo.{CallNo}
use Rattle.ft_base.specs.declared.number.FuncNo.{FuncNo}
use Rattle.ft_base.specs.declared.number.UserNo.{UserNo}
use Rattle.ft_base.specs.declared.item.Ran.{Ran}
use Rattle.ft_base.specs.declared.context.Ctx.{Ctx}
use Rattle.ft_base.specs.declared.item.Item.{Item}
use Rattle.ft_base.specs.declared.item.Item.TheVariants.{Enter, Back, Body, Exit, Ret}
use Rattle.ft_base.specs.Same.{same_call}
use Rattle.ft_base.specs.Job.{Job}
use Rattle.ft_base.proofs.Small.{false_true, ==-refl, and_both, Each-weaker, Each-filter, Contains-head, Contains-more}
use Rattle.ft_hist.specs.Past.{is_of, is_open, calls, entry_of, Entered}
use Rattle.ft_hist.specs.Plain.{plain, PlainTask}
use Rattle.ft_hist.specs.Rules.{IsLegalPast}
use Rattle.ft_hist.specs.Telling.{open_calls}
use Rattle.ft_hist.proofs.FrameCounts.{Falls, opens, not_same}
use Rattle.ft_hist.proofs.Laws.{entry_of-enter}
use Rattle.ft_hist.proofs.WindowLaws.{is_enter, entry_of-more}
use Rattle.ft_hist.proofs.Nesting.{top_of, entering}
use Rattle.ft_hist.proofs.Numbers.{moved, unmoved, some-run}
use Rattle.ft_hist.proofs.OpenCallbacks.{no-item}
use Rattle.ft_hist.proofs.RunLaws.{same_call-eq, calls_on, Moves, Keeps}
use Rattle.ft_hist.proofs.Since.{IsOlder, apart}

module _ (job : Job) where
  -- the open calls of a task are those of its plain run
  pub open-is : (t : ℕ) (past : List Item) (s : PlainTask) → plain job t past ≡ Some s → open_calls t past ≡ calls_on s.stack
  open-is t past s e = (opens job t past s e).open'

  -- what is legal with one item more is so without it
  pub older : (item : Item) (past : List Item) → IsLegalPast job (item ∷ past) → IsLegalPast job past
  unfolding IsLegalPast
  older item past l = l.1

  -- ## an Enter

  pub put : (call : CallNo) (ctx : Ctx) (f : FuncNo) (caller : Option CallNo) (past : List Item) → IsLegalPast job (Enter call ctx f caller ∷ past)
      → open_calls call.task.0 (Enter call ctx f caller ∷ past) ≡ call ∷ open_calls call.task.0 past
  put call ctx f caller past l =
      let r = some-run job call.task.0 (Enter call ctx f caller ∷ past) l in
      let m = moved job call.task.0 (Enter call ctx f caller) past r.0 (==-refl call.task.0) r.1 in
      let k = m.2 in
      open-is call.task.0 (Enter call ctx f caller ∷ past) r.0 r.1 ∙ k.calls ∙ ap (λ (cs : List CallNo). call ∷ cs) (sym (open-is call.task.0 past m.0 m.1))

  -- the caller is the top call
  pub caller-top : (call : CallNo) (ctx : Ctx) (f : FuncNo) (caller : Option CallNo) (past : List Item) → IsLegalPast job (Enter call ctx f caller ∷ past)
      → caller ≡ top_of (open_calls call.task.0 past)
  caller-top call ctx f caller past l =
      let e = entering job call ctx f caller past l in
      e.caller_is ∙ ap top_of (sym (open-is call.task.0 past e.run e.run_is))

  -- the call is new
  pub fresh : (call : CallNo) (ctx : Ctx) (f : FuncNo) (caller : Option CallNo) (past : List Item) → IsLegalPast job (Enter call ctx f caller ∷ past)
      → Each (λ c. same_call call c ≡ false) (calls past)
  fresh call ctx f caller past l =
      let r = some-run job call.task.0 (Enter call ctx f caller ∷ past) l in
      let m = moved job call.task.0 (Enter call ctx f caller) past r.0 (==-refl call.task.0) r.1 in
      let k = m.2 in
      let number : m.0.next ≤ call.n = omega (arith, k.number) in
      Each-weaker (IsOlder call.task.0 m.0.next) (λ c. same_call call c ≡ false) (calls past) (λ c old. apart call.task.0 m.0.next call c refl number old) (opens job call.task.0 past m.0 m.1).made

  pub fresh-open : (t : ℕ) (call : CallNo) (ctx : Ctx) (f : FuncNo) (caller : Option CallNo) (past : List Item) → IsLegalPast job (Enter call ctx f caller ∷ past)
      → Each (λ c. same_call call c ≡ false) (open_calls t past)
  fresh-open t call ctx f caller past l = Each-filter (λ c. same_call call c ≡ false) (λ c. (c.task.0 == t) && is_open c past) (calls past) (fresh call ctx f caller past l)

  -- ## a Ret

  pub taken : (call : CallNo) (to : Option CallNo) (past : List Item) → IsLegalPast job (Ret call to ∷ past) → open_calls call.task.0 past ≡ call ∷ open_calls call.task.0 (Ret call to ∷ past)
  taken call to past l =
      let r = some-run job call.task.0 (Ret call to ∷ past) l in
      let m = moved job call.task.0 (Ret call to) past r.0 (==-refl call.task.0) r.1 in
      let k = m.2 in
      open-is call.task.0 past m.0 m.1 ∙ k.calls ∙ ap (λ (cs : List CallNo). call ∷ cs) (sym (open-is call.task.0 (Ret call to ∷ past) r.0 r.1))

  -- ## each other item of a call

  -- the call is the top one, and stays
  pub record IsTop (call : CallNo) (past past' : List Item) : Type 0 where
    pub below : List CallNo
    pub before : open_calls call.task.0 past ≡ call ∷ below
    pub after : open_calls call.task.0 past' ≡ call ∷ below

  top-kept : (call : CallNo) (item : Item) (past : List Item) → is_of call.task.0 item ≡ true → ((p s : PlainTask) → Moves p s item → Keeps p s call) → IsLegalPast job (item ∷ past) → IsTop call past (item ∷ past)
  top-kept call item past own keeps l =
      let r = some-run job call.task.0 (item ∷ past) l in
      let m = moved job call.task.0 item past r.0 own r.1 in
      let k = keeps m.0 r.0 m.2 in
      record {
        below = k.top.0;
        before = open-is call.task.0 past m.0 m.1 ∙ k.top.1;
        after = open-is call.task.0 (item ∷ past) r.0 r.1 ∙ k.calls ∙ k.top.1;
      }

  pub top-back : (call : CallNo) (u : UserNo) (past : List Item) → IsLegalPast job (Back call u ∷ past) → IsTop call past (Back call u ∷ past)
  top-back call u past l = top-kept call (Back call u) past (==-refl call.task.0) (λ p s m. m) l

  pub top-body : (call : CallNo) (g : FuncNo) (ran : Ran) (past : List Item) → IsLegalPast job (Body call g ran ∷ past) → IsTop call past (Body call g ran ∷ past)
  top-body call g ran past l = top-kept call (Body call g ran) past (==-refl call.task.0) (λ p s m. m) l

  pub top-exit : (call : CallNo) (u : UserNo) (entry : ℕ) (past : List Item) → IsLegalPast job (Exit call u entry ∷ past) → IsTop call past (Exit call u entry ∷ past)
  top-exit call u entry past l = top-kept call (Exit call u entry) past (==-refl call.task.0) (λ p s m. m) l

  -- ## an item of another task, or of control

  pub others : (t : ℕ) (item : Item) (past : List Item) → is_of t item ≡ false → IsLegalPast job (item ∷ past) → open_calls t (item ∷ past) ≡ open_calls t past
  others t item past other l =
      let r = some-run job t (item ∷ past) l in
      open-is t (item ∷ past) r.0 r.1 ∙ sym (open-is t past r.0 (unmoved job t item past r.0 other r.1))

  -- ## which calls these are

  pub of-task : (t : ℕ) (past : List Item) → Each (λ c. ((c.task.0 == t) && is_open c past) ≡ true) (open_calls t past)
  of-task t past = recursion_from_All (λ c. ((c.task.0 == t) && is_open c past) ≡ true) (open_calls t past) (filter_passes (λ c. (c.task.0 == t) && is_open c past) (calls past))

  -- they are numbered, so no call is there twice
  pub falls : (t : ℕ) (past : List Item) → IsLegalPast job past → Falls (open_calls t past)
  falls t past l =
      let r = some-run job t past l in
      let o = opens job t past r.0 r.1 in
      subst (λ (cs : List CallNo). Falls cs) (sym o.open') o.falls

  pub below-other : (t : ℕ) (call : CallNo) (below : List CallNo) (past : List Item) → IsLegalPast job past → open_calls t past ≡ call ∷ below → Each (λ c. same_call call c ≡ false) below
  below-other t call below past l e =
      let f = subst (λ (cs : List CallNo). Falls cs) e (falls t past l) in
      Each-weaker (λ c. c.n < call.n) (λ c. same_call call c ≡ false) below (λ c lt. not_same call c lt) f.0

  -- ## a call is there if it is of the task and open

  open-kept : (p : CallNo → Bool) (call : CallNo) (past : List Item) → p call ≡ true → is_open call past ≡ true → Contains (filter p (calls past)) call
  open-kept p call [] passes o = false_true o
  open-kept p call (Enter c ctx f caller ∷ past) passes o =
      elim (same_call c call) as (λ b. same_call c call ≡ b → (b || is_open call past) ≡ true → Contains (cond (p c) (c ∷ filter p (calls past)) (filter p (calls past))) call) [
        | true ↦ λ e x. (let is : c ≡ call = same_call-eq c call e in rw (is, passes) (Contains-head call (filter p (calls past))))
        | false ↦ λ e x. elim (p c) as (λ b. Contains (cond b (c ∷ filter p (calls past)) (filter p (calls past))) call) [
          | true ↦ Contains-more c call (filter p (calls past)) (open-kept p call past passes x)
          | false ↦ open-kept p call past passes x
        ]
      ] refl o
  open-kept p call (Ret c to ∷ past) passes o = open-kept p call past passes (and_both (not (same_call c call)) (is_open call past) o).1
  open-kept p call (_ ∷ past) passes o = open-kept p call past passes o

  -- ## the caller of each call is the one below

  put-at : (t : ℕ) (call : CallNo) (ctx : Ctx) (f : FuncNo) (caller : Option CallNo) (past : List Item) → call.task.0 ≡ t → IsLegalPast job (Enter call ctx f caller ∷ past)
      → open_calls t (Enter call ctx f caller ∷ past) ≡ call ∷ open_calls t past
  put-at t call ctx f caller past e l = subst (λ (v : ℕ). open_calls v (Enter call ctx f caller ∷ past) ≡ call ∷ open_calls v past) e (put call ctx f caller past l)

  caller-at : (t : ℕ) (call : CallNo) (ctx : Ctx) (f : FuncNo) (caller : Option CallNo) (past : List Item) → call.task.0 ≡ t → IsLegalPast job (Enter call ctx f caller ∷ past) → caller ≡ top_of (open_calls t past)
  caller-at t call ctx f caller past e l = subst (λ (v : ℕ). caller ≡ top_of (open_calls v past)) e (caller-top call ctx f caller past l)

  taken-at : (t : ℕ) (call : CallNo) (to : Option CallNo) (past : List Item) → call.task.0 ≡ t → IsLegalPast job (Ret call to ∷ past) → open_calls t past ≡ call ∷ open_calls t (Ret call to ∷ past)
  taken-at t call to past e l = subst (λ (v : ℕ). open_calls v past ≡ call ∷ open_calls v (Ret call to ∷ past)) e (taken call to past l)

  abbrev pub Linked : List Item → List CallNo → Type 0
  Linked past [] = Unit {0}
  Linked past (c ∷ cs) = ((entry_of c past).caller ≡ top_of cs) × Linked past cs

  linked-more : (item : Item) (past : List Item) (cs : List CallNo) → Each (λ c. is_enter c item ≡ false) cs → Linked past cs → Linked (item ∷ past) cs
  linked-more item past [] old h = tt
  linked-more item past (c ∷ cs) old h = (ap (λ (e : Entered). e.caller) (entry_of-more c item past old.0) ∙ h.0, linked-more item past cs old.1 h.1)

  none-enters : (item : Item) (cs : List CallNo) → ((c : CallNo) → is_enter c item ≡ false) → Each (λ c. is_enter c item ≡ false) cs
  none-enters item [] h = tt
  none-enters item (c ∷ cs) h = (h c, none-enters item cs h)

  linked-item : (t : ℕ) (item : Item) (past : List Item) → IsLegalPast job (item ∷ past) → Linked past (open_calls t past) → Linked (item ∷ past) (open_calls t (item ∷ past))
  linked-item t (Enter call ctx f caller) past l h = of (eqb_tells call.task.0 t)
    where
      still : Linked (Enter call ctx f caller ∷ past) (open_calls t past)
      still = linked-more (Enter call ctx f caller) past (open_calls t past) (fresh-open t call ctx f caller past l) h

      entered_here : (entry_of call (Enter call ctx f caller ∷ past)).caller ≡ caller
      entered_here = ap (λ (e : Entered). e.caller) (entry_of-enter call ctx f caller past)

      of : ((call.task.0 == t) ≡ true) × (call.task.0 ≡ t) ⊎ ((call.task.0 == t) ≡ false) × (call.task.0 ≢ t) → Linked (Enter call ctx f caller ∷ past) (open_calls t (Enter call ctx f caller ∷ past))
      of (inl e) = rw (put-at t call ctx f caller past e.1 l) (entered_here ∙ caller-at t call ctx f caller past e.1 l, still)
      of (inr e) = subst (λ (cs : List CallNo). Linked (Enter call ctx f caller ∷ past) cs) (sym (others t (Enter call ctx f caller) past e.0 l)) still
  linked-item t (Ret call to) past l h = of (eqb_tells call.task.0 t)
    where
      of : ((call.task.0 == t) ≡ true) × (call.task.0 ≡ t) ⊎ ((call.task.0 == t) ≡ false) × (call.task.0 ≢ t) → Linked (Ret call to ∷ past) (open_calls t (Ret call to ∷ past))
      of (inl e) =
          let both = subst (λ (cs : List CallNo). Linked past cs) (taken-at t call to past e.1 l) h in
          linked-more (Ret call to) past (open_calls t (Ret call to ∷ past)) (none-enters (Ret call to) (open_calls t (Ret call to ∷ past)) (λ c. refl)) both.1
      of (inr e) =
          subst (λ (cs : List CallNo). Linked (Ret call to ∷ past) cs) (sym (others t (Ret call to) past e.0 l))
          (linked-more (Ret call to) past (open_calls t past) (none-enters (Ret call to) (open_calls t past) (λ c. refl)) h)
  linked-item t item past l h = linked-more item past (open_calls t past) (none-enters item (open_calls t past) (λ c. refl)) h

  pub linked : (t : ℕ) (past : List Item) → IsLegalPast job past → Linked past (open_calls t past)
  unfolding IsLegalPast
  linked t [] l = tt
  linked t (item ∷ past) l = linked-item t item past l (linked t past l.1)

  -- ## items come only of the job's tasks

  pub named : (t : ℕ) (item : Item) (past : List Item) → is_of t item ≡ true → IsLegalPast job (item ∷ past) → t < length job.tasks
  named t item past own l =
      let r = some-run job t (item ∷ past) l in
      elim (cases_lt t (length job.tasks)) [ inl lt ↦ lt | inr le ↦ absurd (no-item job t le item past r.0 own r.1) ]
