-- More laws of histories by their items: refusals, returns, unregistrations and exits.
use Rattle.std.proofs.Common.{◌≡◌, ◌<◌, ◌≤◌, ◌⊎◌, Bool, true, false, ◌||◌, List, [], ◌∷◌, ◌++◌, reverse, Option, Some, refl, sym, ap, ◌∙◌, subst, inl, inr, append_assoc}
use Rattle.std.specs.List.{list_any}
use Rattle.ft_base.specs.declared.number.CallNo.{CallNo}
use Rattle.ft_base.specs.declared.number.FuncNo.{FuncNo}
use Rattle.ft_base.specs.declared.number.UserNo.{UserNo}
use Rattle.ft_base.specs.declared.context.Ctx.{Ctx}
use Rattle.ft_base.specs.declared.item.Reason.TheVariants.{Pid as ByPid, Recursion, Depth}
use Rattle.ft_base.specs.declared.item.Item.{Item}
use Rattle.ft_base.specs.declared.item.Item.TheVariants.{Enter, Back, Refuse, Ret}
use Rattle.ft_base.specs.Job.{Job}
use Rattle.ft_base.specs.Desk.{desk, is_allowed, spec_at}
use Rattle.ft_base.specs.Kinds.{has_depth}
use Rattle.ft_base.proofs.Small.{false_true}
use Rattle.ft_base.specs.Versions.{levels}
use Rattle.ft_hist.specs.Past.{open_callbacks, held}
use Rattle.ft_hist.specs.Rules.{IsLegal, IsLegalPast}
use Rattle.ft_hist.specs.Telling.{is_ret_of, AtSomeCommand}
use Rattle.ft_hist.proofs.Splitting.{splits, split-reverse}
use Rattle.ft_hist.proofs.ByItems.{any-reverse}
use Rattle.ft_hist.specs.Plain.{plain, PlainTask}
use Rattle.ft_hist.proofs.RunLaws.{some_inj, calls_on}
use Rattle.ft_hist.proofs.Nesting.{Stands, stands-through, returns-to-tail, entering, returns-once, inner-first}
use Rattle.ft_hist.proofs.ItemOrders.{later_at, legal-to, at_x, past_is, legal_past, ctx_is, from-now, entered_here}

-- ## refusals

module _ (job : Job) (items before mid rest : List Item) (call : CallNo) (ctx : Ctx) (f : FuncNo) (caller : Option CallNo) (user : UserNo) (legal : IsLegal job items) where
  -- for its pid
  pub pid-cause : (e : items ≡ before ++ Enter call ctx f caller ∷ (mid ++ Refuse call user ByPid ∷ rest))
      → ((spec_at job user.0).pid ≡ true) × AtSomeCommand before (before ++ Enter call ctx f caller ∷ mid) (λ k. is_allowed (desk job k) call.task.0 ≡ false)
  pid-cause e =
      let m = (at_x job items before mid rest call ctx f caller (Refuse call user ByPid) legal e).refusals in
      (m.0, from-now job items before mid rest call ctx f caller (Refuse call user ByPid) legal e (λ k. is_allowed (desk job k) call.task.0 ≡ false) m.1)

  -- as all levels of the guard are held
  pub recursion-cause : (e : items ≡ before ++ Enter call ctx f caller ∷ (mid ++ Refuse call user Recursion ∷ rest))
      → levels job ≤ open_callbacks call.task.0 ctx (reverse (before ++ Enter call ctx f caller ∷ mid))
  recursion-cause e =
      let m = (at_x job items before mid rest call ctx f caller (Refuse call user Recursion) legal e).refusals in
      subst (λ c. levels job ≤ open_callbacks call.task.0 c (reverse (before ++ Enter call ctx f caller ∷ mid))) (ctx_is job items before mid rest call ctx f caller (Refuse call user Recursion) legal e) m.1

  -- for depth
  pub depth-cause : (e : items ≡ before ++ Enter call ctx f caller ∷ (mid ++ Refuse call user Depth ∷ rest))
      → (open_callbacks call.task.0 ctx (reverse (before ++ Enter call ctx f caller ∷ mid)) < levels job)
      × (has_depth (spec_at job user.0).kind ≡ true)
      × ((held job call (reverse (before ++ Enter call ctx f caller ∷ mid)) ≡ job.frames)
      ⊎ AtSomeCommand before (before ++ Enter call ctx f caller ∷ mid) (λ k. (0 < (desk job k).depth) × ((desk job k).depth ≤ held job call (reverse (before ++ Enter call ctx f caller ∷ mid)))))
  depth-cause e =
      let past = reverse (before ++ Enter call ctx f caller ∷ mid) in
      let m = (at_x job items before mid rest call ctx f caller (Refuse call user Depth) legal e).refusals in (
        subst (λ c. open_callbacks call.task.0 c past < levels job) (ctx_is job items before mid rest call ctx f caller (Refuse call user Depth) legal e) m.1,
        m.2,
        elim m.3 [
          | inl full ↦ inl full
          | inr deep ↦ inr (from-now job items before mid rest call ctx f caller (Refuse call user Depth) legal e (λ k. (0 < (desk job k).depth) × ((desk job k).depth ≤ held job call past)) deep)
        ],
      )

  -- at a callback a level of the guard is free
  pub back-free : (e : items ≡ before ++ Enter call ctx f caller ∷ (mid ++ Back call user ∷ rest)) → open_callbacks call.task.0 ctx (reverse (before ++ Enter call ctx f caller ∷ mid)) < levels job
  back-free e =
      let m = (at_x job items before mid rest call ctx f caller (Back call user) legal e).refusals in
      subst (λ c. open_callbacks call.task.0 c (reverse (before ++ Enter call ctx f caller ∷ mid)) < levels job) (ctx_is job items before mid rest call ctx f caller (Back call user) legal e) m.free

  -- and its user passed the pid rule, and the graph depth
  pub back-allowed : (e : items ≡ before ++ Enter call ctx f caller ∷ (mid ++ Back call user ∷ rest)) → (spec_at job user.0).pid ≡ true
      → AtSomeCommand before (before ++ Enter call ctx f caller ∷ mid) (λ k. is_allowed (desk job k) call.task.0 ≡ true)
  back-allowed e flag =
      let m = (at_x job items before mid rest call ctx f caller (Back call user) legal e).refusals in
      from-now job items before mid rest call ctx f caller (Back call user) legal e (λ k. is_allowed (desk job k) call.task.0 ≡ true) (m.pid flag)

  pub back-shallow : (e : items ≡ before ++ Enter call ctx f caller ∷ (mid ++ Back call user ∷ rest)) → has_depth (spec_at job user.0).kind ≡ true
      → (held job call (reverse (before ++ Enter call ctx f caller ∷ mid)) < job.frames)
      × AtSomeCommand before (before ++ Enter call ctx f caller ∷ mid) (λ k. ((desk job k).depth ≡ 0) ⊎ (held job call (reverse (before ++ Enter call ctx f caller ∷ mid)) < (desk job k).depth))
  back-shallow e kind =
      let past = reverse (before ++ Enter call ctx f caller ∷ mid) in
      let m = (at_x job items before mid rest call ctx f caller (Back call user) legal e).refusals in
      (m.room kind, from-now job items before mid rest call ctx f caller (Back call user) legal e (λ k. ((desk job k).depth ≡ 0) ⊎ (held job call past < (desk job k).depth)) (m.level kind))

-- ## returns

module _ (job : Job) (items before mid rest : List Item) (call : CallNo) (ctx : Ctx) (f : FuncNo) (caller to : Option CallNo) (legal : IsLegal job items)
    (e : items ≡ before ++ Enter call ctx f caller ∷ (mid ++ Ret call to ∷ rest)) where
  whole_past : IsLegalPast job (Ret call to ∷ (reverse mid ++ Enter call ctx f caller ∷ reverse before))
  unfolding IsLegalPast
  whole_past = subst (λ past. IsLegalPast job (Ret call to ∷ past)) (past_is job items before mid rest call ctx f caller (Ret call to) legal e)
      (at_x job items before mid rest call ctx f caller (Ret call to) legal e, legal_past job items before mid rest call ctx f caller (Ret call to) legal e)

  -- the call has no return before
  pub ret-once : list_any (is_ret_of call) mid ≡ false
  unfolding IsLegalPast
  ret-once = sym (any-reverse (is_ret_of call) mid) ∙ returns-once job call to (reverse mid) (Enter call ctx f caller ∷ reverse before) whole_past

  -- and reaches the call in which it was entered
  pub true-caller : to ≡ caller
  unfolding IsLegalPast
  true-caller =
      let en = entering job call ctx f caller (reverse before) (entered_here job items before mid rest call ctx f caller (Ret call to) legal e) in
      let now = stands-through job call (calls_on en.run.stack) (reverse mid) (Enter call ctx f caller ∷ reverse before) whole_past.1 (any-reverse (is_ret_of call) mid ∙ ret-once) en.stands in
      returns-to-tail job call (calls_on en.run.stack) to (reverse mid ++ Enter call ctx f caller ∷ reverse before) whole_past now ∙ sym en.caller_is

-- a call that is entered in another returns before it
module _ (job : Job) (items a b c d : List Item) (outer inner : CallNo) (ctx ctx' : Ctx) (f f' : FuncNo) (caller caller' to : Option CallNo) (legal : IsLegal job items)
    (same : inner.task.0 ≡ outer.task.0)
    (e : items ≡ a ++ Enter outer ctx f caller ∷ (b ++ Enter inner ctx' f' caller' ∷ (c ++ Ret outer to ∷ d))) where
  abbrev upto_inner : List Item
  upto_inner = a ++ Enter outer ctx f caller ∷ b

  split : items ≡ upto_inner ++ Enter inner ctx' f' caller' ∷ (c ++ Ret outer to ∷ d)
  split = e ∙ sym (append_assoc a (Enter outer ctx f caller ∷ b) (Enter inner ctx' f' caller' ∷ (c ++ Ret outer to ∷ d)))

  mid_is : items ≡ a ++ Enter outer ctx f caller ∷ ((b ++ Enter inner ctx' f' caller' ∷ c) ++ Ret outer to ∷ d)
  mid_is = e ∙ ap (λ xs. a ++ Enter outer ctx f caller ∷ xs) (sym (append_assoc b (Enter inner ctx' f' caller' ∷ c) (Ret outer to ∷ d)))

  none_of_outer : list_any (is_ret_of outer) (b ++ Enter inner ctx' f' caller' ∷ c) ≡ false
  none_of_outer = ret-once job items a (b ++ Enter inner ctx' f' caller' ∷ c) d outer ctx f caller to legal mid_is

  none_in_b : (xs ys : List Item) → list_any (is_ret_of outer) (xs ++ ys) ≡ false → list_any (is_ret_of outer) xs ≡ false
  none_in_b [] ys h = refl
  none_in_b (x ∷ xs) ys h = by (is_ret_of outer x) refl (λ q. none_in_b xs ys q) h
    where
      by : (t : Bool) → is_ret_of outer x ≡ t → (list_any (is_ret_of outer) (xs ++ ys) ≡ false → list_any (is_ret_of outer) xs ≡ false) → (is_ret_of outer x || list_any (is_ret_of outer) (xs ++ ys)) ≡ false → list_any (is_ret_of outer) (x ∷ xs) ≡ false
      by true q more z = false_true (sym (rw q at z))
      by false q more z = rw (q, more (rw q at z)) refl

  pub inner-returns : list_any (is_ret_of inner) c ≡ true
  unfolding IsLegalPast
  inner-returns =
      let past_inner : reverse upto_inner ≡ reverse b ++ Enter outer ctx f caller ∷ reverse a = split-reverse a (Enter outer ctx f caller) b in
      let legal_inner = legal-to job items upto_inner (Enter inner ctx' f' caller' ∷ (c ++ Ret outer to ∷ d)) legal split in
      let legal_b : IsLegalPast job (reverse b ++ Enter outer ctx f caller ∷ reverse a) = subst (λ past. IsLegalPast job past) past_inner legal_inner in
      let en = entering job outer ctx f caller (reverse a) (entered_here job items a (b ++ Enter inner ctx' f' caller' ∷ c) d outer ctx f caller (Ret outer to) legal mid_is) in
      let over = stands-through job outer (calls_on en.run.stack) (reverse b) (Enter outer ctx f caller ∷ reverse a) legal_b (any-reverse (is_ret_of outer) b ∙ none_in_b b (Enter inner ctx' f' caller' ∷ c) none_of_outer) en.stands in
      let at_inner : IsLegalPast job (Enter inner ctx' f' caller' ∷ reverse upto_inner) = (splits job items upto_inner (Enter inner ctx' f' caller') (c ++ Ret outer to ∷ d) legal split, legal_inner) in
      let inside = entering job inner ctx' f' caller' (reverse upto_inner) at_inner in
      let ret_past : IsLegalPast job (Ret outer to ∷ (reverse c ++ Enter inner ctx' f' caller' ∷ reverse upto_inner)) =
      subst (λ past. IsLegalPast job (Ret outer to ∷ past)) (split-reverse upto_inner (Enter inner ctx' f' caller') c)
      (later_at job items upto_inner c d (Enter inner ctx' f' caller') (Ret outer to) legal split, legal-to job items (upto_inner ++ Enter inner ctx' f' caller' ∷ c) (Ret outer to ∷ d) legal (split ∙ sym (append_assoc upto_inner (Enter inner ctx' f' caller' ∷ c) (Ret outer to ∷ d)))) in
      let run_same : inside.run ≡ over.run = some_inj inside.run over.run
      (sym (subst (λ t. plain job t (reverse upto_inner) ≡ Some inside.run) same inside.run_is) ∙ subst (λ past. plain job outer.task.0 past ≡ Some over.run) (sym past_inner) over.is) in
      let tail_is : calls_on inside.run.stack ≡ over.upper ++ outer ∷ calls_on en.run.stack = ap (λ (p : PlainTask). calls_on p.stack) run_same ∙ over.stack in
      sym (any-reverse (is_ret_of inner) c)
      ∙ inner-first job outer inner (calls_on en.run.stack) same to (reverse c) (Enter inner ctx' f' caller' ∷ reverse upto_inner) ret_past over.upper (subst (λ t. Stands job inner t (Enter inner ctx' f' caller' ∷ reverse upto_inner)) tail_is inside.stands)
