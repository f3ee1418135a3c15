-- Each item of a legal history has numbers that the job has: tasks, functions and users of the job, and counts that are no longer than the
-- history, and so have 32 bits. A task's plain run tells it of its calls, and the rules of items and the desk of the rest.
use Rattle.std.proofs.Common.{cond, ◌≡◌, ℕ, zero, suc, ◌+◌, ◌<◌, ◌≤◌, ◌^◌, ◌&&◌, ◌||◌, not, Bool, true, false, List, [], ◌∷◌, length, reverse, Option, Some, None, is_some, refl, sym, subst, inl, inr, arith, if◌then◌else◌}
use Rattle.std.specs.Prelude.{IfSome, Contains}
use Rattle.std.specs.List.{AllByRecursion as Each, filter}
use Rattle.std.proofs.lemmas.List.{reverse-reverse, length-reverse}
use Rattle.std.proofs.lemmas.List.Elements.{All-from_recursion}
use Rattle.ft_base.specs.declared.number.CallNo.{CallNo}
use Rattle.ft_base.specs.declared.number.FuncNo.{FuncNo}
use Rattle.ft_base.specs.declared.context.Ctx.{Ctx}
use Rattle.ft_base.specs.declared.item.Answer.{Answer}
use Rattle.ft_base.specs.declared.item.Answer.TheVariants.{Accepted, Already, NotThere, Invalid, NoMatch}
use Rattle.ft_base.specs.declared.item.Ran.TheVariants.{List as ByList, Own}
use Rattle.ft_base.specs.declared.item.Item.{Item}
use Rattle.ft_base.specs.declared.item.Item.TheVariants.{Begin, Return, Enter, Back, Refuse}
use Rattle.ft_base.specs.Marks.{Marks, is_empty}
use Rattle.ft_base.specs.Same.{same_call}
use Rattle.ft_base.specs.Job.{Job, Spec, Edit, Command, Register, Unregister, Filter, Notrace, Enable, Disable, funcs}
use Rattle.ft_base.specs.Desk.{Desk, UserState, plain_spec, spec_at, user_at, desk, sited, sited_from, is_matching, is_on, is_live, target, target_by, lowest, other_modifier, busy_or, claim, edited, register_answer, edit_answer, switch_answer, answer_on}
use Rattle.ft_base.proofs.Modifiers.{conflicts, holder_at}
use Rattle.ft_base.specs.Kinds.{is_fprobe}
use Rattle.ft_base.specs.WellFormed.{IsWellFormed}
use Rattle.ft_base.proofs.Small.{false_true, and_both, ==-refl, Each-filter, Each-weaker, each-get}
use Rattle.ft_base.proofs.DeskLaws.{length-desk}
use Rattle.ft_hist.specs.Past.{is_of, done, begun, entry_of, Visit, all_visits, visits}
use Rattle.ft_hist.specs.Plain.{Phase, Dispatch, InBack, Running, Leaving, InExit, Frame, PlainTask, top_call, in_phase, on_top, plain}
use Rattle.ft_hist.specs.Rules.{AtReturnedOrBegun, backs_with_replacement, replacement, IsLegalPast, IsLegal}
use Rattle.ft_hist.proofs.RunLaws.{some_inj}
use Rattle.ft_hist.proofs.Steps.{Step, step_begin, step_return, step_enter, step_act, step_back, step_back_end, step_refuse, step_miss, step_body, step_leave, step_act_leave, step_exit, step_exit_end, step_ret, in_body, own-step}
use Rattle.ft_hist.proofs.Named.{EnterNamed, enter-named}
use Rattle.ft_hist.proofs.Numbers.{some-run, unmoved}
use Rattle.ft_hist.proofs.WindowLaws.{few-begun}
use Rattle.word_machine_laws.proofs.DeskNumbers.{registered-inside}
use Rattle.word_machine_laws.proofs.There.{sited-inside}
use Rattle.trace_lines.specs.LogItems.{IsCallOf, IsCallerOf, IsRanOf, IsAnswerOf}
use Rattle.log_reader.specs.Refused.{IsCallShort, IsCallerShort, IsNumbered}
use Rattle.trace_views.proofs.TopCalls.{named}
use Rattle.trace_views.proofs.GraphUsers.{each-turned}

-- the function that a user puts in the place of others, if it does, is one of so many
abbrev pub IsReplacedIn : ℕ → Spec → Type 0
IsReplacedIn size s = IfSome s.ipmodify (λ g. g.0 < size)

-- ## what a desk tells

module _ (job : Job) where
  lowest-below : (p : ℕ → Bool) (from n : ℕ) → IfSome (lowest p from n) (λ x. x < from + n)
  lowest-below p from zero = tt
  lowest-below p from (suc n) = by (p from) (lowest-below p (suc from) n)
    where
      more : (o : Option ℕ) → IfSome o (λ x. x < suc from + n) → IfSome o (λ x. x < from + suc n)
      more None h = tt
      more (Some x) h = omega (arith, h)

      by : (b : Bool) → IfSome (lowest p (suc from) n) (λ x. x < suc from + n) → IfSome (cond b (Some from) (lowest p (suc from) n)) (λ x. x < from + suc n)
      by true h = omega arith
      by false h = more (lowest p (suc from) n) h

  from-zero : (n : ℕ) (o : Option ℕ) → IfSome o (λ x. x < 0 + n) → IfSome o (λ x. x < n)
  from-zero n None h = tt
  from-zero n (Some x) h = omega (arith, h)

  either : (b : Bool) (x y : Answer) → IsAnswerOf job x → IsAnswerOf job y → IsAnswerOf job (cond b x y)
  either true x y h k = h
  either false x y h k = k

  busy-is : (f v : Option ℕ) → IfSome f (λ x. x < funcs job) → IfSome v (λ x. x < length job.users) → IsAnswerOf job (busy_or f v Accepted)
  busy-is None v hf hv = tt
  busy-is (Some f) None hf hv = tt
  busy-is (Some f) (Some v) hf hv = (hf, hv)

  holder-is : (d : Desk) (u : ℕ) (f : Option ℕ) → IfSome (holder_at job d u f) (λ x. x < length job.users)
  holder-is d u None = tt
  holder-is d u (Some f) = from-zero (length job.users) _ (lowest-below (other_modifier job d u f) 0 (length job.users))

  claim-is : (d : Desk) (u : ℕ) (filter notrace : Marks) → IsAnswerOf job (claim job d u filter notrace)
  claim-is d u filter notrace =
      let f = lowest (conflicts job d u filter notrace) 0 (funcs job) in
      busy-is f (holder_at job d u f) (from-zero (funcs job) f (lowest-below (conflicts job d u filter notrace) 0 (funcs job))) (holder-is d u f)

  edit-is : (d : Desk) (u : ℕ) (e : Edit) (filter notrace : Marks) → IsAnswerOf job (edit_answer job d u e filter notrace)
  edit-is d u e filter notrace =
      let binds = (user_at d u).registered && is_some (spec_at job u).ipmodify in
      let selects = e.clear || not (is_empty e.set) in
      let claimed = if binds then claim job d u filter notrace else Accepted in
      either (binds && selects && is_empty filter) Invalid (if not selects then NoMatch else claimed) tt
      (either (not selects) NoMatch claimed tt (either binds (claim job d u filter notrace) Accepted (claim-is d u filter notrace) tt))

  switch-is : (d : Desk) (u : ℕ) → IsAnswerOf job (switch_answer job d u)
  switch-is d u =
      either (not (user_at d u).registered) NotThere (if not (is_fprobe (spec_at job u).kind) then Invalid else Accepted) tt
      (either (not (is_fprobe (spec_at job u).kind)) Invalid Accepted tt tt)

  register-is : (d : Desk) (u : ℕ) → IsAnswerOf job (register_answer job d u)
  register-is d u =
      let s = user_at d u in
      let modifies = is_some (spec_at job u).ipmodify in
      let claimed = if modifies then claim job d u s.filter s.notrace else Accepted in
      let lacks = modifies && (not (spec_at job u).regs || is_empty s.filter) in
      either s.registered Already (if lacks then Invalid else claimed) tt
      (either lacks Invalid claimed tt (either modifies (claim job d u s.filter s.notrace) Accepted (claim-is d u s.filter s.notrace) tt))

  -- an answer names a function and a user of the job
  answer-is : (d : Desk) (c : Command) → IsAnswerOf job (answer_on job d c)
  answer-is d (Register u) = register-is d u
  answer-is d (Unregister u) = either (user_at d u).registered Accepted NotThere tt tt
  answer-is d (Filter u e) = edit-is d u e (edited (funcs job) (user_at d u).filter e) (user_at d u).notrace
  answer-is d (Notrace u e) = edit-is d u e (user_at d u).filter (edited (funcs job) (user_at d u).notrace e)
  answer-is d (Enable u) = switch-is d u
  answer-is d (Disable u) = switch-is d u
  answer-is d _ = tt

  sited-below : (d : Desk) (f base : ℕ) (states : List UserState) → Each (λ u. u < base + length states) (sited_from d f base states)
  sited-below d f base [] = tt
  sited-below d f base (s ∷ rest) = by (s.registered && is_matching s f) (Each-weaker (λ u. u < suc base + length rest) (λ u. u < base + suc (length rest)) _
      (λ u lt. omega (arith, lt)) (sited-below d f (suc base) rest))
    where
      by : (b : Bool) → Each (λ u. u < base + suc (length rest)) (sited_from d f (suc base) rest)
          → Each (λ u. u < base + suc (length rest)) (cond b (base ∷ sited_from d f (suc base) rest) (sited_from d f (suc base) rest))
      by true h = (omega arith, h)
      by false h = h

  by-target : (d : Desk) (n : ℕ) (us : List ℕ) → Each (λ u. u < n) us → n ≤ length job.users → IsRanOf job (target_by d us)
  by-target d n [] h le = tt
  by-target d n (u ∷ []) h le = by (is_some (user_at d u).slot)
    where
      by : (b : Bool) → IsRanOf job (cond b (Own (record { 0 = u })) ByList)
      by true = (let lt = h.0 in omega (arith, lt, le))
      by false = tt
  by-target d n (u ∷ v ∷ rest) h le = tt

  -- a target names a user of the job
  target-is : (k f : ℕ) → IsRanOf job (target (desk job k) f)
  target-is k f =
      let e = length-desk job k in
      by-target (desk job k) (0 + length (desk job k).users) (sited (desk job k) f) (sited-below (desk job k) f 0 (desk job k).users) (omega (arith, e))

-- ## what a past tells

module _ (job : Job) where
  visits-placed : (past : List Item) → Each (λ m. m.place < length past) (all_visits job past)
  unfolding all_visits
  visits-placed [] = tt
  visits-placed (Back c u ∷ past) = (omega arith, older past (visits-placed past))
    where
      older : (past : List Item) → Each (λ m. m.place < length past) (all_visits job past) → Each (λ m. m.place < suc (length past)) (all_visits job past)
      older past h = Each-weaker (λ (m : Visit). m.place < length past) (λ (m : Visit). m.place < suc (length past)) (all_visits job past) (λ m lt. omega (arith, lt)) h
  visits-placed (Refuse c u reason ∷ past) = (omega arith, older past (visits-placed past))
    where
      older : (past : List Item) → Each (λ m. m.place < length past) (all_visits job past) → Each (λ m. m.place < suc (length past)) (all_visits job past)
      older past h = Each-weaker (λ (m : Visit). m.place < length past) (λ (m : Visit). m.place < suc (length past)) (all_visits job past) (λ m lt. omega (arith, lt)) h
  visits-placed (_ ∷ past) =
      Each-weaker (λ (m : Visit). m.place < length past) (λ (m : Visit). m.place < suc (length past)) (all_visits job past) (λ m lt. omega (arith, lt)) (visits-placed past)

  -- the function of a call, as its Enter told it
  entered-func : (call : CallNo) (past : List Item) → 0 < funcs job → Each (IsNumbered job) past → (entry_of call past).func < funcs job
  entered-func call [] some h = some
  entered-func call (Enter c x f caller ∷ past) some h = by (same_call c call) refl (entered-func call past some h.1)
    where
      by : (b : Bool) → same_call c call ≡ b → (entry_of call past).func < funcs job → (entry_of call (Enter c x f caller ∷ past)).func < funcs job
      by true e older = rw e h.0.of_job.1
      by false e older = rw e older
  entered-func call (_ ∷ past) some h = entered-func call past some h.1

  replaced-func : (f : ℕ) (ms : List Visit) → f < funcs job → Each (IsReplacedIn (funcs job)) job.users → replacement job f ms < funcs job
  replaced-func f [] lt h = lt
  replaced-func f (m ∷ ms) lt h = by (spec_at job m.user).ipmodify refl (each-get (IsReplacedIn (funcs job)) job.users m.user plain_spec tt h)
    where
      by : (o : Option FuncNo) → (spec_at job m.user).ipmodify ≡ o → IfSome o (λ g. g.0 < funcs job) → replacement job f (m ∷ ms) < funcs job
      by None e k = rw e lt
      by (Some g) e k = rw e k

  -- a user that is on, or live, is one of the job's
  on-inside : (ok : IsWellFormed job) (past : List Item) (u f : ℕ) → AtReturnedOrBegun past (λ k. is_on (desk job k) u f ≡ true) → u < length job.users
  on-inside ok past u f (inl on) = sited-inside job ok (done past) u f (and_both _ _ on).0
  on-inside ok past u f (inr on) = sited-inside job ok (begun past) u f (and_both _ _ on).0

  live-inside : (past : List Item) (u r : ℕ) → AtReturnedOrBegun past (λ k. is_live (desk job k) u r ≡ true) → u < length job.users
  live-inside past u r (inl on) = registered-inside job (done past) u (and_both _ _ (and_both _ _ on).0).0
  live-inside past u r (inr on) = registered-inside job (begun past) u (and_both _ _ (and_both _ _ on).0).0

  -- an exit tells the place of an item before it
  entry-placed : (past : List Item) (call : CallNo) (m : Visit) → Contains (visits job call past) m → m.place < length past
  entry-placed past call m c =
      let each = Each-filter (λ (v : Visit). v.place < length past) (λ v. same_call v.call call) (all_visits job past) (visits-placed past) in
      subst (λ (v : Visit). v.place < length past) c.2 (All-from_recursion (λ (v : Visit). v.place < length past) (visits job call past) each c.0 m c.1)

-- ## what a task's plain run tells

module _ (job : Job) where
  -- an open callback is of a user of the job
  abbrev PhaseOf : Phase → Type 0
  PhaseOf (InBack u owed fresh) = u < length job.users
  PhaseOf (InExit u) = u < length job.users
  PhaseOf _ = Unit {0}

  -- a call is one of the job's, and its number has 32 bits
  abbrev IsCall : CallNo → Type 0
  IsCall call = IsCallOf job call × IsCallShort call

  abbrev IsCaller : Option CallNo → Type 0
  IsCaller caller = IsCallerOf job caller × IsCallerShort caller

  abbrev FrameOf : Frame → Type 0
  FrameOf t = IsCall t.call × (t.func < funcs job) × PhaseOf t.phase

  -- a task after so many items
  record TaskOf (n : ℕ) (s : PlainTask) : Type 0 where
    pub next : s.next ≤ suc n
    pub stack : Each FrameOf s.stack

  more-items : (n : ℕ) (s : PlainTask) → TaskOf n s → TaskOf (suc n) s
  more-items n s h = record { next = (let k = h.next in omega (arith, k)); stack = h.stack }

  -- the top of a stack is a caller
  top-is : (stack : List Frame) → Each FrameOf stack → IsCaller (top_call stack)
  top-is [] h = (tt, tt)
  top-is (t ∷ below) h = h.0.0

  -- the top call in another phase, after one more item
  turned : (n : ℕ) (p s : PlainTask) (f : Frame) (below : List Frame) (from to : Phase) → s.stack ≡ in_phase f to ∷ below → s.next ≡ p.next → TaskOf n (on_top p (in_phase f from) below) → PhaseOf to → TaskOf (suc n) s
  turned n p s f below from to stack next h phase =
      let k = h.next in
      record { next = omega (arith, next, k); stack = rw stack ((h.stack.0.0, h.stack.0.1, phase), h.stack.1) }

-- ## each item

module _ (job : Job) (ok : IsWellFormed job) (replaced : Each (IsReplacedIn (funcs job)) job.users) where
  -- an item of a task: its call is one of the job's, and the task goes on
  module _ (t n : ℕ) (past : List Item) (items : Each (IsNumbered job) past) (long : n ≡ length past) (short : suc n < 2 ^ 32) where
    call-of : (call : CallNo) (x : Ctx) (f : FuncNo) (caller : Option CallNo) (next : ℕ) → IsLegalPast job (Enter call x f caller ∷ past) → call.n ≡ next → next ≤ suc n → IsCall job call
    call-of call x f caller next l number le =
        ((named job call.task.0 (Enter call x f caller) past (==-refl call.task.0) l, omega (arith, number, le, short)), omega (arith, number, le, short))

    item-of : (p s : PlainTask) (item : Item) → IsLegalPast job (item ∷ past) → is_of t item ≡ true → EnterNamed (funcs job) item → Step job (done past) p s item → TaskOf job n p
        → IsNumbered job item × TaskOf job (suc n) s
    unfolding IsLegalPast
    item-of p s item l own func step_begin h = false_true own
    item-of p s item l own func step_return h = false_true own
    item-of p s item l own func (step_enter {call = call} {x = x} {f = f} {caller = caller} it quiet acts is) h =
        let next = h.next in
        let is_call = call-of call x f caller p.next l it.number next in
        let from = subst (IsCaller job) (sym it.from) (top-is job p.stack h.stack) in
        (record { of_job = (is_call.0, func, from.0); short = (is_call.1, from.1) }, record { next = omega (arith, next); stack = ((is_call, func, tt), h.stack) })
    item-of p s item l own func (step_act q g below {call = call} {x = x} {f = f} {caller = caller} it) h =
        let next = h.next in
        let is_call = call-of call x f caller q.next l it.number next in
        let from = subst (IsCaller job) (sym it.from) h.stack.0.0 in
        (record { of_job = (is_call.0, func, from.0); short = (is_call.1, from.1) }, record { next = omega (arith, next); stack = ((is_call, func, tt), (h.stack.0, h.stack.1)) })
    item-of p s item l own func (step_back q f below {u = u}) h =
        let inside = on-inside job ok past u.0 _ l.0.callbacks.on in
        (record { of_job = (h.stack.0.0.0, inside); short = h.stack.0.0.1 }, turned job n q _ f below Dispatch (InBack u.0 _ true) refl refl h inside)
    item-of p s item l own func (step_back_end q f below {u = u} {fresh = fresh}) h =
        (record { of_job = (h.stack.0.0.0, h.stack.0.2); short = h.stack.0.0.1 }, turned job n q _ f below (InBack u.0 None fresh) Dispatch refl refl h tt)
    item-of p s item l own func (step_refuse q f below {u = u}) h =
        (record { of_job = (h.stack.0.0.0, on-inside job ok past u.0 _ l.0.callbacks.on); short = h.stack.0.0.1 }, turned job n q _ f below Dispatch Dispatch refl refl h tt)
    item-of p s item l own func (step_miss q f below {u = u} {owed = owed}) h =
        (record { of_job = (h.stack.0.0.0, h.stack.0.2); short = h.stack.0.0.1 }, turned job n q _ f below (InBack u.0 owed true) (InBack u.0 owed false) refl refl h h.stack.0.2)
    item-of p s item l own func (step_body q f below) h =
        let inside = h.stack.0.1 in
        let entry = entered-func job f.call past (omega (arith, inside)) items in
        let runs = subst (λ k. k < funcs job) (sym l.0.fetches.runs) (replaced-func job (entry_of f.call past).func (backs_with_replacement job (visits job f.call past)) entry replaced) in
        let fetched = l.0.fetches.fetched in
        let ran = subst (IsRanOf job) (sym fetched.3) (target-is job fetched.0 (entry_of f.call past).func) in
        (record { of_job = (h.stack.0.0.0, runs, ran); short = h.stack.0.0.1 }, turned job n q _ f below Dispatch Running refl refl h tt)
    item-of p s item l own func (step_leave q f below acts) h = (record { of_job = h.stack.0.0.0; short = h.stack.0.0.1 }, turned job n q _ (in_body true f) below Running Leaving refl refl h tt)
    item-of p s item l own func (step_act_leave q f below) h = (record { of_job = h.stack.0.0.0; short = h.stack.0.0.1 }, turned job n q _ (in_body false f) below Running Leaving refl refl h tt)
    item-of p s item l own func (step_exit q f below {u = u}) h =
        let of = l.0.exits.0.of in
        let inside = live-inside job past u.0 of.0.reg of.5 in
        let place = entry-placed job past f.call of.0 of.1 in
        let at' = of.3 in (
          record {
            of_job = (h.stack.0.0.0, inside, omega (arith, place, at', long, short));
            short = (h.stack.0.0.1, omega (arith, place, at', long, short));
          },
          turned job n q _ f below Leaving (InExit u.0) refl refl h inside,
        )
    item-of p s item l own func (step_exit_end q f below {u = u}) h =
        (record { of_job = (h.stack.0.0.0, h.stack.0.2); short = h.stack.0.0.1 }, turned job n q _ f below (InExit u.0) Leaving refl refl h tt)
    item-of p s item l own func (step_ret q f below) h =
        let next = h.next in
        let to = top-is job below h.stack.1 in
        (record { of_job = (h.stack.0.0.0, to.0); short = (h.stack.0.0.1, to.1) }, record { next = omega (arith, next); stack = h.stack.1 })

  -- the items of a past, and where each task is after them
  record PastOf (past : List Item) : Type 0 where
    pub items : Each (IsNumbered job) past
    pub tasks : (t : ℕ) (s : PlainTask) → plain job t past ≡ Some s → TaskOf job (length past) s

  module _ (item : Item) (past : List Item) (l : IsLegalPast job (item ∷ past)) (short : suc (length past) < 2 ^ 32) (h : PastOf past) where
    of-task : (t : ℕ) (s : PlainTask) → is_of t item ≡ true → plain job t (item ∷ past) ≡ Some s → IsNumbered job item × TaskOf job (suc (length past)) s
    of-task t s own e =
        let w = own-step job t item past s own e in
        item-of t (length past) past h.items refl short w.0 s item l own (enter-named job ok past w.0 s t item w.1 w.2) w.2 (h.tasks t w.0 w.1)

    after-item : IsNumbered job item → PastOf (item ∷ past)
    after-item is = record { items = (is, h.items); tasks = λ t s e. by t s e (is_of t item) refl }
      where
        by : (t : ℕ) (s : PlainTask) → plain job t (item ∷ past) ≡ Some s → (b : Bool) → is_of t item ≡ b → TaskOf job (suc (length past)) s
        by t s e true own = (of-task t s own e).1
        by t s e false other = more-items job (length past) s (h.tasks t s (unmoved job t item past s other e))

    by-task : (t : ℕ) → is_of t item ≡ true → PastOf (item ∷ past)
    by-task t own = let r = some-run job t (item ∷ past) l in after-item (of-task t r.0 own r.1).0

  past-of : (past : List Item) → IsLegalPast job past → length past < 2 ^ 32 → PastOf past
  unfolding IsLegalPast plain
  past-of [] l short = record { items = tt; tasks = λ t s e. subst (TaskOf job 0) (some_inj _ s e) (record { next = omega arith; stack = tt }) }
  past-of (Begin k ∷ past) l short =
      let h = past-of past l.1 (omega (arith, short)) in
      let number = l.0.commands.0.number in
      let few = few-begun past in
      after-item (Begin k) past l short h (record { of_job = omega (arith, number, few, short); short = omega (arith, number, few, short) })
  past-of (Return k a ∷ past) l short =
      let h = past-of past l.1 (omega (arith, short)) in
      let number = l.0.commands.number in
      let follows = l.0.commands.follows in
      let few = few-begun past in
      let c = l.0.commands.command in
      let answer = subst (IsAnswerOf job) (sym c.2) (answer-is job (desk job (done past)) c.0) in
      after-item (Return k a) past l short h
      (record { of_job = (omega (arith, number, follows, few, short), answer); short = omega (arith, number, follows, few, short) })
  past-of (item ∷ past) l short = by-task item past l short (past-of past l.1 (omega (arith, short))) _ (==-refl _)

  -- ## in the order of the history

  pub legal-items : (items : List Item) → IsLegal job items → length items < 2 ^ 32 → Each (IsNumbered job) items
  unfolding IsLegal
  legal-items items l short =
      let k = length-reverse items in
      subst (Each (IsNumbered job)) (reverse-reverse items) (each-turned (IsNumbered job) (reverse items) (past-of (reverse items) l (omega (arith, k, short))).items)
