-- If a task is on its plain run, its items can be completed to those of a run of the grammar.
use Rattle.std.proofs.Common.{cond, ◌≡◌, ℕ, suc, Bool, true, false, List, [], ◌∷◌, ◌++◌, Option, Some, None, refl, sym, ap, ◌∙◌, subst, arith, nat_le, eqb-true, leb-true, append_assoc, reverse, inl, inr}
use Rattle.std.specs.Prelude.{IsSome}
use Rattle.ft_base.specs.declared.number.CallNo.{CallNo}
use Rattle.ft_base.specs.declared.number.FuncNo.{FuncNo}
use Rattle.ft_base.specs.declared.number.UserNo.{UserNo}
use Rattle.ft_base.specs.declared.context.Ctx.{Ctx}
use Rattle.ft_base.specs.declared.context.Ctx.TheVariants.{Normal, Softirq, Irq, Nmi}
use Rattle.ft_base.specs.declared.item.Item.{Item}
use Rattle.ft_base.specs.declared.item.Item.TheVariants.{Enter, Back, Leave, Exit, Ret}
use Rattle.ft_base.specs.declared.task.TaskAct.{TaskAct}
use Rattle.ft_base.specs.declared.task.TaskAct.TheVariants.{Call, Ret as RetAct, Raise, Lower, After}
use Rattle.ft_base.specs.declared.user.Act.{Act}
use Rattle.ft_base.specs.declared.user.Act.TheVariants.{CallIn, IrqIn}
use Rattle.ft_base.specs.Same.{context}
use Rattle.ft_base.specs.Job.{Job}
use Rattle.ft_base.specs.Desk.{spec_at}
use Rattle.ft_base.proofs.Small.{false_true}
use Rattle.ft_hist.specs.Past.{done, is_of}
use Rattle.ft_hist.specs.Plain.{plain, PlainTask, Frame, Phase, Owed, InBack, in_phase, ahead, owed_by, below_top, top_call}
use Rattle.ft_hist.specs.Rules.{IsLegal}
use Rattle.ft_hist.proofs.Numbers.{some-run}
use Rattle.ft_hist.proofs.Nesting.{top-of-frames}
use Rattle.ft_hist.proofs.RunLaws.{calls_on}
use Rattle.ft_hist.proofs.Steps.{Step, step_begin, step_return, step_enter, step_act, step_back, step_back_end, step_refuse, step_miss, step_body, step_leave, step_act_leave, step_exit, step_exit_end, step_ret, IsQuiet, acts_ahead, run-holds}
use Rattle.history_laws.specs.Grammar.{Stamped, at, items_of, top_of, call_in, Exits, no_exit, one_exit, Return, returns, no_try, one_try, refused, called, missed, ActOf, no_act, no_interrupt, by_call, by_interrupt, Dispatch, dispatch, Run, call, ret, raise, lower, after, IsRunOf}
use Rattle.history_laws.proofs.Rest.{ToBody, ToRet, ToExitEnd, Owing, ToBackEnd, InCallback, InBody, InPhase, RestOf, ends}

-- below a scripted call the stack is quiet
abbrev pub IsSettled : List Frame → Type 0
IsSettled [] = Unit {0}
IsSettled (f ∷ below) = (f.scripted ≡ true → IsQuiet below) × IsSettled below

module _ (job : Job) (t : ℕ) where
  -- what is to come for a task
  abbrev pub Rest : PlainTask → List Stamped → Type 0
  Rest s items = RestOf job t s.acts s.contexts s.stack s.next items

  act-made : (c : CallNo) (x : Ctx) (a : Option Act) (n n' : ℕ) (items rest : List Stamped) → Owing job t c (owed_by x a) n items n' rest → ActOf job t c x a n items n' rest
  act-made c x a n n' items rest o = by x a o
    where
      nothing : (x : Ctx) (a : Option Act) → ((n : ℕ) (rest : List Stamped) → ActOf job t c x a n rest n rest) → (n ≡ n') × (items ≡ rest) → ActOf job t c x a n items n' rest
      nothing x a f e = subst (λ (m : ℕ). ActOf job t c x a n items m rest) e.0 (subst (λ (r : List Stamped). ActOf job t c x a n items n r) e.1 (f n items))

      by : (x : Ctx) (a : Option Act) → Owing job t c (owed_by x a) n items n' rest → ActOf job t c x a n items n' rest
      by x None o = nothing x None (λ m r. no_act) o
      by x (Some (CallIn f)) o = by_call o.1 o.2
      by Normal (Some (IrqIn f)) o = by_interrupt (omega arith) o.1 o.2
      by Softirq (Some (IrqIn f)) o = by_interrupt (omega arith) o.1 o.2
      by Irq (Some (IrqIn f)) o = nothing Irq (Some (IrqIn f)) (λ m r. no_interrupt (omega arith)) o
      by Nmi (Some (IrqIn f)) o = nothing Nmi (Some (IrqIn f)) (λ m r. no_interrupt (omega arith)) o

  -- over a quiet stack a run of the acts is to come
  quiet-run : (acts : List TaskAct) (cs : List Ctx) (fs : List Frame) (n : ℕ) (items : List Stamped) → IsQuiet fs → RestOf job t acts cs fs n items → Run job t acts cs (calls_on fs) n items
  quiet-run acts cs [] n items q h = h
  quiet-run acts cs (f ∷ below) n items q h =
      let later : ℕ → List Stamped → Type 0 = λ m rest. RestOf job t acts cs below m rest in
      subst (λ (b : Bool). InBody job t b acts cs f.call below later n items) q.0
      (subst (λ (p : Phase). InPhase job t p acts cs f below later n items) q.1 h)

  quiet-rest : (acts : List TaskAct) (cs : List Ctx) (fs : List Frame) (n : ℕ) (items : List Stamped) → IsQuiet fs → Run job t acts cs (calls_on fs) n items → RestOf job t acts cs fs n items
  quiet-rest acts cs [] n items q h = h
  quiet-rest acts cs (f ∷ below) n items q h =
      let later : ℕ → List Stamped → Type 0 = λ m rest. RestOf job t acts cs below m rest in
      subst (λ (p : Phase). InPhase job t p acts cs f below later n items) (sym q.1)
      (subst (λ (b : Bool). InBody job t b acts cs f.call below later n items) (sym q.0) h)

  -- acts without items go before a run
  ahead-run : (x : Stamped) (rest : List Stamped) (stack : List CallNo) (n : ℕ) (acts : List TaskAct) (cs : List Ctx) (gone : ℕ)
      → Run job t (ahead x.returned acts cs gone).acts (ahead x.returned acts cs gone).contexts stack n (x ∷ rest) → Run job t acts cs stack n (x ∷ rest)
  ahead-run x rest stack n [] cs gone h = h
  ahead-run x rest stack n (Call f ∷ acts) cs gone h = h
  ahead-run x rest stack n (RetAct ∷ acts) cs gone h = h
  ahead-run x rest stack n (Raise c ∷ acts) cs gone h = raise (ahead-run x rest stack n acts (c ∷ cs) (suc gone) h)
  ahead-run x rest stack n (Lower ∷ acts) cs gone h = lower (ahead-run x rest stack n acts (below_top cs) (suc gone) h)
  ahead-run x rest stack n (After m ∷ acts) cs gone h = by (nat_le m x.returned) refl h (ahead-run x rest stack n acts cs (suc gone))
    where
      by : (b : Bool) → nat_le m x.returned ≡ b
          → Run job t (cond b (ahead x.returned acts cs (suc gone)) (record { acts = After m ∷ acts; contexts = cs; gone = gone })).acts (cond b (ahead x.returned acts cs (suc gone)) (record { acts = After m ∷ acts; contexts = cs; gone = gone })).contexts stack n (x ∷ rest)
          → (Run job t (ahead x.returned acts cs (suc gone)).acts (ahead x.returned acts cs (suc gone)).contexts stack n (x ∷ rest) → Run job t acts cs stack n (x ∷ rest))
          → Run job t (After m ∷ acts) cs stack n (x ∷ rest)
      by true e h more = after (leb-true m x.returned e) (more h)
      by false e h more = h

  module _ (k n : ℕ) where
    -- a callback may go on in either way
    in-callback : (fresh : Bool) (c : CallNo) (x : Ctx) (u : ℕ) (o : Option Owed) (later : ℕ → List Stamped → Type 0) (items : List Stamped) → ToBackEnd job t c x u o later n items → InCallback job t fresh c x u o later n items
    in-callback true c x u o later items b = inr b
    in-callback false c x u o later items b = b

    -- a Back before the rest of its callback is a try of its user
    back-made : (c : CallNo) (x : Ctx) (u : UserNo) (later : ℕ → List Stamped → Type 0) (items : List Stamped) → InCallback job t true c x u.0 (owed_by x (spec_at job u.0).act) later n items
        → ToBody job t c x later n (at k (Back c u) ∷ items)
    back-made c x u later items (inr b) = record {
      next = b.goes_on.next;
      returned = b.goes_on.returned;
      func = b.goes_on.func;
      ran = b.goes_on.ran;
      rest = b.goes_on.rest;
      tries = one_try (called (act-made c x (spec_at job u.0).act n b.next items _ b.act)) b.goes_on.tries;
      goes_on = b.goes_on.goes_on;
    }
    back-made c x u later items (inl m) =
        let b = m.goes_on in
        subst (λ (xs : List Stamped). ToBody job t c x later n (at k (Back c u) ∷ xs)) (sym m.is)
        (record {
          next = b.goes_on.next;
          returned = b.goes_on.returned;
          func = b.goes_on.func;
          ran = b.goes_on.ran;
          rest = b.goes_on.rest;
          tries = one_try (missed (act-made c x (spec_at job u.0).act n b.next m.rest _ b.act)) b.goes_on.tries;
          goes_on = b.goes_on.goes_on;
        })

    exit-made : (c : CallNo) (u : UserNo) (entry : ℕ) (to : Option CallNo) (later : ℕ → List Stamped → Type 0) (items : List Stamped) → ToExitEnd job t c u.0 to later n items
        → ToRet job t c to later n (at k (Exit c u entry) ∷ items)
    exit-made c u entry to later items x =
        subst (λ (xs : List Stamped). ToRet job t c to later n (at k (Exit c u entry) ∷ xs)) (sym x.is)
        (record { returned = x.goes_on.returned; rest = x.goes_on.rest; exits = one_exit x.goes_on.exits; goes_on = x.goes_on.goes_on })

    -- what is to come after a scripted call makes a run with it
    abbrev MakesRun : List TaskAct → List Ctx → List CallNo → CallNo → Ctx → FuncNo → Option CallNo → Type 0
    MakesRun rest xs calls c x f caller =
        (items : List Stamped) → ToBody job t c x (λ m more. Run job t rest xs (c ∷ calls) m more) (suc n) items → Run job t (Call f ∷ rest) xs calls n (at k (Enter c x f caller) ∷ items)

    makes-run : (rest : List TaskAct) (xs : List Ctx) (calls : List CallNo) (c : CallNo) (x : Ctx) (f : FuncNo) (caller : Option CallNo) → call_in t n ≡ c → context xs ≡ x → top_of calls ≡ caller → MakesRun rest xs calls c x f caller
    makes-run rest xs calls c x f caller ec ex eo =
        subst (λ (d : CallNo). MakesRun rest xs calls d x f caller) ec
        (subst (λ (y : Ctx). MakesRun rest xs calls (call_in t n) y f caller) ex
        (subst (λ (o : Option CallNo). MakesRun rest xs calls (call_in t n) (context xs) f o) eo (λ items h. call (dispatch h.tries) h.goes_on)))

    -- what is to come after a call that is owed makes the rest of the callback with it
    abbrev MakesCallback : PlainTask → Frame → List Frame → ℕ → CallNo → Ctx → FuncNo → Type 0
    MakesCallback q g below u c x f =
        (items : List Stamped)
        → ToBody job t c x (InBody job t false q.acts q.contexts c (in_phase g (InBack u None false) ∷ below) (λ m rest. RestOf job t q.acts q.contexts (in_phase g (InBack u None false) ∷ below) m rest)) (suc n) items
        → ToBackEnd job t g.call g.ctx u (Some (record { ctx = x; func = f.0 })) (InBody job t g.scripted q.acts q.contexts g.call below (λ m rest. RestOf job t q.acts q.contexts below m rest)) n (at k (Enter c x f (Some g.call)) ∷ items)

    makes-callback : (q : PlainTask) (g : Frame) (below : List Frame) (u : ℕ) (c : CallNo) (x : Ctx) (f : FuncNo) → call_in t n ≡ c → MakesCallback q g below u c x f
    makes-callback q g below u c x f ec = subst (λ (d : CallNo). MakesCallback q g below u d x f) ec made
      where
        made : MakesCallback q g below u (call_in t n) x f
        made items h =
            let b = h.goes_on.goes_on in
            record {
              next = b.next;
              returned = b.returned;
              rest = b.rest;
              act = (
                h.rest,
                subst (λ (m : ℕ). Dispatch job t (Some g.call) x f n (at k (Enter (call_in t n) x f (Some g.call)) ∷ items) m h.rest) b.act.0 (dispatch h.tries),
                subst (λ (more : List Stamped). Return (call_in t n) (Some g.call) h.rest more) b.act.1 h.goes_on.back,
              );
              goes_on = b.goes_on;
            }

  call-of : (c : CallNo) (n : ℕ) → c.task.0 ≡ t → c.n ≡ n → call_in t n ≡ c
  call-of c n et en = sym (ap (λ (m : ℕ). call_in m c.n) et ∙ ap (λ (m : ℕ). call_in t m) en)

  -- whatever item the task has next, what is to come after it makes what was to come before it
  steps : (k : ℕ) (p s : PlainTask) (item : Item) → is_of t item ≡ true → Step job k p s item → IsSettled p.stack → IsSettled s.stack × ((items : List Stamped) → Rest s items → Rest p (at k item ∷ items))
  steps k p s item own step_begin set = false_true own
  steps k p s item own step_return set = false_true own
  steps k p s item own (step_enter {call = c} {x = x} {f = f} {caller = caller} {rest = rest} it quiet acts is) set =
      let a = acts_ahead k p in
      let e : Stamped = at k (Enter c x f caller) in
      let ec = call-of c p.next (eqb-true c.task.0 t own) it.number in (
        ((λ _. quiet), set),
        λ items h. quiet-rest p.acts p.contexts p.stack p.next (e ∷ items) quiet (ahead-run e items (calls_on p.stack) p.next p.acts p.contexts p.gone
            (subst (λ (xs : List TaskAct). Run job t xs a.contexts (calls_on p.stack) p.next (e ∷ items)) (sym acts)
            (makes-run k p.next rest a.contexts (calls_on p.stack) c x f caller ec is (sym (it.from ∙ top-of-frames p.stack)) items h))),
      )
  steps k p s item own (step_act q g below {u = u} {fresh = fresh} {call = c} {x = x} {f = f} {caller = caller} it) set =
      let ec = call-of c q.next (eqb-true c.task.0 t own) it.number in (
        ((λ no. false_true no), set),
        λ items h. subst (λ (o : Option CallNo). RestOf job t q.acts q.contexts (in_phase g (InBack u (Some (record { ctx = x; func = f.0 })) fresh) ∷ below) q.next (at k (Enter c x f o) ∷ items)) (sym it.from)
            (in-callback k q.next fresh g.call g.ctx u (Some (record { ctx = x; func = f.0 })) _ _ (makes-callback k q.next q g below u c x f ec items h)),
      )
  steps k p s item own (step_back q f below {u = u}) set = (set, λ items h. back-made k q.next f.call f.ctx u _ items h)
  steps k p s item own (step_back_end q f below {u = u} {fresh = fresh}) set =
      (set, λ items h. in-callback k q.next fresh f.call f.ctx u.0 None _ _ (record { next = q.next; returned = k; rest = items; act = (refl, refl); goes_on = h }))
  steps k p s item own (step_refuse q f below) set =
      (set, λ items h. record { next = h.next; returned = h.returned; func = h.func; ran = h.ran; rest = h.rest; tries = one_try refused h.tries; goes_on = h.goes_on })
  steps k p s item own (step_miss q f below) set = (set, λ items h. inl (record { returned = k; rest = items; is = refl; goes_on = h }))
  steps k p s item own (step_body q f below {g = g} {ran = ran}) set = (set, λ items h. record { next = q.next; returned = k; func = g; ran = ran; rest = items; tries = no_try; goes_on = h })
  steps k p s item own (step_leave q f below {rest = rest} acts) set =
      let a = acts_ahead k q in
      let e : Stamped = at k (Leave f.call) in (
        set,
        λ items h. ahead-run e items (f.call ∷ calls_on below) q.next q.acts q.contexts q.gone
            (subst (λ (xs : List TaskAct). Run job t xs a.contexts (f.call ∷ calls_on below) q.next (e ∷ items)) (sym acts)
            (ret (returns (subst (λ (o : Option CallNo). Exits f.call items (at h.returned (Ret f.call o) ∷ h.rest)) (top-of-frames below) h.exits)) (quiet-run rest a.contexts below q.next h.rest (set.0 refl) h.goes_on))),
      )
  steps k p s item own (step_act_leave q f below) set = (set, λ items h. record { rest = h.rest; back = returns h.exits; goes_on = h.goes_on })
  steps k p s item own (step_exit q f below {u = u} {entry = entry}) set = (set, λ items h. exit-made k q.next f.call u entry (top_call below) _ items h)
  steps k p s item own (step_exit_end q f below) set = (set, λ items h. record { returned = k; rest = items; is = refl; goes_on = h })
  steps k p s item own (step_ret q f below) set = (set.1, λ items h. record { returned = k; rest = items; exits = no_exit; goes_on = h })

  -- ## the whole past

  -- what is to come makes a run with the task's items in the past
  pub record Completes (past : List Item) (s : PlainTask) : Type 0 where
    pub settled : IsSettled s.stack
    pub run : (items : List Stamped) → Rest s items → IsRunOf job t (items_of t past ++ items)

  completes : (past : List Item) (s : PlainTask) → plain job t past ≡ Some s → Completes past s
  completes = run-holds job t (λ past s. Completes past s) (record { settled = tt; run = λ items h. h })
      (λ item past p s own here k h.
      let w = steps (done past) p s item own k h.settled in
      record {
        settled = w.0;
        run = λ items rest. rw own (subst (λ (xs : List Stamped). IsRunOf job t xs) (sym (append_assoc (items_of t past) (at (done past) item ∷ []) items)) (h.run (at (done past) item ∷ items) (w.1 items rest)));
      })
      (λ item past s other here h. record { settled = h.settled; run = λ items rest. rw other (h.run items rest) })

  -- so there are items that complete a task's items to those of a run
  pub run-if-plain : (past : List Item) → IsSome (plain job t past) → (more : List Stamped) × IsRunOf job t (items_of t past ++ more)
  run-if-plain past is = of (plain job t past) refl is
    where
      of : (o : Option PlainTask) → plain job t past ≡ o → IsSome o → (more : List Stamped) × IsRunOf job t (items_of t past ++ more)
      of None here y = false_true y
      of (Some s) here y =
          let c = completes past s here in
          let m = ends job t (done past) s.acts s.contexts s.stack s.next in
          (m.0, c.run m.0 m.1)

  -- in a legal history a task is on its plain run
  pub run-if-legal : (items : List Item) → IsLegal job items → (more : List Stamped) × IsRunOf job t (items_of t (reverse items) ++ more)
  unfolding IsLegal
  run-if-legal items legal =
      let r = some-run job t (reverse items) legal in
      run-if-plain (reverse items) (subst (λ (o : Option PlainTask). IsSome o) (sym r.1) refl)
