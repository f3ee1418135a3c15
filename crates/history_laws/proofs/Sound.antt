-- The plain run of a task takes the items of each run of the grammar, one by one.
use Rattle.std.proofs.Common.{cond, ◌≡◌, ℕ, suc, ◌<◌, ◌≤◌, Bool, true, false, ◌&&◌, List, [], ◌∷◌, ◌++◌, Option, Some, None, refl, sym, ap, ◌∙◌, subst, arith, rules, nat_le, nat_lt}
use Rattle.std.specs.Prelude.{IsSome}
use Rattle.ft_base.specs.declared.number.CallNo.{CallNo}
use Rattle.ft_base.specs.declared.number.FuncNo.{FuncNo}
use Rattle.ft_base.specs.declared.context.Ctx.{Ctx}
use Rattle.ft_base.specs.declared.context.Ctx.TheVariants.{Normal, Softirq, Irq, Nmi}
use Rattle.ft_base.specs.declared.item.Item.{Item}
use Rattle.ft_base.specs.declared.item.Item.TheVariants.{Enter, Leave}
use Rattle.ft_base.specs.declared.task.TaskAct.{TaskAct}
use Rattle.ft_base.specs.declared.task.TaskAct.TheVariants.{Call, Ret as RetAct, After}
use Rattle.ft_base.specs.declared.user.Act.{Act}
use Rattle.ft_base.specs.Same.{same_ctx, rank, context}
use Rattle.ft_base.specs.Job.{Job}
use Rattle.ft_base.proofs.Small.{==-refl}
use Rattle.ft_hist.specs.Past.{done, is_of}
use Rattle.ft_hist.specs.Plain.{plain, after_item, after_next, PlainTask, Frame, Phase, Dispatch as InDispatch, InBack, Running, Leaving, owed_by, ahead, Ahead, top_call, same_top, at_start, after_enter, after_enter_ahead, after_leave_ahead}
use Rattle.ft_hist.proofs.Laws.{same_call-refl}
use Rattle.history_laws.specs.Grammar.{Stamped, at, items_of, HasReturned, top_of, call_in, Exits, no_exit, one_exit, Return, returns, Tries, no_try, one_try, Try, refused, called, missed, ActOf, no_act, no_interrupt, by_call, by_interrupt, Dispatch, dispatch, Run, stop, call, ret, raise, lower, after, IsRunOf}

-- the plain run takes these items from here on
abbrev pub Takes : Job → PlainTask → List Stamped → Type 0
Takes job s [] = Unit {0}
Takes job s (x ∷ rest) = (s' : PlainTask) × (after_item job x.returned s x.item ≡ Some s') × Takes job s' rest

-- the place on the plain run after these items, if it takes them
abbrev pub goes : Job → Option PlainTask → List Stamped → Option PlainTask
goes job o [] = o
goes job o (x ∷ rest) = goes job (after_next job x.returned x.item o) rest

goes-snoc : (job : Job) (o : Option PlainTask) (xs : List Stamped) (x : Stamped) → goes job o (xs ++ x ∷ []) ≡ after_next job x.returned x.item (goes job o xs)
goes-snoc job o [] x = refl
goes-snoc job o (y ∷ xs) x = goes-snoc job (after_next job y.returned y.item o) xs x

pub plain-goes : (job : Job) (t : ℕ) (past : List Item) → plain job t past ≡ goes job (Some (at_start job t)) (items_of t past)
unfolding plain
plain-goes job t [] = refl
plain-goes job t (item ∷ past) =
    elim (is_of t item) as (λ b. cond b (after_next job (done past) item (plain job t past)) (plain job t past) ≡ goes job (Some (at_start job t)) (cond b (items_of t past ++ at (done past) item ∷ []) (items_of t past))) [
      | true ↦ ap (λ o. after_next job (done past) item o) (plain-goes job t past) ∙ sym (goes-snoc job (Some (at_start job t)) (items_of t past) (at (done past) item))
      | false ↦ plain-goes job t past
    ]

pub takes-goes : (job : Job) (s : PlainTask) (xs more : List Stamped) → Takes job s (xs ++ more) → IsSome (goes job (Some s) xs)
takes-goes job s [] more h = refl
takes-goes job s (x ∷ xs) more h = subst (λ (o : Option PlainTask). IsSome (goes job o xs)) (sym h.1) (takes-goes job h.0 xs more h.2)

-- a call on the stack
abbrev pub frame : CallNo → Ctx → ℕ → Bool → Phase → Frame
frame c x f scripted p = record { call = c; ctx = x; func = f; scripted = scripted; phase = p }

same_ctx-refl : (x : Ctx) → same_ctx x x ≡ true
same_ctx-refl x = ==-refl (rank x)

same_top-refl : (o : Option CallNo) → same_top o o ≡ true
same_top-refl None = refl
same_top-refl (Some c) = same_call-refl c

le-yes : (m k : ℕ) → m ≤ k → nat_le m k ≡ true
le-yes m k le = search (arith, rules)

-- a test that holds is passed
so : {A : Type 0} {b : Bool} {o : Option A} → b ≡ true → cond b o None ≡ o
so {o = o} e = rw e refl

no-irq : (x : Ctx) → rank Irq ≤ rank x → nat_lt (rank x) (rank Irq) ≡ false
no-irq Normal le = absurd (omega (arith, le))
no-irq Softirq le = absurd (omega (arith, le))
no-irq Irq le = refl
no-irq Nmi le = refl

yes-irq : (x : Ctx) → rank x < rank Irq → nat_lt (rank x) (rank Irq) ≡ true
yes-irq Normal lt = refl
yes-irq Softirq lt = refl
yes-irq Irq lt = absurd (omega (arith, lt))
yes-irq Nmi lt = absurd (omega (arith, lt))

module _ (job : Job) (t : ℕ) where
  -- a task with these calls on its stack
  abbrev pub with_stack : PlainTask → ℕ → List Frame → PlainTask
  with_stack s n fs = record s { next = n; stack = fs }

  -- ## a return
  exits-takes : (s : PlainTask) {c : CallNo} {items rest : List Stamped} → Exits c items rest → (x : Ctx) (f : ℕ) (scripted : Bool) (n : ℕ) (below : List Frame)
      → Takes job (with_stack s n (frame c x f scripted Leaving ∷ below)) rest → Takes job (with_stack s n (frame c x f scripted Leaving ∷ below)) items
  unfolding after_item
  exits-takes s no_exit x f scripted n below h = h
  exits-takes s {c = c} (one_exit {u = u} more) x f scripted n below h =
      (_, so (same_call-refl c), (_, so (same_call-refl c) ∙ so (==-refl u.0), exits-takes s more x f scripted n below h))

  -- a call is left by an item at the head of a list
  abbrev pub Leaves : PlainTask → CallNo → List Stamped → PlainTask → Type 0
  Leaves s c items s' = (k : ℕ) (rest : List Stamped) → items ≡ at k (Leave c) ∷ rest → after_item job k s (Leave c) ≡ Some s'

  return-takes : (s s' : PlainTask) {c : CallNo} {to : Option CallNo} {items rest : List Stamped} → Return c to items rest → (x : Ctx) (f : ℕ) (scripted : Bool) (n : ℕ) (below : List Frame)
      → to ≡ top_call below → Leaves s c items (with_stack s' n (frame c x f scripted Leaving ∷ below))
      → Takes job (with_stack s' n below) rest → Takes job s items
  unfolding after_item
  return-takes s s' {c = c} {to = to} (returns exits) x f scripted n below is leaves h =
      (_, leaves _ _ refl, exits-takes s' exits x f scripted n below (_, so (same_call-refl c) ∙ so (subst (λ (o : Option CallNo). same_top to o ≡ true) is (same_top-refl to)), h))

  -- ## a dispatch

  -- a call is entered by an item at the head of a list
  abbrev pub Enters : PlainTask → CallNo → Ctx → FuncNo → Option CallNo → List Stamped → PlainTask → Type 0
  Enters s c x f caller items s' = (k : ℕ) (rest : List Stamped) → items ≡ at k (Enter c x f caller) ∷ rest → after_item job k s (Enter c x f caller) ≡ Some s'

  mutual
    unfolding after_item

    tries-take : (s : PlainTask) {c : CallNo} {x : Ctx} {n n' : ℕ} {items rest : List Stamped} → Tries job t c x n items n' rest → (f : ℕ) (scripted : Bool) (below : List Frame)
        → Takes job (with_stack s n' (frame c x f scripted InDispatch ∷ below)) rest → Takes job (with_stack s n (frame c x f scripted InDispatch ∷ below)) items
    tries-take s no_try f scripted below h = h
    tries-take s (one_try one more) f scripted below h = try-takes s one f scripted below (tries-take s more f scripted below h)

    try-takes : (s : PlainTask) {c : CallNo} {x : Ctx} {n n' : ℕ} {items rest : List Stamped} → Try job t c x n items n' rest → (f : ℕ) (scripted : Bool) (below : List Frame)
        → Takes job (with_stack s n' (frame c x f scripted InDispatch ∷ below)) rest → Takes job (with_stack s n (frame c x f scripted InDispatch ∷ below)) items
    try-takes s {c = c} refused f scripted below h = (_, so (same_call-refl c), h)
    try-takes s {c = c} (called {u = u} act) f scripted below h =
        (_, so (same_call-refl c), act-takes s act f scripted below u.0 true (λ fresh. (_, so (same_call-refl c) ∙ so (==-refl u.0), h)))
    try-takes s {c = c} (missed {u = u} act) f scripted below h =
        (_, so (same_call-refl c), (_, so (same_call-refl c) ∙ so (==-refl u.0), act-takes s act f scripted below u.0 false (λ fresh. (_, so (same_call-refl c) ∙ so (==-refl u.0), h))))

    act-takes : (s : PlainTask) {c : CallNo} {x : Ctx} {a : Option Act} {n n' : ℕ} {items rest : List Stamped} → ActOf job t c x a n items n' rest → (f : ℕ) (scripted : Bool) (below : List Frame) (u : ℕ) (fresh : Bool)
        → ((fresh' : Bool) → Takes job (with_stack s n' (frame c x f scripted (InBack u None fresh') ∷ below)) rest)
        → Takes job (with_stack s n (frame c x f scripted (InBack u (owed_by x a) fresh) ∷ below)) items
    act-takes s no_act f scripted below u fresh h = h fresh
    act-takes s (no_interrupt {x = x} le) f scripted below u fresh h = rw (no-irq x le) (h fresh)
    act-takes s {c = c} {x = x} (by_call {f = g} {n = n} whole back) f scripted below u fresh h =
        dispatch-takes _ s whole false (frame c x f scripted (InBack u None false) ∷ below)
        (λ k rest is. rw (==-refl n, same_call-refl c, ==-refl g.0, same_ctx-refl x) refl)
        (return-takes _ s back x g.0 false _ (frame c x f scripted (InBack u None false) ∷ below) refl (λ k rest is. so (same_call-refl (call_in t n))) (h false))
    act-takes s {c = c} {x = x} (by_interrupt {f = g} {n = n} lt whole back) f scripted below u fresh h =
        rw (yes-irq x lt)
        (dispatch-takes _ s whole false (frame c x f scripted (InBack u None false) ∷ below)
        (λ k rest is. rw (==-refl n, same_call-refl c, ==-refl g.0) refl)
        (return-takes _ s back Irq g.0 false _ (frame c x f scripted (InBack u None false) ∷ below) refl (λ k rest is. so (same_call-refl (call_in t n))) (h false)))

    dispatch-takes : (s s' : PlainTask) {caller : Option CallNo} {x : Ctx} {f : FuncNo} {n n' : ℕ} {items rest : List Stamped} → Dispatch job t caller x f n items n' rest → (scripted : Bool) (below : List Frame)
        → Enters s (call_in t n) x f caller items (with_stack s' (suc n) (frame (call_in t n) x f.0 scripted InDispatch ∷ below))
        → Takes job (with_stack s' n' (frame (call_in t n) x f.0 scripted Running ∷ below)) rest → Takes job s items
    dispatch-takes s s' {f = f} {n = n} (dispatch tries) scripted below enters h =
        (_, enters _ _ refl, tries-take s' tries f.0 scripted below (_, so (same_call-refl (call_in t n)), h))

  -- ## a run

  -- a scripted call in its body
  pub record Seat : Type 0 where
    pub call : CallNo
    pub ctx : Ctx
    pub func : ℕ

  abbrev pub seated : List Seat → List Frame
  seated [] = []
  seated (f ∷ fs) = frame f.call f.ctx f.func true Running ∷ seated fs

  abbrev pub calls_of : List Seat → List CallNo
  calls_of [] = []
  calls_of (f ∷ fs) = f.call ∷ calls_of fs

  top-seated : (fs : List Seat) → top_of (calls_of fs) ≡ top_call (seated fs)
  top-seated [] = refl
  top-seated (f ∷ fs) = refl

  -- the acts that the task has still to do come to these, once those without items are passed
  abbrev pub ComesTo : PlainTask → List TaskAct → List Ctx → ℕ → List Stamped → Type 0
  ComesTo s acts cs gone items = (x : Stamped) (rest : List Stamped) → items ≡ x ∷ rest → ahead x.returned s.acts s.contexts s.gone ≡ ahead x.returned acts cs gone

  -- the task after an act that gives items
  abbrev pub with_acts : PlainTask → List TaskAct → List Ctx → ℕ → PlainTask
  with_acts s acts cs gone = record s { acts = acts; contexts = cs; gone = gone }

  and-so : {a b : Bool} → a ≡ true → b ≡ true → (a && b) ≡ true
  and-so ea eb = rw (ea, eb) refl

  over-seats : (k : ℕ) (s : PlainTask) (fs : List Seat) (c : CallNo) (x : Ctx) (f : ℕ) → after_enter k s (seated fs) c x f ≡ after_enter_ahead s (ahead k s.acts s.contexts s.gone) c x f
  over-seats k s [] c x f = refl
  over-seats k s (g ∷ fs) c x f = refl

  enters-script : (s : PlainTask) (n : ℕ) (fs : List Seat) (calls : List CallNo) → calls_of fs ≡ calls → (f : FuncNo) (acts : List TaskAct) (cs : List Ctx) (gone : ℕ) (items : List Stamped)
      → ComesTo s (Call f ∷ acts) cs gone items
      → Enters (with_stack s n (seated fs)) (call_in t n) (context cs) f (top_of calls) items
      (with_stack (with_acts s acts cs (suc gone)) (suc n) (frame (call_in t n) (context cs) f.0 true InDispatch ∷ seated fs))
  unfolding after_item
  enters-script s n fs calls same f acts cs gone items comes k rest is =
      so (and-so (==-refl n) (subst (λ (o : Option CallNo). same_top o (top_call (seated fs)) ≡ true) (sym (top-seated fs) ∙ ap top_of same) (same_top-refl (top_call (seated fs)))))
      ∙ over-seats k (with_stack s n (seated fs)) fs (call_in t n) (context cs) f.0
      ∙ ap (λ (a : Ahead). after_enter_ahead (with_stack s n (seated fs)) a (call_in t n) (context cs) f.0) (comes _ rest is)
      ∙ so (and-so (==-refl f.0) (same_ctx-refl (context cs)))

  leaves-script : (s : PlainTask) (n : ℕ) (f : Seat) (fs : List Seat) (acts : List TaskAct) (cs : List Ctx) (gone : ℕ) (items : List Stamped)
      → ComesTo s (RetAct ∷ acts) cs gone items
      → Leaves (with_stack s n (seated (f ∷ fs))) f.call items
      (with_stack (with_acts s acts cs (suc gone)) n (frame f.call f.ctx f.func true Leaving ∷ seated fs))
  unfolding after_item
  leaves-script s n f fs acts cs gone items comes k rest is =
      so (same_call-refl f.call)
      ∙ ap (λ (a : Ahead). after_leave_ahead (with_stack s n (seated (f ∷ fs))) (frame f.call f.ctx f.func true Running) (seated fs) a) (comes _ rest is)

  waits-over : (m k : ℕ) (acts : List TaskAct) (cs : List Ctx) (gone : ℕ) → m ≤ k → ahead k (After m ∷ acts) cs gone ≡ ahead k acts cs (suc gone)
  waits-over m k acts cs gone le = rw (le-yes m k le) refl

  run-takes : {acts : List TaskAct} {cs : List Ctx} {calls : List CallNo} {n : ℕ} {items : List Stamped} → Run job t acts cs calls n items
      → (s : PlainTask) (fs : List Seat) (gone : ℕ) → calls_of fs ≡ calls → ComesTo s acts cs gone items → Takes job (with_stack s n (seated fs)) items
  run-takes stop s fs gone same comes = tt
  run-takes {cs = cs} {calls = calls} {n = n} {items = items} (call {f = f} {acts = acts} whole more) s fs gone same comes =
      dispatch-takes (with_stack s n (seated fs)) (with_acts s acts cs (suc gone)) whole true (seated fs)
      (enters-script s n fs calls same f acts cs gone items comes)
      (run-takes more (with_acts s acts cs (suc gone)) (record { call = call_in t n; ctx = context cs; func = f.0 } ∷ fs) (suc gone) (ap (λ (ds : List CallNo). call_in t n ∷ ds) same) (λ x rest is. refl))
  run-takes (ret back more) s [] gone same comes = absurd cc
  run-takes {cs = cs} {n = n} {items = items} (ret {acts = acts} {c = c} {below = below} {rest = rest} back more) s (f ∷ fs) gone same comes =
      let first : f.call ≡ c = cc in
      let others : calls_of fs ≡ below = cc in
      return-takes (with_stack s n (seated (f ∷ fs))) (with_acts s acts cs (suc gone)) (subst (λ (d : CallNo). Return d (top_of below) items rest) (sym first) back) f.ctx f.func true n (seated fs)
      (sym (ap top_of others) ∙ top-seated fs)
      (leaves-script s n f fs acts cs gone items comes)
      (run-takes more (with_acts s acts cs (suc gone)) fs (suc gone) others (λ x rest is. refl))
  run-takes (raise more) s fs gone same comes = run-takes more s fs (suc gone) same comes
  run-takes (lower more) s fs gone same comes = run-takes more s fs (suc gone) same comes
  run-takes {cs = cs} (after {m = m} {acts = acts} {items = items} waited more) s fs gone same comes =
      run-takes more s fs (suc gone) same
      (λ x rest is. comes x rest is ∙ waits-over m x.returned acts cs gone (subst (λ (ys : List Stamped). HasReturned m ys) is waited))

  -- each beginning of a run's items is on the task's plain run
  pub plain-if-run : (past : List Item) (more : List Stamped) → IsRunOf job t (items_of t past ++ more) → IsSome (plain job t past)
  plain-if-run past more run =
      subst (λ (o : Option PlainTask). IsSome o) (sym (plain-goes job t past))
      (takes-goes job (at_start job t) (items_of t past) more (run-takes run (at_start job t) [] 0 refl (λ x rest is. refl)))
