-- What is still to come of a task's run at a place of its plain run, until its items are those of a run of the grammar.
use Rattle.std.proofs.Common.{◌≡◌, ℕ, suc, ◌⊎◌, Bool, true, false, List, [], ◌∷◌, Option, Some, None, refl, inr}
use Rattle.ft_base.specs.declared.number.CallNo.{CallNo}
use Rattle.ft_base.specs.declared.number.FuncNo.{FuncNo}
use Rattle.ft_base.specs.declared.context.Ctx.{Ctx}
use Rattle.ft_base.specs.declared.item.Ran.{Ran}
use Rattle.ft_base.specs.declared.item.Ran.TheVariants.{Nop}
use Rattle.ft_base.specs.declared.item.Item.TheVariants.{Enter, BackEnd, Miss, Body, Leave, ExitEnd, Ret}
use Rattle.ft_base.specs.declared.task.TaskAct.{TaskAct}
use Rattle.ft_base.specs.Job.{Job}
use Rattle.ft_hist.specs.Plain.{Frame, Phase, Owed, Dispatch as InDispatch, InBack, Running, Leaving, InExit, top_call}
use Rattle.ft_hist.proofs.RunLaws.{calls_on}
use Rattle.history_laws.specs.Grammar.{Stamped, at, call_in, Exits, no_exit, Return, returns, Tries, no_try, Dispatch, dispatch, Run, stop}

module _ (job : Job) (t : ℕ) where
  -- the rest of a dispatch, and what comes after it
  pub record ToBody (c : CallNo) (x : Ctx) (later : ℕ → List Stamped → Type 0) (n : ℕ) (items : List Stamped) : Type 0 where
    pub next : ℕ
    pub returned : ℕ
    pub func : FuncNo
    pub ran : Ran
    pub rest : List Stamped
    pub tries : Tries job t c x n items next (at returned (Body c func ran) ∷ rest)
    pub goes_on : later next rest

  -- the whole return of a call
  pub record ToReturn (c : CallNo) (to : Option CallNo) (later : ℕ → List Stamped → Type 0) (n : ℕ) (items : List Stamped) : Type 0 where
    pub rest : List Stamped
    pub back : Return c to items rest
    pub goes_on : later n rest

  -- the rest of a return
  pub record ToRet (c : CallNo) (to : Option CallNo) (later : ℕ → List Stamped → Type 0) (n : ℕ) (items : List Stamped) : Type 0 where
    pub returned : ℕ
    pub rest : List Stamped
    pub exits : Exits c items (at returned (Ret c to) ∷ rest)
    pub goes_on : later n rest

  -- the end of an exit callback, and the rest of the return
  pub record ToExitEnd (c : CallNo) (u : ℕ) (to : Option CallNo) (later : ℕ → List Stamped → Type 0) (n : ℕ) (items : List Stamped) : Type 0 where
    pub returned : ℕ
    pub rest : List Stamped
    pub is : items ≡ at returned (ExitEnd c (record { 0 = u })) ∷ rest
    pub goes_on : ToRet c to later n rest

  -- the call that an act owes in a callback of a call
  abbrev pub Owing : CallNo → Option Owed → ℕ → List Stamped → ℕ → List Stamped → Type 0
  Owing c None n items n' rest = (n ≡ n') × (items ≡ rest)
  Owing c (Some o) n items n' rest = (between : List Stamped) × Dispatch job t (Some c) o.ctx (record { 0 = o.func }) n items n' between × Return (call_in t n) (Some c) between rest

  -- the rest of an entry callback, and of the dispatch
  pub record ToBackEnd (c : CallNo) (x : Ctx) (u : ℕ) (owed : Option Owed) (later : ℕ → List Stamped → Type 0) (n : ℕ) (items : List Stamped) : Type 0 where
    pub next : ℕ
    pub returned : ℕ
    pub rest : List Stamped
    pub act : Owing c owed n items next (at returned (BackEnd c (record { 0 = u })) ∷ rest)
    pub goes_on : ToBody c x later next rest

  -- the same after a Miss
  pub record ToMiss (c : CallNo) (x : Ctx) (u : ℕ) (owed : Option Owed) (later : ℕ → List Stamped → Type 0) (n : ℕ) (items : List Stamped) : Type 0 where
    pub returned : ℕ
    pub rest : List Stamped
    pub is : items ≡ at returned (Miss c (record { 0 = u })) ∷ rest
    pub goes_on : ToBackEnd c x u owed later n rest

  -- directly after a Back there may be a Miss
  abbrev pub InCallback : Bool → CallNo → Ctx → ℕ → Option Owed → (ℕ → List Stamped → Type 0) → ℕ → List Stamped → Type 0
  InCallback true c x u owed later n items = ToMiss c x u owed later n items ⊎ ToBackEnd c x u owed later n items
  InCallback false c x u owed later n items = ToBackEnd c x u owed later n items

  -- after the Body of a scripted call the run of the acts, and at once the return of another
  abbrev pub InBody : Bool → List TaskAct → List Ctx → CallNo → List Frame → (ℕ → List Stamped → Type 0) → ℕ → List Stamped → Type 0
  InBody true acts cs c below later n items = Run job t acts cs (c ∷ calls_on below) n items
  InBody false acts cs c below later n items = ToReturn c (top_call below) later n items

  -- what is to come with the top call in this phase
  abbrev pub InPhase : Phase → List TaskAct → List Ctx → Frame → List Frame → (ℕ → List Stamped → Type 0) → ℕ → List Stamped → Type 0
  InPhase InDispatch acts cs f below later n items = ToBody f.call f.ctx (InBody f.scripted acts cs f.call below later) n items
  InPhase (InBack u owed fresh) acts cs f below later n items = InCallback fresh f.call f.ctx u owed (InBody f.scripted acts cs f.call below later) n items
  InPhase Running acts cs f below later n items = InBody f.scripted acts cs f.call below later n items
  InPhase Leaving acts cs f below later n items = ToRet f.call (top_call below) later n items
  InPhase (InExit u) acts cs f below later n items = ToExitEnd f.call u (top_call below) later n items

  -- what is to come over a stack
  abbrev pub RestOf : List TaskAct → List Ctx → List Frame → ℕ → List Stamped → Type 0
  RestOf acts cs [] n items = Run job t acts cs [] n items
  RestOf acts cs (f ∷ below) n items = InPhase f.phase acts cs f below (λ m rest. RestOf acts cs below m rest) n items

  -- ## there is always something to come that completes the run: each part that is open ends at once

  module _ (k : ℕ) where
    end-body : (scripted : Bool) (acts : List TaskAct) (cs : List Ctx) (c : CallNo) (below : List Frame) (later : ℕ → List Stamped → Type 0) → ((n : ℕ) → (items : List Stamped) × later n items)
        → (n : ℕ) → (items : List Stamped) × InBody scripted acts cs c below later n items
    end-body true acts cs c below later more n = ([], stop)
    end-body false acts cs c below later more n =
        let m = more n in
        (at k (Leave c) ∷ at k (Ret c (top_call below)) ∷ m.0, record { rest = m.0; back = returns no_exit; goes_on = m.1 })

    end-dispatch : (c : CallNo) (x : Ctx) (later : ℕ → List Stamped → Type 0) → ((n : ℕ) → (items : List Stamped) × later n items) → (n : ℕ) → (items : List Stamped) × ToBody c x later n items
    end-dispatch c x later more n =
        let m = more n in
        (at k (Body c (record { 0 = 0 }) Nop) ∷ m.0, record { next = n; returned = k; func = record { 0 = 0 }; ran = Nop; rest = m.0; tries = no_try; goes_on = m.1 })

    end-callback : (c : CallNo) (x : Ctx) (u : ℕ) (owed : Option Owed) (later : ℕ → List Stamped → Type 0) → ((n : ℕ) → (items : List Stamped) × later n items) → (n : ℕ)
        → (items : List Stamped) × ToBackEnd c x u owed later n items
    end-callback c x u None later more n =
        let m = end-dispatch c x later more n in
        (at k (BackEnd c (record { 0 = u })) ∷ m.0, record { next = n; returned = k; rest = m.0; act = (refl, refl); goes_on = m.1 })
    end-callback c x u (Some o) later more n =
        let m = end-dispatch c x later more (suc n) in
        let d = call_in t n in
        let returning = at k (Leave d) ∷ at k (Ret d (Some c)) ∷ at k (BackEnd c (record { 0 = u })) ∷ m.0 in (
          at k (Enter d o.ctx (record { 0 = o.func }) (Some c)) ∷ at k (Body d (record { 0 = 0 }) Nop) ∷ returning,
          record { next = suc n; returned = k; rest = m.0; act = (returning, dispatch no_try, returns no_exit); goes_on = m.1 },
        )

    end-phase : (p : Phase) (acts : List TaskAct) (cs : List Ctx) (f : Frame) (below : List Frame) (later : ℕ → List Stamped → Type 0) → ((n : ℕ) → (items : List Stamped) × later n items)
        → (n : ℕ) → (items : List Stamped) × InPhase p acts cs f below later n items
    end-phase InDispatch acts cs f below later more n = end-dispatch f.call f.ctx _ (end-body f.scripted acts cs f.call below later more) n
    end-phase (InBack u owed true) acts cs f below later more n =
        let m = end-callback f.call f.ctx u owed (InBody f.scripted acts cs f.call below later) (end-body f.scripted acts cs f.call below later more) n in (m.0, inr m.1)
    end-phase (InBack u owed false) acts cs f below later more n = end-callback f.call f.ctx u owed _ (end-body f.scripted acts cs f.call below later more) n
    end-phase Running acts cs f below later more n = end-body f.scripted acts cs f.call below later more n
    end-phase Leaving acts cs f below later more n =
        let m = more n in (at k (Ret f.call (top_call below)) ∷ m.0, record { returned = k; rest = m.0; exits = no_exit; goes_on = m.1 })
    end-phase (InExit u) acts cs f below later more n =
        let m = more n in
        let returning = at k (Ret f.call (top_call below)) ∷ m.0 in
        (at k (ExitEnd f.call (record { 0 = u })) ∷ returning, record { returned = k; rest = returning; is = refl; goes_on = record { returned = k; rest = m.0; exits = no_exit; goes_on = m.1 } })

    pub ends : (acts : List TaskAct) (cs : List Ctx) (stack : List Frame) (n : ℕ) → (items : List Stamped) × RestOf acts cs stack n items
    ends acts cs [] n = ([], stop)
    ends acts cs (f ∷ below) n = end-phase f.phase acts cs f below (λ m rest. RestOf acts cs below m rest) (λ m. ends acts cs below m) n
