-- The open calls of a task that keeps its invariant are those of its script and those that acts made over them, and there is room for the next one.
use Rattle.std.proofs.Common.{cond, ◌≡◌, ℕ, suc, ◌+◌, ◌*◌, ◌<◌, ◌≤◌, Bool, true, false, List, [], ◌∷◌, length, refl, ap, subst, arith}
use Rattle.ft_base.specs.declared.number.FuncNo.{FuncNo}
use Rattle.ft_base.specs.declared.task.TaskAct.{TaskAct}
use Rattle.ft_base.specs.declared.task.TaskAct.TheVariants.{Call, Ret as RetAct, Raise, Lower, After}
use Rattle.ft_base.specs.Job.{Job}
use Rattle.ft_base.specs.Versions.{levels}
use Rattle.ft_hist.specs.Plain.{Owed}
use Rattle.word_machine.specs.Calls.{under_by, under_call}
use Rattle.word_machine.specs.Task.{OpenCall, TaskState, Moment, First, Acting, is_quiet, user_of}
use Rattle.word_machine.specs.Tasks.{acts_by, is_returning, open_by, scripted_of}
use Rattle.word_machine_laws.proofs.MarkEnter.{open_first}
use Rattle.task_core.specs.TaskInvariant.{CallsInvariant, HasCallRoom, TaskInvariant, StaysWithin, act_calls}
use Rattle.task_core.proofs.CallContexts.{few-act-calls}

-- no more scripted calls are open now than there may be
within : (limit n : ℕ) (acts : List TaskAct) → StaysWithin limit n acts → n ≤ limit
within limit n [] h = h
within limit n (Call f ∷ rest) h = h.0
within limit n (RetAct ∷ rest) h = h.0
within limit n (Raise c ∷ rest) h = within limit n rest h
within limit n (Lower ∷ rest) h = within limit n rest h
within limit n (After m ∷ rest) h = within limit n rest h

module _ (job : Job) where
  -- between acts all open calls are scripted
  all-scripted : (stack : List OpenCall) → CallsInvariant job First stack → length stack ≡ scripted_of stack
  all-scripted [] k = refl
  all-scripted (c ∷ below) k =
      let s : c.scripted ≡ true = k.0.scripted refl in
      let e : length below ≡ scripted_of below = all-scripted below (subst (λ b. CallsInvariant job (under_by b (user_of below)) below) s k.1) in
      rw s (ap suc e)

  counted : (m : Moment) (stack : List OpenCall) → CallsInvariant job m stack → length stack ≡ act_calls stack + scripted_of stack
  counted m [] k = omega arith
  counted m (c ∷ below) k = by c.scripted k.1 (counted (under_call c below) below k.1)
    where
      by : (s : Bool) → CallsInvariant job (under_by s (user_of below)) below
          → length below ≡ act_calls below + scripted_of below
          → suc (length below) ≡ cond s 0 (suc (act_calls below)) + cond s (suc (scripted_of below)) (scripted_of below)
      by true y more = (let e = all-scripted below y in omega (arith, e))
      by false y more = omega (arith, more)

  pub calls-counted : (x : TaskState) → TaskInvariant job x → length x.stack ≡ act_calls x.stack + scripted_of x.stack
  calls-counted x k = counted x.moment x.stack k.calls

  -- between acts no call of an act is open
  pub script-calls : (x : TaskState) → TaskInvariant job x → x.moment ≡ First → length x.stack ≡ scripted_of x.stack
  script-calls x k e = all-scripted x.stack (subst (λ m. CallsInvariant job m x.stack) e k.calls)

  module _ (limit : ℕ) where
    -- there is room for a call of the script
    pub script-call_fits : (x : TaskState) → TaskInvariant job x → HasCallRoom limit x → x.moment ≡ First → (f : FuncNo) (rest : List TaskAct)
        → x.acts ≡ Call f ∷ rest → length x.stack < limit
    script-call_fits x k room at' f rest is =
        let now : StaysWithin limit (open_by false x.stack) (Call f ∷ rest) =
        subst (λ (y : Moment × List TaskAct). StaysWithin limit (open_by (is_returning y.0) x.stack) (acts_by (is_quiet y.0) y.1)) (λ i. (at' i, is i)) room in
        let le : suc (open_by false x.stack) ≤ limit = within limit (suc (open_by false x.stack)) rest now.1 in
        let o = open_first x.stack in
        let e = script-calls x k at' in
        omega (arith, le, o, e)

    -- there is room for a call of an act: as many of them may be open at a time as the guards of two contexts have levels
    pub act-call_fits : (x : TaskState) → TaskInvariant job x → HasCallRoom limit x → (c : OpenCall) (below : List OpenCall) → x.stack ≡ c ∷ below → (u : ℕ)
        (o : Owed) → x.moment ≡ Acting u o → length x.stack < limit + 2 * levels job
    act-call_fits x k room c below st u o at' =
        let now : StaysWithin limit (open_by false x.stack) (acts_by false x.acts) =
        subst (λ m. StaysWithin limit (open_by (is_returning m) x.stack) (acts_by (is_quiet m) x.acts)) at' room in
        let le : open_by false x.stack ≤ limit = within limit (open_by false x.stack) (acts_by false x.acts) now in
        let o = open_first x.stack in
        let e = calls-counted x k in
        let few = few-act-calls job x k c below st (rw at' refl) in
        omega (arith, le, o, e, few)
