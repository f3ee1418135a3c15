-- A task keeps its invariant, and its room for calls, whatever its next operation gives.
use Rattle.std.proofs.Common.{◌≡◌, ℕ, suc, ◌-◌, true, List, [], ◌∷◌, subst, get_or, arith}
use Rattle.std.specs.List.{AllByRecursion as Each}
use Rattle.ft_base.specs.declared.task.TaskAct.{TaskAct}
use Rattle.ft_base.specs.Job.{Job, no_task}
use Rattle.ft_base.specs.WellFormed.{IsActNamed}
use Rattle.ft_base.specs.Tasks.{has_acts}
use Rattle.word_machine.specs.Cpu.{with_word}
use Rattle.word_machine.specs.Laws.{PresentTakes}
use Rattle.word_machine.specs.Task.{OpenCall, TaskState, Moment, Polling, First, Fetch, GotHead, GotBreak, InTramp, OwnSel, AtFirst, TestSel, TestFilter, TestNotrace, AtPids, AtDepth, Refusing, Calling, Missing, Acting, Ending, AtLink, Closing, Leaving, AtExit, Exiting, EndingExit, Returning, begun_act, task_got, task_start}
use Rattle.task_core.specs.TaskInvariant.{HasCallRoom, TaskInvariant, StaysWithin}
use Rattle.task_core.proofs.InvariantParts.{Keeps, Passes, standing}
use Rattle.task_core.proofs.InvariantActs.{begun-keeps, first-row}
use Rattle.task_core.proofs.InvariantLoads.{break-row, depth-row, fetch-row, filter-row, head-row, link-row, list-row, notrace-row, own-row, pids-row, sel-row, tramp-row}
use Rattle.task_core.proofs.InvariantMarks.{act-row, back-end_row, back-row, miss-row, refuse-row}
use Rattle.task_core.proofs.InvariantReturns.{body-row, exit-end_row, exit-row, leave-row, live-row, ret-row}

module _ (job : Job) (named : Each (λ s. IsActNamed job s.act) job.users) (P : ℕ → List TaskAct → Type 0) (passes : Passes P) (t v : ℕ) (x : TaskState) where
  got-row : (m : Moment) (stack : List OpenCall) → Keeps job P (standing x stack m) → PresentTakes job (standing x stack m) m v
      → Keeps job P (task_got job t (standing x stack m) m v)
  got-row First stack k takes = first-row job P passes t v x x.acts stack k
  got-row Polling [] k takes = k
  got-row m [] k takes = k
  got-row Polling (c ∷ below) k takes = k
  got-row Fetch (c ∷ below) k takes = fetch-row job c below P x v k
  got-row (GotHead byte) (c ∷ below) k takes = head-row job c below P x byte v takes k
  got-row GotBreak (c ∷ below) k takes = break-row job c below P x v takes k
  got-row (InTramp s) (c ∷ below) k takes = tramp-row job c below P x s v takes k
  got-row (OwnSel u reg) (c ∷ below) k takes = own-row job c below P x u reg v k
  got-row AtFirst (c ∷ below) k takes = list-row job c below P x v takes k
  got-row (TestSel u) (c ∷ below) k takes = sel-row job c below P x u v k
  got-row (TestFilter u copy reg) (c ∷ below) k takes = filter-row job c below P x u copy reg v k
  got-row (TestNotrace u copy reg) (c ∷ below) k takes = notrace-row job c below P x u copy reg v k
  got-row (AtPids u reg) (c ∷ below) k takes = pids-row job c below P x u reg v k
  got-row (AtDepth u reg) (c ∷ below) k takes = depth-row job c below P x u reg v k
  got-row (Refusing u reg reason) (c ∷ below) k takes = refuse-row job named P x c below u reg reason v k
  got-row (Calling u reg) (c ∷ below) k takes = back-row job named P x c below u reg v k
  got-row (Missing u) (c ∷ below) k takes = miss-row job named P x c below u v k
  got-row (Acting u o) (c ∷ below) k takes = act-row job named P x c below u o v k
  got-row (Ending u) (c ∷ below) k takes = back-end_row job named P x c below u v k
  got-row (AtLink u) (c ∷ below) k takes = link-row job c below P x u v takes k
  got-row Closing (c ∷ below) k takes = body-row job P x c below v k
  got-row Leaving (c ∷ below) k takes = leave-row job P x c below v k
  got-row (AtExit m rest) (c ∷ below) k takes = live-row job P x c below m rest v k
  got-row (Exiting m rest) (c ∷ below) k takes = exit-row job P x c below m rest v k
  got-row (EndingExit m rest) (c ∷ below) k takes = exit-end_row job P x c below m rest v k
  got-row Returning (c ∷ below) k takes = ret-row job P x c below v k

-- nothing is told
abbrev Nothing : ℕ → List TaskAct → Type 0
Nothing n acts = Unit {0}

nothing-passes : Passes Nothing
nothing-passes = record { enters = λ n f rest h. tt; leaves = λ n rest h. tt; raises = λ n c rest h. tt; lowers = λ n rest h. tt; waits = λ n m rest h. tt }

module _ (job : Job) where
  pub invariant-begun : (x : TaskState) → TaskInvariant job x → x.moment ≡ Polling → has_acts x.acts ≡ true → TaskInvariant job (begun_act x x.acts)
  invariant-begun x k e has = (begun-keeps job Nothing nothing-passes x e has (k, tt)).0

  pub invariant-got : Each (λ s. IsActNamed job s.act) job.users → (t v : ℕ) (x : TaskState) → TaskInvariant job x → PresentTakes job x x.moment v
      → TaskInvariant job (task_got job t x x.moment v)
  invariant-got named t v x k takes = (got-row job named Nothing nothing-passes t v x x.moment x.stack (k, tt) takes).0

-- ## room for calls

room-passes : (limit : ℕ) → Passes (StaysWithin limit)
room-passes limit = record {
  enters = λ n f rest h. h.1;
  leaves = λ n rest h. (let e : suc n - 1 ≡ n = omega arith in subst (λ k. StaysWithin limit k rest) e h.1);
  raises = λ n c rest h. h;
  lowers = λ n rest h. h;
  waits = λ n m rest h. h;
}

module _ (job : Job) (limit : ℕ) where
  pub room-start : (t : ℕ) → StaysWithin limit 0 (get_or job.tasks t no_task).acts → HasCallRoom limit (task_start job t)
  room-start t h = h

  pub room-told : (r : ℕ) (x : TaskState) → HasCallRoom limit x → HasCallRoom limit (with_word r x)
  room-told r x h = h

  pub room-begun : (x : TaskState) → TaskInvariant job x → HasCallRoom limit x → x.moment ≡ Polling → has_acts x.acts ≡ true
      → HasCallRoom limit (begun_act x x.acts)
  room-begun x k h e has = (begun-keeps job (StaysWithin limit) (room-passes limit) x e has (k, h)).1

  pub room-got : Each (λ s. IsActNamed job s.act) job.users → (t v : ℕ) (x : TaskState) → TaskInvariant job x → HasCallRoom limit x
      → PresentTakes job x x.moment v → HasCallRoom limit (task_got job t x x.moment v)
  room-got named t v x k h takes = (got-row job named (StaysWithin limit) (room-passes limit) t v x x.moment x.stack (k, h) takes).1
