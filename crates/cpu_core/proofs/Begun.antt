-- A task whose act begins after a poll is the machine's, and stays a task of its job; so it does when its word is told.
use Rattle.std.proofs.Common.{◌≡◌, ℕ, suc, ◌-◌, ◌*◌, true, List, [], ◌∷◌, drop, length, Some, None, refl, sym, ap, ◌∙◌, subst, ltb-true}
use Rattle.std.specs.Prelude.{Option, slice_get}
use Rattle.std.proofs.lemmas.Option.{none-some, slice_get-get_or}
use Rattle.ft_base.specs.declared.context.Ctx.{Ctx}
use Rattle.ft_base.specs.declared.task.TaskAct.{TaskAct}
use Rattle.ft_base.specs.declared.task.TaskAct.TheVariants.{Raise, Lower}
use Rattle.ft_base.specs.Job.{Job}
use Rattle.ft_base.specs.Versions.{levels}
use Rattle.ft_base.specs.Tasks.{has_acts}
use Rattle.ft_hist.specs.Plain.{below_top}
use Rattle.return_stack.specs.Calls.{top_users}
use Rattle.word_machine.specs.Task.{begun_act}
use Rattle.word_machine.specs.Task as machine
use Rattle.task_core.specs.declared.moment.Moment.TheVariants.{Polling}
use Rattle.task_core.specs.declared.task.Task.{Task}
use Rattle.task_core.specs.TaskNeeds.{CanBegin, HasAct}
use Rattle.task_core.specs.Starts.{is_left}
use Rattle.task_core.specs.States.{moment_at, moment_of, stack_of, state_of, users_in}
use Rattle.task_core.specs.TaskInvariant.{HasCallRoom, TaskInvariant, act_raised}
use Rattle.task_core.specs.TaskOps.{present, top}
use Rattle.task_core.specs.TaskSteps.{begun}
use Rattle.task_core.specs.StackInvariant.{IsTaskOf}
use Rattle.task_core.proofs.StackCalls.{present-first}
use Rattle.cpu_core.proofs.OperationNeeds.{can-begin, has-act}
use Rattle.task_core.proofs.FrameRoom.{few-begun}
use Rattle.task_core.proofs.GuardLaw.{guards-begun, polling-raised}
use Rattle.cpu_core.proofs.Lookups.{left-is}
use Rattle.task_core.proofs.InvariantLaw.{room-begun, invariant-begun}
use Rattle.task_core.proofs.TaskNumbers.{IsSameTask, begun-same}
use Rattle.task_core.proofs.StackLaw.{acts-same, frames-same, gone-begun, levels-same, limits-same, moment-begun, nested-same, number-same, stack-begun}

module _ (job : Job) (t : Task) (k : IsTaskOf job t) (e : t.moment ≡ Polling) where
  -- it is before its poll
  pub before : moment_of t ≡ machine.Polling
  before = ap (λ m. moment_at (top t) (users_in (top_users t.stacks.calls)) m) e

  -- no call of an act is open
  bare : act_raised (stack_of t) ≡ []
  bare = polling-raised job t k e

  -- ## the machine's act begins

  -- the contexts of its script are all that it has raised
  raises : (x : Ctx) → drop (length (act_raised (stack_of t))) (x ∷ t.guards.raised) ≡ x ∷ drop (length (act_raised (stack_of t))) t.guards.raised
  raises x = rw bare refl

  -- also once the latest has gone
  lowers : drop (length (act_raised (stack_of t))) (drop 1 t.guards.raised) ≡ below_top (drop (length (act_raised (stack_of t))) t.guards.raised)
  lowers = rw bare (by t.guards.raised)
    where
      by : (cs : List Ctx) → drop 1 cs ≡ below_top cs
      by [] = refl
      by (c ∷ cs) = refl

  -- an act begins as the machine's
  begun-row : (act : TaskAct) → state_of (begun t (Some act)) ≡ begun_act (state_of t) (act ∷ drop (suc t.acts.gone) t.acts.all)
  begun-row (Raise x) = λ i. record {
    next = t.next;
    acts = drop (suc t.acts.gone) t.acts.all;
    gone = suc t.acts.gone;
    contexts = raises x i;
    stack = stack_of t;
    word = t.word;
    moment = sym before i;
  }
  begun-row Lower = λ i. record {
    next = t.next;
    acts = drop (suc t.acts.gone) t.acts.all;
    gone = suc t.acts.gone;
    contexts = lowers i;
    stack = stack_of t;
    word = t.word;
    moment = sym before i;
  }
  begun-row _ = refl

  begun-by : (o : Option TaskAct) → slice_get t.acts.all t.acts.gone ≡ o → is_left t ≡ true → state_of (begun t o) ≡ begun_act (state_of t) (state_of t).acts
  begun-by None is left =
      absurd (none-some _ (sym is ∙ slice_get-get_or t.acts.all t.acts.gone Lower (ltb-true t.acts.gone (length t.acts.all) left)))
  begun-by (Some act) is left = begun-row act ∙ ap (λ acts. begun_act (state_of t) acts) (sym (present-first t.acts.all t.acts.gone act is))

  -- the present act
  pub begun-is : is_left t ≡ true → state_of (begun t (present t)) ≡ begun_act (state_of t) (state_of t).acts
  begun-is left = begun-by (present t) refl left

-- ## it stays a task of the job

-- when its word is told
pub told-of : (job : Job) (t : Task) (w : ℕ) → IsTaskOf job t → (let u : Task = record t { word = w } in IsTaskOf job u)
told-of job t w k = record {
  number = k.number;
  acts = k.acts;
  gone = k.gone;
  frames = k.frames;
  limits = k.limits;
  nested = k.nested;
  levels' = k.levels';
  room = k.room;
  tied = k.tied;
  few = k.few;
  moment = k.moment;
  held = k.held;
  raised = k.raised;
  steady = record {
    script = k.steady.script;
    raised = k.steady.raised;
    stands = k.steady.stands;
    first = k.steady.first;
    ground = k.steady.ground;
    framed = k.steady.framed;
    calls = k.steady.calls;
  };
}

module _ (job : Job) (t : Task) (k : IsTaskOf job t) (e : t.moment ≡ Polling) (left : is_left t ≡ true) where
  -- the machine's task has an act left too
  has : has_acts (state_of t).acts ≡ true
  has = left-is t ∙ left

  same : IsSameTask t (begun t (present t))
  same = begun-same t

  -- it has room for its calls
  begun-room : HasCallRoom ((begun t (present t)).opens.limit - 2 * levels job) (state_of (begun t (present t)))
  begun-room =
      subst (λ n. HasCallRoom (n - 2 * levels job) (state_of (begun t (present t)))) (sym same.opens)
      (subst (λ x. HasCallRoom (t.opens.limit - 2 * levels job) x) (sym (begun-is job t k e left))
      (room-begun job (t.opens.limit - 2 * levels job) (state_of t) k.steady k.room (before job t k e) has))

  -- when its act begins
  pub begun-of : IsTaskOf job (begun t (present t))
  begun-of = record {
    number = number-same job t (begun t (present t)) k same;
    acts = acts-same job t (begun t (present t)) k same;
    gone = gone-begun job t k has;
    frames = frames-same job t (begun t (present t)) k same;
    limits = limits-same job t (begun t (present t)) k same;
    nested = nested-same job t (begun t (present t)) k same;
    levels' = levels-same job t (begun t (present t)) k same;
    room = begun-room;
    tied = stack-begun job t k;
    few = few-begun t k.few;
    moment = moment-begun job t k;
    held = (guards-begun job t k e).held;
    raised = (guards-begun job t k e).raised;
    steady = subst (λ x. TaskInvariant job x) (sym (begun-is job t k e left)) (invariant-begun job (state_of t) k.steady (before job t k e) has);
  }

  -- that act can begin
  pub can-begin_act : HasAct t × CanBegin t (present t)
  can-begin_act = (has-act t has, can-begin job t k e)
