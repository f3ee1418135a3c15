-- A task keeps its invariant before its first act and between acts, and when an act begins or is done.
use Rattle.std.proofs.Common.{cond, ◌≡◌, ℕ, suc, Bool, true, false, not, List, [], ◌∷◌, get_or, nat_le, refl, sym, ◌∙◌, subst, arith}
use Rattle.ft_base.specs.declared.context.Ctx.{Ctx}
use Rattle.ft_base.specs.declared.task.TaskAct.{TaskAct}
use Rattle.ft_base.specs.declared.task.TaskAct.TheVariants.{Call, Ret as RetAct, Raise, Lower, After}
use Rattle.ft_base.specs.Job.{Job, no_task}
use Rattle.ft_base.specs.WellFormed.{IsScript}
use Rattle.ft_base.specs.Acts.{AreRaised}
use Rattle.ft_base.specs.Tasks.{has_acts}
use Rattle.ft_base.proofs.Small.{false_true}
use Rattle.ft_hist.specs.Frames.{FrameUser}
use Rattle.ft_hist.specs.Plain.{below_top}
use Rattle.word_map.specs.Contents.{returned_at}
use Rattle.word_machine.specs.Cpu.{with_word}
use Rattle.word_machine.specs.Task.{OpenCall, TaskState, Moment, Polling, First, at_moment, begun_act, finished, first_got, is_quiet, next_exit, task_start}
use Rattle.word_machine.specs.Tasks.{FirstAt, StandsIn, is_returning, open_by, scripted_of}
use Rattle.word_machine_laws.proofs.MarkEnter.{open_first}
use Rattle.word_machine_laws.proofs.PollWords.{first-loud}
use Rattle.task_core.specs.Framed.{AreFramed}
use Rattle.task_core.specs.TaskInvariant.{CallsInvariant, TaskInvariant, is_acted, is_dispatching}
use Rattle.task_core.proofs.InvariantParts.{Asks, Keeps, Passes, ToCome, call-goes, in-return, told-stays}

-- ## between acts

module _ (job : Job) where
  -- a poll changes nothing of the open calls
  pub quiet-calls : (m m' : Moment) → is_quiet m ≡ true → is_quiet m' ≡ true → (stack : List OpenCall) → CallsInvariant job m stack → CallsInvariant job m' stack
  quiet-calls m m' q q' [] k = tt
  quiet-calls m Polling q q' (c ∷ below) k = (
    call-goes job c below m Polling c.ran c.runs c.framed c.users (λ e. k.0.scripted q) k.0.users
        (record { names = tt; acted = λ e. false_true e; free = λ e. false_true e; found = tt }) k.0,
    k.1,
  )
  quiet-calls m First q q' (c ∷ below) k = (
    call-goes job c below m First c.ran c.runs c.framed c.users (λ e. k.0.scripted q) k.0.users
        (record { names = tt; acted = λ e. false_true e; free = λ e. false_true e; found = tt }) k.0,
    k.1,
  )
  quiet-calls m _ q q' (c ∷ below) k = false_true q'

  -- no call of an act is open between acts
  none-acted : {A : Type 0} (m : Moment) (stack : List OpenCall) → is_quiet m ≡ true → CallsInvariant job m stack → is_acted stack ≡ true → A
  none-acted m [] q k e = false_true e
  none-acted m (c ∷ below) q k e = let s : not c.scripted ≡ false = (rw (k.0.scripted q) refl) in false_true (sym s ∙ e)

  module _ (P : ℕ → List TaskAct → Type 0) (x : TaskState) where
    -- a task between acts
    pub quiet-keeps : (m : Moment) → is_quiet m ≡ true → FirstAt m x.acts → IsScript job (open_by false x.stack) x.acts → AreRaised x.contexts x.acts
        → AreFramed job.frames x.stack → CallsInvariant job m x.stack → P (open_by false x.stack) x.acts → Keeps job P (at_moment x m)
    quiet-keeps Polling q fi sc ra fr calls told =
        (record { script = sc; raised = ra; stands = tt; first = tt; ground = none-acted Polling x.stack refl calls; framed = fr; calls = calls }, told)
    quiet-keeps First q fi sc ra fr calls told =
        (record { script = sc; raised = ra; stands = tt; first = fi; ground = none-acted First x.stack refl calls; framed = fr; calls = calls }, told)
    quiet-keeps _ q fi sc ra fr calls told = false_true q

-- a task before its first act
pub invariant-start : (job : Job) (t : ℕ) → IsScript job 0 (get_or job.tasks t no_task).acts → AreRaised [] (get_or job.tasks t no_task).acts
    → TaskInvariant job (task_start job t)
invariant-start job t script raised =
    record { script = script; raised = raised; stands = tt; first = tt; ground = λ e. false_true e; framed = record { bare = tt; few = omega arith }; calls = tt }

-- what a task has told is none of its acts and calls
pub invariant-told : (job : Job) (r : ℕ) (x : TaskState) → TaskInvariant job x → TaskInvariant job (with_word r x)
invariant-told job r x k = record {
  script = k.script;
  raised = k.raised;
  stands = k.stands;
  first = k.first;
  ground = k.ground;
  framed = k.framed;
  calls = k.calls;
}

-- ## an act begins

lowered : (cs : List Ctx) (rest : List TaskAct) → AreRaised cs (Lower ∷ rest) → AreRaised (below_top cs) rest
lowered [] rest h = absurd h
lowered (c ∷ cs) rest h = h

module _ (job : Job) (P : ℕ → List TaskAct → Type 0) (passes : Passes P) where
  -- a task with these acts, between acts
  abbrev quiet : TaskState → List TaskAct → TaskState
  quiet x acts = record x { acts = acts; moment = Polling }

  begun-row : (x : TaskState) (acts : List TaskAct) → has_acts acts ≡ true → Keeps job P (quiet x acts) → Keeps job P (begun_act (quiet x acts) acts)
  begun-row x [] has k = false_true has
  begun-row x (Raise c ∷ rest) has (k, told) =
      quiet-keeps job P (record x { acts = rest; gone = suc x.gone; contexts = c ∷ x.contexts }) Polling refl tt k.script k.raised.1 k.framed k.calls
      (passes.raises _ c rest told)
  begun-row x (Lower ∷ rest) has (k, told) =
      quiet-keeps job P (record x { acts = rest; gone = suc x.gone; contexts = below_top x.contexts }) Polling refl tt k.script
      (lowered x.contexts rest k.raised) k.framed k.calls (passes.lowers _ rest told)
  begun-row x (Call f ∷ rest) has (k, told) =
      quiet-keeps job P (quiet x (Call f ∷ rest)) First refl tt k.script k.raised k.framed (quiet-calls job Polling First refl refl x.stack k.calls) told
  begun-row x (RetAct ∷ rest) has (k, told) =
      quiet-keeps job P (quiet x (RetAct ∷ rest)) First refl tt k.script k.raised k.framed (quiet-calls job Polling First refl refl x.stack k.calls) told
  begun-row x (After n ∷ rest) has (k, told) =
      quiet-keeps job P (quiet x (After n ∷ rest)) First refl tt k.script k.raised k.framed (quiet-calls job Polling First refl refl x.stack k.calls) told

  pub begun-keeps : (x : TaskState) → x.moment ≡ Polling → has_acts x.acts ≡ true → Keeps job P x → Keeps job P (begun_act x x.acts)
  begun-keeps x e has k =
      subst (λ m. Keeps job P (at_moment x m) → Keeps job P (begun_act (at_moment x m) x.acts)) (sym e) (λ y. begun-row x x.acts has y) k

-- ## the first operation of an act

-- after a Leave the next exit of the frame, or the Ret
pub exit-returns : (users : List FrameUser) → is_returning (next_exit users) ≡ true
exit-returns [] = refl
exit-returns (m ∷ rest) = refl

module _ (job : Job) (P : ℕ → List TaskAct → Type 0) (passes : Passes P) (t v : ℕ) (x : TaskState) where
  -- a task with these acts and calls, at the first operation of its act
  abbrev first : List TaskAct → List OpenCall → TaskState
  first acts stack = record x { acts = acts; stack = stack; moment = First }

  entered : (f : _) (rest : List TaskAct) (stack : List OpenCall) → Keeps job P (first (Call f ∷ rest) stack)
      → Keeps job P (first_got t (first (Call f ∷ rest) stack) (Call f ∷ rest) stack v)
  entered f rest stack (k, told) = (
    record {
      script = subst (λ n. IsScript job (suc n) rest) (open_first stack) k.script.1;
      raised = k.raised;
      stands = (refl, refl);
      first = tt;
      ground = λ e. refl;
      framed = record { bare = (λ e. refl, k.framed.bare); few = k.framed.few };
      calls = (
        record { func = k.script.0; users = tt; names = tt; scripted = λ e. refl; acted = λ e. false_true e; called = tt; free = λ e. false_true e; found = tt },
        k.calls,
      );
    },
    subst (λ n. P (suc n) rest) (open_first stack) (passes.enters _ f rest told),
  )

  left : (rest : List TaskAct) (c : OpenCall) (below : List OpenCall) → Keeps job P (first (RetAct ∷ rest) (c ∷ below))
      → Keeps job P (at_moment (first (RetAct ∷ rest) (c ∷ below)) (next_exit c.users))
  left rest c below (k, told) = (
    record {
      script = goes (λ n acts. IsScript job n acts) (rw scripted at k.script);
      raised = goes (λ n acts. AreRaised x.contexts acts) k.raised;
      stands = subst (λ b. StandsIn b (RetAct ∷ rest) (c ∷ below)) (sym back.0) (refl, refl);
      first = first-loud (next_exit c.users) (RetAct ∷ rest) back.0;
      ground = λ e. false_true (sym (rw (back.1, scripted) refl) ∙ e);
      framed = k.framed;
      calls = (
        call-goes job c below First (next_exit c.users) c.ran c.runs c.framed c.users (λ e. scripted) k.calls.0.users back.2 k.calls.0,
        k.calls.1,
      );
    },
    goes P (passes.leaves _ rest (rw scripted at told)),
  )
    where
      back : (is_quiet (next_exit c.users) ≡ false) × (is_dispatching (next_exit c.users) ≡ false) × Asks job c below (next_exit c.users)
      back = in-return job c below (next_exit c.users) (exit-returns c.users)

      scripted : c.scripted ≡ true
      scripted = k.calls.0.scripted refl

      opened' : open_by (is_returning (next_exit c.users)) (c ∷ below) ≡ scripted_of below
      opened' = rw (exit-returns c.users, scripted) refl

      goes : (Q : ℕ → List TaskAct → Type 0) → Q (scripted_of below) rest → ToCome Q (at_moment (first (RetAct ∷ rest) (c ∷ below)) (next_exit c.users))
      goes Q h = told-stays Q false (is_quiet (next_exit c.users)) _ _ (RetAct ∷ rest) refl back.0 opened' h

  pub first-row : (acts : List TaskAct) (stack : List OpenCall) → Keeps job P (first acts stack) → Keeps job P (first_got t (first acts stack) acts stack v)
  first-row [] stack k = k
  first-row (Call f ∷ rest) stack k = entered f rest stack k
  first-row (RetAct ∷ rest) [] k = k
  first-row (RetAct ∷ rest) (c ∷ below) k = left rest c below k
  first-row (Raise c ∷ rest) stack k = k
  first-row (Lower ∷ rest) stack k = k
  first-row (After n ∷ rest) stack (k, told) = by (nat_le n (returned_at v))
    where
      calls : CallsInvariant job Polling stack
      calls = quiet-calls job First Polling refl refl stack k.calls

      by : (b : Bool) → Keeps job P (cond b (finished (first (After n ∷ rest) stack) stack) (at_moment (first (After n ∷ rest) stack) Polling))
      by true = quiet-keeps job P (finished (first (After n ∷ rest) stack) stack) Polling refl tt k.script k.raised k.framed calls (passes.waits _ n rest told)
      by false = quiet-keeps job P (first (After n ∷ rest) stack) Polling refl tt k.script k.raised k.framed calls told
