-- A task keeps its invariant over the end of a dispatch and over a return.
use Rattle.std.proofs.Common.{cond, ◌≡◌, ℕ, suc, ◌≤◌, Bool, true, false, not, List, [], ◌∷◌, refl, sym, ◌∙◌, subst, arith}
use Rattle.ft_base.specs.declared.task.TaskAct.{TaskAct}
use Rattle.ft_base.specs.Job.{Job}
use Rattle.ft_base.specs.WellFormed.{IsScript}
use Rattle.ft_base.proofs.Small.{false_true}
use Rattle.ft_hist.specs.Frames.{FrameUser, is_nil}
use Rattle.word_map.specs.Contents.{stands}
use Rattle.word_machine.specs.Calls.{under_by}
use Rattle.word_machine.specs.Task.{OpenCall, TaskState, Moment, Polling, First, Ending, Closing, Leaving, AtExit, Exiting, EndingExit, Returning, call_got, exit_in, finished, level_of, next_exit, rest_acts, user_of, with_top}
use Rattle.word_machine.specs.Tasks.{is_returning, open_by}
use Rattle.word_machine_laws.proofs.MarkEnter.{open_first}
use Rattle.task_core.specs.Framed.{AreFramed}
use Rattle.task_core.specs.TaskInvariant.{CallsInvariant, IsCalled}
use Rattle.task_core.proofs.InvariantParts.{Keeps, call-goes, in-return, moment-goes, task-goes}
use Rattle.task_core.proofs.InvariantActs.{exit-returns, quiet-calls, quiet-keeps}

-- ## frames

-- a call whose frame owes nothing gives it back
pub closed-framed : (frames : ℕ) (c : OpenCall) (below : List OpenCall) → AreFramed frames (c ∷ below)
    → AreFramed frames (record c { framed = not (is_nil c.users) } ∷ below)
closed-framed frames c below k = record { bare = (bare c.users, k.bare.1); few = few c.framed c.users k.bare.0 k.few }
  where
    bare : (users : List FrameUser) → not (is_nil users) ≡ false → users ≡ []
    bare [] e = refl
    bare (m ∷ rest) e = false_true (sym e)

    few : (framed : Bool) (users : List FrameUser) → (framed ≡ false → users ≡ []) → cond framed (suc (level_of below)) (level_of below) ≤ frames
        → cond (not (is_nil users)) (suc (level_of below)) (level_of below) ≤ frames
    few true [] bare le = omega (arith, le)
    few false [] bare le = le
    few true (m ∷ rest) bare le = le
    few false (m ∷ rest) bare le = absurd (cc (bare refl))

pub returned-framed : (frames : ℕ) (c : OpenCall) (below : List OpenCall) → AreFramed frames (c ∷ below) → AreFramed frames below
returned-framed frames c below k = record { bare = k.bare.1; few = few c.framed k.few }
  where
    few : (framed : Bool) → cond framed (suc (level_of below)) (level_of below) ≤ frames → level_of below ≤ frames
    few true le = omega (arith, le)
    few false le = le

-- ## the end of a dispatch

module _ (job : Job) (P : ℕ → List TaskAct → Type 0) (x : TaskState) (c : OpenCall) (below : List OpenCall) where
  -- the call after its dispatch
  abbrev done : OpenCall
  done = record c { framed = not (is_nil c.users) }

  -- the calls after a scripted one
  finish : c.scripted ≡ true → Keeps job P (with_top x c below Closing) → Keeps job P (finished (with_top x c below Closing) (done ∷ below))
  finish s (k, told) =
      quiet-keeps job P (finished (with_top x c below Closing) (done ∷ below)) Polling refl tt k.script k.raised (closed-framed job.frames c below k.framed) (
        call-goes job c below Closing Polling c.ran c.runs (not (is_nil c.users)) c.users (λ e. s) k.calls.0.users
            (record { names = tt; acted = λ e. false_true e; free = λ e. false_true e; found = tt }) k.calls.0,
        k.calls.1,
      ) told

  pub body-row : (v : ℕ) → Keeps job P (with_top x c below Closing) → Keeps job P (call_got job (with_top x c below Closing) c below Closing v)
  body-row v k = by c.scripted refl
    where
      by : (s : Bool) → c.scripted ≡ s → Keeps job P (cond s (finished (with_top x c below Closing) (done ∷ below)) (with_top x done below Leaving))
      by true s = finish s k
      by false s =
          task-goes job c below P x Closing Leaving c.ran c.runs (not (is_nil c.users)) c.users refl refl refl (λ e. refl)
          (closed-framed job.frames c below k.0.framed) k.0.calls.0.users (record { names = tt; acted = λ e. s; free = λ e. false_true e; found = tt }) k

  -- ## a return

  -- the Leave of a call that an act made
  pub leave-row : (v : ℕ) → Keeps job P (with_top x c below Leaving)
      → Keeps job P (call_got job (with_top x c below Leaving) c below Leaving v)
  leave-row v k =
      let s : c.scripted ≡ false = k.0.calls.0.acted refl in
      let back = in-return job c below (next_exit c.users) (exit-returns c.users) in
      moment-goes job c below P x Leaving (next_exit c.users) refl back.0 (rw (exit-returns c.users, s) refl) (λ e. false_true (sym back.1 ∙ e)) back.2 k

  -- from a moment of the return to another
  return-goes : (m m' : Moment) → is_returning m ≡ true → is_returning m' ≡ true → Keeps job P (with_top x c below m) → Keeps job P (with_top x c below m')
  return-goes m m' r r' k =
      let a = in-return job c below m r in
      let b = in-return job c below m' r' in
      moment-goes job c below P x m m' a.0 b.0 (rw (r, r') refl) (λ e. false_true (sym b.1 ∙ e)) b.2 k

  pub live-row : (m : FrameUser) (rest : List FrameUser) (v : ℕ) → Keeps job P (with_top x c below (AtExit m rest))
      → Keeps job P (call_got job (with_top x c below (AtExit m rest)) c below (AtExit m rest) v)
  live-row m rest v k = return-goes (AtExit m rest) (exit_in (stands v m.reg) m rest) refl (by (stands v m.reg)) k
    where
      by : (b : Bool) → is_returning (exit_in b m rest) ≡ true
      by true = refl
      by false = exit-returns rest

  pub exit-row : (m : FrameUser) (rest : List FrameUser) (v : ℕ) → Keeps job P (with_top x c below (Exiting m rest))
      → Keeps job P (call_got job (with_top x c below (Exiting m rest)) c below (Exiting m rest) v)
  exit-row m rest v k = return-goes (Exiting m rest) (EndingExit m rest) refl refl k

  pub exit-end_row : (m : FrameUser) (rest : List FrameUser) (v : ℕ) → Keeps job P (with_top x c below (EndingExit m rest))
      → Keeps job P (call_got job (with_top x c below (EndingExit m rest)) c below (EndingExit m rest) v)
  exit-end_row m rest v k = return-goes (EndingExit m rest) (next_exit rest) refl (exit-returns rest) k

-- ## the Ret

module _ (job : Job) (P : ℕ → List TaskAct → Type 0) (x : TaskState) (c : OpenCall) where
  -- the calls below, at the moment that the top one was called at
  below-calls : (s : Bool) (below : List OpenCall) → c.scripted ≡ s → CallsInvariant job Returning (c ∷ below) → CallsInvariant job (under_by s (user_of below)) below
  below-calls s below e k = subst (λ b. CallsInvariant job (under_by b (user_of below)) below) e k.1

  -- of a scripted call
  to-script : (below : List OpenCall) → c.scripted ≡ true → Keeps job P (with_top x c below Returning)
      → Keeps job P (finished (with_top x c below Returning) below)
  to-script below s (k, told) =
      quiet-keeps job P (finished (with_top x c below Returning) below) Polling refl tt (goes (λ n acts. IsScript job n acts) k.script) k.raised
      (returned-framed job.frames c below k.framed) (quiet-calls job First Polling refl refl below (below-calls true below s k.calls)) (goes P told)
    where
      goes : (Q : ℕ → List TaskAct → Type 0) → Q (open_by true (c ∷ below)) (rest_acts x.acts) → Q (open_by false below) (rest_acts x.acts)
      goes Q h = subst (λ n. Q n (rest_acts x.acts)) (sym (open_first below)) (rw s at h)

  -- of a call that an act made
  to-caller : (below : List OpenCall) → c.scripted ≡ false → Keeps job P (with_top x c below Returning)
      → Keeps job P (record x { stack = below; moment = Ending (user_of below) })
  to-caller [] s (k, told) = absurd (subst (λ b. IsCalled b c.ctx []) s k.calls.0.called)
  to-caller (b ∷ bb) s (k, told) = (
    record {
      script = rw s at k.script;
      raised = k.raised;
      stands = (k.stands.0, refl);
      first = tt;
      ground = λ e. (let g = (rw s at k.ground) in g refl);
      framed = returned-framed job.frames c (b ∷ bb) k.framed;
      calls = below-calls false (b ∷ bb) s k.calls;
    },
    rw s at told,
  )

  pub ret-row : (below : List OpenCall) (v : ℕ) → Keeps job P (with_top x c below Returning)
      → Keeps job P (call_got job (with_top x c below Returning) c below Returning v)
  ret-row below v k = by c.scripted refl
    where
      by : (s : Bool) → c.scripted ≡ s
          → Keeps job P (cond s (finished (with_top x c below Returning) below) (record x { stack = below; moment = Ending (user_of below) }))
      by true s = to-script below s k
      by false s = to-caller below s k
