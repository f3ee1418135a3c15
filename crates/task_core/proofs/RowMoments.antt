-- Where a task stands within a call: it is not between two acts.
use Rattle.std.proofs.Common.{◌≡◌, ℕ, false, List, [], ◌∷◌, drop, refl, subst}
use Rattle.ft_base.specs.Job.{Job}
use Rattle.ft_base.proofs.Small.{false_true}
use Rattle.ft_hist.specs.Frames.{FrameUser}
use Rattle.hash_pages.specs.declared.reader.ReadPhase.{ReadPhase}
use Rattle.hash_pages.specs.declared.reader.ReadPhase.TheVariants.{AtSel, AtFilter, AtNotrace, Ended as ReadEnded}
use Rattle.hash_pages.specs.declared.reader.Verdict.TheVariants.{Open, Off, Apart, On}
use Rattle.ops_list.specs.declared.walker.WalkPhase.{WalkPhase}
use Rattle.ops_list.specs.declared.walker.WalkPhase.TheVariants.{Starting, At, Ended as WalkEnded}
use Rattle.word_machine.specs.Task.{is_quiet, next_exit}
use Rattle.word_machine.specs.Task as machine
use Rattle.word_machine.specs.Tasks.{StandsIn}
use Rattle.task_core.specs.declared.moment.Moment.{Moment}
use Rattle.task_core.specs.declared.moment.ToLoad.{ToLoad}
use Rattle.task_core.specs.declared.moment.ToLoad.TheVariants.{Fetch, GotHead, GotBreak, InTramp, OwnSel, Walking, Reading, AtPids, AtDepth, AtExit}
use Rattle.task_core.specs.declared.moment.ToMark.{ToMark}
use Rattle.task_core.specs.declared.moment.ToMark.TheVariants.{Refusing, Calling, Missing, Acting, Ending, Closing, Leaving, Exiting, EndingExit, Returning}
use Rattle.task_core.specs.declared.open_call.OpenCall.{OpenCall as CodeCall}
use Rattle.task_core.specs.declared.task.Task.{Task}
use Rattle.task_core.specs.Moments.{reading_at, walking_at}
use Rattle.task_core.specs.States.{ending_exit, exiting, load_moment, mark_moment, moment_of}
use Rattle.task_core.specs.StackInvariant.{IsTaskOf}
use Rattle.task_core.proofs.RowLists.{standing}

walk-loud : (phase : WalkPhase) → is_quiet (walking_at phase) ≡ false
walk-loud Starting = refl
walk-loud (At u) = refl
walk-loud WalkEnded = refl

read-loud : (u : ℕ) (phase : ReadPhase) → is_quiet (reading_at u (λ reg. machine.Closing) phase) ≡ false
read-loud u AtSel = refl
read-loud u (AtFilter copy reg) = refl
read-loud u (AtNotrace copy reg) = refl
read-loud u (ReadEnded (On reg)) = refl
read-loud u (ReadEnded Open) = refl
read-loud u (ReadEnded Off) = refl
read-loud u (ReadEnded Apart) = refl

next-loud : (users : List FrameUser) → is_quiet (next_exit users) ≡ false
next-loud [] = refl
next-loud (m ∷ rest) = refl

exit-loud : (users : List FrameUser) → is_quiet (exiting users) ≡ false
exit-loud [] = refl
exit-loud (m ∷ rest) = refl

end-loud : (users : List FrameUser) → is_quiet (ending_exit users) ≡ false
end-loud [] = refl
end-loud (m ∷ rest) = refl

pub load-loud : (o : CodeCall) (users : List FrameUser) (load : ToLoad) → is_quiet (load_moment o users load) ≡ false
load-loud o users Fetch = refl
load-loud o users (GotHead byte) = refl
load-loud o users GotBreak = refl
load-loud o users (InTramp s) = refl
load-loud o users (OwnSel u reg) = refl
load-loud o users Walking = walk-loud o.walk.phase
load-loud o users (Reading r) = read-loud r.user r.phase
load-loud o users (AtPids u reg) = refl
load-loud o users (AtDepth u reg) = refl
load-loud o users (AtExit i) = next-loud (drop i users)

pub mark-loud : (users : List FrameUser) (mark : ToMark) → is_quiet (mark_moment users mark) ≡ false
mark-loud users (Refusing u reg reason) = refl
mark-loud users (Calling u reg) = refl
mark-loud users (Missing u) = refl
mark-loud users (Acting u f x) = refl
mark-loud users (Ending u) = refl
mark-loud users Closing = refl
mark-loud users Leaving = refl
mark-loud users (Exiting i) = exit-loud (drop i users)
mark-loud users (EndingExit i) = end-loud (drop i users)
mark-loud users Returning = refl

-- within a call there is one
pub no-call : {A : Type 0} (job : Job) (t : Task) (m : Moment) → IsTaskOf job (standing t [] [] m)
    → is_quiet (moment_of (standing t [] [] m)) ≡ false → A
no-call job t m k e = false_true (subst (λ b. StandsIn b (drop t.acts.gone t.acts.all) []) e k.steady.stands).1
