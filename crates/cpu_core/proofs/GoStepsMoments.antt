-- A fetch and a wait of a task are those of the machine's task.
use Rattle.std.proofs.Common.{◌≡◌, ℕ, zero, suc, false, not, nat_le, nat_lt, List, [], ◌∷◌, drop, refl, sym, arith}
use Rattle.std.proofs.lemmas.Bool.Decides.{nat_tests}
use Rattle.std.specs.Prelude.{slice_get}
use Rattle.ft_base.specs.declared.task.TaskAct.{TaskAct}
use Rattle.ft_base.specs.declared.task.TaskAct.TheVariants.{After}
use Rattle.ft_base.proofs.Small.{false_true}
use Rattle.ft_hist.specs.Frames.{FrameUser}
use Rattle.hash_pages.specs.declared.reader.ReadPhase.{ReadPhase}
use Rattle.hash_pages.specs.declared.reader.ReadPhase.TheVariants.{AtSel, AtFilter, AtNotrace, Ended as ReadEnded}
use Rattle.hash_pages.specs.declared.reader.Verdict.TheVariants.{On}
use Rattle.ops_list.specs.declared.walker.WalkPhase.{WalkPhase}
use Rattle.ops_list.specs.declared.walker.WalkPhase.TheVariants.{Starting, At, Ended as WalkEnded}
use Rattle.return_stack.specs.Calls.{top_users}
use Rattle.word_map.specs.Contents.{returned_at}
use Rattle.word_machine.specs.Cpu.{is_unmet as is_machine_unmet}
use Rattle.word_machine.specs.Task.{Moment, next_exit}
use Rattle.word_machine.specs.Task as machine
use Rattle.task_core.specs.declared.moment.Moment.{Moment as CodeMoment}
use Rattle.task_core.specs.declared.moment.Moment.TheVariants.{Polling, First, Load, Mark}
use Rattle.task_core.specs.declared.moment.ToLoad.{ToLoad}
use Rattle.task_core.specs.declared.moment.ToLoad.TheVariants.{GotHead, GotBreak, Walking, Reading, AtExit}
use Rattle.task_core.specs.declared.moment.ToMark.{ToMark}
use Rattle.task_core.specs.declared.moment.ToMark.TheVariants.{Exiting, EndingExit}
use Rattle.task_core.specs.declared.open_call.OpenCall.{OpenCall as CodeCall}
use Rattle.task_core.specs.declared.task.Task.{Task}
use Rattle.task_core.specs.Leads.{is_fetching}
use Rattle.task_core.specs.Moments.{reading_at, walking_at}
use Rattle.task_core.specs.Starts.{is_unmet, is_unmet_at}
use Rattle.task_core.specs.States.{ending_exit, exiting, load_moment, mark_moment, moment_at, moment_of, state_of, users_in}
use Rattle.task_core.specs.TaskOps.{top}
use Rattle.task_core.proofs.RowMoments.{load-loud, mark-loud}

-- ## fetches

walking-fetch : (phase : WalkPhase) → machine.is_fetching (walking_at phase) ≡ false
walking-fetch Starting = refl
walking-fetch (At u) = refl
walking-fetch WalkEnded = refl

reading-fetch : (u : ℕ) (phase : ReadPhase) → machine.is_fetching (reading_at u (λ reg. machine.Closing) phase) ≡ false
reading-fetch u AtSel = refl
reading-fetch u (AtFilter copy reg) = refl
reading-fetch u (AtNotrace copy reg) = refl
reading-fetch u (ReadEnded (On reg)) = refl
reading-fetch u (ReadEnded _) = refl

next-fetch : (users : List FrameUser) → machine.is_fetching (next_exit users) ≡ false
next-fetch [] = refl
next-fetch (m ∷ rest) = refl

exiting-fetch : (users : List FrameUser) → machine.is_fetching (exiting users) ≡ false
exiting-fetch [] = refl
exiting-fetch (m ∷ rest) = refl

ending-fetch : (users : List FrameUser) → machine.is_fetching (ending_exit users) ≡ false
ending-fetch [] = refl
ending-fetch (m ∷ rest) = refl

load-fetching : (o : CodeCall) (users : List FrameUser) (load : ToLoad) → machine.is_fetching (load_moment o users load) ≡ is_fetching (Load load)
load-fetching o users Walking = walking-fetch o.walk.phase
load-fetching o users (Reading r) = reading-fetch r.user r.phase
load-fetching o users (AtExit i) = next-fetch (drop i users)
load-fetching o users (GotHead byte) = refl
load-fetching o users GotBreak = refl
load-fetching o users _ = refl

mark-fetching : (users : List FrameUser) (mark : ToMark) → machine.is_fetching (mark_moment users mark) ≡ false
mark-fetching users (Exiting i) = exiting-fetch (drop i users)
mark-fetching users (EndingExit i) = ending-fetch (drop i users)
mark-fetching users _ = refl

fetching-at : (o : CodeCall) (users : List FrameUser) (m : CodeMoment) → machine.is_fetching (moment_at o users m) ≡ is_fetching m
fetching-at o users Polling = refl
fetching-at o users First = refl
fetching-at o users (Load load) = load-fetching o users load
fetching-at o users (Mark mark) = mark-fetching users mark

pub fetching-is : (t : Task) → machine.is_fetching (moment_of t) ≡ is_fetching t.moment
fetching-is t = fetching-at (top t) (users_in (top_users t.stacks.calls)) t.moment

-- ## waits

later : (n v : ℕ) → nat_lt v n ≡ not (nat_le n v)
later n v = grind (arith, nat_tests)

unmet-first : (acts : List TaskAct) (n v : ℕ) → is_unmet_at First (slice_get acts n) v ≡ is_machine_unmet machine.First (drop n acts) v
unmet-first [] zero v = refl
unmet-first [] (suc n) v = refl
unmet-first (After m ∷ acts) zero v = later m (returned_at v)
unmet-first (_ ∷ acts) zero v = refl
unmet-first (a ∷ acts) (suc n) v = unmet-first acts n v

-- only at its first operation an act waits
met : (m : Moment) (acts : List TaskAct) (v : ℕ) → machine.is_quiet m ≡ false → is_machine_unmet m acts v ≡ false
met machine.First acts v loud = false_true (sym loud)
met _ acts v loud = refl

unmet-at : (o : CodeCall) (users : List FrameUser) (m : CodeMoment) (acts : List TaskAct) (n v : ℕ)
    → is_unmet_at m (slice_get acts n) v ≡ is_machine_unmet (moment_at o users m) (drop n acts) v
unmet-at o users Polling acts n v = refl
unmet-at o users First acts n v = unmet-first acts n v
unmet-at o users (Load load) acts n v = sym (met (load_moment o users load) (drop n acts) v (load-loud o users load))
unmet-at o users (Mark mark) acts n v = sym (met (mark_moment users mark) (drop n acts) v (mark-loud users mark))

pub unmet-is : (t : Task) (v : ℕ) → is_unmet t v ≡ is_machine_unmet (state_of t).moment (state_of t).acts v
unmet-is t v = unmet-at (top t) (users_in (top_users t.stacks.calls)) t.moment t.acts.all t.acts.gone v
