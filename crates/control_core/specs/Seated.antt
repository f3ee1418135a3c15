-- What contracts see of control, and the control of the word machine that it stands for.
use Rattle.std.specs.Prelude.{ℕ, suc, ◌≡◌, Bool, true, false, List, [], drop, take, length, slice_get, Option, Some, if◌then◌else◌}
use Rattle.std.specs.List.{range_with_len}
use Rattle.ft_base.specs.declared.item.Answer.{Answer}
use Rattle.ft_base.specs.declared.item.Stamped.{Stamped}
use Rattle.ft_base.specs.Job.{Job, Command, Ctl, Run, commands_in}
use Rattle.ft_base.specs.Desk.{desk}
use Rattle.word_map.specs.declared.shape.Shape.{Shape}
use Rattle.word_map.specs.Shapes.{shape_of}
use Rattle.word_map.specs.Places.{words_for}
use Rattle.ft_desk.specs.Declarations.{IsOf}
use Rattle.ft_desk.specs.DeskView.{DeskView, after_command, answer, opened}
use Rattle.ft_desk.specs.Plans.{PlainPlan, user_no}
use Rattle.ft_desk.specs.declared.plan.TrampChange.TheVariants.{Set, Clear}
use Rattle.ft_desk.specs.declared.plan.ListChange.TheVariants.{Push as PushFirst, Unlink}
use Rattle.grace_core.specs.Waits.{Wait}
use Rattle.hash_pages.specs.Pages.{Page}
use Rattle.ops_list.specs.declared.linker.LinkPhase.{LinkPhase}
use Rattle.ops_list.specs.declared.linker.LinkPhase.TheVariants.{Linking as LinkingUser, Heading, Unlinking, Ended as LinkEnded}
use Rattle.patch_core.specs.Moves.{Put, Sync, batch_next}
use Rattle.ft_base.specs.declared.number.UserNo.{UserNo}
use Rattle.word_map.specs.Contents.{sel_copy}
use Rattle.word_map.specs.Words.{Word}
use Rattle.word_machine.specs.Commands.{command}
use Rattle.word_machine.specs.Control.{Control, Position, Line, Take, Select, StorePids, StoreDepth, Cpus, Tasks, Release, Close}
use Rattle.word_machine.specs.Values.{copies_in}
use Rattle.control_core.specs.Phases.{is_over, wait_in}
use Rattle.control_core.specs.Positions.{linking_at, moves_left, moving_by, waiting_at, writing_at}
use Rattle.control_core.specs.declared.phase.Phase.{Phase}
use Rattle.control_core.specs.declared.phase.Phase.TheVariants as phase

-- the shape, the desk, the desk before the command under way, all lines, the numbers of those that are led, these lines, which of them is the
-- present one, how many commands have returned, how many requests were stored, the answer to the command under way, how many moves of its
-- batch were made, where it stands, and what it marked
pub record Seated : Type 0 where
  pub shape : Shape
  pub desk : DeskView
  pub before : DeskView
  pub all : List Ctl
  pub order : List ℕ
  pub lines : List Ctl
  pub line : ℕ
  pub commands_done : ℕ
  pub request : ℕ
  pub answer : Answer
  pub made : ℕ
  pub phase : Phase
  pub items : List Stamped

-- the position of a phase
abbrev pub position_of : Seated → Phase → Position
position_of c phase.Line = Line
position_of c phase.Taking = Take
position_of c (phase.Writing page) = writing_at (words_for c.shape.funcs) page.stored
position_of c phase.Selecting = Select
position_of c (phase.Linking linker) = linking_at linker.phase
position_of c phase.StoringPids = StorePids
position_of c phase.StoringDepth = StoreDepth
position_of c phase.Patching = moving_by c.desk.plan c.made
position_of c (phase.Syncing wait) = waiting_at (Cpus (moves_left c.desk.plan (suc c.made))) wait.phase
position_of c (phase.Quieting wait) = waiting_at Tasks wait.phase
position_of c phase.Releasing = Release
position_of c phase.Closing = Close

-- the user's state is stored, so the other copy of its sets is in use
abbrev pub is_selected : Phase → Bool
is_selected phase.Taking = false
is_selected (phase.Writing page) = false
is_selected phase.Selecting = false
is_selected _ = true

-- the list of users is as it is to be
abbrev pub is_linked : Phase → Bool
is_linked (phase.Linking linker) = false
is_linked p = is_selected p

-- which of the two desks a fact is read from
abbrev pub desk_by : Bool → Seated → DeskView
desk_by now c = if now then c.desk else c.before

-- the word machine's control in a phase
abbrev pub control_in : Seated → Phase → Control
control_in c p = record {
  commands_done = c.commands_done;
  remaining = drop c.line c.lines;
  request = c.request;
  copies = copies_in (desk_by (is_selected p) c).copies;
  order = (desk_by (is_linked p) c).order;
  position = position_of c p;
}

-- the word machine's control
abbrev pub control_of : Seated → Control
control_of c = control_in c c.phase

-- ## of which job it is the control

-- in a command of the job the desk is that after it, and the answer is that of the desk before it
abbrev pub IsUnder : Job → Seated → Type 0
IsUnder job c = (x : Command) × (command job c.commands_done ≡ Some x) × (slice_get c.lines c.line ≡ Some (Run x)) × (c.answer ≡ answer c.before x)
    × (c.desk ≡ after_command c.before x)

-- between commands the desk is as it was
abbrev pub IsDeskOf : Job → Seated → Phase → Type 0
IsDeskOf job c phase.Line = c.desk ≡ c.before
IsDeskOf job c _ = IsUnder job c

-- ## what the phase says of the plan

-- a wait for the quiet points of tasks, or for the acknowledgements of CPUs, which is not over
abbrev pub IsWaitOf : Seated → Bool → Wait → Type 0
IsWaitOf c quiet w = (w ≡ wait_in c.shape quiet c.request w.phase) × (is_over w.phase ≡ false)

-- a page of the plan's user and state
pub record IsPageOf (c : Seated) (page : Page) : Type 0 where
  pub user : c.desk.plan.user ≡ Some (user_no page.user)
  pub sel : c.desk.plan.sel ≡ Some page.sel
  pub pair : c.desk.plan.pair ≡ true
  pub copy : page.copy ≡ sel_copy page.sel

-- a change of the list, of the plan's user
abbrev pub IsLinkOf : PlainPlan → LinkPhase → Type 0
IsLinkOf p (LinkingUser u first) = (p.list ≡ PushFirst first) × (p.user ≡ Some u)
IsLinkOf p (Heading u) = (first : Option UserNo) × (p.list ≡ PushFirst first) × (p.user ≡ Some u)
IsLinkOf p (Unlinking before after) = p.list ≡ Unlink before after
IsLinkOf p LinkEnded = ⊥

-- the plan has what the phase stores, and the batch was not begun before its phases
abbrev pub Fits : Seated → Phase → Type 0
Fits c phase.Line = c.made ≡ 0
Fits c phase.Taking = (c.made ≡ 0) × ((slot reg : ℕ) × (c.desk.plan.tramp ≡ Set slot reg))
Fits c (phase.Writing page) = (c.made ≡ 0) × IsPageOf c page
Fits c phase.Selecting = (c.made ≡ 0) × ((sel : ℕ) × (c.desk.plan.sel ≡ Some sel))
Fits c (phase.Linking linker) = (c.made ≡ 0) × IsLinkOf c.desk.plan linker.phase
Fits c phase.StoringPids = (mask : ℕ) × (c.desk.plan.pids ≡ Some mask)
Fits c phase.StoringDepth = (depth : ℕ) × (c.desk.plan.depth ≡ Some depth)
Fits c phase.Patching = (w : Word) × (x : ℕ) × (batch_next c.desk.plan.sites c.made ≡ Put w x)
Fits c (phase.Syncing wait) = (batch_next c.desk.plan.sites c.made ≡ Sync) × IsWaitOf c false wait
Fits c (phase.Quieting wait) = (c.desk.plan.quiet ≡ true) × IsWaitOf c true wait
Fits c phase.Releasing = (slot : ℕ) × (c.desk.plan.tramp ≡ Clear slot)
Fits c phase.Closing = Unit {0}

-- control of this job: it has the job's lines and shape, and its desk is the job's
pub record IsFor (job : Job) (c : Seated) : Type 0 where
  pub shape : c.shape ≡ shape_of job
  pub lines : c.lines ≡ job.ctls
  pub declared : IsOf job c.before.declared
  pub before : c.before.state ≡ desk job c.commands_done
  pub numbered : c.before.commands ≡ c.commands_done
  pub counted : c.commands_done ≡ length (commands_in (take c.line c.lines))
  pub now : IsDeskOf job c c.phase
  pub fits : Fits c c.phase

-- control leads all lines, as they stand
pub record LeadsAll (c : Seated) : Type 0 where
  pub order : c.order ≡ range_with_len 0 (length c.all)
  pub lines : c.lines ≡ c.all

-- control before its first line
pub record IsOpening (c : Seated) : Type 0 where
  pub desk : c.desk ≡ opened c.desk.declared
  pub before : c.before ≡ c.desk
  pub line : c.line ≡ 0
  pub commands_done : c.commands_done ≡ 0
  pub request : c.request ≡ 0
  pub made : c.made ≡ 0
  pub phase : c.phase ≡ phase.Line
  pub items : c.items ≡ []
