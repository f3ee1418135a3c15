-- Control's next operation, and control after it, by what contracts see of it.
use Rattle.std.specs.Prelude.{ℕ, suc, nat_le, List, [], ◌∷◌, ◌++◌, Option, Some, None, is_some, slice_get, if◌then◌else◌}
use Rattle.ft_base.specs.declared.item.Item.{Item}
use Rattle.ft_base.specs.declared.item.Item.TheVariants.{Begin, Return}
use Rattle.ft_base.specs.declared.item.Stamped.{Stamped}
use Rattle.ft_base.specs.declared.number.UserNo.{UserNo}
use Rattle.ft_base.specs.Job.{Command, Ctl, Run, Until}
use Rattle.ft_base.specs.Desk.{Desk, user_at}
use Rattle.filter_hash.specs.Pair.{Pair}
use Rattle.word_map.specs.Words.{Pids, Depth, Quiet, Tramp, Sel}
use Rattle.word_map.specs.Contents.{high, low, tramp_word}
use Rattle.word_map.specs.Ops.{WordOp, Load, Store, Mark}
use Rattle.grace_core.specs.Waits.{Wait, wait_got, wait_next}
use Rattle.hash_pages.specs.Pages.{Page, page_next}
use Rattle.ops_list.specs.Links.{Linked, link_after, link_op}
use Rattle.patch_core.specs.Moves.{Move, Put, Sync, Done, batch_next}
use Rattle.ft_desk.specs.declared.plan.TrampChange.{TrampChange}
use Rattle.ft_desk.specs.declared.plan.TrampChange.TheVariants.{Keep as KeepTramp, Set, Clear}
use Rattle.ft_desk.specs.DeskView.{after_command, answer}
use Rattle.control_core.specs.declared.phase.Phase.{Phase}
use Rattle.control_core.specs.declared.phase.Phase.TheVariants as phase
use Rattle.control_core.specs.Phases.{batch_to, begin_to, is_asking, is_linked_up, is_over, list_to, quiet_to, release_in, store_to}
use Rattle.control_core.specs.Seated.{Seated}

-- ## the next operation

-- at a line, when so many commands have returned
abbrev pub line_next : ℕ → Option Ctl → Option WordOp
line_next done None = None
line_next done (Some (Run x)) = Some (Mark (Begin (suc done)))
line_next done (Some (Until t n)) = Some (Load (Quiet t))

-- the user is put into its trampoline
abbrev pub take_next : Option UserNo → TrampChange → Option WordOp
take_next (Some u) (Set slot reg) = Some (Store (Tramp slot) (tramp_word reg u.0))
take_next (Some u) KeepTramp = None
take_next (Some u) (Clear slot) = None
take_next None change = None

-- the sets of a user
abbrev pub pair_at : Desk → ℕ → Pair
pair_at d u = record { filter = (user_at d u).filter; notrace = (user_at d u).notrace }

-- the next store of the user's page
abbrev pub write_next : Desk → Page → Option UserNo → Option WordOp
write_next d page (Some u) = page_next page (pair_at d u.0)
write_next d page None = None

-- the user's state
abbrev pub select_next : Option UserNo → Option ℕ → Option WordOp
select_next (Some u) (Some sel) = Some (Store (Sel u.0) sel)
select_next (Some u) None = None
select_next None sel = None

-- the traced tasks
abbrev pub pids_next : Option ℕ → Option WordOp
pids_next (Some mask) = Some (Store Pids mask)
pids_next None = None

-- the graph depth
abbrev pub depth_next : Option ℕ → Option WordOp
depth_next (Some depth) = Some (Store Depth depth)
depth_next None = None

-- a store of the batch
abbrev pub patch_next : Move → Option WordOp
patch_next (Put w x) = Some (Store w x)
patch_next Sync = None
patch_next Done = None

-- the user's trampoline names nobody
abbrev pub release_next : TrampChange → Option WordOp
release_next (Clear slot) = Some (Store (Tramp slot) 0)
release_next KeepTramp = None
release_next (Set slot reg) = None

-- the next operation in a phase
abbrev pub op_in : Seated → Phase → Option WordOp
op_in c phase.Line = line_next c.commands_done (slice_get c.lines c.line)
op_in c phase.Taking = take_next c.desk.plan.user c.desk.plan.tramp
op_in c (phase.Writing page) = write_next c.desk.state page c.desk.plan.user
op_in c phase.Selecting = select_next c.desk.plan.user c.desk.plan.sel
op_in c (phase.Linking linker) = link_op linker.phase
op_in c phase.StoringPids = pids_next c.desk.plan.pids
op_in c phase.StoringDepth = depth_next c.desk.plan.depth
op_in c phase.Patching = patch_next (batch_next c.desk.plan.sites c.made)
op_in c (phase.Syncing wait) = wait_next wait
op_in c (phase.Quieting wait) = wait_next wait
op_in c phase.Releasing = release_next c.desk.plan.tramp
op_in c phase.Closing = Some (Mark (Return (suc c.commands_done) c.answer))

-- the next operation of control, if it has one
abbrev pub op_of : Seated → Option WordOp
op_of c = op_in c c.phase

-- ## control after the operation

-- in another phase
abbrev pub at_phase : Seated → Phase → Seated
at_phase c p = record c { phase = p }

-- an item at the place that a mark's value tells
abbrev pub marked : ℕ → Item → Stamped
marked v item = record { place = low v; item = item }

-- what an operation marks, if it is a mark
abbrev pub marks_in : Option WordOp → ℕ → List Stamped
marks_in None v = []
marks_in (Some (Load w)) v = []
marks_in (Some (Store w x)) v = []
marks_in (Some (Mark item)) v = marked v item ∷ []

-- a command begins
abbrev pub begun : Seated → Command → ℕ → Seated
begun c x v = record c {
  desk = after_command c.desk x;
  answer = answer c.desk x;
  phase = begin_to c.shape (after_command c.desk x).plan;
  items = c.items ++ marked v (Begin (suc c.commands_done)) ∷ [];
}

-- at a line
abbrev pub line_after : Seated → Option Ctl → ℕ → Seated
line_after c None v = c
line_after c (Some (Until t n)) v = if nat_le n (high v) then record c { line = suc c.line } else c
line_after c (Some (Run x)) v = begun c x v

-- the user's state is stored
abbrev pub listed : Seated → Seated
listed c = at_phase c (list_to c.shape c.desk.plan c.made c.request)

-- so many moves of the batch are made
abbrev pub moved : Seated → ℕ → Seated
moved c made = record c { made = made; phase = batch_to c.shape c.desk.plan made c.request }

-- a page after a store
abbrev pub page_after : Page → Page
page_after page = record page { stored = suc page.stored }

-- the user's sets after a store: more of them is to be written, or its state was stored last
abbrev pub wrote : Seated → Page → Seated
wrote c page = if is_some (write_next c.desk.state page c.desk.plan.user) then at_phase c (phase.Writing page) else listed c

-- a change of the list after a store
abbrev pub linked_after : Linked → Linked
linked_after l = record l { phase = link_after l.phase }

-- the list of users after a store: more of it is to be changed, or the batch begins
abbrev pub linked : Seated → Linked → Seated
linked c l = if is_linked_up l.phase then moved c c.made else at_phase c (phase.Linking l)

-- so many requests were stored, after the operation of this wait
abbrev pub requests_after : ℕ → Wait → ℕ
requests_after request w = if is_asking w.phase then suc request else request

-- a sync after an operation: it is over and the batch's next move comes, or it goes on
abbrev pub synced : Seated → Wait → Seated
synced c w = if is_over w.phase then moved c (suc c.made) else at_phase c (phase.Syncing w)

-- a wait for quiet points after an operation: it is over, or it goes on
abbrev pub quieted : Seated → Wait → Seated
quieted c w = if is_over w.phase then at_phase c (release_in c.desk.plan.tramp) else at_phase c (phase.Quieting w)

-- with so many requests
abbrev pub with_request : Seated → ℕ → Seated
with_request c request = record c { request = request }

-- the command has returned
abbrev pub closed : Seated → ℕ → Seated
closed c v = record c {
  before = c.desk;
  line = suc c.line;
  commands_done = suc c.commands_done;
  made = 0;
  phase = phase.Line;
  items = c.items ++ marked v (Return (suc c.commands_done) c.answer) ∷ [];
}

-- control after its operation in a phase gave this value
abbrev pub stepped_in : Seated → Phase → ℕ → Seated
stepped_in c phase.Line v = line_after c (slice_get c.lines c.line) v
stepped_in c phase.Taking v = at_phase c (store_to c.shape c.desk.plan)
stepped_in c (phase.Writing page) v = wrote c (page_after page)
stepped_in c phase.Selecting v = listed c
stepped_in c (phase.Linking linker) v = linked c (linked_after linker)
stepped_in c phase.StoringPids v = at_phase c (quiet_to c.shape c.desk.plan c.request)
stepped_in c phase.StoringDepth v = at_phase c (quiet_to c.shape c.desk.plan c.request)
stepped_in c phase.Patching v = moved c (suc c.made)
stepped_in c (phase.Syncing wait) v = synced (with_request c (requests_after c.request wait)) (wait_got wait v)
stepped_in c (phase.Quieting wait) v = quieted (with_request c (requests_after c.request wait)) (wait_got wait v)
stepped_in c phase.Releasing v = at_phase c phase.Closing
stepped_in c phase.Closing v = closed c v

-- control after its next operation gave this value
abbrev pub stepped : Seated → ℕ → Seated
stepped c v = stepped_in c c.phase v
