-- What control keeps between its operations, so that each is on a word that is there and takes no memory.
use Rattle.std.specs.Prelude.{ℕ, ◌≡◌, ◌+◌, ◌*◌, ◌<◌, ◌≤◌, length, All, vec_len, vec_capacity, if◌then◌else◌}
use Rattle.ft_base.specs.declared.limits.TheConstants.{COMMANDS, FUNCS, UNTILS}
use Rattle.word_map.specs.Shapes.{IsShape}
use Rattle.word_map.specs.Places.{words_for}
use Rattle.grace_core.specs.declared.waiter.WaitPhase.{WaitPhase}
use Rattle.word_machine_laws.specs.Orders.{AreLed, picked}
use Rattle.ft_desk.specs.Lines.{IsLineIn, lines_of}
use Rattle.control_core.specs.Lines.{IsNamedLine}
use Rattle.control_core.specs.Phases.{is_asking}
use Rattle.control_core.specs.Plans.{IsDeskIn, IsPlanIn}
use Rattle.control_core.specs.declared.phase.Phase.{Phase}
use Rattle.control_core.specs.declared.phase.Phase.TheVariants as phase
use Rattle.control_core.specs.declared.control.Control.TheInside.{Inside}
use Rattle.control_core.specs.Seated.{Seated}

-- ## counts

-- 1 in a command, and 0 at a line
abbrev pub busy : Phase → ℕ
busy phase.Line = 0
busy _ = 1

-- a wait whose request is stored counts one
abbrev pub asked_by : WaitPhase → ℕ
asked_by p = if is_asking p then 0 else 1

-- the request that is stored besides those of the moves that were made
abbrev pub asked : Phase → ℕ
asked (phase.Syncing wait) = asked_by wait.phase
asked (phase.Quieting wait) = asked_by wait.phase
asked phase.Releasing = 1
asked phase.Closing = 1
asked _ = 0

-- more moves than a batch has
abbrev pub moves : ℕ
moves = 4 * FUNCS + 3

-- at most so many requests are stored for a line: those of the moves, and that of the last wait
abbrev pub requests_of_line : ℕ
requests_of_line = moves + 1

-- what a phase has is of the shape; a page has a store left, and a batch has a move left
abbrev pub HasLeft : Seated → Phase → Type 0
HasLeft c (phase.Writing page) = (page.shape ≡ c.shape) × (page.stored ≤ 2 * words_for page.shape.funcs)
HasLeft c (phase.Linking linker) = linker.shape ≡ c.shape
HasLeft c phase.Patching = c.made < moves
HasLeft c (phase.Syncing wait) = (wait.shape ≡ c.shape) × (c.made < moves)
HasLeft c (phase.Quieting wait) = wait.shape ≡ c.shape
HasLeft c _ = Unit {0}

-- what is seen of control keeps this
pub record IsSafe (c : Seated) : Type 0 where
  pub shape : IsShape c.shape
  pub desk : IsDeskIn c.shape c.desk
  pub plan : IsPlanIn c.shape c.desk.plan
  pub copied : length c.before.copies ≡ c.shape.users
  pub numbered : c.desk.commands ≡ c.commands_done + busy c.phase
  pub counted : c.commands_done ≤ c.line
  pub within : c.line + busy c.phase ≤ length c.order
  pub led : length c.order ≤ length c.all
  pub few : length c.all ≤ COMMANDS + UNTILS
  pub named : All (IsNamedLine c.shape.users) c.lines
  pub moved : c.made ≤ moves
  pub requests : c.request ≤ requests_of_line * c.line + c.made + asked c.phase
  pub left : HasLeft c c.phase

-- ## the fields

-- what contracts see
abbrev pub seated_of : Inside → Seated
seated_of d = record {
  shape = d.map;
  desk = d.desk;
  before = d.before.value;
  all = lines_of d.map.tasks d.lines.items;
  order = d.order.items;
  lines = lines_of d.map.tasks (picked d.lines.items d.order.items);
  line = d.line;
  commands_done = d.commands_done;
  request = d.request;
  answer = d.answer;
  made = d.batch.made;
  phase = d.phase;
  items = d.items.items;
}

-- the fields fit together, each line is in the shape and is led at most once, and there is room for the numbers of all lines and for all
-- items
pub record ControlInvariant (d : Inside) : Type 0 where
  pub safe : IsSafe (seated_of d)
  pub lines : All (IsLineIn d.desk.declared) d.lines.items
  pub led : AreLed (length d.lines.items) d.order.items
  pub space : vec_len d.lines ≤ vec_capacity d.order
  pub batch : d.batch.shape ≡ d.map
  pub room : vec_len d.items + 2 * vec_len d.lines ≤ vec_capacity d.items + 2 * d.line + busy d.phase
