-- The script that a number generates: the lines in their order, and what is drawn for them.
use Rattle.std.specs.Prelude.{ℕ, zero, suc, ◌+◌, ◌*◌, ◌/◌, ◌%◌, ◌^◌, ◌==◌, nat_lt, List, [], ◌++◌, codes, if◌then◌else◌}
use Rattle.std.specs.Fmt.{decimal}
use Rattle.ft_schedule.specs.declared.bulk.TheConstants.{BULK_FUNCTIONS, BULK_MODULES, BULK_USERS, BULK_CPUS, LEAST_QUANTUM, QUANTA, BULK_TASKS, FIRST_PID, BULK_GROUPS, BULK_COMMANDS, COMMAND_KINDS, PREFIXES, MULTIPLIER, INCREMENT, LOW_BITS}

-- the state of the generator after this one
unfoldable pub next_state : ℕ → ℕ
next_state s = (s * MULTIPLIER + INCREMENT) % 2 ^ 64

-- the number below a bound that a state gives: the remainder of its high bits
abbrev pub drawn : ℕ → ℕ → ℕ
drawn bound s = s / 2 ^ LOW_BITS % bound

-- a part of the script: its text, and the state after the last number that is drawn for it
pub record Part : Type 0 where
  pub text : List ℕ
  pub state : ℕ

-- this many parts, numbered from 0: each draws on from the state that the one before it leaves
unfoldable pub several : (ℕ → ℕ → Part) → ℕ → ℕ → Part
several part zero s = record { text = []; state = s }
several part (suc n) s =
    let before = several part n s in
    let last = part n before.state in
    record { text = before.text ++ last.text; state = last.state }

-- `func fI mJ`, J being the remainder of I: without a module if that is 0
abbrev pub function_line : ℕ → List ℕ
function_line i =
    let module_of = i % BULK_MODULES in
    if module_of == 0 then codes "func f" ++ (decimal i ++ codes "\n")
    else codes "func f" ++ (decimal i ++ (codes " m" ++ (decimal module_of ++ codes "\n")))

-- this many functions, numbered from 0
unfoldable pub function_lines : ℕ → List ℕ
function_lines zero = []
function_lines (suc i) = function_lines i ++ function_line i

-- the users, of all kinds
abbrev pub user_lines : List ℕ
user_lines =
    codes "user u0 function\n"
    ++ (codes "user u1 function pid\n"
    ++ (codes "user u2 graph\n"
    ++ (codes "user u3 fprobe exit\n"
    ++ (codes "user u4 fprobe exit cancel\n"
    ++ codes "user u5 profile\n"))))

-- `cpu C quantum Q`, Q being drawn
abbrev pub cpu_part : ℕ → ℕ → Part
cpu_part c s =
    let first = next_state s in
    let quantum = LEAST_QUANTUM + drawn QUANTA first in
    record {
      text = codes "cpu " ++ (decimal c ++ (codes " quantum " ++ (decimal quantum ++ codes "\n")));
      state = first;
    }

-- `call fF`
abbrev pub call_line : ℕ → List ℕ
call_line f = codes "call f" ++ (decimal f ++ codes "\n")

-- `ret`
abbrev pub ret_line : List ℕ
ret_line = codes "ret\n"

-- a call of X, and in it a call of Y and then one of Z: the three are drawn in this order
abbrev pub group_part : ℕ → Part
group_part s =
    let first = next_state s in
    let second = next_state first in
    let third = next_state second in
    let x = drawn BULK_FUNCTIONS first in
    let y = drawn BULK_FUNCTIONS second in
    let z = drawn BULK_FUNCTIONS third in
    record {
      text = call_line x ++ (call_line y ++ (ret_line ++ (call_line z ++ (ret_line ++ ret_line))));
      state = third;
    }

-- `task P cpu C`: the pids follow one another, and the tasks go to the CPUs in turn
abbrev pub task_line : ℕ → List ℕ
task_line t = codes "task " ++ (decimal (FIRST_PID + t) ++ (codes " cpu " ++ (decimal (t % BULK_CPUS) ++ codes "\n")))

-- a task and its groups of calls
abbrev pub task_part : ℕ → ℕ → Part
task_part t s =
    let groups = several (λ _. group_part) BULK_GROUPS s in
    record { text = task_line t ++ groups.text; state = groups.state }

-- a command of a kind, from 0 to 7, with a user: the glob of a filter text is drawn after them, and so is the task of `pid`
abbrev pub command_of : ℕ → ℕ → ℕ → Part
command_of kind user s =
    let first = next_state s in
    let u = decimal user in
    let prefix = decimal (drawn PREFIXES first) in
    let pid = decimal (FIRST_PID + drawn BULK_TASKS first) in
    if nat_lt kind 3 then record { text = codes "ctl register u" ++ (u ++ codes "\n"); state = s }
    else (if kind == 3 then record { text = codes "ctl unregister u" ++ (u ++ codes "\n"); state = s }
    else (if kind == 4 then record { text = codes "ctl filter u" ++ (u ++ (codes " > f" ++ (prefix ++ codes "*\n"))); state = first }
    else (if kind == 5 then record { text = codes "ctl notrace u" ++ (u ++ (codes " > f" ++ (prefix ++ codes "*\n"))); state = first }
    else (if kind == 6 then record { text = codes "ctl filter u" ++ (u ++ codes " >\n"); state = s }
    else record { text = codes "ctl pid " ++ (pid ++ codes "\n"); state = first }))))

-- a command: its kind is drawn first, and then a user
abbrev pub command_part : ℕ → Part
command_part s =
    let first = next_state s in
    let second = next_state first in
    command_of (drawn COMMAND_KINDS first) (drawn BULK_USERS second) second

-- the script of a number, which is the state to begin with: the CPUs draw first, then the tasks, and then the commands
unfoldable pub bulk_text : ℕ → List ℕ
bulk_text n =
    let cpus = several cpu_part BULK_CPUS n in
    let tasks = several task_part BULK_TASKS cpus.state in
    let commands = several (λ _. command_part) BULK_COMMANDS tasks.state in
    codes "ftrace 1\n" ++ (function_lines BULK_FUNCTIONS ++ (user_lines ++ (cpus.text ++ (tasks.text ++ commands.text))))
