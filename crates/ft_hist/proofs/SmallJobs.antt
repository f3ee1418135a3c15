-- Small jobs, at which histories that aren't legal are tried.
use Rattle.std.proofs.Common.{ℕ, true, false, List, [], ◌∷◌, Option, Some, None, codes}
use Rattle.ft_base.specs.declared.number.CallNo.{CallNo}
use Rattle.ft_base.specs.declared.number.FuncNo.{FuncNo}
use Rattle.ft_base.specs.declared.user.Kind.{Kind}
use Rattle.ft_base.specs.declared.user.Kind.TheVariants.{Function, Graph, Fprobe, Profile}
use Rattle.ft_base.specs.declared.user.Act.TheVariants.{CallIn}
use Rattle.ft_base.specs.declared.task.TaskAct.{TaskAct}
use Rattle.ft_base.specs.declared.task.TaskAct.TheVariants.{Call, Ret as RetAct, After}
use Rattle.ft_base.specs.Job.{usual_lines, usual_rings, Job, Func, Spec, Ctl, Register, Unregister, Filter, Disable, Pid, MaxDepth, Run, Until}

-- a call of a task, both by number
abbrev pub call_in : ℕ → ℕ → CallNo
call_in t n = record { task = record { 0 = t }; n = n }

-- a function by its name, and by its module if it is in one
abbrev pub named : List ℕ → Option (List ℕ) → Func
named name owner = record { name = name; owner = owner }

-- ## parts of jobs

-- the functions a, b, c and d, of which a job has all
abbrev a : FuncNo
a = record { 0 = 0 }

abbrev b : FuncNo
b = record { 0 = 1 }

abbrev c : FuncNo
c = record { 0 = 2 }

abbrev d : FuncNo
d = record { 0 = 3 }

-- a user of this kind, with no flag and no act
abbrev pub plain_user : Kind → Spec
plain_user kind = record { name = codes "u"; kind = kind; regs = false; ipmodify = None; pid = false; act = None }

-- a task makes these acts on the only CPU, while control goes through these lines
abbrev pub one_task : List Spec → List TaskAct → List Ctl → Job
one_task users acts ctls = record {
  version = 1;
  functions = named (codes "a") None ∷ named (codes "b") None ∷ named (codes "c") None ∷ named (codes "d") None ∷ [];
  users = users;
  frames = 50;
  tramps = 16;
  quanta = 100 ∷ [];
  tasks = record { pid = 10; cpu = 0; acts = acts } ∷ [];
  ctls = ctls;
  schedule = [];
  lines = usual_lines;
  rings = usual_rings;
}

-- it calls a after the first command, and returns
abbrev one_call : List TaskAct
one_call = After 1 ∷ Call a ∷ RetAct ∷ []

-- it calls a, and in it b
abbrev pub two_calls : List TaskAct
two_calls = Call a ∷ Call b ∷ RetAct ∷ RetAct ∷ []

-- ## jobs

abbrev pub first_path : Job
first_path = one_task (plain_user Function ∷ []) one_call (Run (Register 0) ∷ [])

-- the call may come before the command
abbrev pub unordered : Job
unordered = one_task (plain_user Function ∷ []) (Call a ∷ RetAct ∷ []) (Run (Register 0) ∷ [])

abbrev pub list_then_own : Job
list_then_own = one_task (plain_user Function ∷ plain_user Function ∷ []) (After 2 ∷ Call a ∷ RetAct ∷ After 3 ∷ Call a ∷ RetAct ∷ [])
    (Run (Register 0) ∷ Run (Register 1) ∷ Until 0 3 ∷ Run (Unregister 0) ∷ [])

abbrev pub repeated_commands : Job
repeated_commands = one_task (plain_user Function ∷ []) [] (Run (Register 0) ∷ Run (Register 0) ∷ Run (Unregister 0) ∷ Run (Unregister 0) ∷ [])

abbrev replacing_user : Spec
replacing_user = record (plain_user Function) { regs = true; ipmodify = Some d }

-- both users replace functions: the first a and b, the second b and c
abbrev pub two_ipmodify_users : Job
two_ipmodify_users = one_task (replacing_user ∷ replacing_user ∷ []) (After 7 ∷ Call b ∷ RetAct ∷ [])
    (Run (Filter 0 (record { append = false; remove = false; clear = false; set = true ∷ false ∷ false ∷ false ∷ [] }))
    ∷ Run (Filter 0 (record { append = true; remove = false; clear = false; set = false ∷ true ∷ false ∷ false ∷ [] }))
    ∷ Run (Filter 1 (record { append = false; remove = false; clear = false; set = false ∷ true ∷ true ∷ false ∷ [] }))
    ∷ Run (Register 0) ∷ Run (Register 1) ∷ Run (Unregister 0) ∷ Run (Register 1) ∷ [])

-- the user's act calls b
abbrev pub recursion : Job
recursion = one_task (record (plain_user Function) { act = Some (CallIn b) } ∷ []) one_call (Run (Register 0) ∷ [])

-- and in version 2
abbrev pub two_levels : Job
two_levels = record recursion { version = 2; tramps = 64 }

-- three calls, and frames for two
abbrev pub full_shadow_stack : Job
full_shadow_stack = record (one_task (plain_user Graph ∷ []) (After 1 ∷ Call a ∷ Call b ∷ Call c ∷ RetAct ∷ RetAct ∷ RetAct ∷ []) (Run (Register 0) ∷ [])) { frames = 2 }

-- two calls, and a frame for one
abbrev pub fprobe_misses : Job
fprobe_misses = record (one_task (plain_user (Fprobe true false) ∷ []) (After 1 ∷ two_calls) (Run (Register 0) ∷ [])) { frames = 1 }

-- and the entry callback cancels the exit
abbrev pub fprobe_cancels : Job
fprobe_cancels = record (one_task (plain_user (Fprobe true true) ∷ []) (After 1 ∷ two_calls) (Run (Register 0) ∷ [])) { frames = 1 }

abbrev pub registered_again : Job
registered_again = one_task (plain_user Graph ∷ []) (After 1 ∷ Call a ∷ After 3 ∷ RetAct ∷ Call a ∷ RetAct ∷ []) (Run (Register 0) ∷ Until 0 2 ∷ Run (Unregister 0) ∷ Run (Register 0) ∷ [])

-- two tasks on a CPU, of which the pid list has the first
abbrev pub pids : Job
pids = record (one_task (record (plain_user Function) { pid = true } ∷ []) [] (Run (Register 0) ∷ Run (Pid (true ∷ false ∷ [])) ∷ Until 0 3 ∷ Run (MaxDepth 0) ∷ [])) {
  tasks = record { pid = 10; cpu = 0; acts = After 2 ∷ Call a ∷ RetAct ∷ [] } ∷ record { pid = 11; cpu = 0; acts = After 3 ∷ Call a ∷ RetAct ∷ [] } ∷ [];
}

abbrev pub disabled_fprobe : Job
disabled_fprobe = one_task (plain_user (Fprobe true false) ∷ []) (After 1 ∷ Call a ∷ After 2 ∷ RetAct ∷ Call a ∷ RetAct ∷ []) (Run (Register 0) ∷ Until 0 2 ∷ Run (Disable 0) ∷ [])

abbrev pub unregistered_in_call : Job
unregistered_in_call = one_task (plain_user Function ∷ []) one_call (Run (Register 0) ∷ Until 0 1 ∷ Run (Unregister 0) ∷ [])

abbrev pub profile_user : Job
profile_user = one_task (plain_user Profile ∷ []) (After 1 ∷ two_calls) (Run (Register 0) ∷ [])
