-- The forms of a line, and the arguments that each of them takes.
use Rattle.std.specs.Prelude.{ℕ, Bool, true, false, List, [], ◌∷◌, codes, Option, Some, None, option_map, if◌then◌else◌}
use Rattle.std.specs.Str.{bytes_eq}
use Rattle.ft_base.specs.declared.context.Ctx.{Ctx}
use Rattle.ft_base.specs.declared.user.Half.{Half}
use Rattle.ft_base.specs.declared.user.Half.TheVariants.{Filter, Notrace}
use Rattle.ft_base.specs.declared.user.Kind.{Kind}
use Rattle.script_text.specs.Lines.{Word}
use Rattle.script_text.specs.Words.{both, all_read}
use Rattle.script_text.specs.Names.{name_of, number_of}
use Rattle.ft_schedule.specs.declared.item.SchedItem.{SchedItem}
use Rattle.ft_schedule.specs.Items.{some_items_of}

-- what a user does at its entry callbacks: it calls a function, or raises an interrupt that calls one
pub data UserAct : Type 0 where
  calls : (name : Word) → UserAct
  irqs : (name : Word) → UserAct

-- a user as its line declares it
pub record UserLine : Type 0 where
  pub name : Word
  pub kind : Kind
  pub regs : Bool
  pub ipmodify : Option Word
  pub pid : Bool
  pub act : Option UserAct

-- what a line says: names and numbers are as they are written
pub data LineForm : Type 0 where
  skip : LineForm  -- blank, or a comment
  version : (number : ℕ) → LineForm
  func : (name : Word) → (owner : Option Word) → LineForm
  depth : (frames : ℕ) → LineForm
  tramps : (slots : ℕ) → LineForm
  absent : (owner : Word) → LineForm
  ring : (entries : ℕ) → LineForm
  tracing_off : LineForm
  trigger : (text : Word) → LineForm
  user : (line : UserLine) → LineForm
  new_cpu : (cpu : ℕ) → (quantum : ℕ) → LineForm
  new_task : (pid : ℕ) → (cpu : ℕ) → LineForm
  new_lane : (lane : ℕ) → LineForm
  call : (function : Word) → LineForm
  ret : LineForm
  raise : (to : Ctx) → LineForm
  lower : LineForm  -- iret
  after : (commands : ℕ) → LineForm
  register : (name : Word) → LineForm
  unregister : (name : Word) → LineForm
  write : (half : Half) → (append : Bool) → (name : Word) → (text : Word) → LineForm  -- an empty text clears
  pids : (excluded : Bool) → (list : List ℕ) → LineForm  -- ctl nopid if these are excluded, or else ctl pid
  enable : (name : Word) → LineForm
  disable : (name : Word) → LineForm
  max_depth : (n : ℕ) → LineForm
  until : (pid : ℕ) → (acts : ℕ) → LineForm
  load : (owner : Word) → LineForm
  unload : (owner : Word) → LineForm
  sched : (items : List SchedItem) → LineForm

-- ---- arguments

-- the name, if the arguments are one name
abbrev pub only_name : List Word → Option Word
only_name (name ∷ []) = name_of name
only_name _ = None

-- the number, if the arguments are one number
abbrev pub only_number : List Word → Option ℕ
only_number (n ∷ []) = number_of n
only_number _ = None

-- the argument, if it is the only one
abbrev pub only_word : List Word → Option Word
only_word (word ∷ []) = Some word
only_word _ = None

-- a line that is its key alone
abbrev pub alone : LineForm → List Word → Option LineForm
alone form [] = Some form
alone form _ = None

-- ---- declarations

-- `ftrace 1`, `ftrace 2`, `ftrace 3`
abbrev pub version_form : List Word → Option LineForm
version_form (n ∷ []) =
    if bytes_eq n (codes "1") then Some (version 1)
    else if bytes_eq n (codes "2") then Some (version 2)
    else if bytes_eq n (codes "3") then Some (version 3)
    else None
version_form _ = None

-- `func NAME`, `func NAME MODULE`
abbrev pub func_form : List Word → Option LineForm
func_form (name ∷ []) = option_map (λ n. func n None) (name_of name)
func_form (name ∷ owner ∷ []) = both (λ n o. func n (Some o)) (name_of name) (name_of owner)
func_form _ = None

-- `tracing off`
abbrev pub tracing_form : List Word → Option LineForm
tracing_form (word ∷ []) = if bytes_eq word (codes "off") then Some tracing_off else None
tracing_form _ = None

-- `cpu N quantum Q`
abbrev pub cpu_form : List Word → Option LineForm
cpu_form (cpu ∷ word ∷ quantum ∷ []) = if bytes_eq word (codes "quantum") then both new_cpu (number_of cpu) (number_of quantum) else None
cpu_form _ = None

-- `task PID cpu N`
abbrev pub task_form : List Word → Option LineForm
task_form (pid ∷ word ∷ cpu ∷ []) = if bytes_eq word (codes "cpu") then both new_task (number_of pid) (number_of cpu) else None
task_form _ = None

-- ---- control

-- whether an arrow appends: `>` doesn't, `>>` does
abbrev pub arrow_of : Word → Option Bool
arrow_of word = if bytes_eq word (codes ">") then Some false else (if bytes_eq word (codes ">>") then Some true else None)

-- `ctl filter U > TEXT`, `ctl filter U >> TEXT`, `ctl filter U >`, and so with `notrace`
abbrev pub write_form : Half → List Word → Option LineForm
write_form half (name ∷ arrow ∷ []) = if bytes_eq arrow (codes ">") then option_map (λ n. write half false n []) (name_of name) else None
write_form half (name ∷ arrow ∷ text ∷ []) = both (λ n append. write half append n text) (name_of name) (arrow_of arrow)
write_form half _ = None

-- `ctl pid PID..`, `ctl nopid PID..`
abbrev pub pids_form : Bool → List Word → Option LineForm
pids_form excluded words = option_map (pids excluded) (all_read number_of words)

-- `ctl until PID N`
abbrev pub until_form : List Word → Option LineForm
until_form (pid ∷ acts ∷ []) = both until (number_of pid) (number_of acts)
until_form _ = None

-- commands without a list, the wait, and what loads and unloads a module
abbrev pub command_form : Word → List Word → Option LineForm
command_form key args =
    if bytes_eq key (codes "register") then option_map register (only_name args)
    else (if bytes_eq key (codes "unregister") then option_map unregister (only_name args)
    else (if bytes_eq key (codes "filter") then write_form Filter args
    else (if bytes_eq key (codes "notrace") then write_form Notrace args
    else (if bytes_eq key (codes "enable") then option_map enable (only_name args)
    else (if bytes_eq key (codes "disable") then option_map disable (only_name args)
    else (if bytes_eq key (codes "maxdepth") then option_map max_depth (only_number args)
    else (if bytes_eq key (codes "until") then until_form args
    else (if bytes_eq key (codes "load") then option_map load (only_name args)
    else (if bytes_eq key (codes "unload") then option_map unload (only_name args)
    else None)))))))))

-- a line of control, whose key this is
abbrev pub control_form : Word → List Word → Option LineForm
control_form key args =
    if bytes_eq key (codes "pid") then pids_form false args
    else (if bytes_eq key (codes "nopid") then pids_form true args
    else command_form key args)

-- `ctl`, and what control does
abbrev pub ctl_form : List Word → Option LineForm
ctl_form [] = None
ctl_form (key ∷ args) = control_form key args

-- `sched` and one or more items
abbrev pub sched_form : List Word → Option LineForm
sched_form words = option_map sched (some_items_of words)
