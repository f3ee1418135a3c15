-- The rule that holds between any two steps of the word machine. Here are the CPUs and their polls, control's lines, the counts, and the
-- whole; the files above have call sites, the list of users, the copies of sets, the trampolines, calls and tasks.
use Rattle.std.specs.Prelude.{ℕ, ◌≡◌, ◌+◌, ◌*◌, ◌<◌, ◌≤◌, true, false, List, ◌∷◌, ◌++◌, length, get_or, IsSome, slice_get}
use Rattle.std.specs.List.{AllByRecursion as Each}
use Rattle.ft_base.specs.declared.limits.TheConstants.{TASKS, FUNCS}
use Rattle.ft_base.specs.declared.item.Item.{Item}
use Rattle.ft_base.specs.Job.{Job, Command, Ctl, Run, Until, no_task, commands, commands_in, funcs, waits_before}
use Rattle.ft_base.specs.WellFormed.{IsWellFormed}
use Rattle.ft_hist.specs.Past.{done, begun}
use Rattle.ft_hist.specs.Plain.{plain}
use Rattle.ft_hist.specs.Rules.{IsLegalPast}
use Rattle.user_specs.specs.Bound.{call_bound_in}
use Rattle.history_laws.specs.Bound.{all_calls}
use Rattle.word_map.specs.Contents.{low, half_size, halves, greatest_half, all_ones}
use Rattle.word_machine.specs.Control.{Position, Line}
use Rattle.word_machine.specs.Task.{TaskState, Polling, is_fetching}
use Rattle.word_machine.specs.Cpu.{Cpu, Phase, Going, Looked, Answering, StoringAck, StoringQuiet, Over, any_has_more, has_more, ack_value}
use Rattle.word_machine.specs.Machine.{World}
use Rattle.word_machine.specs.Progress.{begun_at}
use Rattle.word_machine.specs.Sites.{SitesInPatching, reached}
use Rattle.word_machine.specs.UserList.{UserList}
use Rattle.word_machine.specs.HashCopies.{HashCopies}
use Rattle.word_machine.specs.Trampolines.{TrampolinesHeld, PidsAndDepth}
use Rattle.word_machine.specs.Verdicts.{Here}
use Rattle.word_machine.specs.Tasks.{HasTold, TaskRule}

-- ## a CPU

-- a task of the CPU
abbrev pub IsOn : Job → ℕ → ℕ → Type 0
IsOn job c t = (t < length job.tasks) × ((get_or job.tasks t no_task).cpu ≡ c)

-- the quiet words of the CPU's tasks tell of no request above the one that a poll has loaded
abbrev pub WordsBelow : Job → ℕ → Cpu → ℕ → Type 0
WordsBelow job c me r = (t : ℕ) → IsOn job c t → HasTold r (has_more me.tasks t) greatest_half (low (me.tasks t).word)

-- a poll is made before an act of the present task, so no fetch is under way on the CPU
abbrev pub Polls : Job → Cpu → Type 0
Polls job me = any_has_more job me ≡ true → (me.tasks me.present).moment ≡ Polling

-- How far a poll or a look is. A poll tells of no request but the one that it loaded, first of the CPU and then of its tasks; outside a poll
-- that is what the CPU's own word says, and at its end all ones. A look tells of its request for the CPU alone
abbrev pub PollAt : Job → ℕ → ℕ → Cpu → Phase → Type 0
PollAt job request c me Going = (me.ack ≤ request) × WordsBelow job c me me.ack
PollAt job request c me Looked = (me.ack ≤ request) × WordsBelow job c me me.ack
PollAt job request c me (Answering r) = (r ≤ request) × (me.ack ≤ r) × WordsBelow job c me me.ack × (any_has_more job me ≡ true)
PollAt job request c me (StoringAck r) = (r ≤ request) × (me.ack ≤ r) × WordsBelow job c me r × Polls job me
PollAt job request c me (StoringQuiet r t) = (r ≤ request) × (me.ack ≡ ack_value job me r) × WordsBelow job c me r × Polls job me × IsOn job c t
PollAt job request c me Over = (any_has_more job me ≡ false) × (me.ack ≡ all_ones)

-- A CPU.
--   number, stored   it knows its number, and what its own word holds
--   acked            that word tells of no request that is not stored. Otherwise a sync would be over before the CPU came to it
--   reach            what control has seen acknowledged is so
--   polls            how far a poll is
--   present          the present task is on the CPU and has an act left
--   alone            nobody but the present task fetches, and no poll or look lies within a fetch. Otherwise an acknowledgement would come between
--                    two loads, and the second load could be of another instruction
--   tasks            what its tasks know
pub record CpuRule (job : Job) (h : Here) (past : List Item) (ack : ℕ) (quiet : ℕ → ℕ) (c : ℕ) (me : Cpu) : Type 0 where
  pub number : me.number ≡ c
  pub stored : me.ack ≡ ack
  pub acked : HasTold h.request (any_has_more job me) all_ones ack
  pub reach : reached h.base h.p c ≤ ack
  pub polls : PollAt job h.request c me me.phase
  pub present : any_has_more job me ≡ true → IsOn job c me.present × (has_more me.tasks me.present ≡ true)
  pub alone : (t : ℕ) → IsOn job c t → is_fetching (me.tasks t).moment ≡ true → (t ≡ me.present) × (me.phase ≡ Going)
  pub tasks : (t : ℕ) → IsOn job c t → TaskRule job h past ack (quiet t) t (me.tasks t)

-- ## control's lines, and the counts

-- the state of a task, which its CPU has
abbrev pub task_in : Job → (ℕ → Cpu) → ℕ → TaskState
task_in job cpus t = (cpus (get_or job.tasks t no_task).cpu).tasks t

-- a command under way is that of the present line
abbrev pub UnderAt : Position → List Ctl → Type 0
UnderAt Line remaining = Unit {0}
UnderAt _ remaining = (c : Command) × (rest : List Ctl) × (remaining ≡ Run c ∷ rest)

-- Control's lines.
--   waits, met, before   the waits above the present line have been met. Otherwise a command would begin before the acts that it waits for
--   within, commands     the commands to come are those of the remaining lines, so each has its number
--   under                a command under way is that of the present line
pub record ControlLines (job : Job) (d : ℕ) (p : Position) (remaining : List Ctl) (gone : ℕ → ℕ) : Type 0 where
  pub waits : List (ℕ × ℕ)
  pub met : Each (λ w. w.1 ≤ gone w.0) waits
  pub before : (n : ℕ) → waits_before (d + n) job.ctls ≡ waits ++ waits_before n remaining
  pub within : d ≤ length (commands job)
  pub commands : (n : ℕ) → slice_get (commands job) (d + n) ≡ slice_get (commands_in remaining) n
  pub under : UnderAt p remaining

-- The counts.
--   returned, started   control's count is that of the history
--   clock'              the halves of the clock are the counts of the history. Otherwise a task's wait would be met too early, or an item
--                       would have another's place
--   room                the low half does not run into the high one
pub record Counts (d : ℕ) (p : Position) (clock : ℕ) (past : List Item) : Type 0 where
  pub returned : done past ≡ d
  pub started : begun past ≡ begun_at p d
  pub clock' : clock ≡ halves (done past + begun past) (length past)
  pub room : length past < half_size

-- ## the rule

-- what tasks' facts read of a state, with this many requests before the batch
abbrev pub here : World → ℕ → Here
here s base = record {
  d = s.control.commands_done;
  p = s.control.position;
  base = base;
  request = s.control.request;
  order = s.control.order;
  copies = s.control.copies;
  link = s.words.link;
  bits = s.words.bits;
}

-- The rule of the machine.
--   base            how many requests were stored before the batch
--   counts          the clock and the history count alike
--   legal, runs     the history so far is legal, and each task is on its plain run
--   lines           control's waits are met, and its command is the present line's
--   sites           call sites, in patching and outside it
--   list            the list of users
--   sets            users' states, and the copies of their sets
--   tramps          the trampolines
--   limits          the traced tasks and the graph depth
--   cpus            each CPU, its polls and fetches, and with it each task, its stack, its guards, and what its calls have loaded
pub record MachineRule (job : Job) (s : World) : Type 0 where
  pub base : ℕ
  pub counts : Counts s.control.commands_done s.control.position s.words.clock s.past
  pub legal : IsLegalPast job s.past
  pub runs : (t : ℕ) → IsSome (plain job t s.past)
  pub lines : ControlLines job s.control.commands_done s.control.position s.control.remaining (λ t. (task_in job s.cpus t).gone)
  pub sites : SitesInPatching job s.control.commands_done s.control.position base s.control.request s.words.want s.words.head s.words.tail s.words.next
  pub list : UserList job s.control.commands_done s.control.position s.control.order s.words.first s.words.link
  pub sets : HashCopies job s.control.commands_done s.control.position s.control.copies s.words.sel s.words.bits
  pub tramps : TrampolinesHeld job s.control.commands_done s.control.position s.words.tramp
  pub limits : PidsAndDepth job s.control.commands_done s.control.position s.words.pids s.words.depth
  pub cpus : (c : ℕ) → c < length job.quanta → CpuRule job (here s base) s.past (s.words.ack c) s.words.quiet c (s.cpus c)

-- ## jobs

-- What the laws below the public ones ask of a job.
--   job'     each number names something, and each return has its call
--   placed   each task is on a CPU of the job
--   waits    control waits for tasks of the job
--   few, users   requests and names of users fit into a half of a word
--   room     so do the items of a history: at most two for a command and the bound of a call for each call of a script
--   tasks    a task has a bit in the word of the traced tasks
--   sites    each function has an address
pub record IsWordJob (job : Job) : Type 0 where
  pub job' : IsWellFormed job
  pub placed : (t : ℕ) → t < length job.tasks → (get_or job.tasks t no_task).cpu < length job.quanta
  pub waits : (t n : ℕ) (rest before : List Ctl) → job.ctls ≡ before ++ Until t n ∷ rest → t < length job.tasks
  pub few : 4 * length (commands job) + 4 < greatest_half
  pub users : length job.users < greatest_half
  pub room : 2 * length (commands job) + call_bound_in job * all_calls job.tasks < half_size
  pub tasks : length job.tasks ≤ TASKS
  pub sites : funcs job ≤ FUNCS
