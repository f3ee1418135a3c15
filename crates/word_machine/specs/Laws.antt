-- What the laws of the whole machine say: sites that are settled, what is never done, values and words that fit, and what goes on from step
-- to step.
use Rattle.std.specs.Prelude.{ℕ, suc, ◌≡◌, ◌+◌, ◌*◌, ◌<◌, ◌≤◌, ◌⊎◌, Bool, true, false, List, [], ◌∷◌, length, Option, Some, None, ◌^◌, get_or, ◌==◌, sum_by}
use Rattle.ft_base.specs.declared.item.Item.{Item}
use Rattle.ft_base.specs.Job.{Job, no_task}
use Rattle.ft_hist.specs.Past.{done, begun}
use Rattle.ft_hist.specs.Rules.{IsUnvisited}
use Rattle.user_specs.specs.Bound.{call_bound_in}
use Rattle.history_laws.specs.Bound.{items_of, calls_of}
use Rattle.site_bytes.specs.Bytes.{breakpoint}
use Rattle.word_map.specs.Words.{Word, Words, read}
use Rattle.word_map.specs.Contents.{half_size, greatest_half, tramp_word, other_copy}
use Rattle.word_map.specs.Instructions.{head_of, tail_of, decode}
use Rattle.word_map.specs.Shapes.{shape_of}
use Rattle.word_map.specs.Places.{IsThere}
use Rattle.word_machine.specs.Commands.{insn, subject}
use Rattle.word_map.specs.Ops.{WordOp, Load, Store, Mark}
use Rattle.word_machine.specs.Control.{Position, Copy, Push, Await, Cpus, Tasks}
use Rattle.word_machine.specs.Task.{OpenCall, TaskState, Moment, Polling, First, Fetch, GotHead, GotBreak, InTramp, AtFirst, TestSel, TestFilter, TestNotrace, AtPids, AtDepth, Refusing, Calling, Missing, Acting, Ending, AtLink}
use Rattle.word_machine.specs.Cpu.{Cpu, Phase, Going, Looked, any_has_more, looks}
use Rattle.word_machine.specs.Machine.{World}
use Rattle.word_machine.specs.Verdicts.{WasTarget}
use Rattle.word_machine.specs.Calls.{under_call}
use Rattle.word_machine.specs.Rule.{MachineRule, IsOn}
use Rattle.std.specs.List.{filter, range_with_len}

-- the clock has room for the items so far
abbrev pub HasRoom : World → Type 0
HasRoom s = length s.past < half_size

-- ## sites

-- the bytes of a site are those of its target after the first k commands
abbrev pub HasTarget : Job → Words → ℕ → ℕ → Type 0
HasTarget job ws f k = (ws.head f ≡ head_of (insn job k f)) × (ws.tail f ≡ tail_of f (insn job k f))

-- a site's first byte is the breakpoint, or its bytes are those of its target after the commands that have returned or after those
-- that have begun; between commands they are the target's
pub record IsSettled (job : Job) (s : World) (f : ℕ) : Type 0 where
  pub whole : (s.words.head f ≡ breakpoint) ⊎ (HasTarget job s.words f (done s.past) ⊎ HasTarget job s.words f (begun s.past))
  pub between : begun s.past ≡ done s.past → HasTarget job s.words f (done s.past)

-- ## values

-- an open call of a stack whose top is at a moment: the call, those below it, and the moment at which it is
abbrev pub OpenAt : Moment → List OpenCall → Moment → OpenCall → List OpenCall → Type 0
OpenAt m [] m' top below = ⊥
OpenAt m (c ∷ cs) m' top below = ((m ≡ m') × (c ≡ top) × (cs ≡ below)) ⊎ OpenAt (under_call c cs) cs m' top below

-- a task of a CPU, present or not, has an open call that is at a moment
pub record IsAt (job : Job) (s : World) (c t : ℕ) (top : OpenCall) (below : List OpenCall) (m : Moment) : Type 0 where
  pub inside : c < length job.quanta
  pub on : IsOn job c t
  pub call : OpenAt ((s.cpus c).tasks t).moment ((s.cpus c).tasks t).stack m top below

-- the number of an instruction that there is: the target's after the commands that have returned, or after those that have begun
abbrev pub IsTarget : Job → World → ℕ → ℕ → Type 0
IsTarget job s f i = ((i ≡ insn job (done s.past) f) ⊎ (i ≡ insn job (begun s.past) f)) × (i < 2 + job.tramps)

-- both loads of a fetch are of one such instruction, which the loaded bytes decode to
abbrev pub Decodes : Job → World → ℕ → ℕ → Type 0
Decodes job s f byte =
    (i : ℕ) × IsTarget job s f i × (byte ≡ head_of i) × (s.words.tail f ≡ tail_of f i) × (decode f byte (s.words.tail f) ≡ i)

-- a word of the list names nobody, or a user of the job that the call has not visited
abbrev pub Names : Job → World → OpenCall → ℕ → Type 0
Names job s top w = (w ≡ 0) ⊎ ((u : ℕ) × (w ≡ suc u) × (u < length job.users) × IsUnvisited job top.call u s.past)

-- what a step asks of the value that it loads at a moment; at the others any value is right
abbrev pub Takes : Job → World → OpenCall → Moment → Type 0
Takes job s top (GotHead byte) = Decodes job s top.func byte
Takes job s top GotBreak = IsTarget job s top.func (s.words.next top.func)
Takes job s top (InTramp slot) = (u : ℕ) × (reg : ℕ) × (u < length job.users) × (s.words.tramp slot ≡ tramp_word reg u)
Takes job s top AtFirst = Names job s top s.words.first
Takes job s top (AtLink u) = Names job s top (s.words.link u)
Takes job s top _ = Unit {0}

-- The same of a number alone, as code can ask it of a value that it is handed; a mark of a callback, which takes any number, finds room in
-- the call's frame for one more user. The users of a frame have different numbers, so there are never more of them than users of the job
abbrev pub CallTakes : Job → OpenCall → Moment → ℕ → Type 0
CallTakes job c Fetch v = v < 256
CallTakes job c (GotHead byte) v = (i : ℕ) × (i < 2 + job.tramps) × (byte ≡ head_of i) × (v ≡ tail_of c.func i)
CallTakes job c GotBreak v = v < 2 + job.tramps
CallTakes job c (InTramp s) v = (u : ℕ) × (reg : ℕ) × (u < length job.users) × (v ≡ tramp_word reg u)
CallTakes job c AtFirst v = v ≤ length job.users
CallTakes job c (Calling u reg) v = length c.users < length job.users
CallTakes job c (AtLink u) v = v ≤ length job.users
CallTakes job c _ v = Unit {0}

-- of the top call's operation
abbrev pub StackTakes : Job → List OpenCall → Moment → ℕ → Type 0
StackTakes job [] m v = Unit {0}
StackTakes job (c ∷ below) m v = CallTakes job c m v

-- of the present task's operation: a poll loads a request
abbrev pub PresentTakes : Job → TaskState → Moment → ℕ → Type 0
PresentTakes job x Polling v = v < greatest_half
PresentTakes job x First v = Unit {0}
PresentTakes job x m v = StackTakes job x.stack m v

-- of a CPU's operation outside the stores of a poll and a look
abbrev pub GoingTakes : Job → Cpu → Bool → ℕ → Type 0
GoingTakes job me true v = PresentTakes job (me.tasks me.present) (me.tasks me.present).moment v
GoingTakes job me false v = v < greatest_half

-- of a CPU's operation at its present task: a look loads a request
abbrev pub LookTakes : Job → Cpu → Bool → ℕ → Type 0
LookTakes job me true v = v < greatest_half
LookTakes job me false v = GoingTakes job me (any_has_more job me) v

-- of a CPU's operation in a phase
abbrev pub PhaseTakes : Job → Cpu → Phase → ℕ → Type 0
PhaseTakes job me Going v = LookTakes job me (looks job me) v
PhaseTakes job me Looked v = GoingTakes job me (any_has_more job me) v
PhaseTakes job me _ v = Unit {0}

-- the value fits the CPU's next operation
abbrev pub CpuTakes : Job → Cpu → ℕ → Type 0
CpuTakes job me v = PhaseTakes job me me.phase v

-- ## what is never done

-- A trampoline is held for a call that is in it.
--   names    its word names a user, under the number of a registration
--   whose    the call's site had that user's own trampoline as its target after some command of the call's window, and it was this one, under
--            that registration
pub record IsHeldFor (job : Job) (s : World) (top : OpenCall) (slot u reg : ℕ) : Type 0 where
  pub names : s.words.tramp slot ≡ tramp_word reg u
  pub whose : WasTarget job s.past top slot u reg

-- the user whose state, sets or link a walker of the list will load next, or whom it calls
abbrev pub walked : Moment → Option ℕ
walked (TestSel u) = Some u
walked (TestFilter u copy reg) = Some u
walked (TestNotrace u copy reg) = Some u
walked (AtPids u reg) = Some u
walked (AtDepth u reg) = Some u
walked (Refusing u reg reason) = Some u
walked (Calling u reg) = Some u
walked (Missing u) = Some u
walked (Acting u o) = Some u
walked (Ending u) = Some u
walked (AtLink u) = Some u
walked _ = None

-- the user and the copy of its sets that a reader will load next
abbrev pub copy_read : Moment → Option (ℕ × ℕ)
copy_read (TestFilter u copy reg) = Some (u, copy)
copy_read (TestNotrace u copy reg) = Some (u, copy)
copy_read _ = None

-- control is about to store the link of a user that it adds
abbrev pub IsLinking : Job → World → ℕ → Type 0
IsLinking job s u = (s.control.position ≡ Push) × (u ≡ subject job s.control.commands_done)

-- control is about to store a word of a copy of a user's sets
abbrev pub IsWriting : Job → World → ℕ → ℕ → Type 0
IsWriting job s u copy = (half : ℕ) × (w : ℕ) × (s.control.position ≡ Copy half w) × (u ≡ subject job s.control.commands_done)
    × (copy ≡ other_copy (s.control.copies u))

-- ## the length of a history

-- the tasks of a CPU
abbrev pub tasks_on : Job → ℕ → List ℕ
tasks_on job c = filter (λ t. (get_or job.tasks t no_task).cpu == c) (range_with_len 0 (length job.tasks))

-- the items that they have among these
abbrev pub items_on : Job → ℕ → List Item → ℕ
items_on job c items = sum_by (λ t. items_of t items) (tasks_on job c)

-- the room that code takes for them at its start: `call_bound` for each call of their scripts
abbrev pub room_on : Job → ℕ → ℕ
room_on job c = call_bound_in job * sum_by (λ t. calls_of job t) (tasks_on job c)

-- ## words

-- each word has a content of 64 bits
abbrev pub AllFit : Words → Type 0
AllFit ws = (w : Word) → read w ws < 2 ^ 64

-- an operation, if there is one, is on a word that the job has
abbrev pub IsOnWord : Job → Option WordOp → Type 0
IsOnWord job None = Unit {0}
IsOnWord job (Some (Load w)) = IsThere (shape_of job) w
IsOnWord job (Some (Store w x)) = IsThere (shape_of job) w
IsOnWord job (Some (Mark item)) = Unit {0}

-- ## what goes on from step to step

-- control waits for a CPU or a task that the job has
abbrev pub WaitsAt : Job → Position → Type 0
WaitsAt job (Await (Cpus rest) c) = c < length job.quanta
WaitsAt job (Await Tasks t) = t < length job.tasks
WaitsAt job _ = Unit {0}

-- What code carries from step to step.
--   kept    the rule
--   waits   control waits for somebody that there is
--   fits    each word fits
pub record Runs (job : Job) (s : World) : Type 0 where
  pub kept : MachineRule job s
  pub waits : WaitsAt job s.control.position
  pub fits : AllFit s.words
