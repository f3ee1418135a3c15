-- The rule of call sites: how far each changed one is, which requests a CPU has acknowledged, and what a fetch under way has loaded.
use Rattle.std.specs.Prelude.{ℕ, zero, suc, ◌≡◌, ◌+◌, ◌-◌, ◌*◌, ◌<◌, ◌≤◌, ◌==◌, ◌⊎◌, Bool, true, false, nat_lt, List, ◌∷◌, ◌++◌, sum_by, if◌then◌else◌}
use Rattle.ft_base.specs.Job.{Job, funcs}
use Rattle.site_bytes.specs.Bytes.{breakpoint}
use Rattle.word_map.specs.Words.{Word, Head, Tail, Next}
use Rattle.word_map.specs.Instructions.{head_of, tail_of}
use Rattle.patch_core.specs.Moves.{Move, Put, Sync, Done}
use Rattle.word_machine.specs.Commands.{insn, changes, moves, effect, subject, set_words, has_slot_at}
use Rattle.word_machine.specs.Control.{Position, Copy, Patch, Ask, Await, Cpus, Tasks, Release, Close, Take}
use Rattle.word_machine.specs.Task.{Moment, GotHead, GotBreak}
use Rattle.word_machine.specs.Progress.{comes_to, asked_in, syncs_in}

-- ## how far a batch is: by the moves that are left of it

-- one of the three words of a site
abbrev pub is_of_site : ℕ → Word → Bool
is_of_site f (Head g) = g == f
is_of_site f (Tail g) = g == f
is_of_site f (Next g) = g == f
is_of_site f _ = false

-- how many stages a move takes a site that changes: a store into one of its words one, and a sync two, by its request and by its end
abbrev pub stages_by : ℕ → Move → ℕ
stages_by f (Put w x) = if is_of_site f w then 1 else 0
stages_by f Sync = 2
stages_by f Done = 0

-- how many stages such a site has before it
abbrev pub stages_left : ℕ → List Move → ℕ
stages_left f rest = sum_by (stages_by f) rest

-- how far a site that changes is when control is at a position: 0 not begun, 1 the third word is stored, 2 the breakpoint, 3 the first
-- request, 4 the first sync is over, 5 the tail is stored, 6 the second request, 7 the second sync is over, 8 the new first byte is
-- stored, 9 the third request, 10 the third sync is over
abbrev pub stage_in : Position → ℕ → ℕ
stage_in (Patch w x rest) f = 10 - (stages_by f (Put w x) + stages_left f rest)
stage_in (Ask (Cpus rest)) f = 8 - stages_left f rest
stage_in (Await (Cpus rest) c) f = 9 - stages_left f rest
stage_in (Ask Tasks) f = 10
stage_in (Await Tasks t) f = 10
stage_in Release f = 10
stage_in Close f = 10
stage_in _ f = 0

-- a site that the command does not change stays at 0
abbrev pub stage_by : Bool → ℕ → ℕ
stage_by b n = if b then n else 0

-- how far a site is
abbrev pub stage : Job → ℕ → Position → ℕ → ℕ
stage job d p f = stage_by (changes job d f) (stage_in p f)

-- how many of the batch's three requests are stored
abbrev pub asks : Position → ℕ
asks (Patch w x rest) = 3 - syncs_in rest
asks (Ask (Cpus rest)) = 2 - syncs_in rest
asks (Await (Cpus rest) c) = 3 - syncs_in rest
asks _ = 0

-- what each CPU has acknowledged after so many syncs of the batch; `base` is the number of requests before it
abbrev pub synced : ℕ → ℕ → ℕ
synced base zero = 0
synced base (suc k) = base + suc k

-- what CPU c has acknowledged, as far as control knows
abbrev pub reached : ℕ → Position → ℕ → ℕ
reached base (Patch w x rest) c = synced base (3 - syncs_in rest)
reached base (Ask (Cpus rest)) c = synced base (2 - syncs_in rest)
reached base (Await (Cpus rest) k) c = if nat_lt c k then synced base (3 - syncs_in rest) else synced base (2 - syncs_in rest)
reached base _ c = 0

-- the batch of the command after the first d has this move, and these after it
abbrev pub IsMove : Job → ℕ → Move → List Move → Type 0
IsMove job d m rest = (before : List Move) × (moves job d ≡ before ++ m ∷ rest)

-- what control's position names is there: a move of the batch, a word of a set, a trampoline that the user has
abbrev pub PositionAt : Job → ℕ → Position → Type 0
PositionAt job d (Patch w x rest) = IsMove job d (Put w x) rest
PositionAt job d (Ask (Cpus rest)) = IsMove job d Sync rest
PositionAt job d (Await (Cpus rest) c) = IsMove job d Sync rest
PositionAt job d (Copy half w) = (half < 2) × (w < set_words job)
PositionAt job d Take = has_slot_at job (suc d) (subject job d) ≡ true
PositionAt job d Release = has_slot_at job d (subject job d) ≡ true
PositionAt job d _ = Unit {0}

-- ## the words of a site

-- The words of a site, by its stage n, with the numbers of its old and its new instruction.
--   before, broken, after   the first byte. Without `broken` a CPU could load the old first byte and then the new tail
--   tail_old, tail_new      the other four. The tail changes only under the breakpoint
--   next_new                the third word, for whoever loads the breakpoint. Without it that CPU would act as an older instruction
pub record SiteAt (n f old new head tail next : ℕ) : Type 0 where
  pub before : n < 2 → head ≡ head_of old
  pub broken : 2 ≤ n → n < 8 → head ≡ breakpoint
  pub after : 8 ≤ n → head ≡ head_of new
  pub tail_old : n < 5 → tail ≡ tail_of f old
  pub tail_new : 5 ≤ n → tail ≡ tail_of f new
  pub next_new : 1 ≤ n → next ≡ new

-- A fetch between its loads, without a breakpoint: its first byte is the old one, and the breakpoint is not stored or the CPU has not
-- acknowledged the first sync, so the tail is still the old one; or it is the new one, and so is the tail. Otherwise the CPU would put
-- the first byte of one instruction and the tail of another together
abbrev pub PlainFetch : ℕ → ℕ → ℕ → ℕ → ℕ → ℕ → Type 0
PlainFetch n old new base ack byte = ((byte ≡ head_of old) × ((n < 2) ⊎ ((n < 4) × (ack < base + 1)))) ⊎ ((8 ≤ n) × (byte ≡ head_of new))

-- A fetch between its loads, after a breakpoint: the site is in the batch, and the CPU has not acknowledged the third sync, so the third
-- word is still this batch's. Otherwise the next command could have stored the third word anew
abbrev pub BreakpointFetch : ℕ → ℕ → ℕ → Type 0
BreakpointFetch n base ack = (2 ≤ n) × (n < 10) × (ack < base + 3)

-- a fetch under way, by the moment at which its task is
abbrev pub FetchAt : ℕ → ℕ → ℕ → ℕ → ℕ → Moment → Type 0
FetchAt n old new base ack (GotHead byte) = PlainFetch n old new base ack byte
FetchAt n old new base ack GotBreak = BreakpointFetch n base ack
FetchAt n old new base ack _ = Unit {0}

-- The sites, the requests and control's position.
--   asked       the requests of the batch come after those before it. A number that was used before would let a sync pass at once
--   few, want   requests are counted, and the word has their number, so a CPU acknowledges what control waits for
--   position    control is only where its command has something to store; else it would patch a site that stays, or free no trampoline
--   fit         and only where its command comes to
--   sites       each site's words follow its stage; at stage 0 and from stage 10 on they are whole
pub record SitesInPatching (job : Job) (d : ℕ) (p : Position) (base request wanted : ℕ) (head : ℕ → ℕ) (tail : ℕ → ℕ) (next : ℕ → ℕ) : Type 0 where
  pub asked : request ≡ base + asks p
  pub few : request ≤ 4 * d + asked_in p
  pub want : wanted ≡ request
  pub position : PositionAt job d p
  pub fit : comes_to (effect job d) p ≡ true
  pub sites : (f : ℕ) → f < funcs job → SiteAt (stage job d p f) f (insn job d f) (insn job (suc d) f) (head f) (tail f) (next f)
