-- The moves of a batch, which changes call sites while CPUs run them (the kernel's text patching with breakpoints).
use Rattle.std.specs.Prelude.{ℕ, ◌<◌, Bool, true, false, List, [], ◌∷◌, ◌++◌, map, get_or}
use Rattle.site_bytes.specs.Bytes.{breakpoint, head_byte, tail_number}
use Rattle.site_bytes.specs.declared.insn.Insn.{Insn}
use Rattle.site_bytes.specs.declared.insn.Insn.TheVariants.{Own}
use Rattle.site_bytes.specs.declared.insn.SiteChange.{SiteChange}
use Rattle.word_map.specs.declared.shape.Shape.{Shape}
use Rattle.word_map.specs.Words.{Word, Head, Tail, Next}
use Rattle.word_map.specs.Instructions.{number_of}
use Rattle.word_map.specs.Ops.{Store, placed}
use Rattle.patch_core.specs.declared.batch.BatchNext.{BatchNext}
use Rattle.patch_core.specs.declared.batch.BatchNext.TheVariants as code

-- a move: a store into a word, a wait until each CPU has acknowledged a request, or none any more
pub data Move : Type 0 where
  Put : (w : Word) (x : ℕ) → Move
  Sync : Move
  Done : Move

-- a move as code has it
abbrev pub coded : Shape → Move → BatchNext
coded shape (Put w x) = code.Do (placed shape (Store w x))
coded shape Sync = code.Sync
coded shape Done = code.Done

-- ## the stores of a site

-- what the site is to become, for a CPU that meets the breakpoint
abbrev pub next_store : SiteChange → Move
next_store c = Put (Next c.func.0) (number_of c.insn)

-- the breakpoint
abbrev pub break_store : SiteChange → Move
break_store c = Put (Head c.func.0) breakpoint

-- the new tail, behind the breakpoint
abbrev pub tail_store : SiteChange → Move
tail_store c = Put (Tail c.func.0) (tail_number c.func.0 c.insn)

-- the new first byte, in the place of the breakpoint
abbrev pub head_store : SiteChange → Move
head_store c = Put (Head c.func.0) (head_byte c.insn)

-- ## the batch

-- All moves in their order. No site: no moves. A `Next` is stored before its breakpoint, since a CPU that meets the breakpoint loads it.
-- After the breakpoints each CPU is waited for, so that none is between the two loads of an old fetch when a tail changes; after the
-- tails, so that none fetches a new first byte with an old tail; and after the first bytes, so that none still goes by an old `Next`
-- when the command goes on
abbrev pub batch : List SiteChange → List Move
batch [] = []
batch (c ∷ cs) =
    map next_store (c ∷ cs) ++ map break_store (c ∷ cs) ++ Sync ∷ []
    ++ map tail_store (c ∷ cs) ++ Sync ∷ []
    ++ map head_store (c ∷ cs) ++ Sync ∷ []

-- the move after so many
abbrev pub batch_next : List SiteChange → ℕ → Move
batch_next sites made = get_or (batch sites) made Done

-- a move is a store
abbrev pub is_store : Move → Bool
is_store (Put w x) = true
is_store Sync = false
is_store Done = false

-- an instruction that a site of the shape can have
abbrev pub IsInsnIn : Shape → Insn → Type 0
IsInsnIn shape (Own slot) = slot < shape.tramps
IsInsnIn shape _ = Unit {0}

-- the change is of a site of the shape, to an instruction that it can have
pub record IsChange (shape : Shape) (c : SiteChange) : Type 0 where
  pub func : c.func.0 < shape.funcs
  pub insn : IsInsnIn shape c.insn

-- a batch: how many moves were made
pub record Batched : Type 0 where
  pub shape : Shape
  pub made : ℕ
