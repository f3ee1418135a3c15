-- The five bytes of a call site, from the addresses of its function and of what it calls.
use Rattle.std.specs.Prelude.{ℕ, ◌+◌, ◌-◌, ◌*◌, ◌/◌, ◌%◌, ◌^◌, ◌<◌, List, [], ◌∷◌}
use Rattle.ft_base.specs.declared.limits.TheConstants.{TRAMPS}
use Rattle.ft_base.specs.Address.{function_at}
use Rattle.site_bytes.specs.declared.codec.TheConstants.{BREAKPOINT, NOP_HEAD, NOP_TAIL, CALL_HEAD, LIST_CALLER, FIRST_TRAMPOLINE, TRAMPOLINE_STEP, SITE_BYTES}
use Rattle.site_bytes.specs.declared.insn.Insn.{Insn}
use Rattle.site_bytes.specs.declared.insn.Insn.TheVariants.{Nop, List as CallList, Own}

-- the address of the list caller
abbrev pub list_caller : ℕ
list_caller = LIST_CALLER

-- the address of the trampoline of a slot
abbrev pub trampoline_at : ℕ → ℕ
trampoline_at slot = FIRST_TRAMPOLINE + TRAMPOLINE_STEP * slot

-- how far a target is from the address after the call site of function f
abbrev pub distance : ℕ → ℕ → ℕ
distance f target = target - (function_at f + SITE_BYTES)

-- a number below 2 ^ 32 as four bytes, the lowest first
abbrev pub four_bytes : ℕ → List ℕ
four_bytes n = n % 256 ∷ n / 2 ^ 8 % 256 ∷ n / 2 ^ 16 % 256 ∷ n / 2 ^ 24 % 256 ∷ []

-- a call at function f: its head and the distance
abbrev pub call_to : ℕ → ℕ → List ℕ
call_to f target = CALL_HEAD ∷ four_bytes (distance f target)

-- the bytes of an instruction at function f. The nop's are those of the processor's nop of five bytes
abbrev pub bytes_of : ℕ → Insn → List ℕ
bytes_of f Nop = 0x0F ∷ 0x1F ∷ 0x44 ∷ 0x00 ∷ 0x00 ∷ []
bytes_of f CallList = call_to f list_caller
bytes_of f (Own slot) = call_to f (trampoline_at slot)

-- the head of a site that is being patched: the breakpoint instruction
abbrev pub breakpoint : ℕ
breakpoint = BREAKPOINT

-- an instruction that a site can have: a call of a trampoline names one of the slots
abbrev pub IsInsn : Insn → Type 0
IsInsn (Own slot) = slot < TRAMPS
IsInsn _ = Unit {0}

-- the head: the first byte of an instruction
abbrev pub head_byte : Insn → ℕ
head_byte Nop = NOP_HEAD
head_byte _ = CALL_HEAD

-- the tail: the other four bytes of an instruction at function f, as the number that they are
abbrev pub tail_number : ℕ → Insn → ℕ
tail_number f Nop = NOP_TAIL
tail_number f CallList = distance f list_caller
tail_number f (Own slot) = distance f (trampoline_at slot)
