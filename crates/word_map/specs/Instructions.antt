-- The instructions of call sites: what a desk gives each site (ftrace.rst, dynamic ftrace), and the numbers that the words have for them.
use Rattle.std.specs.Prelude.{ℕ, zero, suc, ◌+◌, ◌-◌, ◌/◌, ◌==◌, Option, Some, None, if◌then◌else◌}
use Rattle.ft_base.specs.declared.item.Ran.{Ran}
use Rattle.ft_base.specs.declared.item.Ran.TheVariants.{Nop as RanNop, List as RanList, Own as RanOwn}
use Rattle.ft_base.specs.Desk.{Desk, user_at, target}
use Rattle.site_bytes.specs.Bytes.{head_byte, tail_number}
use Rattle.site_bytes.specs.declared.codec.TheConstants.{TRAMPOLINE_STEP}
use Rattle.site_bytes.specs.declared.insn.Insn.{Insn}
use Rattle.site_bytes.specs.declared.insn.Insn.TheVariants.{Nop, List as CallList, Own}

-- ## what a site should have

-- a call of a user's own trampoline if it has a slot, and otherwise of the list caller
abbrev pub insn_of_slot : Option ℕ → Insn
insn_of_slot None = CallList
insn_of_slot (Some slot) = Own slot

-- the instruction for a target
abbrev pub insn_of : Desk → Ran → Insn
insn_of desk RanNop = Nop
insn_of desk RanList = CallList
insn_of desk (RanOwn u) = insn_of_slot (user_at desk u.0).slot

-- the instruction that the site of a function should have
unfoldable pub insn_at : Desk → ℕ → Insn
insn_at desk f = insn_of desk (target desk f)

-- ## instructions as numbers

-- 0 is the nop, 1 a call of the list caller, and 2 + s a call of trampoline s
abbrev pub number_of : Insn → ℕ
number_of Nop = 0
number_of CallList = 1
number_of (Own s) = 2 + s

-- the instruction that has this number
abbrev pub insn_numbered : ℕ → Insn
insn_numbered zero = Nop
insn_numbered (suc zero) = CallList
insn_numbered (suc (suc s)) = Own s

-- the number of the instruction for a target
abbrev pub code_by : Desk → Ran → ℕ
code_by desk ran = number_of (insn_of desk ran)

-- the first byte of an instruction
abbrev pub head_of : ℕ → ℕ
head_of i = head_byte (insn_numbered i)

-- the other four bytes of an instruction at function f, as a number
abbrev pub tail_of : ℕ → ℕ → ℕ
tail_of f i = tail_number f (insn_numbered i)

-- the instruction at function f that has these bytes, if one has. That it is the one, `each_value_fits` says
abbrev pub decode : ℕ → ℕ → ℕ → ℕ
decode f byte tail = if byte == head_of 0 then 0 else (if tail == tail_of f 1 then 1 else 2 + (tail - tail_of f 2) / TRAMPOLINE_STEP)
