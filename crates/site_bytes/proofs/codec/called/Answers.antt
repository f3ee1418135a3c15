use Rattle.std.proofs.Common.{◌≡◌, ◌≢◌, ◌+◌, ◌<◌, ℕ, arith, rules}
use Rattle.ft_base.specs.declared.limits.TheConstants.{FUNCS, TRAMPS}
use Rattle.ft_base.specs.Address.{function_at}
use Rattle.site_bytes.specs.declared.codec.TheConstants.{CALL_HEAD, LIST_CALLER, SITE_BYTES}
use Rattle.site_bytes.specs.declared.insn.Insn.{Insn}
use Rattle.site_bytes.specs.declared.insn.Insn.TheVariants.{Nop, List as CallList, Own}
use Rattle.site_bytes.specs.Bytes.{head_byte, tail_number, trampoline_at, IsInsn}
use Rattle.site_bytes.proofs.codec.called.Goals as goal

-- no call goes to an address that is neither the list caller's nor that of a slot's trampoline
calls_neither : (f tail target : ℕ) → f < FUNCS → target ≡ function_at f + SITE_BYTES + tail → target ≢ LIST_CALLER
    → ((slot : ℕ) → slot < TRAMPS → trampoline_at slot ≢ target) → (insn : Insn) → IsInsn insn → head_byte insn ≡ CALL_HEAD
    → tail_number f insn ≢ tail
calls_neither f tail target few is list own Nop here call same = absurd (omega (arith, call))
calls_neither f tail target few is list own CallList here call same = list (omega (arith, is, same, few))
calls_neither f tail target few is list own (Own slot) here call same = own slot here (omega (arith, is, same, few))

pub returns-in_err-slot_at-in_default-clause-none : goal.returns-in_err-slot_at-in_default-clause-none
returns-in_err-slot_at-in_default-clause-none c =
    let none : (insn : Insn) → IsInsn insn → head_byte insn ≡ CALL_HEAD → tail_number c.args.f.0 insn ≢ c.args.tail =
    calls_neither c.args.f.0 c.args.tail c.in_ok-target.target c.requires (search rules) (search rules) (search rules) in
    search rules
