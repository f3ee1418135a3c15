-- The two loads of a fetch, as the bytes of the instruction of which they are.
use Rattle.std.proofs.Common.{◌≡◌, ℕ, zero, suc, ◌+◌, ◌<◌, ◌∷◌, refl, sym, ◌∙◌, arith}
use Rattle.ft_base.specs.declared.limits.TheConstants.{TRAMPS}
use Rattle.site_bytes.specs.Bytes.{IsInsn, bytes_of, four_bytes, head_byte, tail_number}
use Rattle.site_bytes.specs.declared.insn.Insn.{Insn}
use Rattle.site_bytes.specs.declared.insn.Insn.TheVariants.{Nop, List as CallList, Own}
use Rattle.word_map.specs.Instructions.{head_of, insn_numbered, tail_of}

-- a number stands for an instruction that a site can have
pub numbered-insn : (i : ℕ) → i < 2 + TRAMPS → IsInsn (insn_numbered i)
numbered-insn zero h = tt
numbered-insn (suc zero) h = tt
numbered-insn (suc (suc s)) h = omega arith

-- an instruction's bytes are its first byte and the other four
split-bytes : (f : ℕ) (insn : Insn) → bytes_of f insn ≡ head_byte insn ∷ four_bytes (tail_number f insn)
split-bytes f Nop = refl
split-bytes f CallList = refl
split-bytes f (Own s) = refl

pub fetched-bytes : (f i byte v : ℕ) → byte ≡ head_of i → v ≡ tail_of f i → bytes_of f (insn_numbered i) ≡ byte ∷ four_bytes v
fetched-bytes f i byte v head tail = split-bytes f (insn_numbered i) ∙ λ j. sym head j ∷ four_bytes (sym tail j)
