-- Call sites: the instruction that a desk gives each, and which of them two desks give different ones (ftrace.rst, dynamic ftrace).
use Rattle.std.specs.Prelude.{ℕ, zero, suc, Bool, true, false, ◌==◌, List, [], ◌∷◌, length, filter, is_some, if◌then◌else◌}
use Rattle.ft_base.specs.Job.{Job}
use Rattle.ft_base.specs.Desk.{Desk, sited, spec_at}
use Rattle.site_counts.specs.declared.rows.Row.{Row}
use Rattle.site_bytes.specs.declared.insn.Insn.{Insn}
use Rattle.site_bytes.specs.declared.insn.Insn.TheVariants.{Nop, List as CallList, Own}
use Rattle.site_bytes.specs.declared.insn.SiteChange.{SiteChange}

-- two instructions are the same
abbrev pub same_insn : Insn → Insn → Bool
same_insn Nop Nop = true
same_insn CallList CallList = true
same_insn (Own s) (Own t) = s == t
same_insn _ _ = false

-- of the `n` functions from a first one on, those whose sites have another instruction than before, the lowest first, with the new one
unfoldable pub changed_sites : (ℕ → Insn) → (ℕ → Insn) → ℕ → ℕ → List SiteChange
changed_sites old new from zero = []
changed_sites old new from (suc n) =
    if same_insn (old from) (new from) then changed_sites old new (suc from) n else
    (record { func = record { 0 = from }; insn = new from } ∷ changed_sites old new (suc from) n)

-- the row of a function: how many users are sited there, and how many of them get the registers and replace the function
-- (ftrace.rst, The File System: enabled_functions)
unfoldable pub row_at : Job → Desk → ℕ → Row
row_at job desk f = record {
  count = length (sited desk f);
  regs = length (filter (λ u. (spec_at job u).regs) (sited desk f));
  ipmodify = length (filter (λ u. is_some (spec_at job u).ipmodify) (sited desk f));
}
