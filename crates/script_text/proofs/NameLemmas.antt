-- A word that is a name is a name everywhere else if it is short enough.
use Rattle.std.proofs.Common.{◌≡◌, ◌≤◌, arith, true, [], ◌∷◌, length, true≢false}
use Rattle.std.proofs.lemmas.Bool.Decides.{nat_tests}
use Rattle.ft_base.specs.Name.{is_name_text}
use Rattle.ft_base.specs.declared.limits.TheConstants.{NAME_BYTES}
use Rattle.script_text.specs.Lines.{Word}
use Rattle.script_text.specs.Names.{is_name}

pub is_name_text-short : (word : Word) → is_name word ≡ true → length word ≤ NAME_BYTES → is_name_text word ≡ true
is_name_text-short [] named short = absurd (true≢false (cc))
is_name_text-short (first ∷ rest) named short = grind (arith, nat_tests)
