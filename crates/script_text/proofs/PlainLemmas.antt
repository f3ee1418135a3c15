-- A plain line is a text.
use Rattle.std.proofs.Common.{◌≡◌, ℕ, zero, suc, ◌<◌, arith, true, List, [], ◌∷◌}
use Rattle.std.specs.Str.{IsAscii, IsUtf8}
use Rattle.std.proofs.lemmas.Str.{IsUtf8-from_ascii}
use Rattle.std.proofs.lemmas.Bool.Decides.{nat_tests}
use Rattle.script_text.specs.Lines.{is_plain_byte, is_plain}
use Rattle.ft_base.proofs.Small.{and_both}

plain-small : (b : ℕ) → is_plain_byte b ≡ true → b < 128
plain-small b h = grind (arith, nat_tests)

plain-ascii : (line : List ℕ) → is_plain line ≡ true → IsAscii line
plain-ascii [] h i = omega arith
plain-ascii (b ∷ bs) h zero = plain-small b (and_both _ _ h).0
plain-ascii (b ∷ bs) h (suc i) = plain-ascii bs (and_both _ _ h).1 i

pub plain-IsUtf8 : (line : List ℕ) → is_plain line ≡ true → IsUtf8 line
plain-IsUtf8 line h = IsUtf8-from_ascii line (plain-ascii line h)
