use Rattle.std.proofs.Common.{◌<◌, ◌^◌, bit_and, w64, arith}
use Rattle.std.proofs.lemmas.Nat.{and_le_l}
use Rattle.std.proofs.lemmas.Nat.Bits.{bit_at-trailing_zeros}
use Rattle.site_set.proofs.words.lowest_common_bit.Goals as goal

pub returns-else-both-eq0-clause-some : goal.returns-else-both-eq0-clause-some
returns-else-both-eq0-clause-some c =
    let fits : bit_and c.args.a c.args.b < 2 ^ 64 = omega (arith, and_le_l c.args.a c.args.b) in
    let some : 0 < bit_and c.args.a c.args.b = omega arith in
    let t = bit_at-trailing_zeros w64 (bit_and c.args.a c.args.b) some fits in
    record { below = t.0; set = t.1; clear = t.2 }
