use Rattle.std.proofs.Common.{◌%◌, ◌/◌, ◌-◌, ◌^◌, set, ap, ◌∙◌, arith}
use Rattle.site_set.specs.Packed.{has_bit}
use Rattle.site_set.proofs.FillLemmas.{has_bit-whole, has_bit-part}
use Rattle.site_set.proofs.words.fill_words.Goals as goal

pub returns-then-rest-gt0-clause-bits : goal.returns-then-rest-gt0-clause-bits
returns-then-rest-gt0-clause-bits c f =
    ap (λ ws. has_bit (set ws (c.args.size / 64) (18446744073709551615 / 2 ^ (64 - c.args.size % 64))) f) (c.fill.ensures.after (λ _ e. e))
    ∙ has_bit-part c.args.size _ c.requires (omega arith) f

pub returns-else-rest-gt0-clause-bits : goal.returns-else-rest-gt0-clause-bits
returns-else-rest-gt0-clause-bits c f =
    ap (λ ws. has_bit ws f) (c.fill.ensures.after (λ _ e. e)) ∙ has_bit-whole c.args.size _ c.requires (omega arith) f
