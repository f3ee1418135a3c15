use Rattle.std.proofs.Common.{◌≤◌, ◌∙◌, length, ap, sym, arith, rules}
use Rattle.ft_base.specs.declared.limits.TheConstants.{PATTERN_BYTES}
use Rattle.glob_filter.proofs.Texts.{length-no_cause}
use Rattle.glob_filter.proofs.pattern.Pattern.read.Goals as goal

pub new-requires : goal.new-requires
new-requires c =
    let short : length c.args.text.now ≤ PATTERN_BYTES = length-no_cause c.args.text.now (sym c.find_cause.ensures ∙ c.in_default.is) in
    let most : length c.in_ok-tokens.tokens.items ≤ length c.args.text.now = search rules in
    omega (arith, ap length c.as_slice.ensures.value, most, short)
