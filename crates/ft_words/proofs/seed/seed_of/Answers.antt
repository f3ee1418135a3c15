use Rattle.std.proofs.Common.{ℕ, sym, subst}
use Rattle.std.specs.Prelude.{IfNone}
use Rattle.ft_words.specs.Language.{IsSeed}
use Rattle.ft_words.proofs.Seeds.{no_seed-parse}
use Rattle.ft_words.proofs.seed.seed_of.Goals as goal

pub returns-clause-none : goal.returns-clause-none
returns-clause-none c =
    subst (λ o. IfNone o ((n : ℕ) → IsSeed c.args.text.now n → ⊥)) (sym c.ok.ensures.value)
    (no_seed-parse c.args.text.now c.parse.result c.parse.ensures.value.0 (sym c.if-not-are_digits.ensures))
