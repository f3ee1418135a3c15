use Rattle.std.proofs.Common.{◌∙◌, sym}
use Rattle.ft_words.proofs.SameWords.{texts-from_pointwise, pointwise-from_texts}
use Rattle.ft_words.proofs.spelling.are_these.Goals as goal

pub returns : goal.returns
returns c = (
  λ h. texts-from_pointwise c.args.words.now c.args.these.now (sym c.eq.ensures ∙ h),
  λ e. c.eq.ensures ∙ pointwise-from_texts c.args.words.now c.args.these.now e,
)
