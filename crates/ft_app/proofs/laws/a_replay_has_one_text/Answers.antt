use Rattle.ft_app.proofs.OneText.{one-text}
use Rattle.ft_app.proofs.laws.a_replay_has_one_text.Goals as goal

pub returns : goal.returns
returns c = λ order given left before after after' plain a b. one-text given left before after after' order plain a b
