use Rattle.ft_words.proofs.Found.{one_order}
use Rattle.ft_words.proofs.reading.words_give_one_order.Goals as goal

pub returns : goal.returns
returns c = one_order
