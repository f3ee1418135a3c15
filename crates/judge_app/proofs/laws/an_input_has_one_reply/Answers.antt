use Rattle.judge_app.proofs.OneReply.{one-reply}
use Rattle.judge_app.proofs.laws.an_input_has_one_reply.Goals as goal

pub returns : goal.returns
returns c = λ input status status' text text' size. one-reply input size status status' text text'
