use Rattle.ft_machine.proofs.MachineLaws.{past-next}
use Rattle.ft_machine.proofs.taker.HistoryTaker.take.Goals as goal

pub returns : goal.returns
returns c = λ job past first limited took legal. past-next past c.args.self.now c.push.new.self c.args.item took c.push.ensures.added
