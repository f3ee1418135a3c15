use Rattle.history_check.proofs.DeskNumberLaws.{opening-numbers}
use Rattle.history_check.proofs.numbers.Numbers.new.Goals as goal

pub returns : goal.returns
returns c = λ job users tasks.
    opening-numbers job c.in_ok-regs.regs c.args.users c.args.tasks c.new.result users tasks c.in_ok-regs.ensures c.new.ensures.lists
