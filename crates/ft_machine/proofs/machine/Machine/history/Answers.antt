use Rattle.std.proofs.Common.{refl}
use Rattle.ft_machine.proofs.MachineLaws.{items-are, legal, whole}
use Rattle.ft_machine.specs.Machines.{state_of}
use Rattle.ft_machine.proofs.machine.Machine.history.Goals as goal

pub returns-clause-items : goal.returns-clause-items
returns-clause-items c = λ job is. items-are job c.args.self.now c.args.self.now.history refl

pub returns-clause-legal : goal.returns-clause-legal
returns-clause-legal c = λ job is. legal job (state_of job c.args.self.now) is.limited is.runs _ (items-are job c.args.self.now c.args.self.now.history refl)

pub returns-clause-whole : goal.returns-clause-whole
returns-clause-whole c = λ job is over. whole job (state_of job c.args.self.now) is.limited is.runs _ (items-are job c.args.self.now c.args.self.now.history refl) over
