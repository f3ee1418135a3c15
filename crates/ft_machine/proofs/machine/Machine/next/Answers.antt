use Rattle.ft_machine.proofs.machine.Machine.next.Goals as goal

pub returns : goal.returns
returns c = λ job is. c.next.ensures job _ is.limited is.is_for is.runs
