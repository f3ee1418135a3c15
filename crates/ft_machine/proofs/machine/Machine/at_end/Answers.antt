use Rattle.ft_machine.proofs.machine.Machine.at_end.Goals as goal

pub returns : goal.returns
returns c = λ job is. c.at_end.ensures job _ is.limited is.is_for is.runs
