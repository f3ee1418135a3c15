use Rattle.ft_machine.proofs.machine.Machine.all_end.Goals as goal

pub returns : goal.returns
returns c = λ job is. c.all_end.ensures job _ is.limited is.is_for is.runs
