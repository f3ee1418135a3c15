use Rattle.word_machine_laws.proofs.each_step_keeps_the_rule.Goals as goal
use Rattle.word_machine_laws.proofs.Steps.{step_keeps}

pub returns : goal.returns
returns c = λ job a s ok k. step_keeps job ok a s k
