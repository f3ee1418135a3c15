use Rattle.word_machine_laws.proofs.each_value_fits_by_the_rule.Goals as goal
use Rattle.word_machine_laws.proofs.Takes.{takes}

pub returns : goal.returns
returns c = λ job s i t top below m ok kept at'. takes job ok s kept i t top below m at'
