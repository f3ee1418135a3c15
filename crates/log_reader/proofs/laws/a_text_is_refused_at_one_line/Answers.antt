use Rattle.log_reader.proofs.NeverRefused.{one-refused, refused-below}
use Rattle.log_reader.proofs.laws.a_text_is_refused_at_one_line.Goals as goal

pub returns-clause-one : goal.returns-clause-one
returns-clause-one c = λ job text n m apart. one-refused job apart text n m

pub returns-clause-number : goal.returns-clause-number
returns-clause-number c = λ job text n refused apart. refused-below job apart text n refused
