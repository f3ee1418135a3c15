use Rattle.ft_script.proofs.Answered.{some_answer, not_both, one_job, one_fault}
use Rattle.ft_script.proofs.laws.a_text_has_one_answer.Goals as goal

pub returns : goal.returns
returns c = record { some = some_answer; not_both = not_both; one_job = one_job; one_fault = one_fault }
