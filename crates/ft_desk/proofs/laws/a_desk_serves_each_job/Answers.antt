use Rattle.ft_desk.proofs.JobLaws.{answer-is, next-is, opening-is}
use Rattle.ft_desk.proofs.laws.a_desk_serves_each_job.Goals as goal

pub returns-clause-opening : goal.returns-clause-opening
returns-clause-opening c = opening-is

pub returns-clause-answer : goal.returns-clause-answer
returns-clause-answer c = λ job d desk k is. answer-is job d is desk k

pub returns-clause-next : goal.returns-clause-next
returns-clause-next c = λ job d desk n k is. next-is job d is desk n k
