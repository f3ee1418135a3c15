use Rattle.word_machine_laws.proofs.each_value_that_a_cpu_takes_fits.Goals as goal
use Rattle.word_machine_laws.proofs.Limited.{limited}
use Rattle.word_machine_laws.proofs.CpuTakes.{cpu-takes}

pub returns : goal.returns
returns c = λ job s i op l r inside is. cpu-takes job (limited job l) s r.kept i inside op is
