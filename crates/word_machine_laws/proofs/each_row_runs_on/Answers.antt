use Rattle.word_machine_laws.proofs.each_row_runs_on.Goals as goal
use Rattle.word_machine_laws.proofs.WordsFit.{control-row-runs, cpu-row-runs}

pub returns-clause-control : goal.returns-clause-control
returns-clause-control c = λ job s op l r is. control-row-runs job l s op r is

pub returns-clause-cpus : goal.returns-clause-cpus
returns-clause-cpus c = λ job s i op l r inside is. cpu-row-runs job l s i op inside r is
