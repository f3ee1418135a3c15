use Rattle.ft_base.specs.Job.{Job}
use Rattle.script_waits.specs.Greedy.{IsLeast}
use Rattle.ft_script.specs.ReaderInvariant.{above_of, AreOf}
use Rattle.ft_script.proofs.Coverage.{IsAmong, IsNeedOf}
use Rattle.ft_script.proofs.reader.Reader.lowest_user.Given as goal

abbrev pub invariant-loop-u : goal.invariant-loop-u
invariant-loop-u l = (job : Job) → AreOf l.named job → IsLeast (IsAmong (IsNeedOf job (above_of l.self)) l.u) l.low
