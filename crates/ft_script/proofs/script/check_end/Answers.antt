use Rattle.std.proofs.Common.{refl, subst, inr}
use Rattle.script_waits.specs.Tasks.{tracks_of}
use Rattle.script_waits.specs.Greedy.{IsDeadlock}
use Rattle.ft_script.specs.ReaderInvariant.{above_of}
use Rattle.ft_script.specs.Script.{control_of}
use Rattle.ft_script.proofs.script.check_end.Goals as goal

pub returns-in-Some-clause-refused : goal.returns-in-Some-clause-refused
returns-in-Some-clause-refused c =
    let above = above_of c.args.reader.now in
    inr (refl, subst (IsDeadlock (tracks_of above.tasks) (control_of above)) c.in-Some.is c.in_ok-deadlock.ensures)
