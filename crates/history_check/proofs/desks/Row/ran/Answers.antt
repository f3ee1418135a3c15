use Rattle.std.proofs.Common.{length, refl}
use Rattle.std.proofs.lemmas.Option.{slice_get_read}
use Rattle.history_check.proofs.DeskRowLaws.{run-there, run-past}
use Rattle.history_check.proofs.desks.Row.ran.Goals as goal

pub returns-in-Some : goal.returns-in-Some
returns-in-Some c = λ job d is lt.
    let found = c.in-Some.ensures.lookup in
    let here = slice_get_read c.deref.result.now (length c.deref.result.now) c.args.f.0 c.in-Some.ran.now refl found.3.0 found.1 in
    run-there job d c.args.self.now is c.args.f.0 c.in-Some.ran.now lt (rw c.deref.ensures.value at here)

pub returns-in-None : goal.returns-in-None
returns-in-None c = λ job d is lt.
    absurd (run-past job d c.args.self.now is c.args.f.0 lt (rw c.deref.ensures.value at c.in-None.ensures.lookup.3))
