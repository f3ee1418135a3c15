use Rattle.std.proofs.Common.{length, refl}
use Rattle.std.proofs.lemmas.Option.{slice_get_read}
use Rattle.history_check.proofs.DeskRowLaws.{no-answer}
use Rattle.history_check.proofs.desks.Desks.answer.Goals as goal

pub returns-in-Some : goal.returns-in-Some
returns-in-Some c = λ job are.
    let found = c.in-Some.ensures.lookup in
    let here = slice_get_read c.deref.result.now (length c.deref.result.now) c.args.k c.in-Some.row.now refl found.3.0 found.1 in
    (are.rows.each c.args.k c.in-Some.row.now (rw c.deref.ensures.value at here)).answer

pub returns-in-None : goal.returns-in-None
returns-in-None c = λ job are.
    no-answer job c.args.self.now.rows.items are.rows c.args.k (rw c.deref.ensures.value at c.in-None.ensures.lookup.3)
