use Rattle.std.proofs.Common.{◌-◌, length, refl}
use Rattle.std.proofs.lemmas.Option.{slice_get_read}
use Rattle.ft_base.specs.Job.{Job}
use Rattle.ft_base.specs.Desk.{desk}
use Rattle.history_check.specs.DeskRows.{AreOf, IsDeskOf}
use Rattle.history_check.proofs.DeskRowLaws.{found-there, row-last}
use Rattle.history_check.proofs.desks.Desks.row.Goals as goal

pub returns-in-Some-clause-some : goal.returns-in-Some-clause-some
returns-in-Some-clause-some c = λ job are.
    let found = c.in-Some.ensures.lookup in
    let here = slice_get_read c.deref.result.now (length c.deref.result.now) c.args.k c.in-Some.row.now refl found.3.0 found.1 in
    (are.rows.each c.args.k c.in-Some.row.now (rw c.deref.ensures.value at here)).desk'

pub returns-in-None-clause-some : goal.returns-in-None-clause-some
returns-in-None-clause-some c =
    let rows = c.args.self.now.rows.items in
    let past = (rw c.deref.ensures.value at c.in-None.ensures.lookup.3) in
    found-there (λ r. (job : Job) → AreOf job c.args.self.now → IsDeskOf job (desk job c.args.k) r) rows (length rows - 1) c.last.result
    (rw c.deref-in-None.ensures.value at c.last.ensures.value) (λ r at job are. row-last job rows are.rows c.args.k r past at)
