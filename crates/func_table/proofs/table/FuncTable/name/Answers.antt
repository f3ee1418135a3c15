use Rattle.std.proofs.Common.{sym, ap, slice_get, subst, ◌∙◌, Some}
use Rattle.func_table.specs.Rows.{IsTable, names_of}
use Rattle.func_table.proofs.RowLemmas.{names-at, position-distinct}
use Rattle.func_table.proofs.table.FuncTable.name.Goals as goal

pub returns-clause-value : goal.returns-clause-value
returns-clause-value c = ap (λ t. slice_get (names_of t) c.args.f.0) (sym c.self.view_is) ∙ names-at c.self.inside.functions.entries c.args.f.0 _ _ (sym c.in-Some.ensures.entry) ∙ ap Some (sym c.as_str.ensures.value)

pub returns-clause-number : goal.returns-clause-number
returns-clause-number c =
    let is : IsTable c.args.self.now = subst IsTable c.self.view_is c.self.invariant in
    position-distinct (names_of c.args.self.now) is.distinct c.as_str.result.now c.args.f.0 (returns-clause-value c)
