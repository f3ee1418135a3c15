use Rattle.std.proofs.Common.{refl, ap, sym, true≢false, ◌∙◌}
use Rattle.func_table.specs.Rows.{names_of, number_of}
use Rattle.func_table.proofs.RowLemmas.{position-names, found-position, contained-position, absent-position}
use Rattle.func_table.proofs.table.FuncTable.find.Goals as goal

pub returns-in-Some-clause-value : goal.returns-in-Some-clause-value
returns-in-Some-clause-value c = sym c.in-Some.is ∙ c.get_index_of.ensures.index ∙ position-names c.args.name.now c.self.inside.functions.entries ∙ ap (λ t. number_of t c.args.name.now) c.self.view_is

pub returns-in-Some-clause-some : goal.returns-in-Some-clause-some
returns-in-Some-clause-some c = found-position (names_of c.args.self.now) c.args.name.now c.in-Some.at (sym (returns-in-Some-clause-value c))

pub returns-in-Some-clause-none : goal.returns-in-Some-clause-none
returns-in-Some-clause-none c = (λ e. absurd (true≢false e), λ h. absurd (h (contained-position (names_of c.args.self.now) c.args.name.now c.in-Some.at (sym (returns-in-Some-clause-value c)))))

pub returns-in-None-clause-value : goal.returns-in-None-clause-value
returns-in-None-clause-value c = sym c.in-None.is ∙ c.get_index_of.ensures.index ∙ position-names c.args.name.now c.self.inside.functions.entries ∙ ap (λ t. number_of t c.args.name.now) c.self.view_is

pub returns-in-None-clause-none : goal.returns-in-None-clause-none
returns-in-None-clause-none c = (λ e. absent-position (names_of c.args.self.now) c.args.name.now (sym (returns-in-None-clause-value c)), λ h. refl)
