use Rattle.std.proofs.Common.{List, ap, ◌∙◌, arith}
use Rattle.std.proofs.lemmas.List.{with_items_is}
use Rattle.site_counts.specs.declared.rows.Row.{Row}
use Rattle.site_counts.specs.Rows.{row_of, at_members, with_user}
use Rattle.site_counts.proofs.RowLemmas.{row_of-at_members_any}
use Rattle.site_counts.proofs.counts.Counts.add_user.Goals as goal

pub returns-clause-each : goal.returns-clause-each
returns-clause-each c = λ f.
    let change = with_user c.args.regs c.args.ipmodify in
    ap (λ (rows : List Row). row_of rows f)
    (with_items_is c.self.inside.rows c.change_members.new.rows (omega (arith, c.self.inside.rows.ok.0))
    ∙ c.change_members.ensures ∙ ap (at_members c.args.on.now change) (c.as_mut_slice.ensures.value ∙ c.self.view_is))
    ∙ row_of-at_members_any c.args.on.now change c.args.self.now c.requires.size f
