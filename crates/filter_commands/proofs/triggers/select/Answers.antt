use Rattle.std.proofs.Common.{◌≡◌, List, map, subst, rules, IfOk}
use Rattle.glob_filter.specs.Items.{Item, items_of}
use Rattle.glob_filter.specs.Matching.{is_fit}
use Rattle.filter_commands.proofs.triggers.select.Goals as goal

pub returns-clause-set : goal.returns-clause-set
returns-clause-set c =
    let pattern : c.in_ok-read_pattern.field-0 ≡ items_of c.args.glob.now = search rules in
    subst (λ (items : List Item). IfOk c.map_err.result (λ set. set ≡ map (λ f. is_fit items f.name) c.args.table.now.functions)) pattern (search rules)
