use Rattle.std.proofs.Common.{◌≡◌, map, subst, Some, rules, IfOk, sym, ap, ◌∙◌}
use Rattle.glob_filter.specs.Items.{items_of}
use Rattle.filter_commands.specs.Forms.{named, in_module, form_of, glob_or_all}
use Rattle.filter_commands.specs.Edits.{selected_by}
use Rattle.filter_commands.specs.Meanings.{takes}
use Rattle.filter_commands.specs.declared.selector.Selector.{Selector}
use Rattle.filter_commands.specs.declared.selector.Selector.TheVariants.{ByName, ByModule}
use Rattle.filter_commands.proofs.edits.select.Goals as goal

pub returns-in_ok-by_name-in-Some-Named-clause-set : goal.returns-in_ok-by_name-in-Some-Named-clause-set
returns-in_ok-by_name-in-Some-Named-clause-set c =
    let fs = c.args.table.now.functions in
    let glob = c.in-Some-Named.glob.now in
    let form : form_of c.args.text.now ≡ Some (named glob) = search rules in
    let selector : c.in_ok-by_name-in-Some-Named.field-0 ≡ ByName (items_of glob) = search rules in
    let same : map (takes c.in_ok-by_name-in-Some-Named.field-0) fs ≡ selected_by fs (form_of c.args.text.now) =
    ap (λ (s : Selector). map (takes s) fs) selector ∙ sym (ap (selected_by fs) form) in
    subst (λ marks. IfOk c.select.result (λ set. set ≡ marks)) same c.select.ensures.set

pub returns-in_ok-by_module-in-Some-InModule-clause-set : goal.returns-in_ok-by_module-in-Some-InModule-clause-set
returns-in_ok-by_module-in-Some-InModule-clause-set c =
    let fs = c.args.table.now.functions in
    let glob = c.in-Some-InModule.glob.now in
    let negated = c.in-Some-InModule.negated in
    let owner = c.in-Some-InModule.owner.now in
    let form : form_of c.args.text.now ≡ Some (in_module glob negated owner) = search rules in
    let selector : c.in_ok-by_module-in-Some-InModule.field-0 ≡ ByModule (items_of (glob_or_all glob)) negated (items_of owner) = search rules in
    let same : map (takes c.in_ok-by_module-in-Some-InModule.field-0) fs ≡ selected_by fs (form_of c.args.text.now) =
    ap (λ (s : Selector). map (takes s) fs) selector ∙ sym (ap (selected_by fs) form) in
    subst (λ marks. IfOk c.select-in-Some-InModule.result (λ set. set ≡ marks)) same c.select-in-Some-InModule.ensures.set
