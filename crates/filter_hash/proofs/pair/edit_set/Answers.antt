use Rattle.std.proofs.Common.{◌≡◌, length}
use Rattle.site_set.specs.Edits.{plain_edit}
use Rattle.filter_hash.proofs.EditLaws.{start, start-as_it_is, start-anew, edited-removes, edited-adds}
use Rattle.filter_hash.proofs.pair.edit_set.Goals as goal
use Rattle.filter_hash.proofs.pair.edit_set.Goals.{then-not-edit, else-not-edit}

pub returns-then-edit-2-clause-edited : goal.returns-then-edit-2-clause-edited
returns-then-edit-2-clause-edited c =
    let from : c.if-not-edit.set ≡ start c.args.edit.now.append (length c.args.set.now) c.args.set.now = elim c.if-not-edit.branch [
      | then-not-edit w ↦ start-anew _ _ _ c.args.edit.now.append (cc) (cc)
      | else-not-edit w ↦ start-as_it_is _ _ _ c.args.edit.now.append (cc) (cc)
    ] in
    edited-removes _ _ _ _ (plain_edit c.args.edit.now) (cc) (cc) from c.subtract.ensures.members

pub returns-else-edit-2-clause-edited : goal.returns-else-edit-2-clause-edited
returns-else-edit-2-clause-edited c =
    let from : c.if-not-edit.set ≡ start c.args.edit.now.append (length c.args.set.now) c.args.set.now = elim c.if-not-edit.branch [
      | then-not-edit w ↦ start-anew _ _ _ c.args.edit.now.append (cc) (cc)
      | else-not-edit w ↦ start-as_it_is _ _ _ c.args.edit.now.append (cc) (cc)
    ] in
    edited-adds _ _ _ _ (plain_edit c.args.edit.now) (cc) (cc) from c.unite.ensures.members
