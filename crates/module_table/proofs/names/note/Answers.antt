use Rattle.std.proofs.Common.{cond, ◌≡◌, ◌∷◌, ◌++◌, [], sym, ◌∙◌, string_bytes, rules}
use Rattle.std.specs.List.{list_any}
use Rattle.std.specs.String.{string_eq}
use Rattle.module_table.proofs.NameLaws.{noted-there, noted-new}
use Rattle.module_table.proofs.names.note.Goals as goal

pub returns-then-contains : goal.returns-then-contains
returns-then-contains c = noted-there c.args.name.now c.args.names.now.keys (sym c.contains.ensures ∙ c.if-contains.true)

pub returns : goal.returns
returns c =
    let ks = c.args.names.now.keys in
    let key = c.in_ok-name.name in
    let inserted : c.insert.new.self.keys ≡ cond (list_any (string_eq key) ks) ks (ks ++ key ∷ []) = search rules in
    let same : string_bytes key ≡ c.args.name.now = search rules in
    noted-new c.args.name.now ks c.insert.new.self.keys key (sym c.contains.ensures ∙ c.if-contains.false) same inserted
