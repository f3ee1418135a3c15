use Rattle.std.proofs.Common.{◌++◌, ◌∷◌, [], refl, sym, ap, subst, ◌∙◌}
use Rattle.state_search.specs.Entries.{HasKey}
use Rattle.state_search.proofs.Entries.{has-from_lookup, added-new}
use Rattle.state_search.proofs.key_table.KeyTable.add.Goals as goal

pub returns-then-contains_key-clause-added : goal.returns-then-contains_key-clause-added
returns-then-contains_key-clause-added g c =
    (refl, subst (λ es. HasKey es c.args.key.items) c.self.view_is (has-from_lookup c.self.inside.map.entries c.args.key.items (sym c.contains_key.ensures ∙ c.if-contains_key.true)))

pub returns-in-Ok-clause-added : goal.returns-in-Ok-clause-added
returns-in-Ok-clause-added g c =
    added-new c.self.inside.map c.args.key c.args.value c.insert.new.self.entries (sym c.contains_key.ensures ∙ c.if-contains_key.false) c.in-Ok.ensures.entries
    ∙ ap (λ es. es ++ (c.args.key.items, c.args.value) ∷ []) c.self.view_is
