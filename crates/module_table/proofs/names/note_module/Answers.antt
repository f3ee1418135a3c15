use Rattle.std.proofs.Common.{◌≡◌, map, Some, None, ap, sym, subst, ◌∙◌, string_bytes}
use Rattle.std.specs.Prelude.{OnOk}
use Rattle.std.specs.Option.{option_copied}
use Rattle.module_table.specs.Made.{noted}
use Rattle.module_table.proofs.NameLaws.{modules-next}
use Rattle.module_table.proofs.names.note_module.Goals as goal

pub returns-in-Some : goal.returns-in-Some
returns-in-Some c = subst (λ x. OnOk c.note.result (map string_bytes c.note.new.names.keys ≡ x))
    (ap (λ ns. noted ns c.in-Some.name.now) c.requires.names
    ∙ sym (modules-next c.args.table.now.functions c.args.f.0 (Some c.in-Some.name.now) (c.module.ensures ∙ ap (λ o. Some (option_copied o)) c.in-Some.is)))
    c.note.ensures

pub returns-in-None : goal.returns-in-None
returns-in-None c = c.requires.names ∙ sym (modules-next c.args.table.now.functions c.args.f.0 None (c.module.ensures ∙ ap (λ o. Some (option_copied o)) c.in-None.is))
