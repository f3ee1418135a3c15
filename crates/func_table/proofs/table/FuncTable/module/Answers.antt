use Rattle.std.proofs.Common.{sym, ap, slice_get, ◌∙◌, Some, option_map, string_bytes}
use Rattle.func_table.specs.Rows.{modules_of}
use Rattle.func_table.proofs.RowLemmas.{modules-at}
use Rattle.func_table.proofs.table.FuncTable.module.Goals as goal

pub returns-in-Some-default-Some : goal.returns-in-Some-default-Some
returns-in-Some-default-Some c = ap (λ t. slice_get (modules_of t) c.args.f.0) (sym c.self.view_is) ∙ modules-at c.self.inside.functions.entries c.args.f.0 _ _ (sym c.in-Some-default-Some.ensures.entry) ∙ ap (λ v. Some (option_map string_bytes v)) c.in-Some-default-Some.field-0-1-is ∙ ap (λ t. Some (Some t)) (sym c.as_str.ensures.value)

pub returns-in-Some-default-None : goal.returns-in-Some-default-None
returns-in-Some-default-None c = ap (λ t. slice_get (modules_of t) c.args.f.0) (sym c.self.view_is) ∙ modules-at c.self.inside.functions.entries c.args.f.0 _ _ (sym c.in-Some-default-None.ensures.entry) ∙ ap (λ v. Some (option_map string_bytes v)) c.in-Some-default-None.field-0-1-is
