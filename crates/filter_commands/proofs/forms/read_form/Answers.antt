use Rattle.std.proofs.Common.{◌≡◌, ◌==◌, false, rules}
use Rattle.std.specs.List.{list_any}
use Rattle.filter_commands.proofs.TextLemmas.{list_any-past}
use Rattle.filter_commands.proofs.forms.read_form.Goals as goal

pub returns-then-is_number : goal.returns-then-is_number
returns-then-is_number c =
    let no : list_any (λ b. b == 58) c.args.text.now ≡ false = list_any-past _ c.args.text.now (search rules) in
    rw no (search rules)

pub returns-else-is_number : goal.returns-else-is_number
returns-else-is_number c =
    let no : list_any (λ b. b == 58) c.args.text.now ≡ false = list_any-past _ c.args.text.now (search rules) in
    rw no (search rules)
