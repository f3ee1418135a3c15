use Rattle.std.proofs.Common.{[], ap₂, subst, ◌∙◌}
use Rattle.module_table.specs.Lines.{Between, opening_of}
use Rattle.module_table.specs.Made.{Appends, opening_commands}
use Rattle.module_table.proofs.MadeLaws.{appends-opening}
use Rattle.module_table.proofs.modules.Modules.opening.Goals as goal

pub returns : goal.returns
returns c =
    let m = c.self.inside in
    subst (λ (x : Between). Appends x.declared [] c.in_ok-commands.commands.items (opening_of x.declared x.first)) c.self.view_is
    (appends-opening m.desk.declared m.first c.in_ok-commands.commands.items
    (c.in_ok-commands.ensures ∙ ap₂ (λ n k. opening_commands n k m.first) c.users.ensures c.functions.ensures))
