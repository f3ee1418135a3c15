use Rattle.std.proofs.Common.{ap, arith}
use Rattle.module_table.specs.Lines.{Between}
use Rattle.ft_script.proofs.Later.{commands-after}
use Rattle.ft_script.proofs.late.LateModules.commands.Goals as goal

pub returns : goal.returns
returns c =
    let m = c.self.inside in
    let count = commands-after m.modules m.modules.declared.tasks m.later.items in
    let is = ap (λ (b : Between). b.commands) c.self.view_is in
    omega (arith, count, is, c.commands.ensures.value, c.len.ensures, m.later.ok.0)
