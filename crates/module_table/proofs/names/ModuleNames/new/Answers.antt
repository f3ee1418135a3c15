use Rattle.std.proofs.Common.{le_trans}
use Rattle.ft_base.specs.declared.limits.TheConstants.{FUNCS}
use Rattle.module_table.proofs.NameLaws.{modules-so-far}
use Rattle.module_table.proofs.names.ModuleNames.new.Goals as goal

pub invariant_of-result : goal.invariant_of-result
invariant_of-result c =
    let t = c.len-f-end.ensures.table in
    modules-so-far c.loop-f.names.keys c.args.table.now.functions c.loop-f.f FUNCS c.loop-f.invariant (le_trans t.within t.small)
