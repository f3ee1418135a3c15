use Rattle.std.proofs.lemmas.Result.{err_from_is_err_and}
use Rattle.ft_script.proofs.script.plan.Goals as goal

pub returns-in_err-check_modules-clause-refused : goal.returns-in_err-check_modules-clause-refused
returns-in_err-check_modules-clause-refused c =
    let p = err_from_is_err_and c.from_residual-in_err-check_modules.result c.from_residual-in_err-check_modules.ensures.1 in
    rw (p.1, p.2) c.in_err-check_modules.ensures.refused
