use Rattle.std.proofs.Common.{◌&&◌, ◌==◌, sym, ap}
use Rattle.ft_base.specs.Desk.{UserState}
use Rattle.history_check.proofs.DeskRowLaws.{user-past}
use Rattle.history_check.proofs.desks.Desks.is_registered.Goals as goal

pub returns-in-None : goal.returns-in-None
returns-in-None c = λ job are.
    ap (λ (s : UserState). s.registered && (s.reg == c.args.reg)) (sym (user-past job c.args.k c.args.u.0 (c.in-None.ensures.none job are)))
