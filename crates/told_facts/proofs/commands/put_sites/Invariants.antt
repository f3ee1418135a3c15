use Rattle.std.proofs.Common.{◌≡◌, ℕ, true, List, ◌++◌, ◌-◌}
use Rattle.ft_base.specs.Job.{funcs}
use Rattle.ft_io.specs.Pieces.{Puts}
use Rattle.told_facts.specs.Commands.{changed_site}
use Rattle.told_facts.specs.Values.{parts}
use Rattle.told_facts.proofs.commands.put_sites.Given as goal

-- the sites so far were put, and those to come make them all
abbrev pub invariant-loop-f : goal.invariant-loop-f
invariant-loop-f g l = (text : List ℕ)
    × Puts g.K.Sink.holds g.K.Sink.faults text l.fn.sink l.fn.pieces l.sink l.pieces
    × (text ++ parts (changed_site l.names l.before.state l.after.state) l.is_first l.f (funcs l.names - l.f)
    ≡ parts (changed_site l.names l.before.state l.after.state) true 0 (funcs l.names))
