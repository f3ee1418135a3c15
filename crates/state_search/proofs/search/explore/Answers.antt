use Rattle.std.proofs.Common.{arith}
use Rattle.state_search.proofs.Reach.{exactly}
use Rattle.state_search.proofs.search.explore.Goals as goal

pub returns-then-at-len-clause-all : goal.returns-then-at-len-clause-all
returns-then-at-len-clause-all g c = λ e.
    exactly (g.R.Race.meaning c.args.race.now) (g.met.R.Race.exact c.args.race.now) c.loop-at.search.states c.loop-at.search.outcomes c.loop-at.at c.loop-at.invariant
    (omega (arith, c.if-at-len.true, c.len.ensures))
