use Rattle.std.proofs.Common.{rules}
use Rattle.live_threads.proofs.run.run_scoped.Goals as goal

pub scoped-requires : goal.scoped-requires
scoped-requires g c = record {
  at = λ a. ((c.requires.seats, c.requires.flags, c.requires.seating, c.requires.ended.0, c.requires.ended.1), (search rules, search rules));
}
