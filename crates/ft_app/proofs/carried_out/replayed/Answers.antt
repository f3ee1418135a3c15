use Rattle.std.proofs.Common.{refl, sym, ◌∙◌}
use Rattle.word_machine.specs.Machine.{play}
use Rattle.word_machine_laws.proofs.Room.{legal-turned}
use Rattle.trace_print.proofs.KeptLaws.{has-kept}
use Rattle.ft_app.proofs.carried_out.replayed.Goals as goal

pub replay_into-requires : goal.replay_into-requires
replay_into-requires c = record { content = refl; has = c.in_ok-kept.ensures.none }

pub returns-clause-kept : goal.returns-clause-kept
returns-clause-kept c = has-kept c.args.job (play c.args.job).past _ c.in_ok-ended.ensures.taken.has

pub returns-clause-content : goal.returns-clause-content
returns-clause-content c = sym c.in_ok-ended.ensures.taken.content ∙ c.in_ok-kept.ensures.content

pub returns-clause-replay : goal.returns-clause-replay
returns-clause-replay c = record {
  items' = refl;
  ended' = c.in_ok-ended.ensures.ended;
  legal = legal-turned c.args.job (play c.args.job).past c.in_ok-ended.ensures.legal;
  whole = c.in_ok-ended.ensures.whole;
}
