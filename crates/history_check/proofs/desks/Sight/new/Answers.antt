use Rattle.std.proofs.Common.{ap, ◌∙◌}
use Rattle.filter_hash.specs.Pair.{Pair}
use Rattle.history_check.proofs.desks.Sight.new.Goals as goal

pub returns : goal.returns
returns c = record {
  registered = c.is_registered.ensures;
  live = c.is_live.ensures;
  since = c.since.ensures;
  reg = c.reg.ensures c.args.desk.now.state c.args.desk.now.declared.tasks c.requires.told.0 c.requires.told.1;
  filter = ap (λ (p : Pair). p.filter) c.in_ok-pair.ensures ∙ c.pair.ensures.filter;
  notrace = ap (λ (p : Pair). p.notrace) c.in_ok-pair.ensures ∙ c.pair.ensures.notrace;
}
