use Rattle.std.proofs.Common.{ap, ◌∙◌, length}
use Rattle.site_set.proofs.MarksLemmas.{length-empty}
use Rattle.filter_hash.specs.Pair.{Pair}
use Rattle.ft_desk.proofs.roster.new_room.Goals as goal

pub returns : goal.returns
returns c =
    let trial = c.in_ok-trial.ensures.pair in
    record {
      trial = record {
        filter = ap (λ (p : Pair). length p.filter) trial ∙ length-empty c.args.funcs;
        notrace = ap (λ (p : Pair). length p.notrace) trial ∙ length-empty c.args.funcs;
      };
      came = c.in_ok-came.ensures.size;
      left = c.in_ok-left.ensures.size;
      reach = c.in_ok-reach.ensures.size;
    }
