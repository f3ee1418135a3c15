-- Before the first item nothing is kept.
use Rattle.std.proofs.Common.{refl}
use Rattle.history_check.proofs.BacksLaws.{at-start}
use Rattle.history_check.proofs.backs.Check.new.Goals as goal

pub returns : goal.returns
returns c = record {
  desks = c.in_ok-new.ensures;
  calls = at-start c.args.job.now _ c.new-2.ensures.empty c.new-3.ensures.empty;
  callbacks' = c.new-4.ensures;
  done' = refl;
  begun' = refl;
}
