use Rattle.std.proofs.Common.{List, ap, reverse, subst, sym}
use Rattle.ft_base.specs.declared.item.Item.{Item}
use Rattle.ft_hist.specs.Rules.{IsLegal, IsWhole}
use Rattle.word_machine.specs.Machine.{play}
use Rattle.word_machine_laws.proofs.Room.{legal-turned}
use Rattle.ft_machine.proofs.MachineLaws.{has-items}
use Rattle.ft_machine.proofs.play.replay.Goals as goal

pub replay_into-requires : goal.replay_into-requires
replay_into-requires c = ap (λ (xs : List Item). reverse xs) c.in_ok-history.ensures.empty

pub returns-clause-history : goal.returns-clause-history
returns-clause-history c = has-items _ c.replay_into.new.taker c.in_ok-ended.ensures.taken

pub returns-clause-legal : goal.returns-clause-legal
returns-clause-legal c =
    subst (λ (items : List Item). IsLegal c.args.job.now items) (sym (has-items _ c.replay_into.new.taker c.in_ok-ended.ensures.taken))
    (legal-turned c.args.job.now (play c.args.job.now).past c.in_ok-ended.ensures.legal)

pub returns-clause-whole : goal.returns-clause-whole
returns-clause-whole c = λ over.
    subst (λ (items : List Item). IsWhole c.args.job.now items) (sym (has-items _ c.replay_into.new.taker c.in_ok-ended.ensures.taken))
    (c.in_ok-ended.ensures.whole over)
