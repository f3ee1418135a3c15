use Rattle.std.proofs.Common.{◌≡◌, None, rules}
use Rattle.std.specs.Prelude.{IfOk}
use Rattle.trace_print.specs.Kept.{IsKeptOf, content_of}
use Rattle.ft_app.specs.Reply.{IsReplayOf, content_to_keep, history_of}
use Rattle.ft_app.proofs.Ends.{by-number, spoken}
use Rattle.ft_app.proofs.HistoryRings.{plain-made}
use Rattle.ft_app.proofs.plain.ft_plain.Goals as goal

pub answer-requires-clause-serves : goal.answer-requires-clause-serves
answer-requires-clause-serves g c = λ job made ran.
    let order = c.args.order.now in
    let same : IfOk made (λ c. c.job ≡ job) = search rules in
    let kept : IfOk made (λ c. IsKeptOf job (history_of job) c.kept) = search rules in
    let content : IfOk made (λ c. content_of c.kept ≡ content_to_keep order) = search rules in
    let replay : IfOk made (λ c. IsReplayOf job (history_of job) c.ended) = search rules in
    let none : IfOk made (λ c. c.rings ≡ None) = search rules in
    plain-made order c.requires job made same kept content replay none

pub returns-clause-ends : goal.returns-clause-ends
returns-clause-ends g c =
    by-number g.S.Source.remaining g.S.Source.faults g.K.Sink.holds g.K.Sink.faults _ _ _ _ _ _ _ c.code.ensures c.answer.ensures

pub returns-clause-spoken : goal.returns-clause-spoken
returns-clause-spoken g c =
    spoken g.S.Source.remaining g.S.Source.faults g.K.Sink.holds g.K.Sink.faults _ _ _ _ _ _ (by-number g.S.Source.remaining g.S.Source.faults g.K.Sink.holds g.K.Sink.faults _ _ _ _ _ _ _ c.code.ensures c.answer.ensures)
