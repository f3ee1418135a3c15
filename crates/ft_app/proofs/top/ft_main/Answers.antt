use Rattle.std.proofs.Common.{ap, map, subst, Err, ◌∙◌, rules}
use Rattle.std.specs.Prelude.{IfOk}
use Rattle.ft_words.specs.declared.order.Order.TheVariants.{Run}
use Rattle.ft_words.specs.Language.{Gives}
use Rattle.trace_print.specs.Kept.{IsAllAnd}
use Rattle.script_jobs.specs.Merges.{IsMergeOf}
use Rattle.ft_app.specs.Reply.{IsKeptFor, IsRunOf}
use Rattle.ft_app.proofs.HistoryRings.{run-made}
use Rattle.ft_app.proofs.Ends.{by-number, given, no-memory-for-words, no-order}
use Rattle.ft_app.proofs.top.ft_main.Goals as goal

-- ## no order was carried out

pub returns-in-Err-Language : goal.returns-in-Err-Language
returns-in-Err-Language g c =
    no-order g.S.Source.remaining g.S.Source.faults g.K.Sink.holds g.K.Sink.faults _ c.args.source.now c.args.sink.now _ (search rules)
    (c.read_words.ensures.language (c.in-Err-Language.is ∙ ap (λ f. Err f) c.in-Err-Language.field-0-is))

pub returns-in-Err-NoMemory : goal.returns-in-Err-NoMemory
returns-in-Err-NoMemory g c =
    no-memory-for-words g.S.Source.remaining g.S.Source.faults g.K.Sink.holds g.K.Sink.faults _ c.args.source.now c.args.sink.now _ (search rules)

-- ## the order that the words give is the one that is carried out

pub answer-requires-clause-serves : goal.answer-requires-clause-serves
answer-requires-clause-serves g c = λ job made ran.
    let form = c.in-Run.form in
    let led : IfOk made (λ c. IsMergeOf job c.job) = search rules in
    let run : IfOk made (λ c. IsAllAnd c.kept (λ items. IsRunOf c.job items c.ended)) = search rules in
    let kept : IfOk made (λ c. IsAllAnd c.kept (λ items. IsKeptFor (Run form) c.job items c.rings)) = search rules in
    run-made form job made led run kept

pub returns-in-Run : goal.returns-in-Run
returns-in-Run g c =
    given g.S.Source.remaining g.S.Source.faults g.K.Sink.holds g.K.Sink.faults _ _ _ _ _ _ (Run c.in-Run.form)
    (subst (Gives (map (λ word. word.now) c.args.words.now)) c.in-Run.is c.in-Ok.ensures.gives)
    (by-number g.S.Source.remaining g.S.Source.faults g.K.Sink.holds g.K.Sink.faults _ _ _ _ _ _ _ c.code.ensures c.answer.ensures)

pub returns-in_default : goal.returns-in_default
returns-in_default g c =
    given g.S.Source.remaining g.S.Source.faults g.K.Sink.holds g.K.Sink.faults _ _ _ _ _ _ c.in-Ok.order c.in-Ok.ensures.gives c.ft_plain.ensures.ends
