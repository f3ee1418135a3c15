use Rattle.std.proofs.Common.{Err, refl, ap, ◌∙◌, subst, rules}
use Rattle.std.specs.Io.KnownBytes.{Appends}
use Rattle.judge_app.specs.Reply.{IsLong, IsReplyTo}
use Rattle.judge_app.proofs.Ending.{gave-more, long-script, no-memory, no-memory-for-it, read-failed, replied}
use Rattle.judge_app.proofs.app.judge_input.Goals as goal

-- ## there is no input

pub returns-in-Err-Fault-clause-ends : goal.returns-in-Err-Fault-clause-ends
returns-in-Err-Fault-clause-ends g c =
    read-failed g.S.Source.remaining g.S.Source.faults g.K.Sink.holds g.K.Sink.faults c.args.source.now c.read_all.new.source c.args.sink.now c.args.sink.now
    (c.read_all.ensures.fault (c.in-Err-Fault.is ∙ ap (λ f. Err f) c.in-Err-Fault.field-0-is)) (search rules) refl

pub returns-in-Err-TooLong-clause-ends : goal.returns-in-Err-TooLong-clause-ends
returns-in-Err-TooLong-clause-ends g c =
    gave-more g.S.Source.remaining g.S.Source.faults g.K.Sink.holds g.K.Sink.faults c.args.source.now c.read_all.new.source c.args.sink.now c.args.sink.now
    (c.read_all.ensures.too_long (c.in-Err-TooLong.is ∙ ap (λ f. Err f) c.in-Err-TooLong.field-0-is)) refl

pub returns-in-Err-NoMemory-clause-ends : goal.returns-in-Err-NoMemory-clause-ends
returns-in-Err-NoMemory-clause-ends g c =
    no-memory g.S.Source.remaining g.S.Source.faults g.K.Sink.holds g.K.Sink.faults c.args.source.now c.read_all.new.source c.args.sink.now c.args.sink.now
    (search rules) refl

-- ## the input was read

pub returns-in-Err-TooLong-answer-clause-ends : goal.returns-in-Err-TooLong-answer-clause-ends
returns-in-Err-TooLong-answer-clause-ends g c =
    long-script g.S.Source.remaining g.S.Source.faults g.K.Sink.holds g.K.Sink.faults c.args.source.now c.read_all.new.source c.args.sink.now c.args.sink.now
    c.in-Ok.input.items (record { all = c.in-Ok.ensures.all.0; end = c.in-Ok.ensures.all.1; short = c.in-Ok.ensures.short })
    (subst (λ t. IsLong t) c.deref.ensures.value (c.answer.ensures.long (c.in-Err-TooLong-answer.is ∙ ap (λ f. Err f) c.in-Err-TooLong-answer.field-0-is))) refl

pub returns-in-Err-NoMemory-answer-clause-ends : goal.returns-in-Err-NoMemory-answer-clause-ends
returns-in-Err-NoMemory-answer-clause-ends g c =
    no-memory-for-it g.S.Source.remaining g.S.Source.faults g.K.Sink.holds g.K.Sink.faults c.args.source.now c.read_all.new.source c.args.sink.now c.args.sink.now
    c.in-Ok.input.items (record { all = c.in-Ok.ensures.all.0; end = c.in-Ok.ensures.all.1; short = c.in-Ok.ensures.short }) refl

pub returns-in-Ok-write_all-clause-ends : goal.returns-in-Ok-write_all-clause-ends
returns-in-Ok-write_all-clause-ends g c =
    replied g.S.Source.remaining g.S.Source.faults g.K.Sink.holds g.K.Sink.faults c.args.source.now c.read_all.new.source c.args.sink.now c.write_all.new.sink
    c.in-Ok.input.items (record { all = c.in-Ok.ensures.all.0; end = c.in-Ok.ensures.all.1; short = c.in-Ok.ensures.short })
    (subst (λ t. IsLong t → ⊥) c.deref.ensures.value c.in-Ok-answer.ensures.fits)
    c.in-Ok-answer.reply.status c.in-Ok-answer.reply.text.items
    (subst (λ t. IsReplyTo t c.in-Ok-answer.reply.status c.in-Ok-answer.reply.text.items) c.deref.ensures.value c.in-Ok-answer.ensures.is)
    (subst (λ t. Appends (g.K.Sink.holds c.args.sink.now) (g.K.Sink.holds c.write_all.new.sink) t) c.deref-2.ensures.value c.in-Ok-write_all.ensures.all)
