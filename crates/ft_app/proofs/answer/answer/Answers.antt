use Rattle.std.proofs.Common.{ap, refl, Err, ◌∙◌, rules}
use Rattle.ft_app.proofs.Ends.{gave-more, no-memory, no-memory-for-it, read-failed, replied, write-failed}
use Rattle.ft_app.proofs.answer.answer.Goals as goal

-- ## the script was not got

pub returns-in-Err-Fault : goal.returns-in-Err-Fault
returns-in-Err-Fault g c =
    read-failed g.S.Source.remaining g.S.Source.faults g.K.Sink.holds g.K.Sink.faults c.args.order.now c.args.source.now c.script_for.new.source
    c.args.sink.now c.args.sink.now _ c.script_for.ensures.generated refl
    (c.script_for.ensures.fault (c.in-Err-Fault.is ∙ ap (λ f. Err f) c.in-Err-Fault.field-0-is)) (search rules) refl

pub returns-in-Err-TooLong : goal.returns-in-Err-TooLong
returns-in-Err-TooLong g c =
    let is = c.in-Err-TooLong.is ∙ ap (λ f. Err f) c.in-Err-TooLong.field-0-is in
    gave-more g.S.Source.remaining g.S.Source.faults g.K.Sink.holds g.K.Sink.faults c.args.order.now c.args.source.now c.script_for.new.source
    c.args.sink.now c.args.sink.now _ c.script_for.ensures.generated refl
    (c.script_for.ensures.too_long is) (λ n e. c.script_for.ensures.never_long n e is) refl

pub returns-in-Err-NoMemory : goal.returns-in-Err-NoMemory
returns-in-Err-NoMemory g c =
    no-memory g.S.Source.remaining g.S.Source.faults g.K.Sink.holds g.K.Sink.faults c.args.order.now c.args.source.now c.script_for.new.source
    c.args.sink.now c.args.sink.now _ c.script_for.ensures.generated refl (search rules) refl

-- ## it was

pub returns-in-Ok-write_reply : goal.returns-in-Ok-write_reply
returns-in-Ok-write_reply g c =
    replied g.S.Source.remaining g.S.Source.faults g.K.Sink.holds g.K.Sink.faults c.args.order.now c.args.source.now c.script_for.new.source
    c.args.sink.now c.write_reply.new.sink _ c.script_for.ensures.generated _ c.in-Ok.script.items c.in-Ok.ensures.gets c.deref.ensures.value
    c.in-Ok-write_reply.status refl c.in-Ok-write_reply.ensures.all

pub returns-in-Err-NoMemory-write_reply : goal.returns-in-Err-NoMemory-write_reply
returns-in-Err-NoMemory-write_reply g c =
    no-memory-for-it g.S.Source.remaining g.S.Source.faults g.K.Sink.holds g.K.Sink.faults c.args.order.now c.args.source.now c.script_for.new.source
    c.args.sink.now c.write_reply.new.sink _ c.script_for.ensures.generated _ c.in-Ok.script.items c.in-Ok.ensures.gets c.deref.ensures.value
    refl (c.write_reply.ensures.memory (c.in-Err-NoMemory-write_reply.is ∙ ap (λ f. Err f) c.in-Err-NoMemory-write_reply.field-0-is))

pub returns : goal.returns
returns g c =
    let is = c.in-Err-Sink.is ∙ ap (λ f. Err f) c.in-Err-Sink.field-0-is in
    write-failed g.S.Source.remaining g.S.Source.faults g.K.Sink.holds g.K.Sink.faults c.args.order.now c.args.source.now c.script_for.new.source
    c.args.sink.now c.write_reply.new.sink _ c.script_for.ensures.generated _ c.in-Ok.script.items c.in-Ok.ensures.gets c.deref.ensures.value
    refl (c.write_reply.ensures.fault is) (c.write_reply.ensures.front is)
