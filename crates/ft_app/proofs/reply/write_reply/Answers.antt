use Rattle.std.proofs.Common.{◌≡◌, Err, rules}
use Rattle.ft_app.specs.declared.reply.ReplyFail.TheVariants.{Sink}
use Rattle.ft_app.proofs.Histories.{history-legal}
use Rattle.ft_app.proofs.Replies.{history-replied, history-begun, refusal-replied, refusal-begun, real-refusal}
use Rattle.ft_app.proofs.reply.write_reply.Goals as goal

-- ## the text of a history

pub write_printed-requires-clause-content : goal.write_printed-requires-clause-content
write_printed-requires-clause-content g c = (c.requires.serves _ _ c.in-Ok-carry_out.ensures).1.content

pub write_printed-requires-clause-items : goal.write_printed-requires-clause-items
write_printed-requires-clause-items g c =
    let made = c.requires.serves _ _ c.in-Ok-carry_out.ensures in
    (made.0, made.1.kept, history-legal c.args.order _ _ _ made.1.carried_out.history, made.1.carried_out.kept')

pub returns-in_ok-write_printed-in-Ok-clause-all : goal.returns-in_ok-write_printed-in-Ok-clause-all
returns-in_ok-write_printed-in-Ok-clause-all g c =
    let made = c.requires.serves _ _ c.in-Ok-carry_out.ensures in
    history-replied c.args.order _ _ c.args.script.now c.in-Ok.job _ _ _ _ c.in-Ok.ensures.job made.1.carried_out
    (c.in_ok-write_printed-in-Ok.ensures.all made.0 made.1.kept)

pub returns-in_err-write_printed-in-Ok-clause-front : goal.returns-in_err-write_printed-in-Ok-clause-front
returns-in_err-write_printed-in-Ok-clause-front g c = λ e.
    let failed : c.write_printed.result ≡ Err Sink = search rules in
    let made = c.requires.serves _ _ c.in-Ok-carry_out.ensures in
    history-begun c.args.order _ _ c.args.script.now c.in-Ok.job _ _ _ _ c.in-Ok.ensures.job made.1.carried_out
    (c.write_printed.ensures.front made.0 made.1.kept failed)

-- ## the line of a refusal

pub returns-in_ok-write_refusal-in-Err-clause-all : goal.returns-in_ok-write_refusal-in-Err-clause-all
returns-in_ok-write_refusal-in-Err-clause-all g c =
    refusal-replied c.args.order _ _ c.args.script.now c.in-Err.fault
    (real-refusal c.args.script.now c.in-Err.fault c.in-Err.ensures.refused (c.in_ok-write_refusal-in-Err.ensures.refused (λ e. cc)))
    c.in_ok-write_refusal-in-Err.ensures.all

pub returns-in_err-write_refusal-in-Err-clause-front : goal.returns-in_err-write_refusal-in-Err-clause-front
returns-in_err-write_refusal-in-Err-clause-front g c = λ e.
    let failed : c.write_refusal.result ≡ Err Sink = search rules in
    refusal-begun c.args.order _ _ c.args.script.now c.in-Err.fault
    (real-refusal c.args.script.now c.in-Err.fault c.in-Err.ensures.refused (c.write_refusal.ensures.refused (λ e'. cc)))
    (c.write_refusal.ensures.front failed)
