use Rattle.std.proofs.Common.{◌≡◌, length, ap, ◌∙◌, subst, Err, arith}
use Rattle.history_check.specs.Verdicts.{IsVerdict}
use Rattle.judge_app.specs.Reply.{IsWithin, refusal_text, verdict_text}
use Rattle.judge_app.proofs.Replies.{few-items, judged, line-few, log-refused, ok-then, within}
use Rattle.judge_app.proofs.reply.reply_for.Goals as goal

-- ## the log was read

pub judge-requires : goal.judge-requires
judge-requires c =
    let few = few-items c.args.job.now c.in-Ok.log.items.items c.in-Ok.log.ended c.args.parts.now.log.now c.in-Ok.ensures.text in
    let same = ap length c.as_slice.ensures.value in
    let fits = c.requires.fits in
    omega (arith, few, same, fits)

pub overflow_cast-len : goal.overflow_cast-len
overflow_cast-len c =
    let few = few-items c.args.job.now c.in-Ok.log.items.items c.in-Ok.log.ended c.args.parts.now.log.now c.in-Ok.ensures.text in
    let count = c.len.ensures in
    let fits = c.requires.fits in
    omega (arith, few, count, fits)

pub judged-requires-clause-fits : goal.judged-requires-clause-fits
judged-requires-clause-fits c =
    let few = few-items c.args.job.now c.in-Ok.log.items.items c.in-Ok.log.ended c.args.parts.now.log.now c.in-Ok.ensures.text in
    let count = c.len.ensures in
    let fits = c.requires.fits in
    omega (arith, few, count, fits)

pub judged-requires-clause-within : goal.judged-requires-clause-within
judged-requires-clause-within c =
    let count = c.len.ensures in
    let same : length c.in-Ok.log.items.items ≡ c.len.result = omega (arith, count) in
    subst (λ n. IsWithin n c.in_ok-verdict-in-Ok.verdict) (ap length c.as_slice.ensures.value ∙ same)
    (within c.args.job.now c.as_slice.result.now c.in_ok-verdict-in-Ok.verdict c.in_ok-verdict-in-Ok.ensures)

pub returns-in_ok-verdict-in-Ok : goal.returns-in_ok-verdict-in-Ok
returns-in_ok-verdict-in-Ok c = λ input own cut accepted told.
    let is = subst (λ items. IsVerdict c.args.job.now items c.in_ok-verdict-in-Ok.verdict) c.as_slice.ensures.value c.in_ok-verdict-in-Ok.ensures in
    let count = c.len.ensures in
    let same : c.len.result ≡ length c.in-Ok.log.items.items = omega (arith, count) in
    ok-then
    (λ r e. judged input c.args.parts.now.script.now c.args.parts.now.log.now c.args.parts.now.first cut own c.args.job.now accepted told
    c.in-Ok.log.items.items c.in-Ok.log.ended c.in-Ok.ensures.numbered c.in-Ok.ensures.text c.in_ok-verdict-in-Ok.verdict is r.status r.text.items e.0
    (e.1 ∙ ap (λ n. verdict_text c.args.parts.now.first n c.in-Ok.log.ended c.in_ok-verdict-in-Ok.verdict) same))
    c.judged.result c.judged.ensures

-- ## it is refused

pub overflow_add-parts : goal.overflow_add-parts
overflow_add-parts c =
    let refused = c.read_log.ensures.refused c.in-Err-Line.n (c.in-Err-Line.is ∙ ap (λ f. Err f) c.in-Err-Line.field-0-is) c.requires.named in
    let few = line-few c.args.job.now c.args.parts.now.log.now c.in-Err-Line.n refused in
    let fits = c.requires.fits in
    omega (arith, few.1, fits)

pub overflow_sub-parts : goal.overflow_sub-parts
overflow_sub-parts c =
    let refused = c.read_log.ensures.refused c.in-Err-Line.n (c.in-Err-Line.is ∙ ap (λ f. Err f) c.in-Err-Line.field-0-is) c.requires.named in
    let few = line-few c.args.job.now c.args.parts.now.log.now c.in-Err-Line.n refused in
    omega (arith, few.0)

pub returns-in-Err-Line : goal.returns-in-Err-Line
returns-in-Err-Line c = λ input own cut accepted told.
    let refused = c.read_log.ensures.refused c.in-Err-Line.n (c.in-Err-Line.is ∙ ap (λ f. Err f) c.in-Err-Line.field-0-is) c.requires.named in
    ok-then
    (λ r e. log-refused input c.args.parts.now.script.now c.args.parts.now.log.now c.args.parts.now.first cut own c.args.job.now accepted told c.in-Err-Line.n refused
    r.status r.text.items e.0 (e.1 ∙ ap refusal_text c.syntax_at.ensures))
    c.refused.result c.refused.ensures
