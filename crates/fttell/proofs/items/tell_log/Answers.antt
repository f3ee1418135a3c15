use Rattle.std.proofs.Common.{Err, ap, ◌∙◌, arith}
use Rattle.judge_app.proofs.Replies.{line-few}
use Rattle.fttell.proofs.Tellings.{of-items, of-line, when-done, when-refused}
use Rattle.fttell.proofs.items.tell_log.Goals as goal

pub overflow_add-fault : goal.overflow_add-fault
overflow_add-fault g c =
    let refused = c.read_log.ensures.refused c.in-Err-Line.n (c.in-Err-Line.is ∙ ap (λ f. Err f) c.in-Err-Line.field-0-is) c.requires.named in
    let few = line-few c.args.job.now c.args.parts.now.log.now c.in-Err-Line.n refused in
    let fits = c.requires.fits in
    omega (arith, few.1, fits)

pub overflow_sub-fault : goal.overflow_sub-fault
overflow_sub-fault g c =
    let refused = c.read_log.ensures.refused c.in-Err-Line.n (c.in-Err-Line.is ∙ ap (λ f. Err f) c.in-Err-Line.field-0-is) c.requires.named in
    let few = line-few c.args.job.now c.args.parts.now.log.now c.in-Err-Line.n refused in
    omega (arith, few.0)

pub returns-in-Ok : goal.returns-in-Ok
returns-in-Ok g c = λ input own cut accepted led answered.
    let told = c.tell_read.ensures answered in
    let parts = c.args.parts.now in
    let log = c.in-Ok.log in
    (_, when-done input _ told.0 (of-items input parts.script.now parts.log.now parts.first cut own c.args.job.now accepted led log.items.items log.ended c.in-Ok.ensures.text), told.1)

pub returns-in-Err-Line : goal.returns-in-Err-Line
returns-in-Err-Line g c = λ input own cut accepted led answered.
    let told = c.refuse.ensures answered in
    let parts = c.args.parts.now in
    let refused = c.read_log.ensures.refused c.in-Err-Line.n (c.in-Err-Line.is ∙ ap (λ f. Err f) c.in-Err-Line.field-0-is) c.requires.named in
    (_, when-refused input _ told.0 (of-line input parts.script.now parts.log.now parts.first cut own c.args.job.now accepted led c.in-Err-Line.n refused), told.2)
