use Rattle.std.proofs.Common.{◌≡◌, false, sym, ◌∙◌}
use Rattle.ft_hist.specs.Telling.{past_at}
use Rattle.trace_views.specs.RingLines.{IsLineAt, is_back_at}
use Rattle.trace_views.proofs.BackLines.{one-more, none-more, no-back}
use Rattle.trace_views.proofs.FunctionLines.{line-at, legal-back}
use Rattle.trace_views.proofs.Results.{on_ok_if}
use Rattle.trace_views.proofs.function.push_back.Goals as goal

pub back_line-line-requires : goal.back_line-line-requires
back_line-line-requires c =
    let told = c.requires.calls in
    (told.0, past_at c.args.place c.args.history.now.items, told.2, legal-back told.0 c.args.history.now.items c.args.place c.item.result.now c.in-Back.call c.in-Back.user c.item.ensures c.in-Back.is told.1)

pub returns-in-Back : goal.returns-in-Back
returns-in-Back c =
    on_ok_if c.map_err.result
    (λ done job legal told so_far.
    let l = legal-back job c.args.history.now.items c.args.place c.item.result.now c.in-Back.call c.in-Back.user c.item.ensures c.in-Back.is legal in
    let is : IsLineAt job c.args.history.now.items c.args.place c.back_line-line.result =
    line-at job c.args.history.now.items c.args.place c.item.result.now c.in-Back.call c.in-Back.user c.back_line-line.result c.item.ensures c.in-Back.is c.back_line-line.ensures.place c.back_line-line.ensures.user
    (λ long. c.back_line-line.ensures.text job (past_at c.args.place c.args.history.now.items) told l long) in
    rw (rw (sym c.map_err.ensures.variant ∙ done) at c.push.ensures.items) (one-more job c.args.history.now.items c.args.place c.args.lines.now.items so_far c.back_line-line.result is))

pub returns-in_default : goal.returns-in_default
returns-in_default c = λ job legal told so_far.
    (let other : is_back_at c.args.history.now.items c.args.place ≡ false = no-back c.args.history.now.items c.args.place c.item.result.now c.item.ensures c.in_default.not-Back in
    none-more job c.args.history.now.items c.args.place c.args.lines.now.items so_far other)
