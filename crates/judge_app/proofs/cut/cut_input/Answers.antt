use Rattle.std.proofs.Common.{◌≡◌, ◌∙◌, sym, Some, None}
use Rattle.std.specs.List.{position}
use Rattle.judge_app.specs.Cut.{IsNoLog, is_feed}
use Rattle.judge_app.proofs.CutLaws.{at-rest, below, none-left}
use Rattle.judge_app.proofs.cut.cut_input.Goals as goal

pub returns-in-None-clause-none : goal.returns-in-None-clause-none
returns-in-None-clause-none c = none-left _ _ _ _ c.loop-log.invariant.1 (at-rest IsNoLog c.args.input.now c.loop-log.at c.in_default.ensures.none)
    (at-rest (λ t. position is_feed t ≡ None) c.args.input.now c.loop-log.at (sym c.feed.ensures ∙ c.in-None.is))

pub loop-log-preserved : goal.loop-log-preserved
loop-log-preserved c = below c.args.input.now c.loop-log.at c.in-Some-feed.feed c.loop-log.line c.loop-log.invariant.0 c.loop-log.invariant.1
    (at-rest IsNoLog c.args.input.now c.loop-log.at c.in_default.ensures.none)
    (at-rest (λ t. position is_feed t ≡ Some c.in-Some-feed.feed) c.args.input.now c.loop-log.at (sym c.feed.ensures ∙ c.in-Some-feed.is))
