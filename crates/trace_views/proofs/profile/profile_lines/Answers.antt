use Rattle.std.proofs.Common.{List, ◌++◌, ◌∙◌, ap, arith}
use Rattle.std.proofs.lemmas.Result.{IfOk-weaker}
use Rattle.ft_base.specs.declared.item.Item.{Item}
use Rattle.ft_hist.specs.Telling.{past_at}
use Rattle.ft_hist.proofs.Splitting.{length-past}
use Rattle.trace_views.specs.ProfileText.{fprobe_line, user_profile}
use Rattle.trace_views.specs.ProfileViews.{HasProfile}
use Rattle.trace_views.specs.Words.{numbered_texts}
use Rattle.trace_views.proofs.FollowLaws.{next-place, all-past}
use Rattle.trace_views.proofs.ItemTexts.{legal-at}
use Rattle.trace_views.proofs.profile.profile_lines.Goals as goal

pub take-requires : goal.take-requires
take-requires g c =
    let long = length-past c.args.history.now.items c.loop-place.place c.item.result.now c.item.ensures in (
      g.N.Named.job c.args.names.now,
      past_at c.loop-place.place c.args.history.now.items,
      c.loop-place.invariant,
      legal-at c.args.history.now.items c.loop-place.place c.item.result.now c.item.ensures (g.N.Named.job c.args.names.now) c.requires,
      omega (arith, long),
    )

pub loop-place-preserved : goal.loop-place-preserved
loop-place-preserved g c =
    let long = length-past c.args.history.now.items c.loop-place.place c.item.result.now c.item.ensures in
    next-place (λ past. HasProfile (g.N.Named.job c.args.names.now) past c.take.new.self) c.args.history.now.items c.loop-place.place c.item.result.now c.item.ensures
    (c.take.ensures (g.N.Named.job c.args.names.now) (past_at c.loop-place.place c.args.history.now.items) c.loop-place.invariant
    (legal-at c.args.history.now.items c.loop-place.place c.item.result.now c.item.ensures (g.N.Named.job c.args.names.now) c.requires) (omega (arith, long)))

pub lines-requires : goal.lines-requires
lines-requires g c = (past_at c.loop-place.place c.args.history.now.items, c.loop-place.invariant)

pub returns : goal.returns
returns g c =
    IfOk-weaker c.lines.result _ _
    (λ lines told. told (past_at c.loop-place.place c.args.history.now.items) c.loop-place.invariant
    ∙ ap (λ (xs : List Item). numbered_texts (user_profile (g.N.Named.job c.args.names.now) xs) 0 (g.N.Named.job c.args.names.now).users ++ numbered_texts (fprobe_line xs) 0 (g.N.Named.job c.args.names.now).users)
    (all-past c.args.history.now.items c.loop-place.place (omega arith)))
    c.lines.ensures
