use Rattle.std.proofs.Common.{◌≡◌, List, sym, subst, rules}
use Rattle.ft_base.specs.declared.item.Item.{Item}
use Rattle.ring_rules.specs.Legal.{RingsLegal}
use Rattle.ring_rules.specs.Plan.{plan_of}
use Rattle.trace_print.specs.declared.kept.Kept.{Kept}
use Rattle.trace_print.specs.Kept.{ForSummary, IsKeptOf, ServesSummary, content_of}
use Rattle.trace_views.specs.RingLines.{HasEntries}
use Rattle.trace_views.proofs.RingEntries.{has-entries}
use Rattle.trace_print.proofs.KeptLaws.{own-enough}
use Rattle.ft_app.proofs.HistoryRings.{all-enough, replied-all}
use Rattle.ft_app.proofs.printed.write_printed.Goals as goal

pub write_kept-requires-clause-enough : goal.write_kept-requires-clause-enough
write_kept-requires-clause-enough g c = own-enough c.in-Replay.form c.args.carried_out.now.kept (rw c.in-Replay.is at c.requires.content)

pub write_kept-requires-in-None-clause-enough : goal.write_kept-requires-in-None-clause-enough
write_kept-requires-in-None-clause-enough g c = all-enough c.args.carried_out.now.kept (rw c.in-Run.is at c.requires.content) c.in-Run.form

pub summary_kept-requires : goal.summary_kept-requires
summary_kept-requires g c =
    let content : content_of c.args.carried_out.now.kept ≡ ForSummary = rw c.in-Bulk.is at c.requires.content in
    subst ServesSummary (sym content) tt

pub write_rings-requires-clause-entries : goal.write_rings-requires-clause-entries
write_rings-requires-clause-entries g c =
    let job = c.args.carried_out.now.job in
    let r = c.requires.items in
    let same : c.in-History.history.items ≡ r.0 = subst (λ (k : Kept). IsKeptOf job r.0 k) c.in-History.is r.1 in
    let legal : RingsLegal (plan_of job) r.0 c.in-Some.rings = rw c.in-Some.is at r.3.legal in
    subst (λ (items : List Item). HasEntries items c.in-Some.rings) (sym same) (has-entries (plan_of job) r.0 c.in-Some.rings legal)

-- ## a form

pub returns-in-Replay-clause-all : goal.returns-in-Replay-clause-all
returns-in-Replay-clause-all g c = λ items kept.
    rw c.in-Replay.is (replied-all _ _ _ _ c.replied.ensures.all (c.write_kept.ensures.all items kept))

pub returns-in-Replay-clause-front : goal.returns-in-Replay-clause-front
returns-in-Replay-clause-front g c = λ items kept e. rw c.in-Replay.is (c.write_kept.ensures.front items kept (c.replied.ensures.fault e))

pub returns-in-None-clause-all : goal.returns-in-None-clause-all
returns-in-None-clause-all g c = λ items kept.
    rw (c.in-Run.is, c.in-None.is) (replied-all _ _ _ _ c.replied-in-None.ensures.all (c.write_kept-in-None.ensures.all items kept))

pub returns-in-None-clause-front : goal.returns-in-None-clause-front
returns-in-None-clause-front g c = λ items kept e.
    rw (c.in-Run.is, c.in-None.is) (c.write_kept-in-None.ensures.front items kept (c.replied-in-None.ensures.fault e))

-- ## the summary

pub returns-in_ok-text-in-Bulk-clause-all : goal.returns-in_ok-text-in-Bulk-clause-all
returns-in_ok-text-in-Bulk-clause-all g c = λ items kept. (let told = c.summary_kept.ensures c.args.carried_out.now.job items kept in rw c.in-Bulk.is (search rules))

pub returns-in_ok-text-in-Bulk-clause-front : goal.returns-in_ok-text-in-Bulk-clause-front
returns-in_ok-text-in-Bulk-clause-front g c = λ items kept. (let told = c.summary_kept.ensures c.args.carried_out.now.job items kept in rw c.in-Bulk.is (search rules))
