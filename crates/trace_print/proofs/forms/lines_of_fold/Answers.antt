use Rattle.std.proofs.Common.{◌≡◌, Bool, ◌++◌, length, ap, ◌∙◌, sym, subst}
use Rattle.std.specs.Prelude.{IfOk}
use Rattle.ft_base.specs.Job.{Job}
use Rattle.ring_rules.specs.Fold.{Rings, fold}
use Rattle.ring_rules.specs.Plan.{plan_of}
use Rattle.ring_rules.proofs.FoldLegal.{fold-legal}
use Rattle.trace_print.specs.Texts.{body_of}
use Rattle.trace_views.specs.RingLines.{HasEntries}
use Rattle.trace_views.specs.RingsText.{rings_text}
use Rattle.trace_views.specs.Words.{last_line}
use Rattle.trace_views.proofs.RingEntries.{has-entries}
use Rattle.trace_print.proofs.forms.lines_of_fold.Goals as goal
use Rattle.trace_print.proofs.forms.lines_of_fold.Goals.{In_ok-rings}

-- the rings are those of the history by place, which are legal
is-fold : (c : In_ok-rings) → c.in_ok-rings.rings ≡ fold (plan_of c.args.names.now) c.args.history.now.items
is-fold c = c.in_ok-rings.ensures ∙ ap (λ (job : Job). fold (plan_of job) c.args.history.now.items) c.job.ensures

pub lines_of_rings-requires-clause-cpus : goal.lines_of_rings-requires-clause-cpus
lines_of_rings-requires-clause-cpus c =
    let job = c.args.names.now in
    ap (λ (rings : Rings). length rings.cpus) (is-fold (goal.at.lines_of_rings-requires-clause-cpus c).In_ok-rings)
    ∙ (fold-legal (plan_of job) c.args.history.now.items).cpus

pub lines_of_rings-requires-clause-entries : goal.lines_of_rings-requires-clause-entries
lines_of_rings-requires-clause-entries c =
    let plan = plan_of c.args.names.now in
    let items = c.args.history.now.items in
    subst (HasEntries items) (sym (is-fold (goal.at.lines_of_rings-requires-clause-entries c).In_ok-rings)) (has-entries plan items (fold plan items) (fold-legal plan items))

pub returns : goal.returns
returns c =
    let job = c.args.names.now in
    let items = c.args.history.now.items in
    subst (λ (rings : Rings). IfOk c.lines_of_rings.result (λ lines. (ended : Bool) → body_of job items lines ++ last_line ended ≡ rings_text job items rings ended))
    (is-fold (goal.at.returns c).In_ok-rings) c.lines_of_rings.ensures
