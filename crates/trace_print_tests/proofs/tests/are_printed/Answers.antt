use Rattle.std.proofs.Common.{◌≡◌, length, ap, sym, subst, ◌∙◌}
use Rattle.ring_rules.specs.Fold.{Rings, fold}
use Rattle.ring_rules.specs.Plan.{plan_of}
use Rattle.ring_rules.proofs.FoldLegal.{fold-legal}
use Rattle.trace_views.specs.RingLines.{HasEntries}
use Rattle.trace_views.proofs.RingEntries.{has-entries}
use Rattle.trace_print_tests.proofs.tests.are_printed.Goals as goal
use Rattle.trace_print_tests.proofs.tests.are_printed.Goals.{In_ok-rings}

-- the rings are those of the history by place, which are legal
cpus : (c : In_ok-rings) → length c.in_ok-rings.rings.cpus ≡ length c.args.job.now.quanta
cpus c =
    ap (λ (rings : Rings). length rings.cpus) c.in_ok-rings.ensures
    ∙ (fold-legal (plan_of c.args.job.now) c.args.outcome.now.history.items).cpus

entries : (c : In_ok-rings) → HasEntries c.args.outcome.now.history.items c.in_ok-rings.rings
entries c =
    let plan = plan_of c.args.job.now in
    let items = c.args.outcome.now.history.items in
    subst (HasEntries items) (sym c.in_ok-rings.ensures) (has-entries plan items (fold plan items) (fold-legal plan items))

pub print_rings-requires-clause-cpus : goal.print_rings-requires-clause-cpus
print_rings-requires-clause-cpus c = cpus (goal.at.print_rings-requires-clause-cpus c).In_ok-rings

pub print_rings-requires-clause-entries : goal.print_rings-requires-clause-entries
print_rings-requires-clause-entries c = entries (goal.at.print_rings-requires-clause-entries c).In_ok-rings

pub write_rings-written-requires-clause-cpus : goal.write_rings-written-requires-clause-cpus
write_rings-written-requires-clause-cpus c = cpus (goal.at.write_rings-written-requires-clause-cpus c).In_ok-rings

pub write_rings-written-requires-clause-entries : goal.write_rings-written-requires-clause-entries
write_rings-written-requires-clause-entries c = entries (goal.at.write_rings-written-requires-clause-entries c).In_ok-rings
