use Rattle.ring_rules.specs.Plan.{plan_of}
use Rattle.trace_views.proofs.RingEntries.{has-entries}
use Rattle.ring_runs.proofs.rings_text.Goals as goal

pub print_rings-requires-clause-cpus : goal.print_rings-requires-clause-cpus
print_rings-requires-clause-cpus c = c.requires.legal.cpus

pub print_rings-requires-clause-entries : goal.print_rings-requires-clause-entries
print_rings-requires-clause-entries c = has-entries (plan_of c.args.job.now) c.args.run.now.history.items c.args.run.now.rings c.requires.legal
