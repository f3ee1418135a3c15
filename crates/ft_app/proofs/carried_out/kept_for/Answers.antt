use Rattle.ft_app.proofs.carried_out.kept_for.Goals as goal

pub returns-in-Bulk-clause-none : goal.returns-in-Bulk-clause-none
returns-in-Bulk-clause-none c = c.for_summary.ensures.none c.args.job.now
