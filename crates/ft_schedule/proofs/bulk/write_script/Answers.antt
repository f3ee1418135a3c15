use Rattle.ft_schedule.proofs.Parts.{script-whole}
use Rattle.ft_schedule.proofs.bulk.write_script.Goals as goal

pub returns : goal.returns
returns c =
    script-whole
    c.args.n _ _ _ _ _ _ _ _
    c.in_ok-text.ensures.ok c.in_ok-push_functions.ensures c.in_ok-push_users.ensures
    c.in_ok-push_cpus.ensures.text c.in_ok-push_cpus.ensures.state
    c.in_ok-push_tasks.ensures.text c.in_ok-push_tasks.ensures.state
    c.in_ok-push_commands.ensures.text
