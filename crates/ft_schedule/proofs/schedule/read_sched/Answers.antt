use Rattle.std.proofs.Common.{◌≡◌, None, map, rules}
use Rattle.ft_schedule.specs.Items.{turn_from}
use Rattle.ft_schedule.specs.Causes.{cause_in}
use Rattle.ft_schedule.proofs.StepLemmas.{few-actors, each-turn}
use Rattle.ft_schedule.proofs.schedule.read_sched.Goals as goal

-- nothing refuses the items
fine : (c : goal.After-drop-items-2) → cause_in c.args.cpus c.in-Some.items.items ≡ None
fine c = search rules

-- the turns are those of the items
same : (c : goal.After-drop-items-2) → c.push_turns.new.turns.items ≡ map turn_from c.in-Some.items.items
same c = search rules

pub returns-clause-few : goal.returns-clause-few
returns-clause-few c = few-actors c.args.cpus c.in-Some.items.items (fine c) c.push_turns.new.turns.items (same c)

pub returns-clause-each : goal.returns-clause-each
returns-clause-each c = each-turn c.args.cpus c.in-Some.items.items (fine c) c.push_turns.new.turns.items (same c)
