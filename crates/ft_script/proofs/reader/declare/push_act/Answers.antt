use Rattle.std.proofs.Common.{◌-◌, ap, arith}
use Rattle.ft_script.proofs.LookUps.{push-last}
use Rattle.ft_script.proofs.reader.declare.push_act.Goals as goal

pub returns-clause-pushed : goal.returns-clause-pushed
returns-clause-pushed c = push-last c.args.tasks.now.items c.args.act (c.len-count.result - 1) c.index_mut.result.now _ (omega (arith, c.args.tasks.now.ok.0)) c.index_mut.ensures.value (ap (λ xs. record { pid = c.index_mut.result.now.pid; cpu = c.index_mut.result.now.cpu; acts = xs }) c.in_ok-push.ensures.items)
