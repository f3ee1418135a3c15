-- How many items a job can make.
use Rattle.std.proofs.Common.{◌<◌, ◌^◌, List, length, arith}
use Rattle.ft_base.specs.declared.item.Item.{Item}
use Rattle.ft_base.specs.Job.{Job}
use Rattle.ft_hist.specs.Rules.{IsLegalPast}
use Rattle.history_laws.proofs.Bounded.{history-most}
use Rattle.word_machine.specs.Limits.{IsLimited}
use Rattle.word_machine_laws.proofs.Limited.{few-commands}

-- a legal past is short
pub past-few : (job : Job) → IsLimited job → (past : List Item) → IsLegalPast job past → length past < 2 ^ 32
past-few job limited past legal =
    let most = history-most job past legal in
    let few = few-commands job.ctls in
    let ctls = limited.ctls in
    let items = limited.items in
    omega (arith, most, few, ctls, items)
