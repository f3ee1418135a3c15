use Rattle.std.proofs.Common.{◌∙◌, arith}
use Rattle.module_table.proofs.OpeningLaws.{opening-in-shape, opening-count, opening-size, opening-small, opening-state}
use Rattle.module_table.proofs.modules.opened.Goals as goal

pub plan_all-requires-clause-numbers : goal.plan_all-requires-clause-numbers
plan_all-requires-clause-numbers c = opening-in-shape c.args.specs.now c.args.shape c.requires.users c.args.first.now c.as_slice.result.now (c.as_slice.ensures.value ∙ c.in_ok-commands.ensures) c.in_ok-desk.desk c.in_ok-desk.ensures

pub plan_all-requires-clause-room : goal.plan_all-requires-clause-room
plan_all-requires-clause-room c =
    let a = opening-count c.args.specs.now c.args.shape c.requires.users c.args.first.now c.as_slice.result.now (c.as_slice.ensures.value ∙ c.in_ok-commands.ensures) c.in_ok-desk.desk c.in_ok-desk.ensures in
    let b = opening-small c.args.specs.now c.args.shape c.requires.users c.args.first.now c.as_slice.result.now (c.as_slice.ensures.value ∙ c.in_ok-commands.ensures) c.in_ok-desk.desk c.in_ok-desk.ensures in
    let few = c.requires.shape.counts.few_users in
    omega (arith, a, b, few)

pub returns-clause-state : goal.returns-clause-state
returns-clause-state c = opening-state c.args.specs.now c.args.shape c.requires.users c.args.first.now c.as_slice.result.now (c.as_slice.ensures.value ∙ c.in_ok-commands.ensures) c.in_ok-desk.desk c.in_ok-desk.ensures
    c.plan_all.new.desk c.plan_all.ensures.state

pub returns-clause-count : goal.returns-clause-count
returns-clause-count c =
    let a = opening-count c.args.specs.now c.args.shape c.requires.users c.args.first.now c.as_slice.result.now (c.as_slice.ensures.value ∙ c.in_ok-commands.ensures) c.in_ok-desk.desk c.in_ok-desk.ensures in
    let b = opening-size c.args.specs.now c.args.shape c.requires.users c.args.first.now c.as_slice.result.now (c.as_slice.ensures.value ∙ c.in_ok-commands.ensures) c.in_ok-desk.desk c.in_ok-desk.ensures in
    let n = c.plan_all.ensures.count in
    omega (arith, a, b, n)
