use Rattle.std.proofs.Common.{◌∙◌}
use Rattle.step_by_step.proofs.Within.{job-is, within}
use Rattle.step_by_step.proofs.make_job.Goals as goal

pub new-requires-6 : goal.new-requires-6
new-requires-6 c =
    let l = c.in_ok-ctls.ensures in
    let p = c.in_ok-cpus.ensures in
    let u = c.in_ok-specs.ensures in
    let t = c.in_ok-table.ensures in
    let s = c.new.ensures.items in
    let lanes = c.new-2.ensures.items in
    let absent = c.new-3.ensures.items in
    let modules = c.new-4.ensures.items in
    let triggers = c.new-5.ensures.items in
    rw (t, u, p, l, s, lanes, absent, modules, triggers) within

pub returns : goal.returns
returns c =
    let l = c.in_ok-ctls.ensures in
    let p = c.in_ok-cpus.ensures in
    let u = c.in_ok-specs.ensures in
    let t = c.in_ok-table.ensures in
    let s = c.new.ensures.items in
    let lanes = c.new-2.ensures.items in
    let absent = c.new-3.ensures.items in
    let modules = c.new-4.ensures.items in
    let triggers = c.new-5.ensures.items in
    c.new-6.ensures ∙ (rw (t, u, p, l, s, lanes, absent, modules, triggers) job-is)
