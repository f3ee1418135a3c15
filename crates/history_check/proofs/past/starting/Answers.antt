use Rattle.std.proofs.Common.{◌+◌, List, [], None, length, sym, ap, ◌∙◌, subst, refl, arith}
use Rattle.std.specs.Prelude.{option_map}
use Rattle.std.proofs.lemmas.List.{length_push}
use Rattle.std.proofs.lemmas.Option.{slice_get_within}
use Rattle.ft_base.specs.declared.task.TaskAct.{TaskAct}
use Rattle.ft_base.proofs.Small.{each-pushed}
use Rattle.history_check.specs.PlainRuns.{starting}
use Rattle.history_check.specs.declared.task_past.TaskPast.{TaskPast}
use Rattle.history_check.specs.TaskCalls.{IsTaskPast}
use Rattle.history_check.proofs.JudgeStart.{few-acts, no-task-there, started, task-there}
use Rattle.history_check.proofs.past.starting.Goals as goal

pub new-run-requires : goal.new-run-requires
new-run-requires c =
    let tasks = c.args.job.now.tasks in
    let (t, at, same) = task-there tasks c.loop-acts.task c.in-Some.acts.now c.in-Some.ensures in
    let few = few-acts tasks c.loop-acts.task t at in
    let e = ap (λ (xs : List TaskAct). length xs) same in
    let all = c.requires.acts in
    omega (arith, few, e, all)

pub loop-acts-smaller : goal.loop-acts-smaller
loop-acts-smaller c =
    let tasks = c.args.job.now.tasks in
    let (t, at, same) = task-there tasks c.loop-acts.task c.in-Some.acts.now c.in-Some.ensures in
    let lt = slice_get_within tasks c.loop-acts.task t at in
    omega (arith, lt)

pub loop-acts-preserved : goal.loop-acts-preserved
loop-acts-preserved c =
    let job = c.args.job.now in
    let i = c.loop-acts.task in
    let was = c.loop-acts.invariant in
    let xs = c.loop-acts.tasks.items in
    let (t, at, same) = task-there job.tasks i c.in-Some.acts.now c.in-Some.ensures in
    let lt = slice_get_within job.tasks i t at in
    let y : TaskPast = record { run = c.new-run.result; calls = c.new-calls.result; due = None } in
    let here = started job i t at y (c.new-run.ensures ∙ ap starting (sym same)) c.new-calls.ensures.items refl in
    let pushed = (rw (sym c.in_ok-map_err.ensures.variant) at c.push.ensures.items) in
    rw pushed (record {
      within = omega (arith, lt);
      size = length_push xs y ∙ ap (λ n. n + 1) was.size;
      each = each-pushed (IsTaskPast job [] []) xs y was.each (subst (λ n. IsTaskPast job [] [] n y) (sym was.size) here);
    })

pub returns : goal.returns
returns c =
    let tasks = c.args.job.now.tasks in
    let past = no-task-there tasks c.loop-acts.task (ap (option_map (λ a. a.now)) (sym c.in_default.is) ∙ c.acts.ensures) in
    let within = c.loop-acts.invariant.within in
    let size = c.loop-acts.invariant.size in
    (omega (arith, past, within, size), c.loop-acts.invariant.each)
