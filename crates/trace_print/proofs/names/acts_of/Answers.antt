use Rattle.std.proofs.Common.{List, length, sym, ap, ◌∙◌, arith}
use Rattle.std.specs.Prelude.{option_map}
use Rattle.ft_base.specs.declared.limits.TheConstants.{ACTS}
use Rattle.ft_base.specs.declared.task.TaskAct.{TaskAct}
use Rattle.history_laws.specs.Bound.{calls_in}
use Rattle.trace_print.proofs.TaskCalls.{acts-at, acts-few, calls-few, no-acts}
use Rattle.trace_print.proofs.names.acts_of.Goals as goal

pub returns-in-Some-clause-calls : goal.returns-in-Some-clause-calls
returns-in-Some-clause-calls c =
    let few = calls-few c.in-Some.acts.now in
    let same = ap (λ (acts : List TaskAct). calls_in acts) (acts-at c.args.job.now.tasks c.args.task.0 c.in-Some.acts.now (sym (ap (option_map (λ a. a.now)) c.in-Some.is) ∙ c.acts.ensures)) in
    omega (arith, few, same)

pub returns-in-Some-clause-acts : goal.returns-in-Some-clause-acts
returns-in-Some-clause-acts c =
    let same = ap (λ (acts : List TaskAct). length acts) (acts-at c.args.job.now.tasks c.args.task.0 c.in-Some.acts.now (sym (ap (option_map (λ a. a.now)) c.in-Some.is) ∙ c.acts.ensures)) in
    omega (arith, same)

pub returns-in-Some-clause-few : goal.returns-in-Some-clause-few
returns-in-Some-clause-few c =
    let few = acts-few c.args.job.now.tasks c.args.task.0 ACTS c.in-Some.acts.now (sym (ap (option_map (λ a. a.now)) c.in-Some.is) ∙ c.acts.ensures) c.shape.ensures.limited.acts in
    omega (arith, few)

pub returns-in-None-clause-calls : goal.returns-in-None-clause-calls
returns-in-None-clause-calls c =
    let none = ap (λ (acts : List TaskAct). calls_in acts) (no-acts c.args.job.now.tasks c.args.task.0 (sym (ap (option_map (λ a. a.now)) c.in-None.is) ∙ c.acts.ensures)) in
    omega (arith, none)

pub returns-in-None-clause-acts : goal.returns-in-None-clause-acts
returns-in-None-clause-acts c =
    let none = ap (λ (acts : List TaskAct). length acts) (no-acts c.args.job.now.tasks c.args.task.0 (sym (ap (option_map (λ a. a.now)) c.in-None.is) ∙ c.acts.ensures)) in
    omega (arith, none)

pub overflow_cast-result : goal.overflow_cast-result
overflow_cast-result c =
    let few = acts-few c.args.job.now.tasks c.args.task.0 ACTS c.in-Some.acts.now (sym (ap (option_map (λ a. a.now)) c.in-Some.is) ∙ c.acts.ensures) c.shape.ensures.limited.acts in
    omega (arith, few)
