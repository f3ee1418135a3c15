use Rattle.std.proofs.Common.{◌≡◌, length, ap, subst, refl, ◌∙◌, Some, ◌≤◌}
use Rattle.std.specs.Prelude.{slice_get}
use Rattle.std.proofs.lemmas.Option.{slice_get_read}
use Rattle.trace_views.specs.declared.named.TaskName.{TaskName}
use Rattle.trace_views.specs.Words.{pid_at, cpu_at}
use Rattle.trace_print.specs.TaskNames.{name_at, names_of}
use Rattle.trace_print.proofs.TaskLookups.{name-there, no-name}
use Rattle.trace_print.proofs.names.NamesNamed.task.Goals as goal

there : (c : goal.After-result-1) → c.in-Some.name.now ≡ name_at c.args.self.now c.args.task.0
there c =
    let kept = c.deref.ensures.value ∙ c.self.invariant.1 ∙ ap names_of c.self.view_is in
    let found = c.in-Some.ensures.lookup in
    let here = slice_get_read c.deref.result.now (length c.deref.result.now) c.args.task.0 c.in-Some.name.now refl found.3.0 found.1 in
    name-there c.args.self.now c.args.task.0 c.in-Some.name.now (subst (λ xs. slice_get xs c.args.task.0 ≡ Some c.in-Some.name.now) kept here)

none : (c : goal.In-None) → (0 ≡ pid_at c.args.self.now c.args.task.0) × (0 ≡ cpu_at c.args.self.now c.args.task.0)
none c =
    let kept = c.deref.ensures.value ∙ c.self.invariant.1 ∙ ap names_of c.self.view_is in
    no-name c.args.self.now c.args.task.0 (subst (λ xs. length xs ≤ c.args.task.0) kept c.in-None.ensures.lookup.3)

pub returns-in-Some-clause-pid : goal.returns-in-Some-clause-pid
returns-in-Some-clause-pid c = ap (λ (x : TaskName). x.pid) (there c)

pub returns-in-Some-clause-cpu : goal.returns-in-Some-clause-cpu
returns-in-Some-clause-cpu c = ap (λ (x : TaskName). x.cpu) (there c)

pub returns-in-None-clause-pid : goal.returns-in-None-clause-pid
returns-in-None-clause-pid c = (none c).0

pub returns-in-None-clause-cpu : goal.returns-in-None-clause-cpu
returns-in-None-clause-cpu c = (none c).1
