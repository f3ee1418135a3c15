use Rattle.std.proofs.Common.{◌∙◌, sym, ap}
use Rattle.std.specs.Prelude.{option_map}
use Rattle.history_check.proofs.past.Past.due.Goals as goal

pub returns : goal.returns
returns c = λ job past is lt.
    let some = ap (option_map (λ x. x.now)) (sym c.in_ok-task.was) ∙ c.task.ensures in
    (is.each c.args.task.0 c.in_ok-task.field-0.now (sym some)).due
