use Rattle.std.proofs.Common.{ap, sym, ◌∙◌}
use Rattle.state_search_tests.specs.Numbers.{stepped, after-snoc}
use Rattle.state_search_tests.proofs.numbers.NumbersRace.step.Goals as goal

pub returns : goal.returns
returns c = λ s e. c.stepped-machine.ensures.value ∙ ap (stepped c.args.actor) e ∙ sym (after-snoc 1 s c.args.actor)
