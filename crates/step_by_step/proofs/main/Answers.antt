use Rattle.step_by_step.proofs.main.Goals as goal

pub run-requires : goal.run-requires
run-requires c = c.in_ok-machine.ensures
