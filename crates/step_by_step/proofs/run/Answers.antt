use Rattle.step_by_step.proofs.run.Goals as goal

pub loop-turn-init : goal.loop-turn-init
loop-turn-init g c = c.requires

pub step-requires : goal.step-requires
step-requires g c = c.loop-turn.invariant

pub step-requires-in-loop-turn : goal.step-requires-in-loop-turn
step-requires-in-loop-turn g c = c.step.ensures.of

pub callbacks-requires : goal.callbacks-requires
callbacks-requires g c = c.step-in-loop-turn.ensures.of

pub loop-turn-preserved : goal.loop-turn-preserved
loop-turn-preserved g c = c.step-in-loop-turn.ensures.of
