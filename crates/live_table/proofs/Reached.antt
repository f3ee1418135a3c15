-- The states to which the word machine comes: one step more.
use Rattle.std.proofs.Common.{◌≡◌, List, [], ◌∷◌, ◌++◌, refl, sym, ap, ◌∙◌}
use Rattle.ft_base.specs.declared.turn.Actor.{Actor}
use Rattle.ft_base.specs.Job.{Job}
use Rattle.word_machine.specs.Machine.{World, run, start, step}
use Rattle.live_table.specs.Rule.{IsReached}

run-last : (job : Job) (actors : List Actor) (a : Actor) (s : World) → run job (actors ++ a ∷ []) s ≡ step job a (run job actors s)
unfolding run
run-last job [] a s = refl
run-last job (b ∷ actors) a s = run-last job actors a (step job b s)

pub reached-more : (job : Job) (s t : World) (a : Actor) → IsReached job s → t ≡ step job a s → IsReached job t
reached-more job s t a r row = (r.0 ++ a ∷ [], row ∙ ap (step job a) r.1 ∙ sym (run-last job r.0 a (start job)))
