use Rattle.task_core.proofs.InvariantActs.{invariant-start, invariant-told}
use Rattle.task_core.proofs.InvariantLaw.{invariant-begun, invariant-got}
use Rattle.cpu_core.proofs.laws.tasks_keep_their_invariant.Goals as goal

pub returns-clause-start : goal.returns-clause-start
returns-clause-start c = invariant-start

pub returns-clause-begun : goal.returns-clause-begun
returns-clause-begun c = invariant-begun

pub returns-clause-told : goal.returns-clause-told
returns-clause-told c = invariant-told

pub returns-clause-got : goal.returns-clause-got
returns-clause-got c = λ job t v x named k takes. invariant-got job named t v x k takes
