use Rattle.std.proofs.Common.{refl}
use Rattle.hash_pages.proofs.PageLaws.{count-stores, filter_at, notrace_at, state_at}
use Rattle.hash_pages.proofs.laws.the_state_is_stored_last.Goals as goal

pub returns-clause-count : goal.returns-clause-count
returns-clause-count c = count-stores

pub returns-clause-filter : goal.returns-clause-filter
returns-clause-filter c = filter_at

pub returns-clause-notrace : goal.returns-clause-notrace
returns-clause-notrace c = λ p pair w h. notrace_at p pair _ w refl h

pub returns-clause-state : goal.returns-clause-state
returns-clause-state c = λ p pair. state_at p pair _ refl
