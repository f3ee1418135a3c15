use Rattle.history_order.proofs.Waiting.{at-enter, at-leave}
use Rattle.history_order.proofs.waits.acts_wait_for_their_commands.Goals as goal

pub returns-clause-enter : goal.returns-clause-enter
returns-clause-enter c = λ job items first rest call ctx f caller legal e out. at-enter job items first rest call legal ctx f caller e out

pub returns-clause-leave : goal.returns-clause-leave
returns-clause-leave c = λ job items first rest call legal e scripted. at-leave job items first rest call legal e scripted
