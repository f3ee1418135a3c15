use Rattle.std.proofs.Common.{◌∙◌, sym}
use Rattle.history_check.proofs.BacksLaws.{context-is}
use Rattle.history_check.proofs.backs.Check.context_of.Goals as goal

pub returns : goal.returns
returns c = λ job past k. context-is job past c.args.self.now k c.in_ok-call.field-0 c.entry.result c.entry.ensures c.args.item.now (sym c.call.ensures ∙ c.in_ok-call.was)
