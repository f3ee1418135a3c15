use Rattle.std.proofs.Common.{◌==◌, ◌∙◌, rules, tests}
use Rattle.std.proofs.lemmas.Iterator.Consumers.{YieldsList-from_deque}
use Rattle.std.proofs.lemmas.Iterator.Search.{any_from_yields_List}
use Rattle.ft_hist.specs.Past as told
use Rattle.history_check.specs.declared.callbacks.Callback.{Callback}
use Rattle.history_check.proofs.OpenCallbacks.{any-told}
use Rattle.history_check.proofs.callbacks.Callbacks.has_user.Goals as goal

pub returns : goal.returns
returns c =
    any_from_yields_List (λ (b : Callback). b.user.0 == c.args.user.0) _ _ c.any.result c.any.ensures.ran (YieldsList-from_deque c.args.self.now.open.items cc) (λ x b q k. search (rules, tests))
    ∙ any-told (λ (b : told.Callback). b.user == c.args.user.0) c.args.self.now.open.items
