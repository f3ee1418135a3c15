use Rattle.std.proofs.Common.{ap, sym, ◌∙◌}
use Rattle.std.specs.Prelude.{option_map}
use Rattle.history_check.proofs.OpenCallbacks.{still-some}
use Rattle.history_check.proofs.callbacks.Callbacks.is_still.Goals as goal

pub returns-in-Some : goal.returns-in-Some
returns-in-Some c = λ job past are open'.
    still-some job past _ open' c.args.k c.in-Some.user.0 (sym (c.taken_off.ensures job are) ∙ ap (option_map (λ u. u.0)) c.in-Some.is) c.has_user.result c.has_user.ensures
