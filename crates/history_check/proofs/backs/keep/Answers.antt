-- The map after an insert has the entry at the key of the call, and at each other key what it had.
use Rattle.std.proofs.Common.{ap, ◌∙◌}
use Rattle.std.specs.Prelude.{unwrap_or}
use Rattle.std.specs.HashMap.{get}
use Rattle.ft_base.specs.Same.{same_call}
use Rattle.history_check.specs.CallbackCheck.{no_entry, same_key}
use Rattle.history_check.proofs.CheckMaps.{unwrap-cond}
use Rattle.history_check.proofs.backs.keep.Goals as goal

pub returns-in-Ok : goal.returns-in-Ok
returns-in-Ok c = λ q.
    ap (λ o. unwrap_or o no_entry) (c.in-Ok.ensures.updates.0 (q.task.0, q.n))
    ∙ unwrap-cond (same_call c.args.call q) c.args.entry no_entry (get same_key c.args.entries.now (q.task.0, q.n))
