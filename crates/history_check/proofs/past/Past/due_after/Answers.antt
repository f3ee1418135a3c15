-- A miss is due after a callback of a user with an exit whose call found no frame left.
use Rattle.std.proofs.Common.{◌∙◌, ◌∷◌, sym, ap}
use Rattle.ft_base.specs.Items.{call_of}
use Rattle.ft_base.specs.Kinds.{has_exit}
use Rattle.ft_base.proofs.Small.{false_true}
use Rattle.history_check.specs.JudgePast.{is_enter}
use Rattle.history_check.proofs.FollowPast.{is-due, no-top, none-due}
use Rattle.history_check.proofs.past.Past.due_after.Goals as goal
use Rattle.history_check.proofs.past.Past.due_after.Goals.{else-has_exit-via-then-has_exit+else-top-self, else-has_exit-via-else-has_exit}

pub returns-in_err-top : goal.returns-in_err-top
returns-in_err-top c = λ job past k goes.
    let item = c.args.item.now in
    absurd (no-top job past item (c.in_err-top.ensures job past (item ∷ past) k goes) c.in-Back.call (ap call_of c.in-Back.is) (ap is_enter c.in-Back.is))

pub returns-then-top-self : goal.returns-then-top-self
returns-then-top-self c = λ job past k goes.
    let item = c.args.item.now in
    is-due job past item c.in-Back.call c.in-Back.user c.in-Back.is c.in_ok-top.top.now (c.in_ok-top.ensures job past (item ∷ past) k goes)
    (rw (sym (c.kind_of.ensures job k.specs)) (sym c.if-has_exit.ensures)) (c.if-top-self.true ∙ k.frames)

pub returns-else-has_exit : goal.returns-else-has_exit
returns-else-has_exit c = λ job past k goes.
    let item = c.args.item.now in
    none-due job past item c.in-Back.call c.in-Back.user c.in-Back.is c.in_ok-top.top.now (c.in_ok-top.ensures job past (item ∷ past) k goes)
    (λ exits full. elim c.else-has_exit.branch [
      | else-has_exit-via-then-has_exit+else-top-self w ↦ w.if-top-self.false (full ∙ sym k.frames)
      | else-has_exit-via-else-has_exit w ↦ false_true (w.if-has_exit.ensures ∙ ap has_exit (c.kind_of.ensures job k.specs) ∙ exits)
    ])
