use Rattle.std.proofs.Common.{◌≡◌, sym, ap, ◌∙◌, subst, length, true, false, is_some, not, ◌&&◌, ◌||◌}
use Rattle.ft_base.specs.Marks.{is_empty}
use Rattle.ft_base.specs.Desk.{answer_on}
use Rattle.ft_base.proofs.Small.{and-false}
use Rattle.site_set.specs.Edits.{plain_edit}
use Rattle.ft_desk.specs.declared.user.User.{User}
use Rattle.ft_desk.specs.Commands.{edit_command}
use Rattle.ft_desk.specs.Declarations.{job_of}
use Rattle.ft_desk.specs.RosterInvariant.{IsSized}
use Rattle.ft_desk.specs.DeskView.{DeskView}
use Rattle.ft_desk.specs.Users.{user_of}
use Rattle.ft_desk.proofs.ViewLaws.{edit-claims, edit-unmatched, edit-unbound, clear-not, clear-nothing, empty-not}
use Rattle.ft_desk.proofs.desk.Desk.answer_to_edit.Goals as goal
use Rattle.ft_desk.proofs.desk.Desk.answer_to_edit.Goals.{else-not-edit-via-then-not-edit+else-is_empty, else-not-edit-via-else-not-edit, then-not-this-via-then-not-this, then-not-this-via-else-not-this+then-not-modifies}

pub returns-then-is_empty-clause-answer : goal.returns-then-is_empty-clause-answer
returns-then-is_empty-clause-answer c =
    edit-unmatched (job_of c.args.self.now.declared) c.args.self.now.state c.args.user.0 c.args.half (plain_edit c.args.edit.now)
    (clear-nothing _ _ c.if-not-edit.true (sym c.is_empty.ensures.value ∙ c.if-is_empty.true))

pub returns-then-not-this-clause-answer : goal.returns-then-not-this-clause-answer
returns-then-not-this-clause-answer c =
    let x = c.user-this.ensures.user in
    let selects : (c.args.edit.now.clear || not (is_empty c.args.edit.now.set)) ≡ true = elim c.else-not-edit.branch [
      | else-not-edit-via-then-not-edit+else-is_empty w ↦ empty-not c.args.edit.now.clear _ (sym w.is_empty.ensures.value ∙ w.if-is_empty.false)
      | else-not-edit-via-else-not-edit w ↦ clear-not _ _ (w.if-not-edit.false)
    ] in
    let unbound : ((user_of c.self.inside.roster.users c.args.user.0).registered && is_some (user_of c.self.inside.roster.users c.args.user.0).ipmodify) ≡ false =
    elim c.then-not-this.branch [
      | then-not-this-via-then-not-this w ↦
          ap (λ a. a && is_some (user_of c.self.inside.roster.users c.args.user.0).ipmodify) (sym (ap (λ (v : User). v.registered) x) ∙ w.if-not-this.true)
      | then-not-this-via-else-not-this+then-not-modifies w ↦
          ap (λ b. (user_of c.self.inside.roster.users c.args.user.0).registered && b)
          (sym (ap (λ (v : User). is_some v.ipmodify) x) ∙ sym w.modifies.ensures ∙ w.if-not-modifies.true)
          ∙ and-false _
    ] in
    edit-unbound c.self.inside.roster.users c.self.inside.roster.funcs (length c.self.inside.pids.pids) (length c.self.inside.slots)
    c.self.inside.pids.pids c.self.inside.pids.nopids c.self.inside.depth c.args.user.0 c.args.half (plain_edit c.args.edit.now) unbound selects
    ∙ ap (λ (s : DeskView). answer_on (job_of s.declared) s.state (edit_command c.args.user.0 c.args.half (plain_edit c.args.edit.now))) c.self.view_is

pub returns-clause-answer : goal.returns-clause-answer
returns-clause-answer c =
    let x = c.user-this.ensures.user in
    let selects : (c.args.edit.now.clear || not (is_empty c.args.edit.now.set)) ≡ true = elim c.else-not-edit.branch [
      | else-not-edit-via-then-not-edit+else-is_empty w ↦ empty-not c.args.edit.now.clear _ (sym w.is_empty.ensures.value ∙ w.if-is_empty.false)
      | else-not-edit-via-else-not-edit w ↦ clear-not _ _ (w.if-not-edit.false)
    ] in
    c.claim_after.ensures.answer
    ∙ edit-claims c.self.inside.roster.users c.self.inside.roster.funcs (length c.self.inside.pids.pids) (length c.self.inside.slots)
    c.self.inside.pids.pids c.self.inside.pids.nopids c.self.inside.depth c.args.user.0 c.args.half (plain_edit c.args.edit.now)
    (subst (λ (w : User). IsSized c.self.inside.roster.funcs w.pair) x c.user-this.ensures.sized)
    (sym (ap (λ (w : User). w.registered) x) ∙ c.if-not-this.false)
    (sym (ap (λ (w : User). is_some w.ipmodify) x) ∙ sym c.modifies.ensures ∙ c.if-not-modifies.false)
    selects
    ∙ ap (λ (s : DeskView). answer_on (job_of s.declared) s.state (edit_command c.args.user.0 c.args.half (plain_edit c.args.edit.now))) c.self.view_is
