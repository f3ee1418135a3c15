use Rattle.std.proofs.Common.{sym, ap, ◌∙◌, length, is_some}
use Rattle.ft_base.specs.Marks.{is_empty}
use Rattle.ft_base.specs.Desk.{register_answer}
use Rattle.ft_desk.specs.declared.user.User.{User}
use Rattle.ft_desk.specs.Declarations.{job_of}
use Rattle.ft_desk.specs.DeskView.{DeskView}
use Rattle.ft_desk.proofs.ViewLaws.{register-claims}
use Rattle.ft_desk.proofs.desk.Desk.answer_to_register.Goals as goal

pub returns-clause-answer : goal.returns-clause-answer
returns-clause-answer c =
    let x = c.user-this.ensures.user in
    c.claim.ensures.answer
    ∙ register-claims c.self.inside.roster.users c.self.inside.roster.funcs (length c.self.inside.pids.pids) (length c.self.inside.slots)
    c.self.inside.pids.pids c.self.inside.pids.nopids c.self.inside.depth c.args.user.0
    (sym (ap (λ (w : User). w.registered) x) ∙ c.if-this.false)
    (sym (ap (λ (w : User). is_some w.ipmodify) x) ∙ sym c.modifies.ensures ∙ c.if-not-modifies.false)
    (sym (ap (λ (w : User). w.regs) x) ∙ c.if-not-this.false)
    (sym (ap (λ (w : User). is_empty w.pair.filter) x) ∙ sym c.is_open.ensures ∙ c.if-is_open.false)
    ∙ ap (λ (s : DeskView). register_answer (job_of s.declared) s.state c.args.user.0) c.self.view_is
