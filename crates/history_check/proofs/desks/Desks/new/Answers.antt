use Rattle.std.proofs.Common.{subst, sym, ap, ◌∙◌}
use Rattle.ft_base.specs.Desk.{Desk}
use Rattle.ft_desk.specs.DeskView.{DeskView}
use Rattle.ft_desk.proofs.JobLaws.{opening-is}
use Rattle.history_check.specs.DeskNumbers.{AreNumbersOf}
use Rattle.history_check.proofs.desks.Desks.new.Goals as goal

pub rows_of-requires-clause-told : goal.rows_of-requires-clause-told
rows_of-requires-clause-told c =
    let job = c.args.job.now in
    let made = c.in_ok-present.ensures in
    let present = c.in_ok-present.present in
    let told = c.in_ok-told.told in
    subst (λ n. AreNumbersOf n present.state 0 told) (c.tasks.ensures ∙ sym made.declared.tasks)
    (subst (λ (d : Desk). AreNumbersOf c.tasks.result d 0 told) (sym (ap (λ (s : DeskView). s.state) made.opened ∙ opening-is job present.declared made.declared))
    (c.in_ok-told.ensures job c.users-users.ensures.count c.tasks.ensures))

pub returns : goal.returns
returns c =
    let made = c.in_ok-present.ensures in
    record { named = c.users-users.ensures.limited.job'; few = c.users-users.ensures.limited.counts.few_tasks; acts = c.users-users.ensures.limited.acts; users = c.users-users.ensures.count; rows = c.in_ok-rows.ensures c.args.job.now made.declared made.lines }
