use Rattle.std.proofs.Common.{◌&&◌, sym, ap, ◌∙◌}
use Rattle.ft_base.specs.Marks.{Marks, holds}
use Rattle.ft_base.specs.Desk.{matches_by}
use Rattle.site_set.proofs.MarksLemmas.{holds-empty}
use Rattle.ft_desk.proofs.roster.reach_of.Goals as goal

pub returns-then-registered-clause-members : goal.returns-then-registered-clause-members
returns-then-registered-clause-members c = λ f small.
    c.matched_into.ensures.members f small
    ∙ sym (ap (λ b. b && matches_by c.args.user.now.pair.filter c.args.user.now.pair.notrace f) c.if-registered.true)

pub returns-else-registered-clause-members : goal.returns-else-registered-clause-members
returns-else-registered-clause-members c = λ f small.
    ap (λ (s : Marks). holds s f) c.clear.ensures.members ∙ holds-empty _ f
    ∙ sym (ap (λ b. b && matches_by c.args.user.now.pair.filter c.args.user.now.pair.notrace f) c.if-registered.false)
