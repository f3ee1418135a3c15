use Rattle.ft_schedule.specs.Bulk.{group_part}
use Rattle.ft_schedule.proofs.Parts.{text-none, text-more, state-none, state-more}
use Rattle.ft_schedule.proofs.bulk.push_groups.Goals as goal

pub loop-group-init : goal.loop-group-init
loop-group-init c = record { text = text-none (λ _. group_part) _ _; state = state-none (λ _. group_part) _ }

pub loop-group-preserved : goal.loop-group-preserved
loop-group-preserved c = record {
  text = text-more (λ _. group_part) _ _ _ _ _ _ c.loop-group.invariant.text c.loop-group.invariant.state c.in_ok-push_group.ensures.text;
  state = state-more (λ _. group_part) _ _ _ _ c.loop-group.invariant.state c.in_ok-push_group.ensures.state;
}
