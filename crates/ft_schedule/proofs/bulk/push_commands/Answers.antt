use Rattle.ft_schedule.specs.Bulk.{command_part}
use Rattle.ft_schedule.proofs.Parts.{text-none, text-more, state-none, state-more}
use Rattle.ft_schedule.proofs.bulk.push_commands.Goals as goal

pub loop-command-init : goal.loop-command-init
loop-command-init c = record { text = text-none (λ _. command_part) _ _; state = state-none (λ _. command_part) _ }

pub loop-command-preserved : goal.loop-command-preserved
loop-command-preserved c = record {
  text = text-more (λ _. command_part) _ _ _ _ _ _ c.loop-command.invariant.text c.loop-command.invariant.state c.in_ok-push_command.ensures.text;
  state = state-more (λ _. command_part) _ _ _ _ c.loop-command.invariant.state c.in_ok-push_command.ensures.state;
}
