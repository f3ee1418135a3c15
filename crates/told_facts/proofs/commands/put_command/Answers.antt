use Rattle.ft_io.proofs.PieceLaws.{puts-then}
use Rattle.told_facts.specs.Commands.{command_text}
use Rattle.told_facts.proofs.commands.put_command.Goals as goal

pub returns : goal.returns
unfolding command_text
returns g c = λ tasks. puts-then c.put.ensures (puts-then (c.put_fields.ensures tasks) c.put-2.ensures)
