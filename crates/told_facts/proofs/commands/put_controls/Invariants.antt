use Rattle.std.proofs.Common.{◌≡◌, ℕ, List, ◌++◌, drop, take, length}
use Rattle.ft_base.specs.Desk.{desk}
use Rattle.ft_base.specs.Job.{commands_in}
use Rattle.ft_desk.specs.Lines.{lines_of}
use Rattle.ft_io.specs.Pieces.{Puts}
use Rattle.told_facts.specs.Commands.{controls_from, controls_text}
use Rattle.told_facts.specs.Lines.{line_in}
use Rattle.told_facts.proofs.commands.put_controls.Given as goal

-- both desks are those of the job after the commands before this line; the lines so far were put, and those to come make them all
abbrev pub invariant-loop-ctl : goal.invariant-loop-ctl
invariant-loop-ctl g l = record {
  declared : l.before.declared ≡ l.fn.before.declared;
  counted : l.before.commands ≡ length (commands_in (take l.ctl-index (lines_of l.fn.before.declared.tasks l.ctls)));
  state : l.before.state ≡ desk l.names l.before.commands;
  same : l.after ≡ l.before;
  put : (text : List ℕ)
      × Puts g.K.Sink.holds g.K.Sink.faults text l.fn.sink l.fn.pieces l.sink l.pieces
      × (text ++ controls_from l.names (line_in l.lines) l.before.commands (drop l.ctl-index (lines_of l.fn.before.declared.tasks l.ctls))
      ≡ controls_text l.names (line_in l.lines));
}
