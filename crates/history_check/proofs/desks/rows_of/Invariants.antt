use Rattle.std.proofs.Common.{◌≡◌, ℕ, suc, length, take, Some}
use Rattle.std.specs.Prelude.{slice_get}
use Rattle.ft_base.specs.Job.{Job, commands_in}
use Rattle.ft_base.specs.Desk.{desk}
use Rattle.ft_desk.specs.Declarations.{IsOf}
use Rattle.ft_desk.specs.Lines.{lines_of}
use Rattle.history_check.specs.declared.desks.Row.{Row}
use Rattle.history_check.specs.DeskRows.{IsRowOf}
use Rattle.history_check.specs.DeskNumbers.{AreNumbersOf}
use Rattle.history_check.proofs.desks.rows_of.Given as goal

-- the commands before this line were planned, and each desk has its row
abbrev pub invariant-loop-line : goal.invariant-loop-line
invariant-loop-line l = record {
  declared : l.present.declared ≡ l.fn.present.declared;
  counted : l.present.commands ≡ length (commands_in (take l.line-index (lines_of l.fn.present.declared.tasks l.lines)));
  state : (job : Job) → IsOf job l.fn.present.declared → lines_of l.fn.present.declared.tasks l.lines ≡ job.ctls
      → l.present.state ≡ desk job l.present.commands;
  told' : AreNumbersOf l.fn.present.declared.tasks l.present.state l.present.commands l.told;
  size : length l.rows.items ≡ suc l.present.commands;
  each : (job : Job) → IsOf job l.fn.present.declared → lines_of l.fn.present.declared.tasks l.lines ≡ job.ctls
      → (k : ℕ) (r : Row) → slice_get l.rows.items k ≡ Some r → IsRowOf job k r;
}
