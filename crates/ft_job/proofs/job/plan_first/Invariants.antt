use Rattle.std.proofs.Common.{◌≡◌, ◌≤◌, length, take}
use Rattle.ft_base.specs.Job.{Job, commands_in}
use Rattle.ft_base.specs.Desk.{desk}
use Rattle.ft_desk.specs.Declarations.{IsOf}
use Rattle.ft_desk.specs.Lines.{lines_of}
use Rattle.ft_job.proofs.job.plan_first.Given as goal

-- the commands before this line were planned, and are no more than k
abbrev pub invariant-loop-line : goal.invariant-loop-line
invariant-loop-line l = record {
  declared : l.present.declared ≡ l.fn.present.declared;
  few : l.present.commands ≤ l.k;
  counted : l.present.commands ≡ length (commands_in (take l.line-index (lines_of l.fn.present.declared.tasks l.ctls)));
  state : (job : Job) → IsOf job l.fn.present.declared → lines_of l.fn.present.declared.tasks l.ctls ≡ job.ctls
      → l.present.state ≡ desk job l.present.commands;
}
