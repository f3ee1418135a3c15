-- The facts of a script, before those of its commands are put.
use Rattle.std.specs.Prelude.{◌≡◌, All}
use Rattle.ft_desk.specs.Declarations.{IsOf}
use Rattle.ft_desk.specs.DeskView.{opened}
use Rattle.ft_desk.specs.Lines.{IsLineIn, lines_of}
use Rattle.told_facts.specs.declared.facts.Facts.{Facts}

-- both desks are new ones of the job that is named, and the lines of control are its own
pub record AreNew (facts : Facts) : Type 0 where
  pub opened : facts.before ≡ opened facts.before.declared
  pub same : facts.after ≡ facts.before
  pub declared : IsOf facts.names facts.before.declared
  pub named : All (IsLineIn facts.before.declared) facts.ctls.now
  pub ctls : lines_of facts.before.declared.tasks facts.ctls.now ≡ facts.names.ctls
