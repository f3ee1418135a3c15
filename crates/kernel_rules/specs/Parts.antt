-- How many parts, from the first on, a line of a log can keep: as its history would say, and as its lines say.
use Rattle.std.specs.Prelude.{ℕ, zero, suc, ◌<◌, List}
use Rattle.ft_base.specs.declared.item.Item.{Item}
use Rattle.ft_base.specs.Job.{Job}
use Rattle.ft_hist.specs.Rules.{KeepsPlainRun, KeepsSilence, KeepsRefusals, KeepsFetches, KeepsCommands}
use Rattle.kernel_rules.specs.declared.line.ExitOrder.{ExitOrder}
use Rattle.kernel_rules.specs.declared.line.Line.{Line}
use Rattle.kernel_rules.specs.Rules.{KeepsCallbacks, KeepsExits}
use Rattle.kernel_rules.specs.Recorded.{IsReading, Marked, Tells, history}
use Rattle.kernel_rules.specs.Direct as direct
use Rattle.kernel_rules.specs.Direct.{LineFetches, item_of}

-- the parts of `MayFollow` in their order, by number
abbrev pub Part : ℕ → ExitOrder → Job → List Item → Item → Type 0
Part zero by job past item = KeepsPlainRun job past item
Part (suc zero) by job past item = KeepsCallbacks job past item
Part (suc (suc zero)) by job past item = KeepsSilence job past item
Part (suc (suc (suc zero))) by job past item = KeepsRefusals job past item
Part (suc (suc (suc (suc zero)))) by job past item = KeepsExits by job past item
Part (suc (suc (suc (suc (suc zero))))) by job past item = KeepsFetches job past item
Part (suc (suc (suc (suc (suc (suc zero)))))) by job past item = KeepsCommands job past item
Part _ by job past item = Unit {0}

-- those of Direct
abbrev pub LinePart : ℕ → ExitOrder → Job → List Item → Line → Type 0
LinePart zero by job past line = KeepsPlainRun job past (item_of line)
LinePart (suc zero) by job past line = KeepsCallbacks job past (item_of line)
LinePart (suc (suc zero)) by job past line = direct.KeepsSilence job past (item_of line)
LinePart (suc (suc (suc zero))) by job past line = KeepsRefusals job past (item_of line)
LinePart (suc (suc (suc (suc zero)))) by job past line = direct.KeepsExits by job past (item_of line)
LinePart (suc (suc (suc (suc (suc zero))))) by job past line = LineFetches job past line
LinePart (suc (suc (suc (suc (suc (suc zero)))))) by job past line = KeepsCommands job past (item_of line)
LinePart _ by job past line = Unit {0}

-- a line after others, the latest first, can keep the first n parts: it tells an item that keeps them after some legal history that the others tell
pub record CanKeep (n : ℕ) (by : ExitOrder) (job : Job) (lines : List Line) (line : Line) : Type 0 where
  pub past : List Marked
  pub item : Item
  pub reading : IsReading by job lines past
  pub tells : Tells past line item
  pub kept : (i : ℕ) → i < n → Part i by job (history past) item

-- it keeps them by the lines alone
abbrev pub KeepsFirst : ℕ → ExitOrder → Job → List Item → Line → Type 0
KeepsFirst n by job past line = (i : ℕ) → i < n → LinePart i by job past line
