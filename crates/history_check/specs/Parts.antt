-- The parts of legality by their names, and in the order in which the judge asks them.
use Rattle.std.specs.Prelude.{ℕ, List, [], ◌∷◌, take}
use Rattle.std.specs.List.{AllByRecursion as Each}
use Rattle.ft_base.specs.declared.item.Item.{Item}
use Rattle.ft_base.specs.Job.{Job}
use Rattle.ft_hist.specs.Rules.{KeepsPlainRun, KeepsCallbacks, KeepsSilence, KeepsRefusals, KeepsExits, KeepsFetches, KeepsCommands}
use Rattle.history_check.specs.declared.verdict.Rule.{Rule}
use Rattle.history_check.specs.declared.verdict.Rule.TheVariants.{PlainRun, Callbacks, Silence, Refusals, Exits, Fetches, Commands}

-- what an item keeps of a part
abbrev pub Keeps : Rule → Job → List Item → Item → Type 0
Keeps PlainRun job past item = KeepsPlainRun job past item
Keeps Callbacks job past item = KeepsCallbacks job past item
Keeps Silence job past item = KeepsSilence job past item
Keeps Refusals job past item = KeepsRefusals job past item
Keeps Exits job past item = KeepsExits job past item
Keeps Fetches job past item = KeepsFetches job past item
Keeps Commands job past item = KeepsCommands job past item

-- all parts, in the order in which they are judged
abbrev pub rules : List Rule
rules = PlainRun ∷ Callbacks ∷ Silence ∷ Refusals ∷ Exits ∷ Fetches ∷ Commands ∷ []

-- the number of a part in that order
abbrev pub rank : Rule → ℕ
rank PlainRun = 0
rank Callbacks = 1
rank Silence = 2
rank Refusals = 3
rank Exits = 4
rank Fetches = 5
rank Commands = 6

-- this is the first part that an item breaks
pub record BreaksFirst (rule : Rule) (job : Job) (past : List Item) (item : Item) : Type 0 where
  pub kept : Each (λ r. Keeps r job past item) (take (rank rule) rules)
  pub broken : Keeps rule job past item → ⊥
