-- The grammar of items: what it is that a word says this, by one rule for each way to write it.
use Rattle.std.specs.Prelude.{◌≡◌, ℕ, ◌+◌, ◌<◌, [], ◌∷◌, ◌++◌, codes, Some}
use Rattle.ft_base.specs.declared.limits.TheConstants.{CPUS}
use Rattle.ft_base.specs.declared.turn.Who.{Who}
use Rattle.ft_base.specs.declared.turn.Who.TheVariants.{Control, Cpu, All}
use Rattle.script_text.specs.Lines.{Word}
use Rattle.script_text.specs.Names.{number_of}
use Rattle.ft_schedule.specs.declared.item.SchedItem.{SchedItem}

-- `k`, the digit of a CPU, or `all`
pub data HasWho : Word → Who → Type 0 where
  control : HasWho (codes "k") Control
  a_cpu : (n : ℕ) → n < CPUS → HasWho ((48 + n) ∷ []) (Cpu (record { 0 = n }))
  everyone : HasWho (codes "all") All

-- whose turn it is, alone or with `*` and a number after it
pub data HasItem : Word → SchedItem → Type 0 where
  once : (word : Word) (who : Who) → HasWho word who → HasItem word (record { who = who; count = 1 })
  times : (word number : Word) (who : Who) (n : ℕ) → HasWho word who → number_of number ≡ Some n → HasItem (word ++ (codes "*" ++ number)) (record { who = who; count = n })
