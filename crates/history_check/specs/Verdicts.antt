-- What a history is judged to be.
use Rattle.std.specs.Prelude.{◌≡◌, ℕ, List, take, slice_get, Some}
use Rattle.ft_base.specs.declared.item.Item.{Item}
use Rattle.ft_base.specs.Job.{Job}
use Rattle.ft_hist.specs.Rules.{IsLegal, IsWhole}
use Rattle.ft_hist.specs.Telling.{past_at}
use Rattle.history_check.specs.declared.verdict.Rule.{Rule}
use Rattle.history_check.specs.declared.verdict.Verdict.{Verdict}
use Rattle.history_check.specs.declared.verdict.Verdict.TheVariants.{Whole, Legal, Broken}
use Rattle.history_check.specs.Parts.{BreaksFirst}

-- the items before this place are legal, and the item there breaks this part, and none before it
pub record IsBroken (job : Job) (items : List Item) (place : ℕ) (rule : Rule) : Type 0 where
  pub item : Item
  pub here : slice_get items place ≡ Some item
  pub legal : IsLegal job (take place items)
  pub breaks : BreaksFirst rule job (past_at place items) item

-- the verdict on a history
abbrev pub IsVerdict : Job → List Item → Verdict → Type 0
IsVerdict job items Whole = IsWhole job items
IsVerdict job items Legal = IsLegal job items × (IsWhole job items → ⊥)
IsVerdict job items (Broken place rule) = IsBroken job items place rule
