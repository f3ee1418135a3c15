-- Items on their way to a sink, as JSON.
use Rattle.std.specs.Prelude.{ℕ, ◌≡◌, List, Option, reverse}
use Rattle.ft_base.specs.declared.item.Item.{Item}
use Rattle.ft_base.specs.Job.{Job}
use Rattle.ft_io.specs.Pieces.{IsUnderWay}
use Rattle.told_items.specs.ItemText.{told_lines}
use Rattle.told_items.specs.Open.{HasRoom, IsTold}
use Rattle.fttell.specs.declared.telling.Telling.{Telling}

-- there is room for what one more item may open
abbrev pub HasRoomToTell : {K : Type 0} → Telling K → Type 0
HasRoomToTell telling = HasRoom telling.told

-- a sink of which is told what it holds and how many faults there were
module _ {K : Type 0} (holds : K → Option (List ℕ)) (faults : K → ℕ) where
  -- it has put the lines of these items of a job, the latest first, and of no others, into the sink that it had when it had taken none
  pub record HasToldOf (job : Job) (past : List Item) (first now : Telling K) : Type 0 where
    pub names : now.names ≡ job
    pub told : IsTold job past now.told
    pub lines : IsUnderWay holds faults (told_lines job (reverse past)) (holds first.sink) (faults first.sink) now.sink now.pieces
