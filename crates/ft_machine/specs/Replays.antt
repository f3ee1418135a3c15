-- Where a replay stops, and what it has made until then.
use Rattle.std.specs.Prelude.{◌≡◌, ◌⊎◌, true, List, [], ◌++◌}
use Rattle.ft_base.specs.declared.item.Item.{Item}
use Rattle.ft_base.specs.declared.turn.Actor.{Actor}
use Rattle.ft_base.specs.Job.{Job}
use Rattle.word_machine.specs.Machine.{World, run, all_end}

-- a replay of these actors from a state has stopped in another: that is a run of a beginning of the actors, and all actors are at
-- their ends or no turn is to come
pub record StopsAt (job : Job) (actors : List Actor) (s stopped : World) : Type 0 where
  pub front : List Actor
  pub rest : List Actor
  pub split : actors ≡ front ++ rest
  pub is : stopped ≡ run job front s
  pub why : (all_end job stopped ≡ true) ⊎ (rest ≡ [])

-- these items, the latest first, are the first of those of a later past
abbrev pub IsBeginning : List Item → List Item → Type 0
IsBeginning past later = (more : List Item) × (later ≡ more ++ past)
