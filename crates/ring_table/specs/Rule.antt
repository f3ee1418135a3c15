-- The rule of the table: at any moment between two atomic steps, whoever makes them, the words are tied to what the CPUs have done, and each
-- seat knows what its CPU has done.
use Rattle.std.specs.Prelude.{ℕ, suc, ◌≡◌, length}
use Rattle.atomic_table.specs.Table.{State}
use Rattle.ft_base.specs.declared.turn.Actor.{Actor}
use Rattle.dealt_seats.specs.Covers.{Covers}
use Rattle.dealt_seats.specs.Views.{cpu}
use Rattle.ring_rules.specs.Plan.{IsPlan, TracePlan}
use Rattle.ring_table.specs.declared.view.Known.{Known}
use Rattle.ring_table.specs.Tally.{IsTally}
use Rattle.ring_table.specs.Views.{View, nothing}

-- The rule of the table.
--   limits        the plan is within the limits of scripts
--   knows         what each CPU has done
--   seat, split   the seat in which it stands; how many CPUs were split off
--   count         there is a word for tracing and one for each trigger
--   tally         the words are tied to what the CPUs have done
--   covers        the views know what the CPUs have done
pub record RingRule {S : Type 0} (plan : TracePlan) (t : State S View) : Type 0 where
  pub limits : IsPlan plan
  pub knows : Actor → Known
  pub seat : Actor → ℕ
  pub split : ℕ
  pub count : length t.words ≡ suc (length plan.triggers)
  pub tally : IsTally plan t.words (λ c. knows (cpu c))
  pub covers : Covers plan plan.cpus (nothing plan) tt t.views knows seat split
