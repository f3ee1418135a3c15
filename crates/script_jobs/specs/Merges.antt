-- The jobs in which the commands of a script's lanes are led.
use Rattle.std.specs.Prelude.{ℕ, ◌≡◌, ◌≢◌, List, []}
use Rattle.ft_base.specs.Job.{Job}
use Rattle.word_machine_laws.specs.Led.{in_order}
use Rattle.word_machine_laws.specs.Orders.{IsLaneOrder}

-- The job with its commands in an order in which the lock of its lanes may let them through. The order is a merge of the lanes: it has each
-- command once, and each lane's in its order. A job without lanes is itself
pub record IsMergeOf (job led : Job) : Type 0 where
  pub alone : job.lines.lanes ≡ [] → led ≡ job
  pub merged : job.lines.lanes ≢ [] → (order : List ℕ) × IsLaneOrder job.lines.lanes order × (led ≡ in_order job order)
