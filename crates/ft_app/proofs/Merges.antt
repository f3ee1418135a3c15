-- The job that running threads have carried out: the script's own if it has no lanes, else that in an order of its lanes.
use Rattle.std.proofs.Common.{◌≡◌, ℕ, Bool, true, false, List, length}
use Rattle.std.specs.Prelude.{◌==◌}
use Rattle.ft_base.specs.declared.item.Item.{Item}
use Rattle.ft_base.specs.Job.{Job}
use Rattle.ft_hist.specs.Rules.{IsWhole}
use Rattle.word_machine_laws.specs.Led.{in_order}
use Rattle.word_machine_laws.specs.Orders.{IsLaneOrder}
use Rattle.live_table.specs.Seats.{IsMadeByTurns}
use Rattle.script_jobs.proofs.LaneOrders.{no-lanes, some-lanes}
use Rattle.script_jobs.specs.Merges.{IsMergeOf}
use Rattle.ft_app.specs.Reply.{IsRunOf}

-- whether there are lanes was asked
module _ (job : Job) (lanes : List ℕ) (empty : Bool) (are : lanes ≡ job.lines.lanes) (asked : empty ≡ (length lanes == 0)) where
  pub without-lanes : empty ≡ true → (led : Job) → led ≡ job → IsMergeOf job led
  without-lanes yes' led same = record {
    alone = λ none. same;
    merged = λ some. absurd (some (no-lanes job lanes empty are asked yes'));
  }

  pub in-lanes : empty ≡ false → (order : List ℕ) → IsLaneOrder job.lines.lanes order → (led : Job) → led ≡ in_order job order → IsMergeOf job led
  in-lanes no' order is led same = record {
    alone = λ none. absurd (some-lanes job lanes empty are asked no' none);
    merged = λ some. (order, is, same);
  }

pub whole-run : (led job : Job) (items given : List Item) (ended : Bool) → led ≡ job → items ≡ given → ended ≡ true → IsWhole job given → IsMadeByTurns job given
    → IsRunOf led items ended
whole-run led job items given ended same same' over whole made = record { whole = rw (same, same') whole; ended' = over; made = rw (same, same') made }
