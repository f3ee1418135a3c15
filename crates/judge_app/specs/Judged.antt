-- What an input tells of a history.
use Rattle.std.specs.Prelude.{ℕ, Bool, List}
use Rattle.ft_base.specs.declared.item.Item.{Item}
use Rattle.ft_base.specs.Job.{Job}
use Rattle.ft_script.specs.Script.{IsJobOf}
use Rattle.trace_views.specs.LogText.{log_text}
use Rattle.judge_app.specs.Cut.{IsCut}

-- an input has a script, and below its line `log` the log of these items, of the script's job or of that with its commands in another order
pub record HasLog (input : List ℕ) (led : Job) (items : List Item) (ended : Bool) : Type 0 where
  pub script : List ℕ
  pub first : ℕ
  pub job : Job
  pub accepted : IsJobOf script job
  pub cut : IsCut input script (log_text led items ended) first
