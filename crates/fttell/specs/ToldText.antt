-- What `items` writes for an input.
use Rattle.std.specs.Prelude.{ℕ, ◌≡◌, Bool, List, reverse}
use Rattle.ft_base.specs.declared.item.Item.{Item}
use Rattle.ft_base.specs.Job.{Job}
use Rattle.ft_io.specs.declared.status.Status.{Status}
use Rattle.ft_io.specs.declared.status.Status.TheVariants.{Done, Refused}
use Rattle.ft_script.specs.declared.faults.ScriptFault.{ScriptFault}
use Rattle.ft_script.specs.Script.{IsJobOf, IsRefusalOf}
use Rattle.judge_app.specs.Cut.{IsCut, IsUncut}
use Rattle.judge_app.specs.Lanes.{led_by}
use Rattle.judge_app.specs.Reply.{IsReplyTo, refusal_text}
use Rattle.told_items.specs.ItemText.{told_text}
use Rattle.trace_views.specs.LogText.{log_text}
use Rattle.word_machine.specs.Machine.{all_end, play}

-- what is told of the replay of a job
abbrev pub replay_text : Job → List ℕ
replay_text job = told_text job (reverse (play job).past) (all_end job (play job))

-- the statuses with which an input was answered in full
abbrev pub IsAnswered : Status → Type 0
IsAnswered Done = Unit {0}
IsAnswered Refused = Unit {0}
IsAnswered _ = ⊥

-- What is written for an input, and the status once it is written in full: of a script alone the items of its replay, or why it is refused; of a
-- script and a log the items that the log tells, or why ftjudge refuses one of the two. If the script has lanes, its commands are in the order
-- that the log tells
pub data IsToldOf (input : List ℕ) : Status → List ℕ → Type 0 where
  of_replay : (next : ℕ) → IsUncut input next → (job : Job) → IsJobOf input job → IsToldOf input Done (replay_text job)
  of_fault : (next : ℕ) → IsUncut input next → (fault : ScriptFault) → IsRefusalOf input fault → IsToldOf input Refused (refusal_text fault)
  of_log : (script log : List ℕ) (first : ℕ) → IsCut input script log first → (job : Job) → IsJobOf script job
      → (items : List Item) (ended : Bool) → log_text (led_by log job) items ended ≡ log → IsToldOf input Done (told_text (led_by log job) items ended)
  of_refusal : (script log : List ℕ) (first : ℕ) → IsCut input script log first → (text : List ℕ) → IsReplyTo input Refused text → IsToldOf input Refused text
