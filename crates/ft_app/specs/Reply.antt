-- What is written for a script.
use Rattle.std.specs.Prelude.{ℕ, ◌≡◌, ◌++◌, Bool, true, List, [], Option, Some, None, Result, IfOk, IfSome, codes, reverse}
use Rattle.ft_base.specs.declared.item.Item.{Item}
use Rattle.ft_base.specs.declared.memory.NoMemory.{NoMemory}
use Rattle.ft_base.specs.Job.{Job}
use Rattle.ft_hist.specs.Rules.{IsLegal, IsWhole}
use Rattle.script_jobs.specs.Merges.{IsMergeOf}
use Rattle.module_coverage.specs.Found.{KeepsLoaded, RunsLoaded}
use Rattle.word_machine.specs.Machine.{play, all_end}
use Rattle.live_table.specs.Seats.{IsMadeByTurns}
use Rattle.ft_words.specs.declared.order.Form.TheVariants as Form
use Rattle.ft_words.specs.declared.order.Order.{Order}
use Rattle.ft_words.specs.declared.order.Order.TheVariants.{Replay, Run, Bulk}
use Rattle.ft_script.specs.declared.faults.ScriptFault.{ScriptFault}
use Rattle.ft_script.specs.FaultText.{fault_text}
use Rattle.ft_script.specs.Script.{IsJobOf, IsRefusalOf}
use Rattle.ring_rules.specs.Fold.{Rings}
use Rattle.ring_rules.specs.Legal.{RingsLegal}
use Rattle.ring_rules.specs.Plan.{plan_of}
use Rattle.trace_views.specs.RingsText.{rings_text}
use Rattle.trace_print.specs.Kept.{AllItems, Content, ForSummary, IsKeptOf, content_for, content_of}
use Rattle.trace_print.specs.Texts.{text_of}
use Rattle.trace_print.specs.SummaryText.{summary_text}
use Rattle.ft_app.specs.declared.carried_out.CarriedOut.{CarriedOut}
use Rattle.ft_io.specs.declared.status.Status.{Status}
use Rattle.ft_io.specs.declared.status.Status.TheVariants.{Done, Refused}

-- the items of the replay of a job
abbrev pub history_of : Job → List Item
history_of job = reverse (play job).past

-- what an order prints of a history: its text in a form, or its summary; if threads have kept rings, the text of these
abbrev pub printed : Order → Job → List Item → Option Rings → Bool → List ℕ
printed (Replay form) job items kept ended = text_of form job items ended
printed (Run form) job items None ended = text_of form job items ended
printed (Run form) job items (Some rings) ended = rings_text job items rings ended
printed (Bulk n) job items kept ended = summary_text n items ended

-- the line that says where a script is refused, and why
abbrev pub refusal_text : ScriptFault → List ℕ
refusal_text fault = fault_text fault ++ codes "\n"

-- ## the job that is carried out

-- the job as an order carries it out: as it stands, or with `Run` in an order of its lanes
abbrev pub IsLedFor : Order → Job → Job → Type 0
IsLedFor (Replay form) job led = led ≡ job
IsLedFor (Run form) job led = IsMergeOf job led
IsLedFor (Bulk n) job led = led ≡ job

-- ## its history

-- the history of the replay of a job, which is legal; whether every actor is at its end is told, and then it is whole
pub record IsReplayOf (job : Job) (items : List Item) (ended : Bool) : Type 0 where
  pub items' : items ≡ history_of job
  pub ended' : ended ≡ all_end job (play job)
  pub legal : IsLegal job items
  pub whole : ended ≡ true → IsWhole job items

-- A history of running threads, which all came to their ends.
--   whole   it is whole, so it is legal too
--   made    the word machine makes it as well, by single steps of some actors one after the other
pub record IsRunOf (job : Job) (items : List Item) (ended : Bool) : Type 0 where
  pub whole : IsWhole job items
  pub ended' : ended ≡ true
  pub made : IsMadeByTurns job items

-- the history that an order prints
abbrev pub IsHistoryFor : Order → Job → List Item → Bool → Type 0
IsHistoryFor (Replay form) job items ended = IsReplayOf job items ended
IsHistoryFor (Run form) job items ended = IsRunOf job items ended
IsHistoryFor (Bulk n) job items ended = IsReplayOf job items ended

-- Rings that threads have kept, if they have. If they have not, the form rings has those of the history gone through by place, which are legal
-- for it, too.
--   legal   they are legal for the history
--   only    threads keep them only if they are to be printed, of a job without lanes
pub record IsKeptFor (order : Order) (led : Job) (items : List Item) (kept : Option Rings) : Type 0 where
  pub legal : IfSome kept (λ rings. RingsLegal (plan_of led) items rings)
  pub only : IfSome kept (λ rings. (order ≡ Run Form.Rings) × (led.lines.lanes ≡ []))

-- a job was carried out: `led` is the job as the order carries it out, this is a history of that which the order prints, and these are rings of
-- it, if threads have kept some
pub record IsCarriedOut (order : Order) (job led : Job) (items : List Item) (kept : Option Rings) (ended : Bool) : Type 0 where
  pub led' : IsLedFor order job led
  pub history : IsHistoryFor order led items ended
  pub kept' : IsKeptFor order led items kept

-- no call reaches code that isn't there: the module of a call's function is loaded at each item of the call, and so is that of each function
-- whose body runs, after the commands that have returned there and after those that have begun
abbrev pub FindsModules : Job → List Item → Type 0
FindsModules job items = KeepsLoaded job items × RunsLoaded job items

-- ## what is kept of its history

-- what is kept for an order: what its text needs, and no more; with `Run` all items, since rings are places among them
abbrev pub content_to_keep : Order → Content
content_to_keep (Replay form) = content_for form
content_to_keep (Run form) = AllItems
content_to_keep (Bulk n) = ForSummary

-- the job was carried out, and what is kept for the order is of these items
pub record IsMade (order : Order) (job : Job) (c : CarriedOut) (items : List Item) : Type 0 where
  pub kept : IsKeptOf c.job items c.kept
  pub content : content_of c.kept ≡ content_to_keep order
  pub carried_out : IsCarriedOut order job c.job items c.rings c.ended

-- whatever is made of a job, it was carried out
abbrev pub Serves : Order → (Job → Result CarriedOut NoMemory → Type 0) → Type 0
Serves order makes =
    (job : Job) (made : Result CarriedOut NoMemory) → makes job made → IfOk made (λ c. (items : List Item) × IsMade order job c items)

-- ## the reply

-- what an order writes for a script, and the status once it is written in full: what it prints of a history of the script's job
-- as it was carried out, in which each call finds its module, or the line of the refusal
pub data IsReplyTo (order : Order) (script : List ℕ) : Status → List ℕ → Type 0 where
  of_history : (job : Job) → IsJobOf script job → (led : Job) (items : List Item) (kept : Option Rings) (ended : Bool)
      → IsCarriedOut order job led items kept ended → FindsModules led items → IsReplyTo order script Done (printed order led items kept ended)
  of_refusal : (fault : ScriptFault) → IsRefusalOf script fault → IsReplyTo order script Refused (refusal_text fault)
