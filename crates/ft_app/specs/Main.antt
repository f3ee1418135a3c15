-- What an order gets, and what was written for it.
use Rattle.std.specs.Prelude.{ℕ, ◌≡◌, ◌≤◌, ◌⊎◌, Bool, List, Option, Some, length}
use Rattle.std.specs.Io.KnownBytes.{Consumes, Appends, IsAtEnd}
use Rattle.ft_base.specs.declared.limits.TheConstants.{INPUT_BYTES}
use Rattle.ft_base.specs.declared.item.Item.{Item}
use Rattle.ft_base.specs.Job.{Job}
use Rattle.ring_rules.specs.Fold.{Rings}
use Rattle.ft_io.specs.Causes.{AppendsFront}
use Rattle.ft_words.specs.declared.order.Form.TheVariants.{Log}
use Rattle.ft_words.specs.declared.order.Order.{Order}
use Rattle.ft_words.specs.declared.order.Order.TheVariants.{Replay, Run, Bulk}
use Rattle.ft_schedule.specs.Bulk.{bulk_text}
use Rattle.ft_script.specs.declared.faults.ScriptFault.{ScriptFault}
use Rattle.ft_script.specs.Script.{IsJobOf, IsRefusalOf}
use Rattle.ft_io.specs.declared.status.Status.{Status}
use Rattle.ft_io.specs.declared.status.Status.TheVariants.{Done, Refused, NoMemory}
use Rattle.ft_io.specs.Status.{code_of}
use Rattle.ft_app.specs.Reply.{IsReplyTo, IsCarriedOut, FindsModules, printed, refusal_text}

-- the order is carried out without running threads
abbrev pub IsPlain : Order → Type 0
IsPlain (Replay form) = Unit {0}
IsPlain (Run form) = ⊥
IsPlain (Bulk n) = Unit {0}

-- ## the script of an order

-- a source was read to its end, and gave this text, which isn't too long
pub record ReadWhole (remaining remaining' : Option (List ℕ)) (script : List ℕ) : Type 0 where
  pub all : Consumes remaining remaining' script
  pub end : IsAtEnd remaining'
  pub short : length script ≤ INPUT_BYTES

-- the script came from the source, which was read to its end; or it was generated, and the source stays as it was
abbrev pub Gets : Order → (remaining remaining' : Option (List ℕ)) → List ℕ → Type 0
Gets (Replay form) remaining remaining' script = ReadWhole remaining remaining' script
Gets (Run form) remaining remaining' script = ReadWhole remaining remaining' script
Gets (Bulk n) remaining remaining' script = (script ≡ bulk_text n) × (remaining' ≡ remaining)

-- the script that is to come: all that the source tells, if that isn't too long, or the generated one
abbrev pub IsToGet : Order → Option (List ℕ) → List ℕ → Type 0
IsToGet (Replay form) remaining script = (remaining ≡ Some script) × (length script ≤ INPUT_BYTES)
IsToGet (Run form) remaining script = (remaining ≡ Some script) × (length script ≤ INPUT_BYTES)
IsToGet (Bulk n) remaining script = script ≡ bulk_text n

-- ## what is written for it

-- what the order prints of a history of the job was appended: of its replay, or with `Run` of running threads. With lanes it is one of the
-- job with its commands in the order in which they were led, and so is what is printed. In that history no call reaches a function of a
-- module that isn't loaded. Rings that are printed are legal for it: those that the threads have kept, or those of the history by place
pub record HasPrinted (order : Order) (job : Job) (holds holds' : Option (List ℕ)) : Type 0 where
  pub led : Job
  pub items : List Item
  pub kept : Option Rings
  pub ended : Bool
  pub carried_out : IsCarriedOut order job led items kept ended
  pub there : FindsModules led items
  pub written : Appends holds holds' (printed order led items kept ended)

-- the text is a script, and what the order prints of a history of its job was appended
pub record IsPlayed (order : Order) (script : List ℕ) (holds holds' : Option (List ℕ)) : Type 0 where
  pub job : Job
  pub accepted : IsJobOf script job
  pub written : HasPrinted order job holds holds'

-- the text is refused as a script, and the line that says where and why was appended
pub record IsRefused (script : List ℕ) (holds holds' : Option (List ℕ)) : Type 0 where
  pub fault : ScriptFault
  pub refused : IsRefusalOf script fault
  pub written : Appends holds holds' (refusal_text fault)

-- the reply to a script was appended, and this is the status that says so
pub record IsReplied (order : Order) (script : List ℕ) (status : Status) (holds holds' : Option (List ℕ)) : Type 0 where
  pub text : List ℕ
  pub is_reply : IsReplyTo order script status text
  pub written : Appends holds holds' text

-- a beginning of the reply to a script was appended
pub record IsBegun (order : Order) (script : List ℕ) (holds holds' : Option (List ℕ)) : Type 0 where
  pub status : Status
  pub text : List ℕ
  pub is_reply : IsReplyTo order script status text
  pub front : AppendsFront holds holds' text

-- the order asks for the form log
abbrev pub IsLogged : Order → Type 0
IsLogged (Replay Log) = Unit {0}
IsLogged (Run Log) = Unit {0}
IsLogged _ = ⊥

-- ## the statuses

-- status 0: the order's script was played
pub record HasRun (order : Order) (remaining remaining' holds holds' : Option (List ℕ)) : Type 0 where
  pub script : List ℕ
  pub read : Gets order remaining remaining' script
  pub played : IsPlayed order script holds holds'

-- status 3: the order's script was refused
pub record HasRefused (order : Order) (remaining remaining' holds holds' : Option (List ℕ)) : Type 0 where
  pub script : List ℕ
  pub read : Gets order remaining remaining' script
  pub refused : IsRefused script holds holds'

-- status 5: a beginning of the text or of the line was appended
pub record HasBegun (order : Order) (remaining remaining' holds holds' : Option (List ℕ)) : Type 0 where
  pub script : List ℕ
  pub read : Gets order remaining remaining' script
  pub begun : IsBegun order script holds holds'

-- a script is answered with status 0 and what the order prints of a history of its job, and any other text with status 3 and the line
-- of its refusal, unless memory is out
pub record Answers (order : Order) (script : List ℕ) (status : ℕ) (holds holds' : Option (List ℕ)) : Type 0 where
  pub accepted : (job : Job) → IsJobOf script job → ((status ≡ code_of Done) × HasPrinted order job holds holds') ⊎ (status ≡ code_of NoMemory)
  pub refused : (fault : ScriptFault) → IsRefusalOf script fault
      → ((status ≡ code_of Refused) × Appends holds holds' (refusal_text fault)) ⊎ (status ≡ code_of NoMemory)
