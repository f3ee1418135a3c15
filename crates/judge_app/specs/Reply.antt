-- What is written for an input.
use Rattle.std.specs.Prelude.{ℕ, ◌≡◌, ◌<◌, ◌+◌, ◌++◌, Bool, true, false, List, length, codes}
use Rattle.std.specs.Fmt.{decimal}
use Rattle.std.specs.List.{AllByRecursion as Each}
use Rattle.ft_base.specs.declared.limits.TheConstants.{INPUT_BYTES}
use Rattle.ft_base.specs.declared.item.Item.{Item}
use Rattle.ft_base.specs.Job.{Job}
use Rattle.history_check.specs.declared.verdict.Rule.{Rule}
use Rattle.history_check.specs.declared.verdict.Rule.TheVariants.{PlainRun, Callbacks, Silence, Refusals, Exits, Fetches, Commands}
use Rattle.history_check.specs.declared.verdict.Verdict.{Verdict}
use Rattle.history_check.specs.declared.verdict.Verdict.TheVariants.{Whole, Legal, Broken}
use Rattle.history_check.specs.Verdicts.{IsVerdict}
use Rattle.ft_script.specs.declared.faults.ScriptFault.{ScriptFault}
use Rattle.ft_script.specs.declared.faults.Cause.TheVariants.{Syntax}
use Rattle.ft_script.specs.FaultText.{fault_text}
use Rattle.ft_script.specs.Script.{IsJobOf, IsRefusalOf}
use Rattle.log_reader.specs.Refused.{IsNumbered, IsRefusedAt}
use Rattle.trace_views.specs.LogText.{log_text}
use Rattle.ft_io.specs.declared.status.Status.{Status}
use Rattle.ft_io.specs.declared.status.Status.TheVariants as Ends
use Rattle.judge_app.specs.Cut.{IsCut, IsUncut}
use Rattle.judge_app.specs.Lanes.{led_by}

-- ## texts

-- the word for a part of legality, as docs/RULES.md heads it
abbrev pub rule_word : Rule → List ℕ
rule_word PlainRun = codes "plain run"
rule_word Callbacks = codes "callbacks"
rule_word Silence = codes "silence"
rule_word Refusals = codes "refusals"
rule_word Exits = codes "exits"
rule_word Fetches = codes "fetches"
rule_word Commands = codes "commands"

-- a line of the input, and a word for what is wrong there
abbrev pub line_text : ℕ → List ℕ → List ℕ
line_text line word = codes "line " ++ (decimal line ++ (codes ": " ++ (word ++ codes "\n")))

-- the verdict on a log of so many items whose first line has this number, and whose last line says whether every actor is at its end. A log
-- that says so of a history that isn't whole is broken at that line
abbrev pub verdict_text : ℕ → ℕ → Bool → Verdict → List ℕ
verdict_text first count ended Whole = codes "whole\n"
verdict_text first count true Legal = line_text (first + count) (codes "end")
verdict_text first count false Legal = codes "legal\n"
verdict_text first count ended (Broken place rule) = line_text (first + place) (rule_word rule)

-- its status
abbrev pub status_of : Bool → Verdict → Status
status_of ended Whole = Ends.Done
status_of true Legal = Ends.Broken
status_of false Legal = Ends.Done
status_of ended (Broken place rule) = Ends.Broken

-- the line that says where an input is refused, and why
abbrev pub refusal_text : ScriptFault → List ℕ
refusal_text fault = fault_text fault ++ codes "\n"

-- a line that has none of the forms
abbrev pub syntax_at : ℕ → ScriptFault
syntax_at n = record { line = n; cause = Syntax }

-- a verdict tells a place among so many items
abbrev pub IsWithin : ℕ → Verdict → Type 0
IsWithin count (Broken place rule) = place < count
IsWithin count _ = Unit {0}

-- ## the reply

-- the script has more bytes than one may have
abbrev pub IsLong : List ℕ → Type 0
IsLong input = (script log : List ℕ) × (first : ℕ) × IsCut input script log first × (INPUT_BYTES < length script)

-- What is written for an input, and the status once it is written in full: the verdict on the items that the log tells, or why the script is
-- refused, or the line of the log that no item of the script's job has at its place, or that the line `log` is missing. If the script has lanes,
-- its commands are in the order that the log tells
pub data IsReplyTo (input : List ℕ) : Status → List ℕ → Type 0 where
  of_verdict : (script log : List ℕ) (first : ℕ) → IsCut input script log first
      → (job : Job) → IsJobOf script job → (items : List Item) (ended : Bool) → Each (IsNumbered (led_by log job)) items → log_text (led_by log job) items ended ≡ log
      → (verdict : Verdict) → IsVerdict (led_by log job) items verdict → IsReplyTo input (status_of ended verdict) (verdict_text first (length items) ended verdict)
  of_refusal : (script log : List ℕ) (first : ℕ) → IsCut input script log first
      → (fault : ScriptFault) → IsRefusalOf script fault → IsReplyTo input Ends.Refused (refusal_text fault)
  of_log : (script log : List ℕ) (first : ℕ) → IsCut input script log first
      → (job : Job) → IsJobOf script job → (n : ℕ) → IsRefusedAt (led_by log job) log (n + 1) → IsReplyTo input Ends.Refused (refusal_text (syntax_at (first + n)))
  of_missing : (next : ℕ) → IsUncut input next → IsReplyTo input Ends.Refused (refusal_text (syntax_at next))
