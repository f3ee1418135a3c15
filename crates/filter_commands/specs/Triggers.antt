-- Triggers' texts: which forms they have, by their bytes alone and by a grammar, which trigger each makes, and which are refused
-- (ftrace.rst, Filter commands).
use Rattle.std.specs.Prelude.{ℕ, ◌≡◌, ◌==◌, ◌&&◌, ◌++◌, Bool, true, false, not, List, length, codes, nat_le, Option, Some, None, if◌then◌else◌}
use Rattle.std.specs.List.{before_first, after_first}
use Rattle.std.specs.Str.{bytes_eq}
use Rattle.std.specs.Str.Parse.{digits_value}
use Rattle.ft_base.specs.declared.limits.TheConstants.{TRIGGER_LIMIT}
use Rattle.ft_base.specs.Marks.{empty}
use Rattle.ft_base.specs.Job.{Func, Trigger}
use Rattle.filter_commands.specs.Forms.{Text, named, colon, has_colon, is_number, is_outside}
use Rattle.filter_commands.specs.Causes.{is_bad_glob}
use Rattle.filter_commands.specs.Edits.{selected}
use Rattle.filter_commands.specs.declared.trigger_text.TheConstants.{LIMIT_DIGITS}
use Rattle.filter_commands.specs.declared.faults.TriggerFault.{TriggerFault}
use Rattle.filter_commands.specs.declared.faults.TriggerFault.TheVariants.{Command, Pattern}

-- what a trigger's text says: its glob, whether it switches tracing on, and how often it may fire if that is limited
pub record TriggerForm : Type 0 where
  pub glob : Text
  pub on : Bool
  pub limit : Option ℕ

-- the word that switches tracing on, and the one that switches it off
abbrev pub switch_word : Bool → Text
switch_word true = codes "traceon"
switch_word false = codes "traceoff"

-- a limit is digits, few enough, whose number is one of 1 to the greatest
abbrev pub is_limit : Text → Bool
is_limit text = is_number text && nat_le (length text) LIMIT_DIGITS && not (is_outside TRIGGER_LIMIT (digits_value 10 text))

-- ---- the grammar

-- GLOB, `:` and a word that switches; or these, `:` and a limit; GLOB has no `:`
pub data HasTrigger : Text → TriggerForm → Type 0 where
  unlimited : (glob : Text) (on : Bool) → has_colon glob ≡ false → HasTrigger (glob ++ (codes ":" ++ switch_word on)) (record { glob = glob; on = on; limit = None })
  limited : (glob digits : Text) (on : Bool) → has_colon glob ≡ false → is_limit digits ≡ true → HasTrigger (glob ++ (codes ":" ++ (switch_word on ++ (codes ":" ++ digits)))) (record { glob = glob; on = on; limit = Some (digits_value 10 digits) })

-- ---- the form

-- what a word switches tracing to, if it is one of the two
abbrev pub switch_of : Text → Option Bool
switch_of word = if bytes_eq word (switch_word true) then Some true else (if bytes_eq word (switch_word false) then Some false else None)

-- the limit that a text writes, if it is one
abbrev pub limit_of : Text → Option ℕ
limit_of text = if is_limit text then Some (digits_value 10 text) else None

-- the form without a limit
abbrev pub unlimited_form : Text → Option Bool → Option TriggerForm
unlimited_form glob None = None
unlimited_form glob (Some on) = Some (record { glob = glob; on = on; limit = None })

-- the form with a limit
abbrev pub limited_form : Text → Option Bool → Option ℕ → Option TriggerForm
limited_form glob None limit = None
limited_form glob (Some on) None = None
limited_form glob (Some on) (Some n) = Some (record { glob = glob; on = on; limit = Some n })

-- a glob and what comes after the first `:`
abbrev pub form_after : Text → Text → Option TriggerForm
form_after glob after =
    if has_colon after then limited_form glob (switch_of (before_first (λ b. b == colon) after)) (limit_of (after_first (λ b. b == colon) after))
    else unlimited_form glob (switch_of after)

-- the form of a trigger's text, if it has one
abbrev pub trigger_form : Text → Option TriggerForm
trigger_form text = if has_colon text then form_after (before_first (λ b. b == colon) text) (after_first (λ b. b == colon) text) else None

-- ---- the trigger

-- the trigger of a form over these functions; of no form, one that never fires
abbrev pub trigger_by : List Func → Option TriggerForm → Trigger
trigger_by functions None = record { on = false; limit = None; set = empty (length functions) }
trigger_by functions (Some form) = record { on = form.on; limit = form.limit; set = selected functions (named form.glob) }

-- the trigger of a text over these functions
abbrev pub trigger_of : List Func → Text → Trigger
trigger_of functions text = trigger_by functions (trigger_form text)

-- why a text of this form, or of none, is refused
abbrev pub form_cause : Option TriggerForm → Option TriggerFault
form_cause None = Some Command
form_cause (Some form) = if is_bad_glob form.glob then Some Pattern else None

-- why a trigger's text is refused
abbrev pub trigger_cause : Text → Option TriggerFault
trigger_cause text = form_cause (trigger_form text)
