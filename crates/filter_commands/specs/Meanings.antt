-- What the types of the code mean.
use Rattle.std.specs.Prelude.{◌≡◌, ◌&&◌, Bool, true}
use Rattle.std.specs.Str.Parse.{digits_value}
use Rattle.glob_filter.specs.Matching.{is_fit}
use Rattle.ft_base.specs.Job.{Func, Trigger as PlainTrigger}
use Rattle.filter_commands.specs.Forms.{TextForm, line, named, in_module, is_number}
use Rattle.filter_commands.specs.Edits.{passes}
use Rattle.filter_commands.specs.Triggers.{TriggerForm}
use Rattle.filter_commands.specs.declared.forms.TextForm.{TextForm as ReadForm}
use Rattle.filter_commands.specs.declared.forms.TextForm.TheVariants.{Line, Named, InModule}
use Rattle.filter_commands.specs.declared.selector.Selector.{Selector}
use Rattle.filter_commands.specs.declared.selector.Selector.TheVariants.{ByName, ByModule}
use Rattle.filter_commands.specs.declared.trigger_text.TriggerParts.{TriggerParts}
use Rattle.filter_commands.specs.declared.triggers.Trigger.{Trigger}

-- the form that the code read
abbrev pub form_read : ReadForm → TextForm
form_read (Line digits) = line (digits_value 10 digits.now)
form_read (Named glob) = named glob.now
form_read (InModule glob negated owner) = in_module glob.now negated owner.now

-- what is read as a line number is digits alone
abbrev pub HasDigits : ReadForm → Type 0
HasDigits (Line digits) = is_number digits.now ≡ true
HasDigits _ = Unit {0}

-- whether a selector takes a function
abbrev pub takes : Selector → Func → Bool
takes (ByName name) f = is_fit name f.name
takes (ByModule name negated owner) f = is_fit name f.name && passes negated owner f.owner

-- the form of a trigger's text that the code read
abbrev pub trigger_read : TriggerParts → TriggerForm
trigger_read parts = record { glob = parts.glob.now; on = parts.on; limit = parts.limit }

-- the trigger as a job has it, with its set as marks
abbrev pub plain_trigger : Trigger → PlainTrigger
plain_trigger trigger = record { on = trigger.on; limit = trigger.limit; set = trigger.set }
