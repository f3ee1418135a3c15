-- A line without a cause declares rings and triggers that are within their limits.
use Rattle.std.proofs.Common.{◌≡◌, ℕ, ◌≤◌, ◌==◌, true, List, length, Option, Some, None, refl, sym, subst, arith}
use Rattle.std.specs.Prelude.{IfSome, unwrap_or, not, nat_lt}
use Rattle.std.specs.List.{AllByRecursion as Each}
use Rattle.std.specs.Str.Parse.{digits_value}
use Rattle.std.proofs.lemmas.Bool.{ltb-false, not-true}
use Rattle.std.proofs.lemmas.List.{length-map, length_push}
use Rattle.ft_base.proofs.Small.{and_both, or-false_both, Each-snoc}
use Rattle.ft_base.specs.declared.limits.TheConstants.{USUAL_RING, TRIGGER_LIMIT}
use Rattle.ft_base.specs.Job.{Func}
use Rattle.site_set.proofs.MarksLemmas.{length-empty}
use Rattle.filter_commands.specs.Forms.{Text, is_outside}
use Rattle.filter_commands.specs.Triggers.{TriggerForm, HasTrigger, unlimited, limited, is_limit, trigger_form, trigger_by, trigger_of}
use Rattle.filter_commands.proofs.TriggerLemmas.{HasTrigger-form}
use Rattle.ft_job.specs.Plans.{IsTriggerOf}
use Rattle.ft_script.specs.Above.{Above, Declaration, a_function, some_entries, a_trigger, with_what}
use Rattle.ft_script.specs.Holds.{IsRing, RingsHold, Holds}
use Rattle.ft_script.specs.LineConditions.{FitsAs}
use Rattle.ft_script.proofs.NoCause.{not-zero}

-- ## the trigger of a text

-- a limit is one that a trigger may have
limit-is : (digits : Text) → is_limit digits ≡ true → let n = digits_value 10 digits in (1 ≤ n) × (n ≤ TRIGGER_LIMIT)
limit-is digits e =
    let n = digits_value 10 digits in
    let small = (and_both _ (not (is_outside TRIGGER_LIMIT n)) e).1 in
    let within = or-false_both (n == 0) (nat_lt TRIGGER_LIMIT n) (not-true (is_outside TRIGGER_LIMIT n) small) in
    (not-zero n within.0, ltb-false TRIGGER_LIMIT n within.1)

form-limit : {text : Text} {form : TriggerForm} → HasTrigger text form → IfSome form.limit (λ n. (1 ≤ n) × (n ≤ TRIGGER_LIMIT))
form-limit (unlimited glob on none) = tt
form-limit (limited glob digits on none is) = limit-is digits is

-- the trigger of a text is one over the functions
pub trigger-over : (functions : List Func) (text : Text) → IsTriggerOf (length functions) (trigger_of functions text)
trigger-over functions text = by (trigger_form text) refl
  where
    by : (form : Option TriggerForm) → trigger_form text ≡ form → IsTriggerOf (length functions) (trigger_by functions form)
    by None e = record { set = length-empty (length functions); limit = tt }
    by (Some form) e = record { set = length-map functions _; limit = form-limit ((HasTrigger-form text form).1 e) }

-- ## what holds after a line

pub rings-declared : (above : Above) → Holds above → (what : Declaration) → FitsAs above what
    → let d = with_what above what in RingsHold (length d.functions) d.ring d.triggers
rings-declared above h (a_function function) f = record {
  entries = h.rings.entries;
  few = h.rings.few;
  each = subst (Each (IsTriggerOf (length (with_what above (a_function function)).functions))) (sym f.untriggered) tt;
}
rings-declared above h (some_entries count) f = record { entries = f; few = h.rings.few; each = h.rings.each }
rings-declared above h (a_trigger trigger) f = record {
  entries = h.rings.entries;
  few = (let n = length_push above.triggers trigger in let room = f.room in omega (arith, n, room));
  each = Each-snoc (IsTriggerOf (length above.functions)) above.triggers trigger h.rings.each f.over;
}
rings-declared above h what f = h.rings

-- ## the job

-- so many entries as the script says, or the usual number, are within the limits
pub entries-within : (said : Option ℕ) → IfSome said IsRing → IsRing (unwrap_or said USUAL_RING)
entries-within None h = (omega arith, omega arith)
entries-within (Some n) h = h
