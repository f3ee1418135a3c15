-- How many commands the lines of control come to, as a reader counts them.
use Rattle.std.proofs.Common.{◌≡◌, ◌≢◌, zero, suc, ◌^◌, ◌<◌, ◌≤◌, true, List, [], ◌∷◌, ◌++◌, length, map, refl, sym, ap, ◌∙◌, subst, arith}
use Rattle.std.specs.Prelude.{Some, None, is_some, IfSome}
use Rattle.std.specs.List.{AllByRecursion as Each}
use Rattle.std.proofs.lemmas.List.{length_push}
use Rattle.ft_base.specs.declared.limits.TheConstants.{COMMANDS}
use Rattle.ft_base.specs.Job.{Ctl, commands_in}
use Rattle.user_specs.specs.Plain.{spec_of}
use Rattle.module_table.specs.Lines.{Plain, Load, Unload}
use Rattle.ft_script.specs.declared.reader.Reader.{Reader}
use Rattle.ft_script.specs.declared.expansion.Expansion.{Expansion as KeptExpansion}
use Rattle.ft_script.specs.Above.{Above, LinedCtl, ScriptCtl, Run, Until, with_ctl}
use Rattle.ft_script.specs.Expansion.{Expansion, opened, expanded_all, line_as_it_is, lines_as_they_are, expansion_of, command_count}
use Rattle.ft_script.specs.Holds.{IsPlain}
use Rattle.ft_script.specs.ReaderInvariant.{above_of, lined_ctl, expansion_in, ReaderInvariant}
use Rattle.ft_script.proofs.LookUps.{mapped_length}
use Rattle.ft_script.proofs.Expanding.{expansion-plain, expansion-lanes, counted, opening-none, opening-each}
use Rattle.ft_script.proofs.ReaderParts.{some-not-none}

-- ## in a script with lanes

-- the lines stay as they are
pub lines-stay : (above : Above) → above.lane_count ≢ 0 → expansion_of above ≡ record (opened above) { ctls = lines_as_they_are above.ctls }
lines-stay above some = elim above.lane_count as (λ n. above.lane_count ≡ n → expansion_of above ≡ record (opened above) { ctls = lines_as_they_are above.ctls }) [
  | zero ↦ λ e. absurd (some e)
  | suc last ↦ λ e. expansion-lanes above last e
] refl

-- each line is a command
plain-one : (ctl : ScriptCtl) (rest : List Ctl) → IsPlain ctl → length (commands_in (line_as_it_is ctl ++ rest)) ≡ suc (length (commands_in rest))
plain-one (Run (Plain command)) rest h = refl
plain-one (Run (Load m)) rest h = absurd h
plain-one (Run (Unload m)) rest h = absurd h
plain-one (Until task acts) rest h = absurd h

plain-count : (ctls : List LinedCtl) → Each (λ c. IsPlain c.ctl) ctls → length (commands_in (lines_as_they_are ctls)) ≡ length ctls
plain-count [] h = refl
plain-count (c ∷ ctls) h = plain-one c.ctl (lines_as_they_are ctls) h.0 ∙ ap suc (plain-count ctls h.1)

pub count-lanes : (above : Above) → above.lane_count ≢ 0 → Each (λ c. IsPlain c.ctl) above.ctls → command_count above ≡ length above.ctls
count-lanes above some plain = ap (λ (y : Expansion). length (commands_in y.ctls)) (lines-stay above some) ∙ plain-count above.ctls plain

-- ## before the first line of a script without lanes

count-opened : (above : Above) → above.lane_count ≡ 0 → above.ctls ≡ [] → command_count above ≡ length (commands_in (opened above).ctls)
count-opened above none empty =
    ap (λ (y : Expansion). length (commands_in y.ctls)) (expansion-plain above none) ∙ ap (λ (cs : List LinedCtl). length (commands_in (expanded_all (opened above) cs).ctls)) empty

-- none, if no module is absent
pub count-none : (above : Above) → above.lane_count ≡ 0 → above.ctls ≡ [] → above.absent ≡ [] → command_count above ≡ 0
count-none above none empty here = count-opened above none empty ∙ ap (λ (cs : List Ctl). length (commands_in cs)) (opening-none above here)

-- one for each user, if one is
pub count-each : (above : Above) → above.lane_count ≡ 0 → above.ctls ≡ [] → above.absent ≢ [] → command_count above ≡ length above.users
count-each above none empty away = count-opened above none empty ∙ opening-each above away

-- ## with one more line of control

-- if the script has lanes, it is one command more
pub ctl-few : (old new : Reader) → ReaderInvariant old → ReaderInvariant new → (ctl : ScriptCtl) → above_of new ≡ with_ctl (above_of old) ctl → (old.lane_count ≡ 0 → is_some new.expansion ≡ true)
    → command_count (above_of old) ≤ COMMANDS → new.expansion ≡ None → command_count (above_of new) < 2 ^ 32
ctl-few old new k n ctl is some few none =
    let lanes : (above_of old).lane_count ≢ 0 = λ e. some-not-none new.expansion (some e) none in
    let lanes' : (above_of new).lane_count ≢ 0 = λ e. lanes (sym (ap (λ (a : Above). a.lane_count) is) ∙ e) in
    let before = count-lanes (above_of old) lanes (k.plain lanes) in
    let after = count-lanes (above_of new) lanes' (n.plain lanes') in
    let more = ap (λ (a : Above). length a.ctls) is ∙ length_push (above_of old).ctls (record { ctl = ctl; line = suc (above_of old).lines }) in
    omega (arith, before, after, more, few)

-- ## as the reader counts them

module _ (r : Reader) (k : ReaderInvariant r) where
  lines : length (above_of r).ctls ≡ length r.ctls.items
  lines = mapped_length (lined_ctl (length r.tasks.items)) r.ctls.items

  pub lanes-counted : r.lane_count ≢ 0 → length r.ctls.items ≡ command_count (above_of r)
  lanes-counted some = sym (count-lanes (above_of r) some (k.plain some) ∙ lines)

  empty : r.lane_count ≡ 0 → r.expansion ≡ None → (above_of r).ctls ≡ []
  empty here none = ap (map (lined_ctl (length r.tasks.items))) (k.none here none)

  pub none-counted : r.lane_count ≡ 0 → r.expansion ≡ None → r.absent.items ≡ [] → 0 ≡ command_count (above_of r)
  none-counted plain none here = sym (count-none (above_of r) plain (empty plain none) here)

  pub users-counted : r.lane_count ≡ 0 → r.expansion ≡ None → r.absent.items ≢ [] → length r.users.items ≡ command_count (above_of r)
  users-counted plain none away = sym (count-each (above_of r) plain (empty plain none) away ∙ mapped_length spec_of r.users.items)

  -- where control is open they are those that are known
  pub kept-counted : (x : KeptExpansion) → r.expansion ≡ Some x → x.modules.commands ≡ command_count (above_of r)
  kept-counted x some =
      let has = subst (λ o. IfSome o (λ (y : KeptExpansion). (r.lane_count ≡ 0) × (expansion_in (length r.tasks.items) y ≡ expansion_of (above_of r)))) some k.expansion in
      ap (λ (y : Expansion). y.known.commands) has.1 ∙ counted (above_of r) has.0
