-- What a line without a cause leaves: what holds of what is declared goes on holding, and what is open goes on below.
use Rattle.std.proofs.Common.{◌≡◌, ◌&&◌, Bool, true, false, ℕ, List, [], ◌∷◌, refl, sym, ◌∙◌, subst, arith}
use Rattle.std.specs.Prelude.{None}
use Rattle.ft_base.proofs.Small.{false_true, or-false_both}
use Rattle.ft_base.specs.Versions.{IsVersion}
use Rattle.script_text.specs.Lines.{Line}
use Rattle.script_form.specs.Lines.{line_form}
use Rattle.ft_script.specs.declared.levels.Levels.{Levels}
use Rattle.ft_script.specs.Levels.{levels_after, is_unfinished}
use Rattle.ft_script.specs.Above.{Above, none_above, Declaration, a_version, a_task, an_act, Resolved, with_what, declared}
use Rattle.ft_script.specs.Causes.{is_unmatched, is_unbalanced, is_last, resolved_line, has_too_many_commands, carried_out, cause_of}
use Rattle.ft_script.specs.Script.{with_line}
use Rattle.ft_script.specs.Within.{IsWithinLimits}
use Rattle.ft_script.specs.Holds.{LinesHold, LanesHold, Holds}
use Rattle.ft_script.specs.LineConditions.{Fits}
use Rattle.ft_script.proofs.NoCause.{no-cause_in, carried}
use Rattle.ft_script.proofs.Fitting.{said_last, accepted}
use Rattle.ft_script.proofs.Limits.{IsLater, same-version, within-declared, order-declared, items-declared}
use Rattle.ft_script.proofs.RingBounds.{rings-declared}
use Rattle.ft_script.proofs.TaskConditions.{Begins, tasks-declared}
use Rattle.ft_script.proofs.LineBounds.{lines-kept, lanes-kept, lines-declared, lanes-declared, absent-declared, users-declared, user_lines-declared, frames-declared, quanta-declared}

-- ## what holds after a line

-- the number of the last line and its rank make no difference to the limits
within-renumbered : (above : Above) (lines rank : ℕ) → IsWithinLimits above → IsWithinLimits (record above { lines = lines; rank = rank })
within-renumbered above lines rank w = record {
  counts = w.counts;
  few_cpus = w.few_cpus;
  acts = w.acts;
  few_commands = w.few_commands;
  few_waits = w.few_waits;
  few_lanes = w.few_lanes;
  few_steps = w.few_steps;
}

-- nor to the lines of control and the lanes
lines-renumbered : (above : Above) (lines rank : ℕ) → LinesHold above → LinesHold (record above { lines = lines; rank = rank })
lines-renumbered above lines rank h = lines-kept above (record above { lines = lines; rank = rank }) refl refl refl refl refl h

lanes-renumbered : (above : Above) (lines rank count : ℕ) → LanesHold above count → LanesHold (record above { lines = lines; rank = rank }) count
lanes-renumbered above lines rank count h = lanes-kept above (record above { lines = lines; rank = rank }) count refl refl refl h

later-holds : (above : Above) → Holds above → (line : Resolved) (below : List Line) → IsLater line.what → Fits above line → has_too_many_commands above line.what ≡ false
    → is_unbalanced above.levels line.what below ≡ false → Begins above.levels line.what → Holds (declared above line)
later-holds above h line below later f few balanced begins = record {
  version = subst IsVersion (same-version above line.what later) h.version;
  within = within-renumbered (with_what above line.what) _ _ (within-declared above h line.what later f.what few);
  order = order-declared above h.order line f;
  frames = frames-declared above h line.what f.what;
  absent = absent-declared above h line.what f.what;
  rings = rings-declared above h line.what f.what;
  users = users-declared above h line.what f.what;
  user_lines = user_lines-declared above h line.what;
  quanta = quanta-declared above h line.what f.what;
  tasks = tasks-declared above h line.what below f.what balanced begins;
  lines = lines-renumbered (with_what above line.what) _ _ (lines-declared above h line.what f.what);
  lanes = lanes-renumbered (with_what above line.what) _ _ _ (lanes-declared above h line.what f.what);
  items = items-declared above h line.what later f.what;
}

-- if nothing is declared but the version, after so many lines, the last of which has this rank
empty-holds : (number lines rank : ℕ) → IsVersion number → let above = record none_above { version = number; lines = lines; rank = rank } in (above.lines ≡ 0 → above ≡ none_above) → Holds above
empty-holds number lines rank is first = record {
  version = is;
  within = record {
    counts = record { few_functions = omega arith; few_users = omega arith; few_tasks = omega arith; few_tramps = omega arith };
    few_cpus = omega arith;
    acts = record { few_acts = omega arith; few_calls = omega arith; few_open = omega arith };
    few_commands = omega arith;
    few_waits = omega arith;
    few_lanes = omega arith;
    few_steps = omega arith;
  };
  order = record { first = first; absent = λ low. refl; triggers = λ low. refl; calls = λ low. refl; lanes = λ low. refl; ctls = λ low. refl };
  frames = omega arith;
  absent = tt;
  rings = record { entries = tt; few = omega arith; each = tt };
  users = tt;
  user_lines = refl;
  quanta = tt;
  tasks = record { placed = tt; balanced = refl; raised = tt; all_acts = refl; all_calls = refl };
  lines = record { named = tt; all = refl };
  lanes = refl;
  items = omega arith;
}

-- line 1 says the version, and declares nothing else
first-holds : (above : Above) → Holds above → above.lines ≡ 0 → (rank number : ℕ) → IsVersion number → Holds (declared above (record { rank = rank; what = a_version number }))
first-holds above h first rank number is =
    subst (λ (a : Above). Holds (declared a (record { rank = rank; what = a_version number }))) (sym (h.order.first first)) (empty-holds number 1 rank is (λ none. absurd (omega (arith, none))))

line-declared : (above : Above) → Holds above → (line : Resolved) (below : List Line) → Fits above line → has_too_many_commands above line.what ≡ false
    → is_unbalanced above.levels line.what below ≡ false → Begins above.levels line.what → Holds (declared above line)
line-declared above h line below f few balanced begins = by line.rank line.what f few balanced begins
  where
    by : (rank : ℕ) (what : Declaration) → Fits above (record { rank = rank; what = what }) → has_too_many_commands above what ≡ false → is_unbalanced above.levels what below ≡ false
        → Begins above.levels what → Holds (declared above (record { rank = rank; what = what }))
    by rank (a_version number) f few balanced begins = first-holds above h f.what.0 rank number f.what.1
    by rank what f few balanced begins = later-holds above h (record { rank = rank; what = what }) below tt f few balanced begins

-- ## what is open goes on below

-- if something is open, the task goes on below
abbrev pub GoesOn : Levels → List Line → Type 0
GoesOn levels below = is_unfinished levels ≡ true → is_last below ≡ false

-- an act that leaves something open isn't the last, and what isn't an act or a task says nothing of it
goes_on : (above : Above) (what : Declaration) (below : List Line) → is_unbalanced above.levels what below ≡ false
    → (is_unfinished above.levels ≡ true → said_last what (is_last below) ≡ false) → GoesOn (with_what above what).levels below
goes_on above (a_task pid cpu) below e goes = λ running. false_true running
goes_on above (an_act act) below e goes = λ running.
    let right : (is_unfinished (levels_after above.levels act) && is_last below) ≡ false = (or-false_both (is_unmatched above.levels act) _ e).1 in
    rw running at right
goes_on above what below e goes = goes

not-so : (b : Bool) → (b ≡ true → true ≡ false) → b ≡ false
not-so true g = g refl
not-so false g = refl

-- a task begins where nothing is open
begins : (l : Levels) (what : Declaration) (last : Bool) → (is_unfinished l ≡ true → said_last what last ≡ false) → Begins l what
begins l (a_task pid cpu) last goes = not-so (is_unfinished l) goes
begins l what last goes = tt

-- ## line by line

-- what holds above these lines
pub record HoldsAbove (above : Above) (lines : List Line) : Type 0 where
  pub holds : Holds above
  pub goes_on : GoesOn above.levels lines

-- a line without a cause
pub line-holds : (above : Above) (line : Line) (below : List Line) → HoldsAbove above (line ∷ below) → cause_of above line below ≡ None → HoldsAbove (with_line above line) below
unfolding cause_of with_line
line-holds above line below s e =
    let ok = no-cause_in (carried_out above (resolved_line above line.ended (line_form line.bytes) below)) e in
    let c = carried above (resolved_line above line.ended (line_form line.bytes) below) ok.0 ok.1 in
    let a = accepted above s.holds.order line.ended line.bytes below ok.0 c.0 in
    let goes : is_unfinished above.levels ≡ true → said_last ok.0.what (is_last below) ≡ false = λ running. sym (a.last (is_last below)) ∙ s.goes_on running in
    subst (λ (r : Resolved). HoldsAbove (declared above r) below) (sym a.meaning) (record {
      holds = line-declared above s.holds ok.0 below a.fits c.1 a.balanced (begins above.levels ok.0.what (is_last below) goes);
      goes_on = goes_on above ok.0.what below a.balanced goes;
    })

-- ## the beginning and the end of a text

-- nothing is open at the end
pub closed-at_end : (above : Above) → HoldsAbove above [] → is_unfinished above.levels ≡ false
closed-at_end above s = elim (is_unfinished above.levels) as (λ b. is_unfinished above.levels ≡ b → is_unfinished above.levels ≡ false) [
  | true ↦ λ e. false_true (sym (s.goes_on e))
  | false ↦ λ e. e
] refl

-- nothing is declared above the first line
pub none-holds : (lines : List Line) → HoldsAbove none_above lines
none-holds lines = record {
  holds = empty-holds 1 0 0 (omega arith, omega arith) (λ first. refl);
  goes_on = λ running. false_true running;
}
