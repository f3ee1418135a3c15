-- Scripts that differ in line 1 alone.
use Rattle.std.proofs.Common.{◌≡◌, ◌==◌, ℕ, suc, Bool, true, false, List, [], ◌∷◌, Option, Some, None, refl, sym, ap, ◌∙◌, subst, if◌then◌else◌}
use Rattle.std.specs.Prelude.{◌+◌, length, map, sum_by, is_some, unwrap_or, Result, Ok, Err}
use Rattle.std.proofs.Math.Dec.{eqb-suc-zero}
use Rattle.ft_base.proofs.Small.{false_true, or-false_both}
use Rattle.ft_base.specs.declared.task.TaskAct.TheVariants.{Call}
use Rattle.ft_base.specs.Job.{Job, Register, Unregister, Enable, Disable}
use Rattle.ft_base.specs.Versions.{limits_of}
use Rattle.ft_schedule.specs.Items.{turn_from}
use Rattle.ft_schedule.specs.Causes.{is_past_limit as is_past_sched_limit, has_unknown, steps_of}
use Rattle.ft_desk.specs.Declarations.{Declared, bare}
use Rattle.module_table.specs.Lines.{Load, Unload, Between, at_first, opening_of}
use Rattle.script_text.specs.Lines.{Line, lines_of}
use Rattle.script_form.specs.Forms.{LineForm, version, absent, trigger, user, new_task, call, register, unregister, write, pids, enable, disable, until, load, unload, sched}
use Rattle.script_form.specs.Lines.{line_form}
use Rattle.ft_script.specs.declared.faults.Cause.{Cause}
use Rattle.ft_script.specs.declared.faults.Cause.TheVariants.{Limit, Unknown}
use Rattle.ft_script.specs.Above.{Above, Run, Until, none_above, slots_of, Declaration, a_version, an_absence, a_trigger, a_user, a_task, an_act, a_ctl, more_turns, Resolved, with_what, declared}
use Rattle.ft_script.specs.Expansion.{Expansion, runs_of, expanded_all, lines_as_they_are, expansion_of}
use Rattle.ft_script.specs.Causes.{rank_of, is_misplaced, made, function_in, module_in, user_in, task_in, cpu_in, spec_in, edit_in, trigger_in, write_with, pids_in, a_command, named, resolved, resolved_line, carried_out, cause_in, cause_of}
use Rattle.ft_script.specs.Script.{or_nothing, said, with_line, declared_after, declared_in, refusal_below, refusal_of, task_of, task_in_job, job_of, IsJobOf}
use Rattle.ft_script.proofs.NoCause.{some-none, no-cause, no-cause_in, carried}
use Rattle.ft_script.proofs.Limits.{IsLater}
use Rattle.ft_script.proofs.Ends.{neither, none-refused, lines-with_line}

-- ## only line 1 says the version

later-made : {X : Type 0} (f : X → Declaration) (r : Result X Cause) → ((x : X) → IsLater (f x)) → IsLater (or_nothing (made f r))
later-made f (Ok x) h = h x
later-made f (Err cause) h = tt

later-if : (b : Bool) (cause : Cause) (r : Result Declaration Cause) → IsLater (or_nothing r) → IsLater (or_nothing (if b then Err cause else r))
later-if true cause r h = tt
later-if false cause r h = h

later : (above : Above) (form : LineForm) → is_misplaced above form ≡ false → IsLater (or_nothing (named above form))
later above (version other) placed = false_true (sym (or-false_both _ _ placed).1)
later above (absent owner) placed = later-made an_absence (module_in above owner) (λ m. tt)
later above (trigger text) placed = later-made a_trigger (trigger_in above text) (λ t. tt)
later above (user u) placed = later-made a_user (spec_in above u) (λ s. tt)
later above (new_task pid cpu) placed = later-made (a_task pid) (cpu_in above cpu) (λ c. tt)
later above (call name) placed = later-made (λ f. an_act (Call f)) (function_in above name) (λ f. tt)
later above (register name) placed = later-made (λ u. a_command (Register u)) (user_in above name) (λ u. tt)
later above (unregister name) placed = later-made (λ u. a_command (Unregister u)) (user_in above name) (λ u. tt)
later above (write half append name text) placed = later-made a_command (write_with half (user_in above name) (edit_in above append text)) (λ c. tt)
later above (pids excluded list) placed = later-made a_command (pids_in above excluded list) (λ c. tt)
later above (enable name) placed = later-made (λ u. a_command (Enable u)) (user_in above name) (λ u. tt)
later above (disable name) placed = later-made (λ u. a_command (Disable u)) (user_in above name) (λ u. tt)
later above (until pid n) placed = later-made (λ task. a_ctl (Until task n)) (task_in above pid) (λ t. tt)
later above (load owner) placed = later-made (λ m. a_ctl (Run (Load m))) (module_in above owner) (λ m. tt)
later above (unload owner) placed = later-made (λ m. a_ctl (Run (Unload m))) (module_in above owner) (λ m. tt)
later above (sched items) placed =
    let turns : Result Declaration Cause = Ok (more_turns (map turn_from items) (above.steps + sum_by (steps_of (length above.quanta)) items)) in
    later-if (is_past_sched_limit (length above.quanta) above.steps items) Limit (if has_unknown (length above.quanta) items then Err Unknown else turns)
    (later-if (has_unknown (length above.quanta) items) Unknown turns tt)
later above form placed = tt

-- a line below line 1 that has a form
resolved-below : (above : Above) (form : LineForm) (below : List Line) (line : Resolved) → (above.lines == 0) ≡ false → resolved_line above true (Some form) below ≡ Ok line
    → resolved above form below ≡ Ok line
resolved-below above form below line later e = rw later at e

-- ## another version

-- what the lines of control come to, if there are so many trampoline slots
abbrev expansion_at : Above → ℕ → Expansion
expansion_at above slots =
    let those : Declared = record { specs = map bare above.users; funcs = length above.functions; tasks = length above.tasks; tramps = slots } in
    let known : Between = at_first those above.functions above.absent in
    let start : Expansion = record { known = known; ctls = runs_of (opening_of known.declared known.first); rows = []; ends = [] } in
    if above.lane_count == 0 then expanded_all start above.ctls else record start { ctls = lines_as_they_are above.ctls }

expansion-is : (above : Above) → expansion_of above ≡ expansion_at above (slots_of above)
expansion-is above = refl

module _ (number : ℕ) where
  -- the same, but of this version
  abbrev of_version : Above → Above
  of_version above = record above { version = number }

  -- what a line declares is looked up in the same lists
  named-so : (above : Above) (form : LineForm) → named (of_version above) form ≡ named above form
  named-so above form = refl

  what-so : (above : Above) (what : Declaration) → IsLater what → with_what (of_version above) what ≡ of_version (with_what above what)
  what-so above (a_version other) later = absurd later
  what-so above what later = refl

  form-so : (above : Above) (form : LineForm) → is_misplaced above form ≡ false → declared (of_version above) (said (of_version above) (Some form)) ≡ of_version (declared above (said above (Some form)))
  form-so above form placed =
      ap (λ (r : Result Declaration Cause). declared (of_version above) (record { rank = rank_of form above.rank; what = or_nothing r })) (named-so above form)
      ∙ ap (λ (a : Above). record a { lines = suc above.lines; rank = rank_of form above.rank }) (what-so above (or_nothing (named above form)) (later above form placed))

  line-so : (above : Above) (line : Line) (below : List Line) → (above.lines == 0) ≡ false → cause_of above line below ≡ None → with_line (of_version above) line ≡ of_version (with_line above line)
  unfolding cause_of with_line
  line-so above line below later e = by line.ended (line_form line.bytes) e
    where
      by : (ended : Bool) (form : Option LineForm) → cause_in (carried_out above (resolved_line above ended form below)) ≡ None → declared (of_version above) (said (of_version above) form) ≡ of_version (declared above (said above form))
      by false form e = absurd (some-none e)
      by true None e = absurd (some-none (rw later at e))
      by true (Some form) e =
          let ok = no-cause_in (carried_out above (resolved_line above true (Some form) below)) e in
          let out = (carried above (resolved_line above true (Some form) below) ok.0 ok.1).0 in
          form-so above form (no-cause above below ok.0 form (resolved-below above form below ok.0 later out)).placed

  lines-so : (above : Above) (lines : List Line) → (above.lines == 0) ≡ false → refusal_below above lines ≡ None → declared_after (of_version above) lines ≡ of_version (declared_after above lines)
  lines-so above [] later e = refl
  lines-so above (line ∷ below) later e =
      let none = neither above (cause_of above line below) (refusal_below (with_line above line) below) e in
      ap (λ a. declared_after a below) (line-so above line below later none.0)
      ∙ lines-so (with_line above line) below (ap (λ n. n == 0) (lines-with_line above line) ∙ eqb-suc-zero above.lines) none.1

  -- if slots are said, the version makes no difference to how many there are
  job-so : (above : Above) → is_some above.tramps ≡ true → job_of (of_version above) ≡ record (job_of above) { version = number }
  unfolding job_of
  job-so above said =
      ap (λ (k : ℕ). record (job_of above) {
        version = number;
        tramps = k;
        tasks = map task_of (map (task_in_job (expansion_at above k).ends) above.tasks);
        ctls = (expansion_at above k).ctls;
        lines = record { lanes = above.lanes; absent = above.absent; modules = (expansion_at above k).rows };
      }) (by above.tramps said)
    where
      by : (o : Option ℕ) → is_some o ≡ true → unwrap_or o (limits_of number).tramps ≡ unwrap_or o (limits_of above.version).tramps
      by None e = false_true e
      by (Some n) e = refl

-- one line is above, and nothing is declared
abbrev start_line : Above
start_line = record none_above { lines = 1 }

-- what line 1 declares, if it has no cause
first-line : (line : Line) (below : List Line) → cause_of none_above line below ≡ None → (number : ℕ) × (with_line none_above line ≡ of_version number start_line)
unfolding cause_of with_line
first-line line below e = by line.ended (line_form line.bytes) e
  where
    by : (ended : Bool) (form : Option LineForm) → cause_in (carried_out none_above (resolved_line none_above ended form below)) ≡ None → (number : ℕ) × (declared none_above (said none_above form) ≡ of_version number start_line)
    by false form e = absurd (some-none e)
    by true (Some (version number)) e = (number, refl)
    by true _ e = absurd (some-none e)

module _ (text : List ℕ) (line : Line) (below : List Line) (is : lines_of text ≡ line ∷ below) (e : refusal_of text ≡ None) where
  none : (cause_of none_above line below ≡ None) × (refusal_below (with_line none_above line) below ≡ None)
  none = neither none_above _ _ (subst (λ lines. refusal_below none_above lines ≡ None) is (none-refused text e))

  first : (number : ℕ) × (with_line none_above line ≡ of_version number start_line)
  first = first-line line below none.0

  -- what stands above line 2
  abbrev start : Above
  start = of_version first.0 start_line

  declared-is : declared_in text ≡ declared_after start below
  declared-is = ap (declared_after none_above) is ∙ ap (λ a. declared_after a below) first.1

  accepted-below : refusal_below start below ≡ None
  accepted-below = subst (λ a. refusal_below a below ≡ None) first.1 none.1

pub same_job : (text other : List ℕ) (one two : Line) (below : List Line) (a b : Job) → lines_of text ≡ one ∷ below → lines_of other ≡ two ∷ below → IsJobOf text a → IsJobOf other b
    → is_some (declared_in text).tramps ≡ true → b ≡ record a { version = b.version }
same_job text other one two below a b is are f g said =
    let number = (first other two below are g.accepted).0 in
    let all : Above = declared_in text in
    let same : declared_in other ≡ of_version number all
    = declared-is other two below are g.accepted
    ∙ lines-so number (start text one below is f.accepted) below refl (accepted-below text one below is f.accepted)
    ∙ ap (of_version number) (sym (declared-is text one below is f.accepted)) in
    let job : b ≡ record a { version = number }
    = g.meaning ∙ ap job_of same ∙ job-so number all said ∙ ap (λ (j : Job). record j { version = number }) (sym f.meaning) in
    job ∙ ap (λ k. record a { version = k }) (sym (ap (λ (j : Job). j.version) job))
