-- What a line that isn't refused declares fits what is declared above it.
use Rattle.std.proofs.Common.{◌≡◌, ℕ, zero, suc, ◌+◌, ◌*◌, ◌<◌, ◌≤◌, ◌==◌, ◌||◌, nat_le, nat_lt, Bool, true, false, List, [], ◌∷◌, length, position, Option, Some, None, refl, sym, ap, ap₂, ◌∙◌, subst, arith, add-one, if◌then◌else◌}
use Rattle.std.specs.Prelude.{is_some, not, sum_by, Result, Ok, Err, IfOk}
use Rattle.std.specs.List.{list_any}
use Rattle.std.specs.Str.{bytes_eq}
use Rattle.std.proofs.lemmas.Bool.{ltb-false, leb-false, eqb-true, not-false}
use Rattle.std.proofs.lemmas.List.{length-map, length-set}
use Rattle.std.proofs.lemmas.List.Quantifiers.{position-Some}
use Rattle.ft_base.proofs.Small.{false_true, or-false_both}
use Rattle.ft_base.specs.declared.limits.TheConstants.{CPUS, TASKS, LANES, COMMANDS, UNTILS, ACTS, LEVELS, FRAMES, RING, TRIGGERS, GRAPH_DEPTH, ITEMS, QUANTUM, STEPS}
use Rattle.ft_base.specs.declared.number.FuncNo.{FuncNo}
use Rattle.ft_base.specs.declared.task.TaskAct.{TaskAct}
use Rattle.ft_base.specs.declared.task.TaskAct.TheVariants.{Call, Ret, Raise, Lower, After}
use Rattle.ft_base.specs.declared.user.Act.{Act}
use Rattle.ft_base.specs.declared.user.Act.TheVariants.{CallIn, IrqIn}
use Rattle.ft_base.specs.declared.user.Half.{Half}
use Rattle.ft_base.specs.declared.user.Half.TheVariants.{Filter as OfFilter, Notrace as OfNotrace}
use Rattle.ft_base.specs.Marks.{Marks, empty}
use Rattle.ft_base.specs.Job.{Func, Spec, Trigger, Edit, Command, Register, Unregister, Enable, Disable}
use Rattle.ft_base.specs.Versions.{limits_of, IsVersion}
use Rattle.ft_base.specs.WellFormed.{IsActIn}
use Rattle.site_set.proofs.MarksLemmas.{length-empty}
use Rattle.filter_commands.specs.Forms.{Text, TextForm, line as at_line, named as by_name, in_module, form_of, unmarked}
use Rattle.filter_commands.specs.Causes.{first_cause}
use Rattle.filter_commands.specs.Edits.{selected_by, edit_of}
use Rattle.filter_commands.specs.Triggers.{trigger_of, trigger_cause}
use Rattle.ft_schedule.specs.Causes.{has_bad_count, steps_of, is_past_limit as is_past_sched_limit, has_unknown}
use Rattle.user_specs.specs.Bound.{call_bound_of}
use Rattle.ft_job.specs.Plans.{IsModule}
use Rattle.func_table.specs.Modules.{modules_in}
use Rattle.module_table.specs.Lines.{Line as ModuleLine, Plain, Load, Unload}
use Rattle.script_text.specs.Lines.{Word, Line}
use Rattle.script_form.specs.Forms.{LineForm, skip, version, func, depth, tramps, absent, ring, tracing_off, trigger, user, new_cpu, new_task, new_lane, call, ret, raise, lower, after, register, unregister, write, pids, enable, disable, max_depth, until, load, unload, sched}
use Rattle.script_form.specs.Forms.{UserLine, UserAct, calls, irqs}
use Rattle.script_form.specs.Lines.{line_form}
use Rattle.script_waits.specs.Tasks.{LinedTask}
use Rattle.ft_script.specs.declared.faults.Cause.{Cause}
use Rattle.ft_script.specs.declared.faults.Cause.TheVariants.{Unknown, Pattern, Limit, Syntax, Version}
use Rattle.ft_script.specs.Levels.{open_calls}
use Rattle.ft_script.specs.Above.{Above, Run, Until, Declaration, a_version, an_absence, a_trigger, a_user, a_task, an_act, a_ctl, Resolved}
use Rattle.ft_script.specs.Expansion.{command_count}
use Rattle.ft_script.specs.Causes.{rank_of, is_misplaced, has_ctl_in_no_lane, is_out_of_place, is_past_limit, is_absent, is_duplicate, is_full_of_acts, is_full_of_calls, is_full_of_commands, has_no_room, is_long, is_long_or_none, is_last_by, function_names, user_names, pids_of, known, made, function_at, function_in, function_or_none, module_named, module_in, user_in, task_in, cpu_in, act_in, spec_with, spec_in, write_to, write_with, edit_in, trigger_in, marks_of, has_no_pid, pid_command, pids_in, a_command, named, is_unbalanced, resolved, first_line, next_line, resolved_line}
use Rattle.ft_script.specs.Script.{or_nothing, said}
use Rattle.ft_script.specs.Within.{IsInOrder}
use Rattle.ft_script.specs.Holds.{IsLine}
use Rattle.ft_script.specs.LineConditions.{IsNextCall, IsNextAct, IsWhereItMay, FitsAs, IsRanked, Fits}
use Rattle.ft_script.proofs.FormNames.{Named, form-named, version-is, name-short, owner-short}
use Rattle.ft_script.proofs.NoCause.{no-cause, not-zero, err-ok, ok-same}
use Rattle.ft_script.proofs.RingBounds.{trigger-over}

-- ## the order of ranks

-- no line above has a higher rank
rank-above : (above : Above) (form : LineForm) → is_misplaced above form ≡ false → above.rank ≤ rank_of form above.rank
rank-above above form placed = ltb-false (rank_of form above.rank) above.rank (or-false_both _ (is_out_of_place above form) placed).0

-- above a function there is no absent module
no-absences : (above : Above) → IsInOrder above → (form : LineForm) → is_misplaced above form ≡ false → rank_of form above.rank < 2 → above.absent ≡ []
no-absences above order form placed low = order.absent (let r = rank-above above form placed in omega (arith, r, low))

-- and no trigger
no-triggers : (above : Above) → IsInOrder above → (form : LineForm) → is_misplaced above form ≡ false → rank_of form above.rank < 2 → above.triggers ≡ []
no-triggers above order form placed low = order.triggers (let r = rank-above above form placed in omega (arith, r, low))

-- above a line that comes before those of control there is none of them
no-ctls : (above : Above) → IsInOrder above → (form : LineForm) → is_misplaced above form ≡ false → rank_of form above.rank < 6 → above.ctls ≡ []
no-ctls above order form placed low = order.ctls (let r = rank-above above form placed in omega (arith, r, low))

-- and no lane
no-lanes : (above : Above) → IsInOrder above → (form : LineForm) → is_misplaced above form ≡ false → rank_of form above.rank < 6 → above.lane_count ≡ 0
no-lanes above order form placed low = order.lanes (let r = rank-above above form placed in omega (arith, r, low))

-- above a line that comes before those of tasks there is no call
no-calls : (above : Above) → IsInOrder above → (form : LineForm) → is_misplaced above form ≡ false → rank_of form above.rank < 5 → above.calls ≡ 0
no-calls above order form placed low = order.calls (let r = rank-above above form placed in omega (arith, r, low))

-- ## the set of a filter text has a mark for each function

length-selected : (functions : List Func) (form : Option TextForm) → length (selected_by functions form) ≡ length functions
length-selected functions None = length-empty (length functions)
length-selected functions (Some (at_line zero)) = length-empty (length functions)
length-selected functions (Some (at_line (suc f))) = length-set (empty (length functions)) f true ∙ length-empty (length functions)
length-selected functions (Some (by_name glob)) = length-map functions _
length-selected functions (Some (in_module glob negated owner)) = length-map functions _

length-edit : (functions : List Func) (append : Bool) (text : Text) → length (edit_of functions append text).set ≡ length functions
length-edit functions append [] = length-empty (length functions)
length-edit functions append (b ∷ text) = length-selected functions (form_of (unmarked (b ∷ text)).1)

-- ## what is made of what is looked up

pub of-made : {X Y : Type 0} (P : Y → Type 0) (f : X → Y) (r : Result X Cause) → IfOk r (λ x. P (f x)) → IfOk (made f r) P
of-made P f (Ok x) h = h
of-made P f (Err cause) h = tt

pub of-all : {X Y : Type 0} (P : Y → Type 0) (f : X → Y) (r : Result X Cause) → ((x : X) → P (f x)) → IfOk (made f r) P
of-all P f (Ok x) h = h x
of-all P f (Err cause) h = tt

pub of-if : {X : Type 0} (P : X → Type 0) (b : Bool) (cause : Cause) (r : Result X Cause) → (b ≡ false → IfOk r P) → IfOk (if b then Err cause else r) P
of-if P true cause r h = tt
of-if P false cause r h = h refl

module _ (above : Above) where
  -- how many users, functions and tasks there are above
  abbrev users : ℕ
  users = length above.users

  abbrev size : ℕ
  size = length above.functions

  abbrev tasks : ℕ
  tasks = length above.tasks

  -- the number of what is named is below how many there are
  pub function-known : (name : Word) → IfOk (function_in above name) (λ (f : FuncNo). f.0 < size)
  function-known name = by (position (bytes_eq name) (function_names above)) refl
    where
      by : (o : Option ℕ) → position (bytes_eq name) (function_names above) ≡ o → IfOk (made function_at (known o)) (λ (f : FuncNo). f.0 < size)
      by None at = tt
      by (Some i) at =
          let n = length-map above.functions (λ (f : Func). f.name) in
          let b = (position-Some (bytes_eq name) (function_names above) i [] at).0 in
          let lt : i < size = omega (arith, n, b) in lt

  module-there : (name : Word) (m : ℕ) → module_named above name ≡ Some m → IsModule above.functions m
  module-there name m at = (position-Some (bytes_eq name) (modules_in above.functions) m [] at).0

  module-known : (name : Word) → IfOk (module_in above name) (IsModule above.functions)
  module-known name = by (module_named above name) refl
    where
      by : (o : Option ℕ) → module_named above name ≡ o → IfOk (known o) (IsModule above.functions)
      by None at = tt
      by (Some m) at = module-there name m at

  user-known : (name : Word) → IfOk (user_in above name) (λ u. u < users)
  user-known name = by (position (bytes_eq name) (user_names above)) refl
    where
      by : (o : Option ℕ) → position (bytes_eq name) (user_names above) ≡ o → IfOk (known o) (λ u. u < users)
      by None at = tt
      by (Some i) at =
          let n = length-map above.users (λ (u : Spec). u.name) in
          let b = (position-Some (bytes_eq name) (user_names above) i [] at).0 in
          let lt : i < users = omega (arith, n, b) in lt

  task-known : (pid : ℕ) → IfOk (task_in above pid) (λ t. t < tasks)
  task-known pid = by (position (λ p. p == pid) (pids_of above)) refl
    where
      by : (o : Option ℕ) → position (λ p. p == pid) (pids_of above) ≡ o → IfOk (known o) (λ t. t < tasks)
      by None at = tt
      by (Some i) at =
          let n = length-map above.tasks (λ (t : LinedTask). t.pid) in
          let b = (position-Some (λ p. p == pid) (pids_of above) i 0 at).0 in
          let lt : i < tasks = omega (arith, n, b) in lt

  -- a user that a line declares calls a function that is declared
  act-known : (act : Option UserAct) → IfOk (act_in above act) (IsActIn size)
  act-known None = tt
  act-known (Some (calls name)) = of-made (IsActIn size) (λ f. Some (CallIn f)) (function_in above name) (function-known name)
  act-known (Some (irqs name)) = of-made (IsActIn size) (λ f. Some (IrqIn f)) (function_in above name) (function-known name)

  spec-known : (u : UserLine) (m : Result (Option FuncNo) Cause) (a : Result (Option Act) Cause) → IfOk a (IsActIn size) → IfOk (spec_with u m a) (λ (s : Spec). IsActIn size s.act)
  spec-known u (Err cause) a h = tt
  spec-known u (Ok m) (Err cause) h = tt
  spec-known u (Ok m) (Ok a) h = h

  -- ## lines of control

  write-line : (half : Half) (u : ℕ) (edit : Edit) → u < users → length edit.set ≡ size → IsLine above (Run (Plain (write_to half u edit)))
  write-line OfFilter u edit lt e = (lt, e, tt)
  write-line OfNotrace u edit lt e = (lt, e, tt)

  write-known : (half : Half) (u : Result ℕ Cause) (edit : Result Edit Cause) → IfOk u (λ n. n < users) → IfOk edit (λ (e : Edit). length e.set ≡ size)
      → IfOk (write_with half u edit) (λ (c : Command). IsLine above (Run (Plain c)))
  write-known half (Err cause) edit hu he = tt
  write-known half (Ok u) (Err cause) hu he = tt
  write-known half (Ok u) (Ok edit) hu he = write-line half u edit hu he

  edit-known : (append : Bool) (text : Word) → IfOk (edit_in above append text) (λ (e : Edit). length e.set ≡ size)
  edit-known append text = of-if (λ (e : Edit). length e.set ≡ size) (is_some (first_cause size append text)) Pattern (Ok (edit_of above.functions append text)) (λ right. length-edit above.functions append text)

  pid-line : (excluded : Bool) (marks : Marks) → IsLine above (Run (Plain (pid_command excluded marks)))
  pid-line true marks = (tt, tt, tt)
  pid-line false marks = (tt, tt, tt)

  pids-known : (excluded : Bool) (list : List ℕ) → IfOk (pids_in above excluded list) (λ (c : Command). IsLine above (Run (Plain c)))
  pids-known excluded list =
      of-if (λ (c : Command). IsLine above (Run (Plain c))) (list_any (has_no_pid above) list) Unknown (Ok (pid_command excluded (marks_of above list))) (λ there. pid-line excluded (marks_of above list))

-- ## what a line of a form declares

-- what a line says of the act above it, and what those below it say
abbrev pub said_last : Declaration → Bool → Bool
said_last (a_task pid cpu) below = true
said_last (an_act act) below = false
said_last _ below = below

module _ (above : Above) (form : LineForm) where
  -- what is declared has the line's rank, and says of the act above it what the line does
  abbrev Says : Declaration → Type 0
  Says what = IsRanked (rank_of form above.rank) what × ((below : Bool) → is_last_by (Some form) below ≡ said_last what below)

says : (above : Above) (form : LineForm) → IfOk (named above form) (Says above form)
says above skip = (tt, λ b. refl)
says above (version number) = (tt, λ b. refl)
says above (func name owner) = (tt, λ b. refl)
says above (depth frames) = (tt, λ b. refl)
says above (tramps slots) = (tt, λ b. refl)
says above (absent owner) = of-all (Says above (absent owner)) an_absence (module_in above owner) (λ m. (omega arith, λ b. refl))
says above (ring entries) = (tt, λ b. refl)
says above tracing_off = (tt, λ b. refl)
says above (trigger text) = of-all (Says above (trigger text)) a_trigger (trigger_in above text) (λ t. (omega arith, λ b. refl))
says above (user u) = of-all (Says above (user u)) a_user (spec_in above u) (λ s. (tt, λ b. refl))
says above (new_cpu cpu quantum) = (tt, λ b. refl)
says above (new_task pid cpu) = of-all (Says above (new_task pid cpu)) (a_task pid) (cpu_in above cpu) (λ c. (tt, λ b. refl))
says above (new_lane lane) = (omega arith, λ b. refl)
says above (call name) = of-all (Says above (call name)) (λ f. an_act (Call f)) (function_in above name) (λ f. (omega arith, λ b. refl))
says above ret = (omega arith, λ b. refl)
says above (raise to) = (omega arith, λ b. refl)
says above lower = (omega arith, λ b. refl)
says above (after n) = (omega arith, λ b. refl)
says above (register name) = of-all (Says above (register name)) (λ u. a_command (Register u)) (user_in above name) (λ u. (omega arith, λ b. refl))
says above (unregister name) = of-all (Says above (unregister name)) (λ u. a_command (Unregister u)) (user_in above name) (λ u. (omega arith, λ b. refl))
says above (write half append name text) =
    of-all (Says above (write half append name text)) a_command (write_with half (user_in above name) (edit_in above append text)) (λ c. (omega arith, λ b. refl))
says above (pids excluded list) = of-all (Says above (pids excluded list)) a_command (pids_in above excluded list) (λ c. (omega arith, λ b. refl))
says above (enable name) = of-all (Says above (enable name)) (λ u. a_command (Enable u)) (user_in above name) (λ u. (omega arith, λ b. refl))
says above (disable name) = of-all (Says above (disable name)) (λ u. a_command (Disable u)) (user_in above name) (λ u. (omega arith, λ b. refl))
says above (max_depth n) = (omega arith, λ b. refl)
says above (until pid n) = of-all (Says above (until pid n)) (λ task. a_ctl (Until task n)) (task_in above pid) (λ t. (omega arith, λ b. refl))
says above (load owner) = of-all (Says above (load owner)) (λ m. a_ctl (Run (Load m))) (module_in above owner) (λ m. (omega arith, λ b. refl))
says above (unload owner) = of-all (Says above (unload owner)) (λ m. a_ctl (Run (Unload m))) (module_in above owner) (λ m. (omega arith, λ b. refl))
says above (sched items) =
    of-if (Says above (sched items)) (is_past_sched_limit (length above.quanta) above.steps items) Limit _ (λ few.
    of-if (Says above (sched items)) (has_unknown (length above.quanta) items) Unknown _ (λ there. (tt, λ b. refl)))

-- one more, if it isn't too many
room : (limit k : ℕ) → nat_le limit k ≡ false → k < limit
room limit k e = leb-false limit k e

has_none : {X : Type 0} (xs : List X) → (length xs == 0) ≡ true → xs ≡ []
has_none [] e = refl
has_none (x ∷ xs) e = (let n = eqb-true (length (x ∷ xs)) 0 e in absurd (omega (arith, n)))

module _ (above : Above) (order : IsInOrder above) where
  -- an act that isn't a call
  other-act : (form : LineForm) (act : TaskAct) → is_misplaced above form ≡ false → (length above.tasks == 0) ≡ false → rank_of form above.rank < 6 → is_full_of_acts above ≡ false
      → IsNextCall above act → IsNextAct above act
  other-act form act placed some low full next = record {
    some = not-zero (length above.tasks) some;
    room = room ACTS above.acts full;
    call = next;
    before = no-ctls above order form placed low;
  }

  -- one more command of a user
  user-command : (command : ℕ → Command) (name : Word) → ((u : ℕ) → u < length above.users → IsLine above (Run (Plain (command u))))
      → is_full_of_commands above ≡ false → IfOk (made (λ u. a_command (command u)) (user_in above name)) (FitsAs above)
  user-command command name there few = of-made (FitsAs above) (λ u. a_command (command u)) (user_in above name) (by (user_in above name) (user-known above name))
    where
      by : (r : Result ℕ Cause) → IfOk r (λ u. u < length above.users) → IfOk r (λ u. FitsAs above (a_command (command u)))
      by (Ok u) lt = (there u lt, room COMMANDS (command_count above) few, tt)
      by (Err cause) h = tt

  -- one more command that names what is there
  known-command : (r : Result Command Cause) → IfOk r (λ c. IsLine above (Run (Plain c))) → is_full_of_commands above ≡ false
      → IfOk (made a_command r) (FitsAs above)
  known-command (Ok c) there few = (there, room COMMANDS (command_count above) few, tt)
  known-command (Err cause) there few = tt

  -- a load or an unload, if the module that it names is there and there are no lanes
  module-line : (line : ℕ → ModuleLine) → ((m : ℕ) → IsModule above.functions m → IsLine above (Run (line m)) × IsWhereItMay above (Run (line m)))
      → is_full_of_commands above ≡ false → (owner : Word) → IfOk (made (λ m. a_ctl (Run (line m))) (module_in above owner)) (FitsAs above)
  module-line line fits few owner = of-made (FitsAs above) (λ m. a_ctl (Run (line m))) (module_in above owner) (by (module_in above owner) (module-known above owner))
    where
      by : (r : Result ℕ Cause) → IfOk r (IsModule above.functions) → IfOk r (λ m. FitsAs above (a_ctl (Run (line m))))
      by (Ok m) there = (let f = fits m there in (f.0, room COMMANDS (command_count above) few, f.1))
      by (Err cause) there = tt

  no-lane : not (above.lane_count == 0) ≡ false → above.lane_count ≡ 0
  no-lane e = eqb-true above.lane_count 0 (not-false (above.lane_count == 0) e)

  -- an absent module, a user, a call and a wait, if what they name is there
  absence-fits : (owner : Word) → is_misplaced above (absent owner) ≡ false → is_duplicate above (absent owner) ≡ false → IfOk (module_in above owner) (λ m. FitsAs above (an_absence m))
  absence-fits owner placed new = by (module_named above owner) refl new
    where
      by : (o : Option ℕ) → module_named above owner ≡ o → is_absent above o ≡ false → IfOk (known o) (λ m. FitsAs above (an_absence m))
      by None at new = tt
      by (Some m) at new = record {
        there = module-there above owner m at;
        new = new;
        before = no-ctls above order (absent owner) placed (omega arith);
        alone = no-lanes above order (absent owner) placed (omega arith);
      }

  user-fits : (u : UserLine) → is_misplaced above (user u) ≡ false → nat_le (limits_of above.version).users (length above.users) ≡ false
      → (r : Result Spec Cause) → IfOk r (λ (s : Spec). IsActIn (length above.functions) s.act) → IfOk r (λ (s : Spec). FitsAs above (a_user s))
  user-fits u placed few (Err cause) h = tt
  user-fits u placed few (Ok s) h = record {
    act = h;
    room = room (limits_of above.version).users (length above.users) few;
    first = no-calls above order (user u) placed (omega arith);
    before = no-ctls above order (user u) placed (omega arith);
  }

  call-fits : (name : Word) → is_misplaced above (call name) ≡ false → is_full_of_calls above ≡ false
      → (r : Result FuncNo Cause) → IfOk r (λ (f : FuncNo). f.0 < length above.functions) → IfOk r (λ (f : FuncNo). FitsAs above (an_act (Call f)))
  call-fits name placed few (Err cause) h = tt
  call-fits name placed few (Ok f) h =
      let full = or-false_both (is_full_of_acts above) (nat_le LEVELS (open_calls above.levels) || has_no_room above) few in
      let rest = or-false_both (nat_le LEVELS (open_calls above.levels)) (has_no_room above) full.1 in
      let levels = (limits_of above.version).levels in
      let fits = ltb-false ITEMS (call_bound_of above.users levels * (above.calls + 1)) rest.1 in
      other-act (call name) (Call f) placed (or-false_both _ _ placed).1 (omega arith) full.0
      (h, room LEVELS (open_calls above.levels) rest.0, subst (λ k. call_bound_of above.users levels * k ≤ ITEMS) (add-one above.calls) fits)

  wait-fits : (acts : ℕ) → nat_le UNTILS above.waits ≡ false → above.lane_count ≡ 0 → (r : Result ℕ Cause) → IfOk r (λ t. t < length above.tasks) → IfOk r (λ t. FitsAs above (a_ctl (Until t acts)))
  wait-fits acts few none (Err cause) h = tt
  wait-fits acts few none (Ok t) h = (h, room UNTILS above.waits few, none)

  named-fits : (form : LineForm) → Named form → is_misplaced above form ≡ false → is_past_limit above form ≡ false → is_duplicate above form ≡ false → IfOk (named above form) (FitsAs above)
  named-fits skip n placed limit new = tt
  named-fits (version number) n placed limit new = false_true (sym (or-false_both _ _ placed).1)
  named-fits (func name owner) n placed limit new =
      let few = nat_le (limits_of above.version).funcs (length above.functions) in
      let both = or-false_both (is_long name) (is_long_or_none owner || few) limit in
      let rest = or-false_both (is_long_or_none owner) few both.1 in
      record {
        name = name-short name n.0 both.0;
        owner = owner-short owner n.1 rest.0;
        new = new;
        room = room (limits_of above.version).funcs (length above.functions) rest.1;
        first = no-absences above order (func name owner) placed (omega arith);
        untriggered = no-triggers above order (func name owner) placed (omega arith);
        before = no-ctls above order (func name owner) placed (omega arith);
      }
  named-fits (depth frames) n placed limit new = ltb-false FRAMES frames (or-false_both _ _ limit).1
  named-fits (tramps slots) n placed limit new = record {
    few = ltb-false (limits_of above.version).tramps slots limit;
    before = no-ctls above order (tramps slots) placed (omega arith);
  }
  named-fits (absent owner) n placed limit new = of-made (FitsAs above) an_absence (module_in above owner) (absence-fits owner placed new)
  named-fits (ring entries) n placed limit new =
      let both = or-false_both (entries == 0) (nat_lt RING entries) limit in
      (not-zero entries both.0, ltb-false RING entries both.1)
  named-fits tracing_off n placed limit new = tt
  named-fits (trigger text) n placed limit new =
      of-made (FitsAs above) a_trigger (trigger_in above text)
      (of-if (λ (t : Trigger). FitsAs above (a_trigger t)) (is_some (trigger_cause text)) Pattern (Ok (trigger_of above.functions text)) (λ right. record {
        room = room TRIGGERS (length above.triggers) limit;
        over = trigger-over above.functions text;
      }))
  named-fits (user u) n placed limit new =
      of-made (FitsAs above) a_user (spec_in above u)
      (user-fits u placed (or-false_both _ _ limit).1 (spec_in above u) (spec-known above u (function_or_none above u.ipmodify) (act_in above u.act) (act-known above u.act)))
  named-fits (new_cpu cpu quantum) n placed limit new =
      let both = or-false_both _ _ limit in
      (ltb-false QUANTUM quantum (or-false_both _ _ both.0).1, room CPUS (length above.quanta) both.1)
  named-fits (new_task pid cpu) n placed limit new =
      of-made (FitsAs above) (a_task pid) (cpu_in above cpu) (of-if (λ (c : ℕ). FitsAs above (a_task pid c)) (nat_le (length above.quanta) cpu) Unknown (Ok cpu) (λ there. record {
        placed = leb-false (length above.quanta) cpu there;
        room = room TASKS (length above.tasks) (or-false_both _ _ (or-false_both _ _ limit).1).1;
        before = no-ctls above order (new_task pid cpu) placed (omega arith);
      }))
  named-fits (new_lane lane) n placed limit new =
      let next = or-false_both (not (lane == above.lane_count)) (has_ctl_in_no_lane above || not (length above.absent == 0)) (or-false_both _ _ placed).1 in
      let both = or-false_both (has_ctl_in_no_lane above) (not (length above.absent == 0)) next.1 in
      record {
        room = room LANES above.lane_count limit;
        each = eqb-true (length above.lanes) (length above.ctls) (not-false (length above.lanes == length above.ctls) both.0);
        loaded = has_none above.absent (not-false (length above.absent == 0) both.1);
      }
  named-fits (call name) n placed limit new =
      of-made (FitsAs above) (λ f. an_act (Call f)) (function_in above name)
      (call-fits name placed (or-false_both (is_long name) (is_full_of_calls above) limit).1 (function_in above name) (function-known above name))
  named-fits ret n placed limit new = other-act ret Ret placed (or-false_both _ _ placed).1 (omega arith) limit tt
  named-fits (raise to) n placed limit new = other-act (raise to) (Raise to) placed (or-false_both _ _ placed).1 (omega arith) limit tt
  named-fits lower n placed limit new = other-act lower Lower placed (or-false_both _ _ placed).1 (omega arith) limit tt
  named-fits (after k) n placed limit new = other-act (after k) (After k) placed (or-false_both _ _ placed).1 (omega arith) (or-false_both _ _ limit).1 tt
  named-fits (register name) n placed limit new = user-command Register name (λ u lt. (lt, tt, tt)) (or-false_both _ _ limit).1
  named-fits (unregister name) n placed limit new = user-command Unregister name (λ u lt. (lt, tt, tt)) (or-false_both _ _ limit).1
  named-fits (write half append name text) n placed limit new =
      known-command (write_with half (user_in above name) (edit_in above append text)) (write-known above half (user_in above name) (edit_in above append text) (user-known above name) (edit-known above append text)) (or-false_both _ _ limit).1
  named-fits (pids excluded list) n placed limit new = known-command (pids_in above excluded list) (pids-known above excluded list) (or-false_both _ _ limit).1
  named-fits (enable name) n placed limit new = user-command Enable name (λ u lt. (lt, tt, tt)) (or-false_both _ _ limit).1
  named-fits (disable name) n placed limit new = user-command Disable name (λ u lt. (lt, tt, tt)) (or-false_both _ _ limit).1
  named-fits (max_depth k) n placed limit new =
      let both = or-false_both _ _ limit in
      ((tt, tt, ltb-false GRAPH_DEPTH k both.0), room COMMANDS (command_count above) both.1, tt)
  named-fits (until pid k) n placed limit new =
      of-made (FitsAs above) (λ task. a_ctl (Until task k)) (task_in above pid)
      (wait-fits k (or-false_both _ _ (or-false_both _ _ limit).1).1 (no-lane (or-false_both _ _ placed).1) (task_in above pid) (task-known above pid))
  named-fits (load owner) n placed limit new = module-line Load (λ m there. (there, no-lane (or-false_both _ _ placed).1)) (or-false_both _ _ limit).1 owner
  named-fits (unload owner) n placed limit new = module-line Unload (λ m there. (there, no-lane (or-false_both _ _ placed).1)) (or-false_both _ _ limit).1 owner
  named-fits (sched items) n placed limit new =
      of-if (FitsAs above) (is_past_sched_limit (length above.quanta) above.steps items) Limit _ (λ few. of-if (FitsAs above) (has_unknown (length above.quanta) items) Unknown _ (λ there.
      ltb-false STEPS (above.steps + sum_by (steps_of (length above.quanta)) items) (or-false_both (list_any has_bad_count items) _ few).1))

-- ## a line that isn't refused

-- what such a line declares fits, is what the line says, and is balanced; and it says of the act above it what the line does
pub record IsAccepted (above : Above) (form : Option LineForm) (below : List Line) (line : Resolved) : Type 0 where
  pub fits : Fits above line
  pub meaning : said above form ≡ line
  pub balanced : is_unbalanced above.levels line.what below ≡ false
  pub last : (later : Bool) → is_last_by form later ≡ said_last line.what later

form-accepted : (above : Above) → IsInOrder above → (form : LineForm) → Named form → (below : List Line) (line : Resolved) → resolved above form below ≡ Ok line
    → IsAccepted above (Some form) below line
form-accepted above order form names below line e =
    let n = no-cause above below line form e in
    let says' : Says above form line.what = subst (λ (r : Result Declaration Cause). IfOk r (Says above form)) n.what (says above form) in
    record {
      fits = record {
        order = subst (λ (r : ℕ). above.rank ≤ r) n.rank (rank-above above form n.placed);
        ranked = subst (λ (r : ℕ). IsRanked r line.what) n.rank says'.0;
        what = subst (λ (r : Result Declaration Cause). IfOk r (FitsAs above)) n.what (named-fits above order form names n.placed n.limit n.new);
      };
      meaning = ap₂ (λ (r : ℕ) (w : Result Declaration Cause). record { rank = r; what = or_nothing w }) n.rank n.what;
      balanced = n.balanced;
      last = says'.1;
    }

-- line 1 says the version
first-accepted : (above : Above) → IsInOrder above → above.lines ≡ 0 → (form : Option LineForm) → ((number : ℕ) → form ≡ Some (version number) → IsVersion number) → (below : List Line) (line : Resolved)
    → first_line form ≡ Ok line → IsAccepted above form below line
first-accepted above order first (Some (version number)) is below line e =
    let here : IsAccepted above (Some (version number)) below (record { rank = 0; what = a_version number }) = record {
      fits = record {
        order = (let none : above.rank ≡ 0 = ap (λ (a : Above). a.rank) (order.first first) in omega (arith, none));
        ranked = tt;
        what = (first, is number refl);
      };
      meaning = refl;
      balanced = refl;
      last = λ b. refl;
    } in
    let same : record { rank = 0; what = a_version number } ≡ line = ok-same (first_line (Some (version number))) _ _ refl e in
    subst (IsAccepted above (Some (version number)) below) same here
first-accepted above order first _ is below line e = absurd (err-ok line Version e)

pub accepted : (above : Above) → IsInOrder above → (ended : Bool) (bytes : List ℕ) (below : List Line) (line : Resolved) → resolved_line above ended (line_form bytes) below ≡ Ok line
    → IsAccepted above (line_form bytes) below line
accepted above order false bytes below line e = absurd (err-ok line Syntax e)
accepted above order true bytes below line e = by (above.lines == 0) refl (line_form bytes) refl e
  where
    by : (b : Bool) → (above.lines == 0) ≡ b → (form : Option LineForm) → line_form bytes ≡ form → (if b then first_line form else next_line above below form) ≡ Ok line → IsAccepted above form below line
    by true first form is e = first-accepted above order (eqb-true above.lines 0 first) form (λ number v. version-is bytes number (is ∙ v)) below line e
    by false later None is e = absurd (err-ok line Syntax e)
    by false later (Some form) is e = form-accepted above order form (form-named bytes form is) below line e

-- the same of the form that was read
pub read_accepted : (above : Above) → IsInOrder above → (ended : Bool) (bytes : List ℕ) (form : Option LineForm) (below : List Line) (line : Resolved) → form ≡ line_form bytes
    → resolved_line above ended form below ≡ Ok line → IsAccepted above (line_form bytes) below line
read_accepted above order ended bytes form below line is e = accepted above order ended bytes below line (subst (λ (f : Option LineForm). resolved_line above ended f below ≡ Ok line) is e)
