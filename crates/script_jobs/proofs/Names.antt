-- The lines of an accepted text declare names that are names and differ, and pids that differ; whoever replaces functions names one that is
-- declared. So the log of the text's job tells everything.
use Rattle.std.proofs.Common.{◌≡◌, ℕ, ◌++◌, ◌<◌, ◌≤◌, ◌^◌, Bool, true, false, List, [], ◌∷◌, length, map, get_or, Option, Some, None, refl, sym, ap, ap₂, ◌∙◌, subst, inl, inr, arith, if◌then◌else◌}
use Rattle.std.specs.Prelude.{IfSome, IfOk, Result, Ok, Err, ◌==◌}
use Rattle.std.specs.List.{AllByRecursion as Each}
use Rattle.std.specs.Str.{bytes_eq}
use Rattle.std.proofs.lemmas.Bool.{cases_lt, ltb-false}
use Rattle.std.proofs.lemmas.List.{get_or-map, get_or_past, length-map, length_push, map_push}
use Rattle.std.proofs.lemmas.List.Elements.{All-from_recursion}
use Rattle.std.proofs.lemmas.Slice.Eq.{bytes_eq-Decides}
use Rattle.ft_base.specs.declared.limits.TheConstants.{PID}
use Rattle.ft_base.specs.declared.number.FuncNo.{FuncNo}
use Rattle.ft_base.specs.Name.{is_name_text}
use Rattle.ft_base.specs.declared.task.TaskAct.TheVariants.{Call}
use Rattle.ft_base.specs.declared.user.Act.{Act}
use Rattle.ft_base.specs.Job.{Job, Func, Spec, Register, Unregister, Enable, Disable, no_func, no_task, funcs}
use Rattle.ft_schedule.specs.Causes.{is_past_limit as is_past_sched_limit, has_unknown}
use Rattle.ft_base.specs.Desk.{plain_spec}
use Rattle.ft_base.proofs.Small.{==-refl, or-false_both, Each-snoc, Each-weaker}
use Rattle.script_text.specs.Lines.{Word, Line, lines_of}
use Rattle.script_form.specs.Forms.{LineForm, UserLine, skip, version, func, depth, tramps, absent, ring, tracing_off, trigger, user, new_cpu, new_task, new_lane, call, ret, raise, lower, after, register, unregister, write, pids, enable, disable, max_depth, until, load, unload, sched}
use Rattle.script_form.specs.Lines.{line_form}
use Rattle.script_waits.specs.declared.script.LinedAct.{LinedAct}
use Rattle.script_waits.specs.Tasks.{LinedTask}
use Rattle.module_table.specs.Lines.{Load, Unload}
use Rattle.ft_script.specs.declared.faults.Cause.{Cause}
use Rattle.ft_script.specs.declared.faults.Cause.TheVariants.{Version, Syntax, Limit, Unknown}
use Rattle.ft_script.specs.Above.{Above, Run, Until, none_above, Declaration, a_version, a_function, an_absence, a_trigger, a_user, a_task, an_act, a_ctl, Resolved, push_act, with_what, declared}
use Rattle.ft_script.specs.Expansion.{expansion_of}
use Rattle.ft_script.specs.Causes.{is_past_limit, is_duplicate, is_among, has_pid, function_names, user_names, pids_of, function_in, function_or_none, module_in, user_in, task_in, cpu_in, act_in, spec_with, spec_in, write_with, edit_in, trigger_in, pids_in, a_command, named, first_line, next_line, resolved_line, carried_out, cause_of}
use Rattle.ft_script.specs.Script.{or_nothing, said, with_line, refusal_below, refusal_of, declared_after, declared_in, task_of, task_in_job, tasks_of, job_of, IsJobOf}
use Rattle.ft_script.proofs.Ends.{neither, none-refused}
use Rattle.ft_script.proofs.FormNames.{Named, form-named, name-short}
use Rattle.ft_script.proofs.NoCause.{no-cause, no-cause_in, carried, err-ok, ok-same}
use Rattle.ft_script.proofs.Fitting.{of-made, of-all, of-if, function-known}
use Rattle.trace_lines.specs.LogItems.{IsNamedApart}
use Rattle.script_jobs.proofs.Texts.{accepted_lanes}
use Rattle.script_jobs.proofs.LegalItems.{IsReplacedIn}
use Rattle.script_jobs.proofs.Distinct.{Distinct, distinct-push, distinct-places}

-- ## what holds of what is declared

-- names are names, and differ, those of functions and those of users; pids are within their limit, and differ
pub record AreNames (functions users : List Word) (pids : List ℕ) : Type 0 where
  pub functions' : Each (λ (w : Word). is_name_text w ≡ true) functions
  pub users' : Each (λ (w : Word). is_name_text w ≡ true) users
  pub pids' : Each (λ n. n ≤ PID) pids
  pub distinct_functions : Distinct functions
  pub distinct_users : Distinct users
  pub distinct_pids : Distinct pids

pub record NamesHold (above : Above) : Type 0 where
  pub names : AreNames (function_names above) (user_names above) (pids_of above)
  pub replaced : Each (IsReplacedIn (length above.functions)) above.users

-- ## one line

same-bytes : (w : Word) → bytes_eq w w ≡ true
same-bytes w = (bytes_eq-Decides w w).1 refl

-- an act more changes no pid
pids-act : (ps : List LinedTask) (a : LinedAct) → map (λ (p : LinedTask). p.pid) (push_act ps a) ≡ map (λ (p : LinedTask). p.pid) ps
pids-act [] a = refl
pids-act (p ∷ []) a = refl
pids-act (p ∷ q ∷ ps) a = ap (λ (ns : List ℕ). p.pid ∷ ns) (pids-act (q ∷ ps) a)

-- what a line declares has a name that is one and isn't declared above, or such a pid; and whoever replaces functions names one that is declared
abbrev NewNames : Above → Declaration → Type 0
NewNames above (a_function f) = (is_name_text f.name ≡ true) × (is_among (function_names above) f.name ≡ false)
NewNames above (a_user s) = (is_name_text s.name ≡ true) × (is_among (user_names above) s.name ≡ false) × IsReplacedIn (length above.functions) s
NewNames above (a_task pid cpu) = (pid ≤ PID) × (has_pid above pid ≡ false)
NewNames above _ = Unit {0}

-- ## what a line of a form declares

module _ (above : Above) where
  replaced-known : (o : Option Word) → IfOk (function_or_none above o) (λ m. IfSome m (λ g. g.0 < length above.functions))
  replaced-known None = tt
  replaced-known (Some name) =
      of-made (λ m. IfSome m (λ g. g.0 < length above.functions)) (λ f. Some f) (function_in above name) (function-known above name)

  user-new : (u : UserLine) → is_name_text u.name ≡ true → is_among (user_names above) u.name ≡ false
      → (m : Result (Option FuncNo) Cause) (a : Result (Option Act) Cause) → IfOk m (λ o. IfSome o (λ g. g.0 < length above.functions))
      → IfOk (spec_with u m a) (λ s. NewNames above (a_user s))
  user-new u is new (Err cause) a known = tt
  user-new u is new (Ok m) (Err cause) known = tt
  user-new u is new (Ok m) (Ok a) known = (is, new, known)

  named-new : (form : LineForm) → Named form → is_past_limit above form ≡ false → is_duplicate above form ≡ false → IfOk (named above form) (NewNames above)
  named-new skip is limit new = tt
  named-new (version number) is limit new = tt
  named-new (func name owner) is limit new = (name-short name is.0 (or-false_both _ _ limit).0, new)
  named-new (depth frames) is limit new = tt
  named-new (tramps slots) is limit new = tt
  named-new (absent owner) is limit new = of-all (NewNames above) an_absence (module_in above owner) (λ m. tt)
  named-new (ring entries) is limit new = tt
  named-new tracing_off is limit new = tt
  named-new (trigger text) is limit new = of-all (NewNames above) a_trigger (trigger_in above text) (λ t. tt)
  named-new (user u) is limit new =
      of-made (NewNames above) a_user (spec_in above u)
      (user-new u (name-short u.name is (or-false_both _ _ (or-false_both _ _ limit).0).0) new (function_or_none above u.ipmodify) (act_in above u.act) (replaced-known u.ipmodify))
  named-new (new_cpu cpu quantum) is limit new = tt
  named-new (new_task pid cpu) is limit new =
      of-all (NewNames above) (a_task pid) (cpu_in above cpu) (λ c. (ltb-false PID pid (or-false_both _ _ (or-false_both _ _ limit).0).1, new))
  named-new (new_lane lane) is limit new = tt
  named-new (call name) is limit new = of-all (NewNames above) (λ f. an_act (Call f)) (function_in above name) (λ f. tt)
  named-new ret is limit new = tt
  named-new (raise to) is limit new = tt
  named-new lower is limit new = tt
  named-new (after k) is limit new = tt
  named-new (register name) is limit new = of-all (NewNames above) (λ u. a_command (Register u)) (user_in above name) (λ u. tt)
  named-new (unregister name) is limit new = of-all (NewNames above) (λ u. a_command (Unregister u)) (user_in above name) (λ u. tt)
  named-new (write half append name text) is limit new =
      of-all (NewNames above) a_command (write_with half (user_in above name) (edit_in above append text)) (λ c. tt)
  named-new (pids excluded list) is limit new = of-all (NewNames above) a_command (pids_in above excluded list) (λ c. tt)
  named-new (enable name) is limit new = of-all (NewNames above) (λ u. a_command (Enable u)) (user_in above name) (λ u. tt)
  named-new (disable name) is limit new = of-all (NewNames above) (λ u. a_command (Disable u)) (user_in above name) (λ u. tt)
  named-new (max_depth k) is limit new = tt
  named-new (until pid k) is limit new = of-all (NewNames above) (λ task. a_ctl (Until task k)) (task_in above pid) (λ t. tt)
  named-new (load owner) is limit new = of-all (NewNames above) (λ m. a_ctl (Run (Load m))) (module_in above owner) (λ m. tt)
  named-new (unload owner) is limit new = of-all (NewNames above) (λ m. a_ctl (Run (Unload m))) (module_in above owner) (λ m. tt)
  named-new (sched items) is limit new =
      of-if (NewNames above) (is_past_sched_limit (length above.quanta) above.steps items) Limit _ (λ few.
      of-if (NewNames above) (has_unknown (length above.quanta) items) Unknown _ (λ there. tt))

  -- a line without a cause declares what it says, under new names
  line-new : (ended : Bool) (bytes : List ℕ) (below : List Line) (line : Resolved) → resolved_line above ended (line_form bytes) below ≡ Ok line
      → NewNames above line.what × (said above (line_form bytes) ≡ line)
  line-new false bytes below line e = absurd (err-ok line Syntax e)
  line-new true bytes below line e = by (above.lines == 0) (line_form bytes) refl e
    where
      by : (first : Bool) (form : Option LineForm) → line_form bytes ≡ form → (if first then first_line form else next_line above below form) ≡ Ok line
          → NewNames above line.what × (said above form ≡ line)
      by true (Some (version number)) is e =
          let here : record { rank = 0; what = a_version number } ≡ line = ok-same (first_line (Some (version number))) _ _ refl e in
          (subst (λ (r : Resolved). NewNames above r.what) here tt, here)
      by true _ is e = absurd (err-ok line Version e)
      by false None is e = absurd (err-ok line Syntax e)
      by false (Some form) is e =
          let c = no-cause above below line form e in (
            subst (λ (r : Result Declaration Cause). IfOk r (NewNames above)) c.what (named-new form (form-named bytes form is) c.limit c.new),
            ap₂ (λ (r : ℕ) (w : Result Declaration Cause). record { rank = r; what = or_nothing w }) c.rank c.what,
          )

module _ (above : Above) (h : NamesHold above) where
  n : AreNames (function_names above) (user_names above) (pids_of above)
  n = h.names

  one-function : (f : Func) → is_name_text f.name ≡ true → is_among (function_names above) f.name ≡ false
      → AreNames (map (λ (g : Func). g.name) (above.functions ++ f ∷ [])) (user_names above) (pids_of above)
  one-function f is new =
      subst (λ (ws : List Word). AreNames ws (user_names above) (pids_of above)) (sym (map_push (λ (g : Func). g.name) above.functions f)) (record {
        functions' = Each-snoc (λ (w : Word). is_name_text w ≡ true) (function_names above) f.name n.functions' is;
        users' = n.users';
        pids' = n.pids';
        distinct_functions = distinct-push (function_names above) (bytes_eq f.name) f.name (same-bytes f.name) n.distinct_functions new;
        distinct_users = n.distinct_users;
        distinct_pids = n.distinct_pids;
      })

  one-user : (u : Spec) → is_name_text u.name ≡ true → Distinct (user_names above ++ u.name ∷ [])
      → AreNames (function_names above) (map (λ (v : Spec). v.name) (above.users ++ u ∷ [])) (pids_of above)
  one-user u is new =
      subst (λ (ws : List Word). AreNames (function_names above) ws (pids_of above)) (sym (map_push (λ (v : Spec). v.name) above.users u)) (record {
        functions' = n.functions';
        users' = Each-snoc (λ (w : Word). is_name_text w ≡ true) (user_names above) u.name n.users' is;
        pids' = n.pids';
        distinct_functions = n.distinct_functions;
        distinct_users = new;
        distinct_pids = n.distinct_pids;
      })

  one-task : (t : LinedTask) → t.pid ≤ PID → Distinct (pids_of above ++ t.pid ∷ [])
      → AreNames (function_names above) (user_names above) (map (λ (p : LinedTask). p.pid) (above.tasks ++ t ∷ []))
  one-task t le new =
      subst (λ (ns : List ℕ). AreNames (function_names above) (user_names above) ns) (sym (map_push (λ (p : LinedTask). p.pid) above.tasks t)) (record {
        functions' = n.functions';
        users' = n.users';
        pids' = Each-snoc (λ k. k ≤ PID) (pids_of above) t.pid n.pids' le;
        distinct_functions = n.distinct_functions;
        distinct_users = n.distinct_users;
        distinct_pids = new;
      })

  one-act : (act : LinedAct) → AreNames (function_names above) (user_names above) (map (λ (p : LinedTask). p.pid) (push_act above.tasks act))
  one-act act = subst (λ (ns : List ℕ). AreNames (function_names above) (user_names above) ns) (sym (pids-act above.tasks act)) n

  names-declared : (what : Declaration) → NewNames above what
      → AreNames (function_names (with_what above what)) (user_names (with_what above what)) (pids_of (with_what above what))
  names-declared (a_function f) is = one-function f is.0 is.1
  names-declared (a_user s) is = one-user s is.0 (distinct-push (user_names above) (bytes_eq s.name) s.name (same-bytes s.name) n.distinct_users is.1)
  names-declared (a_task pid cpu) is = one-task _ is.0 (distinct-push (pids_of above) (λ p. p == pid) pid (==-refl pid) n.distinct_pids is.1)
  names-declared (an_act act) is = one-act _
  names-declared _ is = n

  func-more : (size size' : ℕ) → size ≤ size' → (o : Option FuncNo) → IfSome o (λ g. g.0 < size) → IfSome o (λ g. g.0 < size')
  func-more size size' le None k = tt
  func-more size size' le (Some g) k = omega (arith, le, k)

  replaced-declared : (what : Declaration) → NewNames above what → Each (IsReplacedIn (length (with_what above what).functions)) (with_what above what).users
  replaced-declared (a_function f) is =
      let more = length_push above.functions f in
      Each-weaker _ _ above.users (λ (s : Spec) k. func-more (length above.functions) _ (omega (arith, more)) s.ipmodify k) h.replaced
  replaced-declared (a_user s) is = Each-snoc (IsReplacedIn (length above.functions)) above.users s h.replaced is.2
  replaced-declared _ is = h.replaced

  what-names : (line : Resolved) → NewNames above line.what → NamesHold (declared above line)
  what-names line is = record { names = names-declared line.what is; replaced = replaced-declared line.what is }

  pub line-names : (line : Line) (below : List Line) → cause_of above line below ≡ None → NamesHold (with_line above line)
  unfolding cause_of with_line
  line-names line below e =
      let resolved = resolved_line above line.ended (line_form line.bytes) below in
      let ok = no-cause_in (carried_out above resolved) e in
      let a = line-new above line.ended line.bytes below ok.0 (carried above resolved ok.0 ok.1).0 in
      subst (λ (r : Resolved). NamesHold (declared above r)) (sym a.1) (what-names ok.0 a.0)

-- ## line by line

none-yet : NamesHold none_above
none-yet = record {
  names = record {
    functions' = tt;
    users' = tt;
    pids' = tt;
    distinct_functions = λ i j d lt within. absurd (omega (arith, within));
    distinct_users = λ i j d lt within. absurd (omega (arith, within));
    distinct_pids = λ i j d lt within. absurd (omega (arith, within));
  };
  replaced = tt;
}

lines-names : (lines : List Line) (above : Above) → refusal_below above lines ≡ None → NamesHold above → NamesHold (declared_after above lines)
lines-names [] above e h = h
lines-names (line ∷ below) above e h =
    let c = neither above (cause_of above line below) (refusal_below (with_line above line) below) e in
    lines-names below (with_line above line) c.1 (line-names above h line below c.0)

pub names-hold : (text : List ℕ) → refusal_of text ≡ None → NamesHold (declared_in text)
names-hold text accepted = lines-names (lines_of text) none_above (none-refused text accepted) none-yet

-- ## the job

module _ (above : Above) (h : NamesHold above) where
  no_lined : LinedTask
  no_lined = record { pid = 0; cpu = 0; acts = [] }

  -- what holds of a list's elements, where they are looked up in what they were mapped from
  looked-up : {X Y : Type 0} (f : X → Y) (P : Y → Type 0) (xs : List X) (i : ℕ) (d : X) → i < length xs → Each P (map f xs) → P (f (get_or xs i d))
  looked-up f P xs i d lt e =
      let k = length-map xs f in
      subst P (get_or-map f xs i d (f d) lt) (All-from_recursion P (map f xs) e i (f d) (omega (arith, k, lt)))

  places : {X Y : Type 0} (f : X → Y) (xs : List X) (i j : ℕ) (d : X) → i < length xs → j < length xs → Distinct (map f xs)
      → f (get_or xs i d) ≡ f (get_or xs j d) → i ≡ j
  places f xs i j d li lj e same =
      let k = length-map xs f in
      distinct-places (map f xs) e i j (f d) (omega (arith, k, li)) (omega (arith, k, lj))
      (get_or-map f xs i d (f d) li ∙ same ∙ sym (get_or-map f xs j d (f d) lj))

  -- in the job there are as many tasks, with the same pids
  abbrev in_job : LinedTask → LinedTask
  in_job = task_in_job (expansion_of above).ends

  those : length (tasks_of above) ≡ length above.tasks
  those = length-map (map in_job above.tasks) task_of ∙ length-map above.tasks in_job

  pid-is : (t : ℕ) → t < length above.tasks → (get_or (tasks_of above) t no_task).pid ≡ (get_or above.tasks t no_lined).pid
  pid-is t lt =
      let k = length-map above.tasks in_job in
      ap (λ task. task.pid) (get_or-map task_of (map in_job above.tasks) t no_lined no_task (omega (arith, k, lt)))
      ∙ ap (λ (task : LinedTask). task.pid) (get_or-map in_job above.tasks t no_lined no_lined lt)

  pid-small : (t : ℕ) → (get_or (tasks_of above) t no_task).pid < 2 ^ 64
  pid-small t = elim (cases_lt t (length above.tasks)) [
    | inl lt ↦ (let e = pid-is t lt in let le = looked-up (λ (p : LinedTask). p.pid) (λ k. k ≤ PID) above.tasks t no_lined lt h.names.pids' in omega (arith, e, le))
    | inr ge ↦ (let k = those in
        let e = ap (λ task. task.pid) (get_or_past (tasks_of above) t no_task (omega (arith, k, ge))) in omega (arith, e))
  ]

  pub job-named : Each (λ lane. lane < 2 ^ 64) (job_of above).lines.lanes → IsNamedApart (job_of above)
  unfolding job_of
  job-named small = record {
    functions = λ f lt. looked-up (λ (g : Func). g.name) (λ (w : Word). is_name_text w ≡ true) above.functions f no_func lt h.names.functions';
    users = λ u lt. looked-up (λ (s : Spec). s.name) (λ (w : Word). is_name_text w ≡ true) above.users u plain_spec lt h.names.users';
    pids = pid-small;
    lanes = small;
    apart_functions = λ f g lf lg e. places (λ (x : Func). x.name) above.functions f g no_func lf lg h.names.distinct_functions e;
    apart_users = λ u v lu lv e. places (λ (s : Spec). s.name) above.users u v plain_spec lu lv h.names.distinct_users e;
    apart_pids = λ s t ls lt e. let k = those in
        let ls' : s < length above.tasks = omega (arith, k, ls) in
        let lt' : t < length above.tasks = omega (arith, k, lt) in
        places (λ (p : LinedTask). p.pid) above.tasks s t no_lined ls' lt' h.names.distinct_pids (sym (pid-is s ls') ∙ e ∙ pid-is t lt');
  }

  pub job-replaced : Each (IsReplacedIn (funcs (job_of above))) (job_of above).users
  unfolding job_of
  job-replaced = h.replaced

pub accepted_named : (text : List ℕ) (job : Job) → IsJobOf text job → IsNamedApart job
accepted_named text job is =
    subst IsNamedApart (sym is.meaning) (job-named (declared_in text) (names-hold text is.accepted)
    (subst (λ (j : Job). Each (λ lane. lane < 2 ^ 64) j.lines.lanes) is.meaning (accepted_lanes text job is)))

pub accepted_replaced : (text : List ℕ) (job : Job) → IsJobOf text job → Each (IsReplacedIn (funcs job)) job.users
accepted_replaced text job is =
    subst (λ (j : Job). Each (IsReplacedIn (funcs j)) j.users) (sym is.meaning) (job-replaced (declared_in text) (names-hold text is.accepted))
