-- The calls of a job, and those of the lines that a reader knows, are covered alike.
use Rattle.std.proofs.Common.{◌≡◌, ℕ, zero, suc, ◌≤◌, ◌&&◌, ◌==◌, nat_le, Bool, true, false, true≢false, not, List, [], ◌∷◌, map, take, drop, get_or, slice_get, filter, Some, refl, sym, ap, ◌∙◌, subst, ◌+◌, ◌-◌, ◌<◌, ◌⊎◌, inl, inr, arith, add-suc}
use Rattle.std.specs.Prelude.{if◌then◌else◌}
use Rattle.std.specs.List.{list_any}
use Rattle.std.proofs.lemmas.Bool.{cases_eq}
use Rattle.ft_base.specs.declared.number.FuncNo.{FuncNo}
use Rattle.ft_base.specs.declared.task.TaskAct.{TaskAct}
use Rattle.ft_base.specs.declared.task.TaskAct.TheVariants.{Call}
use Rattle.ft_base.specs.Desk.{is_accepted}
use Rattle.ft_base.specs.Job.{Job, Task, Ctl, Run, Until, ModuleRow, no_task}
use Rattle.script_waits.specs.declared.script.LinedAct.{LinedAct}
use Rattle.script_waits.specs.declared.script.ControlLine.{ControlLine}
use Rattle.script_waits.specs.declared.script.Wait.{Wait}
use Rattle.func_table.specs.Modules.{module_of}
use Rattle.module_coverage.specs.declared.change.Change.{Change}
use Rattle.module_coverage.specs.declared.span.Span.{Span}
use Rattle.module_coverage.specs.Loaded.{is_absent, loaded_after, is_loaded}
use Rattle.module_coverage.specs.Covered.{last_after, return_number, commands_until, acts_of, from_command, to_command, AreCovered}
use Rattle.module_coverage.specs.Plan.{ModulePlan, is_of, loaded_by, is_loaded_in}
use Rattle.module_coverage.specs.Spans.{acts_in, waits_in, commands_to}
use Rattle.module_coverage.specs.Uncovered.{IsUncovered, IsUncoveredLine}
use Rattle.module_coverage.specs.Reading.{wait_of, changes_of, IsKnown, IsUncoveredCall}

-- ## acts

-- the acts of one task
acts-at : (tasks : List Task) (tracks : List (List LinedAct)) (t : ℕ) → map (λ (task : Task). task.acts) tasks ≡ map acts_in tracks → (get_or tasks t no_task).acts ≡ acts_in (get_or tracks t [])
acts-at [] [] t e = refl
acts-at [] (x ∷ xs) t e = cc
acts-at (y ∷ ys) [] t e = cc
acts-at (y ∷ ys) (x ∷ xs) zero e = cc
acts-at (y ∷ ys) (x ∷ xs) (suc t) e = let rest : map (λ (task : Task). task.acts) ys ≡ map acts_in xs = cc in acts-at ys xs t rest

-- a call has a line
call-at : (acts : List LinedAct) (i : ℕ) (f : FuncNo) → slice_get (acts_in acts) i ≡ Some (Call f) → (l : ℕ) × (slice_get acts i ≡ Some (record { act = Call f; line = l }))
call-at [] i f e = cc
call-at (a ∷ acts) zero f e = let same : a.act ≡ Call f = cc in (a.line, ap (λ (x : TaskAct). Some (record { act = x; line = a.line })) same)
call-at (a ∷ acts) (suc i) f e = call-at acts i f e

act-at : (acts : List LinedAct) (i : ℕ) (act : TaskAct) (l : ℕ) → slice_get acts i ≡ Some (record { act = act; line = l }) → slice_get (acts_in acts) i ≡ Some act
act-at [] i act l e = cc
act-at (a ∷ acts) zero act l e = let same : a ≡ record { act = act; line = l } = cc in ap (λ (x : LinedAct). Some x.act) same
act-at (a ∷ acts) (suc i) act l e = act-at acts i act l e

-- ## commands

commands-same : (t n k : ℕ) (ctls : List Ctl) → commands_until t n k ctls ≡ commands_to t n k (map wait_of ctls)
commands-same t n k [] = refl
commands-same t n k (Run c ∷ ctls) = commands-same t n (suc k) ctls
commands-same t n k (Until u m ∷ ctls) = ap (λ (x : ℕ). if (u == t) && nat_le n m then k else x) (commands-same t n k ctls)

-- ## modules

-- one line more
loaded-more : (m k : ℕ) (owner at : ℕ) (load : Bool) (was accepted mine : Bool) (cs : List Change) (F : Bool → Bool) → (owner == m) ≡ mine
    → ((now : Bool) → F now ≡ loaded_by k now (filter (is_of m) cs))
    → F (if (mine && accepted) && nat_le at k then load else was) ≡ loaded_by k was (filter (is_of m) (if accepted then record { «module» = owner; load = load; at = at } ∷ cs else cs))
loaded-more m k owner at load was false false cs F e below = below was
loaded-more m k owner at load was false true cs F e below = below was
loaded-more m k owner at load was true false cs F e below = rw e (below was)
loaded-more m k owner at load was true true cs F e below = rw e (below (if nat_le at k then load else was))

loaded-same : (m k : ℕ) (was : Bool) (rows : List ModuleRow) → loaded_after m k was rows ≡ loaded_by k was (filter (is_of m) (changes_of rows))
loaded-same m k was [] = refl
loaded-same m k was (row ∷ rows) = loaded-more m k row.owner row.last row.load was (is_accepted row.answer) (row.owner == m) (changes_of rows) (λ now. loaded_after m k now rows) refl (λ now. loaded-same m k now rows)

-- ## coverage

-- whether P holds of these numbers
range : (P : ℕ → Bool) (from d : ℕ) → ((k : ℕ) → from ≤ k → k < from + d → P k ≡ true) ⊎ ((k : ℕ) × (from ≤ k) × (k < from + d) × (P k ≡ false))
range P from zero = inl (λ k low high. absurd (omega (arith, low, high)))
range P from (suc d) = by (P (from + d)) refl (range P from d)
  where
    by : (b : Bool) → P (from + d) ≡ b → ((k : ℕ) → from ≤ k → k < from + d → P k ≡ true) ⊎ ((k : ℕ) × (from ≤ k) × (k < from + d) × (P k ≡ false))
        → ((k : ℕ) → from ≤ k → k < from + suc d → P k ≡ true) ⊎ ((k : ℕ) × (from ≤ k) × (k < from + suc d) × (P k ≡ false))
    by b e (inr w) = inr (w.0, w.1, omega (arith, w.2, add-suc from d), w.3)
    by false e (inl all) = inr (from + d, omega arith, omega (arith, add-suc from d), e)
    by true e (inl all) = inl (λ k low high. elim (cases_eq k (from + d)) [
      | inl same ↦ subst (λ i. P i ≡ true) (sym same) e
      | inr other ↦ all k low (omega (arith, high, other, add-suc from d))
    ])

module _ (job : Job) (tracks : List (List LinedAct)) (control : List ControlLine) (plan : ModulePlan) (known : IsKnown job tracks control plan) where
  acts : (t : ℕ) → acts_of job t ≡ acts_in (get_or tracks t [])
  acts t = acts-at job.tasks tracks t known.acts

  loaded : (m k : ℕ) → is_loaded job.lines m k ≡ is_loaded_in plan m k
  loaded m k =
      loaded-same m k (not (is_absent job.lines m)) job.lines.modules
      ∙ ap (λ (cs : List Change). loaded_by k (not (is_absent job.lines m)) (filter (is_of m) cs)) (sym known.changes)
      ∙ ap (λ (absent : List ℕ). loaded_by k (not (list_any (λ other. other == m) absent)) (filter (is_of m) plan.changes)) (sym known.absent)

  from : (t i : ℕ) → from_command job t i ≡ last_after 0 (take i (acts_in (get_or tracks t [])))
  from t i = ap (λ (xs : List TaskAct). last_after 0 (take i xs)) (acts t)

  to : (t i : ℕ) → to_command job t i ≡ commands_to t (return_number (suc i) 0 (drop (suc i) (acts_in (get_or tracks t [])))) 0 (waits_in control)
  to t i =
      commands-same t (return_number (suc i) 0 (drop (suc i) (acts_of job t))) 0 job.ctls
      ∙ ap (λ (waits : List Wait). commands_to t (return_number (suc i) 0 (drop (suc i) (acts_of job t))) 0 waits) known.waits
      ∙ ap (λ (xs : List TaskAct). commands_to t (return_number (suc i) 0 (drop (suc i) xs)) 0 (waits_in control)) (acts t)

  -- a call that isn't covered, since its module isn't loaded after k commands
  line-of : (t i m k n : ℕ) (f : FuncNo) → slice_get (get_or tracks t []) i ≡ Some (record { act = Call f; line = n }) → module_of job.functions f.0 ≡ Some m
      → from_command job t i ≤ k → k ≤ to_command job t i → is_loaded job.lines m k ≡ false → IsUncoveredLine tracks control plan n
  line-of t i m k n f at lies begun returned away = record {
    task = t;
    span = record { line = n; func = f; from = from_command job t i; to = to_command job t i };
    is_call = record { place = i; call = at; from = from t i; to = to t i };
    uncovered = record { owner = m; lies = known.owners f.0 ∙ lies; commands = k; begun = begun; returned = returned; away = sym (loaded m k) ∙ away };
    line = refl;
  }

  pub line-is : (n : ℕ) → IsUncoveredCall job tracks n → IsUncoveredLine tracks control plan n
  line-is n w =
      let first : ℕ = from_command job w.task w.place in
      let last : ℕ = to_command job w.task w.place in
      elim (range (is_loaded job.lines w.owner) first (suc last - first)) [
        | inl all ↦ absurd (w.uncovered (λ k low high. all k low (omega (arith, low, high))))
        | inr there ↦ line-of w.task w.place w.owner there.0 n w.func w.line w.lies there.1 (omega (arith, there.1, there.2)) there.3
      ]

  pub call-is : (n : ℕ) → IsUncoveredLine tracks control plan n → IsUncoveredCall job tracks n
  call-is n w =
      let s : Span = w.span in
      let t : ℕ = w.task in
      let i : ℕ = w.is_call.place in
      let u : IsUncovered plan s = w.uncovered in
      let begun : from_command job t i ≤ u.commands = subst (λ x. x ≤ u.commands) (w.is_call.from ∙ sym (from t i)) u.begun in
      let returned : u.commands ≤ to_command job t i = subst (λ x. u.commands ≤ x) (w.is_call.to ∙ sym (to t i)) u.returned in
      record {
        task = t;
        place = i;
        func = s.func;
        owner = u.owner;
        line = subst (λ (l : ℕ). slice_get (get_or tracks t []) i ≡ Some (record { act = Call s.func; line = l })) (sym w.line) w.is_call.call;
        lies = sym (known.owners s.func.0) ∙ u.lies;
        uncovered = λ all. true≢false (sym (all u.commands begun returned) ∙ loaded u.owner u.commands ∙ u.away);
      }

  -- no line, so all are covered
  pub none-left : ((n : ℕ) → ¬ IsUncoveredLine tracks control plan n) → AreCovered job
  none-left none t i m f at lies k begun returned = by (is_loaded job.lines m k) refl
    where
      by : (b : Bool) → is_loaded job.lines m k ≡ b → is_loaded job.lines m k ≡ true
      by true e = e
      by false e =
          let call : (l : ℕ) × (slice_get (get_or tracks t []) i ≡ Some (record { act = Call f; line = l })) = call-at (get_or tracks t []) i f (sym (ap (λ (xs : List TaskAct). slice_get xs i) (acts t)) ∙ at) in
          absurd (none call.0 (line-of t i m k call.0 f call.1 lies begun returned e))

  -- all are covered, so no line
  pub all-covered : AreCovered job → (n : ℕ) → ¬ IsUncoveredLine tracks control plan n
  all-covered all n w =
      let call : IsUncoveredCall job tracks n = call-is n w in
      call.uncovered (all call.task call.place call.owner call.func (ap (λ (xs : List TaskAct). slice_get xs call.place) (acts call.task) ∙ act-at (get_or tracks call.task []) call.place (Call call.func) n call.line) call.lies)
