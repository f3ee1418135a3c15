-- Whether modules are there when their functions are needed, by what a reader knows.
use Rattle.std.proofs.Common.{◌≡◌, ℕ, zero, suc, ◌+◌, ◌-◌, ◌≤◌, ◌<◌, inl, inr, ◌==◌, ◌||◌, Bool, true, false, true≢false, List, [], ◌∷◌, ◌++◌, length, map, drop, get_or, slice_get, Option, Some, None, refl, sym, ap, ap₂, ◌∙◌, subst, arith}
use Rattle.std.specs.Prelude.{if◌then◌else◌, option_map, IfSome}
use Rattle.std.specs.List.{AllByRecursion as Each, list_any}
use Rattle.std.specs.List.Sorted.{IsNonDecreasingBy}
use Rattle.std.proofs.Math.ListN.{get_or-map}
use Rattle.std.proofs.lemmas.Bool.{cases_eq}
use Rattle.std.proofs.lemmas.List.{append-nil, drop_more}
use Rattle.std.proofs.lemmas.List.Sorted.{IsNonDecreasingBy-push, IsNonDecreasingBy-short}
use Rattle.std.proofs.lemmas.Option.{same_Some, slice_get-map, slice_get_within}
use Rattle.ft_base.proofs.Small.{Each-weaker, Each-snoc}
use Rattle.ft_base.specs.declared.item.Answer.{Answer}
use Rattle.ft_base.specs.declared.number.FuncNo.{FuncNo}
use Rattle.ft_base.specs.declared.task.TaskAct.{TaskAct}
use Rattle.ft_base.specs.declared.task.TaskAct.TheVariants.{Call, Ret, Raise, Lower, After}
use Rattle.ft_base.specs.Desk.{is_accepted}
use Rattle.ft_base.specs.Job.{Job, Func, Spec, Task, LinePlan, ModuleRow, no_func}
use Rattle.ft_desk.specs.declared.command.Ctl.{Ctl as KeptCtl}
use Rattle.ft_desk.specs.declared.command.Ctl.TheVariants.{Run as KeptRun, Until as KeptUntil}
use Rattle.ft_desk.specs.Commands.{ctl_of}
use Rattle.ft_desk.specs.Lines.{lines_of}
use Rattle.ft_job.specs.declared.parts.ModRow.{ModRow}
use Rattle.ft_job.specs.Plans.{row_of}
use Rattle.script_waits.specs.declared.script.LinedAct.{LinedAct}
use Rattle.script_waits.specs.declared.script.ControlLine.{ControlLine}
use Rattle.script_waits.specs.declared.script.Wait.{Wait}
use Rattle.script_waits.specs.Tasks.{LinedTask, tracks_of}
use Rattle.script_waits.specs.Greedy.{IsLeast, lower_of}
use Rattle.script_waits.proofs.Least.{least-same, least-lower}
use Rattle.func_table.specs.Modules.{modules_in, number_among, module_of}
use Rattle.module_table.specs.Lines.{Line as ModuleLine, Plain, Load, Unload, answer_to, commands_for, owners_of}
use Rattle.module_coverage.specs.declared.change.Change.{Change}
use Rattle.module_coverage.specs.Loaded.{is_changing, is_loaded}
use Rattle.module_coverage.specs.Plan.{ModulePlan, owner_in}
use Rattle.module_coverage.specs.Spans.{acts_in, waits_in}
use Rattle.module_coverage.specs.Uncovered.{IsUncoveredLine}
use Rattle.module_coverage.specs.Reading.{wait_of, changes_of, IsKnown, IsUncoveredCall}
use Rattle.module_coverage.proofs.Known.{line-is, call-is}
use Rattle.ft_script.specs.declared.expansion.Expansion.{Expansion as KeptExpansion}
use Rattle.ft_script.specs.declared.reader.Reader.{Reader}
use Rattle.ft_script.specs.declared.reader.coverage.NamedModules.{NamedModules}
use Rattle.ft_script.specs.Above.{Above, ScriptCtl, Run, Until, LinedCtl}
use Rattle.ft_script.specs.Expansion.{Expansion, opened, rows_with, rows_for, expanded, expanded_all, expansion_of, act_in_job}
use Rattle.ft_script.specs.ReaderInvariant.{above_of, expansion_in, HasExpansion, AreOf}
use Rattle.ft_script.specs.Script.{task_in_job, task_of, job_tasks_of, job_of, is_named_module, lies_in_named, called_by, needs_named, IsLineOfNeed, MayFindUnloaded, user_may, call_may}
use Rattle.ft_script.specs.Holds.{AreInLanes, LanesHold, Holds}
use Rattle.ft_script.proofs.Expanding.{expansion-plain, expansion-lanes}
use Rattle.ft_script.proofs.LookUps.{any_map}

-- ## the least of many numbers

-- number m is one of those of the first n
abbrev pub IsAmong : (ℕ → ℕ → Type 0) → ℕ → ℕ → Type 0
IsAmong Q n m = (i : ℕ) × (i < n) × Q i m

pub least-none : (Q : ℕ → ℕ → Type 0) → IsLeast (IsAmong Q 0) None
least-none Q m w = absurd (omega (arith, w.1))

-- one more
pub least-next : (Q : ℕ → ℕ → Type 0) (n : ℕ) (low here : Option ℕ) → IsLeast (IsAmong Q n) low → IsLeast (Q n) here → IsLeast (IsAmong Q (n + 1)) (lower_of low here)
least-next Q n low here before one =
    least-lower (IsAmong Q n) (Q n) (IsAmong Q (n + 1)) low here
    (λ m w. (w.0, omega (arith, w.1), w.2))
    (λ m q. (n, omega arith, q))
    (λ m w. elim (cases_eq w.0 n) [
      | inl same ↦ inr (subst (λ i. Q i m) same w.2)
      | inr other ↦ inl (w.0, omega (arith, w.1, other), w.2)
    ])
    before one

-- there is one least number, or there is none
pub least-one : (P : ℕ → Type 0) (a b : Option ℕ) → IsLeast P a → IsLeast P b → a ≡ b
least-one P None None f g = refl
least-one P None (Some y) f g = absurd (f y g.0)
least-one P (Some x) None f g = absurd (g x f.0)
least-one P (Some x) (Some y) f g =
    let u = f.1 y g.0 in
    let v = g.1 x f.0 in
    let e : x ≡ y = omega (arith, u, v) in
    ap Some e

-- nothing is lower than what is missing
lower-none : (low : Option ℕ) → lower_of low None ≡ low
lower-none None = refl
lower-none (Some n) = refl

-- ## loads and unloads come in order

each-at : {X : Type 0} (P : X → Type 0) (xs : List X) (i : ℕ) (d : X) → i < length xs → Each P xs → P (get_or xs i d)
each-at P [] i d inside h = absurd (omega (arith, inside))
each-at P (x ∷ xs) zero d inside h = h.0
each-at P (x ∷ xs) (suc i) d inside h = each-at P xs i d (omega (arith, inside)) h.1

changes-append : (xs ys : List ModuleRow) → changes_of (xs ++ ys) ≡ changes_of xs ++ changes_of ys
changes-append [] ys = refl
changes-append (x ∷ xs) ys = by (is_accepted x.answer) (record { «module» = x.owner; load = x.load; at = x.last }) (changes-append xs ys)
  where
    by : (b : Bool) (c : Change) → changes_of (xs ++ ys) ≡ changes_of xs ++ changes_of ys
        → (if b then c ∷ changes_of (xs ++ ys) else changes_of (xs ++ ys)) ≡ (if b then c ∷ changes_of xs else changes_of xs) ++ changes_of ys
    by true c e = ap (λ (cs : List Change). c ∷ cs) e
    by false c e = e

-- these changes come in order, and none of them after more commands than so many
record AreBy (cs : List Change) (n : ℕ) : Type 0 where
  pub order : IsNonDecreasingBy (λ (c : Change). c.at) cs
  pub last : Each (λ (c : Change). c.at ≤ n) cs

later : (cs : List Change) (n m : ℕ) → n ≤ m → AreBy cs n → AreBy cs m
later cs n m le h = record { order = h.order; last = Each-weaker _ _ cs (λ (c : Change) low. omega (arith, low, le)) h.last }

one-more : (cs : List Change) (n m : ℕ) (c : Change) → n ≤ m → c.at ≡ m → AreBy cs n → AreBy (cs ++ c ∷ []) m
one-more cs n m c le is h = record {
  order = IsNonDecreasingBy-push (λ (x : Change). x.at) cs c h.order (λ d some.
      let low = each-at (λ (x : Change). x.at ≤ n) cs (length cs - 1) d (omega (arith, some)) h.last in
      omega (arith, low, le, is));
  last = Each-snoc (λ (x : Change). x.at ≤ m) cs c (later cs n m le h).last (omega (arith, is));
}

none-more : (cs : List Change) (n m : ℕ) → n ≤ m → AreBy cs n → AreBy (cs ++ []) m
none-more cs n m le h = subst (λ (xs : List Change). AreBy xs m) (sym (append-nil cs)) (later cs n m le h)

row-more : (cs : List Change) (n : ℕ) (row : ModuleRow) → n ≤ row.last → AreBy cs n → AreBy (cs ++ changes_of (row ∷ [])) row.last
row-more cs n row le h = by (is_accepted row.answer)
  where
    change : Change
    change = record { «module» = row.owner; load = row.load; at = row.last }

    by : (b : Bool) → AreBy (cs ++ (if b then change ∷ [] else [])) row.last
    by true = one-more cs n row.last change le refl h
    by false = none-more cs n row.last le h

rows-more : (line : ModuleLine) (answer : Answer) (first last n : ℕ) (cs : List Change) → n ≤ last → AreBy cs n → AreBy (cs ++ changes_of (rows_with line answer first last)) last
rows-more (Plain command) answer first last n cs le h = none-more cs n last le h
rows-more (Load m) answer first last n cs le h = row-more cs n (record { load = true; owner = m; answer = answer; first = first; last = last }) le h
rows-more (Unload m) answer first last n cs le h = row-more cs n (record { load = false; owner = m; answer = answer; first = first; last = last }) le h

ctl-more : (x : Expansion) (ctl : ScriptCtl) → AreBy (changes_of x.rows) x.known.commands → AreBy (changes_of (expanded x ctl).rows) (expanded x ctl).known.commands
ctl-more x (Run line) h =
    let last : ℕ = x.known.commands + length (commands_for x.known line) in
    subst (λ (cs : List Change). AreBy cs last) (sym (changes-append x.rows (rows_for x.known line)))
    (rows-more line (answer_to x.known line) (suc x.known.commands) last x.known.commands (changes_of x.rows) (omega arith) h)
ctl-more x (Until task acts) h = h

ctls-more : (x : Expansion) (cs : List LinedCtl) → AreBy (changes_of x.rows) x.known.commands → AreBy (changes_of (expanded_all x cs).rows) (expanded_all x cs).known.commands
ctls-more x [] h = h
ctls-more x (c ∷ cs) h = ctls-more (expanded x c.ctl) cs (ctl-more x c.ctl h)

-- the changes of a script without lanes
pub changes-ordered : (above : Above) → above.lane_count ≡ 0 → IsNonDecreasingBy (λ (c : Change). c.at) (changes_of (expansion_of above).rows)
changes-ordered above none =
    let start : AreBy [] (opened above).known.commands = record { order = IsNonDecreasingBy-short (λ (c : Change). c.at) [] (omega arith); last = tt } in
    subst (λ (x : Expansion). IsNonDecreasingBy (λ (c : Change). c.at) (changes_of x.rows)) (sym (expansion-plain above none)) (ctls-more (opened above) above.ctls start).order

-- ## what a reader knows

same-wait : (tasks : ℕ) (c : KeptCtl) → wait_of (ctl_of tasks c) ≡ wait_of (ctl_of 0 c)
same-wait tasks (KeptRun command) = refl
same-wait tasks (KeptUntil t n) = refl

-- control's lines for those that wait, as a reader makes them of the job's lines
abbrev pub control_of_job : List KeptCtl → List ControlLine
control_of_job cs = map (λ c. record { wait = wait_of (ctl_of 0 c); line = 0 }) cs

-- whoever waits sees the same, however many tasks there are
pub waits-kept : (tasks : ℕ) (cs : List KeptCtl) → map wait_of (lines_of tasks cs) ≡ waits_in (control_of_job cs)
waits-kept tasks [] = refl
waits-kept tasks (c ∷ cs) = ap₂ (λ (w : Wait) (ws : List Wait). w ∷ ws) (same-wait tasks c) (waits-kept tasks cs)

-- what a reader of a script without lanes has
pub has-expansion : (r : Reader) (x : KeptExpansion) → r.expansion ≡ Some x → HasExpansion r → (r.lane_count ≡ 0) × (expansion_in (length r.tasks.items) x ≡ expansion_of (above_of r))
has-expansion r x is h = subst (λ (o : Option KeptExpansion). IfSome o (λ y. (r.lane_count ≡ 0) × (expansion_in (length r.tasks.items) y ≡ expansion_of (above_of r)))) is h

module _ (r : Reader) (x : KeptExpansion) (is : expansion_in (length r.tasks.items) x ≡ expansion_of (above_of r)) where
  pub control-known : map wait_of (expansion_of (above_of r)).ctls ≡ waits_in (control_of_job x.ctls.items)
  control-known = ap (λ (y : Expansion). map wait_of y.ctls) (sym is) ∙ waits-kept (length r.tasks.items) x.ctls.items

  pub rows-known : map row_of x.rows.items ≡ (expansion_of (above_of r)).rows
  rows-known = ap (λ (y : Expansion). y.rows) is

-- what the rest of the loads and unloads change, from the next of them on
pub changes-rest : (rows : List ModRow) (i : ℕ) (d : ModRow) → i < length rows
    → changes_of (map row_of (drop i rows)) ≡ changes_of (row_of (get_or rows i d) ∷ []) ++ changes_of (map row_of (drop (i + 1) rows))
changes-rest rows i d inside =
    ap (λ (xs : List ModRow). changes_of (map row_of xs)) (drop_more rows i d inside)
    ∙ changes-append (row_of (get_or rows i d) ∷ []) (map row_of (drop (i + 1) rows))

acts-known : (ts : List LinedTask) → map (λ (t : Task). t.acts) (map task_of ts) ≡ map acts_in (tracks_of ts)
acts-known [] = refl
acts-known (t ∷ ts) = ap (λ (rest : List (List TaskAct)). acts_in t.acts ∷ rest) (acts-known ts)

pub is-known : (above : Above) (control : List ControlLine) (plan : ModulePlan) → map wait_of (expansion_of above).ctls ≡ waits_in control
    → plan.owners ≡ owners_of above.functions → plan.absent ≡ above.absent → plan.changes ≡ changes_of (expansion_of above).rows
    → IsKnown (job_of above) (tracks_of (job_tasks_of above)) control plan
unfolding job_of
is-known above control plan waits owners absent changes = record {
  acts = acts-known (job_tasks_of above);
  waits = waits;
  owners = λ f.
      ap (λ (os : List (Option ℕ)). owner_in os f) owners
      ∙ get_or-map (λ (g : Func). number_among (modules_in above.functions) g.owner) above.functions f no_func;
  absent = absent;
  changes = changes;
}

-- the modules that lines of the job name
pub named-are : (above : Above) (named : NamedModules) → named.owners.now ≡ owners_of above.functions → named.absent.now ≡ above.absent
    → map row_of named.rows.now ≡ (expansion_of above).rows → AreOf named (job_of above)
unfolding job_of
named-are above named owners absent rows = record { owners = owners; absent = absent; rows = rows }

-- a module that isn't absent is named if a row is one of it
pub changing-is : (named : NamedModules) (job : Job) → AreOf named job → (m : ℕ) → list_any (λ (other : ℕ). other == m) named.absent.now ≡ false
    → list_any (λ (row : ModRow). row.«module» == m) named.rows.now ≡ is_changing job.lines m
changing-is named job are m none =
    let rows : List ModuleRow → Bool = λ (rows : List ModuleRow). list_any (λ (row : ModuleRow). row.owner == m) rows in
    let loaded : list_any (λ (other : ℕ). other == m) job.lines.absent ≡ false = ap (λ (absent : List ℕ). list_any (λ (other : ℕ). other == m) absent) (sym are.absent) ∙ none in
    sym (any_map (λ (row : ModuleRow). row.owner == m) row_of named.rows.now) ∙ ap rows are.rows ∙ ap (λ (b : Bool). b || rows job.lines.modules) (sym loaded)

-- ## calls

-- an act in the job, with its line
abbrev in_job : List ℕ → LinedAct → LinedAct
in_job ends a = record a { act = act_in_job ends a.act }

-- a call stays what it is, and nothing else becomes one
call-back : (ends : List ℕ) (act : TaskAct) (f : FuncNo) → act_in_job ends act ≡ Call f → act ≡ Call f
call-back ends (Call g) f e = e
call-back ends Ret f e = e
call-back ends (Raise to) f e = e
call-back ends Lower f e = e
call-back ends (After n) f e = cc

line-back : (ends : List ℕ) (o : Option LinedAct) (f : FuncNo) (n : ℕ) → option_map (in_job ends) o ≡ Some (record { act = Call f; line = n }) → o ≡ Some (record { act = Call f; line = n })
line-back ends None f n e = cc
line-back ends (Some a) f n e =
    let same = same_Some _ _ e in
    let act : a.act ≡ Call f = call-back ends a.act f (ap (λ (x : LinedAct). x.act) same) in
    let line : a.line ≡ n = ap (λ (x : LinedAct). x.line) same in
    ap₂ (λ (act : TaskAct) (line : ℕ). Some (record { act = act; line = line })) act line

track-in_job : (ends : List ℕ) (ts : List LinedTask) (t : ℕ) → get_or (tracks_of (map (task_in_job ends) ts)) t [] ≡ map (in_job ends) (get_or (tracks_of ts) t [])
track-in_job ends [] t = refl
track-in_job ends (x ∷ ts) zero = refl
track-in_job ends (x ∷ ts) (suc t) = track-in_job ends ts t

module _ (above : Above) where
  -- the acts of the job, as they are in the script
  act-in_job : (t i : ℕ) → slice_get (get_or (tracks_of (job_tasks_of above)) t []) i ≡ option_map (in_job (expansion_of above).ends) (slice_get (get_or (tracks_of above.tasks) t []) i)
  act-in_job t i =
      ap (λ (acts : List LinedAct). slice_get acts i) (track-in_job (expansion_of above).ends above.tasks t)
      ∙ slice_get-map (in_job (expansion_of above).ends) (get_or (tracks_of above.tasks) t []) i

  pub call-of_script : (n : ℕ) → IsUncoveredCall (job_of above) (tracks_of (job_tasks_of above)) n → IsUncoveredCall (job_of above) (tracks_of above.tasks) n
  call-of_script n w = record {
    task = w.task;
    place = w.place;
    func = w.func;
    owner = w.owner;
    line = line-back (expansion_of above).ends _ w.func n (sym (act-in_job w.task w.place) ∙ w.line);
    lies = w.lies;
    uncovered = w.uncovered;
  }

  call-of_job : (n : ℕ) → IsUncoveredCall (job_of above) (tracks_of above.tasks) n → IsUncoveredCall (job_of above) (tracks_of (job_tasks_of above)) n
  call-of_job n w = record {
    task = w.task;
    place = w.place;
    func = w.func;
    owner = w.owner;
    line = act-in_job w.task w.place ∙ ap (option_map (in_job (expansion_of above).ends)) w.line;
    lies = w.lies;
    uncovered = w.uncovered;
  }

  -- the lowest line by what the reader knows is that of the job
  pub least-call : (control : List ControlLine) (plan : ModulePlan) (low : Option ℕ) → IsKnown (job_of above) (tracks_of (job_tasks_of above)) control plan
      → IsLeast (IsUncoveredLine (tracks_of (job_tasks_of above)) control plan) low → IsLeast (IsUncoveredCall (job_of above) (tracks_of above.tasks)) low
  least-call control plan low known =
      let job : Job = job_of above in
      let tracks : List (List LinedAct) = tracks_of (job_tasks_of above) in
      least-same _ _ low
      (λ n w. call-of_script n (call-is job tracks control plan known n w))
      (λ n w. line-is job tracks control plan known n (call-of_job n w))

  -- the lower of a user's line and a call's
  pub least-unloaded : (user call : Option ℕ) → IsLeast (IsLineOfNeed (job_of above) above) user → IsLeast (IsUncoveredCall (job_of above) (tracks_of above.tasks)) call
      → IsLeast (MayFindUnloaded above) (lower_of user call)
  least-unloaded user call =
      least-lower (IsLineOfNeed (job_of above) above) (IsUncoveredCall (job_of above) (tracks_of above.tasks)) (MayFindUnloaded above) user call
      (λ n w. user_may w)
      (λ n w. call_may w)
      (λ n w. elim w [ user_may u ↦ inl u | call_may c ↦ inr c ])

-- ## users

module _ (job : Job) (above : Above) where
  -- line n is that of user i, which needs a function of a module that a line names
  abbrev pub IsNeedOf : ℕ → ℕ → Type 0
  IsNeedOf i n = (s : Spec) × (slice_get above.users i ≡ Some s) × (slice_get above.user_lines i ≡ Some n) × (needs_named job s ≡ true)

  pub least-needed : (i : ℕ) (s : Spec) (n : ℕ) → slice_get above.users i ≡ Some s → slice_get above.user_lines i ≡ Some n → needs_named job s ≡ true → IsLeast (IsNeedOf i) (Some n)
  least-needed i s n user line needs = (
    (s, user, line, needs),
    λ m w. let same : n ≡ m = same_Some n m (sym line ∙ w.2) in omega (arith, same),
  )

  pub least-unneeded : (i : ℕ) (s : Spec) → slice_get above.users i ≡ Some s → needs_named job s ≡ false → IsLeast (IsNeedOf i) None
  least-unneeded i s user needless m w =
      let same : s ≡ w.0 = same_Some s w.0 (sym user ∙ w.1) in
      true≢false (sym w.3 ∙ ap (needs_named job) (sym same) ∙ needless)

  -- one user more that needs no such function
  pub least-past : (n : ℕ) (low : Option ℕ) → IsLeast (IsAmong IsNeedOf n) low → IsLeast (IsNeedOf n) None → IsLeast (IsAmong IsNeedOf (n + 1)) low
  least-past n low before none = subst (IsLeast (IsAmong IsNeedOf (n + 1))) (lower-none low) (least-next IsNeedOf n low None before none)

  -- all users
  pub least-of_users : (n : ℕ) (low : Option ℕ) → length above.users ≤ n → IsLeast (IsAmong IsNeedOf n) low → IsLeast (IsLineOfNeed job above) low
  least-of_users n low all =
      least-same (IsAmong IsNeedOf n) (IsLineOfNeed job above) low
      (λ m w. record { number = w.0; spec = w.2.0; user = w.2.1; line = w.2.2; needs = w.2.3 })
      (λ m w. let inside = slice_get_within above.users w.number w.spec w.user in (w.number, omega (arith, inside, all), (w.spec, w.user, w.line, w.needs)))

-- ## a script with lanes

module _ (lines : LinePlan) (absent : lines.absent ≡ []) (rows : lines.modules ≡ []) where
  -- no line names a module
  none-changes : (m : ℕ) → is_changing lines m ≡ false
  none-changes m = rw (absent, rows) refl

  -- each module is loaded all the time
  all-loaded : (m k : ℕ) → is_loaded lines m k ≡ true
  all-loaded m k = rw (absent, rows) refl

module _ (above : Above) (h : Holds above) (some : above.lane_count ≡ 0 → ⊥) where
  in-lanes : AreInLanes above
  in-lanes = by above.lane_count refl h.lanes
    where
      by : (n : ℕ) → above.lane_count ≡ n → LanesHold above n → AreInLanes above
      by zero e l = absurd (some e)
      by (suc last) e l = l

  no-rows : (expansion_of above).rows ≡ []
  no-rows = by above.lane_count refl
    where
      by : (n : ℕ) → above.lane_count ≡ n → (expansion_of above).rows ≡ []
      by zero e = absurd (some e)
      by (suc last) e = ap (λ (x : Expansion). x.rows) (expansion-lanes above last e)

  lines-absent : (job_of above).lines.absent ≡ []
  unfolding job_of
  lines-absent = in-lanes.loaded

  lines-rows : (job_of above).lines.modules ≡ []
  unfolding job_of
  lines-rows = no-rows

  in-none : (o : Option FuncNo) → lies_in_named (job_of above) o ≡ false
  in-none None = refl
  in-none (Some f) = by (module_of (job_of above).functions f.0)
    where
      by : (m : Option ℕ) → is_named_module (job_of above).lines m ≡ false
      by None = refl
      by (Some m) = none-changes (job_of above).lines lines-absent lines-rows m

  -- nothing finds a module unloaded
  pub none-unloaded : IsLeast (MayFindUnloaded above) None
  none-unloaded n w = elim w [
    | user_may u ↦ true≢false (sym u.needs ∙ rw (in-none (called_by u.spec.act), in-none u.spec.ipmodify) refl)
    | call_may c ↦ c.uncovered (λ k low high. all-loaded (job_of above).lines lines-absent lines-rows c.owner k)
  ]
