-- What the lines of the job's control are, if what is declared holds: each names what is there.
use Rattle.std.proofs.Common.{cond, ◌≡◌, ℕ, zero, suc, ◌+◌, ◌<◌, ◌≤◌, Bool, true, false, List, [], ◌∷◌, ◌++◌, length, get_or, replicate, count_by, Option, Some, None, refl, sym, ap, ◌∙◌, subst, arith}
use Rattle.std.specs.List.{AllByRecursion as Each}
use Rattle.std.proofs.lemmas.List.{length-append, length-map, length-replicate, length_push, get_or-replicate}
use Rattle.std.proofs.lemmas.List.Sums.{sum_by-cons}
use Rattle.ft_base.proofs.Small.{Each-snoc}
use Rattle.ft_base.specs.declared.limits.TheConstants.{GRAPH_DEPTH}
use Rattle.ft_base.specs.Marks.{Marks, empty}
use Rattle.ft_base.specs.Job.{Job, Command, Register, Unregister, Filter, Notrace, Pid, NoPid, Enable, Disable, MaxDepth, Ctl, Run as RunCommand, Until as UntilActs, ModuleRow, commands_in}
use Rattle.ft_base.specs.Desk.{Desk, answer_on, is_accepted, edited, changed, after, opening}
use Rattle.ft_base.specs.WellFormed.{IsNamedIn, IsSetIn}
use Rattle.site_set.proofs.MarksLemmas.{length-empty, length-union}
use Rattle.filter_hash.proofs.EditLaws.{length-edited}
use Rattle.word_machine.specs.Limits.{IsLevel}
use Rattle.ft_desk.specs.Declarations.{Declared, bare, job_of}
use Rattle.ft_job.specs.Plans.{IsModule, IsCommand}
use Rattle.func_table.specs.Modules.{modules_in}
use Rattle.module_table.specs.Lines.{Between, Line as ModuleLine, Plain, Load, Unload, own_of, hidden, hidden_now, mask, masks_from, masks_for, selects, command_for, answer_to, loaded_after, commands_for, desk_after, after_line, opening_of}
use Rattle.module_table.specs.Reached.{IsReached, IsLineIn}
use Rattle.module_table.proofs.ListLaws.{length-loaded}
use Rattle.module_table.proofs.MovedLaws.{depth-last}
use Rattle.module_table.proofs.OpeningLaws.{masks-depth}
use Rattle.module_table.proofs.OpenedLaws.{reached-first, reached-line, loaded-size}
use Rattle.ft_script.specs.Above.{Above, LinedCtl, ScriptCtl, Run, Until}
use Rattle.ft_script.specs.Expansion.{Expansion, declarations_of, runs_of, opened, rows_for, expanded, expanded_all, line_as_it_is, lines_as_they_are, expansion_of, command_count}
use Rattle.ft_script.specs.Holds.{IsLine, is_wait, IsPlain, AreInLanes, LanesHold, Holds}
use Rattle.ft_script.proofs.Expanding.{expansion-plain, expansion-lanes, commands-runs, count-runs, count-wait}

-- a line of the job's control: its user and its task are declared, its set has a mark for each function, and its depth is within the limit
abbrev pub IsLineOfJob : ℕ → ℕ → ℕ → Ctl → Type 0
IsLineOfJob users size tasks (RunCommand c) = IsNamedIn users c × IsSetIn size c × IsLevel c
IsLineOfJob users size tasks (UntilActs t n) = t < tasks

-- ## lists

each-append : {X : Type 0} (P : X → Type 0) (xs ys : List X) → Each P xs → Each P ys → Each P (xs ++ ys)
each-append P [] ys a b = b
each-append P (x ∷ xs) ys a b = (a.0, each-append P xs ys a.1 b)

-- a command of the job: the same without its waits
abbrev IsCommandOfJob : ℕ → ℕ → Command → Type 0
IsCommandOfJob users size c = IsNamedIn users c × IsSetIn size c × IsLevel c

each-run : (users size tasks : ℕ) (cs : List Command) → Each (IsCommandOfJob users size) cs → Each (IsLineOfJob users size tasks) (runs_of cs)
each-run users size tasks [] h = tt
each-run users size tasks (c ∷ cs) h = (h.0, each-run users size tasks cs h.1)

-- the masks of users that are declared, whose sets have a mark for each function
each-mask : (users size u : ℕ) (owns : List Marks) (h : Marks) → u + length owns ≤ users → ((i : ℕ) → i < length owns → length (get_or owns i []) ≡ size)
    → Each (IsCommandOfJob users size) (masks_from u owns h)
each-mask users size u [] h fit sizes = tt
each-mask users size u (own ∷ owns) h fit sizes = (
  (omega (arith, fit), length-union own h ∙ sizes 0 (omega arith), tt),
  each-mask users size (suc u) owns h (omega (arith, fit)) (λ i l. sizes (suc i) (omega (arith, l))),
)

-- ## the graph depth

-- a depth within the limit stays within it
level-after : (job : Job) (desk : Desk) (k : ℕ) (c : Command) → desk.depth ≤ GRAPH_DEPTH → IsLevel c → (after job desk k (Some c)).depth ≤ GRAPH_DEPTH
level-after job desk k c low level = by c (is_accepted (answer_on job desk c)) level
  where
    by : (c : Command) (a : Bool) → IsLevel c → (cond a (changed job desk k c) desk).depth ≤ GRAPH_DEPTH
    by (Register u) true l = low
    by (Unregister u) true l = low
    by (Filter u e) true l = low
    by (Notrace u e) true l = low
    by (Pid pids) true l = low
    by (NoPid nopids) true l = low
    by (Enable u) true l = low
    by (Disable u) true l = low
    by (MaxDepth n) true l = l
    by c false l = low

-- ## one line more

-- what holds of the lines so far, of so many users, functions, tasks and modules
record Carries (users size tasks modules : ℕ) (x : Expansion) : Type 0 where
  pub reached : IsReached x.known
  pub specs : length x.known.declared.specs ≡ users
  pub funcs : x.known.declared.funcs ≡ size
  pub loaded : length x.known.loaded ≡ modules
  pub level : x.known.desk.depth ≤ GRAPH_DEPTH
  pub lines : Each (IsLineOfJob users size tasks) x.ctls
  pub rows : Each (λ (row : ModuleRow). row.owner < modules) x.rows

module _ (above : Above) where
  abbrev users : ℕ
  users = length above.users

  abbrev size : ℕ
  size = length above.functions

  abbrev tasks : ℕ
  tasks = length above.tasks

  abbrev modules : ℕ
  modules = length (modules_in above.functions)

  line-in : (d : Declared) (n : ℕ) (line : ModuleLine) → length d.specs ≡ users → d.funcs ≡ size → n ≡ modules → IsLine above (Run line) → IsLineIn d n line
  line-in d n (Plain c) s f m h = (subst (λ k. IsNamedIn k c) (sym s) h.0, subst (λ k. IsSetIn k c) (sym f) h.1)
  line-in d n (Load owner) s f m h = subst (λ k. owner < k) (sym m) h
  line-in d n (Unload owner) s f m h = subst (λ k. owner < k) (sym m) h

  module _ (x : Expansion) (is : Carries users size tasks modules x) where
    abbrev b : Between
    b = x.known

    -- a mask takes the place of an edit of a notrace set
    command-of_job : (c : Command) → IsCommandOfJob users size c → IsCommandOfJob users size (command_for b c)
    command-of_job (Register u) h = h
    command-of_job (Unregister u) h = h
    command-of_job (Filter u e) h = h
    command-of_job (Notrace u e) h = by (edited b.declared.funcs (own_of b u) e) (selects e)
        (length-edited b.declared.funcs (own_of b u) e (is.reached.sets u (let named : u < users = h.0 in let s = is.specs in omega (arith, named, s))))
      where
        by : (own : Marks) (a : Bool) → length own ≡ b.declared.funcs → IsCommandOfJob users size (cond a (mask u own (hidden_now b)) (Notrace u e))
        by own true sized = (h.0, length-union own (hidden_now b) ∙ sized ∙ is.funcs, tt)
        by own false sized = h
    command-of_job (Pid pids) h = h
    command-of_job (NoPid nopids) h = h
    command-of_job (Enable u) h = h
    command-of_job (Disable u) h = h
    command-of_job (MaxDepth n) h = h

    -- a load or an unload: masks, if it is accepted, and then the depth
    moves-of_job : (a : Bool) (loaded : List Bool) → Each (IsCommandOfJob users size) (masks_for b a loaded ++ MaxDepth b.desk.depth ∷ [])
    moves-of_job true loaded = Each-snoc (IsCommandOfJob users size) (masks_from 0 b.own (hidden b.owners loaded)) (MaxDepth b.desk.depth)
        (each-mask users size 0 b.own (hidden b.owners loaded) (let o = is.reached.own in let s = is.specs in omega (arith, o, s))
        (λ i l. is.reached.sets i (let o = is.reached.own in omega (arith, o, l)) ∙ is.funcs))
        (tt, tt, is.level)
    moves-of_job false loaded = ((tt, tt, is.level), tt)

    commands-of_job : (line : ModuleLine) → IsLine above (Run line) → Each (IsCommandOfJob users size) (commands_for b line)
    commands-of_job (Plain c) h = (command-of_job c h, tt)
    commands-of_job (Load m) h = moves-of_job (is_accepted (answer_to b (Load m))) (loaded_after b (Load m))
    commands-of_job (Unload m) h = moves-of_job (is_accepted (answer_to b (Unload m))) (loaded_after b (Unload m))

    depth-moved : (a : Bool) (loaded : List Bool) → (desk_after (job_of b.declared) b.desk b.commands (masks_for b a loaded ++ MaxDepth b.desk.depth ∷ [])).depth ≤ GRAPH_DEPTH
    depth-moved a loaded = subst (λ n. n ≤ GRAPH_DEPTH) (sym (ap (λ (d : Desk). d.depth) (depth-last (job_of b.declared) b.desk b.commands b.desk.depth (masks_for b a loaded)))) is.level

    depth-of_line : (line : ModuleLine) → IsLine above (Run line) → (after_line b line).desk.depth ≤ GRAPH_DEPTH
    depth-of_line (Plain c) h = level-after (job_of b.declared) b.desk (suc b.commands) (command_for b c) is.level (command-of_job c h).2
    depth-of_line (Load m) h = depth-moved (is_accepted (answer_to b (Load m))) (loaded_after b (Load m))
    depth-of_line (Unload m) h = depth-moved (is_accepted (answer_to b (Unload m))) (loaded_after b (Unload m))

    rows-of_line : (line : ModuleLine) → IsLine above (Run line) → Each (λ (row : ModuleRow). row.owner < modules) (rows_for b line)
    rows-of_line (Plain c) h = tt
    rows-of_line (Load m) h = (h, tt)
    rows-of_line (Unload m) h = (h, tt)

    carries-one : (ctl : ScriptCtl) → IsLine above ctl → Carries users size tasks modules (expanded x ctl)
    carries-one (Run line) h = record {
      reached = reached-line b is.reached line (line-in b.declared (length b.loaded) line is.specs is.funcs is.loaded h);
      specs = is.specs;
      funcs = is.funcs;
      loaded = loaded-size b line ∙ is.loaded;
      level = depth-of_line line h;
      lines = each-append (IsLineOfJob users size tasks) x.ctls (runs_of (commands_for b line)) is.lines (each-run users size tasks (commands_for b line) (commands-of_job line h));
      rows = each-append (λ (row : ModuleRow). row.owner < modules) x.rows (rows_for b line) is.rows (rows-of_line line h);
    }
    carries-one (Until t n) h = record {
      reached = is.reached;
      specs = is.specs;
      funcs = is.funcs;
      loaded = is.loaded;
      level = is.level;
      lines = Each-snoc (IsLineOfJob users size tasks) x.ctls (UntilActs t n) is.lines h;
      rows = is.rows;
    }

  carries-all : (x : Expansion) (ctls : List LinedCtl) → Carries users size tasks modules x → Each (λ (c : LinedCtl). IsLine above c.ctl) ctls
      → Carries users size tasks modules (expanded_all x ctls)
  carries-all x [] is h = is
  carries-all x (c ∷ ctls) is h = carries-all (expanded x c.ctl) ctls (carries-one x is c.ctl h.0) h.1

  -- ## before the first line

  abbrev d : Declared
  d = declarations_of above

  opening-of_job : (first : Option Marks) → Each (IsCommandOfJob users size) (opening_of d first)
  opening-of_job None = tt
  opening-of_job (Some h) = each-mask users size 0 (replicate (length d.specs) (empty d.funcs)) h
      (omega (arith, length-replicate {A = Marks} (length d.specs) (empty d.funcs), length-map above.users bare))
      (λ i l. ap length (get_or-replicate (length d.specs) i (empty d.funcs) [] (omega (arith, l, length-replicate {A = Marks} (length d.specs) (empty d.funcs)))) ∙ length-empty d.funcs)

  depth-opened : (first : Option Marks) → (desk_after (job_of d) (opening (job_of d)) 0 (opening_of d first)).depth ≤ GRAPH_DEPTH
  depth-opened None = omega arith
  depth-opened (Some h) = subst (λ n. n ≤ GRAPH_DEPTH) (sym (masks-depth (job_of d) (opening (job_of d)) 0 0 (replicate (length d.specs) (empty d.funcs)) h)) (omega arith)

  carries-opened : Carries users size tasks modules (opened above)
  carries-opened = record {
    reached = reached-first d above.functions refl above.absent;
    specs = length-map above.users bare;
    funcs = refl;
    loaded = length-loaded modules above.absent;
    level = depth-opened (opened above).known.first;
    lines = each-run users size tasks (opening_of d (opened above).known.first) (opening-of_job (opened above).known.first);
    rows = tt;
  }

  -- ## lines of a script with lanes

  lanes-of_job : (ctls : List LinedCtl) → Each (λ (c : LinedCtl). IsPlain c.ctl) ctls → Each (λ (c : LinedCtl). IsLine above c.ctl) ctls
      → Each (IsLineOfJob users size tasks) (lines_as_they_are ctls)
  lanes-of_job [] p h = tt
  lanes-of_job (c ∷ ctls) p h = by c.ctl p.0 h.0 (lanes-of_job ctls p.1 h.1)
    where
      by : (ctl : ScriptCtl) → IsPlain ctl → IsLine above ctl → Each (IsLineOfJob users size tasks) (lines_as_they_are ctls)
          → Each (IsLineOfJob users size tasks) (line_as_it_is ctl ++ lines_as_they_are ctls)
      by (Run (Plain command)) plain line rest = (line, rest)
      by (Run (Load m)) plain line rest = absurd plain
      by (Run (Unload m)) plain line rest = absurd plain
      by (Until t n) plain line rest = absurd plain

-- what the lines of a script with lanes are: commands, as many as there are lines, and no waits
record AreAsTheyAre (ctls : List LinedCtl) : Type 0 where
  pub commands : Each IsCommand (lines_as_they_are ctls)
  pub count : length (lines_as_they_are ctls) ≡ length ctls
  pub all : length (commands_in (lines_as_they_are ctls)) ≡ length ctls
  pub waits : count_by (λ (c : LinedCtl). is_wait c.ctl) ctls ≡ 0

as_they_are : (ctls : List LinedCtl) → Each (λ (c : LinedCtl). IsPlain c.ctl) ctls → AreAsTheyAre ctls
as_they_are [] p = record { commands = tt; count = refl; all = refl; waits = refl }
as_they_are (c ∷ ctls) p = by c.ctl refl p.0 (as_they_are ctls p.1)
  where
    by : (ctl : ScriptCtl) → c.ctl ≡ ctl → IsPlain ctl → AreAsTheyAre ctls → AreAsTheyAre (c ∷ ctls)
    by (Run (Plain command)) e plain rest = record {
      commands = subst (λ l. Each IsCommand (line_as_it_is l ++ lines_as_they_are ctls)) (sym e) (tt, rest.commands);
      count = ap (λ l. length (line_as_it_is l ++ lines_as_they_are ctls)) e ∙ ap suc rest.count;
      all = ap (λ l. length (commands_in (line_as_it_is l ++ lines_as_they_are ctls))) e ∙ ap suc rest.all;
      waits = sum_by-cons (λ (x : LinedCtl). cond (is_wait x.ctl) 1 0) c ctls ∙ ap (λ l. cond (is_wait l) 1 0 + count_by (λ (x : LinedCtl). is_wait x.ctl) ctls) e
          ∙ (let none = rest.waits in omega (arith, none));
    }
    by (Run (Load m)) e plain rest = absurd plain
    by (Run (Unload m)) e plain rest = absurd plain
    by (Until t n) e plain rest = absurd plain

in-lanes : (above : Above) (last : ℕ) → above.lane_count ≡ suc last → Holds above → AreInLanes above
in-lanes above last e h = subst (LanesHold above) e h.lanes

-- if there are lanes, no row, each line a command, and as many lines as the script has
pub lanes-carried : (above : Above) → (last : ℕ) → above.lane_count ≡ suc last → Holds above
    → ((expansion_of above).rows ≡ []) × Each IsCommand (expansion_of above).ctls × (length (expansion_of above).ctls ≡ length above.ctls)
lanes-carried above last e h =
    let are = as_they_are above.ctls (in-lanes above last e h).plain in
    subst (λ (x : Expansion). (x.rows ≡ []) × Each IsCommand x.ctls × (length x.ctls ≡ length above.ctls)) (sym (expansion-lanes above last e)) (refl, are.commands, are.count)

-- ## all lines

-- for any script, by whether it has lanes
by-lanes : (above : Above) (P : Expansion → Type 0) → (above.lane_count ≡ 0 → P (expanded_all (opened above) above.ctls))
    → ((last : ℕ) → above.lane_count ≡ suc last → P (record (opened above) { ctls = lines_as_they_are above.ctls })) → P (expansion_of above)
by-lanes above P none some = by above.lane_count refl
  where
    by : (n : ℕ) → above.lane_count ≡ n → P (expansion_of above)
    by zero e = subst P (sym (expansion-plain above e)) (none e)
    by (suc last) e = subst P (sym (expansion-lanes above last e)) (some last e)

pub lines-carried : (above : Above) → Holds above
    → Each (IsLineOfJob (length above.users) (length above.functions) (length above.tasks)) (expansion_of above).ctls
lines-carried above h = by-lanes above (λ (x : Expansion). Each (IsLineOfJob (length above.users) (length above.functions) (length above.tasks)) x.ctls)
    (λ e. (carries-all above (opened above) above.ctls (carries-opened above) h.lines.named).lines)
    (λ last e. lanes-of_job above above.ctls (in-lanes above last e h).plain h.lines.named)

-- each row's module is there
pub rows-carried : (above : Above) → Holds above → Each (λ (row : ModuleRow). IsModule above.functions row.owner) (expansion_of above).rows
rows-carried above h = by-lanes above (λ (x : Expansion). Each (λ (row : ModuleRow). IsModule above.functions row.owner) x.rows)
    (λ e. (carries-all above (opened above) above.ctls (carries-opened above) h.lines.named).rows)
    (λ last e. tt)

-- what is known after lines of a script that holds can be reached
pub known-reached : (above : Above) → Holds above → above.lane_count ≡ 0 → (ctls : List LinedCtl) → Each (λ (c : LinedCtl). IsLine above c.ctl) ctls
    → IsReached (expanded_all (opened above) ctls).known
known-reached above h e ctls named = (carries-all above (opened above) ctls (carries-opened above) named).reached

-- ## how many lines there are

runs-counted : (ctls : List Ctl) (cs : List Command) (n : ℕ) → length ctls ≡ length (commands_in ctls) + n → length (ctls ++ runs_of cs) ≡ length (commands_in (ctls ++ runs_of cs)) + n
runs-counted ctls cs n e = omega (arith, e, length-append ctls (runs_of cs), length-map cs RunCommand, count-runs ctls cs)

waits-one : (x : Expansion) (ctl : ScriptCtl) (n : ℕ) → length x.ctls ≡ length (commands_in x.ctls) + n
    → length (expanded x ctl).ctls ≡ length (commands_in (expanded x ctl).ctls) + (cond (is_wait ctl) 1 0 + n)
waits-one x (Run line) n e = let r = runs-counted x.ctls (commands_for x.known line) n e in omega (arith, r)
waits-one x (Until t m) n e = omega (arith, e, length_push x.ctls (UntilActs t m), count-wait x.ctls t m)

waits-all : (x : Expansion) (ctls : List LinedCtl) (n : ℕ) → length x.ctls ≡ length (commands_in x.ctls) + n
    → length (expanded_all x ctls).ctls ≡ length (commands_in (expanded_all x ctls).ctls) + (count_by (λ (c : LinedCtl). is_wait c.ctl) ctls + n)
waits-all x [] n e = omega (arith, e)
waits-all x (c ∷ ctls) n e =
    let rest = waits-all (expanded x c.ctl) ctls (cond (is_wait c.ctl) 1 0 + n) (waits-one x c.ctl n e) in
    omega (arith, rest, sum_by-cons (λ (y : LinedCtl). cond (is_wait y.ctl) 1 0) c ctls)

opened-counted : (above : Above) → length (opened above).ctls ≡ length (commands_in (opened above).ctls) + 0
opened-counted above =
    let cs = opening_of (declarations_of above) (opened above).known.first in
    omega (arith, length-map cs RunCommand, ap length (commands-runs cs))

-- as many waits as the script has
pub waits-carried : (above : Above) → Holds above → length (expansion_of above).ctls ≡ command_count above + above.waits
waits-carried above h = by-lanes above (λ (x : Expansion). length x.ctls ≡ length (commands_in x.ctls) + above.waits)
    (λ e. let all = waits-all (opened above) above.ctls 0 (opened-counted above) in let same = h.lines.all in omega (arith, all, same))
    (λ last e. let are = as_they_are above.ctls (in-lanes above last e h).plain in
    let same = h.lines.all in let count = are.count in let commands = are.all in let none = are.waits in omega (arith, same, count, commands, none))
