-- Which modules are loaded after the commands of the first lines of control, as the rows of the job tell, and as it is known between the lines.
use Rattle.std.proofs.Common.{cond, ◌≡◌, ℕ, ◌+◌, ◌<◌, ◌≤◌, ◌==◌, nat_le, Bool, true, false, not, ◌&&◌, List, [], ◌∷◌, ◌++◌, length, get_or, set, take, drop, refl, sym, ap, ◌∙◌, subst, arith, inl, inr, get_or-set_same, get_or-set_other}
use Rattle.std.specs.List.{list_any}
use Rattle.std.proofs.lemmas.Bool.{le-leb, lt-leb}
use Rattle.std.proofs.lemmas.Bool.Decides.{eqb_tells}
use Rattle.std.proofs.lemmas.List.FromFn.{get_or-map-range_with_len}
use Rattle.ft_base.specs.Job.{ModuleRow}
use Rattle.ft_base.specs.Desk.{is_accepted}
use Rattle.ft_base.proofs.Small.{and-false}
use Rattle.func_table.specs.Modules.{modules_in}
use Rattle.module_table.specs.Lines.{Line as ModuleLine, Plain, Load, Unload, commands_for, answer_to}
use Rattle.module_table.proofs.ListLaws.{length-loaded}
use Rattle.module_table.proofs.OpenedLaws.{loaded-size}
use Rattle.module_coverage.specs.Loaded.{changes, loaded_after, is_loaded}
use Rattle.ft_script.specs.Above.{Above, ScriptCtl, Run, Until, LinedCtl}
use Rattle.ft_script.specs.Expansion.{Expansion, opened, rows_for, with_line, expanded, expanded_all}
use Rattle.ft_script.specs.Script.{job_of}
use Rattle.ft_script.proofs.Expanding.{modules-still, commands-some, counts-grow}
use Rattle.ft_script.proofs.DeskOfJob.{first_lines, all-lines}

-- after some rows and then some more
loaded-joined : (m k : ℕ) (was : Bool) (rows more : List ModuleRow) → loaded_after m k was (rows ++ more) ≡ loaded_after m k (loaded_after m k was rows) more
loaded-joined m k was [] more = refl
loaded-joined m k was (row ∷ rows) more = loaded-joined m k (cond (changes m row && nat_le row.last k) row.load was) rows more

-- ## rows of later lines

-- a row whose last command is yet to come changes nothing
row-to-come : (p : Bool) (last k : ℕ) (load was : Bool) → k < last → cond (p && nat_le last k) load was ≡ was
row-to-come p last k load was lt = ap (λ b. cond (p && b) load was) (lt-leb last k lt) ∙ ap (λ b. cond b load was) (and-false p)

row-later : (m k : ℕ) (was : Bool) (x : Expansion) (line : ModuleLine) → k ≤ x.known.commands → loaded_after m k was (rows_for x.known line) ≡ was
row-later m k was x (Plain c) le = refl
row-later m k was x (Load owner) le =
    row-to-come ((owner == m) && is_accepted (answer_to x.known (Load owner))) (x.known.commands + length (commands_for x.known (Load owner))) k true was
    (omega (arith, commands-some x.known (Load owner), le))
row-later m k was x (Unload owner) le =
    row-to-come ((owner == m) && is_accepted (answer_to x.known (Unload owner))) (x.known.commands + length (commands_for x.known (Unload owner))) k false was
    (omega (arith, commands-some x.known (Unload owner), le))

rows-later : (m k : ℕ) (was : Bool) (x : Expansion) (ctls : List LinedCtl) → k ≤ x.known.commands
    → loaded_after m k was (expanded_all x ctls).rows ≡ loaded_after m k was x.rows
rows-later m k was x [] le = refl
rows-later m k was x (c ∷ ctls) le = rows-later m k was (expanded x c.ctl) ctls (omega (arith, counts-grow x c.ctl, le)) ∙ by c.ctl
  where
    by : (ctl : ScriptCtl) → loaded_after m k was (expanded x ctl).rows ≡ loaded_after m k was x.rows
    by (Run line) = loaded-joined m k was x.rows (rows_for x.known line) ∙ row-later m k (loaded_after m k was x.rows) x line le
    by (Until t n) = refl

-- ## rows of the lines so far

-- a module is loaded after so many commands or more exactly if it is known to be loaded; these were absent at first
abbrev AreLoaded : List ℕ → Expansion → Type 0
AreLoaded absent x = (m k : ℕ) → m < length x.known.loaded → x.known.commands ≤ k
    → loaded_after m k (not (list_any (λ other. other == m) absent)) x.rows ≡ get_or x.known.loaded m true

-- a row all of whose commands are there changes whether its module is loaded, if it was accepted
row-done : (loaded : List Bool) (owner m last k : ℕ) (load accepted was : Bool) → m < length loaded → last ≤ k → was ≡ get_or loaded m true
    → cond (((owner == m) && accepted) && nat_le last k) load was ≡ get_or (cond accepted (set loaded owner load) loaded) m true
row-done loaded owner m last k load accepted was lt le is = ap (λ b. cond (((owner == m) && accepted) && b) load was) (le-leb last k le) ∙ by accepted
  where
    by : (a : Bool) → cond (((owner == m) && a) && true) load was ≡ get_or (cond a (set loaded owner load) loaded) m true
    by false = ap (λ b. cond (b && true) load was) (and-false (owner == m)) ∙ is
    by true = elim (eqb_tells owner m) [
      | inl t ↦ ap (λ b. cond ((b && true) && true) load was) t.0
          ∙ sym (ap (λ i. get_or (set loaded i load) m true) t.1 ∙ get_or-set_same loaded m load true lt)
      | inr q ↦ ap (λ b. cond ((b && true) && true) load was) q.0 ∙ is
          ∙ sym (get_or-set_other loaded owner m load true (λ e. q.1 (sym e)))
    ]

loaded-line : (absent : List ℕ) (x : Expansion) (line : ModuleLine) → AreLoaded absent x → AreLoaded absent (with_line x line)
loaded-line absent x (Plain c) are m k lt le =
    loaded-joined m k (not (list_any (λ other. other == m) absent)) x.rows [] ∙ are m k lt (omega (arith, le))
loaded-line absent x (Load owner) are m k lt le =
    let within : m < length x.known.loaded = subst (λ n. m < n) (loaded-size x.known (Load owner)) lt in
    let last = x.known.commands + length (commands_for x.known (Load owner)) in
    let was = not (list_any (λ other. other == m) absent) in
    loaded-joined m k was x.rows (rows_for x.known (Load owner))
    ∙ row-done x.known.loaded owner m last k true (is_accepted (answer_to x.known (Load owner))) (loaded_after m k was x.rows)
    within le (are m k within (omega (arith, le)))
loaded-line absent x (Unload owner) are m k lt le =
    let within : m < length x.known.loaded = subst (λ n. m < n) (loaded-size x.known (Unload owner)) lt in
    let last = x.known.commands + length (commands_for x.known (Unload owner)) in
    let was = not (list_any (λ other. other == m) absent) in
    loaded-joined m k was x.rows (rows_for x.known (Unload owner))
    ∙ row-done x.known.loaded owner m last k false (is_accepted (answer_to x.known (Unload owner))) (loaded_after m k was x.rows)
    within le (are m k within (omega (arith, le)))

loaded-all : (absent : List ℕ) (x : Expansion) (ctls : List LinedCtl) → AreLoaded absent x → AreLoaded absent (expanded_all x ctls)
loaded-all absent x [] are = are
loaded-all absent x (c ∷ ctls) are = loaded-all absent (expanded x c.ctl) ctls (by c.ctl)
  where
    by : (ctl : ScriptCtl) → AreLoaded absent (expanded x ctl)
    by (Run line) = loaded-line absent x line are
    by (Until t n) = are

loaded-opened : (above : Above) → AreLoaded above.absent (opened above)
loaded-opened above m k lt le =
    let count = length (modules_in above.functions) in
    sym (get_or-map-range_with_len (λ i. not (list_any (λ a. a == i) above.absent)) 0 count m m true
    (omega (arith, lt, length-loaded count above.absent)) (omega arith))

-- ## the job

module _ (above : Above) (lanes : above.lane_count ≡ 0) (n : ℕ) where
  -- it is known of each module
  modules-known : length (first_lines above lanes n).known.loaded ≡ length (modules_in above.functions)
  modules-known = modules-still (opened above) (take n above.ctls) ∙ length-loaded (length (modules_in above.functions)) above.absent

  -- after the commands of the first lines a module is loaded exactly if it is known to be
  pub loaded-known : (m : ℕ) → m < length (modules_in above.functions)
      → is_loaded (job_of above).lines m (first_lines above lanes n).known.commands ≡ get_or (first_lines above lanes n).known.loaded m true
  unfolding job_of
  loaded-known m lt =
      let x = first_lines above lanes n in
      let was = not (list_any (λ other. other == m) above.absent) in
      ap (λ (y : Expansion). loaded_after m x.known.commands was y.rows) (all-lines above lanes n)
      ∙ rows-later m x.known.commands was x (drop n above.ctls) (omega arith)
      ∙ loaded-all above.absent (opened above) (take n above.ctls) (loaded-opened above) m x.known.commands (omega (arith, lt, modules-known)) (omega arith)
