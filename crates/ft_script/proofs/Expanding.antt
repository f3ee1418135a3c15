-- What control's lines come to, line by line: what stays the same, and how many commands there are.
use Rattle.std.proofs.Common.{cond, ◌≡◌, ◌≢◌, ℕ, suc, ◌+◌, ◌≤◌, ◌==◌, Bool, true, false, List, [], ◌∷◌, ◌++◌, length, replicate, Option, Some, None, refl, sym, ap, ◌∙◌, subst, arith}
use Rattle.std.proofs.Math.Dec.{eqb-suc-zero}
use Rattle.std.proofs.lemmas.List.{length-append, length-map, length-replicate, length-set, length_push}
use Rattle.ft_base.specs.Marks.{Marks, empty}
use Rattle.ft_base.specs.Job.{Command, Register, Unregister, Filter, Notrace, Pid, NoPid, Enable, Disable, MaxDepth, Ctl, Run as RunCommand, Until as UntilActs, Func, commands_in}
use Rattle.ft_base.specs.Desk.{is_accepted}
use Rattle.ft_desk.specs.Declarations.{Declared, bare}
use Rattle.func_table.specs.Modules.{modules_in}
use Rattle.module_table.specs.Lines.{Between, Line as ModuleLine, Plain, Load, Unload, at_first, opening_of, owners_of, loaded_at_first, hidden, masks_from, masks_for, answer_to, commands_for, loaded_after, own_by, own_after}
use Rattle.module_table.proofs.OpenedLaws.{loaded-size}
use Rattle.ft_script.specs.Above.{Above, LinedCtl, ScriptCtl, Run, Until}
use Rattle.ft_script.specs.Expansion.{Expansion, declarations_of, runs_of, opened, expanded, expanded_all, lines_as_they_are, expansion_of, command_count}

-- ## line by line

-- with more lines of control
pub expanded-append : (x : Expansion) (ctls more : List LinedCtl) → expanded_all x (ctls ++ more) ≡ expanded_all (expanded_all x ctls) more
expanded-append x [] more = refl
expanded-append x (c ∷ ctls) more = expanded-append (expanded x c.ctl) ctls more

-- with one more line of control
pub expanded-snoc : (x : Expansion) (ctls : List LinedCtl) (c : LinedCtl) → expanded_all x (ctls ++ c ∷ []) ≡ expanded (expanded_all x ctls) c.ctl
expanded-snoc x ctls c = expanded-append x ctls (c ∷ [])

-- without lanes all lines are expanded
pub expansion-plain : (above : Above) → above.lane_count ≡ 0 → expansion_of above ≡ expanded_all (opened above) above.ctls
expansion-plain above e = ap (λ (n : ℕ). cond (n == 0) (expanded_all (opened above) above.ctls) (record (opened above) { ctls = lines_as_they_are above.ctls })) e

-- with lanes they stay as they are
pub expansion-lanes : (above : Above) (last : ℕ) → above.lane_count ≡ suc last → expansion_of above ≡ record (opened above) { ctls = lines_as_they_are above.ctls }
expansion-lanes above last e =
    ap (λ (b : Bool). cond b (expanded_all (opened above) above.ctls) (record (opened above) { ctls = lines_as_they_are above.ctls })) (ap (λ (n : ℕ). n == 0) e ∙ eqb-suc-zero last)

-- ## what stays

declared-one : (x : Expansion) (ctl : ScriptCtl) → (expanded x ctl).known.declared ≡ x.known.declared
declared-one x (Run line) = refl
declared-one x (Until task acts) = refl

-- what is declared stays, whatever lines come
pub declared-still : (x : Expansion) (ctls : List LinedCtl) → (expanded_all x ctls).known.declared ≡ x.known.declared
declared-still x [] = refl
declared-still x (c ∷ ctls) = declared-still (expanded x c.ctl) ctls ∙ declared-one x c.ctl

pub modules-one : (x : Expansion) (ctl : ScriptCtl) → length (expanded x ctl).known.loaded ≡ length x.known.loaded
modules-one x (Run line) = loaded-size x.known line
modules-one x (Until task acts) = refl

-- the number of modules stays
pub modules-still : (x : Expansion) (ctls : List LinedCtl) → length (expanded_all x ctls).known.loaded ≡ length x.known.loaded
modules-still x [] = refl
modules-still x (c ∷ ctls) = modules-still (expanded x c.ctl) ctls ∙ modules-one x c.ctl

owns-by : (b : Between) (a : Bool) (c : Command) → length (own_by b a c) ≡ length b.own
owns-by b true (Register u) = refl
owns-by b true (Unregister u) = refl
owns-by b true (Filter u e) = refl
owns-by b true (Notrace u e) = length-set b.own u _
owns-by b true (Pid pids) = refl
owns-by b true (NoPid nopids) = refl
owns-by b true (Enable u) = refl
owns-by b true (Disable u) = refl
owns-by b true (MaxDepth depth) = refl
owns-by b false (Register u) = refl
owns-by b false (Unregister u) = refl
owns-by b false (Filter u e) = refl
owns-by b false (Notrace u e) = refl
owns-by b false (Pid pids) = refl
owns-by b false (NoPid nopids) = refl
owns-by b false (Enable u) = refl
owns-by b false (Disable u) = refl
owns-by b false (MaxDepth depth) = refl

owns-line : (b : Between) (line : ModuleLine) → length (own_after b line) ≡ length b.own
owns-line b (Plain c) = owns-by b (is_accepted (answer_to b (Plain c))) c
owns-line b (Load m) = refl
owns-line b (Unload m) = refl

owns-one : (x : Expansion) (ctl : ScriptCtl) → length (expanded x ctl).known.own ≡ length x.known.own
owns-one x (Run line) = owns-line x.known line
owns-one x (Until task acts) = refl

-- the number of own sets stays
pub owns-still : (x : Expansion) (ctls : List LinedCtl) → length (expanded_all x ctls).known.own ≡ length x.known.own
owns-still x [] = refl
owns-still x (c ∷ ctls) = owns-still (expanded x c.ctl) ctls ∙ owns-one x c.ctl

-- ## commands among lines

-- the commands of lines and of more lines
pub commands-append : (ctls more : List Ctl) → commands_in (ctls ++ more) ≡ commands_in ctls ++ commands_in more
commands-append [] more = refl
commands-append (RunCommand c ∷ ctls) more = ap (λ (cs : List Command). c ∷ cs) (commands-append ctls more)
commands-append (UntilActs t n ∷ ctls) more = commands-append ctls more

-- the commands of lines that are commands alone
pub commands-runs : (cs : List Command) → commands_in (runs_of cs) ≡ cs
commands-runs [] = refl
commands-runs (c ∷ cs) = ap (λ (xs : List Command). c ∷ xs) (commands-runs cs)

pub count-runs : (ctls : List Ctl) (cs : List Command) → length (commands_in (ctls ++ runs_of cs)) ≡ length (commands_in ctls) + length cs
count-runs ctls cs = ap length (commands-append ctls (runs_of cs)) ∙ length-append (commands_in ctls) (commands_in (runs_of cs))
    ∙ ap (λ (xs : List Command). length (commands_in ctls) + length xs) (commands-runs cs)

pub count-wait : (ctls : List Ctl) (t n : ℕ) → length (commands_in (ctls ++ UntilActs t n ∷ [])) ≡ length (commands_in ctls)
count-wait [] t n = refl
count-wait (RunCommand c ∷ ctls) t n = ap suc (count-wait ctls t n)
count-wait (UntilActs s m ∷ ctls) t n = count-wait ctls t n

-- ## how many commands there are

counted-one : (x : Expansion) (ctl : ScriptCtl) → x.known.commands ≡ length (commands_in x.ctls)
    → (expanded x ctl).known.commands ≡ length (commands_in (expanded x ctl).ctls)
counted-one x (Run line) e = ap (λ n. n + length (commands_for x.known line)) e ∙ sym (count-runs x.ctls (commands_for x.known line))
counted-one x (Until task acts) e = e ∙ sym (count-wait x.ctls task acts)

-- if the commands that are known are those in the lines, so they are after more lines
pub counted-all : (x : Expansion) (ctls : List LinedCtl) → x.known.commands ≡ length (commands_in x.ctls)
    → (expanded_all x ctls).known.commands ≡ length (commands_in (expanded_all x ctls).ctls)
counted-all x [] e = e
counted-all x (c ∷ ctls) e = counted-all (expanded x c.ctl) ctls (counted-one x c.ctl e)

-- so they are before the first line
pub counted-first : (above : Above) → (opened above).known.commands ≡ length (commands_in (opened above).ctls)
counted-first above = sym (ap length (commands-runs (opening_of (declarations_of above) (opened above).known.first)))

-- the commands that are known are those in the lines
pub counted : (above : Above) → above.lane_count ≡ 0 → (expansion_of above).known.commands ≡ command_count above
counted above e =
    subst (λ (x : Expansion). x.known.commands ≡ length (commands_in x.ctls)) (sym (expansion-plain above e)) (counted-all (opened above) above.ctls (counted-first above))

-- a command, a load or an unload has a command of its own
pub commands-some : (b : Between) (line : ModuleLine) → 1 ≤ length (commands_for b line)
commands-some b (Plain c) = omega arith
commands-some b (Load m) = omega (arith, length_push (masks_for b (is_accepted (answer_to b (Load m))) (loaded_after b (Load m))) (MaxDepth b.desk.depth))
commands-some b (Unload m) = omega (arith, length_push (masks_for b (is_accepted (answer_to b (Unload m))) (loaded_after b (Unload m))) (MaxDepth b.desk.depth))

-- counts never fall
pub counts-grow : (x : Expansion) (ctl : ScriptCtl) → x.known.commands ≤ (expanded x ctl).known.commands
counts-grow x (Run line) = omega arith
counts-grow x (Until task acts) = omega arith

-- ## the opening

-- one mask for each own set
pub count-masks : (u : ℕ) (owns : List Marks) (h : Marks) → length (masks_from u owns h) ≡ length owns
count-masks u [] h = refl
count-masks u (own ∷ owns) h = ap suc (count-masks (suc u) owns h)

count-opening : (d : Declared) (h : Marks) → length (commands_in (runs_of (opening_of d (Some h)))) ≡ length d.specs
count-opening d h = ap length (commands-runs (opening_of d (Some h))) ∙ count-masks 0 (replicate (length d.specs) (empty d.funcs)) h
    ∙ length-replicate {A = Marks} (length d.specs) (empty d.funcs)

few-by : (d : Declared) (first : Option Marks) → length (commands_in (runs_of (opening_of d first))) ≤ length d.specs
few-by d None = omega arith
few-by d (Some h) = omega (arith, count-opening d h)

-- with no line of control there are the opening's commands alone, at most one for each user
pub opening-few : (above : Above) → length (commands_in (opened above).ctls) ≤ length above.users
opening-few above = omega (arith, few-by (declarations_of above) (opened above).known.first, length-map above.users bare)

-- if no module is absent there is none
pub opening-none : (above : Above) → above.absent ≡ [] → (opened above).ctls ≡ []
opening-none above e = ap (λ (absent : List ℕ). runs_of (opening_of (declarations_of above) (at_first (declarations_of above) above.functions absent).first)) e

each-by : (d : Declared) (functions : List Func) (absent : List ℕ) → absent ≢ [] → length (commands_in (runs_of (opening_of d (at_first d functions absent).first))) ≡ length d.specs
each-by d functions [] some = absurd (some refl)
each-by d functions (m ∷ ms) some = count-opening d (hidden (owners_of functions) (loaded_at_first (length (modules_in functions)) (m ∷ ms)))

-- if some module is absent there is one for each user
pub opening-each : (above : Above) → above.absent ≢ [] → length (commands_in (opened above).ctls) ≡ length above.users
opening-each above some = each-by (declarations_of above) above.functions above.absent some ∙ length-map above.users bare
