-- What a reader keeps beside what is declared: the absent modules, the names of all modules, and what the lines of control come to.
use Rattle.std.proofs.Common.{◌≡◌, ◌≢◌, ℕ, zero, suc, ◌+◌, ◌^◌, ◌<◌, ◌≤◌, ◌⊎◌, inl, inr, true, false, List, [], ◌∷◌, ◌++◌, length, map, Option, Some, None, is_some, refl, sym, ap, ap₂, ◌∙◌, subst, arith}
use Rattle.std.specs.Prelude.{IfSome, unwrap_or, nat_lt}
use Rattle.std.specs.List.{AllByRecursion as Each}
use Rattle.std.proofs.lemmas.Bool.Decides.{nat_tests}
use Rattle.ft_base.proofs.Small.{Each-snoc}
use Rattle.ft_base.proofs.Versions.{few-largest}
use Rattle.ft_base.specs.declared.limits.TheConstants.{COMMANDS}
use Rattle.ft_base.specs.Job.{Spec, Ctl as PlainCtl, ModuleRow}
use Rattle.ft_base.specs.Versions.{limits_of}
use Rattle.word_map.specs.declared.shape.Shape.{Shape}
use Rattle.word_map.specs.Shapes.{IsShape}
use Rattle.user_specs.specs.Plain.{spec_of}
use Rattle.ft_desk.specs.Declarations.{Declared, bare, declared_by}
use Rattle.ft_desk.specs.Lines.{lines_of}
use Rattle.ft_job.specs.Plans.{row_of, IsModule}
use Rattle.func_table.specs.Modules.{modules_in}
use Rattle.module_table.specs.Lines.{Between, Plain, Load, Unload, Line as ModuleLine, at_first, opening_of}
use Rattle.module_table.specs.Made.{line_of}
use Rattle.module_table.specs.Reached.{IsLineIn}
use Rattle.module_table.proofs.ListLaws.{length-loaded}
use Rattle.script_waits.specs.Tasks.{lined_task}
use Rattle.ft_script.specs.declared.reader.Reader.{Reader}
use Rattle.ft_script.specs.declared.declaration.ScriptCtl.{ScriptCtl as KeptCtl}
use Rattle.ft_script.specs.declared.declaration.ScriptCtl.TheVariants.{Run as KeptRun, Until as KeptUntil}
use Rattle.ft_script.specs.declared.expansion.Expansion.{Expansion as KeptExpansion}
use Rattle.ft_script.specs.declared.declaration.Declaration.{Declaration as KeptDeclaration}
use Rattle.ft_script.specs.declared.declaration.Declaration.TheVariants.{Ctl as KeptCtlLine}
use Rattle.ft_script.specs.Above.{Above, ScriptCtl, Run, Until, LinedCtl, slots_of, lanes_with, with_ctl, with_what, Declaration, a_version, a_function, some_slots, an_absence, a_user, a_task, an_act, a_lane, a_ctl}
use Rattle.ft_script.specs.Expansion.{Expansion, declarations_of, runs_of, opened, expanded, expanded_all, expansion_of, command_count}
use Rattle.ft_script.specs.Causes.{has_too_many_commands}
use Rattle.ft_script.specs.Within.{IsWithinLimits, IsInOrder}
use Rattle.ft_script.specs.Holds.{IsLine, IsPlain}
use Rattle.ft_script.specs.LineConditions.{FitsAs, IsWhereItMay}
use Rattle.ft_script.specs.ReaderInvariant.{above_of, declaration_of, lined_ctl, script_ctl_of, expansion_in, HasExpansion, IsCtlIn, ReaderInvariant, IsOpen, IsOther, KeepsRest, names_with}
use Rattle.ft_script.proofs.LookUps.{mapped_length, mapped_twice}
use Rattle.ft_script.proofs.Expanding.{expanded-snoc, expansion-plain, declared-still, modules-still, counted}

-- ## small facts

map-none : {X Y : Type 0} (f : X → Y) (xs : List X) → map f xs ≡ [] → xs ≡ []
map-none f [] e = refl
map-none f (x ∷ xs) e = absurd cc

none-counted : {X : Type 0} (xs : List X) → length xs ≡ 0 → xs ≡ []
none-counted [] e = refl
none-counted (x ∷ xs) e = absurd (omega (arith, e))

none-or-some : (n : ℕ) → (n ≡ 0) ⊎ (n ≢ 0)
none-or-some zero = inl refl
none-or-some (suc n) = inr (λ e. absurd (omega (arith, e)))

-- what there is only where there are no lanes isn't there where there are some
only-without : {X : Type 0} (P : X → Type 0) (n : ℕ) (x : Option X) → n ≢ 0 → IfSome x (λ y. (n ≡ 0) × P y) → x ≡ None
only-without P n None some h = refl
only-without P n (Some y) some h = absurd (some h.0)

pub without : {X : Type 0} (x : Option X) → is_some x ≡ false → x ≡ None
without None e = refl
without (Some y) e = absurd cc

-- names that there are
pub names-so : (names : Option (List (List ℕ))) (all : List (List ℕ)) → is_some names ≡ true → IfSome names (λ n. n ≡ all) → names ≡ Some all
names-so None all e h = absurd cc
names-so (Some n) all e h = ap (λ x. Some x) h

-- a number that may be said, or the limit, is within the limit
pub said-most : (limit : ℕ) (said : Option ℕ) → unwrap_or said 0 ≤ limit → unwrap_or said limit ≤ limit
said-most limit None h = omega arith
said-most limit (Some n) h = h

-- ## what is kept, by what is declared

-- what is kept if this is declared: names of modules, and what the lines of control come to
record ReaderPartsFor (above : Above) (names : Option (List (List ℕ))) (x : Option KeptExpansion) : Type 0 where
  absent' : Each (IsModule above.functions) above.absent
  names' : IfSome names (λ n. n ≡ modules_in above.functions)
  expansion : IfSome x (λ y. (above.lane_count ≡ 0) × (expansion_in (length above.tasks) y ≡ expansion_of above))
  none : above.lane_count ≡ 0 → x ≡ None → above.ctls ≡ []
  some : above.ctls ≡ [] → x ≡ None
  lanes' : above.lane_count ≡ 0 → above.lanes ≡ []
  plain : above.lane_count ≢ 0 → Each (λ c. IsPlain c.ctl) above.ctls

module _ (r : Reader) where
  -- the program's tasks are as many as those of the definitions
  counted-tasks : (P : ℕ → Type 0) → P (length r.tasks.items) → P (length (above_of r).tasks)
  counted-tasks P h = subst P (sym (mapped_length lined_task r.tasks.items)) h

  has-as : HasExpansion r → IfSome r.expansion (λ y. (r.lane_count ≡ 0) × (expansion_in (length (above_of r).tasks) y ≡ expansion_of (above_of r)))
  has-as h = counted-tasks (λ n. IfSome r.expansion (λ y. (r.lane_count ≡ 0) × (expansion_in n y ≡ expansion_of (above_of r)))) h

  as-has : IfSome r.expansion (λ y. (r.lane_count ≡ 0) × (expansion_in (length (above_of r).tasks) y ≡ expansion_of (above_of r))) → HasExpansion r
  as-has h = subst (λ n. IfSome r.expansion (λ y. (r.lane_count ≡ 0) × (expansion_in n y ≡ expansion_of (above_of r)))) (mapped_length lined_task r.tasks.items) h

  kept-as : ReaderInvariant r → ReaderPartsFor (above_of r) r.names r.expansion
  kept-as k = record {
    absent' = k.absent;
    names' = k.names;
    expansion = has-as k.expansion;
    none = λ l e. ap (map (lined_ctl (length r.tasks.items))) (k.none l e);
    some = λ e. k.some (map-none (lined_ctl (length r.tasks.items)) r.ctls.items e);
    lanes' = k.lanes;
    plain = k.plain;
  }

  as-kept : ReaderPartsFor (above_of r) r.names r.expansion → ReaderInvariant r
  as-kept k = record {
    absent = k.absent';
    names = k.names';
    expansion = as-has k.expansion;
    none = λ l e. map-none (lined_ctl (length r.tasks.items)) r.ctls.items (k.none l e);
    some = λ e. k.some (ap (map (lined_ctl (length r.tasks.items))) e);
    lanes = k.lanes';
    plain = k.plain;
  }

-- ## a line that isn't one of control

module _ (above : Above) (names : Option (List (List ℕ))) (x : Option KeptExpansion) (k : ReaderPartsFor above names x) where
  -- what comes before each line of control
  before-lines : (P : KeptExpansion → Type 0) → above.ctls ≡ [] → IfSome x P
  before-lines P none = subst (λ o. IfSome o P) (sym (k.some none)) tt

  -- a first lane comes before each line of control
  first-lane : length above.lanes ≡ length above.ctls → above.lane_count ≡ 0 → above.ctls ≡ []
  first-lane each none = none-counted above.ctls (sym each ∙ ap length (k.lanes' none))

  lane-alone : length above.lanes ≡ length above.ctls → x ≡ None
  lane-alone each = elim (none-or-some above.lane_count) [
    | inl none ↦ k.some (first-lane each none)
    | inr some ↦ only-without (λ (y : KeptExpansion). expansion_in (length above.tasks) y ≡ expansion_of above) above.lane_count x some k.expansion
  ]

  lane-plain : length above.lanes ≡ length above.ctls → Each (λ (c : LinedCtl). IsPlain c.ctl) above.ctls
  lane-plain each = elim (none-or-some above.lane_count) [
    | inl none ↦ subst (Each (λ (c : LinedCtl). IsPlain c.ctl)) (sym (first-lane each none)) tt
    | inr some ↦ k.plain some
  ]

  -- the names of modules are those of the functions still
  names-declared : (what : Declaration) → IfSome (names_with what names) (λ (n : List (List ℕ)). n ≡ modules_in (with_what above what).functions)
  names-declared (a_function function) = tt
  names-declared what = k.names'

  -- what comes before each line of control leaves what is kept
  early : (what : Declaration) → above.ctls ≡ [] → (with_what above what).ctls ≡ above.ctls → (with_what above what).lane_count ≡ above.lane_count → (with_what above what).lanes ≡ above.lanes
      → Each (IsModule (with_what above what).functions) (with_what above what).absent → ReaderPartsFor (with_what above what) (names_with what names) x
  early what none ctls count lanes absent = record {
    absent' = absent;
    names' = names-declared what;
    expansion = before-lines (λ (y : KeptExpansion). ((with_what above what).lane_count ≡ 0) × (expansion_in (length (with_what above what).tasks) y ≡ expansion_of (with_what above what))) none;
    none = λ l e. ctls ∙ none;
    some = λ e. k.some none;
    lanes' = λ l. lanes ∙ k.lanes' (sym count ∙ l);
    plain = λ l. subst (Each (λ (c : LinedCtl). IsPlain c.ctl)) (sym (ctls ∙ none)) tt;
  }

  kept-declared : IsInOrder above → (what : Declaration) → FitsAs above what → IsOther what → ReaderPartsFor (with_what above what) (names_with what names) x
  kept-declared order (a_version number) f other = early (a_version number) (ap (λ (a : Above). a.ctls) (order.first f.0)) refl refl refl k.absent'
  kept-declared order (a_function function) f other = early (a_function function) f.before refl refl refl (subst (Each (IsModule (above.functions ++ function ∷ []))) (sym f.first) tt)
  kept-declared order (some_slots count) f other = early (some_slots count) f.before refl refl refl k.absent'
  kept-declared order (an_absence owner) f other = early (an_absence owner) f.before refl refl refl (Each-snoc (IsModule above.functions) above.absent owner k.absent' f.there)
  kept-declared order (a_user user) f other = early (a_user user) f.before refl refl refl k.absent'
  kept-declared order (a_task pid cpu) f other = early (a_task pid cpu) f.before refl refl refl k.absent'
  kept-declared order (an_act act) f other = early (an_act act) f.before refl refl refl k.absent'
  kept-declared order a_lane f other = record {
    absent' = k.absent';
    names' = k.names';
    expansion = subst (λ o. IfSome o (λ (y : KeptExpansion). (suc above.lane_count ≡ 0) × (expansion_in (length above.tasks) y ≡ expansion_of (with_what above a_lane)))) (sym (lane-alone f.each)) tt;
    none = λ l e. absurd (omega (arith, l));
    some = k.some;
    lanes' = λ l. absurd (omega (arith, l));
    plain = λ l. lane-plain f.each;
  }
  kept-declared order (a_ctl ctl) f other = absurd other
  kept-declared order what f other = record { absent' = k.absent'; names' = k.names'; expansion = k.expansion; none = k.none; some = k.some; lanes' = k.lanes'; plain = k.plain }

-- a reader keeps what it does, once something else than a line of control is declared
pub kept-other : (old new : Reader) → ReaderInvariant old → IsInOrder (above_of old) → (what : Declaration) → FitsAs (above_of old) what → IsOther what → above_of new ≡ with_what (above_of old) what
    → new.names ≡ names_with what old.names → new.expansion ≡ old.expansion → ReaderInvariant new
kept-other old new k order what f other is names same =
    let all = kept-declared (above_of old) old.names old.expansion (kept-as old k) order what f other in
    as-kept new (subst (λ (a : Above). ReaderPartsFor a new.names new.expansion) (sym is)
    (subst (λ (n : Option (List (List ℕ))). ReaderPartsFor (with_what (above_of old) what) n new.expansion) (sym names) (subst (ReaderPartsFor (with_what (above_of old) what) (names_with what old.names)) (sym same) all)))

-- what isn't a line of control brings no commands
pub other-few : (above : Above) (what : Declaration) → IsOther what → has_too_many_commands above what ≡ false
other-few above (a_ctl ctl) other = absurd other
other-few above what other = refl

-- the number of the last line and its rank make no difference
pub kept-renumbered : (old new : Reader) → ReaderInvariant old → new.expansion ≡ old.expansion → new.names ≡ old.names
    → above_of new ≡ record (above_of old) { lines = new.lines; rank = new.rank } → ReaderInvariant new
kept-renumbered old new k same names is =
    let all = kept-as old k in
    let moved : ReaderPartsFor (record (above_of old) { lines = new.lines; rank = new.rank }) old.names old.expansion
    = record { absent' = all.absent'; names' = all.names'; expansion = all.expansion; none = all.none; some = all.some; lanes' = all.lanes'; plain = all.plain } in
    as-kept new (subst (λ (a : Above). ReaderPartsFor a new.names new.expansion) (sym is)
    (subst (λ (n : Option (List (List ℕ))). ReaderPartsFor (record (above_of old) { lines = new.lines; rank = new.rank }) n new.expansion) (sym names)
    (subst (ReaderPartsFor (record (above_of old) { lines = new.lines; rank = new.rank }) old.names) (sym same) moved)))

-- ## a line of control

-- one more line comes to one more step
expansion-more : (above : Above) (ctl : ScriptCtl) → above.lane_count ≡ 0 → expansion_of (with_ctl above ctl) ≡ expanded (expansion_of above) ctl
expansion-more above ctl none =
    expansion-plain (with_ctl above ctl) none ∙ expanded-snoc (opened above) above.ctls (record { ctl = ctl; line = suc above.lines }) ∙ ap (λ (y : Expansion). expanded y ctl) (sym (expansion-plain above none))

-- a line of control in a script with lanes is a command
is-plain : (above : Above) (ctl : ScriptCtl) → IsWhereItMay above ctl → above.lane_count ≢ 0 → IsPlain ctl
is-plain above (Run (Plain command)) may some = tt
is-plain above (Run (Load m)) may some = absurd (some may)
is-plain above (Run (Unload m)) may some = absurd (some may)
is-plain above (Until task acts) may some = absurd (some may)

no-lane : (count : ℕ) (lanes : List ℕ) → count ≡ 0 → lanes ≡ [] → lanes_with count lanes ≡ []
no-lane zero lanes none e = e
no-lane (suc last) lanes none e = absurd (omega (arith, none))

one-is-some : {X : Type 0} (xs : List X) (x : X) → xs ++ x ∷ [] ≡ [] → ⊥
one-is-some [] x e = absurd cc
one-is-some (y ∷ ys) x e = absurd cc

expanded-as : (above : Above) (ctl : ScriptCtl) (tasks : ℕ) (x : Option KeptExpansion) → IfSome x (λ (y : KeptExpansion). (above.lane_count ≡ 0) × (expansion_in tasks y ≡ expanded (expansion_of above) ctl))
    → IfSome x (λ (y : KeptExpansion). (above.lane_count ≡ 0) × (expansion_in tasks y ≡ expansion_of (with_ctl above ctl)))
expanded-as above ctl tasks None h = tt
expanded-as above ctl tasks (Some y) h = (h.0, h.1 ∙ sym (expansion-more above ctl h.0))

pub some-not-none : {X A : Type 0} (x : Option X) → is_some x ≡ true → x ≡ None → A
some-not-none None is none = absurd cc
some-not-none (Some y) is none = absurd cc

-- a reader keeps what it does, once there is one more line of control and what it comes to
pub kept-ctl : (old new : Reader) → ReaderInvariant old → (ctl : ScriptCtl) → IsWhereItMay (above_of old) ctl → above_of new ≡ with_ctl (above_of old) ctl → new.names ≡ old.names
    → IfSome new.expansion (λ (y : KeptExpansion). (old.lane_count ≡ 0) × (expansion_in (length old.tasks.items) y ≡ expanded (expansion_of (above_of old)) ctl))
    → (old.lane_count ≡ 0 → is_some new.expansion ≡ true) → ReaderInvariant new
kept-ctl old new k ctl may is names x some =
    let above = above_of old in
    let all = kept-as old k in
    let here : ReaderPartsFor (with_ctl above ctl) old.names new.expansion = record {
      absent' = all.absent';
      names' = all.names';
      expansion = expanded-as above ctl (length above.tasks) new.expansion
          (counted-tasks old (λ n. IfSome new.expansion (λ (y : KeptExpansion). (above.lane_count ≡ 0) × (expansion_in n y ≡ expanded (expansion_of above) ctl))) x);
      none = λ l e. some-not-none new.expansion (some l) e;
      some = λ e. absurd (one-is-some above.ctls _ e);
      lanes' = λ l. no-lane above.lane_count above.lanes l (all.lanes' l);
      plain = λ l. Each-snoc (λ (c : LinedCtl). IsPlain c.ctl) above.ctls _ (all.plain l) (is-plain above ctl may l);
    } in
    as-kept new (subst (λ (a : Above). ReaderPartsFor a new.names new.expansion) (sym is) (subst (λ (n : Option (List (List ℕ))). ReaderPartsFor (with_ctl above ctl) n new.expansion) (sym names) here))

-- ## before the first line of control

abbrev made : Between → List PlainCtl → List ModuleRow → List ℕ → Expansion
made known ctls rows ends = record { known = known; ctls = ctls; rows = rows; ends = ends }

module _ (r : Reader) where
  -- how many there are of each thing that has words in the machine
  abbrev pub shape_in : Shape
  shape_in = record { funcs = length r.functions.functions; users = length r.users.items; cpus = length r.quanta.items; tasks = length r.tasks.items; tramps = slots_of (above_of r) }

  pub is-shape : IsWithinLimits (above_of r) → IsShape shape_in
  is-shape w =
      let users = mapped_length spec_of r.users.items in
      let tasks = mapped_length lined_task r.tasks.items in
      record {
        counts = few-largest r.version (record {
          few_functions = w.counts.few_functions;
          few_users = subst (λ n. n ≤ (limits_of r.version).users) users w.counts.few_users;
          few_tasks = (let few = w.counts.few_tasks in omega (arith, tasks, few));
          few_tramps = said-most (limits_of r.version).tramps r.tramps w.counts.few_tramps;
        });
        few_cpus = w.few_cpus;
      }

  -- what a desk keeps of what is declared
  same-declared : declared_by r.users.items shape_in ≡ declarations_of (above_of r)
  same-declared = ap₂ (λ (specs : List Spec) (tasks : ℕ). record { specs = specs; funcs = length r.functions.functions; tasks = tasks; tramps = slots_of (above_of r) })
      (sym (mapped_twice bare spec_of r.users.items)) (sym (mapped_length lined_task r.tasks.items))

  -- what there is before the first line, as the program makes it
  pub opened-as : (x : KeptExpansion) → x.modules ≡ at_first (declared_by r.users.items shape_in) r.functions.functions r.absent.items
      → lines_of (length r.tasks.items) x.ctls.items ≡ runs_of (opening_of x.modules.declared x.modules.first) → x.rows.items ≡ [] → x.ends.items ≡ []
      → expansion_in (length r.tasks.items) x ≡ opened (above_of r)
  opened-as x modules ctls rows ends =
      let first : Between = at_first (declarations_of (above_of r)) r.functions.functions r.absent.items in
      let known : x.modules ≡ first = modules ∙ ap (λ (d : Declared). at_first d r.functions.functions r.absent.items) same-declared in
      let lines : lines_of (length r.tasks.items) x.ctls.items ≡ runs_of (opening_of first.declared first.first) = ctls ∙ ap (λ (b : Between). runs_of (opening_of b.declared b.first)) known in
      ap₂ (λ (b : Between) (cs : List PlainCtl). made b cs (map row_of x.rows.items) x.ends.items) known lines
      ∙ ap₂ (made first (runs_of (opening_of first.declared first.first))) (ap (map row_of) rows) ends

-- a reader whose control opens has what its lines come to
pub opened-has : (old new : Reader) → ReaderInvariant old → above_of new ≡ above_of old → old.lane_count ≡ 0 → old.expansion ≡ None → (x : KeptExpansion) → new.expansion ≡ Some x
    → expansion_in (length old.tasks.items) x ≡ opened (above_of old) → IsOpen new
opened-has old new k is none without x some opens =
    let empty : (above_of old).ctls ≡ [] = ap (map (lined_ctl (length old.tasks.items))) (k.none none without) in
    let all : expansion_in (length old.tasks.items) x ≡ expansion_of (above_of old)
    = opens ∙ ap (expanded_all (opened (above_of old))) (sym empty) ∙ sym (expansion-plain (above_of old) none) in
    let here : IfSome new.expansion (λ (y : KeptExpansion). ((above_of old).lane_count ≡ 0) × (expansion_in (length (above_of old).tasks) y ≡ expansion_of (above_of old)))
    = subst (λ o. IfSome o (λ (y : KeptExpansion). ((above_of old).lane_count ≡ 0) × (expansion_in (length (above_of old).tasks) y ≡ expansion_of (above_of old)))) (sym some)
    (none, counted-tasks old (λ n. expansion_in n x ≡ expansion_of (above_of old)) all) in
    let absent : Each (IsModule (above_of old).functions) (above_of old).absent = k.absent in
    record {
      absent = subst (λ (a : Above). Each (IsModule a.functions) a.absent) (sym is) absent;
      expansion = as-has new (subst (λ (a : Above). IfSome new.expansion (λ (y : KeptExpansion). (a.lane_count ≡ 0) × (expansion_in (length a.tasks) y ≡ expansion_of a))) (sym is) here);
      some = λ l. ap is_some some;
    }

-- where control is open already, or the script has lanes
pub kept-open : (old new : Reader) → ReaderInvariant old → above_of new ≡ above_of old → new.expansion ≡ old.expansion → (old.lane_count ≡ 0 → is_some old.expansion ≡ true) → IsOpen new
kept-open old new k is same some =
    let here : ReaderPartsFor (above_of new) old.names new.expansion = subst (λ (a : Above). ReaderPartsFor a old.names new.expansion) (sym is) (subst (ReaderPartsFor (above_of old) old.names) (sym same) (kept-as old k)) in
    record {
      absent = here.absent';
      expansion = as-has new here.expansion;
      some = λ l. subst (λ o. is_some o ≡ true) (sym same) (some (sym (ap (λ (a : Above). a.lane_count) is) ∙ l));
    }

-- ## a line of control names what is declared

line-in : (above : Above) (d : Declared) (modules : ℕ) → d ≡ declarations_of above → modules ≡ length (modules_in above.functions) → (line : ModuleLine) → IsLine above (Run line) → IsLineIn d modules line
line-in above d modules is count (Plain command) h =
    let users : length d.specs ≡ length above.users = ap (λ (x : Declared). length x.specs) is ∙ mapped_length bare above.users in
    let funcs : d.funcs ≡ length above.functions = ap (λ (x : Declared). x.funcs) is in
    rw (users, funcs) (h.0, h.1)
line-in above d modules is count (Load m) h = subst (λ n. m < n) (sym count) h
line-in above d modules is count (Unload m) h = subst (λ n. m < n) (sym count) h

-- what is known after all lines is of what is declared
known-declared : (above : Above) → above.lane_count ≡ 0 → (expansion_of above).known.declared ≡ declarations_of above
known-declared above none = ap (λ (y : Expansion). y.known.declared) (expansion-plain above none) ∙ declared-still (opened above) above.ctls

known-modules : (above : Above) → above.lane_count ≡ 0 → length (expansion_of above).known.loaded ≡ length (modules_in above.functions)
known-modules above none =
    ap (λ (y : Expansion). length y.known.loaded) (expansion-plain above none) ∙ modules-still (opened above) above.ctls ∙ length-loaded (length (modules_in above.functions)) above.absent

module _ (r : Reader) (x : KeptExpansion) (none : r.lane_count ≡ 0) (has : expansion_in (length r.tasks.items) x ≡ expansion_of (above_of r)) where
  declared-in : x.modules.declared ≡ declarations_of (above_of r)
  declared-in = ap (λ (y : Expansion). y.known.declared) has ∙ known-declared (above_of r) none

  modules-in : length x.modules.loaded ≡ length (modules_in r.functions.functions)
  modules-in = ap (λ (y : Expansion). length y.known.loaded) has ∙ known-modules (above_of r) none

  pub tasks-in : x.modules.declared.tasks ≡ length r.tasks.items
  tasks-in = ap (λ (d : Declared). d.tasks) declared-in ∙ mapped_length lined_task r.tasks.items

  pub ctl-in : (ctl : KeptCtl) → IsLine (above_of r) (script_ctl_of (length r.tasks.items) ctl) → IsCtlIn x ctl
  ctl-in (KeptRun line) h =
      subst (λ n. IsLineIn x.modules.declared (length x.modules.loaded) (line_of n line)) (sym tasks-in) (line-in (above_of r) x.modules.declared (length x.modules.loaded) declared-in modules-in (line_of (length r.tasks.items) line) h)
  ctl-in (KeptUntil task acts) h = tt

  -- one more line of control comes to one more step
  pub expanded-in : (ctl : KeptCtl) (new : KeptExpansion)
      → expansion_in x.modules.declared.tasks new ≡ expanded (expansion_in x.modules.declared.tasks x) (script_ctl_of x.modules.declared.tasks ctl)
      → expansion_in (length r.tasks.items) new ≡ expanded (expansion_of (above_of r)) (script_ctl_of (length r.tasks.items) ctl)
  expanded-in ctl new e =
      subst (λ n. expansion_in n new ≡ expanded (expansion_in n x) (script_ctl_of n ctl)) tasks-in e ∙ ap (λ (y : Expansion). expanded y (script_ctl_of (length r.tasks.items) ctl)) has

  users-in : length x.modules.declared.specs ≡ length r.users.items
  users-in = ap (λ (d : Declared). length d.specs) declared-in ∙ mapped_length bare (map spec_of r.users.items) ∙ mapped_length spec_of r.users.items

-- ## once control is open

module _ (old new : Reader) (is : above_of new ≡ above_of old) (x : KeptExpansion) (opens : IsOpen new) (some : new.expansion ≡ Some x) where
  same-tasks : length new.tasks.items ≡ length old.tasks.items
  same-tasks = sym (mapped_length lined_task new.tasks.items) ∙ ap (λ (a : Above). length a.tasks) is ∙ mapped_length lined_task old.tasks.items

  here : (old.lane_count ≡ 0) × (expansion_in (length old.tasks.items) x ≡ expansion_of (above_of old))
  here =
      let h = subst (λ o. IfSome o (λ (y : KeptExpansion). (new.lane_count ≡ 0) × (expansion_in (length new.tasks.items) y ≡ expansion_of (above_of new)))) some opens.expansion in
      (sym (ap (λ (a : Above). a.lane_count) is) ∙ h.0, subst (λ n. expansion_in n x ≡ expansion_of (above_of new)) same-tasks h.1 ∙ ap expansion_of is)

  pub open-line : (ctl : KeptCtl) → IsLine (above_of old) (script_ctl_of (length old.tasks.items) ctl) → IsCtlIn x ctl
  open-line ctl h = ctl-in old x here.0 here.1 ctl h

  pub open-room : IsWithinLimits (above_of old) → x.modules.commands + length x.modules.declared.specs + 1 < 2 ^ 32
  open-room w =
      let commands = ap (λ (y : Expansion). y.known.commands) here.1 ∙ counted (above_of old) here.0 in
      let users = users-in old x here.0 here.1 in
      let few = w.few_commands in
      let few-users = (is-shape old w).counts.few_users in
      omega (arith, commands, users, few, few-users)

  pub open-step : (ctl : KeptCtl) (next : KeptExpansion)
      → expansion_in x.modules.declared.tasks next ≡ expanded (expansion_in x.modules.declared.tasks x) (script_ctl_of x.modules.declared.tasks ctl)
      → (old.lane_count ≡ 0) × (expansion_in (length old.tasks.items) next ≡ expanded (expansion_of (above_of old)) (script_ctl_of (length old.tasks.items) ctl))
  open-step ctl next e = (here.0, expanded-in old x here.0 here.1 ctl next e)

-- ## a line of control is added

module _ (old mid new : Reader) (k : ReaderInvariant old) (same : above_of mid ≡ above_of old) (ctl : KeptCtl)
    (pushed : above_of new ≡ with_ctl (above_of mid) (script_ctl_of (length mid.tasks.items) ctl)) (rest : KeepsRest mid new) where
  tasks-stay : length mid.tasks.items ≡ length old.tasks.items
  tasks-stay = sym (mapped_length lined_task mid.tasks.items) ∙ ap (λ (a : Above). length a.tasks) same ∙ mapped_length lined_task old.tasks.items

  pub pushed-as : above_of new ≡ with_ctl (above_of old) (script_ctl_of (length old.tasks.items) ctl)
  pushed-as = pushed ∙ ap₂ (λ (a : Above) (n : ℕ). with_ctl a (script_ctl_of n ctl)) same tasks-stay

  pub added-kept : IsWhereItMay (above_of old) (script_ctl_of (length old.tasks.items) ctl) → mid.names ≡ old.names
      → IfSome mid.expansion (λ (y : KeptExpansion). (old.lane_count ≡ 0) × (expansion_in (length old.tasks.items) y ≡ expanded (expansion_of (above_of old)) (script_ctl_of (length old.tasks.items) ctl)))
      → (old.lane_count ≡ 0 → is_some mid.expansion ≡ true) → ReaderInvariant new
  added-kept may names x some =
      kept-ctl old new k (script_ctl_of (length old.tasks.items) ctl) may pushed-as (rest.names ∙ names)
      (subst (λ o. IfSome o (λ (y : KeptExpansion). (old.lane_count ≡ 0) × (expansion_in (length old.tasks.items) y ≡ expanded (expansion_of (above_of old)) (script_ctl_of (length old.tasks.items) ctl)))) (sym rest.expansion) x)
      (λ l. ap is_some rest.expansion ∙ some l)

few-tested : (limit count : ℕ) → count ≤ limit → nat_lt limit count ≡ false
few-tested limit count few = grind (arith, nat_tests)

-- the commands that were counted aren't too many
pub few-commands : (above after : Above) (ctl : ScriptCtl) (count : ℕ) → count ≡ command_count after → after ≡ with_ctl above ctl → count ≤ COMMANDS → has_too_many_commands above (a_ctl ctl) ≡ false
few-commands above after ctl count is same few = ap (nat_lt COMMANDS) (sym (is ∙ ap command_count same)) ∙ few-tested COMMANDS count few

-- what is no line of control
pub is-other : (tasks : ℕ) (what : KeptDeclaration) → ((ctl : KeptCtl) → what ≡ KeptCtlLine ctl → ⊥) → IsOther (declaration_of tasks what)
is-other tasks (KeptCtlLine ctl) not-ctl = absurd (not-ctl ctl refl)
is-other tasks what not-ctl = tt
