-- No line of an accepted script may find a module unloaded. So the calls of its job are covered, and its users stay out of the modules that
-- come and go; and in a script with lanes there are none.
use Rattle.std.proofs.Common.{◌≡◌, ◌≢◌, ℕ, zero, suc, ◌||◌, Bool, true, List, [], ◌∷◌, map, slice_get, Option, Some, None, refl, sym, ap, ◌∙◌, subst, arith}
use Rattle.std.specs.Prelude.{IfSome}
use Rattle.std.specs.List.{AllByRecursion as Each}
use Rattle.std.proofs.lemmas.Option.{slice_get-get_or, slice_get_within}
use Rattle.ft_base.specs.declared.item.Item.{Item}
use Rattle.ft_base.specs.declared.number.FuncNo.{FuncNo}
use Rattle.ft_base.specs.declared.user.Act.{Act}
use Rattle.ft_base.specs.declared.user.Act.TheVariants.{CallIn, IrqIn}
use Rattle.ft_base.specs.Job.{Job, Spec, Ctl}
use Rattle.ft_base.proofs.Small.{or-true}
use Rattle.ft_hist.specs.Rules.{IsLegal}
use Rattle.module_coverage.specs.Covered.{AreCovered, IsInChanging}
use Rattle.module_coverage.specs.Plan.{ModulePlan}
use Rattle.module_coverage.specs.Reading.{wait_of, changes_of}
use Rattle.module_coverage.specs.Spans.{waits_in}
use Rattle.module_coverage.proofs.Known.{call-is, none-left}
use Rattle.module_coverage.specs.Apart.{IsActApart, AreActsApart, AreReplacementsApart}
use Rattle.module_coverage.specs.Found.{KeepsLoaded, RunsLoaded}
use Rattle.module_coverage.proofs.FoundCalls.{keeps, runs}
use Rattle.script_waits.specs.declared.script.ControlLine.{ControlLine}
use Rattle.script_waits.specs.declared.script.Wait.{Wait}
use Rattle.script_waits.specs.Tasks.{tracks_of}
use Rattle.module_table.specs.Lines.{owners_of}
use Rattle.ft_script.specs.Above.{Above}
use Rattle.ft_script.specs.Expansion.{expansion_of}
use Rattle.ft_script.specs.Script.{declared_in, job_of, job_tasks_of, called_by, is_named_module, lies_in_named, needs_named, MayFindUnloaded, user_may, call_may, IsJobOf}
use Rattle.ft_script.specs.Holds.{LanesHold, Holds}
use Rattle.ft_script.proofs.JobLines.{lanes-carried}
use Rattle.ft_script.proofs.Coverage.{is-known, call-of_script}
use Rattle.script_jobs.proofs.Texts.{can_run}

-- ## calls

-- a line of control for those that wait
abbrev a_line : Ctl → ControlLine
a_line ctl = record { wait = wait_of ctl; line = 0 }

waits-same : (ctls : List Ctl) → map wait_of ctls ≡ waits_in (map a_line ctls)
waits-same [] = refl
waits-same (ctl ∷ ctls) = ap (λ (rest : List Wait). wait_of ctl ∷ rest) (waits-same ctls)

module _ (above : Above) where
  -- all lines of control of the job, and what is known of its modules
  abbrev control : List ControlLine
  control = map a_line (expansion_of above).ctls

  abbrev plan : ModulePlan
  plan = record { owners = owners_of above.functions; absent = above.absent; changes = changes_of (expansion_of above).rows }

  -- if no line may find a module unloaded, each call of the job is covered
  covered : ((n : ℕ) → MayFindUnloaded above n → ⊥) → AreCovered (job_of above)
  covered none =
      let known = is-known above control plan (waits-same (expansion_of above).ctls) refl refl refl in
      let tracks = tracks_of (job_tasks_of above) in
      none-left (job_of above) tracks control plan known (λ n line. none n (call_may (call-of_script above n (call-is (job_of above) tracks control plan known n line))))

-- ## users

-- what holds of each element by its place holds of all
by-places : {X : Type 0} (P : X → Type 0) (xs : List X) → ((i : ℕ) (x : X) → slice_get xs i ≡ Some x → P x) → Each P xs
by-places P [] h = tt
by-places P (x ∷ xs) h = (h 0 x refl, by-places P xs (λ i y e. h (suc i) y e))

-- a function in a changing module is in one that lines name
is-named : (job : Job) (f : FuncNo) → IsInChanging job f.0 → lies_in_named job (Some f) ≡ true
is-named job f in' = ap (is_named_module job.lines) in'.1 ∙ in'.2

module _ (above : Above) (h : Holds above) (none : (n : ℕ) → MayFindUnloaded above n → ⊥) where
  abbrev job : Job
  job = job_of above

  -- no user needs a function of a module that lines name
  nobody : (u : ℕ) (s : Spec) → slice_get above.users u ≡ Some s → needs_named job s ≡ true → ⊥
  nobody u s at needs =
      let within = slice_get_within above.users u s at in
      let same = h.user_lines in
      none _ (user_may (record {
        number = u;
        spec = s;
        user = at;
        line = slice_get-get_or above.user_lines u 0 (omega (arith, within, same));
        needs = needs;
      }))

  act-apart : (u : ℕ) (s : Spec) → slice_get above.users u ≡ Some s → (act : Option Act) → s.act ≡ act → IsActApart job act
  act-apart u s at None is = tt
  act-apart u s at (Some (CallIn f)) is = λ in'. nobody u s at
      (ap (λ (a : Option Act). lies_in_named job (called_by a) || lies_in_named job s.ipmodify) is ∙ ap (λ (b : Bool). b || lies_in_named job s.ipmodify) (is-named job f in'))
  act-apart u s at (Some (IrqIn f)) is = λ in'. nobody u s at
      (ap (λ (a : Option Act). lies_in_named job (called_by a) || lies_in_named job s.ipmodify) is ∙ ap (λ (b : Bool). b || lies_in_named job s.ipmodify) (is-named job f in'))

  replacement-apart : (u : ℕ) (s : Spec) → slice_get above.users u ≡ Some s → (g : Option FuncNo) → s.ipmodify ≡ g → IfSome g (λ f. IsInChanging job f.0 → ⊥)
  replacement-apart u s at None is = tt
  replacement-apart u s at (Some g) is = λ in'. nobody u s at
      (ap (λ (b : Bool). lies_in_named job (called_by s.act) || b) (ap (lies_in_named job) is ∙ is-named job g in') ∙ or-true (lies_in_named job (called_by s.act)))

  acts-apart : AreActsApart job
  unfolding job_of
  acts-apart = by-places (λ (s : Spec). IsActApart job s.act) above.users (λ u s at. act-apart u s at s.act refl)

  replacements-apart : AreReplacementsApart job
  unfolding job_of
  replacements-apart = by-places (λ (s : Spec). IfSome s.ipmodify (λ g. IsInChanging job g.0 → ⊥)) above.users (λ u s at. replacement-apart u s at s.ipmodify refl)

  keeps-loaded : (items : List Item) → IsLegal job items → KeepsLoaded job items
  keeps-loaded items legal = keeps job acts-apart (covered above none) items legal

  runs-loaded : (items : List Item) → IsLegal job items → RunsLoaded job items
  runs-loaded items legal = runs job acts-apart (covered above none) replacements-apart items legal

-- ## accepted scripts

pub calls-loaded : (text : List ℕ) (j : Job) (items : List Item) → IsJobOf text j → IsLegal j items → KeepsLoaded j items
calls-loaded text j items is legal =
    subst (λ (j : Job). KeepsLoaded j items) (sym is.meaning)
    (keeps-loaded (declared_in text) (can_run text is.accepted).holds is.loaded items (subst (λ (j : Job). IsLegal j items) is.meaning legal))

pub bodies-loaded : (text : List ℕ) (j : Job) (items : List Item) → IsJobOf text j → IsLegal j items → RunsLoaded j items
bodies-loaded text j items is legal =
    subst (λ (j : Job). RunsLoaded j items) (sym is.meaning)
    (runs-loaded (declared_in text) (can_run text is.accepted).holds is.loaded items (subst (λ (j : Job). IsLegal j items) is.meaning legal))

-- ## scripts with lanes

-- no line names a module
abbrev NamesNone : Job → Type 0
NamesNone j = (j.lines.absent ≡ []) × (j.lines.modules ≡ [])

in-lanes : (above : Above) → Holds above → (count : ℕ) → above.lane_count ≡ count → LanesHold above count → above.lanes ≢ [] → NamesNone (job_of above)
unfolding job_of
in-lanes above h zero is lanes some = absurd (some lanes)
in-lanes above h (suc last) is lanes some = (lanes.loaded, (lanes-carried above last is h).0)

of-declared : (above : Above) → Holds above → (job_of above).lines.lanes ≢ [] → NamesNone (job_of above)
unfolding job_of
of-declared above h some = in-lanes above h above.lane_count refl h.lanes some

pub lanes-name-none : (text : List ℕ) (j : Job) → IsJobOf text j → j.lines.lanes ≢ [] → NamesNone j
lanes-name-none text j is some =
    subst NamesNone (sym is.meaning)
    (of-declared (declared_in text) (can_run text is.accepted).holds (subst (λ (j : Job). j.lines.lanes ≢ []) is.meaning some))
