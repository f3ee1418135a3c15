-- A line without a cause declares users and lines of control that name what is there, and numbers within their limits.
use Rattle.std.proofs.Common.{◌≡◌, ℕ, zero, suc, ◌+◌, ◌<◌, ◌≤◌, List, [], length, Option, Some, None, refl, sym, ap, ◌∙◌, subst, arith, if◌then◌else◌}
use Rattle.std.specs.Prelude.{count_by}
use Rattle.std.specs.List.{AllByRecursion as Each}
use Rattle.std.proofs.lemmas.List.{length_push}
use Rattle.std.proofs.lemmas.List.Sums.{sum_by_push}
use Rattle.ft_base.proofs.Small.{Each-snoc, Each-weaker}
use Rattle.ft_base.specs.declared.limits.TheConstants.{FRAMES, LANES, QUANTUM}
use Rattle.ft_base.specs.declared.user.Act.{Act}
use Rattle.ft_base.specs.declared.user.Act.TheVariants.{CallIn, IrqIn}
use Rattle.ft_base.specs.Job.{Func, Spec}
use Rattle.ft_base.specs.WellFormed.{IsNamedIn, IsSetIn, IsActIn}
use Rattle.ft_job.specs.Plans.{IsModule}
use Rattle.module_table.specs.Lines.{Plain, Load, Unload}
use Rattle.script_waits.specs.Tasks.{LinedTask}
use Rattle.ft_script.specs.Above.{Above, ScriptCtl, Run, Until, LinedCtl, Declaration, a_function, some_frames, an_absence, a_user, a_cpu, a_task, an_act, a_lane, a_ctl, lanes_with, waits_with, with_ctl, with_what}
use Rattle.ft_script.specs.Holds.{IsLine, is_wait, LinesHold, IsPlain, AreInLanes, LanesHold, IsAtMost, Holds}
use Rattle.ft_script.specs.LineConditions.{IsWhereItMay, IsNextLane, FitsAs}
use Rattle.ft_script.proofs.Limits.{no-ctls}

-- ## users

act-more : (size size' : ℕ) → size ≤ size' → (act : Option Act) → IsActIn size act → IsActIn size' act
act-more size size' le None h = tt
act-more size size' le (Some (CallIn g)) h = omega (arith, le, h)
act-more size size' le (Some (IrqIn g)) h = omega (arith, le, h)

-- ## lines of control

-- a line names what it named
line-so : (above d : Above) → above.users ≡ d.users → above.functions ≡ d.functions → above.tasks ≡ d.tasks → (ctl : ScriptCtl) → IsLine above ctl → IsLine d ctl
line-so above d us fs ts (Run (Plain c)) h = (
  subst (λ (users : List Spec). IsNamedIn (length users) c) us h.0,
  subst (λ (functions : List Func). IsSetIn (length functions) c) fs h.1,
  h.2,
)
line-so above d us fs ts (Run (Load m)) h = subst (λ (functions : List Func). IsModule functions m) fs h
line-so above d us fs ts (Run (Unload m)) h = subst (λ (functions : List Func). IsModule functions m) fs h
line-so above d us fs ts (Until t n) h = subst (λ (tasks : List LinedTask). t < length tasks) ts h

lines-so : (above d : Above) → above.users ≡ d.users → above.functions ≡ d.functions → above.tasks ≡ d.tasks → (ctls : List LinedCtl) → Each (λ c. IsLine above c.ctl) ctls
    → Each (λ c. IsLine d c.ctl) ctls
lines-so above d us fs ts ctls h = Each-weaker _ _ ctls (λ (c : LinedCtl) line. line-so above d us fs ts c.ctl line) h

-- where there are none they name nothing
lines-none : (above d : Above) → above.ctls ≡ [] → d.ctls ≡ above.ctls → d.waits ≡ above.waits → LinesHold above → LinesHold d
lines-none above d none same waits h = record {
  named = subst (Each (λ (c : LinedCtl). IsLine d c.ctl)) (sym (same ∙ none)) tt;
  all = ap (count_by (λ (c : LinedCtl). is_wait c.ctl)) same ∙ h.all ∙ sym waits;
}

-- the same lines name what they named
pub lines-kept : (above d : Above) → above.users ≡ d.users → above.functions ≡ d.functions → above.tasks ≡ d.tasks → d.ctls ≡ above.ctls → d.waits ≡ above.waits → LinesHold above → LinesHold d
lines-kept above d us fs ts same waits h = record {
  named = subst (Each (λ (c : LinedCtl). IsLine d c.ctl)) (sym same) (lines-so above d us fs ts above.ctls h.named);
  all = ap (count_by (λ (c : LinedCtl). is_wait c.ctl)) same ∙ h.all ∙ sym waits;
}

one-wait : (ctl : ScriptCtl) (waits : ℕ) → waits + (if is_wait ctl then 1 else 0) ≡ waits_with ctl waits
one-wait (Run line) waits = omega arith
one-wait (Until task acts) waits = omega arith

-- one more
lines-more : (above : Above) (ctl : ScriptCtl) → IsLine above ctl → LinesHold above → LinesHold (with_ctl above ctl)
lines-more above ctl there h =
    let d = with_ctl above ctl in
    let c : LinedCtl = record { ctl = ctl; line = suc above.lines } in
    record {
      named = Each-snoc (λ (x : LinedCtl). IsLine d x.ctl) above.ctls c (lines-so above d refl refl refl above.ctls h.named) (line-so above d refl refl refl ctl there);
      all = sum_by_push (λ (x : LinedCtl). if is_wait x.ctl then 1 else 0) above.ctls c ∙ ap (λ n. n + (if is_wait ctl then 1 else 0)) h.all ∙ one-wait ctl above.waits;
    }

-- ## lanes

-- the same lines are in the same lanes
in-lanes : (above d : Above) → d.ctls ≡ above.ctls → d.lanes ≡ above.lanes → d.absent ≡ above.absent → AreInLanes above → AreInLanes d
in-lanes above d ctls lanes absent h = record {
  plain = subst (Each (λ (c : LinedCtl). IsPlain c.ctl)) (sym ctls) h.plain;
  each = ap (λ (xs : List ℕ). length xs) lanes ∙ h.each ∙ sym (ap (λ (xs : List LinedCtl). length xs) ctls);
  numbers = subst (Each (λ lane. lane < LANES)) (sym lanes) h.numbers;
  loaded = absent ∙ h.loaded;
}

pub lanes-kept : (above d : Above) (count : ℕ) → d.ctls ≡ above.ctls → d.lanes ≡ above.lanes → d.absent ≡ above.absent → LanesHold above count → LanesHold d count
lanes-kept above d zero ctls lanes absent h = lanes ∙ h
lanes-kept above d (suc last) ctls lanes absent h = in-lanes above d ctls lanes absent h

-- where there are none no line has one
lanes-none : (above d : Above) (count : ℕ) → count ≡ 0 → d.lanes ≡ above.lanes → LanesHold above count → LanesHold d count
lanes-none above d zero none lanes h = lanes ∙ h
lanes-none above d (suc last) none lanes h = absurd (omega (arith, none))

-- the first lane comes before each line of control, since each that is above has a lane
lane-more : (above : Above) (count : ℕ) → IsNextLane above → LanesHold above count → AreInLanes (with_what above a_lane)
lane-more above zero f h = record {
  plain = subst (Each (λ (c : LinedCtl). IsPlain c.ctl)) (sym (no-ctls above h f.each)) tt;
  each = f.each;
  numbers = subst (Each (λ lane. lane < LANES)) (sym h) tt;
  loaded = f.loaded;
}
lane-more above (suc last) f h = in-lanes above (with_what above a_lane) refl refl refl h

-- a line of control in a script with lanes is a command
is-plain : (above : Above) (last : ℕ) → above.lane_count ≡ suc last → (ctl : ScriptCtl) → IsWhereItMay above ctl → IsPlain ctl
is-plain above last is (Run (Plain command)) may = tt
is-plain above last is (Run (Load m)) may = absurd (omega (arith, is, may))
is-plain above last is (Run (Unload m)) may = absurd (omega (arith, is, may))
is-plain above last is (Until task acts) may = absurd (omega (arith, is, may))

-- one more line of control belongs to the last lane
lane-ctl : (above : Above) (ctl : ScriptCtl) (count : ℕ) → above.lane_count ≡ count → above.lane_count ≤ LANES → IsWhereItMay above ctl → LanesHold above count
    → LanesHold (record (with_ctl above ctl) { lanes = lanes_with count above.lanes }) count
lane-ctl above ctl zero e few may h = h
lane-ctl above ctl (suc last) e few may h =
    let c : LinedCtl = record { ctl = ctl; line = suc above.lines } in
    record {
      plain = Each-snoc (λ (x : LinedCtl). IsPlain x.ctl) above.ctls c h.plain (is-plain above last e ctl may);
      each = (let n = length_push above.lanes last in let m = length_push above.ctls c in let each = h.each in omega (arith, n, m, each));
      numbers = Each-snoc (λ lane. lane < LANES) above.lanes last h.numbers (omega (arith, few, e));
      loaded = h.loaded;
    }

-- ## what a line declares

module _ (above : Above) (h : Holds above) where
  -- above a function, a user, a task and an act there is no line of control that could name anything
  pub lines-declared : (what : Declaration) → FitsAs above what → LinesHold (with_what above what)
  lines-declared (a_function function) f = lines-none above _ f.before refl refl h.lines
  lines-declared (a_user user) f = lines-none above _ f.before refl refl h.lines
  lines-declared (a_task pid cpu) f = lines-none above _ f.before refl refl h.lines
  lines-declared (an_act act) f = lines-none above _ f.before refl refl h.lines
  lines-declared (a_ctl ctl) f = lines-more above ctl f.0 h.lines
  lines-declared what f = lines-kept above (with_what above what) refl refl refl refl refl h.lines

  pub lanes-declared : (what : Declaration) → FitsAs above what → LanesHold (with_what above what) (with_what above what).lane_count
  lanes-declared (an_absence owner) f = lanes-none above (with_what above (an_absence owner)) above.lane_count f.alone refl h.lanes
  lanes-declared a_lane f = lane-more above above.lane_count f h.lanes
  lanes-declared (a_ctl ctl) f = lane-ctl above ctl above.lane_count refl h.within.few_lanes f.2 h.lanes
  lanes-declared what f = lanes-kept above (with_what above what) above.lane_count refl refl refl h.lanes

  -- ## modules and users

  -- an absent module is one of the functions above it
  pub absent-declared : (what : Declaration) → FitsAs above what → Each (IsModule (with_what above what).functions) (with_what above what).absent
  absent-declared (a_function function) f = subst (Each (IsModule (with_what above (a_function function)).functions)) (sym f.first) tt
  absent-declared (an_absence owner) f = Each-snoc (IsModule above.functions) above.absent owner h.absent f.there
  absent-declared what f = h.absent

  -- each user has its line
  pub user_lines-declared : (what : Declaration) → length (with_what above what).user_lines ≡ length (with_what above what).users
  user_lines-declared (a_user user) = length_push above.user_lines (suc above.lines) ∙ ap (λ n. n + 1) h.user_lines ∙ sym (length_push above.users user)
  user_lines-declared what = h.user_lines

  pub users-declared : (what : Declaration) → FitsAs above what → Each (λ (s : Spec). IsActIn (length (with_what above what).functions) s.act) (with_what above what).users
  users-declared (a_function function) f =
      let more = length_push above.functions function in
      Each-weaker _ _ above.users (λ (s : Spec) a. act-more (length above.functions) _ (omega (arith, more)) s.act a) h.users
  users-declared (a_user user) f = Each-snoc (λ (s : Spec). IsActIn (length above.functions) s.act) above.users user h.users f.act
  users-declared what f = h.users

  pub frames-declared : (what : Declaration) → FitsAs above what → IsAtMost FRAMES (with_what above what).frames
  frames-declared (some_frames count) f = f
  frames-declared what f = h.frames

  pub quanta-declared : (what : Declaration) → FitsAs above what → Each (λ q. q ≤ QUANTUM) (with_what above what).quanta
  quanta-declared (a_cpu quantum) f = Each-snoc (λ q. q ≤ QUANTUM) above.quanta quantum h.quanta f.0
  quanta-declared what f = h.quanta
