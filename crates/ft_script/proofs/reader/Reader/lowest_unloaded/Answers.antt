use Rattle.std.proofs.Common.{◌≡◌, ℕ, List, true≢false, map, Result, Ok, Err, sym, ap, ◌∙◌, subst}
use Rattle.std.specs.List.Sorted.{IsNonDecreasingBy}
use Rattle.std.specs.Result.{MatchResult, IfOk, is_ok}
use Rattle.ft_base.specs.Job.{Func}
use Rattle.ft_job.specs.declared.parts.ModRow.{ModRow}
use Rattle.ft_job.specs.Plans.{row_of}
use Rattle.func_table.specs.Modules.{modules_in, number_among}
use Rattle.module_table.specs.Lines.{owners_of}
use Rattle.module_coverage.specs.declared.change.Change.{Change}
use Rattle.module_coverage.specs.Plan.{ModulePlan}
use Rattle.module_coverage.specs.Reading.{changes_of}
use Rattle.module_coverage.specs.Uncovered.{IsUncoveredLine}
use Rattle.module_coverage.specs.Spans.{waits_in}
use Rattle.script_waits.specs.Tasks.{LinedTask, lined_task, tracks_of}
use Rattle.script_waits.specs.Greedy.{IsLeast}
use Rattle.ft_script.specs.Above.{Above}
use Rattle.ft_script.specs.ReaderInvariant.{above_of}
use Rattle.ft_script.specs.Script.{job_of, MayFindUnloaded}
use Rattle.ft_script.proofs.Coverage.{has-expansion, control-known, rows-known, control_of_job, changes-ordered, is-known, named-are, least-call, least-unloaded}
use Rattle.ft_script.proofs.reader.Reader.lowest_unloaded.Goals as goal

-- what a result has, if another error was put in the place of its error
before : {T D E : Type 0} (P : T → Type 0) (Q : D → Type 0) (r : Result T D) (s : Result T E) (x : T) → MatchResult r (λ y. s ≡ Ok y) Q → is_ok s ≡ is_ok r → s ≡ Ok x → IfOk r P → P x
before P Q (Ok y) s x same ok is h = let e : y ≡ x = cc in subst P e h
before P Q (Err d) s x same ok is h = absurd (true≢false (sym (ap is_ok is) ∙ ok))

pub lowest_uncovered-requires : goal.lowest_uncovered-requires
lowest_uncovered-requires c =
    let r = c.args.self.now in
    let has = has-expansion r c.args.expansion.now c.requires.expansion c.requires.open.expansion in
    let changes = c.as_slice-4.ensures.value ∙ c.in_ok-changes.ensures ∙ ap (λ (rows : List ModRow). changes_of (map row_of rows)) c.rows.ensures ∙ ap changes_of (rows-known r c.args.expansion.now has.1) in
    subst (λ (cs : List Change). IsNonDecreasingBy (λ (x : Change). x.at) cs) (sym changes) (changes-ordered (above_of r) has.0)

pub returns : goal.returns
returns c =
    let r = c.args.self.now in
    let above : Above = above_of r in
    let has = has-expansion r c.args.expansion.now c.requires.expansion c.requires.open.expansion in
    let changes = c.as_slice-4.ensures.value ∙ c.in_ok-changes.ensures ∙ ap (λ (rows : List ModRow). changes_of (map row_of rows)) c.rows.ensures ∙ ap changes_of (rows-known r c.args.expansion.now has.1) in
    let control = c.as_slice.ensures.value ∙ c.in_ok-control.ensures ∙ ap control_of_job c.ctls.ensures in
    let names : c.in_ok-names.names ≡ modules_in above.functions =
    before (λ ns. ns ≡ modules_in above.functions) _ c.new.result c.map_err.result c.in_ok-names.names c.map_err.ensures.cases c.map_err.ensures.variant c.in_ok-names.was c.new.ensures in
    let found =
    before (λ v. v.items ≡ map (λ (f : Func). number_among c.in_ok-names.names f.owner) above.functions) _ c.owners_of.result c.map_err-2.result c.in_ok-owners.owners
    c.map_err-2.ensures.cases c.map_err-2.ensures.variant c.in_ok-owners.was c.owners_of.ensures in
    let owners : c.in_ok-owners.owners.items ≡ owners_of above.functions =
    found ∙ ap (λ (ns : List (List ℕ)). map (λ (f : Func). number_among ns f.owner) above.functions) names in
    let plan : ModulePlan = record { owners = c.as_slice-2.result.now; absent = c.as_slice-3.result.now; changes = c.as_slice-4.result.now } in
    let known =
    is-known above c.as_slice.result.now plan (control-known r c.args.expansion.now has.1 ∙ ap waits_in (sym control)) (c.as_slice-2.ensures.value ∙ owners) c.as_slice-3.ensures.value changes in
    let lowest =
    before (IsLeast (IsUncoveredLine (tracks_of (map lined_task c.args.tasks.now)) c.as_slice.result.now plan)) _ c.lowest_uncovered.result c.map_err-3.result c.in_ok-call.call
    c.map_err-3.ensures.cases c.map_err-3.ensures.variant c.in_ok-call.was c.lowest_uncovered.ensures in
    let call =
    least-call above c.as_slice.result.now plan c.in_ok-call.call known
    (subst (λ (ts : List LinedTask). IsLeast (IsUncoveredLine (tracks_of ts) c.as_slice.result.now plan) c.in_ok-call.call) c.requires.tasks lowest) in
    let rows = ap (λ (rows : List ModRow). map row_of rows) c.rows-2.ensures ∙ rows-known r c.args.expansion.now has.1 in
    let user = c.lowest_user.ensures (job_of above) (named-are above _ (c.as_slice-5.ensures.value ∙ owners) c.as_slice-6.ensures.value rows) in
    subst (IsLeast (MayFindUnloaded above)) (sym c.lower.ensures) (least-unloaded above c.lowest_user.result c.in_ok-call.call user call)
