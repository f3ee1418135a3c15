-- The lines of control that a reader keeps, as others see them.
use Rattle.std.proofs.Common.{◌≡◌, ℕ, List, [], ◌∷◌, length, map, Some, None, refl, sym, ap, ap₂, ◌∙◌, subst}
use Rattle.std.specs.Prelude.{IfSome}
use Rattle.ft_desk.specs.declared.command.Ctl.{Ctl}
use Rattle.ft_desk.specs.Lines.{lines_of}
use Rattle.ft_job.specs.declared.parts.ModRow.{ModRow}
use Rattle.ft_job.specs.Plans.{row_of}
use Rattle.script_waits.specs.declared.script.ControlLine.{ControlLine}
use Rattle.script_waits.specs.declared.script.Wait.{Wait}
use Rattle.ft_script.specs.declared.reader.Reader.{Reader}
use Rattle.ft_script.specs.declared.reader.LinedCtl.{LinedCtl as KeptLine}
use Rattle.ft_script.specs.declared.declaration.ScriptCtl.{ScriptCtl as KeptCtl}
use Rattle.ft_script.specs.declared.declaration.ScriptCtl.TheVariants.{Run as KeptRun, Until as KeptUntil}
use Rattle.ft_script.specs.declared.expansion.Expansion.{Expansion as KeptExpansion}
use Rattle.ft_script.specs.Above.{LinedCtl}
use Rattle.ft_script.specs.Expansion.{Expansion, opened, lines_as_they_are, expansion_of}
use Rattle.ft_script.specs.Script.{wait_of}
use Rattle.ft_script.specs.ReaderInvariant.{above_of, lined_ctl, script_ctl_of, control_line, expansion_in, IsOpen}
use Rattle.ft_script.proofs.ReaderParts.{some-not-none}
use Rattle.ft_script.proofs.CommandCounts.{lines-stay}

-- ## for those that wait

-- whoever waits sees the same, however many tasks there are
same-wait : (tasks : ℕ) (ctl : KeptCtl) → wait_of (script_ctl_of 0 ctl) ≡ wait_of (script_ctl_of tasks ctl)
same-wait tasks (KeptRun line) = refl
same-wait tasks (KeptUntil t n) = refl

pub control-kept : (tasks : ℕ) (cs : List KeptLine) → map control_line cs ≡ map (λ (c : LinedCtl). record { wait = wait_of c.ctl; line = c.line }) (map (lined_ctl tasks) cs)
control-kept tasks [] = refl
control-kept tasks (c ∷ cs) = ap₂ (λ (wait : Wait) (xs : List ControlLine). record { wait = wait; line = c.line } ∷ xs) (same-wait tasks c.ctl) (control-kept tasks cs)

-- ## in the job

module _ (r : Reader) (is : IsOpen r) where
  abbrev tasks : ℕ
  tasks = length r.tasks.items

  -- a reader that hasn't what the lines come to has a script with lanes, whose lines stay as they are
  pub stays-as : r.expansion ≡ None → expansion_of (above_of r) ≡ record (opened (above_of r)) { ctls = lines_as_they_are (above_of r).ctls }
  stays-as none = lines-stay (above_of r) (λ e. some-not-none r.expansion (is.some e) none)

  pub comes-to : (x : KeptExpansion) → r.expansion ≡ Some x → expansion_in tasks x ≡ expansion_of (above_of r)
  comes-to x some = (subst (λ o. IfSome o (λ (y : KeptExpansion). (r.lane_count ≡ 0) × (expansion_in tasks y ≡ expansion_of (above_of r)))) some is.expansion).1

  module _ (ctls : List Ctl) (rows : List ModRow) (some : IfSome r.expansion (λ (x : KeptExpansion). (ctls ≡ x.ctls.items) × (rows ≡ x.rows.items)))
      (none : r.expansion ≡ None → (rows ≡ []) × ((n : ℕ) → lines_of n ctls ≡ lines_as_they_are (map (lined_ctl n) r.ctls.items))) where
    pub ctls-in-job : lines_of tasks ctls ≡ (expansion_of (above_of r)).ctls
    ctls-in-job = elim r.expansion as (λ o. r.expansion ≡ o → lines_of tasks ctls ≡ (expansion_of (above_of r)).ctls) [
      | None ↦ λ e. (none e).1 tasks ∙ sym (ap (λ (y : Expansion). y.ctls) (stays-as e))
      | Some x ↦ λ e. ap (lines_of tasks) (subst (λ o. IfSome o (λ (y : KeptExpansion). (ctls ≡ y.ctls.items) × (rows ≡ y.rows.items))) e some).0 ∙ ap (λ (y : Expansion). y.ctls) (comes-to x e)
    ] refl

    pub rows-in-job : map row_of rows ≡ (expansion_of (above_of r)).rows
    rows-in-job = elim r.expansion as (λ o. r.expansion ≡ o → map row_of rows ≡ (expansion_of (above_of r)).rows) [
      | None ↦ λ e. ap (map row_of) (none e).0 ∙ sym (ap (λ (y : Expansion). y.rows) (stays-as e))
      | Some x ↦ λ e. ap (map row_of) (subst (λ o. IfSome o (λ (y : KeptExpansion). (ctls ≡ y.ctls.items) × (rows ≡ y.rows.items))) e some).1 ∙ ap (λ (y : Expansion). y.rows) (comes-to x e)
    ] refl
