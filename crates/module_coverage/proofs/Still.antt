-- A module that no line names is always loaded, so a function outside of the changing modules is always there.
use Rattle.std.proofs.Common.{cond, ◌≡◌, ℕ, Bool, true, false, ◌&&◌, ◌==◌, List, [], ◌∷◌, Option, Some, None, refl}
use Rattle.std.specs.Prelude.{nat_le, IfSome}
use Rattle.std.specs.List.{list_any}
use Rattle.ft_base.specs.declared.item.Item.{Item}
use Rattle.ft_base.specs.Job.{Job, LinePlan, ModuleRow}
use Rattle.ft_base.specs.Desk.{is_accepted}
use Rattle.ft_base.proofs.Small.{or-false_both}
use Rattle.ft_hist.specs.Past.{done, begun}
use Rattle.func_table.specs.Modules.{module_of}
use Rattle.module_coverage.specs.Loaded.{is_absent, is_changing, is_loaded, loaded_after}
use Rattle.module_coverage.specs.Apart.{IsApart}
use Rattle.module_coverage.specs.Found.{IsThere, IsLoadedNow}

-- lines of other modules change nothing
still : (m k : ℕ) (was : Bool) (rows : List ModuleRow) → list_any (λ row. row.owner == m) rows ≡ false → loaded_after m k was rows ≡ was
still m k was [] none = refl
still m k was (row ∷ rows) none =
    let both = or-false_both (row.owner == m) (list_any (λ other. other.owner == m) rows) none in
    by (row.owner == m) both.0 (still m k was rows both.1)
  where
    by : (b : Bool) → b ≡ false → loaded_after m k was rows ≡ was → loaded_after m k (cond (b && is_accepted row.answer && nat_le row.last k) row.load was) rows ≡ was
    by false e more = more
    by true e more = absurd cc

pub always : (lines : LinePlan) (m k : ℕ) → is_changing lines m ≡ false → is_loaded lines m k ≡ true
always lines m k none =
    let both = or-false_both (is_absent lines m) (list_any (λ row. row.owner == m) lines.modules) none in
    rw both.0 (still m k true lines.modules both.1)

pub there : (job : Job) (f : ℕ) (past : List Item) → IsApart job f → IsThere job f past
there job f past apart = by (module_of job.functions f) refl
  where
    unchanged : (m : ℕ) (b : Bool) → is_changing job.lines m ≡ b → module_of job.functions f ≡ Some m → IsLoadedNow job m past
    unchanged m true e is = absurd (apart (m, is, e))
    unchanged m false e is = (always job.lines m (done past) e, always job.lines m (begun past) e)

    by : (o : Option ℕ) → module_of job.functions f ≡ o → IfSome o (λ m. IsLoadedNow job m past)
    by None e = tt
    by (Some m) e = unchanged m (is_changing job.lines m) refl e
