-- No operation changes which lines there are, or which of them are led.
use Rattle.std.proofs.Common.{cond, ◌≡◌, ℕ, Bool, true, false, Option, Some, None, refl}
use Rattle.std.specs.Prelude.{slice_get}
use Rattle.ft_base.specs.Job.{Ctl, Run, Until}
use Rattle.control_core.specs.declared.phase.Phase.{Phase}
use Rattle.control_core.specs.declared.phase.Phase.TheVariants as phase
use Rattle.control_core.specs.Seated.{Seated}
use Rattle.control_core.specs.Steps.{line_after, stepped, stepped_in}

module _ (c : Seated) where
  abbrev Stay : Seated → Type 0
  Stay d = (d.all ≡ c.all) × (d.order ≡ c.order)

  either : (b : Bool) (x y : Seated) → Stay x → Stay y → Stay (cond b x y)
  either true x y hx hy = hx
  either false x y hx hy = hy

  at-line : (o : Option Ctl) (v : ℕ) → Stay (line_after c o v)
  at-line None v = (refl, refl)
  at-line (Some (Until t n)) v = either _ _ _ (refl, refl) (refl, refl)
  at-line (Some (Run x)) v = (refl, refl)

  in-phase : (p : Phase) (v : ℕ) → Stay (stepped_in c p v)
  in-phase phase.Line v = at-line (slice_get c.lines c.line) v
  in-phase phase.Taking v = (refl, refl)
  in-phase (phase.Writing page) v = either _ _ _ (refl, refl) (refl, refl)
  in-phase phase.Selecting v = (refl, refl)
  in-phase (phase.Linking linker) v = either _ _ _ (refl, refl) (refl, refl)
  in-phase phase.StoringPids v = (refl, refl)
  in-phase phase.StoringDepth v = (refl, refl)
  in-phase phase.Patching v = (refl, refl)
  in-phase (phase.Syncing wait) v = either _ _ _ (refl, refl) (refl, refl)
  in-phase (phase.Quieting wait) v = either _ _ _ (refl, refl) (refl, refl)
  in-phase phase.Releasing v = (refl, refl)
  in-phase phase.Closing v = (refl, refl)

  pub stay : (v : ℕ) → Stay (stepped c v)
  stay v = in-phase c.phase v
