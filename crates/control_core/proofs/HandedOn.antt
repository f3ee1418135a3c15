-- Control that has handed on what it marked is the same control.
use Rattle.std.proofs.Common.{◌≡◌, [], refl, sym, ap, ◌∙◌, subst}
use Rattle.ft_base.specs.Job.{Job}
use Rattle.control_core.specs.declared.phase.Phase.{Phase}
use Rattle.control_core.specs.declared.phase.Phase.TheVariants as phase
use Rattle.control_core.specs.Seated.{Fits, IsDeskOf, IsFor as IsControlFor, Seated, control_of, position_of}

-- without its items
abbrev pub emptied : Seated → Seated
emptied d = record d { items = [] }

module _ (job : Job) (d : Seated) where
  desk-kept : (p : Phase) → IsDeskOf job d p → IsDeskOf job (emptied d) p
  desk-kept phase.Line h = h
  desk-kept _ h = h

  fits-kept : (p : Phase) → Fits d p → Fits (emptied d) p
  fits-kept (phase.Writing page) h = (h.0, record { user = h.1.user; sel = h.1.sel; pair = h.1.pair; copy = h.1.copy })
  fits-kept _ h = h

  pub control-forgot : (e : Seated) → e ≡ emptied d → IsControlFor job d → IsControlFor job e
  control-forgot e is k = subst (λ (x : Seated). IsControlFor job x) (sym is) record {
    shape = k.shape;
    lines = k.lines;
    declared = k.declared;
    before = k.before;
    numbered = k.numbered;
    counted = k.counted;
    now = desk-kept d.phase k.now;
    fits = fits-kept d.phase k.fits;
  }

position-kept : (d : Seated) (p : Phase) → position_of (emptied d) p ≡ position_of d p
position-kept d phase.Line = refl
position-kept d _ = refl

pub control-same : (d e : Seated) → e ≡ emptied d → control_of e ≡ control_of d
control-same d e is = ap (λ (x : Seated). control_of x) is ∙ λ i. record (control_of d) { position = position-kept d d.phase i }
