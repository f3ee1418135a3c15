-- Control after its operation is the word machine's, in each phase; and what it has marked.
use Rattle.std.proofs.Common.{◌≡◌, ℕ, refl, sym, ap, ◌∙◌}
use Rattle.ft_base.specs.Job.{Job}
use Rattle.ft_desk.specs.Plans.{PlainPlan}
use Rattle.word_machine.specs.Control.{control_got, got_in}
use Rattle.word_machine.specs.Values.{copies_in}
use Rattle.control_core.specs.declared.phase.Phase.{Phase}
use Rattle.control_core.specs.declared.phase.Phase.TheVariants as phase
use Rattle.control_core.specs.Seated.{Seated, Fits, IsDeskOf, IsFor, control_in, control_of, position_of}
use Rattle.control_core.specs.ControlInvariant.{HasLeft, IsSafe}
use Rattle.control_core.specs.Steps.{stepped, stepped_in}
use Rattle.control_core.proofs.GotLaw.{at-plan, linking-by, listing, patching, quieting, releasing, taking, writing}
use Rattle.control_core.proofs.Leads.{Went}
use Rattle.control_core.proofs.LineLaw.{at-a-line, closing}
use Rattle.control_core.proofs.NextPositions.{depth-goes, pids-goes}
use Rattle.control_core.proofs.WaitLaw.{quieting as quiet-waits, syncing}

module _ (job : Job) (c : Seated) (safe : IsSafe c) (is : IsFor job c) (v : ℕ) where
  got-in : (p : Phase) → c.phase ≡ p → IsDeskOf job c p → Fits c p → HasLeft c p
      → Went job (stepped_in c p v) (got_in job (control_in c p) (position_of c p) v)
  got-in phase.Line e u f h = at-a-line job c safe is e u f v
  got-in phase.Taking e u f h = taking job c safe is u v f.1.0 f.1.1 f.0 f.1.2
  got-in (phase.Writing page) e u f h = writing job c safe is u v page h f.0 f.1
  got-in phase.Selecting e u f h = listing job c safe is u v f.1.0 f.0 f.1.1
  got-in (phase.Linking linker) e u f h = linking-by job c safe is u v linker linker.phase f.0 f.1
  got-in phase.StoringPids e u f h =
      quieting job c safe is u v
      (pids-goes job c.commands_done (copies_in c.before.copies) c.before.order f.0
      (sym (ap (λ (p : PlainPlan). p.pids) (at-plan job c safe is u v)) ∙ f.1))
  got-in phase.StoringDepth e u f h =
      quieting job c safe is u v
      (depth-goes job c.commands_done (copies_in c.before.copies) c.before.order f.0
      (sym (ap (λ (p : PlainPlan). p.depth) (at-plan job c safe is u v)) ∙ f.1))
  got-in phase.Patching e u f h = patching job c safe is u v f.0 f.1 f.2
  got-in (phase.Syncing w) e u f h = syncing job c safe is u v w f
  got-in (phase.Quieting w) e u f h = quiet-waits job c safe is u v w f
  got-in phase.Releasing e u f h = releasing job c safe is u v
  got-in phase.Closing e u f h = closing job c safe is u v

  pub got-law : Went job (stepped c v) (control_got job (control_of c) v)
  unfolding control_got
  got-law = got-in c.phase refl is.now is.fits safe.left
