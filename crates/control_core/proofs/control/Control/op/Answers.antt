use Rattle.std.proofs.Common.{ap, ◌∙◌, inl, inr}
use Rattle.std.specs.Prelude.{option_map}
use Rattle.word_map.specs.declared.shape.Shape.{Shape}
use Rattle.word_map.specs.Ops.{placed}
use Rattle.grace_core.specs.Waits.{wait_next}
use Rattle.ops_list.specs.Links.{link_op}
use Rattle.control_core.specs.declared.phase.Phase.TheVariants as phase
use Rattle.control_core.proofs.Nexts.{left-at, line-is, next-of}
use Rattle.control_core.proofs.control.Control.op.Goals as goal

pub returns-in-Line : goal.returns-in-Line
returns-in-Line c =
    c.line_op.ensures c.self.inside.commands_done
    ∙ line-is c.self.inside c.as_slice.result.now c.as_slice-in-Line.result.now c.as_slice.ensures.value c.as_slice-in-Line.ensures.value
    ∙ next-of c.self.inside c.args.self.now phase.Line c.self.view_is c.in-Line.is

pub returns-in-Linking : goal.returns-in-Linking
returns-in-Linking c =
    c.next.ensures
    ∙ ap (λ (shape : Shape). option_map (placed shape) (link_op c.in-Linking.linker.phase))
    (left-at c.self.inside (phase.Linking c.in-Linking.linker) c.self.invariant c.in-Linking.is)
    ∙ next-of c.self.inside c.args.self.now (phase.Linking c.in-Linking.linker) c.self.view_is c.in-Linking.is

pub returns-in-Syncing : goal.returns-in-Syncing
returns-in-Syncing c =
    elim c.in-Syncing.is [
      | inl e ↦ c.next-in-Syncing.ensures
          ∙ ap (λ (shape : Shape). option_map (placed shape) (wait_next c.in-Syncing.waiter))
          (left-at c.self.inside (phase.Syncing c.in-Syncing.waiter) c.self.invariant e).0
          ∙ next-of c.self.inside c.args.self.now (phase.Syncing c.in-Syncing.waiter) c.self.view_is e
      | inr e ↦ c.next-in-Syncing.ensures
          ∙ ap (λ (shape : Shape). option_map (placed shape) (wait_next c.in-Syncing.waiter))
          (left-at c.self.inside (phase.Quieting c.in-Syncing.waiter) c.self.invariant e)
          ∙ next-of c.self.inside c.args.self.now (phase.Quieting c.in-Syncing.waiter) c.self.view_is e
    ]
