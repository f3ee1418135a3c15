use Rattle.std.proofs.Common.{◌≡◌, List, sym, subst}
use Rattle.ft_base.specs.declared.item.Item.{Item}
use Rattle.ft_base.specs.declared.turn.Actor.TheVariants as actor
use Rattle.ft_base.specs.Job.{Job}
use Rattle.word_machine.specs.Laws.{Runs}
use Rattle.word_machine.specs.Limits.{IsLimited}
use Rattle.word_machine.specs.Machine.{step}
use Rattle.ft_machine.specs.WorldInvariant.{parts_of}
use Rattle.ft_machine.specs.Worlds.{IsFor, IsRunning, Parts, marked_on, world_of}
use Rattle.ft_machine.proofs.ControlMoves.{control-chosen, control-moved, control-none, control-on, control-rests, control-room, control-told, controlled}
use Rattle.ft_machine.proofs.Moved.{HasMoved, moved-from, running-on}
use Rattle.ft_machine.proofs.world.World.step_control.Goals as goal

pub make-value-requires-clause-on : goal.make-value-requires-clause-on
make-value-requires-clause-on c =
    let w = parts_of c.self.inside in
    let run : IsRunning w = c.self.invariant.running in
    control-on run.job run.past run.limited w run.is_for run.runs c.in-Some.op (control-chosen w c.next.result c.next.ensures run.job run.past run.is_for c.in-Some.op c.in-Some.is)

pub make-value-requires-clause-room : goal.make-value-requires-clause-room
make-value-requires-clause-room c =
    let w = parts_of c.self.inside in
    let run : IsRunning w = c.self.invariant.running in
    control-room run.job run.past run.limited w run.is_for run.runs c.in-Some.op (control-chosen w c.next.result c.next.ensures run.job run.past run.is_for c.in-Some.op c.in-Some.is)

pub take-requires : goal.take-requires
take-requires c =
    let run : IsRunning (parts_of c.self.inside) = c.self.invariant.running in
    run.is_for.none

-- ## after an operation

module _ (c : goal.After-take) where
  abbrev before : Parts
  before = parts_of c.self.inside

  abbrev after : Parts
  after = controlled before c.make-value.new.self c.take.new.self

  moved : (job : Job) (past : List Item) → IsLimited job → IsFor job past before → Runs job (world_of job past before)
      → HasMoved job (marked_on c.take.result past) after (step job actor.Control (world_of job past before))
  moved job past limited k r =
      let x = control-chosen before c.next.result c.next.ensures job past k c.in-Some.op c.in-Some.is in
      control-moved job past limited before k r c.in-Some.op x
      c.make-value.new.self c.make-value.ensures.words c.make-value.result c.make-value.ensures.value c.take.new.self
      (c.take.ensures.of job k.control') c.take.ensures.none (c.take.ensures.control job k.control')
      c.take.result
      (control-told job past limited before k r c.in-Some.op x c.make-value.result c.take.result (c.take.ensures.item job k.control'))

pub invariant_of-self : goal.invariant_of-self
invariant_of-self c =
    let run : IsRunning (before c) = c.self.invariant.running in
    record { running = running-on run.job run.limited _ (after c) _ (moved c run.job run.past run.limited run.is_for run.runs) }

pub returns-in-Some : goal.returns-in-Some
returns-in-Some c = moved-from c.args.self.now (before c) c.self.view_is (after c) c.take.result actor.Control (moved c)

-- ## at its end

pub returns : goal.returns
returns c = λ job past limited k r.
    (let own : IsFor job past (parts_of c.self.inside) = subst (λ p. IsFor job past p) (sym c.self.view_is) k in
    let rests = control-rests job past limited (parts_of c.self.inside) own (subst (λ p. Runs job (world_of job past p)) (sym c.self.view_is) r)
    (control-none (parts_of c.self.inside) c.next.result c.next.ensures job past own c.in_default.is) in
    (k, subst (λ p. world_of job past p ≡ step job actor.Control (world_of job past p)) c.self.view_is rests))
