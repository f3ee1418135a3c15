use Rattle.std.proofs.Common.{◌≡◌, List, Some, IsSome, refl, sym, ap, ◌∙◌, subst, slice_get}
use Rattle.ft_base.specs.declared.item.Item.{Item}
use Rattle.ft_base.specs.declared.turn.Actor.TheVariants as actor
use Rattle.ft_base.specs.Job.{Job}
use Rattle.word_machine.specs.Laws.{Runs}
use Rattle.word_machine.specs.Limits.{IsLimited}
use Rattle.word_machine.specs.Machine.{step}
use Rattle.cpu_core.specs.declared.parts.Parts.{Parts as CpuParts}
use Rattle.task_core.specs.TaskOps.{item_in}
use Rattle.ft_machine.specs.WorldInvariant.{parts_of}
use Rattle.ft_machine.specs.Worlds.{IsFor, IsRunning, Parts, marked_on, world_of}
use Rattle.ft_machine.proofs.CpuMoves.{cpu-again, cpu-chosen, cpu-had-left, cpu-moved, cpu-none, cpu-on, cpu-rests, cpu-room, cpu-taken, cpu-takes-it, found, ran}
use Rattle.ft_machine.proofs.Moved.{HasMoved, moved-from, running-on}
use Rattle.ft_machine.proofs.Recording.{handed-left, handed-none, handed-room, is-told}
use Rattle.ft_machine.proofs.world.World.step_cpu.Goals as goal

pub make-value-requires-clause-on : goal.make-value-requires-clause-on
make-value-requires-clause-on c =
    let w = parts_of c.self.inside in
    let run : IsRunning w = c.self.invariant.running in
    let at = found c.args.self.now w c.self.view_is c.args.cpu.0 c.requires c.index.result.now c.index.ensures in
    cpu-on run.job run.past run.limited w run.is_for run.runs c.args.cpu.0 c.index.result.now at c.in-Some.op
    (cpu-chosen w c.args.cpu.0 c.index.result.now at c.next.result c.next.ensures run.job run.past run.limited run.is_for c.in-Some.op c.in-Some.is)

pub make-value-requires-clause-room : goal.make-value-requires-clause-room
make-value-requires-clause-room c =
    let w = parts_of c.self.inside in
    let run : IsRunning w = c.self.invariant.running in
    let at = found c.args.self.now w c.self.view_is c.args.cpu.0 c.requires c.index.result.now c.index.ensures in
    cpu-room run.job run.past run.limited w run.is_for run.runs c.args.cpu.0 c.index.result.now at c.in-Some.op
    (cpu-chosen w c.args.cpu.0 c.index.result.now at c.next.result c.next.ensures run.job run.past run.limited run.is_for c.in-Some.op c.in-Some.is)

pub take-requires-clause-taken : goal.take-requires-clause-taken
take-requires-clause-taken c =
    let w = parts_of c.self.inside in
    let run : IsRunning w = c.self.invariant.running in
    let lt = c.requires in
    let at = found c.args.self.now w c.self.view_is c.args.cpu.0 lt c.index_mut.result.now c.index_mut.ensures.value in
    cpu-taken run.job run.past run.limited w run.is_for run.runs c.args.cpu.0 c.index_mut.result.now at c.in-Some.op
    (cpu-again c.args.self.now w c.self.view_is c.args.cpu.0 lt c.index.result.now c.index_mut.result.now c.index.ensures c.index_mut.ensures.value
    c.next.result c.next.ensures c.in-Some.op c.in-Some.is run.job run.past run.limited run.is_for)
    c.make-value.result c.make-value.ensures.value

pub take-requires-clause-none : goal.take-requires-clause-none
take-requires-clause-none c =
    let w = parts_of c.self.inside in
    let run : IsRunning w = c.self.invariant.running in
    let at = found c.args.self.now w c.self.view_is c.args.cpu.0 c.requires c.index_mut.result.now c.index_mut.ensures.value in
    (run.is_for.each c.args.cpu.0 c.index_mut.result.now at).none

-- ## after an operation

module _ (c : goal.After-self-1) where
  abbrev before : Parts
  before = parts_of c.self.inside

  -- the CPU that takes the value
  abbrev cpu : CpuParts
  cpu = c.index_mut.result.now

  abbrev after : Parts
  after = ran before c.make-value.new.self c.args.cpu.0 c.take.new.self

  at : slice_get before.cpus c.args.cpu.0 ≡ Some cpu
  at = found c.args.self.now before c.self.view_is c.args.cpu.0 c.requires cpu c.index_mut.ensures.value

  moved : (job : Job) (past : List Item) → IsLimited job → IsFor job past before → Runs job (world_of job past before)
      → HasMoved job (marked_on c.take.result past) after (step job (actor.Cpu c.args.cpu) (world_of job past before))
  moved job past limited k r =
      let x = cpu-again c.args.self.now before c.self.view_is c.args.cpu.0 c.requires c.index.result.now cpu c.index.ensures c.index_mut.ensures.value
      c.next.result c.next.ensures c.in-Some.op c.in-Some.is job past limited k in
      let own = k.each c.args.cpu.0 cpu at in
      let takes = cpu-takes-it job past limited before k r c.args.cpu.0 cpu at c.in-Some.op x c.make-value.result c.make-value.ensures.value in
      let told : c.take.result ≡ item_in (Some x.op) = c.take.ensures.item job own.is_for ∙ ap item_in x.is in
      cpu-moved job past limited before k r c.args.cpu.0 cpu at c.in-Some.op x
      c.make-value.new.self c.make-value.ensures.words c.make-value.result c.make-value.ensures.value c.take.new.self
      (c.take.ensures.of job limited own.is_for takes)
      (handed-none c.take.result cpu.marked c.take.new.self.marked c.take.ensures.marked own.none)
      (handed-left x.op c.take.result told cpu.marked c.take.new.self.marked c.take.ensures.marked
      (λ some. cpu-had-left job past limited before k r c.args.cpu.0 cpu at c.in-Some.op x (subst (λ o. IsSome o) told some)))
      (handed-room c.take.result cpu.marked c.take.new.self.marked c.take.ensures.marked)
      (c.take.ensures.cpu job limited own.is_for takes)
      c.take.result
      (is-told x.op c.take.result told)
      c.args.cpu refl

pub invariant_of-self : goal.invariant_of-self
invariant_of-self c =
    let run : IsRunning (before c) = c.self.invariant.running in
    record { running = running-on run.job run.limited _ (after c) _ (moved c run.job run.past run.limited run.is_for run.runs) }

pub returns-in-Some : goal.returns-in-Some
returns-in-Some c = moved-from c.args.self.now (before c) c.self.view_is (after c) c.take.result (actor.Cpu c.args.cpu) (moved c)

-- ## at its end

pub returns : goal.returns
returns c = λ job past limited k r.
    (let w = parts_of c.self.inside in
    let at = found c.args.self.now w c.self.view_is c.args.cpu.0 c.requires c.index.result.now c.index.ensures in
    let own : IsFor job past w = subst (λ p. IsFor job past p) (sym c.self.view_is) k in
    let rests = cpu-rests job past limited w own (subst (λ p. Runs job (world_of job past p)) (sym c.self.view_is) r) c.args.cpu.0 c.index.result.now at c.args.cpu refl
    (cpu-none w c.args.cpu.0 c.index.result.now at c.next.result c.next.ensures job past limited own c.in_default.is) in
    (k, subst (λ p. world_of job past p ≡ step job (actor.Cpu c.args.cpu) (world_of job past p)) c.self.view_is rests))
