-- One more CPU has its room.
use Rattle.std.proofs.Common.{◌≡◌, suc, ◌+◌, Some, length, slice_get, sym, ap, ◌∙◌, arith}
use Rattle.std.proofs.lemmas.Option.{slice_get-get_or}
use Rattle.ft_base.specs.Job.{Job}
use Rattle.user_specs.specs.declared.plan.CpuPlan.{CpuPlan}
use Rattle.word_map.specs.declared.shape.Shape.{Shape}
use Rattle.ft_machine.specs.Starts.{ArePlansOf}
use Rattle.ft_machine.proofs.Rooms.{rooms-all, rooms-few, rooms_below}
use Rattle.ft_machine.proofs.cpus.all_rooms.Goals as goal

module _ (c : goal.After-room_of-room) where
  at : slice_get c.args.plans.now c.loop-plan.plan-index ≡ Some c.plan-item.result
  at =
      slice_get-get_or c.args.plans.now c.loop-plan.plan-index c.plan-item.result c.loop-plan-test.true
      ∙ ap (λ (p : CpuPlan). Some p) (sym c.plan-item.is)

  more : (job : Job) (shape : Shape) → ArePlansOf job c.args.plans.now c.args.specs.now c.args.limits shape
      → c.loop-plan.room + c.room_of-room.result ≡ rooms_below job (c.loop-plan.plan-index + 1)
  more job shape is =
      let had = c.loop-plan.invariant job shape is in
      let own = c.room_of-room.ensures job c.loop-plan.plan-index shape (is.each c.loop-plan.plan-index c.plan-item.result at) in
      let next : suc c.loop-plan.plan-index ≡ c.loop-plan.plan-index + 1 = omega arith in
      let all : c.loop-plan.room + c.room_of-room.result ≡ rooms_below job (suc c.loop-plan.plan-index) = omega (arith, had, own) in
      all ∙ ap (λ n. rooms_below job n) next

pub room_of-room-requires : goal.room_of-room-requires
room_of-room-requires c =
    let r = c.requires in
    let at : slice_get c.args.plans.now c.loop-plan.plan-index ≡ Some c.plan-item.result =
    slice_get-get_or c.args.plans.now c.loop-plan.plan-index c.plan-item.result c.loop-plan-test.true ∙ ap (λ (p : CpuPlan). Some p) (sym c.plan-item.is) in
    (r.0, c.loop-plan.plan-index, r.1, r.2.each c.loop-plan.plan-index c.plan-item.result at)

pub overflow_add-room : goal.overflow_add-room
overflow_add-room c =
    let r = c.requires in
    let is = r.2 in
    let lt = c.loop-plan-test.true in
    let many = is.count in
    let all = more c r.0 r.1 is in
    let few = rooms-few r.0 (is.each c.loop-plan.plan-index c.plan-item.result (at c)).limited (c.loop-plan.plan-index + 1) (omega (arith, lt, many)) in
    omega (arith, all, few)

pub loop-plan-preserved : goal.loop-plan-preserved
loop-plan-preserved c = more c

pub returns : goal.returns
returns c = λ job shape limited is.
    (let many = is.count in
    let past = c.loop-plan-test.false in
    let last = c.loop-plan.auto.plan-index-end in
    let e : c.loop-plan.plan-index ≡ length job.quanta = omega (arith, many, past, last) in
    c.loop-plan.invariant job shape is ∙ ap (λ n. rooms_below job n) e ∙ rooms-all job limited)
