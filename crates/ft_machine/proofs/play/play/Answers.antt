use Rattle.std.proofs.Common.{sym, subst, ap, ◌∙◌, refl}
use Rattle.ft_base.proofs.Small.{on-err}
use Rattle.word_machine.specs.Machine.{World, step}
use Rattle.ft_machine.specs.MachineStates.{IsAt}
use Rattle.ft_machine.proofs.MachineLaws.{at-ends}
use Rattle.ft_machine.proofs.PlayLaws.{goes_on, play-grows, stops_over, stops_used_up}
use Rattle.ft_machine.proofs.play.play.Goals as goal

-- without room for a first item nothing has stepped
pub returns-in_err-make_room-clause-err : goal.returns-in_err-make_room-clause-err
returns-in_err-make_room-clause-err g c = on-err c.from_residual.result _ (λ job s first at took. (s, at, c.make_room.ensures.took job s.past first took, play-grows job _ s))

pub loop-actor-init : goal.loop-actor-init
loop-actor-init g c = (c.in_ok-make_room.ensures.room, (λ job s first at took. (s, at, c.in_ok-make_room.ensures.took job s.past first took, refl)))

pub step_into-requires : goal.step_into-requires
step_into-requires g c =
    let r = c.requires in
    let i = c.loop-actor.invariant.1 r.0 r.1 r.2 r.3 r.4 in
    record { room = c.loop-actor.invariant.0; took = (r.0, i.0, r.2, i.1, i.2) }

pub returns-in_err-step_into-clause-err : goal.returns-in_err-step_into-clause-err
returns-in_err-step_into-clause-err g c =
    on-err c.from_residual-in_err-step_into.result _
    (λ job s first at took.
    (let i = c.loop-actor.invariant.1 job s first at took in
    let n = c.step_into.ensures.took job i.0 first i.1 i.2 in
    let rest = goes_on job c.loop-actor.player c.next_actor.new.self c.in-Some.actor i.0 _ _ c.in-Some.ensures.value c.next_actor.ensures.rest refl i.3 in
    let more = play-grows job c.next_actor.new.self (step job c.in-Some.actor i.0) in
    (step job c.in-Some.actor i.0, n.0, n.1, (more.0, ap (λ (t : World). t.past) (sym rest) ∙ more.1))))

pub loop-actor-preserved : goal.loop-actor-preserved
loop-actor-preserved g c = (
  c.in_ok-step_into.ensures.room,
  (λ job s first at took.
      (let i = c.loop-actor.invariant.1 job s first at took in
      let n = c.in_ok-step_into.ensures.took job i.0 first i.1 i.2 in (
        step job c.in-Some.actor i.0,
        n.0,
        n.1,
        goes_on job c.loop-actor.player c.next_actor.new.self c.in-Some.actor i.0 _ _ c.in-Some.ensures.value c.next_actor.ensures.rest refl i.3,
      ))),
)

pub returns-then-all_end-clause-ok : goal.returns-then-all_end-clause-ok
returns-then-all_end-clause-ok g c = λ job s first at took.
    (let i = c.loop-actor.invariant.1 job s first at took in
    let n = c.in_ok-step_into.ensures.took job i.0 first i.1 i.2 in
    let over = sym (at-ends job _ _ c.all_end.result n.0 c.all_end.ensures) ∙ c.if-all_end.true in
    let rest = goes_on job c.loop-actor.player c.next_actor.new.self c.in-Some.actor i.0 _ _ c.in-Some.ensures.value c.next_actor.ensures.rest refl i.3 in
    subst (λ (t : World). IsAt job t c.step_into.new.world × g.T.Taker.took job t.past first c.step_into.new.taker)
    (stops_over job c.next_actor.new.self _ _ over rest) (n.0, n.1))

pub returns-clause-ok : goal.returns-clause-ok
returns-clause-ok g c = λ job s first at took.
    (let i = c.loop-actor.invariant.1 job s first at took in
    subst (λ (t : World). IsAt job t c.loop-actor.world × g.T.Taker.took job t.past first c.loop-actor.taker)
    (stops_used_up job c.loop-actor.player _ _ (c.next_actor.ensures.used_up.0 (rw c.in_default.is refl)) i.3) (i.1, i.2))
