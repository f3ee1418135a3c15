-- The state after the replay, from what each call says.
use Rattle.std.proofs.Common.{◌≡◌, ◌∙◌, List, [], ap, subst, sym, refl, append-nil}
use Rattle.ft_base.specs.declared.item.Item.{Item}
use Rattle.ft_base.specs.declared.turn.Actor.{Actor}
use Rattle.ft_base.specs.Job.{Job}
use Rattle.ft_base.specs.Schedule.{actors_of}
use Rattle.ft_base.proofs.Small.{on-err}
use Rattle.ft_hist.proofs.Laws.{none-legal}
use Rattle.word_machine.specs.Machine.{World, play, played, start}
use Rattle.ft_machine.specs.Worlds.{Parts}
use Rattle.ft_machine.specs.MachineStates.{IsAt}
use Rattle.ft_machine.proofs.MachineLaws.{at-ends, starts-at, whole}
use Rattle.ft_machine.proofs.PlayLaws.{all-actors, play-is}
use Rattle.ft_machine.proofs.play.replay_into.Goals as goal

-- a taker of no items
none-taken : {T : Type 0} (took : Job → List Item → T → T → Type 0) (job : Job) (taker : T) → took job [] taker taker → [] ≡ (start job).past
    → took job (start job).past taker taker
none-taken took job taker none past = subst (λ (items : List Item). took job items taker taker) past none

-- what it has taken after the replay
plays : {T : Type 0} (took : Job → List Item → T → T → Type 0) (job : Job) (actors : List Actor) (w : Parts) (first taker : T) → actors ≡ actors_of job
    → IsAt job (played job actors (start job)) w × took job (played job actors (start job)).past first taker
    → IsAt job (play job) w × took job (play job).past first taker
plays took job actors w first taker all here =
    subst (λ (s : World). IsAt job s w × took job s.past first taker) (play-is job actors (start job) (played job actors (start job)) all refl refl) here

pub play-requires : goal.play-requires
play-requires g c =
    let w = c.in_ok-world.ensures in (
      c.args.job.now,
      start c.args.job.now,
      c.args.taker.now,
      starts-at c.args.job.now c.in_ok-world.world w.limited w.of w.opening,
      none-taken g.T.Taker.took c.args.job.now c.args.taker.now c.requires (ap (λ (s : World). s.past) w.opening),
    )

pub returns-in_err-world-clause-fault : goal.returns-in_err-world-clause-fault
returns-in_err-world-clause-fault g c = on-err c.from_residual.result _ ([], ((play c.args.job.now).past, sym (append-nil (play c.args.job.now).past)), none-legal c.args.job.now, c.requires)

pub returns-in_err-play-clause-fault : goal.returns-in_err-play-clause-fault
returns-in_err-play-clause-fault g c =
    let w = c.in_ok-world.ensures in
    let e = c.in_err-play.ensures.err c.args.job.now (start c.args.job.now) c.args.taker.now
    (starts-at c.args.job.now c.in_ok-world.world w.limited w.of w.opening)
    (none-taken g.T.Taker.took c.args.job.now c.args.taker.now c.requires (ap (λ (s : World). s.past) w.opening)) in
    let all = c.new-player.ensures ∙ all-actors c.args.job.now _ c.shape.result c.schedule.ensures c.shape.ensures.counts in
    let is = play-is c.args.job.now _ (start c.args.job.now) _ all refl refl in
    on-err c.from_residual-in_err-play.result _ (e.0.past, (e.3.0, ap (λ (s : World). s.past) (sym is) ∙ e.3.1), e.1.runs.kept.legal, e.2)

pub returns-clause-taken : goal.returns-clause-taken
returns-clause-taken g c =
    let w = c.in_ok-world.ensures in
    (plays g.T.Taker.took c.args.job.now _ c.play.new.world c.args.taker.now c.play.new.taker
    (c.new-player.ensures ∙ all-actors c.args.job.now _ c.shape.result c.schedule.ensures c.shape.ensures.counts)
    (c.in_ok-play.ensures.ok c.args.job.now (start c.args.job.now) c.args.taker.now (starts-at c.args.job.now c.in_ok-world.world w.limited w.of w.opening)
    (none-taken g.T.Taker.took c.args.job.now c.args.taker.now c.requires (ap (λ (s : World). s.past) w.opening)))).1

pub returns-clause-ended : goal.returns-clause-ended
returns-clause-ended g c =
    let w = c.in_ok-world.ensures in
    let at = (plays g.T.Taker.took c.args.job.now _ c.play.new.world c.args.taker.now c.play.new.taker
    (c.new-player.ensures ∙ all-actors c.args.job.now _ c.shape.result c.schedule.ensures c.shape.ensures.counts)
    (c.in_ok-play.ensures.ok c.args.job.now (start c.args.job.now) c.args.taker.now (starts-at c.args.job.now c.in_ok-world.world w.limited w.of w.opening)
    (none-taken g.T.Taker.took c.args.job.now c.args.taker.now c.requires (ap (λ (s : World). s.past) w.opening)))).0 in
    at-ends c.args.job.now (play c.args.job.now) _ c.all_end.result at c.all_end.ensures

pub returns-clause-legal : goal.returns-clause-legal
returns-clause-legal g c =
    let w = c.in_ok-world.ensures in
    let at = (plays g.T.Taker.took c.args.job.now _ c.play.new.world c.args.taker.now c.play.new.taker
    (c.new-player.ensures ∙ all-actors c.args.job.now _ c.shape.result c.schedule.ensures c.shape.ensures.counts)
    (c.in_ok-play.ensures.ok c.args.job.now (start c.args.job.now) c.args.taker.now (starts-at c.args.job.now c.in_ok-world.world w.limited w.of w.opening)
    (none-taken g.T.Taker.took c.args.job.now c.args.taker.now c.requires (ap (λ (s : World). s.past) w.opening)))).0 in
    at.runs.kept.legal

pub returns-clause-whole : goal.returns-clause-whole
returns-clause-whole g c = λ over.
    (let w = c.in_ok-world.ensures in
    let at = (plays g.T.Taker.took c.args.job.now _ c.play.new.world c.args.taker.now c.play.new.taker
    (c.new-player.ensures ∙ all-actors c.args.job.now _ c.shape.result c.schedule.ensures c.shape.ensures.counts)
    (c.in_ok-play.ensures.ok c.args.job.now (start c.args.job.now) c.args.taker.now (starts-at c.args.job.now c.in_ok-world.world w.limited w.of w.opening)
    (none-taken g.T.Taker.took c.args.job.now c.args.taker.now c.requires (ap (λ (s : World). s.past) w.opening)))).0 in
    whole c.args.job.now (play c.args.job.now) at.limited at.runs _ refl
    (sym (at-ends c.args.job.now (play c.args.job.now) _ c.all_end.result at c.all_end.ensures) ∙ over))
