use Rattle.std.proofs.Common.{◌≡◌, List, Option, Some, None, sym, subst}
use Rattle.ft_base.specs.declared.item.Item.{Item}
use Rattle.ft_base.specs.Job.{Job}
use Rattle.word_machine.specs.Laws.{Runs}
use Rattle.word_machine.specs.Limits.{IsLimited}
use Rattle.word_machine.specs.Machine.{World, step}
use Rattle.ft_machine.specs.Worlds.{IsFor, Parts, marked_on, world_of}
use Rattle.ft_machine.specs.MachineStates.{IsAt}
use Rattle.ft_machine.proofs.MachineLaws.{step-legal, step-past, steps-at}
use Rattle.ft_machine.proofs.play.step_into.Goals as goal
use Rattle.ft_base.specs.declared.turn.Actor.{Actor}

-- the world has stepped, and has marked this or nothing
moved : (job : Job) (s : World) (w w' : Parts) (a : Actor) (at : IsAt job s w) (result o : Option Item) → result ≡ o
    → ((j : Job) (past : List Item) → IsLimited j → IsFor j past w → Runs j (world_of j past w)
    → IsFor j (marked_on result past) w' × (world_of j (marked_on result past) w' ≡ step j a (world_of j past w)))
    → IsFor job (marked_on o s.past) w' × (world_of job (marked_on o s.past) w' ≡ step job a (world_of job s.past w))
moved job s w w' a at result o is h =
    subst (λ (x : Option Item). IsFor job (marked_on x s.past) w' × (world_of job (marked_on x s.past) w' ≡ step job a (world_of job s.past w))) is
    (h job s.past at.limited at.is_for (subst (λ t. Runs job t) (sym at.is) at.runs))

-- the state after the step, and the taker that has taken what was marked
reached : {T : Type 0} (took : Job → List Item → T → T → Type 0) (job : Job) (s : World) (w w' : Parts) (a : Actor) (o : Option Item) (first taker : T) (at : IsAt job s w)
    → IsFor job (marked_on o s.past) w' × (world_of job (marked_on o s.past) w' ≡ step job a (world_of job s.past w)) → took job (marked_on o s.past) first taker
    → IsAt job (step job a s) w' × took job (step job a s).past first taker
reached took job s w w' a o first taker at m taken =
    (steps-at job s w w' a o at m, subst (λ (past : List Item). took job past first taker) (step-past job s w w' a o at m) taken)

pub take-requires-clause-next : goal.take-requires-clause-next
take-requires-clause-next g c =
    let r = c.requires.took in
    let m = moved r.0 r.1 _ c.step.new.self c.args.actor r.3 c.step.result (Some c.in-Some.item) c.in-Some.is c.step.ensures in
    (r.0, r.1.past, r.2, r.3.limited, r.4, step-legal r.0 r.1 _ _ c.args.actor (Some c.in-Some.item) r.3 m)

pub returns-in_ok-make_room-clause-took : goal.returns-in_ok-make_room-clause-took
returns-in_ok-make_room-clause-took g c = λ job s first at took.
    (let m = moved job s _ c.step.new.self c.args.actor at c.step.result (Some c.in-Some.item) c.in-Some.is c.step.ensures in
    let taken = c.take.ensures job s.past first at.limited took (step-legal job s _ _ c.args.actor (Some c.in-Some.item) at m) in
    reached g.T.Taker.took job s _ _ c.args.actor (Some c.in-Some.item) first c.make_room.new.self at m (c.make_room.ensures.took job _ first taken))

pub returns-in_err-make_room-clause-took : goal.returns-in_err-make_room-clause-took
returns-in_err-make_room-clause-took g c = λ job s first at took.
    (let m = moved job s _ c.step.new.self c.args.actor at c.step.result (Some c.in-Some.item) c.in-Some.is c.step.ensures in
    let taken = c.take.ensures job s.past first at.limited took (step-legal job s _ _ c.args.actor (Some c.in-Some.item) at m) in
    reached g.T.Taker.took job s _ _ c.args.actor (Some c.in-Some.item) first c.make_room.new.self at m (c.make_room.ensures.took job _ first taken))

pub returns-in_default-clause-took : goal.returns-in_default-clause-took
returns-in_default-clause-took g c = λ job s first at took.
    (let m = moved job s _ c.step.new.self c.args.actor at c.step.result None c.in_default.is c.step.ensures in
    reached g.T.Taker.took job s _ _ c.args.actor None first c.args.taker.now at m took)
