use Rattle.std.proofs.Common.{◌≡◌, ◌∷◌, List, Option, Some, None, subst}
use Rattle.std.proofs.Math.Logic.{∥∥₁_elim, ∥∥₁_map}
use Rattle.std.specs.Coded.{le_prop}
use Rattle.ft_base.specs.declared.item.Item.{Item}
use Rattle.ft_base.specs.declared.turn.Actor.{Actor}
use Rattle.ft_base.specs.Job.{Job}
use Rattle.ft_hist.specs.Shown.{Shown}
use Rattle.word_machine.specs.Laws.{Runs}
use Rattle.word_machine.specs.Limits.{IsLimited}
use Rattle.word_machine.specs.Machine.{step}
use Rattle.ft_machine.specs.Worlds.{IsFor, Parts, marked_on, world_of}
use Rattle.ft_machine.specs.MachineStates.{HasPast, IsMachineOf, past_in}
use Rattle.ft_machine.proofs.MachineLaws.{machine-has, push-room, stepped, stepped-state, takes}
use Rattle.ft_machine.proofs.machine.Machine.step.Goals as goal
use Rattle.ft_machine.proofs.machine.Machine.step.Goals.{After-push, In_default}

-- the world has stepped, and has marked this or nothing
moved : (job : Job) (h : Shown) (w w' : Parts) (a : Actor) → IsMachineOf job w h → (result o : Option Item) → result ≡ o
    → ((j : Job) (past : List Item) → IsLimited j → IsFor j past w → Runs j (world_of j past w)
    → IsFor j (marked_on result past) w' × (world_of j (marked_on result past) w' ≡ step j a (world_of j past w)))
    → IsFor job (marked_on o (past_in h)) w' × (world_of job (marked_on o (past_in h)) w' ≡ step job a (world_of job (past_in h) w))
moved job h w w' a m result o is said =
    subst (λ (x : Option Item). IsFor job (marked_on x (past_in h)) w' × (world_of job (marked_on x (past_in h)) w' ≡ step job a (world_of job (past_in h) w))) is
    (said job (past_in h) m.limited m.is_for m.runs)

pub push-requires : goal.push-requires
push-requires c =
    ∥∥₁_elim c.args.self.now.kept le_prop
    (λ k. push-room k.job _ c.step.new.self c.args.self.now.history c.args.actor c.in-Some.item k.of'
    (moved k.job _ _ _ c.args.actor k.of' c.step.result (Some c.in-Some.item) c.in-Some.is c.step.ensures))

-- ## after an item

module _ (c : goal.After-push) (job : Job) (m : IsMachineOf job c.args.self.now.world c.args.self.now.history) where
  has : HasPast job (c.in-Some.item ∷ past_in c.args.self.now.history) c.push.new.self
  has = takes job _ c.args.self.now.history c.push.new.self c.in-Some.item (machine-has job c.args.self.now.world _ m) c.push.ensures.added c.push.ensures.room

  pub more : IsMachineOf job c.step.new.self c.push.new.self
  more =
      stepped job _ _ c.args.self.now.history _ c.args.actor (Some c.in-Some.item) m
      (moved job _ _ _ c.args.actor m c.step.result (Some c.in-Some.item) c.in-Some.is c.step.ensures) has

  pub more-state : world_of job (past_in c.push.new.self) c.step.new.self
      ≡ step job c.args.actor (world_of job (past_in c.args.self.now.history) c.args.self.now.world)
  more-state =
      stepped-state job _ _ c.args.self.now.history _ c.args.actor (Some c.in-Some.item) m
      (moved job _ _ _ c.args.actor m c.step.result (Some c.in-Some.item) c.in-Some.is c.step.ensures) has

pub returns-in-Some-clause-of : goal.returns-in-Some-clause-of
returns-in-Some-clause-of c = λ job is. more (goal.at.returns-in-Some-clause-of c).After-push job is

pub returns-in-Some-clause-state : goal.returns-in-Some-clause-state
returns-in-Some-clause-state c = λ job is. more-state (goal.at.returns-in-Some-clause-state c).After-push job is

-- ## after a step that has marked nothing

module _ (c : goal.In_default) (job : Job) (m : IsMachineOf job c.args.self.now.world c.args.self.now.history) where
  pub same : IsMachineOf job c.step.new.self c.args.self.now.history
  same =
      stepped job _ _ c.args.self.now.history _ c.args.actor None m
      (moved job _ _ _ c.args.actor m c.step.result None c.in_default.is c.step.ensures) (machine-has job c.args.self.now.world _ m)

  pub same-state : world_of job (past_in c.args.self.now.history) c.step.new.self
      ≡ step job c.args.actor (world_of job (past_in c.args.self.now.history) c.args.self.now.world)
  same-state =
      stepped-state job _ _ c.args.self.now.history _ c.args.actor None m
      (moved job _ _ _ c.args.actor m c.step.result None c.in_default.is c.step.ensures) (machine-has job c.args.self.now.world _ m)

pub returns-in_default-clause-of : goal.returns-in_default-clause-of
returns-in_default-clause-of c = λ job is. same (goal.at.returns-in_default-clause-of c).In_default job is

pub returns-in_default-clause-state : goal.returns-in_default-clause-state
returns-in_default-clause-state c = λ job is. same-state (goal.at.returns-in_default-clause-state c).In_default job is

pub invariant_of-self : goal.invariant_of-self
invariant_of-self c = record { kept = ∥∥₁_map c.args.self.now.kept (λ k. record { job = k.job; of' = more c k.job k.of' }) }

pub invariant_of-self-in_default : goal.invariant_of-self-in_default
invariant_of-self-in_default c = record { kept = ∥∥₁_map c.args.self.now.kept (λ k. record { job = k.job; of' = same c k.job k.of' }) }
