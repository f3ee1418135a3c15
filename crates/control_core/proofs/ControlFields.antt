-- The fields of control keep what they should.
use Rattle.std.proofs.Common.{◌≡◌, ℕ, suc, ◌+◌, ◌*◌, ◌<◌, ◌≤◌, true, refl, sym, ap, ap₂, ◌∙◌, subst, arith}
use Rattle.ft_base.proofs.Small.{false_true}
use Rattle.word_map.specs.declared.shape.Shape.{Shape}
use Rattle.word_map.specs.Places.{words_for}
use Rattle.grace_core.specs.declared.waiter.WaitPhase.{WaitPhase}
use Rattle.grace_core.specs.declared.waiter.WaitPhase.TheVariants.{Asking, Waiting, Ended as WaitEnded}
use Rattle.hash_pages.specs.Pages.{Page}
use Rattle.patch_core.specs.Moves.{Batched, Move, Put, Sync, Done, batch_next, is_store}
use Rattle.ft_desk.specs.Plans.{PlainPlan}
use Rattle.control_core.specs.declared.phase.Phase.{Phase}
use Rattle.control_core.specs.declared.phase.Phase.TheVariants as phase
use Rattle.control_core.specs.declared.control.Control.TheInside.{Inside}
use Rattle.control_core.specs.Phases.{batch_to, list_to, move_to}
use Rattle.control_core.specs.Seated.{Seated}
use Rattle.control_core.specs.ControlInvariant.{HasLeft, ControlInvariant, asked, asked_by, busy, moves, seated_of, requests_of_line}
use Rattle.std.specs.Prelude.{is_some}
use Rattle.control_core.specs.Steps.{moved, page_after, write_next}
use Rattle.control_core.proofs.Pages.{has-left}
use Rattle.control_core.proofs.Safe.{Goes, in-phase, batch-goes, list-goes, with_made}

-- in another phase, and so many moves of the batch made
pub go : (d : Inside) (b : Batched) (p : Phase) → ControlInvariant d → busy d.phase ≡ 1 → b.shape ≡ d.map → b.made ≤ moves
    → Goes (with_made (seated_of d) b.made) p → d.request ≤ requests_of_line * d.line + b.made + asked p → ControlInvariant (record d { batch = b; phase = p })
go d b p k busy-is shape made g r = record {
  safe = in-phase (seated_of d) b.made p k.safe busy-is made g r;
  lines = k.lines;
  led = k.led;
  space = k.space;
  batch = shape;
  room = (let e : busy p ≡ busy d.phase = g.begun ∙ sym busy-is in rw e k.room);
}

-- a wait has stored one request at most
asked-by_one : (w : WaitPhase) → asked_by w ≤ 1
asked-by_one Asking = omega arith
asked-by_one (Waiting n) = omega arith
asked-by_one WaitEnded = omega arith

pub asked-one : (p : Phase) → asked p ≤ 1
asked-one phase.Line = omega arith
asked-one phase.Taking = omega arith
asked-one (phase.Writing page) = omega arith
asked-one phase.Selecting = omega arith
asked-one (phase.Linking linker) = omega arith
asked-one phase.StoringPids = omega arith
asked-one phase.StoringDepth = omega arith
asked-one phase.Patching = omega arith
asked-one (phase.Syncing wait) = asked-by_one wait.phase
asked-one (phase.Quieting wait) = asked-by_one wait.phase
asked-one phase.Releasing = omega arith
asked-one phase.Closing = omega arith

-- after one more move of the batch
pub batch-go : (d : Inside) (b : Batched) (p : Phase) (plan : PlainPlan) → ControlInvariant d → busy d.phase ≡ 1 → d.batch.made < moves
    → b ≡ record { shape = d.batch.shape; made = suc d.batch.made } → plan ≡ d.desk.plan
    → p ≡ batch_to d.map plan b.made d.request → ControlInvariant (record d { batch = b; phase = p })
batch-go d b p plan k busy-is lt eb ep e =
    let made-is : b.made ≡ suc d.batch.made = ap (λ (x : Batched). x.made) eb in
    let shape-is : b.shape ≡ d.batch.shape = ap (λ (x : Batched). x.shape) eb in
    let goes : Goes (with_made (seated_of d) b.made) p = subst (Goes (with_made (seated_of d) b.made))
    (sym (e ∙ ap (λ (q : PlainPlan). batch_to d.map q b.made d.request) ep))
    (batch-goes (with_made (seated_of d) b.made) d.request k.safe.plan.few) in
    let few : d.request ≤ requests_of_line * d.line + d.batch.made + asked d.phase = k.safe.requests in
    let one : asked d.phase ≤ 1 = asked-one d.phase in
    go d b p k busy-is (shape-is ∙ k.batch) (omega arith) goes (omega arith)

-- before a store of the batch
patching-to : (shape : Shape) (p : PlainPlan) (made request : ℕ) → is_store (batch_next p.sites made) ≡ true → batch_to shape p made request ≡ phase.Patching
patching-to shape p made request = by (batch_next p.sites made)
  where
    by : (m : Move) → is_store m ≡ true → move_to shape p request m ≡ phase.Patching
    by (Put w x) e = refl
    by Sync e = false_true e
    by Done e = false_true e

-- after one more store of the batch, if another one follows
module _ (d : Inside) (b : Batched) (plan : PlainPlan) (at' : d.phase ≡ phase.Patching) (eb : b ≡ record { shape = d.batch.shape; made = suc d.batch.made })
    (ep : plan ≡ d.desk.plan) (test : is_store (batch_next plan.sites b.made) ≡ true) where
  pub store-go : ControlInvariant d → ControlInvariant (record d { batch = b })
  store-go k = batch-go d b d.phase plan k (ap busy at') (subst (HasLeft (seated_of d)) at' k.safe.left) eb ep
      (at' ∙ sym (patching-to d.map plan b.made d.request test))

  pub store-seen : (s : Seated) → seated_of d ≡ s → seated_of (record d { batch = b }) ≡ moved s (suc s.made)
  store-seen s v =
      let made-is : b.made ≡ suc d.batch.made = ap (λ (x : Batched). x.made) eb in
      let next : is_store (batch_next d.desk.plan.sites (suc d.batch.made)) ≡ true =
      sym (ap₂ (λ (q : PlainPlan) (n : ℕ). is_store (batch_next q.sites n)) ep made-is) ∙ test in
      ap₂ (λ (n : ℕ) (p : Phase). record (seated_of d) { made = n; phase = p }) made-is (at' ∙ sym (patching-to d.map d.desk.plan (suc d.batch.made) d.request next))
      ∙ ap (λ (c : Seated). moved c (suc c.made)) v

-- in another phase, none of whose requests is stored
pub list-go : (d : Inside) (p : Phase) (plan : PlainPlan) → ControlInvariant d → busy d.phase ≡ 1 → asked d.phase ≡ 0
    → plan ≡ d.desk.plan → p ≡ list_to d.map plan d.batch.made d.request → ControlInvariant (record d { phase = p })
list-go d p plan k busy-is asked-is ep e =
    let goes : Goes (seated_of d) p = subst (Goes (seated_of d))
    (sym (e ∙ ap (λ (q : PlainPlan). list_to d.map q d.batch.made d.request) ep))
    (list-goes (seated_of d) d.request k.safe.plan.few) in
    let few : d.request ≤ requests_of_line * d.line + d.batch.made + asked d.phase = k.safe.requests in
    go d d.batch p k busy-is k.batch k.safe.moved goes (omega arith)

pub patch-go : (d : Inside) (p : Phase) (plan : PlainPlan) → ControlInvariant d → busy d.phase ≡ 1 → asked d.phase ≡ 0
    → plan ≡ d.desk.plan → p ≡ batch_to d.map plan d.batch.made d.request → ControlInvariant (record d { phase = p })
patch-go d p plan k busy-is asked-is ep e =
    let goes : Goes (seated_of d) p = subst (Goes (seated_of d))
    (sym (e ∙ ap (λ (q : PlainPlan). batch_to d.map q d.batch.made d.request) ep))
    (batch-goes (seated_of d) d.request k.safe.plan.few) in
    let few : d.request ≤ requests_of_line * d.line + d.batch.made + asked d.phase = k.safe.requests in
    go d d.batch p k busy-is k.batch k.safe.moved goes (omega arith)

-- the fields of control that is seen so
pub phase-seen : (d : Inside) (s : Seated) (p : Phase) → seated_of d ≡ s → s.phase ≡ p → d.phase ≡ p
phase-seen d s p v e = ap (λ (c : Seated). c.phase) v ∙ e

-- in a command, as it is seen
pub busy-seen : (d : Inside) (s : Seated) → seated_of d ≡ s → busy s.phase ≡ 1 → busy d.phase ≡ 1
busy-seen d s v e = ap (λ (c : Seated). busy c.phase) v ∙ e

pub made-seen : (d : Inside) (s : Seated) → seated_of d ≡ s → s.made < moves → d.batch.made < moves
made-seen d s v h = subst (λ (c : Seated). c.made < moves) (sym v) h

pub asked-seen : (d : Inside) (s : Seated) → seated_of d ≡ s → asked s.phase ≡ 0 → asked d.phase ≡ 0
asked-seen d s v e = ap (λ (c : Seated). asked c.phase) v ∙ e

-- after a store of a page that has another one
pub page-go : (d : Inside) (page next : Page) → ControlInvariant d → d.phase ≡ phase.Writing page → next ≡ page_after page
    → is_some (write_next d.desk.state next d.desk.plan.user) ≡ true → ControlInvariant (record d { phase = phase.Writing next })
page-go d page next k at' e test =
    let left : (page.shape ≡ d.map) × (page.stored ≤ 2 * words_for page.shape.funcs) = subst (HasLeft (seated_of d)) at' k.safe.left in
    let few : d.request ≤ requests_of_line * d.line + d.batch.made + asked d.phase = k.safe.requests in
    let none : asked d.phase ≡ 0 = ap asked at' in
    go d d.batch (phase.Writing next) k (ap busy at') k.batch k.safe.moved
    (record { begun = refl; left = (ap (λ (p : Page). p.shape) e ∙ left.0, has-left d.desk.state next d.desk.plan.user test) })
    (omega arith)
