-- A wait of control is the word machine's: its operation, and control after it.
use Rattle.std.proofs.Common.{cond, ◌≡◌, ℕ, suc, false, nat_le, nat_lt, refl, sym, ap, ◌∙◌}
use Rattle.ft_base.specs.Job.{Job}
use Rattle.word_map.specs.declared.shape.Shape.{Shape}
use Rattle.word_map.specs.Shapes.{shape_of}
use Rattle.grace_core.specs.declared.waiter.WaitPhase.{WaitPhase}
use Rattle.grace_core.specs.declared.waiter.WaitPhase.TheVariants.{Asking, Waiting, Ended}
use Rattle.grace_core.specs.Waits.{Wait, awaited, reached, wait_after, wait_got, wait_next, waiting_for}
use Rattle.word_machine.specs.Commands.{effect}
use Rattle.word_machine.specs.Control.{Awaited, Control, Position, Await, Cpus, Tasks, after_wait, got_in, in_wait, is_for_tasks, next_in}
use Rattle.word_machine.specs.Values.{copies_in}
use Rattle.word_machine.proofs.Small.{if_case}
use Rattle.control_core.specs.declared.phase.Phase.{Phase}
use Rattle.control_core.specs.declared.phase.Phase.TheVariants as phase
use Rattle.control_core.specs.Phases.{is_over, wait_in}
use Rattle.control_core.specs.Positions.{moves_left, released_by, waiting_at}
use Rattle.control_core.specs.Seated.{Seated, Fits, IsFor, IsUnder, IsWaitOf}
use Rattle.control_core.specs.ControlInvariant.{IsSafe}
use Rattle.control_core.specs.Steps.{at_phase, requests_after, with_request}
use Rattle.control_core.proofs.GotLaw.{Goes, at-plan, went}
use Rattle.control_core.proofs.Leads.{Leads, Went, batch-leads, lead-to, machine_at, release-leads}
use Rattle.control_core.proofs.PositionsBatch.{batch-goes_on}
use Rattle.control_core.proofs.PositionsPlans.{released-is}

-- after its operation a wait looks at a word, or is over
module _ (w : Wait) (v : ℕ) (P : WaitPhase → Type 0) (looks : (n : ℕ) → P (Waiting n)) (over : P Ended) where
  looks-at : (n : ℕ) → P (waiting_for (awaited w) n)
  looks-at n = if_case P (nat_lt n (awaited w)) (Waiting n) Ended (λ e. looks n) (λ e. over)

  goes-on : (p : WaitPhase) → P (wait_after w p v)
  goes-on Asking = looks-at 0
  goes-on (Waiting n) =
      if_case P (nat_le w.request (reached w.quiet v)) (waiting_for (awaited w) (suc n)) (Waiting n) (λ e. looks-at (suc n)) (λ e. looks n)
  goes-on Ended = over

-- the machine's wait, in a phase
module _ (job : Job) (s : Control) (whom : Awaited) where
  abbrev its : WaitPhase → Wait
  its p = wait_in (shape_of job) (is_for_tasks whom) s.request p

  op-in : (p : WaitPhase) → is_over p ≡ false → wait_next (its p) ≡ next_in job s (waiting_at whom p)
  op-in Asking on = refl
  op-in (Waiting n) on = refl
  op-in Ended on = absurd cc

  got-in : (p : WaitPhase) (v : ℕ) → is_over p ≡ false → got_in job s (waiting_at whom p) v
      ≡ record s { request = (its p).request; position = in_wait job s.commands_done whom (wait_got (its p) v).phase }
  got-in Asking v on = refl
  got-in (Waiting n) v on = refl
  got-in Ended v on = absurd cc

-- control's wait, which is that of the machine's control
module _ (job : Job) (c : Seated) (is : IsFor job c) (whom : Awaited) (w : Wait) (of : IsWaitOf c (is_for_tasks whom) w) where
  abbrev now : Control
  now = machine_at c (waiting_at whom w.phase) (copies_in c.desk.copies) c.desk.order

  same : w ≡ its job now whom w.phase
  same = of.0 ∙ ap (λ (s : Shape). wait_in s (is_for_tasks whom) c.request w.phase) is.shape

  pub wait-op : wait_next w ≡ next_in job now (waiting_at whom w.phase)
  wait-op = ap wait_next same ∙ op-in job now whom w.phase of.1

  -- once its request is stored
  abbrev own : Seated
  own = with_request c (requests_after c.request w)

  abbrev then' : Position → Control
  then' at' = machine_at own at' (copies_in c.desk.copies) c.desk.order

  -- control goes on in the wait, by a phase that has it, and once it is over in another phase
  pub wait-went : IsUnder job c → (v : ℕ) (at-wait : Wait → Phase)
      → ((n : ℕ) → IsWaitOf own (is_for_tasks whom) (record w { phase = Waiting n })
      → Leads job own (at-wait (record w { phase = Waiting n })) (Await whom n) (copies_in c.desk.copies) c.desk.order)
      → (made : ℕ) (p : Phase) (at' : Position)
      → Leads job (record own { made = made }) p at' (copies_in c.desk.copies) c.desk.order → after_wait job c.commands_done whom ≡ at'
      → Went job (cond (is_over (wait_got w v).phase) (record own { made = made; phase = p }) (at_phase own (at-wait (wait_got w v))))
      (got_in job now (waiting_at whom w.phase) v)
  wait-went u v at-wait on made p at' over goes =
      went job _ _ _
      (goes-on w v
      (λ q. Went job (cond (is_over q) (record own { made = made; phase = p }) (at_phase own (at-wait (record w { phase = q }))))
      (then' (in_wait job c.commands_done whom q)))
      (λ n. lead-to job c c.made own.request _ _ _ _ is u (on n (ap (λ (x : Wait). record x { phase = Waiting n }) of.0, refl)))
      (went job _ _ _ (lead-to job c made own.request _ _ _ _ is u over) (ap then' (sym goes)))
      w.phase)
      (ap (λ (x : Wait). then' (in_wait job c.commands_done whom (wait_got x v).phase)) same ∙ sym (got-in job now whom w.phase v of.1))

module _ (job : Job) (c : Seated) (safe : IsSafe c) (is : IsFor job c) (u : IsUnder job c) (v : ℕ) (w : Wait) where
  -- a sync of the batch
  pub syncing : Fits c (phase.Syncing w) → Goes job c safe is u v (phase.Syncing w)
  syncing f =
      wait-went job c is (Cpus (moves_left c.desk.plan (suc c.made))) w f.1 u v phase.Syncing
      (λ n on. record { stands = refl; copies_are = refl; order_is = refl; fits = (f.0, on); under = λ u. u })
      (suc c.made) _ _ (batch-leads job (record c { made = suc c.made; request = requests_after c.request w }))
      (batch-goes_on job c.commands_done (copies_in c.before.copies) c.before.order c.desk.plan (at-plan job c safe is u v) c.made
      (λ none. let sync = f.0 in cc) (suc c.made))

  -- the wait for quiet points
  pub quieting : Fits c (phase.Quieting w) → Goes job c safe is u v (phase.Quieting w)
  quieting f =
      wait-went job c is Tasks w f.1 u v phase.Quieting
      (λ n on. record { stands = refl; copies_are = refl; order_is = refl; fits = (f.0, on); under = λ u. u })
      c.made _ _ (release-leads job (record c { request = requests_after c.request w }))
      (released-is job c.commands_done (copies_in c.before.copies) c.before.order (effect job c.commands_done)
      ∙ ap released_by (sym (at-plan job c safe is u v)))
