-- Where control goes on in a command, by its plan.
use Rattle.std.proofs.Common.{cond, ◌≡◌, ℕ, suc, Bool, true, false, List, Option, Some, None, refl, sym, ap, ◌∙◌, drop, take, length}
use Rattle.std.specs.Prelude.{is_some}
use Rattle.ft_base.specs.declared.number.UserNo.{UserNo}
use Rattle.ft_base.specs.Job.{Job, commands_in}
use Rattle.ft_base.specs.Desk.{desk}
use Rattle.word_map.specs.Shapes.{shape_of}
use Rattle.ft_desk.specs.Declarations.{IsOf}
use Rattle.word_map.specs.declared.shape.Shape.{Shape}
use Rattle.word_map.specs.Places.{words_for}
use Rattle.grace_core.specs.Waits.{wait_start}
use Rattle.patch_core.specs.Moves.{Move, Put, Sync, Done, batch_next}
use Rattle.ft_desk.specs.declared.plan.TrampChange.{TrampChange}
use Rattle.ft_desk.specs.declared.plan.TrampChange.TheVariants.{Keep as KeepTramp, Set, Clear}
use Rattle.ft_desk.specs.declared.plan.ListChange.{ListChange}
use Rattle.ft_desk.specs.declared.plan.ListChange.TheVariants.{Keep as KeepList, Push, Unlink}
use Rattle.ft_desk.specs.Plans.{PlainPlan}
use Rattle.word_machine.specs.Commands.{Effect, Adds, Removes, effect}
use Rattle.word_machine.specs.Control.{Control, Position, Ask, Tasks, Close, Select, StoreDepth, StorePids, copy_from}
use Rattle.word_machine.specs.Values.{copies_in}
use Rattle.control_core.specs.declared.phase.Phase.{Phase}
use Rattle.control_core.specs.declared.phase.Phase.TheVariants as phase
use Rattle.control_core.specs.Phases.{batch_to, begin_in, begin_to, list_in, list_to, move_to, number_to, quiet_to, release_in, store_in, store_to, write_to}
use Rattle.control_core.specs.Followed.{plan_followed}
use Rattle.control_core.specs.Positions.{begun_by, begun_to, listed_by, listed_to, moves_left, moving_by, moving_to, plan_at, quiet_by, released_to, stored_by, writing_at}
use Rattle.control_core.specs.Seated.{Seated, Fits, IsDeskOf, IsFor, IsUnder, control_of, desk_by, is_linked, is_selected, position_of}
use Rattle.control_core.specs.Steps.{at_phase}
use Rattle.control_core.proofs.PositionsEffects.{no-pair, no-sel, push-user}
use Rattle.control_core.proofs.NextPositions.{copies-kept, order-kept}
use Rattle.control_core.proofs.PositionsWriting.{copy-first}
use Rattle.control_core.proofs.Under.{Base, copies-is, order-is, plan-is}

-- in a phase control stands at a position, with these copies in use and these users on the list
pub record Leads (job : Job) (c : Seated) (p : Phase) (at' : Position) (copies : ℕ → ℕ) (order : List ℕ) : Type 0 where
  pub stands : position_of (at_phase c p) p ≡ at'
  pub copies_are : copies_in (desk_by (is_selected p) c).copies ≡ copies
  pub order_is : (desk_by (is_linked p) c).order ≡ order
  pub fits : Fits (at_phase c p) p
  pub under : IsUnder job c → IsDeskOf job (at_phase c p) p

-- the machine's control at a position
abbrev pub machine_at : Seated → Position → (ℕ → ℕ) → List ℕ → Control
machine_at c at' copies order = record {
  commands_done = c.commands_done;
  remaining = drop c.line c.lines;
  request = c.request;
  copies = copies;
  order = order;
  position = at';
}

-- control of the job that is this control of the word machine
pub record Went (job : Job) (c : Seated) (s : Control) : Type 0 where
  pub is_for : IsFor job c
  pub control : control_of c ≡ s

-- what holds of control of a job in each phase
pub record On (job : Job) (c : Seated) : Type 0 where
  pub shape : c.shape ≡ shape_of job
  pub lines : c.lines ≡ job.ctls
  pub declared : IsOf job c.before.declared
  pub before : c.before.state ≡ desk job c.commands_done
  pub numbered : c.before.commands ≡ c.commands_done
  pub counted : c.commands_done ≡ length (commands_in (take c.line c.lines))

-- in that phase
pub lead-on : (job : Job) (c : Seated) (made request : ℕ) (p : Phase) (at' : Position) (copies : ℕ → ℕ) (order : List ℕ) → On job c → IsUnder job c
    → Leads job (record c { made = made; request = request }) p at' copies order
    → Went job (record c { made = made; request = request; phase = p }) (machine_at (record c { request = request }) at' copies order)
lead-on job c made request p at' copies order is u l = record {
  is_for = record {
    shape = is.shape;
    lines = is.lines;
    declared = is.declared;
    before = is.before;
    numbered = is.numbered;
    counted = is.counted;
    now = l.under u;
    fits = l.fits;
  };
  control = λ i. machine_at (record c { request = request }) (l.stands i) (l.copies_are i) (l.order_is i);
}

pub lead-to : (job : Job) (c : Seated) (made request : ℕ) (p : Phase) (at' : Position) (copies : ℕ → ℕ) (order : List ℕ) → IsFor job c → IsUnder job c
    → Leads job (record c { made = made; request = request }) p at' copies order
    → Went job (record c { made = made; request = request; phase = p }) (machine_at (record c { request = request }) at' copies order)
lead-to job c made request p at' copies order is u l =
    lead-on job c made request p at' copies order
    (record { shape = is.shape; lines = is.lines; declared = is.declared; before = is.before; numbered = is.numbered; counted = is.counted }) u l

module _ (job : Job) (c : Seated) where
  -- ## after the user's state and the list

  abbrev now : Phase → Position → Type 0
  now p at' = Leads job c p at' (copies_in c.desk.copies) c.desk.order

  closing : now phase.Closing Close
  closing = record { stands = refl; copies_are = refl; order_is = refl; fits = tt; under = λ u. u }

  quiet-by : (b : Bool) → c.desk.plan.quiet ≡ b
      → now (cond b (phase.Quieting (wait_start c.shape true (suc c.request))) phase.Closing) (cond b (Ask Tasks) Close)
  quiet-by true e = record { stands = refl; copies_are = refl; order_is = refl; fits = (e, (refl, refl)); under = λ u. u }
  quiet-by false e = closing

  pub quiet-leads : now (quiet_to c.shape c.desk.plan c.request) (quiet_by c.desk.plan)
  quiet-leads = quiet-by c.desk.plan.quiet refl

  batch-by : (m : Move) → batch_next c.desk.plan.sites c.made ≡ m
      → now (move_to c.shape c.desk.plan c.request m) (moving_to c.desk.plan (moves_left c.desk.plan (suc c.made)) m)
  batch-by (Put w x) e =
      let stands = ap (moving_to c.desk.plan (moves_left c.desk.plan (suc c.made))) e in
      record { stands = stands; copies_are = refl; order_is = refl; fits = (w, x, e); under = λ u. u }
  batch-by Sync e = record { stands = refl; copies_are = refl; order_is = refl; fits = (e, (refl, refl)); under = λ u. u }
  batch-by Done e = quiet-leads

  pub batch-leads : now (batch_to c.shape c.desk.plan c.made c.request) (moving_by c.desk.plan c.made)
  batch-leads = batch-by (batch_next c.desk.plan.sites c.made) refl

  release-by : (t : TrampChange) → c.desk.plan.tramp ≡ t → now (release_in t) (released_to t)
  release-by KeepTramp e = closing
  release-by (Set slot reg) e = closing
  release-by (Clear slot) e = record { stands = refl; copies_are = refl; order_is = refl; fits = (slot, e); under = λ u. u }

  pub release-leads : now (release_in c.desk.plan.tramp) (released_to c.desk.plan.tramp)
  release-leads = release-by c.desk.plan.tramp refl

  -- ## by the job's plan

  module _ (base : Base job c) (u : IsUnder job c) (none : c.made ≡ 0) where
    abbrev plan : PlainPlan
    plan = plan_at job c.commands_done (copies_in c.before.copies) c.before.order

    at-plan : c.desk.plan ≡ plan
    at-plan = plan-is job c base u

    -- a list that stays
    order-stays : c.desk.plan.list ≡ KeepList → c.desk.order ≡ c.before.order
    order-stays e =
        order-is job c base u
        ∙ order-kept job c.commands_done (copies_in c.before.copies) c.before.order c.before.order (sym (ap (λ (p : PlainPlan). p.list) at-plan) ∙ e)

    -- a command without a user's state leaves the list
    list-kept_by : (e : Effect) → (plan_followed job c.commands_done (copies_in c.before.copies) c.before.order e).sel ≡ None
        → (plan_followed job c.commands_done (copies_in c.before.copies) c.before.order e).list ≡ KeepList
    list-kept_by Adds h = absurd cc
    list-kept_by Removes h = absurd cc
    list-kept_by _ h = refl

    list-kept : c.desk.plan.sel ≡ None → c.desk.plan.list ≡ KeepList
    list-kept e =
        ap (λ (p : PlainPlan). p.list) at-plan
        ∙ list-kept_by (effect job c.commands_done) (sym (ap (λ (p : PlainPlan). p.sel) at-plan) ∙ e)

    -- copies that stay
    copies-stay : c.desk.plan.sel ≡ None → copies_in c.desk.copies ≡ copies_in c.before.copies
    copies-stay e =
        copies-is job c base u
        ∙ sym (copies-kept job c.commands_done (copies_in c.before.copies) c.before.order (copies_in c.before.copies)
        (sym (ap (λ (p : PlainPlan). p.sel) at-plan) ∙ e))

    -- after the user's state
    list-by : (l : ListChange) (v : Option UserNo) → c.desk.plan.list ≡ l → c.desk.plan.user ≡ v
        → Leads job c (list_in c.shape c.desk.plan c.made c.request l v) (listed_to (moving_by c.desk.plan 0) l) (copies_in c.desk.copies) c.before.order
    list-by (Push first) (Some v) e f = record { stands = refl; copies_are = refl; order_is = refl; fits = (none, (e, f)); under = λ u. u }
    list-by (Push first) None e f =
        let user = push-user job c.commands_done (copies_in c.before.copies) c.before.order (effect job c.commands_done) first
        (sym (ap (λ (p : PlainPlan). p.list) at-plan) ∙ e) in
        let gone : plan.user ≡ None = sym (ap (λ (p : PlainPlan). p.user) at-plan) ∙ f in
        absurd cc
    list-by (Unlink before after) v e f = record { stands = refl; copies_are = refl; order_is = refl; fits = (none, e); under = λ u. u }
    list-by KeepList v e f = record {
      stands = batch-leads.stands ∙ ap (moving_by c.desk.plan) none;
      copies_are = batch-leads.copies_are;
      order_is = batch-leads.order_is ∙ order-stays e;
      fits = batch-leads.fits;
      under = batch-leads.under;
    }

    pub list-leads : Leads job c (list_to c.shape c.desk.plan c.made c.request) (listed_by c.desk.plan) (copies_in c.desk.copies) c.before.order
    list-leads = list-by c.desk.plan.list c.desk.plan.user refl refl

    -- ## before the user's state

    abbrev then' : Phase → Position → Type 0
    then' p at' = Leads job c p at' (copies_in c.before.copies) c.before.order

    number-by : (x y : Option ℕ) → c.desk.plan.pids ≡ x → c.desk.plan.depth ≡ y
        → now (number_to x y) (cond (is_some x) StorePids (cond (is_some y) StoreDepth Close))
    number-by (Some x) y e f = record { stands = refl; copies_are = refl; order_is = refl; fits = (x, e); under = λ u. u }
    number-by None (Some y) e f = record { stands = refl; copies_are = refl; order_is = refl; fits = (y, f); under = λ u. u }
    number-by None None e f = closing

    -- what is stored first, by its parts
    abbrev stored_on : Bool → Option ℕ → Position
    stored_on b x =
        cond b (copy_from job 0 0) (cond (is_some x) Select (cond (is_some c.desk.plan.pids) StorePids (cond (is_some c.desk.plan.depth) StoreDepth Close)))

    write-by : (v : UserNo) (x : ℕ) (b : Bool) → c.desk.plan.user ≡ Some v → c.desk.plan.sel ≡ Some x → c.desk.plan.pair ≡ b
        → then' (write_to c.shape b v.0 x) (stored_on b (Some x))
    write-by v x true e f g = record {
      stands = ap (λ (s : Shape). writing_at (words_for s.funcs) 0) base.shape ∙ sym (copy-first job);
      copies_are = refl;
      order_is = refl;
      fits = (none, record { user = e; sel = f; pair = g; copy = refl });
      under = λ u. u;
    }
    write-by v x false e f g = record { stands = refl; copies_are = refl; order_is = refl; fits = (none, (x, f)); under = λ u. u }

    -- a plan without a user's state
    bare-by : (b : Bool) → c.desk.plan.sel ≡ None → c.desk.plan.pair ≡ b → c.desk.plan.list ≡ KeepList
        → then' (number_to c.desk.plan.pids c.desk.plan.depth) (stored_on b None)
    bare-by true e f l =
        let p : plan.pair ≡ false = no-pair job c.commands_done (copies_in c.before.copies) c.before.order (effect job c.commands_done)
        (sym (ap (λ (p : PlainPlan). p.sel) at-plan) ∙ e) in
        let q : plan.pair ≡ true = sym (ap (λ (p : PlainPlan). p.pair) at-plan) ∙ f in
        absurd cc
    bare-by false e f l =
        let n = number-by c.desk.plan.pids c.desk.plan.depth refl refl in
        record {
          stands = n.stands;
          copies_are = n.copies_are ∙ copies-stay e;
          order_is = n.order_is ∙ order-stays l;
          fits = n.fits;
          under = n.under;
        }

    store-by : (v : Option UserNo) (x : Option ℕ) → c.desk.plan.user ≡ v → c.desk.plan.sel ≡ x
        → then' (store_in c.shape c.desk.plan v x) (stored_on c.desk.plan.pair x)
    store-by (Some v) (Some x) e f = write-by v x c.desk.plan.pair e f refl
    store-by (Some v) None e f = bare-by c.desk.plan.pair f refl (list-kept f)
    store-by None (Some x) e f =
        let s : plan.sel ≡ None = no-sel job c.commands_done (copies_in c.before.copies) c.before.order (effect job c.commands_done)
        (sym (ap (λ (p : PlainPlan). p.user) at-plan) ∙ e) in
        let t : plan.sel ≡ Some x = sym (ap (λ (p : PlainPlan). p.sel) at-plan) ∙ f in
        absurd cc
    store-by None None e f = bare-by c.desk.plan.pair f refl (list-kept f)

    pub store-leads : then' (store_to c.shape c.desk.plan) (stored_by job c.desk.plan)
    store-leads = store-by c.desk.plan.user c.desk.plan.sel refl refl

    begin-by : (t : TrampChange) → c.desk.plan.tramp ≡ t → then' (begin_in t (store_to c.shape c.desk.plan)) (begun_to job c.desk.plan t)
    begin-by (Set slot reg) e = record { stands = refl; copies_are = refl; order_is = refl; fits = (none, (slot, reg, e)); under = λ u. u }
    begin-by KeepTramp e = store-leads
    begin-by (Clear slot) e = store-leads

    pub begin-leads : then' (begin_to c.shape c.desk.plan) (begun_by job c.desk.plan)
    begin-leads = begin-by c.desk.plan.tramp refl
