-- A line that is led: what the table asks before the mark of its Begin, and what control's seat keeps after it.
use Rattle.std.proofs.Common.{◌≡◌, ℕ, ◌<◌, true, List, [], ◌∷◌, ◌++◌, length, slice_get, Some, None, refl, sym, ap, ◌∙◌, subst}
use mathlib.Core.Option.{some}
use Rattle.atomic_table.specs.Seated.{TableId}
use Rattle.atomic_table.specs.Table.{Me, Allows}
use Rattle.ft_base.specs.declared.turn.Actor.TheVariants.{Control as ByControl}
use Rattle.ft_base.specs.Job.{Job, Command, Ctl, LinePlan, Run}
use Rattle.word_machine_laws.specs.Led.{in_order, later, more_to_come, with_next}
use Rattle.word_machine_laws.specs.Orders.{AreLed, IsLed, picked}
use Rattle.word_machine_laws.proofs.LedLimits.{limited_in_order}
use Rattle.word_machine_laws.proofs.LedLists.{get_within}
use Rattle.word_machine_laws.proofs.LedOrders.{grown}
use Rattle.word_map.specs.declared.op.Op.TheVariants.{Mark as MarkOp}
use Rattle.word_machine.specs.Control.{control_got, control_next}
use Rattle.word_machine.specs.Laws.{IsOnWord}
use Rattle.word_machine.specs.Limits.{IsLimited}
use Rattle.control_core.specs.Seated.{IsFor, Seated, control_of}
use Rattle.control_core.specs.Steps.{marks_in}
use Rattle.control_core.proofs.Leading.{one-more}
use Rattle.ft_machine.specs.Fed.{control_fed, control_items}
use Rattle.live_table.specs.Views.{View, ControlFacts, FactsIn, control_view, leading, took, values_of}
use Rattle.live_table.specs.AtomicSteps.{AtomicStep, MakesOp}
use Rattle.live_table.specs.Operations.{op_after}
use Rattle.live_table.specs.Rule.{LiveRule, led_at}
use Rattle.dealt_seats.specs.Covers.{Fits}
use Rattle.live_table.specs.Seats.{Board, ControlPlace, ControlSits, ControlSitsAt, IsRising, control_at}
use Rattle.live_table.specs.Steps.{ControlLeads}
use Rattle.dealt_seats.specs.Views.{part}
use Rattle.live_table.proofs.ControlStep.{control_place_of, sits-more}
use Rattle.live_table.proofs.Moves.{begin_after, line_allowed, next-begins, plan-with}

-- What has to hold before the line of this number is led, at the table of a job.
--   same          the seat is of the job
--   command, is   the line is a command
--   over          control is at its end
--   fresh         the line wasn't led
--   limited       the job is within the limits
pub record MayLead {S : Type 0} (me : Me S View) (x : Seated) (k : ℕ) (key : Job) : Type 0 where
  pub same : me.0.job ≡ key
  pub command : Command
  pub is : slice_get me.0.job.ctls k ≡ Some (Run command)
  pub over : control_next me.0.led (control_fed me.0.led (values_of me.0.parts)) ≡ None
  pub fresh : IsLed x.order k → ⊥
  pub limited : IsLimited me.0.job

-- it does, if it does of what the caller sees
pub may-lead : {S : Type 0} (me : Me S View) (x : Seated) (k : ℕ) (table : TableId) (id : ℕ) (s : ControlPlace) → control_place_of table id me x ≡ s
    → (b own : Board) → ControlSitsAt b s → own ≡ b → IsLimited own.job → (c : Command) → slice_get s.job.ctls k ≡ Some (Run c)
    → control_next s.led (control_at s) ≡ None → (IsLed s.order k → ⊥) → MayLead me x k own.job
may-lead me x k table id s seen b own sits at limited c is over fresh =
    let same : me.0.job ≡ own.job = ap (λ (u : ControlPlace). u.job) seen ∙ sits.1 ∙ sym (ap (λ (u : Board). u.job) at) in
    record {
      same = same;
      command = c;
      is = subst (λ (u : ControlPlace). slice_get u.job.ctls k ≡ Some (Run c)) (sym seen) is;
      over = subst (λ (u : ControlPlace). control_next u.led (control_at u) ≡ None) (sym seen) over;
      fresh = subst (λ (u : ControlPlace). IsLed u.order k → ⊥) (sym seen) fresh;
      limited = subst IsLimited (sym same) limited;
    }

module _ (me : Me (Unit {0}) View) (x : Seated) (sits : ControlSits me x) (k : ℕ) (key : Job) (may : MayLead me x k key) where
  -- the line is one of the job's
  pub line-there : k < length x.all
  line-there = subst (λ (l : List Ctl). k < length l) (sym sits.lines) (get_within me.0.job.ctls k (Run may.command) may.is)

  -- the job so far, once it is led
  abbrev led' : Job
  led' = with_next me.0.job me.0.led k

  abbrev plan' : LinePlan
  plan' = plan-with me.0.job me.0.led.lines k

  once' : AreLed (length me.0.job.ctls) (x.order ++ k ∷ [])
  once' = one-more (length me.0.job.ctls) x.order k sits.once (get_within me.0.job.ctls k (Run may.command) may.is) may.fresh

  led-is : led' ≡ in_order me.0.job (x.order ++ k ∷ [])
  led-is = ap (λ (job : Job). with_next me.0.job job k) sits.led ∙ sym (grown me.0.job x.order k)

  limited' : IsLimited led'
  limited' = subst IsLimited (sym led-is) (limited_in_order me.0.job (x.order ++ k ∷ []) may.limited once')

  -- the rule of the table allows it
  pub line-allows : (slots id : ℕ)
      → Allows {S = Unit {0}} (LiveRule key) slots id me 0 (op_after (MarkOp true)) (λ n m. MakesOp (Some k) (MarkOp true) n me m)
  line-allows slots id =
      let job = me.0.job in
      let led = me.0.led in
      let split = me.0.split in
      let vs = values_of me.0.parts in
      subst (λ (q : Job). Allows {S = Unit {0}} (LiveRule q) slots id me 0 (op_after (MarkOp true)) (λ n m. MakesOp (Some k) (MarkOp true) n me m)) may.same
      (subst (λ (u : Me (Unit {0}) View). Allows {S = Unit {0}} (LiveRule job) slots id u 0 (op_after (MarkOp true)) (λ n m. MakesOp (Some k) (MarkOp true) n u m))
      (sym sits.view')
      (line_allowed job led slots id split vs k may.command may.is may.over limited'))

  module _ (m : Me (Unit {0}) View) (n : ℕ) (takes : MakesOp (Some k) (MarkOp true) n me m) where
    abbrev vs : List ℕ
    vs = values_of me.0.parts

    -- the seat knows one line and one value more
    knows : m ≡ (control_view me.0.job led' me.0.split (vs ++ n ∷ []), [])
    knows = takes.0.0 ∙ (λ i. (took (leading (Some k) (sits.view' i).0) n, (sits.view' i).1))

    told : ControlFacts led' n vs
    told = subst (λ (u : Me (Unit {0}) View). FactsIn (leading (Some k) u.0).led n u.0.parts) sits.view' takes.0.1

    -- at the moment of the mark the rule held, so with this line control was as it is without it, but for the line to come
    abbrev rule : LiveRule me.0.job takes.1.table
    rule = takes.1.rule

    mine : Fits me.0.job (led_at rule) rule.values rule.seat rule.split takes.1.id (control_view me.0.job me.0.led me.0.split vs) (part ByControl vs)
    mine =
        rule.covers.fits takes.1.id (control_view me.0.job me.0.led me.0.split vs) (takes.1.sits ∙ ap (λ (u : Me (Unit {0}) View). some u.0) sits.view') 0
        (part ByControl vs) refl

    fed-later : control_fed led' vs ≡ more_to_come (picked me.0.job.ctls (k ∷ [])) (control_fed me.0.led vs)
    fed-later =
        subst (λ (u : Job × List ℕ). control_fed (with_next me.0.job u.0 k) u.1 ≡ more_to_come (picked me.0.job.ctls (k ∷ [])) (control_fed u.0 u.1))
        (λ i. (sym mine.stands.0 i, sym mine.has i)) (rule.runs.control (picked me.0.job.ctls (k ∷ [])) (plan-with me.0.job rule.plan k))

    items-later : control_items led' vs ≡ control_items me.0.led vs
    items-later =
        subst (λ (u : Job × List ℕ). control_items (with_next me.0.job u.0 k) u.1 ≡ control_items u.0 u.1)
        (λ i. (sym mine.stands.0 i, sym mine.has i)) (rule.runs.marked (picked me.0.job.ctls (k ∷ [])) (plan-with me.0.job rule.plan k))

    begins-it : control_next led' (control_fed led' vs) ≡ Some (begin_after (control_fed me.0.led vs))
    begins-it = next-begins me.0.job me.0.led vs k may.command may.is may.over fed-later

    -- the seat between, once control has led the line
    module _ (y : Seated) (seen : y ≡ record x { lines = x.lines ++ picked x.all (k ∷ []); order = x.order ++ k ∷ [] })
        (of' : (job : Job) (plan : LinePlan) → IsFor job x → IsFor (later job (picked x.all (k ∷ [])) plan) y)
        (comes : control_of y ≡ more_to_come (picked x.all (k ∷ [])) (control_of x)) where
      order-is : y.order ≡ x.order ++ k ∷ []
      order-is = ap (λ (u : Seated). u.order) seen

      fed-y : control_of y ≡ control_fed led' vs
      fed-y = comes ∙ (λ i. more_to_come (picked (sits.lines i) (k ∷ [])) (sits.fed i)) ∙ sym fed-later

      sits-led : ControlSits {S = Unit {0}} (control_view me.0.job led' me.0.split vs, []) y
      sits-led = record {
        view' = refl;
        lines = ap (λ (u : Seated). u.all) seen ∙ sits.lines;
        once = subst (AreLed (length me.0.job.ctls)) (sym order-is) once';
        led = led-is ∙ ap (in_order me.0.job) (sym order-is);
        limited = limited';
        is_for = subst (λ (l : List Ctl). IsFor (later me.0.led (picked l (k ∷ [])) plan') y) sits.lines (of' me.0.led plan' sits.is_for);
        fed = fed-y;
        marked = ap (λ (u : Seated). u.items) seen ∙ sits.marked ∙ sym items-later;
        rising = subst IsRising (sym (ap (λ (u : Seated). u.items) seen)) sits.rising;
        next = subst (λ o. IsOnWord led' o) (sym (ap (control_next led') fed-y ∙ begins-it)) tt;
      }

      -- and after the Begin
      pub line-sits : (z : Seated)
          → ((job : Job) → IsFor job y → IsFor job z)
          → ((job : Job) → IsFor job y → control_of z ≡ control_got job (control_of y) n)
          → z.all ≡ y.all → z.order ≡ y.order
          → ((job : Job) → IsFor job y → z.items ≡ y.items ++ marks_in (control_next job (control_of y)) n)
          → ControlSits m z
      line-sits = sits-more (control_view me.0.job led' me.0.split vs, []) y sits-led m n knows told

      -- what it is to the caller
      pub line-leads : (z : Seated) → z.order ≡ y.order → (table table' : TableId) (id id' : ℕ) (s : ControlPlace)
          → control_place_of table id me x ≡ s → table' ≡ table → id' ≡ id → ControlLeads s k (control_place_of table' id' m z)
      line-leads z order table table' id id' s same same-table same-id =
          let job = me.0.job in
          let job' : m.0.job ≡ job = ap (λ (u : Me (Unit {0}) View). u.0.job) knows in
          let led'' : m.0.led ≡ led' = ap (λ (u : Me (Unit {0}) View). u.0.led) knows in
          let split' : m.0.split ≡ me.0.split = ap (λ (u : Me (Unit {0}) View). u.0.split) knows in
          let values : values_of m.0.parts ≡ vs ++ n ∷ [] = ap (λ (u : Me (Unit {0}) View). values_of u.0.parts) knows in
          let orders : z.order ≡ x.order ++ k ∷ [] = order ∙ order-is in
          let known' : m.0 ≡ control_view m.0.job m.0.led m.0.split (values_of m.0.parts) =
          subst (λ (u : Me (Unit {0}) View). u.0 ≡ control_view u.0.job u.0.led u.0.split (values_of u.0.parts)) (sym knows) refl in
          subst (λ (u : ControlPlace). ControlLeads u k (control_place_of table' id' m z)) same (
            n,
            begins-it,
            λ i. record {
              table_id = same-table i;
              id = same-id i;
              job = job' i;
              led = led'' i;
              order = orders i;
              split = split' i;
              values = values i;
            },
            subst (λ (u : View × View). AtomicStep job (Some k) 0 n (op_after (MarkOp true) n) u.0 u.1)
                (λ i. ((sits.view' i).0, known' i)) takes.1,
          )
