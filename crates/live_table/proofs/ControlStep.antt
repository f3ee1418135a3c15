-- A step of control's seat: what the table asks before the operation, and what the seat keeps after it.
use Rattle.std.proofs.Common.{◌≡◌, ℕ, ◌<◌, [], ◌∷◌, ◌++◌, length, Option, Some, None, option_map, refl, sym, ap, ◌∙◌, subst, arith}
use Rattle.atomic_table.specs.Seated.{TableId}
use Rattle.atomic_table.specs.Table.{Me, Allows}
use Rattle.ft_base.specs.Job.{Job}
use Rattle.word_machine_laws.specs.Led.{in_order}
use Rattle.word_machine_laws.specs.Orders.{AreLed}
use Rattle.word_map.specs.declared.op.Op.{Op}
use Rattle.word_map.specs.declared.shape.Shape.{Shape}
use Rattle.word_map.specs.Ops.{placed}
use Rattle.word_map.specs.Places.{len}
use Rattle.word_map.specs.Shapes.{shape_of}
use Rattle.word_machine.specs.Control.{Control, control_got, control_next, control_start}
use Rattle.word_machine.specs.Laws.{IsOnWord}
use Rattle.control_core.specs.Seated.{IsFor, Seated, control_of}
use Rattle.control_core.specs.Steps.{marks_in}
use Rattle.ft_machine.proofs.Chosen.{Chosen, chosen, none-next}
use Rattle.ft_machine.proofs.Made.{IsOpThere, of-job}
use Rattle.ft_machine.specs.Fed.{control_fed, control_items}
use Rattle.ft_machine.proofs.FedLaws.{control_after-append}
use Rattle.live_table.specs.declared.live.Going.TheVariants.{End, More}
use Rattle.live_table.specs.Views.{View, ControlFacts, FactsIn, control_view, took, values_of}
use Rattle.live_table.specs.AtomicSteps.{AtomicStep, MakesOp}
use Rattle.live_table.specs.Operations.{op_after, op_gives, op_word}
use Rattle.live_table.specs.Rule.{LiveRule}
use Rattle.live_table.specs.Seats.{ControlPlace, ControlSits, IsRising}
use Rattle.live_table.specs.Steps.{ControlSteps, given_by}
use Rattle.live_table.proofs.Moves.{control_allowed}
use Rattle.live_table.proofs.Rising.{control-rising-more}
use Rattle.live_table.proofs.Tables.{op-within}
use Rattle.live_table.proofs.Values.{control_marks-snoc}

-- what contracts see of the seat
abbrev pub control_place_of : {S : Type 0} → TableId → ℕ → Me S View → Seated → ControlPlace
control_place_of table id me x = record {
  table_id = table;
  id = id;
  job = me.0.job;
  led = me.0.led;
  order = x.order;
  split = me.0.split;
  values = values_of me.0.parts;
}

module _ (me : Me (Unit {0}) View) (x : Seated) (sits : ControlSits me x) where
  -- the words have the job's shape, whatever lines are led
  same-shape : shape_of me.0.led ≡ shape_of me.0.job
  same-shape = ap (λ (job : Job). shape_of job) sits.led

  -- so has control's answer
  of-shape : (o : Option Op) → ((job : Job) → IsFor job x → o ≡ option_map (placed x.shape) (control_next job (control_of x)))
      → option_map (placed (shape_of me.0.job)) (control_next me.0.led (control_of x)) ≡ o
  of-shape o answer =
      ap (λ (shape : Shape). option_map (placed shape) (control_next me.0.led (control_of x))) (sym (sits.is_for.shape ∙ same-shape))
      ∙ sym (answer me.0.led sits.is_for)

  -- with no operation left nothing happens
  pub control-stops : (o : Option Op) → ((job : Job) → IsFor job x → o ≡ option_map (placed x.shape) (control_next job (control_of x))) → o ≡ None
      → (table : TableId) (id : ℕ) (s : ControlPlace) → control_place_of table id me x ≡ s → ControlSteps s End (control_place_of table id me x)
  control-stops o answer none table id s is =
      let led = me.0.led in
      let over : control_next led (control_of x) ≡ None = none-next (shape_of me.0.job) (control_next led (control_of x)) (of-shape o answer ∙ none) in
      subst (λ (u : ControlPlace). ControlSteps u End (control_place_of table id me x)) is (ap (control_next led) (sym sits.fed) ∙ over, refl)

  -- the seat after control took a value
  module _ (m : Me (Unit {0}) View) (v : ℕ) (knows : m ≡ (control_view me.0.job me.0.led me.0.split (values_of me.0.parts ++ v ∷ []), []))
      (told : ControlFacts me.0.led v (values_of me.0.parts)) where
    pub sits-more : (y : Seated)
        → ((job : Job) → IsFor job x → IsFor job y)
        → ((job : Job) → IsFor job x → control_of y ≡ control_got job (control_of x) v)
        → y.all ≡ x.all → y.order ≡ x.order
        → ((job : Job) → IsFor job x → y.items ≡ x.items ++ marks_in (control_next job (control_of x)) v)
        → ControlSits m y
    sits-more y of' is all order items =
        let job = me.0.job in
        let led = me.0.led in
        let vs = values_of me.0.parts in
        let fed : control_of y ≡ control_fed led (vs ++ v ∷ []) =
        is led sits.is_for ∙ ap (λ (s : Control). control_got led s v) sits.fed ∙ sym (control_after-append led (control_start led) vs (v ∷ [])) in
        let marks : y.items ≡ control_items led vs ++ marks_in (control_next led (control_fed led vs)) v =
        items led sits.is_for ∙ (λ i. sits.marked i ++ marks_in (control_next led (sits.fed i)) v) in
        subst (λ (u : Me (Unit {0}) View). ControlSits u y) (sym knows) record {
          view' = refl;
          lines = all ∙ sits.lines;
          once = subst (AreLed (length job.ctls)) (sym order) sits.once;
          led = sits.led ∙ ap (in_order job) (sym order);
          limited = sits.limited;
          is_for = of' led sits.is_for;
          fed = fed;
          marked = marks ∙ sym (control_marks-snoc led (control_start led) vs v);
          rising = subst IsRising (sym marks)
              (control-rising-more (control_items led vs) (control_next led (control_fed led vs)) v (subst IsRising sits.marked sits.rising) told.rising);
          next = subst (λ s. IsOnWord led (control_next led s)) (sym fed) told.next';
        }

  module _ (code : Op) (answer : (job : Job) → IsFor job x → Some code ≡ option_map (placed x.shape) (control_next job (control_of x))) where
    choice : Chosen (shape_of me.0.job) (control_next me.0.led (control_of x)) code
    choice = chosen (shape_of me.0.job) (control_next me.0.led (control_of x)) code (of-shape (Some code) answer)

    next-fed : control_next me.0.led (control_fed me.0.led (values_of me.0.parts)) ≡ Some choice.op
    next-fed = ap (control_next me.0.led) (sym sits.fed) ∙ choice.is

    -- the operation is on a word of the table
    pub control-within : (key : Job) → me.0.job ≡ key → (words : ℕ) → words ≡ len (shape_of key) → op_word code < words
    control-within key same words many =
        let job = me.0.job in
        let led = me.0.led in
        let there : IsOpThere (shape_of job) choice.op =
        subst (λ (shape : Shape). IsOpThere shape choice.op) same-shape (of-job led choice.op (subst (λ o. IsOnWord led o) choice.is sits.next)) in
        let inside : op_word code < len (shape_of job) = subst (λ o. op_word o < len (shape_of job)) choice.placed' (op-within (shape_of job) choice.op there) in
        let e = ap (λ q. len (shape_of q)) same in
        omega (arith, inside, e, many)

    -- the rule of the table allows it
    pub control-allows : (key : Job) → me.0.job ≡ key → (slots id : ℕ)
        → Allows {S = Unit {0}} (LiveRule key) slots id me (op_word code) (op_after code) (λ n m. MakesOp None code n me m)
    control-allows key same slots id =
        let job = me.0.job in
        let led = me.0.led in
        let split = me.0.split in
        let vs = values_of me.0.parts in
        subst (λ (q : Job). Allows {S = Unit {0}} (LiveRule q) slots id me (op_word code) (op_after code) (λ n m. MakesOp None code n me m)) same
        (subst (λ (u : Me (Unit {0}) View). Allows {S = Unit {0}} (LiveRule job) slots id u (op_word code) (op_after code) (λ n m. MakesOp None code n u m)) (sym sits.view')
        (subst (λ (o : Op). Allows {S = Unit {0}} (LiveRule job) slots id (control_view job led split vs, []) (op_word o) (op_after o) (λ n m. MakesOp None o n (control_view job led split vs, []) m)) choice.placed'
        (control_allowed job led slots id split vs choice.op next-fed)))

    module _ (m : Me (Unit {0}) View) (n v : ℕ) (value : v ≡ op_gives code n) (takes : MakesOp None code n me m) where
      -- the seat knows one value more
      knows-more : m ≡ (control_view me.0.job me.0.led me.0.split (values_of me.0.parts ++ v ∷ []), [])
      knows-more = takes.0.0 ∙ (λ i. (took (sits.view' i).0 (sym value i), (sits.view' i).1))

      told-more : ControlFacts me.0.led v (values_of me.0.parts)
      told-more =
          subst (λ z. ControlFacts me.0.led z (values_of me.0.parts)) (sym value)
          (subst (λ (u : Me (Unit {0}) View). FactsIn u.0.led (op_gives code n) u.0.parts) sits.view' takes.0.1)

      -- the seat after the step
      pub control-sits : (y : Seated)
          → ((job : Job) → IsFor job x → IsFor job y)
          → ((job : Job) → IsFor job x → control_of y ≡ control_got job (control_of x) v)
          → y.all ≡ x.all → y.order ≡ x.order
          → ((job : Job) → IsFor job x → y.items ≡ x.items ++ marks_in (control_next job (control_of x)) v)
          → ControlSits m y
      control-sits = sits-more m v knows-more told-more

      -- what the step is to the caller
      pub control-steps : (y : Seated) → y.order ≡ x.order → (table table' : TableId) (id id' : ℕ) (s : ControlPlace)
          → control_place_of table id me x ≡ s → table' ≡ table → id' ≡ id → ControlSteps s More (control_place_of table' id' m y)
      control-steps y order table table' id id' s is same-table same-id =
          let job = me.0.job in
          let led = me.0.led in
          let vs = values_of me.0.parts in
          let gives : v ≡ given_by job choice.op n = value ∙ ap (λ o. op_gives o n) (sym choice.placed') in
          let job' : m.0.job ≡ job = ap (λ (u : Me (Unit {0}) View). u.0.job) knows-more in
          let led' : m.0.led ≡ led = ap (λ (u : Me (Unit {0}) View). u.0.led) knows-more in
          let split' : m.0.split ≡ me.0.split = ap (λ (u : Me (Unit {0}) View). u.0.split) knows-more in
          let values : values_of m.0.parts ≡ vs ++ given_by job choice.op n ∷ [] =
          ap (λ (u : Me (Unit {0}) View). values_of u.0.parts) knows-more ∙ ap (λ z. vs ++ z ∷ []) gives in
          let known' : m.0 ≡ control_view m.0.job m.0.led m.0.split (values_of m.0.parts) =
          subst (λ (u : Me (Unit {0}) View). u.0 ≡ control_view u.0.job u.0.led u.0.split (values_of u.0.parts)) (sym knows-more) refl in
          subst (λ (u : ControlPlace). ControlSteps u More (control_place_of table' id' m y)) is (
            choice.op,
            n,
            next-fed,
            λ i. record {
              table_id = same-table i;
              id = same-id i;
              job = job' i;
              led = led' i;
              order = order i;
              split = split' i;
              values = values i;
            },
            subst (λ (u : Op × View × View). AtomicStep job None (op_word u.0) n (op_after u.0 n) u.1 u.2)
                (λ i. (sym choice.placed' i, (sits.view' i).0, known' i)) takes.1,
          )
