-- Control whose lines are withheld, or to which a line is led: what is seen of it, and what it keeps.
use Rattle.std.proofs.Common.{◌≡◌, ℕ, ◌+◌, ◌<◌, ◌≤◌, List, [], ◌∷◌, ◌++◌, length, refl, sym, ap, ◌∙◌, subst, arith, vec_len, vec_capacity}
use Rattle.std.proofs.lemmas.List.{length-map, length_push, map-append}
use Rattle.std.specs.Global.{Vec}
use Rattle.ft_base.specs.Job.{Job, Ctl, LinePlan}
use Rattle.ft_desk.specs.Commands.{ctl_of}
use Rattle.ft_desk.specs.Declarations.{IsOf}
use Rattle.ft_desk.specs.DeskView.{DeskView}
use Rattle.word_machine.specs.Control.{control_start}
use Rattle.word_machine_laws.specs.Led.{with_lines}
use Rattle.word_machine_laws.specs.Orders.{AreLed, IsLed, picked}
use Rattle.word_machine_laws.proofs.LedLists.{picked_append}
use Rattle.control_core.specs.declared.phase.Phase.{Phase}
use Rattle.control_core.specs.declared.phase.Phase.TheVariants as phase
use Rattle.control_core.specs.declared.control.Control.TheInside.{Inside}
use Rattle.ft_desk.specs.Lines.{lines_of}
use Rattle.control_core.specs.Seated.{Seated, IsFor, IsOpening, control_of}
use Rattle.control_core.specs.ControlInvariant.{HasLeft, ControlInvariant, busy, seated_of}
use Rattle.control_core.proofs.LeadLaw.{of-lines}
use Rattle.control_core.proofs.Leading.{none-led, not-all, one-more}
use Rattle.control_core.proofs.Named.{named-picked}
use Rattle.control_core.proofs.Picked.{map-picked, picked-count}
use Rattle.control_core.proofs.StartLaw.{starts}

-- ## what is seen

-- as many lines are seen as numbers were led
pub seen-count : (d : Inside) → ControlInvariant d → length (seated_of d).lines ≡ length d.order.items
seen-count d k = length-map (picked d.lines.items d.order.items) (ctl_of d.map.tasks) ∙ picked-count d.lines.items d.order.items k.led.within

-- the present line is one of them, or the one after the last
pub line-within : (d : Inside) (s : Seated) → ControlInvariant d → seated_of d ≡ s → s.line ≤ length s.lines
line-within d s k v =
    let count = seen-count d k in
    let within : d.line + busy d.phase ≤ length d.order.items = k.safe.within in
    subst (λ (c : Seated). c.line ≤ length c.lines) v (omega (arith, count, within))

-- the lines are those of the numbers
pub order-seen : (d : Inside) (s : Seated) → seated_of d ≡ s → (order : List ℕ) → order ≡ d.order.items → s.lines ≡ picked s.all order
order-seen d s v order e =
    ap (λ (c : Seated). c.lines) (sym v)
    ∙ map-picked (ctl_of d.map.tasks) d.lines.items d.order.items
    ∙ ap (λ (c : Seated). picked c.all c.order) v
    ∙ ap (picked s.all) (ap (λ (c : Seated). c.order) (sym v) ∙ sym e)

module _ (d : Inside) (s : Seated) (v : seated_of d ≡ s) (order : Vec ℕ) where
  abbrev next : Inside
  next = record d { order = order }

  pub withheld-seen : order.items ≡ [] → seated_of next ≡ record s { lines = []; order = [] }
  withheld-seen e =
      (λ i. record (seated_of d) { lines = lines_of d.map.tasks (picked d.lines.items (e i)); order = e i })
      ∙ ap (λ (c : Seated). record c { lines = []; order = [] }) v

  module _ (k : ℕ) (e : order.items ≡ d.order.items ++ k ∷ []) where
    lines-seen : lines_of d.map.tasks (picked d.lines.items order.items) ≡ (seated_of d).lines ++ picked (seated_of d).all (k ∷ [])
    lines-seen =
        ap (λ (ks : List ℕ). lines_of d.map.tasks (picked d.lines.items ks)) e
        ∙ ap (lines_of d.map.tasks) (picked_append d.lines.items d.order.items (k ∷ []))
        ∙ map-append (ctl_of d.map.tasks) (picked d.lines.items d.order.items) (picked d.lines.items (k ∷ []))
        ∙ ap (λ ls. (seated_of d).lines ++ ls) (map-picked (ctl_of d.map.tasks) d.lines.items (k ∷ []))

    pub led-seen : seated_of next ≡ record s { lines = s.lines ++ picked s.all (k ∷ []); order = s.order ++ k ∷ [] }
    led-seen =
        (λ i. record (seated_of d) { lines = lines-seen i; order = e i })
        ∙ ap (λ (c : Seated). record c { lines = c.lines ++ picked c.all (k ∷ []); order = c.order ++ k ∷ [] }) v

-- ## what it keeps

left-still : (c : Seated) (lines : List Ctl) (order : List ℕ) (p : Phase) → HasLeft c p → HasLeft (record c { lines = lines; order = order }) p
left-still c lines order (phase.Writing page) h = h
left-still c lines order _ h = h

module _ (d : Inside) (kept : ControlInvariant d) (order : Vec ℕ) (led : AreLed (length d.lines.items) order.items) (room : vec_capacity d.order ≤ vec_capacity order)
    (within : d.line + busy d.phase ≤ length order.items) (few : length order.items ≤ length d.lines.items) where
  abbrev next' : Inside
  next' = record d { order = order }

  pub order-kept : ControlInvariant next'
  order-kept = record {
    safe = record {
      shape = kept.safe.shape;
      desk = kept.safe.desk;
      plan = kept.safe.plan;
      copied = kept.safe.copied;
      numbered = kept.safe.numbered;
      counted = kept.safe.counted;
      within = within;
      led = (let all = length-map d.lines.items (ctl_of d.map.tasks) in omega (arith, few, all));
      few = kept.safe.few;
      named = named-picked d.map d.desk.declared kept.safe.desk.declared d.lines.items order.items kept.lines;
      moved = kept.safe.moved;
      requests = kept.safe.requests;
      left = left-still (seated_of d) (seated_of next').lines order.items d.phase kept.safe.left;
    };
    lines = kept.lines;
    led = led;
    space = (let space = kept.space in omega (arith, space, room));
    batch = kept.batch;
    room = kept.room;
  }

module _ (d : Inside) (kept : ControlInvariant d) (s : Seated) (v : seated_of d ≡ s) (order : Vec ℕ) (room : vec_capacity d.order ≤ vec_capacity order) where
  pub withheld-kept : IsOpening s → order.items ≡ [] → ControlInvariant (record d { order = order })
  withheld-kept o e =
      let line : d.line ≡ 0 = ap (λ (c : Seated). c.line) v ∙ o.line in
      let idle : busy d.phase ≡ 0 = ap (λ (c : Seated). busy c.phase) v ∙ ap busy o.phase in
      let none : length order.items ≡ 0 = ap length e in
      order-kept d kept order (subst (AreLed (length d.lines.items)) (sym e) (none-led (length d.lines.items))) room
      (omega (arith, line, idle)) (omega (arith, none))

module _ (d : Inside) (kept : ControlInvariant d) (s : Seated) (v : seated_of d ≡ s) (n : ℕ) (there : n < length s.all) (fresh : IsLed s.order n → ⊥) where
  is-there : n < length d.lines.items
  is-there = subst (λ m. n < m) (ap (λ (c : Seated). length c.all) (sym v) ∙ length-map d.lines.items (ctl_of d.map.tasks)) there

  is-fresh : IsLed d.order.items n → ⊥
  is-fresh = subst (λ (c : Seated). IsLed c.order n → ⊥) (sym v) fresh

  few : length d.order.items < length d.lines.items
  few = not-all (length d.lines.items) d.order.items n kept.led is-there is-fresh

  -- there is room for its number
  pub lead-room : vec_len d.order < vec_capacity d.order
  lead-room =
      let numbers = d.order.ok.0 in
      let lines = d.lines.ok.0 in
      let space = kept.space in
      omega (arith, few, numbers, lines, space)

  pub lead-kept : (order : Vec ℕ) → vec_capacity d.order ≤ vec_capacity order → order.items ≡ d.order.items ++ n ∷ [] → ControlInvariant (record d { order = order })
  lead-kept order room e =
      let long : length order.items ≡ length d.order.items + 1 = ap length e ∙ length_push d.order.items n in
      let within : d.line + busy d.phase ≤ length d.order.items = kept.safe.within in
      order-kept d kept order
      (subst (AreLed (length d.lines.items)) (sym e) (one-more (length d.lines.items) d.order.items n kept.led is-there is-fresh))
      room (omega (arith, within, long)) (omega (arith, few, long))

-- ## of which job it is the control

-- with its lines withheld
pub withheld-starts : (job : Job) (plan : LinePlan) (c : Seated) → IsFor job c → IsOpening c
    → IsFor (with_lines job [] plan) (record c { lines = []; order = [] })
    × (control_of (record c { lines = []; order = [] }) ≡ control_start (with_lines job [] plan))
withheld-starts job plan c is o =
    starts (with_lines job [] plan) (record c { lines = []; order = [] }) is.shape refl
    (of-lines job [] plan c.desk.declared (subst (λ (s : DeskView). IsOf job s.declared) o.before is.declared))
    (record {
      desk = o.desk;
      before = o.before;
      line = o.line;
      commands_done = o.commands_done;
      request = o.request;
      made = o.made;
      phase = o.phase;
      items = o.items;
    })
