-- What the world of a job is made of before its first step, and what the seats of its actors keep then.
use Rattle.std.proofs.Common.{◌≡◌, ℕ, None, ◌<◌, ◌≤◌, Bool, true, false, List, [], length, inl, inr, refl, sym, ap, ◌∙◌, subst, arith}
use Rattle.std.specs.List.{range_with_len}
use Rattle.atomic_table.specs.Seated.{TableId}
use Rattle.atomic_table.specs.Table.{Me}
use Rattle.ft_base.specs.declared.item.Stamped.{Stamped}
use Rattle.ft_base.specs.Job.{Job, Ctl}
use Rattle.word_machine_laws.specs.Led.{in_order}
use Rattle.word_machine_laws.specs.Orders.{AreLed}
use Rattle.word_machine_laws.proofs.LedOrders.{whole}
use Rattle.word_map.specs.Places.{len}
use Rattle.word_map.specs.Shapes.{shape_of}
use Rattle.word_machine.specs.Control.{control_next, control_start}
use Rattle.word_machine.specs.Cpu.{cpu_next, cpu_start}
use Rattle.word_machine.specs.Laws.{IsOnWord}
use Rattle.word_machine.specs.Limits.{IsLimited}
use Rattle.word_machine.specs.Machine.{World, opening_words, start}
use Rattle.word_machine_laws.proofs.Limited.{limited as word-job, few-commands}
use Rattle.word_machine_laws.proofs.There.{control-there, cpu-there}
use Rattle.word_machine_laws.proofs.WordsFit.{start-runs}
use Rattle.control_core.specs.Seated.{IsOpening, LeadsAll, Seated, control_of}
use Rattle.control_core.specs.Seated as control
use Rattle.control_core.proofs.Leading.{all-led, none-led}
use Rattle.control_core.proofs.Led.{withheld-starts}
use Rattle.cpu_core.specs.declared.parts.Parts.{Parts as CpuParts}
use Rattle.cpu_core.specs.Marks.{Marks}
use Rattle.ft_machine.specs.declared.cpus.CpuRoom.TheVariants.{ForAll}
use Rattle.ft_machine.specs.Starts.{IsFirst}
use Rattle.ft_machine.specs.Worlds.{IsFor, Parts, words_of, world_of}
use Rattle.ft_machine.specs.Fed.{control_fed}
use Rattle.ft_job.specs.Plans.{AreLinesPlanned}
use Rattle.live_table.specs.Views.{View, control_view, cpu_view, led_first, order_first, values_of}
use Rattle.live_table.specs.Seats.{Board, ControlPlace, ControlSits, CpuSits, IsOpen, IsRising, IsTable, control_at, withheld_if}
use Rattle.live_table.proofs.ControlStep.{control_place_of}
use Rattle.live_table.proofs.Opening.{first-limited}

-- ## seats

none-rises : IsRising []
none-rises j k x y lt at at2 = absurd (cc)

control-on-word : (job : Job) → IsLimited job → IsOnWord job (control_next job (control_start job))
unfolding start
control-on-word job l = let r = start-runs job l in control-there job (word-job job l) (start job) r.kept r.waits

cpu-on-word : (job : Job) → IsLimited job → (c : ℕ) → c < length job.quanta → IsOnWord job (cpu_next job (cpu_start job c))
unfolding start
cpu-on-word job l c inside = cpu-there job (word-job job l) (start job) c inside (start-runs job l).kept

-- control's, if no CPU was split off from it
control-first : {S : Type 0} (me : Me S View) (job led : Job) (x : Seated) → IsLimited led → me ≡ (control_view job led 0 [], [])
    → x.all ≡ job.ctls → AreLed (length job.ctls) x.order → led ≡ in_order job x.order
    → control.IsFor led x → control_of x ≡ control_start led → x.items ≡ [] → ControlSits {S = S} me x
control-first {S} me job led x l is all once knows of' at none = subst (λ (u : Me S View). ControlSits {S = S} u x) (sym is) record {
  view' = refl;
  lines = all;
  once = once;
  led = knows;
  limited = l;
  is_for = of';
  fed = at;
  marked = none;
  rising = subst IsRising (sym none) none-rises;
  next = subst (λ s. IsOnWord led (control_next led s)) (sym at) (control-on-word led l);
}

-- lanes are no more than lines
lanes-few : (job : Job) → AreLinesPlanned job → length job.lines.lanes ≤ length job.ctls
lanes-few job planned = elim planned.lanes [
  | inl none ↦ (let e = ap length none in omega (arith, e))
  | inr has ↦ (let e = has.each in let few = few-commands job.ctls in omega (arith, e, few))
]

-- so the lines that are led at first are those of their order
led-in-order : (job : Job) (withheld : Bool) → AreLinesPlanned job → led_first job withheld ≡ in_order job (order_first job withheld)
led-in-order job true planned = refl
led-in-order job false planned = sym (whole job (lanes-few job planned))

order-once : (job : Job) (withheld : Bool) → AreLed (length job.ctls) (order_first job withheld)
order-once job true = none-led (length job.ctls)
order-once job false = all-led (length job.ctls)

-- control whose lines are withheld or not, before its first step
module _ (job : Job) (x : Seated) (is : control.IsFor job x) (all : LeadsAll x) where
  lines-are : x.all ≡ job.ctls
  lines-are = sym all.lines ∙ is.lines

  first-order : (withheld : Bool) → (withheld_if withheld x).order ≡ order_first job withheld
  first-order true = refl
  first-order false = all.order ∙ ap (λ (l : List Ctl). range_with_len 0 (length l)) lines-are

module _ (job : Job) (x : Seated) (is : control.IsFor job x) (opening : IsOpening x) (all : LeadsAll x) (at : control_of x ≡ control_start job) where
  first-for : (withheld : Bool) → control.IsFor (led_first job withheld) (withheld_if withheld x)
  first-for true = (withheld-starts job (record job.lines { lanes = [] }) x is opening).0
  first-for false = is

  first-at : (withheld : Bool) → control_of (withheld_if withheld x) ≡ control_start (led_first job withheld)
  first-at true = (withheld-starts job (record job.lines { lanes = [] }) x is opening).1
  first-at false = at

  first-lines : (withheld : Bool) → (withheld_if withheld x).all ≡ job.ctls
  first-lines true = lines-are job x is all
  first-lines false = lines-are job x is all

  first-none : (withheld : Bool) → x.items ≡ [] → (withheld_if withheld x).items ≡ []
  first-none true none = none
  first-none false none = none

  pub withheld-first : {S : Type 0} (me : Me S View) (withheld : Bool) → IsLimited job → AreLinesPlanned job
      → me ≡ (control_view job (led_first job withheld) 0 [], []) → x.items ≡ [] → ControlSits {S = S} me (withheld_if withheld x)
  withheld-first {S} me withheld l planned same none =
      control-first {S = S} me job (led_first job withheld) (withheld_if withheld x) (first-limited job withheld l) same (first-lines withheld)
      (subst (AreLed (length job.ctls)) (sym (first-order job x is all withheld)) (order-once job withheld))
      (led-in-order job withheld planned ∙ ap (in_order job) (sym (first-order job x is all withheld)))
      (first-for withheld) (first-at withheld) (first-none withheld none)

-- a CPU's
pub cpu-first : {S : Type 0} (me : Me S View) (job : Job) (c : ℕ) (x : CpuParts) → IsLimited job → c < length job.quanta → me ≡ (cpu_view job c [], [])
    → IsFirst ForAll job c x → CpuSits {S = S} me c x false
cpu-first {S} me job c x l inside is first = subst (λ (u : Me S View). CpuSits {S = S} u c x false) (sym is) record {
  view' = refl;
  limited = l;
  is_for = first.is_for;
  within = inside;
  fed = first.same;
  marked = none;
  rising = subst IsRising (sym none) none-rises;
  last = record { marked = λ e. cc; none = λ e. refl };
  room = ap (λ (m : Marks). m.room) first.marked;
  few = let n = ap (λ (l : List Stamped). length l) none in omega (arith, n);
  left = ap (λ (m : Marks). m.left) first.marked;
  next = subst (λ s. IsOnWord job (cpu_next job s)) (sym first.same) (cpu-on-word job l c inside);
}
  where
    none : x.marked.items ≡ []
    none = ap (λ (m : Marks). m.items) first.marked

-- ## the table

pub opens-table : (job : Job) → IsLimited job → (id : TableId) (key : Job) → key ≡ job → id.words ≡ len (shape_of job) → id.slots ≡ 0
    → IsTable (record { table_id = id; job = key })
opens-table job l id key same words slots = subst (λ (q : Job). IsTable (record { table_id = id; job = q })) (sym same) record {
  limited = l;
  words = words;
  slots = slots;
}

-- ## the world

module _ (job : Job) (w : Parts) (is_for : IsFor job [] w) (e : world_of job [] w ≡ start job) where
  words-open : words_of job w.words ≡ opening_words job
  unfolding start
  words-open = ap (λ (s : World). s.words) e

  control-opens : control_of w.control ≡ control_start job
  unfolding start
  control-opens = ap (λ (s : World). s.control) e

  -- ## control's seat

  pub opens-control : {S : Type 0} (me : Me S View) (withheld : Bool) (x : Seated) → IsLimited job → AreLinesPlanned job
      → IsOpening w.control → LeadsAll w.control → me ≡ (control_view job (led_first job withheld) 0 [], []) → x ≡ withheld_if withheld w.control
      → ControlSits {S = S} me x
  opens-control {S} me withheld x l planned opening all is same =
      subst (λ (y : Seated). ControlSits {S = S} me y) (sym same)
      (withheld-first job w.control is_for.control' opening all control-opens {S = S} me withheld l planned is is_for.none)

  pub opens-place : {S : Type 0} (all : LeadsAll w.control) (me : Me S View) (withheld : Bool) (table id-table : TableId) (id : ℕ) (key : Job) (x : Seated)
      → key ≡ job → id-table ≡ table → me ≡ (control_view job (led_first job withheld) 0 [], []) → x ≡ withheld_if withheld w.control
      → IsOpen (record { table_id = table; job = key }) (control_place_of {S = S} id-table id me x) withheld 0
  opens-place {S} all me withheld table id-table id key x same seat is same-x = record {
    table_id = seat;
    job = ap (λ (u : Me S View). u.0.job) is ∙ sym same;
    led = ap (λ (u : Me S View). u.0.led) is ∙ ap (λ (q : Job). led_first q withheld) (sym same);
    order = ap (λ (c : Seated). c.order) same-x ∙ first-order job w.control is_for.control' all withheld ∙ ap (λ (q : Job). order_first q withheld) (sym same);
    split' = ap (λ (u : Me S View). u.0.split) is;
    values = ap (λ (u : Me S View). values_of u.0.parts) is;
  }

  pub opens-words : (list : List ℕ) → list ≡ w.words → words_of job list ≡ opening_words job
  opens-words list same = ap (words_of job) same ∙ words-open

-- ## control's seat to its caller

-- after so many CPUs were split off
pub dealt-open : (b : Board) (s t : ControlPlace) (withheld : Bool) (n : ℕ) → IsOpen b s withheld 0 → t ≡ record s { split = n } → IsOpen b t withheld n
dealt-open b s t withheld n was is = subst (λ (u : ControlPlace). IsOpen b u withheld n) (sym is) record {
  table_id = was.table_id;
  job = was.job;
  led = was.led;
  order = was.order;
  split' = refl;
  values = was.values;
}

-- with its lines withheld it is at its end
no-line : (job : Job) → control_next (in_order job []) (control_start (in_order job [])) ≡ None
unfolding control_next
no-line job = refl

pub withheld-ends : (b : Board) (s : ControlPlace) (n : ℕ) → IsOpen b s true n → control_next s.led (control_at s) ≡ None
withheld-ends b s n was = (λ i. control_next (was.led i) (control_fed (was.led i) (was.values i))) ∙ no-line b.job
