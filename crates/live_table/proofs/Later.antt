-- What holds of the job so far, whatever lines come, goes on with each operation of control and of a CPU, and with each line that is led.
use Rattle.std.proofs.Common.{◌≡◌, ℕ, ◌<◌, List, [], ◌∷◌, ◌++◌, length, Some, refl, sym, ap, ◌∙◌, subst, arith, append_assoc, length-append}
use Rattle.ft_base.specs.declared.item.Item.{Item}
use Rattle.ft_base.specs.declared.item.Stamped.{Stamped}
use Rattle.ft_base.specs.declared.turn.Actor.{Actor}
use Rattle.ft_base.specs.declared.turn.Actor.TheVariants.{Control as ByControl}
use Rattle.ft_base.specs.Job.{Job, Ctl, LinePlan}
use Rattle.ft_hist.specs.Placing.{ArePlaced, past_below}
use Rattle.word_machine_laws.specs.Led.{later, more_to_come, with_lines}
use Rattle.word_machine_laws.proofs.LedControls.{got_kept, next_kept}
use Rattle.word_map.specs.Ops.{WordOp, placed}
use Rattle.word_map.specs.Places.{len}
use Rattle.word_map.specs.Shapes.{shape_of}
use Rattle.word_machine.specs.Control.{Control, control_got, control_next, control_start}
use Rattle.word_machine.specs.Cpu.{cpu_next}
use Rattle.word_machine.specs.Laws.{Runs}
use Rattle.word_machine.specs.Limits.{IsLimited}
use Rattle.word_machine.specs.Machine.{World, past_after, step}
use Rattle.word_machine.specs.Rule.{ControlLines, task_in}
use Rattle.control_core.specs.Steps.{marks_in as control_marks_in}
use Rattle.ft_machine.specs.Fed.{control_fed, control_items, cpu_fed}
use Rattle.ft_machine.proofs.FedLaws.{control_after-append}
use Rattle.live_table.specs.Recorded.{IsRecorded, lists}
use Rattle.dealt_seats.specs.Views.{cpu}
use Rattle.live_table.specs.Rule.{RunsOn, StandsFor, world_with}
use Rattle.live_table.specs.Views.{ControlFacts, CpuFacts}
use Rattle.live_table.proofs.ControlRows.{control-recorded, control-row, control-runs, control-told}
use Rattle.live_table.proofs.CpuRows.{cpu-recorded, cpu-row, cpu-runs, cpu-told}
use Rattle.live_table.proofs.Lines.{cpu-items-same, cpu-lists-same, cpu-next-same, more-more, none-later}
use Rattle.live_table.proofs.Reached.{reached-more}
use Rattle.live_table.proofs.Tables.{changed, gave}
use Rattle.live_table.proofs.Values.{control_marks-snoc}
use Rattle.dealt_seats.proofs.Actors.{at_first, at_cpu, at_cpu-same}

-- ## one job

has-taken : (vs : List ℕ) (v : ℕ) → vs ++ v ∷ [] ≡ [] → ⊥
has-taken vs v e =
    let none = ap (λ (l : List ℕ). length l) e in
    let more = length-append vs (v ∷ []) in
    absurd (omega (arith, none, more))

-- an actor has taken one value more, by a step
stands-more : (job : Job) (words words' : List ℕ) (values values' : Actor → List ℕ) (past past' : List Item) (a : Actor) (v : ℕ)
    → values' a ≡ values a ++ v ∷ [] → world_with job words' values' past' ≡ step job a (world_with job words values past)
    → Runs job (world_with job words' values' past') → StandsFor job words values past → StandsFor job words' values' past'
stands-more job words words' values values' past past' a v own row runs stands = record {
  runs = runs;
  reached = reached-more job (world_with job words values past) (world_with job words' values' past') a stands.reached row;
  at_first = λ unstepped. absurd (has-taken (values a) v (sym own ∙ unstepped a));
}

-- what is said whatever lines come is said of the lines that are led
pub stands-now : (led : Job) (words : List ℕ) (values : Actor → List ℕ) (past : List Item) → IsLimited led → RunsOn led words values past
    → StandsFor led words values past
stands-now led words values past limited on =
    let e = none-later led in
    subst (λ (job : Job). StandsFor job words values past) e (on.stands [] led.lines (subst IsLimited (sym e) limited))

module _ (led : Job) (limited : IsLimited led) (words : List ℕ) (values : Actor → List ℕ) (past : List Item)
    (count : length words ≡ len (shape_of led)) (on : RunsOn led words values past) where
  now : StandsFor led words values past
  now = stands-now led words values past limited on

  -- what an operation gives here, and the words after it
  abbrev value : WordOp → ℕ
  value op = gave words (placed (shape_of led) op)

  abbrev words' : WordOp → List ℕ
  words' op = changed words (placed (shape_of led) op)

  -- ## an operation of a CPU

  module _ (c : ℕ) (inside : c < length led.quanta) (op : WordOp) (next : cpu_next led (cpu_fed led c (values (cpu c))) ≡ Some op) where
    abbrev cpu-more : List ℕ
    cpu-more = values (cpu c) ++ value op ∷ []

    next-in : (more : List Ctl) (plan : LinePlan) → cpu_next (later led more plan) (cpu_fed (later led more plan) c (values (cpu c))) ≡ Some op
    next-in more plan = cpu-next-same led (led.ctls ++ more) plan c (values (cpu c)) ∙ next

    pub cpu-goes-on : RunsOn led (words' op) (at_cpu values c cpu-more) (past_after op past)
    cpu-goes-on = record {
      stands = λ more plan l.
          let job : Job = later led more plan in
          let st = on.stands more plan l in
          stands-more job words (words' op) values (at_cpu values c cpu-more) past (past_after op past) (cpu c) (value op) (at_cpu-same values c cpu-more)
          (cpu-row job l words values past count st.runs c inside op (next-in more plan))
          (cpu-runs job l words values past count st.runs c inside op (next-in more plan)) st;
      control = on.control;
      marked = on.marked;
      recorded = cpu-recorded led limited words values past count now.runs c inside op next on.recorded;
    }

    -- it is the machine's
    pub cpu-is-row : world_with led (words' op) (at_cpu values c cpu-more) (past_after op past) ≡ step led (cpu c) (world_with led words values past)
    cpu-is-row = cpu-row led limited words values past count now.runs c inside op next

    -- what it tells
    pub cpu-tells : CpuFacts led c (value op) (values (cpu c))
    cpu-tells = cpu-told led limited words values past count now.runs c inside op next on.recorded

  -- ## an operation of control

  abbrev vs : List ℕ
  vs = values ByControl

  abbrev s : World
  s = world_with led words values past

  module _ (op : WordOp) (next : control_next led (control_fed led vs) ≡ Some op) where
    abbrev more-taken : List ℕ
    more-taken = vs ++ value op ∷ []

    lines : ControlLines led s.control.commands_done s.control.position s.control.remaining (λ t. (task_in led s.cpus t).gone)
    lines = now.runs.kept.lines

    next-later : (more : List Ctl) (plan : LinePlan) → control_next (later led more plan) (control_fed (later led more plan) vs) ≡ Some op
    next-later more plan =
        ap (control_next (later led more plan)) (on.control more plan)
        ∙ next_kept led more plan (control_fed led vs) (λ t. (task_in led s.cpus t).gone) op lines next

    control-later : (more : List Ctl) (plan : LinePlan) → control_fed (later led more plan) more-taken ≡ more_to_come more (control_fed led more-taken)
    control-later more plan =
        let job : Job = later led more plan in
        control_after-append job (control_start job) vs (value op ∷ [])
        ∙ ap (λ (x : Control). control_got job x (value op)) (on.control more plan)
        ∙ got_kept led more plan (control_fed led vs) (λ t. (task_in led s.cpus t).gone) op lines next (value op)
        ∙ ap (more_to_come more) (sym (control_after-append led (control_start led) vs (value op ∷ [])))

    marked-later : (more : List Ctl) (plan : LinePlan) → control_items (later led more plan) more-taken ≡ control_items led more-taken
    marked-later more plan =
        let job : Job = later led more plan in
        let same = next-later more plan ∙ sym next in
        control_marks-snoc job (control_start job) vs (value op)
        ∙ (λ i. on.marked more plan i ++ control_marks_in (same i) (value op))
        ∙ sym (control_marks-snoc led (control_start led) vs (value op))

    pub control-goes-on : RunsOn led (words' op) (at_first values more-taken) (past_after op past)
    control-goes-on = record {
      stands = λ more plan l.
          let job : Job = later led more plan in
          let st = on.stands more plan l in
          stands-more job words (words' op) values (at_first values more-taken) past (past_after op past) ByControl (value op) refl
          (control-row job l words values past count st.runs op (next-later more plan))
          (control-runs job l words values past count st.runs op (next-later more plan)) st;
      control = control-later;
      marked = marked-later;
      recorded = control-recorded led limited words values past count now.runs op next on.recorded;
    }

    -- it is the machine's
    pub control-is-row : world_with led (words' op) (at_first values more-taken) (past_after op past) ≡ step led ByControl s
    control-is-row = control-row led limited words values past count now.runs op next

    -- what it tells
    pub control-tells : ControlFacts led (value op) vs
    control-tells = control-told led limited words values past count now.runs op next on.recorded

-- ## lines that are led

module _ (led : Job) (words : List ℕ) (values : Actor → List ℕ) (past : List Item) (on : RunsOn led words values past) (xs : List Ctl) (plan' : LinePlan) where
  -- lines that come after those that are led now are lines that may come
  after-those : (more : List Ctl) → (led.ctls ++ xs) ++ more ≡ led.ctls ++ (xs ++ more)
  after-those more = append_assoc led.ctls xs more

  lists-same : lists (later led xs plan') values ≡ lists led values
  lists-same = λ i. on.marked xs plan' i ∷ cpu-lists-same led (led.ctls ++ xs) plan' values 0 (length led.quanta) i

  lines-recorded : IsRecorded (later led xs plan') values past
  lines-recorded = record {
    placed = subst (λ ls. ArePlaced (length past) ls) (sym lists-same) on.recorded.placed;
    items = on.recorded.items ∙ ap (λ ls. past_below ls (length past)) (sym lists-same);
    own = λ c within.
        ap (λ (l : List Stamped). length l) (cpu-items-same led (led.ctls ++ xs) plan' c (values (cpu c))) ∙ on.recorded.own c within;
  }

  pub lines-go-on : RunsOn (later led xs plan') words values past
  lines-go-on = record {
    stands = λ more plan l.
        subst (λ ls. StandsFor (with_lines led ls plan) words values past) (sym (after-those more))
        (on.stands (xs ++ more) plan (subst (λ ls. IsLimited (with_lines led ls plan)) (after-those more) l));
    control = λ more plan.
        ap (λ ls. control_fed (with_lines led ls plan) (values ByControl)) (after-those more)
        ∙ on.control (xs ++ more) plan
        ∙ sym (more-more xs more (control_fed led (values ByControl)))
        ∙ ap (more_to_come more) (sym (on.control xs plan'));
    marked = λ more plan.
        ap (λ ls. control_items (with_lines led ls plan) (values ByControl)) (after-those more)
        ∙ on.marked (xs ++ more) plan
        ∙ sym (on.marked xs plan');
    recorded = lines-recorded;
  }
