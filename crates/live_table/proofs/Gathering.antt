-- All seats together: what their actors have marked is the history of which the rule speaks.
use Rattle.std.proofs.Common.{◌≡◌, ℕ, suc, ◌+◌, ◌*◌, ◌^◌, ◌<◌, ◌≤◌, List, [], ◌∷◌, length, map, reverse, slice_get, Some, None, refl, sym, ap, ◌∙◌, subst, arith}
use Rattle.std.proofs.lemmas.List.{length-reverse}
use mathlib.Core.Option.{some}
use lib.ListN.{get_elem?}
use Rattle.atomic_table.specs.Table.{State}
use Rattle.ft_base.specs.declared.item.Item.{Item}
use Rattle.ft_base.specs.declared.turn.Actor.{Actor}
use Rattle.ft_base.specs.declared.turn.Actor.TheVariants.{Control as ByControl}
use Rattle.ft_base.specs.Job.{Job, commands}
use Rattle.ft_hist.specs.Placing.{ArePlaced, past_below, total}
use Rattle.ft_hist.specs.Rules.{IsLegal, IsWhole}
use Rattle.user_specs.specs.Bound.{call_bound_in}
use Rattle.history_laws.specs.Bound.{all_calls}
use Rattle.history_laws.proofs.Bounded.{history-most}
use Rattle.word_machine_laws.specs.Led.{in_order}
use Rattle.word_machine_laws.specs.Orders.{AreLed}
use Rattle.word_machine.specs.Control.{control_next}
use Rattle.word_machine.specs.Cpu.{cpu_next}
use Rattle.word_machine.specs.Machine.{World}
use Rattle.word_machine_laws.proofs.Ends.{whole}
use Rattle.word_machine_laws.proofs.Limited.{few-commands, limited as word-job}
use Rattle.word_machine_laws.proofs.Room.{legal-turned}
use Rattle.ft_machine.specs.Fed.{control_fed, control_items, cpu_fed, cpu_items}
use Rattle.live_table.specs.Views.{View}
use Rattle.live_table.specs.Laws.{IsAlwaysLegal, IsAlwaysReached}
use Rattle.live_table.specs.Recorded.{cpu_lists, lists}
use Rattle.dealt_seats.specs.Views.{cpu, part, view}
use Rattle.live_table.specs.Rule.{LiveRule, StandsFor, led_at, world_with}
use Rattle.live_table.specs.Seats.{AreAtEnd, AreSeats, Board, ControlPlace, CpuPlace, IsMadeByTurns, history_of, items_at, lists_at, parts_of}
use Rattle.dealt_seats.proofs.Parts.{parts-at, seat-at}
use Rattle.live_table.proofs.Ends.{all-ended}
use Rattle.live_table.proofs.Later.{stands-now}
use Rattle.live_table.proofs.Lines.{cpu-lists-same, cpu-next-same}
use Rattle.live_table.proofs.Orders.{commands-picked}

-- ## lists of seats

lists-from : (job : Job) (values : Actor → List ℕ) (ss : List CpuPlace) (c : ℕ)
    → ((k : ℕ) (s : CpuPlace) → slice_get ss k ≡ Some s → cpu_items job (c + k) (values (cpu (c + k))) ≡ items_at s)
    → cpu_lists job values c (length ss) ≡ map items_at ss
lists-from job values [] c same = refl
lists-from job values (s ∷ ss) c same = λ i. here i ∷ lists-from job values ss (suc c) (λ k x e. later k ∙ same (suc k) x e) i
  where
    here : cpu_items job c (values (cpu c)) ≡ items_at s
    here = let e : c ≡ c + 0 = omega arith in ap (λ n. cpu_items job n (values (cpu n))) e ∙ same 0 s refl

    later : (k : ℕ) → cpu_items job (suc c + k) (values (cpu (suc c + k))) ≡ cpu_items job (c + suc k) (values (cpu (c + suc k)))
    later k = let e : suc c + k ≡ c + suc k = omega arith in ap (λ n. cpu_items job n (values (cpu n))) e

-- ## the history

-- at any moment
stands-at : {S : Type 0} {job : Job} {t : State S View} (r : LiveRule job t) → StandsFor (led_at r) t.words r.values r.past
stands-at {S} {job} {t} r = stands-now (led_at r) t.words r.values r.past r.led r.runs

pub always-legal : IsAlwaysLegal
always-legal job t r = let s = stands-at r in (s.runs.kept, legal-turned (led_at r) r.past s.runs.kept.legal)

pub always-reached : IsAlwaysReached
always-reached job t r = let s = stands-at r in (s.reached, s.at_first)

-- What the seats of a table have marked, once all are joined, if these lines were led.
--   placed   each place of the history has one item
--   few      there are no more items than the job can make, so a number of 32 bits tells how many
--   turns    the word machine makes the history by the steps of some actors in turn
--   legal    the history is legal
--   whole'   it is whole, if each seat is at its end
pub record Gathered (job : Job) (control : ControlPlace) (cpus : List CpuPlace) : Type 0 where
  pub placed : ArePlaced (total (lists_at control cpus)) (lists_at control cpus)
  pub as_many : length (history_of control cpus) ≡ total (lists_at control cpus)
  pub few : total (lists_at control cpus) < 2 ^ 32
  pub turns : IsMadeByTurns control.led (history_of control cpus)
  pub legal : IsLegal control.led (history_of control cpus)
  pub whole' : AreAtEnd control cpus → IsWhole control.led (history_of control cpus)

module _ {S : Type 0} (b : Board) (control : ControlPlace) (cpus : List CpuPlace) (id : ℕ) (t : State S View)
    (seats : AreSeats b cpus) (r : LiveRule b.job t)
    (at : get_elem? t.views id ≡ some (view control.job control.led control.split (part ByControl control.values ∷ parts_of cpus))) where
  abbrev all : View
  all = view control.job control.led control.split (part ByControl control.values ∷ parts_of cpus)

  abbrev led : Job
  led = led_at r

  abbrev s : World
  s = world_with led t.words r.values r.past

  now : StandsFor led t.words r.values r.past
  now = stands-at r

  knows : control.led ≡ led
  knows = (r.covers.fits id all at 0 (part ByControl control.values) refl).stands.0

  control-has : control.values ≡ r.values ByControl
  control-has = (r.covers.fits id all at 0 (part ByControl control.values) refl).has

  cpu-has : (k : ℕ) (x : CpuPlace) → slice_get cpus k ≡ Some x → x.values ≡ r.values (cpu k)
  cpu-has k x e =
      (r.covers.fits id all at (suc k) (part (cpu x.number) x.values) (parts-at (λ (u : CpuPlace). u.number) (λ u. u.values) cpus k x e)).has ∙ ap (λ c. r.values (cpu c)) (seats.each k x e).1

  -- the lists of the rule are those of the seats
  lists-are : lists led r.values ≡ lists_at control cpus
  lists-are =
      let rest : cpu_lists b.job r.values 0 (length b.job.quanta) ≡ map items_at cpus =
      ap (cpu_lists b.job r.values 0) (sym seats.count)
      ∙ lists-from b.job r.values cpus 0
      (λ k x e.
      let n = seats.each k x e in
      let z : 0 + k ≡ k = omega arith in
      ap (λ c. cpu_items b.job c (r.values (cpu c))) z ∙ (λ i. cpu_items (sym n.0.1 i) (sym n.1 i) (sym (cpu-has k x e) i))) in
      let whole : cpu_lists led r.values 0 (length b.job.quanta) ≡ map items_at cpus =
      cpu-lists-same b.job r.ctls r.plan r.values 0 (length b.job.quanta) ∙ rest in
      λ i. control_items (sym knows i) (sym control-has i) ∷ whole i

  placed-past : ArePlaced (length r.past) (lists_at control cpus)
  placed-past = subst (λ ls. ArePlaced (length r.past) ls) lists-are r.runs.recorded.placed

  many : total (lists_at control cpus) ≡ length r.past
  many = placed-past.count

  history-is : history_of control cpus ≡ reverse r.past
  history-is = ap (λ (past : List Item). reverse past) (sym (r.runs.recorded.items ∙ (λ i. past_below (lists-are i) (sym many i))))

  control-over : AreAtEnd control cpus → control_next led s.control ≡ None
  control-over over = (λ i. control_next (sym knows i) (control_fed (sym knows i) (sym control-has i))) ∙ over.control_over

  cpu-over : AreAtEnd control cpus → (c : ℕ) → c < length b.job.quanta → cpu_next led (s.cpus c) ≡ None
  cpu-over over c inside =
      let x = seat-at cpus c (let n = seats.count in omega (arith, n, inside)) in
      let n = seats.each c x.0 x.1 in
      cpu-next-same b.job r.ctls r.plan c (r.values (cpu c))
      ∙ (λ i. cpu_next (sym n.0.1 i) (cpu_fed (sym n.0.1 i) (sym n.1 i) (sym (cpu-has c x.0 x.1) i)))
      ∙ over.cpus_over c x.0 x.1

  -- the lines that were led have no more commands than the job
  module _ (order : List ℕ) (once : AreLed (length b.job.ctls) order) (in-that : control.led ≡ in_order b.job order) where
    commands-few : length (commands led) ≤ length (commands b.job)
    commands-few =
        subst (λ (job : Job). length (commands job) ≤ length (commands b.job)) (sym in-that ∙ knows) (commands-picked b.job.ctls order once)

    all-gathered : Gathered b.job control cpus
    all-gathered = record {
      placed = subst (λ n. ArePlaced n (lists_at control cpus)) (sym many) placed-past;
      as_many = ap (λ (items : List Item). length items) history-is ∙ length-reverse r.past ∙ sym many;
      few = (let most : length r.past ≤ 2 * length (commands led) + call_bound_in b.job * all_calls b.job.tasks = history-most led r.past now.runs.kept.legal in
          let e = many in let fewer = commands-few in let lines = few-commands b.job.ctls in let ctls = r.limited.ctls in let items = r.limited.items in
          omega (arith, most, e, fewer, lines, ctls, items));
      turns = subst (λ (job : Job). IsMadeByTurns job (history_of control cpus)) (sym knows)
          (now.reached.0, history-is ∙ ap (λ (w : World). reverse w.past) now.reached.1);
      legal = subst (λ (job : Job). IsLegal job (history_of control cpus)) (sym knows)
          (subst (IsLegal led) (sym history-is) (legal-turned led r.past now.runs.kept.legal));
      whole' = λ over. subst (λ (job : Job). IsWhole job (history_of control cpus)) (sym knows)
          (subst (IsWhole led) (sym history-is)
          (whole led (word-job led r.led) s now.runs.kept (all-ended led s now.runs.kept (control-over over) (cpu-over over))));
    }

-- at a table and a seat that are known
pub gathered : {S : Type 0} (b : Board) (control : ControlPlace) (cpus : List CpuPlace) (id : ℕ) (t : State S View) (key : Job) (v : View)
    → key ≡ b.job → control.job ≡ b.job → AreSeats b cpus → LiveRule key t → get_elem? t.views id ≡ some v
    → v ≡ view control.job control.led control.split (part ByControl control.values ∷ parts_of cpus)
    → AreLed (length control.job.ctls) control.order → control.led ≡ in_order control.job control.order → Gathered b.job control cpus
gathered {S} b control cpus id t key v is same seats r at last once in-that =
    all-gathered b control cpus id t seats (subst (λ (job : Job). LiveRule {S = S} job t) is r) (at ∙ ap (λ (u : View). some u) last) control.order
    (subst (λ (job : Job). AreLed (length job.ctls) control.order) same once) (in-that ∙ ap (λ (job : Job). in_order job control.order) same)
