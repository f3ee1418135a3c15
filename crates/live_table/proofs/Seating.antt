-- Splitting a seat and joining two keep the rule of the table. The words, the values and the items stay as they are.
use Rattle.std.proofs.Common.{◌≡◌, ℕ, ◌+◌, ◌<◌, List, [], length, sym, ap, ◌∙◌, subst}
use mathlib.Core.Option.{some}
use lib.ListN.{get_elem?}
use Rattle.atomic_table.specs.Table.{Splits, Joins}
use Rattle.dealt_seats.specs.Views.{dealer, joined}
use Rattle.dealt_seats.proofs.Actors.{at_cpu}
use Rattle.dealt_seats.proofs.Moves.{covers-dealt, covers-joined, dealt_at}
use Rattle.ft_base.specs.Job.{Job}
use Rattle.ft_machine.specs.Fed.{cpu_fed}
use Rattle.live_table.specs.Laws.{OneSeatEach, UnsplitHaveNotStepped}
use Rattle.live_table.specs.Rule.{LiveRule, led_at}
use Rattle.live_table.specs.Views.{Part, View, control_view, cpu_view, dealt, no_job, spent}

splits-at : {S : Type 0} (job own : Job) (id split : ℕ) (vs : List ℕ) → split < length job.quanta
    → Splits {S = S} (LiveRule job) id (control_view job own split vs) (control_view job own (split + 1) vs) (cpu_view job split [])
splits-at job own id split vs room t r at = record {
  limited = r.limited;
  ctls = r.ctls;
  plan = r.plan;
  led = r.led;
  values = r.values;
  seat = dealt_at job (length job.quanta) [] (led_at r) t.views r.values r.seat r.split r.covers id split own job vs room at;
  split = split + 1;
  past = r.past;
  count = r.count;
  runs = r.runs;
  covers = covers-dealt job (length job.quanta) [] (led_at r) t.views r.values r.seat r.split r.covers id split own job vs room at;
}

joins-at : {S : Type 0} (job : Job) (id : ℕ) (v : View) (x0 : Part) (other c : ℕ) (vs : List ℕ) → get_elem? v.parts 0 ≡ some x0
    → Joins {S = S} (LiveRule job) id v other (cpu_view job c vs) (joined v (cpu_view job c vs)) spent
joins-at job id v x0 other c vs own t r at apart at2 = record {
  limited = r.limited;
  ctls = r.ctls;
  plan = r.plan;
  led = r.led;
  values = r.values;
  seat = at_cpu r.seat c id;
  split = r.split;
  past = r.past;
  count = r.count;
  runs = r.runs;
  covers = covers-joined job (length job.quanta) [] (led_at r) t.views r.values r.seat r.split r.covers id v x0 own other c job vs at apart at2 no_job no_job;
}

-- ## the same at seats that are known

-- control's seat gives the next CPU its seat
pub splits : {S : Type 0} (job q own : Job) (id split : ℕ) (vs : List ℕ) (v : View) → v ≡ control_view q own split vs → q ≡ job
    → split < length job.quanta → Splits {S = S} (LiveRule job) id v (dealer v) (dealt v)
splits {S} job q own id split vs v is same room =
    subst (λ (u : View). Splits {S = S} (LiveRule job) id u (dealer u) (dealt u)) (sym is)
    (subst (λ (r : Job). Splits {S = S} (LiveRule job) id (control_view r own split vs) (control_view r own (split + 1) vs) (cpu_view r split [])) (sym same)
    (splits-at job own id split vs room))

-- a seat takes in a CPU's
pub joins : {S : Type 0} (job q : Job) (id : ℕ) (v : View) (x0 : Part) (other c : ℕ) (vs : List ℕ) (w : View)
    → get_elem? v.parts 0 ≡ some x0 → w ≡ cpu_view q c vs → q ≡ job → Joins {S = S} (LiveRule job) id v other w (joined v w) spent
joins {S} job q id v x0 other c vs w own is same =
    subst (λ (u : View). Joins {S = S} (LiveRule job) id v other u (joined v u) spent) (sym is)
    (subst (λ (r : Job). Joins {S = S} (LiveRule job) id v other (cpu_view r c vs) (joined v (cpu_view r c vs)) spent) (sym same)
    (joins-at job id v x0 other c vs own))

-- ## laws

-- no actor stands in two views
pub one-seat-each : OneSeatEach
one-seat-each job t i j v w k l x y r at has at2 has2 same =
    sym (r.covers.fits i v at k x has).seated ∙ ap r.seat same ∙ (r.covers.fits j w at2 l y has2).seated

-- a CPU that was not split off is as at the start
pub not-stepped : UnsplitHaveNotStepped
not-stepped job t r c le = ap (cpu_fed (led_at r) c) (r.covers.unsplit c le)
