-- What is kept while commands are led and carried out.
use Rattle.std.proofs.Common.{◌≡◌, ℕ, zero, suc, ◌<◌, List, [], ◌∷◌, ◌++◌, length, Some, None, refl, sym, ap, ◌∙◌, subst, arith}
use Rattle.std.specs.Prelude.{slice_get, slice_index}
use Rattle.std.specs.List.{AllByRecursion as Each}
use Rattle.ft_base.specs.Job.{Command, Ctl, Job, Run, Until}
use Rattle.desk_lock.specs.Journals.{IsInOrder, done_of}
use Rattle.word_machine_laws.specs.Orders.{IsLed, lane_of}
use Rattle.word_machine.specs.Control.{control_next}
use Rattle.ft_job.specs.Plans.{HasLanes, IsCommand}
use Rattle.ft_job.proofs.Ordered.{all-commands}
use Rattle.live_table.specs.Seats.{Board, ControlPlace, ControlSitsAt, control_at}
use Rattle.live_seats.specs.AnySeats.{AreSameSeats, AreSeatsOf, actor_of, without_rings}
use Rattle.live_seats.specs.declared.seat.AnySeat.{AnySeat}
use Rattle.live_seats.proofs.Alike.{all_same_then, same_all, same_table}
use Rattle.live_lanes.specs.Conducted.{IsConducted, IsReady, actors_of}
use Rattle.live_lanes.specs.LaneItems.{AreCounts, as_items, rank}
use Rattle.live_lanes.proofs.Serving.{not_led, order_more}

-- ## the job's lines are commands

command_in : (ctls : List Ctl) (k : ℕ) → Each IsCommand ctls → k < length ctls → (c : Command) × (slice_get ctls k ≡ Some (Run c))
command_in [] k all lt = absurd (omega arith)
command_in (Run c ∷ ctls) zero all lt = (c, refl)
command_in (Run c ∷ ctls) (suc k) all lt = command_in ctls k all.1 (omega arith)
command_in (Until t n ∷ ctls) k all lt = absurd all.0

-- so each line has a lane
pub lane_each : (job : Job) → HasLanes job → length job.lines.lanes ≡ length job.ctls
lane_each job planned = planned.each ∙ all-commands job.ctls planned.commands'

pub command_at : (job : Job) (k : ℕ) → HasLanes job → k < length job.lines.lanes → (c : Command) × (slice_get job.ctls k ≡ Some (Run c))
command_at job k planned lt = command_in job.ctls k planned.commands' (let e = lane_each job planned in omega (arith, lt, e))

-- ## whose seats they are

pub same_actors : (ss ts : List AnySeat) → AreSameSeats ss ts → actors_of ts ≡ actors_of ss
same_actors [] [] same = refl
same_actors [] (t ∷ ts) same = absurd same
same_actors (s ∷ ss) [] same = absurd same
same_actors (s ∷ ss) (t ∷ ts) same = ap (λ n. n ∷ actors_of ts) same.0.actor ∙ ap (λ l. actor_of s ∷ l) (same_actors ss ts same.1)

-- ## before the first turn

none_in_order : (counts : List ℕ) → IsInOrder counts []
none_in_order counts = record { lanes = λ k s at. absurd (cc); items = λ l lt. refl; below = λ l lt. omega arith }

pub conducted_first : (b live : Board) (counts counts2 name lanes : List ℕ) (seats here : List AnySeat) (control : ControlPlace) → b ≡ live
    → counts ≡ counts2 → name ≡ actors_of here → seats ≡ here → IsReady live lanes counts2 control
    → AreSeatsOf (without_rings live) here → IsConducted b counts name seats live lanes control here
conducted_first b live counts counts2 name lanes seats here control at same named own r sit = record {
  live' = sym at;
  lanes' = r.lanes' ∙ ap (λ (z : Board). z.job.lines.lanes) (sym at);
  planned = subst (λ (z : Board). HasLanes z.job) (sym at) r.planned;
  few = r.few;
  sits = subst (λ z. ControlSitsAt z control) (sym at) r.sits;
  over = r.over;
  given = subst (AreSeatsOf (without_rings b)) (sym own) (subst (λ z. AreSeatsOf (without_rings z) here) (sym at) sit);
  same = subst (λ l. AreSameSeats l here) (sym own) (same_all here);
  named = ap actors_of own ∙ sym named;
  counted = subst (AreCounts lanes) (sym same) r.counted;
  order = subst (λ o. IsInOrder counts (as_items lanes o)) (sym r.none) (none_in_order counts);
}

-- ## a turn

module _ (b : Board) (counts name : List ℕ) (seats : List AnySeat) (live : Board) (lanes : List ℕ) (control : ControlPlace) (here : List AnySeat)
    (h : IsConducted b counts name seats live lanes control here)
    (k lane item : ℕ) (lt : k < length lanes) (of' : lane_of lanes k ≡ lane) (is : rank lanes k ≡ item) (in' : lane < length counts)
    (next : item ≡ done_of lane (as_items lanes control.order)) where
  inside : lane_of lanes k < length counts
  inside = subst (λ l. l < length counts) (sym of') in'

  after : rank lanes k ≡ done_of (lane_of lanes k) (as_items lanes control.order)
  after = is ∙ next ∙ ap (λ l. done_of l (as_items lanes control.order)) (sym of')

  -- the command wasn't led
  pub conducted_fresh : IsLed control.order k → ⊥
  conducted_fresh = not_led counts lanes control.order h.order k inside after

  -- it is a command of the job
  pub conducted_command : (c : Command) × (slice_get control.job.ctls k ≡ Some (Run c))
  conducted_command =
      let r = command_at b.job k h.planned (subst (λ l. k < length l) h.lanes' lt) in
      (r.0, ap (λ (j : Job). slice_get j.ctls k) h.sits.1 ∙ r.1)

  -- and once it was led, and control is at its end again, all is kept
  pub conducted_more : item < slice_index counts lane → (control2 : ControlPlace) (here2 : List AnySeat) → control2.table_id ≡ control.table_id
      → control2.job ≡ control.job → control2.order ≡ control.order ++ k ∷ []
      → control_next control2.led (control_at control2) ≡ None → AreSameSeats here here2 → IsConducted b counts name seats live lanes control2 here2
  conducted_more left control2 here2 ts js os over same =
      let left' : rank lanes k < slice_index counts (lane_of lanes k) =
      subst (λ l. rank lanes k < slice_index counts l) (sym of') (omega (arith, is, left)) in
      record {
        live' = h.live';
        lanes' = h.lanes';
        planned = h.planned;
        few = h.few;
        sits = (ts ∙ h.sits.0, js ∙ h.sits.1);
        over = over;
        given = h.given;
        same = all_same_then seats here here2 h.same same;
        named = h.named;
        counted = h.counted;
        order = subst (λ o. IsInOrder counts (as_items lanes o)) (sym os) (order_more counts lanes control.order h.order k inside after left');
      }

-- the seats that are here are the table's
pub conducted_sit : (b : Board) (counts name : List ℕ) (seats : List AnySeat) (live : Board) (lanes : List ℕ) (control : ControlPlace)
    (here : List AnySeat) → IsConducted b counts name seats live lanes control here
    → AreSeatsOf (without_rings live) here
conducted_sit b counts name seats live lanes control here h =
    subst (λ l. AreSeatsOf (without_rings l) here) (sym h.live') (same_table (without_rings b) seats here h.given h.same)
