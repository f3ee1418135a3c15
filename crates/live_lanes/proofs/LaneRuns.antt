-- From a table whose lines are withheld, over a run of lanes, to the job in the order that they made.
use Rattle.std.proofs.Common.{◌≡◌, ◌+◌, ◌≤◌, ℕ, true, List, [], ◌∷◌, ◌++◌, length, sum, None, sym, ap, ◌∙◌, subst, arith}
use Rattle.std.proofs.lemmas.List.{length-map}
use Rattle.std.proofs.lemmas.Slice.Zip.{AllZip-long}
use Rattle.ft_base.specs.declared.limits.TheConstants.{LANES}
use Rattle.ft_base.specs.Job.{Job}
use Rattle.desk_lock.specs.Journals.{IsMerge}
use Rattle.word_machine_laws.specs.Orders.{AreAllLed, AreLed, IsLaneOrder}
use Rattle.word_machine.specs.Control.{control_next}
use Rattle.word_machine.specs.Limits.{IsLimited}
use Rattle.ft_job.specs.Plans.{HasLanes}
use Rattle.live_table.specs.Seats.{Board, ControlPlace, ControlSitsAt, CpuPlace, IsOpen, control_at}
use Rattle.live_seats.specs.AnySeats.{AreEndedSeats, IsEndedSeat, all_of, cpus_as_any}
use Rattle.live_seats.specs.Ends.{AreEnded}
use Rattle.live_seats.specs.declared.seat.AnySeat.{AnySeat}
use Rattle.live_seats.specs.declared.seat.AnySeat.TheVariants.{Control, Cpu}
use Rattle.live_seats.proofs.Apart.{cpus_again, cpus_ended}
use Rattle.live_lanes.specs.Conducted.{IsReady, IsRun}
use Rattle.live_lanes.specs.LaneItems.{AreAllServed, AreCounts, as_items}
use Rattle.live_lanes.proofs.Conducting.{lane_each}
use Rattle.live_lanes.proofs.Orders.{merged_order}

-- ## the seats

-- those that are launched are the CPUs'
pub launched : (cpus : List CpuPlace) (none ss : List AnySeat) → none ≡ [] → ss ≡ none ++ cpus_as_any cpus → ss ≡ cpus_as_any cpus
launched cpus none ss empty is = is ∙ ap (λ l. l ++ cpus_as_any cpus) empty

module _ (b : Board) (lanes counts : List ℕ) (cpus : List CpuPlace) (ss back : List AnySeat) (is : ss ≡ cpus_as_any cpus)
    (r : IsRun b lanes counts ss back) where
  over : AreEndedSeats (cpus_as_any cpus) r.cpus
  over = subst (λ l. AreEndedSeats l r.cpus) is r.cpus'

  -- those that come back can be taken apart
  pub both_kinds : (c : ControlPlace) × (us : List CpuPlace) × (back ≡ all_of c us)
  both_kinds = let u = cpus_again cpus r.cpus over in (r.control, u.0, r.back' ∙ ap (λ l. Control r.control ∷ l) u.1)

  pub back_count : length back ≡ length cpus + 1
  back_count =
      let e = ap length r.back' in
      let m = AllZip-long IsEndedSeat (cpus_as_any cpus) r.cpus over in
      let n = length-map cpus (λ s. Cpu s) in
      omega (arith, e, m, n)

  module _ (c : ControlPlace) (us : List CpuPlace) (apart : back ≡ all_of c us) where
    same_control : r.control ≡ c
    same_control = let e = r.back' in cc

    same_cpus : r.cpus ≡ cpus_as_any us
    same_cpus = let e = r.back' in cc

    pub control_back : ControlSitsAt b c × (control_next c.led (control_at c) ≡ None)
    control_back = subst (λ s. ControlSitsAt b s × (control_next s.led (control_at s) ≡ None)) same_control (r.sits, r.over)

    pub cpus_back : AreEnded cpus us
    cpus_back = cpus_ended cpus us (subst (AreEndedSeats (cpus_as_any cpus)) same_cpus over)

    pub merge_back : IsMerge counts (as_items lanes c.order)
    merge_back = subst (λ s. IsMerge counts (as_items lanes s.order)) same_control r.merge

-- ## the order

-- each line has a lane, as the job has it
lines_are : (job : Job) (lanes : List ℕ) → HasLanes job → lanes ≡ job.lines.lanes → length job.ctls ≡ length lanes
lines_are job lanes planned is = sym (lane_each job planned) ∙ ap (λ (l : List ℕ). length l) (sym is)

-- the lanes and their counts are read again
read_again : (lanes lanes2 counts counts2 own : List ℕ) → lanes ≡ own → lanes2 ≡ own → counts2 ≡ counts → AreCounts lanes counts
    → AreCounts lanes2 counts2
read_again lanes lanes2 counts counts2 own is is2 same counted =
    subst (λ l. AreCounts l counts2) (is ∙ sym is2) (subst (AreCounts lanes) (sym same) counted)

-- Of a job whose lanes and counts were read before the table was made, and again.
module _ (b : Board) (job : Job) (lanes lanes2 counts counts2 : List ℕ) (c : ControlPlace) (planned : HasLanes job) (at : b.job ≡ job)
    (is : lanes ≡ job.lines.lanes) (is2 : lanes2 ≡ job.lines.lanes) (same : counts2 ≡ counts)
    (counted : AreCounts lanes counts) where
  -- before the first turn
  pub all_ready : (split : ℕ) → IsLimited job → length counts ≤ LANES → sum counts ≤ length lanes → IsOpen b c true split
      → control_next c.led (control_at c) ≡ None → IsReady b lanes2 counts2 c
  all_ready split limited few most first over =
      let n = lines_are job lanes2 planned is2 in
      let m = limited.ctls in
      record {
        sits = (first.table_id, first.job);
        over = over;
        none = first.order;
        lanes' = is2 ∙ ap (λ (j : Job). j.lines.lanes) (sym at);
        planned = subst HasLanes (sym at) planned;
        few = omega (arith, n, m);
        counted = read_again lanes lanes2 counts counts2 job.lines.lanes is is2 same counted;
        lanes'' = subst (λ (l : List ℕ). length l ≤ LANES) (sym same) few;
        items = subst (λ (l : List ℕ). sum counts2 ≤ length l) (is ∙ sym is2) (subst (λ (l : List ℕ). sum l ≤ length lanes) (sym same) most);
      }

  -- and after the last one
  pub all_served : (order : List ℕ) → IsMerge counts2 (as_items lanes2 order) → AreAllServed job.lines.lanes order
  all_served order merge = subst (λ l. AreAllServed l order) is2
      (counts2, read_again lanes lanes2 counts counts2 job.lines.lanes is is2 same counted, merge)

-- what was led to control is a merge of the lanes
pub led_merge : (b : Board) (job : Job) (c : ControlPlace) → HasLanes job → b.job ≡ job → ControlSitsAt b c → AreLed (length c.job.ctls) c.order
    → AreAllServed job.lines.lanes c.order → IsLaneOrder job.lines.lanes c.order
led_merge b job c planned at sits once served =
    let led : AreLed (length job.ctls) c.order = subst (λ (j : Job). AreLed (length j.ctls) c.order) (sits.1 ∙ at) once in
    merged_order job.lines.lanes served.0 c.order served.1 (subst (λ n. AreLed n c.order) (sym (lane_each job planned)) led) served.2

-- so each of the job's lines was led
pub all_led : (job : Job) (order : List ℕ) → HasLanes job → IsLaneOrder job.lines.lanes order → AreAllLed (length job.ctls) order
all_led job order planned merge = subst (λ n. AreAllLed n order) (lane_each job planned) merge.each
