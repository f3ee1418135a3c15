-- From a table's start over a run to its gathering, for the crates above: the seats are the table's all along, and at the end each is at its end.
use Rattle.std.proofs.Common.{List, ◌∙◌}
use Rattle.live_table.specs.Seats.{AreAtEnd, AreNew, AreSeats, Board, ControlPlace, CpuPlace}
use Rattle.live_seats.specs.Ends.{AreEnded, IsEndedControl}

pub seats_started : (b : Board) (ss : List CpuPlace) → AreNew b ss → AreSeats b ss
seats_started b ss new = record {
  count = new.count;
  each = λ k s at. let n = new.each k s at in ((n.0, n.1), n.2);
}

pub seats_ended : (b : Board) (ss ts : List CpuPlace) → AreSeats b ss → AreEnded ss ts → AreSeats b ts
seats_ended b ss ts seats ended = record {
  count = ended.count ∙ seats.count;
  each = λ k t at.
      let e = ended.each k t at in
      let s = seats.each k e.0 e.1 in
      ((e.2.0.table_id ∙ s.0.0, e.2.0.job ∙ s.0.1), e.2.0.number ∙ s.1);
}

pub all_ended : (control c : ControlPlace) (ss ts : List CpuPlace) → IsEndedControl control c → AreEnded ss ts → AreAtEnd c ts
all_ended control c ss ts over ended = record { control_over = over.1; cpus_over = λ k t at. (ended.each k t at).2.1 }
