-- Control's seat after one more line.
use Rattle.std.specs.Prelude.{◌≡◌, ℕ, [], ◌∷◌, ◌++◌}
use Rattle.live_table.specs.Seats.{ControlPlace}

-- the same seat, to which this line was led as well
pub record IsLedOn (s : ControlPlace) (line : ℕ) (t : ControlPlace) : Type 0 where
  pub table_id : t.table_id ≡ s.table_id
  pub job : t.job ≡ s.job
  pub order : t.order ≡ s.order ++ line ∷ []
