-- Waits after several of their operations, and what they have come to by then.
use Rattle.std.specs.Prelude.{◌≡◌, ℕ, ◌≤◌, List, [], ◌∷◌, take, slice_get, Some}
use Rattle.word_map.specs.Ops.{Load}
use Rattle.grace_core.specs.Waits.{Wait, wait_next, wait_got, awaited_word, reached}

-- a wait after its next operations gave these values
abbrev pub wait_past : Wait → List ℕ → Wait
wait_past w [] = w
wait_past w (v ∷ vs) = wait_past (wait_got w v) vs

-- one of these values is of a load of the word of this number, and says that the request was reached
--   moment   how many values came before it
pub record HasSeen (w : Wait) (vs : List ℕ) (n : ℕ) : Type 0 where
  pub moment : ℕ
  pub value : ℕ
  pub loads : wait_next (wait_past w (take moment vs)) ≡ Some (Load (awaited_word w.quiet n))
  pub gives : slice_get vs moment ≡ Some value
  pub enough : w.request ≤ reached w.quiet value
