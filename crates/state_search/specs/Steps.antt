-- States as they are kept, each by its key and its last step, and the schedules that they have by that.
use Rattle.std.specs.Prelude.{◌≡◌, ◌<◌, ℕ, List, [], ◌∷◌, ◌++◌, get_or, slice_get, Some}
use Rattle.state_search.specs.declared.states.Step.{Step}

-- a state: its key, and a schedule that leads to it
abbrev pub Entry : Type 0
Entry = List ℕ × List ℕ

-- the schedule to which this last step belongs, after these states; that of the first state is empty
abbrev pub led : List Entry → Step → List ℕ
led [] p = []
led (e ∷ es) p = (get_or (e ∷ es) p.before e).1 ++ p.actor ∷ []

-- these states, and then those of the table with their schedules
abbrev pub after_states : List Entry → List (List ℕ × Step) → List Entry
after_states done [] = done
after_states done (e ∷ es) = after_states (done ++ (e.0, led done e.1) ∷ []) es

abbrev pub with_schedules : List (List ℕ × Step) → List Entry
with_schedules es = after_states [] es

-- each state but the first comes after the one before its last step
abbrev pub AreEarlier : List (List ℕ × Step) → Type 0
AreEarlier es = (i : ℕ) (k : List ℕ) (p : Step) → slice_get es i ≡ Some (k, p) → 0 < i → p.before < i
