-- A text that is put before any other.
use Rattle.std.proofs.Common.{◌≡◌, ℕ, List, [], Option}
use Rattle.ft_io.specs.Pieces.{OnTheWay, nothing, IsUnderWay, Puts}
use Rattle.ft_io.proofs.PieceLaws.{starts}

-- a text that was put into no bytes yet is under way
pub first-under_way : {K : Type 0} {holds : K → Option (List ℕ)} {faults : K → ℕ} {text : List ℕ} {k l : K} {p q : OnTheWay} → p ≡ nothing
    → Puts holds faults text k p l q → IsUnderWay holds faults text (holds k) (faults k) l q
first-under_way {k = k} none puts = puts.adds [] _ _ (rw none (starts k))
