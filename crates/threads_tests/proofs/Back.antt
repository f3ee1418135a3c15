-- Seats that are taken out of their list and put back.
use Rattle.std.proofs.Common.{◌≡◌, ℕ, List, [], ◌∷◌, ◌++◌, length, ap, ◌∙◌, subst, sym, Some, arith, length-append}
use Rattle.std.specs.Prelude.{slice_get}
use Rattle.ring_rules.proofs.Lists.{get-last, get-more}
use Rattle.ring_table.specs.Seats.{AreNew, Board, SeatPlace, SitsAt}
use Rattle.ft_base.proofs.Small.{each-pushed}

-- these are seats of a table by the numbers of their CPUs, from 0 on
abbrev pub AreFrom : Board → List SeatPlace → Type 0
AreFrom b seats = (c : ℕ) (s : SeatPlace) → slice_get seats c ≡ Some s → SitsAt b s × (s.number ≡ c)

pub from-new : (b : Board) (rooms : List ℕ) (seats : List SeatPlace) → AreNew b rooms seats → AreFrom b seats
from-new b rooms seats new c s e = let n = new.each c s e in (n.sits, n.number')

-- the last one is taken out: those before it, and the last one
pub taken-out : (b : Board) (old front : List SeatPlace) (s : SeatPlace) → old ≡ front ++ s ∷ [] → AreFrom b old
    → AreFrom b front × (SitsAt b s × (s.number ≡ length front))
taken-out b old front s was all = (
  λ c t e. all c t (ap (λ (seats : List SeatPlace). slice_get seats c) was ∙ get-more front s t c e),
  all (length front) s (ap (λ (seats : List SeatPlace). slice_get seats (length front)) was ∙ get-last front s),
)

-- the same CPU's seat is put back, after as many others
pub put-back : (b : Board) (old front front' new : List SeatPlace) (s t : SeatPlace) → old ≡ front ++ s ∷ [] → new ≡ front' ++ t ∷ [] → AreFrom b old
    → AreFrom b front' × (length front' ≡ length front) → SitsAt b t × (t.number ≡ s.number) → AreFrom b new × (length new ≡ length old)
put-back b old front front' new s t was now all (before, many) (sits, number) = (
  subst (AreFrom b) (sym now)
      (each-pushed (λ c u. SitsAt b u × (u.number ≡ c)) front' t before (sits, number ∙ (taken-out b old front s was all).1.1 ∙ sym many)),
  (let m = ap (λ (seats : List SeatPlace). length seats) was in
      let n = ap (λ (seats : List SeatPlace). length seats) now in
      let l = length-append front (s ∷ []) in
      let k = length-append front' (t ∷ []) in
      omega (arith, m, n, l, k, many)),
)
