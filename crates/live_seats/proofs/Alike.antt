-- Lists of seats that are alike, seat by seat.
use Rattle.std.proofs.Common.{◌≡◌, ℕ, zero, suc, ◌<◌, List, [], ◌∷◌, length, get_or, slice_get, Some, None, refl, sym, ap, ◌∙◌, subst, arith}
use Rattle.std.proofs.Math.ListN.{set}
use Rattle.std.proofs.lemmas.List.{length-map, get_or-map}
use Rattle.std.proofs.lemmas.List.Elements.{All-cons, All-head, All-nil, All-tail, AllZip-get_or, length_all_zip}
use Rattle.live_seats.specs.AnySeats.{AreAtEnd, IsRingOf, Tables, IsSeatOf, IsSameSeat, AreSeatsOf, AreSameSeats, AreEndedSeats, next_of}
use Rattle.live_seats.specs.Seatings.{own_seats}
use Rattle.live_seats.specs.declared.here.HereSeat.{HereSeat}
use Rattle.live_seats.specs.declared.seat.AnySeat.{AnySeat}

same_then : (s t u : AnySeat) → IsSameSeat s t → IsSameSeat t u → IsSameSeat s u
same_then s t u a b = record {
  table_id = b.table_id ∙ a.table_id;
  id = b.id ∙ a.id;
  job = b.job ∙ a.job;
  led = b.led ∙ a.led;
  order = b.order ∙ a.order;
  actor = b.actor ∙ a.actor;
  split = b.split ∙ a.split;
  ring = b.ring ∙ a.ring;
}

pub same_one : (s : AnySeat) → IsSameSeat s s
same_one s = record { table_id = refl; id = refl; job = refl; led = refl; order = refl; actor = refl; split = refl; ring = refl }

pub same_all : (ss : List AnySeat) → AreSameSeats ss ss
same_all [] = tt
same_all (s ∷ ss) = (same_one s, same_all ss)

pub all_same_then : (ss ts us : List AnySeat) → AreSameSeats ss ts → AreSameSeats ts us → AreSameSeats ss us
all_same_then [] [] [] a b = tt
all_same_then [] [] (u ∷ us) a b = absurd b
all_same_then [] (t ∷ ts) us a b = absurd a
all_same_then (s ∷ ss) [] us a b = absurd a
all_same_then (s ∷ ss) (t ∷ ts) [] a b = absurd b
all_same_then (s ∷ ss) (t ∷ ts) (u ∷ us) a b = (same_then s t u a.0 b.0, all_same_then ss ts us a.1 b.1)

-- the same seats, and then at their ends, are the first at their ends
pub over_then : (ss ts us : List AnySeat) → AreSameSeats ss ts → AreEndedSeats ts us → AreEndedSeats ss us
over_then [] [] [] a b = tt
over_then [] [] (u ∷ us) a b = absurd b
over_then [] (t ∷ ts) us a b = absurd a
over_then (s ∷ ss) [] us a b = absurd a
over_then (s ∷ ss) (t ∷ ts) [] a b = absurd b
over_then (s ∷ ss) (t ∷ ts) (u ∷ us) a b = ((same_then s t u a.0 b.0.0, b.0.1), over_then ss ts us a.1 b.1)

-- the same seats that are at their ends
pub ended_all : (ss ts : List AnySeat) → AreSameSeats ss ts → AreAtEnd ts → AreEndedSeats ss ts
ended_all [] [] same over = tt
ended_all [] (t ∷ ts) same over = absurd same
ended_all (s ∷ ss) [] same over = absurd same
ended_all (s ∷ ss) (t ∷ ts) same over =
    ((same.0, All-head (λ (x : AnySeat). next_of x ≡ None) t ts over), ended_all ss ts same.1 (All-tail (λ (x : AnySeat). next_of x ≡ None) t ts over))

pub ended_same : (ss ts : List AnySeat) → AreEndedSeats ss ts → AreSameSeats ss ts
ended_same [] [] ended = tt
ended_same [] (t ∷ ts) ended = absurd ended
ended_same (s ∷ ss) [] ended = absurd ended
ended_same (s ∷ ss) (t ∷ ts) ended = (ended.0.0, ended_same ss ts ended.1)

pub ended_over : (ss ts : List AnySeat) → AreEndedSeats ss ts → AreAtEnd ts
ended_over [] [] ended = All-nil (λ (x : AnySeat). next_of x ≡ None)
ended_over [] (t ∷ ts) ended = absurd ended
ended_over (s ∷ ss) [] ended = absurd ended
ended_over (s ∷ ss) (t ∷ ts) ended = All-cons (λ (x : AnySeat). next_of x ≡ None) t ts ended.0.1 (ended_over ss ts ended.1)

-- the same seats are of the same tables
pub same_table : (b : Tables) (ss ts : List AnySeat) → AreSeatsOf b ss → AreSameSeats ss ts → AreSeatsOf b ts
same_table b ss ts all same k d in' =
    let n = length_all_zip IsSameSeat ss ts same in
    let r = AllZip-get_or IsSameSeat ss ts k d d same (omega arith) in
    let a = all k d (omega arith) in
    (r.table_id ∙ a.0, r.job ∙ a.1, subst (IsRingOf b.rings) (sym r.ring) a.2)

-- ## those that are here

-- the seat of one takes a step
pub stepped : (ss : List AnySeat) (hs : List HereSeat) (i : ℕ) (h k : HereSeat) → AreSameSeats ss (own_seats hs) → h ≡ get_or hs i h → IsSameSeat h.seat k.seat → AreSameSeats ss (own_seats (set hs i k))
stepped [] [] i h k have at same = tt
stepped [] (r ∷ hs) i h k have at same = absurd have
stepped (s ∷ ss) [] i h k have at same = absurd have
stepped (s ∷ ss) (r ∷ hs) zero h k have at same = (same_then s r.seat k.seat have.0 (subst (λ z. IsSameSeat z.seat k.seat) at same), have.1)
stepped (s ∷ ss) (r ∷ hs) (suc i) h k have at same = (have.0, stepped ss hs i h k have.1 at same)

-- the seats of the first so many are at their ends
abbrev pub AreFirstOver : ℕ → List HereSeat → Type 0
AreFirstOver n hs = (k : ℕ) (h : HereSeat) → k < n → slice_get hs k ≡ Some h → next_of h.seat ≡ None

pub none_over : (hs : List HereSeat) → AreFirstOver 0 hs
none_over hs k h lt at = absurd (omega (arith, lt))

-- and that of the next, after its step
pub stepped_over : (hs : List HereSeat) (i : ℕ) (x : HereSeat) → AreFirstOver i hs → next_of x.seat ≡ None → AreFirstOver (suc i) (set hs i x)
stepped_over [] i x before own k h lt at = absurd cc
stepped_over (r ∷ hs) zero x before own zero h lt at = let e : x ≡ h = cc in subst (λ (y : HereSeat). next_of y.seat ≡ None) e own
stepped_over (r ∷ hs) zero x before own (suc k) h lt at = absurd (omega (arith, lt))
stepped_over (r ∷ hs) (suc i) x before own zero h lt at = before zero h (omega arith) at
stepped_over (r ∷ hs) (suc i) x before own (suc k) h lt at =
    stepped_over hs i x (λ j g less there. before (suc j) g (omega (arith, less)) there) own k h (omega (arith, lt)) at

pub all_over : (hs : List HereSeat) → AreFirstOver (length hs) hs → AreAtEnd (own_seats hs)
all_over [] first = All-nil (λ (x : AnySeat). next_of x ≡ None)
all_over (h ∷ hs) first =
    All-cons (λ (x : AnySeat). next_of x ≡ None) h.seat (own_seats hs) (first zero h (omega arith) refl)
    (all_over hs (λ k g lt at. first (suc k) g (omega (arith, lt)) at))

-- the seat of one is of the table
pub one_of : (b : Tables) (hs : List HereSeat) (i : ℕ) (h : HereSeat) → AreSeatsOf b (own_seats hs) → h ≡ get_or hs i h
    → i < length hs → IsSeatOf b h.seat
one_of b hs i h sit at in' =
    let n = length-map hs (λ k. k.seat) in
    subst (IsSeatOf b) (get_or-map (λ k. k.seat) hs i h h.seat in' ∙ ap (λ k. k.seat) (sym at)) (sit i h.seat (omega arith))
