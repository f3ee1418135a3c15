-- Seats by their places: as they are launched, and as they come back.
use Rattle.std.proofs.Common.{◌≡◌, ℕ, suc, ◌+◌, List, [], ◌∷◌, ◌++◌, length, refl, sym, ap, ◌∙◌, subst, arith, append_assoc}
use Rattle.std.proofs.lemmas.List.{length-map}
use Rattle.std.proofs.lemmas.List.Elements.{All-cons, All-head, All-nil, All-tail}
use Rattle.std.proofs.lemmas.Slice.Zip.{AllZip-long, all_zipped_more}
use Rattle.live_seats.specs.AnySeats.{Tables, AreEndedSeats, AreSameSeats, AreSeatsOf, IsEndedSeat, IsSameSeat, IsSeatOf}
use Rattle.live_seats.specs.Seatings.{here_in, own_seats, seats_in}
use Rattle.live_seats.proofs.Alike.{same_one}
use Rattle.live_seats.specs.declared.here.HereSeat.{HereSeat}
use Rattle.live_seats.specs.declared.seat.AnySeat.{AnySeat}
use Rattle.live_seats.specs.declared.seating.Place.{Place}
use Rattle.live_seats.specs.declared.seating.Place.TheVariants.{There, Here}

-- ## as many

here_append : (ps qs : List Place) → here_in (ps ++ qs) ≡ here_in ps + here_in qs
here_append [] qs = omega arith
here_append (There t ∷ ps) qs = here_append ps qs
here_append (Here ∷ ps) qs = let e = here_append ps qs in omega (arith, e)

seats_append : (ps qs : List Place) (hs gs : List HereSeat) → here_in ps ≡ length hs → seats_in (ps ++ qs) (hs ++ gs) ≡ seats_in ps hs ++ seats_in qs gs
seats_append [] qs [] gs e = refl
seats_append [] qs (h ∷ hs) gs e = absurd (omega (arith, e))
seats_append (There t ∷ ps) qs hs gs e = ap (λ l. t.promise.0.value ∷ l) (seats_append ps qs hs gs e)
seats_append (Here ∷ ps) qs [] gs e = absurd (omega (arith, e))
seats_append (Here ∷ ps) qs (h ∷ hs) gs e = ap (λ l. h.seat ∷ l) (seats_append ps qs hs gs (omega (arith, e)))

pub as_many : (ps : List Place) (hs : List HereSeat) → here_in ps ≡ length hs → length (seats_in ps hs) ≡ length ps
as_many [] hs e = refl
as_many (There t ∷ ps) hs e = ap suc (as_many ps hs e)
as_many (Here ∷ ps) [] e = absurd (omega (arith, e))
as_many (Here ∷ ps) (h ∷ hs) e = ap suc (as_many ps hs (omega (arith, e)))

-- ## launched

-- one more seat, in a thread or here
module _ (ss : List AnySeat) (ps qs : List Place) (hs gs : List HereSeat) (s : AnySeat) (p : Place) (have : AreSameSeats ss (seats_in ps hs)) (many : here_in ps ≡ length hs) (more : qs ≡ ps ++ p ∷ []) where
  pub placed : (new : List HereSeat) (t : AnySeat) → gs ≡ hs ++ new → seats_in (p ∷ []) new ≡ t ∷ [] → IsSameSeat s t → AreSameSeats (ss ++ s ∷ []) (seats_in qs gs)
  placed new t more' one same =
      let is : seats_in qs gs ≡ seats_in ps hs ++ t ∷ [] = ap (λ l. seats_in l gs) more ∙ ap (seats_in (ps ++ p ∷ [])) more' ∙ seats_append ps (p ∷ []) hs new many ∙ ap (λ l. seats_in ps hs ++ l) one in
      subst (AreSameSeats (ss ++ s ∷ [])) (sym is) (all_zipped_more IsSameSeat ss (seats_in ps hs) s t have same)

  pub counted : here_in qs ≡ length hs + here_in (p ∷ [])
  counted = ap here_in more ∙ here_append ps (p ∷ []) ∙ ap (λ (n : ℕ). n + here_in (p ∷ [])) many

-- ## stepped

pub own_sit : (b : Tables) (ps : List Place) (hs : List HereSeat) → here_in ps ≡ length hs → AreSeatsOf b (seats_in ps hs)
    → AreSeatsOf b (own_seats hs)
own_sit b [] [] e sit = All-nil (IsSeatOf b)
own_sit b [] (h ∷ hs) e sit = absurd (omega (arith, e))
own_sit b (There t ∷ ps) hs e sit = own_sit b ps hs e (All-tail (IsSeatOf b) t.promise.0.value (seats_in ps hs) sit)
own_sit b (Here ∷ ps) [] e sit = absurd (omega (arith, e))
own_sit b (Here ∷ ps) (h ∷ hs) e sit =
    All-cons (IsSeatOf b) h.seat (own_seats hs) (All-head (IsSeatOf b) h.seat (seats_in ps hs) sit) (own_sit b ps hs (omega (arith, e)) (All-tail (IsSeatOf b) h.seat (seats_in ps hs) sit))

-- those that are here took steps
pub stepped_in : (ps : List Place) (hs gs : List HereSeat) → here_in ps ≡ length hs → AreSameSeats (own_seats hs) (own_seats gs) → AreSameSeats (seats_in ps hs) (seats_in ps gs)
stepped_in [] hs gs e same = tt
stepped_in (There t ∷ ps) hs gs e same = (same_one t.promise.0.value, stepped_in ps hs gs e same)
stepped_in (Here ∷ ps) [] gs e same = absurd (omega (arith, e))
stepped_in (Here ∷ ps) (h ∷ hs) [] e same = absurd same
stepped_in (Here ∷ ps) (h ∷ hs) (g ∷ gs) e same = (same.0, stepped_in ps hs gs (omega (arith, e)) same.1)

pub here_many : (ps : List Place) (hs gs : List HereSeat) → here_in ps ≡ length hs → AreSameSeats (own_seats hs) (own_seats gs) → here_in ps ≡ length gs
here_many ps hs gs e same = e ∙ sym (length-map hs (λ h. h.seat)) ∙ sym (AllZip-long IsSameSeat (own_seats hs) (own_seats gs) same) ∙ length-map gs (λ h. h.seat)

-- ## come back

-- the first of these places is this one
pub first_is : (its left : List Place) (hs : List HereSeat) (p q : Place) → its ≡ p ∷ left → p ≡ q → seats_in its hs ≡ seats_in (q ∷ left) hs
first_is its left hs p q first kind = ap (λ l. seats_in l hs) (first ∙ ap (λ r. r ∷ left) kind)

-- and that of one that is here
pub first_here : (its left : List Place) (hs gs : List HereSeat) (p : Place) (h : HereSeat) → its ≡ p ∷ left → p ≡ Here → hs ≡ h ∷ gs → seats_in its hs ≡ h.seat ∷ seats_in left gs
first_here its left hs gs p h first kind more = first_is its left hs p Here first kind ∙ ap (seats_in (Here ∷ left)) more

pub count_first : (its left : List Place) (p q : Place) → its ≡ p ∷ left → p ≡ q → here_in its ≡ here_in (q ∷ left)
count_first its left p q first kind = ap here_in (first ∙ ap (λ r. r ∷ left) kind)

-- the first of these seats is the table's, and so are the others
module _ (b : Tables) (all left : List AnySeat) (t : AnySeat) (sit : AreSeatsOf b all) (is : all ≡ t ∷ left) where
  pub first_sits : IsSeatOf b t
  first_sits = All-head (IsSeatOf b) t left (subst (AreSeatsOf b) is sit)

  pub others_sit : AreSeatsOf b left
  others_sit = All-tail (IsSeatOf b) t left (subst (AreSeatsOf b) is sit)

-- one more seat is at its end
pub one_ended : (all now left done : List AnySeat) (t u : AnySeat) → now ≡ t ∷ left → ((others : List AnySeat) → AreEndedSeats now others → AreEndedSeats all (done ++ others)) → IsEndedSeat t u
    → (others : List AnySeat) → AreEndedSeats left others → AreEndedSeats all ((done ++ u ∷ []) ++ others)
one_ended all now left done t u is over end others e =
    subst (AreEndedSeats all) (sym (append_assoc done (u ∷ []) others)) (over (u ∷ others) (subst (λ l. AreEndedSeats l (u ∷ others)) (sym is) (end, e)))
