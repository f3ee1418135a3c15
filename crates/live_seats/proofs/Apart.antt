-- Seats of either kind, put together and taken apart again.
use Rattle.std.proofs.Common.{◌≡◌, ℕ, zero, suc, ◌+◌, List, [], ◌∷◌, ◌++◌, length, map, Some, refl, sym, ap, ◌∙◌, subst, arith}
use Rattle.std.specs.Prelude.{slice_get}
use Rattle.std.proofs.lemmas.List.{length-map}
use Rattle.std.proofs.lemmas.Slice.Zip.{AllZip-long}
use Rattle.std.proofs.lemmas.List.Elements.{All-nil, All-cons}
use Rattle.live_table.specs.Seats.{AreSeats, Board, ControlPlace, ControlSitsAt, CpuPlace}
use Rattle.live_seats.specs.AnySeats.{Tables, IsSeatOf, IsEndedSeat, AreSeatsOf, AreEndedSeats, all_of, cpus_as_any, without_rings}
use Rattle.live_seats.specs.Ends.{IsEndedCpu, IsEndedControl, AreEnded}
use Rattle.live_seats.specs.declared.seat.AnySeat.{AnySeat}
use Rattle.live_seats.specs.declared.seat.AnySeat.TheVariants.{Control, Cpu, Traced}

-- ## put together

pub cpus_sit : (b : Tables) (cpus : List CpuPlace) → ((k : ℕ) (s : CpuPlace) → slice_get cpus k ≡ Some s → IsSeatOf b (Cpu s))
    → AreSeatsOf b (cpus_as_any cpus)
cpus_sit b [] each = All-nil (IsSeatOf b)
cpus_sit b (s ∷ cpus) each = All-cons (IsSeatOf b) (Cpu s) (cpus_as_any cpus) (each zero s refl) (cpus_sit b cpus (λ k t at. each (suc k) t at))

-- those of a table's CPUs
pub seats_sit : (b : Board) (cpus : List CpuPlace) → AreSeats b cpus → AreSeatsOf (without_rings b) (cpus_as_any cpus)
seats_sit b cpus seats = cpus_sit (without_rings b) cpus (λ k s at. let r = seats.each k s at in (r.0.0, r.0.1, tt))

-- control's first, and the CPUs' after it
pub all_together : (control : ControlPlace) (cpus none one ss : List AnySeat) → none ≡ [] → one ≡ none ++ Control control ∷ []
    → ss ≡ one ++ cpus → ss ≡ Control control ∷ cpus
all_together control cpus none one ss empty more is = is ∙ ap (λ l. l ++ cpus) (more ∙ ap (λ l. l ++ Control control ∷ []) empty)

-- all are of the table
pub all_sit : (b : Board) (control : ControlPlace) (cpus : List CpuPlace) (ss : List AnySeat)
    → ControlSitsAt b control → AreSeats b cpus → ss ≡ all_of control cpus → AreSeatsOf (without_rings b) ss
all_sit b control cpus ss sits seats is =
    let t = without_rings b in
    subst (AreSeatsOf t) (sym is) (All-cons (IsSeatOf t) (Control control) (cpus_as_any cpus) (sits.0, sits.1, tt) (seats_sit b cpus seats))

-- one more than there are CPUs
pub all_count : (control : ControlPlace) (cpus : List CpuPlace) (ss : List AnySeat) → ss ≡ all_of control cpus → length ss ≡ length cpus + 1
all_count control cpus ss is = let n = length-map cpus (λ s. Cpu s) in let e = ap length is in omega (arith, n, e)

-- ## taken apart

-- the seats that were put together are at their ends
pub all_over : (control : ControlPlace) (cpus : List CpuPlace) (ss ts : List AnySeat) → ss ≡ all_of control cpus → AreEndedSeats ss ts → AreEndedSeats (all_of control cpus) ts
all_over control cpus ss ts is over = subst (λ l. AreEndedSeats l ts) is over

pub over_count : (control : ControlPlace) (cpus : List CpuPlace) (ts : List AnySeat) → AreEndedSeats (all_of control cpus) ts → length ts ≡ length cpus + 1
over_count control cpus ts over = AllZip-long IsEndedSeat (all_of control cpus) ts over ∙ all_count control cpus (all_of control cpus) refl

-- among seats of one kind there is none of another
other_kind : {A : Type 0} (f : A → AnySeat) (y : AnySeat) → ((a : A) → y ≡ f a → ⊥) → (xs left : List AnySeat) (all : List A)
    → xs ++ y ∷ left ≡ map f all → ⊥
other_kind f y no_way [] left [] e = cc
other_kind f y no_way [] left (a ∷ all) e = no_way a (cc)
other_kind f y no_way (x ∷ xs) left [] e = cc
other_kind f y no_way (x ∷ xs) left (a ∷ all) e = other_kind f y no_way xs left all (cc)

-- nor after control's
pub other_after : {A : Type 0} (f : A → AnySeat) (y : AnySeat) → ((a : A) → y ≡ f a → ⊥)
    → (k c : ControlPlace) (done its left seats : List AnySeat) (seat : AnySeat) (all : List A)
    → Control k ∷ (done ++ its) ≡ seats → its ≡ seat ∷ left → seat ≡ y → seats ≡ Control c ∷ map f all → ⊥
other_after f y no_way k c done its left seats seat all whole first kind has =
    let e : done ++ y ∷ left ≡ map f all = cc in other_kind f y no_way done left all e

-- the same seats as CPUs' are CPUs'
pub cpus_again : (ss : List CpuPlace) (ts : List AnySeat) → AreEndedSeats (cpus_as_any ss) ts → (us : List CpuPlace) × (ts ≡ cpus_as_any us)
cpus_again [] [] over = ([], refl)
cpus_again [] (t ∷ ts) over = absurd over
cpus_again (s ∷ ss) [] over = absurd over
cpus_again (s ∷ ss) (Control t ∷ ts) over = let a = over.0.0.actor in absurd (omega arith)
cpus_again (s ∷ ss) (Traced t ∷ ts) over = let r = over.0.0.ring in absurd (cc)
cpus_again (s ∷ ss) (Cpu t ∷ ts) over = let r = cpus_again ss ts over.1 in (t ∷ r.0, ap (λ l. Cpu t ∷ l) r.1)

pub kinds_again : (control : ControlPlace) (cpus : List CpuPlace) (ts : List AnySeat) → AreEndedSeats (all_of control cpus) ts → (c : ControlPlace) × (us : List CpuPlace) × (ts ≡ all_of c us)
kinds_again control cpus [] over = absurd over
kinds_again control cpus (Control c ∷ ts) over = let r = cpus_again cpus ts over.1 in (c, r.0, ap (λ l. Control c ∷ l) r.1)
kinds_again control cpus (Cpu s ∷ ts) over = let a = over.0.0.actor in absurd (omega arith)
kinds_again control cpus (Traced s ∷ ts) over = let a = over.0.0.actor in absurd (omega arith)

ended_cpu : (s t : CpuPlace) → IsEndedSeat (Cpu s) (Cpu t) → IsEndedCpu s t
ended_cpu s t e = let a = e.0.actor in (record { table_id = e.0.table_id; id = e.0.id; job = e.0.job; number = omega arith }, e.1)

pub ended_control : (s t : ControlPlace) → IsEndedSeat (Control s) (Control t) → IsEndedControl s t
ended_control s t e = (record { table_id = e.0.table_id; id = e.0.id; job = e.0.job; led = e.0.led; order = e.0.order; split = e.0.split }, e.1)

ended_count : (ss ts : List CpuPlace) → AreEndedSeats (cpus_as_any ss) (cpus_as_any ts) → length ts ≡ length ss
ended_count [] [] over = refl
ended_count [] (t ∷ ts) over = absurd over
ended_count (s ∷ ss) [] over = absurd over
ended_count (s ∷ ss) (t ∷ ts) over = ap suc (ended_count ss ts over.1)

ended_each : (ss ts : List CpuPlace) → AreEndedSeats (cpus_as_any ss) (cpus_as_any ts) → (k : ℕ) (t : CpuPlace) → slice_get ts k ≡ Some t → (s : CpuPlace) × (slice_get ss k ≡ Some s) × IsEndedCpu s t
ended_each [] [] over k t at = absurd (cc)
ended_each [] (u ∷ ts) over k t at = absurd over
ended_each (s ∷ ss) [] over k t at = absurd over
ended_each (s ∷ ss) (u ∷ ts) over zero t at = let e : u ≡ t = cc in (s, refl, subst (IsEndedCpu s) e (ended_cpu s u over.0))
ended_each (s ∷ ss) (u ∷ ts) over (suc k) t at = ended_each ss ts over.1 k t at

pub cpus_ended : (ss ts : List CpuPlace) → AreEndedSeats (cpus_as_any ss) (cpus_as_any ts) → AreEnded ss ts
cpus_ended ss ts over = record { count = ended_count ss ts over; each = ended_each ss ts over }

-- control's and the CPUs' seats are at their ends if all are
pub ended_apart : (control c : ControlPlace) (cpus us : List CpuPlace) (ts : List AnySeat) → AreEndedSeats (all_of control cpus) ts → ts ≡ all_of c us → IsEndedControl control c × AreEnded cpus us
ended_apart control c cpus us ts over is =
    let o = subst (AreEndedSeats (all_of control cpus)) is over in
    (ended_control control c o.0, cpus_ended cpus us o.1)
