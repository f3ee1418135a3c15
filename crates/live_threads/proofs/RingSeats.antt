-- The seats of CPUs that have rings, put together and taken apart again.
use Rattle.std.proofs.Common.{◌≡◌, ℕ, zero, suc, ◌+◌, ◌≤◌, List, [], ◌∷◌, ◌++◌, length, map, Some, refl, sym, ap, ◌∙◌, subst, arith}
use Rattle.std.specs.Prelude.{slice_get, slice_index}
use Rattle.std.proofs.lemmas.List.{append_assoc, length-append, length-map, map-append}
use Rattle.std.proofs.lemmas.List.Elements.{All-nil, All-cons}
use Rattle.std.proofs.lemmas.Option.{none-some, same_Some, slice_get_within}
use Rattle.std.proofs.lemmas.Slice.Zip.{AllZip-long}
use Rattle.ft_base.specs.declared.item.Item.{Item}
use Rattle.ft_base.specs.declared.item.Stamped.{Stamped}
use Rattle.ft_base.specs.Job.{Job}
use Rattle.ft_hist.specs.Placing.{ArePlaced}
use Rattle.ft_hist.specs.Rules.{IsLegal}
use Rattle.word_machine.specs.Laws.{room_on}
use Rattle.word_machine.specs.Limits.{IsLimited}
use Rattle.ring_rules.specs.Fold.{Rings}
use Rattle.ring_rules.specs.RingInvariant.{IsOf}
use Rattle.ring_rules.specs.Legal.{RingsLegal}
use Rattle.ring_rules.specs.Plan.{TracePlan, plan_of}
use Rattle.ring_table.specs.Seats.{Board as RingBoard, HaveItems, SeatHas, SeatPlace, AreSeats as AreRings, AreNew as AreNewRings}
use Rattle.live_table.specs.Seats.{AreNew, AreSeats, Board, ControlPlace, ControlSitsAt, CpuPlace, IsRising, history_of, items_at, lists_at}
use Rattle.live_seats.specs.AnySeats.{Tables, IsSeatOf, IsEndedSeat, AreSeatsOf, AreEndedSeats, all_traced}
use Rattle.live_seats.specs.Ends.{IsEndedCpu, IsEndedControl, AreEnded}
use Rattle.live_seats.specs.Traced.{AreSameRings, AreTraced, IsTraced, TracedPlace, ring_name, traced}
use Rattle.live_seats.specs.declared.seat.AnySeat.{AnySeat}
use Rattle.live_seats.specs.declared.seat.AnySeat.TheVariants.{Control, Cpu, Traced}
use Rattle.live_seats.proofs.Apart.{all_together, ended_control}
use Rattle.live_threads.specs.Rooms.{rooms_of}
use Rattle.live_threads.proofs.OnCpus.{have-items, of-legal}
use Rattle.live_threads.proofs.RingRooms.{room-at}

-- the two seats of a CPU
abbrev pub both : CpuPlace → SeatPlace → TracedPlace
both s r = record { cpu = s; ring = r }

-- ## before the first step

module _ (b : Board) (q : RingBoard) (job : Job) (rooms : List ℕ) (cpus : List CpuPlace) (rings : List SeatPlace)
    (same : b.job ≡ job) (plan : q.plan ≡ plan_of job) (new : AreNew b cpus) (fresh : AreNewRings q rooms rings) where
  as_many : length rings ≡ length cpus
  as_many = fresh.count ∙ ap (λ (p : TracePlan). p.cpus) plan ∙ ap (λ (j : Job). length j.quanta) (sym same) ∙ sym new.count

  -- nothing was marked, and nothing offered
  pub seats_traced : rooms ≡ rooms_of job → AreTraced cpus rings
  seats_traced room = record { count = as_many; each = each }
    where
      each : (k : ℕ) (s : CpuPlace) (r : SeatPlace) → slice_get cpus k ≡ Some s → slice_get rings k ≡ Some r → IsTraced (both s r)
      each k s r at at2 =
          let n = new.each k s at in
          let f = fresh.each k r at2 in
          let own : s.job ≡ job = n.1 ∙ same in
          let none : items_at s ≡ [] = λ i. items_at record { table_id = s.table_id; id = s.id; job = s.job; number = s.number; values = n.3 i } in
          let in' = slice_get_within cpus k s at in
          let many = new.count ∙ ap (λ (j : Job). length j.quanta) same in
          let enough : slice_index rooms k ≡ room_on job k = ap (λ (l : List ℕ). slice_index l k) room ∙ room-at job k (omega (arith, in', many)) in
          let left = f.left' in
          let had = f.has'.offered in
          record {
            plan' = f.sits.1 ∙ plan ∙ ap plan_of (sym own);
            rising = subst IsRising (sym none) (λ i j x y lt here there. absurd (none-some y there));
            has = subst (λ (p : TracePlan × List Stamped). SeatHas p.0 p.1 r) (λ i. ((plan ∙ ap plan_of (sym own)) i, sym none i)) f.has';
            room' = subst (λ (p : Job × ℕ). room_on p.0 p.1 ≤ r.room) (λ i. (sym own i, sym n.2 i)) (omega (arith, enough, left, had));
          }

  -- they are the table's
  pub rings_started : AreRings q rings
  rings_started = record { count = fresh.count; each = λ k r at. let f = fresh.each k r at in (f.sits, f.number') }

-- ## put together

traced_sit : (t : Tables) (cpus : List CpuPlace) (rings : List SeatPlace)
    → ((k : ℕ) (s : CpuPlace) (r : SeatPlace) → slice_get cpus k ≡ Some s → slice_get rings k ≡ Some r → IsSeatOf t (Traced (both s r)))
    → AreSeatsOf t (map (λ s. Traced s) (traced cpus rings))
traced_sit t [] rings each = All-nil (IsSeatOf t)
traced_sit t (s ∷ cpus) [] each = All-nil (IsSeatOf t)
traced_sit t (s ∷ cpus) (r ∷ rings) each =
    All-cons (IsSeatOf t) (Traced (both s r)) (map (λ u. Traced u) (traced cpus rings)) (each zero s r refl refl)
    (traced_sit t cpus rings (λ k u v at at2. each (suc k) u v at at2))

-- all are of the tables
pub all_traced_sit : (b : Board) (q : RingBoard) (control : ControlPlace) (cpus : List CpuPlace) (rings : List SeatPlace)
    → ControlSitsAt b control → AreSeats b cpus → AreRings q rings
    → AreSeatsOf (record { live = b; rings = Some q }) (all_traced control (traced cpus rings))
all_traced_sit b q control cpus rings sits seats rows =
    let t : Tables = record { live = b; rings = Some q } in
    All-cons (IsSeatOf t) (Control control) (map (λ s. Traced s) (traced cpus rings)) (sits.0, sits.1, tt)
    (traced_sit t cpus rings (λ k s r at at2. let c = seats.each k s at in let d = rows.each k r at2 in (c.0.0, c.0.1, d.0)))

-- as many pairs as seats
traced_count : (cpus : List CpuPlace) (rings : List SeatPlace) → length rings ≡ length cpus → length (traced cpus rings) ≡ length cpus
traced_count [] rings e = refl
traced_count (s ∷ cpus) [] e = absurd (omega (arith, e))
traced_count (s ∷ cpus) (r ∷ rings) e = ap suc (traced_count cpus rings (omega (arith, e)))

-- one more than there are CPUs
pub all_traced_count : (control : ControlPlace) (cpus : List CpuPlace) (rings : List SeatPlace) → length rings ≡ length cpus
    → length (all_traced control (traced cpus rings)) ≡ length cpus + 1
all_traced_count control cpus rings e =
    let n = length-map (traced cpus rings) (λ s. Traced s) in let m = traced_count cpus rings e in omega (arith, n, m)

-- those that are put together are all of them
pub together : (control : ControlPlace) (cpus : List CpuPlace) (rings : List SeatPlace) (none one ss : List AnySeat)
    → none ≡ [] → one ≡ none ++ Control control ∷ []
    → ss ≡ one ++ map (λ s. Traced s) (traced cpus rings) → ss ≡ all_traced control (traced cpus rings)
together control cpus rings none one ss empty more is = all_together control (map (λ s. Traced s) (traced cpus rings)) none one ss empty more is

pub together_count : (control : ControlPlace) (cpus : List CpuPlace) (rings : List SeatPlace) (ss : List AnySeat) → length rings ≡ length cpus
    → ss ≡ all_traced control (traced cpus rings) → length ss ≡ length cpus + 1
together_count control cpus rings ss e is = ap (λ (l : List AnySeat). length l) is ∙ all_traced_count control cpus rings e

-- ## two by two

-- the two seats at a place
traced_at : (cpus : List CpuPlace) (rings : List SeatPlace) (k : ℕ) (x : TracedPlace) → slice_get (traced cpus rings) k ≡ Some x
    → (slice_get cpus k ≡ Some x.cpu) × (slice_get rings k ≡ Some x.ring)
traced_at [] rings k x at = absurd (cc)
traced_at (s ∷ cpus) [] k x at = absurd (cc)
traced_at (s ∷ cpus) (r ∷ rings) zero x at =
    let e : both s r ≡ x = cc in (ap (λ (y : TracedPlace). Some y.cpu) e, ap (λ (y : TracedPlace). Some y.ring) e)
traced_at (s ∷ cpus) (r ∷ rings) (suc k) x at = traced_at cpus rings k x at

at_traced : (cpus : List CpuPlace) (rings : List SeatPlace) (k : ℕ) (s : CpuPlace) (r : SeatPlace) → slice_get cpus k ≡ Some s → slice_get rings k ≡ Some r
    → slice_get (traced cpus rings) k ≡ Some (both s r)
at_traced [] rings k s r at at2 = absurd (cc)
at_traced (t ∷ cpus) [] k s r at at2 = absurd (cc)
at_traced (t ∷ cpus) (u ∷ rings) zero s r at at2 = let e : t ≡ s = cc in let f : u ≡ r = cc in λ i. Some (both (e i) (f i))
at_traced (t ∷ cpus) (u ∷ rings) (suc k) s r at at2 = at_traced cpus rings k s r at at2

-- where one list has an element, another as long has one
other_at : {A : Type 0} {B : Type 0} (xs : List A) (ys : List B) (k : ℕ) (x : A) → length ys ≡ length xs
    → slice_get xs k ≡ Some x → (y : B) × (slice_get ys k ≡ Some y)
other_at [] ys k x e at = absurd (none-some x at)
other_at (z ∷ xs) [] k x e at = absurd (omega (arith, e))
other_at (z ∷ xs) (y ∷ ys) zero x e at = (y, refl)
other_at (z ∷ xs) (y ∷ ys) (suc k) x e at = other_at xs ys k x (omega (arith, e)) at

-- pairs are the first seats and the second ones
pairs_apart : (xs : List TracedPlace) → traced (map (λ x. x.cpu) xs) (map (λ x. x.ring) xs) ≡ xs
pairs_apart [] = refl
pairs_apart (x ∷ xs) = ap (λ l. x ∷ l) (pairs_apart xs)

-- one pair more
pub traced_more : (cpus : List CpuPlace) (rings : List SeatPlace) (s : CpuPlace) (r : SeatPlace) → length rings ≡ length cpus
    → traced (cpus ++ s ∷ []) (rings ++ r ∷ []) ≡ traced cpus rings ++ both s r ∷ []
traced_more [] [] s r e = refl
traced_more [] (u ∷ rings) s r e = absurd (omega (arith, e))
traced_more (t ∷ cpus) [] s r e = absurd (omega (arith, e))
traced_more (t ∷ cpus) (u ∷ rings) s r e = ap (λ l. both t u ∷ l) (traced_more cpus rings s r (omega (arith, e)))

pub are_traced_none : AreTraced [] []
are_traced_none = record { count = refl; each = λ k s r at at2. absurd (none-some s at) }

each_more : (cpus : List CpuPlace) (rings : List SeatPlace) (s : CpuPlace) (r : SeatPlace) → length rings ≡ length cpus
    → ((k : ℕ) (t : CpuPlace) (u : SeatPlace) → slice_get cpus k ≡ Some t → slice_get rings k ≡ Some u → IsTraced (both t u)) → IsTraced (both s r)
    → (k : ℕ) (t : CpuPlace) (u : SeatPlace) → slice_get (cpus ++ s ∷ []) k ≡ Some t → slice_get (rings ++ r ∷ []) k ≡ Some u → IsTraced (both t u)
each_more [] [] s r e each is zero t u at at2 =
    let f : both s r ≡ both t u = λ i. both (same_Some s t at i) (same_Some r u at2 i) in subst IsTraced f is
each_more [] [] s r e each is (suc k) t u at at2 = absurd (none-some t at)
each_more [] (v ∷ rings) s r e each is k t u at at2 = absurd (omega (arith, e))
each_more (w ∷ cpus) [] s r e each is k t u at at2 = absurd (omega (arith, e))
each_more (w ∷ cpus) (v ∷ rings) s r e each is zero t u at at2 = each zero t u at at2
each_more (w ∷ cpus) (v ∷ rings) s r e each is (suc k) t u at at2 =
    each_more cpus rings s r (omega (arith, e)) (λ j x y a b. each (suc j) x y a b) is k t u at at2

pub are_traced_more : (cpus : List CpuPlace) (rings : List SeatPlace) (s : CpuPlace) (r : SeatPlace) → AreTraced cpus rings → IsTraced (both s r)
    → AreTraced (cpus ++ s ∷ []) (rings ++ r ∷ [])
are_traced_more cpus rings s r all is = record {
  count = let n = length-append cpus (s ∷ []) in let m = length-append rings (r ∷ []) in let e = all.count in omega (arith, n, m, e);
  each = each_more cpus rings s r all.count all.each is;
}

-- the next two seats of those that are left
module _ (its left : List CpuPlace) (rits rleft : List SeatPlace) (s : CpuPlace) (r : SeatPlace)
    (first : its ≡ s ∷ left) (second : rits ≡ r ∷ rleft) (all : AreTraced its rits) where
  pub next_traced : IsTraced (both s r)
  next_traced = all.each 0 s r (ap (λ (l : List CpuPlace). slice_get l 0) first) (ap (λ (l : List SeatPlace). slice_get l 0) second)

  pub rest_traced : AreTraced left rleft
  rest_traced = record {
    count =
        let e = all.count in
        let a = ap (λ (l : List CpuPlace). length l) first in
        let b = ap (λ (l : List SeatPlace). length l) second in
        omega (arith, e, a, b);
    each = λ k t u at at2.
        let here = ap (λ (l : List CpuPlace). slice_get l (suc k)) first ∙ at in
        let there = ap (λ (l : List SeatPlace). slice_get l (suc k)) second ∙ at2 in
        all.each (suc k) t u here there;
  }

  -- are put after the others
  pub one_added : (seats more whole : List AnySeat) → seats ++ map (λ x. Traced x) (traced its rits) ≡ whole → more ≡ seats ++ Traced (both s r) ∷ []
      → more ++ map (λ x. Traced x) (traced left rleft) ≡ whole
  one_added seats more whole have push =
      let rest = map (λ x. Traced x) (traced left rleft) in
      ap (λ (l : List AnySeat). l ++ rest) push ∙ append_assoc seats (Traced (both s r) ∷ []) rest
      ∙ (λ i. seats ++ map (λ x. Traced x) (traced (sym first i) (sym second i))) ∙ have

-- the two seats of one CPU more are apart
module _ (cpus more : List CpuPlace) (rings more' : List SeatPlace) (s : CpuPlace) (r : SeatPlace) (x : TracedPlace)
    (first : s ≡ x.cpu) (second : r ≡ x.ring)
    (is : more ≡ cpus ++ s ∷ []) (is' : more' ≡ rings ++ r ∷ []) (all : AreTraced cpus rings) where
  pub own_more : (done : List AnySeat) (seat : AnySeat) → done ≡ map (λ y. Traced y) (traced cpus rings) → seat ≡ Traced x
      → done ++ seat ∷ [] ≡ map (λ y. Traced y) (traced more more')
  own_more done seat have kind =
      (λ i. have i ++ (kind ∙ (λ j. Traced (both (sym first j) (sym second j)))) i ∷ [])
      ∙ sym (map-append (λ y. Traced y) (traced cpus rings) (both s r ∷ []))
      ∙ ap (map (λ y. Traced y)) (sym (traced_more cpus rings s r all.count))
      ∙ (λ i. map (λ y. Traced y) (traced (sym is i) (sym is' i)))

  pub made_more : IsTraced x → AreTraced more more'
  made_more own =
      subst (λ (l : List CpuPlace × List SeatPlace). AreTraced l.0 l.1) (λ i. (sym is i, sym is' i))
      (are_traced_more cpus rings s r all (subst IsTraced (λ i. both (sym first i) (sym second i)) own))

-- ## taken apart

-- the same seats as pairs are pairs
pairs_again : (xs : List TracedPlace) (ts : List AnySeat) → AreEndedSeats (map (λ x. Traced x) xs) ts
    → (ys : List TracedPlace) × (ts ≡ map (λ y. Traced y) ys)
pairs_again [] [] over = ([], refl)
pairs_again [] (t ∷ ts) over = absurd over
pairs_again (x ∷ xs) [] over = absurd over
pairs_again (x ∷ xs) (Control t ∷ ts) over = let r = over.0.0.ring in absurd (cc)
pairs_again (x ∷ xs) (Cpu t ∷ ts) over = let r = over.0.0.ring in absurd (cc)
pairs_again (x ∷ xs) (Traced t ∷ ts) over = let r = pairs_again xs ts over.1 in (t ∷ r.0, ap (λ l. Traced t ∷ l) r.1)

pub traced_again : (control : ControlPlace) (xs : List TracedPlace) (ts : List AnySeat) → AreEndedSeats (all_traced control xs) ts
    → (c : ControlPlace) × (cpus : List CpuPlace) × (rings : List SeatPlace) × (ts ≡ all_traced c (traced cpus rings))
traced_again control xs [] over = absurd over
traced_again control xs (Control c ∷ ts) over =
    let r = pairs_again xs ts over.1 in
    (c, map (λ y. y.cpu) r.0, map (λ y. y.ring) r.0, ap (λ l. Control c ∷ l) (r.1 ∙ ap (map (λ y. Traced y)) (sym (pairs_apart r.0))))
traced_again control xs (Cpu s ∷ ts) over = let a = over.0.0.actor in absurd (omega arith)
traced_again control xs (Traced s ∷ ts) over = let a = over.0.0.actor in absurd (omega arith)

-- a pair at its end was a pair
pair_ended : (xs ys : List TracedPlace) → AreEndedSeats (map (λ x. Traced x) xs) (map (λ y. Traced y) ys)
    → (k : ℕ) (y : TracedPlace) → slice_get ys k ≡ Some y
    → (x : TracedPlace) × (slice_get xs k ≡ Some x) × IsEndedSeat (Traced x) (Traced y)
pair_ended [] [] over k y at = absurd (none-some y at)
pair_ended [] (z ∷ ys) over k y at = absurd over
pair_ended (x ∷ xs) [] over k y at = absurd over
pair_ended (x ∷ xs) (z ∷ ys) over zero y at = (x, refl, subst (λ w. IsEndedSeat (Traced x) (Traced w)) (same_Some z y at) over.0)
pair_ended (x ∷ xs) (z ∷ ys) over (suc k) y at = pair_ended xs ys over.1 k y at

ended_pair : (x y : TracedPlace) → IsEndedSeat (Traced x) (Traced y) → IsEndedCpu x.cpu y.cpu × (ring_name y.ring ≡ ring_name x.ring)
ended_pair x y e =
    let a = e.0.actor in
    let n : y.cpu.number ≡ x.cpu.number = omega (arith, a) in
    ((record { table_id = e.0.table_id; id = e.0.id; job = e.0.job; number = n }, e.1), same_Some (ring_name y.ring) (ring_name x.ring) e.0.ring)

module _ (control c : ControlPlace) (ss ts : List CpuPlace) (rs us : List SeatPlace) (back : List AnySeat)
    (many : length rs ≡ length ss) (many' : length us ≡ length ts)
    (over : AreEndedSeats (all_traced control (traced ss rs)) back) (is : back ≡ all_traced c (traced ts us)) where
  ends : AreEndedSeats (all_traced control (traced ss rs)) (all_traced c (traced ts us))
  ends = subst (AreEndedSeats (all_traced control (traced ss rs))) is over

  pub control_ended : IsEndedControl control c
  control_ended = ended_control control c ends.0

  count : length ts ≡ length ss
  count =
      let n = AllZip-long IsEndedSeat (all_traced control (traced ss rs)) (all_traced c (traced ts us)) ends in
      let a = all_traced_count control ss rs many in
      let b = all_traced_count c ts us many' in
      omega (arith, n, a, b)

  pub cpus_ended : AreEnded ss ts
  cpus_ended = record {
    count = count;
    each = λ k t at.
        let u = other_at ts us k t many' at in
        let p = pair_ended (traced ss rs) (traced ts us) ends.1 k (both t u.0) (at_traced ts us k t u.0 at u.1) in
        (p.0.cpu, (traced_at ss rs k p.0 p.1).0, (ended_pair p.0 (both t u.0) p.2).0);
  }

  pub rings_same : AreSameRings rs us
  rings_same = record {
    count = let n = count in omega (arith, n, many, many');
    each = λ k u at.
        let t = other_at us ts k u (sym many') at in
        let p = pair_ended (traced ss rs) (traced ts us) ends.1 k (both t.0 u) (at_traced ts us k t.0 u t.1 at) in
        (p.0.ring, (traced_at ss rs k p.0 p.1).1, (ended_pair p.0 (both t.0 u) p.2).1);
  }

-- the same seats are the table's
pub rings_ended : (q : RingBoard) (rs us : List SeatPlace) → AreRings q rs → AreSameRings rs us → AreRings q us
rings_ended q rs us rows same = record {
  count = same.count ∙ rows.count;
  each = λ k u at.
      let e = same.each k u at in
      let r = rows.each k e.0 e.1 in
      ((ap (λ n. n.table_id) e.2 ∙ r.0.0, ap (λ n. n.plan) e.2 ∙ r.0.1), ap (λ n. n.number) e.2 ∙ r.1);
}

-- ## gathered

-- rings that were offered what the CPUs have marked are legal for the history that the seats make
module _ (b : Board) (limited : IsLimited b.job) (control : ControlPlace) (cpus : List CpuPlace) (rings : List SeatPlace)
    (seats : AreSeats b cpus) (all : AreTraced cpus rings)
    (history : List Item) (is : history ≡ history_of control cpus) (placed : ArePlaced (length history) (lists_at control cpus)) where
  offered : HaveItems (plan_of b.job) history rings
  offered = subst (λ (h : List Item). HaveItems (plan_of b.job) h rings) (sym is)
      (have-items b limited control cpus (length history) seats placed rings all.count each)
    where
      each : (c : ℕ) (s : CpuPlace) (r : SeatPlace) → slice_get cpus c ≡ Some s → slice_get rings c ≡ Some r
          → IsRising (items_at s) × SeatHas (plan_of b.job) (items_at s) r
      each c s r at at2 =
          let t = all.each c s r at at2 in
          (t.rising, subst (λ (j : Job). SeatHas (plan_of j) (items_at s) r) (seats.each c s at).0.1 t.has)

  pub legal_rings : (plan : TracePlan) (r : Rings) → plan ≡ plan_of b.job → IsLegal b.job history
      → ((h : List Item) → IsOf plan h → HaveItems plan h rings → RingsLegal plan h r) → RingsLegal (plan_of b.job) history r
  legal_rings plan r same legal made =
      let of = subst (λ (p : TracePlan). IsOf p history) (sym same) (of-legal b.job history legal) in
      let have = subst (λ (p : TracePlan). HaveItems p history rings) (sym same) offered in
      subst (λ (p : TracePlan). RingsLegal p history r) same (made history of have)
