-- One more item keeps what holds whenever the lock is free.
use Rattle.std.proofs.Common.{cond, ◌≡◌, ◌≢◌, ℕ, zero, suc, ◌+◌, ◌-◌, ◌<◌, ◌≤◌, ◌⊎◌, ◌↔◌, Bool, true, false, ◌==◌, List, [], ◌∷◌, ◌++◌, length, sum, take, set, get_or, slice_get, Some, refl, sym, ap, ◌∙◌, subst, arith, inl, inr}
use Rattle.std.specs.Prelude.{slice_index, IsTrue}
use Rattle.std.specs.Bool.{OnTrue, OnFalse}
use Rattle.std.specs.List.{range_with_len, sum_by}
use Rattle.std.proofs.lemmas.Bool.Decides.{nat_tests}
use Rattle.std.proofs.lemmas.Bool.{cases_eq, OnTrue_at, OnFalse_at}
use Rattle.std.proofs.lemmas.List.{append-nil, length_push, length-take-le, take_more}
use Rattle.std.proofs.lemmas.List.Sums.{sum_by-set, sum_by-cons}
use Rattle.ft_base.specs.declared.limits.TheConstants.{LANES}
use Rattle.ft_base.proofs.Small.{==-refl}
use Rattle.desk_lock.specs.declared.served.Served1.{Served1}
use Rattle.desk_lock.specs.declared.lane.Lane.{Lane}
use Rattle.desk_lock.specs.Journals.{IsInOrder, IsMerge, done_of, items_of, next_of, pair}
use Rattle.desk_lock.specs.LockInvariant.{LockView, LockInvariant, LanePlace, lanes_from, left_in, seats_from}

-- two numbers are one, or not
pub same_or_not : (a b : ℕ) → ((a ≡ b) × ((a == b) ≡ true)) ⊎ ((a ≢ b) × ((a == b) ≡ false))
same_or_not a b = elim (cases_eq a b) [
  | inl e ↦ inl (e, ap (λ n. n == b) e ∙ ==-refl b)
  | inr ne ↦ inr (ne, grind (arith, nat_tests, ne))
]

-- ## the items of one lane

items_step : (l : ℕ) (x : Served1) (j k : List Served1) (b : Bool) → items_of l (j ++ k) ≡ items_of l j ++ items_of l k
    → cond b (x.item ∷ items_of l (j ++ k)) (items_of l (j ++ k)) ≡ cond b (x.item ∷ items_of l j) (items_of l j) ++ items_of l k
items_step l x j k true e = ap (λ r. x.item ∷ r) e
items_step l x j k false e = e

pub items_append : (l : ℕ) (j k : List Served1) → items_of l (j ++ k) ≡ items_of l j ++ items_of l k
items_append l [] k = refl
items_append l (x ∷ j) k = items_step l x j k (x.lane == l) (items_append l j k)

items_one : (l i : ℕ) → items_of l (pair l i ∷ []) ≡ i ∷ []
items_one l i = ap (λ b. cond b (i ∷ []) []) (==-refl l)

items_none : (l m i : ℕ) → (m == l) ≡ false → items_of l (pair m i ∷ []) ≡ []
items_none l m i ne = ap (λ b. cond b (i ∷ []) []) ne

-- one more item of the lane
pub items_more : (l i : ℕ) (j : List Served1) → items_of l (j ++ pair l i ∷ []) ≡ items_of l j ++ i ∷ []
items_more l i j = items_append l j (pair l i ∷ []) ∙ ap (λ r. items_of l j ++ r) (items_one l i)

-- one more item of another lane
pub items_same : (l m i : ℕ) (j : List Served1) → (m == l) ≡ false → items_of l (j ++ pair m i ∷ []) ≡ items_of l j
items_same l m i j ne = items_append l j (pair m i ∷ []) ∙ ap (λ r. items_of l j ++ r) (items_none l m i ne) ∙ append-nil (items_of l j)

pub done_more : (l i : ℕ) (j : List Served1) → done_of l (j ++ pair l i ∷ []) ≡ done_of l j + 1
done_more l i j = ap length (items_more l i j) ∙ length_push (items_of l j) i

pub done_same : (l m i : ℕ) (j : List Served1) → (m == l) ≡ false → done_of l (j ++ pair m i ∷ []) ≡ done_of l j
done_same l m i j ne = ap length (items_same l m i j ne)

-- one more number
range_more : (a n m : ℕ) → a + n ≡ m → range_with_len a n ++ m ∷ [] ≡ range_with_len a (suc n)
range_more a zero m e = ap (λ k. k ∷ []) (let f : m ≡ a = omega (arith, e) in f)
range_more a (suc n) m e = ap (λ r. a ∷ r) (range_more (a + 1) n m (let f : a + 1 + n ≡ m = omega (arith, e) in f))

-- ## the lanes

-- the k-th of the lanes from the b-th on
lane_in : (b : ℕ) (ns : List ℕ) (j : List Served1) (k : ℕ) → k < length ns → (d : Lane) → get_or (lanes_from b ns j) k d ≡ record { count = slice_index ns k; next = done_of (b + k) j }
lane_in b [] j k lt d = absurd (omega arith)
lane_in b (n ∷ ns) j zero lt d = ap (λ m. record { count = n; next = done_of m j }) (let e : b ≡ b + zero = omega arith in e)
lane_in b (n ∷ ns) j (suc k) lt d = lane_in (suc b) ns j k (omega arith) d ∙ ap (λ m. record { count = slice_index ns k; next = done_of m j }) (let e : suc b + k ≡ b + suc k = omega arith in e)

pub lane_at : (counts : List ℕ) (j : List Served1) (l : ℕ) → l < length counts → (d : Lane) → get_or (lanes_from 0 counts j) l d ≡ record { count = slice_index counts l; next = done_of l j }
lane_at counts j l lt d = lane_in 0 counts j l lt d ∙ ap (λ m. record { count = slice_index counts l; next = done_of m j }) (let e : 0 + l ≡ l = omega arith in e)

pub lanes_count : (b : ℕ) (ns : List ℕ) (j : List Served1) → length (lanes_from b ns j) ≡ length ns
lanes_count b [] j = refl
lanes_count b (n ∷ ns) j = ap suc (lanes_count (suc b) ns j)

-- lanes above m are as before
lanes_past : (m i b : ℕ) (ns : List ℕ) (j : List Served1) → m < b → lanes_from b ns (j ++ pair m i ∷ []) ≡ lanes_from b ns j
lanes_past m i b [] j lt = refl
lanes_past m i b (n ∷ ns) j lt =
    ap (λ d. record { count = n; next = d } ∷ lanes_from (suc b) ns (j ++ pair m i ∷ [])) (done_same b m i j (grind (arith, nat_tests)))
    ∙ ap (λ r. record { count = n; next = done_of b j } ∷ r) (lanes_past m i (suc b) ns j (omega arith))

-- the k-th is one further
lanes_set : (b k i : ℕ) (ns : List ℕ) (j : List Served1) → k < length ns
    → lanes_from b ns (j ++ pair (b + k) i ∷ []) ≡ set (lanes_from b ns j) k (record { count = slice_index ns k; next = done_of (b + k) j + 1 })
lanes_set b k i [] j lt = absurd (omega arith)
lanes_set b zero i (n ∷ ns) j lt =
    subst (λ m. lanes_from b (n ∷ ns) (j ++ pair m i ∷ []) ≡ set (lanes_from b (n ∷ ns) j) zero (record { count = n; next = done_of m j + 1 })) (let e : b ≡ b + zero = omega arith in e)
    (ap (λ d. record { count = n; next = d } ∷ lanes_from (suc b) ns (j ++ pair b i ∷ [])) (done_more b i j)
    ∙ ap (λ r. record { count = n; next = done_of b j + 1 } ∷ r) (lanes_past b i (suc b) ns j (omega arith)))
lanes_set b (suc k) i (n ∷ ns) j lt =
    subst (λ m. lanes_from b (n ∷ ns) (j ++ pair m i ∷ []) ≡ set (lanes_from b (n ∷ ns) j) (suc k) (record { count = slice_index ns k; next = done_of m j + 1 })) (let e : suc b + k ≡ b + suc k = omega arith in e)
    (ap (λ d. record { count = n; next = d } ∷ lanes_from (suc b) ns (j ++ pair (suc b + k) i ∷ [])) (done_same b (suc b + k) i j (grind (arith, nat_tests)))
    ∙ ap (λ r. record { count = n; next = done_of b j } ∷ r) (lanes_set (suc b) k i ns j (omega arith)))

pub lanes_set_at : (counts : List ℕ) (j : List Served1) (l : ℕ) → l < length counts
    → lanes_from 0 counts (j ++ pair l (done_of l j) ∷ []) ≡ set (lanes_from 0 counts j) l (record { count = slice_index counts l; next = done_of l j + 1 })
lanes_set_at counts j l lt =
    subst (λ m. lanes_from 0 counts (j ++ pair m (done_of l j) ∷ []) ≡ set (lanes_from 0 counts j) l (record { count = slice_index counts l; next = done_of m j + 1 }))
    (let e : 0 + l ≡ l = omega arith in e) (lanes_set 0 l (done_of l j) counts j lt)

-- ## the order

get_push : (j : List Served1) (s : Served1) (k : ℕ) (t : Served1) → slice_get (j ++ s ∷ []) k ≡ Some t → (slice_get j k ≡ Some t) ⊎ (s ≡ t)
get_push [] s zero t e = inr (cc)
get_push [] s (suc k) t e = absurd (cc)
get_push (x ∷ j) s zero t e = inl e
get_push (x ∷ j) s (suc k) t e = get_push j s k t e

pub in_order : (counts : List ℕ) (j : List Served1) (l : ℕ) → IsInOrder counts j → l < length counts → done_of l j < slice_index counts l
    → IsInOrder counts (j ++ pair l (done_of l j) ∷ [])
in_order counts j l o in' left = record {
  lanes = λ k s at. elim (get_push j (pair l (done_of l j)) k s at) [
    | inl e ↦ o.lanes k s e
    | inr e ↦ subst (λ (t : Served1). t.lane < length counts) e in'
  ];
  items = λ m lt. elim (same_or_not l m) [
    | inl h ↦ subst (λ m. items_of m (j ++ pair l (done_of l j) ∷ []) ≡ range_with_len 0 (done_of m (j ++ pair l (done_of l j) ∷ []))) h.0
        (items_more l (done_of l j) j ∙ ap (λ r. r ++ done_of l j ∷ []) (o.items l in') ∙ range_more 0 (done_of l j) (done_of l j) (omega arith)
        ∙ ap (range_with_len 0) (let e = done_more l (done_of l j) j in let f : suc (done_of l j) ≡ done_of l (j ++ pair l (done_of l j) ∷ []) = omega (arith, e) in f))
    | inr h ↦ items_same m l (done_of l j) j h.1 ∙ o.items m lt ∙ ap (range_with_len 0) (sym (done_same m l (done_of l j) j h.1))
  ];
  below = λ m lt. elim (same_or_not l m) [
    | inl h ↦ subst (λ m. done_of m (j ++ pair l (done_of l j) ∷ []) ≤ slice_index counts m) h.0 (let e = done_more l (done_of l j) j in omega (arith, e))
    | inr h ↦ let e = done_same m l (done_of l j) j h.1 in let f = o.below m lt in omega (arith, e, f)
  ];
}

-- ## under the lock

pub held_count : {counts name own own_name : List ℕ} {served j : List Served1} {lanes : List Lane} {room : ℕ} → LockInvariant counts name own own_name served j lanes room → length lanes ≡ length counts
held_count {counts = counts} {j = j} h = ap length h.lanes' ∙ lanes_count 0 counts j

-- with x in the place of lane l
module _ {counts name own own_name : List ℕ} {served j : List Served1} {lanes : List Lane} {room l : ℕ} {x : Lane} (h : LockInvariant counts name own own_name served j lanes room) (lt : l < length counts) (at : x ≡ get_or lanes l x) where
  own_lane : x ≡ record { count = slice_index counts l; next = done_of l j }
  own_lane = at ∙ ap (λ (ls : List Lane). get_or ls l x) h.lanes' ∙ lane_at counts j l lt x

  -- what is next, and how many there are
  pub held_next : x.next ≡ done_of l j
  held_next = ap (λ (y : Lane). y.next) own_lane

  pub held_of : x.count ≡ slice_index counts l
  held_of = ap (λ (y : Lane). y.count) own_lane

  pub held_below : x.next ≤ x.count
  held_below = let e = h.order.below l lt in let a = held_next in let b = held_of in omega (arith, e, a, b)

  -- what is left of this lane is part of what is left
  part_left : (y : Lane) → sum_by left_in (set lanes l y) + left_in x ≡ sum_by left_in lanes + left_in y
  part_left y =
      let n = held_count h in
      let e : left_in (get_or lanes l x) ≡ left_in x = ap left_in (sym at) in
      let f = sum_by-set left_in lanes l y x (omega (arith, n)) in
      omega (arith, e, f)

  -- there is room for one more
  pub held_room : x.next < x.count → length j < room
  held_room left =
      let f = part_left (record { count = 0; next = 0 }) in
      omega (arith, f, h.room')

  -- and after it all is kept
  pub held_more : x.next < x.count → {own2 own_name2 : List ℕ} {served2 j2 : List Served1} {lanes2 : List Lane} → own2 ≡ own → own_name2 ≡ own_name → served2 ≡ served ++ pair l x.next ∷ []
      → j2 ≡ j ++ pair l x.next ∷ [] → lanes2 ≡ set lanes l (record { count = x.count; next = x.next + 1 }) → LockInvariant counts name own2 own_name2 served2 j2 lanes2 room
  held_more left {j2 = j2} os ns ss js ls =
      let e = held_next in
      let f = held_of in
      let moved : j2 ≡ j ++ pair l (done_of l j) ∷ [] = js ∙ ap (λ (i : ℕ). j ++ pair l i ∷ []) e in
      record {
        counts' = os ∙ h.counts';
        name' = ns ∙ h.name';
        served' = ss ∙ ap (λ (k : List Served1). k ++ pair l x.next ∷ []) h.served' ∙ sym js;
        lanes' =
            ls ∙ ap (λ (k : List Lane). set k l (record { count = x.count; next = x.next + 1 })) h.lanes'
            ∙ ap (λ (y : Lane). set (lanes_from 0 counts j) l (record { count = y.count; next = y.next + 1 })) own_lane
            ∙ sym (lanes_set_at counts j l lt) ∙ ap (λ (k : List Served1). lanes_from 0 counts k) (sym moved);
        order = subst (IsInOrder counts) (sym moved) (in_order counts j l h.order lt (omega (arith, left, e, f)));
        few = h.few;
        room' =
            let n = part_left (record { count = x.count; next = x.next + 1 }) in
            let m = length_push j (pair l x.next) in
            let a = ap length js in
            let b = ap (sum_by left_in) ls in
            omega (arith, n, m, a, b, left, h.room');
      }

-- ## the start, and the end

pub lanes_push : (b : ℕ) (ns : List ℕ) (n : ℕ) → lanes_from b (ns ++ n ∷ []) [] ≡ lanes_from b ns [] ++ record { count = n; next = 0 } ∷ []
lanes_push b [] n = refl
lanes_push b (m ∷ ns) n = ap (λ r. record { count = m; next = 0 } ∷ r) (lanes_push (suc b) ns n)

pub seats_count : (b : ℕ) (ns : List ℕ) → length (seats_from b ns) ≡ length ns
seats_count b [] = refl
seats_count b (n ∷ ns) = ap suc (seats_count (suc b) ns)

pub seats_push : (b : ℕ) (ns : List ℕ) (n : ℕ) → seats_from b (ns ++ n ∷ []) ≡ seats_from b ns ++ record { lane = b + length ns; count = n; done = 0 } ∷ []
seats_push b [] n = ap (λ m. record { lane = m; count = n; done = 0 } ∷ []) (let e : b ≡ b + 0 = omega arith in e)
seats_push b (m ∷ ns) n =
    ap (λ r. record { lane = b; count = m; done = 0 } ∷ r) (seats_push (suc b) ns n)
    ∙ ap (λ k. record { lane = b; count = m; done = 0 } ∷ (seats_from (suc b) ns ++ record { lane = k; count = n; done = 0 } ∷ [])) (let e : suc b + length ns ≡ b + suc (length ns) = omega arith in e)

pub lanes_next : (ns : List ℕ) (k x : ℕ) (ls ms : List Lane) → k < length ns → ls ≡ lanes_from 0 (take k ns) [] → get_or ns k 0 ≡ x → ms ≡ ls ++ record { count = x; next = 0 } ∷ [] → ms ≡ lanes_from 0 (take (k + 1) ns) []
lanes_next ns k x ls ms lt is at more =
    more ∙ ap (λ (l : List Lane). l ++ record { count = x; next = 0 } ∷ []) is ∙ sym (lanes_push 0 (take k ns) x)
    ∙ ap (λ l. lanes_from 0 l []) (sym (take_more ns k 0 lt ∙ ap (λ (y : ℕ). take k ns ++ y ∷ []) at))

pub seats_next : (ns : List ℕ) (k x : ℕ) (ls ms : List LanePlace) → k < length ns → ls ≡ seats_from 0 (take k ns) → get_or ns k 0 ≡ x → ms ≡ ls ++ record { lane = k; count = x; done = 0 } ∷ [] → ms ≡ seats_from 0 (take (k + 1) ns)
seats_next ns k x ls ms lt is at more =
    more ∙ ap (λ (l : List LanePlace). l ++ record { lane = k; count = x; done = 0 } ∷ []) is
    ∙ ap (λ m. seats_from 0 (take k ns) ++ record { lane = m; count = x; done = 0 } ∷ []) (let n = length-take-le k ns (omega arith) in let e : k ≡ 0 + length (take k ns) = omega (arith, n) in e)
    ∙ sym (seats_push 0 (take k ns) x)
    ∙ ap (λ l. seats_from 0 l) (sym (take_more ns k 0 lt ∙ ap (λ (y : ℕ). take k ns ++ y ∷ []) at))

left_at_first : (b : ℕ) (ns : List ℕ) → sum_by left_in (lanes_from b ns []) ≡ sum ns
left_at_first b [] = refl
left_at_first b (n ∷ ns) = let e = left_at_first (suc b) ns in omega (arith, e, sum_by-cons left_in (record { count = n; next = 0 }) (lanes_from (suc b) ns []), sum_by-cons (λ (m : ℕ). m) n ns)

pub held_first : (counts name own own_name : List ℕ) (served : List Served1) (lanes : List Lane) (room : ℕ) → own ≡ counts → own_name ≡ name → served ≡ [] → lanes ≡ lanes_from 0 counts [] → length counts ≤ LANES
    → sum counts ≤ room → LockInvariant counts name own own_name served [] lanes room
held_first counts name own own_name served lanes room os ns fresh ls few enough = record {
  counts' = os;
  name' = ns;
  served' = fresh;
  lanes' = ls;
  order = record { lanes = λ k s at. absurd (cc); items = λ l lt. refl; below = λ l lt. omega arith };
  few = few;
  room' = let e = ap (sum_by left_in) ls ∙ left_at_first 0 counts in omega (arith, e, enough);
}

-- once all is served, the journal is a merge
pub merged : (counts : List ℕ) (j : List Served1) → IsInOrder counts j → ((l : ℕ) → l < length counts → done_of l j ≡ slice_index counts l) → IsMerge counts j
merged counts j o whole = record { lanes = o.lanes; items = λ l lt. o.items l lt ∙ ap (range_with_len 0) (whole l lt) }

-- ## turns

pub none_left : (a n : ℕ) → a ≡ n → IsTrue false ↔ (a < n)
none_left a n e = ((λ is. absurd (cc)), λ lt. absurd (omega (arith, e, lt)))

less_left : (n a b : ℕ) (more left : Bool) → left ≡ true → (more ≡ true → (a < n) × (b ≡ a + 1)) → (more ≡ false → b ≡ a) → (n - b) + cond more 1 0 < (n - a) + cond left 1 0
less_left n a b true left is did none = rw is (let y = did refl in omega (arith, y.0, y.1))
less_left n a b false left is did none = rw is (let y = none refl in omega (arith, y))

-- a turn of lane l, which has n items; it may find nothing left
module _ {T : Type 0} (n l : ℕ) (old new : LockView T) (more : Bool) (left : IsTrue more ↔ (done_of l old.journal < n)) (served : OnTrue more (new.journal ≡ old.journal ++ next_of l old.journal ∷ [])) (all : OnFalse more (done_of l old.journal ≡ n)) (none : OnFalse more (new ≡ old)) where
  same : more ≡ false → new.journal ≡ old.journal
  same e = ap (λ h. h.journal) (OnFalse_at e none)

  pub turn_nearer : (going : Bool) → going ≡ true → (n - done_of l new.journal) + cond more 1 0 < (n - done_of l old.journal) + cond going 1 0
  turn_nearer going is =
      less_left n (done_of l old.journal) (done_of l new.journal) more going is
      (λ e. (left.0 e, ap (done_of l) (OnTrue_at e served) ∙ done_more l (done_of l old.journal) old.journal)) (λ e. ap (done_of l) (same e))

  pub turn_whole : more ≡ false → done_of l new.journal ≡ n
  turn_whole e = ap (done_of l) (same e) ∙ OnFalse_at e all

  pub turn_others : (m : ℕ) → m ≢ l → done_of m new.journal ≡ done_of m old.journal
  turn_others m ne = either more refl
    where
      either : (b : Bool) → more ≡ b → done_of m new.journal ≡ done_of m old.journal
      either true e = ap (done_of m) (OnTrue_at e served) ∙ done_same m l (done_of l old.journal) old.journal (grind (arith, nat_tests, ne))
      either false e = ap (done_of m) (same e)
