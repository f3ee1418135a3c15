-- What the view rings makes of one more item.
use Rattle.std.proofs.Common.{◌≡◌, ℕ, zero, suc, ◌+◌, ◌-◌, ◌<◌, ◌≤◌, Bool, true, false, List, [], ◌∷◌, ◌++◌, length, map, set, drop, take, reverse, get_or, cond, Option, None, Some, refl, sym, ap, ◌∙◌, subst, arith, ⊎_elim}
use Rattle.std.specs.Prelude.{◌&&◌, replicate, slice_get, slice_index_or}
use Rattle.std.specs.List.{AllByRecursion as Each}
use Rattle.std.proofs.lemmas.List.{drop-map, length-map, length-reverse, map-set, map_push, reverse-append, reverse-reverse, set_past, take-append-le, take_all}
use Rattle.ft_base.specs.declared.number.CallNo.{CallNo}
use Rattle.ft_base.specs.declared.number.UserNo.{UserNo}
use Rattle.ft_base.specs.declared.item.Item.{Item}
use Rattle.ft_base.specs.declared.item.Item.TheVariants.{Back}
use Rattle.ft_base.specs.Items.{call_of}
use Rattle.ft_base.specs.Job.{Job}
use Rattle.ft_base.proofs.Small.{Each-snoc, Each-weaker}
use Rattle.ft_hist.specs.Telling.{past_at}
use Rattle.circular_buffer.specs.Buffer.{keep_last}
use Rattle.ring_rules.specs.Plan.{TracePlan, plan_of}
use Rattle.ring_rules.specs.Hits.{is_traced}
use Rattle.ring_rules.specs.Fold.{Ring, Tracing, after_item, after_items, at_start, cpu_of_call, hit_all, no_ring, write, written_at}
use Rattle.ring_rules.proofs.FoldSteps.{all-cpus, goes-more}
use Rattle.ring_rules.proofs.Lists.{get-below, get-last, get-more}
use Rattle.ring_rules.proofs.Numbers.{lt-or-le}
use Rattle.trace_views.specs.declared.function.FunctionLine.{FunctionLine}
use Rattle.trace_views.specs.declared.ring_view.RingsView.{RingsView}
use Rattle.trace_views.specs.declared.switch.Switch.{Switch}
use Rattle.trace_views.specs.FunctionText.{function_line}
use Rattle.trace_views.specs.OpenCalls.{IsFollowed, function_line_text}
use Rattle.trace_views.specs.RingLines.{IsLineAt}
use Rattle.trace_views.specs.LineRings.{LineBox, empty_lines, ring_of, with_line}
use Rattle.trace_views.specs.RingViews.{HasRings, IsRingAfter, IsSwitchOf, so_far}
use Rattle.trace_views.proofs.FunctionLines.{line-at}
use Rattle.trace_views.proofs.RingEntries.{each-drop}

-- ## rings of lines

-- the ring of a CPU
pub ring-at : (bs : List LineBox) (c : ℕ) → slice_index_or (map ring_of bs) c no_ring ≡ ring_of (slice_index_or bs c (empty_lines 0))
ring-at [] c = refl
ring-at (b ∷ bs) zero = refl
ring-at (b ∷ bs) (suc c) = ring-at bs c

-- so many empty ones
pub rings-empty : (n most : ℕ) → map ring_of (replicate n (empty_lines most)) ≡ replicate n no_ring
rings-empty zero most = refl
rings-empty (suc n) most = ap (λ (l : List Ring). no_ring ∷ l) (rings-empty n most)

abbrev place_of : FunctionLine → ℕ
place_of line = line.place

-- one more entry
pub ring-with : (line : FunctionLine) (b : LineBox) → ring_of (with_line line b) ≡ write b.most line.place (ring_of b)
ring-with line b = λ j. record { written = suc b.written; held = held j }
  where
    pushed : map place_of (b.lines ++ line ∷ []) ≡ map place_of b.lines ++ line.place ∷ []
    pushed = map_push place_of b.lines line

    count : length (b.lines ++ line ∷ []) ≡ length (map place_of b.lines ++ line.place ∷ [])
    count = sym (length-map (b.lines ++ line ∷ []) place_of) ∙ ap length pushed

    held : map place_of (keep_last b.most (b.lines ++ line ∷ [])) ≡ keep_last b.most (map place_of b.lines ++ line.place ∷ [])
    held = sym (drop-map place_of (length (b.lines ++ line ∷ []) - b.most) (b.lines ++ line ∷ []))
        ∙ (λ j. drop (count j - b.most) (pushed j))

-- one more entry in the ring of a CPU
pub rings-with : (bs bs' : List LineBox) (c p most : ℕ) (line : FunctionLine) → bs' ≡ set bs c (with_line line (slice_index_or bs c (empty_lines 0)))
    → line.place ≡ p → (c < length bs → (slice_index_or bs c (empty_lines 0)).most ≡ most)
    → map ring_of bs' ≡ set (map ring_of bs) c (write most p (slice_index_or (map ring_of bs) c no_ring))
rings-with bs bs' c p most line e is m =
    ⊎_elim
    (λ (lt : c < length bs).
    ap (map ring_of) e
    ∙ map-set ring_of bs c (with_line line (slice_index_or bs c (empty_lines 0)))
    ∙ ap (set (map ring_of bs) c) (ring-with line (slice_index_or bs c (empty_lines 0)))
    ∙ (λ j. set (map ring_of bs) c (write (m lt j) (is j) (sym (ring-at bs c) j))))
    (λ (le : length bs ≤ c).
    ap (map ring_of) (e ∙ set_past bs c (with_line line (slice_index_or bs c (empty_lines 0))) le)
    ∙ sym (set_past (map ring_of bs) c (write most p (slice_index_or (map ring_of bs) c no_ring)) (let l = length-map bs ring_of in omega (arith, le, l))))
    (lt-or-le c (length bs))

-- what holds of each and of another holds of each when that takes the place of one
pub each-set : {A : Type 0} (P : A → Type 0) (xs : List A) (c : ℕ) (y : A) → Each P xs → (c < length xs → P y) → Each P (set xs c y)
each-set P [] c y all new = tt
each-set P (x ∷ xs) zero y all new = (new (omega arith), all.1)
each-set P (x ∷ xs) (suc c) y all new = (all.0, each-set P xs c y all.1 (λ lt. new (omega (arith, lt))))

pub each-at : {A : Type 0} (P : A → Type 0) (xs : List A) (c : ℕ) (d : A) → c < length xs → Each P xs → P (slice_index_or xs c d)
each-at P [] c d lt all = absurd (omega (arith, lt))
each-at P (x ∷ xs) zero d lt all = all.0
each-at P (x ∷ xs) (suc c) d lt all = each-at P xs c d (omega (arith, lt)) all.1

pub each-same : {A : Type 0} (P : A → Type 0) (n : ℕ) (x : A) → P x → Each P (replicate n x)
each-same P zero x is = tt
each-same P (suc n) x is = (is, each-same P n x is)

-- the element at a number
pub got-at : {A : Type 0} (xs : List A) (i : ℕ) (x : A) → slice_get xs i ≡ Some x → x ≡ get_or xs i x
got-at [] i x e = absurd cc
got-at (y ∷ ys) zero x e = let s : y ≡ x = cc in sym s
got-at (y ∷ ys) (suc i) x e = got-at ys i x e

-- ## lines of places

-- one more item changes no line
pub line-later : (job : Job) (items : List Item) (x : Item) (p : ℕ) (line : FunctionLine) → IsLineAt job items p line → IsLineAt job (items ++ x ∷ []) p line
line-later job items x p line is = record {
  call = is.call;
  stands = get-more items x (Back is.call line.user) p is.stands;
  place' = is.place';
  text = is.text ∙ ap (λ (past : List Item). function_line job past is.call line.user.0)
      (ap (λ (xs : List Item). reverse xs) (sym (take-append-le p items (x ∷ [])
      (let lt = get-below items (Back is.call line.user) p is.stands in omega (arith, lt)))));
}

module _ (job : Job) (past : List Item) (item : Item) where
  -- the items in order
  pub in-order : reverse (item ∷ past) ≡ reverse past ++ item ∷ []
  in-order = reverse-append (item ∷ []) past

  -- the past of the last one
  pub past-of-last : past_at (length past) (reverse (item ∷ past)) ≡ past
  past-of-last =
      ap (λ (xs : List Item). reverse (take (length past) xs)) in-order
      ∙ ap (λ (n : ℕ). reverse (take n (reverse past ++ item ∷ []))) (sym (length-reverse past))
      ∙ ap (λ (xs : List Item). reverse xs) (take-append-le (length (reverse past)) (reverse past) (item ∷ []) (omega arith) ∙ take_all (length (reverse past)) (reverse past) (omega arith))
      ∙ reverse-reverse past

  pub last-stands : slice_get (reverse (item ∷ past)) (length past) ≡ Some item
  last-stands =
      ap (λ (xs : List Item). slice_get xs (length past)) in-order
      ∙ ap (slice_get (reverse past ++ item ∷ [])) (sym (length-reverse past))
      ∙ get-last (reverse past) item

  -- the line of the item, if it is an entry callback
  pub line-of-last : (call : CallNo) (u : UserNo) (line : FunctionLine) → item ≡ Back call u → line.place ≡ length past → line.user ≡ u
      → function_line_text job line ≡ function_line job past call u.0 → IsLineAt job (reverse (item ∷ past)) (length past) line
  line-of-last call u line is place user text =
      line-at job (reverse (item ∷ past)) (length past) item call u line last-stands is place user
      (λ long. text ∙ ap (λ (before : List Item). function_line job before call u.0) (sym past-of-last))

  -- a ring keeps what it kept
  pub ring-later : (b : LineBox) → IsRingAfter job past b → IsRingAfter job (item ∷ past) b
  ring-later b is = record {
    most' = is.most';
    few = (let f = is.few in omega (arith, f));
    lines' = subst (λ (items : List Item). Each (λ line. IsLineAt job items line.place line) b.lines) (sym in-order)
        (Each-weaker (λ line. IsLineAt job (reverse past) line.place line) (λ line. IsLineAt job (reverse past ++ item ∷ []) line.place line) b.lines
        (λ line at. line-later job (reverse past) item line.place line at) is.lines');
  }

  -- and one more entry
  pub ring-more : (b : LineBox) (line : FunctionLine) → IsRingAfter job past b → IsLineAt job (reverse (item ∷ past)) (length past) line
      → IsRingAfter job (item ∷ past) (with_line line b)
  ring-more b line is at = record {
    most' = is.most';
    few = (let f = is.few in omega (arith, f));
    lines' = each-drop (λ l. IsLineAt job (reverse (item ∷ past)) l.place l) (length (b.lines ++ line ∷ []) - b.most) (b.lines ++ line ∷ [])
        (Each-snoc (λ l. IsLineAt job (reverse (item ∷ past)) l.place l) b.lines line (ring-later b is).lines'
        (subst (λ (p : ℕ). IsLineAt job (reverse (item ∷ past)) p line) (sym at.place') at));
  }

  -- ## what is so far

  pub so-far-next : so_far job (item ∷ past) ≡ after_item (plan_of job) (length past) item (so_far job past)
  so-far-next =
      ap (λ (xs : List Item). after_items (plan_of job) 0 xs (at_start (plan_of job))) in-order
      ∙ goes-more (plan_of job) 0 (reverse past) item (at_start (plan_of job))
      ∙ ap (λ (n : ℕ). after_item (plan_of job) n item (so_far job past)) at-length
    where
      at-length : 0 + length (reverse past) ≡ length past
      at-length = let l = length-reverse past in omega (arith, l)

  abbrev pub after_hits : Tracing
  after_hits = hit_all (plan_of job) (length past) item (length (plan_of job).triggers) (so_far job past)

  abbrev after_writing : Tracing
  after_writing = record {
    on = after_hits.on;
    hits = after_hits.hits;
    rings = written_at (plan_of job) (length past) (cpu_of_call (plan_of job) (call_of item)) after_hits.rings;
  }

  -- an entry is written
  pub so-far-written : (is_traced (plan_of job) item && after_hits.on) ≡ true → so_far job (item ∷ past) ≡ after_writing
  so-far-written e = so-far-next ∙ ap (λ (b : Bool). cond b after_writing after_hits) e

  -- none is
  pub so-far-hit : (is_traced (plan_of job) item && after_hits.on) ≡ false → so_far job (item ∷ past) ≡ after_hits
  so-far-hit e = so-far-next ∙ ap (λ (b : Bool). cond b after_writing after_hits) e

  module _ (view view' : RingsView) (told : HasRings job past view) (same : view'.plan ≡ view.plan) (place : view'.place ≡ view.place + 1)
      (calls : IsFollowed job (item ∷ past) view'.stacks) (switched : IsSwitchOf after_hits view'.switch) where
    place-next : view'.place ≡ length (item ∷ past)
    place-next = let p = told.place' in omega (arith, place, p)

    tested : is_traced view.plan item ≡ is_traced (plan_of job) item
    tested = ap (λ (plan : TracePlan). is_traced plan item) told.plan'

    -- the view has taken an item that is no entry to write
    pub taken-other : (is_traced view.plan item && view'.switch.on) ≡ false → view'.rings.items ≡ view.rings.items → HasRings job (item ∷ past) view'
    taken-other off kept =
        let is = so-far-hit ((λ j. sym tested j && sym switched.on' j) ∙ off) in
        record {
          plan' = same ∙ told.plan';
          calls = calls;
          place' = place-next;
          switch' = subst (λ (s : Tracing). IsSwitchOf s view'.switch) (sym is) switched;
          rings' = ap (map ring_of) kept ∙ told.rings'
              ∙ sym (all-cpus (plan_of job) (length past) item (length (plan_of job).triggers) (so_far job past))
              ∙ ap (λ (s : Tracing). s.rings.cpus) (sym is);
          each = subst (Each (IsRingAfter job (item ∷ past))) (sym kept)
              (Each-weaker (IsRingAfter job past) (IsRingAfter job (item ∷ past)) view.rings.items ring-later told.each);
        }

    -- the view has taken an entry that is written
    pub taken-entry : (line : FunctionLine) (c : ℕ) → c ≡ cpu_of_call view.plan (call_of item) → (is_traced view.plan item && view'.switch.on) ≡ true
        → IsLineAt job (reverse (item ∷ past)) (length past) line
        → view'.rings.items ≡ set view.rings.items c (with_line line (slice_index_or view.rings.items c (empty_lines 0))) → HasRings job (item ∷ past) view'
    taken-entry line c of on at grown =
        let is = so-far-written ((λ j. sym tested j && sym switched.on' j) ∙ on) in
        let cpu : c ≡ cpu_of_call (plan_of job) (call_of item) = of ∙ ap (λ (plan : TracePlan). cpu_of_call plan (call_of item)) told.plan' in
        let before : map ring_of view.rings.items ≡ after_hits.rings.cpus =
        told.rings' ∙ sym (all-cpus (plan_of job) (length past) item (length (plan_of job).triggers) (so_far job past)) in
        record {
          plan' = same ∙ told.plan';
          calls = calls;
          place' = place-next;
          switch' = subst (λ (s : Tracing). IsSwitchOf s view'.switch) (sym is) (record { on' = switched.on'; hits' = switched.hits' });
          rings' = rings-with view.rings.items view'.rings.items c (length past) job.rings.ring line grown at.place'
              (λ lt. (each-at (IsRingAfter job past) view.rings.items c (empty_lines 0) lt told.each).most')
              ∙ (λ j. set (before j) (cpu j) (write job.rings.ring (length past) (slice_index_or (before j) (cpu j) no_ring)))
              ∙ ap (λ (s : Tracing). s.rings.cpus) (sym is);
          each = subst (Each (IsRingAfter job (item ∷ past))) (sym grown)
              (each-set (IsRingAfter job (item ∷ past)) view.rings.items c (with_line line (slice_index_or view.rings.items c (empty_lines 0)))
              (Each-weaker (IsRingAfter job past) (IsRingAfter job (item ∷ past)) view.rings.items ring-later told.each)
              (λ lt. ring-more (slice_index_or view.rings.items c (empty_lines 0)) line (each-at (IsRingAfter job past) view.rings.items c (empty_lines 0) lt told.each) at));
        }

    -- the view has taken the item
    pub taken-in : (line : Option FunctionLine)
        → (line ≡ None → (is_traced view.plan item && view'.switch.on) ≡ false)
        → ((l : FunctionLine) → line ≡ Some l → (is_traced view.plan item && view'.switch.on) ≡ true)
        → ((l : FunctionLine) → line ≡ Some l → IsLineAt job (reverse (item ∷ past)) (length past) l)
        → (line ≡ None → view'.rings.items ≡ view.rings.items)
        → ((l : FunctionLine) → line ≡ Some l → view'.rings.items ≡ set view.rings.items (cpu_of_call view.plan (call_of item))
        (with_line l (slice_index_or view.rings.items (cpu_of_call view.plan (call_of item)) (empty_lines 0))))
        → HasRings job (item ∷ past) view'
    taken-in None off on at kept grown = taken-other (off refl) (kept refl)
    taken-in (Some l) off on at kept grown = taken-entry l (cpu_of_call view.plan (call_of item)) refl (on l refl) (at l refl) (grown l refl)

-- the switch is told by what rings need to know of the job
pub hit-as : (job : Job) (past : List Item) (item : Item) (plan : TracePlan) (switch : Switch) → plan ≡ plan_of job
    → IsSwitchOf (hit_all plan (length past) item (length plan.triggers) (so_far job past)) switch → IsSwitchOf (after_hits job past item) switch
hit-as job past item plan switch same is =
    subst (λ (p : TracePlan). IsSwitchOf (hit_all p (length past) item (length p.triggers) (so_far job past)) switch) same is
