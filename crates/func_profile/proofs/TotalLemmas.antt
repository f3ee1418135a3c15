-- The hits of all functions are all the callbacks of the user.
use Rattle.std.proofs.Common.{cond, ◌≡◌, ℕ, zero, suc, ◌+◌, ◌<◌, ◌≤◌, Bool, true, false, ◌&&◌, ◌==◌, nat_lt, List, [], ◌∷◌, ◌++◌, map, length, reverse, filter, sum_by, Option, Some, None, IsSomeAnd, refl, sym, ap, ap₂, ◌∙◌, subst, arith, add-one, inl, inr, lt-ltb}
use Rattle.std.specs.List.{range_with_len}
use Rattle.std.proofs.lemmas.Bool.Decides.{eqb_tells}
use Rattle.std.proofs.lemmas.Bool.{cases_lt}
use Rattle.std.proofs.lemmas.List.{reverse-append, reverse-reverse, length-append}
use Rattle.std.proofs.lemmas.List.Elements.{filter-append}
use Rattle.std.proofs.lemmas.List.Sums.{sum_by_from}
use Rattle.std.proofs.lemmas.List.FromFn.{sum_by-map-range_with_len_more}
use Rattle.ft_base.specs.declared.number.CallNo.{CallNo}
use Rattle.ft_base.specs.declared.number.UserNo.{UserNo}
use Rattle.ft_base.specs.declared.item.Item.{Item}
use Rattle.ft_base.specs.declared.item.Item.TheVariants.{Back}
use Rattle.ft_base.proofs.Small.{false_true, ==-refl, and-false}
use Rattle.ft_hist.specs.Past.{Entered, entered, entry_of}
use Rattle.ft_hist.specs.Counts.{is_back_of, backs_of}
use Rattle.ft_hist.proofs.Splitting.{split-reverse}
use Rattle.func_profile.specs.declared.profile.ProfileRow.{ProfileRow}
use Rattle.func_profile.specs.Rows.{hits_of, row_of, has_hit, rows_of, IsEntered, HasRows}
use Rattle.func_profile.proofs.TallyLemmas.{entry-is}

-- ## sums over the functions

-- the sum over the numbers below n
abbrev pub total : (ℕ → ℕ) → ℕ → ℕ
total g zero = 0
total g (suc n) = total g n + g n

total-none : (n : ℕ) → total (λ f. 0) n ≡ 0
total-none zero = refl
total-none (suc n) = let h = total-none n in omega (arith, h)

pub total-plus : (g h : ℕ → ℕ) (n : ℕ) → total (λ f. g f + h f) n ≡ total g n + total h n
total-plus g h zero = refl
total-plus g h (suc n) = let e = total-plus g h n in omega (arith, e)

-- a number below n is one of them, and one past them is none
total-past : (b : Bool) (g n : ℕ) → n ≤ g → total (λ f. cond (b && (g == f)) 1 0) n ≡ 0
total-past b g zero le = refl
total-past b g (suc n) le =
    let other : (g == n) ≡ false = elim (eqb_tells g n) [ inl x ↦ (let e : g ≡ n = x.1 in absurd (omega (arith, e, le))) | inr x ↦ x.0 ] in
    let h = total-past b g n (omega (arith, le)) in
    rw (other, and-false b) (omega (arith, h))

total-one : (b : Bool) (g n : ℕ) → g < n → total (λ f. cond (b && (g == f)) 1 0) n ≡ cond b 1 0
total-one b g zero lt = absurd (omega (arith, lt))
total-one b g (suc n) lt = elim (eqb_tells g n) [
  | inl x ↦ (let e : g ≡ n = x.1 in
      let h = total-past b g n (omega (arith, e)) in
      rw (x.0, h) (by b))
  | inr x ↦ (let le : g < n = elim (cases_lt g n) [ inl l ↦ l | inr m ↦ (let e : g ≡ n = omega (arith, m, lt) in false_true (sym x.0 ∙ rw e (==-refl n))) ] in
      let h = total-one b g n le in
      rw (x.0, and-false b) (omega (arith, h)))
]
  where
    by : (b : Bool) → 0 + cond (b && true) 1 0 ≡ cond b 1 0
    by true = refl
    by false = refl

-- ## the hits of a past

-- the callbacks of the user in a past are of calls of functions below n
abbrev BacksNamed : ℕ → List Item → Type 0
BacksNamed n [] = Unit {0}
BacksNamed n (Back call v ∷ past) = ((entry_of call past).func < n) × BacksNamed n past
BacksNamed n (_ ∷ past) = BacksNamed n past

more-long : {X : Type 0} (b : Bool) (x : X) (xs : List X) → cond b 1 0 + length xs ≡ length (cond b (x ∷ xs) xs)
more-long true x xs = omega arith
more-long false x xs = omega arith

pub total-hits : (u n : ℕ) (past : List Item) → BacksNamed n past → total (hits_of u past) n ≡ length (filter (λ item. is_back_of u item) past)
total-hits u n [] h = total-none n
total-hits u n (Back call v ∷ past) h =
    total-plus (λ f. cond ((v.0 == u) && ((entry_of call past).func == f)) 1 0) (hits_of u past) n
    ∙ ap₂ (λ a b. a + b) (total-one (v.0 == u) (entry_of call past).func n h.0) (total-hits u n past h.1)
    ∙ more-long (v.0 == u) (Back call v) (filter (λ item. is_back_of u item) past)
total-hits u n (_ ∷ past) h = total-hits u n past h

-- ## the hits of the rows

hits-cons : (row : ProfileRow) (rows : List ProfileRow) → sum_by (λ r. r.hits) (row ∷ rows) ≡ row.hits + sum_by (λ r. r.hits) rows
hits-cons row rows = sum_by_from (λ r. r.hits) (0 + row.hits) rows ∙ ap (λ n. n + sum_by (λ (r : ProfileRow). r.hits) rows) (let e : 0 + row.hits ≡ row.hits = omega arith in e)

-- rows without hits add nothing
hits-filter : (rows : List ProfileRow) → sum_by (λ r. r.hits) (filter has_hit rows) ≡ sum_by (λ r. r.hits) rows
hits-filter [] = refl
hits-filter (row ∷ rows) =
    elim (nat_lt 0 row.hits) as (λ b. nat_lt 0 row.hits ≡ b → sum_by (λ r. r.hits) (cond b (row ∷ filter has_hit rows) (filter has_hit rows)) ≡ sum_by (λ r. r.hits) (row ∷ rows)) [
      | true ↦ λ e. hits-cons row (filter has_hit rows) ∙ ap (λ n. row.hits + n) (hits-filter rows) ∙ sym (hits-cons row rows)
      | false ↦ λ e. (
          let none : row.hits ≡ 0 = elim (cases_lt 0 row.hits) [ inl lt ↦ false_true (sym e ∙ lt-ltb 0 row.hits lt) | inr le ↦ omega (arith, le) ] in
          let first = hits-filter rows in
          let second = hits-cons row rows in
          omega (arith, none, first, second))
    ] refl

hits-rows : (u : ℕ) (past : List Item) (n : ℕ) → sum_by (λ r. r.hits) (map (row_of u past) (range_with_len 0 n)) ≡ total (hits_of u past) n
hits-rows u past zero = refl
hits-rows u past (suc n) =
    let more = sum_by-map-range_with_len_more (λ (r : ProfileRow). r.hits) (row_of u past) 0 n n (omega arith) in
    let more' = subst (λ m. sum_by (λ (r : ProfileRow). r.hits) (map (row_of u past) (range_with_len 0 m)) ≡ sum_by (λ (r : ProfileRow). r.hits) (map (row_of u past) (range_with_len 0 n)) + hits_of u past n) (add-one n) more in
    let h = hits-rows u past n in
    omega (arith, more', h)

-- ## histories

pub filter-long : (p : Item → Bool) (items : List Item) → length (filter p (reverse items)) ≡ length (filter p items)
filter-long p [] = refl
filter-long p (item ∷ items) =
    ap (λ xs. length (filter p xs)) (reverse-append (item ∷ []) items)
    ∙ ap length (filter-append p (reverse items) (item ∷ []))
    ∙ length-append (filter p (reverse items)) (filter p (item ∷ []))
    ∙ ap (λ n. n + length (filter p (item ∷ []))) (filter-long p items)
    ∙ last (p item)
  where
    last : (b : Bool) → length (filter p items) + length (cond b (item ∷ []) []) ≡ length (cond b (item ∷ filter p items) (filter p items))
    last true = omega arith
    last false = omega arith

func-below : (n : ℕ) (call : CallNo) (past : List Item) → IsEntered n call past → (entry_of call past).func < n
func-below n call past was = by (entered call past) refl was
  where
    by : (o : Option Entered) → entered call past ≡ o → IsSomeAnd o (λ e. e.func < n) → (entry_of call past).func < n
    by None e w = absurd w
    by (Some x) e w = subst (λ (y : Entered). y.func < n) (sym (entry-is call past x e)) w

backs-by : (n : ℕ) (past : List Item) → ((newer : List Item) (call : CallNo) (v : UserNo) (older : List Item) → past ≡ newer ++ Back call v ∷ older → IsEntered n call older) → BacksNamed n past
backs-by n [] h = tt
backs-by n (Back call v ∷ past) h = (func-below n call past (h [] call v past refl), backs-by n past (λ newer c w older e. h (Back call v ∷ newer) c w older (ap (λ (xs : List Item). Back call v ∷ xs) e)))
backs-by n (item ∷ past) h = backs-by n past (λ newer c w older e. h (item ∷ newer) c w older (ap (λ (xs : List Item). item ∷ xs) e))

pub hits-add-up : (items : List Item) (u n : ℕ) → HasRows n items → sum_by (λ row. row.hits) (rows_of items u n) ≡ backs_of u items
hits-add-up items u n rows =
    hits-filter (map (row_of u (reverse items)) (range_with_len 0 n))
    ∙ hits-rows u (reverse items) n
    ∙ total-hits u n (reverse items) (backs-by n (reverse items) (λ newer call v older e.
    subst (λ past. IsEntered n call past) (reverse-reverse older)
    (rows.backs (reverse older) (reverse newer) call v (sym (reverse-reverse items) ∙ ap (λ (xs : List Item). reverse xs) e ∙ split-reverse newer (Back call v) older))))
    ∙ filter-long (λ item. is_back_of u item) items
