-- What is kept of a past, over one more item.
use Rattle.std.proofs.Common.{cond, ◌≡◌, ◌≢◌, ℕ, zero, suc, ◌+◌, ◌-◌, ◌*◌, ◌<◌, ◌≤◌, ◌⊎◌, Bool, true, false, ◌&&◌, ◌==◌, List, [], ◌∷◌, map, length, set, get_or, Option, Some, None, IsSome, IsSomeAnd, refl, sym, ap, ◌∙◌, subst, arith, inl, inr}
use Rattle.std.specs.Option.{option_map}
use Rattle.std.specs.List.{range_with_len}
use Rattle.std.specs.HashMap.{get}
use Rattle.std.proofs.lemmas.Bool.{cases_lt}
use Rattle.std.proofs.lemmas.Bool.Decides.{eqb_tells}
use Rattle.std.proofs.lemmas.List.{length-set, get_or-set_same, get_or-set_other, get_or_past}
use Rattle.std.proofs.lemmas.List.FromFn.{length-map-range_with_len, get_or-map-range_with_len, fill_by_all}
use Rattle.ft_base.specs.declared.number.CallNo.{CallNo}
use Rattle.ft_base.specs.declared.number.FuncNo.{FuncNo}
use Rattle.ft_base.specs.declared.number.UserNo.{UserNo}
use Rattle.ft_base.specs.declared.context.Ctx.{Ctx}
use Rattle.ft_base.specs.declared.item.Item.{Item}
use Rattle.ft_base.specs.declared.item.Item.TheVariants.{Enter, Back, Exit}
use Rattle.ft_base.specs.Same.{same_call}
use Rattle.ft_base.proofs.Small.{false_true, ==-refl, and-false}
use Rattle.ft_hist.specs.Past.{Entered, entered, entry_of, done}
use Rattle.func_profile.specs.declared.profile.ProfileRow.{ProfileRow}
use Rattle.func_profile.specs.declared.table.Table.{Table}
use Rattle.func_profile.specs.declared.tally.Tally.{Tally}
use Rattle.func_profile.specs.Rows.{is_counted, hits_of, time_of, row_of, IsEntered}
use Rattle.func_profile.specs.Tallies.{same_key, function_at, row_at, with_hit, with_time, IsTable, IsTally}

-- ## bounds

one-more : (b : Bool) (n m : ℕ) → n ≤ m → cond b 1 0 + n ≤ suc m
one-more true n m le = omega (arith, le)
one-more false n m le = omega (arith, le)

-- a function has at most as many hits as there are items
pub hits-bound : (u f : ℕ) (past : List Item) → hits_of u past f ≤ length past
hits-bound u f [] = omega arith
hits-bound u f (Back call v ∷ past) = one-more ((v.0 == u) && ((entry_of call past).func == f)) (hits_of u past f) (length past) (hits-bound u f past)
hits-bound u f (_ ∷ past) = let h = hits-bound u f past in omega (arith, h)

more-time : (b : Bool) (x n m : ℕ) → x < 4294967296 → n ≤ m * 4294967296 → cond b x 0 + n ≤ suc m * 4294967296
more-time true x n m lt le = omega (arith, lt, le)
more-time false x n m lt le = omega (arith, le)

-- each exit adds less than the length of the longest history
pub time-bound : (u f : ℕ) (past : List Item) → length past ≤ 4294967296 → time_of u past f ≤ length past * 4294967296
time-bound u f [] le = omega arith
time-bound u f (Exit call v entry ∷ past) le =
    more-time ((v.0 == u) && ((entry_of call past).func == f)) (length past - entry) (time_of u past f) (length past) (omega (arith, le)) (time-bound u f past (omega (arith, le)))
time-bound u f (_ ∷ past) le = let h = time-bound u f past (omega (arith, le)) in omega (arith, h)

-- ## the function of a call

-- what a call's Enter tells, if it has one
pub entry-is : (call : CallNo) (past : List Item) (e : Entered) → entered call past ≡ Some e → entry_of call past ≡ e
entry-is call past e here = rw here refl

module _ (t : Tally) (call : CallNo) (past : List Item) (same : option_map (λ f. f.0) (function_at t call) ≡ option_map (λ e. e.func) (entered call past)) (funcs : ℕ) (was : IsEntered funcs call past) where
  -- a call that was entered has a function
  pub function-some : IsSome (function_at t call)
  function-some = by (entered call past) refl was (function_at t call) refl
    where
      by : (o : Option Entered) → entered call past ≡ o → IsSomeAnd o (λ e. e.func < funcs) → (p : Option FuncNo) → function_at t call ≡ p → IsSome p
      by None e w p q = absurd w
      by (Some x) e w None q = absurd (let z : None ≡ Some x.func = sym (ap (option_map (λ (f : FuncNo). f.0)) q) ∙ same ∙ ap (option_map (λ (y : Entered). y.func)) e in cc)
      by (Some x) e w (Some f) q = refl

  -- which is that of its Enter, and one of the first
  pub function-is : (f : FuncNo) → function_at t call ≡ Some f → (f.0 < funcs) × ((entry_of call past).func ≡ f.0)
  function-is f q = by (entered call past) refl was
    where
      by : (o : Option Entered) → entered call past ≡ o → IsSomeAnd o (λ e. e.func < funcs) → (f.0 < funcs) × ((entry_of call past).func ≡ f.0)
      by None e w = absurd w
      by (Some x) e w =
          let z : Some f.0 ≡ Some x.func = sym (ap (option_map (λ (g : FuncNo). g.0)) q) ∙ same ∙ ap (option_map (λ (y : Entered). y.func)) e in
          let func : f.0 ≡ x.func = cc in
          (subst (λ n. n < funcs) (sym func) w, ap (λ (y : Entered). y.func) (entry-is call past x e) ∙ sym func)

-- ## rows

ne : (a b : ℕ) → b ≢ a → (a == b) ≡ false
ne a b apart = elim (eqb_tells a b) [ inl x ↦ absurd (apart (sym x.1)) | inr x ↦ x.0 ]

-- a row that is written, among the rows of all functions
row-set : (g h : ℕ → ProfileRow) (n i : ℕ) (w : ProfileRow) → (i < n → w ≡ h i) → ((j : ℕ) → j ≢ i → g j ≡ h j) → set (map g (range_with_len 0 n)) i w ≡ map h (range_with_len 0 n)
row-set g h n i w is others = fill_by_all h (set rows i w) n (g 0) (length-set rows i w ∙ long) at
  where
    rows : List ProfileRow
    rows = map g (range_with_len 0 n)

    long : length (map g (range_with_len 0 n)) ≡ n
    long = length-map-range_with_len g 0 n

    at : (k : ℕ) → k < n → get_or (set (map g (range_with_len 0 n)) i w) k (g 0) ≡ h k
    at k within = elim (eqb_tells k i) [
      | inl x ↦ (let same : k ≡ i = x.1 in
          let lt : i < n = omega (arith, same, within) in
          subst (λ j. get_or (set (map g (range_with_len 0 n)) i w) j (g 0) ≡ h j) (sym same) (get_or-set_same (map g (range_with_len 0 n)) i w (g 0) (omega (arith, long, lt)) ∙ is lt))
      | inr x ↦ (let apart : k ≢ i = λ e. false_true (sym x.0 ∙ rw e (==-refl i)) in
          get_or-set_other (map g (range_with_len 0 n)) i k w (g 0) apart ∙ get_or-map-range_with_len g 0 n k k (g 0) within (omega arith) ∙ others k apart)
    ]

pub row-at : (g : ℕ → ProfileRow) (n i : ℕ) → i < n → row_at (map g (range_with_len 0 n)) i ≡ g i
row-at g n i lt = get_or-map-range_with_len g 0 n i i (row_of 0 [] i) lt (omega arith)

-- ## callbacks that count

abbrev row : ℕ → ℕ → ℕ → ProfileRow
row f hits time = record { func = record { 0 = f }; hits = hits; time = time }

module _ (u : ℕ) (call : CallNo) (past : List Item) (v f : ℕ) (func : (entry_of call past).func ≡ f) where
  counted : (v == u) ≡ true → is_counted u f v call past ≡ true
  counted own = rw (own, func) (==-refl f)

  not-counted : (j : ℕ) → j ≢ f → is_counted u j v call past ≡ false
  not-counted j apart = rw (func, ne f j apart) (and-false (v == u))

-- one of another user counts for no function
uncounted : (u : ℕ) (call : CallNo) (past : List Item) (v j : ℕ) → (v == u) ≡ false → is_counted u j v call past ≡ false
uncounted u call past v j other = rw other refl

-- what counts is added, and what doesn't isn't
plus : (b : Bool) (x n : ℕ) → b ≡ true → cond b x 0 + n ≡ n + x
plus b x n e = rw e (omega arith)

same : (b : Bool) (x n : ℕ) → b ≡ false → n ≡ cond b x 0 + n
same b x n e = rw e (omega arith)

-- ## a table, over one more item

-- a row that is written, whether the function has one or not
module _ (u n : ℕ) (past : List Item) (t t' : Table) (is : IsTable u n past t) where
  writes : (h : ℕ → ProfileRow) (f : ℕ) (change : ProfileRow → ProfileRow) → change (row_of u past f) ≡ h f → ((j : ℕ) → j ≢ f → row_of u past j ≡ h j)
      → t'.rows.items ≡ set t.rows.items f (change (row_at t.rows.items f)) → t'.rows.items ≡ map h (range_with_len 0 n)
  writes h f change here others rows =
      rows ∙ ap (λ xs. set xs f (change (row_at xs f))) is
      ∙ row-set (row_of u past) h n f (change (row_at (map (row_of u past) (range_with_len 0 n)) f)) (λ lt. ap change (row-at (row_of u past) n f lt) ∙ here) others

  pub table-back : (call : CallNo) (v : UserNo) (f : ℕ) → (v.0 == u) ≡ true → (entry_of call past).func ≡ f
      → t'.rows.items ≡ set t.rows.items f (with_hit (row_at t.rows.items f)) → IsTable u n (Back call v ∷ past) t'
  table-back call v f own at rows = writes (row_of u (Back call v ∷ past)) f with_hit
      (ap (λ h. row f h (time_of u past f)) (sym (plus (is_counted u f v.0 call past) 1 (hits_of u past f) (counted u call past v.0 f at own))))
      (λ j apart. ap (λ h. row j h (time_of u past j)) (same (is_counted u j v.0 call past) 1 (hits_of u past j) (not-counted u call past v.0 f at j apart)))
      rows

  pub table-exit : (call : CallNo) (v : UserNo) (entry place f : ℕ) → length past ≡ place → (v.0 == u) ≡ true → (entry_of call past).func ≡ f
      → t'.rows.items ≡ set t.rows.items f (with_time (place - entry) (row_at t.rows.items f)) → IsTable u n (Exit call v entry ∷ past) t'
  table-exit call v entry place f long own at rows = writes (row_of u (Exit call v entry ∷ past)) f (with_time (place - entry))
      (ap (λ m. row f (hits_of u past f) m) (ap (λ p. time_of u past f + (p - entry)) (sym long) ∙ sym (plus (is_counted u f v.0 call past) (length past - entry) (time_of u past f) (counted u call past v.0 f at own))))
      (λ j apart. ap (λ m. row j (hits_of u past j) m) (same (is_counted u j v.0 call past) (length past - entry) (time_of u past j) (not-counted u call past v.0 f at j apart)))
      rows

map-rows : (u : ℕ) (past : List Item) (h : ℕ → ProfileRow) → ((j : ℕ) → row_of u past j ≡ h j) → (a m : ℕ) → map (row_of u past) (range_with_len a m) ≡ map h (range_with_len a m)
map-rows u past h e a zero = refl
map-rows u past h e a (suc m) = ap (λ r. r ∷ map (row_of u past) (range_with_len (a + 1) m)) (e a) ∙ ap (λ rs. h a ∷ rs) (map-rows u past h e (a + 1) m)

module _ (u n : ℕ) (past : List Item) (t : Table) (is : IsTable u n past t) where
  -- a callback of another user changes nothing
  pub table-back-other : (call : CallNo) (v : UserNo) → (v.0 == u) ≡ false → IsTable u n (Back call v ∷ past) t
  table-back-other call v other =
      is ∙ map-rows u past (row_of u (Back call v ∷ past)) (λ j. ap (λ h. row j h (time_of u past j)) (same (is_counted u j v.0 call past) 1 (hits_of u past j) (uncounted u call past v.0 j other))) 0 n

  pub table-exit-other : (call : CallNo) (v : UserNo) (entry : ℕ) → (v.0 == u) ≡ false → IsTable u n (Exit call v entry ∷ past) t
  table-exit-other call v entry other =
      is ∙ map-rows u past (row_of u (Exit call v entry ∷ past)) (λ j. ap (λ m. row j (hits_of u past j) m) (same (is_counted u j v.0 call past) (length past - entry) (time_of u past j) (uncounted u call past v.0 j other))) 0 n

  -- the row of a function, and that it has room for one more hit, and for the time of one more exit
  row-kept : (f : ℕ) → (f < n) ⊎ (n ≤ f) → (row_at t.rows.items f ≡ row_of u past f) ⊎ (row_at t.rows.items f ≡ row_of 0 [] f)
  row-kept f (inl lt) = inl (ap (λ rs. row_at rs f) is ∙ row-at (row_of u past) n f lt)
  row-kept f (inr le) = inr (get_or_past t.rows.items f (row_of 0 [] f) (let e = ap length is ∙ length-map-range_with_len (row_of u past) 0 n in omega (arith, e, le)))

  pub hit-room : (f : ℕ) → length past + 1 < 4294967296 → (row_at t.rows.items f).hits + 1 < 4294967296
  hit-room f small = elim (row-kept f (cases_lt f n)) [
    | inl e ↦ (let h = hits-bound u f past in let e' = ap (λ (r : ProfileRow). r.hits) e in omega (arith, h, e', small))
    | inr e ↦ (let e' = ap (λ (r : ProfileRow). r.hits) e in omega (arith, e'))
  ]

  pub time-room : (f x : ℕ) → x < 4294967296 → length past + 1 < 4294967296 → (row_at t.rows.items f).time + x < 18446744073709551616
  time-room f x lt small = elim (row-kept f (cases_lt f n)) [
    | inl e ↦ (let h = time-bound u f past (omega (arith, small)) in let e' = ap (λ (r : ProfileRow). r.time) e in omega (arith, h, e', small, lt))
    | inr e ↦ (let e' = ap (λ (r : ProfileRow). r.time) e in omega (arith, e', lt))
  ]

-- ## one more item

module _ (u n : ℕ) (past : List Item) (t t' : Tally) (is : IsTally u n past t) where
  pub tally-enter : (call : CallNo) (ctx : Ctx) (f : FuncNo) (caller : Option CallNo)
      → ((c : CallNo) → function_at t' c ≡ cond (same_call call c) (Some f) (function_at t c)) → t'.table ≡ t.table → IsTally u n (Enter call ctx f caller ∷ past) t'
  tally-enter call ctx f caller functions kept = record {
    functions = λ c. rw (functions c) (by c (same_call call c));
    table = ap (λ v. v.rows.items) kept ∙ is.table;
  }
    where
      by : (c : CallNo) (b : Bool) → option_map (λ g. g.0) (cond b (Some f) (function_at t c))
          ≡ option_map (λ e. e.func) (cond b (Some (record { ctx = ctx; func = f.0; caller = caller; from = done past })) (entered c past))
      by c true = refl
      by c false = is.functions c

  keeps-functions : t'.functions ≡ t.functions → (c : CallNo) → option_map (λ g. g.0) (function_at t' c) ≡ option_map (λ e. e.func) (entered c past)
  keeps-functions functions c = ap (λ m. option_map (λ (g : FuncNo). g.0) (get same_key m (c.task.0, c.n))) functions ∙ is.functions c

  pub tally-back : (call : CallNo) (v : UserNo) (f : FuncNo) → (v.0 == u) ≡ true → (f.0 < n) × ((entry_of call past).func ≡ f.0) → t'.functions ≡ t.functions
      → t'.table.rows.items ≡ set t.table.rows.items f.0 (with_hit (row_at t.table.rows.items f.0)) → IsTally u n (Back call v ∷ past) t'
  tally-back call v f own at functions rows = record {
    functions = keeps-functions functions;
    table = table-back u n past t.table t'.table is.table call v f.0 own at.1 rows;
  }

  pub tally-exit : (call : CallNo) (v : UserNo) (entry place : ℕ) (f : FuncNo) → length past ≡ place → (v.0 == u) ≡ true → (f.0 < n) × ((entry_of call past).func ≡ f.0) → t'.functions ≡ t.functions
      → t'.table.rows.items ≡ set t.table.rows.items f.0 (with_time (place - entry) (row_at t.table.rows.items f.0)) → IsTally u n (Exit call v entry ∷ past) t'
  tally-exit call v entry place f long own at functions rows = record {
    functions = keeps-functions functions;
    table = table-exit u n past t.table t'.table is.table call v entry place f.0 long own at.1 rows;
  }

-- whether an item is one of the three kinds that are noted
abbrev pub is_noted : Item → Bool
is_noted (Enter call ctx f caller) = true
is_noted (Back call v) = true
is_noted (Exit call v entry) = true
is_noted _ = false

module _ (u n : ℕ) (past : List Item) (t : Tally) (is : IsTally u n past t) where
  pub tally-back-other : (call : CallNo) (v : UserNo) → (v.0 == u) ≡ false → IsTally u n (Back call v ∷ past) t
  tally-back-other call v other = record { functions = is.functions; table = table-back-other u n past t.table is.table call v other }

  pub tally-exit-other : (call : CallNo) (v : UserNo) (entry : ℕ) → (v.0 == u) ≡ false → IsTally u n (Exit call v entry ∷ past) t
  tally-exit-other call v entry other = record { functions = is.functions; table = table-exit-other u n past t.table is.table call v entry other }

  -- an item of another kind changes nothing
  pub tally-rest : (item : Item) → is_noted item ≡ false → IsTally u n (item ∷ past) t
  tally-rest (Enter call ctx f caller) e = false_true (sym e)
  tally-rest (Back call v) e = false_true (sym e)
  tally-rest (Exit call v entry) e = false_true (sym e)
  tally-rest _ e = record { functions = is.functions; table = is.table }

-- an item that is none of the three isn't noted
pub not-noted : (item : Item) → ((call : CallNo) (ctx : Ctx) (f : FuncNo) (caller : Option CallNo) → item ≡ Enter call ctx f caller → ⊥)
    → ((call : CallNo) (v : UserNo) → item ≡ Back call v → ⊥) → ((call : CallNo) (v : UserNo) (entry : ℕ) → item ≡ Exit call v entry → ⊥) → is_noted item ≡ false
not-noted (Enter call ctx f caller) a b c = absurd (a call ctx f caller refl)
not-noted (Back call v) a b c = absurd (b call v refl)
not-noted (Exit call v entry) a b c = absurd (c call v entry refl)
not-noted _ a b c = refl

-- there are as many rows as functions
pub length-rows : (u n : ℕ) (past : List Item) (t : Tally) → IsTally u n past t → length t.table.rows.items ≡ n
length-rows u n past t is = ap length is.table ∙ length-map-range_with_len (row_of u past) 0 n
