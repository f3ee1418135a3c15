-- What a table keeps, against its functions; and its names, which differ.
use Rattle.std.proofs.Common.{◌≡◌, ◌≢◌, ℕ, suc, ◌+◌, ◌<◌, ◌≤◌, ◌++◌, arith, inl, inr, subst, slice_get, option_map, true, false, true≢false, AllPairs, Contains, get_or, cond, not, List, [], ◌∷◌, map, length, position, Option, Some, None, is_some, refl, ap, ap₂, ◌∙◌, sym, string_bytes, nat_lt}
use Rattle.std.specs.List.{position_or_len}
use Rattle.std.specs.Str.{bytes_eq}
use Rattle.std.specs.Map.{keys_of}
use Rattle.std.specs.String.{string_eq}
use Rattle.std.specs.declared.string.String.{String}
use Rattle.std.specs.declared.alloc.Global.{Global}
use Rattle.std.proofs.lemmas.List.{map_push, length_push}
use Rattle.std.proofs.lemmas.List.Elements.{All-push}
use Rattle.std.proofs.lemmas.List.Sums.{fails_before_first}
use Rattle.std.proofs.lemmas.List.Quantifiers.{all_pairs_push, position-Some}
use Rattle.std.proofs.lemmas.Slice.Eq.{bytes_eq-Decides}
use Rattle.std.proofs.lemmas.Bool.{both_ways, cases_lt, lt-ltb}
use Rattle.std.proofs.lemmas.Option.{none-some, slice_get-map, slice_get-get_or, slice_get_within, get_or_from_slice_get}
use Rattle.indexmap.specs.IndexMap.{insert_entry}
use Rattle.indexmap.proofs.MapLemmas.{insert_entry-absent, Missing-position}
use Rattle.ft_base.specs.Job.{Func}
use Rattle.func_table.specs.Rows.{Table, IsNamed, IsTable, names_of, number_of}
use Rattle.func_table.specs.TableFields.{func_of}

abbrev Entries : Type 0
Entries = List (String Global × Option (String Global))

-- ---- a search among names

-- equal names pass the test
same-bytes_eq : (a b : List ℕ) → a ≡ b → bytes_eq a b ≡ true
same-bytes_eq a b e = (bytes_eq-Decides a b).1 e

-- a name that passes the test is the name
pub same-name : (a b : List ℕ) → bytes_eq a b ≡ true → a ≡ b
same-name a b e = (bytes_eq-Decides a b).0 e

module _ (ns : List (List ℕ)) (n : List ℕ) where
  -- a search that finds nothing went to the end
  past : position (bytes_eq n) ns ≡ None → length ns ≤ position_or_len (bytes_eq n) ns
  past none = elim (cases_lt (position_or_len (bytes_eq n) ns) (length ns)) [
    | inl h ↦ absurd (none-some _ (sym none ∙ ap (λ b. cond b (Some (position_or_len (bytes_eq n) ns)) None) (lt-ltb _ _ h)))
    | inr h ↦ h
  ]

  -- a name that a search doesn't find differs from each
  fresh : position (bytes_eq n) ns ≡ None → (k : ℕ) (d : List ℕ) → k < length ns → get_or ns k d ≢ n
  fresh none k d within same =
      let p : length ns ≤ position_or_len (bytes_eq n) ns = past none in
      let q = fails_before_first (bytes_eq n) ns k d (omega arith) in
      both_ways _ q (same-bytes_eq n (get_or ns k d) (sym same))

  -- a name that a search doesn't find isn't there
  pub absent-position : position (bytes_eq n) ns ≡ None → Contains ns n → ⊥
  absent-position none (k, within, same) = fresh none k n within same

  -- what a search finds is the name
  pub found-position : (i : ℕ) → position (bytes_eq n) ns ≡ Some i → slice_get ns i ≡ Some n
  found-position i e =
      let p = position-Some (bytes_eq n) ns i n e in
      slice_get-get_or ns i n p.0 ∙ ap Some (sym (same-name n (get_or ns i n) p.1))

  -- so the name is there
  pub contained-position : (i : ℕ) → position (bytes_eq n) ns ≡ Some i → Contains ns n
  contained-position i e =
      let p = position-Some (bytes_eq n) ns i n e in
      (i, p.0, sym (same-name n (get_or ns i n) p.1))

-- where names differ, a search finds each at its place
module _ (ns : List (List ℕ)) (distinct : AllPairs (λ a b. a ≢ b) ns) (n : List ℕ) (k : ℕ) (here : slice_get ns k ≡ Some n) where
  within : k < length ns
  within = slice_get_within ns k n here

  one_place : (i : ℕ) → i < length ns → get_or ns i n ≡ n → i ≡ k
  one_place i inside e = elim (cases_lt i k) [
    | inl h ↦ absurd (distinct i k n h within (e ∙ sym (get_or_from_slice_get ns k n n here)))
    | inr h ↦ elim (cases_lt k i) [
      | inl g ↦ absurd (distinct k i n g inside (get_or_from_slice_get ns k n n here ∙ sym e))
      | inr g ↦ omega arith
    ]
  ]

  at_answer : (o : Option ℕ) → position (bytes_eq n) ns ≡ o → o ≡ Some k
  at_answer None e = absurd (absent-position ns n e (k, within, get_or_from_slice_get ns k n n here))
  at_answer (Some i) e =
      let p = position-Some (bytes_eq n) ns i n e in
      ap Some (one_place i p.0 (sym (same-name n (get_or ns i n) p.1)))

  pub position-distinct : position (bytes_eq n) ns ≡ Some k
  position-distinct = at_answer (position (bytes_eq n) ns) refl

-- ---- names among the kept keys

first-names : (n : List ℕ) (es : Entries) → position_or_len (bytes_eq n) (map (λ f. f.name) (map func_of es)) ≡ position_or_len (λ k. bytes_eq n (string_bytes k)) (keys_of es)
first-names n [] = refl
first-names n (e ∷ es) = ap (λ i. cond (not (bytes_eq n (string_bytes e.0))) (1 + i) 0) (first-names n es)

length-names : (es : Entries) → length (map (λ f. f.name) (map func_of es)) ≡ length (keys_of es)
length-names [] = refl
length-names (e ∷ es) = ap suc (length-names es)

-- the index of a name among the keys is its place among the functions
pub position-names : (n : List ℕ) (es : Entries) → position (λ k. bytes_eq n (string_bytes k)) (keys_of es) ≡ position (bytes_eq n) (map (λ f. f.name) (map func_of es))
position-names n es = sym (ap₂ (λ i l. cond (nat_lt i l) (Some i) None) (first-names n es) (length-names es))

pub names-at : (es : Entries) (k : ℕ) (n : String Global) (v : Option (String Global)) → slice_get es k ≡ Some (n, v) → slice_get (map (λ f. f.name) (map func_of es)) k ≡ Some (string_bytes n)
names-at es k n v e = slice_get-map (λ (f : Func). f.name) (map func_of es) k ∙ ap (option_map (λ (f : Func). f.name)) (slice_get-map func_of es k ∙ ap (option_map func_of) e)

pub modules-at : (es : Entries) (k : ℕ) (n : String Global) (v : Option (String Global)) → slice_get es k ≡ Some (n, v) → slice_get (map (λ f. f.owner) (map func_of es)) k ≡ Some (option_map string_bytes v)
modules-at es k n v e = slice_get-map (λ (f : Func). f.owner) (map func_of es) k ∙ ap (option_map (λ (f : Func). f.owner)) (slice_get-map func_of es k ∙ ap (option_map func_of) e)

-- ---- a new function

module _ (es : Entries) (k : String Global) (v : Option (String Global)) (new : position (bytes_eq (string_bytes k)) (map (λ f. f.name) (map func_of es)) ≡ None) where
  absent : position (string_eq k) (keys_of es) ≡ None
  absent = position-names (string_bytes k) es ∙ new

  pub funcs-insert_entry : map func_of (insert_entry string_eq es k v) ≡ map func_of es ++ func_of (k, v) ∷ []
  funcs-insert_entry = ap (map func_of) (insert_entry-absent string_eq k v es (Missing-position (string_eq k) es absent).absent) ∙ map_push func_of es (k, v)

-- the table with one more function
module _ (t : Table) (f : Func) (named : IsNamed f) (new : number_of t f.name ≡ None) (room : length t.functions < t.limit) (is : IsTable t) where
  pub IsTable-added : IsTable (record { functions = t.functions ++ f ∷ []; limit = t.limit })
  IsTable-added = record {
    named = All-push IsNamed t.functions f is.named named;
    distinct = subst (AllPairs (λ a b. a ≢ b)) (sym (map_push (λ (g : Func). g.name) t.functions f)) (all_pairs_push (λ a b. a ≢ b) (names_of t) f.name is.distinct (fresh (names_of t) f.name new));
    within = omega (arith, length_push t.functions f);
    small = is.small;
  }

pub none_from_find : {X : Type 0} (f : X → ℕ) (o : Option X) (p : Option ℕ) → option_map f o ≡ p → is_some o ≡ false → p ≡ None
none_from_find f None p e h = sym e
none_from_find f (Some x) p e h = absurd (true≢false h)
