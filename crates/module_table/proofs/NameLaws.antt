-- The modules of a table, a function at a time.
use Rattle.std.proofs.Common.{cond, ◌≡◌, ℕ, zero, suc, ◌+◌, ◌≤◌, Bool, true, false, not, List, [], ◌∷◌, ◌++◌, length, map, get_or, position, Option, Some, None, refl, sym, ap, ap₂, ◌∙◌, arith, string_bytes, nat_lt, ◌||◌, take, slice_get, length-take}
use Rattle.std.specs.List.{filter, list_any, position_or_len}
use Rattle.std.specs.Str.{bytes_eq}
use Rattle.std.specs.declared.string.String.{String}
use Rattle.std.specs.declared.alloc.Global.{Global}
use Rattle.std.specs.String.{string_eq}
use Rattle.std.proofs.lemmas.List.{length-map, map_push}
use Rattle.std.proofs.lemmas.Slice.Eq.{bytes_eq-Decides}
use Rattle.ft_base.specs.Job.{Func}
use Rattle.module_table.specs.Made.{noted}
use Rattle.func_table.specs.Modules.{modules_in, with_module, number_among}
use Rattle.func_table.proofs.RowLemmas.{same-name}

-- ## a new name goes last

-- the module of a function is noted, if it lies in one
abbrev pub noted_if : List (List ℕ) → Option (List ℕ) → List (List ℕ)
noted_if names None = names
noted_if names (Some name) = noted names name

bytes-same : (a : List ℕ) → bytes_eq a a ≡ true
bytes-same a = (bytes_eq-Decides a a).1 refl

-- symmetric
bytes-turned : (a b : List ℕ) → bytes_eq a b ≡ bytes_eq b a
bytes-turned a b = by (bytes_eq a b) (bytes_eq b a) refl refl
  where
    by : (x y : Bool) → bytes_eq a b ≡ x → bytes_eq b a ≡ y → x ≡ y
    by true true p q = refl
    by false false p q = refl
    by true false p q = sym (ap (λ c. bytes_eq b c) (same-name a b p) ∙ bytes-same b) ∙ q
    by false true p q = sym p ∙ ap (λ c. bytes_eq a c) (same-name b a q) ∙ bytes-same a

filter-push : (p : List ℕ → Bool) (xs : List (List ℕ)) (x : List ℕ) → filter p (xs ++ x ∷ []) ≡ cond (p x) (filter p xs ++ x ∷ []) (filter p xs)
filter-push p [] x = refl
filter-push p (y ∷ xs) x = by (p y) (p x) refl (filter-push p xs x)
  where
    by : (a b : Bool) → p x ≡ b → filter p (xs ++ x ∷ []) ≡ cond (p x) (filter p xs ++ x ∷ []) (filter p xs)
        → cond a (y ∷ filter p (xs ++ x ∷ [])) (filter p (xs ++ x ∷ [])) ≡ cond b (cond a (y ∷ filter p xs) (filter p xs) ++ x ∷ []) (cond a (y ∷ filter p xs) (filter p xs))
    by true true e deeper = ap (λ (zs : List (List ℕ)). y ∷ zs) (deeper ∙ rw e refl)
    by true false e deeper = ap (λ (zs : List (List ℕ)). y ∷ zs) (deeper ∙ rw e refl)
    by false true e deeper = deeper ∙ rw e refl
    by false false e deeper = deeper ∙ rw e refl

-- a name other than that which is taken out is still there or not
any-filter : (name other : List ℕ) (xs : List (List ℕ)) → bytes_eq name other ≡ false → list_any (bytes_eq other) (filter (λ x. not (bytes_eq name x)) xs) ≡ list_any (bytes_eq other) xs
any-filter name other [] e = refl
any-filter name other (x ∷ xs) e = by (bytes_eq name x) refl (any-filter name other xs e)
  where
    differs : bytes_eq name x ≡ true → bytes_eq other x ≡ false
    differs h = ap (λ y. bytes_eq other y) (sym (same-name name x h)) ∙ bytes-turned other name ∙ e

    by : (a : Bool) → bytes_eq name x ≡ a → list_any (bytes_eq other) (filter (λ x. not (bytes_eq name x)) xs) ≡ list_any (bytes_eq other) xs
        → list_any (bytes_eq other) (cond (not a) (x ∷ filter (λ x. not (bytes_eq name x)) xs) (filter (λ x. not (bytes_eq name x)) xs)) ≡ list_any (bytes_eq other) (x ∷ xs)
    by false h deeper = ap (λ b. bytes_eq other x || b) deeper
    by true h deeper = deeper ∙ rw (differs h) refl

push-with : (o p : Option (List ℕ)) (names : List (List ℕ)) → with_module o (noted_if names p) ≡ noted_if (with_module o names) p
push-with None p names = refl
push-with (Some n) None names = refl
push-with (Some n) (Some m) names = by (bytes_eq n m) refl (list_any (bytes_eq m) names) refl
  where
    kept : List (List ℕ)
    kept = filter (λ x. not (bytes_eq n x)) names

    by : (a : Bool) → bytes_eq n m ≡ a → (b : Bool) → list_any (bytes_eq m) names ≡ b
        → n ∷ filter (λ x. not (bytes_eq n x)) (cond b names (names ++ m ∷ [])) ≡ cond (list_any (bytes_eq m) (n ∷ kept)) (n ∷ kept) (n ∷ kept ++ m ∷ [])
    by true e true h = rw (bytes-turned m n ∙ e) refl
    by true e false h = rw (bytes-turned m n ∙ e) (ap (λ (zs : List (List ℕ)). n ∷ zs) (filter-push (λ x. not (bytes_eq n x)) names m ∙ rw e refl))
    by false e true h = rw (bytes-turned m n ∙ e, any-filter n m names e, h) refl
    by false e false h = rw (bytes-turned m n ∙ e, any-filter n m names e, h) (ap (λ (zs : List (List ℕ)). n ∷ zs) (filter-push (λ x. not (bytes_eq n x)) names m ∙ rw e refl))

first-push : (o : Option (List ℕ)) → with_module o [] ≡ noted_if [] o
first-push None = refl
first-push (Some n) = refl

-- one more function: its module is noted
pub modules-push : (fs : List Func) (g : Func) → modules_in (fs ++ g ∷ []) ≡ noted_if (modules_in fs) g.owner
modules-push [] g = first-push g.owner
modules-push (f ∷ fs) g = ap (with_module f.owner) (modules-push fs g) ∙ push-with f.owner g.owner (modules_in fs)

-- the functions so far and the next
take-next : (fs : List Func) (k : ℕ) (o : Option (List ℕ)) → slice_get (map (λ f. f.owner) fs) k ≡ Some o → modules_in (take (suc k) fs) ≡ noted_if (modules_in (take k fs)) o
take-next fs k o e = let p = split fs k o e in ap modules_in p.1.0 ∙ modules-push (take k fs) p.0 ∙ ap (noted_if (modules_in (take k fs))) p.1.1
  where
    split : (fs : List Func) (k : ℕ) (o : Option (List ℕ)) → slice_get (map (λ f. f.owner) fs) k ≡ Some o → (g : Func) × ((take (suc k) fs ≡ take k fs ++ g ∷ []) × (g.owner ≡ o))
    split [] k o e = absurd cc
    split (f ∷ fs) zero o e = let same : f.owner ≡ o = cc in (f, (refl, same))
    split (f ∷ fs) (suc k) o e = let p = split fs k o e in (p.0, (ap (λ (zs : List Func). f ∷ zs) p.1.0, p.1.1))

pub modules-next : (fs : List Func) (k : ℕ) (o : Option (List ℕ)) → slice_get (map (λ f. f.owner) fs) k ≡ Some o → modules_in (take (k + 1) fs) ≡ noted_if (modules_in (take k fs)) o
modules-next fs k o e = ap (λ i. modules_in (take i fs)) (let s : k + 1 ≡ suc k = omega arith in s) ∙ take-next fs k o e

-- ## no more modules than functions

filter-few : (p : List ℕ → Bool) (xs : List (List ℕ)) → length (filter p xs) ≤ length xs
filter-few p [] = omega arith
filter-few p (x ∷ xs) = by (p x) (filter-few p xs)
  where
    by : (b : Bool) → length (filter p xs) ≤ length xs → length (cond b (x ∷ filter p xs) (filter p xs)) ≤ suc (length xs)
    by true h = omega arith
    by false h = omega arith

pub modules-few : (fs : List Func) → length (modules_in fs) ≤ length fs
modules-few [] = omega arith
modules-few (f ∷ fs) = by f.owner (modules-few fs)
  where
    by : (o : Option (List ℕ)) → length (modules_in fs) ≤ length fs → length (with_module o (modules_in fs)) ≤ suc (length fs)
    by None h = omega arith
    by (Some n) h = let g = filter-few (λ x. not (bytes_eq n x)) (modules_in fs) in omega arith

-- ## names as they are kept

pub any-names : (n : List ℕ) (ks : List (String Global)) → list_any (λ k. bytes_eq n (string_bytes k)) ks ≡ list_any (bytes_eq n) (map string_bytes ks)
any-names n [] = refl
any-names n (k ∷ ks) = ap (λ b. bytes_eq n (string_bytes k) || b) (any-names n ks)

first-names : (n : List ℕ) (ks : List (String Global)) → position_or_len (λ k. bytes_eq n (string_bytes k)) ks ≡ position_or_len (bytes_eq n) (map string_bytes ks)
first-names n [] = refl
first-names n (k ∷ ks) = ap (λ i. cond (not (bytes_eq n (string_bytes k))) (1 + i) 0) (first-names n ks)

pub position-names : (n : List ℕ) (ks : List (String Global)) → position (λ k. bytes_eq n (string_bytes k)) ks ≡ position (bytes_eq n) (map string_bytes ks)
position-names n ks = ap₂ (λ i l. cond (nat_lt i l) (Some i) None) (first-names n ks) (sym (length-map ks string_bytes))

-- the functions so far: no more modules than functions
pub modules-so-far : (ks : List (String Global)) (fs : List Func) (k most : ℕ) → map string_bytes ks ≡ modules_in (take k fs) → length fs ≤ most → length ks ≤ most
modules-so-far ks fs k most e le =
    let a = length-map ks string_bytes in
    let b : length (map string_bytes ks) ≡ length (modules_in (take k fs)) = ap length e in
    let c = modules-few (take k fs) in
    let d = length-take k fs in
    omega (arith, a, b, c, d, le)

-- a name that was looked for among those that are kept
pub noted-there : (n : List ℕ) (ks : List (String Global)) → list_any (λ k. bytes_eq n (string_bytes k)) ks ≡ true → map string_bytes ks ≡ noted (map string_bytes ks) n
noted-there n ks e = rw (sym (any-names n ks) ∙ e) refl

pub noted-new : (n : List ℕ) (ks ks' : List (String Global)) (key : String Global) → list_any (λ k. bytes_eq n (string_bytes k)) ks ≡ false → string_bytes key ≡ n
    → ks' ≡ cond (list_any (string_eq key) ks) ks (ks ++ key ∷ []) → map string_bytes ks' ≡ noted (map string_bytes ks) n
noted-new n ks ks' key e same is = ap (map string_bytes) (is ∙ ap (λ b. cond b ks (ks ++ key ∷ [])) absent) ∙ map_push string_bytes ks key
    ∙ ap (λ x. map string_bytes ks ++ x ∷ []) same ∙ sym (ap (λ b. cond b (map string_bytes ks) (map string_bytes ks ++ n ∷ [])) (sym (any-names n ks) ∙ e))
  where
    absent : list_any (string_eq key) ks ≡ false
    absent = ap (λ x. list_any (λ k. bytes_eq x (string_bytes k)) ks) same ∙ e

-- the owner of a function by its place
pub owner-at : (names : List (List ℕ)) (fs : List Func) (k : ℕ) (o : Option (List ℕ)) → slice_get (map (λ f. f.owner) fs) k ≡ Some o
    → get_or (map (λ (f : Func). number_among names f.owner) fs) k None ≡ number_among names o
owner-at names [] k o e = absurd cc
owner-at names (f ∷ fs) zero o e = let same : f.owner ≡ o = cc in ap (number_among names) same
owner-at names (f ∷ fs) (suc k) o e = owner-at names fs k o e
