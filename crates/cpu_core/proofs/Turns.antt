-- Which task of a CPU has the next turn: of code by their places, of the machine by their numbers.
use Rattle.std.proofs.Common.{cond, ◌≡◌, ℕ, zero, suc, ◌+◌, ◌<◌, Bool, true, false, nat_lt, nat_le, List, [], ◌∷◌, ◌++◌, drop, length, filter, find, slice_get, Option, Some, None, IsSome, IsSomeAnd, option_map, unwrap_or, refl, sym, ap, ◌∙◌, arith}
use Rattle.std.specs.List.{list_any, AllByRecursion as Each}
use Rattle.std.specs.Option.{option_or}
use Rattle.std.proofs.lemmas.Bool.{le-leb, le-ltb, lt-leb, lt-ltb, ltb-false, ltb-true}
use Rattle.std.proofs.lemmas.Option.{none-some, same_Some, slice_get_past}
use Rattle.ft_base.proofs.Small.{Each-weaker, false_true}
use Rattle.word_machine.specs.Cpu.{first_of}
use Rattle.task_core.specs.declared.task.Task.{Task}
use Rattle.cpu_core.specs.Cpus.{number_or, numbers}
use Rattle.task_core.specs.Starts.{is_left}
use Rattle.cpu_core.specs.Turns.{any_left, first_left, left_from, next_by, next_left}
use Rattle.cpu_core.proofs.Numbers.{Agrees, Rises}
use Rattle.cpu_core.proofs.Places.{first-case}

-- ## the next task by its place

pub drop-get : {X : Type 0} (xs : List X) (from k : ℕ) → slice_get xs (from + k) ≡ slice_get (drop from xs) k
drop-get xs zero k = let e : 0 + k ≡ k = omega arith in rw e refl
drop-get [] (suc from) k = refl
drop-get (x ∷ xs) (suc from) k = let e : suc from + k ≡ suc (from + k) = omega arith in rw e (drop-get xs from k)

-- the task that has the next turn after a place
abbrev pub turn : List Task → ℕ → Option Task
turn ts i = option_or (find is_left (drop (suc i) ts)) (option_or (find is_left ts) (slice_get ts i))

pub next-turn : (ts : List Task) (i : ℕ) → slice_get ts (next_left ts i) ≡ turn ts i
next-turn ts i = first-case is_left (drop (suc i) ts)
    (λ o f. slice_get ts (next_by (option_map (λ k. suc i + k) o) (left_from ts 0) i) ≡ option_or f (option_or (find is_left ts) (slice_get ts i)))
    (λ none. first-case is_left ts (λ o f. slice_get ts (unwrap_or (option_map (λ k. 0 + k) o) i) ≡ option_or f (slice_get ts i)) (λ no. refl)
    (λ k x at is. drop-get ts 0 k ∙ at))
    (λ k x at is. drop-get ts (suc i) k ∙ at)

pub first-turn : (ts : List Task) → slice_get ts (first_left ts) ≡ find is_left ts
first-turn ts = first-case is_left ts (λ o f. slice_get ts (unwrap_or (option_map (λ k. 0 + k) o) (length ts)) ≡ f)
    (λ none. slice_get_past ts (length ts) (omega arith)) (λ k x at is. drop-get ts 0 k ∙ at)

pub turn-there : (ts : List Task) (i : ℕ) (t : Task) → slice_get ts i ≡ Some t → IsSome (turn ts i)
turn-there ts i t e = rw e (by (find is_left (drop (suc i) ts)) (find is_left ts))
  where
    by : (a b : Option Task) → IsSome (option_or a (option_or b (Some t)))
    by (Some x) b = refl
    by None (Some x) = refl
    by None None = refl

pub turn-left : (ts : List Task) (i : ℕ) → any_left ts ≡ true → IsSomeAnd (turn ts i) (λ u. is_left u ≡ true)
turn-left ts i any = first-case is_left (drop (suc i) ts)
    (λ o f. IsSomeAnd (option_or f (option_or (find is_left ts) (slice_get ts i))) (λ u. is_left u ≡ true))
    (λ none. first-case is_left ts (λ o f. IsSomeAnd (option_or f (slice_get ts i)) (λ u. is_left u ≡ true)) (λ no. false_true (sym no ∙ any)) (λ k x at is. is))
    (λ k x at is. is)

-- ## the next task by its number

filter-all : (p : ℕ → Bool) (ns : List ℕ) → Each (λ v. p v ≡ true) ns → filter p ns ≡ ns
filter-all p [] h = refl
filter-all p (v ∷ ns) h = let e : p v ≡ true = h.0 in rw (e, filter-all p ns h.1) refl

-- those above the number at a place are those after the place
pub after-place : (ns : List ℕ) → Rises ns → (i m : ℕ) → slice_get ns i ≡ Some m → filter (λ v. nat_lt m v) ns ≡ drop (suc i) ns
after-place [] r i m e = absurd (none-some m e)
after-place (n ∷ ns) r zero m e =
    let s : n ≡ m = same_Some n m e in
    let not_below : nat_lt m n ≡ false = le-ltb m n (omega arith) in
    rw not_below (filter-all (λ v. nat_lt m v) ns (Each-weaker (λ v. n < v) (λ v. nat_lt m v ≡ true) ns (λ v lt. lt-ltb m v (omega arith)) r.0))
after-place (n ∷ ns) r (suc i) m e =
    let not_below : nat_lt m n ≡ false = le-ltb m n (omega (arith, above ns i r.0 e)) in
    rw not_below (after-place ns r.1 i m e)
  where
    above : (ns : List ℕ) (i : ℕ) → Each (λ v. n < v) ns → slice_get ns i ≡ Some m → n < m
    above [] i h e = absurd (none-some m e)
    above (v ∷ ns) zero h e = let s : v ≡ m = same_Some v m e in let lt = h.0 in omega (arith, lt, s)
    above (v ∷ ns) (suc i) h e = above ns i h.1 e

module _ (p : ℕ → Bool) where
  pub first-append : (o : ℕ) (ms ns : List ℕ) → first_of p o (ms ++ ns) ≡ first_of p (first_of p o ns) ms
  first-append o [] ns = refl
  first-append o (m ∷ ms) ns = ap (λ r. cond (p m) m r) (first-append o ms ns)

  -- if none above a number passes, the first up to it is the first of all
  pub first-below : (m o : ℕ) (ns : List ℕ) → list_any p (filter (λ v. nat_lt m v) ns) ≡ false → first_of p o (filter (λ v. nat_le v m) ns) ≡ first_of p o ns
  first-below m o [] none = refl
  first-below m o (v ∷ ns) none = by (p v) (nat_lt m v) refl refl (λ none. first-below m o ns none) none
    where
      by : (b above : Bool) → p v ≡ b → nat_lt m v ≡ above
          → (list_any p (filter (λ w. nat_lt m w) ns) ≡ false → first_of p o (filter (λ w. nat_le w m) ns) ≡ first_of p o ns)
          → list_any p (cond above (v ∷ filter (λ w. nat_lt m w) ns) (filter (λ w. nat_lt m w) ns)) ≡ false
          → first_of p o (cond (nat_le v m) (v ∷ filter (λ w. nat_le w m) ns) (filter (λ w. nat_le w m) ns)) ≡ cond (p v) v (first_of p o ns)
      by true true is lt more none = false_true (sym (rw is at none))
      by false true is lt more none = let not_below : nat_le v m ≡ false = lt-leb v m (ltb-true m v lt) in rw (not_below, is) (more (rw is at none))
      by b false is le more none = let below : nat_le v m ≡ true = le-leb v m (ltb-false m v le) in rw below (ap (λ r. cond (p v) v r) (more none))

  pub first-number : (o : ℕ) (ts : List Task) → Agrees p is_left ts → first_of p o (numbers ts) ≡ number_or o (find is_left ts)
  first-number o [] same = refl
  first-number o (t ∷ ts) same =
      rw (same 0 t refl)
      (elim (is_left t) as (λ b. cond b t.number.0 (first_of p o (numbers ts)) ≡ number_or o (cond b (Some t) (find is_left ts)))
      [ true ↦ refl | false ↦ first-number o ts (λ i u e. same (suc i) u e) ])
