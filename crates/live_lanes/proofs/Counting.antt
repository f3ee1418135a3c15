-- How many commands each lane has.
use Rattle.std.proofs.Common.{cond, ◌≡◌, ℕ, zero, suc, ◌+◌, ◌<◌, ◌≤◌, Bool, true, false, ◌==◌, List, [], ◌∷◌, ◌++◌, length, sum, take, refl, sym, ap, ◌∙◌, subst, arith}
use Rattle.std.specs.Prelude.{slice_index}
use Rattle.std.specs.List.{AllByRecursion as Each}
use Rattle.std.proofs.lemmas.Bool.Decides.{nat_tests}
use Rattle.std.proofs.lemmas.List.{take_all, take_more}
use Rattle.std.proofs.lemmas.List.Sums.{sum_by-cons}
use Rattle.live_lanes.specs.LaneItems.{AreCounts, count_in}
use Rattle.word_machine_laws.specs.Orders.{lane_of}
use Rattle.live_lanes.proofs.Orders.{differ}

-- so many lanes, from the b-th on, have so many commands
abbrev pub counts_from : ℕ → ℕ → List ℕ → List ℕ
counts_from b zero lanes = []
counts_from b (suc n) lanes = count_in b lanes ∷ counts_from (suc b) n lanes

pub counts_length : (b n : ℕ) (lanes : List ℕ) → length (counts_from b n lanes) ≡ n
counts_length b zero lanes = refl
counts_length b (suc n) lanes = ap suc (counts_length (suc b) n lanes)

pub counts_more : (b n : ℕ) (lanes : List ℕ) → counts_from b n lanes ++ count_in (b + n) lanes ∷ [] ≡ counts_from b (suc n) lanes
counts_more b zero lanes = ap (λ m. count_in m lanes ∷ []) (let e : b + zero ≡ b = omega arith in e)
counts_more b (suc n) lanes =
    ap (λ r. count_in b lanes ∷ r) (ap (λ m. counts_from (suc b) n lanes ++ count_in m lanes ∷ []) (let e : b + suc n ≡ suc b + n = omega arith in e) ∙ counts_more (suc b) n lanes)

pub counts_next : (n : ℕ) (lanes xs ys : List ℕ) (x : ℕ) → xs ≡ counts_from 0 n lanes → x ≡ count_in n lanes → ys ≡ xs ++ x ∷ [] → ys ≡ counts_from 0 (n + 1) lanes
counts_next n lanes xs ys x is at more =
    more ∙ ap (λ (l : List ℕ). l ++ x ∷ []) is ∙ ap (λ (m : ℕ). counts_from 0 n lanes ++ m ∷ []) (at ∙ ap (λ m. count_in m lanes) (let e : n ≡ 0 + n = omega arith in e)) ∙ counts_more 0 n lanes
    ∙ ap (λ m. counts_from 0 m lanes) (let e : suc n ≡ n + 1 = omega arith in e)

count_at : (b n l : ℕ) (lanes : List ℕ) → l < n → slice_index (counts_from b n lanes) l ≡ count_in (b + l) lanes
count_at b zero l lanes lt = absurd (omega arith)
count_at b (suc n) zero lanes lt = ap (λ m. count_in m lanes) (let e : b ≡ b + zero = omega arith in e)
count_at b (suc n) (suc l) lanes lt = count_at (suc b) n l lanes (omega arith) ∙ ap (λ m. count_in m lanes) (let e : suc b + l ≡ b + suc l = omega arith in e)

-- one more command adds to one lane at most
past_same : (b n x : ℕ) (lanes : List ℕ) → x < b → counts_from b n (x ∷ lanes) ≡ counts_from b n lanes
past_same b zero x lanes lt = refl
past_same b (suc n) x lanes lt =
    ap (λ t. cond t (suc (count_in b lanes)) (count_in b lanes) ∷ counts_from (suc b) n (x ∷ lanes)) (differ x b (λ e. omega (arith, e)))
    ∙ ap (λ r. count_in b lanes ∷ r) (past_same (suc b) n x lanes (omega arith))

one_more_step : (b n x : ℕ) (lanes : List ℕ) → sum (counts_from (suc b) n (x ∷ lanes)) ≤ sum (counts_from (suc b) n lanes) + 1 → (t : Bool) → (x == b) ≡ t
    → sum (cond t (suc (count_in b lanes)) (count_in b lanes) ∷ counts_from (suc b) n (x ∷ lanes)) ≤ sum (count_in b lanes ∷ counts_from (suc b) n lanes) + 1
one_more_step b n x lanes rec true is =
    let e : x ≡ b = grind (arith, nat_tests, is) in
    let s = ap (λ (l : List ℕ). sum l) (past_same (suc b) n x lanes (omega (arith, e))) in
    omega (arith, s, sum_by-cons (λ (m : ℕ). m) (suc (count_in b lanes)) (counts_from (suc b) n (x ∷ lanes)), sum_by-cons (λ (m : ℕ). m) (count_in b lanes) (counts_from (suc b) n lanes))
one_more_step b n x lanes rec false is =
    omega (arith, rec, sum_by-cons (λ (m : ℕ). m) (count_in b lanes) (counts_from (suc b) n (x ∷ lanes)), sum_by-cons (λ (m : ℕ). m) (count_in b lanes) (counts_from (suc b) n lanes))

one_more : (b n x : ℕ) (lanes : List ℕ) → sum (counts_from b n (x ∷ lanes)) ≤ sum (counts_from b n lanes) + 1
one_more b zero x lanes = omega arith
one_more b (suc n) x lanes = one_more_step b n x lanes (one_more (suc b) n x lanes) (x == b) refl

none : (b n : ℕ) → sum (counts_from b n []) ≡ 0
none b zero = refl
none b (suc n) = let e = none (suc b) n in omega (arith, e, sum_by-cons (λ (m : ℕ). m) 0 (counts_from (suc b) n []))

pub counts_sum : (b n : ℕ) (lanes : List ℕ) → sum (counts_from b n lanes) ≤ length lanes
counts_sum b n [] = let e = none b n in omega (arith, e)
counts_sum b n (x ∷ lanes) = let e = counts_sum b n lanes in let f = one_more b n x lanes in omega (arith, e, f)

pub each_below : (n : ℕ) (lanes : List ℕ) (k : ℕ) → Each (λ l. l < n) lanes → k < length lanes → lane_of lanes k < n
each_below n [] k all lt = absurd (omega arith)
each_below n (l ∷ lanes) zero all lt = all.0
each_below n (l ∷ lanes) (suc k) all lt = each_below n lanes k all.1 (omega arith)

pub are_counts : (n : ℕ) (lanes counts : List ℕ) → counts ≡ counts_from 0 n lanes → Each (λ l. l < n) lanes → AreCounts lanes counts × (length counts ≡ n) × (sum counts ≤ length lanes)
are_counts n lanes counts is all =
    let len = ap length is ∙ counts_length 0 n lanes in (
      record {
        each = λ l lt. ap (λ (c : List ℕ). slice_index c l) is ∙ count_at 0 n l lanes (omega (arith, lt, len)) ∙ ap (λ m. count_in m lanes) (let e : 0 + l ≡ l = omega arith in e);
        within = λ k lt. let a = each_below n lanes k all lt in omega (arith, a, len);
      },
      len,
      subst (λ c. sum c ≤ length lanes) (sym is) (counts_sum 0 n lanes),
    )

-- ## the highest lane

each_grows : (m n : ℕ) (lanes : List ℕ) → m ≤ n → Each (λ l. l < m) lanes → Each (λ l. l < n) lanes
each_grows m n [] le all = tt
each_grows m n (l ∷ lanes) le all = let a = all.0 in (omega (arith, a, le), each_grows m n lanes le all.1)

each_more : (n : ℕ) (lanes : List ℕ) (l : ℕ) → Each (λ l. l < n) lanes → l < n → Each (λ l. l < n) (lanes ++ l ∷ [])
each_more n [] l all lt = (lt, tt)
each_more n (x ∷ lanes) l all lt = (all.0, each_more n lanes l all.1 lt)

-- one more lane, and a number above it
pub below_more : (m n : ℕ) (lanes : List ℕ) (k : ℕ) → k < length lanes → Each (λ l. l < m) (take k lanes) → m ≤ n → lane_of lanes k < n → Each (λ l. l < n) (take (k + 1) lanes)
below_more m n lanes k lt all le in' = subst (Each (λ l. l < n)) (sym (take_more lanes k 0 lt)) (each_more n (take k lanes) (lane_of lanes k) (each_grows m n (take k lanes) le all) in')

pub below_all : (n k : ℕ) (lanes : List ℕ) → length lanes ≤ k → Each (λ l. l < n) (take k lanes) → Each (λ l. l < n) lanes
below_all n k lanes le all = subst (Each (λ l. l < n)) (take_all k lanes le) all
