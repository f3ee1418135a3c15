-- A merge of lanes has as many entries as the lanes have items.
use Rattle.std.proofs.Common.{cond, ◌≡◌, ℕ, zero, suc, ◌+◌, ◌<◌, ◌≤◌, true, false, ◌==◌, List, [], ◌∷◌, length, sum, slice_get, Some, refl, sym, ap, ◌∙◌, arith, inl, inr}
use Rattle.std.specs.Prelude.{slice_index}
use Rattle.std.proofs.lemmas.Bool.Decides.{nat_tests}
use Rattle.std.proofs.lemmas.List.FromFn.{length-range_with_len}
use Rattle.std.proofs.lemmas.List.Sums.{sum_by-cons}
use Rattle.desk_lock.specs.declared.served.Served1.{Served1}
use Rattle.desk_lock.specs.Journals.{IsMerge, done_of, items_of}
use Rattle.desk_lock.proofs.Keeping.{same_or_not}

-- how many entries of a journal are of the n lanes from the b-th on
abbrev dones : ℕ → ℕ → List Served1 → ℕ
dones b zero j = 0
dones b (suc n) j = done_of b j + dones (suc b) n j

-- ## one entry more, in front

done_in : (l : ℕ) (x : Served1) (j : List Served1) → (x.lane == l) ≡ true → done_of l (x ∷ j) ≡ done_of l j + 1
done_in l x j e = ap (λ b. length (cond b (x.item ∷ items_of l j) (items_of l j))) e ∙ (let f : suc (done_of l j) ≡ done_of l j + 1 = omega arith in f)

done_out : (l : ℕ) (x : Served1) (j : List Served1) → (x.lane == l) ≡ false → done_of l (x ∷ j) ≡ done_of l j
done_out l x j e = ap (λ b. length (cond b (x.item ∷ items_of l j) (items_of l j))) e

both : (a b c d k m n : ℕ) → a ≡ c + k → b ≡ d + m → k + m ≡ n → a + b ≡ c + d + n
both a b c d k m n e f g = omega (arith, e, f, g)

dones_past : (b n : ℕ) (x : Served1) (j : List Served1) → x.lane < b → dones b n (x ∷ j) ≡ dones b n j
dones_past b zero x j lt = refl
dones_past b (suc n) x j lt =
    ap (λ d. d + dones (suc b) n (x ∷ j)) (done_out b x j (grind (arith, nat_tests)))
    ∙ ap (λ d. done_of b j + d) (dones_past (suc b) n x j (omega arith))

dones_more : (b n : ℕ) (x : Served1) (j : List Served1) → b ≤ x.lane → x.lane < b + n → dones b n (x ∷ j) ≡ dones b n j + 1
dones_more b zero x j le lt = absurd (omega arith)
dones_more b (suc n) x j le lt = elim (same_or_not x.lane b) [
  | inl h ↦ let e = dones_past (suc b) n x j (let f = h.0 in omega (arith, f)) in
      both (done_of b (x ∷ j)) (dones (suc b) n (x ∷ j)) (done_of b j) (dones (suc b) n j) 1 0 1 (done_in b x j h.1) (omega (arith, e)) refl
  | inr h ↦ let e = done_out b x j h.1 in let ne = h.0 in
      both (done_of b (x ∷ j)) (dones (suc b) n (x ∷ j)) (done_of b j) (dones (suc b) n j) 0 1 1 (omega (arith, e))
      (dones_more (suc b) n x j (omega (arith, le, ne)) (omega (arith, lt))) refl
]

-- ## all entries, and all items

dones_none : (b n : ℕ) → dones b n [] ≡ 0
dones_none b zero = refl
dones_none b (suc n) = let e = dones_none (suc b) n in let f : 0 + dones (suc b) n [] ≡ 0 = omega (arith, e) in f

-- where each entry is of one of n lanes, these are all entries
dones_all : (n : ℕ) (j : List Served1) → ((k : ℕ) (s : Served1) → slice_get j k ≡ Some s → s.lane < n) → length j ≡ dones 0 n j
dones_all n [] h = sym (dones_none 0 n)
dones_all n (x ∷ j) h =
    let e = dones_all n j (λ k s at. h (suc k) s at) in
    let f = dones_more 0 n x j (omega arith) (let g = h 0 x refl in omega (arith, g)) in
    ap suc e ∙ (let g : suc (dones 0 n j) ≡ dones 0 n j + 1 = omega arith in g) ∙ sym f

-- where each lane has all of its items, they are as many as these
dones_sum : (b : ℕ) (ns : List ℕ) (j : List Served1) → ((l : ℕ) → l < length ns → done_of (b + l) j ≡ slice_index ns l) → dones b (length ns) j ≡ sum ns
dones_sum b [] j h = refl
dones_sum b (n ∷ ns) j h =
    let first : done_of b j ≡ n = ap (λ m. done_of m j) (let e : b ≡ b + 0 = omega arith in e) ∙ h 0 (omega arith) in
    let rest = dones_sum (suc b) ns j (λ l lt. ap (λ m. done_of m j) (let e : suc b + l ≡ b + suc l = omega arith in e) ∙ h (suc l) (omega arith)) in
    let all : sum (n ∷ ns) ≡ n + sum ns = sum_by-cons (λ (m : ℕ). m) n ns in
    ap (λ d. d + dones (suc b) (length ns) j) first ∙ ap (λ d. n + d) rest ∙ sym all

pub merges_are_whole : (counts : List ℕ) (journal : List Served1) → IsMerge counts journal → length journal ≡ sum counts
merges_are_whole counts journal m =
    dones_all (length counts) journal m.lanes
    ∙ dones_sum 0 counts journal (λ l lt.
    ap (λ k. done_of k journal) (let e : 0 + l ≡ l = omega arith in e)
    ∙ ap length (m.items l lt) ∙ length-range_with_len 0 (slice_index counts l))
