-- The lines of an input gone through from the first on, up to a line `log`.
use Rattle.std.proofs.Common.{cond, ◌≡◌, ℕ, zero, suc, ◌+◌, ◌-◌, ◌≤◌, ◌<◌, ◌⊎◌, Bool, true, false, List, [], ◌∷◌, ◌++◌, Some, None, take, drop, length, length-append, append_assoc, refl, sym, ap, ◌∙◌, subst, arith, inl, inr, eqb-true, add-one}
use Rattle.std.specs.Prelude.{count_by}
use Rattle.std.specs.List.{position, position_or_len}
use Rattle.std.specs.Prelude.{get_or, nat_lt}
use Rattle.std.proofs.lemmas.List.Recursion.{is_count_by, is_position_or_len}
use Rattle.std.proofs.lemmas.List.Quantifiers.{position-Some}
use Rattle.std.proofs.lemmas.List.{length-drop, length-take, take-append-drop, take_all}
use Rattle.std.proofs.Math.Seq.{drop-append-add, take-append-add}
use Rattle.judge_app.specs.Cut.{EndsLine, IsAfter, IsNoLog, IsUncut, is_feed, log_line}

-- the lines of `before` have been looked at, and none is `log`
pub record Sought (input before rest : List ℕ) (line : ℕ) : Type 0 where
  pub whole : input ≡ before ++ rest
  pub ends : EndsLine before
  pub number : line ≡ count_by is_feed before + 1
  pub none : (a b : List ℕ) → IsAfter a b input → length before ≤ length a

-- ## lists

head-is : (x y : ℕ) (xs ys : List ℕ) → x ∷ xs ≡ y ∷ ys → x ≡ y
head-is x y xs ys e = ap (λ zs. first zs) e
  where
    first : List ℕ → ℕ
    first [] = x
    first (z ∷ zs) = z

tail-is : (x y : ℕ) (xs ys : List ℕ) → x ∷ xs ≡ y ∷ ys → xs ≡ ys
tail-is x y xs ys e = ap (λ zs. drop 1 zs) e

-- of two beginnings of a text the shorter is one of the longer
pub record Beyond (xs ys front back : List ℕ) : Type 0 where
  pub more : List ℕ
  pub longer : front ≡ xs ++ more
  pub left : ys ≡ more ++ back

pub beyond : (xs ys front back : List ℕ) → xs ++ ys ≡ front ++ back → length xs ≤ length front → Beyond xs ys front back
beyond [] ys front back e le = record { more = front; longer = refl; left = e }
beyond (x ∷ xs) ys [] back e le = absurd (omega (arith, le))
beyond (x ∷ xs) ys (z ∷ front) back e le =
    let r = beyond xs ys front back (tail-is x z (xs ++ ys) (front ++ back) e) (omega (arith, le)) in
    record {
      more = r.more;
      longer = ap (λ y. y ∷ front) (sym (head-is x z (xs ++ ys) (front ++ back) e)) ∙ ap (λ zs. x ∷ zs) r.longer;
      left = r.left;
    }

-- ## line feeds

-- how many there are
feeds : List ℕ → ℕ
feeds [] = 0
feeds (b ∷ rest) = cond (is_feed b) (1 + feeds rest) (feeds rest)

feeds-are : (xs : List ℕ) → feeds xs ≡ count_by is_feed xs
unfolding feeds
feeds-are = is_count_by feeds is_feed refl (λ x xs. refl)

feeds-append : (a b : List ℕ) → feeds (a ++ b) ≡ feeds a + feeds b
unfolding feeds
feeds-append [] b = omega arith
feeds-append (x ∷ a) b =
    elim (is_feed x) as (λ t. cond t (1 + feeds (a ++ b)) (feeds (a ++ b)) ≡ cond t (1 + feeds a) (feeds a) + feeds b) [
      | true ↦ omega (arith, feeds-append a b)
      | false ↦ feeds-append a b
    ]

count-append : (a b : List ℕ) → count_by is_feed (a ++ b) ≡ count_by is_feed a + count_by is_feed b
count-append a b =
    let e = sym (feeds-are (a ++ b)) ∙ feeds-append a b in
    omega (arith, e, feeds-are a, feeds-are b)

-- a text at its first line feed
record AtFeed (text : List ℕ) (p : ℕ) : Type 0 where
  front : List ℕ
  back : List ℕ
  is : text ≡ front ++ 10 ∷ back
  size : length front ≡ p
  none : feeds front ≡ 0

no-feed : (text : List ℕ) → feeds text ≡ 0 → (front back : List ℕ) → text ≡ front ++ 10 ∷ back → ⊥
unfolding feeds
no-feed text zeros front back e = absurd (omega (arith, zeros, feeds-append front (10 ∷ back), ap feeds e))

feed-is : (b : ℕ) → is_feed b ≡ true → 10 ≡ b
feed-is b e = sym (eqb-true b 10 e)

split-at : (text : List ℕ) (p : ℕ) → p < length text → is_feed (get_or text p 0) ≡ true → ((k : ℕ) → k < p → is_feed (get_or text k 0) ≡ false) → AtFeed text p
unfolding feeds
split-at [] p lt here before = absurd (omega (arith, lt))
split-at (x ∷ text) zero lt here before = record { front = []; back = text; is = ap (λ z. z ∷ text) (sym (feed-is x here)); size = refl; none = refl }
split-at (x ∷ text) (suc p) lt here before =
    let r = split-at text p (omega (arith, lt)) here (λ k l. before (suc k) (omega (arith, l))) in
    record {
      front = x ∷ r.front;
      back = r.back;
      is = ap (λ zs. x ∷ zs) r.is;
      size = ap suc r.size;
      none = rw (before zero (omega arith)) r.none;
    }

at-feed : (text : List ℕ) (p : ℕ) → position is_feed text ≡ Some p → AtFeed text p
at-feed text p e = let h = position-Some is_feed text p 0 e in split-at text p h.0 h.1 h.2

first-feed : List ℕ → ℕ
first-feed [] = 0
first-feed (b ∷ rest) = cond (is_feed b) 0 (1 + first-feed rest)

first-is : (xs : List ℕ) → first-feed xs ≡ position_or_len is_feed xs
unfolding first-feed
first-is = is_position_or_len first-feed is_feed refl (λ x xs. refl)

past-all : (xs : List ℕ) → length xs ≤ first-feed xs → feeds xs ≡ 0
unfolding feeds first-feed
past-all [] le = refl
past-all (x ∷ xs) le = by (is_feed x) le (past-all xs)
  where
    by : (b : Bool) → length (x ∷ xs) ≤ cond b 0 (1 + first-feed xs) → (length xs ≤ first-feed xs → feeds xs ≡ 0) → cond b (1 + feeds xs) (feeds xs) ≡ 0
    by true l rest = absurd (omega (arith, l))
    by false l rest = rest (omega (arith, l))

none-at : (text : List ℕ) → position is_feed text ≡ None → feeds text ≡ 0
none-at text e = past-all text (subst (λ n. length text ≤ n) (sym (first-is text)) (by (nat_lt (position_or_len is_feed text) (length text)) refl e))
  where
    by : (b : Bool) → nat_lt (position_or_len is_feed text) (length text) ≡ b → cond b (Some (position_or_len is_feed text)) None ≡ None → length text ≤ position_or_len is_feed text
    by true t h = absurd cc
    by false t h = grind arith

-- ## where a line `log` may stand

-- what ends a text that is put after another, if there is something of it
pub ends-more : (before more : List ℕ) → EndsLine (before ++ more) → (more ≡ []) ⊎ ((front : List ℕ) × (more ≡ front ++ 10 ∷ []))
ends-more before [] e = inl refl
ends-more before (x ∷ xs) (inl e) = absurd (omega (arith, sym (length-append before (x ∷ xs)) ∙ ap length e))
ends-more before (x ∷ xs) (inr (front, e)) =
    let size = sym (length-append before (x ∷ xs)) ∙ ap length e ∙ length-append front (10 ∷ []) in
    let r = beyond before (x ∷ xs) front (10 ∷ []) e (omega (arith, size)) in
    inr (r.more, r.left)

module _ (input before rest : List ℕ) (line : ℕ) (s : Sought input before rest line) (no_log : IsNoLog rest) where
  -- a line `log` stands after a line feed of the rest
  abbrev Later : List ℕ → List ℕ → Type 0
  Later a b = (front : List ℕ) × (a ≡ before ++ (front ++ 10 ∷ [])) × (rest ≡ front ++ 10 ∷ (log_line ++ b))

  later : (a b : List ℕ) → IsAfter a b input → Later a b
  later a b after =
      let r : Beyond before rest a (log_line ++ b) = beyond before rest a (log_line ++ b) (sym s.whole ∙ after.0) (s.none a b after) in
      by r (ends-more before r.more (subst EndsLine r.longer after.1))
    where
      by : (r : Beyond before rest a (log_line ++ b)) → (r.more ≡ []) ⊎ ((front : List ℕ) × (r.more ≡ front ++ 10 ∷ [])) → Later a b
      by r (inl e) = absurd (no_log b (r.left ∙ ap (λ m. m ++ (log_line ++ b)) e))
      by r (inr (front, e)) = (front, r.longer ∙ ap (λ m. before ++ m) e, r.left ∙ ap (λ m. m ++ (log_line ++ b)) e ∙ append_assoc front (10 ∷ []) (log_line ++ b))

  -- the text has no line more
  pub none-left : position is_feed rest ≡ None → IsUncut input line
  none-left e = record {
    none = λ a b after. let l = later a b after in no-feed rest (none-at rest e) l.0 (log_line ++ b) l.2;
    number =
        let n = s.number in
        let m = ap (count_by is_feed) s.whole ∙ count-append before rest in
        omega (arith, n, m, feeds-are rest, none-at rest e);
  }

  module _ (p : ℕ) (e : position is_feed rest ≡ Some p) where
    abbrev f : AtFeed rest p
    f = at-feed rest p e

    -- the line that comes next
    line-is : take (p + 1) rest ≡ f.front ++ 10 ∷ []
    line-is = ap (take (p + 1)) f.is ∙ ap (λ n. take n (f.front ++ 10 ∷ f.back)) (add-one p) ∙ cut-front f.front p f.size
      where
        cut-front : (front : List ℕ) (n : ℕ) → length front ≡ n → take (suc n) (front ++ 10 ∷ f.back) ≡ front ++ 10 ∷ []
        cut-front [] zero size = refl
        cut-front [] (suc n) size = absurd cc
        cut-front (x ∷ front) zero size = absurd cc
        cut-front (x ∷ front) (suc n) size = ap (λ z. x ∷ z) (cut-front front n (omega (arith, size)))

    one : count_by is_feed (10 ∷ []) ≡ 1
    one = refl

    -- no line `log` begins in it
    beyond-line : (a b : List ℕ) → IsAfter a b input → length (before ++ take (p + 1) rest) ≤ length a
    beyond-line a b after =
        let l = later a b after in
        let long : p ≤ length l.0 = by l.0 b l.2 (three (length l.0) p) in
        let size = length-append before (take (p + 1) rest) in
        let size' = ap length line-is ∙ length-append f.front (10 ∷ []) in
        let other = ap length l.1 ∙ length-append before (l.0 ++ 10 ∷ []) in
        omega (arith, long, size, size', f.size, other, length-append l.0 (10 ∷ []))
      where
        three : (m n : ℕ) → (n ≤ m) ⊎ (m < n)
        three m n = grind arith

        by : (front b : List ℕ) → rest ≡ front ++ 10 ∷ (log_line ++ b) → (p ≤ length front) ⊎ (length front < p) → p ≤ length front
        by front b is (inl le) = le
        by front b is (inr lt) =
            let whole = append_assoc front (10 ∷ []) (log_line ++ b) ∙ sym is ∙ f.is in
            let r = beyond (front ++ 10 ∷ []) (log_line ++ b) f.front (10 ∷ f.back) whole (omega (arith, lt, f.size, length-append front (10 ∷ []))) in
            absurd (no-feed f.front f.none front r.more (r.longer ∙ append_assoc front (10 ∷ []) r.more))

    -- the text goes on with it
    pub next : Sought input (before ++ take (p + 1) rest) (drop (p + 1) rest) (line + 1)
    next = record {
      whole = s.whole ∙ ap (λ z. before ++ z) (sym (take-append-drop (p + 1) rest)) ∙ sym (append_assoc before (take (p + 1) rest) (drop (p + 1) rest));
      ends = inr (before ++ f.front, ap (λ z. before ++ z) line-is ∙ sym (append_assoc before f.front (10 ∷ [])));
      number =
          let n = s.number in
          let m = count-append before (take (p + 1) rest) in
          let k = ap (count_by is_feed) line-is ∙ count-append f.front (10 ∷ []) in
          omega (arith, n, m, k, feeds-are f.front, f.none, one);
      none = beyond-line;
    }

-- ## places of an input

length-rest : (xs : List ℕ) (at : ℕ) → at ≤ length xs → length (drop at xs) + at ≡ length xs
length-rest xs at le =
    let l = ap length (take-append-drop at xs) in
    let k = length-append (take at xs) (drop at xs) in
    let m = size xs at le in
    omega (arith, l, k, m)
  where
    size : (xs : List ℕ) (at : ℕ) → at ≤ length xs → length (take at xs) ≡ at
    size xs at le = length-take at xs ∙ grind arith

-- the part from a place to the end is the rest
pub at-rest : (P : List ℕ → Type 0) (xs : List ℕ) (at : ℕ) → P (take (length xs - at) (drop at xs)) → P (drop at xs)
at-rest P xs at p = let same = length-drop at xs in subst P (take_all (length xs - at) (drop at xs) (omega (arith, same))) p

-- the same, a line further
pub below : (input : List ℕ) (at p line : ℕ) → at ≤ length input → Sought input (take at input) (drop at input) line → IsNoLog (drop at input)
    → position is_feed (drop at input) ≡ Some p
    → (at + (p + 1) ≤ length input) × Sought input (take (at + (p + 1)) input) (drop (at + (p + 1)) input) (line + 1)
below input at p line le s no_log e =
    let f = at-feed (drop at input) p e in
    let size = ap length f.is ∙ length-append f.front (10 ∷ f.back) in
    let all = length-rest input at le in
    let n = next input (take at input) (drop at input) line s no_log p e in
    (omega (arith, size, all, f.size), rw (taken, dropped) n)
  where
    is : length (take at input) ≡ at
    is = length-take at input ∙ grind arith

    taken : take (at + (p + 1)) input ≡ take at input ++ take (p + 1) (drop at input)
    taken = ap (take (at + (p + 1))) (sym (take-append-drop at input)) ∙ ap (λ n. take (n + (p + 1)) (take at input ++ drop at input)) (sym is)
        ∙ take-append-add (take at input) (drop at input) (p + 1)

    dropped : drop (at + (p + 1)) input ≡ drop (p + 1) (drop at input)
    dropped = ap (drop (at + (p + 1))) (sym (take-append-drop at input)) ∙ ap (λ n. drop (n + (p + 1)) (take at input ++ drop at input)) (sym is)
        ∙ drop-append-add (take at input) (drop at input) (p + 1)
