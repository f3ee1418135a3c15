-- The list that `WordMap::opening` builds, filled up kind by kind, is the list of the opening words.
use Rattle.std.proofs.Common.{◌≡◌, ℕ, ◌+◌, ◌-◌, ◌<◌, ◌≤◌, List, [], ◌++◌, length, get_or, replicate, ◌∙◌, refl, arith}
use Rattle.std.proofs.lemmas.List.{length-append, length-replicate, get_or-replicate, get_or_append_left, get_or-append_right}
use Rattle.word_map.specs.declared.shape.Shape.{Shape}
use Rattle.word_map.specs.Instructions.{head_of, tail_of}
use Rattle.word_map.specs.Words.{Word, Clock, Want, First, Pids, Depth, Head, Tail, Next, Ack, Quiet, Tramp, Link, Sel, Bits, read, opening}
use Rattle.word_map.specs.Places.{place, len, IsThere, IsOpening}
use Rattle.word_map.proofs.PlaceLaws.{is_map}

-- the second list is the first one, and then one number up to a length
pub record Fills (xs : List ℕ) (n v : ℕ) (ys : List ℕ) : Type 0 where
  pub count : length ys ≡ n
  pub old : (i : ℕ) → i < length xs → get_or ys i 0 ≡ get_or xs i 0
  pub new : (i : ℕ) → length xs ≤ i → i < n → get_or ys i 0 ≡ v

-- a list that is lengthened to `n` by `v`, where these are known to be `m` and `x`
pub fills : (xs ys : List ℕ) (n m v x : ℕ) → n ≡ m → v ≡ x → length xs ≤ m → ys ≡ xs ++ replicate (n - length xs) v
    → Fills xs m x ys
fills xs ys n m v x same_count same le e =
    let more = replicate (m - length xs) x in
    let l = length-append xs more in
    let r = length-replicate {A = ℕ} (m - length xs) x in
    let e' : ys ≡ xs ++ more = e ∙ (λ i. xs ++ replicate (same_count i - length xs) (same i)) in
    rw e'
    (record {
      count = omega (arith, l, r, le);
      old = λ i lt. get_or_append_left xs more 0 i lt;
      new = λ i ge lt.
          get_or-append_right xs more (length xs) i 0 refl ge
          ∙ get_or-replicate (m - length xs) (i - length xs) x 0 (omega (arith, ge, lt));
    })

module _ (shape : Shape) (pids : ℕ) where
  -- six lists, each of which lengthens the one before: by the words before the traced tasks, by those tasks, by the graph depth, by
  -- the first bytes of the sites, by their other bytes, and by all other words
  pub record IsBuilt (before tasks depth heads tails all : List ℕ) : Type 0 where
    pub to_tasks : Fills [] 3 0 before
    pub to_depth : Fills before 4 pids tasks
    pub to_heads : Fills tasks 5 0 depth
    pub to_tails : Fills depth (5 + shape.funcs) (head_of 0) heads
    pub to_next : Fills heads (5 + shape.funcs + shape.funcs) (tail_of 0 0) tails
    pub to_end : Fills tails (len shape) 0 all

  module _ (before tasks depth heads tails all : List ℕ) (h : IsBuilt before tasks depth heads tails all) where
    -- the words that there is one of
    single : (i : ℕ) → i < 5 → get_or all i 0 ≡ get_or depth i 0
    single i lt =
        h.to_end.old i (omega (arith, h.to_next.count)) ∙ h.to_next.old i (omega (arith, h.to_tails.count))
        ∙ h.to_tails.old i (omega (arith, h.to_heads.count))

    -- the first three are 0
    clear : (i : ℕ) → i < 3 → get_or all i 0 ≡ 0
    clear i lt =
        single i (omega arith) ∙ h.to_heads.old i (omega (arith, h.to_depth.count)) ∙ h.to_depth.old i (omega (arith, h.to_tasks.count))
        ∙ h.to_tasks.new i (omega arith) lt

    -- so are all words after the sites' bytes
    rest : (w : Word) → IsThere shape w → 5 + shape.funcs + shape.funcs ≤ place shape w → get_or all (place shape w) 0 ≡ 0
    rest w t ge = h.to_end.new (place shape w) (omega (arith, h.to_next.count, ge)) ((is_map shape).inside w t)

    each : (w : Word) → IsThere shape w → get_or all (place shape w) 0 ≡ read w (opening pids)
    each Clock t = clear 0 (omega arith)
    each Want t = clear 1 (omega arith)
    each First t = clear 2 (omega arith)
    each Pids t =
        single 3 (omega arith) ∙ h.to_heads.old 3 (omega (arith, h.to_depth.count))
        ∙ h.to_depth.new 3 (omega (arith, h.to_tasks.count)) (omega arith)
    each Depth t = single 4 (omega arith) ∙ h.to_heads.new 4 (omega (arith, h.to_depth.count)) (omega arith)
    each (Head f) t =
        h.to_end.old (5 + f) (omega (arith, h.to_next.count, t)) ∙ h.to_next.old (5 + f) (omega (arith, h.to_tails.count, t))
        ∙ h.to_tails.new (5 + f) (omega (arith, h.to_heads.count)) (omega (arith, t))
    each (Tail f) t =
        let p = place shape (Tail f) in
        h.to_end.old p (omega (arith, h.to_next.count, t)) ∙ h.to_next.new p (omega (arith, h.to_tails.count)) (omega (arith, t))
    each (Next f) t = rest (Next f) t (omega arith)
    each (Ack c) t = rest (Ack c) t (omega arith)
    each (Quiet s) t = rest (Quiet s) t (omega arith)
    each (Tramp s) t = rest (Tramp s) t (omega arith)
    each (Link u) t = rest (Link u) t (omega arith)
    each (Sel u) t = rest (Sel u) t (omega arith)
    each (Bits u copy half w) t = rest (Bits u copy half w) t (omega arith)

    pub built_is_opening : IsOpening shape pids all
    built_is_opening = record { count = h.to_end.count; each = each }
