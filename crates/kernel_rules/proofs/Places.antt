-- A log's lines and a history that they tell: the items are the same but for those that the log lacks, and each line has its place.
use Rattle.std.proofs.Common.{cond, ◌≡◌, ℕ, suc, ◌+◌, ◌-◌, ◌<◌, ◌≤◌, Bool, true, false, nat_lt, if◌then◌else◌, List, [], ◌∷◌, length, map, refl, ap, ap₂, ◌∙◌, arith, ltb-true, ltb-false, lt-ltb, le-ltb}
use Rattle.ft_base.specs.declared.item.Item.{Item}
use Rattle.ft_base.specs.declared.item.Item.TheVariants.{Refuse, Miss, Body, Exit}
use Rattle.ft_base.specs.declared.item.Ran.{Ran}
use Rattle.ft_base.specs.declared.item.Ran.TheVariants.{List as ByList}
use Rattle.kernel_rules.specs.declared.line.Line.{Line}
use Rattle.kernel_rules.specs.declared.line.Line.TheVariants.{Seen, Unfetched}
use Rattle.kernel_rules.specs.Recorded.{AreTold, Lacking, Marked, Told, Tells, history, line_of, told_before}
use Rattle.kernel_rules.specs.Direct.{item_of}
use Rattle.kernel_rules.proofs.Thinned.{thinned}

-- ## places

-- how many items are told
abbrev pub told : List Marked → ℕ
told [] = 0
told (Told item ∷ past) = suc (told past)
told (Lacking item ∷ past) = told past

-- the place of the item that a line tells; lines that are still to come are counted on
abbrev pub place_of : List Marked → ℕ → ℕ
place_of [] e = e
place_of (Told item ∷ past) e = place_of past e
place_of (Lacking item ∷ past) e = if nat_lt e (told past) then place_of past e else suc (place_of past e)

-- a line to come
pub place-beyond : (past : List Marked) (e : ℕ) → told past ≤ e → place_of past e ≡ length past + (e - told past)
place-beyond [] e le = omega arith
place-beyond (Told item ∷ past) e le = let h = place-beyond past e (omega arith) in omega (arith, h)
place-beyond (Lacking item ∷ past) e le = rw (le-ltb e (told past) le) (let h = place-beyond past e le in omega (arith, h))

-- a line that is there
pub place-there : (past : List Marked) (e : ℕ) → e < told past → place_of past e < length past
place-there [] e lt = absurd (omega arith)
place-there (Told item ∷ past) e lt = by (nat_lt e (told past)) refl (place-there past e)
  where
    by : (b : Bool) → nat_lt e (told past) ≡ b → (e < told past → place_of past e < length past) → place_of past e < suc (length past)
    by true is more = let h = more (ltb-true e (told past) is) in omega (arith, h)
    by false is more = let le = ltb-false e (told past) is in let h = place-beyond past e le in omega (arith, h, le, lt)
place-there (Lacking item ∷ past) e lt = rw (lt-ltb e (told past) lt) (let h = place-there past e lt in omega (arith, h))

-- places rise with their lines
pub place-rises : (past : List Marked) (e f : ℕ) → e < f → place_of past e < place_of past f
place-rises [] e f lt = lt
place-rises (Told item ∷ past) e f lt = place-rises past e f lt
place-rises (Lacking item ∷ past) e f lt = by (nat_lt e (told past)) (nat_lt f (told past)) refl refl (place-rises past e f lt)
  where
    by : (b c : Bool) → nat_lt e (told past) ≡ b → nat_lt f (told past) ≡ c → place_of past e < place_of past f → place_of (Lacking item ∷ past) e < place_of (Lacking item ∷ past) f
    by true true p q more = rw (p, q) more
    by true false p q more = rw (p, q) (omega (arith, more))
    by false true p q more = (let a = ltb-false e (told past) p in let b = ltb-true f (told past) q in absurd (omega (arith, a, b, lt)))
    by false false p q more = rw (p, q) (omega (arith, more))

-- all that is told is before a place to come
before-all : (past : List Marked) (place : ℕ) → length past ≤ place → told_before past place ≡ told past
before-all [] place le = refl
before-all (Told item ∷ past) place le = rw (lt-ltb (length past) place (omega arith)) (ap suc (before-all past place (omega arith)))
before-all (Lacking item ∷ past) place le = before-all past place (omega arith)

-- an item that is told moves no line
pub line-told : (item : Item) (past : List Marked) (place : ℕ) → line_of (Told item ∷ past) place ≡ line_of past place
line-told item past place = by (nat_lt (length past) place) refl
  where
    by : (b : Bool) → nat_lt (length past) place ≡ b → cond b (suc (told_before past place)) (told_before past place) + (place - suc (length past)) ≡ told_before past place + (place - length past)
    by true is = let lt = ltb-true (length past) place is in omega (arith, lt)
    by false is = let le = ltb-false (length past) place is in omega (arith, le)

-- the line of a line's place
pub line-place : (past : List Marked) (e : ℕ) → line_of past (place_of past e) ≡ e
line-place [] e = omega arith
line-place (Told item ∷ past) e = line-told item past (place_of past e) ∙ line-place past e
line-place (Lacking item ∷ past) e = by (nat_lt e (told past)) refl (line-place past e)
  where
    by : (b : Bool) → nat_lt e (told past) ≡ b → line_of past (place_of past e) ≡ e → line_of (Lacking item ∷ past) (place_of (Lacking item ∷ past) e) ≡ e
    by true is l = rw is (let h = place-there past e (ltb-true e (told past) is) in omega (arith, h, l))
    by false is l =
        rw is (let le = ltb-false e (told past) is in let h = place-beyond past e le in let all = before-all past (suc (place_of past e)) (omega (arith, h)) in omega (arith, h, le, all))

-- ## items

-- the item of a line is the item that it tells, with an exit's place as a line, and what a body ran perhaps unseen
abbrev pub IsDrawn : List Marked → Item → Item → Type 0
IsDrawn past x (Exit call u place) = x ≡ Exit call u (line_of past place)
IsDrawn past x (Body call g ran) = (seen : Ran) × (x ≡ Body call g seen)
IsDrawn past x item = x ≡ item

-- so it is for each line that tells an item
pub drawn : (past : List Marked) (line : Line) (item : Item) → Tells past line item → IsDrawn past (item_of line) item
drawn past (Seen (Exit call u entry)) (Exit call' u' place) t = ap₂ (λ c v. Exit c v entry) t.0 t.1 ∙ ap (λ e. Exit call' u' e) t.2
drawn past (Unfetched call g) (Body call' g' ran) t = (ByList, ap₂ (λ c f. Body c f ByList) t.0 t.1)
drawn past (Seen (Exit call u entry)) _ t = absurd t
drawn past (Unfetched call g) _ t = absurd t
drawn past (Seen x) (Body call g ran) t = (ran, t)
drawn past (Seen x) (Exit call u place) t = absurd cc
drawn past (Seen x) item t = t

-- one more item
thin-head : (past : List Marked) (x item : Item) (xs ys : List Item) → IsDrawn past x item → thinned xs ≡ thinned ys → thinned (x ∷ xs) ≡ thinned (item ∷ ys)
thin-head past x (Exit call u place) xs ys e h = rw e (ap (λ (zs : List Item). Exit call u 0 ∷ zs) h)
thin-head past x (Body call g ran) xs ys e h = rw (e.1) (ap (λ (zs : List Item). Body call g ByList ∷ zs) h)
thin-head past x (Refuse call u reason) xs ys e h = rw e h
thin-head past x (Miss call u) xs ys e h = rw e h
thin-head past x item xs ys e h = rw (e, h) refl

-- the lines and the history are the same but for refusals and misses
pub thin-told : (lines : List Line) (past : List Marked) → AreTold lines past → thinned (map item_of lines) ≡ thinned (history past)
unfolding AreTold
thin-told lines [] t = rw t refl
thin-told lines (Lacking (Refuse call u reason) ∷ past) t = thin-told lines past t.1
thin-told lines (Lacking (Miss call u) ∷ past) t = thin-told lines past t.1
thin-told lines (Lacking item ∷ past) t = absurd t.0
thin-told [] (Told item ∷ past) t = absurd t
thin-told (line ∷ lines) (Told item ∷ past) t = thin-head past (item_of line) item (map item_of lines) (history past) (drawn past line item t.0) (thin-told lines past t.1)
