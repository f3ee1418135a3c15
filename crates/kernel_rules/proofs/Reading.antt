-- A log of which nothing is left out.
use Rattle.std.proofs.Common.{cond, ◌≡◌, ℕ, suc, ◌<◌, ◌≤◌, Bool, true, false, nat_lt, List, [], ◌∷◌, ◌++◌, length, map, reverse, refl, sym, ap, ◌∙◌, subst, arith, ltb-true, ltb-false, lt-ltb}
use Rattle.std.proofs.lemmas.List.{length-map, reverse-append}
use Rattle.ft_base.specs.declared.item.Item.{Item}
use Rattle.ft_base.specs.declared.item.Item.TheVariants.{Exit}
use Rattle.ft_base.specs.Job.{Job}
use Rattle.ft_hist.specs.Past.{Visit, visits}
use Rattle.ft_hist.proofs.ExitItems.{each-of}
use Rattle.history_order.proofs.Visits.{visits-before}
use Rattle.kernel_rules.specs.declared.line.ExitOrder.{ExitOrder}
use Rattle.kernel_rules.specs.declared.line.Line.{Line}
use Rattle.kernel_rules.specs.declared.line.Line.TheVariants.{Seen}
use Rattle.kernel_rules.specs.Rules.{IsLegalPast, MayFollow}
use Rattle.kernel_rules.specs.Recorded.{AreTold, IsReading, Marked, Told, Tells, history, line_of, told_before, seen_lines}

-- a history of which the log tells all
abbrev pub all_told : List Item → List Marked
all_told past = map Told past

-- its items
pub told-items : (past : List Item) → history (all_told past) ≡ past
told-items [] = refl
told-items (item ∷ past) = ap (λ xs. item ∷ xs) (told-items past)

told-length : (past : List Item) → length (all_told past) ≡ length past
told-length past = length-map past Told

-- all items before a place are told
all-before : (past : List Item) (place : ℕ) → length past ≤ place → told_before (all_told past) place ≡ length past
all-before [] place le = refl
all-before (item ∷ past) place le =
    let here : nat_lt (length (all_told past)) place ≡ true = lt-ltb (length (all_told past)) place (let n = told-length past in omega (arith, le, n)) in
    rw here (ap suc (all-before past place (omega (arith, le))))

before-place : (past : List Item) (place : ℕ) → place ≤ length past → told_before (all_told past) place ≡ place
before-place [] place le = omega (arith, le)
before-place (item ∷ past) place le = by (nat_lt (length (all_told past)) place) refl (before-place past place)
  where
    by : (b : Bool) → nat_lt (length (all_told past)) place ≡ b → (place ≤ length past → told_before (all_told past) place ≡ place)
        → cond b (suc (told_before (all_told past) place)) (told_before (all_told past) place) ≡ place
    by true e more =
        let below : length (all_told past) < place = ltb-true (length (all_told past)) place e in
        let n = told-length past in
        let all : told_before (all_told past) place ≡ length past = all-before past place (omega (arith, below, n)) in
        omega (arith, below, n, le, all)
    by false e more =
        let above : place ≤ length (all_told past) = ltb-false (length (all_told past)) place e in
        more (let n = told-length past in omega (arith, above, n))

-- so each place is its line
line-place : (past : List Item) (place : ℕ) → place ≤ length past → line_of (all_told past) place ≡ place
line-place past place le = let b = before-place past place le in let n = told-length past in omega (arith, le, b, n)

-- ## items

tells : (by : ExitOrder) (job : Job) (past : List Item) (item : Item) → MayFollow by job past item → Tells (all_told past) (Seen item) item
tells by job past (Exit call u place) may =
    let of = may.exits.0.of in
    let below : of.0.place < length past = each-of (λ (m : Visit). m.place < length past) (visits job call past) of.0 of.1 (visits-before job call past) in
    (refl, refl, sym (line-place past place (let same = of.3 in omega (arith, below, same))))
tells by job past _ may = refl

pub read-told : (by : ExitOrder) (job : Job) (past : List Item) → IsLegalPast by job past → AreTold (seen_lines past) (all_told past)
unfolding IsLegalPast AreTold
read-told by job [] legal = refl
read-told by job (item ∷ past) legal = (tells by job past item legal.0, read-told by job past legal.1)

-- ## logs

map-snoc : {A B : Type 0} (f : A → B) (ys : List A) (x : A) → map f (ys ++ x ∷ []) ≡ map f ys ++ f x ∷ []
map-snoc f [] x = refl
map-snoc f (y ∷ ys) x = ap (λ zs. f y ∷ zs) (map-snoc f ys x)

map-reverse : {A B : Type 0} (f : A → B) (xs : List A) → map f (reverse xs) ≡ reverse (map f xs)
map-reverse f [] = refl
map-reverse f (x ∷ xs) =
    ap (map f) (reverse-append (x ∷ []) xs) ∙ map-snoc f (reverse xs) x ∙ ap (λ ys. ys ++ f x ∷ []) (map-reverse f xs)
    ∙ sym (reverse-append (f x ∷ []) (map f xs))

pub read-log : (by : ExitOrder) (job : Job) (items : List Item) → IsLegalPast by job (reverse items) → IsReading by job (reverse (seen_lines items)) (all_told (reverse items))
read-log by job items legal = record {
  told' = subst (λ (lines : List Line). AreTold lines (all_told (reverse items))) (map-reverse Seen items) (read-told by job (reverse items) legal);
  legal = subst (λ (past : List Item). IsLegalPast by job past) (sym (told-items (reverse items))) legal;
}
