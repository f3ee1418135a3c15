-- A word is an item by the grammar if and only if it is read as that item.
use Rattle.std.proofs.Common.{◌≡◌, ℕ, ◌+◌, ◌-◌, ◌<◌, ◌&&◌, not, nat_le, arith, Bool, true, false, cond, [], ◌∷◌, ◌++◌, codes, length, take, drop, get_or, position, Option, Some, None, refl, sym, ap, ap₂, ◌∙◌, subst, eqb-true, length-append, if◌then◌else◌}
use Rattle.std.specs.List.{position_or_len}
use Rattle.std.specs.Str.{bytes_eq}
use Rattle.std.proofs.Math.Seq.{take-append_seam, drop-append-add}
use Rattle.std.proofs.lemmas.Bool.{lt-ltb, le-ltb}
use Rattle.std.proofs.lemmas.Bool.Decides.{nat_tests}
use Rattle.std.proofs.lemmas.List.Sums.{passes_at_first, split_at_first}
use Rattle.ft_base.specs.declared.limits.TheConstants.{CPUS}
use Rattle.ft_base.specs.declared.turn.Who.{Who}
use Rattle.ft_base.specs.declared.turn.Who.TheVariants.{Control, Cpu, All}
use Rattle.script_text.specs.Lines.{Word}
use Rattle.script_text.specs.Names.{number_of}
use Rattle.script_text.proofs.KeyLemmas.{is_key}
use Rattle.script_text.proofs.LineLemmas.{found}
use Rattle.script_text.proofs.WordLemmas.{made_of_both}
use Rattle.ft_schedule.specs.declared.item.SchedItem.{SchedItem}
use Rattle.ft_schedule.specs.Items.{cpu_of, who_of, item_with, item_cut, is_star, item_of}
use Rattle.ft_schedule.specs.Grammar.{HasWho, control, a_cpu, everyone, HasItem, once, times}

-- ---- where a word is cut

-- a word without a star
NoStar : Word → Type 0
NoStar [] = Unit {0}
NoStar (b ∷ bs) = (is_star b ≡ false) × NoStar bs

-- the first star comes after as many bytes
star-after : (xs ys : Word) → NoStar xs → position_or_len is_star (xs ++ 42 ∷ ys) ≡ length xs
unfolding NoStar
star-after [] ys h = refl
star-after (x ∷ xs) ys h = ap (λ b. cond (not b) (1 + position_or_len is_star (xs ++ 42 ∷ ys)) 0) h.0 ∙ (let e = star-after xs ys h.1 in omega (arith, e))

star-none : (xs : Word) → NoStar xs → position_or_len is_star xs ≡ length xs
unfolding NoStar
star-none [] h = refl
star-none (x ∷ xs) h = ap (λ b. cond (not b) (1 + position_or_len is_star xs) 0) h.0 ∙ (let e = star-none xs h.1 in omega (arith, e))

-- ---- whose turn it is

who_of-written : {word : Word} {who : Who} → HasWho word who → who_of word ≡ Some who
who_of-written control = refl
who_of-written (a_cpu n small) =
    let no_control : bytes_eq ((48 + n) ∷ []) (codes "k") ≡ false = grind (arith, nat_tests) in
    let not_all : bytes_eq ((48 + n) ∷ []) (codes "all") ≡ false = grind (arith, nat_tests) in
    let digit : (nat_le 48 (48 + n) && nat_le (48 + n) 55) ≡ true = grind (arith, nat_tests) in
    let same : 48 + n - 48 ≡ n = omega arith in
    ap (λ b. if b then Some Control else (if bytes_eq ((48 + n) ∷ []) (codes "all") then Some All else cpu_of ((48 + n) ∷ []))) no_control
    ∙ ap (λ b. if b then Some All else cpu_of ((48 + n) ∷ [])) not_all
    ∙ ap (λ b. if b then Some (Cpu (record { 0 = 48 + n - 48 })) else None) digit
    ∙ ap (λ m. Some (Cpu (record { 0 = m }))) same
who_of-written everyone = refl

no_star : {word : Word} {who : Who} → HasWho word who → NoStar word
unfolding NoStar
no_star control = (refl, tt)
no_star (a_cpu n small) = (grind (arith, nat_tests), tt)
no_star everyone = (refl, (refl, (refl, tt)))

cpu_of-rule : (word : Word) (who : Who) → cpu_of word ≡ Some who → HasWho word who
cpu_of-rule [] who e = absurd (cc)
cpu_of-rule (digit ∷ []) who e = by (nat_le 48 digit && nat_le digit 55) refl e
  where
    by : (b : Bool) → (nat_le 48 digit && nat_le digit 55) ≡ b → (if b then Some (Cpu (record { 0 = digit - 48 })) else None) ≡ Some who → HasWho (digit ∷ []) who
    by true is e =
        let small : digit - 48 < CPUS = grind (arith, nat_tests) in
        let whole : 48 + (digit - 48) ≡ digit = grind (arith, nat_tests) in
        let same : Cpu (record { 0 = digit - 48 }) ≡ who = cc in
        subst (λ d. HasWho (d ∷ []) who) whole (subst (HasWho ((48 + (digit - 48)) ∷ [])) same (a_cpu (digit - 48) small))
    by false is e = absurd (cc)
cpu_of-rule (_ ∷ _ ∷ _) who e = absurd (cc)

who_of-rule : (word : Word) (who : Who) → who_of word ≡ Some who → HasWho word who
who_of-rule word who e = by (bytes_eq word (codes "k")) (bytes_eq word (codes "all")) refl refl e
  where
    by : (k a : Bool) → bytes_eq word (codes "k") ≡ k → bytes_eq word (codes "all") ≡ a → (if k then Some Control else (if a then Some All else cpu_of word)) ≡ Some who → HasWho word who
    by true a is are e = let same : Control ≡ who = cc in subst (λ w. HasWho w who) (sym (is_key word (codes "k") is)) (subst (HasWho (codes "k")) same control)
    by false true is are e = let same : All ≡ who = cc in subst (λ w. HasWho w who) (sym (is_key word (codes "all") are)) (subst (HasWho (codes "all")) same everyone)
    by false false is are e = cpu_of-rule word who e

-- ---- items

pub item_of-written : {word : Word} {item : SchedItem} → HasItem word item → item_of word ≡ Some item
item_of-written (once word who is) =
    let end : position is_star word ≡ None = ap (λ b. cond b (Some (position_or_len is_star word)) None) (le-ltb _ _ (omega (arith, star-none word (no_star is)))) in
    ap (item_cut word) end ∙ ap (λ w. item_with w (Some 1)) (who_of-written is)
item_of-written (times word number who n is are) =
    let at = star-after word number (no_star is) in
    let low : position_or_len is_star (word ++ 42 ∷ number) < length (word ++ 42 ∷ number) = omega (arith, at, length-append word (42 ∷ number)) in
    let cut : position is_star (word ++ 42 ∷ number) ≡ Some (length word) = ap (λ b. cond b (Some (position_or_len is_star (word ++ 42 ∷ number))) None) (lt-ltb _ _ low) ∙ ap Some at in
    ap (item_cut (word ++ 42 ∷ number)) cut
    ∙ ap₂ (λ front back. item_with (who_of front) (number_of back)) (take-append_seam word (42 ∷ number)) (drop-append-add word (42 ∷ number) 1)
    ∙ ap₂ item_with (who_of-written is) are

pub item_of-rule : (word : Word) (item : SchedItem) → item_of word ≡ Some item → HasItem word item
item_of-rule word item e = by (position is_star word) refl e
  where
    by : (o : Option ℕ) → position is_star word ≡ o → item_cut word o ≡ Some item → HasItem word item
    by None none e = made_of_both item (HasItem word) (λ w n. record { who = w; count = n }) (who_of word) (Some 1)
        (λ w n is one. let count : 1 ≡ n = cc in subst (λ m. HasItem word (record { who = w; count = m })) count (once word w (who_of-rule word w is))) e
    by (Some i) at e =
        let f = found is_star word i at in
        let star : get_or word (position_or_len is_star word) 0 ≡ 42 = eqb-true _ 42 (passes_at_first is_star word 0 f.0) in
        let whole : word ≡ take i word ++ 42 ∷ drop (i + 1) word = split_at_first is_star word 0 f.0 ∙ ap (λ b. take (position_or_len is_star word) word ++ b ∷ drop (position_or_len is_star word + 1) word) star ∙ ap (λ k. take k word ++ 42 ∷ drop (k + 1) word) (sym f.1) in
        made_of_both item (HasItem word) (λ w n. record { who = w; count = n }) (who_of (take i word)) (number_of (drop (i + 1) word))
        (λ w n is are. subst (λ x. HasItem x (record { who = w; count = n })) (sym whole) (times (take i word) (drop (i + 1) word) w n (who_of-rule _ w is) are)) e
