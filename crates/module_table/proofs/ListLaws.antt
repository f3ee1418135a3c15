-- Commands that are left of a list.
use Rattle.std.proofs.Common.{◌≡◌, ◌≢◌, ℕ, zero, suc, ◌+◌, ◌<◌, ◌≤◌, ◌==◌, Bool, true, false, not, ◌||◌, List, [], ◌∷◌, ◌++◌, length, map, get_or, set, take, drop, refl, sym, ap, ap₂, ◌∙◌, subst, arith, append_assoc, inl, inr, get_or-set_same, get_or-set_other, ext_get_or, replicate}
use Rattle.std.specs.List.{list_any, range_with_len, AllByRecursion as Each}
use Rattle.std.proofs.lemmas.Bool.{cases_eq}
use Rattle.std.proofs.lemmas.Bool.Decides.{eqb_tells}
use Rattle.std.proofs.lemmas.List.{length-map, length-set, length-replicate, get_or-replicate}
use Rattle.std.proofs.lemmas.List.FromFn.{length-range_with_len, get_or-map-range_with_len}
use Rattle.ft_base.specs.Marks.{Marks}
use Rattle.ft_base.specs.Job.{Job}
use Rattle.ft_base.specs.Desk.{Desk}
use Rattle.ft_base.proofs.Small.{or-true}
use Rattle.ft_desk.specs.declared.command.Command.{Command}
use Rattle.ft_desk.specs.Commands.{command_of}
use Rattle.module_table.specs.Lines.{desk_after, loaded_at_first}
use Rattle.module_table.specs.Made.{mask_command, mask_commands}

-- ## what is left of a list

pub drop-at : {X : Type 0} (xs : List X) (k : ℕ) (d : X) → k < length xs → drop k xs ≡ get_or xs k d ∷ drop (suc k) xs
drop-at [] k d lt = absurd (omega arith)
drop-at (x ∷ xs) zero d lt = refl
drop-at (x ∷ xs) (suc k) d lt = drop-at xs k d (omega arith)

-- the next of those that are left, and the others
module _ {X : Type 0} (xs : List X) (i : ℕ) (x : X) (lt : i < length xs) (is : x ≡ get_or xs i x) where
  pub left-is : drop i xs ≡ x ∷ drop (i + 1) xs
  left-is = drop-at xs i x lt ∙ ap₂ (λ y k. y ∷ drop k xs) (sym is) (let e : suc i ≡ i + 1 = omega arith in e)

  pub left-each : (P : X → Type 0) → Each P (drop i xs) → P x × Each P (drop (i + 1) xs)
  left-each P h = subst (Each P) left-is h

  pub left-length : length (drop i xs) ≡ suc (length (drop (i + 1) xs))
  left-length = ap length left-is

pub drop-past : {X : Type 0} (xs : List X) (k : ℕ) → length xs ≤ k → drop k xs ≡ []
drop-past [] zero le = refl
drop-past [] (suc k) le = refl
drop-past (x ∷ xs) zero le = absurd (omega arith)
drop-past (x ∷ xs) (suc k) le = drop-past xs k (omega arith)

-- ## commands that are carried out one by one

pub run-step : (job : Job) (tasks : ℕ) (cs : List Command) (i : ℕ) (c : Command) (old new : Desk) (k k' : ℕ) → i < length cs → c ≡ get_or cs i c
    → new ≡ desk_after job old k (command_of tasks c ∷ []) → k' ≡ k + 1
    → desk_after job new k' (map (command_of tasks) (drop (i + 1) cs)) ≡ desk_after job old k (map (command_of tasks) (drop i cs))
run-step job tasks cs i c old new k k' lt is e count =
    ap₂ (λ desk n. desk_after job desk n (map (command_of tasks) (drop (i + 1) cs))) e (count ∙ (let s : k + 1 ≡ suc k = omega arith in s))
    ∙ sym (ap (λ (rest : List Command). desk_after job old k (map (command_of tasks) rest)) (left-is cs i c lt is))

-- ## masks that are made one by one

pub mask-step : (owns : List Marks) (h : Marks) (u : ℕ) (own : Marks) (made : List Command) (c : Command) → u < length owns → own ≡ get_or owns u own
    → c ≡ mask_command u own h → (made ++ c ∷ []) ++ mask_commands (u + 1) (drop (u + 1) owns) h ≡ made ++ mask_commands u (drop u owns) h
mask-step owns h u own made c lt is e =
    append_assoc made (c ∷ []) (mask_commands (u + 1) (drop (u + 1) owns) h)
    ∙ ap (λ (rest : List Command). made ++ rest) (ap₂ (λ x k. x ∷ mask_commands k (drop (u + 1) owns) h) e (let s : u + 1 ≡ suc u = omega arith in s)
    ∙ sym (ap (λ (rest : List Marks). mask_commands u rest h) (left-is owns u own lt is)))

-- ## which modules are loaded at first

any-push : (p : ℕ → Bool) (xs : List ℕ) (x : ℕ) → list_any p (xs ++ x ∷ []) ≡ (list_any p xs || p x)
any-push p [] x = by (p x)
  where
    by : (b : Bool) → (b || false) ≡ b
    by true = refl
    by false = refl
any-push p (y ∷ xs) x = by (p y) (any-push p xs x)
  where
    by : (b : Bool) → list_any p (xs ++ x ∷ []) ≡ (list_any p xs || p x) → (b || list_any p (xs ++ x ∷ [])) ≡ ((b || list_any p xs) || p x)
    by true deeper = refl
    by false deeper = deeper

loaded-at : (n : ℕ) (absent : List ℕ) (k : ℕ) → k < n → get_or (loaded_at_first n absent) k true ≡ not (list_any (λ a. a == k) absent)
loaded-at n absent k lt = get_or-map-range_with_len (λ m. not (list_any (λ a. a == m) absent)) 0 n k k true lt (omega arith)

pub length-loaded : (n : ℕ) (absent : List ℕ) → length (loaded_at_first n absent) ≡ n
length-loaded n absent = length-map (range_with_len 0 n) _ ∙ length-range_with_len 0 n

-- at first each is loaded
pub loaded-none : (n : ℕ) → replicate n true ≡ loaded_at_first n []
loaded-none n = ext_get_or true (replicate n true) (loaded_at_first n []) (length-replicate {A = Bool} n true ∙ sym (length-loaded n []))
    (λ k lt. let l : k < n = omega (arith, length-replicate {A = Bool} n true) in get_or-replicate n k true true l ∙ sym (loaded-at n [] k l))

-- and one after another is taken out
pub loaded-step : (n : ℕ) (absent : List ℕ) (a : ℕ) → a < n → set (loaded_at_first n absent) a false ≡ loaded_at_first n (absent ++ a ∷ [])
loaded-step n absent a la = ext_get_or true (set (loaded_at_first n absent) a false) (loaded_at_first n (absent ++ a ∷ []))
    (length-set (loaded_at_first n absent) a false ∙ length-loaded n absent ∙ sym (length-loaded n (absent ++ a ∷ [])))
    (λ k lt. at k (omega (arith, length-set (loaded_at_first n absent) a false, length-loaded n absent)))
  where
    at : (k : ℕ) → k < n → get_or (set (loaded_at_first n absent) a false) k true ≡ get_or (loaded_at_first n (absent ++ a ∷ [])) k true
    at k lk = elim (cases_eq k a) [
      | inl same ↦ ap (λ i. get_or (set (loaded_at_first n absent) a false) i true) same
          ∙ get_or-set_same (loaded_at_first n absent) a false true (omega (arith, length-loaded n absent))
          ∙ sym (loaded-at n (absent ++ a ∷ []) k lk ∙ ap not (any-push (λ x. x == k) absent a ∙ ap (λ b. list_any (λ x. x == k) absent || b) (equal a k (sym same)) ∙ or-true (list_any (λ x. x == k) absent)))
      | inr apart ↦ get_or-set_other (loaded_at_first n absent) a k false true apart ∙ loaded-at n absent k lk
          ∙ sym (loaded-at n (absent ++ a ∷ []) k lk ∙ ap not (any-push (λ x. x == k) absent a ∙ ap (λ b. list_any (λ x. x == k) absent || b) (differs a k (λ e. apart (sym e))) ∙ or-none (list_any (λ x. x == k) absent)))
    ]
      where
        equal : (x y : ℕ) → x ≡ y → (x == y) ≡ true
        equal x y e = elim (eqb_tells x y) [ inl t ↦ t.0 | inr q ↦ absurd (q.1 e) ]

        differs : (x y : ℕ) → x ≢ y → (x == y) ≡ false
        differs x y ne = elim (eqb_tells x y) [ inl t ↦ absurd (ne t.1) | inr q ↦ q.0 ]

        or-none : (b : Bool) → (b || false) ≡ b
        or-none true = refl
        or-none false = refl

pub take-left : {X : Type 0} (xs : List X) (i : ℕ) (x d : X) → i < length xs → x ≡ get_or xs i d → take (i + 1) xs ≡ take i xs ++ x ∷ []
take-left xs i x d lt is = ap (λ k. take k xs) (let e : i + 1 ≡ suc i = omega arith in e) ∙ by xs i lt is
  where
    by : (ys : List _) (k : ℕ) → k < length ys → x ≡ get_or ys k d → take (suc k) ys ≡ take k ys ++ x ∷ []
    by [] k l e = absurd (omega arith)
    by (y ∷ ys) zero l e = ap (λ z. z ∷ []) (sym e)
    by (y ∷ ys) (suc k) l e = ap (λ zs. y ∷ zs) (by ys k (omega arith) e)
