-- The open calls of a task, and how often a user was called back in them, over one more item.
use Rattle.std.proofs.Common.{cond, ◌≡◌, ℕ, suc, ◌+◌, ◌≤◌, Bool, true, false, not, ◌&&◌, ◌==◌, List, [], ◌∷◌, length, filter, Option, refl, sym, ap, ap₂, ◌∙◌, subst, arith, eqb-true, inl, inr}
use Rattle.std.specs.List.{AllByRecursion as Each}
use Rattle.std.proofs.lemmas.Bool.Decides.{eqb_tells}
use Rattle.std.proofs.lemmas.List.Elements.{filter_agree}
use Rattle.ft_base.specs.declared.number.CallNo.{CallNo}
use Rattle.ft_base.specs.declared.number.FuncNo.{FuncNo}
use Rattle.ft_base.specs.declared.context.Ctx.{Ctx}
use Rattle.ft_base.specs.declared.item.Item.{Item}
use Rattle.ft_base.specs.declared.item.Item.TheVariants.{Enter, Back, Ret}
use Rattle.ft_base.specs.Same.{same_call}
use Rattle.ft_base.proofs.Small.{==-refl, and-false, Each-weaker, filter-ext}
use Rattle.ft_hist.specs.Past.{is_open}
use Rattle.ft_hist.proofs.Laws.{same_call-refl}
use Rattle.ft_hist.proofs.RunLaws.{same_call-eq}
use Rattle.trace_views.specs.GraphText.{called, level}
use Rattle.trace_views.specs.GraphWalks.{is_open_in, backs_in, backs_open, IsFresh}

-- ## calls that are the same

eqb-turned : (a b : ℕ) → (a == b) ≡ (b == a)
eqb-turned a b = elim (eqb_tells a b) [
  | inl e ↦ (let same : a ≡ b = e.1 in rw same refl)
  | inr e ↦ elim (eqb_tells b a) [ inl f ↦ absurd (e.1 (sym f.1)) | inr f ↦ e.0 ∙ sym f.0 ]
]

pub same_call-turned : (a b : CallNo) → same_call a b ≡ same_call b a
same_call-turned a b = ap₂ (λ x y. x && y) (eqb-turned a.task.0 b.task.0) (eqb-turned a.n b.n)

-- calls of other tasks are other calls
pub other-task : (call c : CallNo) (t : ℕ) → (call.task.0 == t) ≡ false → (c.task.0 == t) ≡ true → same_call call c ≡ false
other-task call c t other own = let e : t ≡ c.task.0 = sym (eqb-true c.task.0 t own) in let apart : (call.task.0 == c.task.0) ≡ false = subst (λ n. (call.task.0 == n) ≡ false) e other in rw apart refl

-- ## lists of calls

filter-twice : {X : Type 0} (p q : X → Bool) (xs : List X) → filter (λ x. q x && p x) xs ≡ filter q (filter p xs)
filter-twice p q [] = refl
filter-twice {X = X} p q (x ∷ xs) =
    elim (p x) as (λ a. cond (q x && a) (x ∷ filter (λ y. q y && p y) xs) (filter (λ y. q y && p y) xs) ≡ filter q (cond a (x ∷ filter p xs) (filter p xs))) [
      | true ↦ elim (q x) as (λ b. cond (b && true) (x ∷ filter (λ y. q y && p y) xs) (filter (λ y. q y && p y) xs) ≡ cond b (x ∷ filter q (filter p xs)) (filter q (filter p xs))) [
        | true ↦ ap (λ (ys : List X). x ∷ ys) (filter-twice p q xs)
        | false ↦ filter-twice p q xs
      ]
      | false ↦ rw (and-false (q x)) (filter-twice p q xs)
    ]

pub filter-nothing : {X : Type 0} (p : X → Bool) (xs : List X) → Each (λ x. p x ≡ false) xs → filter p xs ≡ []
filter-nothing p [] h = refl
filter-nothing p (x ∷ xs) h = rw h.0 (filter-nothing p xs h.1)

filter-short : {X : Type 0} (p : X → Bool) (xs : List X) → length (filter p xs) ≤ length xs
filter-short p [] = omega arith
filter-short p (x ∷ xs) =
    let h = filter-short p xs in
    elim (p x) as (λ b. length (cond b (x ∷ filter p xs) (filter p xs)) ≤ suc (length xs)) [ true ↦ omega (arith, h) | false ↦ omega (arith, h) ]

-- those that pass are the call's and the others that pass
abbrev Splits : CallNo → (CallNo → Bool) → List CallNo → CallNo → Type 0
Splits call p cs d =
    length (filter (λ e. not (same_call call e)) (cond (p d) (d ∷ filter p cs) (filter p cs))) + length (cond (same_call d call) (d ∷ filter (λ e. same_call e call) cs) (filter (λ e. same_call e call) cs))
    ≡ length (cond (p d) (d ∷ filter p cs) (filter p cs))

count-split : (call : CallNo) (p : CallNo → Bool) (cs : List CallNo) → p call ≡ true
    → length (filter (λ c. not (same_call call c)) (filter p cs)) + length (filter (λ c. same_call c call) cs) ≡ length (filter p cs)
count-split call p [] h = omega arith
count-split call p (c ∷ cs) h = by (same_call c call) refl (count-split call p cs h)
  where
    by : (b : Bool) → same_call c call ≡ b → length (filter (λ e. not (same_call call e)) (filter p cs)) + length (filter (λ e. same_call e call) cs) ≡ length (filter p cs) → Splits call p cs c
    by true e more =
        let is : call ≡ c = sym (same_call-eq c call e) in
        subst (λ (d : CallNo). Splits call p cs d) is (rw (h, same_call-refl call) (omega (arith, more)))
    by false e more =
        let e' : same_call call c ≡ false = same_call-turned call c ∙ e in
        elim (p c) as (λ b. length (filter (λ d. not (same_call call d)) (cond b (c ∷ filter p cs) (filter p cs))) + length (cond (same_call c call) (c ∷ filter (λ d. same_call d call) cs) (filter (λ d. same_call d call) cs)) ≡ length (cond b (c ∷ filter p cs) (filter p cs))) [
          | true ↦ rw (e, e') (omega (arith, more))
          | false ↦ rw e more
        ]

-- ## one more item and the calls that are open

-- an Enter of a new call opens it alone
pub pick-enter : (t : ℕ) (call : CallNo) (ctx : Ctx) (f : FuncNo) (caller : Option CallNo) (past : List Item) (cs : List CallNo) → IsFresh call cs
    → filter (is_open_in t (Enter call ctx f caller ∷ past)) cs ≡ filter (is_open_in t past) cs
pick-enter t call ctx f caller past cs h =
    filter-ext (is_open_in t (Enter call ctx f caller ∷ past)) (is_open_in t past) cs
    (Each-weaker (λ c. same_call call c ≡ false) (λ c. is_open_in t (Enter call ctx f caller ∷ past) c ≡ is_open_in t past c) cs (λ c e. rw e refl) h)

-- a Ret leaves the calls of other tasks open
pub pick-ret-other : (t : ℕ) (call : CallNo) (to : Option CallNo) (past : List Item) (cs : List CallNo) → (call.task.0 == t) ≡ false
    → filter (is_open_in t (Ret call to ∷ past)) cs ≡ filter (is_open_in t past) cs
pick-ret-other t call to past cs other = filter_agree (is_open_in t (Ret call to ∷ past)) (is_open_in t past) (λ c. of c (c.task.0 == t) refl) cs
  where
    of : (c : CallNo) (b : Bool) → (c.task.0 == t) ≡ b → is_open_in t (Ret call to ∷ past) c ≡ is_open_in t past c
    of c true own = rw (other-task call c t other own) refl
    of c false own = rw own refl

-- and those of its own task but the call
pub pick-ret : (t : ℕ) (call : CallNo) (to : Option CallNo) (past : List Item) (cs : List CallNo)
    → filter (is_open_in t (Ret call to ∷ past)) cs ≡ filter (λ c. not (same_call call c)) (filter (is_open_in t past) cs)
pick-ret t call to past cs =
    filter_agree (is_open_in t (Ret call to ∷ past)) (λ c. not (same_call call c) && is_open_in t past c) (λ c. turned (c.task.0 == t) (not (same_call call c)) (is_open c past)) cs
    ∙ filter-twice (is_open_in t past) (λ c. not (same_call call c)) cs
  where
    turned : (a b d : Bool) → (a && (b && d)) ≡ (b && (a && d))
    turned true b d = refl
    turned false b d = sym (and-false b)

-- ## levels

-- the level of a call is the callbacks in the other open calls of its task
pub level-shape : (u : ℕ) (call : CallNo) (past : List Item) → level u call past ≡ length (filter (λ c. not (same_call call c)) (filter (is_open_in call.task.0 past) (called u past)))
level-shape u call past =
    ap length (filter_agree (λ c. (c.task.0 == call.task.0) && not (same_call c call) && is_open c past) (λ c. not (same_call call c) && is_open_in call.task.0 past c) (λ c. turned c) (called u past)
    ∙ filter-twice (is_open_in call.task.0 past) (λ c. not (same_call call c)) (called u past))
  where
    swap : (a b d : Bool) → ((a && b) && d) ≡ (b && (a && d))
    swap true b d = refl
    swap false b d = sym (and-false b)

    turned : (c : CallNo) → ((c.task.0 == call.task.0) && not (same_call c call) && is_open c past) ≡ (not (same_call call c) && is_open_in call.task.0 past c)
    turned c = swap (c.task.0 == call.task.0) (not (same_call c call)) (is_open c past) ∙ ap (λ b. not b && is_open_in call.task.0 past c) (same_call-turned c call)

-- with those in the call itself they are all
pub level-is : (u : ℕ) (call : CallNo) (past : List Item) → is_open call past ≡ true → level u call past + backs_in u call past ≡ backs_open u call.task.0 past
level-is u call past open' =
    ap (λ n. n + backs_in u call past) (level-shape u call past) ∙ count-split call (is_open_in call.task.0 past) (called u past) (rw (==-refl call.task.0) open')

called-short : (u : ℕ) (past : List Item) → length (called u past) ≤ length past
called-short u [] = omega arith
called-short u (Back c v ∷ past) =
    let h = called-short u past in
    elim (v.0 == u) as (λ b. length (cond b (c ∷ called u past) (called u past)) ≤ suc (length past)) [ true ↦ omega (arith, h) | false ↦ omega (arith, h) ]
called-short u (_ ∷ past) = let h = called-short u past in omega (arith, h)

-- as many callbacks at most as there are items
pub backs_open-short : (u t : ℕ) (past : List Item) → backs_open u t past ≤ length past
backs_open-short u t past = let a = filter-short (is_open_in t past) (called u past) in let b = called-short u past in omega (arith, a, b)
