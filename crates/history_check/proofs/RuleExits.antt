-- Which exits a call may have and which it lacks, by what is kept of it; and which miss is due.
use Rattle.std.proofs.Common.{◌≡◌, ℕ, zero, suc, ◌+◌, ◌<◌, ◌≤◌, ◌⊎◌, true, false, ◌==◌, nat_lt, List, [], ◌∷◌, ◌++◌, length, map, take, get_or, refl, sym, ap, ◌∙◌, subst, arith, inl, inr}
use Rattle.std.specs.Prelude.{Contains, IsTrue, ◌↔◌}
use Rattle.std.specs.List.{list_all, list_any, AllByRecursion as Each}
use Rattle.std.specs.Cmp.Derive.{both_true}
use Rattle.std.proofs.lemmas.Bool.{lt-ltb, ltb-true}
use Rattle.std.proofs.lemmas.List.{take_all, take_more}
use Rattle.ft_base.specs.declared.number.CallNo.{CallNo}
use Rattle.ft_base.specs.declared.item.Item.{Item}
use Rattle.ft_base.specs.Job.{Job}
use Rattle.ft_base.specs.Desk.{desk, is_live}
use Rattle.ft_base.proofs.Small.{false_true, and_both, Contains-head, Contains-more, Each-snoc}
use Rattle.ft_hist.specs.Past.{Visit as Told, begun, visits}
use Rattle.ft_hist.specs.Rules.{AtReturnedOrBegun, HasExit, AreExitsDone, IsExitDone, MayExit}
use Rattle.history_check.specs.declared.open_call.OpenCall.{OpenCall}
use Rattle.history_check.specs.declared.open_call.Visit.{Visit}
use Rattle.history_check.specs.TaskCalls.{IsTop, visit_of}
use Rattle.history_check.proofs.OpenStacks.{each-map as map-each}
use Rattle.history_check.proofs.RuleCalls.{exits-are, left-is, visits-are}
use Rattle.history_check.proofs.RuleTests.{no, yes}

-- ## lists, element by element

pub each-more : {A : Type 0} (P : A → Type 0) (xs : List A) (i : ℕ) (x : A) → i < length xs → x ≡ get_or xs i x → Each P (take i xs) → P x → Each P (take (i + 1) xs)
each-more P xs i x lt here h p =
    subst (λ ys. Each P ys) (ap (λ y. take i xs ++ y ∷ []) here ∙ sym (take_more xs i x lt)) (Each-snoc P (take i xs) x h p)

pub each-all : {A : Type 0} (P : A → Type 0) (xs : List A) (i : ℕ) → length xs ≤ i → Each P (take i xs) → Each P xs
each-all P xs i all h = subst (λ ys. Each P ys) (take_all i xs all) h

pub each-at : {A : Type 0} (P : A → Type 0) (xs : List A) (i : ℕ) (x : A) → i < length xs → x ≡ get_or xs i x → Each P xs → P x
each-at P [] i x lt here h = absurd (omega arith)
each-at P (y ∷ xs) zero x lt here h = subst P (sym here) h.0
each-at P (y ∷ xs) (suc i) x lt here h = each-at P xs i x (omega arith) here h.1

each-map : {A B : Type 0} (f : A → B) (P : B → Type 0) (xs : List A) → Each (λ x. P (f x)) xs → Each P (map f xs)
each-map f P [] h = tt
each-map f P (x ∷ xs) h = (h.0, each-map f P xs h.1)

-- an element as a function tells it
contains-map : {A B : Type 0} (f : A → B) (xs : List A) (i : ℕ) (x : A) → i < length xs → x ≡ get_or xs i x → Contains (map f xs) (f x)
contains-map f [] i x lt here = absurd (omega arith)
contains-map f (y ∷ xs) zero x lt here = subst (λ z. Contains (f y ∷ map f xs) z) (ap f (sym here)) (Contains-head (f y) (map f xs))
contains-map f (y ∷ xs) (suc i) x lt here = Contains-more (f y) (f x) (map f xs) (contains-map f xs i x (omega arith) here)

-- none is there if none passes
each-none : {A : Type 0} (P : A → Type 0) (xs : List A) (x : A) → Each (λ y. P y → ⊥) xs → Contains xs x → P x → ⊥
each-none P xs x h c p = each-at (λ y. P y → ⊥) xs c.0 x c.1 (sym c.2) h p

-- ## exits that are set up

-- a visit whose exit this may be
abbrev pub MayEnd : Job → List Item → CallNo → ℕ → ℕ → Visit → Type 0
MayEnd job items call u entry m =
    (m.user.0 ≡ u) × (m.place ≡ entry) × HasExit job (visit_of call m) × AtReturnedOrBegun items (λ n. is_live (desk job n) m.user.0 m.reg ≡ true)

-- a visit whose exit, if it set one up, is done
abbrev pub IsSettled : Job → List Item → CallNo → OpenCall → Visit → Type 0
IsSettled job items call t m =
    HasExit job (visit_of call m) → (list_any (λ e. e == m.place) t.exits.items ≡ true)
    ⊎ ((n : ℕ) × (t.left ≤ n) × (n ≤ begun items) × (is_live (desk job n) m.user.0 m.reg ≡ false))

module _ (job : Job) (items : List Item) (call : CallNo) (t : OpenCall) (k : IsTop job items call t) where
  -- ## an exit

  all-before : (entry : ℕ) (xs : List ℕ) → list_all (λ e. nat_lt e entry) xs ≡ true → Each (λ e. e < entry) xs
  all-before entry [] h = tt
  all-before entry (x ∷ xs) h =
      let both = and_both (nat_lt x entry) (list_all (λ e. nat_lt e entry) xs) h in (ltb-true x entry both.0, all-before entry xs both.1)

  before-all : (entry : ℕ) (xs : List ℕ) → Each (λ e. e < entry) xs → list_all (λ e. nat_lt e entry) xs ≡ true
  before-all entry [] h = refl
  before-all entry (x ∷ xs) h = both_true (lt-ltb x entry h.0) (before-all entry xs h.1)

  module _ (u entry : ℕ) where
    -- the same as it is told
    abbrev MayEndTold : Told → Type 0
    MayEndTold m = (m.user ≡ u) × (m.place ≡ entry) × HasExit job m × AtReturnedOrBegun items (λ n. is_live (desk job n) u m.reg ≡ true)

    to-told : (m : Visit) → MayEnd job items call u entry m → MayEndTold (visit_of call m)
    to-told m h = (h.0, h.1, h.2, subst (λ v. AtReturnedOrBegun items (λ n. is_live (desk job n) v m.reg ≡ true)) h.0 h.3)

    of-told : (m : Visit) → MayEndTold (visit_of call m) → MayEnd job items call u entry m
    of-told m h = (h.0, h.1, h.2, subst (λ v. AtReturnedOrBegun items (λ n. is_live (desk job n) v m.reg ≡ true)) (sym h.0) h.3)

    pub not-in-order : list_all (λ e. nat_lt e entry) t.exits.items ≡ false → IsTrue false ↔ MayExit job items call u entry
    not-in-order out = no (λ may. false_true (sym out ∙ before-all entry t.exits.items (subst (λ xs. Each (λ e. e < entry) xs) (sym (exits-are job items call t k)) may.order)))

    pub has-one : list_all (λ e. nat_lt e entry) t.exits.items ≡ true → (i : ℕ) (m : Visit) → i < length t.visits.items → m ≡ get_or t.visits.items i m → MayEnd job items call u entry m
        → IsTrue true ↔ MayExit job items call u entry
    has-one sorted i m lt here h =
        let there : Contains (visits job call items) (visit_of call m) =
        subst (λ (xs : List Told). Contains xs (visit_of call m)) (visits-are job items call t k) (contains-map (visit_of call) t.visits.items i m lt here) in
        let w = to-told m h in
        yes (record {
          of = (visit_of call m, there, w.0, w.1, w.2, w.3);
          order = subst (λ xs. Each (λ e. e < entry) xs) (exits-are job items call t k) (all-before entry t.exits.items sorted);
        })

    pub has-none : Each (λ m. MayEnd job items call u entry m → ⊥) t.visits.items → IsTrue false ↔ MayExit job items call u entry
    has-none none =
        let all : Each (λ m. MayEndTold m → ⊥) (visits job call items) =
        subst (λ (xs : List Told). Each (λ m. MayEndTold m → ⊥) xs) (visits-are job items call t k)
        (each-map (visit_of call) (λ m. MayEndTold m → ⊥) t.visits.items (weaker t.visits.items none)) in
        no (λ may. (let (m, there, user, place, exit, live) = may.of in each-none MayEndTold (visits job call items) m all there (user, place, exit, live)))
      where
        weaker : (ms : List Visit) → Each (λ m. MayEnd job items call u entry m → ⊥) ms → Each (λ m. MayEndTold (visit_of call m) → ⊥) ms
        weaker [] h = tt
        weaker (m ∷ ms) h = (λ x. h.0 (of-told m x), weaker ms h.1)

  -- ## exits that lack

  abbrev IsSettledTold : Told → Type 0
  IsSettledTold m = HasExit job m → IsExitDone job call m items

  settled-told : (m : Visit) → IsSettled job items call t m → IsSettledTold (visit_of call m)
  settled-told m h exit = elim (h exit) [
    | inl had ↦ inl (ap (λ (xs : List ℕ). list_any (λ e. e == m.place) xs) (sym (exits-are job items call t k)) ∙ had)
    | inr w ↦ inr (w.0, subst (λ n. n ≤ w.0) (left-is job items call t k) w.1, w.2, w.3)
  ]

  told-settled : (m : Visit) → IsSettledTold (visit_of call m) → IsSettled job items call t m
  told-settled m h exit = elim (h exit) [
    | inl had ↦ inl (ap (λ (xs : List ℕ). list_any (λ e. e == m.place) xs) (exits-are job items call t k) ∙ had)
    | inr w ↦ inr (w.0, subst (λ n. n ≤ w.0) (sym (left-is job items call t k)) w.1, w.2, w.3)
  ]

  pub all-settled : Each (IsSettled job items call t) t.visits.items → IsTrue true ↔ AreExitsDone job items call
  all-settled h =
      yes (subst (λ (xs : List Told). Each IsSettledTold xs) (visits-are job items call t k) (each-map (visit_of call) IsSettledTold t.visits.items (all t.visits.items h)))
    where
      all : (ms : List Visit) → Each (IsSettled job items call t) ms → Each (λ m. IsSettledTold (visit_of call m)) ms
      all [] x = tt
      all (m ∷ ms) x = (settled-told m x.0, all ms x.1)

  pub not-settled : (i : ℕ) (m : Visit) → i < length t.visits.items → m ≡ get_or t.visits.items i m → (IsSettled job items call t m → ⊥) → IsTrue false ↔ AreExitsDone job items call
  not-settled i m lt here none =
      no (λ all.
      none (told-settled m
      (each-at (λ x. IsSettledTold (visit_of call x)) t.visits.items i m lt here
      (map-each (visit_of call) IsSettledTold t.visits.items (subst (λ (xs : List Told). Each IsSettledTold xs) (sym (visits-are job items call t k)) all)))))
