-- The open callbacks that are kept, told one by one.
use Rattle.std.proofs.Common.{cond, ◌≡◌, ℕ, suc, ◌+◌, ◌<◌, ◌≤◌, Bool, true, false, not, ◌&&◌, ◌||◌, ◌==◌, List, [], ◌∷◌, ◌++◌, drop, take, get_or, length, map, Option, Some, None, refl, sym, ap, ◌∙◌, subst, arith, add-one, append_assoc}
use Rattle.std.specs.Prelude.{count_by, IfSome, IsTrue, ◌↔◌}
use Rattle.std.specs.Option.{IsSome, OnSome}
use Rattle.std.specs.List.{list_any, remove}
use Rattle.std.proofs.lemmas.Bool.{not-true}
use Rattle.std.proofs.lemmas.List.{at_drop_all, at_drop_more, append-nil, map-append, take_all, take_more}
use Rattle.std.proofs.lemmas.List.Sums.{sum_by-cons}
use Rattle.ft_base.specs.declared.number.CallNo.{CallNo}
use Rattle.ft_base.specs.declared.item.Item.{Item}
use Rattle.ft_base.specs.Same.{same_call}
use Rattle.ft_base.specs.Job.{Job, Command, command_at}
use Rattle.ft_base.proofs.Small.{false_true}
use Rattle.ft_hist.specs.Past.{callbacks, ended, is_called}
use Rattle.ft_hist.specs.Past as told
use Rattle.ft_hist.specs.Rules.{IsStill}
use Rattle.history_check.specs.declared.callbacks.Callback.{Callback}
use Rattle.history_check.specs.CallbackList.{callback_of}
use Rattle.history_check.specs.TakenOff.{taken_by, taken_off}

pub any-told : (test : told.Callback → Bool) (bs : List Callback) → list_any (λ b. test (callback_of b)) bs ≡ list_any test (map callback_of bs)
any-told test [] = refl
any-told test (b ∷ bs) = ap (λ x. test (callback_of b) || x) (any-told test bs)

-- ## a count

module _ (test : told.Callback → Bool) (bs : List Callback) (i n : ℕ) where
  abbrev rest : ℕ → ℕ
  rest j = count_by test (map callback_of (drop j bs))

  counts-one : (b : Callback) → i < length bs → b ≡ get_or bs i b → rest i ≡ cond (test (callback_of b)) 1 0 + rest (i + 1)
  counts-one b lt at =
      at_drop_more (λ (xs : List Callback). count_by test (map callback_of xs)) bs i b lt
      ∙ sum_by-cons (λ (x : told.Callback). cond (test x) 1 0) (callback_of (get_or bs i b)) (map callback_of (drop (i + 1) bs))
      ∙ ap (λ (x : Callback). cond (test (callback_of x)) 1 0 + rest (i + 1)) (sym at)

  pub counts-more : (b : Callback) → i < length bs → b ≡ get_or bs i b → test (callback_of b) ≡ true → n + rest i ≡ count_by test (map callback_of bs) → n + 1 + rest (i + 1) ≡ count_by test (map callback_of bs)
  counts-more b lt at pass so-far =
      let one : rest i ≡ 1 + rest (i + 1) = counts-one b lt at ∙ ap (λ x. cond x 1 0 + rest (i + 1)) pass in
      omega (arith, one, so-far)

  pub counts-same : (b : Callback) → i < length bs → b ≡ get_or bs i b → test (callback_of b) ≡ false → n + rest i ≡ count_by test (map callback_of bs) → n + rest (i + 1) ≡ count_by test (map callback_of bs)
  counts-same b lt at fail so-far =
      let none : rest i ≡ 0 + rest (i + 1) = counts-one b lt at ∙ ap (λ x. cond x 1 0 + rest (i + 1)) fail in
      omega (arith, none, so-far)

  pub counts-all : length bs ≤ i → n + rest i ≡ count_by test (map callback_of bs) → n ≡ count_by test (map callback_of bs)
  counts-all over so-far =
      let none : rest i ≡ 0 = at_drop_all (λ xs. count_by test (map callback_of xs)) bs i over in
      omega (arith, none, so-far)

-- ## an end

module _ (call : CallNo) (u : ℕ) (bs : List Callback) where
  -- none of those before this place is the one that ends
  abbrev pub EndsFrom : ℕ → Type 0
  EndsFrom j = ended call u (map callback_of bs) ≡ map callback_of (take j bs) ++ ended call u (map callback_of (drop j bs))

  abbrev is_this : Callback → Bool
  is_this b = same_call b.call call && (b.user.0 == u)

  ends-one : (i : ℕ) (b : Callback) → i < length bs → b ≡ get_or bs i b → ended call u (map callback_of (drop i bs)) ≡ cond (is_this b) (map callback_of (drop (i + 1) bs)) (callback_of b ∷ ended call u (map callback_of (drop (i + 1) bs)))
  ends-one i b lt at =
      at_drop_more (λ xs. ended call u (map callback_of xs)) bs i b lt
      ∙ ap (λ x. cond (is_this x) (map callback_of (drop (i + 1) bs)) (callback_of x ∷ ended call u (map callback_of (drop (i + 1) bs)))) (sym at)

  pub ends-here : (i : ℕ) (b : Callback) → i < length bs → b ≡ get_or bs i b → is_this b ≡ true → EndsFrom i → map callback_of (remove bs i) ≡ ended call u (map callback_of bs)
  ends-here i b lt at pass before =
      map-append callback_of (take i bs) (drop (suc i) bs)
      ∙ ap (λ n. map callback_of (take i bs) ++ map callback_of (drop n bs)) (sym (add-one i))
      ∙ sym (before ∙ ap (λ xs. map callback_of (take i bs) ++ xs) (ends-one i b lt at ∙ ap (λ x. cond x (map callback_of (drop (i + 1) bs)) (callback_of b ∷ ended call u (map callback_of (drop (i + 1) bs)))) pass))

  pub ends-later : (i : ℕ) (b : Callback) → i < length bs → b ≡ get_or bs i b → is_this b ≡ false → EndsFrom i → EndsFrom (i + 1)
  ends-later i b lt at fail before =
      before
      ∙ ap (λ xs. map callback_of (take i bs) ++ xs) (ends-one i b lt at ∙ ap (λ x. cond x (map callback_of (drop (i + 1) bs)) (callback_of b ∷ ended call u (map callback_of (drop (i + 1) bs)))) fail)
      ∙ sym (append_assoc (map callback_of (take i bs)) (callback_of b ∷ []) (ended call u (map callback_of (drop (i + 1) bs))))
      ∙ ap (λ xs. xs ++ ended call u (map callback_of (drop (i + 1) bs))) (sym (ap (map callback_of) (take_more bs i b lt ∙ ap (λ x. take i bs ++ x ∷ []) (sym at)) ∙ map-append callback_of (take i bs) (b ∷ [])))

  pub none-ends : (i : ℕ) → length bs ≤ i → EndsFrom i → map callback_of bs ≡ ended call u (map callback_of bs)
  none-ends i over before = sym (before ∙ ap (λ xs. map callback_of (take i bs) ++ xs) (at_drop_all (λ xs. ended call u (map callback_of xs)) bs i over) ∙ append-nil (map callback_of (take i bs)) ∙ ap (map callback_of) (take_all i bs over))

-- what holds if there is a value, and there is one
pub at-some : {A P : Type 0} (o : Option A) → IsSome o → OnSome o P → P
at-some None some h = false_true some
at-some (Some x) some h = h

-- ## a command that takes a user off

-- it may return exactly if no callback of the user is open
pub still-some : (job : Job) (past : List Item) (bs : List told.Callback) → bs ≡ callbacks past → (n u : ℕ) → taken_off job n ≡ Some u → (b : Bool) → b ≡ list_any (λ c. c.user == u) bs
    → IsTrue (not b) ↔ IfSome (command_at job n) (IsStill past)
still-some job past bs open' n u off b is = by (command_at job n) off
  where
    still : IsTrue (not b) ↔ (is_called u past ≡ false)
    still =
        let same : is_called u past ≡ b = sym (is ∙ ap (λ (cs : List told.Callback). list_any (λ c. c.user == u) cs) open') in
        (λ t. same ∙ not-true b t, λ f. ap not (sym same ∙ f))

    by : (o : Option Command) → taken_by o ≡ Some u → IsTrue (not b) ↔ IfSome o (IsStill past)
    by None e = absurd cc
    by (Some c) e = subst (λ (o : Option ℕ). IsTrue (not b) ↔ IfSome o (λ v. is_called v past ≡ false)) (sym e) still
