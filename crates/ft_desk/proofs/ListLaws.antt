-- The neighbours of a user in a list of users.
use Rattle.std.proofs.Common.{cond, ◌≡◌, ℕ, zero, suc, ◌<◌, ◌≤◌, ◌==◌, true, List, [], ◌∷◌, length, map, drop, get_or, Option, Some, None, refl, ap, ◌∙◌, arith}
use Rattle.ft_base.specs.declared.number.UserNo.{UserNo}
use Rattle.ft_desk.specs.Plans.{first_of, user_after, user_before, user_no}

abbrev numbers : List UserNo → List ℕ
numbers order = map (λ (v : UserNo). v.0) order

pub drop-at : (xs : List UserNo) (k : ℕ) (d : UserNo) → k < length xs → drop k xs ≡ get_or xs k d ∷ drop (suc k) xs
drop-at [] k d h = absurd (omega arith)
drop-at (x ∷ xs) zero d h = refl
drop-at (x ∷ xs) (suc k) d h = drop-at xs k d (omega arith)

pub drop-past : (xs : List UserNo) (k : ℕ) → length xs ≤ k → drop k xs ≡ []
drop-past [] zero h = refl
drop-past [] (suc k) h = refl
drop-past (x ∷ xs) zero h = absurd (omega arith)
drop-past (x ∷ xs) (suc k) h = drop-past xs k (omega arith)

module _ (xs : List UserNo) (k u : ℕ) (d : UserNo) where
  -- the user stands here: those before it are done
  pub before-found : (b : Option UserNo) → k < length xs → ((get_or xs k d).0 == u) ≡ true → user_before b u (numbers (drop k xs)) ≡ b
  before-found b h e = ap (λ ys. user_before b u (numbers ys)) (drop-at xs k d h) ∙ ap (λ t. cond t b (user_before (Some (user_no (get_or xs k d).0)) u (numbers (drop (suc k) xs)))) e

  pub after-found : k < length xs → ((get_or xs k d).0 == u) ≡ true → user_after u (numbers (drop k xs)) ≡ first_of (numbers (drop (suc k) xs))
  after-found h e = ap (λ ys. user_after u (numbers ys)) (drop-at xs k d h) ∙ ap (λ t. cond t (first_of (numbers (drop (suc k) xs))) (user_after u (numbers (drop (suc k) xs)))) e

  pub before-ends : (b : Option UserNo) → length xs ≤ k → user_before b u (numbers (drop k xs)) ≡ b
  before-ends b h = ap (λ ys. user_before b u (numbers ys)) (drop-past xs k h)

  pub after-ends : length xs ≤ k → user_after u (numbers (drop k xs)) ≡ None
  after-ends h = ap (λ ys. user_after u (numbers ys)) (drop-past xs k h)
