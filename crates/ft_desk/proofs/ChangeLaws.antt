-- The functions that a user comes to and leaves, by what a command makes of it.
use Rattle.std.proofs.Common.{◌≡◌, ℕ, ◌<◌, Bool, true, false, ◌&&◌, List, length, set, Option, refl, sym, ap, ap₂, ◌∙◌, subst, inl, inr, get_or-set_same, get_or-set_other}
use Rattle.std.proofs.lemmas.Bool.{cases_eq}
use Rattle.ft_base.specs.Marks.{Marks, holds}
use Rattle.ft_base.specs.Desk.{matches_by}
use Rattle.ft_base.proofs.Small.{false_true}
use Rattle.ft_desk.specs.declared.user.User.{User}
use Rattle.ft_desk.specs.Users.{enrolled, is_at, no_user, retired, user_of}
use Rattle.ft_desk.proofs.RosterLaws.{SameSlots, IsMove, comes_by, leaves_by}

-- the user is not registered
pub off : (x : User) (f : ℕ) → x.registered ≡ false → is_at f x ≡ false
off x f e = ap (λ b. b && matches_by x.pair.filter x.pair.notrace f) e

-- the user is registered
pub on : (x : User) (f : ℕ) → x.registered ≡ true → is_at f x ≡ matches_by x.pair.filter x.pair.notrace f
on x f e = ap (λ b. b && matches_by x.pair.filter x.pair.notrace f) e

comes-true : (b : Bool) → b ≡ comes_by false b
comes-true true = refl
comes-true false = refl

leaves-true : (b : Bool) → b ≡ leaves_by b false
leaves-true true = refl
leaves-true false = refl

leaves-none : (b : Bool) → false ≡ leaves_by false b
leaves-none b = refl

comes-none : (b : Bool) → false ≡ comes_by b false
comes-none b = refl

module _ (n : ℕ) (x y : User) (came left : Marks) (came_size : length came ≡ n) (left_size : length left ≡ n) where
  -- it is registered: it comes to each function that it matches
  pub enrolls : (since : ℕ) (slot : Option ℕ) → y ≡ enrolled since slot x → x.registered ≡ false
      → ((f : ℕ) → f < n → holds came f ≡ matches_by x.pair.filter x.pair.notrace f) → ((f : ℕ) → holds left f ≡ false) → IsMove n x y came left
  enrolls since slot e not_yet members none = record {
    came_size = came_size;
    left_size = left_size;
    comes = λ f small.
        members f small ∙ comes-true _
        ∙ ap₂ comes_by (sym (off x f not_yet)) (sym (ap (is_at f) e));
    leaves = λ f small. none f ∙ leaves-none (is_at f y) ∙ ap (λ a. leaves_by a (is_at f y)) (sym (off x f not_yet));
  }

  -- it is unregistered: it leaves each function that it matches
  pub retires : y ≡ retired x → x.registered ≡ true
      → ((f : ℕ) → f < n → holds left f ≡ matches_by x.pair.filter x.pair.notrace f) → ((f : ℕ) → holds came f ≡ false) → IsMove n x y came left
  retires e there members none = record {
    came_size = came_size;
    left_size = left_size;
    comes = λ f small. none f ∙ comes-none (is_at f x) ∙ ap (comes_by (is_at f x)) (sym (ap (is_at f) e));
    leaves = λ f small. members f small ∙ leaves-true _ ∙ ap₂ leaves_by (sym (on x f there)) (sym (ap (is_at f) e));
  }

-- ## slots

-- a list of users has its own slots
pub slots-same : (f : ℕ) (users : List User) → SameSlots f users users
slots-same f users v there = refl

-- a user that is at no function does not count, whatever stands in its place
pub slots-without : (f u : ℕ) (users : List User) (y : User) → u < length users → is_at f (user_of users u) ≡ false → SameSlots f users (set users u y)
slots-without f u users y within gone v there = elim (cases_eq v u) [
  | inl e ↦ false_true (sym gone ∙ subst (λ i. is_at f (user_of users i) ≡ true) e there.1)
  | inr ne ↦ ap (λ (z : User). z.slot) (get_or-set_other users u v y no_user ne)
]

pub slots-with : (f u : ℕ) (users : List User) (y : User) → u < length users → is_at f y ≡ false → SameSlots f (set users u y) users
slots-with f u users y within gone v there = elim (cases_eq v u) [
  | inl e ↦ false_true (sym (ap (is_at f) (get_or-set_same users u y no_user within) ∙ gone) ∙ subst (λ i. is_at f (user_of (set users u y) i) ≡ true) e there.1)
  | inr ne ↦ sym (ap (λ (z : User). z.slot) (get_or-set_other users u v y no_user ne))
]
