-- A desk keeps its rule while one user changes that stays registered or not, and keeps its slot.
use Rattle.std.proofs.Common.{cond, ◌≡◌, ℕ, zero, suc, ◌<◌, Bool, true, false, List, [], ◌∷◌, length, set, refl, sym, ap, ◌∙◌, arith, inl, inr, length-set, get_or-set_same, get_or-set_other, vec_capacity}
use Rattle.std.specs.List.{filter}
use Rattle.std.proofs.lemmas.Bool.{cases_eq}
use Rattle.ft_desk.specs.declared.user.User.{User}
use Rattle.ft_desk.specs.declared.desk.Desk.TheInside.{Inside}
use Rattle.ft_desk.specs.DeskInvariant.{DeskInvariant}
use Rattle.word_map.specs.Contents.{digit}
use Rattle.ft_desk.specs.Users.{no_user, user_of}

pub at-still : {X : Type 0} (g : User → X) (users : List User) (u v : ℕ) (y : User) → u < length users → g y ≡ g (user_of users u)
    → g (user_of (set users u y) v) ≡ g (user_of users v)
at-still g users u v y h e = elim (cases_eq v u) [
  | inl i ↦ ap (λ (w : ℕ). g (user_of (set users u y) w)) i ∙ ap g (get_or-set_same users u y no_user h) ∙ e ∙ sym (ap (λ (w : ℕ). g (user_of users w)) i)
  | inr ne ↦ ap g (get_or-set_other users u v y no_user ne)
]

filter-still : (p : User → Bool) (users : List User) (u : ℕ) (y : User) → u < length users → p y ≡ p (user_of users u)
    → length (filter p (set users u y)) ≡ length (filter p users)
filter-still p [] u y h e = absurd (omega arith)
filter-still p (x ∷ users) zero y h e = ap (λ b. length (cond b (y ∷ filter p users) (filter p users))) e ∙ same (p x)
  where
    same : (b : Bool) → length (cond b (y ∷ filter p users) (filter p users)) ≡ length (cond b (x ∷ filter p users) (filter p users))
    same true = refl
    same false = refl
filter-still p (x ∷ users) (suc u) y h e = by (p x) (filter-still p users u y (omega arith) e)
  where
    by : (b : Bool) → length (filter p (set users u y)) ≡ length (filter p users)
        → length (cond b (x ∷ filter p (set users u y)) (filter p (set users u y))) ≡ length (cond b (x ∷ filter p users) (filter p users))
    by true r = ap suc r
    by false r = r

-- a user that stays registered or not, and keeps its slot and number
pub record SamePlace (x y : User) : Type 0 where
  pub registered : y.registered ≡ x.registered
  pub slot : y.slot ≡ x.slot
  pub reg : y.reg ≡ x.reg

pub kept-still : (d d' : Inside) (u : ℕ) (y : User) → DeskInvariant d → u < length d.roster.users → SamePlace (user_of d.roster.users u) y
    → d'.roster.users ≡ set d.roster.users u y → d'.roster.funcs ≡ d.roster.funcs → d'.slots ≡ d.slots → d'.order ≡ d.order → d'.pids ≡ d.pids
    → vec_capacity d'.plan.sites ≡ vec_capacity d.plan.sites → d'.commands ≡ suc d.commands → DeskInvariant d'
kept-still d d' u y k within same eu ef es eo ep ec en =
    let n : length d'.roster.users ≡ length d.roster.users = ap length eu ∙ length-set d.roster.users u y in
    record {
      slots = record {
        held = λ v s small reg slot. rw es (k.slots.held v s (omega (arith, n, small)) (sym (registered v) ∙ reg) (sym (slot-at v) ∙ slot));
        holds = λ v s h. (let z = k.slots.holds v s (rw es at h) in
            ((let a = z.0 in omega (arith, n, a)), registered v.0 ∙ z.1, slot-at v.0 ∙ z.2));
      };
      listed = record {
        once = λ v small. rw eo (k.listed.once v (omega (arith, n, small))) ∙ ap digit (sym (registered v));
        size = rw eo k.listed.size ∙ sym (ap (λ (us : List User). length (filter (λ (x : User). x.registered) us)) eu ∙ filter-still (λ (x : User). x.registered) d.roster.users u y within same.registered);
      };
      list_room = (let a = k.list_room in rw eo (omega (arith, n, a)));
      site_room = (let a = k.site_room in omega (arith, ef, ec, a));
      lists = rw ep k.lists;
      numbers = λ v small. (let a = k.numbers v (omega (arith, n, small)) in let b = reg-at v in omega (arith, a, b, en));
    }
  where
    registered : (v : ℕ) → (user_of d'.roster.users v).registered ≡ (user_of d.roster.users v).registered
    registered v = ap (λ (us : List User). (user_of us v).registered) eu ∙ at-still (λ (x : User). x.registered) d.roster.users u v y within same.registered

    slot-at : (v : ℕ) → (user_of d'.roster.users v).slot ≡ (user_of d.roster.users v).slot
    slot-at v = ap (λ (us : List User). (user_of us v).slot) eu ∙ at-still (λ (x : User). x.slot) d.roster.users u v y within same.slot

    reg-at : (v : ℕ) → (user_of d'.roster.users v).reg ≡ (user_of d.roster.users v).reg
    reg-at v = ap (λ (us : List User). (user_of us v).reg) eu ∙ at-still (λ (x : User). x.reg) d.roster.users u v y within same.reg
