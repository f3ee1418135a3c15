-- The leaves of a user, over one more item before the others.
use Rattle.std.proofs.Common.{cond, ◌≡◌, ℕ, zero, suc, ◌+◌, ◌<◌, ◌≤◌, ◌-◌, drop, Bool, true, false, not, ◌==◌, List, [], ◌∷◌, ◌++◌, length, reverse, set, get_or, Option, Some, None, refl, sym, ap, ◌∙◌, subst, add-one, arith}
use Rattle.std.specs.Prelude.{slice_get}
use Rattle.std.specs.List.{AllByRecursion as Each}
use Rattle.std.proofs.lemmas.List.{drop_all, reverse-append}
use Rattle.ft_base.specs.declared.number.CallNo.{CallNo}
use Rattle.ft_base.specs.declared.number.UserNo.{UserNo}
use Rattle.ft_base.specs.declared.item.Item.{Item}
use Rattle.ft_base.specs.declared.item.Item.TheVariants.{Back, Exit}
use Rattle.ft_base.proofs.Small.{false_true}
use Rattle.trace_views.specs.declared.leaves.NextExit.{NextExit}
use Rattle.trace_views.specs.declared.leaves.Leaves.{Leaves}
use Rattle.trace_views.specs.GraphText.{is_here, leaf_exit}
use Rattle.trace_views.specs.ByTask.{IsByTask}
use Rattle.trace_views.specs.Leaves.{leaf_exits, next_exit, exit_for, IsLeaves}
use Rattle.trace_views.proofs.TaskLists.{by_task-set, by_task-same}
use Rattle.trace_views.proofs.ItemTexts.{drop_at_get}

-- a test that isn't passed by its opposite
pub not_false : (b : Bool) → not b ≡ false → b ≡ true
not_false true e = refl
not_false false e = false_true (sym e)

-- the user's next callback tells whether an entry callback is a leaf
exit-cond : (b : Bool) (entry : ℕ) (x y : Option NextExit) → exit_for entry (cond b x y) ≡ cond b (exit_for entry x) (exit_for entry y)
exit-cond true entry x y = refl
exit-cond false entry x y = refl

cond-else : {A : Type 0} (b : Bool) (x y z : A) → y ≡ z → cond b x y ≡ cond b x z
cond-else true x y z e = refl
cond-else false x y z e = e

pub leaf-is : (u t entry p : ℕ) (rest : List Item) → exit_for entry (next_exit u t p rest) ≡ leaf_exit u t entry p rest
leaf-is u t entry p [] = refl
leaf-is u t entry p (Back call v ∷ rest) = exit-cond (is_here u t v.0 call) entry None _ ∙ cond-else (is_here u t v.0 call) None _ _ (leaf-is u t entry (suc p) rest)
leaf-is u t entry p (Exit call v e ∷ rest) =
    exit-cond (is_here u t v.0 call) entry (Some (record { place = p; entry = e })) _
    ∙ cond-else (is_here u t v.0 call) (cond (e == entry) (Some p) None) _ _ (leaf-is u t entry (suc p) rest)
leaf-is u t entry p (_ ∷ rest) = leaf-is u t entry (suc p) rest

reverse-cons : {A : Type 0} (x : A) (xs : List A) → reverse (x ∷ xs) ≡ reverse xs ++ x ∷ []
reverse-cons x xs = reverse-append (x ∷ []) xs

module _ (u tasks p : ℕ) (rest : List Item) (old new : Leaves) (kept : IsLeaves u tasks (p + 1) rest old) where
  next-old : IsByTask tasks None (λ t. next_exit u t (suc p) rest) old.next.items
  next-old = by_task-same tasks None (λ t. next_exit u t (p + 1) rest) (λ t. next_exit u t (suc p) rest) old.next.items old.next.items kept.next refl (λ t. ap (λ q. next_exit u t q rest) (sym (add-one p)))

  exits-old : old.exits.items ≡ reverse (leaf_exits u (suc p) rest)
  exits-old = kept.exits ∙ ap (λ q. reverse (leaf_exits u q rest)) (add-one p)

  pub leaves-back : (item : Item) (call : CallNo) (v : UserNo) → item ≡ Back call v → (v.0 == u) ≡ true → call.task.0 < tasks → (exit : Option ℕ) → exit ≡ exit_for p (get_or old.next.items call.task.0 None)
      → new.next.items ≡ set old.next.items call.task.0 None → new.exits.items ≡ old.exits.items ++ exit ∷ [] → IsLeaves u tasks p (item ∷ rest) new
  leaves-back item call v here own lt exit is same more = subst (λ (x : Item). IsLeaves u tasks p (x ∷ rest) new) (sym here) (record {
    next = by_task-set tasks None (λ t. next_exit u t (suc p) rest) (λ t. next_exit u t p (Back call v ∷ rest)) old.next.items new.next.items next-old call.task.0 None lt same (λ t. rw own refl);
    exits = rw (own, more, exits-old, is, next-old.each call.task.0 lt, leaf-is u call.task.0 p (suc p) rest) (sym (reverse-cons _ (leaf_exits u (suc p) rest)));
  })

-- ## from the end of a history to its start

-- what holds of each item holds of the one at a place
pub each-get : {A : Type 0} (P : A → Type 0) (xs : List A) (i : ℕ) (x : A) → slice_get xs i ≡ Some x → Each P xs → P x
each-get P [] i x e h = absurd cc
each-get P (y ∷ ys) zero x e h = let s : y ≡ x = cc in subst P s h.0
each-get P (y ∷ ys) (suc i) x e h = each-get P ys i x e h.1

pub leaves-none : (u tasks : ℕ) (items : List Item) (p : ℕ) (leaves : Leaves) → length items ≤ p → IsLeaves u tasks p [] leaves → IsLeaves u tasks p (drop p items) leaves
leaves-none u tasks items p leaves le kept = subst (λ rest. IsLeaves u tasks p rest leaves) (sym (drop_all p items le)) kept

pub leaves-before : (u tasks : ℕ) (items : List Item) (p : ℕ) (item : Item) (old new : Leaves) → 0 < p → slice_get items (p - 1) ≡ Some item
    → ((rest : List Item) → IsLeaves u (length old.next.items) (p - 1 + 1) rest old → IsLeaves u (length old.next.items) (p - 1) (item ∷ rest) new)
    → IsLeaves u tasks p (drop p items) old → IsLeaves u tasks (p - 1) (drop (p - 1) items) new
leaves-before u tasks items p item old new lt here step kept =
    let back : p - 1 + 1 ≡ p = omega (arith, lt) in
    let next : suc (p - 1) ≡ p = omega (arith, lt) in
    let now : IsLeaves u (length old.next.items) (p - 1 + 1) (drop p items) old = rw (kept.next.tasks', back) kept in
    let then : IsLeaves u tasks (p - 1) (item ∷ drop p items) new = subst (λ n. IsLeaves u n (p - 1) (item ∷ drop p items) new) kept.next.tasks' (step (drop p items) now) in
    subst (λ rest. IsLeaves u tasks (p - 1) rest new) (ap (λ n. item ∷ drop n items) (sym next) ∙ sym (drop_at_get items (p - 1) item here)) then
