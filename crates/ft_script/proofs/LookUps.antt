-- Look-ups through a map.
use Rattle.std.proofs.Common.{◌≡◌, ℕ, ◌+◌, ◌||◌, Bool, cond, not, List, [], ◌∷◌, length, map, position, nat_lt, zero, suc, ◌++◌, set, get_or, arith, true, false, Some, None, refl, ap, ap₂, ◌∙◌, sym}
use Rattle.std.specs.List.{position_or_len, list_any}
use Rattle.script_waits.specs.declared.script.LinedTask.{LinedTask as KeptTask}
use Rattle.script_waits.specs.declared.script.LinedAct.{LinedAct}
use Rattle.script_waits.specs.Tasks.{lined_task}
use Rattle.ft_script.specs.Above.{push_act}

first_map : {X Y : Type 0} (p : Y → Bool) (f : X → Y) (xs : List X) → position_or_len p (map f xs) ≡ position_or_len (λ x. p (f x)) xs
first_map p f [] = refl
first_map p f (x ∷ xs) = ap (λ i. cond (not (p (f x))) (1 + i) 0) (first_map p f xs)

pub mapped_length : {X Y : Type 0} (f : X → Y) (xs : List X) → length (map f xs) ≡ length xs
mapped_length f [] = refl
mapped_length f (x ∷ xs) = ap suc (mapped_length f xs)

pub mapped_twice : {X Y Z : Type 0} (g : Y → Z) (f : X → Y) (xs : List X) → map g (map f xs) ≡ map (λ x. g (f x)) xs
mapped_twice g f [] = refl
mapped_twice g f (x ∷ xs) = ap (λ zs. g (f x) ∷ zs) (mapped_twice g f xs)

pub position_map : {X Y : Type 0} (p : Y → Bool) (f : X → Y) (xs : List X) → position p (map f xs) ≡ position (λ x. p (f x)) xs
position_map p f xs = ap₂ (λ i l. cond (nat_lt i l) (Some i) None) (first_map p f xs) (mapped_length f xs)

pub turned : (a b : Bool) → a ≡ not b → b ≡ not a
turned a true e = ap not (sym e)
turned a false e = ap not (sym e)

-- the last task with one more act
pub push-last : (ts : List KeptTask) (act : LinedAct) (i : ℕ) (x y : KeptTask) → length ts ≡ suc i → x ≡ get_or ts i x
    → lined_task y ≡ record { pid = x.pid; cpu = x.cpu; acts = x.acts.items ++ act ∷ [] } → map lined_task (set ts i y) ≡ push_act (map lined_task ts) act
push-last [] act i x y n e p = absurd (omega (arith, n))
push-last (t ∷ []) act zero x y n e p = ap (λ z. z ∷ []) (p ∙ ap (λ (z : KeptTask). record { pid = z.pid; cpu = z.cpu; acts = z.acts.items ++ act ∷ [] }) e)
push-last (t ∷ []) act (suc i) x y n e p = absurd (omega (arith, n))
push-last (t ∷ u ∷ us) act zero x y n e p = absurd (omega (arith, n))
push-last (t ∷ u ∷ us) act (suc i) x y n e p = ap (λ zs. lined_task t ∷ zs) (push-last (u ∷ us) act i x y (omega (arith, n)) e p)

any_from : {X Y : Type 0} (p : Y → Bool) (f : X → Y) (xs : List X) → list_any p (map f xs) ≡ list_any (λ x. p (f x)) xs
any_from p f [] = refl
any_from p f (x ∷ xs) = ap (λ b. p (f x) || b) (any_from p f xs)

pub any_map : {X Y : Type 0} (p : Y → Bool) (f : X → Y) (xs : List X) → list_any p (map f xs) ≡ list_any (λ x. p (f x)) xs
any_map p f xs = any_from p f xs
