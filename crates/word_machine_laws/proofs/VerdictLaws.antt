-- What a task has loaded goes on over the stores of control.
use Rattle.std.proofs.Common.{◌≡◌, ◌⊎◌, ℕ, suc, ◌≤◌, Bool, true, false, List, cond, inl, inr, refl, sym, subst, arith}
use Rattle.ft_base.specs.declared.item.Item.{Item}
use Rattle.ft_hist.specs.Rules.{AtReturnedOrBegun}
use Rattle.ft_base.specs.Job.{Job}
use Rattle.ft_base.proofs.Small.{false_true}
use Rattle.word_machine.specs.Commands.{Effect, effect}
use Rattle.word_machine.specs.Control.{Position, Line, Close}
use Rattle.word_machine.specs.Progress.{waits, HoldsAt, ClosingHolds, SeenAt, underway, selected, listed, pids_stored, depth_stored}
use Rattle.word_machine.specs.Verdicts.{Here, Seen}
use Rattle.word_machine.specs.Rule.{Counts}

-- a test of what was loaded
pub seen_map : (b : Bool) (z : Effect) (p : Position) (request q : ℕ) (old new old' new' : Type 0) → (old → old') → (new → new')
    → SeenAt b z p request q old new → SeenAt b z p request q old' new'
seen_map false z p request q old new old' new' f g s = f s
seen_map true z p request q old new old' new' f g (inl x) = inl (g x)
seen_map true z p request q old new old' new' f g (inr x) = inr (x.0, x.1, f x.2)

-- in the history's words: after the commands that have returned, or, once the word is stored, those that have begun
pub seen_either : (b : Bool) (z : Effect) (p : Position) (request q : ℕ) (old new : Type 0) → SeenAt b z p request q old new → old ⊎ ((b ≡ true) × new)
seen_either false z p request q old new s = inl s
seen_either true z p request q old new (inl x) = inr (refl, x)
seen_either true z p request q old new (inr x) = inl x.2

-- other rows of control
pub seen_still : (b : Bool) (z : Effect) (p p' : Position) (request request' q : ℕ) (old new : Type 0) → (HoldsAt z p request q → HoldsAt z p' request' q)
    → SeenAt b z p request q old new → SeenAt b z p' request' q old new
seen_still false z p p' request request' q old new f s = s
seen_still true z p p' request request' q old new f (inl x) = inl x
seen_still true z p p' request request' q old new f (inr x) = inr (x.0, f x.1, x.2)

-- the return of a command
pub seen_close : (z z' : Effect) (p' : Position) (request q : ℕ) (old new newer : Type 0) → (waits z ≡ true → request ≤ q)
    → SeenAt true z Close request q old new → SeenAt false z' p' request q new newer
seen_close z z' p' request q old new newer passed (inl x) = x
seen_close z z' p' request q old new newer passed (inr x) =
    absurd (let h : ClosingHolds true request q = subst (λ b. ClosingHolds b request q) x.0 x.1 in let p = passed x.0 in omega (arith, h, p))

-- a word is stored only while its command is under way
pub selected-underway : (p : Position) → selected p ≡ true → underway p ≡ true
selected-underway Line e = false_true e
selected-underway _ e = refl

pub listed-underway : (p : Position) → listed p ≡ true → underway p ≡ true
listed-underway Line e = false_true e
listed-underway _ e = refl

pub pids-underway : (p : Position) → pids_stored p ≡ true → underway p ≡ true
pids-underway Line e = false_true e
pids-underway _ e = refl

pub depth-underway : (p : Position) → depth_stored p ≡ true → underway p ≡ true
depth-underway Line e = false_true e
depth-underway _ e = refl

-- what was loaded holds at the last returned command or at the last begun one
pub either_of : (job : Job) (h : Here) (q clock : ℕ) (past : List Item) (b : Bool) (P : ℕ → Type 0) → Counts h.d h.p clock past
    → (b ≡ true → underway h.p ≡ true) → Seen job h q b P → AtReturnedOrBegun past P
either_of job h q clock past b P counts stored s =
    elim (seen_either b (effect job h.d) h.p h.request q (P h.d) (P (suc h.d)) s) [
      | inl x ↦ inl (subst P (sym counts.returned) x)
      | inr x ↦ inr (subst P (sym counts.started) (subst (λ (n : Bool). P (cond n (suc h.d) h.d)) (sym (stored x.0)) x.1))
    ]
