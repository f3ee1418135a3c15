-- Histories of small jobs that go wrong in one place, and are not legal: one for each part of legality.
use Rattle.std.proofs.Common.{◌≡◌, ℕ, ◌≤◌, true, false, List, [], ◌∷◌, ◌++◌, Some, None, reverse, refl, sym, subst, arith, inl, inr, ap}
use Rattle.std.specs.Prelude.{Contains, slice_index_or}
use Rattle.ft_base.specs.declared.context.Ctx.TheVariants.{Normal}
use Rattle.ft_base.specs.declared.item.Ran.TheVariants.{Nop, Own}
use Rattle.ft_base.specs.declared.item.Reason.TheVariants.{Depth}
use Rattle.ft_base.specs.declared.item.Answer.TheVariants.{Accepted}
use Rattle.ft_base.specs.declared.item.Item.{Item}
use Rattle.ft_base.specs.declared.item.Item.TheVariants.{Begin, Return, Enter, Back, BackEnd, Refuse, Body, Leave, Exit, Ret}
use Rattle.ft_base.specs.Job.{Job, Unregister}
use Rattle.ft_base.specs.Desk.{desk, is_on, is_live, target}
use Rattle.ft_base.proofs.Small.{false_true}
use Rattle.ft_hist.specs.Past.{all_visits, Visit}
use Rattle.ft_hist.specs.Plain.{plain, after_item}
use Rattle.ft_hist.specs.Rules.{IsLegal, MayFollow, IsStill}
use Rattle.ft_hist.proofs.Splitting.{splits}
use Rattle.ft_hist.proofs.SmallJobs.{call_in, first_path, unordered, recursion, full_shadow_stack, registered_again, unregistered_in_call}

-- the one number between two bounds that are the same
pub between : (P : ℕ → Type 0) (n k : ℕ) → n ≤ k → k ≤ n → P k → P n
between P n k low high p = let same : k ≡ n = omega arith in subst P same p

-- the one element of a list
pub only : {A : Type 0} (y x : A) → Contains (y ∷ []) x → y ≡ x
only y x c = let zero_is : c.0 ≡ 0 = (let below = c.1 in omega arith) in subst (λ k. slice_index_or (y ∷ []) k x ≡ x) zero_is c.2

-- what stands last in a legal history
pub last : (job : Job) (before : List Item) (item : Item) → IsLegal job (before ++ item ∷ []) → MayFollow job (reverse before) item
last job before item legal = splits job (before ++ item ∷ []) before item [] legal refl

-- silence: the callback of a user that was on is left out
abbrev pub before_body : List Item
before_body = Begin 1 ∷ Return 1 Accepted ∷ Enter (call_in 0 1) Normal (record { 0 = 0 }) None ∷ []

pub callback_left_out : IsLegal first_path (before_body ++ Body (call_in 0 1) (record { 0 = 0 }) (Own (record { 0 = 0 })) ∷ []) → ⊥
unfolding desk all_visits
callback_left_out legal =
    let w = (last first_path before_body (Body (call_in 0 1) (record { 0 = 0 }) (Own (record { 0 = 0 }))) legal).silence 0 (omega arith) refl in
    let off : is_on (desk first_path 1) 0 0 ≡ false = between (λ k. is_on (desk first_path k) 0 0 ≡ false) 1 w.0 w.1 w.2 w.3 in
    false_true (sym off)

-- fetches: what ran is not what the site was
pub wrong_ran : IsLegal first_path ((before_body ++ Back (call_in 0 1) (record { 0 = 0 }) ∷ BackEnd (call_in 0 1) (record { 0 = 0 }) ∷ []) ++ Body (call_in 0 1) (record { 0 = 0 }) Nop ∷ []) → ⊥
unfolding desk all_visits
wrong_ran legal =
    let before = before_body ++ Back (call_in 0 1) (record { 0 = 0 }) ∷ BackEnd (call_in 0 1) (record { 0 = 0 }) ∷ [] in
    let w = (last first_path before (Body (call_in 0 1) (record { 0 = 0 }) Nop) legal).fetches.fetched in
    let same : Nop ≡ target (desk first_path 1) 0 = between (λ k. Nop ≡ target (desk first_path k) 0) 1 w.0 w.1 w.2 w.3 in
    absurd (cc)

-- callbacks: a user that is off is called back
pub callback_while_off : IsLegal unordered (Enter (call_in 0 1) Normal (record { 0 = 0 }) None ∷ Back (call_in 0 1) (record { 0 = 0 }) ∷ []) → ⊥
unfolding desk all_visits
callback_while_off legal =
    elim ((last unordered (Enter (call_in 0 1) Normal (record { 0 = 0 }) None ∷ []) (Back (call_in 0 1) (record { 0 = 0 })) legal).callbacks.on) [
      | inl on ↦ false_true on
      | inr on ↦ false_true on
    ]

-- callbacks: one is open where its user's unregistration returns
pub open_at_return : IsLegal unregistered_in_call ((before_body ++ Back (call_in 0 1) (record { 0 = 0 }) ∷ Begin 2 ∷ []) ++ Return 2 Accepted ∷ []) → ⊥
unfolding desk all_visits
open_at_return legal =
    let before = before_body ++ Back (call_in 0 1) (record { 0 = 0 }) ∷ Begin 2 ∷ [] in
    let still : IsStill (reverse before) (Unregister 0) = (last unregistered_in_call before (Return 2 Accepted) legal).callbacks refl in
    false_true (sym still)

-- refusals: the reason is not the right one
abbrev pub before_refusal : List Item
before_refusal = before_body ++ Back (call_in 0 1) (record { 0 = 0 }) ∷ Enter (call_in 0 2) Normal (record { 0 = 1 }) (Some (call_in 0 1)) ∷ []

pub wrong_reason : IsLegal recursion (before_refusal ++ Refuse (call_in 0 2) (record { 0 = 0 }) Depth ∷ []) → ⊥
unfolding desk all_visits
wrong_reason legal =
    let free = (last recursion before_refusal (Refuse (call_in 0 2) (record { 0 = 0 }) Depth) legal).refusals.1 in
    absurd (omega (arith, free))

-- exits: one is called for a registration that is gone
abbrev pub before_exit : List Item
before_exit =
    before_body ++ Back (call_in 0 1) (record { 0 = 0 }) ∷ BackEnd (call_in 0 1) (record { 0 = 0 }) ∷ Body (call_in 0 1) (record { 0 = 0 }) (Own (record { 0 = 0 }))
    ∷ Begin 2 ∷ Return 2 Accepted ∷ Begin 3 ∷ Return 3 Accepted ∷ Leave (call_in 0 1) ∷ []

pub exit_for_old_frame : IsLegal registered_again (before_exit ++ Exit (call_in 0 1) (record { 0 = 0 }) 3 ∷ []) → ⊥
unfolding desk all_visits
exit_for_old_frame legal =
    let of = (last registered_again before_exit (Exit (call_in 0 1) (record { 0 = 0 }) 3) legal).exits.0.of in
    let m : Visit = record { call = call_in 0 1; user = 0; reg = 1; since = 1; place = 3; back = true; framed = true } in
    let reg : 1 ≡ of.0.reg = ap (λ (x : Visit). x.reg) (only m of.0 of.1) in
    elim of.5 [
      | inl live ↦ false_true (subst (λ r. is_live (desk registered_again 3) 0 r ≡ true) (sym reg) live)
      | inr live ↦ false_true (subst (λ r. is_live (desk registered_again 3) 0 r ≡ true) (sym reg) live)
    ]

-- the plain run: a return reaches another call than the one below
abbrev pub before_return : List Item
before_return =
    before_body ++ Back (call_in 0 1) (record { 0 = 0 }) ∷ BackEnd (call_in 0 1) (record { 0 = 0 }) ∷ Body (call_in 0 1) (record { 0 = 0 }) (Own (record { 0 = 0 }))
    ∷ Enter (call_in 0 2) Normal (record { 0 = 1 }) (Some (call_in 0 1)) ∷ Back (call_in 0 2) (record { 0 = 0 }) ∷ BackEnd (call_in 0 2) (record { 0 = 0 })
    ∷ Body (call_in 0 2) (record { 0 = 1 }) (Own (record { 0 = 0 })) ∷ Enter (call_in 0 3) Normal (record { 0 = 2 }) (Some (call_in 0 2))
    ∷ Refuse (call_in 0 3) (record { 0 = 0 }) Depth ∷ Body (call_in 0 3) (record { 0 = 2 }) (Own (record { 0 = 0 })) ∷ Leave (call_in 0 3) ∷ []

pub wrong_caller : IsLegal full_shadow_stack (before_return ++ Ret (call_in 0 3) (Some (call_in 0 1)) ∷ []) → ⊥
unfolding plain after_item
wrong_caller legal = false_true ((last full_shadow_stack before_return (Ret (call_in 0 3) (Some (call_in 0 1))) legal).run 0)
