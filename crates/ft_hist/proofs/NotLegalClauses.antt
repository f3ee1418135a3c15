-- One history of a small job for each clause of legality that no history of NotLegal speaks of: up to an item that breaks this clause.
use Rattle.std.proofs.Common.{◌≡◌, ℕ, ◌<◌, ◌≤◌, ◌⊎◌, true, false, List, [], ◌∷◌, ◌++◌, Some, None, reverse, refl, sym, ap, ◌∙◌, subst, arith, inl, inr}
use Rattle.ft_base.specs.declared.context.Ctx.TheVariants.{Normal}
use Rattle.ft_base.specs.declared.item.Ran.TheVariants.{Nop, List as ByList, Own}
use Rattle.ft_base.specs.declared.item.Reason.TheVariants.{Pid as ByPid, Recursion, Depth}
use Rattle.ft_base.specs.declared.item.Answer.TheVariants.{Accepted}
use Rattle.ft_base.specs.declared.item.Item.{Item}
use Rattle.ft_base.specs.declared.item.Item.TheVariants.{Begin, Return, Enter, Back, BackEnd, Refuse, Miss, Body, Leave, Exit, ExitEnd, Ret}
use Rattle.ft_base.specs.declared.user.Kind.TheVariants.{Function, Graph}
use Rattle.ft_base.specs.declared.user.Act.TheVariants.{CallIn}
use Rattle.ft_base.specs.Job.{Job, Command, Register, Unregister, Disable, MaxDepth, Pid, Run, Until}
use Rattle.ft_base.specs.Desk.{desk, is_live, answer_at, spec_at}
use Rattle.ft_base.specs.Kinds.{cancels}
use Rattle.ft_base.proofs.Small.{false_true}
use Rattle.ft_hist.specs.Past.{all_visits, Visit}
use Rattle.ft_hist.specs.Plain.{plain, after_item}
use Rattle.ft_hist.specs.Rules.{IsLegal, IsWhole, IsStill}
use Rattle.ft_hist.proofs.NotLegal.{last, between, only, before_body, before_refusal}
use Rattle.ft_hist.proofs.SmallJobs.{call_in, plain_user, one_task, two_calls, first_path, list_then_own, repeated_commands, two_ipmodify_users, recursion, two_levels, full_shadow_stack, fprobe_misses, fprobe_cancels, registered_again, pids, disabled_fprobe, profile_user}

-- ## callbacks

-- a user is called back twice in a call
pub visited_twice : IsLegal first_path ((before_body ++ Back (call_in 0 1) (record { 0 = 0 }) ∷ BackEnd (call_in 0 1) (record { 0 = 0 }) ∷ []) ++ Back (call_in 0 1) (record { 0 = 0 }) ∷ []) → ⊥
unfolding desk all_visits
visited_twice legal =
    let before = before_body ++ Back (call_in 0 1) (record { 0 = 0 }) ∷ BackEnd (call_in 0 1) (record { 0 = 0 }) ∷ [] in
    false_true (sym (last first_path before (Back (call_in 0 1) (record { 0 = 0 })) legal).callbacks.once)

-- the user that was registered first is called back first
abbrev before_second : List Item
before_second = Begin 1 ∷ Return 1 Accepted ∷ Begin 2 ∷ Return 2 Accepted ∷ Enter (call_in 0 1) Normal (record { 0 = 0 }) None ∷ Back (call_in 0 1) (record { 0 = 0 }) ∷ BackEnd (call_in 0 1) (record { 0 = 0 }) ∷ []

pub earlier_user_first : IsLegal list_then_own (before_second ++ Back (call_in 0 1) (record { 0 = 1 }) ∷ []) → ⊥
unfolding desk all_visits
earlier_user_first legal =
    let lt : 2 < 1 = (last list_then_own before_second (Back (call_in 0 1) (record { 0 = 1 })) legal).callbacks.order.0 in
    absurd (omega (arith, lt))

-- an fprobe's disabling returns within its callback
pub open_at_disabling : IsLegal disabled_fprobe ((before_body ++ Back (call_in 0 1) (record { 0 = 0 }) ∷ Begin 2 ∷ []) ++ Return 2 Accepted ∷ []) → ⊥
unfolding desk all_visits
open_at_disabling legal =
    let before = before_body ++ Back (call_in 0 1) (record { 0 = 0 }) ∷ Begin 2 ∷ [] in
    let still : IsStill (reverse before) (Disable 0) = (last disabled_fprobe before (Return 2 Accepted) legal).callbacks refl in
    false_true (sym still)

-- an unregistration returns within an exit callback
abbrev unregistered : Job
unregistered = one_task (plain_user Graph ∷ []) two_calls (Run (Register 0) ∷ Run (Unregister 0) ∷ [])

abbrev before_unregistered : List Item
before_unregistered =
    before_body ++ Back (call_in 0 1) (record { 0 = 0 }) ∷ BackEnd (call_in 0 1) (record { 0 = 0 }) ∷ Body (call_in 0 1) (record { 0 = 0 }) (Own (record { 0 = 0 }))
    ∷ Leave (call_in 0 1) ∷ Exit (call_in 0 1) (record { 0 = 0 }) 3 ∷ Begin 2 ∷ []

pub exit_open_at_unregistration : IsLegal unregistered (before_unregistered ++ Return 2 Accepted ∷ []) → ⊥
unfolding desk all_visits
exit_open_at_unregistration legal =
    let still : IsStill (reverse before_unregistered) (Unregister 0) = (last unregistered before_unregistered (Return 2 Accepted) legal).callbacks refl in
    false_true (sym still)

-- ## refusals

-- for the pid, of a user without the flag
pub pid_without_flag : IsLegal first_path (before_body ++ Refuse (call_in 0 1) (record { 0 = 0 }) ByPid ∷ []) → ⊥
unfolding desk all_visits
pid_without_flag legal = false_true ((last first_path before_body (Refuse (call_in 0 1) (record { 0 = 0 }) ByPid) legal).refusals.0)

-- for the pid, of a task that is allowed
abbrev before_allowed : List Item
before_allowed = Begin 1 ∷ Return 1 Accepted ∷ Begin 2 ∷ Return 2 Accepted ∷ Enter (call_in 0 1) Normal (record { 0 = 0 }) None ∷ []

pub pid_of_allowed_task : IsLegal pids (before_allowed ++ Refuse (call_in 0 1) (record { 0 = 0 }) ByPid ∷ []) → ⊥
unfolding desk all_visits
pid_of_allowed_task legal = elim ((last pids before_allowed (Refuse (call_in 0 1) (record { 0 = 0 }) ByPid) legal).refusals.1) [ inl x ↦ false_true (sym x) | inr x ↦ false_true (sym x) ]

-- a callback of a task that isn't allowed
abbrev before_barred : List Item
before_barred = Begin 1 ∷ Return 1 Accepted ∷ Begin 2 ∷ Return 2 Accepted ∷ Enter (call_in 1 1) Normal (record { 0 = 0 }) None ∷ []

pub callback_of_barred_task : IsLegal pids (before_barred ++ Back (call_in 1 1) (record { 0 = 0 }) ∷ []) → ⊥
unfolding desk all_visits
callback_of_barred_task legal = elim ((last pids before_barred (Back (call_in 1 1) (record { 0 = 0 })) legal).refusals.pid refl) [ inl x ↦ false_true x | inr x ↦ false_true x ]

-- for recursion, outside of any callback
pub recursion_outside : IsLegal first_path (before_body ++ Refuse (call_in 0 1) (record { 0 = 0 }) Recursion ∷ []) → ⊥
unfolding desk all_visits
recursion_outside legal = (let full = (last first_path before_body (Refuse (call_in 0 1) (record { 0 = 0 }) Recursion) legal).refusals.1 in absurd (omega (arith, full)))

-- and at two levels, while one of them is free
pub recursion_at_a_free_level : IsLegal two_levels (before_refusal ++ Refuse (call_in 0 2) (record { 0 = 0 }) Recursion ∷ []) → ⊥
unfolding desk all_visits
recursion_at_a_free_level legal = (let full = (last two_levels before_refusal (Refuse (call_in 0 2) (record { 0 = 0 }) Recursion) legal).refusals.1 in absurd (omega (arith, full)))

-- a callback within one of the same task and context
pub callback_in_callback : IsLegal recursion (before_refusal ++ Back (call_in 0 2) (record { 0 = 0 }) ∷ []) → ⊥
unfolding desk all_visits
callback_in_callback legal = (let free = (last recursion before_refusal (Back (call_in 0 2) (record { 0 = 0 })) legal).refusals.free in absurd (omega (arith, free)))

-- and at two levels, within two
abbrev before_third_level : List Item
before_third_level = before_refusal ++ Back (call_in 0 2) (record { 0 = 0 }) ∷ Enter (call_in 0 3) Normal (record { 0 = 1 }) (Some (call_in 0 2)) ∷ []

pub callback_in_two_callbacks : IsLegal two_levels (before_third_level ++ Back (call_in 0 3) (record { 0 = 0 }) ∷ []) → ⊥
unfolding desk all_visits
callback_in_two_callbacks legal = (let free = (last two_levels before_third_level (Back (call_in 0 3) (record { 0 = 0 })) legal).refusals.free in absurd (omega (arith, free)))

-- for recursion, or for depth, of a task that the pid rule bars. It is in a callback of another user, which holds the only level of version 1,
-- or one of the two of version 2, and the only frame
abbrev barred : ℕ → Job
barred version = record pids {
  version = version;
  users = record (plain_user Graph) { pid = true } ∷ record (plain_user Graph) { act = Some (CallIn (record { 0 = 0 })) } ∷ [];
  frames = 1;
  ctls = Run (Register 0) ∷ Run (Register 1) ∷ Run (Pid (true ∷ false ∷ [])) ∷ [];
}

abbrev before_barred_act : List Item
before_barred_act =
    Begin 1 ∷ Return 1 Accepted ∷ Begin 2 ∷ Return 2 Accepted ∷ Begin 3 ∷ Return 3 Accepted ∷ Enter (call_in 1 1) Normal (record { 0 = 0 }) None ∷ Back (call_in 1 1) (record { 0 = 1 })
    ∷ Enter (call_in 1 2) Normal (record { 0 = 0 }) (Some (call_in 1 1)) ∷ []

pub recursion_of_barred_task : IsLegal (barred 1) (before_barred_act ++ Refuse (call_in 1 2) (record { 0 = 0 }) Recursion ∷ []) → ⊥
unfolding desk all_visits
recursion_of_barred_task legal =
    elim ((last (barred 1) before_barred_act (Refuse (call_in 1 2) (record { 0 = 0 }) Recursion) legal).refusals.0 refl) [ inl x ↦ false_true x | inr x ↦ false_true x ]

pub depth_of_barred_task : IsLegal (barred 2) (before_barred_act ++ Refuse (call_in 1 2) (record { 0 = 0 }) Depth ∷ []) → ⊥
unfolding desk all_visits
depth_of_barred_task legal =
    elim ((last (barred 2) before_barred_act (Refuse (call_in 1 2) (record { 0 = 0 }) Depth) legal).refusals.0 refl) [ inl x ↦ false_true x | inr x ↦ false_true x ]

-- for depth, of a user that the depth rule doesn't bind
pub depth_of_function_user : IsLegal first_path (before_body ++ Refuse (call_in 0 1) (record { 0 = 0 }) Depth ∷ []) → ⊥
unfolding desk all_visits
depth_of_function_user legal = false_true ((last first_path before_body (Refuse (call_in 0 1) (record { 0 = 0 }) Depth) legal).refusals.2)

-- for depth, while a frame is free and there is no graph depth
abbrev before_inner : List Item
before_inner =
    before_body ++ Back (call_in 0 1) (record { 0 = 0 }) ∷ BackEnd (call_in 0 1) (record { 0 = 0 }) ∷ Body (call_in 0 1) (record { 0 = 0 }) (Own (record { 0 = 0 }))
    ∷ Enter (call_in 0 2) Normal (record { 0 = 1 }) (Some (call_in 0 1)) ∷ []

pub depth_with_free_frame : IsLegal full_shadow_stack (before_inner ++ Refuse (call_in 0 2) (record { 0 = 0 }) Depth ∷ []) → ⊥
unfolding desk all_visits
depth_with_free_frame legal = elim ((last full_shadow_stack before_inner (Refuse (call_in 0 2) (record { 0 = 0 }) Depth) legal).refusals.3) [
  | inl full ↦ (let e : 1 ≡ 2 = full in absurd (omega (arith, e)))
  | inr deep ↦ elim deep [ inl x ↦ (let lt : 0 < 0 = x.0 in absurd (omega (arith, lt))) | inr x ↦ (let lt : 0 < 0 = x.0 in absurd (omega (arith, lt))) ]
]

-- a graph user is called back though the other calls hold all frames
abbrev before_third : List Item
before_third =
    before_inner ++ Back (call_in 0 2) (record { 0 = 0 }) ∷ BackEnd (call_in 0 2) (record { 0 = 0 }) ∷ Body (call_in 0 2) (record { 0 = 1 }) (Own (record { 0 = 0 }))
    ∷ Enter (call_in 0 3) Normal (record { 0 = 2 }) (Some (call_in 0 2)) ∷ []

pub callback_without_frame : IsLegal full_shadow_stack (before_third ++ Back (call_in 0 3) (record { 0 = 0 }) ∷ []) → ⊥
unfolding desk all_visits
callback_without_frame legal =
    let lt : 2 < 2 = (last full_shadow_stack before_third (Back (call_in 0 3) (record { 0 = 0 })) legal).refusals.room refl in
    absurd (omega (arith, lt))

-- and though they reach the graph depth
abbrev shallow : Job
shallow = one_task (plain_user Graph ∷ []) two_calls (Run (MaxDepth 1) ∷ Run (Register 0) ∷ [])

abbrev before_deep : List Item
before_deep =
    Begin 1 ∷ Return 1 Accepted ∷ Begin 2 ∷ Return 2 Accepted ∷ Enter (call_in 0 1) Normal (record { 0 = 0 }) None ∷ Back (call_in 0 1) (record { 0 = 0 }) ∷ BackEnd (call_in 0 1) (record { 0 = 0 })
    ∷ Body (call_in 0 1) (record { 0 = 0 }) (Own (record { 0 = 0 })) ∷ Enter (call_in 0 2) Normal (record { 0 = 1 }) (Some (call_in 0 1)) ∷ []

pub callback_below_graph_depth : IsLegal shallow (before_deep ++ Back (call_in 0 2) (record { 0 = 0 }) ∷ []) → ⊥
unfolding desk all_visits
callback_below_graph_depth legal =
    elim ((last shallow before_deep (Back (call_in 0 2) (record { 0 = 0 })) legal).refusals.level refl) [ inl x ↦ reached 1 1 refl refl x | inr x ↦ reached 1 1 refl refl x ]
  where
    reached : (depth held : ℕ) → depth ≡ 1 → held ≡ 1 → (depth ≡ 0) ⊎ (held < depth) → ⊥
    reached depth held d h (inl e) = absurd (omega (arith, d, e))
    reached depth held d h (inr lt) = absurd (omega (arith, d, h, lt))

-- ## fetches

-- a user is called back in a call that fetched the nop, while its registration is under way
abbrev under_way : Job
under_way = one_task (plain_user Function ∷ []) two_calls (Run (Register 0) ∷ [])

abbrev before_nop : List Item
before_nop = Enter (call_in 0 1) Normal (record { 0 = 0 }) None ∷ Begin 1 ∷ Back (call_in 0 1) (record { 0 = 0 }) ∷ BackEnd (call_in 0 1) (record { 0 = 0 }) ∷ []

pub callback_at_nop : IsLegal under_way (before_nop ++ Body (call_in 0 1) (record { 0 = 0 }) Nop ∷ []) → ⊥
unfolding desk all_visits
callback_at_nop legal = let none = (last under_way before_nop (Body (call_in 0 1) (record { 0 = 0 }) Nop) legal).fetches.only in absurd (cc)

-- and in a call that fetched another user's trampoline
abbrev one_of_two : Job
one_of_two = one_task (plain_user Function ∷ plain_user Function ∷ []) two_calls (Run (Register 0) ∷ Run (Register 1) ∷ Run (Unregister 0) ∷ [])

abbrev before_own : List Item
before_own =
    Begin 1 ∷ Return 1 Accepted ∷ Begin 2 ∷ Return 2 Accepted ∷ Enter (call_in 0 1) Normal (record { 0 = 0 }) None ∷ Back (call_in 0 1) (record { 0 = 1 }) ∷ BackEnd (call_in 0 1) (record { 0 = 1 })
    ∷ Back (call_in 0 1) (record { 0 = 0 }) ∷ BackEnd (call_in 0 1) (record { 0 = 0 }) ∷ Begin 3 ∷ []

pub callback_at_others_trampoline : IsLegal one_of_two (before_own ++ Body (call_in 0 1) (record { 0 = 0 }) (Own (record { 0 = 1 })) ∷ []) → ⊥
unfolding desk all_visits
callback_at_others_trampoline legal =
    let same : 0 ≡ 1 = (last one_of_two before_own (Body (call_in 0 1) (record { 0 = 0 }) (Own (record { 0 = 1 }))) legal).fetches.only.0 in
    absurd (omega (arith, same))

-- two users that replace the function are called back in one call
abbrev before_two : List Item
before_two = Enter (call_in 0 1) Normal (record { 0 = 1 }) None ∷ Back (call_in 0 1) (record { 0 = 1 }) ∷ BackEnd (call_in 0 1) (record { 0 = 1 }) ∷ Back (call_in 0 1) (record { 0 = 0 }) ∷ BackEnd (call_in 0 1) (record { 0 = 0 }) ∷ []

pub replaced_twice : IsLegal two_ipmodify_users (before_two ++ Body (call_in 0 1) (record { 0 = 3 }) ByList ∷ []) → ⊥
unfolding desk all_visits
replaced_twice legal =
    let le : 2 ≤ 1 = (last two_ipmodify_users before_two (Body (call_in 0 1) (record { 0 = 3 }) ByList) legal).fetches.one in
    absurd (omega (arith, le))

-- the called function runs in the place of its replacement
abbrev before_replaced : List Item
before_replaced = Enter (call_in 0 1) Normal (record { 0 = 1 }) None ∷ Back (call_in 0 1) (record { 0 = 1 }) ∷ BackEnd (call_in 0 1) (record { 0 = 1 }) ∷ []

pub not_replaced : IsLegal two_ipmodify_users (before_replaced ++ Body (call_in 0 1) (record { 0 = 1 }) (Own (record { 0 = 1 })) ∷ []) → ⊥
unfolding desk all_visits
not_replaced legal =
    let same : 1 ≡ 3 = (last two_ipmodify_users before_replaced (Body (call_in 0 1) (record { 0 = 1 }) (Own (record { 0 = 1 }))) legal).fetches.runs in
    absurd (omega (arith, same))

-- ## commands

-- the second command begins first
pub begins_with_the_second : IsLegal first_path ([] ++ Begin 2 ∷ []) → ⊥
begins_with_the_second legal = let same : 2 ≡ 1 = (last first_path [] (Begin 2) legal).commands.0.number in absurd (omega (arith, same))

-- a command begins while another is under way
pub begins_twice : IsLegal list_then_own ((Begin 1 ∷ []) ++ Begin 2 ∷ []) → ⊥
begins_twice legal = let same : 1 ≡ 0 = (last list_then_own (Begin 1 ∷ []) (Begin 2) legal).commands.0.follows in absurd (omega (arith, same))

-- a command begins that the job doesn't have
pub begins_too_many : IsLegal first_path ((Begin 1 ∷ Return 1 Accepted ∷ []) ++ Begin 2 ∷ []) → ⊥
begins_too_many legal = let lt : 1 < 1 = (last first_path (Begin 1 ∷ Return 1 Accepted ∷ []) (Begin 2) legal).commands.0.stands in absurd (omega (arith, lt))

-- a command begins before the wait above it is met
pub begins_before_its_wait : IsLegal registered_again ((Begin 1 ∷ Return 1 Accepted ∷ []) ++ Begin 2 ∷ []) → ⊥
unfolding plain after_item
begins_before_its_wait legal = let le : 2 ≤ 1 = (last registered_again (Begin 1 ∷ Return 1 Accepted ∷ []) (Begin 2) legal).commands.1.0 in absurd (omega (arith, le))

-- and while the call that it waits for is in its dispatch
abbrev waiting : Job → Job
waiting job = record job { ctls = Run (Register 0) ∷ Until 0 2 ∷ Run (Unregister 0) ∷ [] }

pub begins_in_the_dispatch : IsLegal (waiting first_path) (before_body ++ Begin 2 ∷ []) → ⊥
unfolding plain after_item
begins_in_the_dispatch legal = let le : 2 ≤ 1 = (last (waiting first_path) before_body (Begin 2) legal).commands.1.0 in absurd (omega (arith, le))

-- also if a call that a user's act makes there runs its body
abbrev before_wait : List Item
before_wait = before_refusal ++ Refuse (call_in 0 2) (record { 0 = 0 }) Recursion ∷ Body (call_in 0 2) (record { 0 = 1 }) (Own (record { 0 = 0 })) ∷ []

pub begins_in_a_users_call : IsLegal (waiting recursion) (before_wait ++ Begin 2 ∷ []) → ⊥
unfolding plain after_item
begins_in_a_users_call legal = let le : 2 ≤ 1 = (last (waiting recursion) before_wait (Begin 2) legal).commands.1.0 in absurd (omega (arith, le))

-- a command returns that hasn't begun
pub returns_unbegun : IsLegal first_path ([] ++ Return 1 Accepted ∷ []) → ⊥
returns_unbegun legal = let same : 0 ≡ 1 = (last first_path [] (Return 1 Accepted) legal).commands.follows in absurd (omega (arith, same))

-- a command returns another answer
abbrev before_answer : List Item
before_answer = Begin 1 ∷ Return 1 Accepted ∷ Begin 2 ∷ []

pub another_answer : IsLegal repeated_commands (before_answer ++ Return 2 Accepted ∷ []) → ⊥
unfolding desk
another_answer legal =
    let c = (last repeated_commands before_answer (Return 2 Accepted) legal).commands.command in
    let is : Register 0 ≡ c.0 = cc in
    let answer : Accepted ≡ answer_at repeated_commands 1 (Register 0) = subst (λ (x : Command). Accepted ≡ answer_at repeated_commands 1 x) (sym is) c.2 in
    absurd (cc)

-- ## misses and exits

-- a Miss that is due is left out
abbrev before_miss : List Item
before_miss = before_inner ++ Back (call_in 0 2) (record { 0 = 0 }) ∷ []

pub miss_left_out : IsLegal fprobe_misses (before_miss ++ BackEnd (call_in 0 2) (record { 0 = 0 }) ∷ []) → ⊥
unfolding desk all_visits
miss_left_out legal = let none = (last fprobe_misses before_miss (BackEnd (call_in 0 2) (record { 0 = 0 })) legal).exits in absurd (cc)

-- a Miss comes that isn't due
pub miss_not_due : IsLegal fprobe_cancels (before_miss ++ Miss (call_in 0 2) (record { 0 = 0 }) ∷ []) → ⊥
unfolding desk all_visits
miss_not_due legal = false_true ((last fprobe_cancels before_miss (Miss (call_in 0 2) (record { 0 = 0 })) legal).exits.1)

-- an exit comes twice; in their order none can
abbrev before_again : List Item
before_again =
    before_body ++ Back (call_in 0 1) (record { 0 = 0 }) ∷ BackEnd (call_in 0 1) (record { 0 = 0 }) ∷ Body (call_in 0 1) (record { 0 = 0 }) (Own (record { 0 = 0 }))
    ∷ Leave (call_in 0 1) ∷ Exit (call_in 0 1) (record { 0 = 0 }) 3 ∷ ExitEnd (call_in 0 1) (record { 0 = 0 }) ∷ []

pub exit_twice : IsLegal profile_user (before_again ++ Exit (call_in 0 1) (record { 0 = 0 }) 3 ∷ []) → ⊥
unfolding desk all_visits
exit_twice legal =
    let lt : 3 < 3 = (last profile_user before_again (Exit (call_in 0 1) (record { 0 = 0 }) 3) legal).exits.0.order.0 in
    absurd (omega (arith, lt))

-- an exit lacks though its registration is live
abbrev before_lack : List Item
before_lack =
    before_body ++ Back (call_in 0 1) (record { 0 = 0 }) ∷ BackEnd (call_in 0 1) (record { 0 = 0 }) ∷ Body (call_in 0 1) (record { 0 = 0 }) (Own (record { 0 = 0 })) ∷ Leave (call_in 0 1) ∷ []

pub exit_left_out : IsLegal profile_user (before_lack ++ Ret (call_in 0 1) None ∷ []) → ⊥
unfolding desk all_visits
exit_left_out legal =
    elim ((last profile_user before_lack (Ret (call_in 0 1) None) legal).exits.0.0 (refl, refl, refl)) [
      | inl had ↦ false_true had
      | inr dead ↦ (
          let off : is_live (desk profile_user 1) 0 1 ≡ false = between (λ k. is_live (desk profile_user k) 0 1 ≡ false) 1 dead.0 dead.1 dead.2 dead.3 in
          false_true (sym off)
          )
    ]

-- an exit of a user that has none
pub exit_of_function_user : IsLegal first_path (before_lack ++ Exit (call_in 0 1) (record { 0 = 0 }) 3 ∷ []) → ⊥
unfolding desk all_visits
exit_of_function_user legal =
    let of = (last first_path before_lack (Exit (call_in 0 1) (record { 0 = 0 }) 3) legal).exits.0.of in
    let m : Visit = record { call = call_in 0 1; user = 0; reg = 1; since = 1; place = 3; back = true; framed = false } in
    let wants : false ≡ of.0.framed = ap (λ (x : Visit). x.framed) (only m of.0 of.1) in
    false_true (wants ∙ of.4.1)

-- and of an fprobe whose entry callback cancels it
abbrev before_cancelled : List Item
before_cancelled = before_inner ++ Back (call_in 0 2) (record { 0 = 0 }) ∷ BackEnd (call_in 0 2) (record { 0 = 0 }) ∷ Body (call_in 0 2) (record { 0 = 1 }) (Own (record { 0 = 0 })) ∷ Leave (call_in 0 2) ∷ []

pub exit_that_was_cancelled : IsLegal fprobe_cancels (before_cancelled ++ Exit (call_in 0 2) (record { 0 = 0 }) 7 ∷ []) → ⊥
unfolding desk all_visits
exit_that_was_cancelled legal =
    let of = (last fprobe_cancels before_cancelled (Exit (call_in 0 2) (record { 0 = 0 }) 7) legal).exits.0.of in
    false_true (sym (subst (λ u. cancels (spec_at fprobe_cancels u).kind ≡ false) of.2 of.4.2))

-- and of an fprobe that found no frame
abbrev before_missed : List Item
before_missed =
    before_miss ++ Miss (call_in 0 2) (record { 0 = 0 }) ∷ BackEnd (call_in 0 2) (record { 0 = 0 }) ∷ Body (call_in 0 2) (record { 0 = 1 }) (Own (record { 0 = 0 })) ∷ Leave (call_in 0 2) ∷ []

pub exit_of_missed_entry : IsLegal fprobe_misses (before_missed ++ Exit (call_in 0 2) (record { 0 = 0 }) 7 ∷ []) → ⊥
unfolding desk all_visits
exit_of_missed_entry legal =
    let of = (last fprobe_misses before_missed (Exit (call_in 0 2) (record { 0 = 0 }) 7) legal).exits.0.of in
    let m : Visit = record { call = call_in 0 2; user = 0; reg = 1; since = 1; place = 7; back = true; framed = false } in
    let none : false ≡ of.0.framed = ap (λ (x : Visit). x.framed) (only m of.0 of.1) in
    false_true (none ∙ of.4.1)

-- ## calls

-- another function is entered than that of the script's act
pub another_function : IsLegal first_path ((Begin 1 ∷ Return 1 Accepted ∷ []) ++ Enter (call_in 0 1) Normal (record { 0 = 1 }) None ∷ []) → ⊥
unfolding plain after_item
another_function legal = false_true ((last first_path (Begin 1 ∷ Return 1 Accepted ∷ []) (Enter (call_in 0 1) Normal (record { 0 = 1 }) None) legal).run 0)

-- a call is entered from another than the latest one that is open
abbrev before_enter : List Item
before_enter =
    before_inner ++ Back (call_in 0 2) (record { 0 = 0 }) ∷ BackEnd (call_in 0 2) (record { 0 = 0 }) ∷ Body (call_in 0 2) (record { 0 = 1 }) (Own (record { 0 = 0 })) ∷ []

pub enters_from_another_call : IsLegal full_shadow_stack (before_enter ++ Enter (call_in 0 3) Normal (record { 0 = 2 }) (Some (call_in 0 1)) ∷ []) → ⊥
unfolding plain after_item
enters_from_another_call legal = false_true ((last full_shadow_stack before_enter (Enter (call_in 0 3) Normal (record { 0 = 2 }) (Some (call_in 0 1))) legal).run 0)

-- a user is called back in a call that was never entered
pub callback_without_enter : IsLegal first_path ((Begin 1 ∷ Return 1 Accepted ∷ []) ++ Back (call_in 0 1) (record { 0 = 0 }) ∷ []) → ⊥
unfolding plain after_item
callback_without_enter legal = false_true ((last first_path (Begin 1 ∷ Return 1 Accepted ∷ []) (Back (call_in 0 1) (record { 0 = 0 })) legal).run 0)

-- a call is entered a second time
pub entered_twice : IsLegal full_shadow_stack (before_enter ++ Enter (call_in 0 2) Normal (record { 0 = 2 }) (Some (call_in 0 2)) ∷ []) → ⊥
unfolding plain after_item
entered_twice legal = false_true ((last full_shadow_stack before_enter (Enter (call_in 0 2) Normal (record { 0 = 2 }) (Some (call_in 0 2))) legal).run 0)

-- a call returns twice
abbrev before_twice : List Item
before_twice = before_lack ++ Ret (call_in 0 1) None ∷ []

pub returned_twice : IsLegal first_path (before_twice ++ Ret (call_in 0 1) None ∷ []) → ⊥
unfolding plain after_item
returned_twice legal = false_true ((last first_path before_twice (Ret (call_in 0 1) None) legal).run 0)

-- ## whole histories

-- a command has not returned
pub whole_too_early : IsWhole first_path [] → ⊥
whole_too_early w = let same : 0 ≡ 1 = w.returned in absurd (omega (arith, same))

-- a task is not at its end
pub whole_without_calls : IsWhole first_path (Begin 1 ∷ Return 1 Accepted ∷ []) → ⊥
unfolding plain after_item
whole_without_calls w = absurd ((w.tasks 0 (omega arith)).0.1)
