-- Samples of the words in which the laws of histories are told, which no code and no other definition cites; and a history in which an act's call
-- comes where a Miss is due.
use Rattle.std.proofs.Common.{◌≡◌, true, false, List, [], ◌∷◌, ◌++◌, Some, None, codes, refl, sym, arith, inl, inr}
use Rattle.ft_base.specs.declared.context.Ctx.TheVariants.{Normal}
use Rattle.ft_base.specs.declared.item.Ran.TheVariants.{Own}
use Rattle.ft_base.specs.declared.item.Reason.TheVariants.{Recursion}
use Rattle.ft_base.specs.declared.item.Answer.TheVariants.{Accepted}
use Rattle.ft_base.specs.declared.item.Item.{Item}
use Rattle.ft_base.specs.declared.item.Item.TheVariants.{Begin, Return, Enter, Back, BackEnd, Refuse, Body, Leave, Exit, ExitEnd, Ret}
use Rattle.ft_base.specs.declared.user.Kind.TheVariants.{Fprobe}
use Rattle.ft_base.specs.declared.user.Act.TheVariants.{CallIn}
use Rattle.ft_base.specs.Job.{Job, waits_before}
use Rattle.ft_base.specs.Desk.{desk, is_live}
use Rattle.ft_base.proofs.Small.{false_true}
use Rattle.ft_hist.specs.Past.{all_visits, done_at_leave}
use Rattle.ft_hist.specs.Rules.{IsLegal}
use Rattle.ft_hist.specs.Telling.{is_begin_by, is_end_by, is_exit_for, is_ret_of, is_command, is_return_of, MayLackExit}
use Rattle.ft_hist.proofs.SmallJobs.{call_in, fprobe_misses, registered_again}
use Rattle.ft_hist.proofs.NotLegal.{last, between, before_body}

-- ## which items are meant

-- callbacks begin at an entry and at an exit, of this user and in this call alone
begins_at_entry : is_begin_by (call_in 0 1) 0 (Back (call_in 0 1) (record { 0 = 0 })) ≡ true
begins_at_entry = refl

begins_at_exit : is_begin_by (call_in 0 1) 0 (Exit (call_in 0 1) (record { 0 = 0 }) 3) ≡ true
begins_at_exit = refl

begin_of_another : is_begin_by (call_in 0 1) 0 (Back (call_in 0 1) (record { 0 = 1 })) ≡ false
begin_of_another = refl

begin_in_another_call : is_begin_by (call_in 0 1) 0 (Exit (call_in 0 2) (record { 0 = 0 }) 3) ≡ false
begin_in_another_call = refl

-- and end so
ends_of_both : (is_end_by (call_in 0 1) 0 (BackEnd (call_in 0 1) (record { 0 = 0 })) ≡ true) × (is_end_by (call_in 0 1) 0 (ExitEnd (call_in 0 1) (record { 0 = 0 })) ≡ true)
ends_of_both = (refl, refl)

end_of_another : is_end_by (call_in 0 1) 0 (BackEnd (call_in 0 1) (record { 0 = 1 })) ≡ false
end_of_another = refl

end_in_another_call : is_end_by (call_in 0 1) 0 (ExitEnd (call_in 0 2) (record { 0 = 0 })) ≡ false
end_in_another_call = refl

-- an exit is for the entry callback at its place
exit_for_its_entry : (is_exit_for (call_in 0 1) 3 (Exit (call_in 0 1) (record { 0 = 0 }) 3) ≡ true) × (is_exit_for (call_in 0 1) 4 (Exit (call_in 0 1) (record { 0 = 0 }) 3) ≡ false)
exit_for_its_entry = (refl, refl)

-- a call returns once, and a command's marks are two
returns : (is_ret_of (call_in 0 1) (Ret (call_in 0 1) None) ≡ true) × (is_ret_of (call_in 0 1) (Ret (call_in 0 2) None) ≡ false)
returns = (refl, refl)

marks : (is_command (Begin 1) ≡ true) × (is_command (Return 1 Accepted) ≡ true) × (is_command (Leave (call_in 0 1)) ≡ false)
marks = (refl, refl, refl)

return_of_its_number : (is_return_of 1 (Return 1 Accepted) ≡ true) × (is_return_of 2 (Return 1 Accepted) ≡ false) × (is_return_of 1 (Begin 1) ≡ false)
return_of_its_number = (refl, refl, refl)

-- ## which waits a command has

-- those above it, and not those below
waits_above : (waits_before 0 registered_again.ctls ≡ []) × (waits_before 1 registered_again.ctls ≡ (0, 2) ∷ [])
waits_above = (refl, refl)

-- ## why an exit may lack

-- what has returned by the call's Leave, and not what has begun
returned_at_leave : done_at_leave (call_in 0 1) (Leave (call_in 0 1) ∷ Begin 2 ∷ Return 1 Accepted ∷ Begin 1 ∷ []) ≡ 1
returned_at_leave = refl

-- not while a frame is free and the registration is live
abbrev after_back : List Item
after_back = BackEnd (call_in 0 1) (record { 0 = 0 }) ∷ Body (call_in 0 1) (record { 0 = 0 }) (Own (record { 0 = 0 })) ∷ Leave (call_in 0 1) ∷ []

exit_is_owed : MayLackExit fprobe_misses before_body after_back (call_in 0 1) (record { 0 = 0 }) → ⊥
unfolding desk all_visits
exit_is_owed why = elim why [
  | inl none ↦ false_true (sym none.1)
  | inr more ↦ elim more [
    | inl cancels ↦ false_true cancels
    | inr more' ↦ elim more' [
      | inl full ↦ (let same : 0 ≡ 1 = full.1 in absurd (omega (arith, same)))
      | inr dead ↦ (let off : is_live (desk fprobe_misses 1) 0 1 ≡ false = between (λ k. is_live (desk fprobe_misses k) 0 1 ≡ false) 1 dead.0 dead.1 dead.2 dead.3 in false_true (sym off))
    ]
  ]
]

-- ## a Miss that is due

-- the act's call comes in its place
abbrev acting : Job
acting = record fprobe_misses { users = record { name = codes "p"; kind = Fprobe true false; regs = false; ipmodify = None; pid = false; act = Some (CallIn (record { 0 = 1 })) } ∷ [] }

abbrev before_act : List Item
before_act =
    before_body ++ Back (call_in 0 1) (record { 0 = 0 }) ∷ Enter (call_in 0 2) Normal (record { 0 = 1 }) (Some (call_in 0 1))
    ∷ Refuse (call_in 0 2) (record { 0 = 0 }) Recursion ∷ Body (call_in 0 2) (record { 0 = 1 }) (Own (record { 0 = 0 })) ∷ Leave (call_in 0 2) ∷ Ret (call_in 0 2) (Some (call_in 0 1))
    ∷ BackEnd (call_in 0 1) (record { 0 = 0 }) ∷ Body (call_in 0 1) (record { 0 = 0 }) (Own (record { 0 = 0 }))
    ∷ Enter (call_in 0 3) Normal (record { 0 = 1 }) (Some (call_in 0 1)) ∷ Back (call_in 0 3) (record { 0 = 0 }) ∷ []

act_before_its_miss : IsLegal acting (before_act ++ Enter (call_in 0 4) Normal (record { 0 = 1 }) (Some (call_in 0 3)) ∷ []) → ⊥
unfolding desk all_visits
act_before_its_miss legal = let none = (last acting before_act (Enter (call_in 0 4) Normal (record { 0 = 1 }) (Some (call_in 0 3))) legal).exits in absurd (cc)
