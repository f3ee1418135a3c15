-- Outcomes of worked histories, as docs/OUTCOMES.md prints them.
use Rattle.std.proofs.Common.{◌≡◌, [], ◌∷◌, None, refl}
use Rattle.ft_base.specs.declared.context.Ctx.TheVariants.{Normal}
use Rattle.ft_base.specs.declared.item.Answer.TheVariants.{Accepted, NotThere}
use Rattle.ft_base.specs.declared.item.Item.TheVariants.{Begin, Return, Enter, Back, BackEnd, Refuse, Body, Leave, Exit, ExitEnd, Ret}
use Rattle.ft_base.specs.declared.item.Ran.TheVariants.{Own, Nop}
use Rattle.ft_base.specs.declared.item.Reason.TheVariants.{Depth}
use Rattle.ft_hist.proofs.SmallJobs.{call_in}
use Rattle.job_outcomes.specs.Outcomes.{CalledBack, Refused, BodyRan, Exited, outcome}

-- `10.1 a: body nop; 10.2 a: back t, body own t, exit t; 11.1 b: refuse t depth, body nop; command 2: not-there`: task 10 makes two calls of a
-- while task 11 makes one of b, user 0 is registered in between and another one is not
a_registration_in_between : outcome 2
    (Begin 1 ∷ Enter (call_in 0 1) Normal (record { 0 = 0 }) None ∷ Enter (call_in 1 1) Normal (record { 0 = 1 }) None ∷ Body (call_in 0 1) (record { 0 = 0 }) Nop ∷ Leave (call_in 0 1) ∷ Ret (call_in 0 1) None
    ∷ Return 1 Accepted ∷ Enter (call_in 0 2) Normal (record { 0 = 0 }) None ∷ Begin 2 ∷ Back (call_in 0 2) (record { 0 = 0 }) ∷ Return 2 NotThere ∷ BackEnd (call_in 0 2) (record { 0 = 0 })
    ∷ Refuse (call_in 1 1) (record { 0 = 0 }) Depth ∷ Body (call_in 0 2) (record { 0 = 0 }) (Own (record { 0 = 0 })) ∷ Body (call_in 1 1) (record { 0 = 1 }) Nop ∷ Leave (call_in 0 2) ∷ Exit (call_in 0 2) (record { 0 = 0 }) 9
    ∷ ExitEnd (call_in 0 2) (record { 0 = 0 }) ∷ Ret (call_in 0 2) None ∷ Leave (call_in 1 1) ∷ Ret (call_in 1 1) None ∷ [])
    ≡ record {
      calls =
          (record { call = call_in 0 1; func = record { 0 = 0 }; happened = BodyRan (record { 0 = 0 }) Nop ∷ [] }
          ∷ record { call = call_in 0 2; func = record { 0 = 0 }; happened = CalledBack (record { 0 = 0 }) ∷ BodyRan (record { 0 = 0 }) (Own (record { 0 = 0 })) ∷ Exited (record { 0 = 0 }) ∷ [] } ∷ [])
          ∷ (record { call = call_in 1 1; func = record { 0 = 1 }; happened = Refused (record { 0 = 0 }) Depth ∷ BodyRan (record { 0 = 1 }) Nop ∷ [] } ∷ []) ∷ [];
      refused = (2, NotThere) ∷ [];
    }
a_registration_in_between = refl
