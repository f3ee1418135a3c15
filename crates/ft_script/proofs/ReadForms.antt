-- The fault of a line that is refused.
use Rattle.std.proofs.Common.{◌≡◌, ◌≢◌, suc, ◌⊎◌, inl, inr, false, true, refl, sym, ap, ◌∙◌, subst}
use Rattle.std.specs.Prelude.{Some, None, Result, Ok, Err, cond}
use Rattle.ft_script.specs.declared.faults.Cause.{Cause}
use Rattle.ft_script.specs.declared.faults.Cause.TheVariants.{Limit, NoMemory}
use Rattle.ft_script.specs.declared.faults.ScriptFault.{ScriptFault}
use Rattle.ft_script.specs.Above.{Above, Resolved}
use Rattle.ft_script.specs.Causes.{has_too_many_commands, carried_out, cause_in}
use Rattle.ft_script.specs.Script.{refusal_at, no_memory, IsRefused, IsFaultAt}

memory-or-other : (cause : Cause) → (cause ≡ NoMemory) ⊎ (cause ≢ NoMemory)
memory-or-other NoMemory = inl refl
memory-or-other cause = inr (λ e. absurd cc)

-- a line that is refused for a cause has the fault with this cause
pub faulted : {X : Type 0} (above : Above) (right : Result X Cause) (cause : Cause) (fault : ScriptFault) → IsRefused right cause → (cause ≡ NoMemory → fault ≡ no_memory)
    → (cause ≢ NoMemory → fault ≡ record { line = suc above.lines; cause = cause }) → IsFaultAt above (cause_in right) fault
faulted above right cause fault (inl e) memory other = inl (memory e)
faulted above right cause fault (inr e) memory other = elim (memory-or-other cause) [
  | inl m ↦ inl (memory m)
  | inr o ↦ inr (subst (λ r. refusal_at above (cause_in r) None ≡ Some fault) (sym e) (ap (λ f. Some f) (sym (other o))))
]

-- a line that may not stand here is refused, whether or not there are too many commands with it
pub refused-still : (above : Above) (right : Result Resolved Cause) (cause : Cause) → IsRefused right cause → IsRefused (carried_out above right) cause
refused-still above right cause (inl e) = inl e
refused-still above right cause (inr e) = inr (ap (carried_out above) e)

-- a line with which there are too many commands is refused
pub refused-many : (above : Above) (line : Resolved) (cause : Cause) → (cause ≡ NoMemory) ⊎ ((cause ≡ Limit) × (has_too_many_commands above line.what ≡ true))
    → IsRefused (carried_out above (Ok line)) cause
refused-many above line cause (inl e) = inl e
refused-many above line cause (inr h) = inr (ap (λ b. cond b (Err Limit) (Ok line)) h.1 ∙ ap (λ c. Err c) (sym h.0))

-- one with which there aren't is carried out
pub carried : (above : Above) (line : Resolved) → has_too_many_commands above line.what ≡ false → carried_out above (Ok line) ≡ Ok line
carried above line few = ap (λ b. cond b (Err Limit) (Ok line)) few
