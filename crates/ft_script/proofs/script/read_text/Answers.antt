use Rattle.std.proofs.Common.{◌≡◌, ℕ, ◌⊎◌, List, Some, None, sym, ◌∙◌, subst, inl, inr}
use Rattle.std.proofs.lemmas.Result.{err_from_is_err_and}
use Rattle.script_waits.specs.Tasks.{tracks_of}
use Rattle.script_waits.specs.Greedy.{IsDeadlock}
use Rattle.ft_script.specs.declared.faults.Cause.TheVariants.{Deadlock}
use Rattle.ft_script.specs.declared.faults.ScriptFault.{ScriptFault}
use Rattle.ft_script.specs.Above.{Above}
use Rattle.ft_script.specs.Script.{refusal_of, control_of, declared_in, no_memory, IsFaultOf}
use Rattle.ft_script.proofs.Ends.{refusal-some}
use Rattle.ft_script.proofs.script.read_text.Goals as goal

-- a text that has no cause is refused if it can't end
fault : (text : List ℕ) (above : Above) → above ≡ declared_in text → refusal_of text ≡ None → (f : ScriptFault)
    → (f ≡ no_memory) ⊎ ((f.cause ≡ Deadlock) × IsDeadlock (tracks_of above.tasks) (control_of above) (Some f.line)) → IsFaultOf text f
fault text above declared accepted f (inl memory) = inl memory
fault text above declared accepted f (inr h) = inr (inr (inl (record {
  accepted = accepted;
  cause = h.0;
  line = subst (λ (a : Above). IsDeadlock (tracks_of a.tasks) (control_of a) (Some f.line)) declared h.1;
})))

pub returns-in_err-check_end-clause-refused : goal.returns-in_err-check_end-clause-refused
returns-in_err-check_end-clause-refused c =
    let p = err_from_is_err_and c.from_residual-in_err-check_end.result c.from_residual-in_err-check_end.ensures.1 in
    let read = c.in_ok-read_lines.ensures in
    let accepted = refusal-some c.args.text.now (sym c.if-is_empty.ensures) ∙ read.clear in
    rw (p.1, p.2) (fault c.args.text.now _ read.declared accepted _ c.in_err-check_end.ensures.refused)
