use Rattle.std.proofs.Common.{◌≡◌, ℕ, ◌⊎◌, List, Some, None, subst, inl, inr}
use Rattle.std.specs.Prelude.{IfOk}
use Rattle.std.proofs.lemmas.Result.{on_ok_weaker, IfErr-weaker}
use Rattle.script_waits.specs.Greedy.{IsLeast}
use Rattle.ft_script.specs.declared.faults.Cause.TheVariants.{Unloaded}
use Rattle.ft_script.specs.declared.faults.ScriptFault.{ScriptFault}
use Rattle.ft_script.specs.Above.{Above}
use Rattle.ft_script.specs.Script.{refusal_of, declared_in, no_memory, LeavesWaiting, MayFindUnloaded, IsFaultOf}
use Rattle.ft_script.proofs.script.read_plans.Goals as goal

-- a text that has no cause and can end is refused if a line may find a module unloaded
fault : (text : List ℕ) (above : Above) → above ≡ declared_in text → refusal_of text ≡ None → LeavesWaiting text None → (f : ScriptFault)
    → (f ≡ no_memory) ⊎ ((f.cause ≡ Unloaded) × IsLeast (MayFindUnloaded above) (Some f.line)) → IsFaultOf text f
fault text above declared accepted ends f (inl memory) = inl memory
fault text above declared accepted ends f (inr h) = inr (inr (inr (record {
  accepted = accepted;
  ends = ends;
  cause = h.0;
  line = subst (λ (a : Above). IsLeast (MayFindUnloaded a) (Some f.line)) declared h.1;
})))

pub returns-clause-accepted : goal.returns-clause-accepted
returns-clause-accepted c = on_ok_weaker c.plan.result (λ _. c.in_ok-read_text.ensures.accepted) c.plan.ensures.loaded

pub returns-clause-ends : goal.returns-clause-ends
returns-clause-ends c = on_ok_weaker c.plan.result (λ _. c.in_ok-read_text.ensures.ends) c.plan.ensures.loaded

pub returns-clause-loaded : goal.returns-clause-loaded
returns-clause-loaded c =
    subst (λ (a : Above). IfOk c.plan.result (λ _. IsLeast (MayFindUnloaded a) None)) c.in_ok-read_text.ensures.declared c.plan.ensures.loaded

pub returns-clause-declared : goal.returns-clause-declared
returns-clause-declared c = on_ok_weaker c.plan.result (λ _. c.in_ok-read_text.ensures.declared) c.plan.ensures.loaded

pub returns-clause-runs : goal.returns-clause-runs
returns-clause-runs c = on_ok_weaker c.plan.result (λ _. c.in_ok-read_text.ensures.runs) c.plan.ensures.loaded

pub returns-clause-open : goal.returns-clause-open
returns-clause-open c = on_ok_weaker c.plan.result (λ _. c.in_ok-read_text.ensures.open) c.plan.ensures.loaded

pub returns-clause-refused : goal.returns-clause-refused
returns-clause-refused c =
    let read = c.in_ok-read_text.ensures in
    IfErr-weaker c.plan.result _ (IsFaultOf c.args.text.now) (fault c.args.text.now _ read.declared read.accepted read.ends) c.plan.ensures.refused
