-- Items on their way to a sink, one after the other.
use Rattle.std.proofs.Common.{◌≡◌, ◌+◌, ◌-◌, inl, inr, ℕ, List, ◌∷◌, ◌++◌, Bool, refl, sym, ap, subst, ◌∙◌}
use Rattle.std.specs.Prelude.{◌≢◌, reverse}
use Rattle.std.proofs.lemmas.List.{reverse-reverse}
use Rattle.ft_base.specs.declared.item.Item.{Item}
use Rattle.ft_base.specs.Job.{Job}
use Rattle.ft_io.specs.declared.status.Status.{Status}
use Rattle.ft_io.specs.declared.status.Status.TheVariants.{Done, Refused}
use Rattle.ft_script.specs.declared.faults.ScriptFault.{ScriptFault}
use Rattle.ft_script.specs.Script.{IsFaultOf, IsJobOf, IsRefusalOf, no_memory}
use Rattle.judge_app.specs.Cut.{IsCut}
use Rattle.judge_app.specs.Lanes.{led_by}
use Rattle.judge_app.specs.Reply.{refusal_text, syntax_at}
use Rattle.judge_app.proofs.Replies.{log-refused}
use Rattle.log_reader.specs.Refused.{IsRefusedAt}
use Rattle.trace_views.specs.LogText.{log_text}
use Rattle.trace_views.proofs.ItemTexts.{texts-next}
use Rattle.told_items.specs.ItemText.{told_last, told_line, told_lines, told_text}
use Rattle.fttell.specs.ToldText.{IsToldOf, of_log, of_refusal}

-- one more line
pub lines-next : (job : Job) (past : List Item) (item : Item) → told_lines job (reverse past) ++ told_line job past item ≡ told_lines job (reverse (item ∷ past))
lines-next job past item = sym (texts-next (λ before x after. told_line job before x) (λ before x a b. refl) past item)

-- the last line
pub text-is : (job : Job) (past : List Item) (ended : Bool) → told_lines job (reverse past) ++ told_last job past ended ≡ told_text job (reverse past) ended
text-is job past ended = ap (λ (xs : List Item). told_lines job (reverse past) ++ told_last job xs ended) (sym (reverse-reverse past))

-- a fault that isn't out of memory is a refusal
pub is-refusal : (text : List ℕ) (fault : ScriptFault) → IsFaultOf text fault → fault ≢ no_memory → IsRefusalOf text fault
is-refusal text fault (inl memory) other = absurd (other memory)
is-refusal text fault (inr refusal) other = refusal

-- what is told of an input, by the status
module _ (input text : List ℕ) {status : Status} where
  pub when-done : status ≡ Done → IsToldOf input Done text → IsToldOf input status text
  when-done is told = subst (λ (s : Status). IsToldOf input s text) (sym is) told

  pub when-refused : status ≡ Refused → IsToldOf input Refused text → IsToldOf input status text
  when-refused is told = subst (λ (s : Status). IsToldOf input s text) (sym is) told

-- of a log, whose job goes in this order
module _ (input script log : List ℕ) (first : ℕ) (cut : IsCut input script log first) (own led : Job) (accepted : IsJobOf script own) (is : led ≡ led_by log own) where
  pub of-items : (items : List Item) (ended : Bool) → log_text led items ended ≡ log → IsToldOf input Done (told_text led items ended)
  of-items items ended read =
      subst (λ (j : Job). IsToldOf input Done (told_text j items ended)) (sym is)
      (of_log script log first cut own accepted items ended (ap (λ (j : Job). log_text j items ended) (sym is) ∙ read))

  pub of-line : (line : ℕ) → IsRefusedAt led log line → IsToldOf input Refused (refusal_text (syntax_at (first + line - 1)))
  of-line line refused = of_refusal script log first cut _ (log-refused input script log first cut own led accepted is line refused _ _ refl refl)
