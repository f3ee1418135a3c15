-- What a judge says of a history.
use Rattle.std.proofs.Common.{◌≡◌, ℕ, ◌≤◌, List, ◌∷◌, length, Some, sym, subst}
use Rattle.std.specs.Prelude.{slice_get}
use Rattle.ft_base.specs.declared.item.Item.{Item}
use Rattle.ft_base.specs.Job.{Job}
use Rattle.ft_hist.specs.Rules.{IsLegal, IsLegalPast, IsWhole, MayFollow}
use Rattle.ft_hist.specs.Telling.{past_at}
use Rattle.history_check.specs.declared.verdict.Rule.{Rule}
use Rattle.history_check.specs.JudgePast.{IsAtEnd}
use Rattle.history_check.specs.Parts.{BreaksFirst}
use Rattle.history_check.specs.Verdicts.{IsBroken}
use Rattle.history_check.proofs.PastLaws.{past-all}

module _ (job : Job) where
  pub more-legal : (item : Item) (past : List Item) → MayFollow job past item → IsLegalPast job past → IsLegalPast job (item ∷ past)
  unfolding IsLegalPast
  more-legal item past may legal = (may, legal)

  pub broken-there : (items : List Item) (place : ℕ) (item : Item) (rule : Rule) → slice_get items place ≡ Some item → IsLegalPast job (past_at place items)
      → BreaksFirst rule job (past_at place items) item → IsBroken job items place rule
  unfolding IsLegal
  broken-there items place item rule here legal breaks = record { item = item; here = here; legal = legal; breaks = breaks }

  -- all items have been judged
  module _ (items : List Item) (k : ℕ) (over : length items ≤ k) where
    pub all-legal : IsLegalPast job (past_at k items) → IsLegal job items
    unfolding IsLegal
    all-legal legal = subst (λ (xs : List Item). IsLegalPast job xs) (past-all items k over) legal

    pub all-whole : IsLegalPast job (past_at k items) → IsAtEnd job (past_at k items) → IsWhole job items
    all-whole legal end' =
        let e = subst (λ (xs : List Item). IsAtEnd job xs) (past-all items k over) end' in
        record { legal = all-legal legal; returned = e.returned; tasks = e.tasks }

    pub at-end : IsWhole job items → IsAtEnd job (past_at k items)
    at-end w =
        subst (λ (xs : List Item). IsAtEnd job xs) (sym (past-all items k over)) (record { returned = w.returned; tasks = w.tasks })
