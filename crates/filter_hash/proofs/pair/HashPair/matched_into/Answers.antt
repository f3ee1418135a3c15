use Rattle.std.proofs.Common.{ap, ap₂, ◌∙◌}
use Rattle.ft_base.specs.Marks.{union}
use Rattle.filter_hash.specs.Pair.{Pair}
use Rattle.filter_hash.proofs.MatchLaws.{IsLet, IsLet-all, IsLet-held, matches-from_IsLet, matched-from_IsLet}
use Rattle.filter_hash.proofs.pair.HashPair.matched_into.Goals as goal
use Rattle.filter_hash.proofs.pair.HashPair.matched_into.Goals.{then-is_open, else-is_open}

pub returns-clause-set : goal.returns-clause-set
returns-clause-set c =
    let let_through : IsLet c.args.self.now.filter c.if-is_open.out = elim c.if-is_open.branch [
      | then-is_open w ↦ IsLet-all _ _ _ c.requires (cc) (cc) (cc)
      | else-is_open w ↦ IsLet-held _ _ _ c.requires (cc)
          (w.out-is ∙ w.unite.ensures.members ∙ ap₂ (λ s t. union s t) w.clear.ensures.members (ap (λ (p : Pair). p.filter) c.self.view_is)) (cc)
    ] in
    matched-from_IsLet c.args.self.now _ _ let_through (cc)

pub returns-clause-members : goal.returns-clause-members
returns-clause-members c =
    let let_through : IsLet c.args.self.now.filter c.if-is_open.out = elim c.if-is_open.branch [
      | then-is_open w ↦ IsLet-all _ _ _ c.requires (cc) (cc) (cc)
      | else-is_open w ↦ IsLet-held _ _ _ c.requires (cc)
          (w.out-is ∙ w.unite.ensures.members ∙ ap₂ (λ s t. union s t) w.clear.ensures.members (ap (λ (p : Pair). p.filter) c.self.view_is)) (cc)
    ] in
    matches-from_IsLet c.args.self.now.filter c.args.self.now.notrace _ _ let_through (cc)
