use Rattle.std.proofs.Common.{cond, sym, ap, ◌∙◌, inl, inr, arith}
use Rattle.std.proofs.lemmas.Bool.{cases_lt}
use Rattle.site_counts.specs.Rows.{after, row_of}
use Rattle.site_counts.proofs.RowLemmas.{is_at_members}
use Rattle.site_counts.proofs.members.change_members.Goals as goal

pub returns : goal.returns
returns c =
    let row = row_of c.args.rows.now in
    is_at_members c.args.on.now (after c.args.change) c.args.rows.now c.loop-f.rows (omega arith)
    (λ g h. elim (cases_lt g c.loop-f.from) [
      | inl l ↦ c.loop-f.invariant.changed g l
      | inr l ↦ c.loop-f.invariant.rest g l
          ∙ ap (λ b. cond b (after c.args.change (row g)) (row g)) (sym (c.in_default.ensures.none g l))
    ])
