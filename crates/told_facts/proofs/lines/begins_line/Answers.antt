use Rattle.std.proofs.Common.{ℕ, Bool, List, ◌<◌, ◌∙◌, sym, ap, subst}
use Rattle.std.specs.Prelude.{not, ◌&&◌}
use Rattle.std.specs.List.{list_any}
use Rattle.std.proofs.lemmas.Bool.{lt-leb}
use Rattle.ft_base.specs.Job.{ModuleRow}
use Rattle.ft_job.specs.Plans.{row_of}
use Rattle.told_facts.specs.Lines.{hides, is_later}
use Rattle.told_facts.proofs.Texts.{any-map}
use Rattle.told_facts.proofs.lines.begins_line.Goals as goal

pub returns-then-k-hides : goal.returns-then-k-hides
returns-then-k-hides c =
    let job = c.args.job.now in
    let k = c.args.k in
    ap not (c.is_later_in.ensures ∙ any-map (is_later k) row_of c.modules.result.now ∙ ap (list_any (is_later k)) c.modules.ensures)
    ∙ sym (ap (λ (b : Bool). not b && not (list_any (is_later k) job.lines.modules)) (lt-leb k (hides job) (subst (λ (n : ℕ). n < k) c.hides.ensures c.if-k-hides.true)))
