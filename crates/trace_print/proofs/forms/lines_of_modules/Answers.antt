use Rattle.std.proofs.Common.{◌≡◌, rules, ap, ◌∙◌, subst, map}
use Rattle.std.specs.Prelude.{IfOk}
use Rattle.std.proofs.lemmas.Iterator.{YieldsList-from_slice, YieldsList-from_map_by}
use Rattle.std.proofs.lemmas.Iterator.Consumers.{map_from_collect}
use Rattle.ft_base.specs.Job.{Job}
use Rattle.ft_job.specs.Plans.{row_of}
use Rattle.trace_views.specs.ModulesText.{row_of_line}
use Rattle.trace_print.proofs.forms.lines_of_modules.Goals as goal

pub returns : goal.returns
returns c =
    let all = map_from_collect c.collect.result c.collect.ensures.ran
    (YieldsList-from_map_by _ row_of_line row_of (YieldsList-from_slice c.modules-rows.result.now (cc)) c.map.ensures.closure (λ x r q k. search rules)) in
    let those = subst (λ rows. IfOk c.collect.result (λ lines. map row_of_line lines.items ≡ rows)) (c.modules-rows.ensures ∙ ap (λ (job : Job). job.lines.modules) c.job.ensures) all in
    search rules
