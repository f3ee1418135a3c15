use Rattle.std.proofs.Common.{rules, [], ◌++◌, refl, ap, ◌∙◌}
use Rattle.ft_desk.specs.Lines.{lines_of}
use Rattle.module_table.specs.Lines.{Between, opening_of}
use Rattle.module_table.specs.Made.{Appends}
use Rattle.ft_script.specs.Expansion.{runs_of}
use Rattle.ft_script.proofs.Added.{added-lines}
use Rattle.ft_script.proofs.expansion.opening_lines.Goals as goal

pub returns : goal.returns
returns c =
    let m : Between = c.args.modules.now in
    let added : Appends m.declared [] c.in_ok-opening.opening.items (opening_of m.declared m.first) = search rules in
    added-lines m.declared [] c.in_ok-opening.opening.items (opening_of m.declared m.first)
    c.new-ctls.result.items c.push_runs.new.ctls.items refl added c.in_ok-push_runs.ensures
    ∙ ap (λ old. lines_of m.declared.tasks old ++ runs_of (opening_of m.declared m.first)) c.new-ctls.ensures.items
