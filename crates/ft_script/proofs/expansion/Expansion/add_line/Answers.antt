use Rattle.std.proofs.Common.{rules, ◌≡◌, ℕ, suc, ◌+◌, List, [], ◌∷◌, ◌++◌, map, ap, ◌∙◌, arith}
use Rattle.ft_base.specs.Job.{ModuleRow}
use Rattle.ft_desk.specs.Lines.{lines_of}
use Rattle.ft_job.specs.Plans.{row_of}
use Rattle.module_table.specs.Lines.{Between, Line, commands_for, after_line}
use Rattle.module_table.specs.Made.{line_of, Appends}
use Rattle.ft_script.specs.declared.expansion.Expansion.{Expansion}
use Rattle.ft_script.specs.Late.{IsRowAnswer}
use Rattle.ft_script.proofs.Added.{added-lines, row-told, same-expansion}
use Rattle.ft_script.proofs.expansion.Expansion.add_line.Goals as goal

pub returns : goal.returns
returns c =
    let old : Expansion = c.args.self.now in
    let known : Between = old.modules in
    let line : Line = line_of known.declared.tasks c.args.line.now in
    let after : c.expand.new.self ≡ after_line known line = search rules in
    let added : Appends known.declared c.new-commands.result.items c.expand.new.out.items (commands_for known line) = search rules in
    let told : IsRowAnswer known line c.in_ok-answer.answer = search rules in
    let first : c.commands-first.result + 1 ≡ suc known.commands = (let e = c.commands-first.ensures in omega (arith, e)) in
    let last : c.commands-last.result ≡ (after_line known line).commands = c.commands-last.ensures ∙ ap (λ (b : Between). b.commands) after in
    let row = c.in_ok-add_row_told.ensures in
    let pushed : c.push.new.self.items ≡ c.add_row_told.new.self.ends.items ++ c.commands-last.result ∷ [] = search rules in
    same-expansion _ _ _ _ _ _ _ _
    (ap (λ (x : Expansion). x.modules) row.rest ∙ after)
    (ap (λ (x : Expansion). lines_of known.declared.tasks x.ctls.items) row.rest
    ∙ added-lines known.declared c.new-commands.result.items c.expand.new.out.items (commands_for known line) old.ctls.items c.push_runs.new.ctls.items
    c.new-commands.ensures.items added c.in_ok-push_runs.ensures)
    (row.rows ∙ ap (λ (rows : List ModuleRow). map row_of old.rows.items ++ rows)
    (row-told known known.declared.tasks c.args.line.now c.in_ok-answer.answer (c.commands-first.result + 1) c.commands-last.result told first last))
    (pushed ∙ ap (λ (x : Expansion). x.ends.items ++ c.commands-last.result ∷ []) row.rest ∙ ap (λ (n : ℕ). old.ends.items ++ n ∷ []) last)
