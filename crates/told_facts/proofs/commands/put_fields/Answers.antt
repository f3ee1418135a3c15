use Rattle.std.proofs.Common.{List, ℕ, ◌++◌, ◌∙◌, add-one, ap, codes}
use Rattle.std.specs.Fmt.{decimal}
use Rattle.std.specs.Prelude.{Option}
use Rattle.ft_desk.specs.Commands.{command_of}
use Rattle.ft_io.proofs.PieceLaws.{puts-none, puts-then, puts-equal}
use Rattle.trace_views.specs.Words.{Word, lane_at, user_word}
use Rattle.told_items.specs.Fields.{field_text, quoted}
use Rattle.told_items.proofs.FieldTexts.{fields-then, text-is}
use Rattle.told_facts.specs.Commands.{later_fields, line_answer, line_fields}
use Rattle.told_facts.specs.Lines.{line_in}
use Rattle.told_facts.specs.Values.{optional, or_null}
use Rattle.told_facts.proofs.commands.put_fields.Goals as goal

pub returns : goal.returns
returns g c = λ tasks.
    let job = c.args.names.now in
    let k = c.args.k in
    puts-then (puts-equal (ap (λ (n : ℕ). codes ", \"number\": " ++ decimal n) (add-one k)) c.put_named.ensures)
    (puts-equal (fields-then (line_fields job (line_in c.args.lines.now k)) (later_fields job k (command_of tasks c.args.command.now) c.args.answer c.args.before.now.state c.args.after.now.state))
    (puts-then c.put_line.ensures
    (puts-then (puts-equal (ap (λ (o : Option ℕ). codes ", \"lane\": " ++ or_null decimal o) (c.lane.ensures ∙ ap (lane_at job) (add-one k))) c.put_number_or_null.ensures)
    (puts-then (puts-equal (text-is (codes ", \"does\": \"") (c.name_of.ensures tasks)) c.put_text.ensures)
    (puts-then (puts-equal (ap (λ (u : Option ℕ). field_text (optional (λ v. quoted (user_word job v)) (codes "user") u)) (c.user.ensures tasks)) c.put_user.ensures)
    (puts-then (puts-then c.put.ensures (puts-then c.put_answer.ensures c.put-2.ensures))
    (puts-then (puts-equal (ap (λ (n : ℕ). field_text (optional quoted (codes "line_answer") (line_answer job n))) (add-one k)) c.put_line_answer.ensures)
    (puts-then (c.put_edited.ensures tasks)
    (puts-then (puts-then c.put-3.ensures (puts-then c.put_sites.ensures c.put-4.ensures)) (puts-none _ _))))))))))
