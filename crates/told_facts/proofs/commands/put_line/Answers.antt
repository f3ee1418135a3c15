use Rattle.std.proofs.Common.{List, ℕ, true, ◌∙◌, sym, ap, map, drop}
use Rattle.std.specs.Prelude.{Option, option_map}
use Rattle.ft_io.proofs.PieceLaws.{puts-none, puts-then, puts-equal}
use Rattle.trace_views.specs.Words.{Word}
use Rattle.told_items.specs.Fields.{fields_text}
use Rattle.told_facts.specs.Commands.{line_fields}
use Rattle.told_facts.specs.Lines.{SaidLine, said_of}
use Rattle.told_facts.specs.Values.{words_after}
use Rattle.told_facts.proofs.Texts.{map-later}
use Rattle.told_facts.proofs.commands.put_line.Goals as goal

pub returns-in-Some : goal.returns-in-Some
returns-in-Some g c =
    let words = c.in-Some.line.now.words.items in
    puts-equal (ap (λ (o : Option SaidLine). fields_text (line_fields c.args.names.now o)) (ap (option_map (λ l. said_of l.now)) (sym c.in-Some.is) ∙ c.line.ensures))
    (puts-then c.put_named.ensures (puts-then (puts-then c.put.ensures
    (puts-then (puts-equal (ap (words_after true) (ap (map (λ w. w.now)) (c.later.ensures ∙ ap (drop 1) c.as_slice.ensures.value) ∙ map-later (λ w. w.now) words)) c.put_words.ensures)
    c.put-in-Some.ensures)) (puts-none _ _)))

pub returns-in-None : goal.returns-in-None
returns-in-None g c =
    puts-equal (ap (λ (o : Option SaidLine). fields_text (line_fields c.args.names.now o)) (ap (option_map (λ l. said_of l.now)) (sym c.in-None.is) ∙ c.line.ensures))
    (puts-then (puts-then c.put-in-None.ensures (puts-then c.put_hidden.ensures c.put-in-None-2.ensures)) (puts-none _ _))
