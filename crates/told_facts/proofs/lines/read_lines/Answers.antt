use Rattle.std.proofs.Common.{◌∙◌, ◌++◌, sym, ap, map, append-nil}
use Rattle.told_facts.specs.Lines.{said_below, said_of}
use Rattle.told_facts.proofs.Texts.{no-lines}
use Rattle.told_facts.proofs.lines.read_lines.Goals as goal

pub returns-clause-lines : goal.returns-clause-lines
returns-clause-lines c =
    let l = c.loop-rest in
    let said = map said_of l.lines.items in
    sym (append-nil said) ∙ sym (ap (λ (ls : _). said ++ said_below l.number l.lanes ls) (no-lines l.rest.now c.loop-rest-test.ensures)) ∙ l.invariant.read
