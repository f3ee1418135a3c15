-- Where the first word begins and ends.
use Rattle.std.proofs.Common.{rules, ◌≡◌, ◌<◌, length, drop, position, Some, None, sym, ◌∙◌, arith, length-drop}
use Rattle.script_text.specs.Lines.{is_blank}
use Rattle.script_text.proofs.LineLemmas.{found}
use Rattle.script_text.proofs.FewWords.{is_in_word, no-word, plain-drop, word-ends, word-last, word-some, word-starts}
use Rattle.script_text.proofs.few.first_word.Goals as goal

pub returns-in_err-start-clause-none : goal.returns-in_err-start-clause-none
returns-in_err-start-clause-none c =
    let none : position is_in_word c.args.text.now ≡ None = search rules in
    λ e. no-word c.args.text.now none

pub returns-in-Some-clause-word : goal.returns-in-Some-clause-word
returns-in-Some-clause-word c =
    let text = c.args.text.now in
    let start = c.in_ok-start.start in
    let end = c.in-Some.end in
    let at : position is_in_word text ≡ Some start = search rules in
    let ends : position is_blank (drop start text) ≡ Some end = search rules in
    rw (c.split_at.ensures.front, c.split_at.ensures.back, c.range_from-text.ensures.value)
    (sym (word-starts text start at) ∙ word-ends (drop start text) end (word-some text start at end ends) ends)

pub returns-in-Some-clause-plain : goal.returns-in-Some-clause-plain
returns-in-Some-clause-plain c =
    let text = c.args.text.now in
    let start = c.in_ok-start.start in
    rw (c.split_at.ensures.back, c.range_from-text.ensures.value) (plain-drop (drop start text) c.in-Some.end (plain-drop text start c.requires))

pub returns-in-None-clause-word : goal.returns-in-None-clause-word
returns-in-None-clause-word c =
    let text = c.args.text.now in
    let start = c.in_ok-start.start in
    let at : position is_in_word text ≡ Some start = search rules in
    let none : position is_blank (drop start text) ≡ None = search rules in
    let within = found is_in_word text start at in
    let some : 0 < length (drop start text) = omega (arith, within.0, within.1, length-drop start text) in
    rw c.range_from-text.ensures.value (sym (word-starts text start at) ∙ word-last (drop start text) some none)
