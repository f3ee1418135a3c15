-- One more word is found.
use Rattle.std.proofs.Common.{rules, ◌≡◌, ◌<◌, true, ◌∷◌, length, ◌∙◌, arith}
use Rattle.std.proofs.lemmas.List.{length-set}
use Rattle.script_text.specs.Lines.{is_plain, words_of}
use Rattle.script_text.proofs.FewWords.{words-more}
use Rattle.script_text.proofs.few.few_words.Goals as goal

pub loop-count-preserved : goal.loop-count-preserved
loop-count-preserved c =
    let words = c.loop-count.words in
    let n = c.loop-count.count in
    let plain : is_plain c.in-Some.after.now ≡ true = search rules in
    let first : words_of c.loop-count.rest.now ≡ c.in-Some.word.now ∷ words_of c.in-Some.after.now = search rules in
    let lt : n < length words = omega (arith, c.loop-count-test.true, c.loop-count.invariant.2) in (
      search rules,
      plain,
      length-set words n c.in-Some.word ∙ c.loop-count.invariant.2,
      words-more (λ w. w.now) words n c.in-Some.word _ _ _ lt first c.loop-count.invariant.3,
    )
