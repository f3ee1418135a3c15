use Rattle.std.proofs.Common.{[], ◌++◌, refl, arith, ◌∙◌, ap}
use Rattle.ft_io.proofs.PieceLaws.{puts-none, puts-then, puts-equal}
use Rattle.told_facts.specs.Values.{escaped}
use Rattle.told_facts.proofs.Texts.{words-all, words-more}
use Rattle.told_facts.proofs.fields.put_words.Goals as goal

pub loop-word-init : goal.loop-word-init
loop-word-init g c = ([], puts-none _ _, refl)

pub loop-word-preserved : goal.loop-word-preserved
loop-word-preserved g c =
    let so_far = c.loop-word.invariant in
    let l = c.loop-word in (
      _,
      puts-then so_far.1 (puts-then (puts-equal (c.as_bytes.ensures.value ∙ c.space.ensures) c.put.ensures) (puts-equal (ap escaped c.as_bytes-in-loop-word.ensures.value) c.put_escaped.ensures)),
      words-more (λ w. w.now) c.args.words.now l.word-index so_far.0 _ l.is_first _ c.loop-word-test.true so_far.2,
    )

pub returns : goal.returns
returns g c =
    let so_far = c.loop-word.invariant in
    puts-equal (words-all (λ w. w.now) c.args.words.now c.loop-word.word-index so_far.0 _ c.loop-word.is_first (omega arith) so_far.2) so_far.1
