use Rattle.std.proofs.Common.{refl, sym, ◌∙◌}
use Rattle.script_text.proofs.WordLemmas.{all_read-none, all_read-more, all_read-end}
use Rattle.script_text.proofs.word.all_read.Goals as goal

pub returns-in_default : goal.returns-in_default
returns-in_default g c = λ says computes.
    let same = computes _ _ (record { shown = _; shows = refl; says = record { met = c.read.ensures } }) in
    all_read-none says (λ w. w.now) c.args.words.now c.loop-word.values.items c.loop-word.word-index (c.loop-word.invariant says computes) _ c.loop-word-test.true (sym c.in_default.is ∙ same)

pub loop-word-preserved : goal.loop-word-preserved
loop-word-preserved g c = λ says computes.
    let same = computes _ _ (record { shown = _; shows = refl; says = record { met = c.read.ensures } }) in
    all_read-more says (λ w. w.now) c.args.words.now c.loop-word.values.items c.loop-word.word-index (c.loop-word.invariant says computes) _ c.loop-word-test.true c.in-Some.value c.push.new.self.items c.in_ok-push.ensures.items (sym c.in-Some.is ∙ same)

pub returns : goal.returns
returns g c = λ says computes. all_read-end says (λ w. w.now) c.args.words.now c.loop-word.values.items c.loop-word.word-index (c.loop-word.invariant says computes) c.loop-word-test.false
