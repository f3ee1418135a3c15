use Rattle.std.proofs.Common.{◌/◌, arith}
use Rattle.site_set.proofs.NextOfTwoLemmas.{next_of_two-some, none_of_two-word}
use Rattle.site_set.proofs.sets.SiteSet.next_of_two.Goals as goal

pub returns-in-Some-clause-some : goal.returns-in-Some-clause-some
returns-in-Some-clause-some c =
    next_of_two-some _ _ _ (c.args.from / 64) _ _ c.requires c.word.ensures.bits c.word-2.ensures.bits (λ g l h. absurd (omega (arith, l, h))) _ c.in-Some.bit (omega arith) (omega arith)
    c.in-Some.ensures.some

pub loop-w-init : goal.loop-w-init
loop-w-init c =
    none_of_two-word _ _ _ (c.args.from / 64) _ _ c.requires c.word.ensures.bits c.word-2.ensures.bits (λ g l h. absurd (omega (arith, l, h))) _ (omega arith) c.in_default.ensures.none

pub returns-in-Some-next_bit-clause-some : goal.returns-in-Some-next_bit-clause-some
returns-in-Some-next_bit-clause-some c =
    next_of_two-some _ _ _ c.loop-w.w _ _ c.requires c.word-in-loop-w.ensures.bits c.word-in-loop-w-2.ensures.bits c.loop-w.invariant _ c.in-Some-next_bit.bit (omega arith) (omega arith)
    c.in-Some-next_bit.ensures.some

pub loop-w-preserved : goal.loop-w-preserved
loop-w-preserved c =
    none_of_two-word _ _ _ c.loop-w.w _ _ c.requires c.word-in-loop-w.ensures.bits c.word-in-loop-w-2.ensures.bits c.loop-w.invariant _ (omega arith) c.in_default-next_bit.ensures.none
