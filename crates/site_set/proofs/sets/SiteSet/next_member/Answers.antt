use Rattle.std.proofs.Common.{◌/◌, arith}
use Rattle.site_set.proofs.MemberLemmas.{next_member-some, no_member-word}
use Rattle.site_set.proofs.sets.SiteSet.next_member.Goals as goal

pub returns-in-Some-clause-some : goal.returns-in-Some-clause-some
returns-in-Some-clause-some c =
    next_member-some _ _ (c.args.from / 64) _ c.word.ensures.bits (λ g l h. absurd (omega (arith, l, h))) _ c.in-Some.bit (omega arith) (omega arith) c.in-Some.ensures.some

pub loop-w-init : goal.loop-w-init
loop-w-init c =
    no_member-word _ _ (c.args.from / 64) _ c.word.ensures.bits (λ g l h. absurd (omega (arith, l, h))) _ (omega arith) c.in_default.ensures.none

pub returns-in-Some-next_bit-clause-some : goal.returns-in-Some-next_bit-clause-some
returns-in-Some-next_bit-clause-some c =
    next_member-some _ _ c.loop-w.w _ c.word-in-loop-w.ensures.bits c.loop-w.invariant _ c.in-Some-next_bit.bit (omega arith) (omega arith) c.in-Some-next_bit.ensures.some

pub loop-w-preserved : goal.loop-w-preserved
loop-w-preserved c =
    no_member-word _ _ c.loop-w.w _ c.word-in-loop-w.ensures.bits c.loop-w.invariant _ (omega arith) c.in_default-next_bit.ensures.none
