use Rattle.std.proofs.Common.{◌∙◌, ◌+◌, ◌<◌, ◌^◌, ap, arith, count_ones, get_or}
use Rattle.site_set.proofs.WordLemmas.{count_below_more, count_below-lt, count_below_all}
use Rattle.site_set.proofs.sets.SiteSet.count.Goals as goal

pub overflow_add-count : goal.overflow_add-count
overflow_add-count c =
    let w = c.loop-word.word-index in
    let fits : get_or c.deref-word-items.result.now w 0 < 2 ^ 64 = omega (arith, c.type_inv.word-items w) in
    omega (
      arith,
      c.loop-word.invariant,
      count_below-lt _ _ _ c.self.invariant c.self.view_is (w + 1),
      count_below_more _ _ _ _ c.self.invariant c.self.view_is c.deref-word-items.ensures.value w fits,
    )

pub loop-word-preserved : goal.loop-word-preserved
loop-word-preserved c =
    let w = c.loop-word.word-index in
    let fits : get_or c.deref-word-items.result.now w 0 < 2 ^ 64 = omega (arith, c.type_inv.word-items w) in
    ap (λ n. n + count_ones (get_or c.deref-word-items.result.now w 0)) c.loop-word.invariant
    ∙ count_below_more _ _ _ _ c.self.invariant c.self.view_is c.deref-word-items.ensures.value w fits

pub returns : goal.returns
returns c = c.loop-word.invariant ∙ count_below_all _ _ _ _ c.self.invariant c.self.view_is c.deref-word-items.ensures.value c.loop-word.word-index c.loop-word-test.false
