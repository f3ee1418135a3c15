use Rattle.std.proofs.Common.{refl, sym, arith}
use Rattle.site_set.proofs.MarksLemmas.{least_common-from_AreDisjoint, least_common-from_IsLeastCommon, not_disjoint-from_IsLeastCommon}
use Rattle.site_set.proofs.MergeLemmas.{same_slices, AreDisjoint-from_slices, IsLeastCommon-from_slices}
use Rattle.site_set.proofs.sets.SiteSet.first_common.Goals as goal

pub loop-w-init : goal.loop-w-init
loop-w-init c = record {
  same = same_slices _ _ _ _ _ _ _ c.self.invariant c.other.invariant c.self.view_is c.other.view_is c.requires c.deref-word-items.ensures.value;
  apart = λ k h. absurd (omega arith);
}

pub returns-in-Some-clause-least : goal.returns-in-Some-clause-least
returns-in-Some-clause-least c =
    IsLeastCommon-from_slices _ _ _ _ _ _ _ c.self.invariant c.other.invariant c.self.view_is c.other.view_is c.requires c.deref-word-items.ensures.value
    c.loop-w.w c.in-Some.bit _ (omega arith) c.index.ensures c.loop-w.invariant.apart c.in-Some.ensures.some

pub returns-in-Some-clause-value : goal.returns-in-Some-clause-value
returns-in-Some-clause-value c =
    sym (least_common-from_IsLeastCommon _ _ c.requires _ (IsLeastCommon-from_slices _ _ _ _ _ _ _ c.self.invariant c.other.invariant c.self.view_is c.other.view_is c.requires c.deref-word-items.ensures.value
    c.loop-w.w c.in-Some.bit _ (omega arith) c.index.ensures c.loop-w.invariant.apart c.in-Some.ensures.some))

pub returns-in-Some-clause-none : goal.returns-in-Some-clause-none
returns-in-Some-clause-none c = (
  λ no. absurd cc,
  λ apart. absurd (not_disjoint-from_IsLeastCommon _ _ _ (IsLeastCommon-from_slices _ _ _ _ _ _ _ c.self.invariant c.other.invariant c.self.view_is c.other.view_is c.requires c.deref-word-items.ensures.value
      c.loop-w.w c.in-Some.bit _ (omega arith) c.index.ensures c.loop-w.invariant.apart c.in-Some.ensures.some) apart),
)

pub returns-clause-value : goal.returns-clause-value
returns-clause-value c =
    sym (least_common-from_AreDisjoint _ _ c.requires (AreDisjoint-from_slices _ _ _ _ _ _ _ c.self.invariant c.other.invariant c.self.view_is c.other.view_is c.requires c.deref-word-items.ensures.value
    (λ k h. c.loop-w.invariant.apart k (omega arith))))

pub returns-clause-none : goal.returns-clause-none
returns-clause-none c = (
  λ no. AreDisjoint-from_slices _ _ _ _ _ _ _ c.self.invariant c.other.invariant c.self.view_is c.other.view_is c.requires c.deref-word-items.ensures.value
      (λ k h. c.loop-w.invariant.apart k (omega arith)),
  λ apart. refl,
)
