use Rattle.std.proofs.Common.{◌∙◌, refl}
use Rattle.threads_tests.proofs.Back.{from-new, put-back, taken-out}
use Rattle.threads_tests.proofs.tests.threads.by_threads.Goals as goal

pub offer_both-requires-clause-second : goal.offer_both-requires-clause-second
offer_both-requires-clause-second g c =
    let b = c.in_ok-table.field-0.table in
    (taken-out b _ _ _ c.in-Some.ensures.items (from-new b _ _ c.in_ok-table.ensures.seats)).1.0

pub offer_both-requires-clause-first : goal.offer_both-requires-clause-first
offer_both-requires-clause-first g c =
    let b = c.in_ok-table.field-0.table in
    let one = taken-out b _ _ _ c.in-Some.ensures.items (from-new b _ _ c.in_ok-table.ensures.seats) in
    (taken-out b _ _ _ c.in-Some-pop.ensures.items one.0).1.0

pub close-requires : goal.close-requires
close-requires g c =
    let b = c.in_ok-table.field-0.table in
    let new = c.in_ok-table.ensures.seats in
    let all = from-new b _ _ new in
    let was = c.in-Some.ensures.items in
    let before = c.in-Some-pop.ensures.items in
    let two = (taken-out b _ _ _ was all).0 in
    let first = put-back b _ _ _ _ _ _ before c.push_reserved.ensures.items two ((taken-out b _ _ _ before two).0, refl) c.offer_both.ensures.first in
    let second = put-back b _ _ _ _ _ _ was c.push_reserved-2.ensures.items all first c.offer_both.ensures.second in
    record { count = second.1 ∙ new.count; each = second.0 }
