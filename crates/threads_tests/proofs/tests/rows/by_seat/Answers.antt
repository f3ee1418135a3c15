use Rattle.std.proofs.Common.{◌∙◌, refl}
use Rattle.threads_tests.proofs.Back.{from-new, put-back, taken-out}
use Rattle.threads_tests.proofs.tests.rows.by_seat.Goals as goal

pub offer_all-requires : goal.offer_all-requires
offer_all-requires c =
    let b = c.in_ok-table.field-0.table in
    (taken-out b _ _ _ c.in-Some.ensures.items (from-new b _ _ c.in_ok-table.ensures.seats)).1.0

pub close-requires : goal.close-requires
close-requires c =
    let b = c.in_ok-table.field-0.table in
    let new = c.in_ok-table.ensures.seats in
    let all = from-new b _ _ new in
    let was = c.in-Some.ensures.items in
    let again = put-back b _ _ _ _ _ _ was c.push_reserved.ensures.items all ((taken-out b _ _ _ was all).0, refl) c.offer_all.ensures in
    record { count = again.1 ∙ new.count; each = again.0 }
