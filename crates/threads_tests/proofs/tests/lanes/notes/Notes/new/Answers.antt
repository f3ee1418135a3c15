use Rattle.std.proofs.Common.{◌≡◌, ◌≤◌, [], ℕ, List, ap, sym, refl, subst, arith, length, sum, vec_capacity}
use Rattle.ft_base.specs.declared.limits.TheConstants.{LANES}
use Rattle.desk_lock.specs.declared.served.Served1.{Served1}
use Rattle.desk_lock.specs.LockInvariant.{LockInvariant, lanes_from}
use Rattle.desk_lock.proofs.Keeping.{held_first}
use Rattle.threads_tests.proofs.tests.lanes.notes.Notes.new.Goals as goal

pub invariant_of-result : goal.invariant_of-result
invariant_of-result c =
    let counts = c.in_ok-counts.counts.items in
    let room = vec_capacity c.in_ok-served.served in
    let same : counts ≡ c.args.counts.now = c.in_ok-counts.ensures.items_if_clones_equal (λ x y e. e) in
    let enough : sum counts ≤ room =
    let e = ap (λ (l : List ℕ). sum l) same in let f = c.requires.items in let k = c.in_ok-served.ensures.capacity in omega (arith, e, f, k) in
    subst (λ (j : List Served1). LockInvariant counts [] counts [] j j (lanes_from 0 counts j) room) (sym c.in_ok-served.ensures.items)
    (held_first counts [] counts [] [] (lanes_from 0 counts []) room refl refl refl refl (subst (λ (l : List ℕ). length l ≤ LANES) (sym same) c.requires.lanes) enough)
