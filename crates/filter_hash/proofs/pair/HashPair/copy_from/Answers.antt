use Rattle.std.proofs.Common.{◌≡◌, length, sym, ap, ◌∙◌}
use Rattle.ft_base.specs.Marks.{Marks, union, empty}
use Rattle.site_set.proofs.MarksLemmas.{union-empty}
use Rattle.filter_hash.specs.Pair.{Pair, size_of}
use Rattle.filter_hash.proofs.pair.HashPair.copy_from.Goals as goal

-- the empty set of one size, united with another set of that size
emptied : (s t cleared united : Marks) → cleared ≡ empty (length s) → united ≡ union cleared t → length t ≡ length s → united ≡ t
emptied s t cleared united c u e = u ∙ ap (λ (x : Marks). union x t) (c ∙ ap empty (sym e)) ∙ union-empty t

-- two pairs with the same sets are one
one_pair : (p : Pair) (f n g m : Marks) → f ≡ g → n ≡ m → record { filter = g; notrace = m } ≡ p → record { filter = f; notrace = n } ≡ p
one_pair p f n g m a b e = rw (a, b) e

pub returns : goal.returns
returns c =
    let size : length c.other.inside.filter ≡ length c.self.inside.filter =
    ap size_of c.other.view_is ∙ c.requires ∙ sym (ap size_of c.self.view_is) in
    let filter : c.unite.new.self ≡ c.other.inside.filter = emptied c.self.inside.filter c.other.inside.filter _ _ c.clear.ensures.members c.unite.ensures.members size in
    let notrace : c.unite-2.new.self ≡ c.other.inside.notrace =
    emptied c.self.inside.notrace c.other.inside.notrace _ _ c.clear-2.ensures.members c.unite-2.ensures.members
    (c.other.invariant ∙ size ∙ sym c.self.invariant) in
    one_pair c.args.other.now c.unite.new.self c.unite-2.new.self _ _ filter notrace c.other.view_is
