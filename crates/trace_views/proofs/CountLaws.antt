-- The counts of the items so far.
use Rattle.std.proofs.Common.{◌≡◌, ℕ, ◌+◌, ◌<◌, ◌≤◌, ◌^◌, Bool, true, false, List, [], ◌∷◌, ◌++◌, length, take, slice_get, Some, filter, refl, sym, ap, ◌∙◌, arith, cond}
use Rattle.std.proofs.lemmas.List.{length-take-le}
use Rattle.std.proofs.lemmas.List.Filters.{length-filter_more}
use Rattle.std.proofs.lemmas.Option.{slice_get_within, get_or_from_slice_get}
use Rattle.ft_base.specs.declared.item.Item.{Item}
use Rattle.ft_base.specs.declared.item.ItemKind.{ItemKind}
use Rattle.ft_base.specs.Items.{kind_of}
use Rattle.trace_views.specs.declared.counts.Counts.{Counts}
use Rattle.trace_views.specs.ItemCounts.{count_of, is_enter, is_back, is_refuse, is_exit, is_miss}
use Rattle.trace_views.specs.Counted.{IsCounted, HasRoom, more, with_kind}

fewer : (p : ItemKind → Bool) (items : List Item) → count_of p items ≤ length items
fewer p [] = omega arith
fewer p (x ∷ items) = elim (p (kind_of x)) as (λ b. length (cond b (x ∷ filter (λ y. p (kind_of y)) items) (filter (λ y. p (kind_of y)) items)) ≤ length (x ∷ items)) [
  | true ↦ (let le = fewer p items in omega (arith, le))
  | false ↦ (let le = fewer p items in omega (arith, le))
]

-- of one more item
count-next : (p : ItemKind → Bool) (items : List Item) (x : Item) → count_of p (items ++ x ∷ []) ≡ more (p (kind_of x)) (count_of p items)
count-next p [] x = elim (p (kind_of x)) as (λ b. length (cond b (x ∷ []) []) ≡ more b 0) [ true ↦ refl | false ↦ refl ]
count-next p (y ∷ items) x = elim (p (kind_of y)) as (λ b. length (cond b (y ∷ filter (λ z. p (kind_of z)) (items ++ x ∷ [])) (filter (λ z. p (kind_of z)) (items ++ x ∷ [])))
    ≡ more (p (kind_of x)) (length (cond b (y ∷ filter (λ z. p (kind_of z)) items) (filter (λ z. p (kind_of z)) items)))) [
      | true ↦ (let e = count-next p items x in omega (arith, e))
      | false ↦ count-next p items x
    ]

pub counted-more : (items : List Item) (k : ℕ) (x : Item) (c : Counts) → slice_get items k ≡ Some x → IsCounted (take k items) c
    → IsCounted (take (k + 1) items) (with_kind (kind_of x) c)
counted-more items k x c here is = record {
  calls = goes is_enter c.calls is.calls;
  backs = goes is_back c.backs is.backs;
  refused = goes is_refuse c.refused is.refused;
  exits = goes is_exit c.exits is.exits;
  missed = goes is_miss c.missed is.missed;
}
  where
    count-more : (p : ItemKind → Bool) → count_of p (take (k + 1) items) ≡ more (p (kind_of x)) (count_of p (take k items))
    count-more p =
        length-filter_more (λ y. p (kind_of y)) items k x (slice_get_within items k x here)
        ∙ ap (λ y. more (p (kind_of y)) (count_of p (take k items))) (get_or_from_slice_get items k x x here)

    goes : (p : ItemKind → Bool) (n : ℕ) → n ≡ count_of p (take k items) → more (p (kind_of x)) n ≡ count_of p (take (k + 1) items)
    goes p n e = ap (λ m. more (p (kind_of x)) m) e ∙ sym (count-more p)

-- one more item
pub counted-next : (items : List Item) (x : Item) (c : Counts) → IsCounted items c → IsCounted (items ++ x ∷ []) (with_kind (kind_of x) c)
counted-next items x c is = record {
  calls = goes is_enter c.calls is.calls;
  backs = goes is_back c.backs is.backs;
  refused = goes is_refuse c.refused is.refused;
  exits = goes is_exit c.exits is.exits;
  missed = goes is_miss c.missed is.missed;
}
  where
    goes : (p : ItemKind → Bool) (n : ℕ) → n ≡ count_of p items → more (p (kind_of x)) n ≡ count_of p (items ++ x ∷ [])
    goes p n e = ap (λ m. more (p (kind_of x)) m) e ∙ sym (count-next p items x)

-- there is room for one more
pub counts-room : (items : List Item) (c : Counts) → length items + 1 < 2 ^ 32 → IsCounted items c → HasRoom c
counts-room items c few is = record {
  calls = room is_enter c.calls is.calls;
  backs = room is_back c.backs is.backs;
  refused = room is_refuse c.refused is.refused;
  exits = room is_exit c.exits is.exits;
  missed = room is_miss c.missed is.missed;
}
  where
    room : (p : ItemKind → Bool) (n : ℕ) → n ≡ count_of p items → n + 1 < 2 ^ 32
    room p n e = let le = fewer p items in omega (arith, e, le, few)

-- no count is larger than there are items
pub counts-within : (items : List Item) (k : ℕ) (c : Counts) → k < length items → length items < 2 ^ 32 → IsCounted (take k items) c → HasRoom c
counts-within items k c within small is = record {
  calls = room is_enter c.calls is.calls;
  backs = room is_back c.backs is.backs;
  refused = room is_refuse c.refused is.refused;
  exits = room is_exit c.exits is.exits;
  missed = room is_miss c.missed is.missed;
}
  where
    room : (p : ItemKind → Bool) (n : ℕ) → n ≡ count_of p (take k items) → n + 1 < 2 ^ 32
    room p n e =
        let le = fewer p (take k items) in
        let len = length-take-le k items (omega (arith, within)) in
        omega (arith, e, le, len, within, small)
