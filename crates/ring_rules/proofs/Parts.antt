-- The places at which triggers fired, in parts.
use Rattle.std.proofs.Common.{◌≡◌, ℕ, ◌+◌, ◌<◌, List, [], ◌∷◌, ◌++◌, length, get_or, take, sym, ap, ◌∙◌, arith}
use Rattle.std.specs.Global.{Vec}
use Rattle.std.proofs.lemmas.List.{append-nil, ext_get_or, take_more}
use Rattle.std.proofs.lemmas.List.Folds.{flat_map-map, length-flat_map-take}
use Rattle.std.proofs.lemmas.List.FromFn.{get_or-map-range_with_len, length-map-range_with_len}
use Rattle.std.proofs.lemmas.Grind.{flat_map-append}
use Rattle.ring_rules.specs.Legal.{fired_at}
use Rattle.ring_rules.specs.Gathered.{all_fired, lists_of, part_lists, places_in, places_of}

-- ## by trigger

pub fired-is : (n i : ℕ) (parts : List (List (List ℕ))) → i < n → fired_at (all_fired n parts) i ≡ places_in i parts
fired-is n i parts lt = get_or-map-range_with_len (λ j. places_in j parts) 0 n i i [] lt (omega arith)

pub fired-count : (n : ℕ) (parts : List (List (List ℕ))) → length (all_fired n parts) ≡ n
fired-count n parts = length-map-range_with_len (λ j. places_in j parts) 0 n

-- one part alone
pub one-part : (n : ℕ) (lists : List (List ℕ)) → length lists ≡ n → all_fired n (lists ∷ []) ≡ lists
one-part n lists e =
    ext_get_or [] (all_fired n (lists ∷ [])) lists (fired-count n (lists ∷ []) ∙ sym e)
    (λ i lt. fired-is n i (lists ∷ []) (let c = fired-count n (lists ∷ []) in omega (arith, lt, c)) ∙ append-nil (fired_at lists i))

-- ## as the program keeps them

pub same-places : (i : ℕ) (parts : List (Vec (Vec ℕ))) → places_in i (part_lists parts) ≡ places_of i parts
same-places i parts = flat_map-map (λ p. fired_at p i) (λ (p : Vec (Vec ℕ)). lists_of p.items) parts

-- the places of a trigger among all
pub fired-as : (n i : ℕ) (parts : List (Vec (Vec ℕ))) → i < length (all_fired n (part_lists parts))
    → fired_at (all_fired n (part_lists parts)) i ≡ places_of i parts
fired-as n i parts lt = fired-is n i (part_lists parts) (let c = fired-count n (part_lists parts) in omega (arith, lt, c)) ∙ same-places i parts

-- those of one more part
pub places-more : (i k : ℕ) (parts : List (Vec (Vec ℕ))) (d : Vec (Vec ℕ)) → k < length parts
    → places_of i (take (k + 1) parts) ≡ places_of i (take k parts) ++ fired_at (lists_of (get_or parts k d).items) i
places-more i k parts d lt =
    ap (places_of i) (take_more parts k d lt)
    ∙ flat_map-append (λ (p : Vec (Vec ℕ)). fired_at (lists_of p.items) i) (take k parts) (get_or parts k d ∷ [])
    ∙ ap (λ l. places_of i (take k parts) ++ l) (append-nil (fired_at (lists_of (get_or parts k d).items) i))

-- there are no more in all
pub places-fit : (i k most : ℕ) (parts : List (Vec (Vec ℕ))) (part : Vec (Vec ℕ)) (list : List ℕ) → k < length parts → part ≡ get_or parts k part
    → list ≡ fired_at (lists_of part.items) i
    → length (places_of i parts) < most → length (places_of i (take k parts)) + length list < most
places-fit i k most parts part list lt at is few =
    let within = length-flat_map-take (λ (p : Vec (Vec ℕ)). fired_at (lists_of p.items) i) parts k part lt in
    let same = ap length (is ∙ ap (λ (p : Vec (Vec ℕ)). fired_at (lists_of p.items) i) at) in
    omega (arith, within, same, few)
