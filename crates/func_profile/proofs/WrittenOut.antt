-- A history that is written out has rows if each of its callbacks keeps the rule.
use Rattle.std.proofs.Common.{◌≡◌, ℕ, ◌<◌, List, [], ◌∷◌, ◌++◌, length, reverse, ap, ◌∙◌, subst}
use Rattle.std.proofs.lemmas.List.{length-reverse}
use Rattle.ft_base.specs.declared.item.Item.{Item}
use Rattle.ft_base.specs.declared.item.Item.TheVariants.{Back, Exit}
use Rattle.ft_hist.proofs.Splitting.{split-reverse}
use Rattle.func_profile.specs.Rows.{IsEntered, HasRows}

-- the rule of the callbacks of a past, one after another
abbrev pub Callbacks : ℕ → List Item → Type 0
Callbacks n [] = Unit {0}
Callbacks n (Back call v ∷ past) = IsEntered n call past × Callbacks n past
Callbacks n (Exit call v entry ∷ past) = IsEntered n call past × (entry < length past) × Callbacks n past
Callbacks n (_ ∷ past) = Callbacks n past

older : (n : ℕ) (item : Item) (past : List Item) → Callbacks n (item ∷ past) → Callbacks n past
older n (Back call v) past h = h.1
older n (Exit call v entry) past h = h.2
older n _ past h = h

at : (n : ℕ) (newer past : List Item) → Callbacks n (newer ++ past) → Callbacks n past
at n [] past h = h
at n (item ∷ newer) past h = at n newer past (older n item (newer ++ past) h)

pub rows-by : (n : ℕ) (items : List Item) → Callbacks n (reverse items) → HasRows n items
rows-by n items h = record {
  backs = λ before after call user e. (here before (Back call user) after e).0;
  exits = λ before after call user entry e. (
    (here before (Exit call user entry) after e).0,
    subst (λ m. entry < m) (length-reverse before) (here before (Exit call user entry) after e).1,
  );
}
  where
    here : (before : List Item) (item : Item) (after : List Item) → items ≡ before ++ item ∷ after → Callbacks n (item ∷ reverse before)
    here before item after e =
        at n (reverse after) (item ∷ reverse before) (subst (λ past. Callbacks n past) (ap (λ (xs : List Item). reverse xs) e ∙ split-reverse before item after) h)
