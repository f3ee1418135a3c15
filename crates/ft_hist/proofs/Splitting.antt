-- Legality at every place: each item may stand after those before it, and what comes later plays no part.
use Rattle.std.proofs.Common.{◌≡◌, ℕ, ◌+◌, ◌<◌, List, [], ◌∷◌, ◌++◌, length, reverse, take, slice_get, Some, refl, sym, ap, ◌∙◌, subst, arith, append_assoc}
use Rattle.std.proofs.lemmas.List.{take_more, reverse-append, reverse-reverse, length-take-le, length-reverse}
use Rattle.std.proofs.lemmas.Option.{slice_get_within, get_or_from_slice_get}
use Rattle.ft_base.specs.declared.item.Item.{Item}
use Rattle.ft_base.specs.Job.{Job}
use Rattle.ft_hist.specs.Rules.{IsLegal, IsLegalPast, MayFollow}
use Rattle.ft_hist.specs.Telling.{past_at}

-- a history that is split at an item, the latest first
pub split-reverse : (before : List Item) (item : Item) (after : List Item) → reverse (before ++ item ∷ after) ≡ reverse after ++ item ∷ reverse before
split-reverse before item after =
    reverse-append before (item ∷ after)
    ∙ ap (λ (xs : List Item). xs ++ reverse before) (reverse-append (item ∷ []) after)
    ∙ append_assoc (reverse after) (item ∷ []) (reverse before)

module _ (items : List Item) (k : ℕ) (item : Item) (here : slice_get items k ≡ Some item) where
  within : k < length items
  within = slice_get_within items k item here

  -- the past of the next place has the item on top
  pub past-more : past_at (k + 1) items ≡ item ∷ past_at k items
  past-more =
      ap reverse (take_more items k item within ∙ ap (λ x. take k items ++ x ∷ []) (get_or_from_slice_get items k item item here))
      ∙ reverse-append (take k items) (item ∷ [])

  -- as many items are before a place as its number
  pub length-past : length (past_at k items) ≡ k
  length-past = length-reverse (take k items) ∙ length-take-le k items (omega (arith, within))

module _ (job : Job) where
  -- the past of a legal past is legal
  pub legal-older : (newer past : List Item) → IsLegalPast job (newer ++ past) → IsLegalPast job past
  unfolding IsLegalPast
  legal-older [] past l = l
  legal-older (x ∷ newer) past l = legal-older newer past l.1

  -- a beginning of a legal history is legal
  pub legal-front : (front rest : List Item) → IsLegal job (front ++ rest) → IsLegal job front
  unfolding IsLegal
  legal-front front rest l = legal-older (reverse rest) (reverse front) (subst (λ (xs : List Item). IsLegalPast job xs) (reverse-append front rest) l)

  legal-by : (past : List Item) → ((newer : List Item) (item : Item) (older : List Item) → past ≡ newer ++ item ∷ older → MayFollow job older item) → IsLegalPast job past
  unfolding IsLegalPast
  legal-by [] h = tt
  legal-by (x ∷ past) h = (h [] x past refl, legal-by past (λ newer item older e. h (x ∷ newer) item older (ap (λ (xs : List Item). x ∷ xs) e)))

  pub splits : (items before : List Item) (item : Item) (after : List Item) → IsLegal job items → items ≡ before ++ item ∷ after → MayFollow job (reverse before) item
  unfolding IsLegal IsLegalPast
  splits items before item after l e =
      (legal-older (reverse after) (item ∷ reverse before) (subst (λ (xs : List Item). IsLegalPast job xs) (ap (λ (xs : List Item). reverse xs) e ∙ split-reverse before item after) l)).0

  pub joins : (items : List Item) → ((before : List Item) (item : Item) (after : List Item) → items ≡ before ++ item ∷ after → MayFollow job (reverse before) item) → IsLegal job items
  unfolding IsLegal
  joins items h = legal-by (reverse items) (λ newer item older e.
      subst (λ (xs : List Item). MayFollow job xs item) (reverse-reverse older)
      (h (reverse older) item (reverse newer) (sym (reverse-reverse items) ∙ ap (λ (xs : List Item). reverse xs) e ∙ split-reverse newer item older)))
