-- The items of a history at its places, and their pasts.
use Rattle.std.proofs.Common.{◌≡◌, ℕ, ◌+◌, ◌<◌, List, ◌∷◌, ◌++◌, length, reverse, take, drop, slice_get, Some, sym, ap, ◌∙◌, subst, arith}
use Rattle.std.proofs.lemmas.List.{take-append-drop, drop_more, length-take-le, take_all}
use Rattle.std.proofs.lemmas.Option.{slice_get_within, get_or_from_slice_get}
use Rattle.ft_base.specs.declared.number.CallNo.{CallNo}
use Rattle.ft_base.specs.declared.number.UserNo.{UserNo}
use Rattle.ft_base.specs.declared.item.Item.{Item}
use Rattle.ft_base.specs.declared.item.Item.TheVariants.{Back, Exit}
use Rattle.func_profile.specs.Rows.{IsEntered, HasRows}
use Rattle.ft_hist.specs.Telling.{past_at}

module _ (items : List Item) (k : ℕ) (item : Item) (here : slice_get items k ≡ Some item) where
  within : k < length items
  within = slice_get_within items k item here

  split : items ≡ take k items ++ item ∷ drop (k + 1) items
  split =
      sym (take-append-drop k items)
      ∙ ap (λ xs. take k items ++ xs) (drop_more items k item within ∙ ap (λ x. x ∷ drop (k + 1) items) (get_or_from_slice_get items k item item here))

  length-front : length (take k items) ≡ k
  length-front = length-take-le k items (omega (arith, within))

module _ (funcs : ℕ) (items : List Item) (rows : HasRows funcs items) (k : ℕ) (call : CallNo) (user : UserNo) where
  -- the call of a callback was entered
  pub back-at : slice_get items k ≡ Some (Back call user) → IsEntered funcs call (past_at k items)
  back-at here = rows.backs (take k items) (drop (k + 1) items) call user (split items k (Back call user) here)

  pub exit-at : (entry : ℕ) → slice_get items k ≡ Some (Exit call user entry) → IsEntered funcs call (past_at k items) × (entry < k)
  exit-at entry here =
      let both = rows.exits (take k items) (drop (k + 1) items) call user entry (split items k (Exit call user entry) here) in
      (both.0, subst (λ n. entry < n) (length-front items k (Exit call user entry) here) both.1)

-- the past of the end is the whole history
pub past-all : (items : List Item) → past_at (length items) items ≡ reverse items
past-all items = ap reverse (take_all (length items) items (omega arith))
