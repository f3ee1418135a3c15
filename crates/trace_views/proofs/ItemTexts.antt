-- The texts of the items of a history, one after the other.
use Rattle.std.proofs.Common.{◌≡◌, ℕ, zero, suc, ◌+◌, ◌≤◌, List, [], ◌∷◌, ◌++◌, Some, length, take, drop, refl, sym, ap, ◌∙◌, subst, append_assoc, append-nil, add-one}
use Rattle.std.specs.Prelude.{slice_get, reverse}
use Rattle.std.proofs.lemmas.List.{drop_all, reverse-append, reverse-reverse, take-append-drop}
use Rattle.ft_base.specs.declared.item.Item.{Item}
use Rattle.ft_base.specs.Job.{Job}
use Rattle.ft_hist.specs.Rules.{IsLegal, IsLegalPast}
use Rattle.ft_hist.proofs.ItemOrders.{legal-to}
use Rattle.trace_views.specs.Words.{item_texts}
use Rattle.ft_hist.specs.Telling.{past_at}
use Rattle.trace_views.specs.Places.{part_at}

-- from a place on
pub drop_at_get : {A : Type 0} (xs : List A) (p : ℕ) (x : A) → slice_get xs p ≡ Some x → drop p xs ≡ x ∷ drop (suc p) xs
drop_at_get [] p x e = absurd cc
drop_at_get (y ∷ ys) zero x e = let s : y ≡ x = cc in rw s refl
drop_at_get (y ∷ ys) (suc p) x e = drop_at_get ys p x e

take-item : {A : Type 0} (xs : List A) (p : ℕ) (x : A) → slice_get xs p ≡ Some x → take (suc p) xs ≡ take p xs ++ x ∷ []
take-item [] p x e = absurd cc
take-item (y ∷ ys) zero x e = let s : y ≡ x = cc in rw s refl
take-item (y ∷ ys) (suc p) x e = ap (λ (zs : List _). y ∷ zs) (take-item ys p x e)

module _ (items : List Item) (p : ℕ) (x : Item) (here : slice_get items p ≡ Some x) where
  -- the past of the next place
  pub past-next : past_at (suc p) items ≡ x ∷ past_at p items
  past-next = ap (λ (zs : List Item). reverse zs) (take-item items p x here) ∙ reverse-append (take p items) (x ∷ [])

  -- in a legal history the item may follow its past
  pub legal-at : (job : Job) → IsLegal job items → IsLegalPast job (x ∷ past_at p items)
  legal-at job l = subst (λ (past : List Item). IsLegalPast job past) past-next (legal-to job items (take (suc p) items) (drop (suc p) items) l (sym (take-append-drop (suc p) items)))

  -- what the item prints
  pub part-is : (part : List Item → Item → List Item → List ℕ) → part_at part p items ≡ part (past_at p items) x (drop (suc p) items)
  part-is part = rw here refl

  -- one more text
  pub texts-more : (part : List Item → Item → List Item → List ℕ) (t t' all : List ℕ) → t' ≡ t ++ part_at part p items
      → t ++ item_texts part (past_at p items) (drop p items) ≡ all → t' ++ item_texts part (past_at (p + 1) items) (drop (p + 1) items) ≡ all
  texts-more part t t' all grown so_far =
      let here_first : t ++ (part (past_at p items) x (drop (suc p) items) ++ item_texts part (x ∷ past_at p items) (drop (suc p) items)) ≡ all = rw (drop_at_get items p x here) at so_far in
      let printed : t' ≡ t ++ part (past_at p items) x (drop (suc p) items) = grown ∙ ap (λ (text : List ℕ). t ++ text) (part-is part) in
      let joined : t' ++ item_texts part (x ∷ past_at p items) (drop (suc p) items) ≡ all = rw printed (append_assoc t (part (past_at p items) x (drop (suc p) items)) (item_texts part (x ∷ past_at p items) (drop (suc p) items)) ∙ here_first) in
      rw (add-one p) (subst (λ (past : List Item). t' ++ item_texts part past (drop (suc p) items) ≡ all) (sym past-next) joined)

-- all texts
pub texts-all : (part : List Item → Item → List Item → List ℕ) (items : List Item) (p : ℕ) (t all : List ℕ) → length items ≤ p
    → t ++ item_texts part (past_at p items) (drop p items) ≡ all → t ≡ all
texts-all part items p t all past so_far = let a : t ++ [] ≡ all = rw (drop_all p items past) at so_far in sym (append-nil t) ∙ a

-- one more text, of items the latest first, where what an item prints is not told what comes after it
pub texts-next : (part : List Item → Item → List Item → List ℕ) → ((past : List Item) (item : Item) (a b : List Item) → part past item a ≡ part past item b)
    → (past : List Item) (item : Item) → item_texts part [] (reverse (item ∷ past)) ≡ item_texts part [] (reverse past) ++ part past item []
texts-next part alike past item =
    ap (λ (xs : List Item). item_texts part [] xs) (reverse-append (item ∷ []) past)
    ∙ last [] (reverse past)
    ∙ ap (λ (xs : List Item). item_texts part [] (reverse past) ++ part xs item []) (append-nil (reverse (reverse past)) ∙ reverse-reverse past)
  where
    last : (before xs : List Item) → item_texts part before (xs ++ item ∷ []) ≡ item_texts part before xs ++ part (reverse xs ++ before) item []
    last before [] = append-nil (part before item [])
    last before (x ∷ xs) =
        ap (λ (t : List ℕ). t ++ item_texts part (x ∷ before) (xs ++ item ∷ [])) (alike before x (xs ++ item ∷ []) xs)
        ∙ ap (λ (t : List ℕ). part before x xs ++ t) (last (x ∷ before) xs)
        ∙ sym (append_assoc (part before x xs) (item_texts part (x ∷ before) xs) (part (reverse xs ++ x ∷ before) item []))
        ∙ ap (λ (ys : List Item). (part before x xs ++ item_texts part (x ∷ before) xs) ++ part ys item [])
        (sym (ap (λ (zs : List Item). zs ++ before) (reverse-append (x ∷ []) xs) ∙ append_assoc (reverse xs) (x ∷ []) before))
