-- The places that legal rings hold are those of entry callbacks.
use Rattle.std.proofs.Common.{◌≡◌, ℕ, zero, suc, ◌-◌, Bool, true, false, List, [], ◌∷◌, length, drop, cond, Some, refl, sym, ap, ◌∙◌, subst, arith, inl, inr}
use Rattle.std.specs.Prelude.{slice_get}
use Rattle.std.specs.List.{AllByRecursion as Each}
use Rattle.std.proofs.lemmas.Option.{same_Some}
use Rattle.ft_base.specs.declared.item.Item.{Item}
use Rattle.ft_base.specs.declared.item.Item.TheVariants.{Back}
use Rattle.ft_base.specs.declared.item.Stamped.{Stamped}
use Rattle.ft_base.specs.Items.{kind_of}
use Rattle.ft_base.proofs.Small.{false_true}
use Rattle.ring_rules.specs.Plan.{TracePlan}
use Rattle.ring_rules.specs.Hits.{is_traced}
use Rattle.ring_rules.specs.Fold.{Ring, Rings}
use Rattle.ring_rules.specs.Legal.{IsSublist, RingsLegal, items_on, traced_places}
use Rattle.ring_rules.proofs.Lists.{get-below}
use Rattle.ring_rules.proofs.OnCpus.{Stands, each-stands}
use Rattle.trace_views.specs.ItemCounts.{is_back}
use Rattle.trace_views.specs.RingLines.{HasEntries, is_back_at, is_entry}

-- what holds of each holds of those from a place on
pub each-drop : {A : Type 0} (P : A → Type 0) (n : ℕ) (xs : List A) → Each P xs → Each P (drop n xs)
each-drop P zero xs all = all
each-drop P (suc n) [] all = tt
each-drop P (suc n) (x ∷ xs) all = each-drop P n xs all.1

-- and of some of them
each-some : (P : ℕ → Type 0) (xs ys : List ℕ) → IsSublist xs ys → Each P ys → Each P xs
each-some P xs [] none all = subst (Each P) (sym none) tt
each-some P xs (y ∷ ys) (inl left) all = each-some P xs ys left all.1
each-some P xs (y ∷ ys) (inr taken) all = subst (Each P) (sym taken.1) (all.0, each-some P taken.0 ys taken.2 all.1)

-- what holds at each number holds of each
each-from : {A : Type 0} (P : A → Type 0) (xs : List A) → ((c : ℕ) (x : A) → slice_get xs c ≡ Some x → P x) → Each P xs
each-from P [] at = tt
each-from P (x ∷ xs) at = (at 0 x refl, each-from P xs (λ c. at (suc c)))

-- an item that may be written is an entry callback
traced-back : (plan : TracePlan) (item : Item) → is_traced plan item ≡ true → is_back (kind_of item) ≡ true
traced-back plan (Back call u) traced = refl
traced-back plan _ traced = false_true traced

module _ (plan : TracePlan) (items : List Item) where
  abbrev IsOfBack : ℕ → Type 0
  IsOfBack p = is_back_at items p ≡ true

  traced-of-back : (c : ℕ) (xs : List Stamped) → Each (Stands plan c 0 items) xs → Each IsOfBack (traced_places plan xs)
  traced-of-back c [] all = tt
  traced-of-back c (x ∷ xs) all = by (is_traced plan x.item) refl (traced-of-back c xs all.1)
    where
      there : slice_get items x.place ≡ Some x.item
      there = let e = all.0.1 in ap (slice_get items) (let same : x.place ≡ all.0.0 = omega (arith, e) in same) ∙ all.0.2

      by : (b : Bool) → is_traced plan x.item ≡ b → Each IsOfBack (traced_places plan xs) → Each IsOfBack (cond b (x.place ∷ traced_places plan xs) (traced_places plan xs))
      by true traced rest = (ap is_entry there ∙ traced-back plan x.item traced, rest)
      by false other rest = rest

  -- the ring of a CPU
  ring-of-back : (c : ℕ) (written : List ℕ) (n : ℕ) → IsSublist written (traced_places plan (items_on plan c items)) → Each IsOfBack (drop n written)
  ring-of-back c written n some =
      each-drop IsOfBack n written
      (each-some IsOfBack written (traced_places plan (items_on plan c items)) some (traced-of-back c (items_on plan c items) (each-stands plan c 0 items)))

  -- all rings
  pub has-entries : (rings : Rings) → RingsLegal plan items rings → HasEntries items rings
  has-entries rings legal = each-from (λ ring. Each IsOfBack ring.held) rings.cpus of-cpu
    where
      of-cpu : (c : ℕ) (ring : Ring) → slice_get rings.cpus c ≡ Some ring → Each IsOfBack ring.held
      of-cpu c ring here =
          let own = legal.ring c (let lt = get-below rings.cpus ring c here in let count = legal.cpus in omega (arith, lt, count)) in
          let n = length own.written - plan.ring in
          let same : ring ≡ record { written = length own.written; held = drop n own.written } = same_Some ring _ (sym here ∙ own.keeps) in
          subst (λ (r : Ring). Each IsOfBack r.held) (sym same) (ring-of-back c own.written n own.some_of)
