-- The next member of a set, from the next bit of a word.
use Rattle.std.proofs.Common.{◌≡◌, ℕ, ◌+◌, ◌-◌, ◌*◌, ◌<◌, ◌≤◌, ◌==◌, true, false, length, sym, ap, ◌∙◌, inl, inr, arith}
use Rattle.std.specs.Int.{bit_at}
use Rattle.std.proofs.lemmas.Bool.{cases_lt, false≢true}
use Rattle.std.proofs.lemmas.List.{get_or_past}
use Rattle.ft_base.specs.Marks.{Marks, holds}
use Rattle.site_set.specs.Members.{IsNextBit, IsNextMember}

-- a number past the size is no member
pub holds-past : (set : Marks) (f : ℕ) → length set ≤ f → holds set f ≡ false
holds-past set f h = get_or_past set f false h

-- a member is below the size
pub holds-within : (set : Marks) (f : ℕ) → holds set f ≡ true → f < length set
holds-within set f is = elim (cases_lt f (length set)) [
  | inl l ↦ l
  | inr h ↦ absurd (false≢true (sym (holds-past set f h) ∙ is))
]

module _ (set : Marks) (from w word : ℕ) (bits : (i : ℕ) → i < 64 → (bit_at word i == 1) ≡ holds set (64 * w + i))
    (below : (g : ℕ) → from ≤ g → g < 64 * w → holds set g ≡ false) where
  -- a number in this word whose bit is 0
  no_member : (g : ℕ) → 64 * w ≤ g → g < 64 * w + 64 → bit_at word (g - 64 * w) ≡ 0 → holds set g ≡ false
  no_member g low high none =
      let same : 64 * w + (g - 64 * w) ≡ g = omega arith in
      ap (holds set) (sym same) ∙ sym (bits (g - 64 * w) (omega arith)) ∙ ap (λ b. b == 1) none

  -- the next bit from a place on is that of the next member
  pub next_member-some : (place bit : ℕ) → place ≡ from - w * 64 → from < 64 * w + 64 → IsNextBit word place bit → IsNextMember set from (w * 64 + bit)
  next_member-some place bit is-at near next =
      let high = next.high in
      let low = next.low in
      let same : w * 64 + bit ≡ 64 * w + bit = omega arith in
      let is : holds set (w * 64 + bit) ≡ true = ap (holds set) same ∙ sym (bits bit high) ∙ ap (λ b. b == 1) next.set in
      record {
        low = omega (arith, is-at, low, near);
        high = holds-within set (w * 64 + bit) is;
        member = is;
        least = λ g l h. elim (cases_lt g (64 * w)) [
          | inl b ↦ below g l b
          | inr a ↦ no_member g a (omega arith) (next.clear (g - 64 * w) (omega (arith, is-at)) (omega arith))
        ];
      }

  -- no bit, no member
  pub no_member-word : (place : ℕ) → place ≡ from - w * 64 → ((i : ℕ) → place ≤ i → bit_at word i ≡ 0) → (g : ℕ) → from ≤ g → g < 64 * (w + 1) → holds set g ≡ false
  no_member-word place is-at none g l h = elim (cases_lt g (64 * w)) [
    | inl b ↦ below g l b
    | inr a ↦ no_member g a (omega arith) (none (g - 64 * w) (omega (arith, is-at)))
  ]
