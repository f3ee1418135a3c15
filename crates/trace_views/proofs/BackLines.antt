-- The lines of all entry callbacks by place, and how that of a place is found among them.
use Rattle.std.proofs.Common.{◌≡◌, ℕ, zero, suc, ◌+◌, ◌-◌, ◌<◌, ◌≤◌, true, false, List, [], ◌∷◌, ◌++◌, length, get_or, nat_lt, refl, sym, ap, ◌∙◌, arith, inl, inr}
use Rattle.std.specs.Prelude.{◌⊎◌, Contains, slice_get, Some}
use Rattle.std.specs.List.{AllByRecursion as Each}
use Rattle.std.specs.List.Sorted.{IsNonDecreasingBy, IsPartitionPoint}
use Rattle.std.proofs.lemmas.Bool.{cases_lt}
use Rattle.std.proofs.lemmas.Bool.Decides.{nat_tests}
use Rattle.std.proofs.lemmas.List.{get_or_append_left, length-append}
use Rattle.std.proofs.lemmas.List.Sorted.{IsNonDecreasingBy-push}
use Rattle.std.proofs.Math.Seq.{get_or-append_seam}
use Rattle.ft_base.specs.declared.number.CallNo.{CallNo}
use Rattle.ft_base.specs.declared.number.UserNo.{UserNo}
use Rattle.ft_base.specs.declared.item.Item.{Item}
use Rattle.ft_base.specs.declared.item.Item.TheVariants.{Back}
use Rattle.ft_base.specs.Items.{kind_of}
use Rattle.ft_base.specs.Job.{Job}
use Rattle.ft_base.proofs.Small.{Each-weaker, Each-snoc, false_true}
use Rattle.ft_hist.proofs.ExitItems.{each-of}
use Rattle.ring_rules.specs.Fold.{Rings}
use Rattle.ring_rules.proofs.Lists.{get-some}
use Rattle.trace_views.specs.declared.function.FunctionLine.{FunctionLine}
use Rattle.trace_views.specs.ItemCounts.{is_back}
use Rattle.trace_views.specs.OpenCalls.{function_line_text}
use Rattle.trace_views.specs.RingLines.{AreBackLines, HasEntries, HasLine, HaveTexts, IsLineAt, is_back_at}
use Rattle.trace_views.specs.RingsText.{entry_text}
use Rattle.trace_views.proofs.FunctionLines.{entry-shown}
use Rattle.trace_views.proofs.LeafLaws.{each-get}

-- what holds of each line holds of the one of a number
at-number : (P : FunctionLine → Type 0) (lines : List FunctionLine) (i : ℕ) (d : FunctionLine) → i < length lines → Each P lines → P (get_or lines i d)
at-number P lines i d lt all = each-get P lines i (get_or lines i d) (get-some lines i d lt) all

module _ (job : Job) (items : List Item) (p : ℕ) (lines : List FunctionLine) (told : AreBackLines job items p lines) where
  below-next : Each (λ line. line.place < p + 1) lines
  below-next = Each-weaker (λ line. line.place < p) (λ line. line.place < p + 1) lines (λ line lt. omega (arith, lt)) told.below

  -- an entry callback at the place has one more
  pub one-more : (line : FunctionLine) → IsLineAt job items p line → AreBackLines job items (p + 1) (lines ++ line ∷ [])
  one-more line is = record {
    rising = IsNonDecreasingBy-push (λ l. l.place) lines line told.rising (λ d some. last d some);
    below = Each-snoc (λ l. l.place < p + 1) lines line below-next (let e = is.place' in omega (arith, e));
    texts = Each-snoc (λ l. function_line_text job l ≡ entry_text job items l.place) lines line told.texts (entry-shown job items p line is);
    there = λ q lt entry. by q entry (cases_lt q p) lt;
  }
    where
      last : (d : FunctionLine) → 0 < length lines → (get_or lines (length lines - 1) d).place ≤ line.place
      last d some =
          let lt = at-number (λ l. l.place < p) lines (length lines - 1) d (omega (arith, some)) told.below in
          let e = is.place' in
          omega (arith, lt, e)

      long : length (lines ++ line ∷ []) ≡ length lines + 1
      long = length-append lines (line ∷ [])

      by : (q : ℕ) → is_back_at items q ≡ true → (q < p) ⊎ (p ≤ q) → q < p + 1 → HasLine (lines ++ line ∷ []) q
      by q entry (inl lt) below =
          let h = told.there q lt entry in
          let in' = h.1 in
          (h.0, omega (arith, in', long), λ d. ap (λ (l : FunctionLine). l.place) (get_or_append_left lines (line ∷ []) d h.0 h.1) ∙ h.2 d)
      by q entry (inr le) below =
          let same : p ≡ q = omega (arith, le, below) in
          (length lines, omega (arith, long), λ d. ap (λ (l : FunctionLine). l.place) (get_or-append_seam lines line [] d) ∙ is.place' ∙ same)

  -- another item has none
  pub none-more : is_back_at items p ≡ false → AreBackLines job items (p + 1) lines
  none-more other = record {
    rising = told.rising;
    below = below-next;
    texts = told.texts;
    there = λ q lt entry. by q entry (cases_lt q p) lt;
  }
    where
      by : (q : ℕ) → is_back_at items q ≡ true → (q < p) ⊎ (p ≤ q) → q < p + 1 → HasLine lines q
      by q entry (inl lt) below = told.there q lt entry
      by q entry (inr le) below =
          let same : p ≡ q = omega (arith, le, below) in
          false_true (sym other ∙ ap (is_back_at items) same ∙ entry)

-- another item is no entry callback
pub no-back : (items : List Item) (p : ℕ) (item : Item) → slice_get items p ≡ Some item → ((call : CallNo) (u : UserNo) → item ≡ Back call u → ⊥) → is_back_at items p ≡ false
no-back items p item here other = rw here (by item other)
  where
    by : (x : Item) → ((call : CallNo) (u : UserNo) → x ≡ Back call u → ⊥) → is_back (kind_of x) ≡ false
    by (Back call u) h = absurd (h call u refl)
    by _ h = refl

-- below the first place there are none
pub at-first : (job : Job) (items : List Item) → AreBackLines job items 0 []
at-first job items = record { rising = λ i j d le lt. absurd (omega (arith, lt)); below = tt; texts = tt; there = λ p lt entry. absurd (omega (arith, lt)) }

-- an entry callback is at a place of the history
entry-inside : (items : List Item) (p : ℕ) → is_back_at items p ≡ true → p < length items
entry-inside [] p entry = false_true entry
entry-inside (item ∷ rest) zero entry = omega arith
entry-inside (item ∷ rest) (suc p) entry = let lt = entry-inside rest p entry in omega (arith, lt)

-- so each entry of a ring has a line
pub have-lines : (job : Job) (items : List Item) (lines : List FunctionLine) (rings : Rings) → AreBackLines job items (length items) lines → HasEntries items rings
    → Each (λ ring. Each (HasLine lines) ring.held) rings.cpus
have-lines job items lines rings told has =
    Each-weaker (λ ring. Each (λ p. is_back_at items p ≡ true) ring.held) (λ ring. Each (HasLine lines) ring.held) rings.cpus
    (λ ring all. Each-weaker (λ p. is_back_at items p ≡ true) (HasLine lines) ring.held (λ p entry. told.there p (entry-inside items p entry) entry) all) has

-- one of them has the text of the entry at its place
pub entry-said : (job : Job) (items : List Item) (backs : List FunctionLine) (line : FunctionLine) (p : ℕ) → HaveTexts job items backs → Contains backs line
    → line.place ≡ p → function_line_text job line ≡ entry_text job items p
entry-said job items backs line p texts among is =
    each-of (λ l. function_line_text job l ≡ entry_text job items l.place) backs line among texts ∙ ap (entry_text job items) is

-- the first line that isn't below a place is that of the place
pub first-is : (lines : List FunctionLine) (p i : ℕ) → IsNonDecreasingBy (λ line. line.place) lines → HasLine lines p
    → IsPartitionPoint (λ line. nat_lt line.place p ≡ true) (λ line. nat_lt line.place p ≡ false) lines i
    → (i < length lines) × ((d : FunctionLine) → (get_or lines i d).place ≡ p)
first-is [] p i rising has point = (let lt = has.1 in absurd (omega (arith, lt)))
first-is (line ∷ rest) p i rising has point = (inside, exact)
  where
    not-after : i ≤ has.0
    not-after = elim (cases_lt has.0 i) [
      | inl lt ↦ (let below = point.0 has.0 line (omega arith) lt in let e = has.2 line in absurd (grind (arith, nat_tests, below, e)))
      | inr le ↦ le
    ]

    inside : i < length (line ∷ rest)
    inside = let lt = has.1 in omega (arith, lt, not-after)

    exact : (d : FunctionLine) → (get_or (line ∷ rest) i d).place ≡ p
    exact d =
        let up = rising i has.0 d not-after has.1 in
        let e = has.2 d in
        let at = point.1 i d (omega arith) inside in
        grind (arith, nat_tests, up, e, at)
