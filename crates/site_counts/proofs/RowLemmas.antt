-- A change at the members of a set, row by row.
use Rattle.std.proofs.Common.{◌≡◌, ℕ, ◌<◌, List, length, cond, sym, ap, ◌∙◌, inl, inr, arith, ext_get_or, if◌then◌else◌}
use Rattle.std.proofs.lemmas.Bool.{cases_lt}
use Rattle.std.proofs.lemmas.List.{get_or_past}
use Rattle.std.proofs.lemmas.List.FromFn.{get_or-map-range_with_len, length-map-range_with_len}
use Rattle.ft_base.specs.Marks.{Marks, holds}
use Rattle.site_counts.specs.declared.rows.Row.{Row}
use Rattle.site_counts.specs.Rows.{no_users, row_of, at_members}
use Rattle.site_set.proofs.MemberLemmas.{holds-past}

module _ (on : Marks) (change : Row → Row) (rows : List Row) where
  -- what becomes of the row of a function
  abbrev pub changed : ℕ → Row
  changed f = if holds on f then change (row_of rows f) else row_of rows f

  pub length-at_members : length (at_members on change rows) ≡ length rows
  length-at_members = length-map-range_with_len changed 0 (length rows)

  pub row_of-at_members : (f : ℕ) → f < length rows → row_of (at_members on change rows) f ≡ changed f
  row_of-at_members f h = get_or-map-range_with_len changed 0 (length rows) f f no_users h (omega arith)

  -- the same at any number, where the set has the size of the rows
  pub row_of-at_members_any : length on ≡ length rows → (f : ℕ) → row_of (at_members on change rows) f ≡ changed f
  row_of-at_members_any same f = elim (cases_lt f (length rows)) [
    | inl l ↦ row_of-at_members f l
    | inr h ↦
        get_or_past (at_members on change rows) f no_users (omega (arith, length-at_members))
        ∙ sym (get_or_past rows f no_users h)
        ∙ ap (λ b. cond b (change (row_of rows f)) (row_of rows f)) (sym (holds-past on f (omega arith)))
  ]

  -- rows that have changed so
  pub is_at_members : (new : List Row) → length new ≡ length rows → ((f : ℕ) → f < length rows → row_of new f ≡ changed f) → new ≡ at_members on change rows
  is_at_members new same each =
      ext_get_or no_users new (at_members on change rows) (same ∙ sym length-at_members)
      (λ f h. let within : f < length rows = omega arith in each f within ∙ sym (row_of-at_members f within))
