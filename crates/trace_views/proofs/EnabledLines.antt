-- The lines of the form enabled, one after the other.
use Rattle.std.proofs.Common.{◌≡◌, false, ℕ, suc, ◌+◌, ◌-◌, ◌<◌, ◌≤◌, ◌==◌, List, [], ◌∷◌, ◌++◌, refl, sym, ap, ◌∙◌, subst, arith, append_assoc, append-nil, add-one}
use Rattle.std.proofs.lemmas.Bool.Decides.{nat_tests}
use Rattle.ft_base.specs.Job.{Job}
use Rattle.ft_base.specs.Desk.{Desk, target}
use Rattle.ft_desk.specs.Sites.{row_at}
use Rattle.trace_views.specs.declared.enabled.EnabledLine.{EnabledLine}
use Rattle.trace_views.specs.Words.{lines_text}
use Rattle.trace_views.specs.EnabledText.{enabled_line_text, enabled_part, enabled_lines}
use Rattle.trace_views.proofs.LineTexts.{line-after}

-- a line after others, if some users trace its function
pub part-after : (job : Job) (lines : List EnabledLine) (line : EnabledLine) → 0 < line.row.count
    → lines_text (enabled_line_text job) (lines ++ line ∷ []) ≡ lines_text (enabled_line_text job) lines ++ enabled_part job line.function.0 line.row line.ran
part-after job lines line some = let traced : line.row.count == 0 ≡ false = grind (arith, nat_tests) in rw traced (line-after (enabled_line_text job) lines line)

module _ (job : Job) (d : Desk) (n : ℕ) where
  lines-step : (f : ℕ) → f < n → enabled_lines job d f (n - f) ≡ enabled_part job f (row_at job d f) (target d f) ++ enabled_lines job d (f + 1) (n - (f + 1))
  lines-step f within = let e : n - f ≡ suc (n - (f + 1)) = omega (arith, within) in rw (e, add-one f) refl

  -- one more function
  pub lines-more : (f : ℕ) (text text' all : List ℕ) → f < n → text' ≡ text ++ enabled_part job f (row_at job d f) (target d f)
      → text ++ enabled_lines job d f (n - f) ≡ all → text' ++ enabled_lines job d (f + 1) (n - (f + 1)) ≡ all
  lines-more f text text' all within grown so_far =
      let a : text ++ (enabled_part job f (row_at job d f) (target d f) ++ enabled_lines job d (f + 1) (n - (f + 1))) ≡ all = subst (λ xs. text ++ xs ≡ all) (lines-step f within) so_far in
      ap (λ xs. xs ++ enabled_lines job d (f + 1) (n - (f + 1))) grown ∙ append_assoc text _ _ ∙ a

  -- all functions
  pub lines-all : (f : ℕ) (text all : List ℕ) → n ≤ f → text ++ enabled_lines job d f (n - f) ≡ all → text ≡ all
  lines-all f text all past so_far =
      let e : n - f ≡ 0 = omega (arith, past) in
      let a : text ++ [] ≡ all = subst (λ m. text ++ enabled_lines job d f m ≡ all) e so_far in
      sym (append-nil text) ∙ a
