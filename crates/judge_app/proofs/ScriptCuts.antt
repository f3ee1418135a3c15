-- A script ends with a line feed and has no line `log`, so an input that has one below it is cut there.
use Rattle.std.proofs.Common.{cond, ◌≡◌, ◌<◌, ◌+◌, ◌==◌, ℕ, Bool, true, false, List, [], ◌∷◌, ◌++◌, map, codes, length, length-append, append_assoc, Err, Option, Some, None, refl, sym, ap, ◌∙◌, inl, inr, arith, eqb-true, ne_eqb}
use Rattle.std.specs.Prelude.{◌⊎◌, count_by}
use Rattle.std.specs.List.{onto_first, slice_split}
use Rattle.std.proofs.lemmas.List.Splits.{length-slice_split}
use Rattle.std.proofs.lemmas.Option.{none-some}
use Rattle.ft_base.specs.Job.{Job}
use Rattle.script_text.specs.Lines.{Line, lines_from, lines_of, words_of}
use Rattle.script_form.specs.Forms.{LineForm}
use Rattle.script_form.specs.Lines.{line_form}
use Rattle.ft_script.specs.declared.faults.Cause.{Cause}
use Rattle.ft_script.specs.declared.faults.Cause.TheVariants.{Syntax, Version}
use Rattle.ft_script.specs.Above.{Above, none_above}
use Rattle.ft_script.specs.Causes.{carried_out, cause_in, cause_of, resolved_line}
use Rattle.ft_script.specs.Script.{IsJobOf, declared_after, refusal_at, refusal_below, refusal_of, with_line}
use Rattle.judge_app.specs.Cut.{EndsLine, IsAfter, IsCut, is_feed, log_line}

-- ## lines

-- a line that a line feed ends
abbrev a_line : List ℕ → Line
a_line part = record { bytes = part; ended = true }

-- and a last one that none ends
abbrev an_open_line : List ℕ → Line
an_open_line part = record { bytes = part; ended = false }

last-open : (part : List ℕ) → 0 < length part → lines_from (part ∷ []) ≡ an_open_line part ∷ []
last-open part some = ap (λ (t : Bool). cond t [] (an_open_line part ∷ [])) (ne_eqb (length part) 0 (λ z. absurd (omega (arith, some, z))))

some-part : (text : List ℕ) → 0 < length (slice_split is_feed text)
some-part text = omega (arith, length-slice_split is_feed text)

-- parts that stand before others are lines
lines-append : (parts more : List (List ℕ)) → 0 < length more → lines_from (parts ++ more) ≡ map a_line parts ++ lines_from more
lines-append [] more lt = refl
lines-append (part ∷ []) [] lt = absurd (omega (arith, lt))
lines-append (part ∷ []) (next ∷ more) lt = refl
lines-append (part ∷ next ∷ parts) more lt = ap (λ (ls : List Line). a_line part ∷ ls) (lines-append (next ∷ parts) more lt)

onto-front : (b : ℕ) (parts more : List (List ℕ)) → 0 < length parts → onto_first b (parts ++ more) ≡ onto_first b parts ++ more
onto-front b [] more lt = absurd (omega (arith, lt))
onto-front b (part ∷ parts) more lt = refl

split-at-feed : (front back : List ℕ) → slice_split is_feed (front ++ 10 ∷ back) ≡ slice_split is_feed front ++ slice_split is_feed back
split-at-feed [] back = refl
split-at-feed (b ∷ front) back = by (is_feed b) (split-at-feed front back)
  where
    by : (t : Bool) → slice_split is_feed (front ++ 10 ∷ back) ≡ slice_split is_feed front ++ slice_split is_feed back
        → cond t ([] ∷ slice_split is_feed (front ++ 10 ∷ back)) (onto_first b (slice_split is_feed (front ++ 10 ∷ back)))
        ≡ cond t ([] ∷ slice_split is_feed front) (onto_first b (slice_split is_feed front)) ++ slice_split is_feed back
    by true e = ap (λ (parts : List (List ℕ)). [] ∷ parts) e
    by false e = ap (λ (parts : List (List ℕ)). onto_first b parts) e ∙ onto-front b (slice_split is_feed front) (slice_split is_feed back) (some-part front)

-- the parts of a text that another byte ends: the last has a byte
record LastPart (text : List ℕ) (b : ℕ) : Type 0 where
  parts : List (List ℕ)
  part : List ℕ
  is : slice_split is_feed (text ++ b ∷ []) ≡ parts ++ (part ++ b ∷ []) ∷ []

last-part : (text : List ℕ) (b : ℕ) → is_feed b ≡ false → LastPart text b
last-part [] b other = record { parts = []; part = []; is = ap (λ (t : Bool). cond t ([] ∷ [] ∷ []) ((b ∷ []) ∷ [])) other }
last-part (c ∷ text) b other = by (is_feed c) refl (last-part text b other)
  where
    split : (t : Bool) → is_feed c ≡ t
        → slice_split is_feed ((c ∷ text) ++ b ∷ []) ≡ cond t ([] ∷ slice_split is_feed (text ++ b ∷ [])) (onto_first c (slice_split is_feed (text ++ b ∷ [])))
    split t e = ap (λ (u : Bool). cond u ([] ∷ slice_split is_feed (text ++ b ∷ [])) (onto_first c (slice_split is_feed (text ++ b ∷ [])))) e

    onto : (parts : List (List ℕ)) (part : List ℕ) → is_feed c ≡ false → slice_split is_feed (text ++ b ∷ []) ≡ parts ++ (part ++ b ∷ []) ∷ [] → LastPart (c ∷ text) b
    onto [] part e is = record { parts = []; part = c ∷ part; is = split false e ∙ ap (λ (ps : List (List ℕ)). onto_first c ps) is }
    onto (first ∷ parts) part e is = record { parts = (c ∷ first) ∷ parts; part = part; is = split false e ∙ ap (λ (ps : List (List ℕ)). onto_first c ps) is }

    by : (t : Bool) → is_feed c ≡ t → LastPart text b → LastPart (c ∷ text) b
    by true e last = record { parts = [] ∷ last.parts; part = last.part; is = split true e ∙ ap (λ (ps : List (List ℕ)). [] ∷ ps) last.is }
    by false e last = onto last.parts last.part e last.is

-- ## lines without a cause

-- where no line has a cause, a line has none
clean : (start : Above) (front back : List Line) (line : Line) → refusal_below start (front ++ line ∷ back) ≡ None → cause_of (declared_after start front) line back ≡ None
clean start [] back line e = by (cause_of start line back) refl e
  where
    by : (c : Option Cause) → cause_of start line back ≡ c → refusal_at start c (refusal_below (with_line start line) back) ≡ None → cause_of start line back ≡ None
    by None is none = is
    by (Some cause) is none = absurd (none-some _ (sym none))
clean start (first ∷ front) back line e = by (cause_of start first (front ++ line ∷ back)) e (clean (with_line start first) front back line)
  where
    by : (c : Option Cause) → refusal_at start c (refusal_below (with_line start first) (front ++ line ∷ back)) ≡ None
        → (refusal_below (with_line start first) (front ++ line ∷ back) ≡ None → cause_of (declared_after start (first ∷ front)) line back ≡ None)
        → cause_of (declared_after start (first ∷ front)) line back ≡ None
    by None none rest = rest none
    by (Some cause) none rest = absurd (none-some _ (sym none))

-- such a line ends with a line feed, and has a form
not-open : (above : Above) (part : List ℕ) (back : List Line) → cause_of above (an_open_line part) back ≡ None → ⊥
unfolding cause_of
not-open above part back e = absurd (none-some _ (sym e))

no-form : line_form (codes "log") ≡ None
unfolding line_form words_of
no-form = refl

not-log : (above : Above) (back : List Line) → cause_of above (a_line (codes "log")) back ≡ None → ⊥
unfolding cause_of
not-log above back e =
    by (above.lines == 0) (ap (λ (form : Option LineForm). cause_in (carried_out above (resolved_line above true form back))) (sym no-form) ∙ e)
  where
    by : (t : Bool) → cause_in (carried_out above (cond t (Err Version) (Err Syntax))) ≡ None → ⊥
    by true none = none-some _ (sym none)
    by false none = none-some _ (sym none)

-- ## the cut

module _ (script : List ℕ) (accepted : refusal_of script ≡ None) where
  no-cause : (front back : List Line) (line : Line) → lines_of script ≡ front ++ line ∷ back → cause_of (declared_after none_above front) line back ≡ None
  no-cause front back line split = by script refl accepted
    where
      by : (text : List ℕ) → script ≡ text → refusal_of text ≡ None → cause_of (declared_after none_above front) line back ≡ None
      by [] same e = absurd (none-some _ (sym e))
      by (b ∷ rest) same e =
          clean none_above front back line (ap (λ (ls : List Line). refusal_below none_above ls) (sym split ∙ ap (λ (t : List ℕ). lines_of t) same) ∙ e)

  no-log : (before rest : List ℕ) → IsAfter before rest script → ⊥
  unfolding lines_of
  no-log before rest after = by before after.0 after.1
    where
      stands : (front : List Line) → lines_of script ≡ front ++ a_line (codes "log") ∷ lines_of rest → ⊥
      stands front split = not-log (declared_after none_above front) (lines_of rest) (no-cause front (lines_of rest) (a_line (codes "log")) split)

      here : lines_of (log_line ++ rest) ≡ a_line (codes "log") ∷ lines_of rest
      here = lines-append (codes "log" ∷ []) (slice_split is_feed rest) (some-part rest)

      by : (before : List ℕ) → script ≡ before ++ (log_line ++ rest) → EndsLine before → ⊥
      by before is (inl none) = stands [] (ap (λ (t : List ℕ). lines_of t) (is ∙ ap (λ (b : List ℕ). b ++ (log_line ++ rest)) none) ∙ here)
      by before is (inr (front, ends)) =
          let text : script ≡ front ++ 10 ∷ (log_line ++ rest) = is ∙ ap (λ (b : List ℕ). b ++ (log_line ++ rest)) ends ∙ append_assoc front (codes "\n") (log_line ++ rest) in
          stands (map a_line (slice_split is_feed front))
          (ap (λ (t : List ℕ). lines_of t) text ∙ ap (λ (ps : List (List ℕ)). lines_from ps) (split-at-feed front (log_line ++ rest))
          ∙ lines-append (slice_split is_feed front) (slice_split is_feed (log_line ++ rest)) (some-part (log_line ++ rest))
          ∙ ap (λ (ls : List Line). map a_line (slice_split is_feed front) ++ ls) here)

  ends-line : EndsLine script
  unfolding lines_of
  ends-line = by (ending script)
    where
      ending : (text : List ℕ) → (text ≡ []) ⊎ ((front : List ℕ) × (b : ℕ) × (text ≡ front ++ b ∷ []))
      ending [] = inl refl
      ending (c ∷ text) = elim (ending text) [
        | inl none ↦ inr ([], c, ap (λ (t : List ℕ). c ∷ t) none)
        | inr (front, b, is) ↦ inr (c ∷ front, b, ap (λ (t : List ℕ). c ∷ t) is)
      ]

      by : (script ≡ []) ⊎ ((front : List ℕ) × (b : ℕ) × (script ≡ front ++ b ∷ [])) → EndsLine script
      by (inl none) = inl none
      by (inr (front, b, is)) = at-feed (is_feed b) refl
        where
          at-feed : (t : Bool) → is_feed b ≡ t → EndsLine script
          at-feed true e = inr (front, is ∙ ap (λ (c : ℕ). front ++ c ∷ []) (eqb-true b 10 e))
          at-feed false e =
              let last = last-part front b e in
              let line = an_open_line (last.part ++ b ∷ []) in
              let some : 0 < length (last.part ++ b ∷ []) = omega (arith, length-append last.part (b ∷ [])) in
              let split : lines_of script ≡ map a_line last.parts ++ line ∷ [] =
              ap (λ (t : List ℕ). lines_of t) is ∙ ap (λ (ps : List (List ℕ)). lines_from ps) last.is
              ∙ lines-append last.parts ((last.part ++ b ∷ []) ∷ []) (omega arith) ∙ ap (λ (ls : List Line). map a_line last.parts ++ ls) (last-open (last.part ++ b ∷ []) some) in
              absurd (not-open (declared_after none_above (map a_line last.parts)) (last.part ++ b ∷ []) [] (no-cause (map a_line last.parts) [] line split))

-- an input that has a line `log` and a log below its script is cut there
pub cut-off : (script log : List ℕ) (job : Job) → IsJobOf script job → IsCut (script ++ (log_line ++ log)) script log (count_by is_feed script + 2)
cut-off script log job is = record { here = (refl, ends-line script is.accepted); earliest = no-log script is.accepted; number = refl }
