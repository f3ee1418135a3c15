-- A text and its first line, and a text that is at its end.
use Rattle.std.proofs.Common.{◌≡◌, ℕ, true, false, ◌==◌, List, [], ◌∷◌, length, suc, Option, Some, None, refl, true≢false, ◌⊎◌, inl, inr, sym, ap, ◌∙◌}
use Rattle.std.proofs.Math.Dec.{eqb-suc-zero}
use Rattle.script_text.specs.Lines.{Line, lines_of}
use Rattle.ft_script.specs.declared.faults.Cause.{Cause}
use Rattle.ft_script.specs.declared.faults.ScriptFault.{ScriptFault}
use Rattle.ft_script.specs.Above.{Above, none_above}
use Rattle.ft_script.specs.Causes.{cause_of}
use Rattle.ft_script.specs.Script.{with_line, refusal_at, refusal_below, refusal_of, declared_after, no_memory, IsFaultAt}
use Rattle.ft_script.proofs.NoCause.{some-none}
use Rattle.script_text.proofs.LineLemmas.{lines_of-nil}

pub no_lines : (text : List ℕ) → true ≡ (length text == 0) → lines_of text ≡ []
no_lines [] e = lines_of-nil
no_lines (b ∷ rest) e = absurd (true≢false (e ∙ eqb-suc-zero (length rest)))

-- no line has a cause: so neither the first one nor those below
pub neither : (above : Above) (cause : Option Cause) (below : Option ScriptFault) → refusal_at above cause below ≡ None → (cause ≡ None) × (below ≡ None)
neither above None below e = (refl, e)
neither above (Some cause) below e = absurd (some-none e)

-- an accepted text has lines, and none of them has a cause
pub none-refused : (text : List ℕ) → refusal_of text ≡ None → refusal_below none_above (lines_of text) ≡ None
none-refused [] e = absurd (some-none e)
none-refused (b ∷ rest) e = e

-- a text that has a byte has a line 1
pub refusal-some : (text : List ℕ) → (length text == 0) ≡ false → refusal_of text ≡ refusal_below none_above (lines_of text)
refusal-some [] e = absurd (true≢false e)
refusal-some (b ∷ rest) e = refl

-- the fault of a line that has one is that of the lines from it on
refused-on : (above : Above) (cause : Option Cause) (below : Option ScriptFault) (fault : ScriptFault) → refusal_at above cause None ≡ Some fault
    → refusal_at above cause below ≡ Some fault
refused-on above (Some cause) below fault e = e
refused-on above None below fault e = absurd (some-none (sym e))

module _ (above new : Above) (line : Line) (rest below : List ℕ) (cut : lines_of rest ≡ line ∷ lines_of below) (is : new ≡ with_line above line) where
  pub refused-more : cause_of above line (lines_of below) ≡ None → refusal_below new (lines_of below) ≡ refusal_below above (lines_of rest)
  refused-more none = ap (λ a. refusal_below a (lines_of below)) is ∙ sym (ap (λ c. refusal_at above c (refusal_below (with_line above line) (lines_of below))) none) ∙ ap (refusal_below above) (sym cut)

  pub declared-more : declared_after new (lines_of below) ≡ declared_after above (lines_of rest)
  declared-more = ap (λ a. declared_after a (lines_of below)) is ∙ ap (declared_after above) (sym cut)

-- so it is that of the whole text, if no line above has one
pub refused-here : (above : Above) (line : Line) (rest below text : List ℕ) → lines_of rest ≡ line ∷ lines_of below
    → refusal_below above (lines_of rest) ≡ refusal_below none_above (lines_of text) → (fault : ScriptFault) → IsFaultAt above (cause_of above line (lines_of below)) fault
    → (fault ≡ no_memory) ⊎ (refusal_below none_above (lines_of text) ≡ Some fault)
refused-here above line rest below text cut same fault (inl e) = inl e
refused-here above line rest below text cut same fault (inr e) =
    inr (sym same ∙ ap (refusal_below above) cut ∙ refused-on above (cause_of above line (lines_of below)) (refusal_below (with_line above line) (lines_of below)) fault e)

pub lines-with_line : (above : Above) (line : Line) → (with_line above line).lines ≡ suc above.lines
unfolding with_line
lines-with_line above line = refl

pub lines-more : (above new : Above) (line : Line) → new ≡ with_line above line → new.lines ≡ suc above.lines
lines-more above new line is = ap (λ (a : Above). a.lines) is ∙ lines-with_line above line
