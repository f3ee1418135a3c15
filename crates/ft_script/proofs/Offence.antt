-- The refusal is at the first line that has a cause.
use Rattle.std.proofs.Common.{◌≡◌, suc, ◌+◌, arith, List, [], ◌∷◌, ◌++◌, length, Option, Some, None, refl, ap, ◌∙◌, sym, subst, add-suc, add-zero}
use Rattle.std.proofs.lemmas.Option.{none-some}
use Rattle.script_text.specs.Lines.{Line}
use Rattle.ft_script.specs.declared.faults.Cause.{Cause}
use Rattle.ft_script.specs.declared.faults.ScriptFault.{ScriptFault}
use Rattle.ft_script.specs.Above.{Above}
use Rattle.ft_script.specs.Causes.{cause_of}
use Rattle.ft_script.specs.Script.{with_line, declared_after, refusal_at, refusal_below, IsFirstRefusal}
use Rattle.ft_script.proofs.Ends.{lines-with_line}

-- one line more above
module _ (start : Above) (first : Line) (rest : List Line) (fault : ScriptFault) (none : cause_of start first rest ≡ None) (h : IsFirstRefusal (with_line start first) rest fault) where
  clean-more : (front back : List Line) (l : Line) → first ∷ h.above ≡ front ++ l ∷ back → cause_of (declared_after start front) l (back ++ h.line ∷ h.below) ≡ None
  clean-more [] back l e =
      let tails : h.above ≡ back = cc in
      let heads : first ≡ l = cc in
      subst (λ x. cause_of start x (back ++ h.line ∷ h.below) ≡ None) heads (subst (λ xs. cause_of start first (xs ++ h.line ∷ h.below) ≡ None) tails (subst (λ xs. cause_of start first xs ≡ None) h.split none))
  clean-more (x ∷ front) back l e =
      let tails : h.above ≡ front ++ l ∷ back = cc in
      let heads : first ≡ x = cc in
      subst (λ y. cause_of (declared_after (with_line start y) front) l (back ++ h.line ∷ h.below) ≡ None) heads (h.clean front back l tails)

  first-more : IsFirstRefusal start (first ∷ rest) fault
  first-more = record {
    above = first ∷ h.above;
    line = h.line;
    below = h.below;
    split = ap (λ xs. first ∷ xs) h.split;
    number = h.number ∙ (let n = lines-with_line start first in omega (arith, n, add-suc start.lines (length h.above)));
    cause = h.cause;
    clean = clean-more;
  }

no-split : (front back : List Line) (l : Line) → [] ≡ front ++ l ∷ back → ⊥
no-split [] back l e = cc
no-split (x ∷ front) back l e = cc

pub first_offence : (start : Above) (lines : List Line) (fault : ScriptFault) → refusal_below start lines ≡ Some fault → IsFirstRefusal start lines fault
first_offence start [] fault e = absurd (none-some fault e)
first_offence start (line ∷ below) fault e = by_cause (cause_of start line below) refl (λ f. first_offence (with_line start line) below fault f) e
  where
    by_cause : (c : Option Cause) → cause_of start line below ≡ c → (refusal_below (with_line start line) below ≡ Some fault → IsFirstRefusal (with_line start line) below fault)
        → refusal_at start c (refusal_below (with_line start line) below) ≡ Some fault → IsFirstRefusal start (line ∷ below) fault
    by_cause None is later e = first-more start line below fault is (later e)
    by_cause (Some cause) is later e =
        let here : IsFirstRefusal start (line ∷ below) (record { line = suc start.lines; cause = cause }) = record {
          above = [];
          line = line;
          below = below;
          split = refl;
          number = ap suc (sym (add-zero start.lines));
          cause = is;
          clean = λ front back l n. absurd (no-split front back l n);
        } in
        let same : record { line = suc start.lines; cause = cause } ≡ fault = cc in
        subst (λ f. IsFirstRefusal start (line ∷ below) f) same here

-- and back: the first line that has a cause is the one that is refused
refused-at : (start : Above) (above : List Line) (line : Line) (below : List Line) (fault : ScriptFault) → fault.line ≡ suc (start.lines + length above)
    → cause_of (declared_after start above) line below ≡ Some fault.cause
    → ((front back : List Line) (l : Line) → above ≡ front ++ l ∷ back → cause_of (declared_after start front) l (back ++ line ∷ below) ≡ None)
    → refusal_below start (above ++ line ∷ below) ≡ Some fault
refused-at start [] line below fault number cause clean =
    ap (λ c. refusal_at start c (refusal_below (with_line start line) below)) cause
    ∙ ap (λ n. Some (record { line = n; cause = fault.cause })) (sym (number ∙ ap suc (add-zero start.lines)))
refused-at start (x ∷ xs) line below fault number cause clean =
    ap (λ c. refusal_at start c (refusal_below (with_line start x) (xs ++ line ∷ below))) (clean [] xs x refl)
    ∙ refused-at (with_line start x) xs line below fault (let n = lines-with_line start x in omega (arith, number, n)) cause (λ front back l e. clean (x ∷ front) back l (ap (λ ys. x ∷ ys) e))

pub first_refused : (start : Above) (lines : List Line) (fault : ScriptFault) → IsFirstRefusal start lines fault → refusal_below start lines ≡ Some fault
first_refused start lines fault h = ap (refusal_below start) h.split ∙ refused-at start h.above h.line h.below fault h.number h.cause h.clean

-- if no line has a cause, none is refused
pub none_refused : (start : Above) (lines : List Line) → ((front back : List Line) (l : Line) → lines ≡ front ++ l ∷ back → cause_of (declared_after start front) l back ≡ None) → refusal_below start lines ≡ None
none_refused start [] clean = refl
none_refused start (x ∷ xs) clean =
    ap (λ c. refusal_at start c (refusal_below (with_line start x) xs)) (clean [] xs x refl)
    ∙ none_refused (with_line start x) xs (λ front back l e. clean (x ∷ front) back l (ap (λ ys. x ∷ ys) e))
