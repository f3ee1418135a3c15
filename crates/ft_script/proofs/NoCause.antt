-- The causes that a line doesn't have, if it is not refused.
use Rattle.std.proofs.Common.{◌≡◌, ℕ, zero, suc, ◌≤◌, ◌==◌, Bool, true, false, List, Some, None, refl, sym, ap, subst, arith, if◌then◌else◌}
use Rattle.std.specs.Prelude.{Result, Ok, Err}
use Rattle.std.proofs.lemmas.Option.{none-some}
use Rattle.ft_base.proofs.Small.{false_true}
use Rattle.script_text.specs.Lines.{Line}
use Rattle.script_form.specs.Forms.{LineForm}
use Rattle.ft_script.specs.declared.faults.Cause.{Cause}
use Rattle.ft_script.specs.declared.faults.Cause.TheVariants.{Syntax, Limit, Duplicate, Unbalanced}
use Rattle.ft_script.specs.Above.{Above, Declaration, Resolved}
use Rattle.ft_script.specs.Causes.{rank_of, is_misplaced, is_past_limit, is_duplicate, named, is_unbalanced, balanced, resolved, has_too_many_commands, carried_out, cause_in}

-- what no cause says of a line of this form, which declares this
pub record NoCause (above : Above) (form : LineForm) (below : List Line) (line : Resolved) : Type 0 where
  pub placed : is_misplaced above form ≡ false
  pub limit : is_past_limit above form ≡ false
  pub new : is_duplicate above form ≡ false
  pub rank : rank_of form above.rank ≡ line.rank
  pub what : named above form ≡ Ok line.what
  pub balanced : is_unbalanced above.levels line.what below ≡ false

pub some-none : {X : Type 0} {x : X} → Some x ≡ None → ⊥
some-none {x = x} e = none-some x (sym e)

-- what is refused isn't what is declared
pub err-ok : {X Y : Type 0} (x : X) (y : Y) → Err y ≡ Ok x → ⊥
err-ok x y e = cc

pub ok-same : {X Y : Type 0} (r : Result X Y) (x y : X) → r ≡ Ok x → r ≡ Ok y → x ≡ y
ok-same r x y e f = cc

-- a number that isn't 0
pub not-zero : (n : ℕ) → (n == 0) ≡ false → 1 ≤ n
not-zero zero e = false_true (sym e)
not-zero (suc n) e = omega arith

-- a line that has no cause declares something
pub no-cause_in : {X : Type 0} (r : Result X Cause) → cause_in r ≡ None → (x : X) × (r ≡ Ok x)
no-cause_in (Ok x) e = (x, refl)
no-cause_in (Err cause) e = absurd (some-none e)

-- a test that would be a cause, if there is none
passes : (b : Bool) (cause : Cause) (next : Result Resolved Cause) (line : Resolved) → (if b then Err cause else next) ≡ Ok line → (b ≡ false) × (next ≡ Ok line)
passes true cause next line e = absurd (err-ok line cause e)
passes false cause next line e = (refl, e)

-- a line that may stand here and has no cause doesn't bring too many commands
pub carried : (above : Above) (r : Result Resolved Cause) (line : Resolved) → carried_out above r ≡ Ok line → (r ≡ Ok line) × (has_too_many_commands above line.what ≡ false)
carried above (Err cause) line e = absurd (err-ok line cause e)
carried above (Ok other) line e =
    let p = passes (has_too_many_commands above other.what) Limit (Ok other) line e in
    let same : other ≡ line = ok-same _ _ _ refl p.1 in
    (p.1, subst (λ (r : Resolved). has_too_many_commands above r.what ≡ false) same p.0)

module _ (above : Above) (below : List Line) (line : Resolved) where
  by-balance : (rank : ℕ) (r : Result Declaration Cause) → balanced above rank r below ≡ Ok line → (rank ≡ line.rank) × (r ≡ Ok line.what) × (is_unbalanced above.levels line.what below ≡ false)
  by-balance rank (Err cause) e = absurd (err-ok line cause e)
  by-balance rank (Ok what) e =
      let p = passes (is_unbalanced above.levels what below) Unbalanced (Ok (record { rank = rank; what = what })) line e in
      let same : record { rank = rank; what = what } ≡ line = ok-same _ _ _ refl p.1 in
      (ap (λ (r : Resolved). r.rank) same, ap (λ (r : Resolved). Ok r.what) same, subst (λ (r : Resolved). is_unbalanced above.levels r.what below ≡ false) same p.0)

  pub no-cause : (form : LineForm) → resolved above form below ≡ Ok line → NoCause above form below line
  no-cause form e =
      let a = passes (is_misplaced above form) Syntax _ line e in
      let b = passes (is_past_limit above form) Limit _ line a.1 in
      let c = passes (is_duplicate above form) Duplicate _ line b.1 in
      let d = by-balance (rank_of form above.rank) (named above form) c.1 in
      record { placed = a.0; limit = b.0; new = c.0; rank = d.0; what = d.1; balanced = d.2 }
