-- The maps of a check after an insert.
use Rattle.std.proofs.Common.{cond, ◌≡◌, Bool, true, false, ◌||◌, Option, Some, refl}
use Rattle.std.specs.Prelude.{unwrap_or}

-- a value that may be put in the place of one, or else of nothing
pub unwrap-cond : {A : Type 0} (b : Bool) (x d : A) (o : Option A) → unwrap_or (cond b (Some x) o) d ≡ cond b x (unwrap_or o d)
unwrap-cond true x d o = refl
unwrap-cond false x d o = refl

-- a test that is made true in one case
pub cond-true : (b c : Bool) → cond b true c ≡ (b || c)
cond-true true c = refl
cond-true false c = refl
