-- An actor's next operation, by name and as code has it.
use Rattle.std.proofs.Common.{◌≡◌, refl, Option, Some, None, sym}
use Rattle.std.specs.Prelude.{option_map}
use Rattle.std.proofs.lemmas.Option.{none-some, same_Some}
use Rattle.word_map.specs.declared.op.Op.{Op}
use Rattle.word_map.specs.declared.shape.Shape.{Shape}
use Rattle.word_map.specs.Ops.{WordOp, placed}

-- the operation that code makes
pub record Chosen (shape : Shape) (next : Option WordOp) (code : Op) : Type 0 where
  pub op : WordOp
  pub is : next ≡ Some op
  pub placed' : placed shape op ≡ code

pub chosen : (shape : Shape) (next : Option WordOp) (code : Op) → option_map (placed shape) next ≡ Some code → Chosen shape next code
chosen shape None code e = absurd (none-some code e)
chosen shape (Some op) code e = record { op = op; is = refl; placed' = same_Some (placed shape op) code e }

-- no operation
pub none-next : (shape : Shape) (next : Option WordOp) → option_map (placed shape) next ≡ None → next ≡ None
none-next shape None e = refl
none-next shape (Some op) e = absurd (none-some (placed shape op) (sym e))
