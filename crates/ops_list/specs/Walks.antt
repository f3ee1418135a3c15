-- A walk of the list, from its head on.
use Rattle.std.specs.Prelude.{ℕ, ◌≤◌, Option, Some, None}
use Rattle.ft_base.specs.declared.number.UserNo.{UserNo}
use Rattle.word_map.specs.declared.shape.Shape.{Shape}
use Rattle.word_map.specs.Words.{First, Link}
use Rattle.word_map.specs.Ops.{WordOp, Load}
use Rattle.ops_list.specs.declared.walker.WalkPhase.{WalkPhase}
use Rattle.ops_list.specs.declared.walker.WalkPhase.TheVariants.{Starting, At, Ended}
use Rattle.word_map.specs.Contents.{named}

-- a walk: the shape, and where it stands
pub record Walk : Type 0 where
  pub shape : Shape
  pub phase : WalkPhase

-- the next operation in a phase: the head, and then the link of the user that was named
abbrev pub walk_op : WalkPhase → Option WordOp
walk_op Starting = Some (Load First)
walk_op (At u) = Some (Load (Link u.0))
walk_op Ended = None

-- at the user that the last load named, or at the end
abbrev pub walk_to : Option UserNo → WalkPhase
walk_to None = Ended
walk_to (Some u) = At u

-- the phase after a load gave this value
abbrev pub walk_after : WalkPhase → ℕ → WalkPhase
walk_after Ended v = Ended
walk_after Starting v = walk_to (named v)
walk_after (At u) v = walk_to (named v)

-- the user at which a walk stands
abbrev pub walk_at : WalkPhase → Option UserNo
walk_at (At u) = Some u
walk_at _ = None

-- the value fits: it names nobody or a user of the shape
abbrev pub WalkFits : Shape → WalkPhase → ℕ → Type 0
WalkFits shape Ended v = Unit {0}
WalkFits shape _ v = v ≤ shape.users
