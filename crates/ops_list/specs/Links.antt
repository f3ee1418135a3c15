-- Putting a user on the list, and taking one off, while others walk it.
use Rattle.std.specs.Prelude.{suc, Option, Some, None}
use Rattle.word_map.specs.declared.shape.Shape.{Shape}
use Rattle.word_map.specs.Words.{First, Link}
use Rattle.word_map.specs.Ops.{WordOp, Store}
use Rattle.ops_list.specs.declared.linker.LinkPhase.{LinkPhase}
use Rattle.ops_list.specs.declared.linker.LinkPhase.TheVariants.{Linking, Heading, Unlinking, Ended}
use Rattle.word_map.specs.Contents.{name_of}
use Rattle.ops_list.specs.Names.{namer}

-- a change of the list: the shape, and where it stands
pub record Linked : Type 0 where
  pub shape : Shape
  pub phase : LinkPhase

-- The next operation in a phase. A new user's link is stored before the head that names the user: a walker that comes by the head in
-- between would else leave the list there. A user that is taken off keeps its link, since a walker may stand on it
abbrev pub link_op : LinkPhase → Option WordOp
link_op (Linking u first) = Some (Store (Link u.0) (name_of first))
link_op (Heading u) = Some (Store First (suc u.0))
link_op (Unlinking before after) = Some (Store (namer before) (name_of after))
link_op Ended = None

-- the phase that follows
abbrev pub link_after : LinkPhase → LinkPhase
link_after (Linking u first) = Heading u
link_after (Heading u) = Ended
link_after (Unlinking before after) = Ended
link_after Ended = Ended
