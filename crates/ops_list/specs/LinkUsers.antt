-- What each change of the list keeps.
use Rattle.std.specs.Prelude.{◌<◌}
use Rattle.word_map.specs.declared.shape.Shape.{Shape}
use Rattle.ops_list.specs.declared.linker.LinkPhase.{LinkPhase}
use Rattle.ops_list.specs.declared.linker.LinkPhase.TheVariants.{Linking, Heading, Unlinking, Ended}
use Rattle.ops_list.specs.Names.{IsUserIn}

-- each user of the change is in the shape, so each word that is stored is there and names such a user
abbrev pub IsLinkIn : Shape → LinkPhase → Type 0
IsLinkIn shape (Linking u first) = (u.0 < shape.users) × IsUserIn shape first
IsLinkIn shape (Heading u) = u.0 < shape.users
IsLinkIn shape (Unlinking before after) = IsUserIn shape before × IsUserIn shape after
IsLinkIn shape Ended = Unit {0}
