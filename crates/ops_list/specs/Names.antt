-- How words name users: the list of registered users is linked through their own words, the latest first (the kernel's ftrace_ops_list).
use Rattle.std.specs.Prelude.{◌<◌, Option, Some, None}
use Rattle.ft_base.specs.declared.number.UserNo.{UserNo}
use Rattle.word_map.specs.declared.shape.Shape.{Shape}
use Rattle.word_map.specs.Words.{Word, First, Link}

-- the word that names the user after this one: its link, or the head of the list if there is none before
abbrev pub namer : Option UserNo → Word
namer None = First
namer (Some u) = Link u.0

-- a user of the shape, if there is one
abbrev pub IsUserIn : Shape → Option UserNo → Type 0
IsUserIn shape None = Unit {0}
IsUserIn shape (Some u) = u.0 < shape.users
