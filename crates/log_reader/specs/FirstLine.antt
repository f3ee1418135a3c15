-- The first line of a text.
use Rattle.std.specs.Prelude.{ℕ, ◌≡◌, ◌==◌, List, length, take, position, Some}
use Rattle.std.specs.Str.{IsUtf8}

-- it ends at the first line feed, and is UTF-8
pub record IsFirstLine (line text : List ℕ) : Type 0 where
  pub place : position (λ b. b == 10) text ≡ Some (length line)
  pub bytes : take (length line) text ≡ line
  pub utf8 : IsUtf8 line
