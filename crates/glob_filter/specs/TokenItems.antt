-- The items that the tokens of the code mean.
use Rattle.std.specs.Prelude.{ℕ, List, map}
use Rattle.glob_filter.specs.Items.{Item, byte, any, star, class}
use Rattle.glob_filter.specs.declared.token.ByteRange.{ByteRange}
use Rattle.glob_filter.specs.declared.token.Token.{Token}
use Rattle.glob_filter.specs.declared.token.Token.TheVariants.{Byte, Any, Star, Class}

-- the range's first and last byte
abbrev pub bounds_of : ByteRange → ℕ × ℕ
bounds_of range = (range.first, range.last)

-- the item that a token means
abbrev pub item_of : Token → Item
item_of (Byte b) = byte b
item_of Any = any
item_of Star = star
item_of (Class negated ranges) = class negated (map bounds_of ranges.items)

-- the items that the tokens mean
abbrev pub token_items : List Token → List Item
token_items tokens = map item_of tokens
