use Rattle.std.proofs.Common.{◌≡◌, Bool, true, false, refl}
use mir.Val.{bool_byte}
use Rattle.word_map.specs.Contents.{digit}
use Rattle.ft_desk.proofs.user.User.sel.Goals as goal

byte-digit : (b : Bool) → bool_byte b ≡ digit b
byte-digit true = refl
byte-digit false = refl

pub returns : goal.returns
returns c = rw (c.word.ensures, c.from.ensures, byte-digit c.args.self.now.second, c.is_open.ensures) refl
