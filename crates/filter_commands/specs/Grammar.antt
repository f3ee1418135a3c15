-- The grammar of filter texts without their mark: which text is of which form, by one rule for each way to write it.
use Rattle.std.specs.Prelude.{◌≡◌, ◌++◌, ◌==◌, true, false, codes, length}
use Rattle.std.specs.Str.Parse.{digits_value}
use Rattle.glob_filter.specs.Items.{is_negated}
use Rattle.filter_commands.specs.Forms.{Text, TextForm, line, named, in_module, has_colon, is_number}

-- a glob over modules: it isn't empty, and it has no `:`
pub record IsOwner (owner : Text) : Type 0 where
  pub some : (length owner == 0) ≡ false
  pub plain : has_colon owner ≡ false

-- digits alone, a glob, GLOB `:mod:` and a glob that begins with no `!`, or GLOB `:mod:!` and a glob; GLOB has no `:`
pub data HasForm : Text → TextForm → Type 0 where
  a_line : (text : Text) → has_colon text ≡ false → is_number text ≡ true → HasForm text (line (digits_value 10 text))
  a_glob : (text : Text) → has_colon text ≡ false → is_number text ≡ false → HasForm text (named text)
  inside : (glob owner : Text) → has_colon glob ≡ false → IsOwner owner → is_negated owner ≡ false → HasForm (glob ++ (codes ":mod:" ++ owner)) (in_module glob false owner)
  outside : (glob owner : Text) → has_colon glob ≡ false → IsOwner owner → HasForm (glob ++ (codes ":mod:!" ++ owner)) (in_module glob true owner)
