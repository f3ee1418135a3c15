use Rattle.std.proofs.Common.{◌∙◌, ap, codes}
use Rattle.ft_io.proofs.PieceLaws.{puts-none, puts-then, puts-equal}
use Rattle.told_items.specs.ItemText.{kind_word}
use Rattle.told_items.proofs.FieldTexts.{text-is}
use Rattle.told_items.proofs.fields.put_user.Goals as goal

pub returns : goal.returns
returns g c = puts-then (puts-equal (text-is (codes ", \"user\": \"") c.user.ensures) c.put_text.ensures)
    (puts-then (puts-equal (text-is (codes ", \"user_kind\": \"") (c.kind_name.ensures ∙ ap kind_word c.kind.ensures)) c.put_text-2.ensures) (puts-none _ _))
