use Rattle.std.proofs.Common.{codes}
use Rattle.ft_io.proofs.PieceLaws.{puts-none, puts-then, puts-equal}
use Rattle.told_items.proofs.FieldTexts.{text-is}
use Rattle.told_items.proofs.fields.put_opened.Goals as goal

pub returns : goal.returns
returns g c = puts-then (puts-equal (text-is (codes ", \"context\": \"") c.context_name.ensures) c.put_text.ensures)
    (puts-then (puts-equal (text-is (codes ", \"function\": \"") c.function.ensures) c.put_text-2.ensures) (puts-none _ _))
