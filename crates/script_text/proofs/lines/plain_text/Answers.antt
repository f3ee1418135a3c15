use Rattle.std.proofs.Common.{sym, ◌∙◌, arith}
use Rattle.std.proofs.lemmas.Grind.{common_steps}
use Rattle.script_text.proofs.PlainLemmas.{plain-IsUtf8}
use Rattle.script_text.proofs.lines.plain_text.Goals as goal

pub returns : goal.returns
returns c =
    let plain = sym c.is_plain.ensures ∙ c.if-not-is_plain.false in
    let u = plain-IsUtf8 c.args.line.now plain in
    rw plain (grind (arith, common_steps))
