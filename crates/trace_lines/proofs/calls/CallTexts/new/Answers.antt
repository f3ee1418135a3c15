use Rattle.std.proofs.lemmas.List.Elements.{All-replicate}
use Rattle.trace_lines.specs.CallTexts.{IsText}
use Rattle.trace_lines.proofs.calls.CallTexts.new.Goals as goal

pub invariant_of-result : goal.invariant_of-result
invariant_of-result c = All-replicate IsText 64 c.of.result c.of.ensures.text
