use Rattle.std.proofs.Common.{ℕ, List, ◌++◌, Bool, ◌∙◌, sym, ap}
use Rattle.std.specs.Fmt.{decimal}
use Rattle.std.specs.Prelude.{Some, None, if◌then◌else◌}
use Rattle.ft_io.proofs.PieceLaws.{puts-then, puts-equal}
use Rattle.told_facts.specs.Values.{part}
use Rattle.told_facts.proofs.commands.put_member.Goals as goal

pub returns-clause-puts : goal.returns-clause-puts
returns-clause-puts g c =
    puts-equal (ap (λ (b : Bool). part c.args.is_first (if b then Some (decimal c.args.f) else None)) c.if-not-contains.ensures)
    (puts-then (puts-equal (c.as_bytes.ensures.value ∙ c.comma.ensures) c.put.ensures) c.put_number.ensures)
