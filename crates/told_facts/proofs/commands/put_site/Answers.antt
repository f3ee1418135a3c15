use Rattle.std.proofs.Common.{ℕ, List, ◌++◌, Bool, ◌∙◌, sym, ap}
use Rattle.std.specs.Prelude.{Some, None, if◌then◌else◌}
use Rattle.ft_io.proofs.PieceLaws.{puts-then, puts-equal}
use Rattle.told_facts.specs.Commands.{site_text}
use Rattle.told_facts.specs.Values.{part}
use Rattle.told_facts.proofs.commands.put_site.Goals as goal

pub returns-clause-puts : goal.returns-clause-puts
returns-clause-puts g c =
    puts-equal (ap (λ (b : Bool). part c.args.is_first (if b then None else Some (site_text c.args.names.now c.args.f c.args.is))) c.if-same_target.ensures)
    (puts-then (puts-equal (c.as_bytes.ensures.value ∙ c.comma.ensures) c.put.ensures)
    (puts-then c.put_named.ensures (puts-then c.put-2.ensures (puts-then c.put_target.ensures c.put-3.ensures))))
