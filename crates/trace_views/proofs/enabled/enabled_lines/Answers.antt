use Rattle.std.proofs.Common.{refl}
use Rattle.trace_views.proofs.enabled.enabled_lines.Goals as goal

pub returns-in-Ok : goal.returns-in-Ok
returns-in-Ok g c = rw (c.in-Ok.ensures, c.new-lines.ensures.items) refl
