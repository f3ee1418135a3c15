-- A wait as its fields have it, and what it keeps between its operations.
use Rattle.std.specs.Prelude.{◌<◌}
use Rattle.grace_core.specs.declared.waiter.Waiter.TheInside.{Inside}
use Rattle.grace_core.specs.declared.waiter.WaitPhase.{WaitPhase}
use Rattle.grace_core.specs.declared.waiter.WaitPhase.TheVariants.{Asking, Waiting, Ended}
use Rattle.grace_core.specs.Waits.{Wait, awaited}

-- the wait
abbrev pub wait_of : Inside → Wait
wait_of w = record { shape = w.map; quiet = w.quiet; request = w.request; phase = w.phase }

-- the one that it looks at is among those that it waits for
abbrev pub PhaseIsWithin : Wait → WaitPhase → Type 0
PhaseIsWithin w Asking = Unit {0}
PhaseIsWithin w (Waiting n) = n < awaited w
PhaseIsWithin w Ended = Unit {0}

-- what it keeps
abbrev pub WaitInvariant : Inside → Type 0
WaitInvariant w = PhaseIsWithin (wait_of w) w.phase
