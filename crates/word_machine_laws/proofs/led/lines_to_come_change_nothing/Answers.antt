use Rattle.std.proofs.Common.{refl}
use Rattle.word_machine_laws.proofs.LedControls.{got_kept, next_kept}
use Rattle.word_machine_laws.proofs.LedDesks.{same_desk}
use Rattle.word_machine_laws.proofs.led.lines_to_come_change_nothing.Goals as goal

pub returns : goal.returns
returns c = record { start = λ job more plan. refl; next = next_kept; got = λ job more plan s gone op v lines now. got_kept job more plan s gone op lines now v; desk = same_desk }
