use Rattle.word_machine_laws.proofs.LedControls.{begins, ended}
use Rattle.word_machine_laws.proofs.led.a_command_that_is_led_begins.Goals as goal

pub returns : goal.returns
returns c = record { ended = ended; begins = begins }
