use Rattle.word_machine_laws.proofs.LedLimits.{limited_in_order}
use Rattle.word_machine_laws.proofs.led.led_jobs_are_limited.Goals as goal

pub returns : goal.returns
returns c = limited_in_order
