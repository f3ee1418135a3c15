use Rattle.std.proofs.Common.{refl}
use Rattle.word_machine_laws.proofs.LedCpus.{same_got, same_next}
use Rattle.word_machine_laws.proofs.led.no_cpu_reads_lines.Goals as goal

pub returns : goal.returns
returns c = record { start = λ job ctls plan c. refl; next = same_next; got = same_got }
