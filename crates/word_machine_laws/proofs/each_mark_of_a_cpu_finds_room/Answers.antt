use Rattle.word_machine_laws.proofs.each_mark_of_a_cpu_finds_room.Goals as goal
use Rattle.word_machine_laws.proofs.Limited.{limited}
use Rattle.word_machine_laws.proofs.Marked.{mark-room}

pub returns : goal.returns
returns c = λ job s i item l r inside is. mark-room job (limited job l) s r.kept i inside item is
