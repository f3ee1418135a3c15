-- How many items each CPU of a job may offer to its ring.
use Rattle.std.specs.Prelude.{ℕ, List, length, map}
use Rattle.std.specs.List.{range_with_len}
use Rattle.ft_base.specs.Job.{Job}
use Rattle.word_machine.specs.Laws.{room_on}

-- for each CPU all items that the calls of its tasks can make
abbrev pub rooms_of : Job → List ℕ
rooms_of job = map (room_on job) (range_with_len 0 (length job.quanta))
