use Rattle.std.proofs.Common.{inl, inr}
use Rattle.script_jobs.proofs.each_command_in_lanes_has_one.Goals as goal
use Rattle.script_jobs.proofs.Texts.{accepted_in_lanes}

pub returns : goal.returns
returns c = λ text job is some. elim (accepted_in_lanes text job is) [
  | inl none ↦ absurd (some none)
  | inr has ↦ has
]
