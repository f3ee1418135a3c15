-- What a poll tells: of the CPU, that it has seen a request, and of each of its tasks, whether the task was quiet then (the tasks' side of a
-- grace period).
use Rattle.std.specs.Prelude.{ℕ, Bool, ◌==◌, if◌then◌else◌}
use Rattle.word_map.specs.Contents.{all_ones, greatest_half, halves, low}
use Rattle.grace_core.specs.declared.view.TaskView.{TaskView}

-- what the low half of a task's word is to hold once this request was loaded: the request if the task is at a quiet point, and otherwise
-- what it last told. A task that has no act left is quiet for every request
abbrev pub told_low : ℕ → TaskView → ℕ
told_low r t = if t.left then (if t.quiet then r else low t.word) else greatest_half

-- what a task's word is to hold
abbrev pub told_word : ℕ → TaskView → ℕ
told_word r t = halves t.acts (told_low r t)

-- the task's word holds that already
abbrev pub has_told : ℕ → TaskView → Bool
has_told r t = t.word == told_word r t

-- what a CPU acknowledges once this request was loaded: the request if one of its tasks has an act left, and all ones if none has
abbrev pub acknowledged : Bool → ℕ → ℕ
acknowledged left r = if left then r else all_ones
