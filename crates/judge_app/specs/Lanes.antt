-- The order in which the log of a script with lanes tells that the commands went.
use Rattle.std.specs.Prelude.{ℕ, ◌==◌, List, [], ◌∷◌, length, Option, Some, None, if◌then◌else◌}
use Rattle.std.specs.List.{range_with_len}
use Rattle.ft_base.specs.Job.{Job}
use Rattle.word_machine_laws.specs.Led.{in_order}
use Rattle.word_machine_laws.specs.Orders.{lane_of}
use Rattle.log_reader.specs.Lanes.{lanes_named}

-- a line that was found after these, and the others
abbrev pub found_after : ℕ → Option (ℕ × List ℕ) → Option (ℕ × List ℕ)
found_after k None = None
found_after k (Some found) = Some (found.0, k ∷ found.1)

-- the first line of this lane, and the others
abbrev pub first_of : List ℕ → ℕ → List ℕ → Option (ℕ × List ℕ)
first_of lanes l [] = None
first_of lanes l (k ∷ ks) = if lane_of lanes k == l then Some (k, ks) else found_after k (first_of lanes l ks)

-- the line that was found, and then the order of the others; if none was found, that of all
abbrev pub goes : Option (ℕ × List ℕ) → (List ℕ → List ℕ) → List ℕ → List ℕ
goes None next left = next left
goes (Some found) next left = found.0 ∷ next found.1

-- The order of these lines that names of lanes tell: each takes the first line of its lane that is left, and is passed over if there is none;
-- the lines that are left come last
abbrev pub told : List ℕ → List ℕ → List ℕ → List ℕ
told lanes [] left = left
told lanes (l ∷ named) left = goes (first_of lanes l left) (told lanes named) left

-- the same of all lines
abbrev pub told_order : List ℕ → List ℕ → List ℕ
told_order lanes named = told lanes named (range_with_len 0 (length lanes))

-- The job of which a log is read and judged: the script's own if it has no lanes, else that with its commands in the order that the names in the
-- log tell
abbrev pub led_by : List ℕ → Job → Job
led_by log job = if length job.lines.lanes == 0 then job else in_order job (told_order job.lines.lanes (lanes_named log))
