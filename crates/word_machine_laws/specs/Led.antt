-- Jobs whose lines of control are led while the machine runs, one after the other.
use Rattle.std.specs.Prelude.{ℕ, List, [], ◌∷◌, ◌++◌}
use Rattle.ft_base.specs.Job.{Job, Ctl, LinePlan}
use Rattle.word_machine.specs.Control.{Control}
use Rattle.word_machine_laws.specs.Orders.{picked}

-- ## jobs with other lines

-- the job with these lines of control, which come from there
abbrev pub with_lines : Job → List Ctl → LinePlan → Job
with_lines job ctls plan = record job { ctls = ctls; lines = plan }

-- the job with the lines of these numbers alone, in this order, and their lanes
abbrev pub in_order : Job → List ℕ → Job
in_order job order = with_lines job (picked job.ctls order) (record job.lines { lanes = picked job.lines.lanes order })

-- the job so far, once the line of this number of the whole job is led as well
abbrev pub with_next : Job → Job → ℕ → Job
with_next job led k = with_lines led (led.ctls ++ picked job.ctls (k ∷ [])) (record led.lines { lanes = led.lines.lanes ++ picked job.lines.lanes (k ∷ []) })

-- ## lines to come

-- the job so far, once these lines are led as well, which come from there
abbrev pub later : Job → List Ctl → LinePlan → Job
later led more plan = with_lines led (led.ctls ++ more) plan

-- control with these lines to come
abbrev pub more_to_come : List Ctl → Control → Control
more_to_come more s = record s { remaining = s.remaining ++ more }
