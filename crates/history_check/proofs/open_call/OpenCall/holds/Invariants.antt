use Rattle.std.proofs.Common.{◌≡◌, drop, map}
use Rattle.std.specs.List.{list_any}
use Rattle.ft_base.specs.Job.{Job}
use Rattle.history_check.specs.TaskCalls.{keeps_frame}
use Rattle.user_specs.specs.Plain.{spec_of}
use Rattle.history_check.proofs.open_call.OpenCall.holds.Given as goal

-- none of the visits so far holds one
abbrev pub invariant-loop-at : goal.invariant-loop-at
invariant-loop-at l = (job : Job) → map spec_of l.specs ≡ job.users
    → list_any (keeps_frame job l.self.dispatched) (drop l.at l.self.visits.items) ≡ list_any (keeps_frame job l.self.dispatched) l.self.visits.items
