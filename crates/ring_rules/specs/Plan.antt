-- What trace rings need to know of a job.
use Rattle.std.specs.Prelude.{ℕ, ◌≤◌, ◌<◌, Bool, false, List, [], length, map, get_or, None}
use Rattle.ft_base.specs.declared.limits.TheConstants.{CPUS, RING, TRIGGERS}
use Rattle.ft_base.specs.Job.{Job, Trigger}
use Rattle.ft_base.specs.Kinds.{is_function}

-- how many CPUs there are, the CPU of each task, whether each user is of kind function, how many entries a ring holds, whether tracing is on
-- at first, and the triggers in the order of their lines
pub record TracePlan : Type 0 where
  pub cpus : ℕ
  pub tasks : List ℕ
  pub users : List Bool
  pub ring : ℕ
  pub tracing : Bool
  pub triggers : List Trigger

-- what they need to know of this job
abbrev pub plan_of : Job → TracePlan
plan_of job = record {
  cpus = length job.quanta;
  tasks = map (λ t. t.cpu) job.tasks;
  users = map (λ s. is_function s.kind) job.users;
  ring = job.rings.ring;
  tracing = job.rings.tracing;
  triggers = job.rings.triggers;
}

-- what stands for the number of a trigger that there isn't
abbrev pub no_trigger : Trigger
no_trigger = record { on = false; limit = None; set = [] }

-- The limits of scripts: of CPUs, triggers and entries of a ring; and each task is on one of the CPUs.
pub record IsPlan (plan : TracePlan) : Type 0 where
  pub cpus : plan.cpus ≤ CPUS
  pub tasks : (t : ℕ) → t < length plan.tasks → get_or plan.tasks t 0 < plan.cpus
  pub triggers : length plan.triggers ≤ TRIGGERS
  pub ring : plan.ring ≤ RING
