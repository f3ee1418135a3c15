-- The job that the program makes is within what the machine asks.
use Rattle.std.proofs.Common.{◌≡◌, inl, refl, sym, subst, arith}
use Rattle.ft_base.specs.WellFormed.{IsWellFormed}
use Rattle.word_machine.specs.Limits.{IsLimited}
use Rattle.ft_job.specs.Parts.{IsWithin, job_of}
use Rattle.step_by_step.specs.TheJob.{the_job}
use Rattle.step_by_step.specs.TheParts.{the_parts}

pub job-is : job_of the_parts ≡ the_job
unfolding job_of
job-is = refl

pub named : IsWellFormed the_job
named = record {
  commands = (omega arith, (omega arith, tt));
  acts = (tt, tt);
  tasks = ((omega arith, (omega arith, refl)), tt);
}

limited : IsLimited the_job
limited = record {
  version = (omega arith, omega arith);
  job' = named;
  placed = (omega arith, tt);
  waits = (tt, (omega arith, (tt, tt)));
  raised = (tt, tt);
  ctls = omega arith;
  counts = record { few_functions = omega arith; few_users = omega arith; few_tasks = omega arith; few_tramps = omega arith };
  frames = omega arith;
  levels = (tt, (tt, tt));
  acts = omega arith;
  items = omega arith;
}

pub within : IsWithin the_parts
within = record {
  numbered = refl;
  limited = subst IsLimited (sym job-is) limited;
  lines = (omega arith, (omega arith, (omega arith, tt)));
  cpus = omega arith;
  quanta = (omega arith, tt);
  planned = rw job-is (record { lanes = inl refl; absent = tt; modules = tt });
  rings = rw job-is (record { some = omega arith; ring = omega arith; few = omega arith; triggers = tt });
}
