-- Some of a job's lines are within the limits that all of them are within.
use Rattle.std.proofs.Common.{ℕ, zero, suc, List, [], ◌∷◌, length, Some, None, Option, slice_get, arith}
use Rattle.std.specs.Prelude.{IfSome}
use Rattle.std.specs.List.{AllByRecursion as Each}
use Rattle.std.proofs.lemmas.Map.Steps.{length-le_from_distinct_below}
use Rattle.ft_base.specs.Job.{Job, Command, Ctl, Run, Until, commands_in}
use Rattle.ft_base.specs.WellFormed.{IsNamed}
use Rattle.word_machine.specs.Limits.{IsLevel, IsLimited, WaitsFor}
use Rattle.word_machine_laws.specs.Led.{in_order}
use Rattle.word_machine_laws.specs.Orders.{AreLed, before_all, picked}
use Rattle.word_machine_laws.proofs.LedLists.{picked_few}

-- ## what holds of each thing holds of each that is picked

module _ {A : Type 0} (P : A → Type 0) where
  each_at : (xs : List A) (k : ℕ) → Each P xs → IfSome (slice_get xs k) P
  each_at [] k h = tt
  each_at (x ∷ xs) zero h = h.0
  each_at (x ∷ xs) (suc k) h = each_at xs k h.1

  each_before : (x : Option A) (ys : List A) → IfSome x P → Each P ys → Each P (before_all x ys)
  each_before None ys h hs = hs
  each_before (Some x) ys h hs = (h, hs)

  pub each_picked : (xs : List A) (ks : List ℕ) → Each P xs → Each P (picked xs ks)
  each_picked xs [] h = tt
  each_picked xs (k ∷ ks) h = each_before (slice_get xs k) (picked xs ks) (each_at xs k h) (each_picked xs ks h)

-- ## commands

module _ (P : Command → Type 0) where
  -- it holds of a line's command, if the line is one
  abbrev OfCommand : Ctl → Type 0
  OfCommand (Run c) = P c
  OfCommand (Until t n) = Unit {0}

  of_lines : (ctls : List Ctl) → Each P (commands_in ctls) → Each OfCommand ctls
  of_lines [] h = tt
  of_lines (Run c ∷ rest) h = (h.0, of_lines rest h.1)
  of_lines (Until t n ∷ rest) h = (tt, of_lines rest h)

  of_commands : (ctls : List Ctl) → Each OfCommand ctls → Each P (commands_in ctls)
  of_commands [] h = tt
  of_commands (Run c ∷ rest) h = (h.0, of_commands rest h.1)
  of_commands (Until t n ∷ rest) h = of_commands rest h.1

  -- the commands of lines that are picked are commands of the lines
  each_command : (ctls : List Ctl) (ks : List ℕ) → Each P (commands_in ctls) → Each P (commands_in (picked ctls ks))
  each_command ctls ks h = of_commands (picked ctls ks) (each_picked OfCommand ctls ks (of_lines ctls h))

-- ## the job

pub limited_in_order : (job : Job) (order : List ℕ) → IsLimited job → AreLed (length job.ctls) order → IsLimited (in_order job order)
limited_in_order job order l led = record {
  version = l.version;
  job' = record { commands = each_command (IsNamed job) job.ctls order l.job'.commands; acts = l.job'.acts; tasks = l.job'.tasks };
  placed = l.placed;
  waits = each_picked (WaitsFor (length job.tasks)) job.ctls order l.waits;
  raised = l.raised;
  ctls = omega (arith, picked_few job.ctls order, length-le_from_distinct_below order (length job.ctls) led.once led.within, l.ctls);
  counts = l.counts;
  frames = l.frames;
  levels = each_command IsLevel job.ctls order l.levels;
  acts = l.acts;
  items = l.items;
}
