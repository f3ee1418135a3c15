-- The CPUs so far are the first of each job that declares the plans, and there is room for the rest.
use Rattle.std.proofs.Common.{◌≡◌, ◌≤◌, ℕ, Some, length, slice_get, vec_capacity}
use Rattle.ft_base.specs.Job.{Job}
use Rattle.cpu_core.specs.declared.parts.Parts.{Parts}
use Rattle.ft_machine.specs.Starts.{ArePlansOf, IsFirst}
use Rattle.ft_machine.proofs.cpus.new_cpus.Given as goal

abbrev pub invariant-loop-c : goal.invariant-loop-c
invariant-loop-c l = record {
  first : (job : Job) → ArePlansOf job l.plans l.specs l.limits l.map → (k : ℕ) (x : Parts) → slice_get l.cpus.items k ≡ Some x → IsFirst l.rooms job k x;
  count : length l.cpus.items ≡ l.c;
  room : length l.plans ≤ vec_capacity l.cpus;
}
