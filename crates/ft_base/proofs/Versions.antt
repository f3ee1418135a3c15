-- No version allows more than the layout of words, bytes and frames has room for.
use Rattle.std.proofs.Common.{◌≡◌, ◌≤◌, nat_le, ℕ, Bool, true, false, refl, arith}
use Rattle.ft_base.specs.declared.limits.TheConstants.{LARGEST_SINCE, GUARD_LEVELS}
use Rattle.ft_base.specs.declared.limits.Limits.{Limits}
use Rattle.ft_base.specs.Versions.{largest, limits_of, levels, IsFew}
use Rattle.ft_base.specs.Job.{Job}

-- each limit is at most another one
record AreAtMost (limits most : Limits) : Type 0 where
  funcs : limits.funcs ≤ most.funcs
  users : limits.users ≤ most.users
  tramps : limits.tramps ≤ most.tramps
  levels : limits.levels ≤ most.levels

at-most-largest : (version : ℕ) → AreAtMost (limits_of version) largest
at-most-largest version = by (nat_le LARGEST_SINCE version) refl
  where
    by : (b : Bool) → (nat_le LARGEST_SINCE version) ≡ b → AreAtMost (limits_of version) largest
    by true e = rw e (record { funcs = omega arith; users = omega arith; tramps = omega arith; levels = omega arith })
    by false e = rw e (record { funcs = omega arith; users = omega arith; tramps = omega arith; levels = omega arith })

-- what is within the limits of a version is within the largest
pub few-largest : {funcs users tasks tramps : ℕ} (version : ℕ) → IsFew (limits_of version) funcs users tasks tramps → IsFew largest funcs users tasks tramps
few-largest version few =
    let most = at-most-largest version in
    record {
      few_functions = (let a = few.few_functions in let b = most.funcs in omega (arith, a, b));
      few_users = (let a = few.few_users in let b = most.users in omega (arith, a, b));
      few_tasks = few.few_tasks;
      few_tramps = (let a = few.few_tramps in let b = most.tramps in omega (arith, a, b));
    }

-- each guard has a level, and at most two
pub levels-some : (job : Job) → 1 ≤ levels job
levels-some job = by (nat_le LARGEST_SINCE job.version) refl
  where
    by : (b : Bool) → (nat_le LARGEST_SINCE job.version) ≡ b → 1 ≤ levels job
    by true e = rw (levels, e) (omega arith)
    by false e = rw (levels, e) (omega arith)

pub levels-most : (version : ℕ) → (limits_of version).levels ≤ GUARD_LEVELS
levels-most version = (at-most-largest version).levels
