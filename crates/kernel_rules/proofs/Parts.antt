-- The parts that ask nothing of a call's visits: what keeps them after one past keeps them after another that is the same but for refusals
-- and misses.
use Rattle.std.proofs.Common.{◌≡◌, ℕ, ◌≤◌, true, false, ◌==◌, List, ◌∷◌, Option, Some, None, IsSome, IfSome, refl, sym, ap, ◌∙◌, subst}
use Rattle.std.specs.List.{list_any}
use Rattle.ft_base.specs.declared.number.CallNo.{CallNo}
use Rattle.ft_base.specs.declared.item.Item.{Item}
use Rattle.ft_base.specs.declared.item.Item.TheVariants.{Begin, Return, Back, Refuse}
use Rattle.ft_base.specs.declared.item.Reason.{Reason}
use Rattle.ft_base.specs.declared.item.Reason.TheVariants.{Pid as ByPid, Recursion, Depth}
use Rattle.ft_base.specs.Job.{Job, Command, command_at, waits_before}
use Rattle.ft_base.specs.Desk.{desk, is_on}
use Rattle.ft_base.proofs.Small.{Each-weaker}
use Rattle.ft_hist.specs.Past.{is_of, done, begun, entry_of, Callback, Visit, held, miss_after, miss_due, since_now}
use Rattle.ft_hist.specs.Plain.{plain, PlainTask}
use Rattle.ft_hist.specs.Rules.{InWindow, KeepsCommands, KeepsPlainRun, KeepsRefusals, MayRefuse, PassesAll, acts_passed}
use Rattle.kernel_rules.specs.Rules.{AtSome, IsStill, unregisters}
use Rattle.kernel_rules.proofs.Thinned.{Alike, alike, thinned}
use Rattle.kernel_rules.proofs.Merging.{user-alike}
use Rattle.kernel_rules.proofs.Runs.{is_miss, one-more, passed-same, run-alike, settled_run, settled_task, still-some}

module _ (job : Job) (past past' : List Item) (same : thinned past ≡ thinned past') (runs : (t : ℕ) → IsSome (plain job t past)) (runs' : (t : ℕ) → IsSome (plain job t past')) where
  -- the pasts are alike
  abbrev a : Alike job past past'
  a = alike job past past' same

  -- a call is entered the same
  pub entry-alike : (c : CallNo) → entry_of c past' ≡ entry_of c past
  entry-alike c = rw (a.entered' c) refl

  -- a user has the same registration
  pub since-alike : (c : CallNo) (u : ℕ) → since_now job c u past' ≡ since_now job c u past
  since-alike c u = ap (λ s. s.since) (sym (user-alike job c u past past' a))

  -- who is on at some command of a call's window
  pub on-alike : (c : CallNo) (u : ℕ) → AtSome job past u (entry_of c past).from (λ k. is_on (desk job k) u (entry_of c past).func ≡ true)
      → AtSome job past' u (entry_of c past').from (λ k. is_on (desk job k) u (entry_of c past').func ≡ true)
  on-alike c u h = rw (entry-alike c, ← a.done', ← a.begun') h

  -- a fact at a command of a window
  pub window-alike : (c : CallNo) (P : ℕ → Type 0) → InWindow c past P → InWindow c past' P
  window-alike c P h = rw (entry-alike c, ← a.begun') h

  -- the reason of a refusal
  pub why-alike : (c : CallNo) (u : ℕ) (reason : Reason) → MayRefuse job past c u reason → MayRefuse job past' c u reason
  why-alike c u ByPid h = rw (← a.done', ← a.begun') h
  why-alike c u Recursion h = rw (entry-alike c, ← a.open', ← a.done', ← a.begun') h
  why-alike c u Depth h = rw (entry-alike c, ← a.open', ← a.held' c, ← a.done', ← a.begun') h

  -- who is called back
  passes-alike : (c : CallNo) (u : ℕ) → PassesAll job past c u → PassesAll job past' c u
  passes-alike c u h = record {
    pid = rw (← a.done', ← a.begun') h.pid;
    free = rw (entry-alike c, ← a.open') h.free;
    room = rw (← a.held' c) h.room;
    level = rw (← a.held' c, ← a.done', ← a.begun') h.level;
  }

  -- the part of refusals
  pub refusals-alike : (item : Item) → KeepsRefusals job past item → KeepsRefusals job past' item
  refusals-alike (Back c u) h = passes-alike c u.0 h
  refusals-alike (Refuse c u reason) h = why-alike c u.0 reason h
  refusals-alike _ h = tt

  -- a command whose user is still
  still-alike : (o : Option Command) → IfSome o (IsStill past) → IfSome o (IsStill past')
  still-alike None h = h
  still-alike (Some c) h = by (unregisters c) h
    where
      by : (u : Option ℕ) → IfSome u (λ v. list_any (λ b. b.user == v) (Rattle.ft_hist.specs.Past.callbacks past) ≡ false) → IfSome u (λ v. list_any (λ b. b.user == v) (Rattle.ft_hist.specs.Past.callbacks past') ≡ false)
      by None h = h
      by (Some v) h = rw (← a.open') h

  -- a Return of such a command
  pub return-alike : (k : ℕ) → IfSome (command_at job k) (IsStill past) → IfSome (command_at job k) (IsStill past')
  return-alike k h = still-alike (command_at job k) h

  -- the runs are the same but for misses
  pub same-run : (t : ℕ) → settled_run (plain job t past) ≡ settled_run (plain job t past')
  same-run t = run-alike job t past past' same (runs t) (runs' t)

  -- an item that is no Miss goes on with a run
  pub run-on : (item : Item) → is_miss item ≡ false → KeepsPlainRun job past item → KeepsPlainRun job past' item
  run-on item other h t = still-some job (plain job t (item ∷ past)) (plain job t (item ∷ past')) (one-more job t item past past' a.done' other (same-run t)) (h t)

  -- a task has done as many acts
  passed-alike : (n : ℕ) (o o' : Option PlainTask) → settled_run o ≡ settled_run o' → IfSome o (λ s. n ≤ acts_passed s) → IfSome o' (λ s. n ≤ acts_passed s)
  passed-alike n (Some s) (Some s') e h =
      let is : settled_task s ≡ settled_task s' = cc in
      subst (λ (m : ℕ). n ≤ m) (sym (passed-same job s) ∙ ap acts_passed is ∙ passed-same job s') h
  passed-alike n None None e h = h
  passed-alike n None (Some s') e h = absurd cc
  passed-alike n (Some s) None e h = absurd cc

  -- the part of commands
  pub commands-alike : (item : Item) → KeepsCommands job past item → KeepsCommands job past' item
  commands-alike (Begin k) h = (
    record { number = rw (← a.begun') h.0.number; follows = rw (← a.begun', ← a.done') h.0.follows; stands = rw (← a.begun') h.0.stands },
    rw (← a.begun') (Each-weaker (λ w. IfSome (plain job w.0 past) (λ s. w.1 ≤ acts_passed s)) (λ w. IfSome (plain job w.0 past') (λ s. w.1 ≤ acts_passed s)) (waits_before (begun past) job.ctls)
        (λ w k. passed-alike w.1 (plain job w.0 past) (plain job w.0 past') (same-run w.0) k) h.1),
  )
  commands-alike (Return k answer) h = record { number = rw (← a.done') h.number; follows = rw (← a.begun', ← a.done') h.follows; command = rw (← a.done') h.command }
  commands-alike _ h = tt
