-- No call of a task comes to owe more exits than its frame has room for.
use Rattle.std.proofs.Common.{ℕ, ◌<◌, ◌≤◌, ◌==◌, List, [], ◌∷◌, ◌++◌, drop, length, map, nat_le, Some, None, refl, arith}
use Rattle.std.specs.Prelude.{Option, IfSome, unwrap_or}
use Rattle.std.specs.Int.{bit_at}
use Rattle.std.proofs.lemmas.List.{length-map}
use Rattle.std.proofs.Common.{length-append}
use Rattle.ft_base.specs.declared.limits.TheConstants.{USERS}
use Rattle.ft_base.specs.declared.item.Ran.TheVariants.{Own}
use Rattle.ft_base.specs.declared.number.UserNo.{UserNo}
use Rattle.ft_base.specs.declared.task.TaskAct.{TaskAct}
use Rattle.ft_base.specs.declared.task.TaskAct.TheVariants.{Call, Ret as RetAct, Raise, Lower, After}
use Rattle.ft_base.specs.declared.user.Kind.{Kind}
use Rattle.ft_base.specs.Job.{Job, Spec}
use Rattle.ft_base.specs.Kinds.{has_depth, is_fprobe}
use Rattle.ft_base.proofs.Versions.{few-largest}
use Rattle.hash_pages.specs.declared.reader.Verdict.{Verdict}
use Rattle.hash_pages.specs.declared.reader.Verdict.TheVariants.{Open, On}
use Rattle.hash_pages.specs.Reads.{Read, read_by, verdict_of}
use Rattle.ops_list.specs.Walks.{walk_at}
use Rattle.recursion_guard.specs.Guards.{is_full as is_guard_full}
use Rattle.return_stack.specs.declared.shadow.FrameUser.{FrameUser as OwedUser}
use Rattle.return_stack.specs.Calls.{CallStack, StackedCall, frames_in, if_used, is_full, top_users, with_hook, with_user, without_empty}
use Rattle.fprobe.specs.declared.entry.Probe.{Probe}
use Rattle.fprobe.specs.declared.entry.Probe.TheVariants.{Plain, Wanted, Cancelled, Missed}
use Rattle.fprobe.specs.Entry.{calls_after}
use Rattle.word_map.specs.Contents.{high, low, returned_at, stands, tramp_user}
use Rattle.word_machine.specs.Laws.{PresentTakes}
use Rattle.word_machine.specs.Limits.{IsLimited}
use Rattle.word_machine.specs.Task.{is_too_deep}
use Rattle.word_machine.proofs.Small.{if_case}
use Rattle.task_core.specs.declared.moment.Moment.{Moment}
use Rattle.task_core.specs.declared.moment.Moment.TheVariants.{Polling, First, Load, Mark}
use Rattle.task_core.specs.declared.moment.ToLoad.{ToLoad}
use Rattle.task_core.specs.declared.moment.ToLoad.TheVariants.{InTramp, OwnSel, Reading, AtPids, AtDepth, AtExit}
use Rattle.task_core.specs.declared.moment.ToMark.{ToMark}
use Rattle.task_core.specs.declared.moment.ToMark.TheVariants.{Calling, Acting, Closing, Returning}
use Rattle.task_core.specs.declared.open_call.OpenCall.{OpenCall as CodeCall}
use Rattle.task_core.specs.declared.task.Task.{Task}
use Rattle.task_core.specs.Framed.{probe_of}
use Rattle.task_core.specs.Setups.{PlainSetup, asks, declared_in}
use Rattle.task_core.specs.States.{mark_moment, moment_of, plain_user, state_of, users_in}
use Rattle.task_core.specs.TaskOps.{frame_user, present, top}
use Rattle.task_core.specs.TaskSteps.{after_at, after_first, after_load, after_mark, asks_at, begun, guard_tested, judged, stacks_after, task_after, tested, with_latest}
use Rattle.task_core.specs.StackInvariant.{AreFew, IsTaskOf}
use Rattle.task_core.proofs.StackCalls.{none-open, users-room}
use Rattle.task_core.proofs.RowLists.{standing}
use Rattle.task_core.proofs.ActsLeft.{call-open}

-- ## frames

-- the top call's frame has room for one more user
abbrev HasRoom : List StackedCall → Type 0
HasRoom ss = IfSome (top_users ss) (λ us. length us < USERS)

hooked-few : (users : Option (List OwedUser)) → length (users_in users) ≤ USERS → length (map plain_user (unwrap_or users [])) ≤ USERS
hooked-few None le = omega arith
hooked-few (Some us) le = le

one-more : (us : List OwedUser) (user : OwedUser) → length us < USERS → length (map plain_user (us ++ user ∷ [])) ≤ USERS
one-more us user lt =
    let e = length-map (us ++ user ∷ []) plain_user in
    let l = length-append us (user ∷ []) in
    omega (arith, lt, e, l)

added-few : (users : Option (List OwedUser)) (user : OwedUser) → IfSome users (λ us. length us < USERS)
    → length (map plain_user (unwrap_or users [] ++ user ∷ [])) ≤ USERS
added-few None user room = one-more [] user (omega arith)
added-few (Some us) user room = one-more us user room

used-few : (users : Option (List OwedUser)) → length (users_in users) ≤ USERS → length (users_in (if_used users)) ≤ USERS
used-few None le = le
used-few (Some []) le = le
used-few (Some (m ∷ us)) le = le

-- ## stacks

with-hook : (ss : List StackedCall) → AreFew ss → AreFew (with_hook ss)
with-hook [] f = tt
with-hook (s ∷ ss) f = (hooked-few s.users f.0, f.1)

with-user : (ss : List StackedCall) (user : OwedUser) → HasRoom ss → AreFew ss → AreFew (with_user (with_hook ss) user)
with-user [] user room f = tt
with-user (s ∷ ss) user room f = (added-few s.users user room, f.1)

without-empty : (ss : List StackedCall) → AreFew ss → AreFew (without_empty ss)
without-empty [] f = tt
without-empty (s ∷ ss) f = (used-few s.users f.0, f.1)

without-top : (ss : List StackedCall) → AreFew ss → AreFew (drop 1 ss)
without-top [] f = tt
without-top (s ∷ ss) f = f.1

probe-few : (probe : Probe) (ss : List StackedCall) (user : OwedUser) → HasRoom ss → AreFew ss → AreFew (calls_after probe ss user)
probe-few Plain ss user room f = f
probe-few Missed ss user room f = f
probe-few Cancelled ss user room f = with-hook ss f
probe-few Wanted ss user room f = with-user ss user room f

called-few : (kind : Kind) (s : CallStack) (user : OwedUser) → HasRoom s.calls → AreFew s.calls → AreFew (stacks_after kind s user).calls
called-few kind s user room f =
    if_case AreFew (has_depth kind) _ _ (λ e. with-user s.calls user room f)
    (λ e. if_case AreFew (is_fprobe kind) _ _ (λ e. probe-few (probe_of kind (is_full s)) s.calls user room f) (λ e. f))

-- ## steps

-- what a mark asks of the top call's frame
abbrev Asks : List StackedCall → ToMark → Type 0
Asks ss (Calling u reg) = HasRoom ss
Asks ss _ = Unit {0}

module _ (t : Task) (setup : PlainSetup) (f : AreFew t.stacks.calls) where
  -- no call of the task owes too much
  abbrev Few : Task → Type 0
  Few u = AreFew u.stacks.calls

  -- the tests of a user, whatever has changed of the top call
  guard-few : (x : Task) → Few x → (spec : Spec) (u : UserNo) (reg : ℕ) → Few (guard_tested x spec u reg)
  guard-few x h spec u reg = if_case Few (is_guard_full x.guards) _ _ (λ e. h) (λ e. h)

  tested-few : (x : Task) → Few x → (spec : Spec) (u : UserNo) (reg : ℕ) → Few (tested x spec u reg)
  tested-few x h spec u reg = if_case Few spec.pid _ _ (λ e. h) (λ e. guard-few x h spec u reg)

  judged-few : (r : Read) (verdict : Verdict) (user : Option UserNo) → Few (judged t setup r verdict user)
  judged-few r Open user = f
  judged-few r (On reg) (Some u) = tested-few t f (declared_in setup u.0) u reg
  judged-few r _ _ = f

  first-few : (act : Option TaskAct) (v : ℕ) → Few (after_first t setup act v)
  first-few None v = f
  first-few (Some (Call g)) v = (omega arith, f)
  first-few (Some RetAct) v = f
  first-few (Some (Raise x)) v = f
  first-few (Some Lower) v = f
  first-few (Some (After n)) v = if_case Few (nat_le n (returned_at v)) _ _ (λ e. f) (λ e. f)

  load-few : (l : ToLoad) (v : ℕ) → Few (after_load t setup l v)
  load-few (InTramp slot) v =
      let u : UserNo = record { 0 = tramp_user v } in
      let x : Task = record t { opens = with_latest t.opens (record (top t) { ran = Own u }) } in
      if_case Few (asks setup u.0) _ _ (λ e. f) (λ e. tested-few x f (declared_in setup u.0) u (high v))
  load-few (OwnSel u reg) v = if_case Few (stands v reg) _ _ (λ e. tested-few t f (declared_in setup u.0) u reg) (λ e. f)
  load-few (Reading r) v =
      let user : Option UserNo = walk_at (top t).walk.phase in
      let r' : Read = read_by (asks_at setup user) r v in
      judged-few r' (verdict_of r'.phase) user
  load-few (AtPids u reg) v = if_case Few (bit_at v t.number.0 == 1) _ _ (λ e. guard-few t f (declared_in setup u.0) u reg) (λ e. f)
  load-few (AtDepth u reg) v = if_case Few (is_too_deep setup.frames v (frames_in (drop 1 t.stacks.calls))) _ _ (λ e. f) (λ e. f)
  load-few (AtExit i) v = if_case Few (stands v (frame_user t i).reg) _ _ (λ e. f) (λ e. f)
  load-few _ v = f

  mark-few : (l : ToMark) (place : ℕ) → Asks t.stacks.calls l → Few (after_mark t setup l place)
  mark-few (Calling u reg) place room = called-few (declared_in setup u.0).kind t.stacks (record { user = u; reg = reg; entry = place }) room f
  mark-few (Acting u g x) place asks = (omega arith, f)
  mark-few Closing place asks =
      if_case Few (top t).scripted _ _ (λ e. without-empty t.stacks.calls f) (λ e. without-empty t.stacks.calls f)
  mark-few Returning place asks =
      if_case Few (top t).scripted _ _ (λ e. without-top t.stacks.calls f) (λ e. without-top t.stacks.calls f)
  mark-few _ place asks = f

-- a poll's end
pub few-begun : (t : Task) → AreFew t.stacks.calls → AreFew (begun t (present t)).stacks.calls
few-begun t f = by (present t)
  where
    by : (act : Option TaskAct) → AreFew (begun t act).stacks.calls
    by None = f
    by (Some (Call g)) = f
    by (Some RetAct) = f
    by (Some (Raise x)) = f
    by (Some Lower) = f
    by (Some (After n)) = f

-- ## any operation

module _ (job : Job) (limited : IsLimited job) (setup : PlainSetup) (v : ℕ) where
  asks-is : (t : Task) (o : CodeCall) (os : List CodeCall) (s : StackedCall) (ss : List StackedCall) (l : ToMark)
      → PresentTakes job (state_of (standing t (o ∷ os) (s ∷ ss) (Mark l))) (mark_moment (users_in s.users) l) v
      → Asks (s ∷ ss) l
  asks-is t o os s ss (Calling u reg) takes = users-room s.users USERS (let few = (few-largest job.version limited.counts).few_users in omega (arith, takes, few))
  asks-is t o os s ss _ takes = tt

  few-row : (t : Task) (calls : List CodeCall) (ss : List StackedCall) (m : Moment) → IsTaskOf job (standing t calls ss m)
      → PresentTakes job (state_of (standing t calls ss m)) (moment_of (standing t calls ss m)) v
      → AreFew (after_at (standing t calls ss m) setup m v).stacks.calls
  few-row t calls ss Polling k takes = k.few
  few-row t calls ss First k takes = first-few (standing t calls ss First) setup k.few (present (standing t calls ss First)) v
  few-row t calls ss (Load l) k takes = load-few (standing t calls ss (Load l)) setup k.few l v
  few-row t [] ss (Mark l) k takes = none-open (call-open job (standing t [] ss (Mark l)) k refl)
  few-row t (o ∷ os) [] (Mark l) k takes = none-open (call-open job (standing t (o ∷ os) [] (Mark l)) k refl)
  few-row t (o ∷ os) (s ∷ ss) (Mark l) k takes =
      mark-few (standing t (o ∷ os) (s ∷ ss) (Mark l)) setup k.few l (low v) (asks-is t o os s ss l takes)

  pub few-got : (t : Task) → IsTaskOf job t → PresentTakes job (state_of t) (moment_of t) v → AreFew (task_after t setup v).stacks.calls
  few-got t k takes = few-row t t.opens.calls t.stacks.calls t.moment k takes
