-- A step of a task changes none of its numbers and limits, and finishes one act at most.
use Rattle.std.proofs.Common.{cond, ◌≡◌, ℕ, suc, ◌≤◌, false, List, drop, Some, None, refl, ap, arith}
use Rattle.std.specs.Prelude.{◌==◌, nat_le, Option}
use Rattle.std.specs.Int.{bit_at}
use Rattle.ft_base.specs.declared.context.Ctx.{Ctx}
use Rattle.ft_base.specs.declared.number.FuncNo.{FuncNo}
use Rattle.ft_base.specs.declared.number.TaskNo.{TaskNo}
use Rattle.ft_base.specs.declared.item.Ran.TheVariants.{Own}
use Rattle.ft_base.specs.declared.number.UserNo.{UserNo}
use Rattle.ft_base.specs.declared.task.TaskAct.{TaskAct}
use Rattle.ft_base.specs.declared.task.TaskAct.TheVariants.{Call, Ret as RetAct, Raise, Lower, After}
use Rattle.ft_base.specs.Job.{Spec}
use Rattle.ft_base.specs.Same.{same_ctx}
use Rattle.hash_pages.specs.declared.reader.Verdict.{Verdict}
use Rattle.hash_pages.specs.declared.reader.Verdict.TheVariants.{Open, Off, Apart, On}
use Rattle.hash_pages.specs.Reads.{Read, read_by, verdict_of}
use Rattle.ops_list.specs.Walks.{walk_at}
use Rattle.recursion_guard.specs.Guards.{GuardState, is_full}
use Rattle.return_stack.specs.Calls.{frames_in}
use Rattle.word_map.specs.declared.shape.Shape.{Shape}
use Rattle.word_map.specs.Contents.{high, returned_at, stands, tramp_user}
use Rattle.word_machine.specs.Task.{is_too_deep}
use Rattle.word_machine.proofs.Small.{if_case}
use Rattle.task_core.specs.declared.moment.Moment.{Moment}
use Rattle.task_core.specs.declared.moment.Moment.TheVariants.{Polling, First, Load, Mark}
use Rattle.task_core.specs.declared.moment.ToLoad.{ToLoad}
use Rattle.task_core.specs.declared.moment.ToLoad.TheVariants.{InTramp, OwnSel, Reading, AtPids, AtDepth, AtExit}
use Rattle.task_core.specs.declared.moment.ToMark.{ToMark}
use Rattle.task_core.specs.declared.moment.ToMark.TheVariants.{Acting, Ending, Closing, Returning}
use Rattle.task_core.specs.declared.task.Task.{Task}
use Rattle.task_core.specs.Setups.{PlainSetup, asks, declared_in}
use Rattle.task_core.specs.TaskOps.{frame_user, present, top}
use Rattle.task_core.specs.TaskSteps.{acted, after_at, after_first, after_load, after_mark, asks_at, begun, entered, guard_tested, judged, task_after, tested, with_latest, without_raised}

-- What a step and a poll keep of a task.
--   number, acts           it is the same task, with the same acts
--   gone                   at most one act more is finished
--   frames, calls, opens   it has the same room for frames and calls
--   levels                 its guards have as many levels
pub record IsSameTask (t u : Task) : Type 0 where
  pub number : u.number ≡ t.number
  pub acts : u.acts.all ≡ t.acts.all
  pub gone : u.acts.gone ≤ suc t.acts.gone
  pub frames : u.stacks.frame_limit ≡ t.stacks.frame_limit
  pub calls : u.stacks.call_limit ≡ t.stacks.call_limit
  pub opens : u.opens.limit ≡ t.opens.limit
  pub levels : u.guards.levels ≡ t.guards.levels

-- what stays, as one value: an equation of two such values has one proof
record Staying : Type 0 where
  number : TaskNo
  acts : List TaskAct
  frames : ℕ
  calls : ℕ
  opens : ℕ
  levels : ℕ

abbrev staying : Task → Staying
staying t = record {
  number = t.number;
  acts = t.acts.all;
  frames = t.stacks.frame_limit;
  calls = t.stacks.call_limit;
  opens = t.opens.limit;
  levels = t.guards.levels;
}

module _ (t : Task) where
  -- the same with one equation
  abbrev Keeps : Task → Type 0
  Keeps u = (staying u ≡ staying t) × (u.acts.gone ≤ suc t.acts.gone)

  same : (u : Task) → Keeps u → IsSameTask t u
  same u k = record {
    number = ap (λ (x : Staying). x.number) k.0;
    acts = ap (λ (x : Staying). x.acts) k.0;
    gone = k.1;
    frames = ap (λ (x : Staying). x.frames) k.0;
    calls = ap (λ (x : Staying). x.calls) k.0;
    opens = ap (λ (x : Staying). x.opens) k.0;
    levels = ap (λ (x : Staying). x.levels) k.0;
  }

  none-done : t.acts.gone ≤ suc t.acts.gone
  none-done = omega arith

  one-done : suc t.acts.gone ≤ suc t.acts.gone
  one-done = omega arith

  -- the tests of a user, whatever has changed of the top call
  guard-keeps : (x : Task) → Keeps x → (spec : Spec) (u : UserNo) (reg : ℕ) → Keeps (guard_tested x spec u reg)
  guard-keeps x k spec u reg = if_case Keeps (is_full x.guards) _ _ (λ e. k) (λ e. k)

  tested-keeps : (x : Task) → Keeps x → (spec : Spec) (u : UserNo) (reg : ℕ) → Keeps (tested x spec u reg)
  tested-keeps x k spec u reg = if_case Keeps spec.pid _ _ (λ e. k) (λ e. guard-keeps x k spec u reg)

  judged-keeps : (s : PlainSetup) (r : Read) (verdict : Verdict) (at : Option UserNo) → Keeps (judged t s r verdict at)
  judged-keeps s r Open at = (refl, none-done)
  judged-keeps s r (On reg) (Some u) = tested-keeps t (refl, none-done) (declared_in s u.0) u reg
  judged-keeps s r (On reg) None = (refl, none-done)
  judged-keeps s r Off at = (refl, none-done)
  judged-keeps s r Apart at = (refl, none-done)

  first-keeps : (s : PlainSetup) (act : Option TaskAct) (v : ℕ) → Keeps (after_first t s act v)
  first-keeps s (Some (Call f)) v = (refl, none-done)
  first-keeps s (Some RetAct) v = (refl, none-done)
  first-keeps s (Some (After n)) v = if_case Keeps (nat_le n (returned_at v)) _ _ (λ e. (refl, one-done)) (λ e. (refl, none-done))
  first-keeps s _ v = (refl, none-done)

  load-keeps : (s : PlainSetup) (load : ToLoad) (v : ℕ) → Keeps (after_load t s load v)
  load-keeps s (InTramp slot) v =
      let u : UserNo = record { 0 = tramp_user v } in
      let x : Task = record t { opens = with_latest t.opens (record (top t) { ran = Own u }) } in
      if_case Keeps (asks s u.0) _ _ (λ e. (refl, none-done)) (λ e. tested-keeps x (refl, none-done) (declared_in s u.0) u (high v))
  load-keeps s (OwnSel u reg) v =
      if_case Keeps (stands v reg) _ _ (λ e. tested-keeps t (refl, none-done) (declared_in s u.0) u reg) (λ e. (refl, none-done))
  load-keeps s (Reading r) v =
      let user : Option UserNo = walk_at (top t).walk.phase in
      let r' : Read = read_by (asks_at s user) r v in
      judged-keeps s r' (verdict_of r'.phase) user
  load-keeps s (AtPids u reg) v =
      if_case Keeps (bit_at v t.number.0 == 1) _ _ (λ e. guard-keeps t (refl, none-done) (declared_in s u.0) u reg) (λ e. (refl, none-done))
  load-keeps s (AtDepth u reg) v = if_case Keeps (is_too_deep s.frames v (frames_in (drop 1 t.stacks.calls))) _ _ (λ e. (refl, none-done)) (λ e. (refl, none-done))
  load-keeps s (AtExit i) v = if_case Keeps (stands v (frame_user t i).reg) _ _ (λ e. (refl, none-done)) (λ e. (refl, none-done))
  load-keeps s _ v = (refl, none-done)

  -- a call that an act makes may raise the context, and its return lower it
  acted-keeps : (shape : Shape) (u : UserNo) (f : FuncNo) (x : Ctx) → Keeps (acted t shape u f x)
  acted-keeps shape u f x =
      if_case (λ (g : GuardState). Keeps (entered (record t { guards = g; opens = with_latest t.opens (record (top t) { user = u }) }) shape f x false))
      (same_ctx x (top t).ctx) _ _ (λ e. (refl, none-done)) (λ e. (refl, none-done))

  -- the task after a call that an act made
  abbrev popped : Task
  popped = record t { stacks = record t.stacks { calls = drop 1 t.stacks.calls }; opens = record t.opens { calls = drop 1 t.opens.calls } }

  back-keeps : Keeps (record popped {
    guards = cond (same_ctx (top t).ctx (top popped).ctx) t.guards (without_raised t.guards);
    moment = Mark (Ending (top popped).user);
  })
  back-keeps =
      if_case (λ (g : GuardState). Keeps (record popped { guards = g; moment = Mark (Ending (top popped).user) }))
      (same_ctx (top t).ctx (top popped).ctx) _ _ (λ e. (refl, none-done)) (λ e. (refl, none-done))

  mark-keeps : (s : PlainSetup) (mark : ToMark) (v : ℕ) → Keeps (after_mark t s mark v)
  mark-keeps s (Acting u f x) v = acted-keeps s.shape u f x
  mark-keeps s Closing v = if_case Keeps (top t).scripted _ _ (λ e. (refl, one-done)) (λ e. (refl, none-done))
  mark-keeps s Returning v = if_case Keeps (top t).scripted _ _ (λ e. (refl, one-done)) (λ e. back-keeps)
  mark-keeps s _ v = (refl, none-done)

  at-keeps : (s : PlainSetup) (m : Moment) (v : ℕ) → Keeps (after_at t s m v)
  at-keeps s Polling v = (refl, none-done)
  at-keeps s First v = first-keeps s (present t) v
  at-keeps s (Load load) v = load-keeps s load v
  at-keeps s (Mark mark) v = mark-keeps s mark _

  begun-keeps : (act : Option TaskAct) → Keeps (begun t act)
  begun-keeps (Some (Raise x)) = (refl, one-done)
  begun-keeps (Some Lower) = (refl, one-done)
  begun-keeps _ = (refl, none-done)

  pub got-same : (s : PlainSetup) (v : ℕ) → IsSameTask t (task_after t s v)
  got-same s v = same (task_after t s v) (at-keeps s t.moment v)

  pub begun-same : IsSameTask t (begun t (present t))
  begun-same = same (begun t (present t)) (begun-keeps (present t))

  pub told-same : (w : ℕ) → IsSameTask t (record t { word = w })
  told-same w = same (record t { word = w }) (refl, none-done)
