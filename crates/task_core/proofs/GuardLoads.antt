-- The guards of a task of code after a load: the test of a guard takes a level of it, and the depth rule gives it back.
use Rattle.std.proofs.Common.{cond, ◌≡◌, ℕ, zero, suc, Bool, true, false, ◌==◌, List, ◌∷◌, ◌-◌, Some, None, refl, sym, ap, ◌∙◌}
use Rattle.std.specs.Prelude.{Option}
use Rattle.std.specs.Int.{bit_at}
use Rattle.ft_base.specs.declared.context.Ctx.{Ctx}
use Rattle.ft_base.specs.declared.item.Ran.{Ran}
use Rattle.ft_base.specs.declared.item.Ran.TheVariants.{Nop, List as ByList, Own}
use Rattle.ft_base.specs.declared.item.Reason.TheVariants.{Pid as ByPid, Recursion, Depth as ByDepth}
use Rattle.ft_base.specs.declared.number.FuncNo.{FuncNo}
use Rattle.ft_base.specs.declared.number.UserNo.{UserNo}
use Rattle.ft_base.specs.Job.{Spec}
use Rattle.ft_base.specs.Kinds.{has_depth}
use Rattle.ft_base.specs.Same.{same_ctx, context}
use Rattle.ops_list.specs.Walks.{walk_after, walk_at}
use Rattle.hash_pages.specs.declared.reader.ReadPhase.{ReadPhase}
use Rattle.hash_pages.specs.declared.reader.ReadPhase.TheVariants.{AtSel, AtFilter, AtNotrace, Ended as ReadEnded}
use Rattle.hash_pages.specs.declared.reader.Verdict.{Verdict}
use Rattle.hash_pages.specs.declared.reader.Verdict.TheVariants.{Open, On}
use Rattle.hash_pages.specs.Reads.{Read, read_by, verdict_of}
use Rattle.recursion_guard.specs.Guards.{GuardState, entered, is_full, left}
use Rattle.return_stack.specs.declared.shadow.FrameUser.{FrameUser}
use Rattle.return_stack.specs.Calls.{StackedCall, frames_in}
use Rattle.site_bytes.specs.Bytes.{breakpoint}
use Rattle.word_map.specs.declared.shape.Shape.{Shape}
use Rattle.word_map.specs.Contents.{high, stands, tramp_user}
use Rattle.word_map.specs.Instructions.{decode}
use Rattle.word_machine.specs.Task.{Closing as ClosingAt, fetched_ran, guards_under, is_too_deep}
use Rattle.task_core.specs.declared.moment.Moment.{Moment as CodeMoment}
use Rattle.task_core.specs.declared.moment.Moment.TheVariants.{Load, Mark}
use Rattle.task_core.specs.declared.moment.ToLoad.{ToLoad}
use Rattle.task_core.specs.declared.moment.ToLoad.TheVariants.{Fetch, GotHead, GotBreak, InTramp, OwnSel, Walking, Reading, AtPids, AtDepth, AtExit}
use Rattle.task_core.specs.declared.moment.ToMark.TheVariants.{Refusing, Calling, Closing, Exiting}
use Rattle.task_core.specs.declared.open_call.OpenCall.{OpenCall as CodeCall}
use Rattle.task_core.specs.declared.task.Task.{Task}
use Rattle.task_core.specs.Leads.{after_user_to, fetched_to, head_to}
use Rattle.task_core.specs.Moments.{judged as judged_at, reading_at}
use Rattle.task_core.specs.Setups.{PlainSetup, asks, declared_in}
use Rattle.task_core.specs.States.{load_moment, stack_in, users_in}
use Rattle.task_core.specs.TaskInvariant.{is_dispatching}
use Rattle.task_core.specs.TaskOps.{frame_user, owed}
use Rattle.task_core.specs.TaskSteps.{after_load, arrived_at, asks_at, in_trampoline, depth_tested, exit_from, exit_stated, exit_to, guard_tested, judged, own_stated, passed, pid_tested, tested}
use Rattle.task_core.proofs.RowLists.{standing}
use Rattle.task_core.proofs.Guards.{Guards, GuardsIn, given-apart, holding, in-call, taken-apart}
use Rattle.task_core.proofs.ExitGuards.{given-levels, taken-levels}

-- ## moments without a guard

pub head-free : (v : ℕ) → holding (head_to v) ≡ false
head-free v = by (v == breakpoint)
  where
    by : (b : Bool) → holding (cond b (Load GotBreak) (Load (GotHead v))) ≡ false
    by true = refl
    by false = refl

pub fetched-free : (i : ℕ) → holding (fetched_to i) ≡ false
fetched-free zero = refl
fetched-free (suc zero) = refl
fetched-free (suc (suc s)) = refl

pub arrived-free : (shape : Shape) (f : FuncNo) (u : Option UserNo) → holding (arrived_at shape f u) ≡ false
arrived-free shape f None = refl
arrived-free shape f (Some u) = refl

pub after-free : (r : Ran) → holding (after_user_to r) ≡ false
after-free ByList = refl
after-free Nop = refl
after-free (Own u) = refl

pub exit-free : (i : ℕ) (user : Option FrameUser) → holding (exit_to i user) ≡ false
exit-free i None = refl
exit-free i (Some user) = refl

-- a read is within the dispatch
pub reading-dispatched : (u : ℕ) (phase : ReadPhase) → is_dispatching (reading_at u (λ reg. ClosingAt) phase) ≡ true
reading-dispatched u AtSel = refl
reading-dispatched u (AtFilter copy reg) = refl
reading-dispatched u (AtNotrace copy reg) = refl
reading-dispatched u (ReadEnded v) = by v
  where
    by : (v : Verdict) → is_dispatching (judged_at u (λ reg. ClosingAt) v) ≡ true
    by (On reg) = refl
    by _ = refl

module _ (t : Task) (o : CodeCall) (os : List CodeCall) (s : StackedCall) (ss : List StackedCall) where
  -- the task at a moment
  abbrev here : CodeMoment → Task
  here m = standing t (o ∷ os) (s ∷ ss) m

  -- the guards below the call
  abbrev pub under : List Ctx
  under = guards_under o.scripted (stack_in os ss)

  -- these guards and contexts are those of its calls
  abbrev pub In : GuardState → Bool → Type 0
  In g b = GuardsIn g b o.ctx o.scripted (stack_in os ss)

  -- another moment
  pub goes : (m : CodeMoment) (b : Bool) → holding m ≡ b → In t.guards b → Guards (here m)
  goes m b e h = in-call t.guards o os s ss m b e h

  -- ## levels that are taken and given back

  taken : context t.guards.raised ≡ o.ctx → In t.guards false → In (entered t.guards) true
  taken own h = record {
    held = λ k. (taken-apart t.guards o.ctx own k ∙ ap (λ n. cond (same_ctx o.ctx k) (suc n) n) (h.held k) ∙ sym (taken-levels o.ctx under k));
    raised = h.raised;
  }

  pub given : context t.guards.raised ≡ o.ctx → In t.guards true → In (left t.guards) false
  given own h = record {
    held = λ k. (given-apart t.guards o.ctx own k ∙ ap (λ n. cond (same_ctx o.ctx k) (n - 1) n) (h.held k) ∙ given-levels o.ctx under k);
    raised = h.raised;
  }

  -- ## tests

  module _ (m : CodeMoment) (u : UserNo) (reg : ℕ) where
    guard-guards : (spec : Spec) → context t.guards.raised ≡ o.ctx → In t.guards false → Guards (guard_tested (here m) spec u reg)
    guard-guards spec own h = by (is_full t.guards) (has_depth spec.kind)
      where
        by : (full deep : Bool) → Guards (cond full (here (Mark (Refusing u reg Recursion)))
            (record (here m) { guards = entered t.guards; moment = cond deep (Load (AtDepth u reg)) (Mark (Calling u reg)) }))
        by true deep = goes (Mark (Refusing u reg Recursion)) false refl h
        by false true = in-call (entered t.guards) o os s ss (Load (AtDepth u reg)) true refl (taken own h)
        by false false = in-call (entered t.guards) o os s ss (Mark (Calling u reg)) true refl (taken own h)

    tested-guards : (spec : Spec) → context t.guards.raised ≡ o.ctx → In t.guards false → Guards (tested (here m) spec u reg)
    tested-guards spec own h = by spec.pid
      where
        by : (b : Bool) → Guards (cond b (here (Load (AtPids u reg))) (guard_tested (here m) spec u reg))
        by true = goes (Load (AtPids u reg)) false refl h
        by false = guard-guards spec own h

    own-guards : (spec : Spec) (v : ℕ) → context t.guards.raised ≡ o.ctx → In t.guards false → Guards (own_stated (here m) spec u reg v)
    own-guards spec v own h = by (stands v reg)
      where
        by : (b : Bool) → Guards (cond b (tested (here m) spec u reg) (here (Mark Closing)))
        by true = tested-guards spec own h
        by false = goes (Mark Closing) false refl h

    pid-guards : (spec : Spec) (v : ℕ) → context t.guards.raised ≡ o.ctx → In t.guards false → Guards (pid_tested (here m) spec u reg v)
    pid-guards spec v own h = by (bit_at v t.number.0 == 1)
      where
        by : (b : Bool) → Guards (cond b (guard_tested (here m) spec u reg) (here (Mark (Refusing u reg ByPid))))
        by true = guard-guards spec own h
        by false = goes (Mark (Refusing u reg ByPid)) false refl h

    depth-guards : (frames v : ℕ) → context t.guards.raised ≡ o.ctx → In t.guards true → Guards (depth_tested (here m) frames u reg v)
    depth-guards frames v own h = by (is_too_deep frames v (frames_in ss))
      where
        by : (b : Bool) → Guards (cond b (record (here m) { guards = left t.guards; moment = Mark (Refusing u reg ByDepth) })
            (here (Mark (Calling u reg))))
        by true = in-call (left t.guards) o os s ss (Mark (Refusing u reg ByDepth)) false refl (given own h)
        by false = goes (Mark (Calling u reg)) true refl h

  -- ## the walk, and exits

  pub passed-guards : (m : CodeMoment) → In t.guards false → Guards (passed (here m))
  passed-guards m h = goes (after_user_to o.ran) false (after-free o.ran) h

  read-guards : (m : CodeMoment) (setup : PlainSetup) (r : Read) (verdict : Verdict) (user : Option UserNo) → context t.guards.raised ≡ o.ctx
      → In t.guards false → Guards (judged (here m) setup r verdict user)
  read-guards m setup r Open user own h = goes (Load (Reading r)) false refl h
  read-guards m setup r (On reg) (Some u) own h = tested-guards m u reg (declared_in setup u.0) own h
  read-guards m setup r _ _ own h = passed-guards m h

  pub exit-guards : (m : CodeMoment) (i : ℕ) → In t.guards false → Guards (exit_from (here m) i)
  exit-guards m i h = let user : Option FrameUser = owed (here m) i in goes (exit_to i user) false (exit-free i user) h

  stated-guards : (m : CodeMoment) (i v : ℕ) → In t.guards false → Guards (exit_stated (here m) i v)
  stated-guards m i v h = by (stands v (frame_user (here m) i).reg)
    where
      by : (b : Bool) → Guards (cond b (here (Mark (Exiting i))) (exit_from (here m) (suc i)))
      by true = goes (Mark (Exiting i)) false refl h
      by false = exit-guards m (suc i) h

-- ## a load

-- a trampoline's user that is asked has its state loaded, and of any other the tests begin
tramp-guards : (t : Task) (o : CodeCall) (os : List CodeCall) (s : StackedCall) (ss : List StackedCall) (slot : ℕ) (setup : PlainSetup) (v : ℕ)
    → context t.guards.raised ≡ o.ctx → In t o os s ss t.guards false → Guards (in_trampoline (here t o os s ss (Load (InTramp slot))) setup v)
tramp-guards t o os s ss slot setup v own h = by (asks setup (tramp_user v))
  where
    u : UserNo
    u = record { 0 = tramp_user v }

    o' : CodeCall
    o' = record o { ran = Own u }

    by : (b : Bool) → Guards (cond b (here t o' os s ss (Load (OwnSel u (high v)))) (tested (here t o' os s ss (Load (InTramp slot))) (declared_in setup u.0) u (high v)))
    by true = in-call t.guards o' os s ss (Load (OwnSel u (high v))) false refl h
    by false = tested-guards t o' os s ss (Load (InTramp slot)) u (high v) (declared_in setup u.0) own h

module _ (t : Task) (o : CodeCall) (os : List CodeCall) (s : StackedCall) (ss : List StackedCall) where
  module _ (setup : PlainSetup) (v : ℕ) where
    -- the present context is that of the call while it is dispatched
    pub load-guards : (l : ToLoad) → (is_dispatching (load_moment o (users_in s.users) l) ≡ true → context t.guards.raised ≡ o.ctx)
        → In t o os s ss t.guards (holding (Load l)) → Guards (after_load (here t o os s ss (Load l)) setup l v)
    load-guards Fetch own h = goes t o os s ss (head_to v) false (head-free v) h
    load-guards (GotHead byte) own h =
        let i : ℕ = decode o.func.0 byte v in in-call t.guards (record o { ran = fetched_ran i }) os s ss (fetched_to i) false (fetched-free i) h
    load-guards GotBreak own h = in-call t.guards (record o { ran = fetched_ran v }) os s ss (fetched_to v) false (fetched-free v) h
    load-guards (InTramp slot) own h = tramp-guards t o os s ss slot setup v (own refl) h
    load-guards (OwnSel u reg) own h = own-guards t o os s ss (Load (OwnSel u reg)) u reg (declared_in setup u.0) v (own refl) h
    load-guards Walking own h =
        let user : Option UserNo = walk_at (walk_after o.walk.phase v) in
        in-call t.guards (record o { walk = record o.walk { phase = walk_after o.walk.phase v } }) os s ss (arrived_at setup.shape o.func user) false
        (arrived-free setup.shape o.func user) h
    load-guards (Reading r) own h =
        let user : Option UserNo = walk_at o.walk.phase in
        let r' : Read = read_by (asks_at setup user) r v in
        read-guards t o os s ss (Load (Reading r)) setup r' (verdict_of r'.phase) user (own (reading-dispatched r.user r.phase)) h
    load-guards (AtPids u reg) own h = pid-guards t o os s ss (Load (AtPids u reg)) u reg (declared_in setup u.0) v (own refl) h
    load-guards (AtDepth u reg) own h = depth-guards t o os s ss (Load (AtDepth u reg)) u reg setup.frames v (own refl) h
    load-guards (AtExit i) own h = stated-guards t o os s ss (Load (AtExit i)) i v h
