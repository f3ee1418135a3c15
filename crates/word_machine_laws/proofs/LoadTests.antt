-- The loads by which a dispatch tests a user: its state and sets, the lists of pids and the graph depth.
use Rattle.std.proofs.Common.{◌≡◌, ◌⊎◌, ℕ, suc, ◌/◌, ◌<◌, ◌≤◌, Bool, true, false, not, ◌||◌, ◌&&◌, List, length, cond, inl, inr, refl, sym, ap, ◌∙◌, subst, arith, nat_lt, nat_le}
use Rattle.std.specs.Prelude.{◌==◌}
use Rattle.std.proofs.lemmas.Bool.{cases_lt}
use Rattle.std.proofs.lemmas.Bool.Decides.{nat_tests}
use Rattle.ft_base.specs.declared.item.Ran.TheVariants.{List as ByList}
use Rattle.ft_base.specs.declared.item.Reason.TheVariants.{Pid as ByPid, Recursion, Depth as ByDepth}
use Rattle.ft_base.specs.declared.item.Item.{Item}
use Rattle.ft_base.specs.Marks.{is_empty}
use Rattle.ft_base.specs.Job.{Job, funcs}
use Rattle.ft_base.specs.Desk.{UserState, desk, spec_at, is_on, is_allowed}
use Rattle.ft_base.specs.Kinds.{has_depth}
use Rattle.ft_base.proofs.Small.{false_true, Each-weaker}
use Rattle.ft_hist.specs.Past.{begun, visits, entry_of, Visit}
use Rattle.ft_hist.specs.Known.{Watches, WasOff}
use Rattle.ft_hist.specs.Dispatch.{is_full}
use Rattle.word_map.specs.Contents.{high, sel_on, sel_copy, sel_empty, is_marked}
use Rattle.word_machine.specs.Commands.{effect, state_of, set_words}
use Rattle.word_machine.specs.Task.{OpenCall, Moment, TestFilter, TestNotrace, AtPids, AtDepth, Refusing, Calling, AtLink, around, level_of, is_too_deep, tests_in, passes_in, allowed_in, depth_in, begin_call, guard_test, guard_in, pid_in}
use Rattle.word_machine.specs.Progress.{SeenAt, selected, listed, underway, desk_by, pids_stored, depth_stored}
use Rattle.word_machine.specs.UserList.{since_of, list_desk}
use Rattle.word_machine.specs.HashCopies.{HashCopies, ReaderAt, InFilter, InNotrace}
use Rattle.word_machine.specs.Trampolines.{PidsAndDepth}
use Rattle.word_machine.specs.Verdicts.{Here, Seen, Found, Dispatches, RanIs, BeforeVisit, AfterVisit, PidSeen, GuardIs, may_come_before, may_come_after}
use Rattle.word_machine.specs.Rule.{Counts, IsWordJob}
use Rattle.word_machine_laws.proofs.VerdictLaws.{seen_map, seen_either, selected-underway, listed-underway}
use Rattle.word_machine.proofs.Small.{if_case}
use Rattle.word_machine_laws.proofs.Contents.{on_by, test_on, test_off, mask-is, filter_in, filter_out, notrace_on, notrace_off}
use Rattle.word_machine_laws.proofs.LoadMoments.{dispatch_goes, entry-from}
use Rattle.word_machine_laws.proofs.LoadFetch.{begun-low, begun-high}
use Rattle.word_machine_laws.proofs.DeskChanges.{since-positive, since-unique}

module _ (job : Job) (ok : IsWordJob job) (h : Here) (past : List Item) (clock : ℕ) (counts : Counts h.d h.p clock past) where
  abbrev pub since_now : ℕ → ℕ
  since_now = since_of job (list_desk h.p h.d)

  module _ (ack q : ℕ) (c : OpenCall) (below : List OpenCall) where
    abbrev pub At : Moment → Type 0
    At m = Dispatches job h past ack q c below m

    abbrev pub ms : List Visit
    ms = visits job c.call past

    abbrev pub Comes : (ℕ → Bool) → Type 0
    Comes todo = Watches job c.call c.func past todo

    pub low-of : (m : Moment) → At m → (entry_of c.call past).from ≤ h.d
    low-of m x = (let e = entry-from job h past ack q c below m x in let y = x.early in omega (arith, e, y))

    -- a user that was off as far as was loaded
    pub off-seen : (u : ℕ) (b : Bool) → (b ≡ true → underway h.p ≡ true) → (entry_of c.call past).from ≤ h.d
        → Seen job h q b (λ k. is_on (desk job k) u c.func ≡ false) → WasOff job c.call c.func u past
    off-seen u b stored low s =
        elim (seen_either b (effect job h.d) h.p h.request q (is_on (desk job h.d) u c.func ≡ false) (is_on (desk job (suc h.d)) u c.func ≡ false) s) [
          | inl x ↦ (h.d, low, begun-low job ok h past clock counts, x)
          | inr x ↦ (suc h.d, (omega (arith, low)), begun-high job ok h past clock counts (stored x.0), x.1)
        ]

    -- a fact at the desk that a word is of
    pub seen-desk : (b : Bool) (P : ℕ → Type 0) → P (desk_by b h.d) → Seen job h q b P
    seen-desk false P x = x
    seen-desk true P x = inl x

    module _ (m : Moment) (x : At m) (u reg : ℕ) (ran : RanIs job past c) (before : BeforeVisit job h q c.ran u ms)
        (watch : Comes (λ v. may_come_before since_now c.ran u v)) where
      -- ## a user that was found on

      guard_kept : Found job h q u reg c.func → PidSeen job h q u c.call.task.0 → At (guard_test job c below u reg)
      guard_kept found pid = by (is_full job (around c below).guards c.ctx) (has_depth (spec_at job u).kind) refl refl
        where
          by : (b e : Bool) → is_full job (around c below).guards c.ctx ≡ b → has_depth (spec_at job u).kind ≡ e → At (guard_in b e u reg)
          by true e y z = dispatch_goes job h past ack q c below m (Refusing u reg Recursion) c.ran x watch (ran, before, found, (pid, y))
          by false true y z = dispatch_goes job h past ack q c below m (AtDepth u reg) c.ran x watch (ran, before, found, pid, y, z)
          by false false y z = dispatch_goes job h past ack q c below m (Calling u reg) c.ran x watch (
            ran,
            before,
            found,
            pid,
            y,
            (λ f. false_true (sym z ∙ f)),
          )

      pub begin_kept : Found job h q u reg c.func → At (begin_call job c below u reg)
      begin_kept found = by (spec_at job u).pid refl
        where
          by : (b : Bool) → (spec_at job u).pid ≡ b → At (pid_in b u reg (guard_test job c below u reg))
          by true e = dispatch_goes job h past ack q c below m (AtPids u reg) c.ran x watch (ran, before, found, e)
          by false e = guard_kept found (λ f. false_true (sym e ∙ f))

      pub pids_kept : (pids depth : ℕ) → PidsAndDepth job h.d h.p pids depth → length job.tasks ≤ 64 → c.call.task.0 < length job.tasks
          → Found job h q u reg c.func → (spec_at job u).pid ≡ true
          → At (allowed_in (is_marked pids c.call.task.0) u reg (guard_test job c below u reg))
      pids_kept pids depth limits few inside found wants = by (is_marked pids c.call.task.0) refl
        where
          is : is_marked pids c.call.task.0 ≡ is_allowed (desk job (desk_by (pids_stored h.p) h.d)) c.call.task.0
          is = ap (λ v. is_marked v c.call.task.0) limits.tasks ∙ mask-is (desk job (desk_by (pids_stored h.p) h.d)) (length job.tasks) c.call.task.0 few inside

          by : (b : Bool) → is_marked pids c.call.task.0 ≡ b → At (allowed_in b u reg (guard_test job c below u reg))
          by true e = guard_kept found (λ f. seen-desk (pids_stored h.p) (λ k. is_allowed (desk job k) c.call.task.0 ≡ true) (sym is ∙ e))
          by false e = dispatch_goes job h past ack q c below m (Refusing u reg ByPid) c.ran x watch (
            ran,
            before,
            found,
            (wants, seen-desk (pids_stored h.p) (λ k. is_allowed (desk job k) c.call.task.0 ≡ false) (sym is ∙ e)),
          )

      pub depth_kept : (pids depth : ℕ) → PidsAndDepth job h.d h.p pids depth → level_of below ≤ job.frames → Found job h q u reg c.func
          → PidSeen job h q u c.call.task.0 → GuardIs job c below false → has_depth (spec_at job u).kind ≡ true
          → At (depth_in (is_too_deep job.frames depth (level_of below)) u reg)
      depth_kept pids depth limits few found pid guard wants = by (nat_le job.frames (level_of below)) (depth == 0)
          (nat_le depth (level_of below)) refl refl refl
        where
          k : ℕ
          k = desk_by (depth_stored h.p) h.d

          level : depth ≡ (desk job (desk_by (depth_stored h.p) h.d)).depth
          level = limits.level

          by : (a z e : Bool) → nat_le job.frames (level_of below) ≡ a → (depth == 0) ≡ z → nat_le depth (level_of below) ≡ e
              → At (depth_in (a || (not z && e)) u reg)
          by true z e fa fz fe = dispatch_goes job h past ack q c below m (Refusing u reg ByDepth) c.ran x watch (
            ran,
            before,
            found,
            (pid, guard, wants, inl (let l : job.frames ≤ level_of below = grind (arith, nat_tests) in omega (arith, l, few))),
          )
          by false true e fa fz fe = dispatch_goes job h past ack q c below m (Calling u reg) c.ran x watch (
            ran,
            before,
            found,
            pid,
            guard,
            (λ w. (
              (let l : level_of below < job.frames = grind (arith, nat_tests) in l),
              seen-desk (depth_stored h.p) (λ i. ((desk job i).depth ≡ 0) ⊎ (level_of below < (desk job i).depth))
                  (inl (let y : depth ≡ 0 = grind (arith, nat_tests) in sym level ∙ y)),
            )),
          )
          by false false true fa fz fe = dispatch_goes job h past ack q c below m (Refusing u reg ByDepth) c.ran x watch (
            ran,
            before,
            found,
            (
              pid,
              guard,
              wants,
              inr (seen-desk (depth_stored h.p) (λ i. (0 < (desk job i).depth) × ((desk job i).depth ≤ level_of below))
                  (let y : 0 < depth = grind (arith, nat_tests) in let g : depth ≤ level_of below = grind (arith, nat_tests) in
                  ((omega (arith, y, level)), (omega (arith, g, level))))),
            ),
          )
          by false false false fa fz fe = dispatch_goes job h past ack q c below m (Calling u reg) c.ran x watch (
            ran,
            before,
            found,
            pid,
            guard,
            (λ w. (
              (let l : level_of below < job.frames = grind (arith, nat_tests) in l),
              seen-desk (depth_stored h.p) (λ i. ((desk job i).depth ≡ 0) ⊎ (level_of below < (desk job i).depth))
                  (inr (let y : level_of below < depth = grind (arith, nat_tests) in omega (arith, y, level))),
            )),
          )

      -- ## a user that is passed over, since it was off

      pub pass_kept : c.ran ≡ ByList → WasOff job c.call c.func u past → At (AtLink u)
      pass_kept is off =
          dispatch_goes job h past ack q c below m (AtLink u) c.ran x (subst (λ r. Comes (λ v. may_come_after since_now r u v)) (sym is) passed) (
            ran,
            subst (λ r. AfterVisit job h q r u ms) (sym is)
                (let b : BeforeVisit job h q ByList u ms = subst (λ r. BeforeVisit job h q r u ms) is before in
                (b.0, Each-weaker (λ y. since_now u < y.since) (λ y. since_now u ≤ y.since) ms (λ y l. omega (arith, l)) b.1)),
            is,
          )
        where
          n : ℕ
          n = list_desk h.p h.d

          low : (entry_of c.call past).from ≤ list_desk h.p h.d
          low = (let l = low-of m x in if_case (λ k. (entry_of c.call past).from ≤ k) (listed h.p) (suc h.d) h.d (λ e. omega (arith, l)) (λ e. l))

          up : list_desk h.p h.d ≤ begun past
          up = if_case (λ k. k ≤ begun past) (listed h.p) (suc h.d) h.d (λ e. begun-high job ok h past clock counts (listed-underway h.p e))
              (λ e. begun-low job ok h past clock counts)

          passed : Comes (λ v. nat_lt (since_now v) (since_now u))
          passed v un = elim ((subst (λ r. Comes (λ w. may_come_before since_now r u w)) is watch) v un) [
            | inr o ↦ inr o
            | inl t ↦ elim (cases_lt (since_now v) (since_now u)) [
              | inl l ↦ inl (grind (arith, nat_tests))
              | inr l ↦ (let le : since_now v ≤ since_now u = grind (arith, nat_tests) in same (omega (arith, le, l)))
            ]
          ]
            where
              same : since_now v ≡ since_now u → (nat_lt (since_now v) (since_now u) ≡ true) ⊎ WasOff job c.call c.func v past
              same e = by_reg (state_of job (list_desk h.p h.d) v).registered refl
                where
                  by_reg : (r : Bool) → (state_of job (list_desk h.p h.d) v).registered ≡ r
                      → (nat_lt (since_now v) (since_now u) ≡ true) ⊎ WasOff job c.call c.func v past
                  by_reg false r = inr (list_desk h.p h.d, low, up, (rw r refl))
                  by_reg true r = inr (let s : v ≡ u = since-unique job ok.job' (list_desk h.p h.d) v u
                      (since-positive job ok.job' (list_desk h.p h.d) v r) e in subst (λ y. WasOff job c.call c.func y past) (sym s) off)

      -- ## the three loads of a test

      -- the copy that is read now
      read-now : (copies : ℕ → ℕ) (bits : ℕ → ℕ → ℕ → ℕ → ℕ) (R : UserState → (ℕ → ℕ → ℕ) → Type 0) (copy : ℕ) → copy ≡ copies u
          → R (state_of job (desk_by (selected h.p) h.d) u) (bits u (copies u))
          → ReaderAt job h.d h.p h.request q copies bits u copy R
      read-now copies bits R copy e r = by_flag (selected h.p) refl
        where
          r' : R (state_of job (desk_by (selected h.p) h.d) u) (bits u copy)
          r' = subst (λ y. R (state_of job (desk_by (selected h.p) h.d) u) (bits u y)) (sym e) r

          by_flag : (b : Bool) → selected h.p ≡ b
              → SeenAt b (effect job h.d) h.p h.request q ((b ≡ false → copy ≡ copies u) × R (state_of job h.d u) (bits u copy))
              ((copy ≡ copies u) × R (state_of job (suc h.d) u) (bits u copy))
          by_flag false t = ((λ z. e), subst (λ b. R (state_of job (cond b (suc h.d) h.d) u) (bits u copy)) t r')
          by_flag true t = inl (e, subst (λ b. R (state_of job (cond b (suc h.d) h.d) u) (bits u copy)) t r')

      -- a user that is off at the desk of the states
      off-now : is_on (desk job (desk_by (selected h.p) h.d)) u c.func ≡ false → WasOff job c.call c.func u past
      off-now e = off-seen u (selected h.p) (selected-underway h.p) (low-of m x) (seen-desk (selected h.p) (λ k. is_on (desk job k) u c.func ≡ false) e)

      pub sel_kept : (sel : ℕ → ℕ) → HashCopies job h.d h.p h.copies sel h.bits → c.ran ≡ ByList → At (tests_in (sel_on (sel u)) (sel_empty (sel u)) u (sel u))
      sel_kept sel sets is = by (sel_on (sel u)) (sel_empty (sel u)) refl refl
        where
          s : UserState
          s = state_of job (desk_by (selected h.p) h.d) u

          by : (b e : Bool) → sel_on (sel u) ≡ b → sel_empty (sel u) ≡ e → At (tests_in b e u (sel u))
          by false e on empty = pass_kept is (off-now (test_off job s (sel u) (h.copies u) c.func (h.bits u) (sets.small u) (sets.sels u) on))
          by true true on empty =
              let t = test_on job s (sel u) (h.copies u) (h.bits u) (sets.small u) (sets.sels u) on in
              dispatch_goes job h past ack q c below m (TestNotrace u (sel_copy (sel u)) (high (sel u))) c.ran x watch (
                ran,
                before,
                is,
                read-now h.copies h.bits (InNotrace job (high (sel u)) c.func) (sel_copy (sel u)) t.0 (
                  t.1,
                  (let b : is_empty s.filter ≡ true = sym t.2 ∙ empty in (rw b refl)),
                ),
                omega arith,
              )
          by true false on empty =
              let t = test_on job s (sel u) (h.copies u) (h.bits u) (sets.small u) (sets.sels u) on in
              dispatch_goes job h past ack q c below m (TestFilter u (sel_copy (sel u)) (high (sel u))) c.ran x watch
              (ran, before, is, read-now h.copies h.bits (InFilter job (high (sel u))) (sel_copy (sel u)) t.0 (t.1, sym t.2 ∙ empty), omega arith)

      module _ (copy : ℕ) (inside : c.func < funcs job) where
        words : c.func / 64 < set_words job
        words = omega (arith, inside)

        abbrev Old : (UserState → (ℕ → ℕ → ℕ) → Type 0) → Type 0
        Old R = (selected h.p ≡ false → copy ≡ h.copies u) × R (state_of job h.d u) (h.bits u copy)

        abbrev New : (UserState → (ℕ → ℕ → ℕ) → Type 0) → Type 0
        New R = (copy ≡ h.copies u) × R (state_of job (suc h.d) u) (h.bits u copy)

        pub filter_kept : c.ran ≡ ByList → ReaderAt job h.d h.p h.request q h.copies h.bits u copy (InFilter job reg) → copy < 2
            → At (passes_in (is_marked (h.bits u copy 0 (c.func / 64)) c.func) u (TestNotrace u copy reg))
        filter_kept is r two = by (is_marked (h.bits u copy 0 (c.func / 64)) c.func) refl
          where
            by : (b : Bool) → is_marked (h.bits u copy 0 (c.func / 64)) c.func ≡ b → At (passes_in b u (TestNotrace u copy reg))
            by true t = dispatch_goes job h past ack q c below m (TestNotrace u copy reg) c.ran x watch (
              ran,
              before,
              is,
              seen_map (selected h.p) (effect job h.d) h.p h.request q (Old (InFilter job reg)) (New (InFilter job reg)) (Old (InNotrace job reg c.func))
                  (New (InNotrace job reg c.func))
                  (λ y. (y.0, (y.1.0, filter_in job (state_of job h.d u) (h.bits u copy) reg c.func words y.1.0 t)))
                  (λ y. (y.0, (y.1.0, filter_in job (state_of job (suc h.d) u) (h.bits u copy) reg c.func words y.1.0 t))) r,
              two,
            )
            by false t = pass_kept is (off-seen u (selected h.p) (selected-underway h.p) (low-of m x)
                (seen_map (selected h.p) (effect job h.d) h.p h.request q (Old (InFilter job reg)) (New (InFilter job reg)) (on_by (state_of job h.d u) c.func
                ≡ false) (on_by (state_of job (suc h.d) u) c.func ≡ false)
                (λ y. filter_out job (state_of job h.d u) (h.bits u copy) reg c.func words y.1.0 y.1.1 t)
                (λ y. filter_out job (state_of job (suc h.d) u) (h.bits u copy) reg c.func words y.1.0 y.1.1 t) r))

        pub notrace_kept : c.ran ≡ ByList → ReaderAt job h.d h.p h.request q h.copies h.bits u copy (InNotrace job reg c.func)
            → At (passes_in (not (is_marked (h.bits u copy 1 (c.func / 64)) c.func)) u (begin_call job c below u reg))
        notrace_kept is r = by (is_marked (h.bits u copy 1 (c.func / 64)) c.func) refl
          where
            by : (b : Bool) → is_marked (h.bits u copy 1 (c.func / 64)) c.func ≡ b → At (passes_in (not b) u (begin_call job c below u reg))
            by false t = begin_kept
                (seen_map (selected h.p) (effect job h.d) h.p h.request q (Old (InNotrace job reg c.func)) (New (InNotrace job reg c.func))
                ((on_by (state_of job h.d u) c.func ≡ true) × ((state_of job h.d u).reg ≡ reg)) ((on_by (state_of job (suc h.d) u) c.func ≡ true)
                × ((state_of job (suc h.d) u).reg ≡ reg))
                (λ y. (notrace_on job (state_of job h.d u) (h.bits u copy) reg c.func words y.1.0 y.1.1 t, y.1.0.number))
                (λ y. (notrace_on job (state_of job (suc h.d) u) (h.bits u copy) reg c.func words y.1.0 y.1.1 t, y.1.0.number)) r)
            by true t = pass_kept is (off-seen u (selected h.p) (selected-underway h.p) (low-of m x)
                (seen_map (selected h.p) (effect job h.d) h.p h.request q (Old (InNotrace job reg c.func)) (New (InNotrace job reg c.func))
                (on_by (state_of job h.d u) c.func ≡ false) (on_by (state_of job (suc h.d) u) c.func ≡ false)
                (λ y. notrace_off job (state_of job h.d u) (h.bits u copy) reg c.func words y.1.0 y.1.1 t)
                (λ y. notrace_off job (state_of job (suc h.d) u) (h.bits u copy) reg c.func words y.1.0 y.1.1 t) r))
