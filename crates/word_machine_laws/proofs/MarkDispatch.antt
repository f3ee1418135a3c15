-- The marks of a dispatch: a refusal, a callback, a miss, and the end of a callback.
use Rattle.std.proofs.Common.{cond, ◌≡◌, ℕ, suc, ◌<◌, ◌≤◌, Bool, true, false, not, ◌&&◌, ◌||◌, ◌==◌, nat_lt, nat_le, List, [], ◌∷◌, length, Option, Some, None, IsSome, refl, sym, ap, ◌∙◌, subst, arith, inl, inr, ltb-true, leb-true, leb-false}
use Rattle.std.specs.Prelude.{◌⊎◌}
use Rattle.std.proofs.lemmas.Bool.{lt-ltb}
use Rattle.std.proofs.lemmas.Bool.Decides.{eqb_tells}
use Rattle.std.specs.List.{AllByRecursion as Each}
use Rattle.ft_base.specs.declared.number.CallNo.{CallNo}
use Rattle.ft_base.specs.declared.context.Ctx.{Ctx}
use Rattle.ft_base.specs.declared.item.Item.{Item}
use Rattle.ft_base.specs.declared.item.Item.TheVariants.{Back, BackEnd, Refuse, Miss}
use Rattle.ft_base.specs.declared.item.Reason.{Reason}
use Rattle.ft_base.specs.declared.item.Reason.TheVariants.{Pid as ByPid, Recursion, Depth as ByDepth}
use Rattle.ft_base.specs.declared.item.Ran.{Ran}
use Rattle.ft_base.specs.declared.item.Ran.TheVariants.{Nop, List as ByList, Own}
use Rattle.ft_base.specs.declared.task.TaskAct.{TaskAct}
use Rattle.ft_base.specs.Same.{same_call}
use Rattle.ft_base.specs.Job.{Job}
use Rattle.ft_base.specs.Versions.{levels}
use Rattle.ft_base.specs.Desk.{desk, spec_at, is_allowed, is_on}
use Rattle.ft_base.specs.Kinds.{has_depth, has_exit}
use Rattle.ft_base.specs.Order.{IsOrder}
use Rattle.ft_base.proofs.Small.{false_true, ==-refl, and_both, Each-weaker, full}
use Rattle.ft_hist.specs.Past.{done, begun, Entered, entered, entry_of, Callback, callbacks, ended, open_callbacks, all_visits, visit, Visit, visits, held}
use Rattle.ft_hist.specs.Plain.{plain, after_item, PlainTask, Frame, Phase, Dispatch, InBack, Owed, owed_by}
use Rattle.ft_hist.specs.Rules.{IsLegalPast, MayFollow, MayVisit, MayRefuse, IsFree, PassesPid, PassesAll}
use Rattle.ft_hist.proofs.Laws.{same_call-refl}
use Rattle.ft_hist.proofs.WindowLaws.{begun-more, InWindow-more, visits-more}
use Rattle.ft_hist.specs.Known.{holds}
use Rattle.ft_hist.proofs.Since.{untouched-item, touches, holds-by}
use Rattle.ft_hist.specs.Dispatch.{Walk, Around, takes_frame, misses_frame, held_levels, joined, CallSo}
use Rattle.ft_hist.proofs.CallSo.{so-untouched, so-refused, so-called, visits-refuse, visits-back, entry-is}
use Rattle.word_map.specs.Contents.{low}
use Rattle.word_machine.specs.Task.{OpenCall, TaskState, Moment, Refusing, Calling, Missing, Acting, Ending, AtLink, Closing, is_quiet, around, level_of, after_user, called_back, act_in, miss_in}
use Rattle.word_machine.specs.Progress.{SeenAt, underway, selected, pids_stored, depth_stored}
use Rattle.word_machine.specs.Commands.{effect, state_of}
use Rattle.word_machine.specs.UserList.{since_of, list_desk}
use Rattle.word_machine.specs.Verdicts.{Here, SeenVisit, may_come_before, may_come_after, Found, Dispatches, DispatchAt, RanIs, BeforeVisit, AfterVisit, Walks, ReasonAt, PidSeen, LevelSeen, GuardIs, may_come, walk_of}
use Rattle.word_machine.specs.Calls.{CallAt, Calls, under_call}
use Rattle.word_machine.specs.Tasks.{TaskRule, plain_stack, plain_phase, frame_of, callbacks_at, callback_at, miss_at, is_returning, with_callback, open_by}
use Rattle.word_machine.specs.Rule.{Counts, IsWordJob}
use Rattle.word_machine_laws.proofs.OtherItems.{calls_carried, opened_carried}
use Rattle.word_machine_laws.proofs.Stacks.{calls_of, opens-of, older_untouched, held-level, levels-are}
use Rattle.word_machine_laws.proofs.VerdictLaws.{either_of, selected-underway, pids-underway, depth-underway}
use Rattle.word_machine_laws.proofs.DeskChanges.{since-unique, numbers-kept}
use Rattle.word_machine_laws.proofs.Visiting.{may_meet, walk-since, read-numbers, read-reg}
use Rattle.word_machine_laws.proofs.Marks.{follows, mid_kept}
use Rattle.ft_hist.proofs.Carries.{of_task}
use Rattle.ft_hist.proofs.ItemParts.{of_visit, of_exits}

-- a call in its dispatch holds a frame if its walk says so
pub so-holds : (job : Job) (a : Around) (call : CallNo) (e : Entered) (w : Walk) (todo : ℕ → Bool) (past : List Item) → CallSo job a call e w todo past
    → holds job past call ≡ w.framed
so-holds job a call e w todo past so = holds-by job past call ∙ rw (so.opened, so.undone) so.framed

pub so-few : (job : Job) (c : OpenCall) (below : List OpenCall) (e : Entered) (todo : ℕ → Bool) (past : List Item)
    → CallSo job (around c below) c.call e (walk_of c) todo past
    → level_of below ≤ job.frames → level_of (c ∷ below) ≤ job.frames
so-few job c below e todo past so few =
    elim c.framed as (λ b. c.framed ≡ b → cond b (suc (level_of below)) (level_of below) ≤ job.frames)
    [ true ↦ λ x. (let lt = so.room x in omega arith) | false ↦ λ x. few ] refl

pub few-below : (job : Job) (c : OpenCall) (below : List OpenCall) → level_of (c ∷ below) ≤ job.frames → level_of below ≤ job.frames
few-below job c below few =
    elim c.framed as (λ b. cond b (suc (level_of below)) (level_of below) ≤ job.frames → level_of below ≤ job.frames)
    [ true ↦ λ x. omega arith | false ↦ λ x. x ] few

-- the task's latest callback ends
pub ended-own : (call : CallNo) (u : ℕ) (bs : List Callback) → of_task call.task.0 (ended call u bs) ≡ ended call u (of_task call.task.0 bs)
ended-own call u [] = refl
ended-own call u (b ∷ bs) =
    elim (b.call.task.0 == call.task.0) as (λ x. (b.call.task.0 == call.task.0) ≡ x
    → of_task call.task.0 (cond ((x && (b.call.n == call.n)) && (b.user == u)) bs (b ∷ ended call u bs))
    ≡ ended call u (cond x (b ∷ of_task call.task.0 bs) (of_task call.task.0 bs))) [
      | false ↦ λ e. rw e (ended-own call u bs)
      | true ↦ λ e. rw e (elim ((b.call.n == call.n) && (b.user == u)) as (λ y. of_task call.task.0 (cond y bs (b ∷ ended call u bs))
          ≡ cond y (of_task call.task.0 bs) (b ∷ ended call u (of_task call.task.0 bs))) [
            | true ↦ refl
            | false ↦ rw e (ap (λ (xs : List Callback). b ∷ xs) (ended-own call u bs))
          ])
    ] refl

abbrev pub task : ℕ → ℕ → List TaskAct → List Ctx → List OpenCall → ℕ → Moment → TaskState
task n gone acts cs stack w m = record { next = n; acts = acts; gone = gone; contexts = cs; stack = stack; word = w; moment = m }

module _ (job : Job) (ok : IsWordJob job) (h : Here) (ack word clock : ℕ) (past : List Item) (counts : Counts h.d h.p clock past) (legal : IsLegalPast job past)
    (runs : (t : ℕ) → IsSome (plain job t past)) (ord : IsOrder (desk job (list_desk h.p h.d)) (list_desk h.p h.d) h.order) where
  abbrev q : ℕ
  q = low word

  abbrev since : ℕ → ℕ
  since u = since_of job (list_desk h.p h.d) u

  -- an item of a task may come, and the task goes on
  abbrev pub Row : Item → ℕ → TaskState → Type 0
  Row item t x = MayFollow job past item × TaskRule job h (item ∷ past) ack word t x

  -- what is known of a user that was found on goes into its visit
  seen-visit : (call : CallNo) (u reg f : ℕ) (back : Bool) → Found job h q u reg f → SeenVisit job h q (visit job call u past (all_visits job past) back) f
  seen-visit call u reg f back x = by_flag (selected h.p) refl x
    where
      m : Visit
      m = visit job call u past (all_visits job past) back

      old_since : is_on (desk job h.d) u f ≡ true → since_of job h.d u ≡ since_of job (begun past) u
      old_since e = rw counts.started (by_under (underway h.p))
        where
          by_under : (b : Bool) → since_of job h.d u ≡ since_of job (cond b (suc h.d) h.d) u
          by_under true = sym (numbers-kept job ok.job' h.d u (and_both _ _ (and_both _ _ e).0).0).0
          by_under false = refl

      read : since_of job (begun past) u ≡ m.since
      read = sym (read-numbers job ok h q clock past counts legal ord call u).0

      by_flag : (b : Bool) → selected h.p ≡ b
          → SeenAt b (effect job h.d) h.p h.request q ((is_on (desk job h.d) u f ≡ true) × ((state_of job h.d u).reg ≡ reg))
          ((is_on (desk job (suc h.d)) u f ≡ true) × ((state_of job (suc h.d) u).reg ≡ reg))
          → SeenAt b (effect job h.d) h.p h.request q ((is_on (desk job h.d) u f ≡ true) × (since_of job h.d u ≡ m.since))
          ((is_on (desk job (suc h.d)) u f ≡ true) × (since_of job (suc h.d) u ≡ m.since))
      by_flag false e y = (y.0, old_since y.0 ∙ read)
      by_flag true e (inl y) = inl (y.0, ap (λ (k : ℕ). since_of job k u) (sym (counts.started ∙ rw (selected-underway h.p e) refl)) ∙ read)
      by_flag true e (inr y) = inr (y.0, y.1, (y.2.0, old_since y.2.0 ∙ read))

  -- the user is no longer to come
  takes_list : (u v : ℕ) → Walks job h q u → (u == v) ≡ false → nat_le (since v) (since u) ≡ true → nat_lt (since v) (since u) ≡ true
  takes_list u v w ne le =
      elim (eqb_tells (since v) (since u)) [
        | inl e ↦ (let s = walk-since job ok h q clock past counts legal ord u w in
            let same : u ≡ v = since-unique job ok.job' (list_desk h.p h.d) u v s.0 (sym e.1) in
            false_true (sym (rw same at ne) ∙ ==-refl v))
        | inr e ↦ lt-ltb (since v) (since u) (let l : since v ≤ since u = leb-true (since v) (since u) le in let d = e.1 in omega (arith, l, d))
      ]

  ne_own : (u v w : ℕ) → u ≡ w → (u == v) ≡ false → not (v == w) ≡ true
  ne_own u v w e ne = elim (eqb_tells v w) [ inl x ↦ false_true (sym ne ∙ rw (e, sym x.1) (==-refl v)) | inr x ↦ rw x.0 refl ]

  -- after the visit of a user
  after_more : (r : Ran) (u : ℕ) (ms : List Visit) (m : Visit) → m.user ≡ u → (Walks job h q u → m.since ≡ since u) → BeforeVisit job h q r u ms
      → AfterVisit job h q r u (m ∷ ms)
  after_more ByList u ms m own num b = (
    b.0,
    (let e = num b.0 in (omega (arith, e), Each-weaker (λ x. since u < x.since) (λ x. since u ≤ x.since) ms (λ x lt. omega (arith, lt)) b.1)),
  )
  after_more (Own w) u ms m own num b = (b.0, (own, rw b.1 tt))
  after_more Nop u ms m own num b = absurd b

  meeting-since : (call : CallNo) (u : ℕ) (back : Bool) → Walks job h q u → (visit job call u past (all_visits job past) back).since ≡ since u
  meeting-since call u back w = (read-numbers job ok h q clock past counts legal ord call u).0 ∙ (walk-since job ok h q clock past counts legal ord u w).1

  passes_pid : (call : CallNo) (u : ℕ) → PidSeen job h q u call.task.0 → PassesPid job past call u
  passes_pid call u x e = either_of job h q clock past (pids_stored h.p) (λ k. is_allowed (desk job k) call.task.0 ≡ true) counts (pids-underway h.p) (x e)

  module _ (n gone : ℕ) (acts : List TaskAct) (cs : List Ctx) (w : ℕ) (c : OpenCall) (below : List OpenCall) where
    abbrev t : ℕ
    t = c.call.task.0

    module _ (m : Moment) (k : TaskRule job h past ack word c.call.task.0 (task n gone acts cs (c ∷ below) w m)) where
      level-is : held job c.call past ≡ level_of below
      level-is = held-level job h past ack q (task n gone acts cs (c ∷ below) w m) c below (under_call c below) k.run refl k.calls.2

      elders : Each (λ d. d.n < c.call.n) (calls_of below)
      elders = (opens-of job past c.call.task.0 (task n gone acts cs (c ∷ below) w m) k.run).falls.0

      below-on : (item : Item) → ((d : CallNo) → same_call c.call d ≡ false → touches d item ≡ false)
          → Calls job h (item ∷ past) ack q c.call.task.0 (under_call c below) below
      below-on item touch = calls_carried job h past (item ∷ past) (begun-more item past) (omega arith) ack q c.call.task.0 (under_call c below) below
          (older_untouched job past c.call item below touch elders) k.calls.2

      the_guard : of_task c.call.task.0 (callbacks past) ≡ callbacks_at (under_call c below) below → (e : Entered) → entered c.call past ≡ Some e
          → e.ctx ≡ c.ctx
          → open_callbacks c.call.task.0 (entry_of c.call past).ctx past ≡ held_levels (around c below).guards c.ctx
      the_guard none e known same = rw (entry-is job (around c below) c.call e past known, same) (levels-are past c.call.task.0 c below c.ctx none)

    -- a level of the guard is free
    is_free : GuardIs job c below false → open_callbacks t (entry_of c.call past).ctx past ≡ held_levels (around c below).guards c.ctx → IsFree job past c.call
    is_free free guard = subst (λ n. n < levels job) (sym guard) (leb-false (levels job) (held_levels (around c below).guards c.ctx) free)

    -- why a user is refused
    may_refuse : (u : ℕ) (reason : Reason) → ReasonAt job h q c below u reason → open_callbacks t (entry_of c.call past).ctx past
        ≡ held_levels (around c below).guards c.ctx → held job c.call past ≡ level_of below
        → MayRefuse job past c.call u reason
    may_refuse u ByPid x guard level = (
      x.0,
      either_of job h q clock past (pids_stored h.p) (λ k. is_allowed (desk job k) t ≡ false) counts (pids-underway h.p) x.1,
    )
    may_refuse u Recursion x guard level = (
      passes_pid c.call u x.0,
      subst (λ n. levels job ≤ n) (sym guard) (leb-true (levels job) (held_levels (around c below).guards c.ctx) x.1),
    )
    may_refuse u ByDepth x guard level = (
      passes_pid c.call u x.0,
      is_free x.1 guard,
      x.2,
      elim x.3 [
        | inl y ↦ inl (level ∙ y)
        | inr y ↦ inr (rw level (either_of job h q clock past (depth_stored h.p) (λ k. (0 < (desk job k).depth)
            × ((desk job k).depth ≤ level_of below)) counts (depth-underway h.p) y))
      ],
    )

    may_back : (u : ℕ) → PidSeen job h q u t → GuardIs job c below false → LevelSeen job h q u (level_of below)
        → open_callbacks t (entry_of c.call past).ctx past ≡ held_levels (around c below).guards c.ctx → held job c.call past ≡ level_of below
        → PassesAll job past c.call u
    may_back u pid free room guard level = record {
      pid = passes_pid c.call u pid;
      free = is_free free guard;
      room = λ e. rw level (room e).0;
      level = λ e. rw level (either_of job h q clock past (depth_stored h.p) (λ k. ((desk job k).depth ≡ 0) ⊎ (level_of below < (desk job k).depth)) counts
          (depth-underway h.p) (room e).1);
    }

    -- ## a refusal

    reads-refuse : (d : ℕ) (at : PlainTask) (below' : List Frame) (u : ℕ) (r : Reason) → at.stack ≡ frame_of c Dispatch ∷ below'
        → after_item job d at (Refuse c.call (record { 0 = u }) r) ≡ Some at
    unfolding after_item
    reads-refuse d at below' u r st = rw (st, same_call-refl c.call) refl

    module _ (u reg : ℕ) (reason : Reason) (m' : Moment)
        (k : TaskRule job h past ack word c.call.task.0 (task n gone acts cs (c ∷ below) w (Refusing u reg reason)))
        (quiet : is_quiet m' ≡ false) (stays : is_returning m' ≡ false) (phase : (fresh : Bool) → plain_phase job fresh c m' ≡ Dispatch)
        (none : (rest : List Callback) → callback_at c m' rest ≡ rest) (no_miss : miss_at m' (c ∷ below) ≡ None)
        (takes : BeforeVisit job h q c.ran u (visits job c.call past) → (v : ℕ) → (u == v) ≡ false → may_come since c.ran (Refusing u reg reason) v ≡ true
        → may_come since c.ran m' v ≡ true)
        (at_of : (past' : List Item) (ms : List Visit) → RanIs job past' c → AfterVisit job h q c.ran u ms → DispatchAt job h past' ack q c below ms m')
        (call_of : (past' : List Item) → Dispatches job h past' ack q c below m' → CallAt job h past' ack q c below m') where
      refused_to : Row (Refuse c.call (record { 0 = u }) reason) c.call.task.0 (task n gone acts cs (c ∷ below) w m')
      unfolding all_visits
      refused_to =
          let x : TaskState = task n gone acts cs (c ∷ below) w (Refusing u reg reason) in
          let d : Dispatches job h past ack q c below (Refusing u reg reason) = k.calls.1 in
          let e : Entered = record { ctx = c.ctx; func = c.func; caller = d.caller; from = d.from } in
          let item : Item = Refuse c.call (record { 0 = u }) reason in
          let known : entry_of c.call past ≡ e = entry-is job (around c below) c.call e past d.so.known in
          let may : MayVisit job past c.call u =
          may_meet job ok h q clock past counts legal ord c.ran c.call u reg c.func (ap (λ (y : Entered). y.func) known) d.at.2 d.at.1 in
          let level = level-is (Refusing u reg reason) k in
          let guard = the_guard (Refusing u reg reason) k k.opens e d.so.known refl in
          let f = follows job past item t k.run.at k.run.at (λ v. refl) runs k.run.is
          (reads-refuse (done past) k.run.at (plain_stack job false (under_call c below) below) u reason k.run.stack)
          (of_visit may (may_refuse u reason d.at.3 guard level) k.miss) in
          let so = so-refused job (around c below) c.call e (walk_of c) u (may_come since c.ran (Refusing u reg reason)) (may_come since c.ran m') past may.order
          (takes d.at.1) d.so reason in
          let more = visits-refuse job (around c below) c.call e u past reason in
          let ranis : RanIs job (item ∷ past) c = InWindow-more c.call item past _ refl d.at.0 in
          let after : AfterVisit job h q c.ran u (visits job c.call (item ∷ past)) = subst (λ (ms : List Visit). AfterVisit job h q c.ran u ms) (sym more)
          (after_more c.ran u (visits job c.call past) (visit job c.call u past (all_visits job past) false) refl (meeting-since c.call u false) d.at.1) in
          let dispatch : Dispatches job h (item ∷ past) ack q c below m' = record {
            from = d.from;
            caller = d.caller;
            early = d.early;
            so = so;
            on = rw more (seen-visit c.call u reg c.func false d.at.2, d.on);
            at = at_of (item ∷ past) (visits job c.call (item ∷ past)) ranis after;
          } in (
            f.0,
            mid_kept job h ack word t past (item ∷ past) n n gone acts cs w (c ∷ below)
                (Refusing u reg reason) m' c below refl quiet k k.run.fresh k.run.at f.1 k.run.next
                (k.run.stack ∙ ap (λ (p : Phase). frame_of c p ∷ plain_stack job false (under_call c below) below)
                (sym (phase k.run.fresh))) refl refl refl refl
                (k.opens ∙ sym (none _)) (rw (==-refl t) (sym no_miss)) k.few (ap (λ (b : Bool). open_by b (c ∷ below)) stays) k.grounded (
                  record {
                    task = refl;
                    inside = k.calls.0.inside;
                    opened = so.opened;
                    context = k.calls.0.context;
                    holds = so-holds job (around c below) c.call e (walk_of c) (may_come since c.ran m') (item ∷ past) so;
                  },
                  call_of (item ∷ past) dispatch,
                  below-on (Refusing u reg reason) k item (λ d' e'. e'),
                ),
          )

    -- ## a callback

    reads-back : (d : ℕ) (at : PlainTask) (below' : List Frame) (u : ℕ) → at.stack ≡ frame_of c Dispatch ∷ below'
        → after_item job d at (Back c.call (record { 0 = u }))
        ≡ Some (record at { stack = frame_of c (InBack u (owed_by c.ctx (spec_at job u).act) true) ∷ below' })
    unfolding after_item
    reads-back d at below' u st = rw (st, same_call-refl c.call) refl

    reads-miss : (d : ℕ) (at : PlainTask) (below' : List Frame) (u : ℕ) (o : Option Owed) → at.stack ≡ frame_of c (InBack u o true) ∷ below'
        → after_item job d at (Miss c.call (record { 0 = u })) ≡ Some (record at { stack = frame_of c (InBack u o false) ∷ below' })
    unfolding after_item
    reads-miss d at below' u o st = rw (st, same_call-refl c.call, ==-refl u) refl

    reads-back_end : (d : ℕ) (at : PlainTask) (below' : List Frame) (u : ℕ) (fresh : Bool) → at.stack ≡ frame_of c (InBack u None fresh) ∷ below'
        → after_item job d at (BackEnd c.call (record { 0 = u })) ≡ Some (record at { stack = frame_of c Dispatch ∷ below' })
    unfolding after_item
    reads-back_end d at below' u fresh st = rw (st, same_call-refl c.call, ==-refl u) refl

    takes_after : (r : Ran) (u : ℕ) (ms : List Visit) → BeforeVisit job h q r u ms → (v : ℕ) → (u == v) ≡ false → may_come_before since r u v ≡ true
        → may_come_after since r u v ≡ true
    takes_after ByList u ms b v ne le = takes_list u v b.0 ne le
    takes_after (Own w') u ms b v ne le = ne_own u v w'.0 b.0 ne
    takes_after Nop u ms b v ne le = absurd b

    place-is : low clock ≡ length past
    place-is = let e = counts.clock' in let r = counts.room in omega (arith, e, r)

    abbrev backed' : ℕ → ℕ → OpenCall
    backed' u reg = called_back job c below u reg (low clock)

    abbrev misses' : ℕ → Bool
    misses' u = misses_frame job (around c below) u

    abbrev owed' : ℕ → Option Owed
    owed' u = owed_by c.ctx (spec_at job u).act

    takes-room : (u : ℕ) → LevelSeen job h q u (level_of below) → takes_frame job (around c below) u ≡ true → level_of below < job.frames
    takes-room u room t' =
        elim (has_depth (spec_at job u).kind) as (λ x. has_depth (spec_at job u).kind ≡ x
        → (x || (has_exit (spec_at job u).kind && nat_lt (level_of below) job.frames)) ≡ true → level_of below < job.frames) [
          | true ↦ λ y z. (room y).0
          | false ↦ λ y z. ltb-true (level_of below) job.frames (and_both (has_exit (spec_at job u).kind) _ z).1
        ] refl t'

    module _ (u reg : ℕ) (m' : Moment) (k : TaskRule job h past ack word c.call.task.0 (task n gone acts cs (c ∷ below) w (Calling u reg)))
        (quiet : is_quiet m' ≡ false) (stays : is_returning m' ≡ false) (phase : plain_phase job true (backed' u reg) m' ≡ InBack u (owed' u) true)
        (own : (rest : List Callback) → callback_at (backed' u reg) m' rest ≡ with_callback c u rest)
        (miss : miss_at m' (backed' u reg ∷ below) ≡ cond (misses' u) (Some (record { call = c.call; user = u; ctx = None })) None)
        (watch : (v : ℕ) → may_come_after since c.ran u v ≡ may_come since c.ran m' v)
        (at_of : (past' : List Item) (ms : List Visit) → RanIs job past' c → AfterVisit job h q c.ran u ms
        → DispatchAt job h past' ack q (backed' u reg) below ms m')
        (call_of : (past' : List Item) → Dispatches job h past' ack q (backed' u reg) below m' → CallAt job h past' ack q (backed' u reg) below m') where
      back_to : Row (Back c.call (record { 0 = u })) c.call.task.0 (task n gone acts cs (backed' u reg ∷ below) w m')
      unfolding all_visits
      back_to =
          let x : TaskState = task n gone acts cs (c ∷ below) w (Calling u reg) in
          let c' : OpenCall = backed' u reg in
          let d : Dispatches job h past ack q c below (Calling u reg) = k.calls.1 in
          let e : Entered = record { ctx = c.ctx; func = c.func; caller = d.caller; from = d.from } in
          let item : Item = Back c.call (record { 0 = u }) in
          let known : entry_of c.call past ≡ e = entry-is job (around c below) c.call e past d.so.known in
          let may : MayVisit job past c.call u =
          may_meet job ok h q clock past counts legal ord c.ran c.call u reg c.func (ap (λ (y : Entered). y.func) known) d.at.2 d.at.1 in
          let level = level-is (Calling u reg) k in
          let guard = the_guard (Calling u reg) k k.opens e d.so.known refl in
          let few : level_of below ≤ job.frames = few-below job c below k.few in
          let under : List Frame = plain_stack job false (under_call c below) below in
          let at : PlainTask = record k.run.at { stack = frame_of c (InBack u (owed' u) true) ∷ under } in
          let f = follows job past item t k.run.at at (λ v. refl) runs k.run.is (reads-back (done past) k.run.at under u k.run.stack)
          (of_visit may (may_back u d.at.3 d.at.4 d.at.5 guard level) k.miss) in
          let of_reg = read-reg job ok h q clock past counts legal ord c.call u reg c.func d.at.2 in
          let so = so-called job (around c below) c.call e (walk_of c) u (may_come since c.ran (Calling u reg)) (may_come since c.ran m') past may.order
          (λ v ne le. sym (watch v) ∙ takes_after c.ran u (visits job c.call past) d.at.1 v ne le) d.so level (takes-room u d.at.5) reg of_reg
          (walk_of c') refl refl
          (ap (λ (p : ℕ). joined job (around c below) u reg p c.users) place-is) in
          let more = visits-back job (around c below) c.call e u past in
          let ranis : RanIs job (item ∷ past) c = InWindow-more c.call item past _ refl d.at.0 in
          let after : AfterVisit job h q c.ran u (visits job c.call (item ∷ past)) = subst (λ (ms : List Visit). AfterVisit job h q c.ran u ms) (sym more)
          (after_more c.ran u (visits job c.call past) (visit job c.call u past (all_visits job past) true) refl (meeting-since c.call u true) d.at.1) in
          let dispatch : Dispatches job h (item ∷ past) ack q c' below m' = record {
            from = d.from;
            caller = d.caller;
            early = d.early;
            so = so;
            on = rw more (seen-visit c.call u reg c.func true d.at.2, d.on);
            at = at_of (item ∷ past) (visits job c.call (item ∷ past)) ranis after;
          } in (
            f.0,
            mid_kept job h ack word t past (item ∷ past) n n gone acts cs w (c ∷ below) (Calling u reg) m' c' below refl quiet k true at f.1 k.run.next
                (ap (λ (p : Phase). frame_of c p ∷ under) (sym phase)) refl refl refl refl
                (rw (==-refl t, d.so.known) (ap (λ (bs : List Callback). with_callback c u bs) k.opens) ∙ sym (own _))
                (rw (==-refl t, level, full (level_of below) job.frames few) (sym miss))
                (so-few job c' below e (may_come since c.ran m') (item ∷ past) so few) (ap (λ (b : Bool). open_by b (c' ∷ below)) stays) k.grounded (
                  record {
                    task = refl;
                    inside = k.calls.0.inside;
                    opened = so.opened;
                    context = k.calls.0.context;
                    holds = so-holds job (around c below) c.call e (walk_of c') (may_come since c.ran m') (item ∷ past) so;
                  },
                  call_of (item ∷ past) dispatch,
                  below-on (Calling u reg) k item (λ d' e'. e'),
                ),
          )

    pub back_row : (u reg : ℕ) → TaskRule job h past ack word c.call.task.0 (task n gone acts cs (c ∷ below) w (Calling u reg))
        → Row (Back c.call (record { 0 = u })) c.call.task.0 (task n gone acts cs (backed' u reg ∷ below) w (miss_in (misses' u) u (act_in (owed' u) u)))
    back_row u reg k = by_miss (misses' u) refl
      where
        by_act : (o : Option Owed) → owed' u ≡ o → misses' u ≡ false
            → Row (Back c.call (record { 0 = u })) c.call.task.0 (task n gone acts cs (backed' u reg ∷ below) w (act_in o u))
        by_act None e f = back_to u reg (Ending u) k refl refl (rw e refl) (λ rest. refl) (rw f refl) (λ v. refl) (λ past' ms ranis b. (ranis, b))
            (λ past' d. d)
        by_act (Some o) e f = back_to u reg (Acting u o) k refl refl (rw e refl) (λ rest. refl) (rw f refl) (λ v. refl) (λ past' ms ranis b. (ranis, b, e))
            (λ past' d. d)

        by_miss : (b : Bool) → misses' u ≡ b
            → Row (Back c.call (record { 0 = u })) c.call.task.0 (task n gone acts cs (backed' u reg ∷ below) w (miss_in b u (act_in (owed' u) u)))
        by_miss true e = back_to u reg (Missing u) k refl refl refl (λ rest. refl) (rw e refl) (λ v. refl) (λ past' ms ranis b. (ranis, b, e)) (λ past' d. d)
        by_miss false e = by_act (owed' u) refl e

    -- ## a step of the top call that says nothing of its visits

    module _ (m m' : Moment) (c' : OpenCall) (item : Item) (k : TaskRule job h past ack word c.call.task.0 (task n gone acts cs (c ∷ below) w m)) where
      -- the dispatch goes on over an item that does not touch the call
      dispatch_on : touches c.call item ≡ false → (d : Dispatches job h past ack q c below m)
          → (todo : (v : ℕ) → may_come since c.ran m v ≡ may_come since c.ran m' v)
          → DispatchAt job h (item ∷ past) ack q c below (visits job c.call (item ∷ past)) m' → Dispatches job h (item ∷ past) ack q c below m'
      dispatch_on touch d todo at =
          let u = untouched-item job c.call past item touch in
          let so = so-untouched job (around c below) c.call _ (walk_of c) (may_come since c.ran m) past (item ∷ past) u (begun-more item past)
          (omega arith) d.so in
          record {
            from = d.from;
            caller = d.caller;
            early = d.early;
            so = record {
              known = so.known;
              opened = so.opened;
              undone = so.undone;
              unexited = so.unexited;
              sinks = so.sinks;
              watch = λ v un. (elim (so.watch v un) [ inl y ↦ inl (sym (todo v) ∙ y) | inr y ↦ inr y ]);
              runs = so.runs;
              framed = so.framed;
              frame = so.frame;
              places = so.places;
              room = so.room;
            };
            on = rw u.visits d.on;
            at = at;
          }

    -- ## a miss

    module _ (u : ℕ) (m' : Moment) (k : TaskRule job h past ack word c.call.task.0 (task n gone acts cs (c ∷ below) w (Missing u)))
        (quiet : is_quiet m' ≡ false) (stays : is_returning m' ≡ false) (phase : plain_phase job false c m' ≡ InBack u (owed' u) false)
        (own : (rest : List Callback) → callback_at c m' rest ≡ with_callback c u rest) (miss : miss_at m' (c ∷ below) ≡ None)
        (watch : (v : ℕ) → may_come_after since c.ran u v ≡ may_come since c.ran m' v)
        (at_of : (past' : List Item) (ms : List Visit) → RanIs job past' c → AfterVisit job h q c.ran u ms → DispatchAt job h past' ack q c below ms m')
        (call_of : (past' : List Item) → Dispatches job h past' ack q c below m' → CallAt job h past' ack q c below m') where
      miss_to : Row (Miss c.call (record { 0 = u })) c.call.task.0 (task n gone acts cs (c ∷ below) w m')
      miss_to =
          let d : Dispatches job h past ack q c below (Missing u) = k.calls.1 in
          let item : Item = Miss c.call (record { 0 = u }) in
          let under : List Frame = plain_stack job false (under_call c below) below in
          let at : PlainTask = record k.run.at { stack = frame_of c (InBack u (owed' u) false) ∷ under } in
          let f = follows job past item t k.run.at at (λ v. refl) runs k.run.is (reads-miss (done past) k.run.at under u (owed' u) k.run.stack)
          (of_exits (rw k.miss ((refl, refl), refl))) in
          let same : visits job c.call (item ∷ past) ≡ visits job c.call past = visits-more job c.call item past refl in
          let ranis : RanIs job (item ∷ past) c = InWindow-more c.call item past _ refl d.at.0 in
          let dispatch = dispatch_on (Missing u) m' c item k refl d (λ v. watch v)
          (subst (λ (ms : List Visit). DispatchAt job h (item ∷ past) ack q c below ms m') (sym same)
          (at_of (item ∷ past) (visits job c.call past) ranis d.at.1)) in (
            f.0,
            mid_kept job h ack word t past (item ∷ past) n n gone acts cs w (c ∷ below) (Missing u) m' c below refl quiet k false at f.1 k.run.next
                (ap (λ (p : Phase). frame_of c p ∷ under) (sym phase)) refl refl refl refl
                (k.opens ∙ sym (own _)) (rw (==-refl t) (sym miss)) k.few (ap (λ (b : Bool). open_by b (c ∷ below)) stays) k.grounded (
                  opened_carried job h past (item ∷ past) (begun-more item past) (omega arith) t c (untouched-item job c.call past item refl) k.calls.0,
                  call_of (item ∷ past) dispatch,
                  below-on (Missing u) k item (λ d' e'. refl),
                ),
          )

    pub miss_row : (u : ℕ) → TaskRule job h past ack word c.call.task.0 (task n gone acts cs (c ∷ below) w (Missing u))
        → Row (Miss c.call (record { 0 = u })) c.call.task.0 (task n gone acts cs (c ∷ below) w (act_in (owed' u) u))
    miss_row u k = by_act (owed' u) refl
      where
        by_act : (o : Option Owed) → owed' u ≡ o → Row (Miss c.call (record { 0 = u })) c.call.task.0 (task n gone acts cs (c ∷ below) w (act_in o u))
        by_act None e = miss_to u (Ending u) k refl refl (rw e refl) (λ rest. refl) refl (λ v. refl) (λ past' ms ranis b. (ranis, b)) (λ past' d. d)
        by_act (Some o) e = miss_to u (Acting u o) k refl refl (rw e refl) (λ rest. refl) refl (λ v. refl) (λ past' ms ranis b. (ranis, b, e)) (λ past' d. d)

    -- ## the end of a callback

    module _ (u : ℕ) (m' : Moment) (k : TaskRule job h past ack word c.call.task.0 (task n gone acts cs (c ∷ below) w (Ending u)))
        (quiet : is_quiet m' ≡ false) (stays : is_returning m' ≡ false) (phase : (fresh : Bool) → plain_phase job fresh c m' ≡ Dispatch)
        (none : (rest : List Callback) → callback_at c m' rest ≡ rest) (miss : miss_at m' (c ∷ below) ≡ None)
        (watch : (v : ℕ) → may_come_after since c.ran u v ≡ may_come since c.ran m' v)
        (at_of : (past' : List Item) (ms : List Visit) → RanIs job past' c → AfterVisit job h q c.ran u ms → DispatchAt job h past' ack q c below ms m')
        (call_of : (past' : List Item) → Dispatches job h past' ack q c below m' → CallAt job h past' ack q c below m') where
      end_to : Row (BackEnd c.call (record { 0 = u })) c.call.task.0 (task n gone acts cs (c ∷ below) w m')
      end_to =
          let d : Dispatches job h past ack q c below (Ending u) = k.calls.1 in
          let item : Item = BackEnd c.call (record { 0 = u }) in
          let under : List Frame = plain_stack job false (under_call c below) below in
          let at : PlainTask = record k.run.at { stack = frame_of c Dispatch ∷ under } in
          let f = follows job past item t k.run.at at (λ v. refl) runs k.run.is (reads-back_end (done past) k.run.at under u k.run.fresh k.run.stack) (of_exits k.miss) in
          let same : visits job c.call (item ∷ past) ≡ visits job c.call past = visits-more job c.call item past refl in
          let ranis : RanIs job (item ∷ past) c = InWindow-more c.call item past _ refl d.at.0 in
          let dispatch = dispatch_on (Ending u) m' c item k refl d (λ v. watch v)
          (subst (λ (ms : List Visit). DispatchAt job h (item ∷ past) ack q c below ms m') (sym same)
          (at_of (item ∷ past) (visits job c.call past) ranis d.at.1)) in (
            f.0,
            mid_kept job h ack word t past (item ∷ past) n n gone acts cs w (c ∷ below) (Ending u) m' c below refl quiet k false at f.1 k.run.next
                (ap (λ (p : Phase). frame_of c p ∷ under) (sym (phase false))) refl refl refl refl
                (ended-own c.call u (callbacks past) ∙ rw k.opens (rw (same_call-refl c.call, ==-refl u) (sym (none _)))) (rw (==-refl t) (sym miss)) k.few
                (ap (λ (b : Bool). open_by b (c ∷ below)) stays) k.grounded (
                  opened_carried job h past (item ∷ past) (begun-more item past) (omega arith) t c (untouched-item job c.call past item refl) k.calls.0,
                  call_of (item ∷ past) dispatch,
                  below-on (Ending u) k item (λ d' e'. refl),
                ),
          )

  pub refuse_row : (n gone : ℕ) (acts : List TaskAct) (cs : List Ctx) (w : ℕ) (c : OpenCall) (below : List OpenCall) (u reg : ℕ) (reason : Reason) (r : Ran)
      → TaskRule job h past ack word c.call.task.0 (task n gone acts cs (record c { ran = r } ∷ below) w (Refusing u reg reason))
      → Row (Refuse c.call (record { 0 = u }) reason) c.call.task.0 (task n gone acts cs (record c { ran = r } ∷ below) w (after_user r u))
  refuse_row n gone acts cs w c below u reg reason ByList k =
      refused_to n gone acts cs w (record c { ran = ByList }) below u reg reason (AtLink u) k refl refl (λ f. refl) (λ rest. refl) refl
      (λ b v ne le. takes_list u v b.0 ne le) (λ past' ms ranis b. (ranis, b, refl)) (λ past' d. d)
  refuse_row n gone acts cs w c below u reg reason (Own v) k =
      refused_to n gone acts cs w (record c { ran = Own v }) below u reg reason Closing k refl refl (λ f. refl) (λ rest. refl) refl
      (λ b x ne le. ne_own u x v.0 b.0 ne) (λ past' ms ranis b. (ranis, Each-weaker (λ m. m.user ≡ u) (λ m. m.user ≡ v.0) ms (λ m e. e ∙ b.0) b.1))
      (λ past' d. d)
  refuse_row n gone acts cs w c below u reg reason Nop k = absurd k.calls.1.at.1

  pub end_row : (n gone : ℕ) (acts : List TaskAct) (cs : List Ctx) (w : ℕ) (c : OpenCall) (below : List OpenCall) (u : ℕ) (r : Ran)
      → TaskRule job h past ack word c.call.task.0 (task n gone acts cs (record c { ran = r } ∷ below) w (Ending u))
      → Row (BackEnd c.call (record { 0 = u })) c.call.task.0 (task n gone acts cs (record c { ran = r } ∷ below) w (after_user r u))
  end_row n gone acts cs w c below u ByList k =
      end_to n gone acts cs w (record c { ran = ByList }) below u (AtLink u) k refl refl (λ f. refl) (λ rest. refl) refl (λ v. refl)
      (λ past' ms ranis b. (ranis, b, refl)) (λ past' d. d)
  end_row n gone acts cs w c below u (Own v) k =
      end_to n gone acts cs w (record c { ran = Own v }) below u Closing k refl refl (λ f. refl) (λ rest. refl) refl (λ v. refl)
      (λ past' ms ranis b. (ranis, Each-weaker (λ m. m.user ≡ u) (λ m. m.user ≡ v.0) ms (λ m e. e ∙ b.0) b.1)) (λ past' d. d)
  end_row n gone acts cs w c below u Nop k = absurd k.calls.1.at.1
