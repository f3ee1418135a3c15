-- One step of a task: whichever row it is, the rule of the task goes on.
use Rattle.std.proofs.Common.{cond, ◌≡◌, ℕ, suc, ◌+◌, ◌/◌, ◌<◌, ◌≤◌, Bool, true, false, ◌||◌, ◌==◌, nat_le, List, [], ◌∷◌, length, Some, refl, sym, ap, ◌∙◌, subst, arith, not}
use Rattle.std.proofs.lemmas.Option.{same_Some}
use Rattle.ft_base.specs.declared.context.Ctx.{Ctx}
use Rattle.ft_base.specs.declared.item.Item.{Item}
use Rattle.ft_base.specs.declared.item.Item.TheVariants.{Leave}
use Rattle.ft_base.specs.declared.task.TaskAct.{TaskAct}
use Rattle.ft_base.specs.declared.task.TaskAct.TheVariants.{Call, Ret as RetAct, Raise, Lower, After}
use Rattle.ft_base.specs.Job.{Job}
use Rattle.ft_base.proofs.Small.{false_true}
use Rattle.ft_hist.specs.Past.{is_of, done}
use Rattle.ft_hist.specs.Rules.{MayFollow}
use Rattle.site_bytes.specs.Bytes.{breakpoint}
use Rattle.word_map.specs.Words.{Words}
use Rattle.word_map.specs.Contents.{low, greatest_half, half_size, halves, returned_at, stands, sel_on, sel_empty, is_marked, high, tramp_user}
use Rattle.word_map.specs.Instructions.{decode}
use Rattle.word_map.specs.Ops.{WordOp, Load, Store, Mark}
use Rattle.word_machine.specs.Task.{around, OpenCall, TaskState, Moment, Polling, First, Fetch, GotHead, GotBreak, InTramp, OwnSel, AtFirst, TestSel, TestFilter, TestNotrace, AtPids, AtDepth, Refusing, Calling, Missing, Acting, Ending, AtLink, Closing, Leaving, AtExit, Exiting, EndingExit, Returning, call_op, call_got, task_op, task_got, first_op, first_got, stack_op, stack_got, head_in, level_of, fetched, fetched_ran, begin_call, walks_to, tests_in, guard_test, is_too_deep, exit_in, is_asked, owned_in}
use Rattle.word_machine.specs.Machine.{World, taken}
use Rattle.word_machine.specs.Progress.{underway}
use Rattle.word_machine.specs.Verdicts.{Here, Dispatches}
use Rattle.word_machine.specs.Tasks.{TaskRule}
use Rattle.word_machine.specs.Rule.{MachineRule, here, IsWordJob}
use Rattle.word_machine_laws.proofs.LoadFetch.{head_kept, tail_kept, next_kept}
use Rattle.word_machine_laws.proofs.LoadTests.{pids_kept, depth_kept, filter_kept, notrace_kept}
use Rattle.word_machine_laws.proofs.LoadOwn.{own_kept}
use Rattle.word_machine_laws.proofs.PlainUsers.{owned_kept, plain_walk}
use Rattle.word_machine_laws.proofs.LoadList.{first_kept, link_kept}
use Rattle.word_machine_laws.proofs.LoadReturn.{exit_kept}
use Rattle.word_machine_laws.proofs.LoadMoments.{task_goes, alike, alike-back, call_at, is_walking, running, begin-walks, guard-walks, head-walks, fetched-walks, own-walks, owned-walks, name-walks, tests-walk, passes-walk, allowed-walks, depth-walks, exit-leaves}
use Rattle.word_machine_laws.proofs.MarkDispatch.{task, refuse_row, back_row, miss_row, end_row}
use Rattle.word_machine_laws.proofs.MarkEnter.{enter_row, act_row}
use Rattle.word_machine_laws.proofs.MarkBody.{body_row}
use Rattle.word_machine_laws.proofs.MarkReturn.{leave_row, leave_act_row, exit_row, exit_end_row, ret_row, polling_stack, polling_callbacks, polling_calls}
use Rattle.ft_base.specs.declared.item.Ran.{Ran}
use Rattle.ft_base.specs.declared.item.Ran.TheVariants.{Own}
use Rattle.word_machine.proofs.Small.{if_case}
use Rattle.ft_hist.specs.Dispatch.{is_full}
use Rattle.ft_base.specs.Kinds.{has_depth}
use Rattle.ft_base.specs.Desk.{spec_at}
use Rattle.ft_base.specs.Tasks.{has_acts}
use Rattle.word_machine_laws.proofs.PollWords.{told-fewer}

-- a clock tells how many commands have returned
pub clock-returned : (d x len clock : ℕ) → (x ≡ d) → (b : Bool) → clock ≡ halves (x + cond b (suc d) d) len → len < half_size → returned_at clock ≡ d
clock-returned d x len clock e true c lt = omega (arith, c, e)
clock-returned d x len clock e false c lt = omega (arith, c, e)

module _ (job : Job) (ok : IsWordJob job) (s : World) (k : MachineRule job s) (c0 : ℕ) (t word : ℕ) where
  abbrev pub h : Here
  h = here s k.base

  abbrev past : List Item
  past = s.past

  abbrev ws : Words
  ws = s.words

  abbrev pub ack : ℕ
  ack = s.words.ack c0

  -- ## an `after`

  pub returned-is : returned_at ws.clock ≡ s.control.commands_done
  returned-is = clock-returned s.control.commands_done (done past) (length past) ws.clock k.counts.returned (underway s.control.position)
      (subst (λ (n : ℕ). ws.clock ≡ halves (done past + n) (length past)) k.counts.started k.counts.clock') k.counts.room

  -- a wait of the task is met, or is tried again after a poll
  after_row : (n gone m : ℕ) (rest : List TaskAct) (cs : List Ctx) (w : ℕ) (stack : List OpenCall)
      → TaskRule job h past ack word t (task n gone (After m ∷ rest) cs stack w First)
      → TaskRule job h past ack word t (cond (nat_le m (returned_at ws.clock)) (task n (suc gone) rest cs stack w Polling)
      (task n gone (After m ∷ rest) cs stack w Polling))
  after_row n gone m rest cs w stack x = by (nat_le m (returned_at ws.clock)) refl
    where
      by : (b : Bool) → nat_le m (returned_at ws.clock) ≡ b
          → TaskRule job h past ack word t (cond b (task n (suc gone) rest cs stack w Polling) (task n gone (After m ∷ rest) cs stack w Polling))
      by true e =
          let met : nat_le m (done past) ≡ true = ap (λ (j : ℕ). nat_le m j) (k.counts.returned ∙ sym returned-is) ∙ e in
          record {
            word' = x.word';
            gone = (let g = x.gone in omega (arith, g));
            total = (let e = x.total in omega (arith, e));
            quiet = told-fewer h.request true (has_acts rest) greatest_half (low word) refl x.quiet;
            first = tt;
            reached = x.reached;
            stands = tt;
            grounded = x.grounded;
            run = record {
              fresh = false;
              at = x.run.at;
              is = x.run.is;
              next = x.run.next;
              stack = x.run.stack ∙ polling_stack job x.run.fresh stack;
              ahead = x.run.ahead ∙ rw met refl;
              counted = λ e. false_true (sym e);
            };
            opens = x.opens ∙ polling_callbacks stack;
            miss = x.miss;
            few = x.few;
            script = x.script;
            calls = polling_calls job h past ack (low word) t stack x.calls;
          }
      by false e = record {
        word' = x.word';
        gone = x.gone;
        total = x.total;
        quiet = x.quiet;
        first = tt;
        reached = x.reached;
        stands = tt;
        grounded = x.grounded;
        run = record {
          fresh = false;
          at = x.run.at;
          is = x.run.is;
          next = x.run.next;
          stack = x.run.stack ∙ polling_stack job x.run.fresh stack;
          ahead = x.run.ahead;
          counted = λ e. false_true (sym e);
        };
        opens = x.opens ∙ polling_callbacks stack;
        miss = x.miss;
        few = x.few;
        script = x.script;
        calls = polling_calls job h past ack (low word) t stack x.calls;
      }

-- ## a step of the top call

level-below : (c : OpenCall) (below : List OpenCall) → level_of below ≤ level_of (c ∷ below)
level-below c below = if_case (λ n. level_of below ≤ n) c.framed (suc (level_of below)) (level_of below) (λ e. omega arith) (λ e. omega arith)

module _ (job : Job) (ok : IsWordJob job) (s : World) (k : MachineRule job s) (ack word : ℕ) (acked : ack ≤ s.control.request)
    (n gone : ℕ) (acts : List TaskAct) (cs : List Ctx) (w : ℕ) (c : OpenCall) (below : List OpenCall) (within : c.call.task.0 < length job.tasks) where
  abbrev h' : Here
  h' = here s k.base

  abbrev past' : List Item
  past' = s.past

  abbrev ws' : Words
  ws' = s.words

  abbrev pub t' : ℕ
  t' = c.call.task.0

  abbrev x' : Moment → TaskState
  x' m = task n gone acts cs (c ∷ below) w m

  abbrev KK : Moment → Type 0
  KK m = TaskRule job h' past' ack word t' (x' m)

  abbrev pub By : WordOp → TaskState → Type 0
  By (Load l) x = TaskRule job h' past' ack word t' x
  By (Store l y) x = ⊥
  By (Mark item) x = (MayFollow job past' item × TaskRule job h' (item ∷ past') ack word t' x) × ((u : ℕ) → is_of u item ≡ (t' == u))

  abbrev Goes : Moment → WordOp → Type 0
  Goes m op = By op (call_got job (x' m) c below m (taken op ws'))

  is-op : (m : Moment) (op op' : WordOp) → Some op ≡ Some op' → Goes m op → Goes m op'
  is-op m op op' e x = subst (λ o. Goes m o) (same_Some op op' e) x

  -- the top call is at another moment of its dispatch, and perhaps something else runs
  goes : (m m' : Moment) (r : Ran) → is_walking m ≡ true → is_walking m' ≡ true → KK m → Dispatches job h' past' ack (low word) (running c r) below m'
      → TaskRule job h' past' ack word t' (task n gone acts cs (running c r ∷ below) w m')
  goes m m' r e e' x d = task_goes job h' past' ack word t' n acts gone cs c below w m m' r (alike m m' e e')
      (call_at job h' past' ack (low word) (running c r) below m' e' d) x

  pub call_step : (m : Moment) → KK m → (op : WordOp) → call_op (x' m) c below m ≡ Some op → Goes m op
  call_step Polling x op is = absurd cc
  call_step First x op is = absurd cc
  call_step Fetch x op is = is-op Fetch _ op is
      (let v : ℕ = ws'.head c.func in goes Fetch (head_in (v == breakpoint) v) c.ran refl (head-walks (v == breakpoint) v) x
      (head_kept job ok h' past' ws'.clock k.counts ack (low word) c below ws'.want ws'.head ws'.tail ws'.next k.sites x.calls.0.inside acked x.calls.1))
  call_step (GotHead byte) x op is = is-op (GotHead byte) _ op is
      (let i : ℕ = decode c.func byte (ws'.tail c.func) in goes (GotHead byte) (fetched i) (fetched_ran i) refl (fetched-walks i) x
      (tail_kept job ok h' past' ws'.clock k.counts ack (low word) c below ws'.want ws'.head ws'.tail ws'.next k.sites x.calls.0.inside byte x.calls.1))
  call_step GotBreak x op is = is-op GotBreak _ op is
      (let i : ℕ = ws'.next c.func in goes GotBreak (fetched i) (fetched_ran i) refl (fetched-walks i) x
      (next_kept job ok h' past' ws'.clock k.counts ack (low word) c below ws'.want ws'.head ws'.tail ws'.next k.sites x.calls.0.inside x.calls.1))
  call_step (InTramp slot) x op is = is-op (InTramp slot) _ op is
      (let v : ℕ = ws'.tramp slot in let u : ℕ = tramp_user v in
      goes (InTramp slot) (owned_in (is_asked job u) u (high v) (begin_call job c below u (high v))) (Own (record { 0 = u })) refl
      (owned-walks (is_asked job u) u (high v) (begin_call job c below u (high v)) (begin-walks job c below u (high v))) x
      (owned_kept job ok h' past' ws'.clock k.counts ack (low word) c below slot t' ws'.tramp k.tramps x.reached x.calls.1))
  call_step (OwnSel u reg) x op is = is-op (OwnSel u reg) _ op is
      (goes (OwnSel u reg) _ c.ran refl (own-walks (stands (ws'.sel u) reg) (begin_call job c below u reg) (begin-walks job c below u reg)) x
      (own_kept job ok h' past' ws'.clock k.counts ack (low word) c below u reg ws'.sel k.sets x.calls.1))
  call_step AtFirst x op is = is-op AtFirst _ op is
      (goes AtFirst (walks_to ws'.first) c.ran refl (name-walks ws'.first) x
      (first_kept job ok h' past' ws'.clock k.counts ack (low word) c below ws'.first k.list x.calls.1))
  call_step (TestSel u) x op is = is-op (TestSel u) _ op is
      (let v : ℕ = ws'.sel u in let on : Bool = not (is_asked job u) || sel_on v in
      goes (TestSel u) (tests_in on (sel_empty v) u v) c.ran refl (tests-walk on (sel_empty v) u v) x
      (let y = x.calls.1 in plain_walk job ok h' past' ws'.clock k.counts ack (low word) c below
      (TestSel u) y u y.at.0 y.at.1 y.so.watch ws'.first ws'.link ws'.sel k.list k.sets y.at.2))
  call_step (TestFilter u copy reg) x op is = is-op (TestFilter u copy reg) _ op is
      (goes (TestFilter u copy reg) _ c.ran refl (passes-walk (is_marked (ws'.bits u copy 0 (c.func / 64)) c.func) u (TestNotrace u copy reg) refl) x
      (let y = x.calls.1 in filter_kept job ok h' past' ws'.clock k.counts ack (low word) c below
      (TestFilter u copy reg) y u reg y.at.0 y.at.1 y.so.watch copy x.calls.0.inside y.at.2 y.at.3 y.at.4))
  call_step (TestNotrace u copy reg) x op is = is-op (TestNotrace u copy reg) _ op is
      (goes (TestNotrace u copy reg) _ c.ran refl (passes-walk (not (is_marked (ws'.bits u copy 1 (c.func / 64)) c.func)) u (begin_call job c below u reg)
      (begin-walks job c below u reg)) x
      (let y = x.calls.1 in notrace_kept job ok h' past' ws'.clock k.counts ack (low word) c below
      (TestNotrace u copy reg) y u reg y.at.0 y.at.1 y.so.watch copy x.calls.0.inside y.at.2 y.at.3))
  call_step (AtPids u reg) x op is = is-op (AtPids u reg) _ op is
      (goes (AtPids u reg) _ c.ran refl (allowed-walks (is_marked ws'.pids c.call.task.0) u reg (guard_test job c below u reg)
      (guard-walks (is_full job (around c below).guards c.ctx) (has_depth (spec_at job u).kind) u reg)) x
      (let y = x.calls.1 in pids_kept job ok h' past' ws'.clock k.counts ack (low word) c below
      (AtPids u reg) y u reg y.at.0 y.at.1 y.so.watch ws'.pids ws'.depth k.limits ok.tasks
      within y.at.2 y.at.3))
  call_step (AtDepth u reg) x op is = is-op (AtDepth u reg) _ op is
      (goes (AtDepth u reg) _ c.ran refl (depth-walks (is_too_deep job.frames ws'.depth (level_of below)) u reg) x
      (let y = x.calls.1 in depth_kept job ok h' past' ws'.clock k.counts ack (low word) c below
      (AtDepth u reg) y u reg y.at.0 y.at.1 y.so.watch ws'.pids ws'.depth k.limits
      (let few = x.few in let lb = level-below c below in omega (arith, few, lb)) y.at.2 y.at.3 y.at.4 y.at.5))
  call_step (Refusing u reg reason) x op is = is-op (Refusing u reg reason) _ op is
      (refuse_row job ok h' ack word ws'.clock past' k.counts k.legal k.runs k.list.order' n gone acts cs w c below u reg reason c.ran x, (λ v. refl))
  call_step (Calling u reg) x op is = is-op (Calling u reg) _ op is
      (back_row job ok h' ack word ws'.clock past' k.counts k.legal k.runs k.list.order' n gone acts cs w c below u reg x, (λ v. refl))
  call_step (Missing u) x op is = is-op (Missing u) _ op is
      (miss_row job ok h' ack word ws'.clock past' k.counts k.legal k.runs k.list.order' n gone acts cs w c below u x, (λ v. refl))
  call_step (Acting u o) x op is = is-op (Acting u o) _ op is (
    act_row job h' ack word ws'.clock past' k.counts k.runs ok n gone acts cs w c below u o x,
    (λ v. refl),
  )
  call_step (Ending u) x op is = is-op (Ending u) _ op is
      (end_row job ok h' ack word ws'.clock past' k.counts k.legal k.runs k.list.order' n gone acts cs w c below u c.ran x, (λ v. refl))
  call_step (AtLink u) x op is = is-op (AtLink u) _ op is
      (goes (AtLink u) (walks_to (ws'.link u)) c.ran refl (name-walks (ws'.link u)) x
      (link_kept job ok h' past' ws'.clock k.counts ack (low word) c below u ws'.first k.list x.calls.1))
  call_step Closing x op is = is-op Closing _ op is (body_row job ok h' ack word ws'.clock past' k.counts k.runs n gone acts cs w c below x, (λ v. refl))
  call_step Leaving x op is = is-op Leaving _ op is (leave_act_row job h' ack word ws'.clock past' k.counts k.runs n gone acts cs w c below x, (λ v. refl))
  call_step (AtExit m rest) x op is = is-op (AtExit m rest) _ op is
      (let b : Bool = stands (ws'.sel m.user) m.reg in
      task_goes job h' past' ack word t' n acts gone cs c below w (AtExit m rest) (exit_in b m rest) c.ran
      (alike-back (AtExit m rest) (exit_in b m rest) refl (exit-leaves b m rest))
      (exit_kept job ok h' past' ws'.clock k.counts ack (low word) c below m rest ws'.sel k.sets x.calls.1) x)
  call_step (Exiting m rest) x op is = is-op (Exiting m rest) _ op is
      (exit_row job h' ack word ws'.clock past' k.counts k.runs n gone acts cs w c below m rest x, (λ v. refl))
  call_step (EndingExit m rest) x op is = is-op (EndingExit m rest) _ op is
      (exit_end_row job h' ack word ws'.clock past' k.counts k.runs n gone acts cs w c below m rest x, (λ v. refl))
  call_step Returning x op is = is-op Returning _ op is (ret_row job h' ack word ws'.clock past' k.counts k.runs n gone acts cs w c below x, (λ v. refl))

-- ## any step

-- what a step of task v comes to
abbrev pub SteppedBy : (job : Job) → Here → List Item → ℕ → ℕ → ℕ → WordOp → TaskState → Type 0
SteppedBy job h before acked word v (Load w) x = TaskRule job h before acked word v x
SteppedBy job h before acked word v (Store w y) x = ⊥
SteppedBy job h before acked word v (Mark item) x = (MayFollow job before item × TaskRule job h (item ∷ before) acked word v x)
    × ((u : ℕ) → is_of u item ≡ (v == u))

-- before a poll
abbrev pub is_polling : Moment → Bool
is_polling Polling = true
is_polling _ = false

module _ (job : Job) (ok : IsWordJob job) (s : World) (k : MachineRule job s) (c0 word : ℕ) (acked : s.words.ack c0 ≤ s.control.request) (t : ℕ)
    (within : t < length job.tasks) where
  abbrev S : WordOp → TaskState → Type 0
  S op x = SteppedBy job (here s k.base) s.past (s.words.ack c0) word t op x

  abbrev T : TaskState → Type 0
  T x = TaskRule job (here s k.base) s.past (s.words.ack c0) word t x

  first_step : (n gone : ℕ) (acts : List TaskAct) (cs : List Ctx) (w : ℕ) (stack : List OpenCall) → T (task n gone acts cs stack w First) → (op : WordOp)
      → first_op t (task n gone acts cs stack w First) acts stack ≡ Some op
      → S op (first_got t (task n gone acts cs stack w First) acts stack (taken op s.words))
  first_step n gone [] cs w stack x op is = absurd cc
  first_step n gone (Raise c ∷ rest) cs w stack x op is = absurd cc
  first_step n gone (Lower ∷ rest) cs w stack x op is = absurd cc
  first_step n gone (Call f ∷ rest) cs w stack x op is =
      subst (λ o. S o (first_got t (task n gone (Call f ∷ rest) cs stack w First) (Call f ∷ rest) stack (taken o s.words))) (same_Some _ op is)
      (enter_row job (here s k.base) (s.words.ack c0) word s.words.clock s.past k.counts k.runs t n gone f.0 rest cs w stack x, (λ v. refl))
  first_step n gone (RetAct ∷ rest) cs w [] x op is = absurd cc
  first_step n gone (RetAct ∷ rest) cs w (c ∷ below) x op is =
      subst (λ o. S o (first_got t (task n gone (RetAct ∷ rest) cs (c ∷ below) w First) (RetAct ∷ rest) (c ∷ below) (taken o s.words))) (same_Some _ op is)
      (subst (λ v. TaskRule job (here s k.base) s.past (s.words.ack c0) word v (task n gone (RetAct ∷ rest) cs (c ∷ below) w First)
      → SteppedBy job (here s k.base) s.past (s.words.ack c0) word v (Mark (Leave c.call))
      (first_got t (task n gone (RetAct ∷ rest) cs (c ∷ below) w First) (RetAct ∷ rest) (c ∷ below) s.words.clock))
      x.calls.0.task (λ y. (
        leave_row job (here s k.base) (s.words.ack c0) word s.words.clock s.past k.counts k.runs n gone
            (RetAct ∷ rest) cs w c below rest y,
        (λ v. refl),
      )) x)
  first_step n gone (After m ∷ rest) cs w stack x op is =
      subst (λ o. S o (first_got t (task n gone (After m ∷ rest) cs stack w First) (After m ∷ rest) stack (taken o s.words))) (same_Some _ op is)
      (after_row job ok s k c0 t word n gone m rest cs w stack x)

  stack_step : (n gone : ℕ) (acts : List TaskAct) (cs : List Ctx) (w : ℕ) (stack : List OpenCall) (m : Moment) → T (task n gone acts cs stack w m) → (op : WordOp)
      → stack_op (task n gone acts cs stack w m) stack m ≡ Some op → S op (stack_got job (task n gone acts cs stack w m) stack m (taken op s.words))
  stack_step n gone acts cs w [] m x op is = absurd cc
  stack_step n gone acts cs w (c ∷ below) m x op is =
      subst (λ v. v < length job.tasks → TaskRule job (here s k.base) s.past (s.words.ack c0) word v (task n gone acts cs (c ∷ below) w m)
      → SteppedBy job (here s k.base) s.past (s.words.ack c0) word v op (call_got job (task n gone acts cs (c ∷ below) w m) c below m (taken op s.words)))
      x.calls.0.task (λ lt y. stepped op (call_step job ok s k (s.words.ack c0) word acked n gone acts cs w c below lt m y op is)) within x
    where
      stepped : (op : WordOp) → By job ok s k (s.words.ack c0) word acked n gone acts cs w c below
          (subst (λ v. v < length job.tasks) (sym x.calls.0.task) within) op (call_got job (task n gone acts cs (c ∷ below) w m) c below m (taken op s.words))
          → SteppedBy job (here s k.base) s.past (s.words.ack c0) word c.call.task.0 op
          (call_got job (task n gone acts cs (c ∷ below) w m) c below m (taken op s.words))
      stepped (Load l) y = y
      stepped (Store l v) y = y
      stepped (Mark item) y = y

  pub task_step : (n gone : ℕ) (acts : List TaskAct) (cs : List Ctx) (w : ℕ) (stack : List OpenCall) (m : Moment) → T (task n gone acts cs stack w m)
      → is_polling m ≡ false → (op : WordOp)
      → task_op t (task n gone acts cs stack w m) m ≡ Some op → S op (task_got job t (task n gone acts cs stack w m) m (taken op s.words))
  task_step n gone acts cs w stack Polling x poll op is = false_true (sym poll)
  task_step n gone acts cs w stack First x poll op is = first_step n gone acts cs w stack x op is
  task_step n gone acts cs w stack m x poll op is = stack_step n gone acts cs w stack m x op is
